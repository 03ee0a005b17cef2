-- What a run has heard, with a line or some bytes more.
use Rattle.std.proofs.Common.{◌≡◌, ◌≢◌, ℕ, ◌+◌, ◌-◌, ◌^◌, ◌<◌, ◌≤◌, ◌⊎◌, Bool, true, false, not, eqb, ◌&&◌, [], ◌∷◌, ◌++◌, length, take, drop, Option, Some, None, refl, sym, ap, ◌∙◌, subst, inl, inr, arith, append-nil, append_assoc, length-append, length-drop, length-take}
use Rattle.std.specs.Option.{option_to_list}
use Rattle.std.proofs.lemmas.Bool.{eqb-true}
use Rattle.std.proofs.lemmas.List.Elements.{All-nil}
use Rattle.std.proofs.lemmas.Grind.{common_steps}
use Rattle.std.proofs.lemmas.List.{take-append-drop}
use Rattle.std.proofs.Math.Seq.{take-length}
use Rattle.command_text.specs.Cutting.{Cutting, Feeds, IsWholeLine, fresh, ended_line, rest_of}
use Rattle.command_text.proofs.FeedLemmas.{lines_of_none, whole_lines_of_part}
use Rattle.house_base.specs.declared.answer.Reason.{Reason}
use Rattle.house_base.specs.declared.answer.Took.{Took}
use Rattle.house_base.specs.declared.phase.Phase.{Phase}
use Rattle.house_core.specs.House.{IsStep}
use Rattle.input_run.specs.declared.line_run.LineRun.{LineRun}
use Rattle.input_run.specs.Kept.{HasTaken}
use Rattle.house_core.specs.declared.step.Step.TheVariants as step
use Rattle.house_core.proofs.EndingLemmas.{in_force_all}
use Rattle.house_base.specs.Text.{Text}
use Rattle.house_model.specs.declared.goal.Goal.{Goal}
use Rattle.house_model.specs.declared.limits.TheConstants.{MOST_BYTES, MOST_LINES}
use Rattle.house_model.specs.declared.verb.Verb.TheVariants as verb
use Rattle.house_model.specs.Ending.{Halt, stop_of, in_force}
use Rattle.house_model.specs.Heard.{is_over, whole_lines}
use Rattle.house_model.specs.Reviews.{is_before_assignment}
use Rattle.house_model.specs.Runs.{halt, settles, looked_at}
use Rattle.house_model.specs.Said.{has, phase_after}
use Rattle.house_model.specs.Text.{Lines, lines}
use Rattle.house_model.proofs.LateLineLemmas.{before-assign}
use Rattle.input_run.specs.declared.hearing.Hearing.{Hearing}
use Rattle.input_run.specs.declared.hearing.Progress.{Progress}
use Rattle.input_run.specs.declared.hearing.Progress.TheVariants as progress
use Rattle.input_run.specs.declared.line_run.Taken.{Taken}
use Rattle.input_run.specs.declared.line_run.Taken.TheVariants as taken_line
use Rattle.input_run.specs.Hearing.{Advances, EndsWith, GoOn, HasEnded, HasHeard, HasLines, HasOpened, HearsPiece, IsCut, IsFull, TakesLine, TellsEnd, progress_of}
use Rattle.input_run.proofs.CutLemmas.{cut-none, cut-same, cut-more, whole-more, lines-cut, rest-le, used_within, none_begun}
use Rattle.input_run.proofs.EndLemmas.{ends_by_goal, ends_by_stop, looked-all, looked-more, stopped_before}
use Rattle.input_run.proofs.LineLemmas.{is_feed}
use Rattle.input_run.proofs.FrontLemmas.{whole-few, within-from, within-limits}
use Rattle.input_run.proofs.TellLemmas.{tells_all}

-- no line ends a run
pub go_on-none : (g : Goal) → GoOn g []
unfolding stop_of has
go_on-none g = record { unstopped = refl; unsettled = none (settles g) } where
  none : (b : Bool) → (b && false) ≡ false
  none true = refl
  none false = refl

no_lines : whole_lines [] ≡ []
no_lines = whole_lines_of_part [] (All-nil (λ byte. is_feed byte ≡ false))

pub nothing_heard : (g : Goal) (opening : Lines) (run : LineRun) (cutter : Cutting) → HasOpened g opening run → cutter ≡ fresh →
    HasHeard g opening [] (record { goal = g; run = run; cutter = cutter; bytes = 0; lines = 0 })
nothing_heard g opening run cutter opened none =
    let same : opening ++ whole_lines [] ≡ opening = ap (λ ls. opening ++ ls) no_lines ∙ append-nil opening in
    record {
      goal = refl;
      taken = subst (λ ls. HasTaken g ls run) (sym same) opened.taken;
      few = opened.few;
      cut = subst (IsCut []) (sym none) cut-none;
      go_on = subst (GoOn g) (sym same) opened.go_on;
      bytes_counted = refl;
      lines_counted = sym (ap length no_lines);
      within = within-from [] (omega arith) (omega (arith, ap length (lines_of_none [] refl)));
    }

-- whether an assignment was accepted, by the phase
pub settled_by_phase : (g : Goal) (lines : Lines) (p : Phase) → p ≡ phase_after lines → (settles g && not (is_before_assignment p)) ≡ (settles g && has verb.Assign lines)
settled_by_phase g lines p is = ap (λ b. settles g && not b) (ap is_before_assignment is ∙ before-assign lines) ∙ ap (λ b. settles g && b) (twice (has verb.Assign lines)) where
  twice : (b : Bool) → not (not b) ≡ b
  twice true = refl
  twice false = refl

pub going_unstopped : (stop : Option (ℕ × Halt)) (took answer : Took) → IsStep stop took (step.Going answer) → stop ≡ None
going_unstopped None took answer h = refl
going_unstopped (Some at) took answer h = absurd h

-- what became of a line after which the run goes on
pub line_took : (stop : Option (ℕ × Halt)) (took answer : Took) → IsStep stop took (step.Going answer) → answer ≡ took
line_took None took answer h = h
line_took (Some at) took answer h = absurd h

-- a line after which the run goes on
pub line_goes_on : (g : Goal) (so_far : Lines) (x : Text) (took answer : Took) → GoOn g so_far → IsStep (stop_of (halt g) (so_far ++ x ∷ [])) took (step.Going answer) →
    false ≡ (settles g && has verb.Assign (in_force (halt g) (so_far ++ x ∷ []))) → GoOn g (so_far ++ x ∷ [])
line_goes_on g so_far x took answer go is open_still =
    let none = going_unstopped (stop_of (halt g) (so_far ++ x ∷ [])) took answer is in
    record { unstopped = none; unsettled = sym (open_still ∙ ap (λ ls. settles g && has verb.Assign ls) (in_force_all (halt g) (so_far ++ x ∷ []) none)) }

-- a line that reaches the goal
pub line_settles : (g : Goal) (so_far : Lines) (x : Text) (took answer : Took) (run : LineRun) → GoOn g so_far → HasTaken g (so_far ++ x ∷ []) run →
    IsStep (stop_of (halt g) (so_far ++ x ∷ [])) took (step.Going answer) → true ≡ (settles g && has verb.Assign (in_force (halt g) (so_far ++ x ∷ []))) → EndsWith g (so_far ++ x ∷ []) run
line_settles g so_far x took answer run go taken is settled =
    let none = going_unstopped (stop_of (halt g) (so_far ++ x ∷ [])) took answer is in
    record {
      taken = taken;
      ends = ends_by_goal g (so_far ++ x ∷ []) (sym (settled ∙ ap (λ ls. settles g && has verb.Assign ls) (in_force_all (halt g) (so_far ++ x ∷ []) none)));
      looked = looked-more g so_far x go.unsettled;
      clear = inl none;
    }

-- a line that stops the run
pub line_stops : (g : Goal) (so_far : Lines) (x : Text) (run : LineRun) → GoOn g so_far → HasTaken g (so_far ++ x ∷ []) run → (t : ℕ × Halt) × (stop_of (halt g) (so_far ++ x ∷ []) ≡ Some t) →
    EndsWith g (so_far ++ x ∷ []) run
line_stops g so_far x run go taken (t, stop) =
    let all = looked-more g so_far x go.unsettled in
    record {
      taken = taken;
      ends = ends_by_stop g (so_far ++ x ∷ []) t all stop;
      looked = all;
      clear = inr (ap (λ ls. settles g && has verb.Assign ls) (stopped_before g so_far x t go.unstopped stop) ∙ go.unsettled);
    }

pub refused_stops : (stop : Option (ℕ × Halt)) (took : Took) (line : ℕ) (reason : Reason) → IsStep stop took (step.Refused line reason) → (t : ℕ × Halt) × (stop ≡ Some t)
refused_stops None took line reason h = absurd h
refused_stops (Some at) took line reason h = (at, refl)

pub short_stops : (stop : Option (ℕ × Halt)) (took : Took) → IsStep stop took step.Short → (t : ℕ × Halt) × (stop ≡ Some t)
short_stops None took h = absurd h
short_stops (Some at) took h = (at, refl)

-- opening lines, and behind them lines within the limits, can be counted
pub countable : (opening : Lines) (bytes : Text) → length opening + MOST_LINES < 2 ^ 64 - 1 → is_over bytes ≡ false → length (opening ++ whole_lines bytes) < 2 ^ 64 - 1
countable opening bytes few within = omega (arith, length-append opening (whole_lines bytes), whole-few bytes within)

length_taken : (heard piece : Text) (used : ℕ) → used ≤ length piece → length (heard ++ take used piece) ≡ length heard + used
length_taken heard piece used within = omega (arith, length-append heard (take used piece), length-take used piece)

-- some bytes more, behind which no line has ended
pub heard_more : (g : Goal) (opening : Lines) (heard piece : Text) (old : Hearing) (cutter : Cutting) (used : ℕ) (whole : Bool) → HasHeard g opening heard old → Feeds old.cutter piece used whole cutter →
    ended_line cutter ≡ None → old.bytes + length piece ≤ MOST_BYTES → old.lines < MOST_LINES →
    HasHeard g opening (heard ++ take used piece) (record { goal = old.goal; run = old.run; cutter = cutter; bytes = old.bytes + used; lines = old.lines })
heard_more g opening heard piece old cutter used whole hears feeds none room few =
    let bytes = heard ++ take used piece in
    let within = used_within old.cutter piece used whole cutter feeds in
    let cut = cut-more heard piece old.cutter cutter used whole hears.cut feeds in
    let same : whole_lines bytes ≡ whole_lines heard = whole-more heard piece old.cutter cutter used whole hears.cut feeds ∙ ap (λ l. whole_lines heard ++ option_to_list l) none ∙ append-nil (whole_lines heard) in
    let count = length_taken heard piece used within in
    let count_lines : length (lines bytes) ≡ length (whole_lines bytes) + length (option_to_list (rest_of cutter)) = ap length (lines-cut bytes cutter cut) ∙ length-append (whole_lines bytes) (option_to_list (rest_of cutter)) in
    record {
      goal = hears.goal;
      taken = subst (λ ls. HasTaken g (opening ++ ls) old.run) (sym same) hears.taken;
      few = hears.few;
      cut = cut;
      go_on = subst (λ ls. GoOn g (opening ++ ls)) (sym same) hears.go_on;
      bytes_counted = ap (λ n. n + used) hears.bytes_counted ∙ sym count;
      lines_counted = hears.lines_counted ∙ sym (ap length same);
      within = within-from bytes (omega (arith, count, hears.bytes_counted)) (omega (arith, count_lines, ap length same, rest-le (rest_of cutter), hears.lines_counted));
    }

-- a line more has ended
pub line_heard : (g : Goal) (opening : Lines) (heard piece : Text) (old : Hearing) (cutter : Cutting) (used : ℕ) (whole : Bool) (line : Text) (t : Taken) (run : LineRun) → HasHeard g opening heard old →
    Feeds old.cutter piece used whole cutter → ended_line cutter ≡ Some line → old.bytes + length piece ≤ MOST_BYTES → old.lines < MOST_LINES → TakesLine g (opening ++ whole_lines heard) line t run →
    Advances g opening (heard ++ take used piece) (progress_of t) (record { goal = old.goal; run = run; cutter = cutter; bytes = old.bytes + used; lines = old.lines + 1 })
line_heard g opening heard piece old cutter used whole line t run hears feeds ended room few takes = by_line t takes
  where
    bytes : Text
    bytes = heard ++ take used piece

    count : length (heard ++ take used piece) ≡ length heard + used
    count = length_taken heard piece used (used_within old.cutter piece used whole cutter feeds)

    cut : IsCut (heard ++ take used piece) cutter
    cut = cut-more heard piece old.cutter cutter used whole hears.cut feeds

    more : whole_lines (heard ++ take used piece) ≡ whole_lines heard ++ line ∷ []
    more = whole-more heard piece old.cutter cutter used whole hears.cut feeds ∙ ap (λ l. whole_lines heard ++ option_to_list l) ended

    all : opening ++ whole_lines (heard ++ take used piece) ≡ (opening ++ whole_lines heard) ++ line ∷ []
    all = ap (λ ls. opening ++ ls) more ∙ sym (append_assoc opening (whole_lines heard) (line ∷ []))

    count_more : length (whole_lines (heard ++ take used piece)) ≡ length (whole_lines heard) + 1
    count_more = ap length more ∙ length-append (whole_lines heard) (line ∷ [])

    count_lines : length (lines (heard ++ take used piece)) ≡ length (whole_lines (heard ++ take used piece))
    count_lines = ap length (lines-cut (heard ++ take used piece) cutter cut ∙ ap (λ l. whole_lines (heard ++ take used piece) ++ option_to_list l) (none_begun old.cutter piece used whole cutter line feeds ended) ∙ append-nil (whole_lines (heard ++ take used piece)))

    within : is_over (heard ++ take used piece) ≡ false
    within = within-from (heard ++ take used piece) (omega (arith, count, hears.bytes_counted, room, used_within old.cutter piece used whole cutter feeds)) (omega (arith, count_lines, count_more, hears.lines_counted, few))

    by_line : (t : Taken) → TakesLine g (opening ++ whole_lines heard) line t run →
        Advances g opening (heard ++ take used piece) (progress_of t) (record { goal = old.goal; run = run; cutter = cutter; bytes = old.bytes + used; lines = old.lines + 1 })
    by_line (taken_line.Going took) takes = record {
      goal = hears.goal;
      taken = subst (λ ls. HasTaken g ls run) (sym all) takes.0;
      few = hears.few;
      cut = cut;
      go_on = subst (GoOn g) (sym all) takes.1;
      bytes_counted = ap (λ n. n + used) hears.bytes_counted ∙ sym count;
      lines_counted = ap (λ n. n + 1) hears.lines_counted ∙ sym count_more;
      within = within;
    }
    by_line taken_line.Ended takes =
        let ends = subst (λ ls. EndsWith g ls run) (sym all) takes in
        record {
          lines = record { taken = ends.taken; few = countable opening (heard ++ take used piece) hears.few within; looked = ends.looked; clear = ends.clear };
          ends = ends.ends;
          within = within;
        }
    by_line taken_line.Memory takes = tt

-- where as much has begun, as much was heard
same_heard : (g : Goal) (opening : Lines) (bytes : Text) (p : Progress) (h : Hearing) (cutter : Cutting) → h.cutter.begun ≡ cutter.begun → Advances g opening bytes p h → Advances g opening bytes p (record h { cutter = cutter })
same_heard g opening bytes progress.Going h cutter same hears = record {
  goal = hears.goal;
  taken = hears.taken;
  few = hears.few;
  cut = cut-same bytes h.cutter cutter same hears.cut;
  go_on = hears.go_on;
  bytes_counted = hears.bytes_counted;
  lines_counted = hears.lines_counted;
  within = hears.within;
}
same_heard g opening bytes progress.Ended h cutter same hears = hears
same_heard g opening bytes progress.Over h cutter same hears = hears
same_heard g opening bytes progress.Memory h cutter same hears = tt

-- a line more that taken whole in a piece
pub whole_line_heard : (g : Goal) (opening : Lines) (heard piece : Text) (old : Hearing) (used : ℕ) (line : Text) (t : Taken) (run : LineRun) → HasHeard g opening heard old →
    IsWholeLine old.cutter piece used line → old.bytes + length piece ≤ MOST_BYTES → old.lines < MOST_LINES → TakesLine g (opening ++ whole_lines heard) line t run →
    Advances g opening (heard ++ take used piece) (progress_of t) (record { goal = old.goal; run = run; cutter = old.cutter; bytes = old.bytes + used; lines = old.lines + 1 })
whole_line_heard g opening heard piece old used line t run hears (after, ends, ended, same) room few takes =
    same_heard g opening (heard ++ take used piece) (progress_of t) (record { goal = old.goal; run = run; cutter = after; bytes = old.bytes + used; lines = old.lines + 1 }) old.cutter same
    (line_heard g opening heard piece old after used true line t run hears ends ended room few takes)

pub whole_line_within : (old : Cutting) (piece : Text) (used : ℕ) (line : Text) → IsWholeLine old piece used line → used ≤ length piece
whole_line_within old piece used line (after, ends, ended, same) = used_within old piece used true after ends

-- one more part of a piece
pub advanced : (piece front rest part : Text) (used most : ℕ) → piece ≡ front ++ rest → part ≡ take most rest → used ≤ length part → piece ≡ (front ++ take used part) ++ drop used rest
advanced piece front rest part used most parts is within =
    let same : take used part ≡ take used rest = grind (arith, common_steps, length-take {A = ℕ}) in
    parts ∙ ap (λ t. front ++ t) (sym (take-append-drop used rest) ∙ ap (λ t. t ++ drop used rest) (sym same)) ∙ sym (append_assoc front (take used part) (drop used rest))

-- an input of which so much was heard has room for no more
pub full_heard : (g : Goal) (opening : Lines) (heard : Text) (h : Hearing) → HasHeard g opening heard h → (MOST_BYTES ≤ h.bytes) ⊎ (MOST_LINES ≤ h.lines) → IsFull g opening heard
full_heard g opening heard h hears (inl bytes) = record { go_on = hears.go_on; within = hears.within; full = inl (omega (arith, bytes, hears.bytes_counted, (within-limits heard hears.within).0)) }
full_heard g opening heard h hears (inr lines) = record { go_on = hears.go_on; within = hears.within; full = inr (omega (arith, lines, hears.lines_counted, whole-few heard hears.within)) }

-- a text that is not empty
pub some_rest : (rest : Text) → eqb (length rest) 0 ≡ false → rest ≢ []
some_rest [] h = λ e. cc
some_rest (x ∷ rest) h = λ e. cc

-- nothing of a piece
pub heard_none : (g : Goal) (opening : Lines) (heard piece : Text) (h : Hearing) → HasHeard g opening heard h → (front : Text) × (piece ≡ front ++ piece) × HasHeard g opening (heard ++ front) h
heard_none g opening heard piece h hears = ([], refl, subst (λ t. HasHeard g opening t h) (sym (append-nil heard)) hears)

-- all of it
pub heard_all : (g : Goal) (opening : Lines) (heard piece front rest : Text) (h : Hearing) → piece ≡ front ++ rest → eqb (length rest) 0 ≡ true → HasHeard g opening (heard ++ front) h →
    HasHeard g opening (heard ++ piece) h
heard_all g opening heard piece front [] h parts none hears = subst (λ t. HasHeard g opening (heard ++ t) h) (sym (parts ∙ append-nil front)) hears
heard_all g opening heard piece front (x ∷ rest) h parts none hears = absurd (omega (arith, eqb-true (length (x ∷ rest)) 0 none))

-- a part of it at which the run goes on
pub heard_part : (g : Goal) (opening : Lines) (heard piece front rest part : Text) (used most left : ℕ) (h : Hearing) → HasHeard g opening ((heard ++ front) ++ take used part) h →
    piece ≡ front ++ rest → part ≡ take most rest → used ≤ length part → left ≡ length rest - used →
    (front : Text) × (piece ≡ front ++ take left (drop used rest)) × HasHeard g opening (heard ++ front) h
heard_part g opening heard piece front rest part used most left h hears parts is within count =
    let whole : take left (drop used rest) ≡ drop used rest = ap (λ n. take n (drop used rest)) (count ∙ sym (length-drop used rest)) ∙ take-length (drop used rest) in (
      front ++ take used part,
      advanced piece front rest part used most parts is within ∙ ap (λ t. (front ++ take used part) ++ t) (sym whole),
      subst (λ t. HasHeard g opening t h) (append_assoc heard front (take used part)) hears,
    )

-- a part of a piece at which the run does not go on
pub ended_part : (g : Goal) (opening : Lines) (heard piece front rest part : Text) (used most : ℕ) (p : Progress) (h : Hearing) → Advances g opening ((heard ++ front) ++ take used part) p h →
    piece ≡ front ++ rest → part ≡ take most rest → used ≤ length part → (p ≡ progress.Going → ⊥) → HearsPiece g opening heard piece p h
ended_part g opening heard piece front rest part used most progress.Going h advances parts is within stops = absurd (stops refl)
ended_part g opening heard piece front rest part used most progress.Ended h advances parts is within stops =
    (front ++ take used part, drop used rest, advanced piece front rest part used most parts is within, subst (λ t. HasEnded g opening t h.run) (append_assoc heard front (take used part)) advances)
ended_part g opening heard piece front rest part used most progress.Over h advances parts is within stops = absurd advances
ended_part g opening heard piece front rest part used most progress.Memory h advances parts is within stops = tt

-- Behind the end of an input.

-- opening lines and all lines of an input can be counted
all_countable : (opening : Lines) (heard : Text) → length opening + MOST_LINES < 2 ^ 64 - 1 → is_over heard ≡ false → length (opening ++ lines heard) < 2 ^ 64 - 1
all_countable opening heard few within = omega (arith, length-append opening (lines heard), (within-limits heard within).1)

-- all lines of an input that ends where a line ends
pub all_heard : (g : Goal) (opening : Lines) (heard : Text) (h : Hearing) → HasHeard g opening heard h → rest_of h.cutter ≡ None →
    HasLines g (opening ++ lines heard) h.run × TellsEnd g opening heard [] (opening ++ lines heard)
all_heard g opening heard h hears none =
    let same : lines heard ≡ whole_lines heard = lines-cut heard h.cutter hears.cut ∙ ap (λ l. whole_lines heard ++ option_to_list l) none ∙ append-nil (whole_lines heard) in (
      record {
        taken = subst (λ ls. HasTaken g (opening ++ ls) h.run) (sym same) hears.taken;
        few = all_countable opening heard hears.few hears.within;
        looked = subst (λ ls. looked_at g (opening ++ ls) ≡ opening ++ ls) (sym same) (looked-all g (opening ++ whole_lines heard) hears.go_on.unsettled);
        clear = inl (ap (λ ls. stop_of (halt g) (opening ++ ls)) same ∙ hears.go_on.unstopped);
      },
      tells_all g opening heard hears.within,
    )

-- with a last line that no line feed ends
pub last_heard : (g : Goal) (opening : Lines) (heard line : Text) (h : Hearing) (t : Taken) (run : LineRun) → HasHeard g opening heard h → rest_of h.cutter ≡ Some line →
    TakesLine g (opening ++ whole_lines heard) line t run → t ≢ taken_line.Memory → HasLines g (opening ++ lines heard) run × TellsEnd g opening heard [] (opening ++ lines heard)
last_heard g opening heard line h t run hears some takes kept =
    (subst (λ ls. HasLines g ls run) (sym same) (by_line t takes kept), tells_all g opening heard hears.within)
  where
    same : opening ++ lines heard ≡ (opening ++ whole_lines heard) ++ line ∷ []
    same = ap (λ ls. opening ++ ls) (lines-cut heard h.cutter hears.cut ∙ ap (λ l. whole_lines heard ++ option_to_list l) some) ∙ sym (append_assoc opening (whole_lines heard) (line ∷ []))

    few : length ((opening ++ whole_lines heard) ++ line ∷ []) < 2 ^ 64 - 1
    few = subst (λ ls. length ls < 2 ^ 64 - 1) same (all_countable opening heard hears.few hears.within)

    by_line : (t : Taken) → TakesLine g (opening ++ whole_lines heard) line t run → t ≢ taken_line.Memory → HasLines g ((opening ++ whole_lines heard) ++ line ∷ []) run
    by_line (taken_line.Going took) takes kept = record { taken = takes.0; few = few; looked = looked-all g ((opening ++ whole_lines heard) ++ line ∷ []) takes.1.unsettled; clear = inl takes.1.unstopped }
    by_line taken_line.Ended takes kept = record { taken = takes.taken; few = few; looked = takes.looked; clear = takes.clear }
    by_line taken_line.Memory takes kept = absurd (kept refl)
