-- What the state says, from the first line on.
use Rattle.std.proofs.Common.{◌≡◌, ℕ, ◌<◌, Bool, true, false, eqb, Option, Some, None, List, [], ◌∷◌, ◌++◌, refl, sym, ap, ◌∙◌, subst, arith}
use Rattle.std.specs.Prelude.{IfSome, IsSome, IsSomeAnd, MatchOption, not, ◌||◌, ◌&&◌, if◌then◌else◌}
use Rattle.std.specs.List.{list_any}
use Rattle.std.specs.Option.{option_map_or, is_none, is_some}
use Rattle.std.specs.Str.{bytes_eq}
use Rattle.std.proofs.lemmas.Bool.{true≢false, and_right}
use Rattle.std.proofs.lemmas.List.Folds.{list_any-append}
use Rattle.house_base.specs.Answer.{counted, took_as}
use Rattle.house_base.specs.Grid.{Square, cell}
use Rattle.house_base.specs.Setting.{Setting, IsSetting, size}
use Rattle.house_base.specs.declared.answer.Asides.{Asides}
use Rattle.house_base.specs.declared.answer.Kind.{Kind}
use Rattle.house_base.specs.declared.answer.Kind.TheVariants as kind
use Rattle.house_base.specs.declared.answer.Took.{Took}
use Rattle.house_base.specs.declared.answer.Took.TheVariants as took
use Rattle.house_base.specs.declared.review.ReviewLine.{ReviewLine}
use Rattle.house_base.specs.declared.call.Call.{Call}
use Rattle.house_base.specs.declared.phase.Phase.{Phase}
use Rattle.house_base.specs.declared.phase.Phase.TheVariants as phase
use Rattle.house_base.specs.Text.{Text}
use Rattle.peer_selection.specs.Profile.{Pairs, Points}
use Rattle.house_model.specs.declared.command.Command.{Command}
use Rattle.house_model.specs.declared.command.Command.TheVariants as command
use Rattle.house_model.specs.declared.goal.Goal.{Goal}
use Rattle.house_model.specs.declared.goal.Goal.TheVariants as goal
use Rattle.house_model.specs.declared.verb.Verb.{Verb}
use Rattle.house_model.specs.declared.verb.Verb.TheVariants as verb
use Rattle.house_model.specs.Commands.{verb_of_command}
use Rattle.house_model.specs.Text.{Lines, word, is_blank}
use Rattle.house_model.specs.Verbs.{verb_in, verb_number, allows, is_review}
use Rattle.house_model.specs.Register.{Register, IsRegister, pair_among}
use Rattle.house_model.specs.Said.{has, those, register, denominator_of, bytes_or_none, spelled, seed_of, seal_of, draw_of, phase_after, number, setting, run_pairs, applicant_in, place_in, pair_in}
use Rattle.house_model.specs.Seeds.{seed_draw}
use Rattle.house_model.specs.Faults.{looks_at_pairs}
use Rattle.house_model.specs.Runs.{halt}
use Rattle.house_model.specs.Reviews.{kind_of, first_of_kinds, asides_of, points_of, no_asides, took_of}
use Rattle.review_desk.specs.Desk.{points_at}
use Rattle.review_desk.specs.Line.{kind_before, kind_among, points_after, reviewer_of, proposal_of, points_in}
use Rattle.seat_quota.specs.Tally.{DeskTotals, IsTally}
use Rattle.command_text.specs.Reading.{Carries, IsCommandLine, review_in}
use Rattle.house_core.specs.declared.round.Round.{Round}
use Rattle.house_core.specs.declared.state.State.{State}
use Rattle.house_core.specs.Standing.{Says, HoldsPairs, IsRoundOf, IsTallyOf, IsTallyAfter, IsSilent, IsState, LooksAt, Reviews, Becomes, counted_as, kind_at, are_known, IsBarredMore, IsSameRegister, own_halt, turned_away, setting_in, pairs_in}
use Rattle.house_core.proofs.VerbLemmas.{blank_other, blank_not_review, review_other}
use Rattle.house_core.proofs.PushLemmas.{has_other, has_same, call_number_first, seed_of_other, seed_of_first, seal_of_other, seal_of_first, draw_of_other, draw_of_first, draw_of_none, draw_of_seed, register_other, register_applicant, register_place, register_pair, register_conflict, phase_other}
use Rattle.house_core.proofs.RefusalLemmas.{house_is_no_review}
use Rattle.house_core.proofs.AdmittedLemmas.{IsAdmitted, is_admitted}
use Rattle.house_core.proofs.OwnLemmas.{came, setting_is, pairs_are, read_halt}
use Rattle.house_core.proofs.ReviewLemmas.{asides-push, kept-opening, points-none, points-same, setting-review, run_pairs-review, has-review}
use Rattle.house_core.proofs.ReviewKindLemmas.{HoldsAssigned, kind-by_names, kind-by_pairs, kind-by_phase, kind-by_register}
use Rattle.house_core.proofs.ReviewPlaceLemmas.{AreFormed}
use Rattle.house_core.proofs.ReviewPointLemmas.{points-review}
use Rattle.house_core.proofs.SameRegisterLemmas.{formed-same, names-same, persons-same, denominator-same}
use Rattle.house_core.proofs.StepLemmas.{HasRound, HasTally, IsBeside, round_stays, no_call_before, no_seed_before, no_seal_before, before_assign, before_close, before_draw, before_lottery, still_none, stays_after, stays_before, call_kept, round_none, round_kept, register_kept, setting_kept, run_pairs_kept, phase_assigned, phase_closed, phase_drawn, phase_by_seed, not_drawn}

-- a register that is the given one, or that has one more of what the given one has
same_register : (reg : Register) → IsSameRegister reg reg
same_register reg = record { others = refl; barred = λ a b. refl }

-- the register behind a line that puts nothing on record
book_kept : (lines : Lines) (s : State) (x : Text) → Says lines s → register (lines ++ x ∷ []) ≡ register lines → IsSameRegister s.book (register (lines ++ x ∷ []))
book_kept lines s x h same = rw same h.book

-- what was set aside before a line that is no review line
asides_kept : (lines : Lines) (s : State) (x : Text) → Says lines s → is_review x ≡ false → s.asides ≡ asides_of s.goal (lines ++ x ∷ [])
asides_kept lines s x h plain =
    h.asides ∙ sym (asides-push s.goal lines x
    ∙ ap (λ b. if b then option_map_or (counted (asides_of s.goal lines)) (kind_of s.goal lines x) (asides_of s.goal lines) else asides_of s.goal lines) plain)

-- commands beside the register, the call and the seed
beside_other : IsBeside verb.Other
beside_other = record { no_call = refl; no_applicant = refl; no_conflict = refl; no_place = refl; no_seed = refl; no_pair = refl }

beside_seal : IsBeside verb.Seal
beside_seal = record { no_call = refl; no_applicant = refl; no_conflict = refl; no_place = refl; no_seed = refl; no_pair = refl }

beside_assign : IsBeside verb.Assign
beside_assign = record { no_call = refl; no_applicant = refl; no_conflict = refl; no_place = refl; no_seed = refl; no_pair = refl }

beside_close : IsBeside verb.Close
beside_close = record { no_call = refl; no_applicant = refl; no_conflict = refl; no_place = refl; no_seed = refl; no_pair = refl }

beside_draw : IsBeside verb.Draw
beside_draw = record { no_call = refl; no_applicant = refl; no_conflict = refl; no_place = refl; no_seed = refl; no_pair = refl }

beside_lottery : IsBeside verb.Lottery
beside_lottery = record { no_call = refl; no_applicant = refl; no_conflict = refl; no_place = refl; no_seed = refl; no_pair = refl }

-- no lines say nothing
pub says_nothing : (s : State) → s.phase ≡ phase.Opening → s.call ≡ None → s.book ≡ record { applicants = []; placed = []; barred = []; pairs = [] } → s.seed ≡ None → s.seal ≡ None →
    s.round ≡ None → s.asides ≡ no_asides → s.draw ≡ 0 → Says [] s
unfolding has phase_after register seed_of seal_of draw_of those asides_of
says_nothing s p c b seed seal r a d = record {
  phase = p;
  call = rw c refl;
  book = rw b (same_register _);
  seed = seed;
  seal = seal;
  round = rw r refl;
  asides = a;
  draw = d;
  no_place_before_call = λ h. refl;
  close_after_assign = λ h. absurd (true≢false (sym h));
  draw_after_close = λ h. absurd (true≢false (sym h));
  lottery_after_close = λ h. absurd (true≢false (sym h));
}

-- a line with no command of its own
other_says : (lines : Lines) (s : State) (x : Text) (asides : Asides) (round : Option Round) → Says lines s → verb_in x ≡ verb.Other →
    asides ≡ asides_of s.goal (lines ++ x ∷ []) → HasRound s.goal (lines ++ x ∷ []) round → Says (lines ++ x ∷ []) (record s { asides = asides; round = round })
other_says lines s x asides round h v is_asides is_round = record {
  phase = h.phase ∙ sym (phase_other verb.Other lines x v refl refl refl refl);
  call = call_kept verb.Other lines x s.call v refl h.call;
  book = book_kept lines s x h (register_kept verb.Other lines x v beside_other);
  seed = h.seed ∙ sym (seed_of_other verb.Other lines x v refl);
  seal = h.seal ∙ sym (seal_of_other verb.Other lines x v refl);
  round = is_round;
  asides = is_asides;
  draw = h.draw ∙ sym (draw_of_other verb.Other lines x v refl refl (register_kept verb.Other lines x v beside_other));
  no_place_before_call = stays_before verb.Other verb.Call verb.Place lines x v refl refl h.no_place_before_call;
  close_after_assign = stays_after verb.Other verb.Close verb.Assign lines x v refl refl h.close_after_assign;
  draw_after_close = stays_after verb.Other verb.Draw verb.Close lines x v refl refl h.draw_after_close;
  lottery_after_close = stays_after verb.Other verb.Lottery verb.Close lines x v refl refl h.lottery_after_close;
}

-- a blank line changes nothing
pub blank_says : (lines : Lines) (s : State) (x : Text) → Says lines s → is_blank x ≡ true → Says (lines ++ x ∷ []) s
blank_says lines s x h blank =
    let plain = blank_not_review x blank in
    other_says lines s x s.asides s.round h (blank_other x blank) (asides_kept lines s x h plain)
    (round_kept s.goal verb.Other lines x s.round (blank_other x blank) plain refl beside_other h.round)

pub blank_kept : (g : Goal) (lines : Lines) (x : Text) → is_blank x ≡ true → took.Kept ≡ took_of g lines x
blank_kept g lines x blank = ap (λ b. if b then took_as (kind_of g lines x) else took.Kept) (sym (blank_not_review x blank))

-- A review line.

-- the counts behind it
asides_review : (g : Goal) (lines : Lines) (x : Text) (asides : Asides) (found : Option Kind) → is_review x ≡ true → asides ≡ asides_of g lines → kind_of g lines x ≡ found →
    counted_as asides found ≡ asides_of g (lines ++ x ∷ [])
asides_review g lines x asides found review is_asides is_found =
    ap (λ a. option_map_or (counted a) found a) is_asides
    ∙ ap (λ o. option_map_or (counted (asides_of g lines)) o (asides_of g lines)) (sym is_found)
    ∙ sym (asides-push g lines x
    ∙ ap (λ b. if b then option_map_or (counted (asides_of g lines)) (kind_of g lines x) (asides_of g lines) else asides_of g lines) review)

took_review : (g : Goal) (lines : Lines) (x : Text) (found : Option Kind) → is_review x ≡ true → kind_of g lines x ≡ found → took_as found ≡ took_of g lines x
took_review g lines x found review is_found =
    ap took_as (sym is_found) ∙ ap (λ b. if b then took_as (kind_of g lines x) else took.Kept) (sym review)

-- points that agree on a pair agree on it behind a line
points_after-at : (s : Setting) (pairs : Pairs) (p q : Points) (line : ReviewLine) (a b : ℕ) → p a b ≡ q a b → points_after s pairs p line a b ≡ points_after s pairs q line a b
unfolding points_after
points_after-at s pairs p q line a b same =
    ap (λ n. if is_none (kind_among s pairs line) && (eqb a (reviewer_of s line) && eqb b (proposal_of s line)) then points_in line else n) same

-- a round behind a line that is not kept
round_aside : (g : Goal) (lines : Lines) (x : Text) (round : Option Round) (k : Kind) → is_review x ≡ true → kind_of goal.Run lines x ≡ Some k → HasRound g lines round → HasRound g (lines ++ x ∷ []) round
round_aside g lines x round k review is_kind said =
    round_stays g lines (lines ++ x ∷ []) round (has-review verb.Assign lines x review refl) (setting-review lines x review) (run_pairs-review lines x review)
    (λ r p. points-same lines x r p (ap (λ o. is_review x && is_none o) is_kind ∙ and_right (is_review x) false refl) (setting-review lines x review)) said

-- a goal that does not look at the pairs
feasible : (g : Goal) → looks_at_pairs g ≡ false → g ≡ goal.Feasible
feasible goal.Run h = absurd (true≢false h)
feasible goal.Pairs h = absurd (true≢false h)
feasible goal.Feasible h = refl

-- the kind of a line, by the setting and the tally of a round
abbrev kind_by : Register → Setting → Option DeskTotals → ReviewLine → Option Kind
kind_by reg plan tally line = option_map_or (λ t. kind_among plan (cell t.desk.pairs) line) tally
    (if are_known reg line.reviewer line.proposal then Some kind.Unassigned else Some kind.Unknown)

known-same : (held given : Register) (person proposal : Option Text) → IsSameRegister held given → are_known held person proposal ≡ are_known given person proposal
known-same held given person proposal same = rw (persons-same held given same, names-same held given same) refl

module _ (lines : Lines) (s : State) (x : Text) (answer : Took) (new : State) (says : Says lines s) (state : IsState s) (review : is_review x ≡ true) where
  abbrev after : Lines
  after = lines ++ x ∷ []

  holds : (plan : Setting) (t : DeskTotals) → plan ≡ setting lines → IsTally plan t → AreFormed (register lines) → IsTallyOf lines t → HoldsAssigned lines t.desk.pairs
  holds plan t is tally formed said = record {
    formed = formed;
    is_setting = subst IsSetting is tally.desk.setting;
    pairs = said.pairs.cells;
  }

  -- the kind that the round finds is that of the lines
  found_by : (plan : Setting) (tally : Option DeskTotals) → plan ≡ setting lines → HasTally s.goal lines tally → IfSome tally (λ t. IsTally plan t) → AreFormed (register lines) →
      kind_before (phase_after lines) (review_in x) ≡ None → kind_of s.goal lines x ≡ kind_by s.book plan tally (review_in x)
  found_by plan None is said tallied formed before =
      ap (λ g. kind_of g lines x) (feasible s.goal said)
      ∙ (kind-by_register lines x formed before
      ∙ ap (λ b. if b then Some kind.Unassigned else Some kind.Unknown) (sym (known-same s.book (register lines) (review_in x).reviewer (review_in x).proposal says.book)))
  found_by plan (Some t) is said tallied formed before =
      kind-by_pairs s.goal lines x said.0
      ∙ (kind-by_names lines x t.desk.pairs (holds plan t is tallied formed said.1) before
      ∙ ap (λ p. kind_among p (cell t.desk.pairs) (review_in x)) (sym is))

  -- the points behind a line that a desk looks at
  looked_points : (plan : Setting) (t t' : DeskTotals) → plan ≡ setting lines → IsTallyOf lines t → IsTallyAfter plan t t' (review_in x) → HoldsAssigned lines t.desk.pairs →
      kind_before (phase_after lines) (review_in x) ≡ None → (a b : ℕ) → a < size (setting lines) → b < size (setting lines) → points_at t'.desk a b ≡ points_of after a b
  looked_points plan t t' is said more assigned before a b al bl =
      let within : size (setting lines) ≡ size plan = ap size (sym is) in
      let square = t.desk.pairs in
      more.points a b (omega (arith, within)) (omega (arith, within))
      ∙ ap (λ p. points_after p (cell square) (points_at t.desk) (review_in x) a b) is
      ∙ points_after-at (setting lines) (cell square) (points_at t.desk) (points_of lines) (review_in x) a b (said.points a b al bl)
      ∙ sym (points-review lines x square a b assigned review before bl)

  tally_after : (plan : Setting) (tally tally' : Option DeskTotals) → plan ≡ setting lines → HasTally s.goal lines tally → IfSome tally (λ t. IsTally plan t) → AreFormed (register lines) →
      kind_before (phase_after lines) (review_in x) ≡ None →
      MatchOption tally (tally' ≡ None) (λ t. IsSomeAnd tally' (λ t'. IsTallyAfter plan t t' (review_in x))) → HasTally s.goal after tally'
  tally_after plan None tally' is said tallied formed before more = subst (λ o. HasTally s.goal after o) (sym more) said
  tally_after plan (Some t) None is said tallied formed before more = absurd more
  tally_after plan (Some t) (Some t') is said tallied formed before more =
      let setting_is = setting-review lines x review in
      let P : Square → Type 0 = λ q. HoldsPairs (setting lines) (run_pairs lines) q in (
        said.0,
        record {
          pairs = rw (setting_is, run_pairs-review lines x review) (subst P (sym more.pairs) said.1.pairs);
          valid = rw (setting_is, run_pairs-review lines x review) said.1.valid;
          points = rw setting_is (λ a b al bl. looked_points plan t t' is said.1 more (holds plan t is tallied formed said.1) before a b al bl);
        },
      )

  -- where the round looks at the line
  looked : (r : Round) → IsRoundOf s.goal lines r → IfSome r.tally (λ t. IsTally r.plan.value t) → IsRegister s.book → kind_before (phase_after lines) (review_in x) ≡ None → LooksAt (Some r) s (review_in x) answer new →
      (answer ≡ took_of s.goal lines x) × Says after new
  looked r said tallied registered before looks =
      let formed : AreFormed (register lines) = formed-same s.book (register lines) says.book registered.names_formed in
      let found : kind_of s.goal lines x ≡ kind_at s.book r (review_in x) = found_by r.plan.value r.tally said.plan said.tally tallied formed before in
      let round_after : IsRoundOf s.goal after looks.0 = record {
        fixed = has-review verb.Assign lines x review refl ∙ said.fixed;
        plan = looks.1.plan ∙ said.plan ∙ sym (setting-review lines x review);
        tally = tally_after r.plan.value r.tally looks.0.tally said.plan said.tally tallied formed before looks.1.tally;
      } in (
        looks.2 ∙ took_review s.goal lines x (kind_at s.book r (review_in x)) review found,
        subst (λ n. Says after n) (sym looks.3)
            (other_says lines s x (counted_as s.asides (kind_at s.book r (review_in x))) (Some looks.0) says (review_other x review)
            (asides_review s.goal lines x s.asides (kind_at s.book r (review_in x)) review says.asides found) round_after),
      )

  looked_by : (round : Option Round) → s.round ≡ round → kind_before (phase_after lines) (review_in x) ≡ None → LooksAt round s (review_in x) answer new →
      (answer ≡ took_of s.goal lines x) × Says after new
  looked_by None is before looks = absurd looks
  looked_by (Some r) is before looks =
      looked r (subst (HasRound s.goal lines) is says.round) (subst (λ o. IfSome o (λ r. IfSome r.tally (λ t. IsTally r.plan.value t))) is state.tallied)
      (subst (λ o. IfSome o (λ r. IsRegister s.book)) is state.registered) before looks

  reviewed : (found : Option Kind) → kind_before s.phase (review_in x) ≡ found →
      MatchOption found (LooksAt s.round s (review_in x) answer new) (λ kind. (answer ≡ took.Aside kind) × (new ≡ record s { asides = counted s.asides kind })) →
      (answer ≡ took_of s.goal lines x) × Says after new
  reviewed None is looks = looked_by s.round refl (ap (λ p. kind_before p (review_in x)) (sym says.phase) ∙ is) looks
  reviewed (Some k) is aside =
      let early = ap (λ p. kind_before p (review_in x)) (sym says.phase) ∙ is in
      let found = kind-by_phase s.goal lines x k early in (
        aside.0 ∙ took_review s.goal lines x (Some k) review found,
        subst (λ n. Says after n) (sym aside.1)
            (other_says lines s x (counted_as s.asides (Some k)) s.round says (review_other x review) (asides_review s.goal lines x s.asides (Some k) review says.asides found)
            (round_aside s.goal lines x s.round k review (kind-by_phase goal.Run lines x k early) says.round)),
      )

  pub review_taken : Reviews s (review_in x) answer new → (answer ≡ took_of s.goal lines x) × Says after new
  review_taken reviews = reviewed (kind_before s.phase (review_in x)) refl reviews

-- a review line that is not too early comes behind an assignment
pub before_opening : (line : ReviewLine) → kind_before phase.Opening line ≡ None → ⊥
unfolding kind_before
before_opening line h = early line.whole h where
  early : (whole : Bool) → first_of_kinds ((kind.Form, not whole) ∷ (kind.Early, true) ∷ (kind.Late, false) ∷ []) ≡ None → ⊥
  early true h = cc
  early false h = cc

-- a review line in time finds a round
pub in_time : (s : State) (line : ReviewLine) → IsState s → kind_before s.phase line ≡ None → s.round ≡ None → ⊥
in_time s line is early none = by_phase s.phase refl early where
  unassigned : IsSome s.round → ⊥
  unassigned some = let e : is_some s.round ≡ false = ap is_some none in cc

  later : (p : Phase) → s.phase ≡ p → (p ≡ phase.Opening → ⊥) → ⊥
  later p e never = unassigned (is.assigned (λ f. never (sym e ∙ f)))

  by_phase : (p : Phase) → s.phase ≡ p → kind_before p line ≡ None → ⊥
  by_phase phase.Opening e h = before_opening line h
  by_phase phase.Reviewing e h = later phase.Reviewing e (λ f. cc)
  by_phase phase.Closed e h = later phase.Closed e (λ f. cc)
  by_phase phase.Drawn e h = later phase.Drawn e (λ f. cc)

-- a command of the opening that may come more than once
record IsOpening (v : Verb) : Type 0 where
  no_call : eqb (verb_number v) 0 ≡ false
  no_seed : eqb (verb_number v) 4 ≡ false
  no_seal : eqb (verb_number v) 6 ≡ false
  no_assign : eqb (verb_number v) 7 ≡ false
  no_close : eqb (verb_number v) 8 ≡ false
  no_draw : eqb (verb_number v) 9 ≡ false
  no_lottery : eqb (verb_number v) 10 ≡ false
  not_reviewing : allows phase.Reviewing v ≡ false
  not_closed : allows phase.Closed v ≡ false
  not_drawn : allows phase.Drawn v ≡ false

-- such a command puts something on record
opened_says : (v : Verb) (lines : Lines) (s : State) (x : Text) (book : Register) → Says lines s → IsAdmitted lines v → verb_in x ≡ v → is_review x ≡ false →
    IsOpening v → IsSameRegister book (register (lines ++ x ∷ [])) → (has verb.Call (lines ++ x ∷ []) ≡ false → has verb.Place (lines ++ x ∷ []) ≡ false) →
    Says (lines ++ x ∷ []) (record s { book = book })
opened_says v lines s x book h adm e plain k reg placed =
    let unassigned : has verb.Assign lines ≡ false = before_assign lines v adm k.not_reviewing k.not_closed k.not_drawn in
    let undrawn = not_drawn lines s h unassigned in
    record {
      phase = h.phase ∙ sym (phase_other v lines x e k.no_assign k.no_close k.no_draw k.no_lottery);
      call = call_kept v lines x s.call e k.no_call h.call;
      book = reg;
      seed = h.seed ∙ sym (seed_of_other v lines x e k.no_seed);
      seal = h.seal ∙ sym (seal_of_other v lines x e k.no_seal);
      round = round_none s.goal v lines x s.round e k.no_assign unassigned h.round;
      asides = asides_kept lines s x h plain;
      draw = h.draw ∙ (draw_of_none lines undrawn.0 undrawn.1
          ∙ sym (draw_of_none (lines ++ x ∷ []) (still_none v verb.Draw lines x e k.no_draw undrawn.0) (still_none v verb.Lottery lines x e k.no_lottery undrawn.1)));
      no_place_before_call = placed;
      close_after_assign = stays_after v verb.Close verb.Assign lines x e k.no_close k.no_assign h.close_after_assign;
      draw_after_close = stays_after v verb.Draw verb.Close lines x e k.no_draw k.no_close h.draw_after_close;
      lottery_after_close = stays_after v verb.Lottery verb.Close lines x e k.no_lottery k.no_close h.lottery_after_close;
    }

-- a call
call_says : (lines : Lines) (s : State) (x : Text) (call : Call) → Says lines s → IsAdmitted lines verb.Call → verb_in x ≡ verb.Call → is_review x ≡ false →
    call.seats ≡ number (word x 1) → call.clusters ≡ number (word x 2) → call.reviews ≡ number (word x 3) → Says (lines ++ x ∷ []) (record s { call = Some call })
call_says lines s x call h adm e plain seats clusters reviews =
    let first : has verb.Call lines ≡ false = no_call_before lines adm in
    record {
      phase = h.phase ∙ sym (phase_other verb.Call lines x e refl refl refl refl);
      call = (
        has_same verb.Call verb.Call lines x e refl,
        seats ∙ sym (call_number_first lines x 1 first e),
        clusters ∙ sym (call_number_first lines x 2 first e),
        reviews ∙ sym (call_number_first lines x 3 first e),
      );
      book = book_kept lines s x h (register_other verb.Call lines x e refl refl refl refl);
      seed = h.seed ∙ sym (seed_of_other verb.Call lines x e refl);
      seal = h.seal ∙ sym (seal_of_other verb.Call lines x e refl);
      round = round_none s.goal verb.Call lines x s.round e refl (before_assign lines verb.Call adm refl refl refl) h.round;
      asides = asides_kept lines s x h plain;
      draw = h.draw ∙ sym (draw_of_other verb.Call lines x e refl refl (register_other verb.Call lines x e refl refl refl refl));
      no_place_before_call = λ none. absurd (true≢false (sym (has_same verb.Call verb.Call lines x e refl) ∙ none));
      close_after_assign = stays_after verb.Call verb.Close verb.Assign lines x e refl refl h.close_after_assign;
      draw_after_close = stays_after verb.Call verb.Draw verb.Close lines x e refl refl h.draw_after_close;
      lottery_after_close = stays_after verb.Call verb.Lottery verb.Close lines x e refl refl h.lottery_after_close;
    }

-- a seed for the clusters
partition_says : (lines : Lines) (s : State) (x : Text) (seed : Text) → Says lines s → IsAdmitted lines verb.Partition → verb_in x ≡ verb.Partition → is_review x ≡ false →
    seed ≡ word x 1 → Says (lines ++ x ∷ []) (record s { seed = Some seed })
partition_says lines s x seed h adm e plain carried = record {
  phase = h.phase ∙ sym (phase_other verb.Partition lines x e refl refl refl refl);
  call = call_kept verb.Partition lines x s.call e refl h.call;
  book = book_kept lines s x h (register_other verb.Partition lines x e refl refl refl refl);
  seed = ap Some carried ∙ sym (seed_of_first lines x (no_seed_before lines adm) e);
  seal = h.seal ∙ sym (seal_of_other verb.Partition lines x e refl);
  round = round_none s.goal verb.Partition lines x s.round e refl (before_assign lines verb.Partition adm refl refl refl) h.round;
  asides = asides_kept lines s x h plain;
  draw = h.draw ∙ sym (draw_of_other verb.Partition lines x e refl refl (register_other verb.Partition lines x e refl refl refl refl));
  no_place_before_call = stays_before verb.Partition verb.Call verb.Place lines x e refl refl h.no_place_before_call;
  close_after_assign = stays_after verb.Partition verb.Close verb.Assign lines x e refl refl h.close_after_assign;
  draw_after_close = stays_after verb.Partition verb.Draw verb.Close lines x e refl refl h.draw_after_close;
  lottery_after_close = stays_after verb.Partition verb.Lottery verb.Close lines x e refl refl h.lottery_after_close;
}

-- a seal
spelled-carried : (x : Text) (digest : List ℕ) → Carries (command.Seal digest) x → spelled (word x 1) ≡ digest
unfolding spelled
spelled-carried x digest h = ap (λ r. bytes_or_none r) h

seal_says : (lines : Lines) (s : State) (x : Text) (digest : List ℕ) → Says lines s → IsAdmitted lines verb.Seal → verb_in x ≡ verb.Seal → is_review x ≡ false →
    spelled (word x 1) ≡ digest → Says (lines ++ x ∷ []) (record s { seal = Some digest })
seal_says lines s x digest h adm e plain carried = record {
  phase = h.phase ∙ sym (phase_other verb.Seal lines x e refl refl refl refl);
  call = call_kept verb.Seal lines x s.call e refl h.call;
  book = book_kept lines s x h (register_kept verb.Seal lines x e beside_seal);
  seed = h.seed ∙ sym (seed_of_other verb.Seal lines x e refl);
  seal = ap Some (sym carried) ∙ sym (seal_of_first lines x (no_seal_before lines adm) e);
  round = round_kept s.goal verb.Seal lines x s.round e plain refl beside_seal h.round;
  asides = asides_kept lines s x h plain;
  draw = h.draw ∙ sym (draw_of_other verb.Seal lines x e refl refl (register_kept verb.Seal lines x e beside_seal));
  no_place_before_call = stays_before verb.Seal verb.Call verb.Place lines x e refl refl h.no_place_before_call;
  close_after_assign = stays_after verb.Seal verb.Close verb.Assign lines x e refl refl h.close_after_assign;
  draw_after_close = stays_after verb.Seal verb.Draw verb.Close lines x e refl refl h.draw_after_close;
  lottery_after_close = stays_after verb.Seal verb.Lottery verb.Close lines x e refl refl h.lottery_after_close;
}

-- an assignment
silent_tally : (g : Goal) (lines : Lines) (plan : Setting) (pairs : Pairs) (tally : Option DeskTotals) → plan ≡ setting lines → pairs ≡ run_pairs lines → ((a b : ℕ) → points_of lines a b ≡ 0) →
    MatchOption tally (looks_at_pairs g ≡ false) (λ t. (looks_at_pairs g ≡ true) × IsSilent plan pairs t) → HasTally g lines tally
silent_tally g lines plan pairs None plan_is pairs_is none h = h
silent_tally g lines plan pairs (Some t) plan_is pairs_is none h = (
  h.0,
  record {
    pairs = rw (← plan_is, ← pairs_is) h.1.held;
    valid = rw (← plan_is, ← pairs_is) h.1.valid;
    points = λ a b al bl. h.1.silent a b ∙ sym (none a b);
  },
)

assign_says : (lines : Lines) (s : State) (x : Text) (round : Round) → Says lines s → IsAdmitted lines verb.Assign → verb_in x ≡ verb.Assign → is_review x ≡ false →
    round.plan.value ≡ setting_in s → MatchOption round.tally (looks_at_pairs s.goal ≡ false) (λ t. (looks_at_pairs s.goal ≡ true) × IsSilent (setting_in s) (pairs_in s) t) →
    Says (lines ++ x ∷ []) (record s { phase = phase.Reviewing; round = Some round })
assign_says lines s x round h adm e plain plan tally =
    let called = came (has verb.Call lines) adm.called in
    let none : has verb.Assign lines ≡ false = before_assign lines verb.Assign adm refl refl refl in
    let same_setting : setting (lines ++ x ∷ []) ≡ setting lines = setting_kept verb.Assign lines x e beside_assign in
    let same_pairs : run_pairs (lines ++ x ∷ []) ≡ run_pairs lines = run_pairs_kept verb.Assign lines x e beside_assign in
    let silent = λ (a b : ℕ). points-same lines x a b (ap (λ t. t && is_none (kind_of goal.Run lines x)) plain) same_setting ∙ points-none lines a b (kept-opening lines none) in
    record {
      phase = sym (phase_assigned lines s x h e none);
      call = call_kept verb.Assign lines x s.call e refl h.call;
      book = book_kept lines s x h (register_kept verb.Assign lines x e beside_assign);
      seed = h.seed ∙ sym (seed_of_other verb.Assign lines x e refl);
      seal = h.seal ∙ sym (seal_of_other verb.Assign lines x e refl);
      round = record {
        fixed = has_same verb.Assign verb.Assign lines x e refl;
        plan = plan ∙ (setting_is lines s h called ∙ sym same_setting);
        tally = silent_tally s.goal (lines ++ x ∷ []) (setting_in s) (pairs_in s) round.tally (setting_is lines s h called ∙ sym same_setting) (pairs_are lines s h called ∙ sym same_pairs) silent tally;
      };
      asides = asides_kept lines s x h plain;
      draw = h.draw ∙ sym (draw_of_other verb.Assign lines x e refl refl (register_kept verb.Assign lines x e beside_assign));
      no_place_before_call = stays_before verb.Assign verb.Call verb.Place lines x e refl refl h.no_place_before_call;
      close_after_assign = λ closed. has_same verb.Assign verb.Assign lines x e refl;
      draw_after_close = stays_after verb.Assign verb.Draw verb.Close lines x e refl refl h.draw_after_close;
      lottery_after_close = stays_after verb.Assign verb.Lottery verb.Close lines x e refl refl h.lottery_after_close;
    }

-- a close
close_says : (lines : Lines) (s : State) (x : Text) → Says lines s → IsAdmitted lines verb.Close → verb_in x ≡ verb.Close → is_review x ≡ false →
    Says (lines ++ x ∷ []) (record s { phase = phase.Closed })
close_says lines s x h adm e plain =
    let came = before_close lines adm in
    record {
      phase = sym (phase_closed lines s x h e came.0 came.1);
      call = call_kept verb.Close lines x s.call e refl h.call;
      book = book_kept lines s x h (register_kept verb.Close lines x e beside_close);
      seed = h.seed ∙ sym (seed_of_other verb.Close lines x e refl);
      seal = h.seal ∙ sym (seal_of_other verb.Close lines x e refl);
      round = round_kept s.goal verb.Close lines x s.round e plain refl beside_close h.round;
      asides = asides_kept lines s x h plain;
      draw = h.draw ∙ sym (draw_of_other verb.Close lines x e refl refl (register_kept verb.Close lines x e beside_close));
      no_place_before_call = stays_before verb.Close verb.Call verb.Place lines x e refl refl h.no_place_before_call;
      close_after_assign = λ closed. has_other verb.Close verb.Assign lines x e refl ∙ came.0;
      draw_after_close = λ drawn. has_same verb.Close verb.Close lines x e refl;
      lottery_after_close = λ drawn. has_same verb.Close verb.Close lines x e refl;
    }

-- a draw
draw_says : (lines : Lines) (s : State) (x : Text) (n : ℕ) → Says lines s → IsAdmitted lines verb.Draw → verb_in x ≡ verb.Draw → is_review x ≡ false → n ≡ number (word x 1) →
    Says (lines ++ x ∷ []) (record s { phase = phase.Drawn; draw = n })
draw_says lines s x n h adm e plain fixed =
    let came = before_draw lines adm in
    record {
      phase = sym (phase_drawn lines x e came.0 came.1);
      call = call_kept verb.Draw lines x s.call e refl h.call;
      book = book_kept lines s x h (register_kept verb.Draw lines x e beside_draw);
      seed = h.seed ∙ sym (seed_of_other verb.Draw lines x e refl);
      seal = h.seal ∙ sym (seal_of_other verb.Draw lines x e refl);
      round = round_kept s.goal verb.Draw lines x s.round e plain refl beside_draw h.round;
      asides = asides_kept lines s x h plain;
      draw = fixed ∙ sym (draw_of_first lines x came.2 e);
      no_place_before_call = stays_before verb.Draw verb.Call verb.Place lines x e refl refl h.no_place_before_call;
      close_after_assign = stays_after verb.Draw verb.Close verb.Assign lines x e refl refl h.close_after_assign;
      draw_after_close = λ drawn. has_other verb.Draw verb.Close lines x e refl ∙ came.1;
      lottery_after_close = stays_after verb.Draw verb.Lottery verb.Close lines x e refl refl h.lottery_after_close;
    }

-- a draw by a seed
lottery_says : (lines : Lines) (s : State) (x : Text) (seed : Text) → Says lines s → IsAdmitted lines verb.Lottery → verb_in x ≡ verb.Lottery → is_review x ≡ false → seed ≡ word x 1 →
    Says (lines ++ x ∷ []) (record s { phase = phase.Drawn; draw = seed_draw seed (denominator_of s.book) })
lottery_says lines s x seed h adm e plain carried =
    let came = before_lottery lines adm in
    record {
      phase = sym (phase_by_seed lines x e came.0 came.1 came.2);
      call = call_kept verb.Lottery lines x s.call e refl h.call;
      book = book_kept lines s x h (register_kept verb.Lottery lines x e beside_lottery);
      seed = h.seed ∙ sym (seed_of_other verb.Lottery lines x e refl);
      seal = h.seal ∙ sym (seal_of_other verb.Lottery lines x e refl);
      round = round_kept s.goal verb.Lottery lines x s.round e plain refl beside_lottery h.round;
      asides = asides_kept lines s x h plain;
      draw = ap (λ t. seed_draw t (denominator_of s.book)) carried ∙ (ap (seed_draw (word x 1)) (denominator-same s.book (register lines) h.book)
          ∙ sym (draw_of_seed lines x came.2 came.3 e (register_kept verb.Lottery lines x e beside_lottery)));
      no_place_before_call = stays_before verb.Lottery verb.Call verb.Place lines x e refl refl h.no_place_before_call;
      close_after_assign = stays_after verb.Lottery verb.Close verb.Assign lines x e refl refl h.close_after_assign;
      draw_after_close = stays_after verb.Lottery verb.Draw verb.Close lines x e refl refl h.draw_after_close;
      lottery_after_close = λ drawn. has_other verb.Lottery verb.Close lines x e refl ∙ came.1;
    }

-- what a line puts on record
applicant_book : (lines : Lines) (s : State) (x : Text) (name person : Text) → Says lines s → verb_in x ≡ verb.Applicant → (name, person) ≡ applicant_in x →
    IsSameRegister (record s.book { applicants = s.book.applicants ++ (name, person) ∷ [] }) (register (lines ++ x ∷ []))
applicant_book lines s x name person h e a =
    rw (register_applicant lines x e, ← a) (record {
      others = ap (λ (reg : Register). record reg { applicants = reg.applicants ++ (name, person) ∷ [] }) h.book.others;
      barred = h.book.barred;
    })

place_book : (lines : Lines) (s : State) (x : Text) (person : Text) (cluster : ℕ) → Says lines s → verb_in x ≡ verb.Place → (person, cluster) ≡ place_in x →
    IsSameRegister (record s.book { placed = s.book.placed ++ (person, cluster) ∷ [] }) (register (lines ++ x ∷ []))
place_book lines s x person cluster h e p =
    rw (register_place lines x e, ← p) (record {
      others = ap (λ (reg : Register). record reg { placed = reg.placed ++ (person, cluster) ∷ [] }) h.book.others;
      barred = h.book.barred;
    })

pair_book : (lines : Lines) (s : State) (x : Text) (person proposal : Text) → Says lines s → verb_in x ≡ verb.Pair → (person, proposal) ≡ pair_in x →
    IsSameRegister (record s.book { pairs = s.book.pairs ++ (person, proposal) ∷ [] }) (register (lines ++ x ∷ []))
pair_book lines s x person proposal h e p =
    rw (register_pair lines x e, ← p) (record {
      others = ap (λ (reg : Register). record reg { pairs = reg.pairs ++ (person, proposal) ∷ [] }) h.book.others;
      barred = h.book.barred;
    })

or_false : (b : Bool) → (b || false) ≡ b
or_false true = refl
or_false false = refl

pair_among-push : (ps : List (Text × Text)) (person proposal a b : Text) →
    pair_among (ps ++ (person, proposal) ∷ []) a b ≡ (pair_among ps a b || (bytes_eq person a && bytes_eq proposal b))
unfolding pair_among
pair_among-push ps person proposal a b =
    list_any-append (λ p. bytes_eq p.0 a && bytes_eq p.1 b) ps ((person, proposal) ∷ [])
    ∙ ap (λ t. list_any (λ p. bytes_eq p.0 a && bytes_eq p.1 b) ps || t) (or_false (bytes_eq person a && bytes_eq proposal b))

conflict_book : (lines : Lines) (s : State) (x : Text) (book : Register) (person proposal : Text) → Says lines s → verb_in x ≡ verb.Conflict → (person, proposal) ≡ pair_in x →
    IsBarredMore s.book book person proposal → IsSameRegister book (register (lines ++ x ∷ []))
conflict_book lines s x book person proposal h e p more =
    rw (register_conflict lines x e, ← p) (record {
      others = more.others ∙ h.book.others;
      barred = λ a b. more.barred a b ∙ ap (λ t. t || (bytes_eq person a && bytes_eq proposal b)) (h.book.barred a b) ∙ sym (pair_among-push (register lines).barred person proposal a b);
    })

opens_applicant : IsOpening verb.Applicant
opens_applicant = record {
  no_call = refl;
  no_seed = refl;
  no_seal = refl;
  no_assign = refl;
  no_close = refl;
  no_draw = refl;
  no_lottery = refl;
  not_reviewing = refl;
  not_closed = refl;
  not_drawn = refl;
}

opens_place : IsOpening verb.Place
opens_place = record {
  no_call = refl;
  no_seed = refl;
  no_seal = refl;
  no_assign = refl;
  no_close = refl;
  no_draw = refl;
  no_lottery = refl;
  not_reviewing = refl;
  not_closed = refl;
  not_drawn = refl;
}

opens_pair : IsOpening verb.Pair
opens_pair = record {
  no_call = refl;
  no_seed = refl;
  no_seal = refl;
  no_assign = refl;
  no_close = refl;
  no_draw = refl;
  no_lottery = refl;
  not_reviewing = refl;
  not_closed = refl;
  not_drawn = refl;
}

opens_conflict : IsOpening verb.Conflict
opens_conflict = record {
  no_call = refl;
  no_seed = refl;
  no_seal = refl;
  no_assign = refl;
  no_close = refl;
  no_draw = refl;
  no_lottery = refl;
  not_reviewing = refl;
  not_closed = refl;
  not_drawn = refl;
}

-- the state of one more line that is carried out
carried_out : (lines : Lines) (s : State) (x : Text) (c : Command) (new : State) → Says lines s → verb_in x ≡ verb_of_command c → is_review x ≡ false → Carries c x →
    IsAdmitted lines (verb_of_command c) → Becomes s c new → Says (lines ++ x ∷ []) new
carried_out lines s x (command.Call call) new h is plain carries adm becomes =
    subst (λ n. Says (lines ++ x ∷ []) n) (sym becomes) (call_says lines s x call h adm is plain carries.0 carries.1 carries.2)
carried_out lines s x (command.Applicant name person) new h is plain carries adm becomes =
    subst (λ n. Says (lines ++ x ∷ []) n) (sym becomes)
    (opened_says verb.Applicant lines s x (record s.book { applicants = s.book.applicants ++ (name, person) ∷ [] }) h adm is plain opens_applicant
    (applicant_book lines s x name person h is carries)
    (stays_before verb.Applicant verb.Call verb.Place lines x is refl refl h.no_place_before_call))
carried_out lines s x (command.Conflict person proposal) new h is plain carries adm becomes =
    subst (λ n. Says (lines ++ x ∷ []) n) (sym becomes.1)
    (opened_says verb.Conflict lines s x becomes.0 h adm is plain opens_conflict
    (conflict_book lines s x becomes.0 person proposal h is carries becomes.2)
    (stays_before verb.Conflict verb.Call verb.Place lines x is refl refl h.no_place_before_call))
carried_out lines s x (command.Place person cluster) new h is plain carries adm becomes =
    subst (λ n. Says (lines ++ x ∷ []) n) (sym becomes)
    (opened_says verb.Place lines s x (record s.book { placed = s.book.placed ++ (person, cluster) ∷ [] }) h adm is plain opens_place
    (place_book lines s x person cluster h is carries)
    (λ none. absurd (true≢false (sym (has_other verb.Place verb.Call lines x is refl ∙ came (has verb.Call lines) adm.called) ∙ none))))
carried_out lines s x (command.Partition seed) new h is plain carries adm becomes =
    subst (λ n. Says (lines ++ x ∷ []) n) (sym becomes) (partition_says lines s x seed h adm is plain carries)
carried_out lines s x (command.Pair person proposal) new h is plain carries adm becomes =
    subst (λ n. Says (lines ++ x ∷ []) n) (sym becomes)
    (opened_says verb.Pair lines s x (record s.book { pairs = s.book.pairs ++ (person, proposal) ∷ [] }) h adm is plain opens_pair
    (pair_book lines s x person proposal h is carries)
    (stays_before verb.Pair verb.Call verb.Place lines x is refl refl h.no_place_before_call))
carried_out lines s x (command.Seal digest) new h is plain carries adm becomes =
    subst (λ n. Says (lines ++ x ∷ []) n) (sym becomes) (seal_says lines s x digest h adm is plain (spelled-carried x digest carries))
carried_out lines s x command.Assign new h is plain carries adm becomes =
    subst (λ n. Says (lines ++ x ∷ []) n) (sym becomes.1) (assign_says lines s x becomes.0 h adm is plain becomes.2.plan becomes.2.tally)
carried_out lines s x command.Close new h is plain carries adm becomes =
    subst (λ n. Says (lines ++ x ∷ []) n) (sym becomes) (close_says lines s x h adm is plain)
carried_out lines s x (command.Draw n) new h is plain carries adm becomes =
    subst (λ n. Says (lines ++ x ∷ []) n) (sym becomes) (draw_says lines s x n h adm is plain carries)
carried_out lines s x (command.Lottery seed) new h is plain carries adm becomes =
    subst (λ n. Says (lines ++ x ∷ []) n) (sym becomes) (lottery_says lines s x seed h adm is plain carries)

-- a command that was read, may come and is carried out
pub obeyed_says : (lines : Lines) (s : State) (x : Text) (c : Command) (new : State) → Says lines s → IsCommandLine x c → turned_away s (verb_of_command c) ≡ None →
    own_halt s c ≡ None → Becomes s c new → (halt s.goal lines x ≡ None) × Says (lines ++ x ∷ []) new
obeyed_says lines s x c new h line free own becomes = (
  read_halt lines s x c h line free ∙ own,
  carried_out lines s x c new h (sym line.verb) (house_is_no_review x line.house) line.carries (is_admitted lines s (verb_of_command c) h free) becomes,
)
