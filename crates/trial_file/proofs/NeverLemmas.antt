-- A run of the trial file is done, or comes short of an assignment.
use Rattle.std.proofs.Common.{◌≡◌, ℕ, zero, suc, ◌+◌, ◌*◌, ◌%◌, ◌<◌, ◌≤◌, ◌≢◌, Bool, true, false, not, cond, List, [], ◌∷◌, ◌++◌, length, map, flat_map, bytes_eq, None, refl, sym, ap, ◌∙◌, subst, inl, inr, arith, append_assoc, append-nil}
use Rattle.std.specs.Prelude.{codes, count_by, ◌⊎◌}
use Rattle.std.specs.List.{join_with_byte}
use Rattle.std.proofs.lemmas.Bool.{and_right, cases_Bool, not_from_false}
use Rattle.std.proofs.lemmas.List.{length-map, map-append}
use Rattle.std.proofs.lemmas.List.Sums.{length-filter}
use Rattle.house_base.specs.Text.{Text, among}
use Rattle.house_base.specs.declared.call.Call.{Call}
use Rattle.house_base.specs.declared.limits.TheConstants.{DOLLAR, MOST_APPLICANTS}
use Rattle.house_base.specs.declared.phase.Phase.TheVariants as phase
use Rattle.house_base.proofs.AmongLemmas.{bytes_eq-other, bytes_eq-same, not_among}
use Rattle.house_base.proofs.InOrderLemmas.{Apart, In, In-map, InOrder-push, flat_map-In, map-In}
use Rattle.peer_selection.specs.Counting.{numbers_below}
use Rattle.peer_selection.specs.FirstAssignment.{has_assignment}
use Rattle.peer_selection.proofs.CountingLemmas.{length-numbers_below, slice_get-numbers_below}
use Rattle.peer_selection.proofs.FirstAmongLemmas.{has_assignment-none}
use Rattle.house_model.specs.declared.command.Command.{Command}
use Rattle.house_model.specs.declared.command.Command.TheVariants as command
use Rattle.house_model.specs.declared.goal.Goal.TheVariants as goal
use Rattle.house_model.specs.declared.verb.Verb.TheVariants as verb
use Rattle.house_model.specs.Ending.{Ended, last_ended, stop_of}
use Rattle.house_model.specs.Faults.{fault}
use Rattle.house_model.specs.Register.{firsts, persons}
use Rattle.house_model.specs.Runs.{end_of, falls_short, halt, searches}
use Rattle.house_model.specs.Said.{denominator_of, has, phase_after, register, setting}
use Rattle.house_model.specs.Text.{Lines, lines, words as words_in}
use Rattle.house_model.specs.Verbs.{is_review, verb_in}
use Rattle.house_model.proofs.AtIndexLemmas.{In-slice_get}
use Rattle.house_model.proofs.GroupLemmas.{filter-all, filter-none, firsts-In}
use Rattle.house_model.proofs.PrintedCallLemmas.{below-In}
use Rattle.house_model.proofs.RegisterPeopleLemmas.{map-map}
use Rattle.house_model.proofs.RowTextLemmas.{words-joined}
use Rattle.house_model.proofs.RunEndLemmas.{shortage-ends}
use Rattle.command_text.specs.Printing.{command_line, command_words, IsFormed, IsInBounds}
use Rattle.command_text.specs.Reading.{IsCommandLine}
use Rattle.command_text.proofs.LineLemmas.{review_by_first}
use Rattle.command_text.proofs.ReadBackLemmas.{reads_only_as}
use Rattle.house_core.proofs.EndingLemmas.{stop_none}
use Rattle.house_core.proofs.PushLemmas.{has_other}
use Rattle.house_core.proofs.RefusalLemmas.{halt_by, halt_is, review_goes_on}
use Rattle.house_core.proofs.StepLemmas.{phase_drawn}
use Rattle.house_core.proofs.VerbLemmas.{commands_is}
use Rattle.trial_file.specs.Stream.{seed_words}
use Rattle.trial_file.specs.Trial.{IsTrial, applicant_row, call_row, draw_of_words, draw_row, made_file, made_lines, place_row, reviews_by, trial_name, trial_rows}
use Rattle.trial_file.proofs.FaultLemmas.{applicant_goes, assign_faultless, call_goes, close_goes, draw_goes, no_pairs_held, place_goes}
use Rattle.trial_file.proofs.LineLemmas.{lines_read, reviews_words}
use Rattle.trial_file.proofs.NameLemmas.{name_formed, names_apart}
use Rattle.trial_file.proofs.StandLemmas.{Stands, applicant_stands, assign_stands, close_stands, first_stands, place_stands, review_stands}

abbrev joined : List Text → Text
joined = join_with_byte 32

-- no line ends the run so far
record Runs (lines : Lines) (clusters : ℕ) (applicants : List (Text × Text)) (placed : List (Text × ℕ)) (assigned closed : Bool) : Type 0 where
  free : stop_of (halt goal.Run) lines ≡ None
  stands : Stands lines clusters applicants placed assigned closed

-- a line is that of a command, and is read back
read_back : (row : List Text) (c : Command) → row ≡ command_words c → IsFormed c → IsInBounds c → IsCommandLine (joined row) c
unfolding command_line
read_back row c words formed within = subst (λ ws. IsCommandLine (joined ws) c) (sym words) (reads_only_as c formed within).reads

-- The applicants and the places that some first numbers have.

own : ℕ → Text × Text
own i = (trial_name (i + 1), trial_name (i + 1))

place : ℕ → ℕ → Text × ℕ
place l i = (trial_name (i + 1), i % l + 1)

applicants_to : ℕ → List (Text × Text)
applicants_to i = map own (numbers_below i)

places_to : ℕ → ℕ → List (Text × ℕ)
places_to l i = map (place l) (numbers_below i)

mapped_push : {X : Type 0} (f : ℕ → X) (i : ℕ) → map f (numbers_below (suc i)) ≡ map f (numbers_below i) ++ f i ∷ []
unfolding numbers_below
mapped_push f i = map-append f (numbers_below i) (i ∷ [])

mapped_none : {X : Type 0} (f : ℕ → X) → map f (numbers_below 0) ≡ []
unfolding numbers_below
mapped_none f = refl

-- a number that comes later has another name
later : (i : ℕ) (t : Text) → i < MOST_APPLICANTS → t ≡ trial_name (i + 1) → In t (map (λ j. trial_name (j + 1)) (numbers_below i)) → ⊥
later i t small is m =
    let at = map-In (λ j. trial_name (j + 1)) t (numbers_below i) m in
    let below = below-In i at.0 at.1 in
    let same : i + 1 ≡ at.0 + 1 = names_apart (i + 1) (at.0 + 1) (omega (arith, small)) (omega (arith, below, small)) (sym is ∙ at.2) in
    omega (arith, same, below)

applicant_names : (i : ℕ) → map (λ a. a.0) (applicants_to i) ≡ map (λ j. trial_name (j + 1)) (numbers_below i)
unfolding applicants_to own
applicant_names i = map-map (λ a. a.0) own (numbers_below i)

applicant_persons : (i : ℕ) → map (λ a. a.1) (applicants_to i) ≡ map (λ j. trial_name (j + 1)) (numbers_below i)
unfolding applicants_to own
applicant_persons i = map-map (λ a. a.1) own (numbers_below i)

placed_persons : (l i : ℕ) → map (λ p. p.0) (places_to l i) ≡ map (λ j. trial_name (j + 1)) (numbers_below i)
unfolding places_to place
placed_persons l i = map-map (λ p. p.0) (place l) (numbers_below i)

applicants_count : (i : ℕ) → length (applicants_to i) ≡ i
unfolding applicants_to
applicants_count i = length-map (numbers_below i) own ∙ length-numbers_below i

new_among : (ts : List Text) (i : ℕ) → ts ≡ map (λ j. trial_name (j + 1)) (numbers_below i) → i < MOST_APPLICANTS → among ts (trial_name (i + 1)) ≡ false
new_among ts i are small = not_among ts (trial_name (i + 1)) (λ m. later i (trial_name (i + 1)) small refl (subst (λ us. In (trial_name (i + 1)) us) are m))

owns_none : (i : ℕ) → i < MOST_APPLICANTS → count_by (λ a. bytes_eq a.1 (trial_name (i + 1))) (applicants_to i) ≡ 0
owns_none i small =
    let test = λ (a : Text × Text). bytes_eq a.1 (trial_name (i + 1)) in
    let apart : (a : Text × Text) → In a (applicants_to i) → test a ≡ false =
    λ a m. bytes_eq-other a.1 (trial_name (i + 1)) (λ same. later i a.1 small same (subst (λ us. In a.1 us) (applicant_persons i) (In-map (λ x. x.1) a (applicants_to i) m))) in
    sym (length-filter test (applicants_to i)) ∙ ap length (filter-none test (applicants_to i) apart)

-- How many persons there are.

firsts-apart : (ts : List Text) → Apart ts → firsts ts ≡ ts
firsts-apart [] apart = refl
firsts-apart (t ∷ ts) apart =
    let rest = firsts-apart ts apart.1 in
    ap (λ us. t ∷ us)
    (filter-all (λ u. not (bytes_eq t u)) (firsts ts) (λ u m. not_from_false (bytes_eq t u) (bytes_eq-other t u (apart.0 u (firsts-In ts u m)))) ∙ rest)

names-apart : (n : ℕ) → n ≤ MOST_APPLICANTS → Apart (map (λ j. trial_name (j + 1)) (numbers_below n))
names-apart zero few = subst Apart (sym (mapped_none (λ j. trial_name (j + 1)))) tt
names-apart (suc i) few =
    subst Apart (sym (mapped_push (λ j. trial_name (j + 1)) i))
    (InOrder-push (λ a b. a ≢ b) (map (λ j. trial_name (j + 1)) (numbers_below i)) (trial_name (i + 1)) (names-apart i (omega (arith, few)))
    (λ t m same. later i t (omega (arith, few)) same m))

persons_count : (lines : Lines) (n : ℕ) → n ≤ MOST_APPLICANTS → (register lines).applicants ≡ applicants_to n → denominator_of (register lines) ≡ n * DOLLAR
unfolding denominator_of persons
persons_count lines n few are =
    let names = map (λ j. trial_name (j + 1)) (numbers_below n) in
    let theirs : map (λ a. a.1) (register lines).applicants ≡ names = ap (map (λ a. a.1)) are ∙ applicant_persons n in
    ap (λ ts. length (firsts ts) * DOLLAR) theirs
    ∙ ap (λ ts. length ts * DOLLAR) (firsts-apart names (names-apart n few))
    ∙ ap (λ k. k * DOLLAR) (length-map (numbers_below n) (λ j. trial_name (j + 1)) ∙ length-numbers_below n)

-- Review lines end nothing.

reviews_run : (lines xs : Lines) (clusters : ℕ) (applicants : List (Text × Text)) (placed : List (Text × ℕ)) → ((x : Text) → In x xs → is_review x ≡ true) →
    Runs lines clusters applicants placed true false → Runs (lines ++ xs) clusters applicants placed true false
reviews_run lines [] clusters applicants placed all runs =
    subst (λ ls. Runs ls clusters applicants placed true false) (sym (append-nil lines)) runs
reviews_run lines (x ∷ xs) clusters applicants placed all runs =
    let review = all x (inl refl) in
    subst (λ ls. Runs ls clusters applicants placed true false) (append_assoc lines (x ∷ []) xs)
    (reviews_run (lines ++ x ∷ []) xs clusters applicants placed (λ y m. all y (inr m))
    (record {
      free = stop_none (halt goal.Run) lines x runs.free (review_goes_on goal.Run lines x review);
      stands = review_stands lines x clusters applicants placed review runs.stands;
    }))

module _ (words : ℕ → ℕ) (n l m k : ℕ) (t : IsTrial n l m k) where
  few : n ≤ MOST_APPLICANTS
  few = t.applicants_in_range.1

  call : Call
  call = record {
    seats = k;
    clusters = l;
    reviews = m;
    seats_in_range = t.seats_in_range;
    clusters_in_range = t.clusters_in_range;
    reviews_in_range = t.reviews_in_range;
  }

  -- the call, with some applicants behind it
  opening : ℕ → Lines
  opening i = joined (call_row l m k) ∷ [] ++ map (λ j. joined (applicant_row j)) (numbers_below i)

  call_line : IsCommandLine (joined (call_row l m k)) (command.Call call)
  unfolding call
  call_line = read_back (call_row l m k) (command.Call call) refl tt tt

  applicant_line : (i : ℕ) → i < n → IsCommandLine (joined (applicant_row i)) (command.Applicant (trial_name (i + 1)) (trial_name (i + 1)))
  applicant_line i below =
      let name = trial_name (i + 1) in
      let formed = name_formed (i + 1) (omega (arith, below, few)) in
      read_back (applicant_row i) (command.Applicant name name)
      (ap (λ b. codes "applicant" ∷ name ∷ cond b [] (name ∷ [])) (sym (bytes_eq-same name name refl))) (formed, formed) tt

  place_line : (i : ℕ) → i < n → IsCommandLine (joined (place_row l i)) (command.Place (trial_name (i + 1)) (i % l + 1))
  place_line i below =
      let within : i % l < l = omega (arith, t.clusters_in_range.0) in
      read_back (place_row l i) (command.Place (trial_name (i + 1)) (i % l + 1)) refl (name_formed (i + 1) (omega (arith, below, few)))
      (omega arith, omega (arith, within, t.clusters_in_range.1))

  -- applicants come behind the call

  opening_grows : (i : ℕ) → opening (suc i) ≡ opening i ++ joined (applicant_row i) ∷ []
  unfolding opening
  opening_grows i =
      ap (λ xs. joined (call_row l m k) ∷ [] ++ xs) (mapped_push (λ j. joined (applicant_row j)) i)
      ∙ sym (append_assoc (joined (call_row l m k) ∷ []) (map (λ j. joined (applicant_row j)) (numbers_below i)) (joined (applicant_row i) ∷ []))

  opening_starts : opening 0 ≡ joined (call_row l m k) ∷ []
  unfolding opening
  opening_starts = ap (λ xs. joined (call_row l m k) ∷ [] ++ xs) (mapped_none (λ j. joined (applicant_row j)))

  call_runs : Runs (joined (call_row l m k) ∷ []) l [] [] false false
  unfolding stop_of call
  call_runs =
      let x = joined (call_row l m k) in
      record {
        free = stop_none (halt goal.Run) [] x refl (call_goes x (command.Call call) call_line refl);
        stands = first_stands x l (sym call_line.verb) call_line.carries.1;
      }

  applicant_runs : (i : ℕ) → i < n → Runs (opening i) l (applicants_to i) [] false false → Runs (opening (suc i)) l (applicants_to (suc i)) [] false false
  unfolding applicants_to own
  applicant_runs i below runs =
      let x = joined (applicant_row i) in
      let name = trial_name (i + 1) in
      let line = applicant_line i below in
      let small : i < MOST_APPLICANTS = omega (arith, below, few) in
      let goes = applicant_goes (opening i) x l (applicants_to i) [] name runs.stands line
      (new_among (map (λ a. a.0) (applicants_to i)) i (applicant_names i) small) (omega (arith, applicants_count i, small)) (owns_none i small) in
      let next : Runs (opening i ++ x ∷ []) l (applicants_to i ++ own i ∷ []) [] false false = record {
        free = stop_none (halt goal.Run) (opening i) x runs.free goes;
        stands = applicant_stands (opening i) x l (applicants_to i) [] name (sym line.verb) (sym line.carries) runs.stands;
      } in
      subst (λ ls. Runs ls l (applicants_to (suc i)) [] false false) (sym (opening_grows i))
      (subst (λ (as_to : List (Text × Text)). Runs (opening i ++ x ∷ []) l as_to [] false false) (sym (mapped_push own i)) next)

  opening_runs : (i : ℕ) → i ≤ n → Runs (opening i) l (applicants_to i) [] false false
  unfolding applicants_to
  opening_runs zero within =
      subst (λ ls. Runs ls l (applicants_to 0) [] false false) (sym opening_starts)
      (subst (λ (as_to : List (Text × Text)). Runs (joined (call_row l m k) ∷ []) l as_to [] false false) (sym (mapped_none own)) call_runs)
  opening_runs (suc i) within = applicant_runs i (omega arith) (opening_runs i (omega arith))

  -- places come behind the applicants

  placing : ℕ → Lines
  placing i = opening n ++ map (λ j. joined (place_row l j)) (numbers_below i)

  placing_grows : (i : ℕ) → placing (suc i) ≡ placing i ++ joined (place_row l i) ∷ []
  unfolding placing
  placing_grows i =
      ap (λ xs. opening n ++ xs) (mapped_push (λ j. joined (place_row l j)) i)
      ∙ sym (append_assoc (opening n) (map (λ j. joined (place_row l j)) (numbers_below i)) (joined (place_row l i) ∷ []))

  placing_starts : placing 0 ≡ opening n
  unfolding placing
  placing_starts = ap (λ xs. opening n ++ xs) (mapped_none (λ j. joined (place_row l j))) ∙ append-nil (opening n)

  is_person : (i : ℕ) → i < n → In (trial_name (i + 1)) (map (λ a. a.1) (applicants_to n))
  unfolding applicants_to own
  is_person i below = In-map (λ a. a.1) (own i) (applicants_to n) (In-map own i (numbers_below n) (In-slice_get (numbers_below n) i i (slice_get-numbers_below n i below)))

  place_runs : (i : ℕ) → i < n → Runs (placing i) l (applicants_to n) (places_to l i) false false → Runs (placing (suc i)) l (applicants_to n) (places_to l (suc i)) false false
  unfolding places_to place
  place_runs i below runs =
      let x = joined (place_row l i) in
      let name = trial_name (i + 1) in
      let line = place_line i below in
      let within : i % l < l = omega (arith, t.clusters_in_range.0) in
      let goes = place_goes (placing i) x l (applicants_to n) (places_to l i) name (i % l + 1) runs.stands line (omega (arith, within))
      (new_among (map (λ p. p.0) (places_to l i)) i (placed_persons l i) (omega (arith, below, few))) (is_person i below) in
      let next : Runs (placing i ++ x ∷ []) l (applicants_to n) (places_to l i ++ place l i ∷ []) false false = record {
        free = stop_none (halt goal.Run) (placing i) x runs.free goes;
        stands = place_stands (placing i) x l (applicants_to n) (places_to l i) name (i % l + 1) (sym line.verb) (sym line.carries) runs.stands;
      } in
      subst (λ ls. Runs ls l (applicants_to n) (places_to l (suc i)) false false) (sym (placing_grows i))
      (subst (λ (ps : List (Text × ℕ)). Runs (placing i ++ x ∷ []) l (applicants_to n) ps false false) (sym (mapped_push (place l) i)) next)

  placing_runs : (i : ℕ) → i ≤ n → Runs (placing i) l (applicants_to n) (places_to l i) false false
  unfolding places_to
  placing_runs zero within =
      subst (λ ls. Runs ls l (applicants_to n) (places_to l 0) false false) (sym placing_starts)
      (subst (λ (ps : List (Text × ℕ)). Runs (opening n) l (applicants_to n) ps false false) (sym (mapped_none (place l))) (opening_runs n (omega arith)))
  placing_runs (suc i) within = place_runs i (omega arith) (placing_runs i (omega arith))

  -- the assignment, where there is one

  abbrev assign : Text
  assign = joined (codes "assign" ∷ [])

  abbrev close : Text
  close = joined (codes "close" ∷ [])

  abbrev drawn : ℕ
  drawn = draw_of_words (words (n * m)) (words (n * m + 1)) n

  abbrev draw : Text
  draw = joined (draw_row words n (n * m))

  abbrev reviews : Lines
  reviews = map joined (flat_map (reviews_by words n m) (numbers_below n))

  assign_line : IsCommandLine assign command.Assign
  assign_line = read_back (codes "assign" ∷ []) command.Assign refl tt tt

  all_placed : (name : Text) → In name (map (λ a. a.1) (applicants_to n)) → In name (map (λ p. p.0) (places_to l n))
  all_placed name h = subst (λ us. In name us) (applicant_persons n ∙ sym (placed_persons l n)) h

  faultless : fault goal.Run (placing n) assign ≡ None
  faultless =
      assign_faultless (placing n) assign l (applicants_to n) (places_to l n) (placing_runs n (omega arith)).stands assign_line
      (omega (arith, applicants_count n, t.applicants_in_range.0)) all_placed

  assigned_runs : has_assignment (setting (placing n)) ≡ true → Runs (placing n ++ assign ∷ []) l (applicants_to n) (places_to l n) true false
  assigned_runs some =
      let runs = placing_runs n (omega arith) in
      let met : falls_short goal.Run (placing n) (verb_in assign) ≡ false =
      ap (falls_short goal.Run (placing n)) (sym assign_line.verb) ∙ and_right (searches goal.Run (placing n)) (not (has_assignment (setting (placing n)))) (ap not some) in
      record {
        free = stop_none (halt goal.Run) (placing n) assign runs.free
            (halt_is goal.Run (placing n) assign ∙ ap (λ o. halt_by o (falls_short goal.Run (placing n) (verb_in assign))) faultless ∙ ap (halt_by None) met);
        stands = assign_stands (placing n) assign l (applicants_to n) (places_to l n) (sym assign_line.verb) runs.stands;
      }

  -- the reviews

  review_row_of : (row : List Text) → In row (flat_map (reviews_by words n m) (numbers_below n)) → (ws : List Text) × (row ≡ codes "review" ∷ ws)
  unfolding reviews_by
  review_row_of row h =
      let by = flat_map-In (reviews_by words n m) row (numbers_below n) h in
      let at = map-In _ row (numbers_below m) by.2 in
      (_, at.2)

  are_reviews : (x : Text) → In x reviews → is_review x ≡ true
  are_reviews x h =
      let at = map-In joined x (flat_map (reviews_by words n m) (numbers_below n)) h in
      let row = review_row_of at.0 at.1 in
      let read : words_in (joined at.0) ≡ codes "review" ∷ row.0 = words-joined at.0 (reviews_words words n m few at.0 at.1) ∙ row.1 in
      ap is_review at.2 ∙ review_by_first (joined at.0) (codes "review") row.0 read

  reviewed_runs : has_assignment (setting (placing n)) ≡ true → Runs ((placing n ++ assign ∷ []) ++ reviews) l (applicants_to n) (places_to l n) true false
  reviewed_runs some = reviews_run (placing n ++ assign ∷ []) reviews l (applicants_to n) (places_to l n) are_reviews (assigned_runs some)

  -- the close and the draw

  close_line : IsCommandLine close command.Close
  close_line = read_back (codes "close" ∷ []) command.Close refl tt tt

  closed_runs : has_assignment (setting (placing n)) ≡ true →
      Runs (((placing n ++ assign ∷ []) ++ reviews) ++ close ∷ []) l (applicants_to n) (places_to l n) true true
  closed_runs some =
      let runs = reviewed_runs some in
      let before = (placing n ++ assign ∷ []) ++ reviews in
      record {
        free = stop_none (halt goal.Run) before close runs.free (close_goes before close l (applicants_to n) (places_to l n) runs.stands close_line);
        stands = close_stands before close l (applicants_to n) (places_to l n) (sym close_line.verb) runs.stands;
      }

  drawn_below : drawn < n * DOLLAR
  unfolding draw_of_words
  drawn_below = omega (arith, t.applicants_in_range.0)

  draw_line : IsCommandLine draw (command.Draw drawn)
  draw_line = read_back (draw_row words n (n * m)) (command.Draw drawn) refl (omega (arith, drawn_below, few)) tt

  done_by : (before : Lines) (x : Text) → stop_of (halt goal.Run) (before ++ x ∷ []) ≡ None → has verb.Call (before ++ x ∷ []) ≡ true → phase_after (before ++ x ∷ []) ≡ phase.Drawn →
      end_of goal.Run (before ++ x ∷ []) ≡ Ended.Done
  unfolding end_of last_ended
  done_by before x free called is_drawn = rw (free, called, is_drawn) refl

  abbrev all : Lines
  all = (((placing n ++ assign ∷ []) ++ reviews) ++ close ∷ []) ++ draw ∷ []

  is_done : has_assignment (setting (placing n)) ≡ true → end_of goal.Run all ≡ Ended.Done
  is_done some =
      let before = ((placing n ++ assign ∷ []) ++ reviews) ++ close ∷ [] in
      let runs = closed_runs some in
      let h = sym draw_line.verb in
      let below : drawn < denominator_of (register before) = omega (arith, drawn_below, persons_count before n few runs.stands.applicants_are) in
      done_by before draw (stop_none (halt goal.Run) before draw runs.free (draw_goes before draw l (applicants_to n) (places_to l n) drawn runs.stands draw_line below))
      (has_other verb.Draw verb.Call before draw h refl ∙ runs.stands.call) (phase_drawn before draw h runs.stands.is_assigned runs.stands.is_closed)

  -- where there is none, it comes short

  parts : all ≡ placing n ++ assign ∷ ((reviews ++ close ∷ []) ++ draw ∷ [])
  parts =
      ap (λ ls. ls ++ draw ∷ []) (append_assoc (placing n ++ assign ∷ []) reviews (close ∷ []) ∙ append_assoc (placing n) (assign ∷ []) (reviews ++ close ∷ []))
      ∙ append_assoc (placing n) (assign ∷ (reviews ++ close ∷ [])) (draw ∷ [])

  is_short : has_assignment (setting (placing n)) ≡ false → end_of goal.Run all ≡ Ended.Short
  is_short none =
      let runs = placing_runs n (omega arith) in
      (shortage-ends goal.Run all).1 (record {
        before = placing n;
        line = assign;
        behind = (reviews ++ close ∷ []) ++ draw ∷ [];
        parts = parts;
        unstopped = runs.free;
        assigns = commands_is assign verb.Assign verb.Assign (sym assign_line.verb);
        faultless = faultless;
        searched = ap not (no_pairs_held (placing n) assign l (applicants_to n) (places_to l n) false false runs.stands);
        none_valid = has_assignment-none (setting (placing n)) none;
      })

  -- these are all the lines

  joined_both : (xs ys : List (List Text)) (us vs : Lines) → map joined xs ≡ us → map joined ys ≡ vs → map joined (xs ++ ys) ≡ us ++ vs
  joined_both xs ys us vs p q = map-append joined xs ys ∙ ap (λ zs. zs ++ map joined ys) p ∙ ap (λ zs. us ++ zs) q

  all_lines : map joined (trial_rows words n l m k) ≡ all
  unfolding trial_rows opening placing
  all_lines =
      let applicants = map applicant_row (numbers_below n) in
      let places = map (place_row l) (numbers_below n) in
      let given = flat_map (reviews_by words n m) (numbers_below n) in
      let begin : List (List Text) = (codes "assign" ∷ []) ∷ [] in
      let last : List (List Text) = (codes "close" ∷ []) ∷ draw_row words n (n * m) ∷ [] in
      let to_applicants : List (List Text) = call_row l m k ∷ [] ++ applicants in
      let e1 : map joined to_applicants ≡ opening n =
      joined_both (call_row l m k ∷ []) applicants (joined (call_row l m k) ∷ []) (map (λ j. joined (applicant_row j)) (numbers_below n)) refl (map-map joined applicant_row (numbers_below n)) in
      let e2 : map joined (to_applicants ++ places) ≡ placing n =
      joined_both to_applicants places (opening n) (map (λ j. joined (place_row l j)) (numbers_below n)) e1 (map-map joined (place_row l) (numbers_below n)) in
      let e3 = joined_both (to_applicants ++ places) begin (placing n) (assign ∷ []) e2 refl in
      let e4 = joined_both (to_applicants ++ places ++ begin) given (placing n ++ assign ∷ []) reviews e3 refl in
      joined_both (to_applicants ++ places ++ begin ++ given) last ((placing n ++ assign ∷ []) ++ reviews) (close ∷ draw ∷ []) e4 refl
      ∙ sym (append_assoc ((placing n ++ assign ∷ []) ++ reviews) (close ∷ []) (draw ∷ []))

  pub ends : (end_of goal.Run (map joined (trial_rows words n l m k)) ≡ Ended.Done) ⊎ (end_of goal.Run (map joined (trial_rows words n l m k)) ≡ Ended.Short)
  ends = elim (cases_Bool (has_assignment (setting (placing n)))) [
    | inl some ↦ inl (ap (end_of goal.Run) all_lines ∙ is_done some)
    | inr none ↦ inr (ap (end_of goal.Run) all_lines ∙ is_short none)
  ]

-- so no line of the file is refused
pub never_refused : (seed n l m k : ℕ) → IsTrial n l m k →
    (end_of goal.Run (lines (made_file seed n l m k)) ≡ Ended.Done) ⊎ (end_of goal.Run (lines (made_file seed n l m k)) ≡ Ended.Short)
unfolding made_lines
never_refused seed n l m k t =
    let read = ap (end_of goal.Run) (lines_read seed n l m k t) in
    elim (ends (seed_words seed) n l m k t) [ inl done ↦ inl (read ∙ done) | inr short ↦ inr (read ∙ short) ]
