-- The text with which a run for the report ends: it is one, and it is ASCII.
use Rattle.std.proofs.Common.{◌≡◌, ℕ, ◌+◌, ◌-◌, ◌<◌, Bool, true, false, cond, List, [], ◌∷◌, ◌++◌, length, map, filter, Option, Some, None, refl, sym, ap, ◌∙◌, subst, inl, inr, arith, length-append, IsTrue}
use Rattle.std.specs.Prelude.{IsAscii, codes, decimal, find, is_some, slice_get, ◌&&◌, nat_le, nat_lt}
use Rattle.std.specs.Option.{option_map_or}
use Rattle.house_base.specs.declared.plan.Owner.{Owner}
use Rattle.house_base.specs.declared.plan.Person.{Person}
use Rattle.house_base.specs.Name.{is_name}
use Rattle.house_base.specs.Setting.{Setting, size, name_at}
use Rattle.house_base.specs.Text.{Text}
use Rattle.house_base.proofs.InOrderLemmas.{In, In-from_Contains, All-In, map-In}
use Rattle.house_base.proofs.Settings.{Contains-find}
use Rattle.peer_selection.specs.Counting.{count_below, numbers_below}
use Rattle.peer_selection.specs.Shortage.{Demand, IsShortage, IsWithin, Places, allowed, assignment_demand, capacity, needed_in, room_outside}
use Rattle.peer_selection.proofs.CountingLemmas.{count_below-same, sum_below-same}
use Rattle.house_model.specs.declared.goal.Goal.TheVariants as goal
use Rattle.house_model.specs.declared.outcome.ApplicantRow.{ApplicantRow}
use Rattle.house_model.specs.Ending.{Ended, Halt, Rule, in_force, in_force_after, stop_after, stop_of}
use Rattle.house_model.specs.EndTexts.{IsEndText, IsShortText, IsTextOfEnd}
use Rattle.house_model.specs.ReadBack.{HasFormedNames}
use Rattle.house_model.specs.Register.{Register, own_count, own_people, owners_from, persons}
use Rattle.house_model.specs.Report.{applicant_row, applicant_rows_of, line_of, outcome_of, person_at, place_of_number, report}
use Rattle.house_model.specs.Reviews.{asides_of, profile}
use Rattle.house_model.specs.Runs.{end_of, halt, looked_at, report_of, taken}
use Rattle.house_model.specs.Said.{draw_of, register, setting}
use Rattle.house_model.specs.Seeds.{open_setting_in, setting_in}
use Rattle.house_model.specs.Text.{Lines}
use Rattle.house_model.specs.Texts.{proposals_in, reviewers_in, short_text, short_words}
use Rattle.house_model.proofs.AsciiLemmas.{AreAscii, IsAscii-from_test, ascii-append, is_ascii, line-ascii, name-ascii, number-ascii, outcome-ascii, refused-ascii}
use Rattle.house_model.proofs.AtIndexLemmas.{In-slice_get}
use Rattle.house_model.proofs.FormedNameLemmas.{names-formed}
use Rattle.house_model.proofs.OrderedLemmas.{IsOrder, people_in}
use Rattle.house_model.proofs.PrintedCallLemmas.{below-In}
use Rattle.house_model.proofs.RegisterPeopleLemmas.{length-own_people, own_count-some}
use Rattle.house_model.proofs.SeedLemmas.{IsOrder-seeded, setting_in-seeded}
use Rattle.house_model.proofs.SeededSettingLemmas.{HasFormedNames-seeded, seeded_persons-moves}

-- There is one shortage that the rules print.

both_within : (n : ℕ) (a b : Places) → IsWithin n a b → IsWithin n b a → (i : ℕ) → i < n → a i ≡ b i
both_within n a b there back i below = same (a i) (b i) (there i below) (back i below) where
  same : (x y : Bool) → (x ≡ true → y ≡ true) → (y ≡ true → x ≡ true) → x ≡ y
  same true y h k = sym (h refl)
  same false true h k = k refl
  same false false h k = refl

module _ (d : Demand) (a b c e : Places) (x : IsShortage d a b) (y : IsShortage d c e) where
  same_capacity : capacity d c e ≡ capacity d a b
  same_capacity = omega (arith, x.greatest c e, y.greatest a b)

  same_reviewers : (r : ℕ) → r < d.side → a r ≡ c r
  same_reviewers = both_within d.side a c (x.least c e same_capacity) (y.least a b (sym same_capacity))

  same_proposals : (p : ℕ) → p < d.side → b p ≡ e p
  same_proposals = both_within d.side b e (y.largest a b (sym same_capacity)) (x.largest c e same_capacity)

-- Its text tells no more of the places than which of those below the size are in them.

module _ (d : Demand) (a b c e : Places) (same_a : (r : ℕ) → r < d.side → a r ≡ c r) (same_b : (p : ℕ) → p < d.side → b p ≡ e p) where
  same_needed : needed_in d a ≡ needed_in d c
  unfolding needed_in
  same_needed = sum_below-same (λ r. cond (a r) (d.need r) 0) (λ r. cond (c r) (d.need r) 0) d.side (λ r l. ap (λ t. cond t (d.need r) 0) (same_a r l))

  same_room : room_outside d b ≡ room_outside d e
  unfolding room_outside
  same_room = sum_below-same (λ p. cond (b p) 0 (d.room p)) (λ p. cond (e p) 0 (d.room p)) d.side (λ p l. ap (λ t. cond t 0 (d.room p)) (same_b p l))

  same_row : (r : ℕ) → count_below (λ p. b p && d.may r p) d.side ≡ count_below (λ p. e p && d.may r p) d.side
  same_row r = count_below-same (λ p. b p && d.may r p) (λ p. e p && d.may r p) d.side (λ p l. ap (λ t. t && d.may r p) (same_b p l))

  same_allowed : allowed d a b ≡ allowed d c e
  unfolding allowed
  same_allowed =
      sum_below-same (λ r. cond (a r) (count_below (λ p. b p && d.may r p) d.side) 0) (λ r. cond (c r) (count_below (λ p. e p && d.may r p) d.side) 0) d.side
      (λ r l. ap (λ t. cond t (count_below (λ p. b p && d.may r p) d.side) 0) (same_a r l) ∙ ap (λ t. cond (c r) t 0) (same_row r))

-- two tests that agree on each element of a list
filter-same : {X : Type 0} (f g : X → Bool) (xs : List X) → ((x : X) → In x xs → f x ≡ g x) → filter f xs ≡ filter g xs
filter-same f g [] h = refl
filter-same f g (x ∷ xs) h =
    ap (λ t. cond t (x ∷ filter f xs) (filter f xs)) (h x (inl refl))
    ∙ ap (λ ys. cond (g x) (x ∷ ys) ys) (filter-same f g xs (λ y m. h y (inr m)))

-- the first places of the persons are places
abbrev pub FirstsBelow : Setting → Type 0
FirstsBelow s = (owner : Owner) → In owner s.owners → owner.first < size s

same_short_text : (s : Setting) (a b c e : Places) → FirstsBelow s → ((r : ℕ) → r < size s → a r ≡ c r) → ((p : ℕ) → p < size s → b p ≡ e p)
    → short_text s a b ≡ short_text s c e
unfolding short_text short_words reviewers_in proposals_in
same_short_text s a b c e firsts same_a same_b =
    let d = assignment_demand s in
    let reviewers = filter-same (λ (owner : Owner). a owner.first) (λ owner. c owner.first) s.owners (λ owner m. same_a owner.first (firsts owner m)) in
    let proposals = filter-same b e (numbers_below (size s)) (λ p m. same_b p (below-In (size s) p m)) in
    let some_allowed = same_allowed d a b c e same_a same_b in
    let some_needed = same_needed d a b c e same_a same_b in
    let room = same_room d a b c e same_a same_b in
    λ i. line_of (codes "short" ∷ codes "allowed" ∷ decimal (some_allowed i) ∷ codes "needed" ∷ decimal (some_needed i - room i) ∷ [])
    ++ line_of (codes "reviewers" ∷ map (λ owner. owner.name) (reviewers i))
    ++ line_of (codes "proposals" ∷ map (name_at s) (proposals i))

first_below : (reg : Register) (first : ℕ) (order : List Text) (owner : Owner) → ((t : Text) → In t order → In t (persons reg))
    → In owner (owners_from reg first order) → owner.first < first + length (people_in reg order)
first_below reg first [] owner only m = absurd m
first_below reg first (person ∷ others) owner only m =
    let own = own_count-some reg person (only person (inl refl)) in
    let length_own = length-own_people reg person in
    let whole = length-append (own_people reg person) (people_in reg others) in
    elim m [
      | inl e ↦ let at : owner.first ≡ first = ap (λ o. o.first) e in omega (arith, at, own, length_own, whole)
      | inr there ↦
          let later = first_below reg (first + own_count reg person) others owner (λ t among. only t (inr among)) there in
          omega (arith, later, length_own, whole)
    ]

firsts_in : (order : List Text) (seats clusters reviews : ℕ) (reg : Register) → IsOrder reg order → FirstsBelow (setting_in order seats clusters reviews reg)
unfolding setting_in open_setting_in
firsts_in order seats clusters reviews reg o owner m =
    let below = first_below reg 0 order owner o.only m in
    omega (arith, below)

pub firsts_below : (lines : Lines) → FirstsBelow (setting lines)
unfolding setting
firsts_below lines =
    let reg = register lines in
    subst FirstsBelow (setting_in-seeded _ _ _ _ reg) (firsts_in _ _ _ _ _ (IsOrder-seeded _ _ reg (seeded_persons-moves _ reg)))

pub short_text-determined : (lines : Lines) (one other : List ℕ) → IsShortText one lines → IsShortText other lines → one ≡ other
short_text-determined lines one other x y =
    let s = setting lines in
    let d = assignment_demand s in
    let same = same_short_text s x.0 x.1 y.0 y.1 (firsts_below lines) (same_reviewers d x.0 x.1 y.0 y.1 x.2 y.2) (same_proposals d x.0 x.1 y.0 y.1 x.2 y.2) in
    x.3 ∙ (same ∙ sym y.3)

text_of_end-determined : (end : Ended) (lines : Lines) (one other : List ℕ) → IsTextOfEnd end goal.Run lines one → IsTextOfEnd end goal.Run lines other → one ≡ other
text_of_end-determined Ended.Done lines one other x y = x ∙ sym y
text_of_end-determined Ended.Settled lines one other x y = x ∙ sym y
text_of_end-determined (Ended.Refused line why) lines one other x y = x ∙ sym y
text_of_end-determined Ended.Short lines one other x y = short_text-determined lines one other x y

-- two texts with which the same lines end are one
pub end_text-determined : (lines : Lines) (one other : List ℕ) → IsEndText lines one → IsEndText lines other → one ≡ other
end_text-determined lines = text_of_end-determined (end_of goal.Run lines) (taken goal.Run lines)

-- The lines that are taken end no run, so that the names on record are of their form.

in_force-unstopped : (rule : Rule) (before lines : Lines) → stop_after rule before (in_force_after rule before lines) ≡ None
in_force-unstopped rule before [] = refl
in_force-unstopped rule before (line ∷ lines) = by (rule before line) refl (in_force-unstopped rule (before ++ line ∷ []) lines) where
  rest : Lines
  rest = in_force_after rule (before ++ line ∷ []) lines

  by : (why : Option Halt) → rule before line ≡ why → stop_after rule (before ++ line ∷ []) rest ≡ None → stop_after rule before (cond (is_some why) [] (line ∷ rest)) ≡ None
  by (Some why) is more = refl
  by None is more =
      ap (λ o. option_map_or (λ w. Some (length before + 1, w)) o (stop_after rule (before ++ line ∷ []) rest)) is ∙ more

pub taken-unstopped : (lines : Lines) → stop_of (halt goal.Run) (taken goal.Run lines) ≡ None
unfolding taken stop_of in_force
taken-unstopped lines = in_force-unstopped (halt goal.Run) [] (looked_at goal.Run lines)

formed_of_taken : (lines : Lines) → HasFormedNames (setting (taken goal.Run lines))
unfolding setting
formed_of_taken lines =
    HasFormedNames-seeded _ _ _ _ (register (taken goal.Run lines)) (names-formed goal.Run (taken goal.Run lines) (taken-unstopped lines))

-- So the text is ASCII.

owner_names-ascii : (test : Owner → Bool) (owners : List Owner) → ((owner : Owner) → In owner owners → is_ascii owner.name ≡ true)
    → AreAscii (map (λ owner. owner.name) (filter test owners))
owner_names-ascii test [] ascii = tt
owner_names-ascii test (owner ∷ owners) ascii = by (test owner) (owner_names-ascii test owners (λ o m. ascii o (inr m))) where
  rest : List Owner
  rest = filter test owners

  by : (among : Bool) → AreAscii (map (λ owner. owner.name) rest) → AreAscii (map (λ owner. owner.name) (cond among (owner ∷ rest) rest))
  by true more = (ascii owner (inl refl), more)
  by false more = more

module _ (s : Setting) (h : HasFormedNames s) where
  owner-ascii : (owner : Owner) → In owner s.owners → is_ascii owner.name ≡ true
  owner-ascii owner m = name-ascii owner.name (All-In (λ owner. IsTrue (is_name owner.name)) s.owners owner h.persons m)

  name_at-ascii : (place : ℕ) → is_ascii (name_at s place) ≡ true
  unfolding name_at
  name_at-ascii place = by (slice_get s.people place) refl where
    by : (found : Option Person) → slice_get s.people place ≡ found → is_ascii (option_map_or (λ person. person.name) found []) ≡ true
    by None is = refl
    by (Some person) is =
        name-ascii person.name (All-In (λ person. IsTrue (is_name person.name)) s.people person h.applicants (In-slice_get s.people place person is))

  person_at-ascii : (place : ℕ) → is_ascii (person_at s place) ≡ true
  unfolding person_at
  person_at-ascii place = by (find test s.owners) refl where
    test : Owner → Bool
    test owner = nat_le owner.first place && nat_lt place (owner.first + owner.own)

    by : (found : Option Owner) → find test s.owners ≡ found → is_ascii (option_map_or (λ owner. owner.name) found []) ≡ true
    by None is = refl
    by (Some owner) is = owner-ascii owner (In-from_Contains owner s.owners (Contains-find test s.owners owner is))

  owners-ascii : (a : Places) → AreAscii (reviewers_in s a)
  unfolding reviewers_in
  owners-ascii a = owner_names-ascii (λ owner. a owner.first) s.owners owner-ascii

  names-ascii : (places : List ℕ) → AreAscii (map (name_at s) places)
  names-ascii [] = tt
  names-ascii (place ∷ places) = (name_at-ascii place, names-ascii places)

  short-ascii : (a b : Places) → is_ascii (short_text s a b) ≡ true
  unfolding short_text short_words proposals_in
  short-ascii a b =
      let d = assignment_demand s in
      let numbers = codes "short" ∷ codes "allowed" ∷ decimal (allowed d a b) ∷ codes "needed" ∷ decimal (needed_in d a - room_outside d b) ∷ [] in
      let reviewers = codes "reviewers" ∷ reviewers_in s a in
      let proposals = codes "proposals" ∷ map (name_at s) (filter b (numbers_below (size s))) in
      ascii-append (line_of numbers ++ line_of reviewers) (line_of proposals)
      (ascii-append (line_of numbers) (line_of reviewers)
      (line-ascii numbers (refl, (refl, (number-ascii (allowed d a b), (refl, (number-ascii (needed_in d a - room_outside d b), tt))))))
      (line-ascii reviewers (refl, owners-ascii a)))
      (line-ascii proposals (refl, names-ascii (filter b (numbers_below (size s)))))

report-ascii : (lines : Lines) → HasFormedNames (setting lines) → is_ascii (report_of lines) ≡ true
unfolding report_of report outcome_of applicant_rows_of applicant_row profile
report-ascii lines h =
    outcome-ascii (outcome_of (profile lines) (asides_of goal.Run lines) (draw_of lines)) (λ row m.
    let at = map-In (λ number. applicant_row (profile lines) (draw_of lines) (place_of_number (setting lines) number)) row (numbers_below (size (setting lines))) m in
    let place = place_of_number (setting lines) at.0 in
    (ap (λ (r : ApplicantRow). is_ascii r.name) at.2 ∙ name_at-ascii (setting lines) h place, ap (λ (r : ApplicantRow). is_ascii r.person) at.2 ∙ person_at-ascii (setting lines) h place))

text_of_end-ascii : (end : Ended) (lines : Lines) (text : List ℕ) → HasFormedNames (setting lines) → IsTextOfEnd end goal.Run lines text → is_ascii text ≡ true
text_of_end-ascii Ended.Done lines text h writes = ap is_ascii writes ∙ report-ascii lines h
text_of_end-ascii Ended.Settled lines text h writes = ap is_ascii writes ∙ report-ascii lines h
text_of_end-ascii (Ended.Refused line why) lines text h writes = ap is_ascii writes ∙ refused-ascii line why
text_of_end-ascii Ended.Short lines text h writes = ap is_ascii writes.3 ∙ short-ascii (setting lines) h writes.0 writes.1

-- the text with which lines end is ASCII
pub end_text-ascii : (lines : Lines) (text : List ℕ) → IsEndText lines text → IsAscii text
end_text-ascii lines text writes =
    IsAscii-from_test text (text_of_end-ascii (end_of goal.Run lines) (taken goal.Run lines) text (formed_of_taken lines) writes)
