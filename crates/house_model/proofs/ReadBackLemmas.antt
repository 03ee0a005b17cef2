-- Where the lines of an assignment's text stand in an opening as its pairs, the assignment is the same.
use Rattle.std.proofs.Common.{◌≡◌, ◌≢◌, ℕ, ◌<◌, Bool, true, false, not, ◌&&◌, eqb, List, [], ◌∷◌, length, map, filter, find, IsTrue, Option, Some, None, is_some, refl, sym, ap, ◌∙◌, subst, inl, inr, arith}
use Rattle.std.specs.List.{list_any}
use Rattle.std.specs.Option.{option_map, option_map_or}
use Rattle.std.specs.Str.{bytes_eq}
use Rattle.std.proofs.lemmas.Bool.{false≢true, both_ways, and_parts, and_from, or_cases, or_left, or_right, cond-true, false_from_ne_true, not_from_false, eqb-true}
use Rattle.house_base.specs.declared.plan.Owner.{Owner}
use Rattle.house_base.specs.Grid.{cell}
use Rattle.house_base.specs.Name.{is_name}
use Rattle.house_base.specs.Setting.{Setting, IsSetting, size, names_of, cluster_at, owner_from, may, name_at}
use Rattle.house_base.specs.Text.{Text}
use Rattle.house_base.proofs.AmongLemmas.{same_text, bytes_eq-same}
use Rattle.house_base.proofs.InOrderLemmas.{In, In-Contains, In-from_Contains, In-map, In-flat_map, All-In, InOrder-from_AllPairs}
use Rattle.peer_selection.specs.Counting.{count_below}
use Rattle.peer_selection.specs.FirstAssignment.{first_assignment}
use Rattle.peer_selection.specs.Profile.{Pairs, Profile, is_valid, proposals_of, row}
use Rattle.peer_selection.proofs.CountingLemmas.{count_below-none}
use Rattle.peer_selection.proofs.DistanceLemmas.{row-holds}
use Rattle.peer_selection.proofs.ValidLemmas.{is_valid-each}
use Rattle.house_model.specs.declared.verb.Verb.{Verb}
use Rattle.house_model.specs.declared.verb.Verb.TheVariants as verb
use Rattle.house_model.specs.ReadBack.{HasFormedNames, named_pairs, AreReadBack}
use Rattle.house_model.specs.Register.{Register, persons, person_of, own_count, cluster_of, own_people, people, owners, reviewer_at, name_pair, pair_among, open_setting, registered_setting}
use Rattle.house_model.specs.Said.{those, call_number, number, register, seed_of, setting, has_pairs, run_pairs, pair_in}
use Rattle.house_model.specs.Seeds.{key_rank, drawn_cluster, drawn_persons, drawn_register, open_setting_in, setting_in, seeded_setting}
use Rattle.house_model.specs.Text.{Lines, word}
use Rattle.house_model.specs.Verbs.{verb_in, verb_number, commands, is_house}
use Rattle.house_model.proofs.AtIndexLemmas.{same_index}
use Rattle.house_model.proofs.HouseLineLemmas.{filter-within, find-within, command_of_house}
use Rattle.house_model.proofs.OwnReviewLemmas.{same_name}
use Rattle.house_model.proofs.PairTextLemmas.{named_pairs-In, pairs_text-read}
use Rattle.house_model.proofs.ReviewerLemmas.{cases_owner, reviewer_at-some, reviewer_at-none, no_name, name_at-slice_get}

-- The pairs by their names are the pairs.

named-among : (ps : List (Text × Text)) (a b : Text) → In (a, b) ps → pair_among ps a b ≡ true
unfolding pair_among
named-among [] a b m = absurd m
named-among (p ∷ ps) a b m =
    elim m [
      | inl e ↦ or_left (bytes_eq p.0 a && bytes_eq p.1 b) (list_any (λ q. bytes_eq q.0 a && bytes_eq q.1 b) ps)
          (and_from (bytes_eq p.0 a) (bytes_eq p.1 b) (bytes_eq-same p.0 a (ap (λ (q : Text × Text). q.0) (sym e))) (bytes_eq-same p.1 b (ap (λ (q : Text × Text). q.1) (sym e))))
      | inr later ↦ or_right (bytes_eq p.0 a && bytes_eq p.1 b) (list_any (λ q. bytes_eq q.0 a && bytes_eq q.1 b) ps) (named-among ps a b later)
    ]

among-named : (ps : List (Text × Text)) (a b : Text) → pair_among ps a b ≡ true → In (a, b) ps
unfolding pair_among
among-named [] a b h = absurd (false≢true h)
among-named (p ∷ ps) a b h =
    elim (or_cases (bytes_eq p.0 a && bytes_eq p.1 b) (list_any (λ q. bytes_eq q.0 a && bytes_eq q.1 b) ps) h) [
      | inl here ↦
          let both = and_parts (bytes_eq p.0 a) (bytes_eq p.1 b) here in
          inl (λ i. (sym (same_text p.0 a both.0) i, sym (same_text p.1 b both.1) i))
      | inr later ↦ inr (among-named ps a b later)
    ]

alike : (x y : Bool) → (x ≡ true → y ≡ true) → (y ≡ true → x ≡ true) → x ≡ y
alike true y h k = sym (h refl)
alike false true h k = k refl
alike false false h k = refl

module _ (s : Setting) (pairs : Pairs) (h : IsSetting s) (formed : HasFormedNames s) (valid : IsTrue (is_valid s pairs)) where
  abbrev named : List (Text × Text)
  named = named_pairs s pairs

  one_place : (p q : ℕ) → p < size s → q < size s → name_at s p ≡ name_at s q → p ≡ q
  one_place p q pl ql e =
      same_index (names_of s) p q (name_at s p) (InOrder-from_AllPairs (λ a b. a ≢ b) (names_of s) h.names_differ)
      (name_at-slice_get s p pl) (name_at-slice_get s q ql ∙ ap Some (sym e))

  -- a person of this name stands at no other place
  place_of_name : (owner : Owner) (r : ℕ) → In owner s.owners → reviewer_at s r ≡ owner.name → r ≡ owner.first
  place_of_name owner r m named_so =
      elim (cases_owner s r) [
        | inl (o, among, at, found) ↦
            sym at ∙ ap (λ o. o.first) (same_name s o owner h among (In-Contains owner s.owners m) (sym (reviewer_at-some s r o found) ∙ named_so))
        | inr none ↦ absurd (no_name owner.name (All-In (λ owner. IsTrue (is_name owner.name)) s.owners owner formed.persons m) (sym named_so ∙ reviewer_at-none s r none))
      ]

  named-holds : (r p : ℕ) → p < size s → pair_among named (reviewer_at s r) (name_at s p) ≡ true → pairs r p ≡ true
  named-holds r p pl there =
      let n = named_pairs-In s pairs (reviewer_at s r, name_at s p) (among-named named (reviewer_at s r) (name_at s p) there) in
      let at_r = place_of_name n.owner r n.among (ap (λ (q : Text × Text). q.0) n.names) in
      let at_p = one_place p n.proposal pl n.within (ap (λ (q : Text × Text). q.1) n.names) in
      ap (λ i. pairs i p) at_r ∙ (ap (pairs n.owner.first) at_p ∙ n.reviews)

  holds-named : (r p : ℕ) → r < size s → p < size s → pairs r p ≡ true → pair_among named (reviewer_at s r) (name_at s p) ≡ true
  unfolding may named_pairs row
  holds-named r p rl pl reviews =
      let permitted = (is_valid-each s pairs valid).permitted r p rl pl reviews in
      let a_person = (and_parts (is_some (owner_from s r) && not (eqb (cluster_at s r) (cluster_at s p))) (not (cell s.barred r p)) permitted).0 in
      let some_owner = (and_parts (is_some (owner_from s r)) (not (eqb (cluster_at s r) (cluster_at s p))) a_person).0 in
      let silent : Profile = record { setting = s; pairs = pairs; points = λ i q. 0 } in
      let in_row = In-from_Contains p (proposals_of s pairs r) ((row-holds silent r rl p pl).1 reviews) in
      elim (cases_owner s r) [
        | inl (o, among, at, found) ↦
            let at_first : In p (proposals_of s pairs o.first) = subst (λ i. In p (proposals_of s pairs i)) (sym at) in_row in
            let one : In (o.name, name_at s p) named =
            In-flat_map (λ owner. map (λ q. (owner.name, name_at s q)) (proposals_of s pairs owner.first)) o (o.name, name_at s p) s.owners (In-from_Contains o s.owners among)
            (In-map (λ q. (o.name, name_at s q)) p (proposals_of s pairs o.first) at_first) in
            named-among named (reviewer_at s r) (name_at s p) (subst (λ t. In (t, name_at s p) named) (sym (reviewer_at-some s r o found)) one)
        | inr none ↦ absurd (both_ways (is_some (owner_from s r)) (ap is_some none) some_owner)
      ]

  named-same : (r p : ℕ) → r < size s → p < size s → pair_among named (reviewer_at s r) (name_at s p) ≡ pairs r p
  named-same r p rl pl =
      alike (pair_among named (reviewer_at s r) (name_at s p)) (pairs r p) (named-holds r p pl) (holds-named r p rl pl)

  -- a valid assignment has a pair
  some-named : eqb (length named) 0 ≡ false
  unfolding pair_among
  some-named = false_from_ne_true (eqb (length named) 0) (λ e.
      let none : named ≡ [] = nothing named (eqb-true (length named) 0 e) in
      let empty : count_below (λ r. pairs r 0) (size s) ≡ 0 =
      count_below-none (λ r. pairs r 0) (size s) (λ r rl. sym (named-same r 0 rl h.some) ∙ ap (λ ps. pair_among ps (reviewer_at s r) (name_at s 0)) none) in
      absurd (omega (arith, empty, (is_valid-each s pairs valid).reviewed 0 h.some, h.reviews_in_range.0)))
    where
      nothing : (ps : List (Text × Text)) → length ps ≡ 0 → ps ≡ []
      nothing [] e = refl
      nothing (p ∷ ps) e = absurd (omega (arith, e))

-- What the other lines say.

module _ (opening others : Lines) (back : AreReadBack opening others) where
  not_a_pair : (v : Verb) → eqb (verb_number v) 5 ≡ false → (line : Text) → commands v line ≡ true → not (commands verb.Pair line) ≡ true
  not_a_pair v other line h =
      not_from_false (commands verb.Pair line) (ap (λ n. eqb n 5) (eqb-true (verb_number (verb_in line)) (verb_number v) h) ∙ other)

  in_rest : (v : Verb) → verb_number v < 11 → eqb (verb_number v) 5 ≡ false → (line : Text) → commands v line ≡ true → (is_house line && not (commands verb.Pair line)) ≡ true
  in_rest v l other line h = and_from (is_house line) (not (commands verb.Pair line)) (command_of_house v l line h) (not_a_pair v other line h)

  those-rest : (v : Verb) → verb_number v < 11 → eqb (verb_number v) 5 ≡ false → those v others ≡ those v opening
  unfolding those
  those-rest v l other =
      let test = λ (line : Text). is_house line && not (commands verb.Pair line) in
      sym (filter-within (commands v) test (in_rest v l other) others) ∙ (ap (filter (commands v)) back.same_rest ∙ filter-within (commands v) test (in_rest v l other) opening)

  find-rest : (v : Verb) → verb_number v < 11 → eqb (verb_number v) 5 ≡ false → find (commands v) others ≡ find (commands v) opening
  find-rest v l other =
      let test = λ (line : Text). is_house line && not (commands verb.Pair line) in
      sym (find-within (commands v) test (in_rest v l other) others) ∙ (ap (find (commands v)) back.same_rest ∙ find-within (commands v) test (in_rest v l other) opening)

  call_number-rest : (i : ℕ) → call_number others i ≡ call_number opening i
  unfolding call_number
  call_number-rest i = ap (λ o. option_map_or (λ line. number (word line i)) o 0) (find-rest verb.Call (omega arith) refl)

  seed_of-rest : seed_of others ≡ seed_of opening
  unfolding seed_of
  seed_of-rest = ap (option_map (λ line. word line 1)) (find-rest verb.Partition (omega arith) refl)

  register-rest : register others ≡ record (register opening) { pairs = (register others).pairs }
  unfolding register
  register-rest = rw (those-rest verb.Applicant (omega arith) refl, those-rest verb.Place (omega arith) refl, those-rest verb.Conflict (omega arith) refl) refl

-- the setting of a register has nothing of its pairs
seeded_setting-pairs : (seed : Option Text) (seats clusters reviews : ℕ) (reg : Register) (ps : List (Text × Text)) →
    seeded_setting seed seats clusters reviews (record reg { pairs = ps }) ≡ seeded_setting seed seats clusters reviews reg
unfolding persons person_of own_count cluster_of own_people people owners open_setting registered_setting key_rank drawn_cluster drawn_persons drawn_register open_setting_in setting_in
seeded_setting-pairs None seats clusters reviews reg ps = refl
seeded_setting-pairs (Some seed) seats clusters reviews reg ps = refl

pub setting-read_back : (opening others : Lines) → AreReadBack opening others → setting others ≡ setting opening
unfolding setting
setting-read_back opening others back =
    let reg = register-rest opening others back in
    rw (seed_of-rest opening others back, call_number-rest opening others back 1, call_number-rest opening others back 2, call_number-rest opening others back 3)
    (ap (seeded_setting (seed_of opening) (call_number opening 1) (call_number opening 2) (call_number opening 3)) reg
    ∙ seeded_setting-pairs (seed_of opening) (call_number opening 1) (call_number opening 2) (call_number opening 3) (register opening) (register others).pairs)

register-pairs : (all : Lines) → (register all).pairs ≡ map pair_in (those verb.Pair all)
unfolding register
register-pairs all = refl

name_pair-at : (ps : List (Text × Text)) (s : Setting) (r p : ℕ) (b : Bool) → pair_among ps (reviewer_at s r) (name_at s p) ≡ b → name_pair ps s r p ≡ b
unfolding name_pair
name_pair-at ps s r p b e = e

pub pairs-read_back : (opening others : Lines) → AreReadBack opening others → IsSetting (setting opening) → HasFormedNames (setting opening)
    → IsTrue (is_valid (setting opening) (run_pairs opening)) → (r p : ℕ) → r < size (setting opening) → p < size (setting opening)
    → run_pairs others r p ≡ run_pairs opening r p
unfolding run_pairs has_pairs
pairs-read_back opening others back h formed valid r p rl pl =
    let s = setting opening in
    let read : (register others).pairs ≡ named_pairs s (run_pairs opening) = register-pairs others ∙ (ap (map pair_in) back.pairs ∙ pairs_text-read s (run_pairs opening) formed) in
    let made : not (eqb (length (register others).pairs) 0) ≡ true =
    ap (λ ps. not (eqb (length ps) 0)) read ∙ not_from_false (eqb (length (named_pairs s (run_pairs opening))) 0) (some-named s (run_pairs opening) h formed valid) in
    ap (λ (pairs : Pairs). pairs r p) (cond-true (not (eqb (length (register others).pairs) 0)) (name_pair (register others).pairs (setting others)) (first_assignment (setting others)) made)
    ∙ (ap (λ ps. name_pair ps (setting others) r p) read
    ∙ (ap (λ t. name_pair (named_pairs s (run_pairs opening)) t r p) (setting-read_back opening others back)
    ∙ name_pair-at (named_pairs s (run_pairs opening)) s r p (run_pairs opening r p) (named-same s (run_pairs opening) h formed valid r p rl pl)))
