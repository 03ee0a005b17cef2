-- The slip of an applicant is within the limits of a call.
use Rattle.std.proofs.Common.{◌≡◌, ◌≢◌, ℕ, ◌*◌, ◌<◌, ◌≤◌, ◌∙◌, Bool, true, eqb, List, [], ◌∷◌, length, map, filter, get_or, All, AllPairs, None, Some, Option, refl, sym, ap, arith, subst, inl, inr}
use Rattle.std.specs.Prelude.{IsTrue, not}
use Rattle.std.specs.List.{list_any}
use Rattle.std.proofs.lemmas.Bool.{both_ways, cases_lt, eq-eqb}
use Rattle.std.proofs.lemmas.List.{length-map}
use Rattle.std.proofs.lemmas.List.Elements.{All-from_recursion, All-map}
use Rattle.std.proofs.lemmas.List.Filters.{length-filter_both}
use Rattle.house_base.specs.Name.{is_name}
use Rattle.house_base.specs.Setting.{Setting, IsSetting, StandInTurn, cluster_at, distance, name_at, need, owner_from, size}
use Rattle.house_base.specs.declared.limits.TheConstants.{MOST_OWN, MOST_REVIEWS}
use Rattle.house_base.specs.declared.plan.Owner.{Owner}
use Rattle.house_base.proofs.InOrderLemmas.{All-In, AllPairs-from_InOrder, filter-In, In, In-Contains, In-get_or, InOrder-filter, InOrder-from_AllPairs, InOrder-map, map-InOrder}
use Rattle.house_base.proofs.Settings.{length-StandInTurn, need-le, need-none, need-some}
use Rattle.house_model.proofs.PairTextLemmas.{name_at-formed}
use Rattle.house_model.proofs.RegisterPeopleLemmas.{map-map}
use Rattle.peer_selection.specs.Counting.{count_below}
use Rattle.peer_selection.specs.Profile.{Profile, row}
use Rattle.peer_selection.proofs.CountingLemmas.{count_below-le, count_below-zero_each}
use Rattle.peer_selection.proofs.DistanceLemmas.{row-rises}
use Rattle.peer_selection.proofs.RowLemmas.{length-row, row-below}
use Rattle.peer_selection.proofs.ValidLemmas.{is_valid-each}
use Rattle.slip_check.specs.Limits.{AreDifferent, GivesSlips, IsBallot, IsCell, IsSlip}
use Rattle.slip_check.specs.Slip.{ballot_of, cell_of, places_in, reviews_one_of, slip_of}
use Rattle.slip_check.proofs.KeptLemmas.{all_kept, earlier, kept, length_kept, none_kept}
use Rattle.slip_check.proofs.PlaceLemmas.{first_below, kept_apart, names_apart}

-- no person owes more reviews than the limits allow
need_most : (s : Setting) (r : ℕ) (o : Option Owner) → IsSetting s → owner_from s r ≡ o → need s r ≤ MOST_REVIEWS * MOST_OWN
need_most s r None h e = omega (arith, need-none s r e)
need_most s r (Some o) h e = omega (arith, need-some s r o e, need-le s r o h e)

module _ (f : Profile) (h : GivesSlips f) where
  abbrev s : Setting
  s = f.setting

  -- The ballot of a person.

  module _ (o : Owner) (has : In o f.setting.owners) where
    first : o.first < size s
    first = first_below s o h.assigned.setting (In-Contains o s.owners has)

    cell : (k : ℕ) (d : ℕ) → k < length (row f o.first) → IsCell (cell_of f o.first (get_or (row f o.first) k d))
    cell k d l =
        let below = row-below f o.first first k d l in
        record { formed = name_at-formed s (get_or (row f o.first) k d) h.names below; most = h.most o.first (get_or (row f o.first) k d) first below }

    row_apart : AllPairs (λ p q. p ≢ q) (row f o.first)
    row_apart i j d ij jl e = absurd (omega (arith, row-rises f o.first first i j d ij jl, ap (distance (size s) o.first) e))

    count : length (row f o.first) ≡ need s o.first
    count = length-row f o.first first ∙ (is_valid-each s f.pairs h.assigned.valid).owed o.first first

    -- one that reviews a member has a row
    row_some : (member : ℕ → Bool) → list_any (f.pairs o.first) (kept member (size s)) ≡ true → 1 ≤ length (row f o.first)
    row_some member reviews = elim (cases_lt 0 (length (row f o.first))) [
      | inl l ↦ l
      | inr l ↦
          let none : count_below (f.pairs o.first) (size s) ≡ 0 = omega (arith, length-row f o.first first, l) in
          absurd (both_ways (list_any (f.pairs o.first) (kept member (size s))) (none_kept member (f.pairs o.first) (size s)
          (λ q below _. count_below-zero_each (f.pairs o.first) (size s) none q below)) reviews)
    ]

    ballot : (j : ℕ) → reviews_one_of f (places_in s j) o ≡ true → IsBallot (ballot_of f o)
    unfolding ballot_of reviews_one_of places_in
    ballot j reviews =
        let r = o.first in
        let many : length (map (cell_of f r) (row f r)) ≡ length (row f r) = length-map (row f r) (cell_of f r) in
        record {
          formed = All-In (λ owner. IsTrue (is_name owner.name)) s.owners o h.names.persons has;
          some = omega (arith, many, row_some (λ q. eqb (cluster_at s q) j) reviews);
          few = omega (arith, many, count, need_most s r (owner_from s r) h.assigned.setting refl);
          cells = All-map IsCell (cell_of f r) (row f r) cell;
          differ = subst AreDifferent (sym (map-map (λ cell. cell.proposal) (cell_of f r) (row f r)))
              (names_apart s (row f r) h.assigned.setting (row-below f r first) row_apart);
        }

  -- The members.

  module _ (p : ℕ) (l : p < size f.setting) where
    abbrev member : ℕ → Bool
    member q = eqb (cluster_at s q) (cluster_at s p)

    abbrev places : List ℕ
    places = kept member (size s)

    places_below : All (λ q. q < size s) places
    places_below = All-from_recursion (λ q. q < size s) places (all_kept (λ q. q < size s) member (size s) (λ q below _. below))

    some_places : 1 ≤ length places
    some_places = omega (arith, length_kept member (size s), earlier member p (size s) l (eq-eqb (cluster_at s p) (cluster_at s p) refl))

    few_places : length places ≤ size s
    few_places = omega (arith, length_kept member (size s), count_below-le member (size s))

    persons : length s.owners ≤ size s
    persons = omega (arith, length-StandInTurn 0 s.owners (size s) h.assigned.setting.own h.assigned.setting.in_turn)

    some_persons : (owners : List Owner) → StandInTurn 0 owners (size s) → 1 ≤ length owners
    some_persons [] stand = absurd (omega (arith, stand, l))
    some_persons (o ∷ owners) stand = omega arith

    abbrev voters : List Owner
    voters = filter (reviews_one_of f places) s.owners

    each : (k : ℕ) (d : Owner) → k < length voters → IsBallot (ballot_of f (get_or voters k d))
    unfolding places_in
    each k d kl =
        let voter = filter-In (reviews_one_of f places) (get_or voters k d) s.owners (In-get_or voters k d kl) in
        ballot (get_or voters k d) voter.0 (cluster_at s p) voter.1

    voters_differ : AreDifferent (map (λ owner. owner.name) voters)
    voters_differ =
        let named = map-InOrder (λ a b. a ≢ b) (λ owner. owner.name) s.owners (InOrder-from_AllPairs (λ a b. a ≢ b) (map (λ owner. owner.name) s.owners) h.assigned.setting.owners_differ) in
        let kept_names = InOrder-filter (λ a b. a.name ≢ b.name) (reviews_one_of f places) s.owners named in
        AllPairs-from_InOrder (λ a b. a ≢ b) (map (λ owner. owner.name) voters) (InOrder-map (λ a b. a ≢ b) (λ owner. owner.name) voters kept_names)

    pub slip-within : IsSlip (slip_of f p)
    unfolding slip_of ballot_of places_in
    slip-within =
        let setting = h.assigned.setting in
        let name = name_at s in
        let many : length (map name places) ≡ length places = length-map places name in
        let ballots : length (map (ballot_of f) voters) ≡ length voters = length-map voters (ballot_of f) in
        record {
          formed = name_at-formed s p h.names l;
          seats_in_range = setting.seats_in_range;
          persons_in_range = (some_persons s.owners setting.in_turn, omega (arith, persons, setting.few));
          some = omega (arith, many, some_places);
          few = omega (arith, many, few_places, setting.few);
          members = All-map (λ name. IsTrue (is_name name)) name places (λ k d kl. name_at-formed s (get_or places k d) h.names (places_below k d kl));
          members_differ = names_apart s places setting places_below (kept_apart member (size s));
          few_ballots = omega (arith, ballots, length-filter_both (reviews_one_of f places) (λ o. not (reviews_one_of f places o)) (λ _. refl) s.owners, persons, setting.few);
          ballots = All-map IsBallot (ballot_of f) voters each;
          persons_differ = subst AreDifferent (sym (map-map (λ ballot. ballot.person) (ballot_of f) voters)) voters_differ;
        }
