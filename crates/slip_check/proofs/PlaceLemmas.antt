-- Places, the names of the applicants there, and the persons that begin there.
use Rattle.std.proofs.Common.{◌≡◌, ◌≢◌, ℕ, ◌<◌, ◌≤◌, Bool, List, [], length, map, get_or, All, AllPairs, Some, slice_get, sym, ap, ◌∙◌, arith, inl, inr}
use Rattle.std.specs.List.{Contains}
use Rattle.std.proofs.lemmas.Bool.{cases_lt}
use Rattle.std.proofs.lemmas.List.{get_or-map, length-map}
use Rattle.std.proofs.lemmas.List.Elements.{All-contains}
use Rattle.std.proofs.lemmas.List.Kept.{AllPairs-filter}
use Rattle.std.proofs.lemmas.Option.{slice_get-get_or, slice_get_within, get_or_from_slice_get}
use Rattle.house_base.specs.declared.limits.TheConstants.{MOST_OWN}
use Rattle.house_base.specs.declared.plan.Owner.{Owner}
use Rattle.house_base.specs.Setting.{Setting, IsSetting, size, name_at, names_of}
use Rattle.house_base.proofs.Settings.{end-StandInTurn}
use Rattle.house_model.proofs.ReviewerLemmas.{name_at-slice_get}
use Rattle.peer_selection.specs.Counting.{numbers_below}
use Rattle.peer_selection.proofs.CountingLemmas.{get_or-numbers_below, length-numbers_below}
use Rattle.slip_check.specs.Limits.{AreDifferent}
use Rattle.slip_check.proofs.KeptLemmas.{kept}

-- Persons.

-- what stands at an index is contained
pub contains_at : {X : Type 0} (xs : List X) (i : ℕ) (x : X) → slice_get xs i ≡ Some x → Contains xs x
contains_at xs i x at = (i, slice_get_within xs i x at, get_or_from_slice_get xs i x x at)

-- the first place of a person is a place
pub first_below : (s : Setting) (owner : Owner) → IsSetting s → Contains s.owners owner → owner.first < size s
first_below s owner setting (k, within, is) =
    let at = slice_get-get_or s.owners k owner within ∙ ap Some is in
    let ends = end-StandInTurn 0 s.owners (size s) k owner setting.in_turn at in
    let own = All-contains (λ o. (1 ≤ o.own) × (o.own ≤ MOST_OWN)) s.owners owner setting.own (k, within, is) in
    omega (arith, ends.1, own.0)

-- Names.

-- a name is that of one place
pub one_place : (s : Setting) (p q : ℕ) → IsSetting s → p < size s → q < size s → name_at s p ≡ name_at s q → p ≡ q
one_place s p q h pl ql e =
    let names = names_of s in
    let first = get_or_from_slice_get names p (name_at s p) [] (name_at-slice_get s p pl) in
    let second = get_or_from_slice_get names q (name_at s q) [] (name_at-slice_get s q ql) in
    let many : length names ≡ size s = length-map s.people (λ person. person.name) in
    elim (cases_lt p q) [
      | inl l ↦ absurd (h.names_differ p q [] l (omega arith) (first ∙ e ∙ sym second))
      | inr m ↦ elim (cases_lt q p) [
        | inl l ↦ absurd (h.names_differ q p [] l (omega arith) (second ∙ sym e ∙ sym first))
        | inr l ↦ omega arith
      ]
    ]

-- different places have different names
pub names_apart : (s : Setting) (places : List ℕ) → IsSetting s → All (λ p. p < size s) places → AllPairs (λ p q. p ≢ q) places → AreDifferent (map (name_at s) places)
names_apart s places h below apart i j d ij jl e =
    let many : length (map (name_at s) places) ≡ length places = length-map places (name_at s) in
    let il : i < length places = omega (arith, many) in
    let jl' : j < length places = omega (arith, many) in
    let first = get_or-map (name_at s) places i 0 d il in
    let second = get_or-map (name_at s) places j 0 d jl' in
    apart i j 0 ij jl' (one_place s (get_or places i 0) (get_or places j 0) h (below i 0 il) (below j 0 jl') (sym first ∙ e ∙ second))

-- the numbers below a bound that pass a test differ
pub kept_apart : (test : ℕ → Bool) (n : ℕ) → AllPairs (λ p q. p ≢ q) (kept test n)
kept_apart test n = AllPairs-filter (λ p q. p ≢ q) test (numbers_below n) (λ i j d ij jl e.
    let jn : j < n = omega (arith, length-numbers_below n) in
    absurd (omega (arith, e, get_or-numbers_below n i d (omega arith), get_or-numbers_below n j d jn)))
