use Rattle.std.proofs.Common.{◌≡◌, ℕ, ◌+◌, ◌*◌, ◌<◌, ◌≤◌, Bool, true, false, cond, eqb, List, [], ◌∷◌, Option, Some, find, length, get_or, sum, refl, sym, ap, ◌∙◌, arith}
use Rattle.std.specs.List.{AllByRecursion}
use Rattle.std.specs.Option.{option_map_or}
use Rattle.std.proofs.lemmas.Bool.{cond-true, cond-false, eqb-true, eq-eqb, ne_eqb}
use Rattle.std.proofs.lemmas.List.Elements.{recursion_from_All}
use Rattle.house_base.specs.declared.limits.TheConstants.{MOST_OWN}
use Rattle.house_base.specs.declared.plan.Owner.{Owner}
use Rattle.house_base.specs.Setting.{Setting, IsSetting, StandInTurn, size, need, owner_from}
use Rattle.house_base.proofs.Settings.{StandInTurn-le}
use Rattle.peer_selection.specs.Counting.{sum_below}
use Rattle.peer_selection.proofs.CountingLemmas.{sum_below-none, sum_below-same, sum_below-plus, sum_below-only, sum_below-const}
use Rattle.peer_selection.proofs.SplitLemmas.{sum_below-items}

-- All persons together owe as many reviews as all applicants get.

abbrev OwnsSome : Owner → Type 0
OwnsSome o = (1 ≤ o.own) × (o.own ≤ MOST_OWN)

-- what the person owes whose first place is here
abbrev owed : ℕ → List Owner → ℕ → ℕ
owed m owners r = option_map_or (λ o. m * o.own) (find (λ o. eqb o.first r) owners) 0

owed_one : (b : Bool) (m : ℕ) (o : Owner) (rest : Option Owner) → (b ≡ true → option_map_or (λ o. m * o.own) rest 0 ≡ 0)
    → option_map_or (λ o. m * o.own) (cond b (Some o) rest) 0 ≡ cond b (m * o.own) 0 + option_map_or (λ o. m * o.own) rest 0
owed_one true m o rest h = omega (arith, h refl)
owed_one false m o rest h = omega arith

owed-later : (m from n r : ℕ) (owners : List Owner) → StandInTurn from owners n → r < from → owed m owners r ≡ 0
owed-later m from n r [] t l = refl
owed-later m from n r (o ∷ owners) t l =
    let rest = owed-later m (from + o.own) n r owners t.1 (omega arith) in
    omega (
      arith,
      owed_one (eqb o.first r) m o (find (λ o. eqb o.first r) owners) (λ _. rest),
      cond-false (eqb o.first r) (m * o.own) 0 (ne_eqb o.first r (λ e. absurd (omega (arith, t.0, e)))),
      rest,
    )

owed-sum : (m from n : ℕ) (owners : List Owner) → AllByRecursion OwnsSome owners → StandInTurn from owners n → sum_below (owed m owners) n + m * from ≡ m * n
owed-sum m from n [] own t = omega (arith, sum_below-none (owed m []) n (λ r l. refl), ap (λ k. m * k) t)
owed-sum m from n (o ∷ owners) own t =
    let here : ℕ → ℕ = λ r. cond (eqb o.first r) (m * o.own) 0 in
    let each = sum_below-same (owed m (o ∷ owners)) (λ r. cond (eqb o.first r) (m * o.own) 0 + owed m owners r) n
    (λ r l. owed_one (eqb o.first r) m o (find (λ o. eqb o.first r) owners)
    (λ e. owed-later m (from + o.own) n r owners t.1 (omega (arith, t.0, eqb-true o.first r e, own.0.0)))) in
    let parts = sum_below-plus here (owed m owners) n in
    let one = sum_below-only here n o.first (omega (arith, t.0, own.0.0, StandInTurn-le (from + o.own) owners n t.1))
    (λ i l ne. cond-false (eqb o.first i) (m * o.own) 0 (ne_eqb o.first i (λ e. ne (sym e))))
    ∙ cond-true (eqb o.first o.first) (m * o.own) 0 (eq-eqb o.first o.first refl) in
    omega (arith, each, parts, one, owed-sum m (from + o.own) n owners own.1 t.1)

pub needs-sum : (s : Setting) → IsSetting s → sum_below (need s) (size s) ≡ size s * s.reviews
unfolding need owner_from
needs-sum s h = omega (arith, owed-sum s.reviews 0 (size s) s.owners (recursion_from_All OwnsSome s.owners h.own) h.in_turn)

-- the sum of a list, place by place
sum-list : (xs : List ℕ) (f : ℕ → ℕ) (n : ℕ) → length xs ≡ n → ((i : ℕ) → i < n → get_or xs i 0 ≡ f i) → sum xs ≡ sum_below f n
sum-list xs f n l h =
    sym (sum_below-items xs) ∙ (ap (sum_below (λ i. get_or xs i 0)) l ∙ sum_below-same (λ i. get_or xs i 0) f n h)

pub sum-needs : (s : Setting) (xs : List ℕ) → IsSetting s → length xs ≡ size s → ((i : ℕ) → i < size s → get_or xs i 0 ≡ need s i) → sum xs ≡ size s * s.reviews
sum-needs s xs h l each = sum-list xs (need s) (size s) l each ∙ needs-sum s h

pub sum-rooms : (s : Setting) (xs : List ℕ) → length xs ≡ size s → ((i : ℕ) → i < size s → get_or xs i 0 ≡ s.reviews) → sum xs ≡ size s * s.reviews
sum-rooms s xs l each = sum-list xs (λ i. s.reviews) (size s) l each ∙ sum_below-const s.reviews (size s)
