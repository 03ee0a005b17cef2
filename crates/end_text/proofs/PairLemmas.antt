-- The text of the pairs of a run.
use Rattle.std.proofs.Common.{◌≡◌, ℕ, ◌+◌, ◌%◌, ◌<◌, ◌≤◌, Bool, cond, List, [], ◌∷◌, ◌++◌, map, filter, flat_map, codes, refl, ap, ◌∙◌, arith}
use Rattle.std.specs.List.{All}
use Rattle.std.proofs.lemmas.List.Elements.{All-head, All-tail}
use Rattle.std.proofs.Math.Nat.{mod-lt}
use Rattle.house_base.specs.declared.limits.TheConstants.{MOST_OWN}
use Rattle.house_base.specs.declared.plan.Owner.{Owner}
use Rattle.house_base.specs.Setting.{Setting, IsSetting, StandInTurn, size, name_at}
use Rattle.house_base.proofs.Settings.{StandInTurn-le}
use Rattle.peer_selection.specs.Counting.{numbers_below}
use Rattle.peer_selection.specs.Profile.{Pairs}
use Rattle.house_model.specs.Report.{line_of}
use Rattle.house_model.specs.Texts.{pair_lines, pairs_text}

filter_same : (f g : ℕ → Bool) (at : ℕ → ℕ) → ((d : ℕ) → f (at d) ≡ g (at d)) → (ds : List ℕ) → filter f (map at ds) ≡ filter g (map at ds)
filter_same f g at same [] = refl
filter_same f g at same (d ∷ ds) =
    ap (λ b. cond b (at d ∷ filter f (map at ds)) (filter f (map at ds))) (same d)
    ∙ ap (λ rest. cond (g (at d)) (at d ∷ rest) rest) (filter_same f g at same ds)

lines_of_person : (s : Setting) (a b : Pairs) (owner : Owner) → owner.first < size s → ((r p : ℕ) → r < size s → p < size s → a r p ≡ b r p) → pair_lines s a owner ≡ pair_lines s b owner
unfolding pair_lines
lines_of_person s a b owner below same =
    ap (flat_map (λ p. line_of (codes "pair" ∷ owner.name ∷ name_at s p ∷ [])))
    (filter_same (a owner.first) (b owner.first) (λ d. (owner.first + 1 + d) % size s)
    (λ d. same owner.first ((owner.first + 1 + d) % size s) below (mod-lt (owner.first + 1 + d) (omega arith))) (numbers_below (size s)))

lines_of_persons : (s : Setting) (a b : Pairs) (from : ℕ) (owners : List Owner) → All (λ owner. (1 ≤ owner.own) × (owner.own ≤ MOST_OWN)) owners → StandInTurn from owners (size s) →
    ((r p : ℕ) → r < size s → p < size s → a r p ≡ b r p) → flat_map (pair_lines s a) owners ≡ flat_map (pair_lines s b) owners
lines_of_persons s a b from [] own stand same = refl
lines_of_persons s a b from (owner ∷ owners) own stand same =
    let first_own = All-head (λ (owner : Owner). (1 ≤ owner.own) × (owner.own ≤ MOST_OWN)) owner owners own in
    let after = StandInTurn-le (from + owner.own) owners (size s) stand.1 in
    let below : owner.first < size s = omega (arith, stand.0, after, first_own.0) in
    ap (λ t. t ++ flat_map (pair_lines s a) owners) (lines_of_person s a b owner below same)
    ∙ ap (λ t. pair_lines s b owner ++ t) (lines_of_persons s a b (from + owner.own) owners (All-tail (λ (owner : Owner). (1 ≤ owner.own) × (owner.own ≤ MOST_OWN)) owner owners own) stand.1 same)

-- pairs that agree on the places of a setting have one text
pub pairs_text-same : (s : Setting) (a b : Pairs) → IsSetting s → ((r p : ℕ) → r < size s → p < size s → a r p ≡ b r p) → pairs_text s a ≡ pairs_text s b
unfolding pairs_text
pairs_text-same s a b is same = lines_of_persons s a b 0 s.owners is.own is.in_turn same
