-- The lines of a person's pairs, up to a distance.
use Rattle.std.proofs.Common.{◌≡◌, ℕ, ◌+◌, ◌%◌, true, false, List, [], ◌∷◌, ◌++◌, map, filter, flat_map, codes, Some, slice_get, refl, sym, ap, ◌∙◌, append-nil}
use Rattle.std.proofs.lemmas.List.{map-append}
use Rattle.std.proofs.lemmas.List.Elements.{filter-append}
use Rattle.std.proofs.lemmas.Bool.{cond-true, cond-false}
use Rattle.std.proofs.lemmas.Grind.{flat_map-append}
use Rattle.std.specs.Option.{option_map_or}
use Rattle.house_base.specs.declared.plan.Owner.{Owner}
use Rattle.house_base.specs.declared.plan.Person.{Person}
use Rattle.house_base.specs.Setting.{Setting, size, name_at}
use Rattle.peer_selection.specs.Counting.{numbers_below}
use Rattle.peer_selection.specs.Profile.{Pairs}
use Rattle.peer_selection.proofs.CountingLemmas.{numbers_below-add_one}
use Rattle.house_model.specs.Report.{line_of}
use Rattle.house_model.specs.Texts.{pair_lines}

-- the line of a person's pair with the applicant at a place
pub pair_line : Setting → Owner → ℕ → List ℕ
pair_line s owner p = line_of (codes "pair" ∷ owner.name ∷ name_at s p ∷ [])

-- the proposals of a person at distances below one
pub proposals_to : Setting → Pairs → Owner → ℕ → List ℕ
proposals_to s pairs owner d = filter (pairs owner.first) (map (λ e. (owner.first + 1 + e) % size s) (numbers_below d))

pub lines_to : Setting → Pairs → Owner → ℕ → List ℕ
lines_to s pairs owner d = flat_map (pair_line s owner) (proposals_to s pairs owner d)

pub lines_to-none : (s : Setting) (pairs : Pairs) (owner : Owner) → lines_to s pairs owner 0 ≡ []
unfolding lines_to proposals_to numbers_below
lines_to-none s pairs owner = refl

pub lines_to-all : (s : Setting) (pairs : Pairs) (owner : Owner) → lines_to s pairs owner (size s) ≡ pair_lines s pairs owner
unfolding lines_to proposals_to pair_line pair_lines
lines_to-all s pairs owner = refl

proposals_to-more : (s : Setting) (pairs : Pairs) (owner : Owner) (d : ℕ) →
    proposals_to s pairs owner (d + 1) ≡ proposals_to s pairs owner d ++ filter (pairs owner.first) ((owner.first + 1 + d) % size s ∷ [])
unfolding proposals_to
proposals_to-more s pairs owner d =
    let at = λ (e : ℕ). (owner.first + 1 + e) % size s in
    ap (λ ds. filter (pairs owner.first) (map at ds)) (numbers_below-add_one d)
    ∙ ap (filter (pairs owner.first)) (map-append at (numbers_below d) (d ∷ []))
    ∙ filter-append (pairs owner.first) (map at (numbers_below d)) (at d ∷ [])

-- the name of the applicant at a place
pub name_of_person : (s : Setting) (p : ℕ) (person : Person) → slice_get s.people p ≡ Some person → name_at s p ≡ person.name
unfolding name_at
name_of_person s p person at = ap (λ found. option_map_or (λ person. person.name) found []) at

-- one pair more
pub lines_to-takes : (s : Setting) (pairs : Pairs) (owner : Owner) (d : ℕ) → pairs owner.first ((owner.first + 1 + d) % size s) ≡ true →
    lines_to s pairs owner (d + 1) ≡ lines_to s pairs owner d ++ pair_line s owner ((owner.first + 1 + d) % size s)
unfolding lines_to
lines_to-takes s pairs owner d held =
    let p = (owner.first + 1 + d) % size s in
    let so_far = proposals_to s pairs owner d in
    ap (flat_map (pair_line s owner)) (proposals_to-more s pairs owner d ∙ ap (λ ps. so_far ++ ps) (cond-true (pairs owner.first p) (p ∷ []) [] held))
    ∙ flat_map-append (pair_line s owner) so_far (p ∷ [])
    ∙ ap (λ t. flat_map (pair_line s owner) so_far ++ t) (append-nil (pair_line s owner p))

pub lines_to-skips : (s : Setting) (pairs : Pairs) (owner : Owner) (d : ℕ) → pairs owner.first ((owner.first + 1 + d) % size s) ≡ false →
    lines_to s pairs owner (d + 1) ≡ lines_to s pairs owner d
unfolding lines_to
lines_to-skips s pairs owner d other =
    let p = (owner.first + 1 + d) % size s in
    let so_far = proposals_to s pairs owner d in
    ap (flat_map (pair_line s owner)) (proposals_to-more s pairs owner d ∙ ap (λ ps. so_far ++ ps) (cond-false (pairs owner.first p) (p ∷ []) [] other) ∙ append-nil so_far)

-- the line of a pair, from the names
pub pair_line-read : (s : Setting) (owner : Owner) (p : ℕ) (person : Person) → slice_get s.people p ≡ Some person →
    line_of (codes "pair" ∷ owner.name ∷ person.name ∷ []) ≡ pair_line s owner p
unfolding pair_line
pair_line-read s owner p person at = ap (λ name. line_of (codes "pair" ∷ owner.name ∷ name ∷ [])) (sym (name_of_person s p person at))
