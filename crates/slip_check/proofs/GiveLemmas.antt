-- Cents that are given to members, proposal by proposal.
use Rattle.std.proofs.Common.{◌≡◌, ◌≢◌, ℕ, ◌+◌, ◌*◌, ◌<◌, ◌≤◌, ◌∙◌, true, false, cond, leb, ◌^◌, subst, List, [], ◌∷◌, ◌++◌, length, take, get_or, refl, sym, ap, arith, Some, None, Option, bytes_eq, inl, inr}
use Rattle.std.specs.Prelude.{All, AllPairs, is_some, position, slice_get, sum}
use Rattle.std.specs.Option.{option_map_or}
use Rattle.std.proofs.Math.ListN.{set}
use Rattle.std.proofs.lemmas.Bool.{and_parts, cases_eq, cases_lt}
use Rattle.std.proofs.lemmas.List.{take_more, length-take-le, get_or-set_other, get_or-set_same, get_or_past, length-map}
use Rattle.std.proofs.lemmas.List.Quantifiers.{position-Some}
use Rattle.std.proofs.lemmas.Option.{slice_get-get_or}
use Rattle.house_base.specs.Text.{Text, among}
use Rattle.house_base.proofs.AmongLemmas.{bytes_eq-same, bytes_eq-other, cases_text}
use Rattle.name_index.proofs.IndexLemmas.{among-before, is_some-position, position_push, position_at}
use Rattle.slip_check.specs.Counted.{AreCells, cents_for, points_in}
use Rattle.slip_check.specs.Form.{before_colon, behind_colon, is_cell}
use Rattle.command_text.specs.Strict.{Row}
use Rattle.slip_check.proofs.BallotLemmas.{cells_parts}
use Rattle.house_base.specs.declared.limits.TheConstants.{MOST_OWN, MOST_POINTS, MOST_REVIEWS}
use Rattle.house_base.specs.Name.{is_name}
use Rattle.house_base.specs.Number.{number_up_to}
use Rattle.house_model.specs.Faults.{is_within}
use Rattle.house_model.specs.Said.{number}
use Rattle.command_text.proofs.NumberLemmas.{number_at_most, number_is}
use Rattle.peer_selection.specs.Split.{cents_at}
use Rattle.std.proofs.lemmas.List.Sums.{AllPass-from_list_all, get_or-le-sum_by}
use Rattle.std.proofs.lemmas.List.Elements.{All-map}

none_of : (o : Option ℕ) → is_some o ≡ false → o ≡ None
none_of None h = refl
none_of (Some x) h = cc

abbrev pick_cents : List ℕ → Option ℕ → ℕ
pick_cents cents o = option_map_or (λ k. get_or cents k 0) o 0

-- among the first proposals a name has what it had among those before, and the cents of the last
cents_push : (cents : List ℕ) (ps : List Text) (i : ℕ) (y t : Text) → AllPairs (λ a b. a ≢ b) ps → i < length ps → y ≡ get_or ps i []
    → cents_for cents (take (i + 1) ps) t ≡ cents_for cents (take i ps) t + cond (bytes_eq y t) (get_or cents i 0) 0
cents_push cents ps i y t apart l is =
    let at : slice_get ps i ≡ Some y = slice_get-get_or ps i [] l ∙ ap Some (sym is) in
    let new : among (take i ps) y ≡ false = among-before ps i y apart at in
    let grown : take (i + 1) ps ≡ take i ps ++ y ∷ [] = take_more ps i [] l ∙ ap (λ x. take i ps ++ x ∷ []) (sym is) in
    let many : length (take i ps) ≡ i = length-take-le i ps (omega (arith, l)) in
    let now : cents_for cents (take (i + 1) ps) t ≡ pick_cents cents (cond (bytes_eq y t) (Some (length (take i ps))) (position (bytes_eq t) (take i ps))) =
    ap (λ xs. cents_for cents xs t) grown ∙ ap (pick_cents cents) (position_push (take i ps) y t new) in
    elim (cases_text y t) [
      | inl same ↦
          let yes : bytes_eq y t ≡ true = bytes_eq-same y t same in
          let before : position (bytes_eq t) (take i ps) ≡ None =
          none_of (position (bytes_eq t) (take i ps)) (is_some-position (take i ps) t ∙ ap (among (take i ps)) (sym same) ∙ new) in
          omega (
            arith,
            now,
            ap (λ b. pick_cents cents (cond b (Some (length (take i ps))) (position (bytes_eq t) (take i ps)))) yes,
            ap (λ n. get_or cents n 0) many,
            ap (pick_cents cents) before,
            ap (λ b. cond b (get_or cents i 0) 0) yes,
          )
      | inr other ↦
          let no : bytes_eq y t ≡ false = bytes_eq-other y t other in
          omega (
            arith,
            now,
            ap (λ b. pick_cents cents (cond b (Some (length (take i ps))) (position (bytes_eq t) (take i ps)))) no,
            ap (λ b. cond b (get_or cents i 0) 0) no,
          )
    ]

-- which member a proposal is
found_here : (members : List Text) (y : Text) (m : ℕ) → position (bytes_eq y) members ≡ Some m → bytes_eq y (get_or members m []) ≡ true
found_here members y m h = (position-Some (bytes_eq y) members m [] h).1

not_elsewhere : (members : List Text) (y : Text) (k : ℕ) → AllPairs (λ a b. a ≢ b) members → k < length members → (position (bytes_eq y) members ≡ Some k → ⊥)
    → bytes_eq y (get_or members k []) ≡ false
not_elsewhere members y k differ l h =
    bytes_eq-other y (get_or members k []) (λ same. h (position_at members k y differ l (sym same)))

-- a proposal that is a member
pub given_to : (old scores cents : List ℕ) (members ps : List Text) (i m k : ℕ) (y : Text) → AllPairs (λ a b. a ≢ b) ps → AllPairs (λ a b. a ≢ b) members
    → i < length ps → k < length members → length scores ≡ length members → y ≡ get_or ps i [] → position (bytes_eq y) members ≡ Some m
    → get_or scores k 0 ≡ get_or old k 0 + cents_for cents (take i ps) (get_or members k [])
    → get_or (set scores m (get_or scores m 0 + get_or cents i 0)) k 0 ≡ get_or old k 0 + cents_for cents (take (i + 1) ps) (get_or members k [])
given_to old scores cents members ps i m k y apart differ il kl each is found so_far =
    let t = get_or members k [] in
    let step = cents_push cents ps i y t apart il is in
    elim (cases_eq k m) [
      | inl same ↦
          let here : bytes_eq y t ≡ true = ap (λ n. bytes_eq y (get_or members n [])) same ∙ found_here members y m found in
          let written : get_or (set scores m (get_or scores m 0 + get_or cents i 0)) k 0 ≡ get_or scores m 0 + get_or cents i 0 =
          ap (λ n. get_or (set scores m (get_or scores m 0 + get_or cents i 0)) n 0) same ∙ get_or-set_same scores m (get_or scores m 0 + get_or cents i 0) 0 (omega (arith, same, kl, each)) in
          omega (arith, step, written, so_far, ap (λ n. get_or scores n 0) same, ap (λ b. cond b (get_or cents i 0) 0) here)
      | inr other ↦
          let there : bytes_eq y t ≡ false = not_elsewhere members y k differ kl (λ e. other (cc (e, found))) in
          omega (arith, step, so_far, get_or-set_other scores m k (get_or scores m 0 + get_or cents i 0) 0 other, ap (λ b. cond b (get_or cents i 0) 0) there)
    ]

-- a proposal that is none
pub given_to_none : (old scores cents : List ℕ) (members ps : List Text) (i k : ℕ) (y : Text) → AllPairs (λ a b. a ≢ b) ps → AllPairs (λ a b. a ≢ b) members
    → i < length ps → k < length members → y ≡ get_or ps i [] → position (bytes_eq y) members ≡ None
    → get_or scores k 0 ≡ get_or old k 0 + cents_for cents (take i ps) (get_or members k [])
    → get_or scores k 0 ≡ get_or old k 0 + cents_for cents (take (i + 1) ps) (get_or members k [])
given_to_none old scores cents members ps i k y apart differ il kl is found so_far =
    let there : bytes_eq y (get_or members k []) ≡ false = not_elsewhere members y k differ kl (λ e. cc (e, found)) in
    omega (arith, cents_push cents ps i y (get_or members k []) apart il is, so_far, ap (λ b. cond b (get_or cents i 0) 0) there)

pick_most : (cents : List ℕ) (most : ℕ) (o : Option ℕ) → ((i : ℕ) → get_or cents i 0 ≤ most) → pick_cents cents o ≤ most
pick_most cents most None h = omega arith
pick_most cents most (Some i) h = h i

pub cents_for_most : (cents : List ℕ) (most : ℕ) (ps : List Text) (t : Text) → ((i : ℕ) → get_or cents i 0 ≤ most) → cents_for cents ps t ≤ most
cents_for_most cents most ps t h = pick_most cents most (position (bytes_eq t) ps) h

-- The points of cells.

within_most : (most : ℕ) (w : Text) (o : Option ℕ) → most < 2 ^ 64 → number_up_to most w ≡ o → option_map_or (leb 0) o false ≡ true → number w ≤ most
within_most most w None fits is h = cc
within_most most w (Some n) fits is h = omega (arith, number_is most n w fits is, number_at_most most n w is)

-- a word of a number up to so much
pub number-within : (most : ℕ) (w : Text) → most < 2 ^ 64 → is_within 0 most w ≡ true → number w ≤ most
unfolding is_within
number-within most w fits h = within_most most w (number_up_to most w) fits refl h

cell_points_most : (w : Text) → is_cell w ≡ true → points_in w ≤ MOST_POINTS
unfolding is_cell
cell_points_most w h =
    number-within MOST_POINTS (behind_colon w) (omega arith) (and_parts (is_name (before_colon w)) (is_within 0 MOST_POINTS (behind_colon w)) h).1

pub points_most : (ws : Row) (ps : List Text) (pts : List ℕ) → AreCells ws ps pts → All (λ x. x ≤ MOST_POINTS) pts
points_most ws ps pts r =
    let each = AllPass-from_list_all is_cell ws (cells_parts ws r.cells).1 in
    subst (All (λ x. x ≤ MOST_POINTS)) (sym r.points_are) (All-map (λ x. x ≤ MOST_POINTS) points_in ws (λ k d kl. cell_points_most (get_or ws k d) (each k d kl)))

pub as_many_points : (ws : Row) (ps : List Text) (pts : List ℕ) → AreCells ws ps pts → length pts ≡ length ps
as_many_points ws ps pts r = ap length r.points_are ∙ length-map ws points_in ∙ sym (length-map ws before_colon) ∙ ap length (sym r.proposals_are)

pub few_points : (ws : Row) (ps : List Text) (pts : List ℕ) → AreCells ws ps pts → length pts ≤ MOST_REVIEWS * MOST_OWN
few_points ws ps pts r = omega (arith, (cells_parts ws r.cells).0, ap length r.points_are, length-map ws points_in)

-- the cents of a split go to proposals as the definition of cents says
each_pick : (cents pts : List ℕ) (o : Option ℕ) → ((i : ℕ) → o ≡ Some i → get_or cents i 0 ≡ cents_at pts i) → pick_cents cents o ≡ option_map_or (cents_at pts) o 0
each_pick cents pts None h = refl
each_pick cents pts (Some i) h = h i refl

pub cents_are : (cents pts : List ℕ) (ps : List Text) (t : Text) → length pts ≡ length ps → ((i : ℕ) → i < length pts → get_or cents i 0 ≡ cents_at pts i)
    → cents_for cents ps t ≡ option_map_or (cents_at pts) (position (bytes_eq t) ps) 0
cents_are cents pts ps t same h = each_pick cents pts (position (bytes_eq t) ps) (λ i e. h i (omega (arith, (position-Some (bytes_eq t) ps i [] e).0, same)))

pub no_more_than_all : (cents : List ℕ) (all : ℕ) → sum cents ≡ all → (i : ℕ) → get_or cents i 0 ≤ all
no_more_than_all cents all h i = elim (cases_lt i (length cents)) [
  | inl l ↦ omega (arith, get_or-le-sum_by (λ x. x) cents i 0 l, h)
  | inr past ↦ omega (arith, get_or_past cents i 0 past)
]
