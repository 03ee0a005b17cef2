use Rattle.std.proofs.Common.{◌≡◌, ℕ, ◌+◌, Bool, true, false, not, ◌&&◌, cond, refl, sym, ap, ◌∙◌, arith}
use Rattle.std.proofs.lemmas.Bool.{true≢false}
use Rattle.peer_selection.specs.Counting.{count_below, sum_below}
use Rattle.peer_selection.specs.Profile.{Pairs}
use Rattle.peer_selection.specs.Shortage.{Demand, Places, room_outside, allowed, capacity}
use Rattle.peer_selection.proofs.CountingLemmas.{one_if, sum_below-same, sum_below-plus}
use Rattle.assign_flow.specs.Draft.{IsDraft}
use Rattle.assign_flow.proofs.SquareLemmas.{sum_square, sum_square-rows, sum_square-columns, sum_square-same, sum_square-plus, count_square, count_square-rows, count_square-columns, count_where, count_unless}

-- The capacity of a cut is the number of pairs and what the cut leaves unused.

-- the pairs wholly outside a cut
abbrev pub stray : Places → Places → Pairs → Pairs
stray a b x r p = not (a r) && (not (b p) && x r p)

-- the allowed pairs of a cut that are not among the pairs
abbrev pub missed : Demand → Places → Places → Pairs → Pairs
missed d a b x r p = a r && (b p && (d.may r p && not (x r p)))

-- how a pair counts in a capacity
split_pair : (a b m x : Bool) → (x ≡ true → m ≡ true)
    → (one_if (not a && x) + one_if (not b && x)) + one_if (a && (b && m)) ≡ (one_if x + one_if (not a && (not b && x))) + one_if (a && (b && (m && not x)))
split_pair true true true true h = refl
split_pair true true true false h = refl
split_pair true true false true h = absurd (true≢false (sym (h refl)))
split_pair true true false false h = refl
split_pair true false true true h = refl
split_pair true false true false h = refl
split_pair true false false true h = refl
split_pair true false false false h = refl
split_pair false true true true h = refl
split_pair false true true false h = refl
split_pair false true false true h = refl
split_pair false true false false h = refl
split_pair false false true true h = refl
split_pair false false true false h = refl
split_pair false false false true h = refl
split_pair false false false false h = refl

outside_parts : (c : Bool) (count rest all : ℕ) → count + rest ≡ all → cond c 0 all ≡ cond c 0 count + cond c 0 rest
outside_parts true count rest all h = refl
outside_parts false count rest all h = sym h

needs_outside : (d : Demand) (a : Places) (x : Pairs) (unmet spare : ℕ → ℕ) → IsDraft d x unmet spare
    → sum_below (λ r. cond (a r) 0 (d.need r)) d.side ≡ sum_square (λ r p. one_if (not (a r) && x r p)) d.side + sum_below (λ r. cond (a r) 0 (unmet r)) d.side
needs_outside d a x unmet spare h =
    let n = d.side in
    sum_below-same (λ r. cond (a r) 0 (d.need r)) (λ r. sum_below (λ p. one_if (not (a r) && x r p)) n + cond (a r) 0 (unmet r)) n
    (λ r l. outside_parts (a r) (count_below (x r) n) (unmet r) (d.need r) (h.needs r l) ∙ ap (λ k. k + cond (a r) 0 (unmet r)) (count_unless (a r) (x r) n))
    ∙ (sum_below-plus (λ r. sum_below (λ p. one_if (not (a r) && x r p)) n) (λ r. cond (a r) 0 (unmet r)) n
    ∙ ap (λ k. k + sum_below (λ r. cond (a r) 0 (unmet r)) n) (sym (sum_square-rows (λ r p. one_if (not (a r) && x r p)) n)))

rooms_outside : (d : Demand) (b : Places) (x : Pairs) (unmet spare : ℕ → ℕ) → IsDraft d x unmet spare
    → room_outside d b ≡ sum_square (λ r p. one_if (not (b p) && x r p)) d.side + sum_below (λ p. cond (b p) 0 (spare p)) d.side
unfolding room_outside
rooms_outside d b x unmet spare h =
    let n = d.side in
    sum_below-same (λ p. cond (b p) 0 (d.room p)) (λ p. sum_below (λ r. one_if (not (b p) && x r p)) n + cond (b p) 0 (spare p)) n
    (λ p l. outside_parts (b p) (count_below (λ r. x r p) n) (spare p) (d.room p) (h.rooms p l) ∙ ap (λ k. k + cond (b p) 0 (spare p)) (count_unless (b p) (λ r. x r p) n))
    ∙ (sum_below-plus (λ p. sum_below (λ r. one_if (not (b p) && x r p)) n) (λ p. cond (b p) 0 (spare p)) n
    ∙ ap (λ k. k + sum_below (λ p. cond (b p) 0 (spare p)) n) (sym (sum_square-columns (λ r p. one_if (not (b p) && x r p)) n)))

allowed_square : (d : Demand) (a b : Places) → allowed d a b ≡ sum_square (λ r p. one_if (a r && (b p && d.may r p))) d.side
unfolding allowed
allowed_square d a b =
    let n = d.side in
    sum_below-same (λ r. cond (a r) (count_below (λ p. b p && d.may r p) n) 0) (λ r. sum_below (λ p. one_if (a r && (b p && d.may r p))) n) n
    (λ r l. count_where (a r) (λ p. b p && d.may r p) n)
    ∙ sym (sum_square-rows (λ r p. one_if (a r && (b p && d.may r p))) n)

-- what a cut leaves unused
unfoldable pub unused : Demand → Places → Places → Pairs → (ℕ → ℕ) → (ℕ → ℕ) → ℕ
unused d a b x unmet spare =
    sum_below (λ r. cond (a r) 0 (unmet r)) d.side + sum_below (λ p. cond (b p) 0 (spare p)) d.side + sum_square (λ r p. one_if (stray a b x r p)) d.side
    + sum_square (λ r p. one_if (missed d a b x r p)) d.side

pub capacity-unused : (d : Demand) (a b : Places) (x : Pairs) (unmet spare : ℕ → ℕ) → IsDraft d x unmet spare → capacity d a b ≡ count_square x d.side + unused d a b x unmet spare
unfolding capacity unused
capacity-unused d a b x unmet spare h =
    let n = d.side in
    let out = λ (r p : ℕ). one_if (not (a r) && x r p) in
    let past = λ (r p : ℕ). one_if (not (b p) && x r p) in
    let inside = λ (r p : ℕ). one_if (a r && (b p && d.may r p)) in
    let pairs = λ (r p : ℕ). one_if (x r p) in
    let away = λ (r p : ℕ). one_if (stray a b x r p) in
    let left = λ (r p : ℕ). one_if (missed d a b x r p) in
    let each = sum_square-same (λ r p. (out r p + past r p) + inside r p) (λ r p. (pairs r p + away r p) + left r p) n (λ r p l k. split_pair (a r) (b p) (d.may r p) (x r p) (h.permitted r p l k)) in
    omega (
      arith,
      needs_outside d a x unmet spare h,
      rooms_outside d b x unmet spare h,
      allowed_square d a b,
      each,
      sum_square-plus (λ r p. out r p + past r p) inside n,
      sum_square-plus out past n,
      sum_square-plus (λ r p. pairs r p + away r p) left n,
      sum_square-plus pairs away n,
    )

-- all that is needed is the number of pairs and what is wanting
pub needs-all : (d : Demand) (x : Pairs) (unmet spare : ℕ → ℕ) → IsDraft d x unmet spare → sum_below d.need d.side ≡ count_square x d.side + sum_below unmet d.side
needs-all d x unmet spare h =
    let n = d.side in
    sum_below-same d.need (λ r. count_below (x r) n + unmet r) n (λ r l. sym (h.needs r l))
    ∙ (sum_below-plus (λ r. count_below (x r) n) unmet n ∙ ap (λ k. k + sum_below unmet n) (count_square-rows x n))

pub rooms-all : (d : Demand) (x : Pairs) (unmet spare : ℕ → ℕ) → IsDraft d x unmet spare → sum_below d.room d.side ≡ count_square x d.side + sum_below spare d.side
rooms-all d x unmet spare h =
    let n = d.side in
    sum_below-same d.room (λ p. count_below (λ r. x r p) n + spare p) n (λ p l. sym (h.rooms p l))
    ∙ (sum_below-plus (λ p. count_below (λ r. x r p) n) spare n ∙ ap (λ k. k + sum_below spare n) (count_square-columns x n))
