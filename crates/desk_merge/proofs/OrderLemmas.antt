-- The orders of keys and of reviews, and lists whose keys rise.
use Rattle.std.proofs.Common.{◌≡◌, Bool, true, false, cond, List, [], ◌∷◌, refl, sym, ap, ◌∙◌, subst, Some, None}
use Rattle.std.specs.Cmp.{IsTotalOrder}
use Rattle.std.specs.Cmp.Lexicographic.{slice_cmp}
use Rattle.std.specs.declared.cmp.Ordering.{Ordering}
use Rattle.std.specs.declared.cmp.Ordering.TheVariants.{Less, Equal, Greater}
use Rattle.std.specs.FinMap.{IsAntisymmetric, entries, entries_sorted, find, is_sorted, nat_cmp-IsAntisymmetric, slice_cmp-IsAntisymmetric}
use Rattle.std.specs.FinMap.Entries.{below_all}
use Rattle.std.specs.Ordering.{eq_by_cmp, is_eq, is_lt, nat_cmp, ordering_then}
use Rattle.std.proofs.lemmas.Bool.{and_parts}
use Rattle.std.proofs.lemmas.Cmp.{nat_cmp_total, nat_list_cmp_total, on_total, then_total}
use lib.Dec.{T}
use Rattle.desk_merge.specs.Joined.{Item, Joined, Key, Review, key_cmp, review_cmp}

pub true_of : (b : Bool) → T b → b ≡ true
true_of true h = refl
true_of false h = absurd h

pub so : (b : Bool) → b ≡ true → T b
so b e = subst T (sym e) tt

pub less_of : (r : Ordering) → is_lt r ≡ true → r ≡ Less
less_of Less h = refl
less_of Equal h = cc
less_of Greater h = cc

pub equal_of : (r : Ordering) → is_eq r ≡ true → r ≡ Equal
equal_of Less h = cc
equal_of Equal h = refl
equal_of Greater h = cc

both_equal : (r s : Ordering) → ordering_then r s ≡ Equal → (r ≡ Equal) × (s ≡ Equal)
both_equal Less s e = cc
both_equal Equal s e = (refl, e)
both_equal Greater s e = cc

-- Keys.

pub key_total : IsTotalOrder key_cmp
key_total = then_total (on_total (λ (k : Key). k.0) nat_list_cmp_total) (on_total (λ (k : Key). k.1) nat_list_cmp_total)

pub key_same : IsAntisymmetric key_cmp
key_same a b e =
    let parts = both_equal (slice_cmp nat_cmp a.0 b.0) (slice_cmp nat_cmp a.1 b.1) e in
    let first = slice_cmp-IsAntisymmetric nat_cmp-IsAntisymmetric a.0 b.0 parts.0 in
    let second = slice_cmp-IsAntisymmetric nat_cmp-IsAntisymmetric a.1 b.1 parts.1 in
    λ i. (first i, second i)

pub tied_key : (q k : Key) → eq_by_cmp key_cmp q k ≡ true → q ≡ k
tied_key q k e = key_same q k (equal_of (key_cmp q k) e)

-- Reviews.

pub review_total : IsTotalOrder review_cmp
review_total = then_total (on_total (λ (r : Review). r.0) nat_cmp_total) (on_total (λ (r : Review). r.1) nat_cmp_total)

pub review_same : IsAntisymmetric review_cmp
review_same a b e =
    let parts = both_equal (nat_cmp a.0 b.0) (nat_cmp a.1 b.1) e in
    let first = nat_cmp-IsAntisymmetric a.0 b.0 parts.0 in
    let second = nat_cmp-IsAntisymmetric a.1 b.1 parts.1 in
    λ i. (first i, second i)

-- Items whose keys rise.

pub sorted_entries : (m : Joined) → is_sorted key_cmp (entries m) ≡ true
sorted_entries m = true_of (is_sorted key_cmp (entries m)) (entries_sorted m)

pub head_below : (e : Item) (es : List Item) → is_sorted key_cmp (e ∷ es) ≡ true → below_all key_cmp e.0 es ≡ true
head_below e es h = (and_parts (below_all key_cmp e.0 es) (is_sorted key_cmp es) h).0

pub rest_sorted : (e : Item) (es : List Item) → is_sorted key_cmp (e ∷ es) ≡ true → is_sorted key_cmp es ≡ true
rest_sorted e es h = (and_parts (below_all key_cmp e.0 es) (is_sorted key_cmp es) h).1

-- a key below all of them is none of theirs
pub find_below : (q : Key) (es : List Item) → below_all key_cmp q es ≡ true → find key_cmp q es ≡ None
find_below q [] h = refl
find_below q (e ∷ es) h =
    let parts = and_parts (is_lt (key_cmp q e.0)) (below_all key_cmp q es) h in
    ap (λ r. cond (is_eq r) (Some e.1) (find key_cmp q es)) (less_of (key_cmp q e.0) parts.0) ∙ find_below q es parts.1

-- the key of the first is none of the others'
pub find_first_key : (q : Key) (e : Item) (es : List Item) → eq_by_cmp key_cmp q e.0 ≡ true → is_sorted key_cmp (e ∷ es) ≡ true → find key_cmp q es ≡ None
find_first_key q e es here h = ap (λ k. find key_cmp k es) (tied_key q e.0 here) ∙ find_below e.0 es (head_below e es h)
