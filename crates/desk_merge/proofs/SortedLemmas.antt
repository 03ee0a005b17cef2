-- Items whose keys rise, by their places.
use Rattle.std.proofs.Common.{◌≡◌, ℕ, zero, suc, ◌+◌, ◌<◌, ◌≤◌, Bool, true, false, cond, ◌&&◌, List, [], ◌∷◌, ◌++◌, length, get_or, refl, sym, ap, ◌∙◌, arith, length-append, Some, None, inl, inr}
use Rattle.std.specs.declared.cmp.Ordering.{Ordering}
use Rattle.std.specs.declared.cmp.Ordering.TheVariants.{Less, Equal, Greater}
use Rattle.std.specs.FinMap.{entries, find, get, get-entries, is_sorted, len, len-entries}
use Rattle.std.specs.FinMap.Entries.{below_all}
use Rattle.std.specs.Ordering.{is_eq, is_lt, ordering_reverse}
use Rattle.std.proofs.lemmas.Bool.{and_parts, cases_lt}
use Rattle.std.proofs.lemmas.List.{get_or_append_left}
use Rattle.std.proofs.Math.Seq.{get_or-append_seam}
use Rattle.desk_merge.specs.Desk.{CanFollow}
use Rattle.desk_merge.specs.Held.{item_at}
use Rattle.desk_merge.specs.Joined.{Item, Joined, Key, key_cmp}
use Rattle.desk_merge.proofs.OrderLemmas.{head_below, key_same, key_total, less_of, rest_sorted, sorted_entries}

both : (a b : Bool) → a ≡ true → b ≡ true → (a && b) ≡ true
both a b p q = rw (p, q) refl

pub key_turned : (a b : Key) (r : Ordering) → key_cmp a b ≡ r → key_cmp b a ≡ ordering_reverse r
key_turned a b r p = key_total.antisymm b a ∙ ap ordering_reverse p

below_at : (q : Key) (es : List Item) (i : ℕ) (d : Item) → below_all key_cmp q es ≡ true → i < length es → key_cmp q (get_or es i d).0 ≡ Less
below_at q [] i d h within = absurd (omega arith)
below_at q (e ∷ es) zero d h within = less_of (key_cmp q e.0) (and_parts (is_lt (key_cmp q e.0)) (below_all key_cmp q es) h).0
below_at q (e ∷ es) (suc i) d h within = below_at q es i d (and_parts (is_lt (key_cmp q e.0)) (below_all key_cmp q es) h).1 (omega arith)

-- an item at one place is below those behind it
pub rises : (es : List Item) (i j : ℕ) (d : Item) → is_sorted key_cmp es ≡ true → i < j → j < length es → key_cmp (get_or es i d).0 (get_or es j d).0 ≡ Less
rises [] i j d h later within = absurd (omega arith)
rises (e ∷ es) i zero d h later within = absurd (omega arith)
rises (e ∷ es) zero (suc j) d h later within = below_at e.0 es j d (head_below e es h) (omega arith)
rises (e ∷ es) (suc i) (suc j) d h later within = rises es i j d (rest_sorted e es h) (omega arith) (omega arith)

below_push : (q : Key) (es : List Item) (e : Item) → below_all key_cmp q es ≡ true → key_cmp q e.0 ≡ Less → below_all key_cmp q (es ++ e ∷ []) ≡ true
below_push q [] e h less = both (is_lt (key_cmp q e.0)) true (ap is_lt less) refl
below_push q (x ∷ es) e h less =
    let parts = and_parts (is_lt (key_cmp q x.0)) (below_all key_cmp q es) h in
    both (is_lt (key_cmp q x.0)) (below_all key_cmp q (es ++ e ∷ [])) parts.0 (below_push q es e parts.1 less)

-- an item above all of them can follow them
pub follows_all : (es : List Item) (e d : Item) → is_sorted key_cmp es ≡ true → ((i : ℕ) → i < length es → key_cmp (get_or es i d).0 e.0 ≡ Less) → CanFollow es e
follows_all [] e d h above = refl
follows_all (x ∷ es) e d h above =
    both (below_all key_cmp x.0 (es ++ e ∷ [])) (is_sorted key_cmp (es ++ e ∷ [])) (below_push x.0 es e (head_below x es h) (above 0 (omega arith)))
    (follows_all es e d (rest_sorted x es h) (λ i within. above (suc i) (omega (arith, within))))

-- it is above each of them
pub above_each : (es : List Item) (e d : Item) (i : ℕ) → CanFollow es e → i < length es → key_cmp (get_or es i d).0 e.0 ≡ Less
above_each es e d i h within =
    let all = es ++ e ∷ [] in
    let pair = rises all i (length es) d h within (omega (arith, length-append es (e ∷ []))) in
    ap (λ x. key_cmp (get_or es i d).0 x.0) (sym (get_or-append_seam es e [] d))
    ∙ ap (λ x. key_cmp x.0 (get_or all (length es) d).0) (sym (get_or_append_left es (e ∷ []) d i within))
    ∙ pair

-- an item above the last of them can follow them
pub follows_last : (es : List Item) (e d : Item) (last : ℕ) → is_sorted key_cmp es ≡ true → last + 1 ≡ length es → key_cmp (get_or es last d).0 e.0 ≡ Less → CanFollow es e
follows_last es e d last h is above =
    follows_all es e d h (λ i within. elim (cases_lt i last) [
      | inl before ↦ key_total.trans (get_or es i d).0 (get_or es last d).0 e.0 (rises es i last d h before (omega (arith, is))) above
      | inr here ↦ let same : i ≡ last = omega (arith, is, within, here) in ap (λ k. key_cmp (get_or es k d).0 e.0) same ∙ above
    ])

-- A look-up.

pub find_other : (q : Key) (es : List Item) (d : Item) → ((i : ℕ) → i < length es → is_eq (key_cmp q (get_or es i d).0) ≡ false) → find key_cmp q es ≡ None
find_other q [] d h = refl
find_other q (e ∷ es) d h =
    ap (λ b. cond b (Some e.1) (find key_cmp q es)) (h 0 (omega arith)) ∙ find_other q es d (λ i within. h (suc i) (omega (arith, within)))

pub find_at : (q : Key) (es : List Item) (d : Item) (i : ℕ) → is_sorted key_cmp es ≡ true → i < length es → key_cmp q (get_or es i d).0 ≡ Equal → find key_cmp q es ≡ Some (get_or es i d).1
find_at q [] d i h within same = absurd (omega arith)
find_at q (e ∷ es) d zero h within same = ap (λ r. cond (is_eq r) (Some e.1) (find key_cmp q es)) same
find_at q (e ∷ es) d (suc i) h within same =
    let first : key_cmp e.0 (get_or es i d).0 ≡ Less = below_at e.0 es i d (head_below e es h) (omega arith) in
    let is : q ≡ (get_or es i d).0 = key_same q (get_or es i d).0 same in
    let above : key_cmp q e.0 ≡ Greater = ap (λ k. key_cmp k e.0) is ∙ key_turned e.0 (get_or es i d).0 Less first in
    ap (λ r. cond (is_eq r) (Some e.1) (find key_cmp q es)) above ∙ find_at q es d i (rest_sorted e es h) (omega arith) same

-- the key is among the items from one index up to another, if it is at all
pub record IsBetween (m : Joined) (q : Key) (low high : ℕ) : Type 0 where
  pub most : high ≤ len m
  pub before : (i : ℕ) → i < low → i < len m → key_cmp q (item_at m i).0 ≡ Greater
  pub behind : (i : ℕ) → high ≤ i → i < len m → key_cmp q (item_at m i).0 ≡ Less

pub between_all : (m : Joined) (q : Key) → IsBetween m q 0 (len m)
between_all m q = record { most = omega arith; before = λ i below within. absurd (omega (arith, below)); behind = λ i past within. absurd (omega (arith, past, within)) }

pub lower_high : (m : Joined) (q : Key) (low high middle : ℕ) → IsBetween m q low high → middle < high → key_cmp q (item_at m middle).0 ≡ Less → IsBetween m q low middle
lower_high m q low high middle b below less = record {
  most = omega (arith, b.most);
  before = b.before;
  behind = λ i past within. elim (cases_lt middle i) [
    | inl later ↦ key_total.trans q (item_at m middle).0 (item_at m i).0 less (rises (entries m) middle i _ (sorted_entries m) later (omega (arith, len-entries m, within)))
    | inr here ↦ let same : i ≡ middle = omega (arith, past, here) in ap (λ k. key_cmp q (item_at m k).0) same ∙ less
  ];
}

pub raise_low : (m : Joined) (q : Key) (low high middle : ℕ) → IsBetween m q low high → middle < high → key_cmp q (item_at m middle).0 ≡ Greater → IsBetween m q (middle + 1) high
raise_low m q low high middle b below greater = record {
  most = b.most;
  before = λ i before within. elim (cases_lt i middle) [
    | inl earlier ↦
        let pair = rises (entries m) i middle _ (sorted_entries m) earlier (omega (arith, len-entries m, b.most, below)) in
        key_turned (item_at m i).0 q Less (key_total.trans (item_at m i).0 (item_at m middle).0 q pair (key_turned q (item_at m middle).0 Greater greater))
    | inr here ↦ let same : i ≡ middle = omega (arith, before, here) in ap (λ k. key_cmp q (item_at m k).0) same ∙ greater
  ];
  behind = b.behind;
}

pub between_none : (m : Joined) (q : Key) (low high : ℕ) → IsBetween m q low high → high ≤ low → get m q ≡ None
between_none m q low high b past =
    get-entries m q ∙ find_other q (entries m) (([], []), (0, 0)) (λ i within. elim (cases_lt i low) [
      | inl before ↦ ap is_eq (b.before i before (omega (arith, len-entries m, within)))
      | inr behind ↦ ap is_eq (b.behind i (omega (arith, past, behind)) (omega (arith, len-entries m, within)))
    ])

pub between_here : (m : Joined) (q : Key) (index : ℕ) → index < len m → key_cmp q (item_at m index).0 ≡ Equal → get m q ≡ Some (item_at m index).1
between_here m q index within same = get-entries m q ∙ find_at q (entries m) (([], []), (0, 0)) index (sorted_entries m) (omega (arith, len-entries m, within)) same

no_items : (es : List Item) → length es ≡ 0 → es ≡ []
no_items [] h = refl
no_items (e ∷ es) h = absurd (omega arith)

-- any item can follow none
pub follows_none : (m : Joined) (e : Item) → len m ≡ 0 → CanFollow (entries m) e
follows_none m e none = ap (λ es. is_sorted key_cmp (es ++ e ∷ [])) (no_items (entries m) (sym (len-entries m) ∙ none))

pub follows_greater : (m : Joined) (e : Item) (last : ℕ) → last + 1 ≡ len m → key_cmp e.0 (item_at m last).0 ≡ Greater → CanFollow (entries m) e
follows_greater m e last is above =
    follows_last (entries m) e (([], []), (0, 0)) last (sorted_entries m) (is ∙ len-entries m) (key_turned e.0 (item_at m last).0 Greater above)

pub greater_followed : (m : Joined) (e : Item) (last : ℕ) → last + 1 ≡ len m → CanFollow (entries m) e → key_cmp e.0 (item_at m last).0 ≡ Greater
greater_followed m e last is h = key_turned (item_at m last).0 e.0 Less (above_each (entries m) e (([], []), (0, 0)) last h (omega (arith, is, len-entries m)))

-- what follows others follows them by its key
pub follows_same : (m : Joined) (x y : Item) → CanFollow (entries m) x → x.0 ≡ y.0 → CanFollow (entries m) y
follows_same m x y h same =
    follows_all (entries m) y (([], []), (0, 0)) (sorted_entries m) (λ i within.
    ap (key_cmp (get_or (entries m) i (([], []), (0, 0))).0) (sym same) ∙ above_each (entries m) x (([], []), (0, 0)) i h within)
