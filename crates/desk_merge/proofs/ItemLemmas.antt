-- The join of maps that desk files can have is such a map.
use Rattle.std.proofs.Common.{◌≡◌, cond, List, [], ◌∷◌, get_or, refl, sym, ap, ◌∙◌, subst, inl, inr, Option, Some, None}
use Rattle.std.specs.Prelude.{◌⊎◌}
use Rattle.std.specs.declared.cmp.Ordering.TheVariants.{Less, Equal, Greater}
use Rattle.std.specs.FinMap.{entries, find, get, get-entries}
use Rattle.std.specs.Ordering.{eq_by_cmp}
use Rattle.std.proofs.lemmas.Bool.{cases_Bool}
use Rattle.std.proofs.lemmas.Cmp.{tied_itself}
use Rattle.std.proofs.lemmas.List.Elements.{All-from_get_or, All-head, All-tail}
use Rattle.desk_merge.specs.Desk.{AreItems, IsItem}
use Rattle.desk_merge.specs.Joined.{Item, Joined, Key, Review, better, greater, join, key_cmp, picked, review_cmp}
use Rattle.desk_merge.proofs.JoinLemmas.{is_join}
use Rattle.desk_merge.proofs.OrderLemmas.{key_total, sorted_entries, tied_key}
use Rattle.desk_merge.proofs.SortedLemmas.{find_at}

-- what is found in such a list is such an item
found_item : (es : List Item) (q : Key) (v : Review) → AreItems es → find key_cmp q es ≡ Some v → IsItem (q, v)
found_item [] q v items h = absurd (cc)
found_item (e ∷ es) q v items h = elim (cases_Bool (eq_by_cmp key_cmp q e.0)) [
  | inl here ↦
      let key : q ≡ e.0 = tied_key q e.0 here in
      let first : Some e.1 ≡ Some v = sym (ap (λ b. cond b (Some e.1) (find key_cmp q es)) here) ∙ h in
      let review : e.1 ≡ v = cc in
      subst IsItem (λ i. (sym key i, review i)) (All-head IsItem e es items)
  | inr other ↦ found_item es q v (All-tail IsItem e es items) (sym (ap (λ b. cond b (Some e.1) (find key_cmp q es)) other) ∙ h)
]

greater_is : (a b : Review) → (greater a b ≡ a) ⊎ (greater a b ≡ b)
greater_is a b = elim (review_cmp a b) as (λ r. (picked r a b ≡ a) ⊎ (picked r a b ≡ b)) [ Less ↦ inr refl | Equal ↦ inl refl | Greater ↦ inl refl ]

better_is : (a b : Option Review) (v : Review) → better a b ≡ Some v → (a ≡ Some v) ⊎ (b ≡ Some v)
better_is None b v h = inr h
better_is (Some a) None v h = inl h
better_is (Some a) (Some b) v h = elim (greater_is a b) [
  | inl first ↦ inl (ap Some (sym first) ∙ h)
  | inr second ↦ inr (ap Some (sym second) ∙ h)
]

pub items-join : (a b : Joined) → AreItems (entries a) → AreItems (entries b) → AreItems (entries (join a b))
items-join a b in_a in_b =
    let es = entries (join a b) in
    let none : Item = (([], []), (0, 0)) in
    All-from_get_or IsItem es none (λ i within.
    let e = get_or es i none in
    let there : get (join a b) e.0 ≡ Some e.1 = get-entries (join a b) e.0 ∙ find_at e.0 es none i (sorted_entries (join a b)) within (tied_itself key_total e.0) in
    elim (better_is (get a e.0) (get b e.0) e.1 (sym (is_join a b e.0) ∙ there)) [
      | inl one ↦ found_item (entries a) e.0 e.1 in_a (sym (get-entries a e.0) ∙ one)
      | inr other ↦ found_item (entries b) e.0 e.1 in_b (sym (get-entries b e.0) ∙ other)
    ])
