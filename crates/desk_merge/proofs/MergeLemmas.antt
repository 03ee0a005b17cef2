-- The steps of a merge keep what the join has at each key.
use Rattle.std.proofs.Common.{◌≡◌, ℕ, ◌+◌, ◌<◌, ◌≤◌, Bool, true, false, cond, List, [], ◌∷◌, ◌++◌, length, drop, get_or, refl, sym, ap, ◌∙◌, subst, arith, length-append, length-drop, Some, None, Option, add-one, drop-cons, inl, inr}
use Rattle.std.specs.declared.cmp.Ordering.TheVariants.{Less, Equal}
use Rattle.std.specs.FinMap.{empty, entries, find, get, get-empty, get-entries, is_sorted, len, len-entries}
use Rattle.std.specs.FinMap.Entries.{find-append}
use Rattle.std.specs.Ordering.{eq_by_cmp, is_eq}
use Rattle.std.proofs.lemmas.Bool.{cases_lt}
use Rattle.std.proofs.lemmas.List.{drop_all, get_or-drop}
use Rattle.std.proofs.Math.Seq.{get_or-append_seam}
use Rattle.desk_merge.specs.Desk.{CanFollow}
use Rattle.desk_merge.specs.Held.{item_at}
use Rattle.desk_merge.specs.Joined.{Item, Joined, Key, Review, better, greater, join, key_cmp}
use Rattle.desk_merge.proofs.HeldLemmas.{entries-empty}
use Rattle.desk_merge.proofs.JoinLemmas.{better-comm, better-none, join_of_better}
use Rattle.desk_merge.proofs.OrderLemmas.{key_same, key_total, sorted_entries, tied_key}
use Rattle.desk_merge.proofs.SortedLemmas.{above_each, find_other, follows_last, key_turned, rises}

-- an item at the end of those that it follows
push_follows : (es : List Item) (x e : Item) → CanFollow es x → key_cmp x.0 e.0 ≡ Less → CanFollow (es ++ x ∷ []) e
push_follows es x e h less =
    follows_last (es ++ x ∷ []) e (([], []), (0, 0)) (length es) h (omega (arith, length-append es (x ∷ [])))
    (ap (λ y. key_cmp y.0 e.0) (get_or-append_seam es x [] (([], []), (0, 0))) ∙ less)

-- a key that can follow is new
new_key : (es : List Item) (e : Item) → CanFollow es e → find key_cmp e.0 es ≡ None
new_key es e h = find_other e.0 es (([], []), (0, 0)) (λ i within. ap is_eq (key_turned (get_or es i (([], []), (0, 0))).0 e.0 Less (above_each es e (([], []), (0, 0)) i h within)))

get_pushed : (m after : Joined) (e : Item) (q : Key) → CanFollow (entries m) e → entries after ≡ entries m ++ e ∷ [] → get after q ≡ cond (eq_by_cmp key_cmp q e.0) (Some e.1) (get m q)
get_pushed m after e q h is =
    get-entries after q
    ∙ ap (find key_cmp q) is
    ∙ find-append key_cmp key_total (entries m) e.0 e.1 q (new_key (entries m) e h)
    ∙ ap (cond (eq_by_cmp key_cmp q e.0) (Some e.1)) (sym (get-entries m q))

-- a key below the item at an index is none of those from there on
find_behind : (m : Joined) (i : ℕ) (q : Key) → (i < len m → key_cmp q (item_at m i).0 ≡ Less) → find key_cmp q (drop i (entries m)) ≡ None
find_behind m i q below =
    let es = entries m in
    let none : Item = (([], []), (0, 0)) in
    find_other q (drop i es) none (λ k within.
    let start : i < len m = omega (arith, within, length-drop i es, len-entries m) in
    let there : get_or (drop i es) k none ≡ get_or es (i + k) none = get_or-drop i es k none in
    let less : key_cmp q (get_or es (i + k) none).0 ≡ Less = elim (cases_lt i (i + k)) [
      | inl later ↦ key_total.trans q (item_at m i).0 (get_or es (i + k) none).0 (below start) (rises es i (i + k) none (sorted_entries m) later (omega (arith, within, length-drop i es)))
      | inr here ↦ let same : i + k ≡ i = omega (arith, here) in ap (λ n. key_cmp q (get_or es n none).0) same ∙ below start
    ] in
    ap (λ x. is_eq (key_cmp q x.0)) there ∙ ap is_eq less)

-- what is left behind an index
find_next : (m : Joined) (i : ℕ) (q : Key) → i < len m → find key_cmp q (drop i (entries m)) ≡ cond (eq_by_cmp key_cmp q (item_at m i).0) (Some (item_at m i).1) (find key_cmp q (drop (i + 1) (entries m)))
find_next m i q within =
    ap (find key_cmp q) (drop-cons (entries m) i (([], []), (0, 0)) (omega (arith, len-entries m)))
    ∙ ap (λ n. find key_cmp q (item_at m i ∷ drop n (entries m))) (sym (add-one i))

-- The better of what is there at one key.

one_moved : (here : Bool) (v : Review) (old left right : Option Review) → (here ≡ true → (old ≡ None) × (left ≡ None) × (right ≡ None)) →
    better old (better (cond here (Some v) left) right) ≡ better (cond here (Some v) old) (better left right)
one_moved true v old left right h =
    let none = h refl in
    rw (none.0, none.1, none.2) refl
one_moved false v old left right h = refl

both_moved : (here : Bool) (v w : Review) (old left right : Option Review) → (here ≡ true → (old ≡ None) × (left ≡ None) × (right ≡ None)) →
    better old (better (cond here (Some v) left) (cond here (Some w) right)) ≡ better (cond here (Some (greater v w)) old) (better left right)
both_moved true v w old left right h =
    let none = h refl in
    rw (none.0, none.1, none.2) refl
both_moved false v w old left right h = refl

-- what is merged so far, and what is left of both
pub record IsMerged (a b : Joined) (i j : ℕ) (m : Joined) : Type 0 where
  pub in_one : i ≤ len a
  pub in_other : j ≤ len b
  pub at_each : (q : Key) → better (get a q) (get b q) ≡ better (get m q) (better (find key_cmp q (drop i (entries a))) (find key_cmp q (drop j (entries b))))
  pub one_follows : i < len a → CanFollow (entries m) (item_at a i)
  pub other_follows : j < len b → CanFollow (entries m) (item_at b j)

pub merge_start : (a b m : Joined) → m ≡ empty → IsMerged a b 0 0 m
merge_start a b m is = record {
  in_one = omega arith;
  in_other = omega arith;
  at_each = λ q. ap (λ o. better o (get b q)) (get-entries a q) ∙ ap (better (find key_cmp q (entries a))) (get-entries b q)
      ∙ ap (λ o. better o (better (find key_cmp q (entries a)) (find key_cmp q (entries b)))) (sym (ap (λ x. get x q) is ∙ get-empty key_cmp q));
  one_follows = λ within. ap (λ es. is_sorted key_cmp (es ++ item_at a 0 ∷ [])) (entries-empty m is);
  other_follows = λ within. ap (λ es. is_sorted key_cmp (es ++ item_at b 0 ∷ [])) (entries-empty m is);
}

pub merge_end : (a b m : Joined) (i j : ℕ) → IsMerged a b i j m → len a ≤ i → len b ≤ j → m ≡ join a b
merge_end a b m i j merged past_one past_other =
    join_of_better a b m (λ q. sym (merged.at_each q
    ∙ ap (λ es. better (get m q) (better (find key_cmp q es) (find key_cmp q (drop j (entries b))))) (drop_all i (entries a) (omega (arith, len-entries a)))
    ∙ ap (λ es. better (get m q) (find key_cmp q es)) (drop_all j (entries b) (omega (arith, len-entries b)))
    ∙ better-none (get m q)))

pub other_way : (a b m : Joined) (i j : ℕ) → IsMerged a b i j m → IsMerged b a j i m
other_way a b m i j merged = record {
  in_one = merged.in_other;
  in_other = merged.in_one;
  at_each = λ q. better-comm (get b q) (get a q) ∙ merged.at_each q ∙ ap (better (get m q)) (better-comm (find key_cmp q (drop i (entries a))) (find key_cmp q (drop j (entries b))));
  one_follows = merged.other_follows;
  other_follows = merged.one_follows;
}

-- the item at an index is below the next one
next_rises : (m : Joined) (i : ℕ) → i + 1 < len m → key_cmp (item_at m i).0 (item_at m (i + 1)).0 ≡ Less
next_rises m i within = rises (entries m) i (i + 1) (([], []), (0, 0)) (sorted_entries m) (omega arith) (omega (arith, len-entries m))

pub take_one : (a b m after : Joined) (i j : ℕ) → IsMerged a b i j m → i < len a → (j < len b → key_cmp (item_at a i).0 (item_at b j).0 ≡ Less) →
    entries after ≡ entries m ++ item_at a i ∷ [] → IsMerged a b (i + 1) j after
take_one a b m after i j merged within below is =
    let x = item_at a i in
    let follows = merged.one_follows within in
    record {
      in_one = omega arith;
      in_other = merged.in_other;
      at_each = λ q.
          let here = eq_by_cmp key_cmp q x.0 in
          merged.at_each q
          ∙ ap (λ o. better (get m q) (better o (find key_cmp q (drop j (entries b))))) (find_next a i q within)
          ∙ one_moved here x.1 (get m q) (find key_cmp q (drop (i + 1) (entries a))) (find key_cmp q (drop j (entries b))) (λ same.
          let key : q ≡ x.0 = tied_key q x.0 same in (
            get-entries m q ∙ ap (λ k. find key_cmp k (entries m)) key ∙ new_key (entries m) x follows,
            ap (λ k. find key_cmp k (drop (i + 1) (entries a))) key ∙ find_behind a (i + 1) x.0 (next_rises a i),
            ap (λ k. find key_cmp k (drop j (entries b))) key ∙ find_behind b j x.0 below,
          ))
          ∙ ap (λ o. better o (better (find key_cmp q (drop (i + 1) (entries a))) (find key_cmp q (drop j (entries b))))) (sym (get_pushed m after x q follows is));
      one_follows = λ next. subst (λ es. CanFollow es (item_at a (i + 1))) (sym is) (push_follows (entries m) x (item_at a (i + 1)) follows (next_rises a i next));
      other_follows = λ next. subst (λ es. CanFollow es (item_at b j)) (sym is) (push_follows (entries m) x (item_at b j) follows (below next));
    }

pub take_both : (a b m after : Joined) (i j : ℕ) (e : Item) → IsMerged a b i j m → i < len a → j < len b → key_cmp (item_at a i).0 (item_at b j).0 ≡ Equal →
    e.0 ≡ (item_at a i).0 → e.1 ≡ greater (item_at a i).1 (item_at b j).1 → CanFollow (entries m) e → entries after ≡ entries m ++ e ∷ [] → IsMerged a b (i + 1) (j + 1) after
take_both a b m after i j e merged within_one within_other tied key_is review_is follows is =
    let x = item_at a i in
    let y = item_at b j in
    let one_key : e.0 ≡ x.0 = key_is in
    let other_key : e.0 ≡ y.0 = key_is ∙ key_same x.0 y.0 tied in
    let below_one = λ (next : i + 1 < len a). ap (λ k. key_cmp k (item_at a (i + 1)).0) one_key ∙ next_rises a i next in
    let below_other = λ (next : j + 1 < len b). ap (λ k. key_cmp k (item_at b (j + 1)).0) other_key ∙ next_rises b j next in
    record {
      in_one = omega arith;
      in_other = omega arith;
      at_each = λ q.
          let here = eq_by_cmp key_cmp q e.0 in
          let left = find key_cmp q (drop (i + 1) (entries a)) in
          let right = find key_cmp q (drop (j + 1) (entries b)) in
          merged.at_each q
          ∙ ap (λ o. better (get m q) (better o (find key_cmp q (drop j (entries b))))) (find_next a i q within_one ∙ ap (λ k. cond (eq_by_cmp key_cmp q k) (Some x.1) left) (sym one_key))
          ∙ ap (λ o. better (get m q) (better (cond here (Some x.1) left) o)) (find_next b j q within_other ∙ ap (λ k. cond (eq_by_cmp key_cmp q k) (Some y.1) right) (sym other_key))
          ∙ both_moved here x.1 y.1 (get m q) left right (λ same.
          let key : q ≡ e.0 = tied_key q e.0 same in (
            get-entries m q ∙ ap (λ k. find key_cmp k (entries m)) key ∙ new_key (entries m) e follows,
            ap (λ k. find key_cmp k (drop (i + 1) (entries a))) key ∙ find_behind a (i + 1) e.0 below_one,
            ap (λ k. find key_cmp k (drop (j + 1) (entries b))) key ∙ find_behind b (j + 1) e.0 below_other,
          ))
          ∙ ap (λ r. better (cond here (Some r) (get m q)) (better left right)) (sym review_is)
          ∙ ap (λ o. better o (better left right)) (sym (get_pushed m after e q follows is));
      one_follows = λ next. subst (λ es. CanFollow es (item_at a (i + 1))) (sym is) (push_follows (entries m) e (item_at a (i + 1)) follows (below_one next));
      other_follows = λ next. subst (λ es. CanFollow es (item_at b (j + 1))) (sym is) (push_follows (entries m) e (item_at b (j + 1)) follows (below_other next));
    }

-- the second of two items of one key has the greater review
pub other_is_greater : (x y : Item) (a b : Review) (above : Bool) → key_cmp x.0 y.0 ≡ Equal → greater b a ≡ cond above a b → above ≡ true → a ≡ y.1 → b ≡ x.1 → y ≡ (x.0, greater x.1 y.1)
other_is_greater x y a b above tied picks is_above a_is b_is =
    let key = sym (key_same x.0 y.0 tied) in
    let review : y.1 ≡ greater x.1 y.1 =
    sym a_is ∙ sym (picks ∙ ap (λ t. cond t a b) is_above) ∙ ap (λ r. greater r a) b_is ∙ ap (greater x.1) a_is in
    λ i. (key i, review i)
