-- The order of reviews, and the join of maps.
use Rattle.std.proofs.Common.{◌≡◌, ℕ, zero, suc, ◌<◌, Bool, true, false, cond, List, [], ◌∷◌, ◌++◌, length, get_or, refl, sym, ap, ◌∙◌, arith, Option, Some, None}
use Rattle.std.specs.Prelude.{Contains}
use Rattle.std.specs.declared.cmp.Ordering.{Ordering}
use Rattle.std.specs.declared.cmp.Ordering.TheVariants.{Less, Equal, Greater}
use Rattle.std.specs.FinMap.{empty, entries, find, get, get-empty, get-entries, get-insert, insert, is_sorted, same_map}
use Rattle.std.specs.Ordering.{eq_by_cmp, ordering_reverse}
use Rattle.std.proofs.lemmas.Cmp.{tied_itself}
use Rattle.desk_merge.specs.Joined.{IsJoin, Item, Joined, Key, Review, better, better_than, greater, join, join_of, key_cmp, picked, review_cmp, with_items}
use Rattle.desk_merge.proofs.OrderLemmas.{key_same, key_total, find_first_key, rest_sorted, review_same, review_total, sorted_entries, tied_key}

-- The greater of two reviews.

greater-self : (a : Review) → greater a a ≡ a
greater-self a = ap (λ r. picked r a a) (tied_itself review_total a)

turned : (a b : Review) (r : Ordering) → review_cmp a b ≡ r → review_cmp b a ≡ ordering_reverse r
turned a b r p = review_total.antisymm b a ∙ ap ordering_reverse p

greater-comm : (a b : Review) → greater a b ≡ greater b a
greater-comm a b =
    elim (review_cmp a b) as (λ r. review_cmp a b ≡ r → picked r a b ≡ greater b a) [
      | Less ↦ λ p. sym (ap (λ r. picked r b a) (turned a b Less p))
      | Equal ↦ λ p. review_same a b p ∙ sym (ap (λ r. picked r b a) (turned a b Equal p))
      | Greater ↦ λ p. sym (ap (λ r. picked r b a) (turned a b Greater p))
    ] refl

greater-again : (a b : Review) → greater a (greater a b) ≡ greater a b
greater-again a b =
    elim (review_cmp a b) as (λ r. review_cmp a b ≡ r → greater a (picked r a b) ≡ picked r a b) [
      | Less ↦ λ p. ap (λ r. picked r a b) p
      | Equal ↦ λ p. greater-self a
      | Greater ↦ λ p. greater-self a
    ] refl

-- a is less than b
greater-of_less : (a b c : Review) → review_cmp a b ≡ Less → greater b c ≡ greater a (greater b c)
greater-of_less a b c p =
    elim (review_cmp b c) as (λ s. review_cmp b c ≡ s → picked s b c ≡ greater a (picked s b c)) [
      | Less ↦ λ q. sym (ap (λ r. picked r a c) (review_total.trans a b c p q))
      | Equal ↦ λ q. sym (ap (λ r. picked r a b) p)
      | Greater ↦ λ q. sym (ap (λ r. picked r a b) p)
    ] refl

-- a is greater than b
greater-of_more : (a b c : Review) → review_cmp a b ≡ Greater → greater a c ≡ greater a (greater b c)
greater-of_more a b c p =
    elim (review_cmp b c) as (λ s. review_cmp b c ≡ s → greater a c ≡ greater a (picked s b c)) [
      | Less ↦ λ q. refl
      | Equal ↦ λ q. ap (greater a) (sym (review_same b c q))
      | Greater ↦ λ q.
          let below : review_cmp c a ≡ Less = review_total.trans c b a (turned b c Greater q) (turned a b Greater p) in
          ap (λ r. picked r a c) (turned c a Less below) ∙ sym (ap (λ r. picked r a b) p)
    ] refl

greater-assoc : (a b c : Review) → greater (greater a b) c ≡ greater a (greater b c)
greater-assoc a b c =
    elim (review_cmp a b) as (λ r. review_cmp a b ≡ r → greater (picked r a b) c ≡ greater a (greater b c)) [
      | Less ↦ λ p. greater-of_less a b c p
      | Equal ↦ λ p. sym (greater-again a c) ∙ ap (λ x. greater a (greater x c)) (review_same a b p)
      | Greater ↦ λ p. greater-of_more a b c p
    ] refl

-- The better of two that may be there.

pub better-comm : (a b : Option Review) → better a b ≡ better b a
better-comm None None = refl
better-comm None (Some b) = refl
better-comm (Some a) None = refl
better-comm (Some a) (Some b) = ap Some (greater-comm a b)

pub better-assoc : (a b c : Option Review) → better (better a b) c ≡ better a (better b c)
better-assoc None b c = refl
better-assoc (Some a) None c = refl
better-assoc (Some a) (Some b) None = refl
better-assoc (Some a) (Some b) (Some c) = ap Some (greater-assoc a b c)

pub better-self : (a : Option Review) → better a a ≡ a
better-self None = refl
better-self (Some a) = ap Some (greater-self a)

pub better-none : (a : Option Review) → better a None ≡ a
better-none None = refl
better-none (Some a) = refl

better-some : (a : Option Review) (b : Review) → better a (Some b) ≡ Some (better_than a b)
better-some None b = refl
better-some (Some a) b = refl

-- The join of two maps.

one_in : (old : Option Review) (new : Review) (found : Option Review) (here : Bool) → (here ≡ true → found ≡ None) →
    better (cond here (Some (better_than old new)) old) found ≡ better old (cond here (Some new) found)
one_in old new found true h = ap (better (Some (better_than old new))) (h refl) ∙ sym (better-some old new)
one_in old new found false h = refl

same_old : (m : Joined) (q k : Key) (v : Review) → cond (eq_by_cmp key_cmp q k) (Some (better_than (get m k) v)) (get m q) ≡ cond (eq_by_cmp key_cmp q k) (Some (better_than (get m q) v)) (get m q)
same_old m q k v =
    elim (eq_by_cmp key_cmp q k) as (λ b. eq_by_cmp key_cmp q k ≡ b → cond b (Some (better_than (get m k) v)) (get m q) ≡ cond b (Some (better_than (get m q) v)) (get m q)) [
      | true ↦ λ e. ap (λ key. Some (better_than (get m key) v)) (sym (tied_key q k e))
      | false ↦ λ e. refl
    ] refl

get-with_items : (es : List Item) (m : Joined) (q : Key) → is_sorted key_cmp es ≡ true → get (with_items m es) q ≡ better (get m q) (find key_cmp q es)
unfolding with_items
get-with_items [] m q h = sym (better-none (get m q))
get-with_items (e ∷ es) m q h =
    get-with_items es (insert m e.0 (better_than (get m e.0) e.1)) q (rest_sorted e es h)
    ∙ ap (λ o. better o (find key_cmp q es)) (get-insert key_total m e.0 (better_than (get m e.0) e.1) q ∙ same_old m q e.0 e.1)
    ∙ one_in (get m q) e.1 (find key_cmp q es) (eq_by_cmp key_cmp q e.0) (λ here. find_first_key q e es here h)

pub is_join : (a b : Joined) → IsJoin a b (join a b)
unfolding join
is_join a b q = get-with_items (entries b) a q (sorted_entries b) ∙ ap (better (get a q)) (sym (get-entries b q))

-- what has the better at each key is the join
pub join_of_better : (a b c : Joined) → IsJoin a b c → c ≡ join a b
join_of_better a b c h = same_map key_total key_same c (join a b) (λ q. h q ∙ sym (is_join a b q))

pub join-comm : (a b : Joined) → join a b ≡ join b a
join-comm a b = join_of_better b a (join a b) (λ q. is_join a b q ∙ better-comm (get a q) (get b q))

pub join-assoc : (a b c : Joined) → join (join a b) c ≡ join a (join b c)
join-assoc a b c = join_of_better a (join b c) (join (join a b) c) (λ q.
    is_join (join a b) c q
    ∙ ap (λ o. better o (get c q)) (is_join a b q)
    ∙ better-assoc (get a q) (get b q) (get c q)
    ∙ ap (better (get a q)) (sym (is_join b c q)))

pub join-self : (a : Joined) → join a a ≡ a
join-self a = sym (join_of_better a a a (λ q. sym (better-self (get a q))))

pub join-empty : (a : Joined) → join a empty ≡ a
join-empty a = sym (join_of_better a empty a (λ q. sym (ap (better (get a q)) (get-empty key_cmp q) ∙ better-none (get a q))))

pub join-empty_left : (a : Joined) → join empty a ≡ a
join-empty_left a = join-comm empty a ∙ join-empty a

-- The join of a list of maps.

pub join_of-append : (ms ns : List Joined) → join_of (ms ++ ns) ≡ join (join_of ms) (join_of ns)
unfolding join_of
join_of-append [] ns = sym (join-empty_left (join_of ns))
join_of-append (m ∷ ms) ns = ap (join m) (join_of-append ms ns) ∙ sym (join-assoc m (join_of ms) (join_of ns))

pub join_of-one : (m : Joined) → join_of (m ∷ []) ≡ m
unfolding join_of
join_of-one m = join-empty m

pub join_of-cons : (m : Joined) (ms : List Joined) → join_of (m ∷ ms) ≡ join m (join_of ms)
unfolding join_of
join_of-cons m ms = refl

-- a member is in the join already
member_absorbed : (ms : List Joined) (m : Joined) (k : ℕ) → k < length ms → get_or ms k m ≡ m → join m (join_of ms) ≡ join_of ms
unfolding join_of
member_absorbed [] m k below e = absurd (omega arith)
member_absorbed (n ∷ ms) m zero below e =
    ap (λ x. join x (join n (join_of ms))) (sym e) ∙ sym (join-assoc n n (join_of ms)) ∙ ap (λ x. join x (join_of ms)) (join-self n)
member_absorbed (n ∷ ms) m (suc k) below e =
    sym (join-assoc m n (join_of ms))
    ∙ ap (λ x. join x (join_of ms)) (join-comm m n)
    ∙ join-assoc n m (join_of ms)
    ∙ ap (join n) (member_absorbed ms m k (omega arith) e)

all_absorbed : (ms ns : List Joined) → ((m : Joined) → Contains ms m → Contains ns m) → join (join_of ms) (join_of ns) ≡ join_of ns
unfolding join_of
all_absorbed [] ns h = join-empty_left (join_of ns)
all_absorbed (m ∷ ms) ns h =
    let here = h m (0, omega arith, refl) in
    join-assoc m (join_of ms) (join_of ns)
    ∙ ap (join m) (all_absorbed ms ns (λ n there. h n (suc there.0, omega (arith, there.1), there.2)))
    ∙ member_absorbed ns m here.0 here.1 here.2

-- lists with the same members have one join
pub join_of-same_members : (ms ns : List Joined) → ((m : Joined) → Contains ms m → Contains ns m) → ((m : Joined) → Contains ns m → Contains ms m) → join_of ms ≡ join_of ns
join_of-same_members ms ns f g =
    sym (all_absorbed ns ms g) ∙ join-comm (join_of ns) (join_of ms) ∙ all_absorbed ms ns f
