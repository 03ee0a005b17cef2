-- Ranks in clusters, and the ranks among those that stay.
use Rattle.std.proofs.Common.{◌≡◌, ◌≢◌, ℕ, zero, suc, ◌+◌, ◌-◌, ◌<◌, ◌≤◌, Bool, true, false, not, ◌&&◌, eqb, ltb, ◌⊎◌, refl, sym, ap, ◌∙◌, inl, inr, arith}
use Rattle.std.proofs.lemmas.Bool.{and_from, and_left, and_parts, and_right, cases_Bool, cases_eq, cases_order, eq-eqb, eqb-true, le-ltb, lt-ltb, ltb-true, ne_eqb}
use Rattle.std.proofs.lemmas.Bool.Decides.{nat_tests}
use Rattle.peer_selection.specs.Counting.{count_below, sum_below}
use Rattle.peer_selection.proofs.CountingLemmas.{count_below-more, count_below-none, count_below-only, count_below-same, count_below-split, one_if, sum_below-le, sum_below-suc, sum_below-zero}
use Rattle.peer_selection.proofs.OrderLemmas.{count_below-one, sum_below-full}
use Rattle.reserve_list.specs.Reserve.{Withdrawn, gone_ahead, is_ahead}

-- Members with different values.

one_more : (member : Bool) (x m : ℕ) → one_if (member && ltb x (suc m)) ≡ one_if (member && ltb x m) + one_if (member && eqb x m)
one_more member x m = grind (arith, nat_tests)

-- no two members below n have one value
abbrev pub HaveOwn : (ℕ → Bool) → (ℕ → ℕ) → ℕ → Type 0
HaveOwn member value n = (i k : ℕ) → i < n → k < n → member i ≡ true → member k ≡ true → value i ≡ value k → i ≡ k

-- the members of a value below m, value by value
by_value : (member : ℕ → Bool) (value : ℕ → ℕ) (n m : ℕ) → count_below (λ i. member i && ltb (value i) m) n ≡ sum_below (λ r. count_below (λ i. member i && eqb (value i) r) n) m
by_value member value n zero =
    count_below-none (λ i. member i && ltb (value i) 0) n (λ i l. and_right (member i) (ltb (value i) 0) (le-ltb (value i) 0 (omega arith)))
    ∙ sym (sum_below-zero (λ r. count_below (λ i. member i && eqb (value i) r) n))
by_value member value n (suc m) =
    omega (
      arith,
      count_below-split (λ i. member i && ltb (value i) (suc m)) (λ i. member i && ltb (value i) m) (λ i. member i && eqb (value i) m) n (λ i l. one_more (member i) (value i) m),
      sum_below-suc (λ r. count_below (λ i. member i && eqb (value i) r) n) m,
      by_value member value n m,
    )

at_most_one : (member : ℕ → Bool) (value : ℕ → ℕ) (n : ℕ) → HaveOwn member value n → (r : ℕ) → count_below (λ i. member i && eqb (value i) r) n ≤ 1
at_most_one member value n own r =
    count_below-one (λ i. member i && eqb (value i) r) n (λ i k il kl a b.
    let mi = and_parts (member i) (eqb (value i) r) a in
    let mk = and_parts (member k) (eqb (value k) r) b in
    own i k il kl mi.0 mk.0 (eqb-true (value i) r mi.1 ∙ sym (eqb-true (value k) r mk.1)))

-- at most m of them have a value below m
pub few_below : (member : ℕ → Bool) (value : ℕ → ℕ) (n m : ℕ) → HaveOwn member value n → count_below (λ i. member i && ltb (value i) m) n ≤ m
few_below member value n m own =
    omega (arith, by_value member value n m, sum_below-le (λ r. count_below (λ i. member i && eqb (value i) r) n) 1 m (λ r _. at_most_one member value n own r))

below_all : (member : Bool) (x n : ℕ) → (member ≡ true → x < n) → (member && ltb x n) ≡ member
below_all true x n h = lt-ltb x n (h refl)
below_all false x n h = refl

-- just m of them, where they are as many as the values below which all of theirs are
pub all_below : (member : ℕ → Bool) (value : ℕ → ℕ) (n s m : ℕ) → HaveOwn member value n → ((i : ℕ) → i < n → member i ≡ true → value i < s) → count_below member n ≡ s → m ≤ s
    → count_below (λ i. member i && ltb (value i) m) n ≡ m
all_below member value n s m own within size l =
    let all = count_below-same (λ i. member i && ltb (value i) s) member n (λ i il. below_all (member i) (value i) s (within i il)) in
    by_value member value n m
    ∙ sum_below-full (λ r. count_below (λ i. member i && eqb (value i) r) n) m s (at_most_one member value n own) (sym (by_value member value n s) ∙ all ∙ size) l

-- Ranks.

-- in each cluster the ranks of its members below n are 1 to its size, each once
pub record AreRanked (cluster rank : ℕ → ℕ) (n : ℕ) : Type 0 where
  pub within : (i : ℕ) → i < n → (1 ≤ rank i) × (rank i ≤ count_below (λ k. eqb (cluster k) (cluster i)) n)
  pub differ : (i k : ℕ) → i < n → k < n → cluster i ≡ cluster k → rank i ≡ rank k → i ≡ k

down : (a b : ℕ) → 1 ≤ a → 1 ≤ b → ltb a b ≡ ltb (a - 1) (b - 1)
down a b h l = grind (arith, nat_tests)

gone_or_not : (g a : Bool) → one_if a ≡ one_if (g && a) + one_if (not g && a)
gone_or_not true a = omega arith
gone_or_not false a = omega arith

pub not_true : (b : Bool) → not b ≡ true → b ≡ false
not_true true h = sym h
not_true false h = refl

one_gone : (g m e a : Bool) → g ≡ false → m ≡ true → e ≡ true → one_if (m && a) ≡ one_if (g && a) + one_if (e && a)
one_gone g m e a x y z = grind (arith, nat_tests)

one_same : (g m e a : Bool) → m ≡ g → e ≡ false → one_if (m && a) ≡ one_if (g && a) + one_if (e && a)
one_same g m e a x z = grind (arith, nat_tests)

-- a test at one number alone
pub only_one : (test : ℕ → Bool) (n i : ℕ) → i < n → count_below (λ j. eqb j i && test j) n ≡ one_if (test i)
only_one test n i il =
    elim (cases_Bool (test i)) [
      | inl h ↦ count_below-only (λ j. eqb j i && test j) n i il (and_from (eqb i i) (test i) (eq-eqb i i refl) h) (λ j _ ne. and_left (eqb j i) (test j) (ne_eqb j i ne)) ∙ sym (ap one_if h)
      | inr h ↦ count_below-none (λ j. eqb j i && test j) n (λ j _. elim (cases_eq j i) [
        | inl e ↦ and_right (eqb j i) (test j) (ap test e ∙ h)
        | inr ne ↦ and_left (eqb j i) (test j) (ne_eqb j i ne)
      ]) ∙ sym (ap one_if h)
    ]

module _ (cluster rank : ℕ → ℕ) (n : ℕ) (ranked : AreRanked cluster rank n) where
  abbrev ahead : ℕ → ℕ → Bool
  ahead k i = is_ahead cluster rank k i

  -- those ahead of one are all but it of the ranks up to its own
  pub ahead-count : (i : ℕ) → i < n → count_below (λ k. ahead k i) n + 1 ≡ rank i
  ahead-count i il =
      let member = λ (k : ℕ). eqb (cluster k) (cluster i) in
      let own : HaveOwn member (λ k. rank k - 1) n = λ a b al bl ma mb e.
      ranked.differ a b al bl (eqb-true (cluster a) (cluster i) ma ∙ sym (eqb-true (cluster b) (cluster i) mb)) (omega (arith, e, (ranked.within a al).0, (ranked.within b bl).0)) in
      let within : (k : ℕ) → k < n → member k ≡ true → rank k - 1 < count_below member n = λ k kl m.
      let same = ap (λ j. count_below (λ x. eqb (cluster x) j) n) (eqb-true (cluster k) (cluster i) m) in
      omega (arith, (ranked.within k kl).0, (ranked.within k kl).1, same) in
      let just = all_below member (λ k. rank k - 1) n (count_below member n) (rank i - 1) own within refl (omega (arith, (ranked.within i il).1)) in
      let shifted = count_below-same (λ k. ahead k i) (λ k. member k && ltb (rank k - 1) (rank i - 1)) n (λ k kl.
      ap (λ b. member k && b) (let low = (ranked.within k kl).0 in let too = (ranked.within i il).0 in down (rank k) (rank i) low too)) in
      omega (arith, just, shifted, (ranked.within i il).0)

  -- how many that stay are ahead of one
  abbrev pub stay_ahead : Withdrawn → ℕ → ℕ
  stay_ahead gone i = count_below (λ k. not (gone k) && ahead k i) n

  -- the rank among those that stay is 1 more than these
  pub rank-stay : (gone : Withdrawn) (i : ℕ) → i < n → rank i - gone_ahead cluster rank gone n i ≡ stay_ahead gone i + 1
  unfolding gone_ahead
  rank-stay gone i il =
      let parts = count_below-split (λ k. ahead k i) (λ k. gone k && ahead k i) (λ k. not (gone k) && ahead k i) n (λ k _. gone_or_not (gone k) (ahead k i)) in
      omega (arith, parts, ahead-count i il)

  not_itself : (i : ℕ) → ahead i i ≡ false
  not_itself i = and_right (eqb (cluster i) (cluster i)) (ltb (rank i) (rank i)) (le-ltb (rank i) (rank i) (omega arith))

  pub ahead-parts : (i k : ℕ) → ahead i k ≡ true → (cluster i ≡ cluster k) × (rank i < rank k)
  ahead-parts i k h =
      let both = and_parts (eqb (cluster i) (cluster k)) (ltb (rank i) (rank k)) h in
      (eqb-true (cluster i) (cluster k) both.0, ltb-true (rank i) (rank k) both.1)

  pub ahead-from : (i k : ℕ) → cluster i ≡ cluster k → rank i < rank k → ahead i k ≡ true
  ahead-from i k e l = and_from (eqb (cluster i) (cluster k)) (ltb (rank i) (rank k)) (eq-eqb (cluster i) (cluster k) e) (lt-ltb (rank i) (rank k) l)

  ahead-chain : (j i k : ℕ) → ahead j i ≡ true → ahead i k ≡ true → ahead j k ≡ true
  ahead-chain j i k h g =
      let a = ahead-parts j i h in
      let b = ahead-parts i k g in
      ahead-from j k (a.0 ∙ b.0) (omega (arith, a.1, b.1))

  -- of two members one is ahead of the other
  pub ahead-cases : (i k : ℕ) → i < n → k < n → cluster i ≡ cluster k → (i ≡ k) ⊎ (ahead i k ≡ true) ⊎ (ahead k i ≡ true)
  ahead-cases i k il kl e =
      elim (cases_order (rank i) (rank k)) [
        | inl same ↦ inl (ranked.differ i k il kl e same)
        | inr (inl less) ↦ inr (inl (ahead-from i k e less))
        | inr (inr more) ↦ inr (inr (ahead-from k i (sym e) more))
      ]

  -- one that stays has fewer ahead of it than whom it is ahead of
  pub stay_ahead-less : (gone : Withdrawn) (i k : ℕ) → i < n → gone i ≡ false → ahead i k ≡ true → stay_ahead gone i < stay_ahead gone k
  stay_ahead-less gone i k il stays h =
      count_below-more (λ j. not (gone j) && ahead j i) (λ j. not (gone j) && ahead j k) n i
      (λ j _ b. let both = and_parts (not (gone j)) (ahead j i) b in and_from (not (gone j)) (ahead j k) both.0 (ahead-chain j i k both.1 h)) il
      (and_right (not (gone i)) (ahead i i) (not_itself i)) (and_from (not (gone i)) (ahead i k) (ap not stays) h)

  -- those that stay have each a number of their own
  stay_ahead-own : (gone : Withdrawn) (i k : ℕ) → i < n → k < n → gone i ≡ false → gone k ≡ false → cluster i ≡ cluster k → stay_ahead gone i ≡ stay_ahead gone k → i ≡ k
  stay_ahead-own gone i k il kl si sk e same =
      elim (ahead-cases i k il kl e) [
        | inl one ↦ one
        | inr (inl h) ↦ absurd (omega (arith, stay_ahead-less gone i k il si h, same))
        | inr (inr h) ↦ absurd (omega (arith, stay_ahead-less gone k i kl sk h, same))
      ]

  -- where all that stay and are ahead of one have fewer than t ahead of them, it has at most t
  pub stay_ahead-few : (gone : Withdrawn) (k t : ℕ) → ((m : ℕ) → m < n → gone m ≡ false → ahead m k ≡ true → stay_ahead gone m < t) → stay_ahead gone k ≤ t
  stay_ahead-few gone k t all =
      let member = λ (m : ℕ). not (gone m) && ahead m k in
      let stays = λ (m : ℕ) (h : member m ≡ true). not_true (gone m) (and_parts (not (gone m)) (ahead m k) h).0 in
      let is = λ (m : ℕ) (h : member m ≡ true). (and_parts (not (gone m)) (ahead m k) h).1 in
      let own : HaveOwn member (stay_ahead gone) n = λ a b al bl ma mb e.
      stay_ahead-own gone a b al bl (stays a ma) (stays b mb) ((ahead-parts a k (is a ma)).0 ∙ sym (ahead-parts b k (is b mb)).0) e in
      let whole = count_below-same (λ m. member m && ltb (stay_ahead gone m) t) member n (λ m ml. below_all (member m) (stay_ahead gone m) t (λ h. all m ml (stays m h) (is m h))) in
      omega (arith, few_below member (stay_ahead gone) n t own, whole)

  -- in a cluster no more have fewer than t ahead of them that stay
  pub holders-few : (gone : Withdrawn) (j t : ℕ) → count_below (λ i. (eqb (cluster i) j && not (gone i)) && ltb (stay_ahead gone i) t) n ≤ t
  holders-few gone j t =
      let member = λ (i : ℕ). eqb (cluster i) j && not (gone i) in
      let own : HaveOwn member (stay_ahead gone) n = λ a b al bl ma mb e.
      let pa = and_parts (eqb (cluster a) j) (not (gone a)) ma in
      let pb = and_parts (eqb (cluster b) j) (not (gone b)) mb in
      stay_ahead-own gone a b al bl (not_true (gone a) pa.1) (not_true (gone b) pb.1) (eqb-true (cluster a) j pa.0 ∙ sym (eqb-true (cluster b) j pb.0)) e in
      few_below member (stay_ahead gone) n t own

-- one more withdraws: those behind it have one more gone ahead of them
pub gone_ahead-more : (cluster rank : ℕ → ℕ) (n : ℕ) (gone more : Withdrawn) (i k : ℕ) → i < n → gone i ≡ false → more i ≡ true → ((j : ℕ) → j < n → j ≢ i → more j ≡ gone j)
    → gone_ahead cluster rank more n k ≡ gone_ahead cluster rank gone n k + one_if (is_ahead cluster rank i k)
unfolding gone_ahead
gone_ahead-more cluster rank n gone more i k il was is others =
    let split = count_below-split (λ j. more j && is_ahead cluster rank j k) (λ j. gone j && is_ahead cluster rank j k) (λ j. eqb j i && is_ahead cluster rank j k) n
    (λ j jl. elim (cases_eq j i) [
      | inl e ↦ one_gone (gone j) (more j) (eqb j i) (is_ahead cluster rank j k) (ap gone e ∙ was) (ap more e ∙ is) (eq-eqb j i e)
      | inr ne ↦ one_same (gone j) (more j) (eqb j i) (is_ahead cluster rank j k) (others j jl ne) (ne_eqb j i ne)
    ]) in
    omega (arith, split, only_one (λ j. is_ahead cluster rank j k) n i il)
