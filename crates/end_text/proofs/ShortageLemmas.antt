-- The shortage that the rules print is what is common to all least cuts.
use Rattle.std.proofs.Common.{◌≡◌, ℕ, zero, suc, ◌+◌, ◌<◌, ◌≤◌, Bool, true, false, not, cond, ◌&&◌, ◌||◌, ◌==◌, List, [], ◌∷◌, map, flat_map, refl, sym, ap, ◌∙◌, subst, inl, inr, arith, IsTrue}
use Rattle.std.specs.Prelude.{nat_le}
use Rattle.std.specs.List.{list_all, list_any}
use Rattle.std.proofs.lemmas.List.Sums.{AllPass-from_list_all, list_all-from_AllPass}
use Rattle.std.proofs.lemmas.Bool.{and_parts, eqb-false, le-leb, leb-true, ne_eqb, true_from_ne_false}
use Rattle.std.proofs.Math.Bool.{or-false, or-true}
use Rattle.house_base.proofs.InOrderLemmas.{All-In, All-from_In, In, In-flat_map, In-map}
use Rattle.peer_selection.specs.Counting.{count_below, sum_below}
use Rattle.peer_selection.specs.Shortage.{Demand, IsShort, IsShortage, Places, allowed, capacity, needed_in, room_outside}
use Rattle.peer_selection.proofs.CountingLemmas.{below_suc, count_below-same, sum_below-same}
use Rattle.end_text.specs.Shortage.{all_cuts, all_sets, has_least, shortage_proposals, shortage_reviewers}

-- Tests of lists.

passes : {X : Type 0} (p : X → Bool) (xs : List X) (x : X) → list_all p xs ≡ true → In x xs → p x ≡ true
passes p xs x all among = All-In (λ x. p x ≡ true) xs x (AllPass-from_list_all p xs all) among

all_pass : {X : Type 0} (p : X → Bool) (xs : List X) → ((x : X) → In x xs → p x ≡ true) → list_all p xs ≡ true
all_pass p xs each = list_all-from_AllPass p xs (All-from_In (λ x. p x ≡ true) xs each)

found : {X : Type 0} (p : X → Bool) (xs : List X) → list_any p xs ≡ true → (x : X) × In x xs × (p x ≡ true)
found p [] any = absurd (let wrong : false ≡ true = any in cc)
found {X} p (x ∷ xs) any = by (p x) refl any (found p xs) where
  by : (here : Bool) → p x ≡ here → (here || list_any p xs) ≡ true → (list_any p xs ≡ true → (y : X) × In y xs × (p y ≡ true)) → (y : X) × In y (x ∷ xs) × (p y ≡ true)
  by true is any behind = (x, inl refl, is)
  by false is any behind = let f = behind any in (f.0, inr f.1, f.2)

any_pass : {X : Type 0} (p : X → Bool) (xs : List X) (x : X) → In x xs → p x ≡ true → list_any p xs ≡ true
any_pass p [] x among h = absurd among
any_pass p (y ∷ xs) x (inl is) h = ap (λ t. t || list_any p xs) (sym (ap p is) ∙ h)
any_pass p (y ∷ xs) x (inr among) h = ap (λ t. p y || t) (any_pass p xs x among h) ∙ or-true (p y)

-- The sets that are among all are those of the places below the side.

abbrev Agree : ℕ → Places → Places → Type 0
Agree n a b = (i : ℕ) → i < n → a i ≡ b i

-- a set that is among all sets, and has these places of those below n
record Listed (n : ℕ) (a : Places) : Type 0 where
  set : Places
  among : In set (all_sets n)
  agree : Agree n a set
  none : (i : ℕ) → n ≤ i → set i ≡ false

eq_same : (n : ℕ) → (n == n) ≡ true
eq_same n = true_from_ne_false (n == n) (λ differ. eqb-false n n differ refl)

not_eq : (i n : ℕ) → i < n → (i == n) ≡ false
not_eq i n below = ne_eqb i n (λ same. omega (arith, same, below))

listed : (n : ℕ) (a : Places) → Listed n a
unfolding all_sets
listed zero a = record { set = λ i. false; among = inl refl; agree = λ i below. absurd (omega (arith, below)); none = λ i above. refl }
listed (suc n) a = by (a n) refl (listed n a) where
  both : Places → List Places
  both set = set ∷ (λ i. set i || i == n) ∷ []

  by : (last : Bool) → a n ≡ last → Listed n a → Listed (suc n) a
  by false is l = record {
    set = l.set;
    among = In-flat_map both l.set l.set (all_sets n) l.among (inl refl);
    agree = λ i below. elim (below_suc i n below) [
      | inl less ↦ l.agree i less
      | inr same ↦ ap a same ∙ is ∙ sym (l.none i (omega (arith, same)))
    ];
    none = λ i above. l.none i (omega (arith, above));
  }
  by true is l = record {
    set = λ i. l.set i || i == n;
    among = In-flat_map both l.set (λ i. l.set i || i == n) (all_sets n) l.among (inr (inl refl));
    agree = λ i below. elim (below_suc i n below) [
      | inl less ↦ l.agree i less ∙ sym (or-false (l.set i)) ∙ ap (λ t. l.set i || t) (sym (not_eq i n less))
      | inr same ↦ ap a same ∙ is ∙ sym (ap (λ t. l.set i || t) (ap (λ j. j == n) same ∙ eq_same n) ∙ or-true (l.set i))
    ];
    none = λ i above. ap (λ t. t || i == n) (l.none i (omega (arith, above))) ∙ ne_eqb i n (λ same. omega (arith, same, above));
  }

-- A cut is worth what it is by its places below the side.

module _ (d : Demand) (a b c e : Places) (same_a : Agree d.side a c) (same_b : Agree d.side b e) where
  needed_same : needed_in d a ≡ needed_in d c
  unfolding needed_in
  needed_same = sum_below-same (λ r. cond (a r) (d.need r) 0) (λ r. cond (c r) (d.need r) 0) d.side (λ r l. ap (λ t. cond t (d.need r) 0) (same_a r l))

  room_same : room_outside d b ≡ room_outside d e
  unfolding room_outside
  room_same = sum_below-same (λ p. cond (b p) 0 (d.room p)) (λ p. cond (e p) 0 (d.room p)) d.side (λ p l. ap (λ t. cond t 0 (d.room p)) (same_b p l))

  row_same : (r : ℕ) → count_below (λ p. b p && d.may r p) d.side ≡ count_below (λ p. e p && d.may r p) d.side
  row_same r = count_below-same (λ p. b p && d.may r p) (λ p. e p && d.may r p) d.side (λ p l. ap (λ t. t && d.may r p) (same_b p l))

  allowed_same : allowed d a b ≡ allowed d c e
  unfolding allowed
  allowed_same =
      sum_below-same (λ r. cond (a r) (count_below (λ p. b p && d.may r p) d.side) 0) (λ r. cond (c r) (count_below (λ p. e p && d.may r p) d.side) 0) d.side
      (λ r l. ap (λ t. cond t (count_below (λ p. b p && d.may r p) d.side) 0) (same_a r l) ∙ ap (λ t. cond (c r) t 0) (row_same r))

  outside_same : sum_below (λ r. cond (a r) 0 (d.need r)) d.side ≡ sum_below (λ r. cond (c r) 0 (d.need r)) d.side
  outside_same = sum_below-same (λ r. cond (a r) 0 (d.need r)) (λ r. cond (c r) 0 (d.need r)) d.side (λ r l. ap (λ t. cond t 0 (d.need r)) (same_a r l))

  capacity_same : capacity d a b ≡ capacity d c e
  unfolding capacity
  capacity_same = omega (arith, outside_same, room_same, allowed_same)

  short_same : IsShort d a b → IsShort d c e
  short_same short = omega (arith, short, needed_same, room_same, allowed_same)

-- The shortage that the rules print is the one that is found.

in_cuts : (d : Demand) (a b : Places) → In a (all_sets d.side) → In b (all_sets d.side) → In (a, b) (all_cuts d)
unfolding all_cuts
in_cuts d a b here there =
    In-flat_map (λ a. map (λ b. (a, b)) (all_sets d.side)) a (a, b) (all_sets d.side) here (In-map (λ b. (a, b)) b (all_sets d.side) there)

module _ (d : Demand) (a b : Places) (is : IsShortage d a b) where
  abbrev cut : Places × Places
  cut = ((listed d.side a).set, (listed d.side b).set)

  cut_among : In cut (all_cuts d)
  cut_among = in_cuts d (listed d.side a).set (listed d.side b).set (listed d.side a).among (listed d.side b).among

  cut_capacity : capacity d a b ≡ capacity d cut.0 cut.1
  cut_capacity = capacity_same d a b cut.0 cut.1 (listed d.side a).agree (listed d.side b).agree

  least_cut : has_least d cut ≡ true
  unfolding has_least
  least_cut = all_pass (λ other. nat_le (capacity d cut.0 cut.1) (capacity d other.0 other.1)) (all_cuts d)
      (λ other among. le-leb _ _ (omega (arith, cut_capacity, is.greatest other.0 other.1)))

  -- each least cut has this capacity
  least_capacity : (other : Places × Places) → has_least d other ≡ true → capacity d other.0 other.1 ≡ capacity d a b
  unfolding has_least
  least_capacity other least =
      let below = leb-true _ _ (passes (λ third. nat_le (capacity d other.0 other.1) (capacity d third.0 third.1)) (all_cuts d) cut least cut_among) in
      omega (arith, below, cut_capacity, is.greatest other.0 other.1)

  reviewer_found : (r : ℕ) → r < d.side → a r ≡ shortage_reviewers d r
  unfolding shortage_reviewers
  reviewer_found r below = by (a r) refl where
    test : Places × Places → Bool
    test other = not (has_least d other) || other.0 r

    in_each : a r ≡ true → (other : Places × Places) → In other (all_cuts d) → test other ≡ true
    in_each there other among = by_least (has_least d other) refl where
      by_least : (l : Bool) → has_least d other ≡ l → (not l || other.0 r) ≡ true
      by_least true least = is.least other.0 other.1 (least_capacity other least) r below there
      by_least false least = refl

    of_cut : list_all test (all_cuts d) ≡ true → a r ≡ true
    of_cut all =
        let at : (not (has_least d cut) || cut.0 r) ≡ true = passes test (all_cuts d) cut all cut_among in
        (listed d.side a).agree r below ∙ subst (λ l. (not l || cut.0 r) ≡ true) least_cut at

    by : (x : Bool) → a r ≡ x → a r ≡ list_all test (all_cuts d)
    by true there = there ∙ sym (all_pass test (all_cuts d) (in_each there))
    by false away = away ∙ sym (by_all (list_all test (all_cuts d)) refl) where
      by_all : (y : Bool) → list_all test (all_cuts d) ≡ y → y ≡ false
      by_all true all = absurd (let wrong : false ≡ true = sym away ∙ of_cut all in cc)
      by_all false all = refl

  proposal_found : (p : ℕ) → p < d.side → b p ≡ shortage_proposals d p
  unfolding shortage_proposals
  proposal_found p below = by (b p) refl where
    test : Places × Places → Bool
    test other = has_least d other && other.1 p

    of_some : list_any test (all_cuts d) ≡ true → b p ≡ true
    of_some any =
        let f = found test (all_cuts d) any in
        let parts = and_parts (has_least d f.0) (f.0.1 p) f.2 in
        is.largest f.0.0 f.0.1 (least_capacity f.0 parts.0) p below parts.1

    in_cut : b p ≡ true → test cut ≡ true
    in_cut there = ap (λ l. l && cut.1 p) least_cut ∙ sym ((listed d.side b).agree p below) ∙ there

    by : (x : Bool) → b p ≡ x → b p ≡ list_any test (all_cuts d)
    by true there = there ∙ sym (any_pass test (all_cuts d) cut cut_among (in_cut there))
    by false away = away ∙ sym (by_any (list_any test (all_cuts d)) refl) where
      by_any : (y : Bool) → list_any test (all_cuts d) ≡ y → y ≡ false
      by_any true any = absurd (let wrong : false ≡ true = sym away ∙ of_some any in cc)
      by_any false any = refl

  -- what is found is the shortage
  pub found_shortage : IsShortage d (shortage_reviewers d) (shortage_proposals d)
  found_shortage =
      let same = capacity_same d a b (shortage_reviewers d) (shortage_proposals d) reviewer_found proposal_found in
      record {
        short = short_same d a b (shortage_reviewers d) (shortage_proposals d) reviewer_found proposal_found is.short;
        greatest = λ c e. omega (arith, same, is.greatest c e);
        least = λ c e equal r below there. is.least c e (equal ∙ sym same) r below (reviewer_found r below ∙ there);
        largest = λ c e equal p below there. sym (proposal_found p below) ∙ is.largest c e (equal ∙ sym same) p below there;
      }
