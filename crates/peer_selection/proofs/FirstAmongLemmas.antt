use Rattle.std.proofs.Common.{◌≡◌, ℕ, zero, suc, ◌+◌, ◌<◌, ◌≤◌, Bool, true, false, ◌&&◌, ◌||◌, eqb, List, [], ◌∷◌, ◌++◌, map, flat_map, Option, Some, None, is_some, IsTrue, ◌⊎◌, if◌then◌else◌, refl, sym, ap, ◌∙◌, subst, inl, inr, arith}
use Rattle.std.specs.List.{range_with_len}
use Rattle.std.specs.Option.{option_map_or}
use Rattle.std.proofs.lemmas.Bool.{cases_Bool, cases_eq, true≢false, false≢true, eqb-true, eq-eqb, and_parts, and_from, or_cases}
use Rattle.house_base.specs.Setting.{Setting, size, distance}
use Rattle.peer_selection.specs.Counting.{numbers_below}
use Rattle.peer_selection.specs.FirstAssignment.{IsFirst, no_pairs, with_pair, pairs_in_turn, first_among, first_assignment, has_assignment}
use Rattle.peer_selection.specs.Profile.{Pairs, is_valid}
use Rattle.peer_selection.proofs.DistanceLemmas.{round-distance, distance-below}
use Rattle.peer_selection.proofs.FirstAssignmentLemmas.{none_before, first-determined, numbers_range}
use Rattle.peer_selection.proofs.RowLemmas.{round, round-below}
use Rattle.peer_selection.proofs.SameLemmas.{SamePairs, is_valid-same}

-- The first assignment is the one that is found by taking pair after pair.

-- a pair is one of a list
abbrev IsAmong : List (ℕ × ℕ) → ℕ → ℕ → Type 0
IsAmong [] r p = ⊥
IsAmong (pair ∷ others) r p = ((r ≡ pair.0) × (p ≡ pair.1)) ⊎ IsAmong others r p

-- an assignment has the pairs taken, and beside them only pairs of a list
record Extends (n : ℕ) (taken : Pairs) (turns : List (ℕ × ℕ)) (pairs : Pairs) : Type 0 where
  keeps : (r p : ℕ) → r < n → p < n → taken r p ≡ true → pairs r p ≡ true
  adds : (r p : ℕ) → r < n → p < n → pairs r p ≡ true → (taken r p ≡ true) ⊎ IsAmong turns r p

-- wherever the pairs before in turn are the same, the first one has the pair if the other one has it
abbrev Leads : List (ℕ × ℕ) → Pairs → Pairs → Type 0
Leads [] first other = Unit {0}
Leads (pair ∷ others) first other =
    (other pair.0 pair.1 ≡ true → first pair.0 pair.1 ≡ true) × (first pair.0 pair.1 ≡ other pair.0 pair.1 → Leads others first other)

record IsFound (s : Setting) (turns : List (ℕ × ℕ)) (taken found : Pairs) : Type 0 where
  valid : IsTrue (is_valid s found)
  keeps : (r p : ℕ) → taken r p ≡ true → found r p ≡ true
  leads : (other : Pairs) → IsTrue (is_valid s other) → Extends (size s) taken turns other → Leads turns found other

-- what is found leads all valid assignments that extend the pairs taken, or there is none
abbrev IsAnswer : Setting → List (ℕ × ℕ) → Pairs → Option Pairs → Type 0
IsAnswer s turns taken None = (other : Pairs) → IsTrue (is_valid s other) → Extends (size s) taken turns other → ⊥
IsAnswer s turns taken (Some found) = IsFound s turns taken found

taken_too : (a b : Bool) → b ≡ true → (a || b) ≡ true
taken_too true b h = refl
taken_too false b h = h

with_pair-here : (taken : Pairs) (pair : ℕ × ℕ) → with_pair taken pair pair.0 pair.1 ≡ true
with_pair-here taken pair =
    ap (λ test. test || taken pair.0 pair.1) (and_from (eqb pair.0 pair.0) (eqb pair.1 pair.1) (eq-eqb pair.0 pair.0 refl) (eq-eqb pair.1 pair.1 refl))

with_pair-cases : (taken : Pairs) (pair : ℕ × ℕ) (r p : ℕ) → with_pair taken pair r p ≡ true → ((r ≡ pair.0) × (p ≡ pair.1)) ⊎ (taken r p ≡ true)
with_pair-cases taken pair r p h =
    elim (or_cases (eqb r pair.0 && eqb p pair.1) (taken r p) h) [
      | inl here ↦ let parts = and_parts (eqb r pair.0) (eqb p pair.1) here in inl (eqb-true r pair.0 parts.0, eqb-true p pair.1 parts.1)
      | inr before ↦ inr before
    ]

same_pair : (pairs : Pairs) (pair : ℕ × ℕ) (r p : ℕ) → (r ≡ pair.0) × (p ≡ pair.1) → pairs r p ≡ pairs pair.0 pair.1
same_pair pairs pair r p h = ap (λ i. pairs i p) h.0 ∙ ap (pairs pair.0) h.1

extends_with : (n : ℕ) (pair : ℕ × ℕ) (others : List (ℕ × ℕ)) (taken pairs : Pairs) → pairs pair.0 pair.1 ≡ true
    → Extends n taken (pair ∷ others) pairs → Extends n (with_pair taken pair) others pairs
extends_with n pair others taken pairs has h = record {
  keeps = λ r p rl pl was. elim (with_pair-cases taken pair r p was) [
    | inl here ↦ same_pair pairs pair r p here ∙ has
    | inr before ↦ h.keeps r p rl pl before
  ];
  adds = λ r p rl pl is. elim (h.adds r p rl pl is) [
    | inl before ↦ inl (taken_too (eqb r pair.0 && eqb p pair.1) (taken r p) before)
    | inr among ↦ elim among [
      | inl here ↦ inl (same_pair (with_pair taken pair) pair r p here ∙ with_pair-here taken pair)
      | inr later ↦ inr later
    ]
  ];
}

extends_without : (n : ℕ) (pair : ℕ × ℕ) (others : List (ℕ × ℕ)) (taken pairs : Pairs) → pairs pair.0 pair.1 ≡ false
    → Extends n taken (pair ∷ others) pairs → Extends n taken others pairs
extends_without n pair others taken pairs lacks h = record {
  keeps = h.keeps;
  adds = λ r p rl pl is. elim (h.adds r p rl pl is) [
    | inl before ↦ inl before
    | inr among ↦ elim among [
      | inl here ↦ absurd (true≢false (sym is ∙ (same_pair pairs pair r p here ∙ lacks)))
      | inr later ↦ inr later
    ]
  ];
}

same_test : (a b : Bool) → (a ≡ true → b ≡ true) → (b ≡ true → a ≡ true) → a ≡ b
same_test true b h g = sym (h refl)
same_test false true h g = g refl
same_test false false h g = refl

-- with no pairs more to take, an assignment is the pairs taken
extends_by_none : (n : ℕ) (taken pairs : Pairs) → Extends n taken [] pairs → SamePairs n taken pairs
extends_by_none n taken pairs h r p rl pl =
    same_test (taken r p) (pairs r p) (h.keeps r p rl pl) (λ is. elim (h.adds r p rl pl is) [ inl before ↦ before | inr among ↦ absurd among ])

answer-last : (s : Setting) (taken : Pairs) (valid : Bool) → is_valid s taken ≡ valid → IsAnswer s [] taken (if valid then Some taken else None)
answer-last s taken true e = record { valid = e; keeps = λ r p was. was; leads = λ other good h. tt }
answer-last s taken false e = λ other good h. true≢false (sym good ∙ (sym (is_valid-same s taken other (extends_by_none (size s) taken other h)) ∙ e))

answer-next : (s : Setting) (pair : ℕ × ℕ) (others : List (ℕ × ℕ)) (taken : Pairs) (having lacking : Option Pairs)
    → IsAnswer s others (with_pair taken pair) having → IsAnswer s others taken lacking
    → IsAnswer s (pair ∷ others) taken (option_map_or (λ found. Some found) having lacking)
answer-next s pair others taken (Some found) lacking h g =
    let here = h.keeps pair.0 pair.1 (with_pair-here taken pair) in
    record {
      valid = h.valid;
      keeps = λ r p was. h.keeps r p (taken_too (eqb r pair.0 && eqb p pair.1) (taken r p) was);
      leads = λ other good extends.
          (λ has. here, λ same. h.leads other good (extends_with (size s) pair others taken other (sym same ∙ here) extends));
    }
answer-next s pair others taken None (Some found) h g = record {
  valid = g.valid;
  keeps = g.keeps;
  leads = λ other good extends.
      let lacks : other pair.0 pair.1 ≡ false = elim (cases_Bool (other pair.0 pair.1)) [
        | inl has ↦ absurd (h other good (extends_with (size s) pair others taken other has extends))
        | inr lacks ↦ lacks
      ] in
      (λ has. absurd (true≢false (sym has ∙ lacks)), λ same. g.leads other good (extends_without (size s) pair others taken other lacks extends));
}
answer-next s pair others taken None None h g = λ other good extends.
    elim (cases_Bool (other pair.0 pair.1)) [
      | inl has ↦ h other good (extends_with (size s) pair others taken other has extends)
      | inr lacks ↦ g other good (extends_without (size s) pair others taken other lacks extends)
    ]

answer-among : (s : Setting) (turns : List (ℕ × ℕ)) (taken : Pairs) → IsAnswer s turns taken (first_among s turns taken)
answer-among s [] taken = answer-last s taken (is_valid s taken) refl
answer-among s (pair ∷ others) taken =
    answer-next s pair others taken (first_among s others (with_pair taken pair)) (first_among s others taken)
    (answer-among s others (with_pair taken pair)) (answer-among s others taken)

-- All pairs stand in turn, reviewer by reviewer and by rising distance.

-- a reviewer's pair at a distance
abbrev pair_at : ℕ → ℕ → ℕ → ℕ × ℕ
pair_at n r d = (r, round n (r + 1) d)

abbrev row_in_turn : ℕ → ℕ → List (ℕ × ℕ)
row_in_turn n r = map (pair_at n r) (range_with_len 0 n)

rows-in_turn : (s : Setting) → pairs_in_turn s ≡ flat_map (row_in_turn (size s)) (range_with_len 0 (size s))
unfolding pairs_in_turn
rows-in_turn s =
    let n = size s in
    ap (λ xs. flat_map (λ r. map (pair_at n r) xs) (numbers_below n)) (numbers_range n) ∙ ap (flat_map (row_in_turn n)) (numbers_range n)

among_front : (xs ys : List (ℕ × ℕ)) (r p : ℕ) → IsAmong xs r p → IsAmong (xs ++ ys) r p
among_front [] ys r p h = absurd h
among_front (x ∷ xs) ys r p (inl here) = inl here
among_front (x ∷ xs) ys r p (inr later) = inr (among_front xs ys r p later)

among_back : (xs ys : List (ℕ × ℕ)) (r p : ℕ) → IsAmong ys r p → IsAmong (xs ++ ys) r p
among_back [] ys r p h = h
among_back (x ∷ xs) ys r p h = inr (among_back xs ys r p h)

among_row : (n r a k d : ℕ) → a ≤ d → d < a + k → IsAmong (map (pair_at n r) (range_with_len a k)) r (round n (r + 1) d)
among_row n r a zero d l m = absurd (omega arith)
among_row n r a (suc k) d l m =
    elim (cases_eq d a) [
      | inl same ↦ inl (refl, ap (round n (r + 1)) same)
      | inr ne ↦ inr (among_row n r (a + 1) k d (omega arith) (omega arith))
    ]

among_rows : (row : ℕ → List (ℕ × ℕ)) (a k r p : ℕ) → a ≤ r → r < a + k → IsAmong (row r) r p → IsAmong (flat_map row (range_with_len a k)) r p
among_rows row a zero r p l m h = absurd (omega arith)
among_rows row a (suc k) r p l m h =
    elim (cases_eq r a) [
      | inl same ↦ among_front (row a) (flat_map row (range_with_len (a + 1) k)) r p (subst (λ i. IsAmong (row i) r p) same h)
      | inr ne ↦ among_back (row a) (flat_map row (range_with_len (a + 1) k)) r p (among_rows row (a + 1) k r p (omega arith) (omega arith) h)
    ]

among_turns : (s : Setting) (r p : ℕ) → r < size s → p < size s → IsAmong (pairs_in_turn s) r p
among_turns s r p rl pl =
    let n = size s in
    let here = among_row n r 0 n (distance n r p) (omega arith) (omega (arith, distance-below n r p (omega arith))) in
    subst (λ turns. IsAmong turns r p) (sym (rows-in_turn s))
    (among_rows (row_in_turn n) 0 n r p (omega arith) (omega arith) (subst (λ q. IsAmong (row_in_turn n r) r q) (round-distance n r p rl pl) here))

-- each assignment extends no pairs by pairs in turn
extends_no_pairs : (s : Setting) (pairs : Pairs) → Extends (size s) no_pairs (pairs_in_turn s) pairs
extends_no_pairs s pairs = record {
  keeps = λ r p rl pl was. absurd (false≢true was);
  adds = λ r p rl pl is. inr (among_turns s r p rl pl);
}

leads_front : (xs ys : List (ℕ × ℕ)) (a b : Pairs) → Leads (xs ++ ys) a b → Leads xs a b
leads_front [] ys a b h = tt
leads_front (x ∷ xs) ys a b h = (h.0, λ same. leads_front xs ys a b (h.1 same))

-- two assignments are the same at each pair of a list
abbrev SameAmong : List (ℕ × ℕ) → Pairs → Pairs → Type 0
SameAmong [] a b = Unit {0}
SameAmong (pair ∷ others) a b = (a pair.0 pair.1 ≡ b pair.0 pair.1) × SameAmong others a b

leads_back : (xs ys : List (ℕ × ℕ)) (a b : Pairs) → SameAmong xs a b → Leads (xs ++ ys) a b → Leads ys a b
leads_back [] ys a b same h = h
leads_back (x ∷ xs) ys a b same h = leads_back xs ys a b same.1 (h.1 same.0)

same_row_among : (at : ℕ → ℕ × ℕ) (i k : ℕ) (a b : Pairs) → ((d : ℕ) → i ≤ d → d < i + k → a (at d).0 (at d).1 ≡ b (at d).0 (at d).1)
    → SameAmong (map at (range_with_len i k)) a b
same_row_among at i zero a b h = tt
same_row_among at i (suc k) a b h = (h i (omega arith) (omega arith), same_row_among at (i + 1) k a b (λ d l m. h d (omega arith) (omega arith)))

leads_row : (at : ℕ → ℕ × ℕ) (i k : ℕ) (a b : Pairs) → Leads (map at (range_with_len i k)) a b → (d : ℕ) → i ≤ d → d < i + k
    → ((e : ℕ) → i ≤ e → e < d → a (at e).0 (at e).1 ≡ b (at e).0 (at e).1) → b (at d).0 (at d).1 ≡ true → a (at d).0 (at d).1 ≡ true
leads_row at i zero a b h d l m before has = absurd (omega arith)
leads_row at i (suc k) a b h d l m before has =
    elim (cases_eq d i) [
      | inl same ↦ ap (λ e. a (at e).0 (at e).1) same ∙ h.0 (ap (λ e. b (at e).0 (at e).1) (sym same) ∙ has)
      | inr ne ↦ leads_row at (i + 1) k a b (h.1 (before i (omega arith) (omega arith))) d (omega arith) (omega arith) (λ e x y. before e (omega arith) y) has
    ]

leads_rows : (row : ℕ → List (ℕ × ℕ)) (i k : ℕ) (a b : Pairs) → Leads (flat_map row (range_with_len i k)) a b → (r : ℕ) → i ≤ r → r < i + k
    → ((q : ℕ) → i ≤ q → q < r → SameAmong (row q) a b) → Leads (row r) a b
leads_rows row i zero a b h r l m before = absurd (omega arith)
leads_rows row i (suc k) a b h r l m before =
    let others = flat_map row (range_with_len (i + 1) k) in
    elim (cases_eq r i) [
      | inl same ↦ subst (λ q. Leads (row q) a b) (sym same) (leads_front (row i) others a b h)
      | inr ne ↦
          leads_rows row (i + 1) k a b (leads_back (row i) others a b (before i (omega arith) (omega arith)) h) r (omega arith) (omega arith)
          (λ q x y. before q (omega arith) y)
    ]

-- what is found from no pairs is the first assignment
found-first : (s : Setting) (found : Pairs) → IsFound s (pairs_in_turn s) no_pairs found → IsFirst s found
found-first s found h = record {
  valid = h.valid;
  least = λ other good. none_before s found other h.valid good (λ r d rl dl rows row has.
      let n = size s in
      let turns = subst (λ turns. Leads turns found other) (rows-in_turn s) (h.leads other good (extends_no_pairs s other)) in
      leads_row (pair_at n r) 0 n found other
      (leads_rows (row_in_turn n) 0 n found other turns r (omega arith) (omega arith)
      (λ q x y. same_row_among (pair_at n q) 0 n found other (λ e u v. rows q (round n (q + 1) e) y (round-below n (q + 1) e (omega arith)))))
      d (omega arith) (omega arith) (λ e x y. row e y) has);
}

-- The first assignment, where there is one.

answer-some : (s : Setting) (answer : Option Pairs) → IsAnswer s (pairs_in_turn s) no_pairs answer → (pairs : Pairs) → IsTrue (is_valid s pairs) → IsTrue (is_some answer)
answer-some s (Some found) h pairs good = refl
answer-some s None h pairs good = absurd (h pairs good (extends_no_pairs s pairs))

answer-first : (s : Setting) (answer : Option Pairs) → IsAnswer s (pairs_in_turn s) no_pairs answer → IsTrue (is_some answer) → IsFirst s (option_map_or (λ found. found) answer no_pairs)
answer-first s (Some found) h some = found-first s found h
answer-first s None h some = absurd (false≢true some)

-- there is an assignment exactly where some pairs are valid
pub has_assignment-exact : (s : Setting) (pairs : Pairs) → IsTrue (is_valid s pairs) → IsTrue (has_assignment s)
unfolding has_assignment
has_assignment-exact s pairs good = answer-some s (first_among s (pairs_in_turn s) no_pairs) (answer-among s (pairs_in_turn s) no_pairs) pairs good

pub first_assignment-first : (s : Setting) → IsTrue (has_assignment s) → IsFirst s (first_assignment s)
unfolding has_assignment first_assignment
first_assignment-first s some = answer-first s (first_among s (pairs_in_turn s) no_pairs) (answer-among s (pairs_in_turn s) no_pairs) some

pub has_assignment-none : (s : Setting) → has_assignment s ≡ false → (pairs : Pairs) → is_valid s pairs ≡ false
has_assignment-none s none pairs =
    elim (cases_Bool (is_valid s pairs)) [
      | inl good ↦ absurd (true≢false (sym (has_assignment-exact s pairs good) ∙ none))
      | inr bad ↦ bad
    ]

-- where no pairs are valid, there is none
pub has_assignment-missing : (s : Setting) → ((pairs : Pairs) → is_valid s pairs ≡ false) → has_assignment s ≡ false
has_assignment-missing s none =
    elim (cases_Bool (has_assignment s)) [
      | inl some ↦ absurd (true≢false (sym (first_assignment-first s some).valid ∙ none (first_assignment s)))
      | inr missing ↦ missing
    ]

-- an assignment that is first is the first assignment
pub first_assignment-same : (s : Setting) (pairs : Pairs) → IsFirst s pairs → (r p : ℕ) → r < size s → p < size s → first_assignment s r p ≡ pairs r p
first_assignment-same s pairs h = first-determined s (first_assignment s) pairs (first_assignment-first s (has_assignment-exact s pairs h.valid)) h
