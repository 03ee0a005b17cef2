use Rattle.std.proofs.Common.{◌≡◌, ℕ, zero, suc, List, [], ◌∷◌, length, sum, slice_index, ◌+◌, ◌<◌, Bool, true, false, not, ◌&&◌, cond, ltb, refl, sym, ap, ◌∙◌, inl, inr, arith}
use Rattle.std.proofs.lemmas.Bool.{both_ways, true≢false, and_parts, and_from, lt-ltb, ltb-true, false_from_ne_true, true_from_ne_false, not-true}
use Rattle.std.proofs.lemmas.Bool.{cases_lt}
use Rattle.peer_selection.specs.Counting.{count_below, sum_below}
use Rattle.peer_selection.specs.Profile.{Pairs}
use Rattle.peer_selection.specs.Shortage.{Demand, Places, IsWithin, IsShort, IsShortage, room_outside, allowed, capacity}
use Rattle.peer_selection.proofs.CountingLemmas.{one_if, sum_below-zero, sum_below-suc, sum_below-first, sum_below-same, sum_below-none, sum_below-term, count_below-same}
use Rattle.std.proofs.lemmas.List.Sums.{sum_by-cons}
use Rattle.cut_gap.proofs.CutLemmas.{capacity-and_needed}
use Rattle.assign_flow.specs.Draft.{IsDraft}
use Rattle.assign_flow.specs.Residual.{Residual, Tree, IsClosed, HasReached, reviewers_of, nowhere}
use Rattle.assign_flow.proofs.SquareLemmas.{sum_square-none, sum_square-each}
use Rattle.assign_flow.proofs.CapacityLemmas.{stray, missed, unused, capacity-unused, needs-all, rooms-all}
use Rattle.assign_flow.proofs.DemandLemmas.{Meets}

-- The cut of what a search has reached is the shortage that is printed.

-- the residual graph of pairs that may change wherever they may be
abbrev pub graph : Demand → Pairs → Residual
graph d x = record { side = d.side; free = d.may; held = x }

-- the reviewers to whom pairs are wanting
abbrev pub lacking : (ℕ → ℕ) → Places
lacking unmet r = ltb 0 (unmet r)

abbrev pub unreached : Tree → Places
unreached t p = not (t.reached p)

none_counts : (b : Bool) → (b ≡ true → ⊥) → one_if b ≡ 0
none_counts b h = ap one_if (false_from_ne_true b h)

counts_none : (b : Bool) → one_if b ≡ 0 → b ≡ true → ⊥
counts_none b h e = omega (arith, h, ap one_if e)

reached_parts : (a b x : Bool) → (not a && (not (not b) && x)) ≡ true → (a ≡ false) × (b ≡ true) × (x ≡ true)
reached_parts a b x h =
    let outer = and_parts (not a) (not (not b) && x) h in
    let inner = and_parts (not (not b)) x outer.1 in
    (not-true a outer.0, true_from_ne_false b (λ e. true≢false (sym inner.0 ∙ ap (λ c. not (not c)) e)), inner.1)

missed_parts : (a b m x : Bool) → (a && (not b && (m && not x))) ≡ true → (a ≡ true) × (b ≡ false) × (m ≡ true) × (x ≡ false)
missed_parts a b m x h =
    let outer = and_parts a (not b && (m && not x)) h in
    let inner = and_parts (not b) (m && not x) outer.1 in
    let last = and_parts m (not x) inner.1 in
    (outer.0, not-true b inner.0, last.0, not-true x last.1)

-- nothing is left unused by the cut of what was reached, where nothing reached has room
pub unused-reached : (d : Demand) (x : Pairs) (unmet spare : ℕ → ℕ) (t : Tree) → IsDraft d x unmet spare → HasReached (graph d x) (lacking unmet) nowhere t
    → ((p : ℕ) → p < d.side → t.reached p ≡ true → spare p ≡ 0) → unused d (reviewers_of t) (unreached t) x unmet spare ≡ 0
unfolding unused
unused-reached d x unmet spare t h s full =
    let n = d.side in
    let a = reviewers_of t in
    let b = unreached t in
    let met : (c : Bool) (u : ℕ) → (0 < u → c ≡ true) → cond c 0 u ≡ 0 = λ c u w. elim (cases_lt 0 u) [
      | inl some ↦ ap (λ k. cond k 0 u) (w some)
      | inr none ↦ zero_either c u (omega arith)
    ] in
    let needs = sum_below-none (λ r. cond (a r) 0 (unmet r)) n (λ r l. met (a r) (unmet r) (λ w. s.has_reviewers r l (lt-ltb 0 (unmet r) w))) in
    let rooms = sum_below-none (λ p. cond (b p) 0 (spare p)) n (λ p l. spared (t.reached p) (spare p) (full p l)) in
    let strays = sum_square-none (λ r p. one_if (stray a b x r p)) n (λ r p l k. none_counts (stray a b x r p) (λ e.
    let parts = reached_parts (a r) (t.reached p) (x r p) e in
    both_ways (a r) parts.0 (s.closed.back r p l k parts.1 (h.permitted r p l k parts.2) parts.2))) in
    let misses = sum_square-none (λ r p. one_if (missed d a b x r p)) n (λ r p l k. none_counts (missed d a b x r p) (λ e.
    let parts = missed_parts (a r) (t.reached p) (d.may r p) (x r p) e in
    both_ways (t.reached p) parts.1 (s.closed.forward r p l k parts.0 parts.2 parts.3))) in
    omega (arith, needs, rooms, strays, misses)
  where
    zero_either : (c : Bool) (u : ℕ) → u ≡ 0 → cond c 0 u ≡ 0
    zero_either true u e = refl
    zero_either false u e = e

    spared : (c : Bool) (u : ℕ) → (c ≡ true → u ≡ 0) → cond (not c) 0 u ≡ 0
    spared true u w = w refl
    spared false u w = refl

-- a cut that leaves nothing unused is closed, and has the reviewers to whom pairs are wanting
pub closed-unused : (d : Demand) (a b : Places) (x : Pairs) (unmet spare : ℕ → ℕ) → unused d a b x unmet spare ≡ 0 → IsClosed (graph d x) a (λ p. not (b p))
unfolding unused
closed-unused d a b x unmet spare none =
    let n = d.side in
    record {
      forward = λ r p l k ra free unheld. true_from_ne_false (not (b p)) (λ e.
          counts_none (missed d a b x r p) (sum_square-each (λ r p. one_if (missed d a b x r p)) n r p (omega (arith, none)) l k)
          (and_from (a r) (b p && (d.may r p && not (x r p))) ra (and_from (b p) (d.may r p && not (x r p)) (true_from_ne_false (b p) (λ f. true≢false (sym (ap not f) ∙ e)))
          (and_from (d.may r p) (not (x r p)) free (ap not unheld)))));
      back = λ r p l k out free held. true_from_ne_false (a r) (λ e.
          counts_none (stray a b x r p) (sum_square-each (λ r p. one_if (stray a b x r p)) n r p (omega (arith, none)) l k)
          (and_from (not (a r)) (not (b p) && x r p) (ap not e) (and_from (not (b p)) (x r p) out held)));
    }

pub sources-unused : (d : Demand) (a b : Places) (x : Pairs) (unmet spare : ℕ → ℕ) → unused d a b x unmet spare ≡ 0 → IsWithin d.side (lacking unmet) a
unfolding unused
sources-unused d a b x unmet spare none = λ r l w.
    true_from_ne_false (a r) (λ e.
    let term = sum_below-term (λ i. cond (a i) 0 (unmet i)) r d.side l in
    let here = ap (λ k. cond k 0 (unmet r)) e in
    let some = ltb-true 0 (unmet r) w in
    omega (arith, none, term, here, some))

-- The capacity of a cut is said by its places below the side.

pub capacity-same : (d : Demand) (a b c e : Places) → ((r : ℕ) → r < d.side → a r ≡ c r) → ((p : ℕ) → p < d.side → b p ≡ e p) → capacity d a b ≡ capacity d c e
unfolding capacity room_outside allowed
capacity-same d a b c e ra pb =
    let n = d.side in
    let needs = sum_below-same (λ r. cond (a r) 0 (d.need r)) (λ r. cond (c r) 0 (d.need r)) n (λ r l. ap (λ k. cond k 0 (d.need r)) (ra r l)) in
    let rooms = sum_below-same (λ p. cond (b p) 0 (d.room p)) (λ p. cond (e p) 0 (d.room p)) n (λ p l. ap (λ k. cond k 0 (d.room p)) (pb p l)) in
    let inside = sum_below-same (λ r. cond (a r) (count_below (λ p. b p && d.may r p) n) 0) (λ r. cond (c r) (count_below (λ p. e p && d.may r p) n) 0) n
    (λ r l. ap (λ k. cond k (count_below (λ p. b p && d.may r p) n) 0) (ra r l)
    ∙ ap (λ k. cond (c r) k 0) (count_below-same (λ p. b p && d.may r p) (λ p. e p && d.may r p) n (λ p k. ap (λ v. v && d.may r p) (pb p k)))) in
    omega (arith, needs, rooms, inside)

-- a cut is short where its capacity is below all that is needed
pub short-capacity : (d : Demand) (a b : Places) → capacity d a b < sum_below d.need d.side → IsShort d a b
short-capacity d a b h = omega (arith, capacity-and_needed d a b, h)

pub capacity-short : (d : Demand) (a b : Places) → IsShort d a b → capacity d a b < sum_below d.need d.side
capacity-short d a b h = omega (arith, capacity-and_needed d a b, h)

-- the shortage is said by its places below the side
pub shortage-same : (d : Demand) (a b c e : Places) → ((r : ℕ) → r < d.side → a r ≡ c r) → ((p : ℕ) → p < d.side → b p ≡ e p) → IsShortage d a b → IsShortage d c e
shortage-same d a b c e ra pb h =
    let same = capacity-same d a b c e ra pb in
    record {
      short = short-capacity d c e (omega (arith, same, capacity-short d a b h.short));
      greatest = λ i j. omega (arith, same, h.greatest i j);
      least = λ i j w r l o. h.least i j (w ∙ sym same) r l (ra r l ∙ o);
      largest = λ i j w p l o. sym (pb p l) ∙ h.largest i j (w ∙ sym same) p l o;
    }

-- pairs that meet all are a draft to which nothing is wanting
pub draft-met : (d : Demand) (y : Pairs) → Meets d y → IsDraft d y (λ r. 0) (λ p. 0)
draft-met d y h = record { permitted = h.permitted; needs = λ r l. omega (arith, h.needs r l); rooms = λ p l. omega (arith, h.rooms p l) }

-- while pairs are wanting to a reviewer, what a search has reached is the shortage, where nothing reached has room
pub shortage-reached : (d : Demand) (x : Pairs) (unmet spare : ℕ → ℕ) (t : Tree) (r : ℕ) → IsDraft d x unmet spare → HasReached (graph d x) (lacking unmet) nowhere t
    → ((p : ℕ) → p < d.side → t.reached p ≡ true → spare p ≡ 0) → r < d.side → 0 < unmet r → IsShortage d (reviewers_of t) (unreached t)
shortage-reached d x unmet spare t r h s full l some =
    let a = reviewers_of t in
    let b = unreached t in
    let none = unused-reached d x unmet spare t h s full in
    let whole = capacity-unused d a b x unmet spare h in
    let unused_of : (c e : Places) → capacity d c e ≡ capacity d a b → unused d c e x unmet spare ≡ 0 = λ c e w. omega (arith, w, whole, none, capacity-unused d c e x unmet spare h) in
    let no_source : (b : Places) → IsWithin d.side nowhere b = λ b p pl o. absurd (true≢false (sym o)) in
    record {
      short = short-capacity d a b (omega (arith, whole, none, needs-all d x unmet spare h, sum_below-term unmet r d.side l));
      greatest = λ c e. omega (arith, whole, none, capacity-unused d c e x unmet spare h);
      least = λ c e w.
          let z = unused_of c e w in
          s.least_reviewers c (λ p. not (e p)) (closed-unused d c e x unmet spare z) (sources-unused d c e x unmet spare z) (no_source (λ p. not (e p)));
      largest = λ c e w p pl o.
          let z = unused_of c e w in
          let out = s.least_proposals c (λ p. not (e p)) (closed-unused d c e x unmet spare z) (sources-unused d c e x unmet spare z) (no_source (λ p. not (e p))) in
          true_from_ne_false (not (t.reached p)) (λ f.
          true≢false (sym (out p pl (true_from_ne_false (t.reached p) (λ g. true≢false (sym (ap not g) ∙ f)))) ∙ ap not o));
    }

-- where a cut is short, no pairs meet all
pub short-none : (d : Demand) (a b : Places) (y : Pairs) → IsShort d a b → Meets d y → ⊥
short-none d a b y short h =
    let draft = draft-met d y h in
    omega (
      arith,
      capacity-short d a b short,
      capacity-unused d a b y (λ r. 0) (λ p. 0) draft,
      needs-all d y (λ r. 0) (λ p. 0) draft,
      sum_below-none (λ r. 0) d.side (λ r l. refl),
    )

-- a draft to which nothing is wanting meets all, where needs and rooms are equally many
pub met-draft : (d : Demand) (x : Pairs) (unmet spare : ℕ → ℕ) → IsDraft d x unmet spare → sum_below d.need d.side ≡ sum_below d.room d.side
    → ((r : ℕ) → r < d.side → unmet r ≡ 0) → Meets d x
met-draft d x unmet spare h equal none =
    let no_room : sum_below spare d.side ≡ 0 = omega (arith, equal, needs-all d x unmet spare h, rooms-all d x unmet spare h, sum_below-none unmet d.side none) in
    record {
      permitted = h.permitted;
      needs = λ r l. omega (arith, h.needs r l, none r l);
      rooms = λ p l. omega (arith, h.rooms p l, sum_below-term spare p d.side l, no_room);
    }

-- a sum that is not 0 has a term that is not
some_term : (f : ℕ → ℕ) (n : ℕ) → 0 < sum_below f n → (r : ℕ) × (r < n) × (0 < f r)
some_term f zero h = absurd (omega (arith, sum_below-zero f))
some_term f (suc n) h = elim (cases_lt 0 (f n)) [
  | inl here ↦ (n, omega arith, here)
  | inr none ↦ let t = some_term f n (omega (arith, sum_below-suc f n)) in (t.0, omega (arith, t.1), t.2)
]

-- where not all numbers are 0, one is not
pub some_wanting : (f : ℕ → ℕ) (n : ℕ) → (((r : ℕ) → r < n → f r ≡ 0) → ⊥) → (r : ℕ) × (r < n) × (0 < f r)
some_wanting f n h = elim (cases_lt 0 (sum_below f n)) [
  | inl some ↦ some_term f n some
  | inr none ↦ absurd (h (λ r l. omega (arith, sum_below-term f r n l)))
]

-- the sum of a list is that of its places
pub sum-places : (xs : List ℕ) → sum xs ≡ sum_below (slice_index xs) (length xs)
sum-places [] = sym (sum_below-zero (slice_index []))
sum-places (x ∷ xs) = sum_by-cons (λ y. y) x xs ∙ (ap (λ k. x + k) (sum-places xs) ∙ sym (sum_below-first (slice_index (x ∷ xs)) (length xs)))

-- where nothing is wanting, the number is 0
pub unwanted : (n : ℕ) → ltb 0 n ≡ false → n ≡ 0
unwanted n h = elim (cases_lt 0 n) [
  | inl some ↦ absurd (both_ways (ltb 0 n) h (lt-ltb 0 n some))
  | inr none ↦ omega arith
]
