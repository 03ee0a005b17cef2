use Rattle.std.proofs.Common.{◌≡◌, ℕ, ◌+◌, ◌<◌, Bool, true, false, not, ◌&&◌, cond, refl, sym, ap, ◌∙◌, inl, inr, arith}
use Rattle.std.proofs.lemmas.Bool.{cases_Bool, both_ways, true≢false, and_from}
use Rattle.peer_selection.specs.Counting.{sum_below}
use Rattle.peer_selection.specs.Profile.{Pairs}
use Rattle.peer_selection.specs.Shortage.{Demand, Places}
use Rattle.peer_selection.proofs.CountingLemmas.{one_if, sum_below-same}
use Rattle.assign_flow.specs.Residual.{Residual, IsClosed}
use Rattle.assign_flow.specs.Reroute.{IsRerouted, IsBlocked}
use Rattle.assign_flow.proofs.SquareLemmas.{sum_square, sum_square-rows, sum_square-columns, sum_square-same, sum_square-plus, sum_square-each, count_where}
use Rattle.assign_flow.proofs.DemandLemmas.{Meets}

-- What a closed set shows of all pairs that agree outside the free ones.

-- the pairs of one set of reviewers are as many as they need
row_sums : (d : Demand) (a : Places) (z : Pairs) → Meets d z → sum_square (λ r p. one_if (a r && z r p)) d.side ≡ sum_below (λ r. cond (a r) (d.need r) 0) d.side
row_sums d a z h =
    sum_square-rows (λ r p. one_if (a r && z r p)) d.side
    ∙ sum_below-same (λ r. sum_below (λ p. one_if (a r && z r p)) d.side) (λ r. cond (a r) (d.need r) 0) d.side
    (λ r l. sym (count_where (a r) (z r) d.side) ∙ ap (λ k. cond (a r) k 0) (h.needs r l))

-- the pairs of one set of proposals are as many as they have room for
column_sums : (d : Demand) (b : Places) (z : Pairs) → Meets d z → sum_square (λ r p. one_if (b p && z r p)) d.side ≡ sum_below (λ p. cond (b p) (d.room p) 0) d.side
column_sums d b z h =
    sum_square-columns (λ r p. one_if (b p && z r p)) d.side
    ∙ sum_below-same (λ p. sum_below (λ r. one_if (b p && z r p)) d.side) (λ p. cond (b p) (d.room p) 0) d.side
    (λ p l. sym (count_where (b p) (λ r. z r p) d.side) ∙ ap (λ k. cond (b p) k 0) (h.rooms p l))

-- how a pair counts on both sides
cross_pair : (a b x y : Bool) → (a ≡ false → b ≡ true → x ≡ true → y ≡ true) → (a ≡ true → b ≡ false → y ≡ true → x ≡ true)
    → one_if (b && y) + one_if (a && x) ≡ ((one_if (b && x) + one_if (a && y)) + one_if (not a && (b && (y && not x)))) + one_if (a && (not b && (x && not y)))
cross_pair true true true true f h = refl
cross_pair true true true false f h = refl
cross_pair true true false true f h = refl
cross_pair true true false false f h = refl
cross_pair true false true true f h = refl
cross_pair true false true false f h = refl
cross_pair true false false true f h = absurd (true≢false (sym (h refl refl refl)))
cross_pair true false false false f h = refl
cross_pair false true true true f h = refl
cross_pair false true true false f h = absurd (true≢false (sym (f refl refl refl)))
cross_pair false true false true f h = refl
cross_pair false true false false f h = refl
cross_pair false false true true f h = refl
cross_pair false false true false f h = refl
cross_pair false false false true f h = refl
cross_pair false false false false f h = refl

-- pairs agree with others on those that may be and are not free
pub record AgreeOutside (d : Demand) (free x y : Pairs) : Type 0 where
  pub same : (r p : ℕ) → r < d.side → p < d.side → d.may r p ≡ true → free r p ≡ false → y r p ≡ x r p

abbrev pub free_graph : Demand → Pairs → Pairs → Residual
free_graph d free x = record { side = d.side; free = free; held = x }

-- into a closed set no pair is gained, and out of it none is lost
crossing-none : (d : Demand) (free x y : Pairs) (a b : Places) → Meets d x → Meets d y → AgreeOutside d free x y → IsClosed (free_graph d free x) a b
    → (sum_square (λ i q. one_if (not (a i) && (b q && (y i q && not (x i q))))) d.side ≡ 0)
    × (sum_square (λ i q. one_if (a i && (not (b q) && (x i q && not (y i q))))) d.side ≡ 0)
crossing-none d free x y a b hx hy agree closed =
    let n = d.side in
    let bx = λ (i q : ℕ). one_if (b q && x i q) in
    let by = λ (i q : ℕ). one_if (b q && y i q) in
    let ax = λ (i q : ℕ). one_if (a i && x i q) in
    let ay = λ (i q : ℕ). one_if (a i && y i q) in
    let more = λ (i q : ℕ). one_if (not (a i) && (b q && (y i q && not (x i q)))) in
    let less = λ (i q : ℕ). one_if (a i && (not (b q) && (x i q && not (y i q)))) in
    let into : (i q : ℕ) → i < n → q < n → a i ≡ false → b q ≡ true → x i q ≡ true → y i q ≡ true = λ i q il ql out inside held. elim (cases_Bool (free i q)) [
      | inl open_pair ↦ absurd (both_ways (a i) out (closed.back i q il ql inside open_pair held))
      | inr fixed ↦ agree.same i q il ql (hx.permitted i q il ql held) fixed ∙ held
    ] in
    let from : (i q : ℕ) → i < n → q < n → a i ≡ true → b q ≡ false → y i q ≡ true → x i q ≡ true = λ i q il ql inside out held. elim (cases_Bool (x i q)) [
      | inl there ↦ there
      | inr missing ↦ elim (cases_Bool (free i q)) [
        | inl open_pair ↦ absurd (both_ways (b q) out (closed.forward i q il ql inside open_pair missing))
        | inr fixed ↦ sym (agree.same i q il ql (hy.permitted i q il ql held) fixed) ∙ held
      ]
    ] in
    let each = sum_square-same (λ i q. by i q + ax i q) (λ i q. ((bx i q + ay i q) + more i q) + less i q) n
    (λ i q il ql. cross_pair (a i) (b q) (x i q) (y i q) (into i q il ql) (from i q il ql)) in
    let sum : sum_square more n + sum_square less n ≡ 0 =
    omega (
      arith,
      each,
      sum_square-plus by ax n,
      sum_square-plus (λ i q. (bx i q + ay i q) + more i q) less n,
      sum_square-plus (λ i q. bx i q + ay i q) more n,
      sum_square-plus bx ay n,
      row_sums d a x hx,
      row_sums d a y hy,
      column_sums d b x hx,
      column_sums d b y hy,
    ) in
    (omega arith, omega arith)

counted_pair : (a b y x : Bool) → a ≡ true → b ≡ true → y ≡ true → x ≡ false → one_if (a && (b && (y && not x))) ≡ 1
counted_pair a b y x ha hb hy hx = ap one_if (and_from a (b && (y && not x)) ha (and_from b (y && not x) hb (and_from y (not x) hy (ap not hx))))

pub none-gained : (d : Demand) (free x y : Pairs) (a b : Places) (r p : ℕ) → Meets d x → Meets d y → AgreeOutside d free x y → IsClosed (free_graph d free x) a b → r < d.side → p < d.side
    → a r ≡ false → b p ≡ true → x r p ≡ false → y r p ≡ true → ⊥
none-gained d free x y a b r p hx hy agree closed rl pl out inside wanting holds =
    let none = (crossing-none d free x y a b hx hy agree closed).0 in
    let here = sum_square-each (λ i q. one_if (not (a i) && (b q && (y i q && not (x i q))))) d.side r p none rl pl in
    omega (arith, here, counted_pair (not (a r)) (b p) (y r p) (x r p) (ap not out) inside holds wanting)

pub none-lost : (d : Demand) (free x y : Pairs) (a b : Places) (r p : ℕ) → Meets d x → Meets d y → AgreeOutside d free x y → IsClosed (free_graph d free x) a b → r < d.side → p < d.side
    → a r ≡ true → b p ≡ false → x r p ≡ true → y r p ≡ false → ⊥
none-lost d free x y a b r p hx hy agree closed rl pl inside out had lacks =
    let none = (crossing-none d free x y a b hx hy agree closed).1 in
    let here = sum_square-each (λ i q. one_if (a i && (not (b q) && (x i q && not (y i q))))) d.side r p none rl pl in
    omega (arith, here, counted_pair (a r) (not (b p)) (x r p) (y r p) inside (ap not out) had lacks)

-- a blocked pair is not gained
pub blocked-none : (d : Demand) (free x y : Pairs) (r p : ℕ) → Meets d x → Meets d y → AgreeOutside d free x y → IsBlocked (free_graph d free x) r p → r < d.side → p < d.side → x r p ≡ false → y r p ≡ true → ⊥
blocked-none d free x y r p hx hy agree blocked rl pl =
    none-gained d free x y blocked.reviewers blocked.proposals r p hx hy agree blocked.closed rl pl blocked.outside blocked.inside

-- pairs that are rerouted among free pairs meet all again
pub meets-rerouted : (d : Demand) (free x y : Pairs) (r p : ℕ) → Meets d x → ((i q : ℕ) → i < d.side → q < d.side → free i q ≡ true → d.may i q ≡ true) → IsRerouted d.side free x y r p → Meets d y
meets-rerouted d free x y r p h inside route = record {
  permitted = λ i q il ql held. elim (cases_Bool (free i q)) [
    | inl open_pair ↦ inside i q il ql open_pair
    | inr fixed ↦ h.permitted i q il ql (sym (route.others i q il ql fixed) ∙ held)
  ];
  needs = λ i l. route.reviewers i l ∙ h.needs i l;
  rooms = λ q l. route.proposals q l ∙ h.rooms q l;
}
