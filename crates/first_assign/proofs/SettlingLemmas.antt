use Rattle.std.proofs.Common.{◌≡◌, ◌≢◌, ℕ, zero, suc, ◌+◌, ◌-◌, ◌<◌, ◌≤◌, Bool, true, false, ◌&&◌, cond, eqb, None, Some, IsTrue, ◌↔◌, refl, sym, ap, ◌∙◌, subst, inl, inr, arith}
use Rattle.std.proofs.lemmas.Bool.{cases_Bool, cases_eq, cases_lt, eq-eqb, ne_eqb, true≢false}
use Rattle.house_base.specs.Grid.{cell}
use Rattle.house_base.specs.Setting.{Setting, size, need, may}
use Rattle.peer_selection.specs.Counting.{count_below}
use Rattle.peer_selection.specs.FirstAssignment.{IsFirst}
use Rattle.peer_selection.specs.Profile.{Pairs, is_valid}
use Rattle.peer_selection.specs.Shortage.{is_met}
use Rattle.peer_selection.proofs.CountingLemmas.{one_if, count_below-add_one, count_below-longer, count_below-passes, count_below-same}
use Rattle.peer_selection.proofs.FirstAssignmentLemmas.{count_at, none_before, same_row_at}
use Rattle.peer_selection.proofs.RowLemmas.{round-apart, round-below}
use Rattle.peer_selection.proofs.ValidLemmas.{is_valid-each}
use Rattle.cut_gap.specs.Cut.{demand_of}
use Rattle.assign_flow.specs.Flow.{FlowParts, Agrees, CanHold, flow_demand, settled}
use Rattle.first_assign.specs.Settling.{IsSet, SettlesOne, proposal_at, HoldsFrom, AgreeBefore, CanFollow, IsFlowFor, IsFlowOf, IsSettledTo, kept_within}
use Rattle.first_assign.proofs.StepLemmas.{count_run, is_valid-agree}

-- Pairs that are settled in order, one more at a time.

some_none : {A : Type 0} (x : A) → None ≡ Some x → ⊥
some_none x e = cc

same_some : (a b : Bool) → Some a ≡ Some b → a ≡ b
same_some a b e = cc

below_next : (e d : ℕ) → e < d + 1 → e ≢ d → e < d
below_next e d l ne = omega arith

-- A square that is set at one place.

set_here : {X : Type 0} (n r p : ℕ) (v : X) (old new : ℕ → ℕ → X) → IsSet n r p v old new → r < n → p < n → new r p ≡ v
set_here n r p v old new h rl pl =
    h r p rl pl ∙ (ap (λ b. cond (b && eqb p p) v (old r p)) (eq-eqb r r refl) ∙ ap (λ b. cond b v (old r p)) (eq-eqb p p refl))

set_row : {X : Type 0} (n r p : ℕ) (v : X) (old new : ℕ → ℕ → X) → IsSet n r p v old new → (i q : ℕ) → i < n → q < n → i ≢ r → new i q ≡ old i q
set_row n r p v old new h i q il ql ne = h i q il ql ∙ ap (λ b. cond (b && eqb q p) v (old i q)) (ne_eqb i r ne)

neither : {X : Type 0} (a b : Bool) (x y : X) → b ≡ false → cond (a && b) x y ≡ y
neither true b x y e = ap (λ c. cond c x y) e
neither false b x y e = refl

set_place : {X : Type 0} (n r p : ℕ) (v : X) (old new : ℕ → ℕ → X) → IsSet n r p v old new → (i q : ℕ) → i < n → q < n → q ≢ p → new i q ≡ old i q
set_place n r p v old new h i q il ql ne = h i q il ql ∙ neither (eqb i r) (eqb q p) v (old i q) (ne_eqb q p ne)

-- proposals at two distances are two
apart : (n r e d : ℕ) → r < n → e < n → d < n → e ≢ d → proposal_at n r e ≢ proposal_at n r d
apart n r e d rl el dl ne same = ne (round-apart n (r + 1) e d (omega arith) el dl same)

pub at_below : (n r d : ℕ) → d < n → proposal_at n r d < n
at_below n r d l = round-below n (r + 1) d l

-- what holds from a pair on, after that pair is set
from_next : {X : Type 0} (n r d : ℕ) (v c : X) (old new : ℕ → ℕ → X) → IsSet n r (proposal_at n r d) v old new → d < n
    → HoldsFrom n r d (λ i q. old i q ≡ c) → HoldsFrom n r (d + 1) (λ i q. new i q ≡ c)
from_next n r d v c old new set dl h = record {
  row = λ rl e l el.
      set_place n r (proposal_at n r d) v old new set r (proposal_at n r e) rl (at_below n r e el) (apart n r e d rl el dl (λ same. omega arith))
      ∙ h.row rl e (omega arith) el;
  rows = λ i p l il pl. set_row n r (proposal_at n r d) v old new set i p il pl (λ same. omega arith) ∙ h.rows i p l il pl;
}

-- Agreement before a pair.

agree_more : (n r d : ℕ) (a b : Pairs) → AgreeBefore n r d a b → a r (proposal_at n r d) ≡ b r (proposal_at n r d) → AgreeBefore n r (d + 1) a b
agree_more n r d a b h here = record {
  rows = h.rows;
  row = λ e l el. elim (cases_eq e d) [
    | inl same ↦ ap (λ k. a r (proposal_at n r k)) same ∙ (here ∙ ap (λ k. b r (proposal_at n r k)) (sym same))
    | inr ne ↦ h.row e (below_next e d l ne) el
  ];
}

agree_less : (n r d e : ℕ) (a b : Pairs) → d ≤ e → AgreeBefore n r e a b → AgreeBefore n r d a b
agree_less n r d e a b l h = record { rows = h.rows; row = λ i il. h.row i (omega arith) }

-- the pairs before another one are as they were
agree_set : (n r d : ℕ) (v : Bool) (a b other : Pairs) → IsSet n r (proposal_at n r d) v a b → r < n → d < n → AgreeBefore n r d a other → AgreeBefore n r d b other
agree_set n r d v a b other set rl dl h =
    let p = proposal_at n r d in
    record {
      rows = λ i q l il ql. set_row n r p v a b set i q il ql (λ same. omega arith) ∙ h.rows i q l il ql;
      row = λ e l el. set_place n r p v a b set r (proposal_at n r e) rl (at_below n r e el) (apart n r e d rl el dl (λ same. omega arith)) ∙ h.row e l el;
    }

agree_unset : (n r d e : ℕ) (v : Bool) (a b other : Pairs) → IsSet n r (proposal_at n r d) v a b → r < n → d < n → e ≤ d → AgreeBefore n r e b other → AgreeBefore n r e a other
agree_unset n r d e v a b other set rl dl l h =
    let p = proposal_at n r d in
    record {
      rows = λ i q x il ql. sym (set_row n r p v a b set i q il ql (λ same. omega arith)) ∙ h.rows i q x il ql;
      row = λ j x jl. sym (set_place n r p v a b set r (proposal_at n r j) rl (at_below n r j jl) (apart n r j d rl jl dl (λ same. omega arith))) ∙ h.row j x jl;
    }

agree_above : (n r d i e : ℕ) (v : Bool) (a b other : Pairs) → IsSet n r (proposal_at n r d) v a b → i < r → i < n → AgreeBefore n i e b other → AgreeBefore n i e a other
agree_above n r d i e v a b other set l il h =
    let p = proposal_at n r d in
    record {
      rows = λ j q x jl ql. sym (set_row n r p v a b set j q jl ql (λ same. omega arith)) ∙ h.rows j q x jl ql;
      row = λ j x jl. sym (set_row n r p v a b set i (proposal_at n i j) il (at_below n i j jl) (λ same. omega arith)) ∙ h.row j x jl;
    }

-- Agreement with a flow in which one pair more is settled.

pub record Settles (n : ℕ) (f g : FlowParts) (r p : ℕ) (kept : Bool) : Type 0 where
  pub side : f.may.side ≡ n
  pub needs : g.needs ≡ f.needs
  pub rooms : g.rooms ≡ f.rooms
  pub may : g.may ≡ f.may
  pub was : settled f r p ≡ None
  pub now : IsSet n r p (Some kept) (settled f) (settled g)
  pub held : IsTrue kept ↔ CanHold f r p

agrees_more : (n : ℕ) (f g : FlowParts) (y : Pairs) (r p : ℕ) (kept : Bool) → Settles n f g r p kept → r < n → p < n → Agrees f y → y r p ≡ kept → Agrees g y
agrees_more n f g y r p kept h rl pl old here i q b il ql e =
    let side : g.may.side ≡ n = ap (λ s. s.side) h.may ∙ h.side in
    let x : i < n = omega (arith, il, side) in
    let z : q < n = omega (arith, ql, side) in
    let other = λ (same : settled g i q ≡ settled f i q). old i q b (omega (arith, x, h.side)) (omega (arith, z, h.side)) (sym same ∙ e) in
    elim (cases_eq i r) [
      | inl row ↦ elim (cases_eq q p) [
        | inl place ↦
            let is = sym (set_here n r p (Some kept) (settled f) (settled g) h.now rl pl) ∙ (ap (λ k. settled g k p) (sym row) ∙ (ap (settled g i) (sym place) ∙ e)) in
            ap (λ k. y k q) row ∙ (ap (y r) place ∙ (here ∙ same_some kept b is))
        | inr ne ↦ other (set_place n r p (Some kept) (settled f) (settled g) h.now i q x z ne)
      ]
      | inr ne ↦ other (set_row n r p (Some kept) (settled f) (settled g) h.now i q x z ne)
    ]

agrees_less : (n : ℕ) (f g : FlowParts) (y : Pairs) (r p : ℕ) (kept : Bool) → Settles n f g r p kept → Agrees g y → Agrees f y
agrees_less n f g y r p kept h new i q b il ql e =
    let side : g.may.side ≡ f.may.side = ap (λ s. s.side) h.may in
    let x : i < n = omega (arith, il, h.side) in
    let z : q < n = omega (arith, ql, h.side) in
    let other = λ (same : settled g i q ≡ settled f i q). new i q b (omega (arith, il, side)) (omega (arith, ql, side)) (same ∙ e) in
    elim (cases_eq i r) [
      | inl row ↦ elim (cases_eq q p) [
        | inl place ↦ absurd (some_none b (sym h.was ∙ (ap (λ k. settled f k p) (sym row) ∙ (ap (settled f i) (sym place) ∙ e))))
        | inr ne ↦ other (set_place n r p (Some kept) (settled f) (settled g) h.now i q x z ne)
      ]
      | inr ne ↦ other (set_row n r p (Some kept) (settled f) (settled g) h.now i q x z ne)
    ]

agrees_here : (n : ℕ) (f g : FlowParts) (y : Pairs) (r p : ℕ) (kept : Bool) → Settles n f g r p kept → r < n → p < n → Agrees g y → y r p ≡ kept
agrees_here n f g y r p kept h rl pl new =
    let side : g.may.side ≡ n = ap (λ s. s.side) h.may ∙ h.side in
    new r p kept (omega (arith, rl, side)) (omega (arith, pl, side)) (set_here n r p (Some kept) (settled f) (settled g) h.now rl pl)

pub settles-one : (n : ℕ) (f g : FlowParts) (r p : ℕ) (kept : Bool) → f.may.side ≡ n → settled f r p ≡ None → SettlesOne f g r p kept → Settles n f g r p kept
settles-one n f g r p kept side was h = record {
  side = side;
  needs = h.needs;
  rooms = h.rooms;
  may = h.may;
  was = was;
  now = λ i q il ql. h.settles i q (omega (arith, il, side)) (omega (arith, ql, side));
  held = h.held;
}

-- a flow stays one of the setting
flow_next : (s : Setting) (f g : FlowParts) (r p : ℕ) (kept : Bool) → Settles (size s) f g r p kept → IsFlowFor s f → IsFlowFor s g
flow_next s f g r p kept h flow = record {
  side = ap (λ m. m.side) h.may ∙ flow.side;
  allowed = λ i q il ql. ap (λ m. cell m i q) h.may ∙ flow.allowed i q il ql;
  meets = λ y.
      ap (λ k. is_met (demand_of k g.rooms g.may) y) h.needs
      ∙ (ap (λ k. is_met (demand_of f.needs k g.may) y) h.rooms ∙ (ap (λ k. is_met (demand_of f.needs f.rooms k) y) h.may ∙ flow.meets y));
}

-- where a valid assignment agrees and has the pair, it can be held
can_hold : (s : Setting) (f : FlowParts) (y : Pairs) (r p : ℕ) → IsFlowFor s f → IsTrue (is_valid s y) → Agrees f y → y r p ≡ true → CanHold f r p
can_hold s f y r p flow valid agrees has = record { pairs = y; meets = flow.meets y ∙ valid; agrees = agrees; holds = has }

follow_next : (s : Setting) (f g : FlowParts) (r p : ℕ) (kept : Bool) → Settles (size s) f g r p kept → IsFlowFor s f → CanFollow s f → r < size s → p < size s → CanFollow s g
follow_next s f g r p kept h flow some rl pl =
    elim (cases_Bool kept) [
      | inl holds ↦
          let can = h.held.0 holds in
          record {
            pairs = can.pairs;
            valid = sym (flow.meets can.pairs) ∙ can.meets;
            agrees = agrees_more (size s) f g can.pairs r p kept h rl pl can.agrees (can.holds ∙ sym holds);
          }
      | inr lacks ↦ record {
        pairs = some.pairs;
        valid = some.valid;
        agrees = agrees_more (size s) f g some.pairs r p kept h rl pl some.agrees
            (elim (cases_Bool (some.pairs r p)) [
              | inl has ↦ absurd (true≢false (sym (h.held.1 (can_hold s f some.pairs r p flow some.valid some.agrees has)) ∙ lacks))
              | inr none ↦ none ∙ sym lacks
            ]);
      }
    ]

-- One pair more.

-- nothing is settled
pub settled-start : (s : Setting) (f : FlowParts) (held kept : Pairs) → IsFlowOf s f → IsTrue (is_met (flow_demand f) held) → Agrees f held → ((r p : ℕ) → kept r p ≡ false) → IsSettledTo s f kept 0 0
settled-start s f held kept h meets agrees none = record {
  flow = h.flow;
  some = record { pairs = held; valid = sym (h.flow.meets held) ∙ meets; agrees = agrees };
  unsettled = record { row = λ l e _ el. h.unsettled 0 (proposal_at (size s) 0 e) l (at_below (size s) 0 e el); rows = λ i p _ il pl. h.unsettled i p il pl };
  none_kept = record { row = λ l e _ el. none 0 (proposal_at (size s) 0 e); rows = λ i p _ il pl. none i p };
  agreed = λ other valid agree. record { rows = λ i p l il pl. absurd (omega arith); row = λ e l el. absurd (omega arith) };
  agrees = λ other agree r p b rl pl e. absurd (some_none b (sym (h.unsettled r p (omega (arith, rl, h.flow.side)) (omega (arith, pl, h.flow.side))) ∙ e));
  nearest = record {
    rows = λ other valid i e l il el. absurd (omega arith);
    row = λ other valid e l el. absurd (omega arith);
  };
}

-- the pair may not be
pub settled-barred : (s : Setting) (f : FlowParts) (kept : Pairs) (r d : ℕ) → r < size s → d < size s → may s r (proposal_at (size s) r d) ≡ false
    → IsSettledTo s f kept r d → IsSettledTo s f kept r (d + 1)
settled-barred s f kept r d rl dl barred h =
    let n = size s in
    let p = proposal_at n r d in
    let none : (y : Pairs) → IsTrue (is_valid s y) → y r p ≡ false = λ y valid. elim (cases_Bool (y r p)) [
      | inl has ↦ absurd (true≢false (sym ((is_valid-each s y valid).permitted r p rl (at_below n r d dl) has) ∙ barred))
      | inr lacks ↦ lacks
    ] in
    record {
      flow = h.flow;
      some = h.some;
      unsettled = record { row = λ l e x. h.unsettled.row l e (omega arith); rows = h.unsettled.rows };
      none_kept = record { row = λ l e x. h.none_kept.row l e (omega arith); rows = h.none_kept.rows };
      agreed = λ y valid agree. agree_more n r d kept y (h.agreed y valid agree) (h.none_kept.row rl d (omega arith) dl ∙ sym (none y valid));
      agrees = λ y agree. h.agrees y (agree_less n r d (d + 1) kept y (omega arith) agree);
      nearest = record {
        rows = h.nearest.rows;
        row = λ y valid e l el agree has. elim (cases_eq e d) [
          | inl same ↦ absurd (true≢false (sym (ap (λ k. y r (proposal_at n r k)) (sym same) ∙ has) ∙ none y valid))
          | inr ne ↦ h.nearest.row y valid e (below_next e d l ne) el agree has
        ];
      };
    }

settled-barred_by : (s : Setting) (f : FlowParts) (kept : Pairs) (r d k : ℕ) → r < size s → d + k ≤ size s
    → ((e : ℕ) → d ≤ e → e < d + k → may s r (proposal_at (size s) r e) ≡ false) → IsSettledTo s f kept r d → IsSettledTo s f kept r (d + k)
settled-barred_by s f kept r d zero rl l barred h =
    let P : ℕ → Type 0 = IsSettledTo s f kept r in
    subst P (let e : d ≡ d + 0 = omega arith in e) h
settled-barred_by s f kept r d (suc k) rl l barred h =
    let P : ℕ → Type 0 = IsSettledTo s f kept r in
    subst P (let e : d + k + 1 ≡ d + suc k = omega arith in e)
    (settled-barred s f kept r (d + k) rl (omega arith) (barred (d + k) (omega arith) (omega arith))
    (settled-barred_by s f kept r d k rl (omega arith) (λ e from el. barred e from (omega (arith, el))) h))

-- the pairs up to a distance may not be
pub settled-run : (s : Setting) (f : FlowParts) (kept : Pairs) (r d to : ℕ) → r < size s → d ≤ to → to ≤ size s
    → ((e : ℕ) → d ≤ e → e < to → may s r (proposal_at (size s) r e) ≡ false) → IsSettledTo s f kept r d → IsSettledTo s f kept r to
settled-run s f kept r d to rl on inside barred h =
    let P : ℕ → Type 0 = IsSettledTo s f kept r in
    let e : d + (to - d) ≡ to = omega arith in
    subst P e (settled-barred_by s f kept r d (to - d) rl (omega arith) (λ k from kl. barred k from (omega (arith, kl, on))) h)

-- none of them is kept
pub kept-run : (n : ℕ) (kept : Pairs) (r d to : ℕ) → r < n → d ≤ to → to ≤ n → HoldsFrom n r d (λ i p. kept i p ≡ false) → kept_within n kept r to ≡ kept_within n kept r d
kept-run n kept r d to rl on inside none =
    count_run (λ e. kept r (proposal_at n r e)) d to on (λ e from el. none.row rl e from (omega (arith, el, inside)))

-- the pair is settled
pub settled-next : (s : Setting) (f g : FlowParts) (kept more : Pairs) (r d : ℕ) (answer : Bool) → r < size s → d < size s
    → Settles (size s) f g r (proposal_at (size s) r d) answer → IsSet (size s) r (proposal_at (size s) r d) answer kept more
    → IsSettledTo s f kept r d → IsSettledTo s g more r (d + 1)
settled-next s f g kept more r d answer rl dl new set h =
    let n = size s in
    let p = proposal_at n r d in
    let pl = at_below n r d dl in
    let here : more r p ≡ answer = set_here n r p answer kept more set rl pl in
    record {
      flow = flow_next s f g r p answer new h.flow;
      some = follow_next s f g r p answer new h.flow h.some rl pl;
      unsettled = from_next n r d (Some answer) None (settled f) (settled g) new.now dl h.unsettled;
      none_kept = from_next n r d answer false kept more set dl h.none_kept;
      agreed = λ y valid agree.
          agree_more n r d more y (agree_set n r d answer kept more y set rl dl (h.agreed y valid (agrees_less n f g y r p answer new agree)))
          (here ∙ sym (agrees_here n f g y r p answer new rl pl agree));
      agrees = λ y agree.
          agrees_more n f g y r p answer new rl pl
          (h.agrees y (agree_unset n r d d answer kept more y set rl dl (omega arith) (agree_less n r d (d + 1) more y (omega arith) agree)))
          (sym (agree.row d (omega arith) dl) ∙ here);
      nearest = record {
        rows = λ y valid i e l il el agree has.
            set_row n r p answer kept more set i (proposal_at n i e) il (at_below n i e el) (λ same. omega arith)
            ∙ h.nearest.rows y valid i e l il el (agree_above n r d i e answer kept more y set l il agree) has;
        row = λ y valid e l el agree has.
            let before = agree_unset n r d e answer kept more y set rl dl (omega arith) agree in
            elim (cases_eq e d) [
              | inl same ↦
                  let can = can_hold s f y r p h.flow valid (h.agrees y (agree_less n r d e kept y (omega arith) before)) (ap (λ k. y r (proposal_at n r k)) (sym same) ∙ has) in
                  ap (λ k. more r (proposal_at n r k)) same ∙ (here ∙ new.held.1 can)
              | inr ne ↦
                  set_place n r p answer kept more set r (proposal_at n r e) rl (at_below n r e el) (apart n r e d rl el dl ne)
                  ∙ h.nearest.row y valid e (below_next e d l ne) el before has
            ];
      };
    }

-- How many of a reviewer's pairs are kept.

pub kept-next : (n : ℕ) (kept more : Pairs) (r d : ℕ) (answer : Bool) → r < n → d < n → IsSet n r (proposal_at n r d) answer kept more
    → kept_within n more r (d + 1) ≡ kept_within n kept r d + one_if answer
kept-next n kept more r d answer rl dl set =
    let p = proposal_at n r d in
    let before = count_below-same (λ e. more r (proposal_at n r e)) (λ e. kept r (proposal_at n r e)) d
    (λ e l. set_place n r p answer kept more set r (proposal_at n r e) rl (at_below n r e (omega arith)) (apart n r e d rl (omega arith) dl (λ same. omega arith))) in
    omega (arith, count_below-add_one (λ e. more r (proposal_at n r e)) d, before, ap one_if (set_here n r p answer kept more set rl (at_below n r d dl)))

-- A row to its end.

-- each valid assignment that agrees so far has the same row
abbrev RowIsDone : Setting → Pairs → ℕ → ℕ → Type 0
RowIsDone s kept r d = (y : Pairs) → IsTrue (is_valid s y) → AgreeBefore (size s) r d kept y → (e : ℕ) → e < size s
    → kept r (proposal_at (size s) r e) ≡ y r (proposal_at (size s) r e)

row-done : (s : Setting) (f : FlowParts) (kept : Pairs) (r d : ℕ) → r < size s → RowIsDone s kept r d → IsSettledTo s f kept r d → IsSettledTo s f kept (r + 1) 0
row-done s f kept r d rl done h =
    let n = size s in
    record {
      flow = h.flow;
      some = h.some;
      unsettled = record { row = λ l e x el. h.unsettled.rows (r + 1) (proposal_at n (r + 1) e) (omega arith) l (at_below n (r + 1) e el); rows = λ i p l. h.unsettled.rows i p (omega arith) };
      none_kept = record { row = λ l e x el. h.none_kept.rows (r + 1) (proposal_at n (r + 1) e) (omega arith) l (at_below n (r + 1) e el); rows = λ i p l. h.none_kept.rows i p (omega arith) };
      agreed = λ y valid agree.
          let before = h.agreed y valid agree in
          record {
            rows = λ i p l il pl. elim (cases_eq i r) [
              | inl same ↦ ap (λ k. kept k p) same ∙ (same_row_at n kept y r rl (done y valid before) p pl ∙ ap (λ k. y k p) (sym same))
              | inr ne ↦ before.rows i p (below_next i r l ne) il pl
            ];
            row = λ e l el. absurd (omega arith);
          };
      agrees = λ y agree. h.agrees y (record {
        rows = λ i p l il pl. agree.rows i p (omega arith) il pl;
        row = λ e l el. agree.rows r (proposal_at n r e) (omega arith) rl (at_below n r e el);
      });
      nearest = record {
        rows = λ y valid i e l il el agree has. elim (cases_eq i r) [
          | inl same ↦
              let P : ℕ → Type 0 = λ k. AgreeBefore n k e kept y in
              let there = subst P same agree in
              let has_it = ap (λ k. y k (proposal_at n k e)) (sym same) ∙ has in
              ap (λ k. kept k (proposal_at n k e)) same ∙ (elim (cases_lt e d) [
                | inl early ↦ h.nearest.row y valid e early el there has_it
                | inr late ↦ done y valid (agree_less n r d e kept y late there) e el ∙ has_it
              ])
          | inr ne ↦ h.nearest.rows y valid i e (below_next i r l ne) il el agree has
        ];
        row = λ y valid e l el. absurd (omega arith);
      };
    }

-- all of a row was gone through
pub settled-row : (s : Setting) (f : FlowParts) (kept : Pairs) (r d : ℕ) → r < size s → size s ≤ d → IsSettledTo s f kept r d → IsSettledTo s f kept (r + 1) 0
settled-row s f kept r d rl l h = row-done s f kept r d rl (λ y valid agree e el. agree.row e (omega arith) el) h

-- no number beyond passes where all that pass were counted
counted_all : (test : ℕ → Bool) (d n e : ℕ) → count_below test d ≡ count_below test n → d ≤ e → e < n → test e ≡ false
counted_all test d n e h l el =
    elim (cases_Bool (test e)) [
      | inl passes ↦ absurd (omega (arith, h, count_below-longer test d e l, count_below-passes test e passes, count_below-longer test (suc e) n (omega arith)))
      | inr fails ↦ fails
    ]

-- a reviewer's need is kept in full
pub settled-full : (s : Setting) (f : FlowParts) (kept : Pairs) (r d : ℕ) → r < size s → d ≤ size s → kept_within (size s) kept r d ≡ need s r
    → IsSettledTo s f kept r d → IsSettledTo s f kept (r + 1) 0
settled-full s f kept r d rl dl full h =
    let n = size s in
    row-done s f kept r d rl
    (λ y valid agree e el. elim (cases_lt e d) [
      | inl early ↦ agree.row e early el
      | inr late ↦
          let same = count_below-same (λ i. kept r (proposal_at n r i)) (λ i. y r (proposal_at n r i)) d (λ i il. agree.row i il (omega arith)) in
          let whole = count_at n y r rl ∙ (is_valid-each s y valid).owed r rl in
          h.none_kept.row rl e late el ∙ sym (counted_all (λ i. y r (proposal_at n r i)) d n e (sym same ∙ (full ∙ sym whole)) late el)
    ]) h

-- All pairs.

pub first-settled : (s : Setting) (f : FlowParts) (kept : Pairs) → IsSettledTo s f kept (size s) 0 → IsFirst s kept
first-settled s f kept h =
    let n = size s in
    let same = h.agreed h.some.pairs h.some.valid h.some.agrees in
    let valid : IsTrue (is_valid s kept) = is_valid-agree s kept h.some.pairs (λ r p rl pl. same.rows r p rl rl pl) ∙ h.some.valid in
    record {
      valid = valid;
      least = λ other good. none_before s kept other valid good (λ r d rl dl rows row has.
          h.nearest.rows other good r d rl rl dl (record { rows = λ i p l il pl. rows i p l pl; row = λ e l el. row e l }) has);
    }
