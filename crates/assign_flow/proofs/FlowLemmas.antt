use Rattle.std.proofs.Common.{◌≡◌, ℕ, ◌<◌, Bool, true, false, not, ◌&&◌, cond, None, Some, IsTrue, refl, sym, ap, ◌∙◌, subst}
use Rattle.std.proofs.lemmas.Bool.{and_from}
use Rattle.house_base.specs.Grid.{cell}
use Rattle.peer_selection.specs.Profile.{Pairs}
use Rattle.peer_selection.specs.Shortage.{is_met}
use Rattle.assign_flow.specs.Residual.{residual}
use Rattle.assign_flow.specs.Reroute.{IsRerouted, IsBlocked}
use Rattle.assign_flow.specs.Flow.{FlowParts, flow_demand, CanHold}
use Rattle.assign_flow.proofs.DemandLemmas.{is_met-each, is_met-from}
use Rattle.assign_flow.proofs.SettleLemmas.{blocked-none, meets-rerouted}

-- What a flow's answer says of all pairs that agree with what is settled.

some_none : {A : Type 0} (x : A) → None ≡ Some x → ⊥
some_none x e = cc

same_some : (a b : Bool) → Some a ≡ Some b → a ≡ b
same_some a b e = cc

settled_parts : (may free held kept : Bool) → cond (may && not free) (Some held) None ≡ Some kept → (may ≡ true) × (free ≡ false) × (held ≡ kept)
settled_parts true true held kept e = absurd (some_none kept e)
settled_parts true false held kept e = (refl, refl, same_some held kept e)
settled_parts false free held kept e = absurd (some_none kept e)

-- the parts of a flow fit: as its invariant says
pub record IsFlow (f : FlowParts) : Type 0 where
  pub free_side : f.free.side ≡ f.may.side
  pub meets : IsTrue (is_met (flow_demand f) (cell f.held))
  pub inside : (r p : ℕ) → r < f.may.side → p < f.may.side → cell f.free r p ≡ true → cell f.may r p ≡ true

pub can-hold : (f : FlowParts) (y : Pairs) (r p : ℕ) → IsFlow f → IsRerouted f.free.side (cell f.free) (cell f.held) y r p → CanHold f r p
can-hold f y r p h route =
    let P : ℕ → Type 0 = λ n. IsRerouted n (cell f.free) (cell f.held) y r p in
    let here = subst P h.free_side route in
    record {
      pairs = y;
      meets = is_met-from (flow_demand f) y (meets-rerouted (flow_demand f) (cell f.free) (cell f.held) y r p (is_met-each (flow_demand f) (cell f.held) h.meets) h.inside here);
      agrees = λ i q kept il ql e. let parts = settled_parts (cell f.may i q) (cell f.free i q) (cell f.held i q) kept e in here.others i q il ql parts.1 ∙ parts.2;
      holds = here.holds;
    }

pub cannot-hold : (f : FlowParts) (r p : ℕ) → IsFlow f → IsBlocked (residual f.free f.held) r p → r < f.may.side → p < f.may.side → cell f.held r p ≡ false → CanHold f r p → ⊥
cannot-hold f r p h blocked rl pl wanting can =
    let d = flow_demand f in
    let P : ℕ → Type 0 = λ n. IsBlocked (record { side = n; free = cell f.free; held = cell f.held }) r p in
    blocked-none d (cell f.free) (cell f.held) can.pairs r p (is_met-each d (cell f.held) h.meets) (is_met-each d can.pairs can.meets)
    (record {
      same = λ i q il ql may fixed. can.agrees i q (cell f.held i q) il ql (ap (λ b. cond b (Some (cell f.held i q)) None) (and_from (cell f.may i q) (not (cell f.free i q)) may (ap not fixed)));
    })
    (subst P h.free_side blocked) rl pl wanting can.holds

-- after a pair is settled, the free pairs are among those that were free
pub still_free : (b x y : Bool) → y ≡ cond b false x → y ≡ true → x ≡ true
still_free true x y e h = absurd (true_is_not_false (sym h ∙ e))
  where
    true_is_not_false : true ≡ false → ⊥
    true_is_not_false w = cc
still_free false x y e h = sym e ∙ h
