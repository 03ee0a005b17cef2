use Rattle.std.proofs.Common.{◌≡◌, ℕ, ◌<◌, true, false, sym, subst, inl, inr}
use Rattle.std.proofs.lemmas.Bool.{cases_Bool, both_ways, true_from_ne_false}
use Rattle.house_base.specs.Grid.{Square, cell}
use Rattle.peer_selection.specs.Profile.{Pairs}
use Rattle.peer_selection.specs.Shortage.{Demand, Places}
use Rattle.assign_flow.specs.Residual.{IsClosed, residual}
use Rattle.assign_flow.proofs.DemandLemmas.{Meets}
use Rattle.assign_flow.proofs.SettleLemmas.{AgreeOutside, free_graph, none-gained, none-lost}

-- Sets out of which no way leads.

-- with fewer free pairs a closed set stays closed
pub closed-fewer : (n : ℕ) (free less held : Pairs) (a b : Places) → ((r p : ℕ) → r < n → p < n → less r p ≡ true → free r p ≡ true)
    → IsClosed (record { side = n; free = free; held = held }) a b → IsClosed (record { side = n; free = less; held = held }) a b
closed-fewer n free less held a b fewer h = record {
  forward = λ r p l k inside f held. h.forward r p l k inside (fewer r p l k f) held;
  back = λ r p l k inside f held. h.back r p l k inside (fewer r p l k f) held;
}

-- and with other pairs that meet all and agree outside the free ones
pub closed-kept : (d : Demand) (free x y : Pairs) (a b : Places) → Meets d x → Meets d y → AgreeOutside d free x y → IsClosed (free_graph d free x) a b → IsClosed (free_graph d free y) a b
closed-kept d free x y a b hx hy agree h = record {
  forward = λ r p l k inside f lacks. true_from_ne_false (b p) (λ out. elim (cases_Bool (x r p)) [
    | inl had ↦ none-lost d free x y a b r p hx hy agree h l k inside out had lacks
    | inr lacked ↦ both_ways (b p) out (h.forward r p l k inside f lacked)
  ]);
  back = λ r p l k inside f has. true_from_ne_false (a r) (λ out. elim (cases_Bool (x r p)) [
    | inl had ↦ both_ways (a r) out (h.back r p l k inside f had)
    | inr lacked ↦ none-gained d free x y a b r p hx hy agree h l k out inside lacked has
  ]);
}

-- so a closed set stays closed after a pair is settled
pub closed-settled : (d : Demand) (free held less kept : Square) (a b : Places) → free.side ≡ d.side → less.side ≡ d.side → Meets d (cell held) → Meets d (cell kept)
    → ((r p : ℕ) → r < d.side → p < d.side → cell free r p ≡ false → cell kept r p ≡ cell held r p)
    → ((r p : ℕ) → r < d.side → p < d.side → cell less r p ≡ true → cell free r p ≡ true)
    → IsClosed (residual free held) a b → IsClosed (residual less kept) a b
closed-settled d free held less kept a b free_side less_side before after others fewer h =
    let P : ℕ → Type 0 = λ n. IsClosed (record { side = n; free = cell free; held = cell held }) a b in
    let Q : ℕ → Type 0 = λ n. IsClosed (record { side = n; free = cell less; held = cell kept }) a b in
    subst Q (sym less_side) (closed-fewer d.side (cell free) (cell less) (cell kept) a b fewer
    (closed-kept d (cell free) (cell held) (cell kept) a b before after (record { same = λ r p l k _ fixed. others r p l k fixed }) (subst P free_side h)))
