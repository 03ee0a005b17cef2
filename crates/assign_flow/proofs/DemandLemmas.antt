use Rattle.std.proofs.Common.{◌≡◌, ℕ, ◌<◌, Bool, true, false, not, ◌&&◌, ◌||◌, eqb, sym, ◌∙◌, refl, IsTrue}
use Rattle.std.proofs.lemmas.Bool.{and_parts, and_from, eqb-true, eq-eqb, true≢false}
use Rattle.peer_selection.specs.Counting.{count_below, all_below}
use Rattle.peer_selection.specs.Profile.{Pairs}
use Rattle.peer_selection.specs.Shortage.{Demand, is_met}
use Rattle.peer_selection.proofs.CountingLemmas.{all_below-each, all_below-from}

-- That pairs meet the needs and rooms, fact by fact.

pub record Meets (d : Demand) (x : Pairs) : Type 0 where
  pub permitted : (r p : ℕ) → r < d.side → p < d.side → x r p ≡ true → d.may r p ≡ true
  pub needs : (r : ℕ) → r < d.side → count_below (x r) d.side ≡ d.need r
  pub rooms : (p : ℕ) → p < d.side → count_below (λ r. x r p) d.side ≡ d.room p

permitted : Demand → Pairs → Bool
permitted d x = all_below (λ r. all_below (λ p. not (x r p) || d.may r p) d.side) d.side

needs : Demand → Pairs → Bool
needs d x = all_below (λ r. eqb (count_below (x r) d.side) (d.need r)) d.side

rooms : Demand → Pairs → Bool
rooms d x = all_below (λ p. eqb (count_below (λ r. x r p) d.side) (d.room p)) d.side

is_met-tests : (d : Demand) (x : Pairs) → is_met d x ≡ ((permitted d x && needs d x) && rooms d x)
unfolding is_met permitted needs rooms
is_met-tests d x = refl

implied : (a b : Bool) → (not a || b) ≡ true → a ≡ true → b ≡ true
implied true b h e = h
implied false b h e = absurd (true≢false (sym e))

implies : (a b : Bool) → (a ≡ true → b ≡ true) → (not a || b) ≡ true
implies true b h = h refl
implies false b h = refl

permitted-each : (d : Demand) (x : Pairs) → permitted d x ≡ true → (r p : ℕ) → r < d.side → p < d.side → x r p ≡ true → d.may r p ≡ true
unfolding permitted
permitted-each d x h r p l k =
    implied (x r p) (d.may r p) (all_below-each (λ p. not (x r p) || d.may r p) d.side (all_below-each (λ r. all_below (λ p. not (x r p) || d.may r p) d.side) d.side h r l) p k)

permitted-from : (d : Demand) (x : Pairs) → ((r p : ℕ) → r < d.side → p < d.side → x r p ≡ true → d.may r p ≡ true) → permitted d x ≡ true
unfolding permitted
permitted-from d x h =
    all_below-from (λ r. all_below (λ p. not (x r p) || d.may r p) d.side) d.side
    (λ r l. all_below-from (λ p. not (x r p) || d.may r p) d.side (λ p k. implies (x r p) (d.may r p) (h r p l k)))

needs-each : (d : Demand) (x : Pairs) → needs d x ≡ true → (r : ℕ) → r < d.side → count_below (x r) d.side ≡ d.need r
unfolding needs
needs-each d x h r l = eqb-true (count_below (x r) d.side) (d.need r) (all_below-each (λ r. eqb (count_below (x r) d.side) (d.need r)) d.side h r l)

needs-from : (d : Demand) (x : Pairs) → ((r : ℕ) → r < d.side → count_below (x r) d.side ≡ d.need r) → needs d x ≡ true
unfolding needs
needs-from d x h = all_below-from (λ r. eqb (count_below (x r) d.side) (d.need r)) d.side (λ r l. eq-eqb (count_below (x r) d.side) (d.need r) (h r l))

rooms-each : (d : Demand) (x : Pairs) → rooms d x ≡ true → (p : ℕ) → p < d.side → count_below (λ r. x r p) d.side ≡ d.room p
unfolding rooms
rooms-each d x h p l = eqb-true (count_below (λ r. x r p) d.side) (d.room p) (all_below-each (λ p. eqb (count_below (λ r. x r p) d.side) (d.room p)) d.side h p l)

rooms-from : (d : Demand) (x : Pairs) → ((p : ℕ) → p < d.side → count_below (λ r. x r p) d.side ≡ d.room p) → rooms d x ≡ true
unfolding rooms
rooms-from d x h = all_below-from (λ p. eqb (count_below (λ r. x r p) d.side) (d.room p)) d.side (λ p l. eq-eqb (count_below (λ r. x r p) d.side) (d.room p) (h p l))

pub is_met-each : (d : Demand) (x : Pairs) → IsTrue (is_met d x) → Meets d x
is_met-each d x h =
    let last = and_parts (permitted d x && needs d x) (rooms d x) (sym (is_met-tests d x) ∙ h) in
    let first = and_parts (permitted d x) (needs d x) last.0 in
    record { permitted = permitted-each d x first.0; needs = needs-each d x first.1; rooms = rooms-each d x last.1 }

pub is_met-from : (d : Demand) (x : Pairs) → Meets d x → IsTrue (is_met d x)
is_met-from d x h =
    is_met-tests d x
    ∙ and_from (permitted d x && needs d x) (rooms d x) (and_from (permitted d x) (needs d x) (permitted-from d x h.permitted) (needs-from d x h.needs)) (rooms-from d x h.rooms)
