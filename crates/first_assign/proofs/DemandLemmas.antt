use Rattle.std.proofs.Common.{◌≡◌, ℕ, ◌<◌, Bool, not, ◌&&◌, ◌||◌, cond, eqb, List, get_or, refl, sym, ap, ◌∙◌, subst, arith}
use Rattle.house_base.specs.Grid.{Square, cell}
use Rattle.house_base.specs.Setting.{Setting, size, need, may}
use Rattle.peer_selection.specs.Counting.{count_below, all_below}
use Rattle.peer_selection.specs.Profile.{Pairs, is_valid}
use Rattle.peer_selection.specs.Shortage.{Demand, Places, is_met, assignment_demand, needed_in, room_outside, allowed, capacity, IsShortage}
use Rattle.peer_selection.proofs.CountingLemmas.{count_below-same, sum_below-same, all_below-same}
use Rattle.cut_gap.specs.Cut.{demand_of}

-- What is asked of pairs, where it is said by other lists and squares with the same content.

pub record AsksSame (d e : Demand) : Type 0 where
  pub side : d.side ≡ e.side
  pub need : (r : ℕ) → r < e.side → d.need r ≡ e.need r
  pub room : (p : ℕ) → p < e.side → d.room p ≡ e.room p
  pub may : (r p : ℕ) → r < e.side → p < e.side → d.may r p ≡ e.may r p

abbrev on_side : Demand → ℕ → Demand
on_side d n = record { side = n; need = d.need; room = d.room; may = d.may }

and_same : (a b c x y z : Bool) → a ≡ x → b ≡ y → c ≡ z → ((a && b) && c) ≡ ((x && y) && z)
and_same a b c x y z e f g = ap (λ u. (u && b) && c) e ∙ (ap (λ u. (x && u) && c) f ∙ ap (λ u. (x && y) && u) g)

met-on_side : (d e : Demand) → AsksSame d e → (x : Pairs) → is_met (on_side d e.side) x ≡ is_met e x
unfolding is_met
met-on_side d e h x =
    let n = e.side in
    and_same (all_below (λ r. all_below (λ p. not (x r p) || d.may r p) n) n) (all_below (λ r. eqb (count_below (x r) n) (d.need r)) n) (all_below (λ p. eqb (count_below (λ r. x r p) n) (d.room p)) n)
    (all_below (λ r. all_below (λ p. not (x r p) || e.may r p) n) n) (all_below (λ r. eqb (count_below (x r) n) (e.need r)) n) (all_below (λ p. eqb (count_below (λ r. x r p) n) (e.room p)) n)
    (all_below-same (λ r. all_below (λ p. not (x r p) || d.may r p) n) (λ r. all_below (λ p. not (x r p) || e.may r p) n) n
    (λ r rl. all_below-same (λ p. not (x r p) || d.may r p) (λ p. not (x r p) || e.may r p) n (λ p pl. ap (λ b. not (x r p) || b) (h.may r p rl pl))))
    (all_below-same (λ r. eqb (count_below (x r) n) (d.need r)) (λ r. eqb (count_below (x r) n) (e.need r)) n (λ r rl. ap (eqb (count_below (x r) n)) (h.need r rl)))
    (all_below-same (λ p. eqb (count_below (λ r. x r p) n) (d.room p)) (λ p. eqb (count_below (λ r. x r p) n) (e.room p)) n (λ p pl. ap (eqb (count_below (λ r. x r p) n)) (h.room p pl)))

pub met-same : (d e : Demand) → AsksSame d e → (x : Pairs) → is_met d x ≡ is_met e x
met-same d e h x = ap (λ n. is_met (on_side d n) x) h.side ∙ met-on_side d e h x

-- what assignments have to meet, and what is valid
pub met-valid : (s : Setting) (x : Pairs) → is_met (assignment_demand s) x ≡ is_valid s x
unfolding is_met is_valid
met-valid s x = refl

needed-same : (d e : Demand) → AsksSame d e → (a : Places) → needed_in (on_side d e.side) a ≡ needed_in e a
unfolding needed_in
needed-same d e h a = sum_below-same (λ r. cond (a r) (d.need r) 0) (λ r. cond (a r) (e.need r) 0) e.side (λ r l. ap (λ k. cond (a r) k 0) (h.need r l))

room-same : (d e : Demand) → AsksSame d e → (b : Places) → room_outside (on_side d e.side) b ≡ room_outside e b
unfolding room_outside
room-same d e h b = sum_below-same (λ p. cond (b p) 0 (d.room p)) (λ p. cond (b p) 0 (e.room p)) e.side (λ p l. ap (cond (b p) 0) (h.room p l))

allowed-same : (d e : Demand) → AsksSame d e → (a b : Places) → allowed (on_side d e.side) a b ≡ allowed e a b
unfolding allowed
allowed-same d e h a b =
    let n = e.side in
    sum_below-same (λ r. cond (a r) (count_below (λ p. b p && d.may r p) n) 0) (λ r. cond (a r) (count_below (λ p. b p && e.may r p) n) 0) n
    (λ r l. ap (λ k. cond (a r) k 0) (count_below-same (λ p. b p && d.may r p) (λ p. b p && e.may r p) n (λ p pl. ap (λ u. b p && u) (h.may r p l pl))))

capacity-same : (d e : Demand) → AsksSame d e → (a b : Places) → capacity (on_side d e.side) a b ≡ capacity e a b
unfolding capacity
capacity-same d e h a b =
    let outside = sum_below-same (λ r. cond (a r) 0 (d.need r)) (λ r. cond (a r) 0 (e.need r)) e.side (λ r l. ap (cond (a r) 0) (h.need r l)) in
    omega (arith, outside, room-same d e h b, allowed-same d e h a b)

shortage-on_side : (d e : Demand) → AsksSame d e → (a b : Places) → IsShortage (on_side d e.side) a b → IsShortage e a b
shortage-on_side d e h a b short = record {
  short = omega (arith, room-same d e h b, allowed-same d e h a b, needed-same d e h a, short.short);
  greatest = λ i j. omega (arith, capacity-same d e h a b, capacity-same d e h i j, short.greatest i j);
  least = λ i j w. short.least i j (capacity-same d e h i j ∙ (w ∙ sym (capacity-same d e h a b)));
  largest = λ i j w. short.largest i j (capacity-same d e h i j ∙ (w ∙ sym (capacity-same d e h a b)));
}

pub shortage-same : (d e : Demand) → AsksSame d e → (a b : Places) → IsShortage d a b → IsShortage e a b
shortage-same d e h a b short =
    let P : ℕ → Type 0 = λ n. IsShortage (on_side d n) a b in
    shortage-on_side d e h a b (subst P h.side short)

-- lists and a square that say what assignments of a setting have to meet
pub asks-assignment : (s : Setting) (needs rooms : List ℕ) (pairs : Square) → pairs.side ≡ size s → ((r : ℕ) → r < size s → get_or needs r 0 ≡ need s r)
    → ((p : ℕ) → p < size s → get_or rooms p 0 ≡ s.reviews) → ((r p : ℕ) → r < size s → p < size s → cell pairs r p ≡ may s r p)
    → AsksSame (demand_of needs rooms pairs) (assignment_demand s)
asks-assignment s needs rooms pairs side each_need each_room each_pair = record { side = side; need = each_need; room = each_room; may = each_pair }
