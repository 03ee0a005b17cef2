-- The board of a set of names, and its seats.
use Rattle.std.proofs.Common.{◌≡◌, ℕ, ◌+◌, ◌-◌, ◌≤◌, Bool, true, false, not, ◌&&◌, ◌||◌, eqb, ltb, leb, List, length, map, sym, ap, ◌∙◌, inl, inr, arith}
use Rattle.std.proofs.lemmas.Bool.{and_left, cases_Bool, eq-eqb, eqb-true, ne_eqb}
use Rattle.std.proofs.lemmas.Bool.Decides.{nat_tests}
use Rattle.std.proofs.Math.Path.{fun_ext}
use Rattle.house_base.proofs.AmongLemmas.{among-same}
use Rattle.house_base.proofs.InOrderLemmas.{In-Contains, In-from_Contains}
use Rattle.house_base.specs.Text.{Text}
use Rattle.peer_selection.specs.Counting.{count_below, numbers_below, sum_below}
use Rattle.peer_selection.proofs.CountingLemmas.{count_below-same, count_below-sum, one_if, sum_below-exchange, sum_below-mono, sum_below-only, sum_below-same}
use Rattle.reserve_list.specs.Board.{BoardParts, IsBoard, board_after, cluster_on, count_of, empty_on, gone_after, holds_on, is_gone, is_gone_after, name_on, rank_on, seats_on, seats_up_to}
use Rattle.reserve_list.specs.Laws.{HaveSameMembers}
use Rattle.reserve_list.proofs.BoardLemmas.{holds-gone, ranked-clusters}
use Rattle.reserve_list.proofs.MoveLemmas.{ahead_of, holds-ahead, room}
use Rattle.reserve_list.proofs.StandingLemmas.{holders-few}

map_same : (g h : ℕ → Bool) (n : ℕ) → ((i : ℕ) → g i ≡ h i) → map g (numbers_below n) ≡ map h (numbers_below n)
map_same g h n e = ap (λ t. map t (numbers_below n)) (fun_ext e)

-- names with the same members make one board
pub after-same : (b : BoardParts) (names others : List Text) → HaveSameMembers names others → board_after b names ≡ board_after b others
unfolding gone_after
after-same b names others same =
    ap (λ gone. record b { gone = gone })
    (map_same (is_gone_after b names) (is_gone_after b others) (count_of b.outcome) (λ i.
    ap (λ x. is_gone b i || x) (among-same names others (name_on b.outcome i)
    (λ m. In-from_Contains (name_on b.outcome i) others ((same (name_on b.outcome i)).0 (In-Contains (name_on b.outcome i) names m)))
    (λ m. In-from_Contains (name_on b.outcome i) names ((same (name_on b.outcome i)).1 (In-Contains (name_on b.outcome i) others m))))))

-- Holders, cluster by cluster.

gone_in : (e h g l : Bool) → g ≡ true → h ≡ false → (e && h) ≡ ((e && not g) && l)
gone_in e h g l x y = grind (arith, nat_tests)

stays_in : (e h g l : Bool) → g ≡ false → h ≡ l → (e && h) ≡ ((e && not g) && l)
stays_in e h g l x y = grind (arith, nat_tests)

shift : (a s : ℕ) → leb (a + 1) s ≡ ltb a s
shift a s = grind (arith, nat_tests)

module _ (b : BoardParts) (board : IsBoard b) where
  abbrev n : ℕ
  n = count_of b.outcome

  holders-in : (j : ℕ) → count_below (λ i. eqb (cluster_on b.outcome i) j && holds_on b i) (count_of b.outcome) ≤ seats_on b.outcome j
  holders-in j =
      let member = λ (i : ℕ). eqb (cluster_on b.outcome i) j && not (is_gone b i) in
      let few = holders-few (cluster_on b.outcome) (rank_on b.outcome) (count_of b.outcome) (ranked-clusters b.outcome board.ranked) (is_gone b) j (seats_on b.outcome j) in
      let each = count_below-same (λ i. eqb (cluster_on b.outcome i) j && holds_on b i) (λ i. member i && ltb (ahead_of b board i) (seats_on b.outcome j)) (count_of b.outcome) (λ i il.
      elim (cases_Bool (eqb (cluster_on b.outcome i) j)) [
        | inr other ↦ and_left (eqb (cluster_on b.outcome i) j) (holds_on b i) other
            ∙ sym (and_left (member i) (ltb (ahead_of b board i) (seats_on b.outcome j)) (and_left (eqb (cluster_on b.outcome i) j) (not (is_gone b i)) other))
        | inl here ↦
            let at = eqb-true (cluster_on b.outcome i) j here in
            elim (cases_Bool (is_gone b i)) [
              | inl gone ↦ gone_in (eqb (cluster_on b.outcome i) j) (holds_on b i) (is_gone b i) (ltb (ahead_of b board i) (seats_on b.outcome j)) gone (holds-gone b i gone)
              | inr stays ↦ stays_in (eqb (cluster_on b.outcome i) j) (holds_on b i) (is_gone b i) (ltb (ahead_of b board i) (seats_on b.outcome j)) stays
                  (sym (holds-ahead b board i il stays) ∙ shift (ahead_of b board i) (room b board i) ∙ ap (λ x. ltb (ahead_of b board i) (seats_on b.outcome x)) at)
            ]
      ]) in
      omega (arith, few, each)

  holders-sum : sum_below (λ j. count_below (λ i. eqb (cluster_on b.outcome i) (j + 1) && holds_on b i) (count_of b.outcome)) (length b.outcome.cluster_rows) ≡ count_below (holds_on b) (count_of b.outcome)
  holders-sum =
      let m = length b.outcome.cluster_rows in
      let cell = λ (j i : ℕ). one_if (eqb (cluster_on b.outcome i) (j + 1) && holds_on b i) in
      sum_below-same (λ j. count_below (λ i. eqb (cluster_on b.outcome i) (j + 1) && holds_on b i) n) (λ j. sum_below (cell j) n) m (λ j _. count_below-sum (λ i. eqb (cluster_on b.outcome i) (j + 1) && holds_on b i) n)
      ∙ sum_below-exchange cell n m
      ∙ sum_below-same (λ i. sum_below (λ j. cell j i) m) (λ i. one_if (holds_on b i)) n (λ i il.
      let range = board.ranked.clusters i il in
      let own = cluster_on b.outcome i - 1 in
      sum_below-only (λ j. cell j i) m own (omega (arith, range.0, range.1))
      (λ j _ ne. ap one_if (and_left (eqb (cluster_on b.outcome i) (j + 1)) (holds_on b i) (ne_eqb (cluster_on b.outcome i) (j + 1) (λ e. ne (omega (arith, e))))))
      ∙ ap (λ x. one_if (x && holds_on b i)) (eq-eqb (cluster_on b.outcome i) (own + 1) (omega (arith, range.0))))
      ∙ sym (count_below-sum (holds_on b) n)

  pub seats-held : count_below (holds_on b) (count_of b.outcome) + empty_on b ≡ seats_up_to b.outcome (length b.outcome.cluster_rows)
  unfolding empty_on seats_up_to
  seats-held =
      let m = length b.outcome.cluster_rows in
      let most = sum_below-mono (λ j. count_below (λ i. eqb (cluster_on b.outcome i) (j + 1) && holds_on b i) n) (λ j. seats_on b.outcome (j + 1)) m (λ j _. holders-in (j + 1)) in
      omega (arith, most, holders-sum)
