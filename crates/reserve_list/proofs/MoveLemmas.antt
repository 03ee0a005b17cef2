-- Who moves up when one withdraws.
use Rattle.std.proofs.Common.{◌≡◌, ℕ, zero, suc, ◌+◌, ◌-◌, ◌<◌, ◌≤◌, Bool, true, false, not, ◌&&◌, eqb, ltb, leb, Some, None, Option, ◌⊎◌, refl, sym, ap, ◌∙◌, inl, inr, subst, arith}
use Rattle.std.specs.Prelude.{find}
use Rattle.std.specs.List.{Contains}
use Rattle.std.proofs.lemmas.Bool.{and_from, and_parts, both_ways, cases_Bool, cases_lt, eq-eqb, eqb-true, le-leb, leb-true, lt-ltb, ltb-true}
use Rattle.std.proofs.lemmas.Option.{none-some}
use Rattle.house_base.proofs.Settings.{Contains-find, find-from_Contains, find_cases}
use Rattle.peer_selection.specs.Counting.{numbers_below}
use Rattle.peer_selection.proofs.CountingLemmas.{get_or-numbers_below, length-numbers_below}
use Rattle.house_model.specs.Report.{OutcomeParts}
use Rattle.reserve_list.specs.Board.{BoardParts, IsBoard, GetsTheSeat, MovesUp, and_gone, cluster_on, count_of, gains, holds_on, is_behind, is_gone, moves_up, rank_on, reserve_rank_on, seats_on, waits}
use Rattle.reserve_list.proofs.BoardLemmas.{gains-apart, gains-behind, gains-gone, holds-stays, ranked-clusters, reserve-stay}
use Rattle.reserve_list.proofs.StandingLemmas.{AreRanked, ahead-cases, ahead-from, ahead-parts, not_true, stay_ahead, stay_ahead-few, stay_ahead-less}

-- what stands among the numbers below n is below n
below_all_numbers : (n k : ℕ) → Contains (numbers_below n) k → k < n
below_all_numbers n k (i, il, is) = omega (arith, is, get_or-numbers_below n i k (omega (arith, length-numbers_below n)), length-numbers_below n)

among_numbers : (n k : ℕ) → k < n → Contains (numbers_below n) k
among_numbers n k l = (k, omega (arith, length-numbers_below n), get_or-numbers_below n k k l)

false_from_not_true : (b : Bool) → (b ≡ true → ⊥) → b ≡ false
false_from_not_true true h = absurd (h refl)
false_from_not_true false h = refl

next_first : (r s : ℕ) → (ltb s r && leb (r - 1) s) ≡ true → r ≡ s + 1
next_first r s h =
    let both = and_parts (ltb s r) (leb (r - 1) s) h in
    let low = ltb-true s r both.0 in
    let high = leb-true (r - 1) s both.1 in
    omega arith

first_next : (r s : ℕ) → r ≡ s + 1 → (ltb s r && leb (r - 1) s) ≡ true
first_next r s e = and_from (ltb s r) (leb (r - 1) s) (lt-ltb s r (omega arith)) (le-leb (r - 1) s (omega arith))

module _ (b : BoardParts) (board : IsBoard b) where
  abbrev o : OutcomeParts
  o = b.outcome

  abbrev n : ℕ
  n = count_of b.outcome

  abbrev ranked : AreRanked (cluster_on b.outcome) (rank_on b.outcome) (count_of b.outcome)
  ranked = ranked-clusters b.outcome board.ranked

  -- those ahead of one that stay
  abbrev pub ahead_of : ℕ → ℕ
  ahead_of k = stay_ahead (cluster_on b.outcome) (rank_on b.outcome) (count_of b.outcome) (ranked-clusters b.outcome board.ranked) (is_gone b) k

  abbrev pub room : ℕ → ℕ
  room k = seats_on b.outcome (cluster_on b.outcome k)

  -- one that stays holds a seat where fewer are ahead of it than there are seats
  pub holds-ahead : (k : ℕ) → k < count_of b.outcome → is_gone b k ≡ false → leb (ahead_of k + 1) (room k) ≡ holds_on b k
  holds-ahead k kl there = holds-stays b k (ahead_of k + 1) (room k) there (sym (reserve-stay b k board.ranked kl)) refl

  holds-few : (k : ℕ) → k < count_of b.outcome → is_gone b k ≡ false → holds_on b k ≡ true → ahead_of k < room k
  holds-few k kl there h = let few = leb-true (ahead_of k + 1) (room k) (holds-ahead k kl there ∙ h) in omega arith

  few-holds : (k : ℕ) → k < count_of b.outcome → is_gone b k ≡ false → ahead_of k < room k → holds_on b k ≡ true
  few-holds k kl there l = sym (holds-ahead k kl there) ∙ le-leb (ahead_of k + 1) (room k) (omega arith)

  waits-parts : (j k : ℕ) → waits b j k ≡ true → (cluster_on b.outcome k ≡ j) × (is_gone b k ≡ false) × (holds_on b k ≡ false)
  waits-parts j k h =
      let outer = and_parts (eqb (cluster_on b.outcome k) j) (not (is_gone b k) && not (holds_on b k)) h in
      let inner = and_parts (not (is_gone b k)) (not (holds_on b k)) outer.1 in
      (eqb-true (cluster_on b.outcome k) j outer.0, not_true (is_gone b k) inner.0, not_true (holds_on b k) inner.1)

  waits-from : (j k : ℕ) → cluster_on b.outcome k ≡ j → is_gone b k ≡ false → holds_on b k ≡ false → waits b j k ≡ true
  waits-from j k e there none =
      and_from (eqb (cluster_on b.outcome k) j) (not (is_gone b k) && not (holds_on b k)) (eq-eqb (cluster_on b.outcome k) j e)
      (and_from (not (is_gone b k)) (not (holds_on b k)) (ap not there) (ap not none))

  -- a member that stays and does not wait holds
  holding : (x j : ℕ) → cluster_on b.outcome x ≡ j → is_gone b x ≡ false → waits b j x ≡ false → holds_on b x ≡ true
  holding x j e there idle =
      elim (cases_Bool (holds_on b x)) [
        | inl h ↦ h
        | inr none ↦ absurd (both_ways (waits b j x) idle (waits-from j x e there none))
      ]

  moves_as : (i k : ℕ) (up : Option ℕ) → up ≡ Some k → GetsTheSeat b i k → MovesUp b i up
  moves_as i k up e next = subst (MovesUp b i) (sym e) next

  moves_none : (i : ℕ) (up : Option ℕ) → up ≡ None → (holds_on b i ≡ false) ⊎ ((m : ℕ) → m < count_of b.outcome → waits b (cluster_on b.outcome i) m ≡ false) → MovesUp b i up
  moves_none i up e nobody = subst (MovesUp b i) (sym e) nobody

  module _ (i : ℕ) (below : i < count_of b.outcome) (stays : is_gone b i ≡ false) where
    -- who gains is behind, and has just as many ahead that stay as there are seats
    gains-parts : (k : ℕ) → k < count_of b.outcome → gains b i k ≡ true → (is_gone b k ≡ false) × (is_behind b.outcome i k ≡ true) × (ahead_of k ≡ room k)
    gains-parts k kl h =
        let there : is_gone b k ≡ false = false_from_not_true (is_gone b k) (λ gone. both_ways (gains b i k) (gains-gone b i board below stays k gone) h) in
        elim (cases_Bool (is_behind b.outcome i k)) [
          | inr apart ↦ absurd (both_ways (gains b i k) (gains-apart b i board below stays k there apart) h)
          | inl behind ↦
              let first = next_first (reserve_rank_on b k) (room k) (gains-behind b i board below stays k (reserve_rank_on b k) (room k) there behind refl refl ∙ h) in
              (there, behind, omega (arith, first, reserve-stay b k board.ranked kl))
        ]

    pub gains-held : (k : ℕ) → k < count_of b.outcome → gains b i k ≡ true → holds_on b i ≡ true
    gains-held k kl h =
        let parts = gains-parts k kl h in
        let less = stay_ahead-less (cluster_on b.outcome) (rank_on b.outcome) (count_of b.outcome) ranked (is_gone b) i k below stays parts.1 in
        let same = ap (seats_on b.outcome) (ahead-parts (cluster_on b.outcome) (rank_on b.outcome) (count_of b.outcome) ranked i k parts.1).0 in
        few-holds i below stays (omega (arith, less, same, parts.2))

    -- where it held no seat, nobody gains
    pub gains-none : holds_on b i ≡ false → (k : ℕ) → k < count_of b.outcome → gains b i k ≡ false
    gains-none none k kl = false_from_not_true (gains b i k) (λ h. both_ways (holds_on b i) none (gains-held k kl h))

    gains-from : (k : ℕ) → k < count_of b.outcome → is_gone b k ≡ false → is_behind b.outcome i k ≡ true → ahead_of k ≡ room k → gains b i k ≡ true
    gains-from k kl there behind at =
        sym (gains-behind b i board below stays k (reserve_rank_on b k) (room k) there behind refl refl)
        ∙ first_next (reserve_rank_on b k) (room k) (omega (arith, at, reserve-stay b k board.ranked kl))

    -- where it held one and nobody gains, nobody waits in its cluster
    nobody_waits : holds_on b i ≡ true → ((k : ℕ) → k < count_of b.outcome → gains b i k ≡ false) → (r m : ℕ) → m < count_of b.outcome → rank_on b.outcome m < r
        → waits b (cluster_on b.outcome i) m ≡ false
    nobody_waits held none zero m ml less = absurd (omega arith)
    nobody_waits held none (suc r) m ml less =
        false_from_not_true (waits b (cluster_on b.outcome i) m) (λ h.
        let parts = waits-parts (cluster_on b.outcome i) m h in
        let few = stay_ahead-few (cluster_on b.outcome) (rank_on b.outcome) (count_of b.outcome) ranked (is_gone b) m (room m) (λ x xl there ahead.
        let to = ahead-parts (cluster_on b.outcome) (rank_on b.outcome) (count_of b.outcome) ranked x m ahead in
        let not_waiting = nobody_waits held none r x xl (omega (arith, to.1)) in
        let holds : holds_on b x ≡ true = holding x (cluster_on b.outcome i) (to.0 ∙ parts.0) there not_waiting in
        let same = ap (seats_on b.outcome) to.0 in
        omega (arith, holds-few x xl there holds, same)) in
        let many : room m ≤ ahead_of m = elim (cases_lt (ahead_of m) (room m)) [
          | inl l ↦ absurd (both_ways (holds_on b m) parts.2 (few-holds m ml parts.1 l))
          | inr l ↦ l
        ] in
        let held_few = holds-few i below stays held in
        let same_room = ap (seats_on b.outcome) parts.0 in
        elim (ahead-cases (cluster_on b.outcome) (rank_on b.outcome) (count_of b.outcome) ranked i m below ml (sym parts.0)) [
          | inl e ↦ both_ways (holds_on b m) parts.2 (ap (holds_on b) (sym e) ∙ held)
          | inr (inl ahead) ↦ both_ways (gains b i m) (none m ml) (gains-from m ml parts.1 ahead (omega arith))
          | inr (inr ahead) ↦ let less = stay_ahead-less (cluster_on b.outcome) (rank_on b.outcome) (count_of b.outcome) ranked (is_gone b) m i ml parts.1 ahead in absurd (omega arith)
        ])

    -- who gains is the next
    is_next : (k : ℕ) → k < count_of b.outcome → gains b i k ≡ true → GetsTheSeat b i k
    is_next k kl h =
        let parts = gains-parts k kl h in
        let to = ahead-parts (cluster_on b.outcome) (rank_on b.outcome) (count_of b.outcome) ranked i k parts.1 in
        let both = and_parts (not (holds_on b k)) (holds_on (and_gone b i) k) h in
        record {
          below = kl;
          held = gains-held k kl h;
          waiting = waits-from (cluster_on b.outcome i) k (sym to.0) parts.0 (not_true (holds_on b k) both.0);
          least = λ m ml waiting.
              let wait = waits-parts (cluster_on b.outcome i) m waiting in
              elim (cases_lt (rank_on b.outcome m) (rank_on b.outcome k)) [
                | inr l ↦ l
                | inl l ↦
                    let ahead = ahead-from (cluster_on b.outcome) (rank_on b.outcome) (count_of b.outcome) ranked m k (wait.0 ∙ to.0) l in
                    let less = stay_ahead-less (cluster_on b.outcome) (rank_on b.outcome) (count_of b.outcome) ranked (is_gone b) m k ml wait.1 ahead in
                    let same = ap (seats_on b.outcome) (wait.0 ∙ to.0) in
                    absurd (both_ways (holds_on b m) wait.2 (few-holds m ml wait.1 (omega (arith, less, same, parts.2))))
              ];
          holds = both.1;
        }

    pub moves-up : MovesUp b i (moves_up b i)
    unfolding moves_up
    moves-up =
        let test = gains b i in
        elim (find_cases test (numbers_below (count_of b.outcome))) [
          | inl found ↦
              let kl = below_all_numbers (count_of b.outcome) found.0 (Contains-find test (numbers_below (count_of b.outcome)) found.0 found.1) in
              moves_as i found.0 (find test (numbers_below (count_of b.outcome))) found.1 (is_next found.0 kl found.2)
          | inr none ↦
              let nobody : (k : ℕ) → k < count_of b.outcome → gains b i k ≡ false = λ k kl. false_from_not_true (gains b i k) (λ h.
              let some = find-from_Contains test (numbers_below (count_of b.outcome)) k (among_numbers (count_of b.outcome) k kl) h in
              none-some some.0 (sym none ∙ some.1)) in
              moves_none i (find test (numbers_below (count_of b.outcome))) none (elim (cases_Bool (holds_on b i)) [
                | inl held ↦ inr (λ m ml. nobody_waits held nobody (rank_on b.outcome m + 1) m ml (omega arith))
                | inr not_held ↦ inl not_held
              ])
        ]
