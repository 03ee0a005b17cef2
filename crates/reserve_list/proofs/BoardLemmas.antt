-- The board of an outcome, and what one withdrawal changes.
use Rattle.std.proofs.Common.{◌≡◌, ◌≢◌, ℕ, zero, suc, ◌+◌, ◌-◌, ◌*◌, ◌<◌, ◌≤◌, Bool, true, false, not, ◌&&◌, cond, eqb, ltb, leb, List, [], ◌∷◌, length, map, replicate, get_or, Some, None, refl, sym, ap, ◌∙◌, subst, inl, inr, arith}
use Rattle.std.specs.Prelude.{find, slice_get}
use Rattle.std.specs.Option.{option_map_or, option_or}
use Rattle.std.proofs.lemmas.Bool.{and_left, and_right, both_ways, cases_eq, cases_lt, le-ltb}
use Rattle.std.proofs.lemmas.Bool.Decides.{nat_tests}
use Rattle.std.proofs.lemmas.List.{get_or-replicate, get_or-set_other, get_or-set_same, get_or_default, length-map, length-replicate, length-set}
use Rattle.std.proofs.lemmas.List.Folds.{find-append}
use Rattle.peer_selection.specs.Counting.{count_below, numbers_below}
use Rattle.peer_selection.specs.Marks.{marks}
use Rattle.peer_selection.proofs.CountingLemmas.{count_below-none, count_below-same, one_if, sum_below-longer, sum_below-suc}
use Rattle.peer_selection.proofs.MarkLemmas.{marks-settled}
use Rattle.house_model.specs.Report.{OutcomeParts}
use Rattle.house_model.specs.declared.outcome.ApplicantRow.{ApplicantRow}
use Rattle.reserve_list.specs.Board.{BoardParts, IsBoard, IsRanked, and_gone, chance_on, cluster_on, count_of, fresh_board, gains, holds_at, holds_on, is_behind, is_gone, quota_on, quotas_up_to, rank_on, reserve_rank_on, seats_at, seats_on}
use Rattle.reserve_list.specs.Held.{IsHeld}
use Rattle.reserve_list.specs.Reserve.{gone_ahead}
use Rattle.reserve_list.proofs.StandingLemmas.{AreRanked, gone_ahead-more, rank-stay, stay_ahead}

-- the ranks of an outcome, cluster by cluster
pub ranked-clusters : (o : OutcomeParts) → IsRanked o → AreRanked (cluster_on o) (rank_on o) (count_of o)
ranked-clusters o r = record { within = r.ranks; differ = r.ranks_differ }

-- What is held.

pub gone-read : (b : BoardParts) (gone : List Bool) (i : ℕ) (d : Bool) → gone ≡ b.gone → i < length b.gone → get_or gone i d ≡ is_gone b i
unfolding is_gone
gone-read b gone i d e l = ap (λ xs. get_or xs i d) e ∙ get_or_default b.gone i d false l

pub gone-here : (b : BoardParts) (gone : List Bool) (i : ℕ) (x : Bool) → IsBoard b → gone ≡ b.gone → i < count_of b.outcome → x ≡ get_or gone i x → x ≡ is_gone b i
gone-here b gone i x board e l is = is ∙ gone-read b gone i x e (omega (arith, board.each))

pub rank-held : (b : BoardParts) (ranks : List ℕ) (i d : ℕ) → IsHeld b ranks → i < count_of b.outcome → get_or ranks i d ≡ reserve_rank_on b i
rank-held b ranks i d held l = get_or_default ranks i d 0 (omega (arith, held.each)) ∙ held.ranks_are i l

-- a rank is 1 more than those ahead that stay
pub reserve-stay : (b : BoardParts) (i : ℕ) (r : IsRanked b.outcome) → i < count_of b.outcome
    → reserve_rank_on b i ≡ stay_ahead (cluster_on b.outcome) (rank_on b.outcome) (count_of b.outcome) (ranked-clusters b.outcome r) (is_gone b) i + 1
unfolding reserve_rank_on
reserve-stay b i r l = rank-stay (cluster_on b.outcome) (rank_on b.outcome) (count_of b.outcome) (ranked-clusters b.outcome r) (is_gone b) i l

pub reserve-some : (b : BoardParts) (i : ℕ) → IsRanked b.outcome → i < count_of b.outcome → 1 ≤ reserve_rank_on b i
reserve-some b i r l = omega (arith, reserve-stay b i r l)

-- Holders.

pub holds-stays : (b : BoardParts) (i r s : ℕ) → is_gone b i ≡ false → r ≡ reserve_rank_on b i → s ≡ seats_on b.outcome (cluster_on b.outcome i) → leb r s ≡ holds_on b i
unfolding holds_on
holds-stays b i r s stays e f =
    ap (λ x. leb x s) e ∙ ap (leb (reserve_rank_on b i)) f ∙ sym (ap (λ g. not g && leb (reserve_rank_on b i) (seats_on b.outcome (cluster_on b.outcome i))) stays)

pub holds-gone : (b : BoardParts) (i : ℕ) → is_gone b i ≡ true → holds_on b i ≡ false
unfolding holds_on
holds-gone b i gone = and_left (not (is_gone b i)) (leb (reserve_rank_on b i) (seats_on b.outcome (cluster_on b.outcome i))) (ap not gone)

-- Chances.

pub chance-gone : (b : BoardParts) (i : ℕ) → is_gone b i ≡ true → chance_on b i ≡ 0
unfolding chance_on holds_at
chance-gone b i gone =
    count_below-none (λ v. not (is_gone b i) && leb (reserve_rank_on b i) (seats_at b.outcome (cluster_on b.outcome i) v)) b.outcome.den
    (λ v _. and_left (not (is_gone b i)) (leb (reserve_rank_on b i) (seats_at b.outcome (cluster_on b.outcome i) v)) (ap not gone))

-- a cluster's stretch ends within the seats
pub stretch-within : (o : OutcomeParts) (j : ℕ) → IsRanked o → 1 ≤ j → j ≤ length o.cluster_rows → quotas_up_to o (j - 1) + quota_on o j ≤ o.seats * o.den
unfolding quotas_up_to
stretch-within o j r h l =
    let at : suc (j - 1) ≡ j = omega arith in
    let own = ap (quota_on o) (let e : j - 1 + 1 ≡ j = omega arith in e) in
    omega (arith, sum_below-suc (λ i. quota_on o (i + 1)) (j - 1), own, sum_below-longer (λ i. quota_on o (i + 1)) (suc (j - 1)) (length o.cluster_rows) (omega arith), r.quotas)

pub seats_at-marks : (o : OutcomeParts) (j v : ℕ) → IsRanked o → 1 ≤ j → j ≤ length o.cluster_rows → marks (quotas_up_to o (j - 1)) (quota_on o j) o.den v ≡ seats_at o j v
unfolding seats_at
seats_at-marks o j v r h l = marks-settled (quotas_up_to o (j - 1)) (quota_on o j) o.den v o.seats r.den (omega (arith, stretch-within o j r h l))

pub chance-stays : (b : BoardParts) (i rank quota den result : ℕ) → IsRanked b.outcome → i < count_of b.outcome → is_gone b i ≡ false → rank ≡ reserve_rank_on b i
    → quota ≡ quota_on b.outcome (cluster_on b.outcome i) → den ≡ b.outcome.den
    → ((start : ℕ) → result ≡ count_below (λ v. leb rank (marks start quota den v)) den) → result ≡ chance_on b i
unfolding chance_on holds_at
chance-stays b i rank quota den result r l stays e f g counted =
    let o = b.outcome in
    let j = cluster_on o i in
    let start = quotas_up_to o (j - 1) in
    counted start
    ∙ ap (λ d. count_below (λ v. leb rank (marks start quota d v)) d) g
    ∙ count_below-same (λ v. leb rank (marks start quota o.den v)) (λ v. not (is_gone b i) && leb (reserve_rank_on b i) (seats_at o j v)) o.den
    (λ v _.
    ap (λ q. leb rank (marks start q o.den v)) f
    ∙ ap (leb rank) (seats_at-marks o j v r (r.clusters i l).0 (r.clusters i l).1)
    ∙ ap (λ x. leb x (seats_at o j v)) e
    ∙ sym (ap (λ x. not x && leb (reserve_rank_on b i) (seats_at o j v)) stays))

-- One more withdraws.

nothing_gained : (x y : Bool) → x ≡ y → (not x && y) ≡ false
nothing_gained true y e = refl
nothing_gained false y e = sym e

first_without : (r s : ℕ) (x y : Bool) → x ≡ leb r s → y ≡ leb (r - 1) s → (ltb s r && leb (r - 1) s) ≡ (not x && y)
first_without r s x y e f = grind (arith, nat_tests)

-- nobody stands behind itself
pub not_behind : (o : OutcomeParts) (i k : ℕ) → k ≡ i → is_behind o i k ≡ false
not_behind o i k e = and_right (eqb (cluster_on o i) (cluster_on o k)) (ltb (rank_on o i) (rank_on o k)) (le-ltb (rank_on o i) (rank_on o k) (let same = ap (rank_on o) e in omega (arith, same)))

module _ (b : BoardParts) (i : ℕ) (board : IsBoard b) (below : i < count_of b.outcome) (stays : is_gone b i ≡ false) where
  abbrev after : BoardParts
  after = and_gone b i

  pub gone-same : is_gone after i ≡ true
  unfolding is_gone
  gone-same = get_or-set_same b.gone i true false (omega (arith, board.each))

  pub gone-other : (k : ℕ) → k ≢ i → is_gone after k ≡ is_gone b k
  unfolding is_gone
  gone-other k other = get_or-set_other b.gone i k true false other

  pub board-after : IsBoard after
  board-after = record { ranked = board.ranked; each = length-set b.gone i true ∙ board.each }

  -- those behind it come forward by one
  pub reserve-after : (k : ℕ) → reserve_rank_on after k ≡ reserve_rank_on b k - one_if (is_behind b.outcome i k)
  unfolding reserve_rank_on
  reserve-after k =
      let more = gone_ahead-more (cluster_on b.outcome) (rank_on b.outcome) (count_of b.outcome) (is_gone b) (is_gone after) i k below stays gone-same (λ j _ other. gone-other j other) in
      omega (arith, more)

  pub gains-gone : (k : ℕ) → is_gone b k ≡ true → gains b i k ≡ false
  gains-gone k gone =
      let still : is_gone after k ≡ true = elim (cases_eq k i) [ inl e ↦ ap (is_gone after) e ∙ gone-same | inr other ↦ gone-other k other ∙ gone ] in
      and_right (not (holds_on b k)) (holds_on after k) (holds-gone after k still)

  pub gains-apart : (k : ℕ) → is_gone b k ≡ false → is_behind b.outcome i k ≡ false → gains b i k ≡ false
  gains-apart k there apart =
      elim (cases_eq k i) [
        | inl e ↦ and_right (not (holds_on b k)) (holds_on after k) (holds-gone after k (ap (is_gone after) e ∙ gone-same))
        | inr other ↦
            let same : reserve_rank_on after k ≡ reserve_rank_on b k = reserve-after k ∙ (let e = ap one_if apart in omega (arith, e)) in
            let seats = seats_on b.outcome (cluster_on b.outcome k) in
            let before = holds-stays b k (reserve_rank_on b k) seats there refl refl in
            let now = holds-stays after k (reserve_rank_on b k) seats (gone-other k other ∙ there) (sym same) refl in
            nothing_gained (holds_on b k) (holds_on after k) (sym before ∙ now)
      ]

  pub gains-behind : (k r s : ℕ) → is_gone b k ≡ false → is_behind b.outcome i k ≡ true → r ≡ reserve_rank_on b k → s ≡ seats_on b.outcome (cluster_on b.outcome k)
      → (ltb s r && leb (r - 1) s) ≡ gains b i k
  gains-behind k r s there behind e f =
      let less = ap one_if behind in
      let forward : r - 1 ≡ reserve_rank_on after k = ap (λ x. x - 1) e ∙ (omega (arith, reserve-after k, less)) in
      let other : k ≢ i = λ same. both_ways (is_behind b.outcome i k) (not_behind b.outcome i k same) behind in
      first_without r s (holds_on b k) (holds_on after k) (sym (holds-stays b k r s there e f)) (sym (holds-stays after k (r - 1) s (gone-other k other ∙ there) forward f))

-- Searches among numbers.

pub find-none : (test : ℕ → Bool) (n : ℕ) → ((k : ℕ) → k < n → test k ≡ false) → find test (numbers_below n) ≡ None
unfolding numbers_below
find-none test zero h = refl
find-none test (suc n) h =
    find-append test (numbers_below n) (n ∷ [])
    ∙ ap (λ o. option_or o (find test (n ∷ []))) (find-none test n (λ k l. h k (omega arith)))
    ∙ ap (λ b. cond b (Some n) None) (h n (omega arith))

pub find-first : (test : ℕ → Bool) (n k : ℕ) → k < n → test k ≡ true → ((j : ℕ) → j < k → test j ≡ false) → find test (numbers_below n) ≡ Some k
unfolding numbers_below
find-first test zero k l h before = absurd (omega arith)
find-first test (suc n) k l h before =
    elim (cases_lt k n) [
      | inl less ↦ find-append test (numbers_below n) (n ∷ []) ∙ ap (λ o. option_or o (find test (n ∷ []))) (find-first test n k less h before)
      | inr last ↦
          let e : k ≡ n = omega arith in
          find-append test (numbers_below n) (n ∷ [])
          ∙ ap (λ o. option_or o (find test (n ∷ []))) (find-none test n (λ j jl. before j (omega arith)))
          ∙ ap (λ b. cond b (Some n) None) (ap test (sym e) ∙ h) ∙ ap Some (sym e)
    ]

-- What is held, before anybody withdraws and when one more has.

rank_at : (rows : List ApplicantRow) (i : ℕ) → option_map_or (λ row. row.rank) (slice_get rows i) 0 ≡ get_or (map (λ row. row.rank) rows) i 0
rank_at [] i = refl
rank_at (row ∷ rows) zero = refl
rank_at (row ∷ rows) (suc i) = rank_at rows i

pub fresh-stays : (o : OutcomeParts) (i : ℕ) → i < count_of o → is_gone (fresh_board o) i ≡ false
unfolding is_gone
fresh-stays o i l = get_or-replicate (count_of o) i false false l

pub fresh-rank : (o : OutcomeParts) (i : ℕ) → reserve_rank_on (fresh_board o) i ≡ rank_on o i
unfolding reserve_rank_on gone_ahead
fresh-rank o i =
    let none = count_below-none (λ k. is_gone (fresh_board o) k && is_behind o k i) (count_of o) (λ k kl. and_left (is_gone (fresh_board o) k) (is_behind o k i) (fresh-stays o k kl)) in
    omega (arith, none)

pub held-fresh : (o : OutcomeParts) (copy : OutcomeParts) (gone : List Bool) (ranks : List ℕ) → IsRanked o → copy ≡ o → gone ≡ replicate (count_of o) false → ranks ≡ map (λ row. row.rank) o.applicant_rows
    → IsHeld (record { outcome = copy; gone = gone }) ranks
unfolding rank_on
held-fresh o copy gone ranks r e f g =
    let fresh : IsHeld (fresh_board o) (map (λ row. row.rank) o.applicant_rows) = record {
      board = record { ranked = r; each = length-replicate (count_of o) false };
      each = length-map o.applicant_rows (λ row. row.rank);
      ranks_are = λ i l. sym (rank_at o.applicant_rows i) ∙ sym (fresh-rank o i);
    } in
    let board : OutcomeParts → List Bool → BoardParts = λ x y. record { outcome = x; gone = y } in
    subst (λ x. IsHeld (board x gone) ranks) (sym e) (subst (λ y. IsHeld (board o y) ranks) (sym f) (subst (IsHeld (fresh_board o)) (sym g) fresh))

pub held-after : (b : BoardParts) (i : ℕ) (ranks new : List ℕ) → IsHeld b ranks → i < count_of b.outcome → is_gone b i ≡ false → length new ≡ length ranks
    → ((k : ℕ) → k < count_of b.outcome → get_or new k 0 ≡ get_or ranks k 0 - cond (is_behind b.outcome i k) 1 0) → IsHeld (and_gone b i) new
held-after b i ranks new held below stays each less =
    record {
      board = board-after b i held.board below stays;
      each = each ∙ held.each;
      ranks_are = λ k kl. less k kl ∙ ap (λ x. x - cond (is_behind b.outcome i k) 1 0) (held.ranks_are k kl) ∙ sym (reserve-after b i held.board below stays k);
    }
