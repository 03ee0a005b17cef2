-- The outcome of a profile, and its board.
use Rattle.std.proofs.Common.{◌≡◌, ℕ, suc, ◌+◌, ◌-◌, ◌*◌, ◌<◌, ◌≤◌, Bool, not, ◌&&◌, ◌||◌, eqb, ltb, leb, List, [], length, Some, refl, sym, ap, ◌∙◌, subst, arith, zero, ◌++◌, ◌∷◌, cond}
use Rattle.std.specs.List.{slice_get}
use Rattle.std.specs.Prelude.{codes, decimal, flat_map}
use Rattle.std.proofs.lemmas.List.Concat.{flat_map-append}
use Rattle.std.specs.Option.{option_map, option_map_or}
use Rattle.std.proofs.lemmas.List.{length-map}
use Rattle.std.proofs.lemmas.Option.{slice_get-map}
use Rattle.house_base.specs.declared.answer.Asides.{Asides}
use Rattle.house_base.specs.Setting.{Setting, cluster_at, name_at, number_at, size}
use Rattle.house_base.specs.Text.{Text, among}
use Rattle.house_model.specs.Report.{OutcomeParts, applicant_row, applicant_rows_of, cluster_row, cluster_rows_of, line_of, outcome_of, over, place_of_number}
use Rattle.house_model.proofs.ReportLemmas.{place_of_number-within}
use Rattle.peer_selection.specs.Counting.{count_below, numbers_below, sum_below}
use Rattle.peer_selection.specs.Laws.{IsAssigned}
use Rattle.peer_selection.specs.Lottery.{seats}
use Rattle.peer_selection.specs.Marks.{is_marked}
use Rattle.peer_selection.specs.Profile.{Profile, cluster_size, cumulative_quota, denominator, quota, rank}
use Rattle.peer_selection.proofs.ClusterLemmas.{cluster_at-in_range, cumulative_quota-all, denominator-positive}
use Rattle.peer_selection.proofs.CountingLemmas.{count_below-same, length-numbers_below, slice_get-numbers_below, sum_below-same}
use Rattle.peer_selection.proofs.SeatLemmas.{cumulative_quota-suc, in_stretch, seats-all, seats-suc}
use Rattle.peer_selection.proofs.SelectionLemmas.{rank-apart, rank-within}
use Rattle.reserve_list.specs.Board.{BoardParts, IsRanked, board_after, chance_on, cluster_on, count_of, empty_on, fresh_board, holds_at, holds_on, is_gone, name_on, quota_on, quotas_up_to, rank_on, reserve_rank_on, seats_at, seats_on, seats_up_to}
use Rattle.reserve_list.specs.Laws.{IsOfMechanism, final_words_after, places_gone, places_named, text_after}
use Rattle.reserve_list.specs.Leaving.{board_text, final_lines, final_words}
use Rattle.reserve_list.specs.Reserve.{Withdrawn, chance_after, empty_after, gone_ahead, holds_after, is_ahead, reserve_rank}
use Rattle.reserve_list.proofs.BoardLemmas.{fresh-stays}
use Rattle.reserve_list.proofs.ChanceLemmas.{chance-agree, empty-agree, holds-agree}
use Rattle.reserve_list.proofs.FileLemmas.{gone-at}
use Rattle.reserve_list.proofs.PlaceLemmas.{count_below-moved, number_at-below, number_at-place, numbers-places, one_place, place_of_number-at}

ahead_all : (g h : Bool) (a b x y r t m n : ℕ) → g ≡ h → a ≡ b → x ≡ y → r ≡ t → m ≡ n → (g && (eqb a x && ltb r m)) ≡ (h && (eqb b y && ltb t n))
ahead_all g h a b x y r t m n e1 e2 e3 e4 e5 = cc

three : (g h : Bool) (r t m n : ℕ) → g ≡ h → r ≡ t → m ≡ n → (not g && leb r m) ≡ (not h && leb t n)
three g h r t m n e1 e2 e3 = cc

module _ (f : Profile) (asides : Asides) (v : ℕ) where
  abbrev s : Setting
  s = f.setting

  abbrev o : OutcomeParts
  o = outcome_of f asides v

  abbrev place : ℕ → ℕ
  place i = place_of_number f.setting i

  -- The rows.

  pub count-of : count_of (outcome_of f asides v) ≡ size f.setting
  unfolding outcome_of applicant_rows_of
  count-of = length-map (numbers_below (size f.setting)) (λ number. applicant_row f v (place_of_number f.setting number)) ∙ length-numbers_below (size f.setting)

  row-at : (i : ℕ) → i < size f.setting → slice_get (applicant_rows_of f v) i ≡ Some (applicant_row f v (place_of_number f.setting i))
  unfolding applicant_rows_of
  row-at i l =
      let row = λ (number : ℕ). applicant_row f v (place_of_number f.setting number) in
      slice_get-map row (numbers_below (size f.setting)) i ∙ ap (option_map row) (slice_get-numbers_below (size f.setting) i l)

  pub name-of : (i : ℕ) → i < size f.setting → name_on (outcome_of f asides v) i ≡ name_at f.setting (place_of_number f.setting i)
  unfolding name_on outcome_of applicant_row
  name-of i l = ap (λ r. option_map_or (λ row. row.name) r []) (row-at i l)

  pub cluster-of : (i : ℕ) → i < size f.setting → cluster_on (outcome_of f asides v) i ≡ cluster_at f.setting (place_of_number f.setting i)
  unfolding cluster_on outcome_of applicant_row
  cluster-of i l = ap (λ r. option_map_or (λ row. row.cluster) r 0) (row-at i l)

  pub rank-of : (i : ℕ) → i < size f.setting → rank_on (outcome_of f asides v) i ≡ rank f (place_of_number f.setting i)
  unfolding rank_on outcome_of applicant_row
  rank-of i l = ap (λ r. option_map_or (λ row. row.rank) r 0) (row-at i l)

  pub clusters-of : length (outcome_of f asides v).cluster_rows ≡ f.setting.clusters
  unfolding outcome_of cluster_rows_of
  clusters-of = length-map (numbers_below f.setting.clusters) (λ i. cluster_row f v (i + 1)) ∙ length-numbers_below f.setting.clusters

  cluster-at : (i : ℕ) → i < f.setting.clusters → slice_get (cluster_rows_of f v) i ≡ Some (cluster_row f v (i + 1))
  unfolding cluster_rows_of
  cluster-at i l =
      let row = λ (i : ℕ). cluster_row f v (i + 1) in
      slice_get-map row (numbers_below f.setting.clusters) i ∙ ap (option_map row) (slice_get-numbers_below f.setting.clusters i l)

  pub seats-of : (i : ℕ) → i < f.setting.clusters → seats_on (outcome_of f asides v) (i + 1) ≡ seats f (i + 1) v
  unfolding seats_on outcome_of cluster_row
  seats-of i l =
      let back : i + 1 - 1 ≡ i = omega arith in
      ap (λ k. option_map_or (λ row. row.seats) (slice_get (cluster_rows_of f v) k) 0) back ∙ ap (λ r. option_map_or (λ row. row.seats) r 0) (cluster-at i l)

  pub quota-of : (i : ℕ) → i < f.setting.clusters → quota_on (outcome_of f asides v) (i + 1) ≡ quota f (i + 1)
  unfolding quota_on outcome_of cluster_row
  quota-of i l =
      let back : i + 1 - 1 ≡ i = omega arith in
      ap (λ k. option_map_or (λ row. row.quota) (slice_get (cluster_rows_of f v) k) 0) back ∙ ap (λ r. option_map_or (λ row. row.quota) r 0) (cluster-at i l)

  pub quotas-of : (j : ℕ) → j ≤ f.setting.clusters → quotas_up_to (outcome_of f asides v) j ≡ cumulative_quota f j
  unfolding quotas_up_to cumulative_quota
  quotas-of j l = sum_below-same (λ i. quota_on (outcome_of f asides v) (i + 1)) (λ i. quota f (i + 1)) j (λ i il. quota-of i (omega arith))

  pub all_seats-of : (j : ℕ) → j ≤ f.setting.clusters → seats_up_to (outcome_of f asides v) j ≡ sum_below (λ i. seats f (i + 1) v) j
  unfolding seats_up_to
  all_seats-of j l = sum_below-same (λ i. seats_on (outcome_of f asides v) (i + 1)) (λ i. seats f (i + 1) v) j (λ i il. seats-of i (omega arith))

  pub den-of : (outcome_of f asides v).den ≡ denominator f.setting
  unfolding outcome_of
  den-of = refl

  pub seats_in-of : (outcome_of f asides v).seats ≡ f.setting.seats
  unfolding outcome_of
  seats_in-of = refl

  -- It makes a board.

  module _ (h : IsAssigned f) (drawn : v < denominator f.setting) where
    pub given-seats : seats_up_to (outcome_of f asides v) (length (outcome_of f asides v).cluster_rows) ≡ f.setting.seats
    given-seats =
        ap (seats_up_to (outcome_of f asides v)) clusters-of ∙ all_seats-of f.setting.clusters (omega arith)
        ∙ seats-all f v f.setting.clusters drawn (cumulative_quota-all f h.setting h.valid)

    members-of : (i : ℕ) → i < size f.setting → count_below (λ k. eqb (cluster_on (outcome_of f asides v) k) (cluster_on (outcome_of f asides v) i)) (count_of (outcome_of f asides v)) ≡ cluster_size f.setting (cluster_at f.setting (place_of_number f.setting i))
    unfolding cluster_size
    members-of i l =
        let j = cluster_at f.setting (place_of_number f.setting i) in
        ap (count_below (λ k. eqb (cluster_on (outcome_of f asides v) k) (cluster_on (outcome_of f asides v) i))) count-of
        ∙ count_below-same (λ k. eqb (cluster_on (outcome_of f asides v) k) (cluster_on (outcome_of f asides v) i)) (λ k. eqb (cluster_at f.setting (place_of_number f.setting k)) j) (size f.setting)
        (λ k kl. ap (λ x. eqb x (cluster_on (outcome_of f asides v) i)) (cluster-of k kl) ∙ ap (eqb (cluster_at f.setting (place_of_number f.setting k))) (cluster-of i l))
        ∙ count_below-moved (place_of_number f.setting) (number_at f.setting) (size f.setting) (λ p. eqb (cluster_at f.setting p) j) (numbers-places f.setting h.setting)

    within : (i : ℕ) → i < size f.setting → place_of_number f.setting i < size f.setting
    within i l = place_of_number-within f.setting i h.setting

    one_number : (i k : ℕ) → i < size f.setting → k < size f.setting → place_of_number f.setting i ≡ place_of_number f.setting k → i ≡ k
    one_number i k il kl e = sym (number_at-place f.setting i h.setting il) ∙ ap (number_at f.setting) e ∙ number_at-place f.setting k h.setting kl

    pub outcome-ranked : IsRanked (outcome_of f asides v)
    outcome-ranked =
        let n = count-of in
        record {
          few = omega (arith, n, h.setting.few);
          names_differ = λ i k il kl e.
              let a : i < size f.setting = omega (arith, n, il) in
              let b : k < size f.setting = omega (arith, n, kl) in
              one_number i k a b (one_place f.setting (place_of_number f.setting i) (place_of_number f.setting k) h.setting (within i a) (within k b) (sym (name-of i a) ∙ e ∙ name-of k b));
          den = omega (arith, den-of, denominator-positive f h.setting);
          clusters = λ i il.
              let a : i < size f.setting = omega (arith, n, il) in
              let range = cluster_at-in_range f.setting (place_of_number f.setting i) h.setting (within i a) in
              (omega (arith, range.0, cluster-of i a), omega (arith, range.1, cluster-of i a, clusters-of));
          seats = omega (arith, given-seats, h.setting.seats_in_range.1);
          quotas = ap (quotas_up_to (outcome_of f asides v)) clusters-of ∙ quotas-of f.setting.clusters (omega arith) ∙ cumulative_quota-all f h.setting h.valid
              ∙ sym (ap (λ x. x * (outcome_of f asides v).den) seats_in-of ∙ ap (λ x. f.setting.seats * x) den-of);
          ranks = λ i il.
              let a : i < size f.setting = omega (arith, n, il) in
              let range = rank-within f (place_of_number f.setting i) (within i a) in
              (omega (arith, range.0, rank-of i a), omega (arith, range.1, rank-of i a, members-of i a));
          ranks_differ = λ i k il kl e r.
              let a : i < size f.setting = omega (arith, n, il) in
              let b : k < size f.setting = omega (arith, n, kl) in
              one_number i k a b (rank-apart f (place_of_number f.setting i) (place_of_number f.setting k)
              (record { first = within i a; second = within k b; cluster = sym (cluster-of i a) ∙ e ∙ cluster-of k b }) (sym (rank-of i a) ∙ r ∙ rank-of k b));
        }

    -- Its board is that of the mechanism.

    module _ (gone : List Bool) where
      abbrev b : BoardParts
      b = record { outcome = outcome_of f asides v; gone = gone }

      abbrev g : Withdrawn
      g = places_gone f.setting (record { outcome = outcome_of f asides v; gone = gone })

      gone-of : (i : ℕ) → i < size f.setting → is_gone b i ≡ g (place_of_number f.setting i)
      gone-of i l = ap (is_gone b) (sym (number_at-place f.setting i h.setting l))

      reserve-of : (i : ℕ) → i < size f.setting → reserve_rank_on b i ≡ reserve_rank f g (place_of_number f.setting i)
      unfolding reserve_rank_on reserve_rank gone_ahead
      reserve-of i l =
          let at = place_of_number f.setting in
          let test = λ (p : ℕ). g p && is_ahead (cluster_at f.setting) (rank f) p (at i) in
          let here = λ (k : ℕ). is_gone b k && is_ahead (cluster_on b.outcome) (rank_on b.outcome) k i in
          let counted = ap (count_below here) count-of
          ∙ count_below-same here (λ k. test (at k)) (size f.setting)
          (λ k kl. ahead_all (is_gone b k) (g (at k)) (cluster_on b.outcome k) (cluster_at f.setting (at k)) (cluster_on b.outcome i) (cluster_at f.setting (at i)) (rank_on b.outcome k) (rank f (at k)) (rank_on b.outcome i) (rank f (at i))
          (gone-of k kl) (cluster-of k kl) (cluster-of i l) (rank-of k kl) (rank-of i l))
          ∙ count_below-moved at (number_at f.setting) (size f.setting) test (numbers-places f.setting h.setting) in
          omega (arith, rank-of i l, counted)

      pub own_seats : (i : ℕ) → i < size f.setting → seats_on b.outcome (cluster_on b.outcome i) ≡ seats f (cluster_at f.setting (place_of_number f.setting i)) v
      own_seats i l =
          let j = cluster_at f.setting (place_of_number f.setting i) in
          let range = cluster_at-in_range f.setting (place_of_number f.setting i) h.setting (within i l) in
          let at : j - 1 + 1 ≡ j = omega (arith, range.0) in
          ap (seats_on b.outcome) (cluster-of i l ∙ sym at) ∙ seats-of (j - 1) (omega (arith, range.0, range.1)) ∙ ap (λ x. seats f x v) at

      seats_at-of : (i w : ℕ) → i < f.setting.clusters → seats_at (outcome_of f asides v) (i + 1) w ≡ seats f (i + 1) w
      unfolding seats_at
      seats_at-of i w l =
          let back : i + 1 - 1 ≡ i = omega arith in
          let start = ap (quotas_up_to (outcome_of f asides v)) back ∙ quotas-of i (omega arith) in
          ap (λ x. count_below (is_marked x (quota_on (outcome_of f asides v) (i + 1)) (outcome_of f asides v).den w) (outcome_of f asides v).seats) start
          ∙ ap (λ x. count_below (is_marked (cumulative_quota f i) x (outcome_of f asides v).den w) (outcome_of f asides v).seats) (quota-of i l)
          ∙ ap (λ x. count_below (is_marked (cumulative_quota f i) (quota f (i + 1)) x w) (outcome_of f asides v).seats) den-of
          ∙ ap (count_below (is_marked (cumulative_quota f i) (quota f (i + 1)) (denominator f.setting) w)) seats_in-of
          ∙ ap (λ x. count_below (in_stretch (denominator f.setting) w (cumulative_quota f i) x) f.setting.seats) (sym (cumulative_quota-suc f i))
          ∙ sym (seats-suc f i w)

      seats_then : (i w : ℕ) → i < size f.setting → seats_at b.outcome (cluster_on b.outcome i) w ≡ seats f (cluster_at f.setting (place_of_number f.setting i)) w
      seats_then i w l =
          let j = cluster_at f.setting (place_of_number f.setting i) in
          let range = cluster_at-in_range f.setting (place_of_number f.setting i) h.setting (within i l) in
          let at : j - 1 + 1 ≡ j = omega (arith, range.0) in
          ap (λ x. seats_at b.outcome x w) (cluster-of i l ∙ sym at) ∙ seats_at-of (j - 1) w (omega (arith, range.0, range.1)) ∙ ap (λ x. seats f x w) at

      holds-of : (i : ℕ) → i < size f.setting → holds_on b i ≡ holds_after f g (place_of_number f.setting i) v
      unfolding holds_on holds_after
      holds-of i l =
          three (is_gone b i) (g (place_of_number f.setting i)) (reserve_rank_on b i) (reserve_rank f g (place_of_number f.setting i)) (seats_on b.outcome (cluster_on b.outcome i)) (seats f (cluster_at f.setting (place_of_number f.setting i)) v)
          (gone-of i l) (reserve-of i l) (own_seats i l)

      chance-of : (i : ℕ) → i < size f.setting → chance_on b i ≡ chance_after f g (place_of_number f.setting i)
      unfolding chance_on chance_after holds_at holds_after
      chance-of i l =
          let p = place_of_number f.setting i in
          ap (count_below (λ w. not (is_gone b i) && leb (reserve_rank_on b i) (seats_at b.outcome (cluster_on b.outcome i) w))) den-of
          ∙ count_below-same (λ w. not (is_gone b i) && leb (reserve_rank_on b i) (seats_at b.outcome (cluster_on b.outcome i) w)) (λ w. not (g p) && leb (reserve_rank f g p) (seats f (cluster_at f.setting p) w)) (denominator f.setting)
          (λ w _. three (is_gone b i) (g p) (reserve_rank_on b i) (reserve_rank f g p) (seats_at b.outcome (cluster_on b.outcome i) w) (seats f (cluster_at f.setting p) w) (gone-of i l) (reserve-of i l) (seats_then i w l))

      empty-of : empty_on b ≡ empty_after f g v
      unfolding empty_on empty_after
      empty-of =
          let counted = ap (count_below (holds_on b)) count-of
          ∙ count_below-same (holds_on b) (λ i. holds_after f g (place_of_number f.setting i) v) (size f.setting) holds-of
          ∙ count_below-moved (place_of_number f.setting) (number_at f.setting) (size f.setting) (λ p. holds_after f g p v) (numbers-places f.setting h.setting) in
          omega (arith, given-seats, counted)

      pub of_mechanism : IsOfMechanism f v (places_gone f.setting (record { outcome = outcome_of f asides v; gone = gone })) (record { outcome = outcome_of f asides v; gone = gone })
      of_mechanism = record { holds = holds-of; chance = chance-of; empty = empty-of }

-- The same of any board of it, and by names.

pub board-of_mechanism : (f : Profile) (asides : Asides) (v : ℕ) (b : BoardParts) → IsAssigned f → v < denominator f.setting → b.outcome ≡ outcome_of f asides v → IsOfMechanism f v (places_gone f.setting b) b
board-of_mechanism f asides v b h drawn e =
    let with_outcome : OutcomeParts → BoardParts = λ o. record { outcome = o; gone = b.gone } in
    let P : OutcomeParts → Type 0 = λ o. IsOfMechanism f v (places_gone f.setting (with_outcome o)) (with_outcome o) in
    subst P (sym e) (of_mechanism f asides v h drawn b.gone)

pub names-of_mechanism : (f : Profile) (asides : Asides) (v : ℕ) (names : List Text) → IsAssigned f → v < denominator f.setting
    → IsOfMechanism f v (places_named f.setting names) (board_after (fresh_board (outcome_of f asides v)) names)
names-of_mechanism f asides v names h drawn =
    let o = outcome_of f asides v in
    let b = board_after (fresh_board o) names in
    let s = f.setting in
    let is = of_mechanism f asides v h drawn b.gone in
    let agree : (q : ℕ) → q < size s → places_gone s b q ≡ places_named s names q = λ q ql.
    let i = number_at s q in
    let il = number_at-below s q h.setting ql in
    let within : i < count_of o = omega (arith, il, count-of f asides v) in
    gone-at (fresh_board o) names i within
    ∙ ap (λ x. x || among names (name_on o i)) (fresh-stays o i within)
    ∙ ap (among names) (name-of f asides v i il ∙ ap (name_at s) (place_of_number-at s q h.setting ql)) in
    record {
      holds = λ i l. is.holds i l ∙ holds-agree f (places_gone s b) (places_named s names) (place_of_number s i) v (place_of_number-within s i h.setting) (λ q ql e. agree q ql);
      chance = λ i l. is.chance i l ∙ chance-agree f (places_gone s b) (places_named s names) (place_of_number s i) (place_of_number-within s i h.setting) (λ q ql e. agree q ql);
      empty = is.empty ∙ empty-agree f (places_gone s b) (places_named s names) v agree;
    }

-- What is written of it.

flat_same : (g h : ℕ → Text) (n : ℕ) → ((i : ℕ) → i < n → g i ≡ h i) → flat_map g (numbers_below n) ≡ flat_map h (numbers_below n)
unfolding numbers_below
flat_same g h zero e = refl
flat_same g h (suc n) e =
    flat_map-append g (numbers_below n) (n ∷ [])
    ∙ ap (λ t. t ++ flat_map g (n ∷ [])) (flat_same g h n (λ i l. e i (omega arith)))
    ∙ ap (λ t. flat_map h (numbers_below n) ++ (t ++ [])) (e n (omega arith))
    ∙ sym (flat_map-append h (numbers_below n) (n ∷ []))

five_words : (name other : Text) (x y d e : ℕ) (g k h l : Bool) → name ≡ other → x ≡ y → d ≡ e → g ≡ k → h ≡ l
    → line_of (codes "final" ∷ name ∷ codes "chance" ∷ over x d ∷ cond g (codes "gone") (cond h (codes "yes") (codes "no")) ∷ [])
    ≡ line_of (codes "final" ∷ other ∷ codes "chance" ∷ over y e ∷ cond k (codes "gone") (cond l (codes "yes") (codes "no")) ∷ [])
five_words name other x y d e g k h l e1 e2 e3 e4 e5 = cc

pub text-of_mechanism : (f : Profile) (asides : Asides) (v : ℕ) (names : List Text) → IsAssigned f → v < denominator f.setting
    → board_text (board_after (fresh_board (outcome_of f asides v)) names) ≡ text_after f v (places_named f.setting names)
unfolding board_text final_lines final_words
text-of_mechanism f asides v names h drawn =
    let o = outcome_of f asides v in
    let b = board_after (fresh_board o) names in
    let s = f.setting in
    let g = places_named s names in
    let is = names-of_mechanism f asides v names h drawn in
    let gone : (i : ℕ) → i < size s → is_gone b i ≡ g (place_of_number s i) = λ i il.
    let within : i < count_of o = omega (arith, il, count-of f asides v) in
    gone-at (fresh_board o) names i within ∙ ap (λ x. x || among names (name_on o i)) (fresh-stays o i within) ∙ ap (among names) (name-of f asides v i il) in
    let lines = ap (λ n. flat_map (λ i. line_of (final_words b i)) (numbers_below n)) (count-of f asides v)
    ∙ flat_same (λ i. line_of (final_words b i)) (λ i. line_of (final_words_after f v g (place_of_number s i))) (size s)
    (λ i il. five_words (name_on o i) (name_at s (place_of_number s i)) (chance_on b i) (chance_after f g (place_of_number s i)) o.den (denominator s) (is_gone b i) (g (place_of_number s i)) (holds_on b i) (holds_after f g (place_of_number s i) v)
    (name-of f asides v i il) (is.chance i il) (den-of f asides v) (gone i il) (is.holds i il)) in
    ap (λ t. t ++ line_of (codes "empty" ∷ decimal (empty_on b) ∷ [])) lines
    ∙ ap (λ x. flat_map (λ i. line_of (final_words_after f v g (place_of_number s i))) (numbers_below (size s)) ++ line_of (codes "empty" ∷ decimal x ∷ [])) is.empty
