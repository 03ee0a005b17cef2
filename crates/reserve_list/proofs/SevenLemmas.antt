-- The outcome of seven applicants is ranked.
use Rattle.std.proofs.Common.{◌≡◌, ℕ, ◌*◌, ◌^◌, ◌<◌, ◌≤◌, Bool, true, false, not, ◌&&◌, ◌||◌, bytes_eq, eqb, leb, length, inl, inr, refl, sym, arith}
use Rattle.std.proofs.lemmas.Bool.{and_from, and_parts, both_ways, eq-eqb, eqb-true, leb-true, or_cases}
use Rattle.house_base.proofs.AmongLemmas.{bytes_eq-same}
use Rattle.house_model.specs.Report.{OutcomeParts}
use Rattle.peer_selection.specs.Counting.{all_below, count_below, sum_below}
use Rattle.peer_selection.proofs.CountingLemmas.{all_below-each}
use Rattle.reserve_list.specs.Board.{IsRanked, cluster_on, count_of, members_with, name_on, quota_on, quotas_up_to, rank_on, seats_on, seats_up_to}
use Rattle.reserve_list.specs.Seven.{seven}

-- The same by tests.

abbrev names_apart : OutcomeParts → ℕ → ℕ → Bool
names_apart o i k = eqb i k || not (bytes_eq (name_on o i) (name_on o k))

abbrev ranks_apart : OutcomeParts → ℕ → ℕ → Bool
ranks_apart o i k = eqb i k || not (eqb (cluster_on o i) (cluster_on o k) && eqb (rank_on o i) (rank_on o k))

abbrev is_placed : OutcomeParts → ℕ → Bool
is_placed o i = (leb 1 (cluster_on o i) && leb (cluster_on o i) (length o.cluster_rows)) && (leb 1 (rank_on o i) && leb (rank_on o i) (members_with o i))

no_more : (b : Bool) → not b ≡ true → b ≡ false
no_more true h = sym h
no_more false h = refl

-- both of two pairs of tests
parts : (o : OutcomeParts) (i : ℕ) → is_placed o i ≡ true → ((leb 1 (cluster_on o i) ≡ true) × (leb (cluster_on o i) (length o.cluster_rows) ≡ true)) × ((leb 1 (rank_on o i) ≡ true) × (leb (rank_on o i) (members_with o i) ≡ true))
parts o i h =
    let both = and_parts (leb 1 (cluster_on o i) && leb (cluster_on o i) (length o.cluster_rows)) (leb 1 (rank_on o i) && leb (rank_on o i) (members_with o i)) h in
    (and_parts (leb 1 (cluster_on o i)) (leb (cluster_on o i) (length o.cluster_rows)) both.0, and_parts (leb 1 (rank_on o i)) (leb (rank_on o i) (members_with o i)) both.1)

other_or_none : (i k : ℕ) (same : Bool) → (eqb i k || not same) ≡ true → same ≡ true → i ≡ k
other_or_none i k same h e =
    elim (or_cases (eqb i k) (not same) h) [ inl one ↦ eqb-true i k one | inr none ↦ absurd (both_ways same (no_more same none) e) ]

ranked-by_tests : (o : OutcomeParts) → count_of o < 2 ^ 32 → 1 ≤ o.den → seats_up_to o (length o.cluster_rows) < 2 ^ 63 → quotas_up_to o (length o.cluster_rows) ≡ o.seats * o.den
    → all_below (λ i. all_below (names_apart o i) (count_of o)) (count_of o) ≡ true
    → all_below (λ i. all_below (ranks_apart o i) (count_of o)) (count_of o) ≡ true
    → all_below (is_placed o) (count_of o) ≡ true → IsRanked o
ranked-by_tests o few den seats quotas names ranks placed =
    let n = count_of o in
    record {
      few = few;
      names_differ = λ i k il kl e. other_or_none i k (bytes_eq (name_on o i) (name_on o k)) (all_below-each (names_apart o i) n (all_below-each (λ i. all_below (names_apart o i) n) n names i il) k kl) (bytes_eq-same (name_on o i) (name_on o k) e);
      den = den;
      clusters = λ i il. let both = (parts o i (all_below-each (is_placed o) n placed i il)).0 in (leb-true 1 (cluster_on o i) both.0, leb-true (cluster_on o i) (length o.cluster_rows) both.1);
      seats = seats;
      quotas = quotas;
      ranks = λ i il. let both = (parts o i (all_below-each (is_placed o) n placed i il)).1 in (leb-true 1 (rank_on o i) both.0, leb-true (rank_on o i) (members_with o i) both.1);
      ranks_differ = λ i k il kl e r.
          other_or_none i k (eqb (cluster_on o i) (cluster_on o k) && eqb (rank_on o i) (rank_on o k)) (all_below-each (ranks_apart o i) n (all_below-each (λ i. all_below (ranks_apart o i) n) n ranks i il) k kl)
          (and_from (eqb (cluster_on o i) (cluster_on o k)) (eqb (rank_on o i) (rank_on o k)) (eq-eqb (cluster_on o i) (cluster_on o k) e) (eq-eqb (rank_on o i) (rank_on o k) r));
    }

pub seven-ranked : IsRanked seven
unfolding seven name_on cluster_on rank_on seats_on quota_on seats_up_to quotas_up_to sum_below count_below all_below
seven-ranked = ranked-by_tests seven (omega arith) (omega arith) (omega arith) refl refl refl refl
