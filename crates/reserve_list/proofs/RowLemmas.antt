-- The rows of an outcome, read at a register number or a cluster.
use Rattle.std.proofs.Common.{◌≡◌, ◌≢◌, ℕ, ◌+◌, ◌-◌, ◌<◌, ◌≤◌, ◌&&◌, eqb, ltb, List, [], length, get_or, sym, ap, ◌∙◌, arith}
use Rattle.std.specs.Option.{option_map_or}
use Rattle.std.proofs.lemmas.Bool.{and_left, eq-eqb, ne_eqb}
use Rattle.std.proofs.lemmas.Option.{slice_get-get_or}
use Rattle.house_model.specs.Report.{OutcomeParts}
use Rattle.house_model.specs.declared.outcome.ApplicantRow.{ApplicantRow}
use Rattle.house_model.specs.declared.outcome.ClusterRow.{ClusterRow}
use Rattle.reserve_list.specs.Board.{cluster_on, count_of, is_behind, name_on, quota_on, rank_on, seats_on, seats_up_to}
use Rattle.peer_selection.proofs.CountingLemmas.{sum_below-add_one, sum_below-longer, sum_below-zero}

pub name-read : (o : OutcomeParts) (rows : List ApplicantRow) (i : ℕ) (d : ApplicantRow) → rows ≡ o.applicant_rows → i < count_of o → (get_or rows i d).name ≡ name_on o i
unfolding name_on
name-read o rows i d e l = ap (λ xs. (get_or xs i d).name) e ∙ sym (ap (λ r. option_map_or (λ row. row.name) r []) (slice_get-get_or o.applicant_rows i d l))

pub cluster-read : (o : OutcomeParts) (rows : List ApplicantRow) (i : ℕ) (d : ApplicantRow) → rows ≡ o.applicant_rows → i < count_of o → (get_or rows i d).cluster ≡ cluster_on o i
unfolding cluster_on
cluster-read o rows i d e l = ap (λ xs. (get_or xs i d).cluster) e ∙ sym (ap (λ r. option_map_or (λ row. row.cluster) r 0) (slice_get-get_or o.applicant_rows i d l))

pub rank-read : (o : OutcomeParts) (rows : List ApplicantRow) (i : ℕ) (d : ApplicantRow) → rows ≡ o.applicant_rows → i < count_of o → (get_or rows i d).rank ≡ rank_on o i
unfolding rank_on
rank-read o rows i d e l = ap (λ xs. (get_or xs i d).rank) e ∙ sym (ap (λ r. option_map_or (λ row. row.rank) r 0) (slice_get-get_or o.applicant_rows i d l))

-- at the index of a cluster

pub seats-read : (o : OutcomeParts) (rows : List ClusterRow) (j : ℕ) (d : ClusterRow) → rows ≡ o.cluster_rows → 1 ≤ j → j ≤ length o.cluster_rows → (get_or rows (j - 1) d).seats ≡ seats_on o j
unfolding seats_on
seats-read o rows j d e h l = ap (λ xs. (get_or xs (j - 1) d).seats) e ∙ sym (ap (λ r. option_map_or (λ row. row.seats) r 0) (slice_get-get_or o.cluster_rows (j - 1) d (omega arith)))

pub quota-read : (o : OutcomeParts) (rows : List ClusterRow) (j : ℕ) (d : ClusterRow) → rows ≡ o.cluster_rows → 1 ≤ j → j ≤ length o.cluster_rows → (get_or rows (j - 1) d).quota ≡ quota_on o j
unfolding quota_on
quota-read o rows j d e h l = ap (λ xs. (get_or xs (j - 1) d).quota) e ∙ sym (ap (λ r. option_map_or (λ row. row.quota) r 0) (slice_get-get_or o.cluster_rows (j - 1) d (omega arith)))

-- two rows, one behind the other

pub behind-read_here : (o : OutcomeParts) (i k : ℕ) (a b : ApplicantRow) → a.cluster ≡ cluster_on o i → a.rank ≡ rank_on o i → b.cluster ≡ cluster_on o k → b.rank ≡ rank_on o k
    → a.cluster ≡ b.cluster → ltb a.rank b.rank ≡ is_behind o i k
behind-read_here o i k a b ac ar bc br same =
    ap (λ r. ltb r b.rank) ar ∙ ap (ltb (rank_on o i)) br ∙ sym (ap (λ x. x && ltb (rank_on o i) (rank_on o k)) (eq-eqb (cluster_on o i) (cluster_on o k) (sym ac ∙ same ∙ bc)))

pub behind-read : (o : OutcomeParts) (i k : ℕ) (a b : ApplicantRow) → a.cluster ≡ cluster_on o i → b.cluster ≡ cluster_on o k → a.cluster ≢ b.cluster → eqb a.cluster b.cluster ≡ is_behind o i k
behind-read o i k a b ac bc other =
    ne_eqb a.cluster b.cluster other
    ∙ sym (and_left (eqb (cluster_on o i) (cluster_on o k)) (ltb (rank_on o i) (rank_on o k)) (ne_eqb (cluster_on o i) (cluster_on o k) (λ e. other (ac ∙ e ∙ sym bc))))

-- the seats of the clusters, one after another

pub seats_up_to-none : (o : OutcomeParts) → seats_up_to o 0 ≡ 0
unfolding seats_up_to
seats_up_to-none o = sum_below-zero (λ i. seats_on o (i + 1))

pub seats_up_to-more : (o : OutcomeParts) (rows : List ClusterRow) (i : ℕ) (d : ClusterRow) → rows ≡ o.cluster_rows → i < length o.cluster_rows → seats_up_to o (i + 1) ≡ seats_up_to o i + (get_or rows i d).seats
unfolding seats_up_to
seats_up_to-more o rows i d e l =
    let at = ap (λ x. (get_or rows x d).seats) (let e : i + 1 - 1 ≡ i = omega arith in e) in
    omega (arith, sum_below-add_one (λ i. seats_on o (i + 1)) i, seats-read o rows (i + 1) d e (omega arith) (omega arith), at)

pub seats_up_to-within : (o : OutcomeParts) (i : ℕ) → i ≤ length o.cluster_rows → seats_up_to o i ≤ seats_up_to o (length o.cluster_rows)
unfolding seats_up_to
seats_up_to-within o i l = sum_below-longer (λ i. seats_on o (i + 1)) i (length o.cluster_rows) l
