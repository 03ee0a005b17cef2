-- Rows of an outcome from the totals of a profile.
use Rattle.std.proofs.Common.{◌≡◌, ℕ, zero, suc, ◌+◌, ◌-◌, ◌*◌, ◌^◌, ◌<◌, ◌≤◌, Bool, leb, min, List, [], ◌∷◌, ◌++◌, length, map, get_or, refl, sym, ap, ◌∙◌, arith}
use Rattle.std.specs.List.{sum_by}
use Rattle.std.proofs.lemmas.List.{get_or-map, map-append}
use Rattle.house_base.specs.declared.limits.TheConstants.{DOLLAR, MOST_SEATS}
use Rattle.house_base.specs.Setting.{Setting, IsSetting, StandInTurn, size, cluster_at, name_at}
use Rattle.house_base.proofs.Settings.{cluster_at-read, length-StandInTurn}
use Rattle.peer_selection.specs.Counting.{count_below, sum_below, numbers_below}
use Rattle.peer_selection.specs.Profile.{Profile, Pairs, Points, row, row_points, cents, score, quota, cumulative_quota, cluster_size, rank}
use Rattle.peer_selection.proofs.CountingLemmas.{sum_below-add_one, sum_below-longer, sum_below-same, numbers_below-add_one}
use Rattle.peer_selection.specs.Laws.{IsAssigned}
use Rattle.peer_selection.specs.Marks.{marks}
use Rattle.peer_selection.proofs.MarkLemmas.{seats-marks, chance-marks_of}
use Rattle.peer_selection.proofs.ClusterLemmas.{cluster_at-in_range}
use Rattle.house_model.specs.declared.outcome.ClusterRow.{ClusterRow}
use Rattle.house_model.specs.declared.outcome.ApplicantRow.{ApplicantRow}
use Rattle.house_model.specs.Report.{OutcomeParts, applicant_row, cluster_row, cluster_rows_of, applicant_rows_of, outcome_of}
use Rattle.seat_quota.specs.Totals.{Shares, IsTotals, HoldsTotals}
use Rattle.house_base.specs.declared.answer.Asides.{Asides}
use Rattle.house_base.specs.declared.limits.TheConstants.{MOST_APPLICANTS}
use Rattle.std.proofs.lemmas.List.Sums.{sum_by_push}
use Rattle.std.proofs.Math.Nat.{mul-le-mul, mul-le-mul_left}
use Rattle.house_base.specs.declared.plan.Owner.{Owner}
use Rattle.house_base.specs.declared.plan.Person.{Person}
use Rattle.peer_selection.specs.Profile.{denominator, cluster_cents}
use Rattle.peer_selection.specs.Lottery.{seats, filled, empty_seats, selected}
use Rattle.peer_selection.proofs.CountingLemmas.{sum_below-times, get_or-numbers_below, length-numbers_below}
use Rattle.peer_selection.proofs.SeatLemmas.{cumulative_quota-suc}
use Rattle.house_model.specs.Report.{person_at}
use Rattle.std.specs.List.{slice_get}
use Rattle.std.specs.Prelude.{Some}

-- a row of zeros, which stands for one that is not there
abbrev pub no_row : ClusterRow
no_row = record { cents = 0; quota = 0; seats = 0; filled = 0 }

-- an applicant's cluster is one of the setting's
pub person-in_range : (s : Setting) (p : ℕ) (a : Person) → IsSetting s → p < size s → slice_get s.people p ≡ Some a → (1 ≤ a.cluster) × (a.cluster ≤ s.clusters)
person-in_range s p a h l at =
    let range = cluster_at-in_range s p h l in
    let e = cluster_at-read s p a at in
    (omega (arith, e, range.0), omega (arith, e, range.1))

owners-some : (owners : List Owner) (n : ℕ) → StandInTurn 0 owners n → 1 ≤ n → 1 ≤ length owners
owners-some [] n stand some = absurd (omega (arith, stand))
owners-some (owner ∷ owners) n stand some = omega arith

-- the denominator is no less than a dollar
pub den-some : (s : Setting) → IsSetting s → 1 ≤ denominator s
unfolding denominator
den-some s h = omega (arith, owners-some s.owners (size s) h.in_turn h.some)

den-le : (s : Setting) → IsSetting s → denominator s ≤ MOST_APPLICANTS * DOLLAR
unfolding denominator
den-le s h = omega (arith, length-StandInTurn 0 s.owners (size s) h.own h.in_turn, h.few)

-- the quotas of the first clusters
pub quotas-from : (f : Profile) (t : Shares) (i : ℕ) → IsTotals f t → i ≤ f.setting.clusters → f.setting.seats * sum_below (λ j. get_or t.clusters j 0) i ≡ cumulative_quota f i
unfolding cumulative_quota quota
quotas-from f t i is l =
    ap (λ x. f.setting.seats * x) (sum_below-same (λ j. get_or t.clusters j 0) (λ j. cluster_cents f (j + 1)) i (λ j jl. is.cents j (omega arith)))
    ∙ sym (sum_below-times f.setting.seats (λ j. cluster_cents f (j + 1)) i)

-- the quotas of the clusters up to one are at most the seats over the denominator
pub quotas-within : (s : Setting) (t : Shares) (i : ℕ) → HoldsTotals s t → i < s.clusters →
    s.seats * sum_below (λ j. get_or t.clusters j 0) i + s.seats * get_or t.clusters i 0 ≤ s.seats * denominator s
quotas-within s t i held l =
    let step = sum_below-add_one (λ j. get_or t.clusters j 0) i in
    let longer = sum_below-longer (λ j. get_or t.clusters j 0) (i + 1) s.clusters (omega arith) in
    let within = mul-le-mul_left {m = sum_below (λ j. get_or t.clusters j 0) i + get_or t.clusters i 0} {n = denominator s} s.seats (omega (arith, held.whole, held.den)) in
    omega (arith, within)

pub line-fits : (s : Setting) → IsSetting s → s.seats * denominator s < 2 ^ 63
line-fits s h =
    let all = mul-le-mul {n₁ = s.seats} {m₁ = denominator s} {n₂ = MOST_SEATS} {m₂ = MOST_APPLICANTS * DOLLAR} h.seats_in_range.1 (den-le s h) in
    omega (arith, all)

-- the row with these numbers
abbrev pub row_with : ℕ → ℕ → ℕ → ℕ → ClusterRow
row_with cents quota seats filled = record { cents = cents; quota = quota; seats = seats; filled = filled }

same_cluster_row : (a b c d w x y z : ℕ) → a ≡ w → b ≡ x → c ≡ y → d ≡ z → row_with a b c d ≡ row_with w x y z
same_cluster_row a b c d w x y z e f g h = cc

pub cluster_row-from : (f : Profile) (t : Shares) (i v before cents quota seats filled : ℕ) → IsTotals f t → i < f.setting.clusters →
    before ≡ f.setting.seats * sum_below (λ j. get_or t.clusters j 0) i → cents ≡ get_or t.clusters i 0 → quota ≡ f.setting.seats * cents →
    seats ≡ marks before quota (denominator f.setting) v → 1 ≤ denominator f.setting → before + quota ≤ f.setting.seats * denominator f.setting →
    filled ≡ min seats (cluster_size f.setting (i + 1)) →
    row_with cents quota seats filled ≡ cluster_row f v (i + 1)
unfolding cluster_row filled quota
cluster_row-from f t i v before cents quota seats filled is l is_before is_cents is_quota is_seats some within is_filled =
    let d = denominator f.setting in
    let cents_are : cents ≡ cluster_cents f (i + 1) = is_cents ∙ is.cents i l in
    let quota_is : quota ≡ f.setting.seats * cluster_cents f (i + 1) = is_quota ∙ ap (λ x. f.setting.seats * x) cents_are in
    let from : before ≡ cumulative_quota f i = is_before ∙ quotas-from f t i is (omega arith) in
    let to : before + quota ≡ cumulative_quota f (suc i) = omega (arith, from, quota_is, cumulative_quota-suc f i) in
    let own_quota : quota ≡ Rattle.peer_selection.specs.Profile.quota f (i + 1) = quota_is in
    let seats_are = is_seats ∙ (ap (λ x. marks x quota d v) from ∙ (ap (λ x. marks (cumulative_quota f i) x d v) own_quota
    ∙ sym (seats-marks f i v some (omega (arith, to, within))))) in
    same_cluster_row cents quota seats filled (cluster_cents f (i + 1)) (f.setting.seats * cluster_cents f (i + 1)) (Rattle.peer_selection.specs.Lottery.seats f (i + 1) v) (min (Rattle.peer_selection.specs.Lottery.seats f (i + 1) v) (cluster_size f.setting (i + 1)))
    cents_are quota_is seats_are (is_filled ∙ ap (λ x. min x (cluster_size f.setting (i + 1))) seats_are)

-- one more row
pub rows_more : {A : Type 0} (g : ℕ → A) (n : ℕ) (old new : List A) (row : A) → old ≡ map g (numbers_below n) → row ≡ g n → new ≡ old ++ row ∷ [] → new ≡ map g (numbers_below (n + 1))
rows_more g n old new row h e is =
    is ∙ (ap (λ xs. xs ++ row ∷ []) h ∙ (ap (λ r. map g (numbers_below n) ++ r ∷ []) e
    ∙ sym (ap (map g) (numbers_below-add_one n) ∙ map-append g (numbers_below n) (n ∷ []))))

-- the row of a cluster
pub cluster_rows-at : (f : Profile) (v j : ℕ) → 1 ≤ j → j ≤ f.setting.clusters → get_or (cluster_rows_of f v) (j - 1) no_row ≡ cluster_row f v j
unfolding cluster_rows_of
cluster_rows-at f v j h l =
    let n = f.setting.clusters in
    get_or-map (λ i. cluster_row f v (i + 1)) (numbers_below n) (j - 1) 0 no_row (omega (arith, length-numbers_below n))
    ∙ (ap (λ i. cluster_row f v (i + 1)) (get_or-numbers_below n (j - 1) 0 (omega arith)) ∙ ap (cluster_row f v) (let e : j - 1 + 1 ≡ j = omega arith in e))

pub selected-from : (f : Profile) (v place cluster rank : ℕ) (rows : List ClusterRow) → rows ≡ cluster_rows_of f v → cluster ≡ cluster_at f.setting place → 1 ≤ cluster → cluster ≤ f.setting.clusters →
    rank ≡ Rattle.peer_selection.specs.Profile.rank f place → leb rank (get_or rows (cluster - 1) no_row).seats ≡ selected f place v
unfolding selected cluster_row
selected-from f v place cluster rank rows is e h l r =
    ap (λ xs. leb rank (get_or xs (cluster - 1) no_row).seats) is
    ∙ (ap (λ row. leb rank row.seats) (cluster_rows-at f v cluster h l)
    ∙ (ap (λ j. leb rank (Rattle.peer_selection.specs.Lottery.seats f j v)) e ∙ ap (λ x. leb x (Rattle.peer_selection.specs.Lottery.seats f (cluster_at f.setting place) v)) r))

-- the row of an applicant with these parts
abbrev pub applicant_with : List ℕ → List ℕ → ℕ → ℕ → ℕ → ℕ → Bool → ApplicantRow
applicant_with name person cluster rank cents chance chosen = record { name = name; person = person; cluster = cluster; rank = rank; cents = cents; chance = chance; chosen = chosen }

same_applicant_row : (a b : List ℕ) (c d e g : ℕ) (x : Bool) (a' b' : List ℕ) (c' d' e' g' : ℕ) (x' : Bool) → a ≡ a' → b ≡ b' → c ≡ c' → d ≡ d' → e ≡ e' → g ≡ g' → x ≡ x' →
    applicant_with a b c d e g x ≡ applicant_with a' b' c' d' e' g' x'
same_applicant_row a b c d e g x a' b' c' d' e' g' x' h1 h2 h3 h4 h5 h6 h7 = cc

-- the chance, counted over the draws
pub chance-from : (f : Profile) (v place cluster rank den chance : ℕ) (rows : List ClusterRow) → IsAssigned f → place < size f.setting → rows ≡ cluster_rows_of f v →
    1 ≤ cluster → cluster ≤ f.setting.clusters → cluster ≡ cluster_at f.setting place → rank ≡ Rattle.peer_selection.specs.Profile.rank f place → den ≡ denominator f.setting →
    ((start : ℕ) → chance ≡ count_below (λ v. leb rank (marks start (get_or rows (cluster - 1) no_row).quota den v)) den) → chance ≡ Rattle.peer_selection.specs.Lottery.chance f place
unfolding cluster_row
chance-from f v place cluster rank den chance rows is l rows_are low high c_is r_is d_is counted =
    let start = cumulative_quota f (cluster_at f.setting place - 1) in
    let quota_is : (get_or rows (cluster - 1) no_row).quota ≡ Rattle.peer_selection.specs.Profile.quota f (cluster_at f.setting place) =
    ap (λ xs. (get_or xs (cluster - 1) no_row).quota) rows_are ∙ ap (λ (row : ClusterRow). row.quota) (cluster_rows-at f v cluster low high) ∙ ap (Rattle.peer_selection.specs.Profile.quota f) c_is in
    counted start
    ∙ ap (λ q. count_below (λ v. leb rank (marks start q den v)) den) quota_is
    ∙ ap (λ r. count_below (λ v. leb r (marks start (Rattle.peer_selection.specs.Profile.quota f (cluster_at f.setting place)) den v)) den) r_is
    ∙ ap (λ d. count_below (λ v. leb (Rattle.peer_selection.specs.Profile.rank f place) (marks start (Rattle.peer_selection.specs.Profile.quota f (cluster_at f.setting place)) d v)) d) d_is
    ∙ sym (chance-marks_of f place is l)

pub applicant_row-from : (f : Profile) (v place : ℕ) (name person : List ℕ) (cluster rank cents den chance : ℕ) (rows : List ClusterRow) → IsAssigned f → place < size f.setting → rows ≡ cluster_rows_of f v →
    1 ≤ cluster → cluster ≤ f.setting.clusters → name ≡ name_at f.setting place → person ≡ person_at f.setting place → cluster ≡ cluster_at f.setting place →
    rank ≡ Rattle.peer_selection.specs.Profile.rank f place → cents ≡ score f place → den ≡ denominator f.setting →
    ((start : ℕ) → chance ≡ count_below (λ v. leb rank (marks start (get_or rows (cluster - 1) no_row).quota den v)) den) →
    applicant_with name person cluster rank cents chance (leb rank (get_or rows (cluster - 1) no_row).seats) ≡ applicant_row f v place
unfolding applicant_row
applicant_row-from f v place name person cluster rank cents den chance rows assigned l is low high h1 h2 h3 h4 h5 h6 counted =
    same_applicant_row name person cluster rank cents chance (leb rank (get_or rows (cluster - 1) no_row).seats)
    (name_at f.setting place) (person_at f.setting place) (cluster_at f.setting place) (Rattle.peer_selection.specs.Profile.rank f place) (score f place) (Rattle.peer_selection.specs.Lottery.chance f place) (selected f place v)
    h1 h2 h3 h4 h5 (chance-from f v place cluster rank den chance rows assigned l is low high h3 h4 h6 counted) (selected-from f v place cluster rank rows is h3 low high h4)

-- the outcome with these parts
abbrev pub parts_with : ℕ → ℕ → ℕ → Asides → ℕ → ℕ → ℕ → List ClusterRow → List ApplicantRow → ℕ → OutcomeParts
parts_with seats clusters reviews asides draw den persons cluster_rows applicant_rows empty = record {
  seats = seats;
  clusters = clusters;
  reviews = reviews;
  asides = asides;
  draw = draw;
  den = den;
  persons = persons;
  cluster_rows = cluster_rows;
  applicant_rows = applicant_rows;
  empty = empty;
}

-- a sum over rows that stand for the numbers below n
sum_rows : {A : Type 0} (g : A → ℕ) (f : ℕ → A) (n : ℕ) → sum_by g (map f (numbers_below n)) ≡ sum_below (λ i. g (f i)) n
unfolding numbers_below sum_below
sum_rows g f zero = refl
sum_rows g f (suc n) =
    ap (sum_by g) (map-append f (numbers_below n) (n ∷ [])) ∙ (sum_by_push g (map f (numbers_below n)) (f n) ∙ ap (λ x. x + g (f n)) (sum_rows g f n))

pub outcome_of-from : (f : Profile) (asides : Asides) (v seats clusters reviews den persons empty : ℕ) (cluster_rows : List ClusterRow) (applicant_rows : List ApplicantRow) →
    seats ≡ f.setting.seats → clusters ≡ f.setting.clusters → reviews ≡ f.setting.reviews → den ≡ denominator f.setting → persons ≡ length f.setting.owners →
    cluster_rows ≡ cluster_rows_of f v → applicant_rows ≡ applicant_rows_of f v → empty ≡ empty_seats f v →
    parts_with seats clusters reviews asides v den persons cluster_rows applicant_rows empty ≡ outcome_of f asides v
unfolding outcome_of
outcome_of-from f asides v seats clusters reviews den persons empty cluster_rows applicant_rows h1 h2 h3 h4 h5 h6 h7 h8 = cc

pub empty-from : (f : Profile) (v : ℕ) (rows : List ClusterRow) → rows ≡ cluster_rows_of f v → sum_by (λ row. row.seats - row.filled) rows ≡ empty_seats f v
unfolding cluster_rows_of empty_seats cluster_row
empty-from f v rows is =
    ap (sum_by (λ row. row.seats - row.filled)) is ∙ sum_rows (λ row. row.seats - row.filled) (λ i. cluster_row f v (i + 1)) f.setting.clusters
