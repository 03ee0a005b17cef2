-- Profiles of one setting that agree on its places have one outcome.
use Rattle.std.proofs.Common.{◌≡◌, ℕ, suc, ◌+◌, ◌-◌, ◌*◌, ◌%◌, ◌<◌, Bool, ◌&&◌, ◌||◌, cond, eqb, ltb, leb, min, List, [], ◌∷◌, length, map, get_or, refl, ap, ◌∙◌, arith, filter, position}
use Rattle.std.specs.Option.{option_map_or}
use Rattle.std.proofs.lemmas.List.{get_or-map, length-map}
use Rattle.house_base.specs.Setting.{Setting, size, cluster_at, name_at}
use Rattle.house_base.specs.declared.answer.Asides.{Asides}
use Rattle.peer_selection.specs.Counting.{count_below, numbers_below}
use Rattle.peer_selection.specs.Split.{cents_at}
use Rattle.peer_selection.specs.Profile.{Profile, Pairs, Points, row, row_points, cents, score, quota, cumulative_quota, cluster_size, rank, profile_on}
use Rattle.peer_selection.proofs.CountingLemmas.{count_below-same, sum_below-same}
use Rattle.peer_selection.specs.Profile.{denominator, cluster_cents}
use Rattle.peer_selection.specs.Lottery.{seats, filled, empty_seats, selected, chance}
use Rattle.peer_selection.proofs.RowLemmas.{row-below}
use Rattle.house_model.specs.Report.{place_of_number}
use Rattle.house_model.specs.Report.{applicant_row, cluster_row, cluster_rows_of, applicant_rows_of, outcome_of}
use Rattle.house_model.specs.Report.{person_at}
use Rattle.call_outcome.proofs.OutcomeLemmas.{parts_with, row_with, applicant_with}

filter-same : (t u : ℕ → Bool) (xs : List ℕ) → ((k : ℕ) → k < length xs → t (get_or xs k 0) ≡ u (get_or xs k 0)) → filter t xs ≡ filter u xs
filter-same t u [] h = refl
filter-same t u (x ∷ xs) h =
    ap (λ b. cond b (x ∷ filter t xs) (filter t xs)) (h 0 (omega arith))
    ∙ ap (λ ys. cond (u x) (x ∷ ys) ys) (filter-same t u xs (λ k l. h (suc k) (omega arith)))

map-same : {A : Type 0} (f g : ℕ → A) (xs : List ℕ) → ((k : ℕ) → k < length xs → f (get_or xs k 0) ≡ g (get_or xs k 0)) → map f xs ≡ map g xs
map-same f g [] h = refl
map-same f g (x ∷ xs) h = ap (λ y. y ∷ map f xs) (h 0 (omega arith)) ∙ ap (λ ys. g x ∷ ys) (map-same f g xs (λ k l. h (suc k) (omega arith)))

-- pairs and points that agree below the size of a setting
abbrev AgreeOn : Setting → Pairs → Points → Pairs → Points → Type 0
AgreeOn s p q p' q' = ((r k : ℕ) → r < size s → k < size s → p r k ≡ p' r k) × ((r k : ℕ) → r < size s → k < size s → q r k ≡ q' r k)

row-same : (s : Setting) (p : Pairs) (q : Points) (p' : Pairs) (q' : Points) (r : ℕ) → AgreeOn s p q p' q' → r < size s → row (profile_on s p q) r ≡ row (profile_on s p' q') r
unfolding row
row-same s p q p' q' r h l =
    let n = size s in
    let g = λ (d : ℕ). (r + 1 + d) % n in
    filter-same (p r) (p' r) (map g (numbers_below n)) (λ k kl.
    h.0 r (get_or (map g (numbers_below n)) k 0) l
    (let within : k < length (numbers_below n) = omega (arith, length-map (numbers_below n) g) in
    omega (arith, get_or-map g (numbers_below n) k 0 0 within)))

row_points-same : (s : Setting) (p : Pairs) (q : Points) (p' : Pairs) (q' : Points) (r : ℕ) → AgreeOn s p q p' q' → r < size s → row_points (profile_on s p q) r ≡ row_points (profile_on s p' q') r
unfolding row_points
row_points-same s p q p' q' r h l =
    let xs = row (profile_on s p q) r in
    map-same (q r) (q' r) xs (λ k kl. h.1 r (get_or xs k 0) l (row-below (profile_on s p q) r l k 0 kl)) ∙ ap (map (q' r)) (row-same s p q p' q' r h l)

cents-same : (s : Setting) (p : Pairs) (q : Points) (p' : Pairs) (q' : Points) (r k : ℕ) → AgreeOn s p q p' q' → r < size s → cents (profile_on s p q) r k ≡ cents (profile_on s p' q') r k
unfolding cents
cents-same s p q p' q' r k h l =
    ap (λ xs. option_map_or (cents_at xs) (position (λ x. eqb x k) (row (profile_on s p q) r)) 0) (row_points-same s p q p' q' r h l)
    ∙ ap (λ xs. option_map_or (cents_at (row_points (profile_on s p' q') r)) (position (λ x. eqb x k) xs) 0) (row-same s p q p' q' r h l)

score-same : (s : Setting) (p : Pairs) (q : Points) (p' : Pairs) (q' : Points) → AgreeOn s p q p' q' → (k : ℕ) → score (profile_on s p q) k ≡ score (profile_on s p' q') k
unfolding score
score-same s p q p' q' h k = sum_below-same (λ r. cents (profile_on s p q) r k) (λ r. cents (profile_on s p' q') r k) (size s) (λ r l. cents-same s p q p' q' r k h l)

-- From the scores on, the profiles need not be looked into.
abbrev ScoreOne : Profile → Profile → Type 0
ScoreOne f g = (k : ℕ) → score f k ≡ score g k

rank-same : (s : Setting) (p : Pairs) (q : Points) (p' : Pairs) (q' : Points) (k : ℕ) → ScoreOne (profile_on s p q) (profile_on s p' q') → rank (profile_on s p q) k ≡ rank (profile_on s p' q') k
unfolding rank
rank-same s p q p' q' k h =
    let test = λ (a b x : ℕ). eqb (cluster_at s x) (cluster_at s k) && (ltb a b || (eqb b a && ltb x k)) in
    ap (λ n. 1 + n) (count_below-same (λ x. test (score (profile_on s p q) k) (score (profile_on s p q) x) x) (λ x. test (score (profile_on s p' q') k) (score (profile_on s p' q') x) x) (size s)
    (λ x l. ap (λ b. test (score (profile_on s p q) k) b x) (h x) ∙ ap (λ a. test a (score (profile_on s p' q') x) x) (h k)))

cluster_cents-same : (s : Setting) (p : Pairs) (q : Points) (p' : Pairs) (q' : Points) (j : ℕ) → ScoreOne (profile_on s p q) (profile_on s p' q') → cluster_cents (profile_on s p q) j ≡ cluster_cents (profile_on s p' q') j
unfolding cluster_cents
cluster_cents-same s p q p' q' j h =
    sum_below-same (λ k. cond (eqb (cluster_at s k) j) (score (profile_on s p q) k) 0) (λ k. cond (eqb (cluster_at s k) j) (score (profile_on s p' q') k) 0) (size s)
    (λ k l. ap (λ x. cond (eqb (cluster_at s k) j) x 0) (h k))

quota-same : (s : Setting) (p : Pairs) (q : Points) (p' : Pairs) (q' : Points) (j : ℕ) → ScoreOne (profile_on s p q) (profile_on s p' q') → quota (profile_on s p q) j ≡ quota (profile_on s p' q') j
unfolding quota
quota-same s p q p' q' j h = ap (λ x. s.seats * x) (cluster_cents-same s p q p' q' j h)

cumulative-same : (s : Setting) (p : Pairs) (q : Points) (p' : Pairs) (q' : Points) (j : ℕ) → ScoreOne (profile_on s p q) (profile_on s p' q') → cumulative_quota (profile_on s p q) j ≡ cumulative_quota (profile_on s p' q') j
unfolding cumulative_quota
cumulative-same s p q p' q' j h = sum_below-same (λ i. quota (profile_on s p q) (i + 1)) (λ i. quota (profile_on s p' q') (i + 1)) j (λ i l. quota-same s p q p' q' (i + 1) h)

seats-same : (s : Setting) (p : Pairs) (q : Points) (p' : Pairs) (q' : Points) (j v : ℕ) → ScoreOne (profile_on s p q) (profile_on s p' q') → seats (profile_on s p q) j v ≡ seats (profile_on s p' q') j v
unfolding seats
seats-same s p q p' q' j v h =
    let points = λ (a b : ℕ). count_below (λ t. leb a (v + t * denominator s) && ltb (v + t * denominator s) b) s.seats in
    ap (λ a. points a (cumulative_quota (profile_on s p q) j)) (cumulative-same s p q p' q' (j - 1) h)
    ∙ ap (λ b. points (cumulative_quota (profile_on s p' q') (j - 1)) b) (cumulative-same s p q p' q' j h)

filled-same : (s : Setting) (p : Pairs) (q : Points) (p' : Pairs) (q' : Points) (j v : ℕ) → ScoreOne (profile_on s p q) (profile_on s p' q') → filled (profile_on s p q) j v ≡ filled (profile_on s p' q') j v
unfolding filled
filled-same s p q p' q' j v h = ap (λ x. min x (cluster_size s j)) (seats-same s p q p' q' j v h)

empty-same : (s : Setting) (p : Pairs) (q : Points) (p' : Pairs) (q' : Points) (v : ℕ) → ScoreOne (profile_on s p q) (profile_on s p' q') → empty_seats (profile_on s p q) v ≡ empty_seats (profile_on s p' q') v
unfolding empty_seats
empty-same s p q p' q' v h =
    let f = profile_on s p q in
    let g = profile_on s p' q' in
    sum_below-same (λ i. seats f (i + 1) v - filled f (i + 1) v) (λ i. seats g (i + 1) v - filled g (i + 1) v) s.clusters
    (λ i l. ap (λ x. x - filled f (i + 1) v) (seats-same s p q p' q' (i + 1) v h) ∙ ap (λ x. seats g (i + 1) v - x) (filled-same s p q p' q' (i + 1) v h))

cluster_row-same : (s : Setting) (p : Pairs) (q : Points) (p' : Pairs) (q' : Points) (v j : ℕ) → ScoreOne (profile_on s p q) (profile_on s p' q') → cluster_row (profile_on s p q) v j ≡ cluster_row (profile_on s p' q') v j
unfolding cluster_row
cluster_row-same s p q p' q' v j h =
    let f = profile_on s p q in
    let g = profile_on s p' q' in
    ap (λ x. row_with x (quota f j) (seats f j v) (filled f j v)) (cluster_cents-same s p q p' q' j h)
    ∙ (ap (λ x. row_with (cluster_cents g j) x (seats f j v) (filled f j v)) (quota-same s p q p' q' j h)
    ∙ (ap (λ x. row_with (cluster_cents g j) (quota g j) x (filled f j v)) (seats-same s p q p' q' j v h)
    ∙ ap (λ x. row_with (cluster_cents g j) (quota g j) (seats g j v) x) (filled-same s p q p' q' j v h)))

selected-same : (s : Setting) (p : Pairs) (q : Points) (p' : Pairs) (q' : Points) (k v : ℕ) → ScoreOne (profile_on s p q) (profile_on s p' q') → selected (profile_on s p q) k v ≡ selected (profile_on s p' q') k v
unfolding selected
selected-same s p q p' q' k v h =
    ap (λ x. leb x (seats (profile_on s p q) (cluster_at s k) v)) (rank-same s p q p' q' k h)
    ∙ ap (λ x. leb (rank (profile_on s p' q') k) x) (seats-same s p q p' q' (cluster_at s k) v h)

chance-same : (s : Setting) (p : Pairs) (q : Points) (p' : Pairs) (q' : Points) (k : ℕ) → ScoreOne (profile_on s p q) (profile_on s p' q') → chance (profile_on s p q) k ≡ chance (profile_on s p' q') k
unfolding chance
chance-same s p q p' q' k h = count_below-same (selected (profile_on s p q) k) (selected (profile_on s p' q') k) (denominator s) (λ v l. selected-same s p q p' q' k v h)

applicant_row-same : (s : Setting) (p : Pairs) (q : Points) (p' : Pairs) (q' : Points) (v k : ℕ) → ScoreOne (profile_on s p q) (profile_on s p' q') → applicant_row (profile_on s p q) v k ≡ applicant_row (profile_on s p' q') v k
unfolding applicant_row
applicant_row-same s p q p' q' v k h =
    let f = profile_on s p q in
    let g = profile_on s p' q' in
    let row = applicant_with (name_at s k) (person_at s k) (cluster_at s k) in
    ap (λ x. row x (score f k) (chance f k) (selected f k v)) (rank-same s p q p' q' k h)
    ∙ (ap (λ x. row (rank g k) x (chance f k) (selected f k v)) (h k)
    ∙ (ap (λ x. row (rank g k) (score g k) x (selected f k v)) (chance-same s p q p' q' k h)
    ∙ ap (λ x. row (rank g k) (score g k) (chance g k) x) (selected-same s p q p' q' k v h)))

cluster_rows-same : (s : Setting) (p : Pairs) (q : Points) (p' : Pairs) (q' : Points) (v : ℕ) → ScoreOne (profile_on s p q) (profile_on s p' q') → cluster_rows_of (profile_on s p q) v ≡ cluster_rows_of (profile_on s p' q') v
unfolding cluster_rows_of
cluster_rows-same s p q p' q' v h =
    map-same (λ i. cluster_row (profile_on s p q) v (i + 1)) (λ i. cluster_row (profile_on s p' q') v (i + 1)) (numbers_below s.clusters)
    (λ k l. cluster_row-same s p q p' q' v (get_or (numbers_below s.clusters) k 0 + 1) h)

applicant_rows-same : (s : Setting) (p : Pairs) (q : Points) (p' : Pairs) (q' : Points) (v : ℕ) → ScoreOne (profile_on s p q) (profile_on s p' q') → applicant_rows_of (profile_on s p q) v ≡ applicant_rows_of (profile_on s p' q') v
unfolding applicant_rows_of
applicant_rows-same s p q p' q' v h =
    map-same (λ number. applicant_row (profile_on s p q) v (place_of_number s number)) (λ number. applicant_row (profile_on s p' q') v (place_of_number s number)) (numbers_below (size s))
    (λ k l. applicant_row-same s p q p' q' v (place_of_number s (get_or (numbers_below (size s)) k 0)) h)

-- profiles of one setting that agree on its places have one outcome
pub outcome_of-same : (s : Setting) (p : Pairs) (q : Points) (p' : Pairs) (q' : Points) (a : Asides) (v : ℕ) →
    ((r k : ℕ) → r < size s → k < size s → p r k ≡ p' r k) → ((r k : ℕ) → r < size s → k < size s → q r k ≡ q' r k) → outcome_of (profile_on s p q) a v ≡ outcome_of (profile_on s p' q') a v
unfolding outcome_of
outcome_of-same s p q p' q' a v hp hq =
    let f = profile_on s p q in
    let g = profile_on s p' q' in
    let h = score-same s p q p' q' (hp, hq) in
    let parts = parts_with s.seats s.clusters s.reviews a v (denominator s) (length s.owners) in
    ap (λ x. parts x (applicant_rows_of f v) (empty_seats f v)) (cluster_rows-same s p q p' q' v h)
    ∙ (ap (λ x. parts (cluster_rows_of g v) x (empty_seats f v)) (applicant_rows-same s p q p' q' v h)
    ∙ ap (λ x. parts (cluster_rows_of g v) (applicant_rows_of g v) x) (empty-same s p q p' q' v h))
