-- The worth of the slip of an applicant is its chance.
use Rattle.std.proofs.Common.{◌≡◌, ◌≢◌, ℕ, zero, suc, ◌+◌, ◌-◌, ◌*◌, ◌<◌, ◌≤◌, ◌&&◌, ◌||◌, Bool, true, false, cond, eqb, ltb, leb, List, [], ◌∷◌, length, map, filter, get_or, Some, None, refl, sym, ap, ◌∙◌, arith, inl, inr, bytes_eq}
use Rattle.std.specs.Prelude.{position, slice_index, sum}
use Rattle.std.specs.List.{AllByRecursion, Contains, find, list_any, position_from, sum_by}
use Rattle.std.specs.Option.{option_map_or}
use Rattle.std.proofs.lemmas.Bool.{both_ways, cases_Bool, cases_eq, cond-true, cond-false, eq-eqb, eqb-true, ne_eqb}
use Rattle.std.proofs.lemmas.Iterator.Adapters.{position_from-zero}
use Rattle.std.proofs.lemmas.List.{get_or-map, get_or_default, length-map}
use Rattle.std.proofs.lemmas.List.Elements.{All-filter, All-from_recursion, recursion_from_All}
use Rattle.std.proofs.lemmas.List.Sums.{sum_by-cons}
use Rattle.house_base.specs.declared.limits.TheConstants.{MOST_OWN}
use Rattle.house_base.specs.declared.plan.Owner.{Owner}
use Rattle.house_base.specs.Setting.{Setting, IsSetting, StandInTurn, size, cluster_at, name_at, owner_from}
use Rattle.house_base.proofs.AmongLemmas.{bytes_eq-same, bytes_eq-other}
use Rattle.house_base.proofs.Settings.{first-StandInTurn, need-none, StandInTurn-le}
use Rattle.peer_selection.specs.Counting.{count_below, numbers_below, sum_below}
use Rattle.peer_selection.specs.Laws.{IsAssigned}
use Rattle.peer_selection.specs.Lottery.{chance}
use Rattle.peer_selection.specs.Marks.{marks}
use Rattle.peer_selection.specs.Profile.{Profile, cents, cluster_cents, cumulative_quota, denominator, quota, rank, row, row_points, score}
use Rattle.peer_selection.specs.Split.{cents_at}
use Rattle.peer_selection.proofs.ClusterLemmas.{denominator-positive}
use Rattle.peer_selection.proofs.CountingLemmas.{count_below-same, count_below-zero_each, sum_below-append, sum_below-first, sum_below-none, sum_below-zero}
use Rattle.peer_selection.proofs.ImpartialLemmas.{cents-not_reviewed}
use Rattle.peer_selection.proofs.MarkLemmas.{chance-marks_of, marks-reach}
use Rattle.peer_selection.proofs.RowLemmas.{row-below}
use Rattle.peer_selection.proofs.ValidLemmas.{is_valid-each}
use Rattle.slip_check.specs.Slip.{ballot_cents, ballot_of, cell_of, goes_before, places_in, rank_among, reviews_one_of, score_on, scores, slip_of, worth}
use Rattle.slip_check.proofs.KeptLemmas.{all_kept, count_kept, earlier, found_kept, kept, kept_at, length_kept, order_kept, sum_kept}
use Rattle.slip_check.proofs.PlaceLemmas.{first_below, one_place}
use Rattle.slip_check.proofs.WriteLemmas.{one_passes}

-- Lists.

map_map : {A B C : Type 0} (g : B → C) (h : A → B) (xs : List A) → map g (map h xs) ≡ map (λ x. g (h x)) xs
map_map g h [] = refl
map_map g h (x ∷ xs) = ap (λ ys. g (h x) ∷ ys) (map_map g h xs)

pub map_same : {A B : Type 0} (g h : A → B) (xs : List A) → AllByRecursion (λ x. g x ≡ h x) xs → map g xs ≡ map h xs
map_same g h [] all = refl
map_same g h (x ∷ xs) all = ap (λ y. y ∷ map g xs) all.0 ∙ ap (λ ys. h x ∷ ys) (map_same g h xs all.1)

sum_map : {A : Type 0} (g : A → ℕ) (xs : List A) → sum (map g xs) ≡ sum_by g xs
sum_map g [] = refl
sum_map g (x ∷ xs) = sum_by-cons (λ y. y) (g x) (map g xs) ∙ ap (λ k. g x + k) (sum_map g xs) ∙ sym (sum_by-cons g x xs)

-- those that fail add nothing
sum_passing : {A : Type 0} (g : A → ℕ) (test : A → Bool) (xs : List A) → ((x : A) → test x ≡ false → g x ≡ 0) → sum_by g (filter test xs) ≡ sum_by g xs
sum_passing g test [] h = refl
sum_passing g test (x ∷ xs) h = elim (cases_Bool (test x)) [
  | inl here ↦
      ap (sum_by g) (cond-true (test x) (x ∷ filter test xs) (filter test xs) here)
      ∙ sum_by-cons g x (filter test xs) ∙ ap (λ k. g x + k) (sum_passing g test xs h) ∙ sym (sum_by-cons g x xs)
  | inr other ↦
      ap (sum_by g) (cond-false (test x) (x ∷ filter test xs) (filter test xs) other)
      ∙ omega (arith, sum_passing g test xs h, h x other, sum_by-cons g x xs)
]

-- Names.

name_test : (s : Setting) (p q : ℕ) → IsSetting s → p < size s → q < size s → bytes_eq (name_at s q) (name_at s p) ≡ eqb p q
name_test s p q h pl ql = elim (cases_eq p q) [
  | inl e ↦ bytes_eq-same (name_at s q) (name_at s p) (ap (name_at s) (sym e)) ∙ sym (eq-eqb p q e)
  | inr ne ↦ bytes_eq-other (name_at s q) (name_at s p) (λ e. ne (one_place s p q h pl ql (sym e))) ∙ sym (ne_eqb p q ne)
]

named_from : (s : Setting) (q k : ℕ) (xs : List ℕ) → IsSetting s → q < size s → AllByRecursion (λ x. x < size s) xs → position_from (bytes_eq (name_at s q)) k (map (name_at s) xs) ≡ position_from (λ x. eqb x q) k xs
named_from s q k [] h l all = refl
named_from s q k (x ∷ xs) h l all =
    ap (λ b. cond b (Some k) (position_from (bytes_eq (name_at s q)) (k + 1) (map (name_at s) xs))) (name_test s x q h all.0 l)
    ∙ ap (λ o. cond (eqb x q) (Some k) o) (named_from s q (k + 1) xs h l all.1)

-- a name stands among those of places where its place does
named : (s : Setting) (q : ℕ) (xs : List ℕ) → IsSetting s → q < size s → AllByRecursion (λ x. x < size s) xs → position (bytes_eq (name_at s q)) (map (name_at s) xs) ≡ position (λ x. eqb x q) xs
named s q xs h l all = position_from-zero (bytes_eq (name_at s q)) (map (name_at s) xs) ∙ named_from s q 0 xs h l all ∙ sym (position_from-zero (λ x. eqb x q) xs)

-- Ballots.

-- a ballot gives the cents that its person gives
ballot_cents-row : (f : Profile) (owner : Owner) (q : ℕ) → IsSetting f.setting → owner.first < size f.setting → q < size f.setting → ballot_cents (ballot_of f owner) (name_at f.setting q) ≡ cents f owner.first q
unfolding ballot_cents ballot_of cents row_points
ballot_cents-row f owner q h first l =
    let r = owner.first in
    let name = name_at f.setting q in
    let cells = map (cell_of f r) (row f r) in
    ap (λ ps. option_map_or (cents_at ps) (position (bytes_eq name) (map (λ cell. cell.proposal) cells)) 0) (map_map (λ cell. cell.points) (cell_of f r) (row f r))
    ∙ ap (λ ns. option_map_or (cents_at (map (f.points r) (row f r))) (position (bytes_eq name) ns) 0) (map_map (λ cell. cell.proposal) (cell_of f r) (row f r))
    ∙ ap (λ o. option_map_or (cents_at (map (f.points r) (row f r))) o 0)
    (named f.setting q (row f r) h l (recursion_from_All (λ x. x < size f.setting) (row f r) (row-below f r first)))

abbrev OwnsSome : Owner → Type 0
OwnsSome o = (1 ≤ o.own) × (o.own ≤ MOST_OWN)

others : (o : Owner) (os : List Owner) (r : ℕ) → o.first ≢ r → ((x : Owner) → Contains os x → x.first ≢ r) → (x : Owner) → Contains (o ∷ os) x → x.first ≢ r
others o os r here later x (zero, within, is) e = here (ap (λ y. y.first) is ∙ e)
others o os r here later x (suc k, within, is) e = later x (k, omega arith, is) e

-- a sum over places of what is 0 but at the persons' first ones is a sum over the persons
sum_persons : (g : ℕ → ℕ) (from n : ℕ) (owners : List Owner) → AllByRecursion OwnsSome owners → StandInTurn from owners n
    → ((r : ℕ) → from ≤ r → r < n → ((o : Owner) → Contains owners o → o.first ≢ r) → g r ≡ 0) → sum_below g n ≡ sum_below g from + sum_by (λ o. g o.first) owners
sum_persons g from n [] own stand h = let same : sum_below g from ≡ sum_below g n = ap (sum_below g) stand in omega arith
sum_persons g from n (o ∷ os) own stand h =
    let next = from + o.own in
    let some : suc (o.own - 1) ≡ o.own = omega (arith, own.0.0) in
    let within = StandInTurn-le next os n stand.1 in
    let later = λ (x : Owner) (has : Contains os x). first-StandInTurn next os n x stand.1 has in
    let rest = sum_persons g next n os own.1 stand.1 (λ r low high none. h r (omega (arith, low)) high (others o os r (λ e. absurd (omega (arith, e, stand.0, low, own.0.0))) none)) in
    let none = sum_below-none (λ i. g (from + suc i)) (o.own - 1) (λ i l. h (from + suc i) (omega arith) (omega (arith, l, within, own.0.0))
    (others o os (from + suc i) (λ e. absurd (omega (arith, e, stand.0))) (λ x has e. absurd (omega (arith, e, l, later x has, own.0.0))))) in
    let own_places = sum_below-append g from o.own in
    let first = sum_below-first (λ i. g (from + i)) (o.own - 1) in
    let counted : sum_below (λ i. g (from + i)) (suc (o.own - 1)) ≡ sum_below (λ i. g (from + i)) o.own = ap (sum_below (λ i. g (from + i))) some in
    let at : from + 0 ≡ from = omega arith in
    let here : g (from + 0) ≡ g o.first = ap g (at ∙ sym stand.0) in
    omega (arith, rest, none, own_places, first, counted, here, sum_by-cons (λ o. g o.first) o os)

find_none : (r : ℕ) (owners : List Owner) → ((o : Owner) → Contains owners o → o.first ≢ r) → find (λ o. eqb o.first r) owners ≡ None
find_none r [] none = refl
find_none r (o ∷ os) none =
    cond-false (eqb o.first r) (Some o) (find (λ o. eqb o.first r) os) (ne_eqb o.first r (none o (0, omega arith, refl)))
    ∙ find_none r os (λ x has. none x (suc has.0, omega (arith, has.1), has.2))

-- who is no person gives nothing
nobody_gives : (f : Profile) (r q : ℕ) → IsAssigned f → r < size f.setting → q < size f.setting → ((o : Owner) → Contains f.setting.owners o → o.first ≢ r) → cents f r q ≡ 0
unfolding owner_from
nobody_gives f r q h rl ql none =
    let owes = (is_valid-each f.setting f.pairs h.valid).owed r rl in
    let nothing = need-none f.setting r (find_none r f.setting.owners none) in
    cents-not_reviewed f r q (count_below-zero_each (f.pairs r) (size f.setting) (owes ∙ nothing) q ql)

pub firsts_below : (s : Setting) → IsSetting s → AllByRecursion (λ (o : Owner). o.first < size s) s.owners
firsts_below s h = recursion_from_All (λ (o : Owner). o.first < size s) s.owners (λ i d l. first_below s (get_or s.owners i d) h (i, l, sym (get_or_default s.owners i d (get_or s.owners i d) l)))

each_gives : (f : Profile) (q : ℕ) (owners : List Owner) → IsSetting f.setting → q < size f.setting → AllByRecursion (λ (o : Owner). o.first < size f.setting) owners
    → AllByRecursion (λ (o : Owner). ballot_cents (ballot_of f o) (name_at f.setting q) ≡ cents f o.first q) owners
each_gives f q [] h l all = tt
each_gives f q (o ∷ os) h l all = (ballot_cents-row f o q h all.0 l, each_gives f q os h l all.1)

-- who reviews none of the members does not review one
not_reviewed_by : (test member : ℕ → Bool) (q n : ℕ) → q < n → member q ≡ true → list_any test (filter member (numbers_below n)) ≡ false → test q ≡ false
not_reviewed_by test member q n l is none = elim (cases_Bool (test q)) [
  | inl passes ↦ absurd (both_ways (list_any test (filter member (numbers_below n))) none (one_passes member test q n l is passes))
  | inr fails ↦ fails
]

-- a member gets on the ballots of a slip what it gets from all
score_on-slip : (f : Profile) (j q : ℕ) → IsAssigned f → q < size f.setting → cluster_at f.setting q ≡ j
    → score_on (map (ballot_of f) (filter (reviews_one_of f (places_in f.setting j)) f.setting.owners)) (name_at f.setting q) ≡ score f q
unfolding score_on score reviews_one_of places_in
score_on-slip f j q h l member =
    let s = f.setting in
    let test = reviews_one_of f (places_in s j) in
    let voters = filter test s.owners in
    let name = name_at s q in
    let gives = λ (o : Owner). cents f o.first q in
    let below = All-from_recursion (λ (o : Owner). o.first < size s) s.owners (firsts_below s h.setting) in
    let each = recursion_from_All (λ (o : Owner). o.first < size s) voters (All-filter test (λ (o : Owner). o.first < size s) s.owners below) in
    ap sum (map_map (λ b. ballot_cents b name) (ballot_of f) voters)
    ∙ ap sum (map_same (λ o. ballot_cents (ballot_of f o) name) gives voters (each_gives f q voters h.setting l each))
    ∙ sum_map gives voters
    ∙ sum_passing gives test s.owners (λ o fails. cents-not_reviewed f o.first q (not_reviewed_by (f.pairs o.first) (λ p. eqb (cluster_at s p) j) q (size s) l (eq-eqb (cluster_at s q) j member) fails))
    ∙ omega (arith, sum_persons (λ r. cents f r q) 0 (size s) s.owners (recursion_from_All OwnsSome s.owners h.setting.own) h.setting.in_turn (λ r _ rl none. nobody_gives f r q h rl l none), sum_below-zero (λ r. cents f r q))

-- The members' scores.

module _ (f : Profile) (p : ℕ) (h : IsAssigned f) (l : p < size f.setting) where
  abbrev member : ℕ → Bool
  member q = eqb (cluster_at f.setting q) (cluster_at f.setting p)

  abbrev xs : List ℕ
  xs = map (score f) (kept member (size f.setting))

  member-itself : member p ≡ true
  member-itself = eq-eqb (cluster_at f.setting p) (cluster_at f.setting p) refl

  scores_are : scores (slip_of f p) ≡ map (score f) (kept member (size f.setting))
  unfolding scores slip_of places_in
  scores_are =
      let s = f.setting in
      let ballots = map (ballot_of f) (filter (reviews_one_of f (places_in s (cluster_at s p))) s.owners) in
      map_map (score_on ballots) (name_at s) (kept member (size s))
      ∙ map_same (λ q. score_on ballots (name_at s q)) (score f) (kept member (size s))
      (all_kept (λ q. score_on ballots (name_at s q) ≡ score f q) member (size s) (λ q ql is. score_on-slip f (cluster_at s p) q h ql (eqb-true (cluster_at s q) (cluster_at s p) is)))

  total_is : sum (scores (slip_of f p)) ≡ cluster_cents f (cluster_at f.setting p)
  unfolding cluster_cents
  total_is = ap sum scores_are ∙ sum_map (score f) (kept member (size f.setting)) ∙ sum_kept member (score f) (size f.setting)

  score_at : (q : ℕ) → q < size f.setting → member q ≡ true → slice_index (map (score f) (kept member (size f.setting))) (count_below member q) ≡ score f q
  score_at q ql is =
      let n = size f.setting in
      let within : count_below member q < length (kept member n) = omega (arith, length_kept member n, earlier member q n ql is) in
      get_or-map (score f) (kept member n) (count_below member q) 0 0 within ∙ ap (score f) (kept_at member n q 0 ql is)

  one_test : (q : ℕ) → q < size f.setting →
      (member q && goes_before (map (score f) (kept member (size f.setting))) (count_below member p) (count_below member q))
      ≡ (member q && (ltb (score f p) (score f q) || (eqb (score f q) (score f p) && ltb q p)))
  one_test q ql = elim (cases_Bool (member q)) [
    | inl is ↦
        let own = score_at p l member-itself in
        let other = score_at q ql is in
        ap (λ x. member q && (ltb x (slice_index xs (count_below member q)) || (eqb (slice_index xs (count_below member q)) x && ltb (count_below member q) (count_below member p)))) own
        ∙ ap (λ x. member q && (ltb (score f p) x || (eqb x (score f p) && ltb (count_below member q) (count_below member p)))) other
        ∙ ap (λ b. member q && (ltb (score f p) (score f q) || (eqb (score f q) (score f p) && b))) (order_kept member q p is)
    | inr no_member ↦
        ap (λ b. b && goes_before xs (count_below member p) (count_below member q)) no_member
        ∙ sym (ap (λ b. b && (ltb (score f p) (score f q) || (eqb (score f q) (score f p) && ltb q p))) no_member)
  ]

  rank_is : rank_among (scores (slip_of f p)) (count_below member p) ≡ rank f p
  unfolding rank_among rank
  rank_is =
      let n = size f.setting in
      let many : length xs ≡ count_below member n = length-map (kept member n) (score f) ∙ length_kept member n in
      ap (λ ys. 1 + count_below (goes_before ys (count_below member p)) (length ys)) scores_are
      ∙ ap (λ k. 1 + count_below (goes_before xs (count_below member p)) k) many
      ∙ ap (λ k. 1 + k) (count_kept member (goes_before xs (count_below member p)) n
      ∙ count_below-same (λ q. member q && goes_before xs (count_below member p) (count_below member q))
      (λ q. member q && (ltb (score f p) (score f q) || (eqb (score f q) (score f p) && ltb q p))) n (λ q ql. one_test q ql))

-- the worth of its slip is the chance of an applicant
pub worth-chance : (f : Profile) (p : ℕ) → IsAssigned f → p < size f.setting → worth (slip_of f p) ≡ chance f p
unfolding worth slip_of places_in quota denominator rank
worth-chance f p h l =
    let s = f.setting in
    let j = cluster_at s p in
    let m = member f p h l in
    let start = cumulative_quota f (j - 1) in
    let den = denominator s in
    let places = kept m (size s) in
    let found : position (bytes_eq (name_at s p)) (map (name_at s) places) ≡ Some (count_below m p) =
    named s p places h.setting l (all_kept (λ q. q < size s) m (size s) (λ q ql _. ql)) ∙ position_from-zero (λ x. eqb x p) places ∙ found_kept m (size s) p l (member-itself f p h l) in
    let positive : 1 ≤ rank f p = omega arith in
    ap (λ o. option_map_or (λ i. count_below (λ v. leb (rank_among (scores (slip_of f p)) i) (marks 0 (s.seats * sum (scores (slip_of f p))) den v)) den) o 0) found
    ∙ ap (λ r. count_below (λ v. leb r (marks 0 (s.seats * sum (scores (slip_of f p))) den v)) den) (rank_is f p h l)
    ∙ ap (λ c. count_below (λ v. leb (rank f p) (marks 0 (s.seats * c) den v)) den) (total_is f p h l)
    ∙ marks-reach 0 (quota f j) den (rank f p) (denominator-positive f h.setting) positive
    ∙ sym (marks-reach start (quota f j) den (rank f p) (denominator-positive f h.setting) positive)
    ∙ sym (chance-marks_of f p h l)
