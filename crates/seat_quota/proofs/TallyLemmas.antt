use Rattle.std.proofs.Common.{◌≡◌, ◌≢◌, ℕ, ◌+◌, ◌<◌, ◌≤◌, Bool, true, false, ◌&&◌, nat_eq, cond, List, [], ◌∷◌, ◌++◌, length, map, get_or, set, refl, sym, ap, subst, ◌∙◌, inl, inr, arith, below_more}
use Rattle.std.proofs.lemmas.Bool.{cond-false, cases_eq, ne_eqb}
use Rattle.std.proofs.lemmas.List.{get_or-map, get_or-set_same, get_or-set_other, length-map, length-set, map-append}
use Rattle.std.proofs.Math.ListN.{get_or-append}
use Rattle.std.proofs.Math.Seq.{get_or-append_seam}
use Rattle.house_base.specs.declared.limits.TheConstants.{DOLLAR, MOST_POINTS}
use Rattle.house_base.specs.Grid.{Square, cell}
use Rattle.house_base.specs.Setting.{Setting, size}
use Rattle.peer_selection.specs.Counting.{numbers_below}
use Rattle.peer_selection.specs.Profile.{row, cents, score, is_valid, profile_on}
use Rattle.peer_selection.specs.Split.{cents_at}
use Rattle.peer_selection.proofs.CountingLemmas.{numbers_below-add_one, length-numbers_below, get_or-numbers_below, sum_below-term}
use Rattle.peer_selection.proofs.RowLemmas.{row-below}
use Rattle.review_desk.specs.Desk.{Marks, IsSetUp, points_at, desk_profile}
use Rattle.seat_quota.specs.Tally.{HoldsRows, IsGiven, IsTally, row_at}
use Rattle.seat_quota.specs.Totals.{Shares, IsSummed, IsRow, IsExchange, row_among, found_in}
use Rattle.seat_quota.proofs.ExchangeLemmas.{item, map-same, found_whole, score-change, cents_at-most}
use Rattle.seat_quota.proofs.TotalLemmas.{desk-row, row-among, IsRow-row, cents-given, score-most, cluster_cents-from, clusters-whole}

-- The rows of all persons.

pub rows_more : {V : Type 0} (items : V → List ℕ) (rows : List V) (v : V) (f : ℕ → List ℕ) (r : ℕ) → map items rows ≡ map f (numbers_below r) → items v ≡ f r →
    map items (rows ++ v ∷ []) ≡ map f (numbers_below (r + 1))
rows_more items rows v f r h is =
    map-append items rows (v ∷ [])
    ∙ (ap (λ xs. xs ++ items v ∷ []) h
    ∙ (ap (λ x. map f (numbers_below r) ++ x ∷ []) is
    ∙ (sym (map-append f (numbers_below r) (r ∷ [])) ∙ ap (map f) (sym (numbers_below-add_one r)))))

pub length-rows : {V : Type 0} (items : V → List ℕ) (rows : List V) (f : ℕ → List ℕ) (n : ℕ) → map items rows ≡ map f (numbers_below n) → length rows ≡ n
length-rows items rows f n h = sym (length-map rows items) ∙ (ap length h ∙ (length-map (numbers_below n) f ∙ length-numbers_below n))

pub row-read : {V : Type 0} (items : V → List ℕ) (rows : List V) (v : V) (f : ℕ → List ℕ) (n r : ℕ) → map items rows ≡ map f (numbers_below n) → r < n → v ≡ get_or rows r v → items v ≡ f r
row-read items rows v f n r h l is =
    let len = length-rows items rows f n h in
    let numbers = length-numbers_below n in
    ap items is
    ∙ (sym (get_or-map items rows r v (items v) (omega (arith, len)))
    ∙ (ap (λ xs. get_or xs r (items v)) h
    ∙ (get_or-map f (numbers_below n) r 0 (items v) (omega (arith, numbers)) ∙ ap f (get_or-numbers_below n r 0 l))))

-- The cents along a row.

-- cents that were given along a list that is the row
pub given-along : (d : Marks) (r : ℕ) (xs numbers : List ℕ) → xs ≡ row_at d r → length xs ≤ length numbers →
    ((i : ℕ) → i < length xs → get_or numbers i 0 ≡ cents_at (map (points_at d r) xs) i) → IsGiven d r numbers
given-along d r xs numbers is room value = record {
  room = subst (λ ys. length ys ≤ length numbers) is room;
  value = subst (λ ys. (i : ℕ) → i < length ys → get_or numbers i 0 ≡ cents_at (map (points_at d r) ys) i) is value;
}

-- the cents of one more place
pub given_more : (d : Marks) (cents : List (List ℕ)) (numbers : List ℕ) (n : ℕ) → length cents ≡ n → ((r : ℕ) → r < n → IsGiven d r (get_or cents r [])) → IsGiven d n numbers →
    (r : ℕ) → r < n + 1 → IsGiven d r (get_or (cents ++ numbers ∷ []) r [])
given_more d cents numbers n len h last =
    below_more (λ r. IsGiven d r (get_or (cents ++ numbers ∷ []) r [])) n
    (λ r l. subst (IsGiven d r) (sym (get_or-append cents (numbers ∷ []) [] r (omega (arith, len)))) (h r l))
    (subst (λ k. IsGiven d n (get_or (cents ++ numbers ∷ []) k [])) len (subst (IsGiven d n) (sym (get_or-append_seam cents numbers [] [])) last))

-- a reviewer whose points stay gives the same cents
pub given-same : (s : Setting) (d d' : Marks) (r : ℕ) (numbers : List ℕ) → d.pairs.side ≡ size s → d'.pairs ≡ d.pairs → r < size s →
    ((k : ℕ) → k < size s → points_at d' r k ≡ points_at d r k) → IsGiven d r numbers → IsGiven d' r numbers
given-same s d d' r numbers side pairs l same h =
    let is : row_at d r ≡ row_at d' r = ap (λ (g : Square). row_among g.side (cell g) r) (sym pairs) in
    let places = desk-row s d r (row_at d r) side refl in
    let below : (i : ℕ) → i < length (row_at d r) → get_or (row_at d r) i 0 < size s =
    λ i il. subst (λ xs. get_or xs i 0 < size s) (sym places) (row-below (desk_profile s d) r l i 0 (omega (arith, ap length places))) in
    let points = map-same (points_at d r) (points_at d' r) (row_at d r) (λ i il. sym (same (get_or (row_at d r) i 0) (below i il))) in
    given-along d' r (row_at d r) numbers is h.room (λ i il. h.value i il ∙ ap (λ xs. cents_at xs i) points)

-- after a review by one person its cents are others, and everybody else's stay
pub rows-kept : (s : Setting) (d d' : Marks) (rows cents : List (List ℕ)) (r : ℕ) (numbers : List ℕ) → d.pairs.side ≡ size s → d'.pairs ≡ d.pairs →
    ((i k : ℕ) → i < size s → k < size s → i ≢ r → points_at d' i k ≡ points_at d i k) → r < size s → HoldsRows d rows cents → IsGiven d' r numbers →
    HoldsRows d' rows (set cents r numbers)
rows-kept s d d' rows cents r numbers side pairs others rl h own = record {
  places = h.places ∙ ap (λ (g : Square). map (row_among g.side (cell g)) (numbers_below g.side)) (sym pairs);
  each = length-set cents r numbers ∙ (h.each ∙ ap (λ (g : Square). g.side) (sym pairs));
  given = λ i il.
      let was : d'.pairs.side ≡ d.pairs.side = ap (λ (g : Square). g.side) pairs in
      elim (cases_eq r i) [
        | inl e ↦
            let P : ℕ → Type 0 = λ k. IsGiven d' k (get_or (set cents r numbers) k []) in
            subst P e (subst (IsGiven d' r) (sym (get_or-set_same cents r numbers [] (omega (arith, h.each, side)))) own)
        | inr ne ↦
            let other : i ≢ r = λ e. ne (sym e) in
            subst (IsGiven d' i) (sym (get_or-set_other cents r i numbers [] other))
            (given-same s d d' i (get_or cents i []) side pairs (omega (arith, was, side)) (λ k kl. others i k (omega (arith, was, side)) kl other) (h.given i (omega (arith, was))))
      ];
}

-- One review.

-- the row that is held for a person
pub record IsOwnRow (s : Setting) (d : Marks) (r : ℕ) (xs : List ℕ) : Type 0 where
  pub among : xs ≡ row_at d r
  pub places : xs ≡ row (desk_profile s d) r
  pub is_row : IsRow (size s) xs

pub own-row : {V : Type 0} (items : V → List ℕ) (rows : List V) (v : V) (s : Setting) (d : Marks) (r : ℕ) (xs : List ℕ) → IsSetUp s d →
    map items rows ≡ map (row_at d) (numbers_below d.pairs.side) → v ≡ get_or rows r v → xs ≡ items v → r < size s → IsOwnRow s d r xs
own-row items rows v s d r xs h held read is rl =
    let among = is ∙ row-read items rows v (row_at d) d.pairs.side r held (omega (arith, h.side)) read in
    let places = desk-row s d r xs h.side among in
    record {
      among = among;
      places = places;
      is_row = subst (IsRow (size s)) (sym places) (IsRow-row (desk_profile s d) r h.setting h.valid rl);
    }

-- a desk of which the points of one pair are others
pub IsSetUp-kept : (s : Setting) (d d' : Marks) (r p x : ℕ) → IsSetUp s d → d'.pairs ≡ d.pairs → d'.reviewers ≡ d.reviewers → d'.proposals ≡ d.proposals → x ≤ MOST_POINTS →
    ((i k : ℕ) → i < d.pairs.side → k < d.pairs.side → points_at d' i k ≡ cond (nat_eq i r && nat_eq k p) x (points_at d i k)) → IsSetUp s d'
IsSetUp-kept s d d' r p x h pairs reviewers proposals few points = record {
  setting = h.setting;
  side = ap (λ (g : Square). g.side) pairs ∙ h.side;
  valid = ap (λ (g : Square). is_valid s (cell g)) pairs ∙ h.valid;
  most = λ i k il kl. omega (arith, points i k (omega (arith, h.side)) (omega (arith, h.side)), either (nat_eq i r && nat_eq k p) (points_at d i k) (h.most i k il kl));
  reviewers = reviewers ∙ h.reviewers;
  proposals = proposals ∙ h.proposals;
}
  where
    either : (b : Bool) (y : ℕ) → y ≤ MOST_POINTS → cond b x y ≤ MOST_POINTS
    either true y l = few
    either false y l = l

-- what stands for another reviewer stays
pub other_row : (i k r p x y : ℕ) → i ≢ r → cond (nat_eq i r && nat_eq k p) x y ≡ y
other_row i k r p x y ne = cond-false (nat_eq i r && nat_eq k p) x y (ap (λ b. b && nat_eq k p) (ne_eqb i r ne))

-- a review by one person: the desk before and after it, the totals before it, the row and what it gets
pub record IsReview (s : Setting) (d d' : Marks) (t : Shares) (r : ℕ) (xs before after : List ℕ) : Type 0 where
  pub tally : IsTally s (record { desk = d; totals = t })
  pub kept : IsSetUp s d'
  pub pairs : d'.pairs ≡ d.pairs
  pub others : (i k : ℕ) → i < size s → k < size s → i ≢ r → points_at d' i k ≡ points_at d i k
  pub reviewer : r < size s
  pub places : xs ≡ row (desk_profile s d) r
  pub had_each : length xs ≤ length before
  pub had : (i : ℕ) → i < length xs → item before i ≡ cents_at (map (points_at d r) xs) i
  pub given_each : length xs ≤ length after
  pub given : (i : ℕ) → i < length xs → item after i ≡ cents_at (map (points_at d' r) xs) i

module _ (s : Setting) (d d' : Marks) (t : Shares) (r : ℕ) (xs before after : List ℕ) (h : IsReview s d d' t r xs before after) where
  summed : IsSummed s t
  summed = record {
    scores = h.tally.held.scores;
    clusters = h.tally.held.clusters;
    sums = λ j jl. h.tally.agree.cents j jl ∙ sym (cluster_cents-from (desk_profile s d) t.scores (j + 1) h.tally.agree.score);
  }

  places-row : IsRow (size s) xs
  places-row = subst (IsRow (size s)) (sym h.places) (IsRow-row (desk_profile s d) r h.tally.desk.setting h.tally.desk.valid h.reviewer)

  places-after : xs ≡ row (desk_profile s d') r
  places-after =
      h.places
      ∙ (sym (row-among (desk_profile s d) r)
      ∙ (ap (λ (g : Square). row_among (size s) (cell g) r) (sym h.pairs) ∙ row-among (desk_profile s d') r))

  had-cents : (p : ℕ) → found_in before xs p ≡ cents (desk_profile s d) r p
  had-cents p = cents-given (desk_profile s d) r p xs before h.places h.had

  given-cents : (p : ℕ) → found_in after xs p ≡ cents (desk_profile s d') r p
  given-cents p = cents-given (desk_profile s d') r p xs after places-after h.given

  had-less : (i : ℕ) → i < length xs → item before i ≤ item t.scores (item xs i)
  unfolding score
  had-less i l =
      let p = item xs i in
      let inside : p < size s = places-row.below i 0 l in
      let term = sum_below-term (λ k. cents (desk_profile s d) k p) r (size s) h.reviewer in
      omega (arith, found_whole before xs i places-row.differ l, had-cents p, h.tally.agree.score p inside, term)

  given-few : (i : ℕ) → i < length xs → item after i ≤ DOLLAR
  given-few i l = omega (arith, h.given i l, cents_at-most (map (points_at d' r) xs) i (omega (arith, length-map xs (points_at d' r))))

  pub exchange-from : IsExchange s t xs before after
  exchange-from = record {
    setting = h.tally.desk.setting;
    summed = summed;
    places = places-row;
    had = h.had_each;
    given = h.given_each;
    enough = had-less;
    few = given-few;
    most = λ p pl. omega (arith, h.tally.agree.score p pl, score-most (desk_profile s d) p pl);
  }

  score-after : (p : ℕ) → score (desk_profile s d') p + cents (desk_profile s d) r p ≡ score (desk_profile s d) p + cents (desk_profile s d') r p
  score-after p =
      let change = score-change s (cell d.pairs) (points_at d) (points_at d') r p h.reviewer h.others in
      omega (
        arith,
        change,
        ap (λ (g : Square). score (profile_on s (cell g) (points_at d')) p) h.pairs,
        ap (λ (g : Square). cents (profile_on s (cell g) (points_at d')) r p) h.pairs,
      )

  pub tally-from : (t' : Shares) → ((p : ℕ) → p < size s → item t'.scores p + found_in before xs p ≡ item t.scores p + found_in after xs p) → IsSummed s t' → t'.den ≡ t.den →
      IsTally s (record { desk = d'; totals = t' })
  tally-from t' exchanged sums den =
      let scores : (p : ℕ) → p < size s → item t'.scores p ≡ score (desk_profile s d') p =
      λ p pl. omega (arith, exchanged p pl, had-cents p, given-cents p, h.tally.agree.score p pl, score-after p) in
      let clusters = λ (j : ℕ) (jl : j < s.clusters). sums.sums j jl ∙ cluster_cents-from (desk_profile s d') t'.scores (j + 1) scores in
      record {
        desk = h.kept;
        held = record {
          scores = sums.scores;
          clusters = sums.clusters;
          den = den ∙ h.tally.held.den;
          whole = clusters-whole (desk_profile s d') t'.clusters h.kept.setting h.kept.valid clusters ∙ sym (den ∙ h.tally.held.den);
        };
        agree = record { score = scores; cents = clusters };
      }
