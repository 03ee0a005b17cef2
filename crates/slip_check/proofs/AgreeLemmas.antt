-- A slip looks at the pairs and the points of places alone.
use Rattle.std.proofs.Common.{◌≡◌, ℕ, ◌+◌, ◌%◌, ◌<◌, ◌∙◌, ◌||◌, Bool, cond, eqb, List, [], ◌∷◌, map, filter, get_or, refl, sym, ap, arith}
use Rattle.std.specs.Prelude.{IsTrue}
use Rattle.std.specs.List.{AllByRecursion, list_any}
use Rattle.std.proofs.lemmas.List.Elements.{All-filter, All-from_recursion, All-map, recursion_from_All}
use Rattle.std.proofs.Math.Nat.{mod-lt}
use Rattle.house_base.specs.declared.plan.Owner.{Owner}
use Rattle.house_base.specs.Setting.{Setting, IsSetting, cluster_at, name_at, size}
use Rattle.house_base.specs.Text.{Text}
use Rattle.peer_selection.specs.Counting.{numbers_below}
use Rattle.peer_selection.specs.Laws.{IsAssigned}
use Rattle.peer_selection.specs.Lottery.{chance}
use Rattle.peer_selection.specs.Profile.{Pairs, Points, Profile, denominator, is_valid, profile_on, row}
use Rattle.peer_selection.proofs.RowLemmas.{row-below}
use Rattle.peer_selection.proofs.SameLemmas.{is_valid-same}
use Rattle.slip_check.specs.Places.{AgreeAtPlaces}
use Rattle.slip_check.specs.Slip.{Ballot, Cell, Slip, ballot_of, cell_of, places_in, printed_slip, reviews_one_of, slip_of, slip_text, worth}
use Rattle.slip_check.proofs.KeptLemmas.{all_kept, kept}
use Rattle.slip_check.proofs.WorthLemmas.{firsts_below, map_same, worth-chance}

-- Lists.

filter_same : {A : Type 0} (t u : A → Bool) (xs : List A) → AllByRecursion (λ z. t z ≡ u z) xs → filter t xs ≡ filter u xs
filter_same t u [] all = refl
filter_same t u (z ∷ xs) all =
    ap (λ b. cond b (z ∷ filter t xs) (filter t xs)) all.0 ∙ ap (λ ys. cond (u z) (z ∷ ys) ys) (filter_same t u xs all.1)

any_same : (t u : ℕ → Bool) (xs : List ℕ) → AllByRecursion (λ z. t z ≡ u z) xs → list_any t xs ≡ list_any u xs
any_same t u [] all = refl
any_same t u (z ∷ xs) all = ap (λ b. b || list_any t xs) all.0 ∙ ap (λ b. u z || b) (any_same t u xs all.1)

abbrev cell_with : Text → ℕ → Cell
cell_with name points = record { proposal = name; points = points }

abbrev ballot_with : Text → List Cell → Ballot
ballot_with person cells = record { person = person; cells = cells }

module _ (s : Setting) (a b : Pairs) (x y : Points) (setting : IsSetting s) (same : AgreeAtPlaces s a b x y) where
  abbrev f : Profile
  f = profile_on s a x

  abbrev g : Profile
  g = profile_on s b y

  row-same : (r : ℕ) → r < size s → row f r ≡ row g r
  unfolding row
  row-same r l =
      let at = λ (d : ℕ). (r + 1 + d) % size s in
      let ds = numbers_below (size s) in
      filter_same (a r) (b r) (map at ds)
      (recursion_from_All (λ p. a r p ≡ b r p) (map at ds)
      (All-map (λ p. a r p ≡ b r p) at ds (λ k d kl. same.pairs r (at (get_or ds k d)) l (mod-lt (r + 1 + get_or ds k d) (omega arith)))))

  cells-same : (r : ℕ) → r < size s → map (cell_of f r) (row f r) ≡ map (cell_of g r) (row g r)
  cells-same r l =
      map_same (cell_of f r) (cell_of g r) (row f r)
      (recursion_from_All (λ p. cell_of f r p ≡ cell_of g r p) (row f r)
      (λ k d kl. ap (cell_with (name_at s (get_or (row f r) k d))) (same.points r (get_or (row f r) k d) l (row-below f r l k d kl))))
      ∙ ap (map (cell_of g r)) (row-same r l)

  ballot-same : (o : Owner) → o.first < size s → ballot_of f o ≡ ballot_of g o
  unfolding ballot_of
  ballot-same o l = ap (ballot_with o.name) (cells-same o.first l)

  reviews-same : (j : ℕ) (o : Owner) → o.first < size s → reviews_one_of f (places_in s j) o ≡ reviews_one_of g (places_in s j) o
  unfolding reviews_one_of places_in
  reviews-same j o l =
      let member = λ (q : ℕ). eqb (cluster_at s q) j in
      any_same (a o.first) (b o.first) (kept member (size s))
      (all_kept (λ q. a o.first q ≡ b o.first q) member (size s) (λ q below _. same.pairs o.first q l below))

  each : {P : Owner → Type 0} → ((o : Owner) → o.first < size s → P o) → (owners : List Owner) → AllByRecursion (λ (o : Owner). o.first < size s) owners → AllByRecursion P owners
  each h [] all = tt
  each h (o ∷ owners) all = (h o all.0, each h owners all.1)

  ballots-same : (j : ℕ) → map (ballot_of f) (filter (reviews_one_of f (places_in s j)) s.owners) ≡ map (ballot_of g) (filter (reviews_one_of g (places_in s j)) s.owners)
  ballots-same j =
      let voters = filter (reviews_one_of f (places_in s j)) s.owners in
      let below = firsts_below s setting in
      let all = All-filter (reviews_one_of f (places_in s j)) (λ (o : Owner). o.first < size s) s.owners (All-from_recursion (λ (o : Owner). o.first < size s) s.owners below) in
      map_same (ballot_of f) (ballot_of g) voters (each {P = λ o. ballot_of f o ≡ ballot_of g o} ballot-same voters (recursion_from_All (λ (o : Owner). o.first < size s) voters all))
      ∙ ap (map (ballot_of g))
      (filter_same (reviews_one_of f (places_in s j)) (reviews_one_of g (places_in s j)) s.owners
      (each {P = λ o. reviews_one_of f (places_in s j) o ≡ reviews_one_of g (places_in s j) o} (reviews-same j) s.owners below))

  slip_with : ℕ → List Ballot → Slip
  unfolding slip_of
  slip_with p ballots = record (slip_of f p) { ballots = ballots }

  slip-same : (p : ℕ) → slip_of f p ≡ slip_of g p
  unfolding slip_of slip_with
  slip-same p = ap (slip_with p) (ballots-same (cluster_at s p))

  -- and the chances are what the slips are worth
  printed-same : (p : ℕ) → IsTrue (is_valid s a) → p < size s → printed_slip f p ≡ printed_slip g p
  printed-same p valid l =
      let first : IsAssigned f = record { setting = setting; valid = valid } in
      let second : IsAssigned g = record { setting = setting; valid = sym (is_valid-same s a b same.pairs) ∙ valid } in
      let chances : chance f p ≡ chance g p = sym (worth-chance f p first l) ∙ ap worth (slip-same p) ∙ worth-chance g p second l in
      ap (λ n. slip_text n (denominator s) (slip_of f p)) chances ∙ ap (slip_text (chance g p) (denominator s)) (slip-same p)

pub printed-agree : (s : Setting) (a b : Pairs) (x y : Points) (p : ℕ) → IsAssigned (profile_on s a x) → AgreeAtPlaces s a b x y → p < size s
    → printed_slip (profile_on s a x) p ≡ printed_slip (profile_on s b y) p
printed-agree s a b x y p h same l = printed-same s a b x y h.setting same p h.valid l
