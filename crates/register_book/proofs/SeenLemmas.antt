use Rattle.std.proofs.Common.{◌≡◌, ◌≢◌, ℕ, ◌<◌, ◌≤◌, ◌||◌, ltb, cond, List, [], ◌∷◌, Option, Some, None, IfSome, length, get_or, map, find, position, slice_get, All, AllPairs, IsTrue, true, false, bytes_eq, refl, sym, ap, ◌∙◌, subst, inl, inr, arith}
use Rattle.std.specs.List.{list_any}
use Rattle.std.specs.Option.{option_map_or}
use Rattle.std.proofs.lemmas.Bool.{lt-ltb, or_left, false≢true}
use Rattle.std.proofs.lemmas.List.{length-map, get_or-map}
use Rattle.std.proofs.lemmas.List.Elements.{All-weaker, All-head, All-tail, All-get_or}
use Rattle.std.proofs.lemmas.Option.{slice_get-get_or, get_or_from_slice_get, slice_get_within}
use Rattle.house_base.specs.declared.limits.TheConstants.{MOST_APPLICANTS}
use Rattle.house_base.specs.Text.{Text, among}
use Rattle.house_base.proofs.InOrderLemmas.{In, In-get_or, All-In}
use Rattle.house_base.proofs.AmongLemmas.{cases_text, bytes_eq-same, bytes_eq-other, not_among}
use Rattle.house_model.specs.Register.{Register, IsRegister, names, persons, placed_names, own_count, cluster_of, firsts, person_of, person_number}
use Rattle.house_model.proofs.RegisterLemmas.{fewer_placed}
use Rattle.register_book.specs.Held.{IsBook, register_of, cluster_in, named, pairs_where, text_at}
use Rattle.register_book.specs.PairList.{PairsHeld}
use Rattle.register_book.specs.Places.{PlacesHeld}
use Rattle.name_index.specs.Index.{number_in}
use Rattle.register_book.specs.Roll.{names_in, persons_in, own_in}
use Rattle.register_book.specs.Rows.{holds}
use Rattle.name_index.proofs.IndexLemmas.{number_from_position, number_of_member, at-number_in, known-number_in, position_known}
use Rattle.register_book.proofs.NamedLemmas.{AreNumbers}
use Rattle.register_book.proofs.RollLemmas.{person_In}

-- What a register says, by what a book holds.

module _ (xs : List (Text × Text)) (places : PlacesHeld) (conflicts : List ℕ) (pairs : PairsHeld) (reg : Register) (seen : register_of xs places conflicts pairs ≡ reg) where
  pub applicants_seen : xs ≡ reg.applicants
  unfolding register_of
  applicants_seen = ap (λ r. r.applicants) seen

  pub names_seen : names_in xs ≡ names reg
  names_seen = ap (λ l. map (λ a. a.0) l) applicants_seen

  pub persons_seen : persons_in xs ≡ persons reg
  unfolding persons_in persons
  persons_seen = ap (λ l. firsts (map (λ a. a.1) l)) applicants_seen

  pub own_seen : (t : Text) → own_in xs t ≡ own_count reg t
  unfolding own_in own_count
  own_seen t = ap (λ l. own_in l t) applicants_seen

  pub placed_seen : places.placed ≡ reg.placed
  unfolding register_of
  placed_seen = ap (λ r. r.placed) seen

  pub cluster_seen : (t : Text) → cluster_in places.placed t ≡ cluster_of reg t
  unfolding cluster_in cluster_of
  cluster_seen t = ap (λ l. cluster_in l t) placed_seen

  pub barred_seen : pairs_where (holds conflicts) (persons_in xs) (names_in xs) ≡ reg.barred
  unfolding register_of
  barred_seen = ap (λ r. r.barred) seen

  pub pairs_seen : named (persons_in xs) (names_in xs) pairs.pairs ≡ reg.pairs
  unfolding register_of
  pairs_seen = ap (λ r. r.pairs) seen

-- What a kept register has.

module _ (xs : List (Text × Text)) (places : PlacesHeld) (conflicts : List ℕ) (pairs : PairsHeld) (h : IsBook xs places conflicts pairs) where
  pub names_kept_apart : AllPairs (λ a b. a ≢ b) (names_in xs)
  unfolding register_of
  names_kept_apart = h.register.names_differ

  pub few_kept : length xs ≤ MOST_APPLICANTS
  unfolding register_of
  few_kept = h.register.few

  pub numbers_kept : AreNumbers (persons_in xs) (names_in xs) pairs.pairs
  numbers_kept =
      All-weaker (λ p. (p.0 < length (persons_in xs)) × (p.1 < length xs)) (λ p. (p.0 < length (persons_in xs)) × (p.1 < length (names_in xs)))
      (λ p both. (both.0, omega (arith, both.1, length-map xs (λ a. a.0)))) pairs.pairs h.pairs_kept.known

  -- a pair that is held has numbers
  pub pair_known : (i : ℕ) (p : ℕ × ℕ) → slice_get pairs.pairs i ≡ Some p → (p.0 < length (persons_in xs)) × (p.1 < length xs)
  pair_known i p at =
      let P : ℕ × ℕ → Type 0 = λ q. (q.0 < length (persons_in xs)) × (q.1 < length xs) in
      subst P (get_or_from_slice_get pairs.pairs i p (0, 0) at) (All-get_or P pairs.pairs i (0, 0) (slice_get_within pairs.pairs i p at) h.pairs_kept.known)

-- What look-ups find.

pub found_number : (xs : List Text) (t : Text) (o : Option ℕ) → o ≡ position (bytes_eq t) xs → IfSome o (λ i. slice_get xs i ≡ Some t)
found_number xs t None e = tt
found_number xs t (Some i) e =
    let n = number_from_position xs t i (sym e) in
    slice_get-get_or xs i [] n.1 ∙ ap Some (ap (λ k. get_or xs k []) (sym n.0) ∙ at-number_in xs t (omega (arith, n.0, n.1)))

pub found_below : (xs : List Text) (t : Text) (o : Option ℕ) → o ≡ position (bytes_eq t) xs → IfSome o (λ i. i < length xs)
found_below xs t None e = tt
found_below xs t (Some i) e = (number_from_position xs t i (sym e)).1

-- The number of the person of an applicant.

module _ (xs : List (Text × Text)) (reg : Register) (same : xs ≡ reg.applicants) (same_persons : persons_in xs ≡ persons reg)
    (i number : ℕ) (below : i < length reg.applicants) (at : slice_get (map (λ a. number_in (persons_in xs) a.1) xs) i ≡ Some number) where
  owner_name : person_of reg i ≡ (get_or xs i ([], [])).1
  unfolding person_of
  owner_name =
      ap (λ o. option_map_or (λ a. a.1) o []) (slice_get-get_or reg.applicants i ([], []) below)
      ∙ ap (λ (l : List (Text × Text)). (get_or l i ([], [])).1) (sym same)

  owner_number : number ≡ number_in (persons_in xs) (person_of reg i)
  owner_number =
      sym (get_or_from_slice_get (map (λ a. number_in (persons_in xs) a.1) xs) i number 0 at)
      ∙ (get_or-map (λ a. number_in (persons_in xs) a.1) xs i ([], []) 0 (omega (arith, below, ap length same))
      ∙ ap (number_in (persons_in xs)) (sym owner_name))

  owner_known : In (person_of reg i) (persons_in xs)
  owner_known =
      let P : Text → Type 0 = λ t. In t (persons_in xs) in
      subst P (sym owner_name) (person_In xs (get_or xs i ([], [])) (In-get_or xs i ([], []) (omega (arith, below, ap length same))))

  owner_within : number_in (persons_in xs) (person_of reg i) < length (persons_in xs)
  owner_within = number_of_member (persons_in xs) (person_of reg i) owner_known

  pub owner_below : number < length (persons reg)
  owner_below = omega (arith, owner_number, owner_within, ap length same_persons)

  pub owner_person_number : number ≡ person_number reg (person_of reg i)
  unfolding person_number
  owner_person_number =
      owner_number
      ∙ sym (ap (λ l. option_map_or (λ k. k) (position (bytes_eq (person_of reg i)) l) 0) (sym same_persons)
      ∙ ap (λ o. option_map_or (λ k. k) o 0) (position_known (persons_in xs) (person_of reg i) owner_within))

  pub owner_person : slice_get (persons reg) number ≡ Some (person_of reg i)
  owner_person =
      ap (λ l. slice_get l number) (sym same_persons)
      ∙ (slice_get-get_or (persons_in xs) number [] (omega (arith, owner_number, owner_within))
      ∙ ap Some (ap (λ k. get_or (persons_in xs) k []) owner_number ∙ at-number_in (persons_in xs) (person_of reg i) owner_within))

-- The cluster of a person.

-- a person has a cluster exactly where it has a place
pub cluster_in-placed : (placed : List (Text × ℕ)) (t : Text) → All (λ p. 1 ≤ p.1) placed → among (map (λ p. p.0) placed) t ≡ ltb 0 (cluster_in placed t)
unfolding cluster_in among
cluster_in-placed [] t h = refl
cluster_in-placed (p ∷ ps) t h = elim (cases_text p.0 t) [
  | inl same ↦
      or_left (bytes_eq t p.0) (list_any (bytes_eq t) (map (λ q. q.0) ps)) (bytes_eq-same t p.0 (sym same))
      ∙ (sym (lt-ltb 0 p.1 (omega (arith, All-head (λ q. 1 ≤ q.1) p ps h)))
      ∙ ap (λ b. ltb 0 (option_map_or (λ q. q.1) (cond b (Some p) (find (λ q. bytes_eq q.0 t) ps)) 0)) (sym (bytes_eq-same p.0 t same)))
  | inr other ↦
      ap (λ b. b || among (map (λ q. q.0) ps) t) (bytes_eq-other t p.0 (λ e. other (sym e)))
      ∙ (cluster_in-placed ps t (All-tail (λ q. 1 ≤ q.1) p ps h)
      ∙ ap (λ b. ltb 0 (option_map_or (λ q. q.1) (cond b (Some p) (find (λ q. bytes_eq q.0 t) ps)) 0)) (sym (bytes_eq-other p.0 t other)))
]

-- what the kept clusters tell
module _ (xs : List (Text × Text)) (places : PlacesHeld) (conflicts : List ℕ) (pairs : PairsHeld) (reg : Register) (seen : register_of xs places conflicts pairs ≡ reg)
    (h : IsBook xs places conflicts pairs) (i cluster : ℕ) (below : i < length (persons reg)) (read : cluster ≡ get_or places.clusters i 0) where
  pub cluster_kept : cluster ≡ cluster_of reg (text_at (persons reg) i)
  cluster_kept =
      read
      ∙ (h.places_kept.clusters i (omega (arith, below, ap length (persons_seen xs places conflicts pairs reg seen)))
      ∙ (cluster_seen xs places conflicts pairs reg seen (text_at (persons_in xs) i)
      ∙ ap (λ l. cluster_of reg (text_at l i)) (persons_seen xs places conflicts pairs reg seen)))

  pub placed_kept : among (placed_names reg) (text_at (persons reg) i) ≡ ltb 0 cluster
  placed_kept =
      ap (λ l. among (map (λ p. p.0) l) (text_at (persons reg) i)) (sym (placed_seen xs places conflicts pairs reg seen))
      ∙ (cluster_in-placed places.placed (text_at (persons reg) i) h.places_kept.from_one
      ∙ ap (ltb 0) (cluster_seen xs places conflicts pairs reg seen (text_at (persons reg) i) ∙ sym cluster_kept))

-- what a place tells of what stands there
pub found_at : (xs : List Text) (t : Text) (i : ℕ) → position (bytes_eq t) xs ≡ Some i
    → (get_or xs i [] ≡ t) × (i < length xs) × (number_in xs t ≡ i) × (among xs t ≡ true)
found_at xs t i e =
    let n = number_from_position xs t i e in
    let within : number_in xs t < length xs = omega (arith, n.0, n.1) in
    (ap (λ k. get_or xs k []) (sym n.0) ∙ at-number_in xs t within, n.1, n.0, known-number_in xs t within)

module _ (xs : List (Text × Text)) (places : PlacesHeld) (conflicts : List ℕ) (pairs : PairsHeld) (reg : Register) (seen : register_of xs places conflicts pairs ≡ reg)
    (h : IsBook xs places conflicts pairs) (t : Text) where
  pub register_seen : IsRegister reg
  register_seen = subst (λ r. IsRegister r) seen h.register

  -- who is no person has no place
  pub unplaced : among (persons_in xs) t ≡ false → among (placed_names reg) t ≡ false
  unplaced unknown =
      not_among (placed_names reg) t (λ m.
      false≢true (sym unknown
      ∙ (ap (λ l. among l t) (persons_seen xs places conflicts pairs reg seen)
      ∙ All-In (λ p. IsTrue (among (persons reg) p)) (placed_names reg) t register_seen.placed_persons m)))

  -- a person has a place exactly where it has a cluster
  pub placed_by_cluster : (i cluster : ℕ) → position (bytes_eq t) (persons_in xs) ≡ Some i → cluster ≡ get_or places.clusters i 0
      → among (placed_names reg) t ≡ ltb 0 cluster
  placed_by_cluster i cluster found read =
      let at = found_at (persons_in xs) t i found in
      ap (among (placed_names reg)) (sym (ap (λ l. text_at l i) (sym (persons_seen xs places conflicts pairs reg seen)) ∙ at.0))
      ∙ placed_kept xs places conflicts pairs reg seen h i cluster (omega (arith, at.1, ap length (persons_seen xs places conflicts pairs reg seen))) read

  -- there is room for the place of a person who has none
  pub room_kept : among (persons_in xs) t ≡ true → among (placed_names reg) t ≡ false → length places.placed < places.room
  room_kept known new =
      omega (
        arith,
        h.places_kept.room,
        ap length (applicants_seen xs places conflicts pairs reg seen),
        ap length (placed_seen xs places conflicts pairs reg seen),
        fewer_placed reg t register_seen (ap (λ l. among l t) (sym (persons_seen xs places conflicts pairs reg seen)) ∙ known) new,
      )
