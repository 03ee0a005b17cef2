use Rattle.std.proofs.Common.{◌≡◌, ℕ, zero, suc, ◌+◌, ◌-◌, ◌<◌, ◌≤◌, ◌≢◌, List, [], ◌∷◌, ◌++◌, length, get_or, map, flat_map, All, AllPairs, bytes_eq, IsTrue, slice_get, refl, sym, ap, ◌∙◌, subst, inl, inr, arith, length-append, append_assoc}
use Rattle.std.specs.Option.{option_map_or}
use Rattle.std.proofs.lemmas.List.{length-map, map-append, get_or_append_left, get_or-append-add}
use Rattle.house_base.specs.declared.limits.TheConstants.{MOST_SEATS, FEWEST_CLUSTERS, MOST_CLUSTERS, MOST_REVIEWS, MOST_OWN}
use Rattle.house_base.specs.declared.plan.Person.{Person}
use Rattle.house_base.specs.declared.plan.Owner.{Owner}
use Rattle.house_base.specs.Setting.{Setting, IsSetting, IsOwned, StandInTurn, cluster_at, number_at}
use Rattle.house_base.specs.Text.{Text}
use Rattle.house_base.proofs.InOrderLemmas.{In, InOrder, map-In, In-get_or, In-Contains, All-from_In, All-In, AllPairs-from_InOrder, InOrder-filter, InOrder-map}
use Rattle.house_model.specs.Register.{Register, IsRegister, persons, own_count, own_people, people, owners, owners_from, entry, cluster_of, all_placed, square_of, open_setting, registered_setting}
use Rattle.house_model.proofs.GroupLemmas.{In-group}
use Rattle.house_model.proofs.RegisterPeopleLemmas.{person_in, numbered, own_entries, entries, map-map, people-entries, entries-In, length-people, Apart-persons, Apart-names, Apart-numbers, number_below, number_among, length-own_people, own_count-some, cluster_of-placed, person_among, InOrder-enumerate_from}

-- A register whose persons all have their clusters makes a setting.

-- what a call of these numbers and a register need, so that they make a setting
pub record MakesSetting (seats clusters reviews : ℕ) (reg : Register) : Type 0 where
  pub register : IsRegister reg
  pub some : 1 ≤ length reg.applicants
  pub placed : IsTrue (all_placed reg)
  pub seats_in_range : (1 ≤ seats) × (seats ≤ MOST_SEATS)
  pub clusters_in_range : (FEWEST_CLUSTERS ≤ clusters) × (clusters ≤ MOST_CLUSTERS)
  pub reviews_in_range : (1 ≤ reviews) × (reviews ≤ MOST_REVIEWS)
  pub places_in_range : All (λ p. (1 ≤ p.1) × (p.1 ≤ clusters)) reg.placed

-- a field of the element at an index
pub field_at : {X : Type 0} (f : X → ℕ) (xs : List X) (k : ℕ) → option_map_or f (slice_get xs k) 0 ≡ get_or (map f xs) k 0
field_at f [] k = refl
field_at f (x ∷ xs) zero = refl
field_at f (x ∷ xs) (suc k) = field_at f xs k

pub cluster_at-get_or : (s : Setting) (place : ℕ) → cluster_at s place ≡ get_or (map (λ person. person.cluster) s.people) place 0
unfolding cluster_at
cluster_at-get_or s place = field_at (λ person. person.cluster) s.people place

pub number_at-get_or : (s : Setting) (place : ℕ) → number_at s place ≡ get_or (map (λ person. person.number) s.people) place 0
unfolding number_at
number_at-get_or s place = field_at (λ person. person.number) s.people place

-- Persons, one after another.

pub names-owners_from : (reg : Register) (first : ℕ) (ps : List Text) → map (λ owner. owner.name) (owners_from reg first ps) ≡ ps
names-owners_from reg first [] = refl
names-owners_from reg first (p ∷ ps) = ap (λ l. p ∷ l) (names-owners_from reg (first + own_count reg p) ps)

pub In-owners_from : (reg : Register) (first : ℕ) (ps : List Text) (owner : Owner) → In owner (owners_from reg first ps) → In owner.name ps × (owner.own ≡ own_count reg owner.name)
In-owners_from reg first [] owner m = absurd m
In-owners_from reg first (p ∷ ps) owner m =
    elim m [
      | inl e ↦ (inl (ap (λ o. o.name) e), ap (λ o. o.own) e ∙ ap (own_count reg) (sym (ap (λ o. o.name) e)))
      | inr there ↦ let r = In-owners_from reg (first + own_count reg p) ps owner there in (inr r.0, r.1)
    ]

pub in_turn : (reg : Register) (first : ℕ) (ps : List Text) (n : ℕ) → first + length (flat_map (own_people reg) ps) ≡ n → StandInTurn first (owners_from reg first ps) n
in_turn reg first [] n e = let z : first ≡ first + 0 = omega arith in z ∙ e
in_turn reg first (p ∷ ps) n e = (
  refl,
  in_turn reg (first + own_count reg p) ps n
      (omega (arith, e, length-append (own_people reg p) (flat_map (own_people reg) ps), length-own_people reg p)),
)

-- what stands at a person's places: its own people
pub own_place : {Y : Type 0} (f : Person → Y) (d : Y) (reg : Register) (first : ℕ) (ps : List Text) (front : List Person) (owner : Owner) (place : ℕ)
    → length front ≡ first → In owner (owners_from reg first ps) → IsOwned owner place
    → (k : ℕ) × (place ≡ owner.first + k) × (k < length (own_people reg owner.name)) × (get_or (map f (front ++ flat_map (own_people reg) ps)) place d ≡ get_or (map f (own_people reg owner.name)) k d)
own_place f d reg first [] front owner place whole m owned = absurd m
own_place {Y} f d reg first (p ∷ ps) front owner place whole m owned =
    elim m [
      | inl e ↦
          let named = ap (λ o. o.name) e in
          let starts = ap (λ o. o.first) e in
          let many = ap (λ o. o.own) e in
          let k = place - first in
          let before = length-map front f in
          let here = length-map (own_people reg p) f in
          let mine = length-own_people reg p in
          let below : k < length (map f (own_people reg p)) = omega (arith, owned.0, owned.1) in
          let at : place ≡ length (map f front) + k = omega (arith, owned.0) in
          let read : get_or (map f (front ++ (own_people reg p ++ flat_map (own_people reg) ps))) place d ≡ get_or (map f (own_people reg p)) k d =
          ap (λ l. get_or l place d) (map-append f front (own_people reg p ++ flat_map (own_people reg) ps))
          ∙ (ap (λ i. get_or (map f front ++ map f (own_people reg p ++ flat_map (own_people reg) ps)) i d) at
          ∙ (get_or-append-add (map f front) (map f (own_people reg p ++ flat_map (own_people reg) ps)) k d
          ∙ (ap (λ l. get_or l k d) (map-append f (own_people reg p) (flat_map (own_people reg) ps))
          ∙ get_or_append_left (map f (own_people reg p)) (map f (flat_map (own_people reg) ps)) d k below))) in
          let P : Text → Type 0 = λ t. (k < length (own_people reg t)) × (get_or (map f (front ++ (own_people reg p ++ flat_map (own_people reg) ps))) place d ≡ get_or (map f (own_people reg t)) k d) in
          let both = subst P (sym named) (omega arith, read) in
          (k, omega (arith, owned.0), both.0, both.1)
      | inr there ↦
          let longer = front ++ own_people reg p in
          let r = own_place f d reg (first + own_count reg p) ps longer owner place (omega (arith, length-append front (own_people reg p), length-own_people reg p)) there owned in
          (r.0, r.1, r.2, ap (λ l. get_or (map f l) place d) (sym (append_assoc front (own_people reg p) (flat_map (own_people reg) ps))) ∙ r.3)
    ]

-- all of one person's people have its cluster
pub own_cluster : (reg : Register) (person : Text) (k : ℕ) → k < length (own_people reg person) → get_or (map (λ p. p.cluster) (own_people reg person)) k 0 ≡ cluster_of reg person
unfolding own_people
own_cluster reg person k l =
    let listed = map-map (λ p. p.cluster) (entry reg) (own_entries reg person) in
    let m = In-get_or (map (λ p. p.cluster) (own_people reg person)) k 0 (omega (arith, l, length-map (own_people reg person) (λ p. p.cluster))) in
    let r = map-In (λ e. cluster_of reg e.1.1) (get_or (map (λ p. p.cluster) (own_people reg person)) k 0) (own_entries reg person) (subst (λ w. In (get_or (map (λ p. p.cluster) (own_people reg person)) k 0) w) listed m) in
    r.2 ∙ ap (cluster_of reg) (In-group person_in (numbered reg) person r.0 r.1).1

-- one person's people stand by rising numbers
pub own_rising : (reg : Register) (person : Text) → InOrder (λ a b. a < b) (map (λ p. p.number) (own_people reg person))
unfolding own_people
own_rising reg person =
    subst (λ l. InOrder (λ a b. a < b) l) (sym (map-map (λ p. p.number) (entry reg) (own_entries reg person)))
    (InOrder-map (λ a b. a < b) (λ e. e.0) (own_entries reg person)
    (InOrder-filter (λ a b. a.0 < b.0) (λ e. bytes_eq e.1.1 person) (numbered reg) (InOrder-enumerate_from 0 reg.applicants)))

-- what holds of a list element by element, and pair by pair
module _ (seats clusters reviews : ℕ) (reg : Register) (h : MakesSetting seats clusters reviews reg) where
  people_in_clusters : (person : Person) → In person (people reg) → (1 ≤ person.cluster) × (person.cluster ≤ clusters)
  people_in_clusters person m =
      let r = map-In (entry reg) person (entries reg) (subst (λ l. In person l) (people-entries reg) m) in
      let key = person_among reg r.0 (entries-In reg r.0 r.1) in
      let p = cluster_of-placed reg r.0.1.1 h.placed key in
      let bounds = All-In (λ q. (1 ≤ q.1) × (q.1 ≤ clusters)) reg.placed p.0 h.places_in_range p.1 in
      let P : ℕ → Type 0 = λ n. (1 ≤ n) × (n ≤ clusters) in
      subst P (sym (ap (λ q. q.cluster) r.2 ∙ p.2)) bounds

  owner_has_own : (owner : Owner) → In owner (owners_from reg 0 (persons reg)) → (1 ≤ owner.own) × (owner.own ≤ MOST_OWN)
  owner_has_own owner m =
      let r = In-owners_from reg 0 (persons reg) owner m in
      (omega (arith, r.1, own_count-some reg owner.name r.0), omega (arith, r.1, h.register.own owner.name))

  -- what a person's places hold, in the setting
  place_of_own : (f : Person → ℕ) (owner : Owner) (place : ℕ) → In owner (owners_from reg 0 (persons reg)) → IsOwned owner place
      → (k : ℕ) × (place ≡ owner.first + k) × (k < length (own_people reg owner.name)) × (get_or (map f (people reg)) place 0 ≡ get_or (map f (own_people reg owner.name)) k 0)
  unfolding people
  place_of_own f owner place m owned = own_place f 0 reg 0 (persons reg) [] owner place refl m owned

  first_owned : (owner : Owner) → In owner (owners_from reg 0 (persons reg)) → IsOwned owner owner.first
  first_owned owner m = let own = owner_has_own owner m in (omega arith, omega (arith, own.0))

  owner_in_cluster : (owner : Owner) (place : ℕ) → In owner (owners_from reg 0 (persons reg)) → IsOwned owner place
      → get_or (map (λ p. p.cluster) (people reg)) place 0 ≡ cluster_of reg owner.name
  owner_in_cluster owner place m owned =
      let r = place_of_own (λ p. p.cluster) owner place m owned in
      r.3 ∙ own_cluster reg owner.name r.0 r.2

  owner_rises : (owner : Owner) (place : ℕ) → In owner (owners_from reg 0 (persons reg)) → IsOwned owner place → IsOwned owner (place + 1)
      → get_or (map (λ p. p.number) (people reg)) place 0 < get_or (map (λ p. p.number) (people reg)) (place + 1) 0
  owner_rises owner place m here there =
      let r = place_of_own (λ p. p.number) owner place m here in
      let s = place_of_own (λ p. p.number) owner (place + 1) m there in
      let numbers = map (λ p. p.number) (own_people reg owner.name) in
      let less = AllPairs-from_InOrder (λ a b. a < b) (map (λ p. p.number) (own_people reg owner.name)) (own_rising reg owner.name) r.0 s.0 0
      (omega (arith, r.1, s.1)) (omega (arith, s.2, length-map (own_people reg owner.name) (λ p. p.number))) in
      omega (arith, r.3, s.3, less)

  people_in_turn : StandInTurn 0 (owners_from reg 0 (persons reg)) (length (people reg))
  unfolding people
  people_in_turn = in_turn reg 0 (persons reg) (length (flat_map (own_people reg) (persons reg))) (omega arith)

  pub IsSetting-registered_setting : IsSetting (registered_setting seats clusters reviews reg)
  unfolding registered_setting open_setting owners square_of
  IsSetting-registered_setting =
      let s = registered_setting seats clusters reviews reg in
      let whole = length-people reg in
      record {
        seats_in_range = h.seats_in_range;
        clusters_in_range = h.clusters_in_range;
        reviews_in_range = h.reviews_in_range;
        some = omega (arith, length-people reg, h.some);
        few = omega (arith, length-people reg, h.register.few);
        names_differ = AllPairs-from_InOrder (λ a b. a ≢ b) (map (λ person. person.name) (people reg)) (Apart-names reg h.register);
        clusters = All-from_In (λ person. (1 ≤ person.cluster) × (person.cluster ≤ clusters)) (people reg) people_in_clusters;
        numbers_differ = AllPairs-from_InOrder (λ a b. a ≢ b) (map (λ person. person.number) (people reg)) (Apart-numbers reg);
        numbers_below = All-from_In (λ number. number < length (people reg)) (map (λ person. person.number) (people reg))
            (λ number m. omega (arith, length-people reg, number_below reg number m));
        each_number = λ number l. In-Contains number (map (λ person. person.number) (people reg)) (number_among reg number (omega (arith, l, length-people reg)));
        square = sym (length-people reg);
        owners_differ = subst (λ l. AllPairs (λ a b. a ≢ b) l) (sym (names-owners_from reg 0 (persons reg)))
            (AllPairs-from_InOrder (λ a b. a ≢ b) (persons reg) (Apart-persons reg));
        own = All-from_In (λ owner. (1 ≤ owner.own) × (owner.own ≤ MOST_OWN)) (owners_from reg 0 (persons reg)) owner_has_own;
        in_turn = people_in_turn;
        one_cluster = All-from_In (λ owner. (place : ℕ) → IsOwned owner place → cluster_at s place ≡ cluster_at s owner.first) (owners_from reg 0 (persons reg))
            (λ owner m place owned. cluster_at-get_or s place ∙ (owner_in_cluster owner place m owned
            ∙ sym (cluster_at-get_or s owner.first ∙ owner_in_cluster owner owner.first m (first_owned owner m))));
        rising = All-from_In (λ owner. (place : ℕ) → IsOwned owner place → IsOwned owner (place + 1) → number_at s place < number_at s (place + 1)) (owners_from reg 0 (persons reg))
            (λ owner m place here there. rw (number_at-get_or s place, number_at-get_or s (place + 1)) (owner_rises owner place m here there));
      }
