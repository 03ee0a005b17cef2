use Rattle.std.proofs.Common.{◌≡◌, ℕ, ◌+◌, ◌<◌, ◌≤◌, ◌≢◌, List, [], length, get_or, map, flat_map, AllPairs, bytes_eq, sum_by, Some, slice_get, option_map, refl, sym, ap, ◌∙◌, subst, arith}
use Rattle.std.specs.Option.{option_map_or}
use Rattle.std.proofs.lemmas.List.{length-map}
use Rattle.std.proofs.lemmas.List.FromFn.{length-enumerate_from}
use Rattle.std.proofs.lemmas.Option.{slice_get-map, slice_get-get_or}
use Rattle.house_base.specs.declared.limits.TheConstants.{MOST_OWN}
use Rattle.house_base.specs.declared.plan.Person.{Person}
use Rattle.house_base.specs.declared.plan.Owner.{Owner}
use Rattle.house_base.specs.Setting.{IsSetting, IsOwned, StandInTurn, cluster_at, number_at, name_at}
use Rattle.house_base.specs.Text.{Text}
use Rattle.house_base.proofs.InOrderLemmas.{In, Apart, In-map, map-In, In-filter, In-flat_map, flat_map-In, In-get_or, In-Contains, In-from_Contains, All-In, All-from_In, AllPairs-from_InOrder, InOrder-from_AllPairs, InOrder-filter, InOrder-map, map-InOrder, InOrder-weaker, InOrder-flat_map, same_element}
use Rattle.house_base.proofs.AmongLemmas.{bytes_eq-same}
use Rattle.house_model.specs.Naming.{HasNamesOf}
use Rattle.house_model.specs.Register.{Register, IsRegister, names, persons, own_people, owners_from, entry, cluster_of, square_of}
use Rattle.house_model.specs.Seeds.{open_setting_in, setting_in}
use Rattle.house_model.proofs.GroupLemmas.{In-group, sum_by-groups}
use Rattle.house_model.proofs.NamingLemmas.{person_of_own}
use Rattle.house_model.proofs.RegisterPeopleLemmas.{Numbered, person_in, numbered, own_entries, map-map, map-flat_map, length-sum_by, In-enumerate_from, enumerate_from-In, InOrder-enumerate_from, map-enumerate_from, person_among, own_count-some, cluster_of-placed}
use Rattle.house_model.proofs.RegisterPlaceLemmas.{applicant_at}
use Rattle.house_model.proofs.RegisterSettingLemmas.{MakesSetting, cluster_at-get_or, number_at-get_or, names-owners_from, In-owners_from, in_turn, own_place, own_cluster, own_rising}

-- A register whose persons stand in any order of theirs makes a setting.

-- each person of a register once, in some order
pub record IsOrder (reg : Register) (order : List Text) : Type 0 where
  pub apart : Apart order
  pub only : (t : Text) → In t order → In t (persons reg)
  pub each : (t : Text) → In t (persons reg) → In t order

-- the applicants, person by person in this order
abbrev pub entries_in : Register → List Text → List Numbered
entries_in reg order = flat_map (own_entries reg) order

abbrev pub people_in : Register → List Text → List Person
people_in reg order = flat_map (own_people reg) order

module _ (reg : Register) (order : List Text) (o : IsOrder reg order) where
  pub people_in-entries : people_in reg order ≡ map (entry reg) (entries_in reg order)
  unfolding own_people
  people_in-entries = map-flat_map (entry reg) (own_entries reg) order

  entries_in-only : (e : Numbered) → In e (entries_in reg order) → In e (numbered reg)
  entries_in-only e m = let r = flat_map-In (own_entries reg) e order m in (In-group person_in (numbered reg) r.0 e r.2).0

  pub entries_in-each : (e : Numbered) → In e (numbered reg) → In e (entries_in reg order)
  entries_in-each e m =
      In-flat_map (own_entries reg) e.1.1 e order (o.each e.1.1 (person_among reg e m))
      (In-filter (λ x. bytes_eq x.1.1 e.1.1) e (numbered reg) m (bytes_eq-same e.1.1 e.1.1 refl))

  pub sum_by-entries_in : (w : Numbered → ℕ) → sum_by w (entries_in reg order) ≡ sum_by w (numbered reg)
  sum_by-entries_in w = sum_by-groups w person_in (numbered reg) order o.apart (λ e m. o.each e.1.1 (person_among reg e m))

  length-entries_in : length (entries_in reg order) ≡ length reg.applicants
  length-entries_in =
      sym (length-sum_by (entries_in reg order)) ∙ (sum_by-entries_in (λ e. 1) ∙ (length-sum_by (numbered reg) ∙ length-enumerate_from 0 reg.applicants))

  pub length-people_in : length (people_in reg order) ≡ length reg.applicants
  length-people_in = ap length people_in-entries ∙ (length-map (entries_in reg order) (entry reg) ∙ length-entries_in)

  -- what is apart among the applicants is apart in this order
  Apart-entries_in : {Y : Type 0} (f : Numbered → Y) → Apart (map f (numbered reg)) → Apart (map f (entries_in reg order))
  Apart-entries_in {Y} f all =
      let differ : Numbered → Numbered → Type 0 = λ a b. f a ≢ f b in
      let across = InOrder-weaker (λ p q. p ≢ q) (λ p q. (a b : Numbered) → In a (own_entries reg p) → In b (own_entries reg q) → f a ≢ f b) order
      (λ p q pm qm ne a b am bm e.
      let ra = In-group person_in (numbered reg) p a am in
      let rb = In-group person_in (numbered reg) q b bm in
      ne (sym ra.1 ∙ (ap person_in (same_element f (numbered reg) a b all ra.0 rb.0 e) ∙ rb.1))) o.apart in
      InOrder-map (λ a b. a ≢ b) f (entries_in reg order)
      (InOrder-flat_map differ (own_entries reg) order
      (λ p m. InOrder-filter differ (λ x. bytes_eq x.1.1 p) (numbered reg) (map-InOrder (λ a b. a ≢ b) f (numbered reg) all)) across)

  Apart-names_in : IsRegister reg → Apart (map (λ person. person.name) (people_in reg order))
  Apart-names_in h =
      let listed : map (λ e. e.1.0) (numbered reg) ≡ names reg = map-enumerate_from (λ a. a.0) 0 reg.applicants in
      let placed : map (λ person. person.name) (people_in reg order) ≡ map (λ e. e.1.0) (entries_in reg order)
      = ap (map (λ person. person.name)) people_in-entries ∙ map-map (λ person. person.name) (entry reg) (entries_in reg order) in
      subst (λ l. Apart l) (sym placed)
      (Apart-entries_in (λ e. e.1.0) (subst (λ l. Apart l) (sym listed) (InOrder-from_AllPairs (λ a b. a ≢ b) (names reg) h.names_differ)))

  numbers-entries_in : map (λ person. person.number) (people_in reg order) ≡ map (λ e. e.0) (entries_in reg order)
  numbers-entries_in = ap (map (λ person. person.number)) people_in-entries ∙ map-map (λ person. person.number) (entry reg) (entries_in reg order)

  Apart-numbers_in : Apart (map (λ person. person.number) (people_in reg order))
  Apart-numbers_in =
      subst (λ l. Apart l) (sym numbers-entries_in)
      (Apart-entries_in (λ e. e.0) (InOrder-map (λ a b. a ≢ b) (λ e. e.0) (numbered reg)
      (InOrder-weaker (λ a b. a.0 < b.0) (λ a b. a.0 ≢ b.0) (numbered reg) (λ a b am bm less same. omega arith) (InOrder-enumerate_from 0 reg.applicants))))

  number_in-below : (number : ℕ) → In number (map (λ person. person.number) (people_in reg order)) → number < length reg.applicants
  number_in-below number m =
      let r = map-In (λ e. e.0) number (entries_in reg order) (subst (λ l. In number l) numbers-entries_in m) in
      omega (arith, (In-enumerate_from 0 reg.applicants r.0 (entries_in-only r.0 r.1)).1, r.2)

  number_in-among : (number : ℕ) → number < length reg.applicants → In number (map (λ person. person.number) (people_in reg order))
  number_in-among number l =
      let r = enumerate_from-In 0 reg.applicants number l in
      let P : ℕ → Type 0 = λ n. In n (map (λ e. e.0) (entries_in reg order)) in
      subst (λ l. In number l) (sym numbers-entries_in)
      (subst P (let e : 0 + number ≡ number = omega arith in e) (In-map (λ e. e.0) (0 + number, r.0) (entries_in reg order) (entries_in-each (0 + number, r.0) r.1)))

  -- an applicant in this order has the name that stands at its register number
  pub name_of_number_in : (person : Person) → In person (people_in reg order) → slice_get (map (λ a. a.0) reg.applicants) person.number ≡ Some person.name
  name_of_number_in person m =
      let r = map-In (entry reg) person (entries_in reg order) (subst (λ l. In person l) people_in-entries m) in
      let read : slice_get (map (λ a. a.0) reg.applicants) r.0.0 ≡ Some r.0.1.0 =
      slice_get-map (λ a. a.0) reg.applicants r.0.0 ∙ ap (option_map (λ a. a.0)) (applicant_at reg r.0 (entries_in-only r.0 r.1)) in
      ap (slice_get (map (λ a. a.0) reg.applicants)) (ap (λ p. p.number) r.2) ∙ (read ∙ ap Some (sym (ap (λ p. p.name) r.2)))

  -- the applicant at a place of a person belongs to that person in the register
  person_of_place_in : (owner : Owner) (place : ℕ) → In owner (owners_from reg 0 order) → IsOwned owner place
      → slice_get (map (λ a. a.1) reg.applicants) (get_or (map (λ p. p.number) (people_in reg order)) place 0) ≡ Some owner.name
  person_of_place_in owner place m owned =
      let r = own_place (λ p. p.number) 0 reg 0 order [] owner place refl m owned in
      let numbers = map (λ p. p.number) (own_people reg owner.name) in
      ap (slice_get (map (λ a. a.1) reg.applicants)) r.3
      ∙ person_of_own reg owner.name (get_or (map (λ p. p.number) (own_people reg owner.name)) r.0 0)
      (In-get_or (map (λ p. p.number) (own_people reg owner.name)) r.0 0 (omega (arith, r.2, length-map (own_people reg owner.name) (λ p. p.number))))

  pub HasNamesOf-setting_in : (seats clusters reviews : ℕ) → HasNamesOf reg.applicants (setting_in order seats clusters reviews reg)
  unfolding setting_in open_setting_in number_at name_at
  HasNamesOf-setting_in seats clusters reviews =
      let s = setting_in order seats clusters reviews reg in
      let nobody : Person = record { name = []; cluster = 0; number = 0 } in
      record {
        count = length-people_in;
        names = λ place l.
            let here = slice_get-get_or (people_in reg order) place nobody l in
            let m = In-get_or (people_in reg order) place nobody l in
            ap (λ x. slice_get (map (λ a. a.0) reg.applicants) (option_map_or (λ p. p.number) x 0)) here
            ∙ (name_of_number_in (get_or (people_in reg order) place nobody) m
            ∙ sym (ap (λ x. Some (option_map_or (λ p. p.name) x [])) here));
        persons = λ place owner c owned.
            ap (slice_get (map (λ a. a.1) reg.applicants)) (number_at-get_or s place)
            ∙ person_of_place_in owner place (In-from_Contains owner (owners_from reg 0 order) c) owned;
      }

-- what holds of a list element by element, and pair by pair
module _ (seats clusters reviews : ℕ) (reg : Register) (order : List Text) (h : MakesSetting seats clusters reviews reg) (o : IsOrder reg order) where
  people_in_clusters : (person : Person) → In person (people_in reg order) → (1 ≤ person.cluster) × (person.cluster ≤ clusters)
  people_in_clusters person m =
      let r = map-In (entry reg) person (entries_in reg order) (subst (λ l. In person l) (people_in-entries reg order o) m) in
      let key = person_among reg r.0 (entries_in-only reg order o r.0 r.1) in
      let p = cluster_of-placed reg r.0.1.1 h.placed key in
      let bounds = All-In (λ q. (1 ≤ q.1) × (q.1 ≤ clusters)) reg.placed p.0 h.places_in_range p.1 in
      let P : ℕ → Type 0 = λ n. (1 ≤ n) × (n ≤ clusters) in
      subst P (sym (ap (λ q. q.cluster) r.2 ∙ p.2)) bounds

  owner_has_own : (owner : Owner) → In owner (owners_from reg 0 order) → (1 ≤ owner.own) × (owner.own ≤ MOST_OWN)
  owner_has_own owner m =
      let r = In-owners_from reg 0 order owner m in
      (omega (arith, r.1, own_count-some reg owner.name (o.only owner.name r.0)), omega (arith, r.1, h.register.own owner.name))

  -- what a person's places hold, in the setting
  place_of_own : (f : Person → ℕ) (owner : Owner) (place : ℕ) → In owner (owners_from reg 0 order) → IsOwned owner place
      → (k : ℕ) × (place ≡ owner.first + k) × (k < length (own_people reg owner.name)) × (get_or (map f (people_in reg order)) place 0 ≡ get_or (map f (own_people reg owner.name)) k 0)
  place_of_own f owner place m owned = own_place f 0 reg 0 order [] owner place refl m owned

  first_owned : (owner : Owner) → In owner (owners_from reg 0 order) → IsOwned owner owner.first
  first_owned owner m = let own = owner_has_own owner m in (omega arith, omega (arith, own.0))

  owner_in_cluster : (owner : Owner) (place : ℕ) → In owner (owners_from reg 0 order) → IsOwned owner place
      → get_or (map (λ p. p.cluster) (people_in reg order)) place 0 ≡ cluster_of reg owner.name
  owner_in_cluster owner place m owned =
      let r = place_of_own (λ p. p.cluster) owner place m owned in
      r.3 ∙ own_cluster reg owner.name r.0 r.2

  owner_rises : (owner : Owner) (place : ℕ) → In owner (owners_from reg 0 order) → IsOwned owner place → IsOwned owner (place + 1)
      → get_or (map (λ p. p.number) (people_in reg order)) place 0 < get_or (map (λ p. p.number) (people_in reg order)) (place + 1) 0
  owner_rises owner place m here there =
      let r = place_of_own (λ p. p.number) owner place m here in
      let s = place_of_own (λ p. p.number) owner (place + 1) m there in
      let numbers = map (λ p. p.number) (own_people reg owner.name) in
      let less = AllPairs-from_InOrder (λ a b. a < b) (map (λ p. p.number) (own_people reg owner.name)) (own_rising reg owner.name) r.0 s.0 0
      (omega (arith, r.1, s.1)) (omega (arith, s.2, length-map (own_people reg owner.name) (λ p. p.number))) in
      omega (arith, r.3, s.3, less)

  people_in_turn : StandInTurn 0 (owners_from reg 0 order) (length (people_in reg order))
  people_in_turn = in_turn reg 0 order (length (people_in reg order)) (omega arith)

  pub IsSetting-setting_in : IsSetting (setting_in order seats clusters reviews reg)
  unfolding setting_in open_setting_in square_of
  IsSetting-setting_in =
      let s = setting_in order seats clusters reviews reg in
      let whole = length-people_in reg order o in
      record {
        seats_in_range = h.seats_in_range;
        clusters_in_range = h.clusters_in_range;
        reviews_in_range = h.reviews_in_range;
        some = omega (arith, whole, h.some);
        few = omega (arith, whole, h.register.few);
        names_differ = AllPairs-from_InOrder (λ a b. a ≢ b) (map (λ person. person.name) (people_in reg order)) (Apart-names_in reg order o h.register);
        clusters = All-from_In (λ person. (1 ≤ person.cluster) × (person.cluster ≤ clusters)) (people_in reg order) people_in_clusters;
        numbers_differ = AllPairs-from_InOrder (λ a b. a ≢ b) (map (λ person. person.number) (people_in reg order)) (Apart-numbers_in reg order o);
        numbers_below = All-from_In (λ number. number < length (people_in reg order)) (map (λ person. person.number) (people_in reg order))
            (λ number m. omega (arith, whole, number_in-below reg order o number m));
        each_number = λ number l. In-Contains number (map (λ person. person.number) (people_in reg order)) (number_in-among reg order o number (omega (arith, l, whole)));
        square = sym whole;
        owners_differ = subst (λ l. AllPairs (λ a b. a ≢ b) l) (sym (names-owners_from reg 0 order))
            (AllPairs-from_InOrder (λ a b. a ≢ b) order o.apart);
        own = All-from_In (λ owner. (1 ≤ owner.own) × (owner.own ≤ MOST_OWN)) (owners_from reg 0 order) owner_has_own;
        in_turn = people_in_turn;
        one_cluster = All-from_In (λ owner. (place : ℕ) → IsOwned owner place → cluster_at s place ≡ cluster_at s owner.first) (owners_from reg 0 order)
            (λ owner m place owned. cluster_at-get_or s place ∙ (owner_in_cluster owner place m owned
            ∙ sym (cluster_at-get_or s owner.first ∙ owner_in_cluster owner owner.first m (first_owned owner m))));
        rising = All-from_In (λ owner. (place : ℕ) → IsOwned owner place → IsOwned owner (place + 1) → number_at s place < number_at s (place + 1)) (owners_from reg 0 order)
            (λ owner m place here there. rw (number_at-get_or s place, number_at-get_or s (place + 1)) (owner_rises owner place m here there));
      }
