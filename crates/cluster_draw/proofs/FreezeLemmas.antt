use Rattle.std.proofs.Common.{◌≢◌, Contains, AllPairs, ◌≡◌, ℕ, ◌+◌, ◌*◌, ◌<◌, ◌≤◌, true, ◌||◌, is_some, List, [], ◌∷◌, length, map, flat_map, All, Option, Some, None, slice_get, option_map, refl, sym, ap, ◌∙◌, subst, inl, inr, arith, length-append}
use Rattle.std.specs.List.Sorted.{IsPermutation}
use Rattle.std.proofs.lemmas.List.{length-map}
use Rattle.std.proofs.lemmas.List.Sorted.{length_permutation}
use Rattle.std.proofs.lemmas.Option.{slice_get-map, same_Some}
use Rattle.house_base.specs.declared.limits.TheConstants.{DOLLAR, MOST_SEATS, FEWEST_CLUSTERS, MOST_CLUSTERS, MOST_REVIEWS}
use Rattle.house_base.specs.declared.call.Call.{Call}
use Rattle.house_base.specs.declared.plan.Person.{Person}
use Rattle.house_base.specs.declared.plan.Owner.{Owner}
use Rattle.house_base.specs.Grid.{Square, cell}
use Rattle.house_base.specs.Setting.{Setting, IsSetting}
use Rattle.house_base.specs.Text.{Text}
use Rattle.house_base.proofs.InOrderLemmas.{In, All-In}
use Rattle.peer_selection.specs.Profile.{denominator}
use Rattle.house_model.specs.Naming.{HasNamesOf}
use Rattle.house_model.specs.Register.{Register, IsRegister, persons, own_count, own_people, owners_from, all_placed}
use Rattle.house_model.specs.Said.{denominator_of}
use Rattle.house_model.specs.Seeds.{drawn_persons, drawn_register, seeded_persons, seeded_register, seeded_setting, open_setting_in, setting_in}
use Rattle.house_model.proofs.AtIndexLemmas.{In-slice_get}
use Rattle.house_model.proofs.OrderedLemmas.{IsOrder, people_in, length-people_in, name_of_number_in, IsSetting-setting_in, HasNamesOf-setting_in}
use Rattle.house_model.proofs.RegisterPeopleLemmas.{length-own_people, own_count-some}
use Rattle.house_model.proofs.RegisterSettingLemmas.{MakesSetting, names-owners_from}
use Rattle.house_model.proofs.SeedLemmas.{IsOrder-permutation, IsOrder-seeded, MakesSetting-drawn, setting_in-seeded}
use Rattle.cluster_draw.specs.Barred.{is_barred}
use Rattle.cluster_draw.specs.Placings.{name_of, names_of, ArePlacings, applicants_in, numbers_in, AreApplicants, AreReviewers}
use Rattle.cluster_draw.specs.declared.placings.Placing.{Placing}
use Rattle.cluster_draw.proofs.PeopleLemmas.{applicants_in-people}
use Rattle.cluster_draw.proofs.SettingLemmas.{OfPersons, setting_in-parts}

-- The setting of a register from its placings, with a seed or without one.

-- what is known of a register, a call's numbers and the placings
pub record Frozen (seed : Option Text) (seats clusters reviews : ℕ) (reg : Register) (ps : List Placing) : Type 0 where
  pub register : IsRegister reg
  pub some : 1 ≤ length reg.applicants
  pub placed : (is_some seed || all_placed reg) ≡ true
  pub seats_in_range : (1 ≤ seats) × (seats ≤ MOST_SEATS)
  pub clusters_in_range : (FEWEST_CLUSTERS ≤ clusters) × (clusters ≤ MOST_CLUSTERS)
  pub reviews_in_range : (1 ≤ reviews) × (reviews ≤ MOST_REVIEWS)
  pub places_in_range : All (λ p. (1 ≤ p.1) × (p.1 ≤ clusters)) reg.placed
  pub conflicts : OfPersons reg
  pub placings : ArePlacings (seeded_register seed clusters reg) (seeded_persons seed reg) ps
  pub order : IsPermutation (persons reg) (seeded_persons seed reg)

pub frozen : (seed : Option Text) (call : Call) (reg : Register) (ps : List Placing) → IsRegister reg → OfPersons reg → 1 ≤ length reg.applicants
    → (is_some seed || all_placed reg) ≡ true → All (λ p. (1 ≤ p.1) × (p.1 ≤ call.clusters)) reg.placed
    → ArePlacings (seeded_register seed call.clusters reg) (seeded_persons seed reg) ps → IsPermutation (persons reg) (seeded_persons seed reg)
    → Frozen seed call.seats call.clusters call.reviews reg ps
frozen seed call reg ps register conflicts some placed in_range placings order = record {
  register = register;
  some = some;
  placed = placed;
  seats_in_range = call.seats_in_range;
  clusters_in_range = call.clusters_in_range;
  reviews_in_range = call.reviews_in_range;
  places_in_range = in_range;
  conflicts = conflicts;
  placings = placings;
  order = order;
}

makes : (seed : Option Text) (seats clusters reviews : ℕ) (reg : Register) (placings : List Placing) → Frozen seed seats clusters reviews reg placings
    → MakesSetting seats clusters reviews (seeded_register seed clusters reg)
makes None seats clusters reviews reg placings f = record {
  register = f.register;
  some = f.some;
  placed = f.placed;
  seats_in_range = f.seats_in_range;
  clusters_in_range = f.clusters_in_range;
  reviews_in_range = f.reviews_in_range;
  places_in_range = f.places_in_range;
}
makes (Some seed) seats clusters reviews reg placings f = MakesSetting-drawn seats clusters reviews seed reg (record {
  register = f.register;
  some = f.some;
  seats_in_range = f.seats_in_range;
  clusters_in_range = f.clusters_in_range;
  reviews_in_range = f.reviews_in_range;
})

-- what stays the same when the clusters are drawn

same_applicants : (seed : Option Text) (clusters : ℕ) (reg : Register) → (seeded_register seed clusters reg).applicants ≡ reg.applicants
unfolding drawn_register
same_applicants None clusters reg = refl
same_applicants (Some seed) clusters reg = refl

same_names : (seed : Option Text) (clusters : ℕ) (reg : Register) (placings : List Placing) → names_of (seeded_register seed clusters reg) placings ≡ names_of reg placings
unfolding drawn_register persons
same_names None clusters reg placings = refl
same_names (Some seed) clusters reg placings = refl

same_persons : (seed : Option Text) (clusters : ℕ) (reg : Register) → persons (seeded_register seed clusters reg) ≡ persons reg
unfolding drawn_register persons
same_persons None clusters reg = refl
same_persons (Some seed) clusters reg = refl

same_people : (seed : Option Text) (clusters : ℕ) (reg : Register) (placings : List Placing) → applicants_in (seeded_register seed clusters reg) placings ≡ applicants_in reg placings
unfolding drawn_register persons applicants_in
same_people None clusters reg placings = refl
same_people (Some seed) clusters reg placings = refl

same_count : (seed : Option Text) (clusters : ℕ) (reg : Register) (t : Text) → own_count (seeded_register seed clusters reg) t ≡ own_count reg t
unfolding drawn_register own_count
same_count None clusters reg t = refl
same_count (Some seed) clusters reg t = refl

same_owners : (a b : Register) (first : ℕ) (ps : List Text) → ((t : Text) → own_count a t ≡ own_count b t) → owners_from a first ps ≡ owners_from b first ps
same_owners a b first [] h = refl
same_owners a b first (p ∷ ps) h =
    ap (λ n. record { name = p; first = first; own = n } ∷ owners_from a (first + n) ps) (h p)
    ∙ ap (λ l. record { name = p; first = first; own = own_count b p } ∷ l) (same_owners a b (first + own_count b p) ps h)

first_within : (reg : Register) (first : ℕ) (ps : List Text) (owner : Owner) → ((p : Text) → In p ps → 1 ≤ own_count reg p)
    → In owner (owners_from reg first ps) → owner.first < first + length (flat_map (own_people reg) ps)
first_within reg first [] owner some m = absurd m
first_within reg first (p ∷ ps) owner some m =
    let whole = length-append (own_people reg p) (flat_map (own_people reg) ps) in
    elim m [
      | inl e ↦ omega (arith, ap (λ o. o.first) e, some p (inl refl), length-own_people reg p, whole)
      | inr there ↦ omega (arith, first_within reg (first + own_count reg p) ps owner (λ q qm. some q (inr qm)) there, length-own_people reg p, whole)
    ]

module _ (seed : Option Text) (seats clusters reviews : ℕ) (reg : Register) (placings : List Placing) (f : Frozen seed seats clusters reviews reg placings) where
  named : names_of reg placings ≡ seeded_persons seed reg
  named = sym (same_names seed clusters reg placings) ∙ f.placings.named

  pub known : All (λ placing. placing.person < length (persons reg)) placings
  known = subst (λ ps. All (λ placing. placing.person < length ps) placings) (same_persons seed clusters reg) f.placings.known

  people_are : applicants_in reg placings ≡ people_in (seeded_register seed clusters reg) (seeded_persons seed reg)
  people_are = sym (same_people seed clusters reg placings) ∙ applicants_in-people (seeded_register seed clusters reg) (seeded_persons seed reg) placings f.placings

  owners_are : owners_from reg 0 (names_of reg placings) ≡ owners_from (seeded_register seed clusters reg) 0 (seeded_persons seed reg)
  owners_are =
      ap (owners_from reg 0) named
      ∙ sym (same_owners (seeded_register seed clusters reg) reg 0 (seeded_persons seed reg) (same_count seed clusters reg))

  in_order : IsOrder (seeded_register seed clusters reg) (seeded_persons seed reg)
  in_order = IsOrder-seeded seed clusters reg f.order

  -- the numbers of the applicants are those of the register, each once
  numbers_frozen : (people : List Person) → people ≡ people_in (seeded_register seed clusters reg) (seeded_persons seed reg)
      → All (λ number. number < length people) (numbers_in people) × AllPairs (λ a b. a ≢ b) (numbers_in people) × ((number : ℕ) → number < length people → Contains (numbers_in people) number)
  unfolding setting_in open_setting_in
  numbers_frozen people e =
      let s = IsSetting-setting_in seats clusters reviews (seeded_register seed clusters reg) (seeded_persons seed reg) (makes seed seats clusters reviews reg placings f) in_order in
      let P : List Person → Type 0 = λ l. All (λ number. number < length l) (numbers_in l) × AllPairs (λ a b. a ≢ b) (numbers_in l) × ((number : ℕ) → number < length l → Contains (numbers_in l) number) in
      subst P (sym e) (s.numbers_below, s.numbers_differ, s.each_number)

  pub AreApplicants-frozen : (people : List Person) → people ≡ applicants_in reg placings → AreApplicants reg people
  AreApplicants-frozen people e =
      let drawn = seeded_register seed clusters reg in
      let all = e ∙ people_are in
      record {
        numbers_below = (numbers_frozen people all).0;
        numbers_differ = (numbers_frozen people all).1;
        each_number = (numbers_frozen people all).2;
        many = ap length all ∙ (length-people_in (seeded_register seed clusters reg) (seeded_persons seed reg) in_order ∙ ap length (same_applicants seed clusters reg));
        named = λ place person at.
            ap (λ l. slice_get (map (λ a. a.0) l) person.number) (sym (same_applicants seed clusters reg))
            ∙ name_of_number_in (seeded_register seed clusters reg) (seeded_persons seed reg) in_order person
            (subst (λ l. In person l) all (In-slice_get people place person at));
      }

  pub AreReviewers-frozen : (owners : List Owner) → owners ≡ owners_from reg 0 (names_of reg placings) → AreReviewers reg placings owners
  AreReviewers-frozen owners e =
      let their_names = ap (map (λ o. o.name)) e ∙ names-owners_from reg 0 (names_of reg placings) in
      let order = IsOrder-permutation reg (seeded_persons seed reg) f.order in
      record {
        many = sym (length-map owners (λ o. o.name)) ∙ (ap length their_names ∙ length-map placings (name_of reg));
        known = λ index placing at. All-In (λ p. p.person < length (persons reg)) placings placing known (In-slice_get placings index placing at);
        named = λ index placing owner here at.
            let left : slice_get (names_of reg placings) index ≡ Some (name_of reg placing) = slice_get-map (name_of reg) placings index ∙ ap (option_map (name_of reg)) here in
            let right : slice_get (map (λ o. o.name) owners) index ≡ Some owner.name = slice_get-map (λ o. o.name) owners index ∙ ap (option_map (λ o. o.name)) at in
            same_Some (name_of reg placing) owner.name (sym left ∙ (ap (λ l. slice_get l index) (sym their_names) ∙ right));
        first = λ index owner at.
            let m = subst (λ l. In owner l) (e ∙ ap (owners_from reg 0) named) (In-slice_get owners index owner at) in
            let within = first_within reg 0 (seeded_persons seed reg) owner (λ p pm. own_count-some reg p (order.only p pm)) m in
            omega (arith, within, length-people_in reg (seeded_persons seed reg) order);
      }

  pub IsSetting-frozen : IsSetting (seeded_setting seed seats clusters reviews reg)
  IsSetting-frozen =
      subst (λ s. IsSetting s) (setting_in-seeded seed seats clusters reviews reg)
      (IsSetting-setting_in seats clusters reviews (seeded_register seed clusters reg) (seeded_persons seed reg) (makes seed seats clusters reviews reg placings f) in_order)

  pub HasNamesOf-frozen : HasNamesOf reg.applicants (seeded_setting seed seats clusters reviews reg)
  HasNamesOf-frozen =
      subst (λ l. HasNamesOf l (seeded_setting seed seats clusters reviews reg)) (same_applicants seed clusters reg)
      (subst (λ s. HasNamesOf (seeded_register seed clusters reg).applicants s) (setting_in-seeded seed seats clusters reviews reg)
      (HasNamesOf-setting_in (seeded_register seed clusters reg) (seeded_persons seed reg) in_order seats clusters reviews))

  pub denominator-frozen : denominator (seeded_setting seed seats clusters reviews reg) ≡ denominator_of reg
  unfolding denominator denominator_of setting_in open_setting_in
  denominator-frozen =
      let order = seeded_persons seed reg in
      let owners = owners_from (seeded_register seed clusters reg) 0 order in
      ap (λ s. length s.owners * DOLLAR) (sym (setting_in-seeded seed seats clusters reviews reg))
      ∙ ap (λ n. n * DOLLAR)
      (sym (length-map owners (λ o. o.name)) ∙ (ap length (names-owners_from (seeded_register seed clusters reg) 0 order) ∙ length_permutation (persons reg) order f.order))

parts : (seed : Option Text) (seats clusters reviews : ℕ) (reg : Register) (placings : List Placing) (f : Frozen seed seats clusters reviews reg placings)
    (ps : List Person) (os : List Owner) (barred : Square)
    → ps ≡ people_in (seeded_register seed clusters reg) (seeded_persons seed reg) → os ≡ owners_from (seeded_register seed clusters reg) 0 (seeded_persons seed reg)
    → barred.side ≡ length reg.applicants → length barred.cells ≡ barred.side * barred.side
    → ((r p : ℕ) → r < length reg.applicants → p < length reg.applicants → cell barred r p ≡ is_barred reg.barred ps os r p)
    → ◌≡◌ {A = Setting} (record { seats = seats; clusters = clusters; reviews = reviews; people = ps; owners = os; barred = barred })
    (setting_in (seeded_persons seed reg) seats clusters reviews (seeded_register seed clusters reg))
unfolding drawn_register persons
parts None seats clusters reviews reg placings f ps os barred those theirs side many each =
    setting_in-parts (persons reg) seats clusters reviews reg (makes None seats clusters reviews reg placings f) (IsOrder-seeded None clusters reg f.order) f.conflicts ps os barred those theirs side many each
parts (Some seed) seats clusters reviews reg placings f ps os barred those theirs side many each =
    setting_in-parts (drawn_persons seed reg) seats clusters reviews (drawn_register seed clusters reg) (makes (Some seed) seats clusters reviews reg placings f)
    (IsOrder-seeded (Some seed) clusters reg f.order) f.conflicts ps os barred those theirs side many each

-- the setting from its parts
pub setting_frozen : (seed : Option Text) (seats clusters reviews : ℕ) (reg : Register) (placings : List Placing) → Frozen seed seats clusters reviews reg placings
    → (ps : List Person) (os : List Owner) (barred : Square) → ps ≡ applicants_in reg placings → os ≡ owners_from reg 0 (names_of reg placings)
    → barred.side ≡ length reg.applicants → length barred.cells ≡ barred.side * barred.side
    → ((r p : ℕ) → r < length reg.applicants → p < length reg.applicants → cell barred r p ≡ is_barred reg.barred ps os r p)
    → ◌≡◌ {A = Setting} (record { seats = seats; clusters = clusters; reviews = reviews; people = ps; owners = os; barred = barred }) (seeded_setting seed seats clusters reviews reg)
setting_frozen seed seats clusters reviews reg placings f ps os barred those theirs side many each =
    parts seed seats clusters reviews reg placings f ps os barred (those ∙ people_are seed seats clusters reviews reg placings f)
    (theirs ∙ owners_are seed seats clusters reviews reg placings f) side many each
    ∙ setting_in-seeded seed seats clusters reviews reg
