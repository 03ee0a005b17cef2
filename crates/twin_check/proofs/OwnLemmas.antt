-- The applicants of a person: by the register of lines, and by the rows of their outcome.
use Rattle.std.proofs.Common.{◌≡◌, ℕ, ◌<◌, ◌≤◌, Bool, true, false, not, cond, List, [], ◌∷◌, length, map, filter, bytes_eq, Option, Some, None, slice_get, refl, sym, ap, ◌∙◌, subst, inl, inr, arith, zero-add}
use Rattle.std.specs.Option.{option_map, option_map_or}
use Rattle.std.proofs.lemmas.Bool.{cases_Bool}
use Rattle.std.proofs.lemmas.List.{length-map}
use Rattle.std.proofs.lemmas.List.Sums.{length-filter}
use Rattle.std.proofs.lemmas.Option.{same_Some, slice_get-map}
use Rattle.house_base.specs.Setting.{IsSetting, Setting, size}
use Rattle.house_base.specs.Text.{Text, among}
use Rattle.house_base.specs.declared.limits.TheConstants.{MOST_OWN}
use Rattle.house_base.specs.declared.plan.Owner.{Owner}
use Rattle.house_base.proofs.AmongLemmas.{among-In, bytes_eq-other, not_In}
use Rattle.house_base.proofs.InOrderLemmas.{All-In, In, In-map, map-In}
use Rattle.peer_selection.specs.Counting.{count_below, numbers_below}
use Rattle.peer_selection.specs.Lottery.{chance}
use Rattle.peer_selection.proofs.CountingLemmas.{count_by-numbers_below}
use Rattle.house_model.specs.Register.{Register, own_count, owners_from, person_of, persons}
use Rattle.house_model.specs.Report.{applicant_row, applicant_rows_of, person_at, place_of_number}
use Rattle.house_model.specs.Reviews.{profile}
use Rattle.house_model.specs.Said.{clusters_of, register, reviews_of, seats_of, seed_of, setting}
use Rattle.house_model.specs.Seeds.{drawn_register, open_setting_in, seeded_persons, seeded_register, setting_in}
use Rattle.house_model.specs.Text.{Lines, is_empty}
use Rattle.house_model.proofs.GroupLemmas.{filter-none}
use Rattle.house_model.proofs.NamedPlaceLemmas.{HasNamesOf-setting, person-by_number}
use Rattle.house_model.proofs.PrintedCallLemmas.{below-In}
use Rattle.house_model.proofs.RegisterLemmas.{among_persons, their_persons}
use Rattle.house_model.proofs.RegisterPeopleLemmas.{map-map, numbered, own_count-some, sum_by-enumerate_from}
use Rattle.house_model.proofs.RegisterPlaceLemmas.{count_below-start, count_by-enumerate_from, person_of-at, sum_by-agree}
use Rattle.house_model.proofs.RegisterSettingLemmas.{In-owners_from, names-owners_from}
use Rattle.house_model.proofs.SeedLemmas.{IsOrder-seeded, persons-drawn, setting_in-seeded}
use Rattle.house_model.proofs.SeededSettingLemmas.{seeded_persons-moves}
use Rattle.twin_check.specs.Half.{own_chances, own_numbers}
use Rattle.twin_check.specs.Rows.{chances_in}

-- Lists that are kept and mapped.

filter-map : {X Y : Type 0} (test : Y → Bool) (f : X → Y) (xs : List X) → filter test (map f xs) ≡ map f (filter (λ x. test (f x)) xs)
filter-map test f [] = refl
filter-map {X} test f (x ∷ xs) = which (test (f x)) (filter-map test f xs)
  where
    which : (b : Bool) → filter test (map f xs) ≡ map f (filter (λ y. test (f y)) xs) →
        cond b (f x ∷ filter test (map f xs)) (filter test (map f xs)) ≡ map f (cond b (x ∷ filter (λ y. test (f y)) xs) (filter (λ y. test (f y)) xs))
    which true rest = ap (λ ys. f x ∷ ys) rest
    which false rest = rest

filter-agree : {X : Type 0} (p q : X → Bool) (xs : List X) → ((x : X) → In x xs → p x ≡ q x) → filter p xs ≡ filter q xs
filter-agree p q [] h = refl
filter-agree p q (x ∷ xs) h =
    ap (λ b. cond b (x ∷ filter p xs) (filter p xs)) (h x (inl refl))
    ∙ ap (λ ys. cond (q x) (x ∷ ys) ys) (filter-agree p q xs (λ y m. h y (inr m)))

-- The persons by number.

mapped : (o : Option (Text × Text)) (t : Text) → option_map (λ a. a.1) o ≡ Some t → option_map_or (λ a. a.1) o [] ≡ t
mapped None t h = absurd (cc)
mapped (Some a) t h = same_Some a.1 t h

pub person_of-place : (lines : Lines) (i : ℕ) → IsSetting (setting lines) → i < size (setting lines) →
    person_at (setting lines) (place_of_number (setting lines) i) ≡ person_of (register lines) i
unfolding person_of
person_of-place lines i is l =
    let apps = (register lines).applicants in
    let at = person-by_number apps (setting lines) (HasNamesOf-setting lines) is i l in
    sym (mapped (slice_get apps i) _ (sym (slice_get-map (λ a. a.1) apps i) ∙ at))

-- the rows have the chances of the person's applicants
pub chances_of_rows : (name : Text) (lines : Lines) (v : ℕ) → IsSetting (setting lines) →
    chances_in name (applicant_rows_of (profile lines) v) ≡ own_chances name lines
unfolding chances_in applicant_rows_of applicant_row profile own_chances own_numbers
chances_of_rows name lines v is =
    let s = setting lines in
    let f = profile lines in
    let row = λ (i : ℕ). applicant_row f v (place_of_number s i) in
    let ns = numbers_below (size s) in
    let by_place = λ (i : ℕ). bytes_eq (person_at s (place_of_number s i)) name in
    let by_register = λ (i : ℕ). bytes_eq (person_of (register lines) i) name in
    let at = λ (i : ℕ). chance f (place_of_number s i) in
    ap (map (λ r. r.chance)) (filter-map (λ r. bytes_eq r.person name) row ns)
    ∙ map-map (λ r. r.chance) row (filter by_place ns)
    ∙ ap (map at) (filter-agree by_place by_register ns (λ i m. ap (λ t. bytes_eq t name) (person_of-place lines i is (below-In (size s) i m))))
    ∙ ap (λ n. map at (filter by_register (numbers_below n))) (HasNamesOf-setting lines).count

-- How many there are.

pub own_numbers-count : (name : Text) (lines : Lines) → length (own_numbers name lines) ≡ own_count (register lines) name
unfolding own_numbers own_count
own_numbers-count name lines =
    let reg = register lines in
    let n = length reg.applicants in
    let test = λ (i : ℕ). bytes_eq (person_of reg i) name in
    let all = length-filter test (numbers_below n) ∙ count_by-numbers_below test n in
    let listed = count_by-enumerate_from test 0 reg.applicants in
    let to_end = ap (count_below test) (zero-add n) in
    let agree = sum_by-agree (λ e. cond (test e.0) 1 0) (λ e. cond (bytes_eq e.1.1 name) 1 0) (numbered reg) (λ e m. ap (λ t. cond (bytes_eq t name) 1 0) (person_of-at reg e m)) in
    let each = sum_by-enumerate_from (λ a. cond (bytes_eq a.1 name) 1 0) 0 reg.applicants in
    omega (arith, all, listed, count_below-start test, to_end, agree, each)

pub own_chances-count : (name : Text) (lines : Lines) → length (own_chances name lines) ≡ own_count (register lines) name
unfolding own_chances
own_chances-count name lines =
    length-map (own_numbers name lines) (λ i. chance (profile lines) (place_of_number (setting lines) i)) ∙ own_numbers-count name lines

-- who is no person has none
own_count-none : (reg : Register) (name : Text) → among (persons reg) name ≡ false → own_count reg name ≡ 0
unfolding own_count
own_count-none reg name none =
    let apart = sym (among_persons reg name) ∙ none in
    let dropped = filter-none (λ a. bytes_eq a.1 name) reg.applicants
    (λ a m. bytes_eq-other a.1 name (λ same. let P : Text → Type 0 = λ t. In t (their_persons reg) in not_In (their_persons reg) name apart (subst P same (In-map (λ x. x.1) a reg.applicants m)))) in
    sym (length-filter (λ a. bytes_eq a.1 name) reg.applicants) ∙ ap length dropped

no_elements : {X : Type 0} (xs : List X) → length xs ≡ 0 → is_empty xs ≡ true
no_elements [] h = refl
no_elements (x ∷ xs) h = absurd (omega arith)

some_elements : {X : Type 0} (xs : List X) → 1 ≤ length xs → is_empty xs ≡ false
some_elements [] h = absurd (omega arith)
some_elements (x ∷ xs) h = refl

-- a person is listed exactly where it has an applicant
pub listed : (name : Text) (lines : Lines) → is_empty (own_chances name lines) ≡ not (among (persons (register lines)) name)
listed name lines =
    let reg = register lines in
    let many = own_chances-count name lines in
    elim (cases_Bool (among (persons reg) name)) [
      | inl known ↦ some_elements (own_chances name lines) (omega (arith, many, own_count-some reg name (among-In (persons reg) name known))) ∙ sym (ap not known)
      | inr none ↦ no_elements (own_chances name lines) (many ∙ own_count-none reg name none) ∙ sym (ap not none)
    ]

-- A person has no more applicants than it may, in lines that give a setting.

seeded_count : (seed : Option Text) (clusters : ℕ) (reg : Register) (name : Text) → own_count (seeded_register seed clusters reg) name ≡ own_count reg name
unfolding drawn_register own_count
seeded_count None clusters reg name = refl
seeded_count (Some seed) clusters reg name = refl

seeded_same : (seed : Option Text) (clusters : ℕ) (reg : Register) → persons (seeded_register seed clusters reg) ≡ persons reg
seeded_same None clusters reg = refl
seeded_same (Some seed) clusters reg = persons-drawn seed clusters reg

setting_owners : (order : List Text) (seats clusters reviews : ℕ) (reg : Register) → (setting_in order seats clusters reviews reg).owners ≡ owners_from reg 0 order
unfolding setting_in open_setting_in
setting_owners order seats clusters reviews reg = refl

few_of : (order : List Text) (reg : Register) (s : Setting) (name : Text) → IsSetting s → s.owners ≡ owners_from reg 0 order → In name order → own_count reg name ≤ MOST_OWN
few_of order reg s name is owners m =
    let named : In name (map (λ (o : Owner). o.name) (owners_from reg 0 order)) = subst (λ ts. In name ts) (sym (names-owners_from reg 0 order)) m in
    let owner = map-In (λ (o : Owner). o.name) name (owners_from reg 0 order) named in
    let own = In-owners_from reg 0 order owner.0 owner.1 in
    let held : In owner.0 s.owners = subst (λ (os : List Owner). In owner.0 os) (sym owners) owner.1 in
    let few = All-In (λ (o : Owner). (1 ≤ o.own) × (o.own ≤ MOST_OWN)) s.owners owner.0 is.own held in
    omega (arith, few.1, own.1, ap (own_count reg) owner.2)

few_persons : (seed : Option Text) (seats clusters reviews : ℕ) (reg : Register) (name : Text) →
    IsSetting (setting_in (seeded_persons seed reg) seats clusters reviews (seeded_register seed clusters reg)) → In name (persons reg) → own_count reg name ≤ MOST_OWN
few_persons seed seats clusters reviews reg name is m =
    let drawn = seeded_register seed clusters reg in
    let order = seeded_persons seed reg in
    let there = (IsOrder-seeded seed clusters reg (seeded_persons-moves seed reg)).each name (subst (λ ts. In name ts) (sym (seeded_same seed clusters reg)) m) in
    let few = few_of order drawn (setting_in order seats clusters reviews drawn) name is (setting_owners order seats clusters reviews drawn) there in
    omega (arith, few, seeded_count seed clusters reg name)

few_own : (name : Text) (lines : Lines) → IsSetting (setting lines) → own_count (register lines) name ≤ MOST_OWN
unfolding setting
few_own name lines is =
    let reg = register lines in
    elim (cases_Bool (among (persons reg) name)) [
      | inl known ↦
          few_persons (seed_of lines) (seats_of lines) (clusters_of lines) (reviews_of lines) reg name
          (subst IsSetting (sym (setting_in-seeded (seed_of lines) (seats_of lines) (clusters_of lines) (reviews_of lines) reg)) is)
          (among-In (persons reg) name known)
      | inr none ↦ omega (arith, own_count-none reg name none)
    ]

pub few_chances : (name : Text) (lines : Lines) → IsSetting (setting lines) → length (own_chances name lines) ≤ MOST_OWN
few_chances name lines is = omega (arith, own_chances-count name lines, few_own name lines is)
