-- Registers that differ in the order and the number of their barred pairs alone give the same.
use Rattle.std.proofs.Common.{◌≡◌, ℕ, ◌+◌, ◌/◌, ◌%◌, ◌*◌, Bool, Option, Some, None, List, [], ◌∷◌, flat_map, length, map, refl, sym, ap, ◌∙◌, subst, All}
use Rattle.std.specs.Prelude.{IsTrue}
use Rattle.house_base.specs.Name.{is_name}
use Rattle.house_base.specs.Setting.{Setting, name_at}
use Rattle.house_base.specs.Text.{Text}
use Rattle.peer_selection.specs.Counting.{numbers_below}
use Rattle.house_model.specs.Register.{Register, names, persons, own_count, placed_names, cluster_of, all_placed, pair_among, own_people, owners_from, name_pair, reviewer_at, square_of}
use Rattle.house_model.specs.Said.{denominator_of}
use Rattle.house_model.specs.Seeds.{key_rank, drawn_cluster, drawn_persons, drawn_register, open_setting_in, setting_in, seeded_persons, seeded_register, seeded_setting}
use Rattle.house_model.proofs.SeedLemmas.{setting_in-seeded}
use Rattle.house_core.specs.Standing.{IsSameRegister}

-- a register without its barred pairs
abbrev unbarred : Register → Register
unbarred reg = record reg { barred = [] }

persons-unbarred : (reg : Register) → persons (unbarred reg) ≡ persons reg
unfolding persons
persons-unbarred reg = refl

own_count-unbarred : (reg : Register) (person : Text) → own_count (unbarred reg) person ≡ own_count reg person
unfolding own_count
own_count-unbarred reg person = refl

all_placed-unbarred : (reg : Register) → all_placed (unbarred reg) ≡ all_placed reg
unfolding all_placed persons
all_placed-unbarred reg = refl

people_in-unbarred : (reg : Register) (order : List Text) → flat_map (own_people (unbarred reg)) order ≡ flat_map (own_people reg) order
unfolding own_people cluster_of
people_in-unbarred reg order = refl

denominator-unbarred : (reg : Register) → denominator_of (unbarred reg) ≡ denominator_of reg
unfolding denominator_of persons
denominator-unbarred reg = refl

module _ (held given : Register) (same : IsSameRegister held given) where
  pub names-same : names held ≡ names given
  names-same = ap (λ (reg : Register). names reg) same.others

  pub applicants-same : length held.applicants ≡ length given.applicants
  applicants-same = ap (λ (reg : Register). length reg.applicants) same.others

  pub persons-same : persons held ≡ persons given
  persons-same = sym (persons-unbarred held) ∙ ap persons same.others ∙ persons-unbarred given

  pub own_count-same : (person : Text) → own_count held person ≡ own_count given person
  own_count-same person = sym (own_count-unbarred held person) ∙ ap (λ reg. own_count reg person) same.others ∙ own_count-unbarred given person

  pub placed-same : placed_names held ≡ placed_names given
  placed-same = ap (λ (reg : Register). placed_names reg) same.others

  pub all_placed-same : all_placed held ≡ all_placed given
  all_placed-same = sym (all_placed-unbarred held) ∙ ap all_placed same.others ∙ all_placed-unbarred given

  pub pairs-same : held.pairs ≡ given.pairs
  pairs-same = ap (λ (reg : Register). reg.pairs) same.others

  pub formed-same : All (λ a. IsTrue (is_name a.0) × IsTrue (is_name a.1)) held.applicants → All (λ a. IsTrue (is_name a.0) × IsTrue (is_name a.1)) given.applicants
  formed-same formed = let P : List (Text × Text) → Type 0 = λ entries. All (λ a. IsTrue (is_name a.0) × IsTrue (is_name a.1)) entries in subst P (ap (λ (reg : Register). reg.applicants) same.others) formed

  pub denominator-same : denominator_of held ≡ denominator_of given
  denominator-same = sym (denominator-unbarred held) ∙ ap denominator_of same.others ∙ denominator-unbarred given

owners_from-unbarred : (reg : Register) (first : ℕ) (ps : List Text) → owners_from (unbarred reg) first ps ≡ owners_from reg first ps
unfolding own_count
owners_from-unbarred reg first [] = refl
owners_from-unbarred reg first (person ∷ others) =
    ap (λ rest. record { name = person; first = first; own = own_count reg person } ∷ rest) (owners_from-unbarred reg (first + own_count reg person) others)

open_setting_in-unbarred : (order : List Text) (seats clusters reviews : ℕ) (reg : Register) →
    open_setting_in order seats clusters reviews (unbarred reg) ≡ open_setting_in order seats clusters reviews reg
unfolding open_setting_in
open_setting_in-unbarred order seats clusters reviews reg = rw (people_in-unbarred reg order, owners_from-unbarred reg 0 order) refl

open_setting_in-same : (order : List Text) (seats clusters reviews : ℕ) (held given : Register) → IsSameRegister held given →
    open_setting_in order seats clusters reviews held ≡ open_setting_in order seats clusters reviews given
open_setting_in-same order seats clusters reviews held given same =
    sym (open_setting_in-unbarred order seats clusters reviews held) ∙ ap (open_setting_in order seats clusters reviews) same.others
    ∙ open_setting_in-unbarred order seats clusters reviews given

name_pair-barred : (s : Setting) (held given : Register) → IsSameRegister held given → (r p : ℕ) → name_pair held.barred s r p ≡ name_pair given.barred s r p
unfolding name_pair
name_pair-barred s held given same r p = same.barred (reviewer_at s r) (name_at s p)

map-same : {X Y : Type 0} (f g : X → Y) → ((x : X) → f x ≡ g x) → (xs : List X) → map f xs ≡ map g xs
map-same f g same [] = refl
map-same f g same (x ∷ xs) = ap (λ y. y ∷ map f xs) (same x) ∙ ap (λ ys. g x ∷ ys) (map-same f g same xs)

square_of-same : (n : ℕ) (a b : ℕ → ℕ → Bool) → ((r p : ℕ) → a r p ≡ b r p) → square_of n a ≡ square_of n b
unfolding square_of
square_of-same n a b same = ap (λ cells. record { side = n; cells = cells }) (map-same (λ i. a (i / n) (i % n)) (λ i. b (i / n) (i % n)) (λ i. same (i / n) (i % n)) (numbers_below (n * n)))

-- the setting, where the persons stand in the same order
setting_in-same : (order : List Text) (seats clusters reviews : ℕ) (held given : Register) → IsSameRegister held given →
    setting_in order seats clusters reviews held ≡ setting_in order seats clusters reviews given
unfolding setting_in
setting_in-same order seats clusters reviews held given same =
    let open_same = open_setting_in-same order seats clusters reviews held given same in
    let barred : square_of (length held.applicants) (name_pair held.barred (open_setting_in order seats clusters reviews held))
    ≡ square_of (length given.applicants) (name_pair given.barred (open_setting_in order seats clusters reviews given)) =
    ap (λ s. square_of (length held.applicants) (name_pair held.barred s)) open_same
    ∙ square_of-same (length held.applicants) (name_pair held.barred (open_setting_in order seats clusters reviews given)) (name_pair given.barred (open_setting_in order seats clusters reviews given))
    (name_pair-barred (open_setting_in order seats clusters reviews given) held given same)
    ∙ ap (λ n. square_of n (name_pair given.barred (open_setting_in order seats clusters reviews given))) (applicants-same held given same) in
    ap (λ square. record (open_setting_in order seats clusters reviews held) { barred = square }) barred
    ∙ ap (λ (s : Setting). record s { barred = square_of (length given.applicants) (name_pair given.barred (open_setting_in order seats clusters reviews given)) }) open_same

-- what is drawn from a seed
drawn_persons-unbarred : (seed : Text) (reg : Register) → drawn_persons seed (unbarred reg) ≡ drawn_persons seed reg
unfolding drawn_persons key_rank persons
drawn_persons-unbarred seed reg = refl

drawn_register-unbarred : (seed : Text) (clusters : ℕ) (reg : Register) → drawn_register seed clusters (unbarred reg) ≡ unbarred (drawn_register seed clusters reg)
unfolding drawn_register drawn_cluster key_rank persons
drawn_register-unbarred seed clusters reg = refl

drawn_register-barred : (seed : Text) (clusters : ℕ) (reg : Register) → (drawn_register seed clusters reg).barred ≡ reg.barred
unfolding drawn_register
drawn_register-barred seed clusters reg = refl

seeded_persons-same : (seed : Option Text) (held given : Register) → IsSameRegister held given → seeded_persons seed held ≡ seeded_persons seed given
seeded_persons-same None held given same = persons-same held given same
seeded_persons-same (Some seed) held given same =
    sym (drawn_persons-unbarred seed held) ∙ ap (drawn_persons seed) same.others ∙ drawn_persons-unbarred seed given

seeded_register-same : (seed : Option Text) (clusters : ℕ) (held given : Register) → IsSameRegister held given →
    IsSameRegister (seeded_register seed clusters held) (seeded_register seed clusters given)
seeded_register-same None clusters held given same = same
seeded_register-same (Some seed) clusters held given same = record {
  others = sym (drawn_register-unbarred seed clusters held) ∙ ap (drawn_register seed clusters) same.others ∙ drawn_register-unbarred seed clusters given;
  barred = λ a b. ap (λ ps. pair_among ps a b) (drawn_register-barred seed clusters held) ∙ same.barred a b
      ∙ sym (ap (λ ps. pair_among ps a b) (drawn_register-barred seed clusters given));
}

-- the setting
pub setting-same : (seed : Option Text) (seats clusters reviews : ℕ) (held given : Register) → IsSameRegister held given →
    seeded_setting seed seats clusters reviews held ≡ seeded_setting seed seats clusters reviews given
setting-same seed seats clusters reviews held given same =
    sym (setting_in-seeded seed seats clusters reviews held)
    ∙ ap (λ order. setting_in order seats clusters reviews (seeded_register seed clusters held)) (seeded_persons-same seed held given same)
    ∙ setting_in-same (seeded_persons seed given) seats clusters reviews (seeded_register seed clusters held) (seeded_register seed clusters given)
    (seeded_register-same seed clusters held given same)
    ∙ setting_in-seeded seed seats clusters reviews given
