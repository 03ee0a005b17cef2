-- How the tables of a plan are written, and what they give.
use Rattle.std.proofs.Common.{◌≡◌, ◌≢◌, ℕ, zero, suc, ◌+◌, ◌<◌, ◌≤◌, List, [], ◌∷◌, Some, length, map, get_or, slice_index, refl, sym, ap, subst, ◌∙◌, arith, below_more}
use Rattle.std.specs.List.{AllPairs, Contains, slice_get}
use Rattle.std.proofs.Math.ListN.{set}
use Rattle.std.proofs.lemmas.List.{get_or-set_same, get_or-set_other, get_or_default, length-map}
use Rattle.std.specs.Option.{option_map_or}
use Rattle.std.proofs.lemmas.Option.{same_Some, slice_get_within, get_or_from_slice_get}
use Rattle.house_base.specs.declared.plan.Owner.{Owner}
use Rattle.house_base.specs.declared.plan.Person.{Person}
use Rattle.house_base.specs.Setting.{Setting, IsSetting, StandInTurn, IsOwned, size, numbers_of, number_at}
use Rattle.house_base.specs.Tables.{GivesPlaces, GivesOwners}
use Rattle.house_base.proofs.Settings.{before-StandInTurn, owned-StandInTurn}

-- one more of these different numbers gets its entry, and those before keep theirs
pub entries_more : (numbers table : List ℕ) (i n : ℕ) → AllPairs (λ a b. a ≢ b) numbers → i < length numbers → get_or numbers i 0 ≡ n → n < length table
    → ((k : ℕ) → k < i → get_or table (get_or numbers k 0) 0 ≡ k) → (k : ℕ) → k < i + 1 → get_or (set table n i) (get_or numbers k 0) 0 ≡ k
entries_more numbers table i n differ inside is room entries =
    below_more (λ k. get_or (set table n i) (get_or numbers k 0) 0 ≡ k) i
    (λ k below. get_or-set_other table n (get_or numbers k 0) i 0 (λ same. differ k i 0 below inside (same ∙ sym is)) ∙ entries k below)
    (rw is (get_or-set_same table n i 0 room))

-- the places of one more person get their entries, and those of the persons before keep theirs
pub owners_more : (owners : List Owner) (n j : ℕ) (b : Owner) (old new : List ℕ) → StandInTurn 0 owners n → slice_get owners j ≡ Some b
    → ((place : ℕ) → b.first ≤ place → place < b.first + b.own → slice_index new place ≡ j)
    → ((place : ℕ) → place < b.first → slice_index new place ≡ slice_index old place)
    → ((i place : ℕ) (owner : Owner) → i < j → slice_get owners i ≡ Some owner → IsOwned owner place → slice_index old place ≡ i)
    → (i : ℕ) → i < j + 1 → (place : ℕ) (owner : Owner) → slice_get owners i ≡ Some owner → IsOwned owner place → slice_index new place ≡ i
owners_more owners n j b old new stand at inside before entries =
    below_more (λ i. (place : ℕ) (owner : Owner) → slice_get owners i ≡ Some owner → IsOwned owner place → slice_index new place ≡ i) j
    (λ i below place owner here owned.
    let apart = before-StandInTurn 0 owners n i j owner b stand here at below in
    before place (omega (arith, apart, owned.1)) ∙ entries i place owner below here owned)
    (λ place owner here owned.
    let same : owner ≡ b = same_Some owner b (sym here ∙ at) in
    let its : IsOwned b place = rw (← same) owned in
    inside place its.0 its.1)

-- a field of the element at an index, read off the list of all
field_at : {X : Type 0} (f : X → ℕ) (xs : List X) (k : ℕ) → option_map_or f (slice_get xs k) 0 ≡ get_or (map f xs) k 0
field_at f [] k = refl
field_at f (x ∷ xs) zero = refl
field_at f (x ∷ xs) (suc k) = field_at f xs k

pub number_at-map : (s : Setting) (place : ℕ) → number_at s place ≡ slice_index (numbers_of s) place
unfolding number_at
number_at-map s place = field_at (λ person. person.number) s.people place

-- a number that an applicant has is that of the place in its entry
pub place-GivesPlaces : (s : Setting) (table : List ℕ) (number : ℕ) → IsSetting s → GivesPlaces s table → number < size s
    → (slice_index table number < size s) × (number_at s (slice_index table number) ≡ number)
place-GivesPlaces s table number setting gives below =
    let contained = setting.each_number number below in
    let inside : contained.0 < size s = omega (arith, contained.1, length-map s.people (λ (person : Person). person.number)) in
    let its : number_at s contained.0 ≡ number = number_at-map s contained.0 ∙ get_or_default (numbers_of s) contained.0 0 number contained.1 ∙ contained.2 in
    let entry : slice_index table number ≡ contained.0 = ap (slice_index table) (sym its) ∙ gives.place contained.0 inside in
    (rw entry inside, ap (number_at s) entry ∙ its)

-- the entry of a place is the index of the person to whom it belongs
pub owner-GivesOwners : (s : Setting) (table : List ℕ) (place : ℕ) → IsSetting s → GivesOwners s.owners table → place < size s
    → (owner : Owner) × (slice_get s.owners (slice_index table place) ≡ Some owner) × IsOwned owner place
owner-GivesOwners s table place setting gives below =
    let found = owned-StandInTurn 0 s.owners (size s) place setting.in_turn (omega arith) below in
    let entry : slice_index table place ≡ found.0 = gives.owner found.0 place found.1 found.2 found.3 in
    (found.1, rw entry found.2, found.3)

-- what stands at the entry of a place is the person to whom the place belongs
pub owner-read : (s : Setting) (table : List ℕ) (place : ℕ) (x : Owner) → IsSetting s → GivesOwners s.owners table → place < size s
    → x ≡ get_or s.owners (slice_index table place) x → Contains s.owners x × IsOwned x place
owner-read s table place x setting gives below is =
    let found = owner-GivesOwners s table place setting gives below in
    let inside : slice_index table place < length s.owners = slice_get_within s.owners (slice_index table place) found.0 found.1 in
    let same : found.0 ≡ x = sym (get_or_from_slice_get s.owners (slice_index table place) found.0 x found.1) ∙ sym is in
    let owned : IsOwned x place = let P : Owner → Type 0 = λ o. IsOwned o place in subst P same found.2 in
    ((slice_index table place, inside, sym is), owned)
