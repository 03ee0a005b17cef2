use Rattle.std.specs.Prelude.{ℕ, ◌+◌, ◌%◌, Bool, false, ◌==◌, ◌&&◌, ◌||◌, nat_lt, Option, Some, None, List, [], ◌++◌, length, map, find, flat_map, take, count_by, codes}
use Rattle.std.specs.Cmp.Lexicographic.{slice_cmp}
use Rattle.std.specs.Int.{w128, from_be_bytes}
use Rattle.std.specs.Option.{option_map_or}
use Rattle.std.specs.Ordering.{is_lt, nat_cmp, ordering_then}
use Rattle.std.specs.declared.cmp.Ordering.{Ordering}
use Rattle.sha2.specs.Sha256.{sha256}
use Rattle.house_base.specs.Setting.{Setting}
use Rattle.house_base.specs.Text.{Text}
use Rattle.peer_selection.specs.Counting.{numbers_below, count_below}
use Rattle.house_model.specs.Register.{Register, persons, person_of, own_people, owners_from, square_of, name_pair, registered_setting}

-- What is drawn from public words. A digest is that of SHA-256, as FIPS 180-4 defines it.

-- the draw of a seed for a denominator: the first 16 bytes of the digest of `lottery:SEED`, big-endian, modulo it
unfoldable pub seed_draw : Text → ℕ → ℕ
seed_draw seed den = from_be_bytes w128 (take 16 (sha256 (codes "lottery:" ++ seed))) % den

-- the seal of a seed: the digest of `seal:SEED`
unfoldable pub seed_seal : Text → List ℕ
seed_seal seed = sha256 (codes "seal:" ++ seed)

-- the digest of a person under a seed: that of `partition:SEED:PERSON`
unfoldable pub person_digest : Text → Text → List ℕ
person_digest seed person = sha256 (codes "partition:" ++ seed ++ codes ":" ++ person)

-- the key of a person under a seed: its digest, and its name
abbrev pub person_key : Text → Text → List ℕ × Text
person_key seed person = (person_digest seed person, person)

-- the order of keys: by the bytes of the digests, and where these are equal, of the names
abbrev pub key_cmp : List ℕ × Text → List ℕ × Text → Ordering
key_cmp a b = ordering_then (slice_cmp nat_cmp a.0 b.0) (slice_cmp nat_cmp a.1 b.1)

-- whether a key is smaller than another
abbrev pub is_smaller_key : List ℕ × Text → List ℕ × Text → Bool
is_smaller_key a b = is_lt (key_cmp a b)

-- the rank of a person under a seed: how many persons have a smaller key
unfoldable pub key_rank : Text → Register → Text → ℕ
key_rank seed reg person =
    count_by (λ other. is_smaller_key (person_key seed other) (person_key seed person)) (persons reg)

-- the cluster that is drawn for a person
unfoldable pub drawn_cluster : Text → ℕ → Register → Text → ℕ
drawn_cluster seed clusters reg person = 1 + key_rank seed reg person % clusters

-- The place of an applicant under a seed: how many applicants have a person of a smaller rank, or its person and
-- a smaller register number.
unfoldable pub drawn_place : Text → Register → ℕ → ℕ
drawn_place seed reg i =
    count_below (λ j. nat_lt (key_rank seed reg (person_of reg j)) (key_rank seed reg (person_of reg i))
    || (key_rank seed reg (person_of reg j) == key_rank seed reg (person_of reg i)
    && nat_lt j i)) (length reg.applicants)

-- the persons in the order of their ranks: the one of each rank
unfoldable pub drawn_persons : Text → Register → List Text
drawn_persons seed reg =
    map (λ rank. option_map_or (λ person. person) (find (λ person. key_rank seed reg person == rank) (persons reg)) [])
    (numbers_below (length (persons reg)))

-- the register in which each person was put into the cluster that is drawn for it
unfoldable pub drawn_register : Text → ℕ → Register → Register
drawn_register seed clusters reg =
    record reg { placed = map (λ person. (person, drawn_cluster seed clusters reg person)) (persons reg) }

-- the setting of a register whose persons stand in this order, before pairs are barred
unfoldable pub open_setting_in : List Text → ℕ → ℕ → ℕ → Register → Setting
open_setting_in order seats clusters reviews reg = record {
  seats = seats;
  clusters = clusters;
  reviews = reviews;
  people = flat_map (own_people reg) order;
  owners = owners_from reg 0 order;
  barred = square_of (length reg.applicants) (λ r p. false);
}

-- the setting of a register whose persons stand in this order
unfoldable pub setting_in : List Text → ℕ → ℕ → ℕ → Register → Setting
setting_in order seats clusters reviews reg = record (open_setting_in order seats clusters reviews reg) {
  barred = square_of (length reg.applicants) (name_pair reg.barred (open_setting_in order seats clusters reviews reg));
}

-- the persons in the order in which they first appear, or with a seed in that of their ranks
abbrev pub seeded_persons : Option Text → Register → List Text
seeded_persons None reg = persons reg
seeded_persons (Some seed) reg = drawn_persons seed reg

-- the register as its persons were placed, or with a seed as their clusters are drawn
abbrev pub seeded_register : Option Text → ℕ → Register → Register
seeded_register None clusters reg = reg
seeded_register (Some seed) clusters reg = drawn_register seed clusters reg

-- the setting of a register: as its persons were placed, or with a seed as they are drawn
abbrev pub seeded_setting : Option Text → ℕ → ℕ → ℕ → Register → Setting
seeded_setting None seats clusters reviews reg = registered_setting seats clusters reviews reg
seeded_setting (Some seed) seats clusters reviews reg =
    setting_in (drawn_persons seed reg) seats clusters reviews (drawn_register seed clusters reg)
