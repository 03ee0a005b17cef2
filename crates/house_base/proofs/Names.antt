-- What the forms of names and seeds say of their length, and how they stand in their arrays.
use Rattle.std.proofs.Common.{◌≡◌, ℕ, ◌-◌, ◌≤◌, Bool, List, ◌++◌, IsTrue, length, take, drop, replicate, refl, ap, ◌∙◌, arith, length-append}
use Rattle.std.proofs.Math.Seq.{take-append_seam}
use Rattle.std.proofs.lemmas.List.{drop-replicate, length-replicate, length-take-le}
use Rattle.std.proofs.lemmas.Bool.Decides.{nat_tests}
use Rattle.house_base.specs.declared.limits.TheConstants.{MOST_NAME_BYTES, MOST_SEED_BYTES}
use Rattle.house_base.specs.Name.{is_name}
use Rattle.house_base.specs.Padded.{IsPadded}
use Rattle.house_base.specs.Seed.{is_seed}

-- a name is no longer than its array
pub length-is_name : (word : List ℕ) → IsTrue (is_name word) → length word ≤ MOST_NAME_BYTES
unfolding is_name
length-is_name word form = grind (arith, nat_tests)

-- a seed is no longer than its array
pub length-is_seed : (word : List ℕ) → IsTrue (is_seed word) → length word ≤ MOST_SEED_BYTES
unfolding is_seed
length-is_seed word form = grind (arith, nat_tests)

-- the front of an array that a word takes
pub length-take_front : (most : ℕ) (word front : List ℕ) → length front ≡ most → length word ≤ most → length (take (length word) front) ≡ length word
length-take_front most word front full short = length-take-le (length word) front (omega arith)

-- a word that is written over the front of an array of zeros
pub IsPadded-written : (most : ℕ) (is_formed : List ℕ → Bool) (word zeros : List ℕ) → zeros ≡ replicate most 0
    → length word ≤ most → IsTrue (is_formed word) → IsPadded most is_formed (word ++ drop (length word) zeros) (length word)
IsPadded-written most is_formed word zeros zero short form =
    let rest : drop (length word) zeros ≡ replicate (most - length word) 0 = ap (drop (length word)) zero ∙ drop-replicate (length word) most 0 in
    rw rest (record {
      short = short;
      full = omega (arith, length-append word (replicate {A = ℕ} (most - length word) 0), length-replicate {A = ℕ} (most - length word) 0);
      padded = rw take-append_seam refl;
      form = rw take-append_seam form;
    })
