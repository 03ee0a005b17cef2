-- The words on the chances in a file.
use Rattle.std.proofs.Common.{◌≡◌, ℕ, List, ◌∷◌, ◌++◌, length, map, take, Result, Ok, Err, codes, sym, ap, ◌∙◌, inl, inr, arith, take_all}
use Rattle.std.specs.Prelude.{OnOk, min}
use Rattle.std.proofs.lemmas.Bool.{cases_lt}
use Rattle.house_base.specs.Text.{Text}
use Rattle.house_model.specs.Report.{line_of, over}
use Rattle.twin_check.specs.declared.half.Chances.{Chances}
use Rattle.twin_check.specs.declared.half.Half.{Half}
use Rattle.twin_check.specs.declared.half.Half.TheVariants as half
use Rattle.twin_check.specs.Text.{half_words}

-- no more are shown than there are
pub shown : (n : ℕ) (xs : List ℕ) → take (min n (length xs)) xs ≡ take n xs
shown n xs = elim (cases_lt n (length xs)) [
  | inl within ↦ ap (λ k. take k xs) (let e : min n (length xs) ≡ n = omega arith in e)
  | inr past ↦
      ap (λ k. take k xs) (let e : min n (length xs) ≡ length xs = omega arith in e)
      ∙ take_all (length xs) xs (omega arith) ∙ sym (take_all n xs past)
]

pub chances_written : {E : Type 0} (r : Result (Unit {0}) E) (old new side : Text) (own : Chances) (den : ℕ) (h : Half) (some : List ℕ) → h ≡ half.Chances own den →
    some ≡ take own.count own.list → OnOk r (new ≡ old ++ line_of (side ∷ codes "chance" ∷ map (λ x. over x den) some)) → OnOk r (new ≡ old ++ line_of (side ∷ half_words h))
chances_written {E} (Ok u) old new side own den h some is are written =
    written
    ∙ ap (λ xs. old ++ line_of (side ∷ codes "chance" ∷ map (λ x. over x den) xs)) are
    ∙ ap (λ k. old ++ line_of (side ∷ half_words k)) (sym is)
chances_written {E} (Err e) old new side own den h some is are written = tt
