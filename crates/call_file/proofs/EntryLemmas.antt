-- Fields that are left out.
use Rattle.std.proofs.Common.{◌≡◌, ℕ, eqb, true, false, [], ◌∷◌, length, None, refl, sym, ◌∙◌}
use Rattle.std.proofs.Math.Dec.{eqb-suc-zero}
use Rattle.house_base.specs.Number.{number_up_to}
use Rattle.house_base.specs.Text.{Text}
use Rattle.house_model.specs.Text.{is_empty}

pub no_bytes : (xs : Text) → is_empty xs ≡ eqb (length xs) 0
no_bytes [] = refl
no_bytes (x ∷ xs) = sym (eqb-suc-zero (length xs))

-- no number stands in an empty field
pub no_number : (most : ℕ) (text : Text) → eqb (length text) 0 ≡ true → None ≡ number_up_to most text
unfolding number_up_to
no_number most [] h = refl
no_number most (x ∷ xs) h = absurd (let wrong : false ≡ true = sym (eqb-suc-zero (length xs)) ∙ h in cc)
