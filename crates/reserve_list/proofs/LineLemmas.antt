-- What a line of a file of withdrawals says, by its words.
use Rattle.std.proofs.Common.{◌≡◌, ◌≢◌, Bool, true, false, not, ◌&&◌, cond, eqb, bytes_eq, List, [], ◌∷◌, length, Some, None, refl, sym, ap, ◌∙◌, arith}
use Rattle.std.specs.Prelude.{codes, slice_get}
use Rattle.std.specs.Option.{option_map_or}
use Rattle.std.proofs.lemmas.Bool.{and_left, and_right, ne_eqb}
use Rattle.house_base.specs.Name.{is_name}
use Rattle.house_base.specs.Text.{Text}
use Rattle.house_base.specs.declared.answer.Reason.TheVariants as reason
use Rattle.house_model.specs.Text.{word, words}
use Rattle.reserve_list.specs.Leaving.{form_fault, is_withdrawal}

pub from_not : (b : Bool) → not b ≡ true → b ≡ false
from_not true h = sym h
from_not false h = refl

pub to_yes : (b : Bool) → not b ≡ false → b ≡ true
to_yes true h = refl
to_yes false h = sym h

pub second_word : (line w x : Text) → words line ≡ w ∷ x ∷ [] → word line 1 ≡ x
unfolding word
second_word line w x h = ap (λ all. option_map_or (λ x. x) (slice_get all 1) []) h

withdrawal-words : (line w : Text) (ws : List Text) → words line ≡ w ∷ ws → is_withdrawal line ≡ (eqb (length (w ∷ ws)) 2 && bytes_eq w (codes "withdraw"))
unfolding is_withdrawal word
withdrawal-words line w ws h = ap (λ all. eqb (length all) 2 && bytes_eq (option_map_or (λ x. x) (slice_get all 0) []) (codes "withdraw")) h

off_form : (line : Text) → is_withdrawal line ≡ false → form_fault line ≡ Some reason.Form
unfolding form_fault
off_form line h = ap (λ b. cond (not b) (Some reason.Form) (cond (not (is_name (word line 1))) (Some reason.Name) None)) h

pub form-count : (line w : Text) (ws : List Text) → words line ≡ w ∷ ws → length ws ≢ 1 → form_fault line ≡ Some reason.Form
form-count line w ws h other =
    off_form line (withdrawal-words line w ws h ∙ and_left (eqb (length (w ∷ ws)) 2) (bytes_eq w (codes "withdraw")) (ne_eqb (length (w ∷ ws)) 2 (λ e. other (omega (arith, e)))))

pub form-verb : (line w : Text) (ws : List Text) → words line ≡ w ∷ ws → bytes_eq w (codes "withdraw") ≡ false → form_fault line ≡ Some reason.Form
form-verb line w ws h other = off_form line (withdrawal-words line w ws h ∙ and_right (eqb (length (w ∷ ws)) 2) (bytes_eq w (codes "withdraw")) other)

pub form-name : (line w x : Text) → words line ≡ w ∷ x ∷ [] → bytes_eq w (codes "withdraw") ≡ true → form_fault line ≡ cond (not (is_name x)) (Some reason.Name) None
unfolding form_fault
form-name line w x h verb =
    ap (λ b. cond (not b) (Some reason.Form) (cond (not (is_name (word line 1))) (Some reason.Name) None)) (withdrawal-words line w (x ∷ []) h ∙ verb)
    ∙ ap (λ t. cond (not (is_name t)) (Some reason.Name) None) (second_word line w x h)
