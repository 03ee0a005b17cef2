-- The first two lines of a slip.
use Rattle.std.proofs.Common.{◌≡◌, ◌≢◌, ℕ, ◌*◌, ◌≤◌, ◌∙◌, Bool, true, false, eqb, ◌&&◌, [], ◌∷◌, length, refl, ap, arith, Some, None, Option, bytes_eq}
use Rattle.std.specs.Prelude.{codes}
use Rattle.std.specs.Option.{option_map_or}
use Rattle.std.proofs.lemmas.Bool.Decides.{nat_tests}
use Rattle.std.proofs.lemmas.Option.{cond_some}
use Rattle.house_base.specs.Name.{is_name}
use Rattle.house_base.specs.Text.{Text}
use Rattle.house_base.specs.declared.limits.TheConstants.{DOLLAR, MOST_APPLICANTS, MOST_SEATS}
use Rattle.house_model.specs.Faults.{is_within}
use Rattle.house_model.specs.Said.{number}
use Rattle.slip_check.specs.Form.{Rows, denominator_in, follows, goes_on, is_denominator, is_head, is_on_form, is_share, is_sizes}
use Rattle.command_text.specs.Strict.{Row, row_of, spelled, strict_row}
use Rattle.command_text.proofs.StrictLemmas.{ne_eqb}

-- the words of a strict line are its row
pub row_is : (line : Text) (row : Row) → strict_row line ≡ Some row → row_of line ≡ row
unfolding strict_row
row_is line row h = (cond_some _ (row_of line) row h).1

pub on_form_is : (before : Rows) (line : Text) (row : Row) → strict_row line ≡ Some row → is_on_form before line ≡ follows before row
unfolding is_on_form
on_form_is before line row h = ap (λ o. option_map_or (follows before) o false) h

pub off_form_unread : (before : Rows) (line : Text) → strict_row line ≡ None → is_on_form before line ≡ false
unfolding is_on_form
off_form_unread before line h = ap (λ o. option_map_or (follows before) o false) h

pub follows_head : (before : Rows) (row : Row) → length before ≡ 0 → follows before row ≡ is_head row
unfolding follows
follows_head before row h = rw h refl

pub follows_sizes : (before : Rows) (row : Row) → length before ≡ 1 → follows before row ≡ (is_sizes row && is_denominator before row)
unfolding follows
follows_sizes before row h = rw h refl

pub follows_on : (before : Rows) (row : Row) → 2 ≤ length before → follows before row ≡ goes_on before row
unfolding follows
follows_on before row h =
    rw (ne_eqb (length before) 0 (λ e. absurd (omega arith)), ne_eqb (length before) 1 (λ e. absurd (omega arith))) refl

-- A line that has not four words.

unlike : (row : Row) (n : ℕ) (x : Bool) → length row ≢ n → (eqb (length row) n && x) ≡ false
unlike row n x h = ap (λ b. b && x) (ne_eqb (length row) n h)

head_of_four : (row : Row) → length row ≢ 4 → is_head row ≡ false
unfolding is_head
head_of_four row h = rw (ne_eqb (length row) 4 h) refl

sizes_of_four : (row : Row) → length row ≢ 4 → is_sizes row ≡ false
unfolding is_sizes
sizes_of_four row h = rw (ne_eqb (length row) 4 h) refl

pub by_row : (before : Rows) (line : Text) (o : Option Row) → strict_row line ≡ o → ((row : Row) → o ≡ Some row → follows before row ≡ false) → is_on_form before line ≡ false
by_row before line None e h = off_form_unread before line e
by_row before line (Some row) e h = on_form_is before line row e ∙ h row refl

pub head_not_four : (line text : Text) → strict_row line ≡ spelled text → ((row : Row) → spelled text ≡ Some row → length row ≢ 4)
    → (before : Rows) → length before ≡ 0 → is_on_form before line ≡ false
head_not_four line text e h before none =
    by_row before line (spelled text) e (λ row is. follows_head before row none ∙ head_of_four row (h row is))

pub sizes_not_four : (line text : Text) → strict_row line ≡ spelled text → ((row : Row) → spelled text ≡ Some row → length row ≢ 4)
    → (before : Rows) → length before ≡ 1 → is_on_form before line ≡ false
sizes_not_four line text e h before one =
    by_row before line (spelled text) e (λ row is. follows_sizes before row one ∙ ap (λ b. b && is_denominator before row) (sizes_of_four row (h row is)))

-- A first line of four words.

pub head_is : (line text a b c d : Text) → strict_row line ≡ spelled text → spelled text ≡ Some (a ∷ b ∷ c ∷ d ∷ []) → (before : Rows) → length before ≡ 0
    → is_on_form before line ≡ (bytes_eq a (codes "slip") && is_name b && bytes_eq c (codes "chance") && is_share d)
unfolding is_head
head_is line text a b c d e h before none = on_form_is before line (a ∷ b ∷ c ∷ d ∷ []) (e ∙ h) ∙ follows_head before (a ∷ b ∷ c ∷ d ∷ []) none

pub sizes_is : (line text a b c d : Text) (den : ℕ) → strict_row line ≡ spelled text → spelled text ≡ Some (a ∷ b ∷ c ∷ d ∷ []) → (before : Rows) → length before ≡ 1
    → denominator_in before ≡ den
    → is_on_form before line ≡ ((bytes_eq a (codes "seats") && is_within 1 MOST_SEATS b && bytes_eq c (codes "persons") && is_within 1 MOST_APPLICANTS d) && eqb den (number d * DOLLAR))
unfolding is_sizes is_denominator
sizes_is line text a b c d den e h before one same =
    on_form_is before line (a ∷ b ∷ c ∷ d ∷ []) (e ∙ h) ∙ follows_sizes before (a ∷ b ∷ c ∷ d ∷ []) one
    ∙ ap (λ x. (bytes_eq a (codes "seats") && is_within 1 MOST_SEATS b && bytes_eq c (codes "persons") && is_within 1 MOST_APPLICANTS d) && eqb x (number d * DOLLAR)) same

-- the words of such a line
pub four_is : (line text a b c d : Text) → strict_row line ≡ spelled text → spelled text ≡ Some (a ∷ b ∷ c ∷ d ∷ []) → row_of line ≡ a ∷ b ∷ c ∷ d ∷ []
four_is line text a b c d e h = row_is line (a ∷ b ∷ c ∷ d ∷ []) (e ∙ h)

-- Tests that all pass, or of which one fails.

pub all4 : (a b c d : Bool) → a ≡ true → b ≡ true → c ≡ true → d ≡ true → (a && b && c && d) ≡ true
all4 a b c d h i j k = rw (h, i, j, k) refl

pub all5 : (a b c d e : Bool) → a ≡ true → b ≡ true → c ≡ true → d ≡ true → e ≡ true → ((a && b && c && d) && e) ≡ true
all5 a b c d e h i j k l = rw (h, i, j, k, l) refl

pub no_front : (x e : Bool) → x ≡ false → (x && e) ≡ false
no_front x e h = ap (λ b. b && e) h

pub no1 : (a b c d : Bool) → a ≡ false → (a && b && c && d) ≡ false
no1 a b c d h = grind (arith, nat_tests)

pub no2 : (a b c d : Bool) → b ≡ false → (a && b && c && d) ≡ false
no2 a b c d h = grind (arith, nat_tests)

pub no3 : (a b c d : Bool) → c ≡ false → (a && b && c && d) ≡ false
no3 a b c d h = grind (arith, nat_tests)

pub no4 : (a b c d : Bool) → d ≡ false → (a && b && c && d) ≡ false
no4 a b c d h = grind (arith, nat_tests)

pub no_back : (x e : Bool) → e ≡ false → (x && e) ≡ false
no_back true e h = h
no_back false e h = refl

-- A line of four words, of which one is off its form, or none.

pub head_off1 : (line text a b c d : Text) → strict_row line ≡ spelled text → spelled text ≡ Some (a ∷ b ∷ c ∷ d ∷ [])
    → bytes_eq a (codes "slip") ≡ false → (before : Rows) → length before ≡ 0 → is_on_form before line ≡ false
head_off1 line text a b c d e h x before none =
    head_is line text a b c d e h before none ∙ no1 (bytes_eq a (codes "slip")) (is_name b) (bytes_eq c (codes "chance")) (is_share d) x

pub head_off2 : (line text a b c d : Text) → strict_row line ≡ spelled text → spelled text ≡ Some (a ∷ b ∷ c ∷ d ∷ [])
    → is_name b ≡ false → (before : Rows) → length before ≡ 0 → is_on_form before line ≡ false
head_off2 line text a b c d e h x before none =
    head_is line text a b c d e h before none ∙ no2 (bytes_eq a (codes "slip")) (is_name b) (bytes_eq c (codes "chance")) (is_share d) x

pub head_off3 : (line text a b c d : Text) → strict_row line ≡ spelled text → spelled text ≡ Some (a ∷ b ∷ c ∷ d ∷ [])
    → bytes_eq c (codes "chance") ≡ false → (before : Rows) → length before ≡ 0 → is_on_form before line ≡ false
head_off3 line text a b c d e h x before none =
    head_is line text a b c d e h before none ∙ no3 (bytes_eq a (codes "slip")) (is_name b) (bytes_eq c (codes "chance")) (is_share d) x

pub head_off4 : (line text a b c d : Text) → strict_row line ≡ spelled text → spelled text ≡ Some (a ∷ b ∷ c ∷ d ∷ [])
    → is_share d ≡ false → (before : Rows) → length before ≡ 0 → is_on_form before line ≡ false
head_off4 line text a b c d e h x before none =
    head_is line text a b c d e h before none ∙ no4 (bytes_eq a (codes "slip")) (is_name b) (bytes_eq c (codes "chance")) (is_share d) x

pub head_on : (line text a b c d : Text) → strict_row line ≡ spelled text → spelled text ≡ Some (a ∷ b ∷ c ∷ d ∷ [])
    → bytes_eq a (codes "slip") ≡ true → is_name b ≡ true → bytes_eq c (codes "chance") ≡ true → is_share d ≡ true → (before : Rows) → length before ≡ 0 → is_on_form before line ≡ true
head_on line text a b c d e h x1 x2 x3 x4 before none =
    head_is line text a b c d e h before none ∙ all4 (bytes_eq a (codes "slip")) (is_name b) (bytes_eq c (codes "chance")) (is_share d) x1 x2 x3 x4

pub sizes_off1 : (line text a b c d : Text) (den : ℕ) → strict_row line ≡ spelled text → spelled text ≡ Some (a ∷ b ∷ c ∷ d ∷ [])
    → bytes_eq a (codes "seats") ≡ false → (before : Rows) → length before ≡ 1 → denominator_in before ≡ den → is_on_form before line ≡ false
sizes_off1 line text a b c d den e h x before one same =
    sizes_is line text a b c d den e h before one same ∙ no_front (bytes_eq a (codes "seats") && is_within 1 MOST_SEATS b && bytes_eq c (codes "persons") && is_within 1 MOST_APPLICANTS d) (eqb den (number d * DOLLAR)) (no1 (bytes_eq a (codes "seats")) (is_within 1 MOST_SEATS b) (bytes_eq c (codes "persons")) (is_within 1 MOST_APPLICANTS d) x)

pub sizes_off2 : (line text a b c d : Text) (den : ℕ) → strict_row line ≡ spelled text → spelled text ≡ Some (a ∷ b ∷ c ∷ d ∷ [])
    → is_within 1 MOST_SEATS b ≡ false → (before : Rows) → length before ≡ 1 → denominator_in before ≡ den → is_on_form before line ≡ false
sizes_off2 line text a b c d den e h x before one same =
    sizes_is line text a b c d den e h before one same ∙ no_front (bytes_eq a (codes "seats") && is_within 1 MOST_SEATS b && bytes_eq c (codes "persons") && is_within 1 MOST_APPLICANTS d) (eqb den (number d * DOLLAR)) (no2 (bytes_eq a (codes "seats")) (is_within 1 MOST_SEATS b) (bytes_eq c (codes "persons")) (is_within 1 MOST_APPLICANTS d) x)

pub sizes_off3 : (line text a b c d : Text) (den : ℕ) → strict_row line ≡ spelled text → spelled text ≡ Some (a ∷ b ∷ c ∷ d ∷ [])
    → bytes_eq c (codes "persons") ≡ false → (before : Rows) → length before ≡ 1 → denominator_in before ≡ den → is_on_form before line ≡ false
sizes_off3 line text a b c d den e h x before one same =
    sizes_is line text a b c d den e h before one same ∙ no_front (bytes_eq a (codes "seats") && is_within 1 MOST_SEATS b && bytes_eq c (codes "persons") && is_within 1 MOST_APPLICANTS d) (eqb den (number d * DOLLAR)) (no3 (bytes_eq a (codes "seats")) (is_within 1 MOST_SEATS b) (bytes_eq c (codes "persons")) (is_within 1 MOST_APPLICANTS d) x)

pub sizes_off4 : (line text a b c d : Text) (den : ℕ) → strict_row line ≡ spelled text → spelled text ≡ Some (a ∷ b ∷ c ∷ d ∷ [])
    → is_within 1 MOST_APPLICANTS d ≡ false → (before : Rows) → length before ≡ 1 → denominator_in before ≡ den → is_on_form before line ≡ false
sizes_off4 line text a b c d den e h x before one same =
    sizes_is line text a b c d den e h before one same ∙ no_front (bytes_eq a (codes "seats") && is_within 1 MOST_SEATS b && bytes_eq c (codes "persons") && is_within 1 MOST_APPLICANTS d) (eqb den (number d * DOLLAR)) (no4 (bytes_eq a (codes "seats")) (is_within 1 MOST_SEATS b) (bytes_eq c (codes "persons")) (is_within 1 MOST_APPLICANTS d) x)

pub sizes_off5 : (line text a b c d : Text) (den : ℕ) → strict_row line ≡ spelled text → spelled text ≡ Some (a ∷ b ∷ c ∷ d ∷ [])
    → eqb den (number d * DOLLAR) ≡ false → (before : Rows) → length before ≡ 1 → denominator_in before ≡ den → is_on_form before line ≡ false
sizes_off5 line text a b c d den e h x before one same =
    sizes_is line text a b c d den e h before one same ∙ no_back (bytes_eq a (codes "seats") && is_within 1 MOST_SEATS b && bytes_eq c (codes "persons") && is_within 1 MOST_APPLICANTS d) (eqb den (number d * DOLLAR)) x

pub sizes_on : (line text a b c d : Text) (den : ℕ) → strict_row line ≡ spelled text → spelled text ≡ Some (a ∷ b ∷ c ∷ d ∷ [])
    → bytes_eq a (codes "seats") ≡ true → is_within 1 MOST_SEATS b ≡ true → bytes_eq c (codes "persons") ≡ true → is_within 1 MOST_APPLICANTS d ≡ true → eqb den (number d * DOLLAR) ≡ true → (before : Rows) → length before ≡ 1 → denominator_in before ≡ den → is_on_form before line ≡ true
sizes_on line text a b c d den e h x1 x2 x3 x4 x5 before one same =
    sizes_is line text a b c d den e h before one same ∙ all5 (bytes_eq a (codes "seats")) (is_within 1 MOST_SEATS b) (bytes_eq c (codes "persons")) (is_within 1 MOST_APPLICANTS d) (eqb den (number d * DOLLAR)) x1 x2 x3 x4 x5
