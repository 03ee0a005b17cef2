-- Lines with and without the review lines of one person, side by side.
use Rattle.std.proofs.Common.{◌≡◌, ◌↔◌, true, false, ◌&&◌, not, cond, List, [], ◌∷◌, bytes_eq, slice_get, IsTrue, codes, refl, sym, ap, ◌∙◌}
use Rattle.std.specs.Option.{option_map_or}
use Rattle.std.proofs.lemmas.Bool.{and_left, and_right}
use Rattle.house_base.specs.Name.{is_name}
use Rattle.house_base.specs.Text.{Text}
use Rattle.house_base.proofs.AmongLemmas.{bytes_eq-other}
use Rattle.house_model.specs.Isolation.{is_by, without}
use Rattle.house_model.specs.Text.{Lines, word, words}
use Rattle.house_model.specs.Verbs.{is_review}
use Rattle.house_model.proofs.ReviewerLemmas.{no_name}
use Rattle.command_text.proofs.LineLemmas.{review_by_first}

-- Whether a line is by the person.

-- the second of some words
abbrev second_of : List Text → Text
second_of ws = option_map_or (λ w. w) (slice_get ws 1) []

pub by_no_words : (name line : Text) → words line ≡ [] → is_by name line ≡ false
unfolding is_by is_review word
by_no_words name line h = rw h refl

pub by_other_word : (name line first : Text) (ws : List Text) → words line ≡ first ∷ ws → (first ≡ codes "review" → ⊥) → is_by name line ≡ false
unfolding is_by
by_other_word name line first ws h other =
    and_left (is_review line) (bytes_eq (word line 1) name) (review_by_first line first ws h ∙ bytes_eq-other first (codes "review") other)

pub by_one_word : (name line first : Text) → words line ≡ first ∷ [] → IsTrue (is_name name) → is_by name line ≡ false
unfolding is_by word
by_one_word name line first h formed =
    and_right (is_review line) (bytes_eq (word line 1) name)
    (ap (λ ws. bytes_eq (second_of ws) name) h ∙ bytes_eq-other [] name (λ e. no_name name formed (sym e)))

pub by_second : (name line first second : Text) (ws : List Text) → words line ≡ first ∷ second ∷ ws → first ≡ codes "review" → is_by name line ≡ bytes_eq second name
unfolding is_by word
by_second name line first second ws h review =
    ap (λ b. b && bytes_eq (word line 1) name) (review_by_first line first (second ∷ ws) h ∙ ap (λ w. bytes_eq w (codes "review")) review)
    ∙ ap (λ us. bytes_eq (second_of us) name) h

-- One line in front.

pub own_line : (name x : Text) (xs : Lines) → is_by name x ≡ true → without name (x ∷ xs) ≡ without name xs
unfolding without
own_line name x xs own = ap (λ b. cond (not b) (x ∷ without name xs) (without name xs)) own

pub other_line : (name x : Text) (xs : Lines) → is_by name x ≡ false → without name (x ∷ xs) ≡ x ∷ without name xs
unfolding without
other_line name x xs other = ap (λ b. cond (not b) (x ∷ without name xs) (without name xs)) other

-- Two lists from their fronts.

pub one_ends : (left right xs : Lines) (x : Text) → left ≡ x ∷ xs → right ≡ [] → left ≡ right → ⊥
one_ends left right xs x p q h = let wrong : x ∷ xs ≡ [] = sym p ∙ h ∙ q in cc

pub fronts_differ : (left right xs ys : Lines) (x y : Text) → left ≡ x ∷ xs → right ≡ y ∷ ys → (x ≡ y → ⊥) → left ≡ right → ⊥
fronts_differ left right xs ys x y p q differ h = differ (let same : x ∷ xs ≡ y ∷ ys = sym p ∙ h ∙ q in cc)

pub fronts_agree : (left right xs ys : Lines) (x y : Text) → left ≡ x ∷ xs → right ≡ y ∷ ys → x ≡ y → (left ≡ right) ↔ (xs ≡ ys)
fronts_agree left right xs ys x y p q same = (
  λ h. let both : x ∷ xs ≡ y ∷ ys = sym p ∙ h ∙ q in cc,
  λ h. p ∙ ap (λ l. x ∷ l) h ∙ ap (λ z. z ∷ ys) same ∙ sym q,
)
