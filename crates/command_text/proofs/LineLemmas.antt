use Rattle.std.proofs.Common.{◌≡◌, ◌<◌, true, false, eqb, List, [], ◌∷◌, length, ap, ◌∙◌, arith, refl, sym, subst}
use Rattle.std.specs.Prelude.{slice_get, slice_index, codes, filter, not, ◌||◌}
use Rattle.std.specs.List.{onto_first, slice_split}
use Rattle.std.proofs.lemmas.Bool.{eqb-true}
use Rattle.std.proofs.lemmas.List.Elements.{All-nil}
use Rattle.command_text.proofs.WordLemmas.{no_word}
use Rattle.std.proofs.lemmas.List.Splits.{slice_split-cons_no}
use Rattle.std.specs.Option.{option_map_or}
use Rattle.std.specs.Str.{bytes_eq}
use Rattle.house_base.specs.Text.{Text}
use Rattle.house_model.specs.Text.{words, word, is_blank, is_empty, is_gap}
use Rattle.house_model.specs.Verbs.{is_review, verb_of, verb_in}

-- the first word of a line
pub first_word : (line w : Text) (ws : List Text) → words line ≡ w ∷ ws → word line 0 ≡ w
unfolding word
first_word line w ws h = ap (λ all. option_map_or (λ x. x) (slice_get all 0) []) h

pub blank_without_words : (line : Text) → words line ≡ [] → is_blank line ≡ true
unfolding is_blank
blank_without_words line h = ap (λ all. is_empty all || eqb (slice_index (word line 0) 0) 35) h

pub blank_by_first : (line w : Text) (ws : List Text) → words line ≡ w ∷ ws → is_blank line ≡ eqb (slice_index w 0) 35
unfolding is_blank
blank_by_first line w ws h =
    ap (λ all. is_empty all || eqb (slice_index (word line 0) 0) 35) h ∙ ap (λ x. eqb (slice_index x 0) 35) (first_word line w ws h)

blank_by_parts : (line : Text) (parts : List Text) → words line ≡ filter (λ w. not (is_empty w)) (onto_first 35 parts) → is_blank line ≡ true
blank_by_parts line [] h = blank_by_first line (35 ∷ []) [] h
blank_by_parts line (w ∷ ws) h = blank_by_first line (35 ∷ w) (filter (λ w. not (is_empty w)) ws) h

-- a line without a byte
pub blank_empty : (line : Text) → length line < 1 → is_blank line ≡ true
blank_empty [] h = blank_without_words [] (no_word [] (All-nil (λ x. is_gap x ≡ false)) refl)
blank_empty (x ∷ xs) h = absurd (omega arith)

-- a line that begins as a comment is one
pub blank_at_once : (line : Text) → eqb (slice_index line 0) 35 ≡ true → is_blank line ≡ true
unfolding words
blank_at_once [] h = cc
blank_at_once (x ∷ xs) h =
    subst (λ b. is_blank (b ∷ xs) ≡ true) (sym (eqb-true x 35 h))
    (blank_by_parts (35 ∷ xs) (slice_split is_gap xs) (ap (filter (λ w. not (is_empty w))) (slice_split-cons_no is_gap 35 xs refl)))

pub review_by_first : (line w : Text) (ws : List Text) → words line ≡ w ∷ ws → is_review line ≡ bytes_eq w (codes "review")
unfolding is_review
review_by_first line w ws h = ap (λ x. bytes_eq x (codes "review")) (first_word line w ws h)

pub verb_by_first : (line w : Text) (ws : List Text) → words line ≡ w ∷ ws → verb_in line ≡ verb_of w
unfolding verb_in
verb_by_first line w ws h = ap verb_of (first_word line w ws h)
