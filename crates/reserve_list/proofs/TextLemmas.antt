-- The lines of a board, one after another.
use Rattle.std.proofs.Common.{◌≡◌, ℕ, ◌+◌, ◌++◌, ◌∷◌, [], refl, sym, ap, ◌∙◌}
use Rattle.std.specs.Prelude.{flat_map}
use Rattle.std.proofs.lemmas.List.{append-nil}
use Rattle.std.proofs.lemmas.List.Concat.{flat_map-append}
use Rattle.house_base.specs.Text.{Text}
use Rattle.house_model.specs.Report.{line_of}
use Rattle.peer_selection.specs.Counting.{numbers_below}
use Rattle.peer_selection.proofs.CountingLemmas.{numbers_below-add_one}
use Rattle.reserve_list.specs.Board.{BoardParts, count_of}
use Rattle.reserve_list.specs.Leaving.{final_lines, final_words}

-- the lines of the first so many register numbers
abbrev pub lines_below : BoardParts → ℕ → Text
lines_below b n = flat_map (λ i. line_of (final_words b i)) (numbers_below n)

pub lines-none : (b : BoardParts) (old : Text) → old ≡ old ++ lines_below b 0
unfolding numbers_below
lines-none b old = sym (append-nil old)

pub lines-more : (b : BoardParts) (n : ℕ) → lines_below b (n + 1) ≡ lines_below b n ++ line_of (final_words b n)
lines-more b n =
    ap (flat_map (λ i. line_of (final_words b i))) (numbers_below-add_one n)
    ∙ flat_map-append (λ i. line_of (final_words b i)) (numbers_below n) (n ∷ [])
    ∙ ap (λ t. lines_below b n ++ t) (append-nil (line_of (final_words b n)))

pub lines-all : (b : BoardParts) → lines_below b (count_of b.outcome) ≡ final_lines b
unfolding final_lines
lines-all b = refl
