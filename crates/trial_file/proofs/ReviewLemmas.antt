-- The reviews by one applicant, one more at a time.
use Rattle.std.proofs.Common.{◌≡◌, ℕ, ◌+◌, ◌*◌, ◌%◌, List, map, refl, ap, ◌∙◌, arith}
use Rattle.house_base.specs.Text.{Text}
use Rattle.house_base.specs.declared.limits.TheConstants.{MOST_POINTS}
use Rattle.peer_selection.specs.Counting.{numbers_below}
use Rattle.rand_chacha.specs.ChaCha.{ChaCha}
use Rattle.trial_file.specs.Stream.{key_words}
use Rattle.trial_file.specs.Trial.{review_row, reviews_by, trial_name}

-- the words of one review
abbrev pub row_by : (ℕ → ℕ) → ℕ → ℕ → ℕ → ℕ → List Text
row_by words applicants reviews reviewer distance =
    review_row (trial_name (reviewer + 1)) (trial_name ((reviewer + 1 + distance) % applicants + 1)) (words (reviewer * reviews + distance) % (MOST_POINTS + 1))

pub all_by : (words : ℕ → ℕ) (applicants reviews reviewer : ℕ) → reviews_by words applicants reviews reviewer ≡ map (row_by words applicants reviews reviewer) (numbers_below reviews)
unfolding reviews_by
all_by words applicants reviews reviewer = refl

-- a generator at a place
pub at_place : (g : ChaCha) (n k : ℕ) → g.word_pos ≡ n → n ≡ k → g ≡ record g { word_pos = k }
at_place g n k at same = λ i. record { key = g.key; stream = g.stream; word_pos = (at ∙ same) i }

-- and one word further
pub one_further : (g first next : ChaCha) (n d : ℕ) → g ≡ record first { word_pos = n + d } → next ≡ record g { word_pos = g.word_pos + 1 } → next ≡ record first { word_pos = n + (d + 1) }
one_further g first next n d at step =
    step ∙ ap (λ (h : ChaCha). record h { word_pos = h.word_pos + 1 }) at
    ∙ ap (λ k. record first { word_pos = k }) (let e : n + d + 1 ≡ n + (d + 1) = omega arith in e)

pub word_there : (g first : ChaCha) (n : ℕ) → g ≡ record first { word_pos = n } → key_words g.key g.word_pos ≡ key_words first.key n
word_there g first n at = ap (λ (h : ChaCha). key_words h.key h.word_pos) at
