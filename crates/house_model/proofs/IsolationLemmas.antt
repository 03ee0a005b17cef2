-- What is left of lines without the review lines of one person.
use Rattle.std.proofs.Common.{◌≡◌, ◌≢◌, ℕ, Bool, true, false, not, ◌&&◌, cond, [], ◌∷◌, ◌++◌, filter, bytes_eq, refl, sym, ap, ◌∙◌, append-nil}
use Rattle.std.specs.Option.{is_none}
use Rattle.std.proofs.lemmas.Bool.{and_left, and_parts, cond_both, cond-false, not_from_false, not-false, and_from, both_ways, false_from_ne_true, not-true}
use Rattle.std.proofs.lemmas.List.Elements.{filter-append}
use Rattle.house_base.specs.Setting.{Setting, name_at}
use Rattle.house_base.specs.Text.{Text}
use Rattle.house_base.proofs.AmongLemmas.{same_text, bytes_eq-other, bytes_eq-same}
use Rattle.house_model.specs.declared.goal.Goal.{Goal}
use Rattle.house_model.specs.declared.goal.Goal.TheVariants as goal
use Rattle.house_model.specs.Text.{Lines, word}
use Rattle.house_model.specs.Verbs.{is_review, is_house}
use Rattle.house_model.specs.Register.{reviewer_at}
use Rattle.house_model.specs.Said.{register, seed_of, seal_of, phase_after, draw_of, setting, assigned}
use Rattle.house_model.specs.Reviews.{kind_of, kept_after, points_of}
use Rattle.house_model.specs.Isolation.{HaveSameHouse, is_by, without}
use Rattle.house_model.proofs.HouseLineLemmas.{filter-within, review_no_house, house_no_review, phase_after-same, register-same, seed_of-same, seal_of-same, setting-same, assigned-same, draw_of-same, kind_of-same, same-push, same-left}

pub house_not_by : (name line : Text) → is_house line ≡ true → not (is_by name line) ≡ true
unfolding is_by
house_not_by name line house = not_from_false (is_review line && bytes_eq (word line 1) name) (and_left (is_review line) (bytes_eq (word line 1) name) (house_no_review line house))

pub by_review : (name line : Text) → is_by name line ≡ true → is_review line ≡ true
unfolding is_by
by_review name line by = (and_parts (is_review line) (bytes_eq (word line 1) name) by).0

by_no_house : (name line : Text) → is_by name line ≡ true → is_house line ≡ false
by_no_house name line by = review_no_house line (by_review name line by)

-- the lines of the house stay
pub without-house : (name : Text) (lines : Lines) → HaveSameHouse (without name lines) lines
unfolding without
without-house name lines = filter-within is_house (λ line. not (is_by name line)) (house_not_by name) lines

module _ (name : Text) (lines : Lines) where
  pub register-without : register (without name lines) ≡ register lines
  register-without = register-same (without name lines) lines (without-house name lines)

  pub setting-without : setting (without name lines) ≡ setting lines
  setting-without = setting-same (without name lines) lines (without-house name lines)

  pub assigned-without : (g : Goal) → assigned g (without name lines) ≡ assigned g lines
  assigned-without = assigned-same (without name lines) lines (without-house name lines)

  pub seed_of-without : seed_of (without name lines) ≡ seed_of lines
  seed_of-without = seed_of-same (without name lines) lines (without-house name lines)

  pub seal_of-without : seal_of (without name lines) ≡ seal_of lines
  seal_of-without = seal_of-same (without name lines) lines (without-house name lines)

  pub phase_after-without : phase_after (without name lines) ≡ phase_after lines
  phase_after-without = phase_after-same (without name lines) lines (without-house name lines)

  pub draw_of-without : draw_of (without name lines) ≡ draw_of lines
  draw_of-without = draw_of-same (without name lines) lines (without-house name lines)

-- one line of the kept ones, where it is a review line that none sets aside
abbrev kept_line : Lines → Text → Lines
kept_line before line = cond (is_review line && is_none (kind_of goal.Run before line)) (line ∷ []) []

kept_line-same : (a b : Lines) (line : Text) → HaveSameHouse a b → kept_line a line ≡ kept_line b line
kept_line-same a b line same = ap (λ k. cond (is_review line && is_none k) (line ∷ []) []) (kind_of-same a b same goal.Run line)

not_kept_line : (test : Text → Bool) (before : Lines) (line : Text) → test line ≡ false → filter test (kept_line before line) ≡ []
not_kept_line test before line fails =
    cond_both (is_review line && is_none (kind_of goal.Run before line)) (line ∷ []) [] (λ xs. filter test xs ≡ [])
    (λ _. cond-false (test line) (line ∷ []) [] fails) (λ _. refl)

-- the kept lines that pass a test that no line of the person passes
pub kept_after-without : (name : Text) (test : Text → Bool) → ((line : Text) → is_by name line ≡ true → test line ≡ false) →
    (a b : Lines) → HaveSameHouse a b → (lines : Lines) → filter test (kept_after a (without name lines)) ≡ filter test (kept_after b lines)
unfolding without
kept_after-without name test apart a b same [] = refl
kept_after-without name test apart a b same (line ∷ lines) =
    let rest = without name lines in
    cond_both (not (is_by name line)) (line ∷ filter (λ x. not (is_by name x)) lines) (filter (λ x. not (is_by name x)) lines)
    (λ ys. filter test (kept_after a ys) ≡ filter test (kept_line b line ++ kept_after (b ++ line ∷ []) lines))
    (λ stays.
    filter-append test (kept_line a line) (kept_after (a ++ line ∷ []) rest)
    ∙ (ap (λ xs. filter test xs ++ filter test (kept_after (a ++ line ∷ []) rest)) (kept_line-same a b line same)
    ∙ (ap (λ xs. filter test (kept_line b line) ++ xs) (kept_after-without name test apart (a ++ line ∷ []) (b ++ line ∷ []) (same-push a b same line) lines)
    ∙ sym (filter-append test (kept_line b line) (kept_after (b ++ line ∷ []) lines)))))
    (λ goes.
    let by : is_by name line ≡ true = not-false (is_by name line) goes in
    kept_after-without name test apart a (b ++ line ∷ []) (same-left a b same line (by_no_house name line by)) lines
    ∙ sym (filter-append test (kept_line b line) (kept_after (b ++ line ∷ []) lines)
    ∙ ap (λ xs. xs ++ filter test (kept_after (b ++ line ∷ []) lines)) (not_kept_line test b line (apart line by))))

-- the test of a review line for the person at one place and the applicant at another
abbrev pub is_on : Setting → ℕ → ℕ → Text → Bool
is_on s r p line = bytes_eq (word line 1) (reviewer_at s r) && bytes_eq (word line 2) (name_at s p)

not_on : (name : Text) (s : Setting) (r p : ℕ) → reviewer_at s r ≢ name → (line : Text) → is_by name line ≡ true → is_on s r p line ≡ false
unfolding is_by
not_on name s r p other line by =
    let own : word line 1 ≡ name = same_text (word line 1) name (and_parts (is_review line) (bytes_eq (word line 1) name) by).1 in
    and_left (bytes_eq (word line 1) (reviewer_at s r)) (bytes_eq (word line 2) (name_at s p))
    (bytes_eq-other (word line 1) (reviewer_at s r) (λ e. other (sym e ∙ own)))

-- the points of every other reviewer stay
pub points_of-without : (name : Text) (lines : Lines) (r p : ℕ) → reviewer_at (setting lines) r ≢ name → points_of (without name lines) r p ≡ points_of lines r p
unfolding points_of
points_of-without name lines r p other =
    rw (setting-without name lines, kept_after-without name (is_on (setting lines) r p) (not_on name (setting lines) r p other) [] [] refl lines) refl

on_own : (name : Text) (s : Setting) (r p : ℕ) → reviewer_at s r ≡ name → (line : Text) → is_review line ≡ true → is_on s r p line ≡ true → is_by name line ≡ true
unfolding is_by
on_own name s r p own line review on =
    let same = same_text (word line 1) (reviewer_at s r) (and_parts (bytes_eq (word line 1) (reviewer_at s r)) (bytes_eq (word line 2) (name_at s p)) on).0 in
    and_from (is_review line) (bytes_eq (word line 1) name) review (bytes_eq-same (word line 1) name (same ∙ own))

not_own_line : (name : Text) (test : Text → Bool) → ((line : Text) → is_review line ≡ true → test line ≡ true → is_by name line ≡ true) →
    (before : Lines) (line : Text) → not (is_by name line) ≡ true → filter test (kept_line before line) ≡ []
not_own_line name test own before line stays =
    cond_both (is_review line && is_none (kind_of goal.Run before line)) (line ∷ []) [] (λ xs. filter test xs ≡ [])
    (λ kept.
    let review = (and_parts (is_review line) (is_none (kind_of goal.Run before line)) kept).0 in
    cond-false (test line) (line ∷ []) [] (false_from_ne_true (test line) (λ passes. both_ways (is_by name line) (not-true (is_by name line) stays) (own line review passes))))
    (λ _. refl)

-- no line of the person is among the kept ones
kept_after-own : (name : Text) (test : Text → Bool) → ((line : Text) → is_review line ≡ true → test line ≡ true → is_by name line ≡ true) →
    (before lines : Lines) → filter test (kept_after before (without name lines)) ≡ []
unfolding without
kept_after-own name test own before [] = refl
kept_after-own name test own before (line ∷ lines) =
    let rest = without name lines in
    cond_both (not (is_by name line)) (line ∷ filter (λ x. not (is_by name x)) lines) (filter (λ x. not (is_by name x)) lines)
    (λ ys. filter test (kept_after before ys) ≡ [])
    (λ stays.
    filter-append test (kept_line before line) (kept_after (before ++ line ∷ []) rest)
    ∙ (ap (λ xs. filter test (kept_line before line) ++ xs) (kept_after-own name test own (before ++ line ∷ []) lines)
    ∙ (append-nil (filter test (kept_line before line)) ∙ not_own_line name test own before line stays)))
    (λ goes. kept_after-own name test own before lines)

-- its own points are 0
pub points_of-own : (name : Text) (lines : Lines) (r p : ℕ) → reviewer_at (setting lines) r ≡ name → points_of (without name lines) r p ≡ 0
unfolding points_of
points_of-own name lines r p own =
    rw (setting-without name lines, kept_after-own name (is_on (setting lines) r p) (on_own name (setting lines) r p own) [] lines) refl
