-- The lines of the trial file.
use Rattle.std.proofs.Common.{◌≡◌, ℕ, ◌+◌, ◌*◌, ◌%◌, ◌<◌, ◌≤◌, List, [], ◌∷◌, ◌++◌, length, map, flat_map, refl, sym, ◌∙◌, subst, inl, inr, arith, length-append}
use Rattle.std.specs.Prelude.{codes}
use Rattle.std.specs.List.{join_with_byte}
use Rattle.std.proofs.lemmas.List.{length-map}
use Rattle.house_base.specs.Text.{Text}
use Rattle.house_base.specs.declared.limits.TheConstants.{MOST_APPLICANTS}
use Rattle.house_base.proofs.InOrderLemmas.{In, In-append, flat_map-In, map-In}
use Rattle.peer_selection.specs.Counting.{numbers_below}
use Rattle.peer_selection.proofs.CountingLemmas.{length-numbers_below}
use Rattle.house_model.specs.Text.{lines}
use Rattle.house_model.proofs.PrintedCallLemmas.{below-In}
use Rattle.house_model.proofs.RowTextLemmas.{AreWords, lines-rows}
use Rattle.house_model.proofs.WordLemmas.{word_of_name, word_of_number}
use Rattle.trial_file.specs.Stream.{seed_words}
use Rattle.trial_file.specs.Trial.{IsTrial, applicant_row, call_row, draw_row, made_file, made_lines, place_row, reviews_by, trial_name, trial_rows}
use Rattle.trial_file.proofs.NameLemmas.{name_formed}
use Rattle.trial_file.proofs.RowLemmas.{Rows, length-groups}

-- rows of which each is made of words
abbrev pub AllWords : Rows → Type 0
AllWords rows = (row : List Text) → In row rows → AreWords row

both_words : (xs ys : Rows) → AllWords xs → AllWords ys → AllWords (xs ++ ys)
both_words xs ys p q row m = elim (In-append row xs ys m) [ inl here ↦ p row here | inr there ↦ q row there ]

one_words : (row : List Text) → AreWords row → AllWords (row ∷ [])
one_words row p other m = elim m [ inl same ↦ subst AreWords (sym same) p | inr none ↦ absurd none ]

mapped_words : (row : ℕ → List Text) (n : ℕ) → ((i : ℕ) → i < n → AreWords (row i)) → AllWords (map row (numbers_below n))
mapped_words row n each other m =
    let at = map-In row other (numbers_below n) m in
    subst AreWords (sym at.2) (each at.0 (below-In n at.0 at.1))

name_word : (i : ℕ) → i < MOST_APPLICANTS → AreWords (trial_name (i + 1) ∷ [])
name_word i l = (word_of_name (trial_name (i + 1)) (name_formed (i + 1) (omega (arith, l))), tt)

call_words : (l m k : ℕ) → AreWords (call_row l m k)
call_words l m k = (refl, (word_of_number k, (word_of_number l, (word_of_number m, tt))))

applicant_words : (i : ℕ) → i < MOST_APPLICANTS → AreWords (applicant_row i)
applicant_words i l = (refl, name_word i l)

place_words : (clusters i : ℕ) → i < MOST_APPLICANTS → AreWords (place_row clusters i)
place_words clusters i l = (refl, ((name_word i l).0, (word_of_number (i % clusters + 1), tt)))

review_words : (words : ℕ → ℕ) (n m r : ℕ) → r < n → n ≤ MOST_APPLICANTS → AllWords (reviews_by words n m r)
unfolding reviews_by
review_words words n m r l few =
    mapped_words _ m (λ d below.
    let behind : (r + 1 + d) % n < n = omega (arith, l) in
    (refl, ((name_word r (omega (arith, l, few))).0, ((name_word ((r + 1 + d) % n) (omega (arith, behind, few))).0, (word_of_number _, tt)))))

pub reviews_words : (words : ℕ → ℕ) (n m : ℕ) → n ≤ MOST_APPLICANTS → AllWords (flat_map (reviews_by words n m) (numbers_below n))
reviews_words words n m few row h =
    let at = flat_map-In (reviews_by words n m) row (numbers_below n) h in
    review_words words n m at.0 (below-In n at.0 at.1) few row at.2

last_words : (row : List Text) → AreWords row → AllWords ((codes "close" ∷ []) ∷ row ∷ [])
last_words row p other m = elim m [
  | inl same ↦ subst AreWords (sym same) (refl, tt)
  | inr rest ↦ one_words row p other rest
]

pub rows_words : (words : ℕ → ℕ) (n l m k : ℕ) → n ≤ MOST_APPLICANTS → AllWords (trial_rows words n l m k)
unfolding trial_rows
rows_words words n l m k few =
    let applicants = map applicant_row (numbers_below n) in
    let places = map (place_row l) (numbers_below n) in
    let reviews = flat_map (reviews_by words n m) (numbers_below n) in
    let assign : Rows = (codes "assign" ∷ []) ∷ [] in
    let last : Rows = (codes "close" ∷ []) ∷ draw_row words n (n * m) ∷ [] in
    let to_applicants : Rows = call_row l m k ∷ [] ++ applicants in
    both_words (to_applicants ++ places ++ assign ++ reviews) last
    (both_words (to_applicants ++ places ++ assign) reviews
    (both_words (to_applicants ++ places) assign
    (both_words to_applicants places
    (both_words (call_row l m k ∷ []) applicants (one_words (call_row l m k) (call_words l m k)) (mapped_words applicant_row n (λ i b. applicant_words i (omega (arith, b, few)))))
    (mapped_words (place_row l) n (λ i b. place_words l i (omega (arith, b, few)))))
    (one_words (codes "assign" ∷ []) (refl, tt)))
    (reviews_words words n m few))
    (last_words (draw_row words n (n * m)) (refl, (word_of_number _, tt)))

-- the lines are those of which the file is made
pub lines_read : (seed n l m k : ℕ) → IsTrial n l m k → lines (made_file seed n l m k) ≡ made_lines seed n l m k
unfolding made_file made_lines
lines_read seed n l m k t =
    lines-rows (λ row. row) (trial_rows (seed_words seed) n l m k) (rows_words (seed_words seed) n l m k t.applicants_in_range.1)

reviews_count : (words : ℕ → ℕ) (n m r : ℕ) → length (reviews_by words n m r) ≡ m
unfolding reviews_by
reviews_count words n m r = length-map (numbers_below m) _ ∙ length-numbers_below m

rows_count : (words : ℕ → ℕ) (n l m k : ℕ) → length (trial_rows words n l m k) ≡ 4 + 2 * n + n * m
unfolding trial_rows
rows_count words n l m k =
    let applicants = map applicant_row (numbers_below n) in
    let places = map (place_row l) (numbers_below n) in
    let reviews = flat_map (reviews_by words n m) (numbers_below n) in
    let a = length-map (numbers_below n) applicant_row ∙ length-numbers_below n in
    let p = length-map (numbers_below n) (place_row l) ∙ length-numbers_below n in
    let r = length-groups (reviews_by words n m) m n (reviews_count words n m) in
    simp length-append (omega (arith, a, p, r))

pub lines_count : (seed n l m k : ℕ) → length (made_lines seed n l m k) ≡ 4 + 2 * n + n * m
unfolding made_lines
lines_count seed n l m k =
    length-map (trial_rows (seed_words seed) n l m k) (join_with_byte 32) ∙ rows_count (seed_words seed) n l m k
