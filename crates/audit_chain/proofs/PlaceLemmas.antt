-- The first place among rows at which one is not of the form.
use Rattle.std.proofs.Common.{◌≡◌, ℕ, zero, suc, ◌+◌, ◌<◌, Bool, true, false, cond, not, List, [], ◌∷◌, ◌++◌, length, length-append, get_or, take, refl, sym, ap, ap₂, ◌∙◌, arith, add-zero}
use Rattle.std.specs.Prelude.{Some, None, find}
use Rattle.std.specs.List.{range_with_len}
use Rattle.std.specs.Option.{option_or}
use Rattle.std.proofs.lemmas.Bool.{not-false}
use Rattle.std.proofs.lemmas.List.Folds.{find-append}
use Rattle.std.proofs.lemmas.List.{take-append-le, get_or_append_left}
use Rattle.std.proofs.Math.Seq.{get_or-append_seam, take-append_seam}
use Rattle.house_base.specs.Text.{Text}
use Rattle.audit_chain.specs.File.{first_misfit, fits_behind}

-- whether the row at a place does not fit
abbrev misfits : List Text → ℕ → Bool
misfits rows i = not (fits_behind (take i rows) (get_or rows i []))

find_alike : (p q : ℕ → Bool) (a n : ℕ) → ((i : ℕ) → i < a + n → p i ≡ q i) → find p (range_with_len a n) ≡ find q (range_with_len a n)
find_alike p q a zero same = refl
find_alike p q a (suc n) same =
    ap (λ b. cond b (Some a) (find p (range_with_len (a + 1) n))) (same a (omega arith))
    ∙ ap (λ o. cond (q a) (Some a) o) (find_alike p q (a + 1) n (λ i below. same i (omega (arith, below))))

range_in_two : (a n m : ℕ) → range_with_len a (n + m) ≡ range_with_len a n ++ range_with_len (a + n) m
range_in_two a zero m = ap₂ range_with_len (sym (add-zero a)) (omega arith)
range_in_two a (suc n) m =
    let more : suc n + m ≡ suc (n + m) = omega arith in
    let later : (a + 1) + n ≡ a + suc n = omega arith in
    ap (range_with_len a) more ∙ ap (λ r. a ∷ r) (range_in_two (a + 1) n m ∙ ap (λ b. range_with_len (a + 1) n ++ range_with_len b m) later)

-- behind rows that fit, the search goes on at the next one
search_on : (rows : List Text) (row : Text) (more : List Text) → first_misfit rows ≡ None →
    first_misfit (rows ++ row ∷ more) ≡ find (misfits (rows ++ row ∷ more)) (range_with_len (length rows) (suc (length more)))
unfolding first_misfit
search_on rows row more fit =
    let whole = rows ++ row ∷ more in
    let count : length whole ≡ length rows + suc (length more) = omega (arith, length-append rows (row ∷ more)) in
    let early = find_alike (misfits whole) (misfits rows) 0 (length rows)
    (λ i below. ap not (ap₂ fits_behind (take-append-le i rows (row ∷ more) (omega (arith, below))) (get_or_append_left rows (row ∷ more) [] i (omega (arith, below))))) in
    ap (λ n. find (misfits whole) (range_with_len 0 n)) count
    ∙ ap (find (misfits whole)) (range_in_two 0 (length rows) (suc (length more)))
    ∙ find-append (misfits whole) (range_with_len 0 (length rows)) (range_with_len (0 + length rows) (suc (length more)))
    ∙ ap (λ o. option_or o (find (misfits whole) (range_with_len (0 + length rows) (suc (length more))))) (early ∙ fit)
    ∙ ap (λ n. find (misfits whole) (range_with_len n (suc (length more)))) (omega arith)

next_place : (rows : List Text) (row : Text) (more : List Text) → misfits (rows ++ row ∷ more) (length rows) ≡ not (fits_behind rows row)
next_place rows row more = ap not (ap₂ fits_behind (take-append_seam rows (row ∷ more)) (get_or-append_seam rows row more []))

-- a row that fits behind rows that do
pub one_more_fits : (rows : List Text) (row : Text) → first_misfit rows ≡ None → fits_behind rows row ≡ true → first_misfit (rows ++ row ∷ []) ≡ None
one_more_fits rows row fit fits =
    search_on rows row [] fit ∙ ap (λ b. cond b (Some (length rows)) None) (next_place rows row [] ∙ ap not fits)

-- a row that does not fit behind rows that do is the first
pub misfit_is_first : (rows : List Text) (row : Text) (more : List Text) → first_misfit rows ≡ None → fits_behind rows row ≡ false →
    first_misfit (rows ++ row ∷ more) ≡ Some (length rows)
misfit_is_first rows row more fit fits =
    search_on rows row more fit
    ∙ ap (λ b. cond b (Some (length rows)) (find (misfits (rows ++ row ∷ more)) (range_with_len (length rows + 1) (length more)))) (next_place rows row more ∙ ap not fits)

none_found : (p : ℕ → Bool) (a n i : ℕ) → find p (range_with_len a n) ≡ None → i < n → p (a + i) ≡ false
none_found p a zero i none below = absurd (omega (arith, below))
none_found p a (suc n) i none below = go (p a) refl none (λ none k early. none_found p (a + 1) n k none early) i below
  where
    go : (b : Bool) → p a ≡ b → cond b (Some a) (find p (range_with_len (a + 1) n)) ≡ None →
        (find p (range_with_len (a + 1) n) ≡ None → (k : ℕ) → k < n → p ((a + 1) + k) ≡ false) → (i : ℕ) → i < suc n → p (a + i) ≡ false
    go true is none later i below = absurd (let wrong : ⊥ = cc in wrong)
    go false is none later zero below = ap p (add-zero a) ∙ is
    go false is none later (suc i) below =
        let there : a + suc i ≡ (a + 1) + i = omega arith in
        ap p there ∙ later none i (omega (arith, below))

-- where no row is the first that does not fit, each fits behind those before it
pub all_fit : (rows : List Text) → first_misfit rows ≡ None → (i : ℕ) → i < length rows → fits_behind (take i rows) (get_or rows i []) ≡ true
unfolding first_misfit
all_fit rows none i below =
    let here : 0 + i ≡ i = omega arith in
    not-false (fits_behind (take i rows) (get_or rows i [])) (sym (ap (misfits rows) here) ∙ none_found (misfits rows) 0 (length rows) i none below)
