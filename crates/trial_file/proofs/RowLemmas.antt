-- The text of rows, one more at a time.
use Rattle.std.proofs.Common.{◌≡◌, ℕ, zero, suc, ◌+◌, ◌*◌, List, [], ◌∷◌, ◌++◌, length, map, flat_map, sym, ap, ◌∙◌, arith, append_assoc, append-nil, length-append}
use Rattle.std.proofs.lemmas.Grind.{flat_map-append}
use Rattle.std.proofs.lemmas.List.{map-append}
use Rattle.house_base.specs.Text.{Text}
use Rattle.peer_selection.specs.Counting.{numbers_below}
use Rattle.peer_selection.proofs.CountingLemmas.{numbers_below-add_one}
use Rattle.house_model.specs.Report.{line_of}
use Rattle.trial_file.specs.Trial.{rows_text}

abbrev pub Rows : Type 0
Rows = List (List Text)

pub text-both : (xs ys : Rows) → rows_text (xs ++ ys) ≡ rows_text xs ++ rows_text ys
text-both xs ys = flat_map-append line_of xs ys

pub text-one : (row : List Text) → rows_text (row ∷ []) ≡ line_of row
text-one row = append-nil (line_of row)

-- behind an old text

pub none_yet : (row : ℕ → List Text) (old : Text) → old ≡ old ++ rows_text (map row (numbers_below 0))
unfolding numbers_below
none_yet row old = sym (append-nil old)

pub one_more : (row : ℕ → List Text) (old text : Text) (i : ℕ) → text ≡ old ++ rows_text (map row (numbers_below i)) →
    text ++ line_of (row i) ≡ old ++ rows_text (map row (numbers_below (i + 1)))
one_more row old text i so_far =
    let front = rows_text (map row (numbers_below i)) in
    ap (λ t. t ++ line_of (row i)) so_far
    ∙ append_assoc old front (line_of (row i))
    ∙ ap (λ t. old ++ (front ++ t)) (sym (text-one (row i)))
    ∙ ap (λ t. old ++ t) (sym (text-both (map row (numbers_below i)) (row i ∷ [])))
    ∙ ap (λ rows. old ++ rows_text rows) (sym (map-append row (numbers_below i) (i ∷ [])))
    ∙ ap (λ ns. old ++ rows_text (map row ns)) (sym (numbers_below-add_one i))

pub no_group_yet : (rows : ℕ → Rows) (old : Text) → old ≡ old ++ rows_text (flat_map rows (numbers_below 0))
unfolding numbers_below
no_group_yet rows old = sym (append-nil old)

pub group-more : (rows : ℕ → Rows) (i : ℕ) → flat_map rows (numbers_below (i + 1)) ≡ flat_map rows (numbers_below i) ++ rows i
group-more rows i =
    ap (flat_map rows) (numbers_below-add_one i)
    ∙ flat_map-append rows (numbers_below i) (i ∷ [])
    ∙ ap (λ rs. flat_map rows (numbers_below i) ++ rs) (append-nil (rows i))

pub one_group_more : (rows : ℕ → Rows) (old text : Text) (i : ℕ) → text ≡ old ++ rows_text (flat_map rows (numbers_below i)) →
    text ++ rows_text (rows i) ≡ old ++ rows_text (flat_map rows (numbers_below (i + 1)))
one_group_more rows old text i so_far =
    let front = flat_map rows (numbers_below i) in
    ap (λ t. t ++ rows_text (rows i)) so_far
    ∙ append_assoc old (rows_text front) (rows_text (rows i))
    ∙ ap (λ t. old ++ t) (sym (text-both front (rows i)))
    ∙ ap (λ rs. old ++ rows_text rs) (sym (group-more rows i))

pub length-groups : (rows : ℕ → Rows) (m n : ℕ) → ((i : ℕ) → length (rows i) ≡ m) → length (flat_map rows (numbers_below n)) ≡ n * m
unfolding numbers_below
length-groups rows m zero each = omega arith
length-groups rows m (suc n) each =
    let rest = length-groups rows m n each in
    let both = ap length (flat_map-append rows (numbers_below n) (n ∷ [])) in
    let split = length-append (flat_map rows (numbers_below n)) (flat_map rows (n ∷ [])) in
    let last = ap length (append-nil (rows n)) in
    omega (arith, rest, both, split, last, each n)
