-- The file, put together of its parts.
use Rattle.std.proofs.Common.{◌≡◌, ℕ, ◌*◌, ◌<◌, ◌≤◌, ◌^◌, List, [], ◌∷◌, ◌++◌, map, flat_map, codes, sym, ap, ◌∙◌, arith, append_assoc}
use Rattle.std.proofs.Math.Nat.{mul-le-mul_left}
use Rattle.house_base.specs.Text.{Text}
use Rattle.house_base.specs.declared.limits.TheConstants.{MOST_APPLICANTS, MOST_REVIEWS}
use Rattle.peer_selection.specs.Counting.{numbers_below}
use Rattle.house_model.specs.Report.{line_of}
use Rattle.trial_file.specs.Trial.{applicant_row, call_row, draw_row, place_row, reviews_by, rows_text, trial_rows}
use Rattle.trial_file.proofs.RowLemmas.{Rows, text-both, text-one}

longer : (front more : Rows) (t u : Text) → t ≡ rows_text front → u ≡ t ++ rows_text more → u ≡ rows_text (front ++ more)
longer front more t u so_far next = next ∙ ap (λ x. x ++ rows_text more) so_far ∙ sym (text-both front more)

one_longer : (front : Rows) (row : List Text) (t u : Text) → t ≡ rows_text front → u ≡ t ++ line_of row → u ≡ rows_text (front ++ row ∷ [])
one_longer front row t u so_far next = longer front (row ∷ []) t u so_far (next ∙ ap (λ x. t ++ x) (sym (text-one row)))

pub put_together : (words : ℕ → ℕ) (n l m k : ℕ) (t0 t1 t2 t3 t4 t5 t6 t7 : Text) → t0 ≡ [] → t1 ≡ t0 ++ line_of (call_row l m k) →
    t2 ≡ t1 ++ rows_text (map applicant_row (numbers_below n)) → t3 ≡ t2 ++ rows_text (map (place_row l) (numbers_below n)) → t4 ≡ t3 ++ line_of (codes "assign" ∷ []) →
    t5 ≡ t4 ++ rows_text (flat_map (reviews_by words n m) (numbers_below n)) → t6 ≡ t5 ++ line_of (codes "close" ∷ []) → t7 ≡ t6 ++ line_of (draw_row words n (n * m)) →
    t7 ≡ rows_text (trial_rows words n l m k)
unfolding trial_rows
put_together words n l m k t0 t1 t2 t3 t4 t5 t6 t7 e0 e1 e2 e3 e4 e5 e6 e7 =
    let applicants = map applicant_row (numbers_below n) in
    let places = map (place_row l) (numbers_below n) in
    let reviews = flat_map (reviews_by words n m) (numbers_below n) in
    let begin : Rows = call_row l m k ∷ [] in
    let r1 : t1 ≡ rows_text begin = e1 ∙ ap (λ x. x ++ line_of (call_row l m k)) e0 ∙ sym (text-one (call_row l m k)) in
    let r2 = longer begin applicants t1 t2 r1 e2 in
    let r3 = longer (begin ++ applicants) places t2 t3 r2 e3 in
    let r4 = one_longer (begin ++ applicants ++ places) (codes "assign" ∷ []) t3 t4 r3 e4 in
    let to_assign : Rows = begin ++ applicants ++ places ++ (codes "assign" ∷ []) ∷ [] in
    let r5 = longer to_assign reviews t4 t5 r4 e5 in
    let r6 = one_longer (to_assign ++ reviews) (codes "close" ∷ []) t5 t6 r5 e6 in
    one_longer (to_assign ++ reviews ++ (codes "close" ∷ []) ∷ []) (draw_row words n (n * m)) t6 t7 r6 e7
    ∙ ap rows_text (append_assoc (to_assign ++ reviews) ((codes "close" ∷ []) ∷ []) (draw_row words n (n * m) ∷ []))

pub few_words : (n m : ℕ) → n ≤ MOST_APPLICANTS → m ≤ MOST_REVIEWS → n * m < 2 ^ 32
few_words n m few short = omega (arith, mul-le-mul_left n short, few)
