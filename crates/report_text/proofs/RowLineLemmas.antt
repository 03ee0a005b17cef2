use Rattle.std.proofs.Common.{◌≡◌, ℕ, zero, suc, ◌+◌, ◌<◌, List, [], ◌∷◌, ◌++◌, length, take, get_or, refl, ap, ◌∙◌, arith}
use Rattle.std.specs.List.{flat_map, enumerate_from}
use Rattle.std.proofs.lemmas.List.{take_more, append-nil}
use Rattle.std.proofs.lemmas.Grind.{flat_map-append}
use Rattle.house_model.specs.Report.{line_of, cluster_words, cluster_lines, applicant_words, applicant_lines}
use Rattle.house_model.specs.declared.outcome.ClusterRow.{ClusterRow}
use Rattle.house_model.specs.declared.outcome.ApplicantRow.{ApplicantRow}

-- The lines of rows, with one row more.

-- numbered elements, with one more of them
enumerate_more : {A : Type 0} (n : ℕ) (xs : List A) (i : ℕ) (d : A) → i < length xs → enumerate_from n (take (i + 1) xs) ≡ enumerate_from n (take i xs) ++ (n + i, get_or xs i d) ∷ []
enumerate_more n [] i d l = absurd (omega arith)
enumerate_more n (x ∷ xs) zero d l = ap (λ k. (k, x) ∷ []) (let e : n ≡ n + 0 = omega arith in e)
enumerate_more n (x ∷ xs) (suc i) d l =
    let next : suc i + 1 ≡ suc (i + 1) = omega arith in
    ap (λ k. enumerate_from n (take k (x ∷ xs))) next
    ∙ ap (λ ys. (n, x) ∷ ys) (enumerate_more (n + 1) xs i d (omega arith)
    ∙ ap (λ k. enumerate_from (n + 1) (take i xs) ++ (k, get_or xs i d) ∷ []) (let e : n + 1 + i ≡ n + suc i = omega arith in e))

-- a row of zeros, which stands for one that is not there
abbrev pub no_row : ClusterRow
no_row = record { cents = 0; quota = 0; seats = 0; filled = 0 }

pub cluster_lines-none : (den : ℕ) (rows : List ClusterRow) → cluster_lines den (take 0 rows) ≡ []
unfolding cluster_lines
cluster_lines-none den rows = refl

pub cluster_lines-more : (den : ℕ) (rows : List ClusterRow) (i : ℕ) (d : ClusterRow) → i < length rows →
    cluster_lines den (take (i + 1) rows) ≡ cluster_lines den (take i rows) ++ line_of (cluster_words den (i + 1) (get_or rows i d))
unfolding cluster_lines
cluster_lines-more den rows i d l =
    let line = λ (e : ℕ × ClusterRow). line_of (cluster_words den e.0 e.1) in
    ap (flat_map line) (enumerate_more 1 rows i d l)
    ∙ (flat_map-append line (enumerate_from 1 (take i rows)) ((1 + i, get_or rows i d) ∷ [])
    ∙ ap (λ t. flat_map line (enumerate_from 1 (take i rows)) ++ t) (append-nil (line (1 + i, get_or rows i d)) ∙ ap (λ k. line (k, get_or rows i d)) (let e : 1 + i ≡ i + 1 = omega arith in e)))

pub applicant_lines-none : (den : ℕ) (rows : List ApplicantRow) → applicant_lines den (take 0 rows) ≡ []
unfolding applicant_lines
applicant_lines-none den rows = refl

pub applicant_lines-more : (den : ℕ) (rows : List ApplicantRow) (i : ℕ) (d : ApplicantRow) → i < length rows →
    applicant_lines den (take (i + 1) rows) ≡ applicant_lines den (take i rows) ++ line_of (applicant_words den (get_or rows i d))
unfolding applicant_lines
applicant_lines-more den rows i d l =
    let line = λ (row : ApplicantRow). line_of (applicant_words den row) in
    ap (flat_map line) (take_more rows i d l)
    ∙ (flat_map-append line (take i rows) (get_or rows i d ∷ [])
    ∙ ap (λ t. flat_map line (take i rows) ++ t) (append-nil (line (get_or rows i d))))
