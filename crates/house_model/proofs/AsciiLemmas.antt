-- Texts whose lines are made of words of ASCII are ASCII.
use Rattle.std.proofs.Common.{◌≡◌, ℕ, ◌<◌, Bool, true, false, cond, List, [], ◌∷◌, ◌++◌, flat_map, refl, ◌∙◌, inl, inr, arith}
use Rattle.std.specs.Prelude.{IsAscii, codes, decimal, nat_lt}
use Rattle.std.specs.List.{enumerate_from, join_with_byte, list_all}
use Rattle.std.specs.Str.{bytes_eq}
use Rattle.std.proofs.lemmas.Bool.{and_from}
use Rattle.std.proofs.lemmas.Bool.Decides.{nat_tests}
use Rattle.std.proofs.lemmas.List.Elements.{All-weaker}
use Rattle.std.proofs.lemmas.List.Folds.{list_all-append}
use Rattle.std.proofs.lemmas.List.Sums.{AllPass-from_list_all, list_all-from_AllPass}
use Rattle.std.proofs.lemmas.Str.Ascii.{IsAscii-from_all}
use Rattle.house_base.specs.declared.answer.Asides.{Asides}
use Rattle.house_base.specs.declared.answer.Reason.{Reason}
use Rattle.house_base.specs.declared.answer.Reason.TheVariants as reason
use Rattle.house_base.specs.Answer.{reason_word}
use Rattle.house_base.specs.Name.{is_name, is_name_byte}
use Rattle.house_base.specs.Text.{Text}
use Rattle.house_base.proofs.InOrderLemmas.{In}
use Rattle.house_model.specs.declared.outcome.ApplicantRow.{ApplicantRow}
use Rattle.house_model.specs.declared.outcome.ClusterRow.{ClusterRow}
use Rattle.house_model.specs.Report.{OutcomeParts, line_of, over, stand_alone, call_words, applicants_words, aside_words, draw_words, cluster_words, applicant_words, empty_words, refused_words, report_head, cluster_lines, applicant_lines, report_body, outcome_text}
use Rattle.house_model.proofs.RowTextLemmas.{is_plain, is_word}
use Rattle.house_model.proofs.WordLemmas.{name_parts, word_bytes, word_of_number, word_of_quotient}

-- whether each byte of a text is one of ASCII
abbrev pub is_ascii : Text → Bool
is_ascii text = list_all (λ b. nat_lt b 128) text

pub IsAscii-from_test : (text : Text) → is_ascii text ≡ true → IsAscii text
IsAscii-from_test text h =
    IsAscii-from_all text (All-weaker (λ b. nat_lt b 128 ≡ true) (λ b. b < 128) below text (AllPass-from_list_all (λ b. nat_lt b 128) text h)) where
      below : (b : ℕ) → nat_lt b 128 ≡ true → b < 128
      below b h = grind (arith, nat_tests)

pub ascii-append : (xs ys : Text) → is_ascii xs ≡ true → is_ascii ys ≡ true → is_ascii (xs ++ ys) ≡ true
ascii-append xs ys first second =
    list_all-append (λ b. nat_lt b 128) xs ys ∙ and_from (is_ascii xs) (is_ascii ys) first second

-- Words.

plain_byte : (b : ℕ) → is_plain b ≡ true → nat_lt b 128 ≡ true
plain_byte b h = grind (arith, nat_tests)

name_byte : (b : ℕ) → is_name_byte b ≡ true → nat_lt b 128 ≡ true
name_byte b h = grind (arith, nat_tests)

-- a test that holds of ASCII alone
by_bytes : (test : ℕ → Bool) → ((b : ℕ) → test b ≡ true → nat_lt b 128 ≡ true) → (text : Text) → list_all test text ≡ true → is_ascii text ≡ true
by_bytes test weaker text h =
    list_all-from_AllPass (λ b. nat_lt b 128) text (All-weaker (λ b. test b ≡ true) (λ b. nat_lt b 128 ≡ true) weaker text (AllPass-from_list_all test text h))

word-ascii : (w : Text) → is_word w ≡ true → is_ascii w ≡ true
word-ascii w h = by_bytes is_plain plain_byte w (word_bytes w h)

pub name-ascii : (w : Text) → is_name w ≡ true → is_ascii w ≡ true
name-ascii w h = by_bytes is_name_byte name_byte w (name_parts w h).1

pub number-ascii : (n : ℕ) → is_ascii (decimal n) ≡ true
number-ascii n = word-ascii (decimal n) (word_of_number n)

quotient-ascii : (x y : ℕ) → is_ascii (over x y) ≡ true
quotient-ascii x y = word-ascii (over x y) (word_of_quotient x y)

-- Lines of words.

abbrev pub AreAscii : List Text → Type 0
AreAscii [] = Unit {0}
AreAscii (w ∷ ws) = (is_ascii w ≡ true) × AreAscii ws

joined-ascii : (ws : List Text) → AreAscii ws → is_ascii (join_with_byte 32 ws) ≡ true
joined-ascii [] h = refl
joined-ascii (w ∷ []) h = h.0
joined-ascii (w ∷ v ∷ more) h = ascii-append w (32 ∷ join_with_byte 32 (v ∷ more)) h.0 (joined-ascii (v ∷ more) h.1)

pub line-ascii : (ws : List Text) → AreAscii ws → is_ascii (line_of ws) ≡ true
unfolding line_of
line-ascii ws h = ascii-append (join_with_byte 32 ws) (10 ∷ []) (joined-ascii ws h) refl

lines-ascii : {X : Type 0} (row : X → List Text) (xs : List X) → ((x : X) → In x xs → AreAscii (row x)) → is_ascii (flat_map (λ x. line_of (row x)) xs) ≡ true
lines-ascii row [] h = refl
lines-ascii row (x ∷ xs) h =
    ascii-append (line_of (row x)) (flat_map (λ x. line_of (row x)) xs) (line-ascii (row x) (h x (inl refl))) (lines-ascii row xs (λ y m. h y (inr m)))

-- The text of an outcome.

call-ascii : (o : OutcomeParts) → AreAscii (call_words o)
unfolding call_words
call-ascii o = (refl, (number-ascii o.seats, (number-ascii o.clusters, (number-ascii o.reviews, tt))))

applicants-ascii : (o : OutcomeParts) → AreAscii (applicants_words o)
unfolding applicants_words
applicants-ascii o = (refl, (number-ascii _, by (stand_alone o.applicant_rows))) where
  by : (alone : Bool) → AreAscii (cond alone [] (codes "persons" ∷ decimal o.persons ∷ []))
  by true = tt
  by false = (refl, (number-ascii o.persons, tt))

aside-ascii : (a : Asides) → AreAscii (aside_words a)
unfolding aside_words
aside-ascii a =
    (refl, (number-ascii a.form, (number-ascii a.early, (number-ascii a.late, (number-ascii a.unknown, (number-ascii a.unassigned, (number-ascii a.range, tt)))))))

draw-ascii : (o : OutcomeParts) → AreAscii (draw_words o)
unfolding draw_words
draw-ascii o = (refl, (quotient-ascii o.draw o.den, tt))

cluster-ascii : (den number : ℕ) (row : ClusterRow) → AreAscii (cluster_words den number row)
unfolding cluster_words
cluster-ascii den number row =
    (refl, (number-ascii number, (refl, (number-ascii row.cents, (refl, (quotient-ascii row.quota den, (refl, (number-ascii row.seats, (refl, (number-ascii row.filled, tt))))))))))

-- the names in a row are ASCII
abbrev pub HasAsciiNames : ApplicantRow → Type 0
HasAsciiNames row = (is_ascii row.name ≡ true) × (is_ascii row.person ≡ true)

abbrev behind_names : ℕ → ApplicantRow → List Text
behind_names den row = codes "cluster" ∷ decimal row.cluster ∷ codes "rank" ∷ decimal row.rank ∷ codes "cents" ∷ decimal row.cents
    ∷ codes "chance" ∷ over row.chance den ∷ cond row.chosen (codes "yes") (codes "no") ∷ []

chosen-ascii : (chosen : Bool) → is_ascii (cond chosen (codes "yes") (codes "no")) ≡ true
chosen-ascii true = refl
chosen-ascii false = refl

behind-ascii : (den : ℕ) (row : ApplicantRow) → AreAscii (behind_names den row)
behind-ascii den row =
    (refl, (number-ascii row.cluster, (refl, (number-ascii row.rank, (refl, (number-ascii row.cents, (refl, (quotient-ascii row.chance den, (chosen-ascii row.chosen, tt)))))))))

applicant-ascii : (den : ℕ) (row : ApplicantRow) → HasAsciiNames row → AreAscii (applicant_words den row)
unfolding applicant_words
applicant-ascii den row h = (refl, (h.0, by (bytes_eq row.name row.person))) where
  by : (own : Bool) → AreAscii (cond own [] (codes "person" ∷ row.person ∷ []) ++ behind_names den row)
  by true = behind-ascii den row
  by false = (refl, (h.1, behind-ascii den row))

empty-ascii : (o : OutcomeParts) → AreAscii (empty_words o)
unfolding empty_words
empty-ascii o = (refl, (number-ascii o.empty, tt))

head-ascii : (o : OutcomeParts) → is_ascii (report_head o) ≡ true
unfolding report_head
head-ascii o =
    let first = line-ascii (call_words o) (call-ascii o) in
    let second = line-ascii (applicants_words o) (applicants-ascii o) in
    let third = line-ascii (aside_words o.asides) (aside-ascii o.asides) in
    let fourth = line-ascii (draw_words o) (draw-ascii o) in
    let two = line_of (call_words o) ++ line_of (applicants_words o) in
    let three = two ++ line_of (aside_words o.asides) in
    ascii-append three (line_of (draw_words o))
    (ascii-append two (line_of (aside_words o.asides)) (ascii-append (line_of (call_words o)) (line_of (applicants_words o)) first second) third) fourth

body-ascii : (o : OutcomeParts) → ((row : ApplicantRow) → In row o.applicant_rows → HasAsciiNames row) → is_ascii (report_body o) ≡ true
unfolding report_body cluster_lines applicant_lines
body-ascii o h =
    let of_cluster = λ (e : ℕ × ClusterRow). cluster_words o.den e.0 e.1 in
    let of_applicant = applicant_words o.den in
    let clusters = flat_map (λ e. line_of (of_cluster e)) (enumerate_from 1 o.cluster_rows) in
    let applicants = flat_map (λ row. line_of (of_applicant row)) o.applicant_rows in
    let first = lines-ascii of_cluster (enumerate_from 1 o.cluster_rows) (λ e m. cluster-ascii o.den e.0 e.1) in
    let second = lines-ascii of_applicant o.applicant_rows (λ row m. applicant-ascii o.den row (h row m)) in
    let third = line-ascii (empty_words o) (empty-ascii o) in
    ascii-append (clusters ++ applicants) (line_of (empty_words o)) (ascii-append clusters applicants first second) third

pub outcome-ascii : (o : OutcomeParts) → ((row : ApplicantRow) → In row o.applicant_rows → HasAsciiNames row) → is_ascii (outcome_text o) ≡ true
unfolding outcome_text
outcome-ascii o h = ascii-append (report_head o) (report_body o) (head-ascii o) (body-ascii o h)

-- The text of a refusal.

reason-ascii : (why : Reason) → is_ascii (reason_word why) ≡ true
reason-ascii reason.NoCall = refl
reason-ascii reason.Order = refl
reason-ascii reason.Form = refl
reason-ascii reason.Name = refl
reason-ascii reason.Range = refl
reason-ascii reason.Known = refl
reason-ascii reason.Unknown = refl
reason-ascii reason.TooMany = refl
reason-ascii reason.Seal = refl
reason-ascii reason.Few = refl
reason-ascii reason.Unplaced = refl
reason-ascii reason.Invalid = refl
reason-ascii reason.Unfinished = refl

pub refused-ascii : (line : ℕ) (why : Reason) → is_ascii (line_of (refused_words line why)) ≡ true
refused-ascii line why = line-ascii (refused_words line why) (refl, (number-ascii line, (reason-ascii why, tt)))
