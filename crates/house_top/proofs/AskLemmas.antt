-- What the words ask for, and the names of files behind the first.
use Rattle.std.proofs.Common.{◌≡◌, ℕ, suc, take, Bool, true, false, cond, [], ◌∷◌, List, Option, Result, Some, None, String, length, slice_index_or, string_bytes, refl, sym, ap, ◌∙◌, subst, arith}
use Rattle.std.specs.Prelude.{All, codes, option_and_then}
use Rattle.std.specs.Option.{option_map}
use Rattle.std.specs.Result.{result_ok}
use Rattle.std.proofs.lemmas.List.{length-drop}
use Rattle.std.proofs.lemmas.List.Elements.{All-head, All-tail}
use Rattle.house_base.specs.Text.{Text}
use Rattle.house_model.specs.declared.goal.Goal.{Goal}
use Rattle.house_model.specs.Text.{Lines}
use Rattle.house_top.specs.declared.document.Document.{Document}
use Rattle.house_top.specs.declared.document.Document.TheVariants as document
use Rattle.house_top.specs.declared.form.Form.{Form}
use Rattle.house_top.specs.declared.form.Form.TheVariants as form
use Rattle.house_top.specs.declared.status.Status.{Status}
use Rattle.house_top.specs.Due.{lines_of, opened_run}
use Rattle.house_top.specs.Words.{are_words, form_of, is_stored, is_storing, loads, name_one_file, name_two_files, names_in, slip_name, texts}

one_file : (word : Text) (words : List Text) → name_one_file word words ≡ true → length words ≡ 2
one_file word [] h = absurd (let wrong : false ≡ true = h in cc)
one_file word (a ∷ []) h = absurd (let wrong : false ≡ true = h in cc)
one_file word (a ∷ b ∷ []) h = refl
one_file word (a ∷ b ∷ c ∷ more) h = absurd (let wrong : false ≡ true = h in cc)

two_files : (word : Text) (words : List Text) → name_two_files word words ≡ true → length words ≡ 3
two_files word [] h = absurd (let wrong : false ≡ true = h in cc)
two_files word (a ∷ []) h = absurd (let wrong : false ≡ true = h in cc)
two_files word (a ∷ b ∷ []) h = absurd (let wrong : false ≡ true = h in cc)
two_files word (a ∷ b ∷ c ∷ []) h = refl
two_files word (a ∷ b ∷ c ∷ d ∷ more) h = absurd (let wrong : false ≡ true = h in cc)

-- how many words ask for a document to be judged
abbrev count_of : Document → ℕ
count_of document.Slip = 2
count_of document.Audit = 2
count_of document.OldAudit = 3

-- words that ask for files are so many
abbrev HasCount : ℕ → Option Form → Type 0
HasCount n None = Unit {0}
HasCount n (Some (form.Input g)) = Unit {0}
HasCount n (Some form.Opened) = n ≡ 3
HasCount n (Some form.Audit) = n ≡ 2
HasCount n (Some (form.Slip name)) = Unit {0}
HasCount n (Some (form.Judged d)) = n ≡ count_of d
HasCount n (Some form.Join) = n ≡ 3
HasCount n (Some form.Reserve) = n ≡ 2

by_test : (test : Bool) (n : ℕ) (asked others : Option Form) → (test ≡ true → HasCount n asked) → HasCount n others → HasCount n (cond test asked others)
by_test true n asked others h other = h refl
by_test false n asked others h other = other

by_name : (n : ℕ) (slip : Option Text) → HasCount n (option_map form.Slip slip)
by_name n None = tt
by_name n (Some name) = tt

words_count : (words : List Text) → HasCount (length words) (form_of words)
unfolding form_of
words_count words =
    by_test (are_words words (codes "run" ∷ [])) (length words) _ _ (λ is. tt)
    (by_test (are_words words (codes "feasible" ∷ [])) (length words) _ _ (λ is. tt)
    (by_test (are_words words (codes "pairs" ∷ [])) (length words) _ _ (λ is. tt)
    (by_test (name_two_files (codes "run") words) (length words) _ _ (two_files (codes "run") words)
    (by_test (name_one_file (codes "audit") words) (length words) _ _ (one_file (codes "audit") words)
    (by_test (name_one_file (codes "check") words) (length words) _ _ (one_file (codes "check") words)
    (by_test (name_one_file (codes "replay") words) (length words) _ _ (one_file (codes "replay") words)
    (by_test (name_two_files (codes "migrate") words) (length words) _ _ (two_files (codes "migrate") words)
    (by_test (name_two_files (codes "join") words) (length words) _ _ (two_files (codes "join") words)
    (by_test (name_one_file (codes "reserve") words) (length words) _ _ (one_file (codes "reserve") words) (by_name (length words) (slip_name words)))))))))))

length_texts : {Y : Type 0} (words : List (String Y)) → length (texts words) ≡ length words
length_texts [] = refl
length_texts (word ∷ words) = ap (λ n. suc n) (length_texts words)

strings_count : {Y : Type 0} (words : List (String Y)) (f : Form) → form_of (texts words) ≡ Some f → HasCount (length words) (Some f)
strings_count words f is = subst (λ n. HasCount n (Some f)) (length_texts words) (subst (HasCount (length (texts words))) is (words_count (texts words)))

-- a call file and a register are named by the second and the third of three words
pub three_strings : {Y : Type 0} (words : List (String Y)) → form_of (texts words) ≡ Some form.Opened → length words ≡ 3
three_strings {Y} words is = strings_count words form.Opened is

-- an audit is stored under the second of two words
pub audited_strings : {Y : Type 0} (words : List (String Y)) → form_of (texts words) ≡ Some form.Audit → length words ≡ 2
audited_strings {Y} words is = strings_count words form.Audit is

-- a file of withdrawals is named by the second of two words
pub reserve_strings : {Y : Type 0} (words : List (String Y)) → form_of (texts words) ≡ Some form.Reserve → length words ≡ 2
reserve_strings {Y} words is = strings_count words form.Reserve is

-- two audits are named by the second and the third of three words
pub migrated_strings : {Y : Type 0} (words : List (String Y)) → form_of (texts words) ≡ Some (form.Judged document.OldAudit) → length words ≡ 3
migrated_strings {Y} words is = strings_count words (form.Judged document.OldAudit) is

count_unless_stored : (d : Document) → is_stored d ≡ false → count_of d ≡ 2
count_unless_stored document.Slip none = refl
count_unless_stored document.Audit none = refl
count_unless_stored document.OldAudit none = absurd (let wrong : true ≡ false = none in cc)

-- a file that is judged with nothing to be stored is named by the second of two words
pub two_strings : {Y : Type 0} (words : List (String Y)) (d : Document) → is_stored d ≡ false → form_of (texts words) ≡ Some (form.Judged d) → length words ≡ 2
two_strings {Y} words d none is = strings_count words (form.Judged d) is ∙ count_unless_stored d none

pub unstored_document : (f : Form) (d : Document) → f ≡ form.Judged d → is_storing (Some f) ≡ false → is_stored d ≡ false
unstored_document f d is none = subst (λ f. is_storing (Some f) ≡ false) is none

-- the name behind the first of two words
pub names_of_two : {Y : Type 0} (words : List (String Y)) (one : String Y) → length words ≡ 2 → one ≡ slice_index_or words 1 one → names_in (texts words) ≡ string_bytes one ∷ []
names_of_two [] one two first = absurd (cc)
names_of_two (a ∷ []) one two first = absurd (let wrong : 1 ≡ 2 = two in omega (arith, wrong))
names_of_two (a ∷ b ∷ []) one two first = ap (λ n. string_bytes n ∷ []) (sym first)
names_of_two (a ∷ b ∷ c ∷ more) one two first = absurd (omega (arith, two))

pub named_one : {one first : Text} → first ≡ one → one ∷ [] ≡ first ∷ []
named_one {one} {first} is = ap (λ n. n ∷ []) (sym is)

-- the names behind the first of three words
pub names_of_three : {Y : Type 0} (words : List (String Y)) (one other : String Y) → length words ≡ 3 → one ≡ slice_index_or words 1 one → other ≡ slice_index_or words 2 other →
    names_in (texts words) ≡ string_bytes one ∷ string_bytes other ∷ []
names_of_three [] one other three first second = absurd (cc)
names_of_three (a ∷ []) one other three first second = absurd (let wrong : 1 ≡ 3 = three in omega (arith, wrong))
names_of_three (a ∷ b ∷ []) one other three first second = absurd (let wrong : 2 ≡ 3 = three in omega (arith, wrong))
names_of_three (a ∷ b ∷ c ∷ []) one other three first second = ap (λ n. string_bytes n ∷ string_bytes c ∷ []) (sym first) ∙ ap (λ n. string_bytes one ∷ string_bytes n ∷ []) (sym second)
names_of_three (a ∷ b ∷ c ∷ d ∷ more) one other three first second = absurd (omega (arith, three))

pub first_ready : (P : Text → Type 0) (one other : Text) (names : List Text) → names ≡ one ∷ other ∷ [] → All P names → P one
first_ready P one other names is ready = All-head P one (other ∷ []) (subst (All P) is ready)

pub second_ready : (P : Text → Type 0) (one other : Text) (names : List Text) → names ≡ one ∷ other ∷ [] → All P names → P other
second_ready P one other names is ready = All-head P other [] (All-tail P one (other ∷ []) (subst (All P) is ready))

pub one_ready : (P : Text → Type 0) (one : Text) (names more : List Text) → names ≡ one ∷ more → All P (take 1 names) → P one
one_ready P one names more is ready = All-head P one [] (subst (λ ns. All P (take 1 ns)) is ready)

-- the words of a form with files load what they name
pub ready_names : (P : Text → Type 0) (f : Form) (names : List Text) → f ≡ form.Opened → All P (loads (Some f) names) → All P names
ready_names P f names is ready = subst (λ f. All P (loads (Some f) names)) is ready

pub ready_name : (P : Text → Type 0) (f : Form) (d : Document) (names : List Text) → f ≡ form.Judged d → All P (loads (Some f) names) → All P (take 1 names)
ready_name P f d names is ready = subst (λ f. All P (loads (Some f) names)) is ready

pub ready_join : (P : Text → Type 0) (f : Form) (names : List Text) → f ≡ form.Join → All P (loads (Some f) names) → All P names
ready_join P f names is ready = subst (λ f. All P (loads (Some f) names)) is ready

pub ready_reserve : (P : Text → Type 0) (f : Form) (one : Text) (names : List Text) → f ≡ form.Reserve → names ≡ one ∷ [] → All P (loads (Some f) names) → P one
ready_reserve P f one names is are ready = All-head P one [] (subst (All P) are (subst (λ f. All P (loads (Some f) names)) is ready))

-- the words of a join name a file
pub join_names : (words : List Text) → form_of words ≡ Some form.Join → names_in words ≡ [] → ⊥
join_names words is none =
    let three : length words ≡ 3 = subst (HasCount (length words)) is (words_count words) in
    omega (arith, three, length-drop 1 words, ap length none)

pub named : {one other first second : Text} → first ≡ one → second ≡ other → one ∷ other ∷ [] ≡ first ∷ second ∷ []
named {one} {other} {first} {second} is are = ap (λ n. n ∷ other ∷ []) (sym is) ∙ ap (λ n. first ∷ n ∷ []) (sym are)

-- What is reported of an opening and an input behind it, and what of the input is heard.

abbrev pub reported_by : Result Lines Status → Text → Option Lines
reported_by opening input = option_and_then (λ run. cond run.reports (Some (lines_of run input)) None) (option_map opened_run (result_ok opening))

abbrev pub heard_by : Result Lines Status → Option (Goal × Lines)
heard_by opening = option_and_then (λ run. cond run.hears (Some (run.goal, run.opening)) None) (option_map opened_run (result_ok opening))
