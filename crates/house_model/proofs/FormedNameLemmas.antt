-- The names on record are of their form where no line ends the run.
use Rattle.std.proofs.Common.{◌≡◌, ℕ, ◌+◌, true, ◌&&◌, ◌||◌, cond, eqb, List, [], ◌∷◌, ◌++◌, length, All, IsTrue, None, refl, sym, ap, ◌∙◌, inl, inr, arith}
use Rattle.std.specs.Prelude.{drop, slice_get}
use Rattle.std.specs.List.{list_all}
use Rattle.std.specs.Option.{option_map_or}
use Rattle.std.proofs.lemmas.Bool.{false≢true, and_parts, cond_both}
use Rattle.house_base.specs.Name.{is_name}
use Rattle.house_base.specs.Text.{Text}
use Rattle.house_base.proofs.InOrderLemmas.{In, map-In, filter-In, All-from_In}
use Rattle.house_model.specs.declared.goal.Goal.{Goal}
use Rattle.house_model.specs.declared.verb.Verb.{Verb}
use Rattle.house_model.specs.declared.verb.Verb.TheVariants as verb
use Rattle.house_model.specs.Ending.{Rule, stop_after, stop_of}
use Rattle.house_model.specs.Faults.{names_are_formed}
use Rattle.house_model.specs.Runs.{halt}
use Rattle.house_model.specs.Said.{those, applicant_in, register}
use Rattle.house_model.specs.Text.{Lines, words, word}
use Rattle.house_model.specs.Verbs.{verb_in, verb_number, commands, has_count}
use Rattle.house_model.proofs.HouseLineLemmas.{command_of_house}
use Rattle.house_model.proofs.LateLineLemmas.{none_first, admitted-faultless, faultless-house, in_order, formed}
use Rattle.house_model.proofs.RunEndLemmas.{accepted-formed_names}

applicant_number : (v : Verb) → eqb (verb_number v) 1 ≡ true → v ≡ verb.Applicant
applicant_number verb.Applicant h = refl
applicant_number v h = absurd (false≢true h)

-- lines of which none ends the run are admitted each, behind some lines
pub admitted : (rule : Rule) (before lines : Lines) (line : Text) → stop_after rule before lines ≡ None → In line lines → (front : Lines) × (rule front line ≡ None)
admitted rule before [] line free m = absurd m
admitted rule before (x ∷ xs) line free m =
    let parts = none_first (rule before x) (λ w. (length before + 1, w)) (stop_after rule (before ++ x ∷ []) xs) free in
    elim m [
      | inl e ↦ (before, ap (rule before) e ∙ parts.0)
      | inr later ↦ admitted rule (before ++ x ∷ []) xs line parts.1 later
    ]

-- the name and the person in the words of an applicant line
abbrev word_of : List Text → ℕ → Text
word_of ws i = option_map_or (λ w. w) (slice_get ws i) []

names_in : (ws : List Text) → (eqb (length ws) 2 || eqb (length ws) 3) ≡ true → list_all is_name (drop 1 ws) ≡ true
    → (is_name (word_of ws 1) ≡ true) × (is_name (cond (eqb (length ws) 2) (word_of ws 1) (word_of ws 2)) ≡ true)
names_in [] count all = absurd (false≢true count)
names_in (a ∷ []) count all = absurd (false≢true count)
names_in (a ∷ b ∷ []) count all = let first = (and_parts (is_name b) true all).0 in (first, first)
names_in (a ∷ b ∷ c ∷ more) count all =
    let first = and_parts (is_name b) (is_name c && list_all is_name more) all in
    let second = and_parts (is_name c) (list_all is_name more) first.1 in
    (first.0, cond_both (eqb (length (a ∷ b ∷ c ∷ more)) 2) b c (λ w. is_name w ≡ true) (λ _. first.0) (λ _. second.0))

applicant_in-formed : (g : Goal) (before : Lines) (line : Text) → commands verb.Applicant line ≡ true → halt g before line ≡ None
    → IsTrue (is_name (applicant_in line).0) × IsTrue (is_name (applicant_in line).1)
unfolding word
applicant_in-formed g before line applies free =
    let house = command_of_house verb.Applicant (omega arith) line applies in
    let faultless = admitted-faultless g before line free in
    let is = applicant_number (verb_in line) applies in
    let count = ap (λ v. has_count v (length (words line))) (sym is) ∙ formed line (in_order g before line (faultless-house g before line house faultless)).1 in
    let all = ap (λ v. names_are_formed v line) (sym is) ∙ accepted-formed_names g before line house faultless in
    names_in (words line) count all

-- the names of the applicants and of their persons
pub names-formed : (g : Goal) (lines : Lines) → stop_of (halt g) lines ≡ None → All (λ a. IsTrue (is_name a.0) × IsTrue (is_name a.1)) (register lines).applicants
unfolding stop_of register those
names-formed g lines free =
    All-from_In (λ a. IsTrue (is_name a.0) × IsTrue (is_name a.1)) (register lines).applicants (λ a m.
    let at = map-In applicant_in a (those verb.Applicant lines) m in
    let on = filter-In (commands verb.Applicant) at.0 lines at.1 in
    let reached = admitted (halt g) [] lines at.0 free on.0 in
    let both = applicant_in-formed g reached.0 at.0 on.1 reached.1 in
    (ap (λ (q : Text × Text). is_name q.0) at.2 ∙ both.0, ap (λ (q : Text × Text). is_name q.1) at.2 ∙ both.1))
