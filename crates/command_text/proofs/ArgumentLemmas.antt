-- A line by its first word and those that follow.
use Rattle.std.proofs.Common.{◌≡◌, ℕ, suc, Bool, true, false, cond, eqb, List, [], ◌∷◌, length, drop, refl, sym, ap, ◌∙◌, arith, Some, None}
use Rattle.std.specs.Prelude.{Option, slice_get, not, ◌||◌}
use Rattle.std.specs.List.{list_all}
use Rattle.std.specs.Option.{option_map_or}
use Rattle.std.proofs.lemmas.Bool.Decides.{nat_tests}
use Rattle.house_base.specs.Name.{is_name}
use Rattle.house_base.specs.Number.{number_up_to}
use Rattle.house_base.specs.declared.limits.TheConstants.{MOST_POINTS}
use Rattle.house_base.specs.declared.review.ReviewLine.{ReviewLine}
use Rattle.house_base.specs.declared.answer.Reason.{Reason}
use Rattle.house_base.specs.declared.answer.Reason.TheVariants as reason
use Rattle.house_base.specs.Text.{Text}
use Rattle.house_model.specs.declared.command.Command.{Command}
use Rattle.house_model.specs.declared.command.Command.TheVariants as command
use Rattle.house_model.specs.declared.verb.Verb.{Verb}
use Rattle.house_model.specs.declared.verb.Verb.TheVariants as verb
use Rattle.house_model.specs.Faults.{ill_formed, names_are_formed, digest_is_formed}
use Rattle.house_model.specs.Text.{words, word, is_blank}
use Rattle.house_model.specs.Verbs.{verb_in, has_count, is_house, is_review}
use Rattle.command_text.specs.Arguments.{argument, are_ill_formed, are_misnamed, are_out_of_range, Says, IsSaid, IsFaulty}
use Rattle.command_text.specs.Reading.{reading_fault, numbers_are_within, Carries, IsCommandLine, IsBadLine, name_in, review_in}

-- a word behind the first
pub word_behind : (line first : Text) (args : List Text) (i : ℕ) → words line ≡ first ∷ args → word line (suc i) ≡ argument args i
unfolding word
word_behind line first args i h = ap (λ all. option_map_or (λ w. w) (slice_get all (suc i)) []) h

pub count_words : (line first : Text) (args : List Text) → words line ≡ first ∷ args → length (words line) ≡ suc (length args)
count_words line first args h = ap (λ all. length all) h

or_false : (b : Bool) → (b || false) ≡ b
or_false true = refl
or_false false = refl

ill : (v : Verb) (line first : Text) (args : List Text) → words line ≡ first ∷ args →
    (not (has_count v (length (words line))) || not (digest_is_formed v line)) ≡ are_ill_formed v args
ill verb.Seal line first args h = rw (count_words line first args h, word_behind line first args 0 h) refl
ill v line first args h = or_false (not (has_count v (length (words line)))) ∙ ap (λ n. not (has_count v n)) (count_words line first args h)

pub ill_formed_by_words : (line first : Text) (args : List Text) → words line ≡ first ∷ args → ill_formed line ≡ are_ill_formed (verb_in line) args
unfolding ill_formed
ill_formed_by_words line first args h = ill (verb_in line) line first args h

pub names_by_words : (v : Verb) (line first : Text) (args : List Text) → words line ≡ first ∷ args → not (names_are_formed v line) ≡ are_misnamed v args
names_by_words verb.Applicant line first args h = ap (λ all. not (list_all is_name (drop 1 all))) h
names_by_words verb.Conflict line first args h = rw (word_behind line first args 0 h, word_behind line first args 1 h) refl
names_by_words verb.Place line first args h = rw (word_behind line first args 0 h) refl
names_by_words verb.Partition line first args h = rw (word_behind line first args 0 h) refl
names_by_words verb.Pair line first args h = rw (word_behind line first args 0 h, word_behind line first args 1 h) refl
names_by_words verb.Lottery line first args h = rw (word_behind line first args 0 h) refl
names_by_words v line first args h = refl

pub numbers_by_words : (v : Verb) (line first : Text) (args : List Text) → words line ≡ first ∷ args → not (numbers_are_within v line) ≡ are_out_of_range v args
numbers_by_words verb.Call line first args h =
    rw (word_behind line first args 0 h, word_behind line first args 1 h, word_behind line first args 2 h) refl
numbers_by_words verb.Place line first args h = rw (word_behind line first args 1 h) refl
numbers_by_words verb.Draw line first args h = rw (word_behind line first args 0 h) refl
numbers_by_words v line first args h = refl

-- the first of these faults
first_fault : Verb → List Text → Option Reason
first_fault v args =
    cond (are_ill_formed v args) (Some reason.Form)
    (cond (are_misnamed v args) (Some reason.Name)
    (cond (are_out_of_range v args) (Some reason.Range) None))

fault_by_words : (line first : Text) (args : List Text) (v : Verb) → words line ≡ first ∷ args → verb_in line ≡ v → reading_fault line ≡ first_fault v args
unfolding reading_fault first_fault
fault_by_words line first args v h is =
    rw (← is, ill_formed_by_words line first args h, names_by_words (verb_in line) line first args h, numbers_by_words (verb_in line) line first args h) refl

first_none : (v : Verb) (args : List Text) → are_ill_formed v args ≡ false → are_misnamed v args ≡ false → are_out_of_range v args ≡ false → first_fault v args ≡ None
unfolding first_fault
first_none v args a b d = rw (a, b, d) refl

first_is : (v : Verb) (args : List Text) (r : Reason) → IsFaulty v args r → first_fault v args ≡ Some r
unfolding first_fault
first_is v args reason.Form h = rw h refl
first_is v args reason.Name h = rw (h.0, h.1) refl
first_is v args reason.Range h = rw (h.0, h.1, h.2) refl
first_is v args r h = absurd h

-- the person of an applicant line
person_by_words : (line first : Text) (args : List Text) → words line ≡ first ∷ args →
    cond (eqb (length args) 1) (argument args 0) (argument args 1) ≡ cond (eqb (length (words line)) 2) (word line 1) (word line 2)
person_by_words line first args h =
    let same : eqb (suc (length args)) 2 ≡ eqb (length args) 1 = grind (arith, nat_tests) in
    rw (count_words line first args h, word_behind line first args 0 h, word_behind line first args 1 h, same) refl

pub carries_by_words : (line first : Text) (args : List Text) (c : Command) → words line ≡ first ∷ args → Says c args → Carries c line
carries_by_words line first args (command.Call call) h s =
    rw (word_behind line first args 0 h, word_behind line first args 1 h, word_behind line first args 2 h) s
carries_by_words line first args (command.Applicant name person) h s =
    ap (λ n. (n, person)) (s.0 ∙ sym (word_behind line first args 0 h))
    ∙ ap (λ p. (word line 1, p)) (s.1 ∙ person_by_words line first args h)
carries_by_words line first args (command.Conflict person proposal) h s =
    rw (word_behind line first args 0 h, word_behind line first args 1 h, s.0, s.1) refl
carries_by_words line first args (command.Place person cluster) h s =
    rw (word_behind line first args 0 h, word_behind line first args 1 h, s.0, s.1) refl
carries_by_words line first args (command.Partition seed) h s = s ∙ sym (word_behind line first args 0 h)
carries_by_words line first args (command.Pair person proposal) h s =
    rw (word_behind line first args 0 h, word_behind line first args 1 h, s.0, s.1) refl
carries_by_words line first args (command.Seal digest) h s = rw (word_behind line first args 0 h) s
carries_by_words line first args command.Assign h s = tt
carries_by_words line first args command.Close h s = tt
carries_by_words line first args (command.Draw n) h s = rw (word_behind line first args 0 h) s
carries_by_words line first args (command.Lottery seed) h s = s ∙ sym (word_behind line first args 0 h)

house_line : (line : Text) → is_blank line ≡ false → is_review line ≡ false → is_house line ≡ true
unfolding is_house
house_line line blank review = rw (blank, review) refl

pub command_by_words : (line first : Text) (args : List Text) (v : Verb) (c : Command) → words line ≡ first ∷ args → verb_in line ≡ v →
    is_blank line ≡ false → is_review line ≡ false → IsSaid v args c → IsCommandLine line c
command_by_words line first args v c h is blank review s = record {
  house = house_line line blank review;
  no_fault = fault_by_words line first args v h is ∙ first_none v args s.formed s.named s.in_range;
  verb = s.verb ∙ sym is;
  carries = carries_by_words line first args c h s.says;
}

pub fault_is : (line first : Text) (args : List Text) (v : Verb) (r : Reason) → words line ≡ first ∷ args → verb_in line ≡ v →
    is_blank line ≡ false → is_review line ≡ false → IsFaulty v args r → IsBadLine line v r
fault_is line first args v r h is blank review s = record {
  house = house_line line blank review;
  verb = sym is;
  fault = fault_by_words line first args v h is ∙ first_is v args r s;
}

pub review_by_words : (line first : Text) (args : List Text) (r : ReviewLine) → words line ≡ first ∷ args →
    r.whole ≡ eqb (length args) 3 → r.reviewer ≡ name_in (argument args 0) → r.proposal ≡ name_in (argument args 1) →
    r.points ≡ number_up_to MOST_POINTS (argument args 2) → r ≡ review_in line
review_by_words line first args r h whole reviewer proposal points =
    let same : eqb (suc (length args)) 4 ≡ eqb (length args) 3 = grind (arith, nat_tests) in
    rw (count_words line first args h, word_behind line first args 0 h, word_behind line first args 1 h, word_behind line first args 2 h, same, ← whole, ← reviewer, ← proposal, ← points) refl
