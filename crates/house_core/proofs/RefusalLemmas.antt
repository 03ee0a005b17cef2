-- The fault of a line, test by test, and why it ends a run.
use Rattle.std.proofs.Common.{◌≡◌, Bool, true, false, eqb, Option, Some, None, refl, ap, ◌∙◌, subst}
use Rattle.std.specs.Prelude.{not, ◌||◌, ◌&&◌, if◌then◌else◌}
use Rattle.std.specs.Option.{option_map_or}
use Rattle.std.proofs.lemmas.Bool.{and_right}
use Rattle.house_base.specs.declared.answer.Reason.{Reason}
use Rattle.house_base.specs.declared.answer.Reason.TheVariants as reason
use Rattle.house_base.specs.Text.{Text}
use Rattle.house_model.specs.declared.goal.Goal.{Goal}
use Rattle.house_model.specs.declared.verb.Verb.{Verb}
use Rattle.house_model.specs.declared.verb.Verb.TheVariants as verb
use Rattle.house_model.specs.Ending.{Halt}
use Rattle.house_model.specs.Text.{Lines, is_blank}
use Rattle.house_model.specs.Verbs.{verb_in, verb_number, allows, is_review, is_house}
use Rattle.house_model.specs.Said.{has, phase_after, register}
use Rattle.house_model.specs.Faults.{fault, house_fault, lacks_call, out_of_order, ill_formed, comes_again, names_are_formed, numbers_are_in_range, is_known, is_unknown, is_too_many, breaks_seal, is_few, is_unplaced, is_invalid}
use Rattle.house_model.specs.Runs.{falls_short, halt}
use Rattle.house_core.proofs.VerbLemmas.{blank_other, review_other}

-- the tests of a line with a command
abbrev pub lacks : Lines → Verb → Bool
lacks before v = not (has verb.Call before || eqb (verb_number v) 0)

abbrev pub is_wrong_turn : Lines → Verb → Bool
is_wrong_turn before v = not (allows (phase_after before) v) || comes_again before v

-- what they answer, by their truth values
abbrev pub own_by : Bool → Bool → Bool → Bool → Bool → Bool → Bool → Bool → Option Reason
own_by range known unknown many broken few unplaced invalid =
    if range then Some reason.Range else if known then Some reason.Known else if unknown then Some reason.Unknown
    else if many then Some reason.TooMany else if broken then Some reason.Seal else if few then Some reason.Few
    else if unplaced then Some reason.Unplaced else if invalid then Some reason.Invalid else None

abbrev pub said_by : Bool → Bool → Option Reason → Option Reason
said_by form name own = if form then Some reason.Form else if name then Some reason.Name else own

abbrev pub answer_by : Bool → Bool → Option Reason → Option Reason
answer_by lacking wrong said = if lacking then Some reason.NoCall else if wrong then Some reason.Order else said

-- what the lines answer to the words of a line, by the command that it has
abbrev pub own_of : Goal → Lines → Verb → Text → Option Reason
own_of g before v x =
    own_by (not (numbers_are_in_range before v x)) (is_known (register before) v x) (is_unknown (register before) v x)
    (is_too_many (register before) v x) (breaks_seal before v x) (is_few (register before) v) (is_unplaced before v) (is_invalid g before v)

abbrev pub said_of : Goal → Lines → Verb → Text → Option Reason
said_of g before v x = said_by (ill_formed x) (not (names_are_formed v x)) (own_of g before v x)

fault_by_tests : (g : Goal) (before : Lines) (x : Text) → is_house x ≡ true →
    fault g before x ≡ answer_by (lacks before (verb_in x)) (is_wrong_turn before (verb_in x)) (said_of g before (verb_in x) x)
unfolding fault house_fault lacks_call out_of_order
fault_by_tests g before x house = rw house refl

-- a line of the house is no review line
pub house_is_no_review : (x : Text) → is_house x ≡ true → is_review x ≡ false
unfolding is_house
house_is_no_review x h = parts (is_blank x) (is_review x) h where
  parts : (a b : Bool) → (not a && not b) ≡ true → b ≡ false
  parts a false h = refl
  parts true true h = cc
  parts false true h = cc

-- the fault of a line of the house
pub house_fault_is : (g : Goal) (before : Lines) (x : Text) (v : Verb) → is_house x ≡ true → verb_in x ≡ v →
    fault g before x ≡ answer_by (lacks before v) (is_wrong_turn before v) (said_of g before v x)
house_fault_is g before x v house is =
    subst (λ w. fault g before x ≡ answer_by (lacks before w) (is_wrong_turn before w) (said_of g before w x))
    is (fault_by_tests g before x house)

-- why a line ends the run, by its fault and whether it falls short
abbrev pub halt_by : Option Reason → Bool → Option Halt
halt_by why short = option_map_or (λ r. Some (Halt.Refused r)) why (if short then Some Halt.Short else None)

pub halt_is : (g : Goal) (before : Lines) (x : Text) → halt g before x ≡ halt_by (fault g before x) (falls_short g before (verb_in x))
unfolding halt
halt_is g before x = refl

-- a fault ends the run
pub fault_halts : (g : Goal) (before : Lines) (x : Text) (r : Reason) → fault g before x ≡ Some r → halt g before x ≡ Some (Halt.Refused r)
fault_halts g before x r h = halt_is g before x ∙ ap (λ o. halt_by o (falls_short g before (verb_in x))) h

-- a line without a command of its own ends it nowhere
other_halts : (g : Goal) (before : Lines) (x : Text) → verb_in x ≡ verb.Other → is_house x ≡ false → halt g before x ≡ None
unfolding fault
other_halts g before x other plain = halt_is g before x ∙ rw (plain, other) refl

-- a review line ends it nowhere
pub review_goes_on : (g : Goal) (before : Lines) (x : Text) → is_review x ≡ true → halt g before x ≡ None
unfolding is_house
review_goes_on g before x h = other_halts g before x (review_other x h) (rw h (and_right (not (is_blank x)) false refl))

-- a blank line ends it nowhere
pub blank_goes_on : (g : Goal) (before : Lines) (x : Text) → is_blank x ≡ true → halt g before x ≡ None
unfolding is_house
blank_goes_on g before x h = other_halts g before x (blank_other x h) (rw h refl)
