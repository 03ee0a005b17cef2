-- What taking a line comes to.
use Rattle.std.proofs.Common.{◌≡◌, ℕ, Bool, true, false, Option, Some, None, Result, Ok, Err, [], ◌∷◌, ◌++◌, refl, sym, ap, ◌∙◌, subst}
use Rattle.std.specs.Prelude.{OnOk, is_some, not, ◌||◌, ◌&&◌, if◌then◌else◌}
use Rattle.std.proofs.lemmas.Bool.{not-false, true≢false}
use Rattle.house_base.specs.Answer.{took_as}
use Rattle.house_base.specs.declared.answer.Reason.{Reason}
use Rattle.house_base.specs.declared.answer.Reason.TheVariants as reason
use Rattle.house_base.specs.declared.limits.TheConstants.{MOST_CLUSTERS}
use Rattle.house_base.specs.declared.phase.Phase.{Phase}
use Rattle.house_base.specs.declared.phase.Phase.TheVariants as phase
use Rattle.house_base.specs.Text.{Text}
use Rattle.house_model.specs.declared.command.Command.{Command}
use Rattle.house_model.specs.declared.command.Command.TheVariants as command
use Rattle.house_model.specs.Ending.{Halt}
use Rattle.house_model.specs.Runs.{halt}
use Rattle.house_model.specs.declared.verb.Verb.{Verb}
use Rattle.house_model.specs.declared.verb.Verb.TheVariants as verb
use Rattle.house_model.specs.Commands.{verb_of_command}
use Rattle.house_model.specs.Faults.{is_within}
use Rattle.house_model.specs.Text.{Lines, word, is_blank}
use Rattle.house_model.specs.Verbs.{verb_in, allows, is_house, is_review}
use Rattle.command_text.specs.Reading.{IsCommandLine, IsBadLine, numbers_are_within}
use Rattle.house_core.specs.declared.state.State.{State}
use Rattle.house_core.specs.declared.round.Shortage.{Shortage}
use Rattle.house_core.specs.declared.round.Stop.{Stop}
use Rattle.house_core.specs.declared.round.Stop.TheVariants as stop
use Rattle.house_core.specs.Standing.{Says, Becomes, Obeys, Takes, TakesFor, StateMayLack, LacksAt, MayLack, IsFormed, IsShortageOf, comes_again_in, is_call, turned_away, own_halt, setting_in}
use Rattle.house_base.specs.declared.answer.Took.TheVariants as took
use Rattle.house_model.specs.Reviews.{kind_of, took_of}
use Rattle.house_core.proofs.RefusalLemmas.{house_is_no_review}
use Rattle.house_core.proofs.AdmittedLemmas.{turned_refuses}
use Rattle.house_core.proofs.OwnLemmas.{bad_refused, read_halt, fault_is, none_by, holds_clusters}
use Rattle.house_core.proofs.SaysLemmas.{obeyed_says}

-- a command that was read is of the form that carrying it out asks for
pub read_formed : (x : Text) (c : Command) → IsCommandLine x c → IsFormed c
read_formed x (command.Call call) is = tt
read_formed x (command.Applicant name person) is = tt
read_formed x (command.Conflict person proposal) is = tt
read_formed x (command.Place person cluster) is =
    let parts = none_by _ _ _ (sym (fault_is x) ∙ is.no_fault) in
    let within : is_within 1 MOST_CLUSTERS (word x 2) ≡ true = not-false _ (subst (λ v. not (numbers_are_within v x) ≡ false) (sym is.verb) parts.2) in
    rw (ap (λ (a : Text × ℕ). a.1) is.carries) (holds_clusters (word x 2) within)
read_formed x (command.Partition seed) is = tt
read_formed x (command.Pair person proposal) is = tt
read_formed x (command.Seal digest) is = tt
read_formed x command.Assign is = tt
read_formed x command.Close is = tt
read_formed x (command.Draw n) is = tt
read_formed x (command.Lottery seed) is = tt

-- a command that lacks memory has a line that may
lacks_at : (s : State) (c : Command) (v : Verb) (why : Option Halt) → v ≡ verb_of_command c → why ≡ own_halt s c → StateMayLack s c → LacksAt v why
lacks_at s (command.Call call) v why e f h = absurd h
lacks_at s (command.Applicant name person) v why e f h = rw e (f ∙ h)
lacks_at s (command.Conflict person proposal) v why e f h = absurd h
lacks_at s (command.Place person cluster) v why e f h = absurd h
lacks_at s (command.Partition seed) v why e f h = absurd h
lacks_at s (command.Pair person proposal) v why e f h = rw e (f ∙ h)
lacks_at s (command.Seal digest) v why e f h = absurd h
lacks_at s command.Assign v why e f h = rw (e, f) h
lacks_at s command.Close v why e f h = absurd h
lacks_at s (command.Draw n) v why e f h = absurd h
lacks_at s (command.Lottery seed) v why e f h = absurd h

module _ (lines : Lines) (s : State) (x : Text) (says : Says lines s) where
  -- a line that is read as no command
  pub bad_not_taken : (v : Verb) (r q : Reason) → IsBadLine x v r → turned_away s v ≡ Some q → halt s.goal lines x ≡ Some (Halt.Refused q)
  bad_not_taken v r q bad away = turned_refuses s.goal lines s x v q says bad.house (sym bad.verb) away

  pub bad_not_read : (v : Verb) (r : Reason) → IsBadLine x v r → turned_away s v ≡ None → halt s.goal lines x ≡ Some (Halt.Refused r)
  bad_not_read v r bad free = bad_refused s.goal lines s x v r says bad free

  -- a line that is read as a command
  pub command_kept : (c : Command) → IsCommandLine x c → took.Kept ≡ took_of s.goal lines x
  command_kept c line = ap (λ b. if b then took_as (kind_of s.goal lines x) else took.Kept) (sym (house_is_no_review x line.house))

  module _ (c : Command) (line : IsCommandLine x c) (new : State) where
    obeys_ok : (r : Result (Unit {0}) Stop) → turned_away s (verb_of_command c) ≡ None → Obeys s c r new → OnOk r ((halt s.goal lines x ≡ None) × Says (lines ++ x ∷ []) new)
    obeys_ok (Ok done) free obeys = obeyed_says lines s x c new says line free obeys.0 obeys.1
    obeys_ok (Err why) free obeys = tt

    taken_ok : (away : Option Reason) (r : Result (Unit {0}) Stop) → turned_away s (verb_of_command c) ≡ away → TakesFor away s c r new →
        OnOk r ((halt s.goal lines x ≡ None) × Says (lines ++ x ∷ []) new)
    taken_ok None r is takes = obeys_ok r is takes
    taken_ok (Some q) r is takes = rw takes.0 tt

    pub command_ok : (r : Result (Unit {0}) Stop) → Takes s c r new → OnOk r ((halt s.goal lines x ≡ None) × Says (lines ++ x ∷ []) new)
    command_ok r takes = taken_ok (turned_away s (verb_of_command c)) r refl takes

    taken_refused : (away : Option Reason) (r : Result (Unit {0}) Stop) (q : Reason) → turned_away s (verb_of_command c) ≡ away → TakesFor away s c r new → r ≡ Err (stop.Refused q) →
        halt s.goal lines x ≡ Some (Halt.Refused q)
    taken_refused None r q is takes e = let obeys = subst (λ r. Obeys s c r new) e takes in read_halt lines s x c says line is ∙ obeys.0
    taken_refused (Some p) r q is takes e =
        let same : p ≡ q = let f = takes.0 in cc in
        turned_refuses s.goal lines s x (verb_of_command c) p says line.house (sym line.verb) is ∙ ap (λ reason. Some (Halt.Refused reason)) same

    pub command_refused : (r : Result (Unit {0}) Stop) (q : Reason) → Takes s c r new → r ≡ Err (stop.Refused q) → halt s.goal lines x ≡ Some (Halt.Refused q)
    command_refused r q takes e = taken_refused (turned_away s (verb_of_command c)) r q refl takes e

    taken_short : (away : Option Reason) (r : Result (Unit {0}) Stop) (short : Shortage) → turned_away s (verb_of_command c) ≡ away → TakesFor away s c r new → r ≡ Err (stop.Short short) →
        halt s.goal lines x ≡ Some Halt.Short
    taken_short None r short is takes e = let obeys = subst (λ r. Obeys s c r new) e takes in read_halt lines s x c says line is ∙ obeys.0.0
    taken_short (Some p) r short is takes e = absurd (let f = takes.0 in cc)

    pub command_short : (r : Result (Unit {0}) Stop) (short : Shortage) → Takes s c r new → r ≡ Err (stop.Short short) → halt s.goal lines x ≡ Some Halt.Short
    command_short r short takes e = taken_short (turned_away s (verb_of_command c)) r short refl takes e

    taken_lacks : (away : Option Reason) (r : Result (Unit {0}) Stop) → turned_away s (verb_of_command c) ≡ away → TakesFor away s c r new → r ≡ Err stop.Memory → MayLack s.goal lines x
    taken_lacks None r is takes e =
        let obeys = subst (λ r. Obeys s c r new) e takes in
        lacks_at s c (verb_in x) (halt s.goal lines x) (sym line.verb) (read_halt lines s x c says line is) obeys.0
    taken_lacks (Some p) r is takes e = absurd (let f = takes.0 in cc)

    pub command_lacks : (r : Result (Unit {0}) Stop) → Takes s c r new → r ≡ Err stop.Memory → MayLack s.goal lines x
    command_lacks r takes e = taken_lacks (turned_away s (verb_of_command c)) r refl takes e

-- a command that falls short does so by the shortage of its setting
shortage_for : (s : State) (c : Command) (new : State) (away : Option Reason) (r : Result (Unit {0}) Stop) (short : Shortage) → TakesFor away s c r new → r ≡ Err (stop.Short short) →
    IsShortageOf (setting_in s) short
shortage_for s c new None r short takes e = let obeys = subst (λ r. Obeys s c r new) e takes in obeys.0.1
shortage_for s c new (Some p) r short takes e = absurd (let f = takes.0 in cc)

pub command_shortage : (s : State) (c : Command) (new : State) (r : Result (Unit {0}) Stop) (short : Shortage) → Takes s c r new → r ≡ Err (stop.Short short) → IsShortageOf (setting_in s) short
command_shortage s c new r short takes e = shortage_for s c new (turned_away s (verb_of_command c)) r short takes e

-- the goal stays
became_goal : (s : State) (c : Command) (new : State) → Becomes s c new → new.goal ≡ s.goal
became_goal s (command.Call call) new h = ap (λ (n : State). n.goal) h
became_goal s (command.Applicant name person) new h = ap (λ (n : State). n.goal) h
became_goal s (command.Conflict person proposal) new h = ap (λ (n : State). n.goal) h.1
became_goal s (command.Place person cluster) new h = ap (λ (n : State). n.goal) h
became_goal s (command.Partition seed) new h = ap (λ (n : State). n.goal) h
became_goal s (command.Pair person proposal) new h = ap (λ (n : State). n.goal) h
became_goal s (command.Seal digest) new h = ap (λ (n : State). n.goal) h
became_goal s command.Assign new h = ap (λ (n : State). n.goal) h.1
became_goal s command.Close new h = ap (λ (n : State). n.goal) h
became_goal s (command.Draw n) new h = ap (λ (m : State). m.goal) h
became_goal s (command.Lottery seed) new h = ap (λ (n : State). n.goal) h

goal_for : (s : State) (c : Command) (new : State) (away : Option Reason) (r : Result (Unit {0}) Stop) → TakesFor away s c r new → new.goal ≡ s.goal
goal_for s c new None (Ok done) takes = became_goal s c new takes.1
goal_for s c new None (Err why) takes = ap (λ (n : State). n.goal) takes.1
goal_for s c new (Some q) r takes = ap (λ (n : State). n.goal) takes.1

pub command_goal : (s : State) (c : Command) (new : State) (r : Result (Unit {0}) Stop) → Takes s c r new → new.goal ≡ s.goal
command_goal s c new r takes = goal_for s c new (turned_away s (verb_of_command c)) r takes

-- where a command is not carried out, all stays
same_for : (s : State) (c : Command) (new : State) (away : Option Reason) (r : Result (Unit {0}) Stop) (why : Stop) → TakesFor away s c r new → r ≡ Err why → new ≡ s
same_for s c new None (Ok done) why takes e = absurd (let f = e in cc)
same_for s c new None (Err why) other takes e = takes.1
same_for s c new (Some q) r why takes e = takes.1

pub command_same : (s : State) (c : Command) (new : State) (r : Result (Unit {0}) Stop) (why : Stop) → Takes s c r new → r ≡ Err why → new ≡ s
command_same s c new r why takes e = same_for s c new (turned_away s (verb_of_command c)) r why takes e

-- Memory is wanting in the opening alone.

opening_by : (p : Phase) (v : Verb) (b : Bool) → allows phase.Reviewing v ≡ false → allows phase.Closed v ≡ false → allows phase.Drawn v ≡ false → (not (allows p v) || b) ≡ false → p ≡ phase.Opening
opening_by phase.Opening v b r c d h = refl
opening_by phase.Reviewing v b r c d h = absurd (true≢false (sym (ap (λ t. not t || b) r) ∙ h))
opening_by phase.Closed v b r c d h = absurd (true≢false (sym (ap (λ t. not t || b) c) ∙ h))
opening_by phase.Drawn v b r c d h = absurd (true≢false (sym (ap (λ t. not t || b) d) ∙ h))

away_none : (l o : Bool) → (if l then Some reason.NoCall else if o then Some reason.Order else None) ≡ None → o ≡ false
away_none true o h = cc
away_none false true h = cc
away_none false false h = refl

in_opening : (s : State) (v : Verb) → allows phase.Reviewing v ≡ false → allows phase.Closed v ≡ false → allows phase.Drawn v ≡ false → turned_away s v ≡ None → s.phase ≡ phase.Opening
in_opening s v r c d free =
    opening_by s.phase v (comes_again_in s v) r c d (away_none (not (is_some s.call || is_call v)) (not (allows s.phase v) || comes_again_in s v) free)

pub lacks_opening : (s : State) (c : Command) → StateMayLack s c → turned_away s (verb_of_command c) ≡ None → s.phase ≡ phase.Opening
lacks_opening s (command.Call call) h free = absurd h
lacks_opening s (command.Applicant name person) h free = in_opening s verb.Applicant refl refl refl free
lacks_opening s (command.Conflict person proposal) h free = absurd h
lacks_opening s (command.Place person cluster) h free = absurd h
lacks_opening s (command.Partition seed) h free = absurd h
lacks_opening s (command.Pair person proposal) h free = in_opening s verb.Pair refl refl refl free
lacks_opening s (command.Seal digest) h free = absurd h
lacks_opening s command.Assign h free = in_opening s verb.Assign refl refl refl free
lacks_opening s command.Close h free = absurd h
lacks_opening s (command.Draw n) h free = absurd h
lacks_opening s (command.Lottery seed) h free = absurd h

-- A line of the house is neither blank nor a review line.
house_alone : (x : Text) → is_house x ≡ true → (is_blank x || is_review x) ≡ true → ⊥
unfolding is_house
house_alone x h k = parts (is_blank x) (is_review x) h k where
  parts : (a b : Bool) → (not a && not b) ≡ true → (a || b) ≡ true → ⊥
  parts true b h k = cc
  parts false true h k = cc
  parts false false h k = cc

pub bad_no_review : (x : Text) (v : Verb) (r : Reason) → IsBadLine x v r → (is_blank x || is_review x) ≡ true → ⊥
bad_no_review x v r bad h = house_alone x bad.house h

pub command_no_review : (x : Text) (c : Command) → IsCommandLine x c → (is_blank x || is_review x) ≡ true → ⊥
command_no_review x c line h = house_alone x line.house h
