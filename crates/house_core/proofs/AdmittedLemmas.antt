-- What may come after the lines, by the state.
use Rattle.std.proofs.Common.{◌≡◌, ℕ, ◌≤◌, Bool, true, false, eqb, Option, Some, None, length, refl, sym, ap, ◌∙◌}
use Rattle.std.specs.Prelude.{is_some, MatchOption, not, ◌||◌}
use Rattle.std.proofs.lemmas.Bool.{true≢false}
use Rattle.house_base.specs.declared.call.Call.{Call}
use Rattle.house_base.specs.declared.limits.TheConstants.{MOST_CLUSTERS}
use Rattle.house_base.specs.declared.answer.Reason.{Reason}
use Rattle.house_base.specs.Text.{Text}
use Rattle.house_model.specs.declared.goal.Goal.{Goal}
use Rattle.house_model.specs.declared.verb.Verb.{Verb}
use Rattle.house_model.specs.declared.verb.Verb.TheVariants as verb
use Rattle.house_model.specs.Ending.{Halt}
use Rattle.house_model.specs.Text.{Lines}
use Rattle.house_model.specs.Verbs.{allows, verb_in, verb_number, is_house}
use Rattle.house_model.specs.Register.{Register}
use Rattle.house_model.specs.Said.{has, phase_after, seats_of, clusters_of, reviews_of}
use Rattle.house_model.specs.Faults.{fault, comes_again}
use Rattle.house_model.specs.Runs.{halt}
use Rattle.house_core.specs.declared.state.State.{State}
use Rattle.house_core.specs.Standing.{Says, turned_away, is_call, comes_again_in}
use Rattle.house_core.proofs.PushLemmas.{seed_came, seal_came, placed_came}
use Rattle.house_core.proofs.RefusalLemmas.{lacks, is_wrong_turn, answer_by, said_of, house_fault_is, fault_halts}

-- whether there was a call
called : (has_call : Bool) (S C R : ℕ) (call : Option Call) →
    MatchOption call (has_call ≡ false) (λ c. (has_call ≡ true) × (c.seats ≡ S) × (c.clusters ≡ C) × (c.reviews ≡ R)) → is_some call ≡ has_call
called b S C R None h = sym h
called b S C R (Some c) h = sym h.0

pub call_came : (lines : Lines) (s : State) → Says lines s → is_some s.call ≡ has verb.Call lines
call_came lines s h = called (has verb.Call lines) (seats_of lines) (clusters_of lines) (reviews_of lines) s.call h.call

call_is : (v : Verb) → is_call v ≡ eqb (verb_number v) 0
call_is verb.Call = refl
call_is verb.Applicant = refl
call_is verb.Conflict = refl
call_is verb.Place = refl
call_is verb.Partition = refl
call_is verb.Pair = refl
call_is verb.Seal = refl
call_is verb.Assign = refl
call_is verb.Close = refl
call_is verb.Draw = refl
call_is verb.Lottery = refl
call_is verb.Other = refl

-- what came, as the state has it
pub seed_in : (lines : Lines) (s : State) → Says lines s → is_some s.seed ≡ has verb.Partition lines
seed_in lines s h = ap is_some h.seed ∙ seed_came lines

pub seal_in : (lines : Lines) (s : State) → Says lines s → is_some s.seal ≡ has verb.Seal lines
seal_in lines s h = ap is_some h.seal ∙ seal_came lines

not_not : (b : Bool) → not (not b) ≡ b
not_not true = refl
not_not false = refl

placed_in : (lines : Lines) (s : State) → Says lines s → not (eqb (length s.book.placed) 0) ≡ has verb.Place lines
placed_in lines s h =
    ap (λ (reg : Register). not (eqb (length reg.placed) 0)) h.book.others ∙ (ap not (placed_came lines) ∙ not_not (has verb.Place lines))

-- what comes again
again : (lines : Lines) (s : State) (v : Verb) → Says lines s → comes_again_in s v ≡ comes_again lines v
again lines s verb.Call h = call_came lines s h
again lines s verb.Applicant h = refl
again lines s verb.Conflict h = refl
again lines s verb.Place h = seed_in lines s h
again lines s verb.Partition h = ap (λ b. b || is_some s.seed) (placed_in lines s h) ∙ ap (λ b. has verb.Place lines || b) (seed_in lines s h)
again lines s verb.Pair h = refl
again lines s verb.Seal h = seal_in lines s h
again lines s verb.Assign h = refl
again lines s verb.Close h = refl
again lines s verb.Draw h = refl
again lines s verb.Lottery h = refl
again lines s verb.Other h = refl

-- whether a command may come, by the tests of the lines
turned_by_tests : (lines : Lines) (s : State) (v : Verb) → Says lines s → turned_away s v ≡ answer_by (lacks lines v) (is_wrong_turn lines v) None
turned_by_tests lines s v h =
    ap (λ b. answer_by (not (b || is_call v)) (not (allows s.phase v) || comes_again_in s v) None) (call_came lines s h)
    ∙ (ap (λ b. answer_by (not (has verb.Call lines || b)) (not (allows s.phase v) || comes_again_in s v) None) (call_is v)
    ∙ (ap (λ p. answer_by (lacks lines v) (not (allows p v) || comes_again_in s v) None) h.phase
    ∙ ap (λ b. answer_by (lacks lines v) (not (allows (phase_after lines) v) || b) None) (again lines s v h)))

turned_so : (l o : Bool) (rest : Option Reason) (r : Reason) → answer_by l o None ≡ Some r → answer_by l o rest ≡ Some r
turned_so true o rest r h = h
turned_so false true rest r h = h
turned_so false false rest r h = cc

-- a command that may not come is refused for the same reason
pub turned_refuses : (g : Goal) (lines : Lines) (s : State) (x : Text) (v : Verb) (r : Reason) → Says lines s → is_house x ≡ true → verb_in x ≡ v →
    turned_away s v ≡ Some r → halt g lines x ≡ Some (Halt.Refused r)
turned_refuses g lines s x v r h house is e =
    fault_halts g lines x r (house_fault_is g lines x v house is
    ∙ turned_so (lacks lines v) (is_wrong_turn lines v) (said_of g lines v x) r (sym (turned_by_tests lines s v h) ∙ e))

-- a command that may come
pub record IsAdmitted (lines : Lines) (v : Verb) : Type 0 where
  pub called : lacks lines v ≡ false
  pub in_turn : is_wrong_turn lines v ≡ false

admits : (l o : Bool) → answer_by l o None ≡ None → (l ≡ false) × (o ≡ false)
admits true o h = cc
admits false true h = cc
admits false false h = (refl, refl)

pub is_admitted : (lines : Lines) (s : State) (v : Verb) → Says lines s → turned_away s v ≡ None → IsAdmitted lines v
is_admitted lines s v h e =
    let parts = admits (lacks lines v) (is_wrong_turn lines v) (sym (turned_by_tests lines s v h) ∙ e) in
    record { called = parts.0; in_turn = parts.1 }

-- what is left of the fault of such a command
pub admitted_fault : (g : Goal) (lines : Lines) (x : Text) (v : Verb) → is_house x ≡ true → verb_in x ≡ v → IsAdmitted lines v → fault g lines x ≡ said_of g lines v x
admitted_fault g lines x v house is h = house_fault_is g lines x v house is ∙ rw (h.called, h.in_turn) refl

-- the numbers of the call
numbers_by : (b : Bool) (S C R : ℕ) (call : Option Call) → b ≡ true →
    MatchOption call (b ≡ false) (λ c. (b ≡ true) × (c.seats ≡ S) × (c.clusters ≡ C) × (c.reviews ≡ R)) →
    (c : Call) × (call ≡ Some c) × (c.seats ≡ S) × (c.clusters ≡ C) × (c.reviews ≡ R)
numbers_by b S C R None came h = absurd (true≢false (sym came ∙ h))
numbers_by b S C R (Some c) came h = (c, refl, h.1, h.2, h.3)

-- the call, where it came
pub the_call : (lines : Lines) (s : State) → Says lines s → has verb.Call lines ≡ true →
    (c : Call) × (s.call ≡ Some c) × (c.seats ≡ seats_of lines) × (c.clusters ≡ clusters_of lines) × (c.reviews ≡ reviews_of lines)
the_call lines s h came = numbers_by (has verb.Call lines) (seats_of lines) (clusters_of lines) (reviews_of lines) s.call came h.call

pub few_clusters : (lines : Lines) (s : State) → Says lines s → has verb.Call lines ≡ true → clusters_of lines ≤ MOST_CLUSTERS
few_clusters lines s h came = let c = the_call lines s h came in rw c.3 at c.0.clusters_in_range.1
