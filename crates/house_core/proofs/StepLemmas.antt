use Rattle.std.proofs.Common.{◌≡◌, ℕ, Bool, true, false, eqb, Option, Some, None, [], ◌∷◌, ◌++◌, refl, sym, ap, ◌∙◌}
use Rattle.std.specs.Prelude.{MatchOption, not, ◌||◌, ◌&&◌}
use Rattle.std.specs.Option.{is_none}
use Rattle.std.proofs.lemmas.Bool.{true≢false, or_parts, not-false}
use Rattle.house_base.specs.declared.call.Call.{Call}
use Rattle.house_base.specs.declared.phase.Phase.{Phase}
use Rattle.house_base.specs.declared.phase.Phase.TheVariants as phase
use Rattle.house_base.specs.Text.{Text}
use Rattle.house_model.specs.declared.verb.Verb.{Verb}
use Rattle.house_model.specs.declared.verb.Verb.TheVariants as verb
use Rattle.house_model.specs.declared.goal.Goal.{Goal}
use Rattle.house_model.specs.declared.goal.Goal.TheVariants as goal
use Rattle.house_model.specs.Text.{Lines}
use Rattle.house_model.specs.Verbs.{allows, verb_in, verb_number, is_review}
use Rattle.house_model.specs.Said.{has, phase_after, call_number, seats_of, clusters_of, reviews_of, register, setting, run_pairs}
use Rattle.house_model.specs.Faults.{comes_again, looks_at_pairs}
use Rattle.house_model.specs.Reviews.{kind_of, points_of}
use Rattle.house_core.specs.declared.round.Round.{Round}
use Rattle.house_core.specs.declared.state.State.{State}
use Rattle.house_core.specs.Standing.{Says, IsRoundOf, IsTallyOf}
use Rattle.seat_quota.specs.Tally.{DeskTotals}
use Rattle.house_core.proofs.PushLemmas.{has_other, has_same, call_number_other, seed_of_other, register_other, setting_same, run_pairs_same, phase_by, phase_is}
use Rattle.house_core.proofs.RefusalLemmas.{is_wrong_turn}
use Rattle.house_core.proofs.AdmittedLemmas.{IsAdmitted}
use Rattle.house_core.proofs.ReviewLemmas.{points-same}

-- What one more line leaves of what the lines say.

-- the phases of a command
allowed : (lines : Lines) (v : Verb) → is_wrong_turn lines v ≡ false → allows (phase_by (has verb.Assign lines) (has verb.Close lines) (has verb.Draw lines || has verb.Lottery lines)) v ≡ true
allowed lines v h =
    let parts = or_parts (not (allows (phase_after lines) v)) (comes_again lines v) h in
    ap (λ p. allows p v) (sym (phase_is lines)) ∙ not-false (allows (phase_after lines) v) parts.0

opening : (v : Verb) (a c d : Bool) → allows phase.Reviewing v ≡ false → allows phase.Closed v ≡ false → allows phase.Drawn v ≡ false → allows (phase_by a c d) v ≡ true → a ≡ false
opening v false c d r k e h = refl
opening v true false d r k e h = absurd (true≢false (sym h ∙ r))
opening v true true false r k e h = absurd (true≢false (sym h ∙ k))
opening v true true true r k e h = absurd (true≢false (sym h ∙ e))

reviewing : (a c d : Bool) → allows (phase_by a c d) verb.Close ≡ true → (a ≡ true) × (c ≡ false)
reviewing false c d h = cc
reviewing true false d h = (refl, refl)
reviewing true true false h = cc
reviewing true true true h = cc

closed : (a c d : Bool) → allows (phase_by a c d) verb.Draw ≡ true → (a ≡ true) × (c ≡ true) × (d ≡ false)
closed false c d h = cc
closed true false d h = cc
closed true true false h = (refl, refl, refl)
closed true true true h = cc

closed_by_seed : (a c d : Bool) → allows (phase_by a c d) verb.Lottery ≡ true → (a ≡ true) × (c ≡ true) × (d ≡ false)
closed_by_seed false c d h = cc
closed_by_seed true false d h = cc
closed_by_seed true true false h = (refl, refl, refl)
closed_by_seed true true true h = cc

-- a command of the opening comes before the assignment
pub before_assign : (lines : Lines) (v : Verb) → IsAdmitted lines v → allows phase.Reviewing v ≡ false → allows phase.Closed v ≡ false → allows phase.Drawn v ≡ false → has verb.Assign lines ≡ false
before_assign lines v adm r k e = opening v (has verb.Assign lines) (has verb.Close lines) (has verb.Draw lines || has verb.Lottery lines) r k e (allowed lines v adm.in_turn)

-- a call comes once
pub no_call_before : (lines : Lines) → IsAdmitted lines verb.Call → has verb.Call lines ≡ false
no_call_before lines adm = (or_parts (not (allows (phase_after lines) verb.Call)) (has verb.Call lines) adm.in_turn).1

-- a close comes between the assignment and another one
pub before_close : (lines : Lines) → IsAdmitted lines verb.Close → (has verb.Assign lines ≡ true) × (has verb.Close lines ≡ false)
before_close lines adm = reviewing (has verb.Assign lines) (has verb.Close lines) (has verb.Draw lines || has verb.Lottery lines) (allowed lines verb.Close adm.in_turn)

-- nothing comes twice that comes once
once : (lines : Lines) (v : Verb) → IsAdmitted lines v → comes_again lines v ≡ false
once lines v adm = (or_parts (not (allows (phase_after lines) v)) (comes_again lines v) adm.in_turn).1

-- the clusters are drawn once, and a seal comes once
pub no_seed_before : (lines : Lines) → IsAdmitted lines verb.Partition → has verb.Partition lines ≡ false
no_seed_before lines adm = (or_parts (has verb.Place lines) (has verb.Partition lines) (once lines verb.Partition adm)).1

pub no_seal_before : (lines : Lines) → IsAdmitted lines verb.Seal → has verb.Seal lines ≡ false
no_seal_before lines adm = once lines verb.Seal adm

-- a draw comes between the close and another one
pub before_draw : (lines : Lines) → IsAdmitted lines verb.Draw →
    (has verb.Assign lines ≡ true) × (has verb.Close lines ≡ true) × (has verb.Draw lines ≡ false) × (has verb.Lottery lines ≡ false)
before_draw lines adm =
    let p = closed (has verb.Assign lines) (has verb.Close lines) (has verb.Draw lines || has verb.Lottery lines) (allowed lines verb.Draw adm.in_turn) in
    let none = or_parts (has verb.Draw lines) (has verb.Lottery lines) p.2 in
    (p.0, p.1, none.0, none.1)

pub before_lottery : (lines : Lines) → IsAdmitted lines verb.Lottery →
    (has verb.Assign lines ≡ true) × (has verb.Close lines ≡ true) × (has verb.Draw lines ≡ false) × (has verb.Lottery lines ≡ false)
before_lottery lines adm =
    let p = closed_by_seed (has verb.Assign lines) (has verb.Close lines) (has verb.Draw lines || has verb.Lottery lines) (allowed lines verb.Lottery adm.in_turn) in
    let none = or_parts (has verb.Draw lines) (has verb.Lottery lines) p.2 in
    (p.0, p.1, none.0, none.1)

-- what has not come does not come by a line with another command
pub still_none : (v w : Verb) (lines : Lines) (x : Text) → verb_in x ≡ v → eqb (verb_number v) (verb_number w) ≡ false → has w lines ≡ false → has w (lines ++ x ∷ []) ≡ false
still_none v w lines x h other none = has_other v w lines x h other ∙ none

-- one command comes after another
pub stays_after : (v w u : Verb) (lines : Lines) (x : Text) → verb_in x ≡ v → eqb (verb_number v) (verb_number w) ≡ false → eqb (verb_number v) (verb_number u) ≡ false →
    (has w lines ≡ true → has u lines ≡ true) → has w (lines ++ x ∷ []) ≡ true → has u (lines ++ x ∷ []) ≡ true
stays_after v w u lines x h ow ou before came = has_other v u lines x h ou ∙ before (sym (has_other v w lines x h ow) ∙ came)

pub stays_before : (v w u : Verb) (lines : Lines) (x : Text) → verb_in x ≡ v → eqb (verb_number v) (verb_number w) ≡ false → eqb (verb_number v) (verb_number u) ≡ false →
    (has w lines ≡ false → has u lines ≡ false) → has w (lines ++ x ∷ []) ≡ false → has u (lines ++ x ∷ []) ≡ false
stays_before v w u lines x h ow ou before none = has_other v u lines x h ou ∙ before (sym (has_other v w lines x h ow) ∙ none)

-- The call and the round, as the lines have them.
abbrev pub IsCallOf : Lines → Option Call → Type 0
IsCallOf lines call = MatchOption call (has verb.Call lines ≡ false) (λ c.
    (has verb.Call lines ≡ true) × (c.seats ≡ seats_of lines) × (c.clusters ≡ clusters_of lines) × (c.reviews ≡ reviews_of lines))

abbrev pub HasRound : Goal → Lines → Option Round → Type 0
HasRound g lines round = MatchOption round (has verb.Assign lines ≡ false) (IsRoundOf g lines)

-- a tally, where the goal looks at the pairs
abbrev pub HasTally : Goal → Lines → Option DeskTotals → Type 0
HasTally g lines tally = MatchOption tally (looks_at_pairs g ≡ false) (λ t. (looks_at_pairs g ≡ true) × IsTallyOf lines t)

call_stays : (old new : Lines) (call : Option Call) → has verb.Call new ≡ has verb.Call old → ((i : ℕ) → call_number new i ≡ call_number old i) → IsCallOf old call → IsCallOf new call
call_stays old new None e numbers h = e ∙ h
call_stays old new (Some c) e numbers h = (e ∙ h.0, h.1 ∙ sym (numbers 1), h.2 ∙ sym (numbers 2), h.3 ∙ sym (numbers 3))

-- a line that is no call
pub call_kept : (v : Verb) (lines : Lines) (x : Text) (call : Option Call) → verb_in x ≡ v → eqb (verb_number v) 0 ≡ false → IsCallOf lines call → IsCallOf (lines ++ x ∷ []) call
call_kept v lines x call h other said =
    call_stays lines (lines ++ x ∷ []) call (has_other v verb.Call lines x h other) (λ i. call_number_other v lines x i h other) said

tally_stays : (g : Goal) (old new : Lines) (tally : Option DeskTotals) → setting new ≡ setting old → run_pairs new ≡ run_pairs old →
    ((r p : ℕ) → points_of new r p ≡ points_of old r p) → HasTally g old tally → HasTally g new tally
tally_stays g old new None plan pairs points h = h
tally_stays g old new (Some t) plan pairs points h = (
  h.0,
  record {
    pairs = rw (plan, pairs) h.1.pairs;
    valid = rw (plan, pairs) h.1.valid;
    points = rw plan (λ a b al bl. h.1.points a b al bl ∙ sym (points a b));
  },
)

pub round_stays : (g : Goal) (old new : Lines) (round : Option Round) → has verb.Assign new ≡ has verb.Assign old → setting new ≡ setting old → run_pairs new ≡ run_pairs old →
    ((r p : ℕ) → points_of new r p ≡ points_of old r p) → HasRound g old round → HasRound g new round
round_stays g old new None e plan pairs points h = e ∙ h
round_stays g old new (Some r) e plan pairs points h = record {
  fixed = e ∙ h.fixed;
  plan = h.plan ∙ sym plan;
  tally = tally_stays g old new r.tally plan pairs points h.tally;
}

-- a line of the opening, before the assignment
round_missing : (g : Goal) (old new : Lines) (round : Option Round) → has verb.Assign old ≡ false → has verb.Assign new ≡ false → HasRound g old round → HasRound g new round
round_missing g old new None no_old no_new h = no_new
round_missing g old new (Some r) no_old no_new h = absurd (true≢false (sym h.fixed ∙ no_old))

pub round_none : (g : Goal) (v : Verb) (lines : Lines) (x : Text) (round : Option Round) → verb_in x ≡ v → eqb (verb_number v) 7 ≡ false → has verb.Assign lines ≡ false → HasRound g lines round →
    HasRound g (lines ++ x ∷ []) round
round_none g v lines x round h other none said = round_missing g lines (lines ++ x ∷ []) round none (still_none v verb.Assign lines x h other none) said

-- what does not change what the setting and the assignment are read from
pub record IsBeside (v : Verb) : Type 0 where
  pub no_call : eqb (verb_number v) 0 ≡ false
  pub no_applicant : eqb (verb_number v) 1 ≡ false
  pub no_conflict : eqb (verb_number v) 2 ≡ false
  pub no_place : eqb (verb_number v) 3 ≡ false
  pub no_seed : eqb (verb_number v) 4 ≡ false
  pub no_pair : eqb (verb_number v) 5 ≡ false

pub register_kept : (v : Verb) (lines : Lines) (x : Text) → verb_in x ≡ v → IsBeside v → register (lines ++ x ∷ []) ≡ register lines
register_kept v lines x h beside = register_other v lines x h beside.no_applicant beside.no_place beside.no_conflict beside.no_pair

-- a line that puts nothing on record
pub setting_kept : (v : Verb) (lines : Lines) (x : Text) → verb_in x ≡ v → IsBeside v → setting (lines ++ x ∷ []) ≡ setting lines
setting_kept v lines x h beside =
    setting_same lines (lines ++ x ∷ []) (λ i. call_number_other v lines x i h beside.no_call) (seed_of_other v lines x h beside.no_seed) (register_kept v lines x h beside)

pub run_pairs_kept : (v : Verb) (lines : Lines) (x : Text) → verb_in x ≡ v → IsBeside v → run_pairs (lines ++ x ∷ []) ≡ run_pairs lines
run_pairs_kept v lines x h beside = run_pairs_same lines (lines ++ x ∷ []) (register_kept v lines x h beside) (setting_kept v lines x h beside)

pub round_kept : (g : Goal) (v : Verb) (lines : Lines) (x : Text) (round : Option Round) → verb_in x ≡ v → is_review x ≡ false → eqb (verb_number v) 7 ≡ false → IsBeside v →
    HasRound g lines round → HasRound g (lines ++ x ∷ []) round
round_kept g v lines x round h plain other beside said =
    let same = setting_kept v lines x h beside in
    round_stays g lines (lines ++ x ∷ []) round (has_other v verb.Assign lines x h other) same (run_pairs_kept v lines x h beside)
    (λ r p. points-same lines x r p (ap (λ t. t && is_none (kind_of goal.Run lines x)) plain) same) said

-- the phase behind an assignment, a close and a draw
phase_at : (a c d l : Bool) (p : Phase) (lines : Lines) → has verb.Assign lines ≡ a → has verb.Close lines ≡ c → has verb.Draw lines ≡ d → has verb.Lottery lines ≡ l →
    phase_by a c (d || l) ≡ p → phase_after lines ≡ p
phase_at a c d l p lines ha hc hd hl e = phase_is lines ∙ rw (ha, hc, hd, hl) e

never_first : (a b : Bool) → (a ≡ true → b ≡ true) → b ≡ false → a ≡ false
never_first true b after none = absurd (true≢false (sym (after refl) ∙ none))
never_first false b after none = refl

pub phase_assigned : (lines : Lines) (s : State) (x : Text) → Says lines s → verb_in x ≡ verb.Assign → has verb.Assign lines ≡ false → phase_after (lines ++ x ∷ []) ≡ phase.Reviewing
phase_assigned lines s x h v none =
    phase_is (lines ++ x ∷ [])
    ∙ rw (has_same verb.Assign verb.Assign lines x v refl, has_other verb.Assign verb.Close lines x v refl, never_first (has verb.Close lines) (has verb.Assign lines) h.close_after_assign none) refl

pub phase_closed : (lines : Lines) (s : State) (x : Text) → Says lines s → verb_in x ≡ verb.Close → has verb.Assign lines ≡ true → has verb.Close lines ≡ false → phase_after (lines ++ x ∷ []) ≡ phase.Closed
phase_closed lines s x h v came none =
    phase_is (lines ++ x ∷ [])
    ∙ rw (
      has_other verb.Close verb.Assign lines x v refl,
      came,
      has_same verb.Close verb.Close lines x v refl,
      has_other verb.Close verb.Draw lines x v refl,
      never_first (has verb.Draw lines) (has verb.Close lines) h.draw_after_close none,
      has_other verb.Close verb.Lottery lines x v refl,
      never_first (has verb.Lottery lines) (has verb.Close lines) h.lottery_after_close none,
    ) refl

pub phase_drawn : (lines : Lines) (x : Text) → verb_in x ≡ verb.Draw → has verb.Assign lines ≡ true → has verb.Close lines ≡ true → phase_after (lines ++ x ∷ []) ≡ phase.Drawn
phase_drawn lines x v came shut =
    phase_is (lines ++ x ∷ [])
    ∙ rw (has_other verb.Draw verb.Assign lines x v refl, came, has_other verb.Draw verb.Close lines x v refl, shut, has_same verb.Draw verb.Draw lines x v refl) refl

pub phase_by_seed : (lines : Lines) (x : Text) → verb_in x ≡ verb.Lottery → has verb.Assign lines ≡ true → has verb.Close lines ≡ true → has verb.Draw lines ≡ false →
    phase_after (lines ++ x ∷ []) ≡ phase.Drawn
phase_by_seed lines x v came shut none =
    phase_is (lines ++ x ∷ [])
    ∙ rw (
      has_other verb.Lottery verb.Assign lines x v refl,
      came,
      has_other verb.Lottery verb.Close lines x v refl,
      shut,
      has_other verb.Lottery verb.Draw lines x v refl,
      none,
      has_same verb.Lottery verb.Lottery lines x v refl,
    ) refl

-- nothing is drawn before the assignment
pub not_drawn : (lines : Lines) (s : State) → Says lines s → has verb.Assign lines ≡ false → (has verb.Draw lines ≡ false) × (has verb.Lottery lines ≡ false)
not_drawn lines s h none =
    let open_still = never_first (has verb.Close lines) (has verb.Assign lines) h.close_after_assign none in (
      never_first (has verb.Draw lines) (has verb.Close lines) h.draw_after_close open_still,
      never_first (has verb.Lottery lines) (has verb.Close lines) h.lottery_after_close open_still,
    )
