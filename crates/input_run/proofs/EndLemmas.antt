-- The line that ends a run, and the lines behind it.
use Rattle.std.proofs.Common.{◌≡◌, ℕ, ◌+◌, Bool, true, false, not, cond, ◌&&◌, ◌||◌, [], ◌∷◌, ◌++◌, length, Option, Some, None, refl, sym, ap, ◌∙◌, inl, inr, append-nil}
use Rattle.std.specs.Prelude.{is_some}
use Rattle.std.specs.Option.{option_map_or}
use Rattle.std.specs.List.{list_any}
use Rattle.std.proofs.lemmas.Bool.{cases_Bool, cond-true, or_right}
use Rattle.house_base.specs.declared.answer.Reason.TheVariants as reason
use Rattle.house_base.specs.declared.phase.Phase.TheVariants as phase
use Rattle.house_core.proofs.EndingLemmas.{in_force_at, stop_none}
use Rattle.house_base.specs.Text.{Text}
use Rattle.house_model.specs.declared.goal.Goal.{Goal}
use Rattle.house_model.specs.declared.goal.Goal.TheVariants as goal
use Rattle.house_model.specs.declared.verb.Verb.TheVariants as verb
use Rattle.house_model.specs.Ending.{Halt, Rule, Ended, halted, stop_after, stop_of, in_force_after, in_force, is_drawn, last_ended}
use Rattle.house_model.specs.Runs.{halt, through_assign, looked_at, settles, last_of, end_of, ends_run, taken}
use Rattle.house_model.specs.Said.{has, phase_after}
use Rattle.house_model.specs.Text.{Lines}
use Rattle.house_model.specs.Verbs.{commands}
use Rattle.input_run.specs.Hearing.{GoOn}

-- Behind a stop nothing changes.

stays : (n : ℕ) (y : Text) (t : ℕ × Halt) (rest more : Option (ℕ × Halt)) (kept grown : Lines) (o : Option Halt) →
    (rest ≡ Some t → (more ≡ Some t) × (grown ≡ kept)) → option_map_or (λ r. Some (n, r)) o rest ≡ Some t →
    (option_map_or (λ r. Some (n, r)) o more ≡ Some t) × (cond (is_some o) [] (y ∷ grown) ≡ cond (is_some o) [] (y ∷ kept))
stays n y t rest more kept grown None later h = ((later h).0, ap (λ all. y ∷ all) (later h).1)
stays n y t rest more kept grown (Some r) later h = (h, refl)

stop_after-front : (rule : Rule) (before lines more : Lines) (t : ℕ × Halt) → stop_after rule before lines ≡ Some t →
    (stop_after rule before (lines ++ more) ≡ Some t) × (in_force_after rule before (lines ++ more) ≡ in_force_after rule before lines)
stop_after-front rule before [] more t h = absurd (cc)
stop_after-front rule before (y ∷ lines) more t h =
    stays (length before + 1) y t (stop_after rule (before ++ y ∷ []) lines) (stop_after rule (before ++ y ∷ []) (lines ++ more))
    (in_force_after rule (before ++ y ∷ []) lines) (in_force_after rule (before ++ y ∷ []) (lines ++ more)) (rule before y)
    (stop_after-front rule (before ++ y ∷ []) lines more t) h

stop-front : (rule : Rule) (lines more : Lines) (t : ℕ × Halt) → stop_of rule lines ≡ Some t → stop_of rule (lines ++ more) ≡ Some t
unfolding stop_of
stop-front rule lines more t h = (stop_after-front rule [] lines more t h).0

in_force-front : (rule : Rule) (lines more : Lines) (t : ℕ × Halt) → stop_of rule lines ≡ Some t → in_force rule (lines ++ more) ≡ in_force rule lines
unfolding stop_of in_force
in_force-front rule lines more t h = (stop_after-front rule [] lines more t h).1

-- The lines up to an assignment.

-- lines of which none asks for an assignment are all looked at, and the first that does is looked at too
through-front : (lines more : Lines) → through_assign (lines ++ more) ≡ through_assign lines ++ cond (has verb.Assign lines) [] (through_assign more)
unfolding has
through-front [] more = refl
through-front (line ∷ lines) more = elim (cases_Bool (commands verb.Assign line)) [
  | inl asks ↦ rw asks refl
  | inr other ↦ rw other (ap (λ ls. line ∷ ls) (through-front lines more))
]

through-all : (lines : Lines) → has verb.Assign lines ≡ false → through_assign lines ≡ lines
unfolding has
through-all [] h = refl
through-all (line ∷ lines) h = elim (cases_Bool (commands verb.Assign line)) [
  | inl asks ↦ absurd (let wrong : true ≡ false = sym (ap (λ b. b || list_any (commands verb.Assign) lines) asks) ∙ h in cc)
  | inr other ↦ rw other (ap (λ ls. line ∷ ls) (through-all lines (sym (ap (λ b. b || list_any (commands verb.Assign) lines) other) ∙ h)))
]

through-one : (line : Text) → through_assign (line ∷ []) ≡ line ∷ []
through-one line = by_line (commands verb.Assign line) refl where
  by_line : (b : Bool) → commands verb.Assign line ≡ b → line ∷ cond (commands verb.Assign line) [] (through_assign []) ≡ line ∷ []
  by_line true e = rw e refl
  by_line false e = rw e refl

-- with lines that do not end a run, one more is looked at
pub looked-more : (g : Goal) (lines : Lines) (x : Text) → (settles g && has verb.Assign lines) ≡ false → looked_at g (lines ++ x ∷ []) ≡ lines ++ x ∷ []
looked-more goal.Run lines x h = refl
looked-more goal.Pairs lines x h =
    through-front lines (x ∷ []) ∙ ap (λ ls. ls ++ cond (has verb.Assign lines) [] (through_assign (x ∷ []))) (through-all lines h)
    ∙ ap (λ b. lines ++ cond b [] (through_assign (x ∷ []))) h ∙ ap (λ ls. lines ++ ls) (through-one x)
looked-more goal.Feasible lines x h =
    through-front lines (x ∷ []) ∙ ap (λ ls. ls ++ cond (has verb.Assign lines) [] (through_assign (x ∷ []))) (through-all lines h)
    ∙ ap (λ b. lines ++ cond b [] (through_assign (x ∷ []))) h ∙ ap (λ ls. lines ++ ls) (through-one x)

pub looked-all : (g : Goal) (lines : Lines) → (settles g && has verb.Assign lines) ≡ false → looked_at g lines ≡ lines
looked-all goal.Run lines h = refl
looked-all goal.Pairs lines h = through-all lines h
looked-all goal.Feasible lines h = through-all lines h

-- Of lines behind those that are looked at to their last some may be looked at: none where an assignment is among them
-- that settles the goal.
record LooksOn (g : Goal) (lines more : Lines) : Type 0 where
  further : Lines
  parts : looked_at g (lines ++ more) ≡ lines ++ further
  settled : (settles g && has verb.Assign lines) ≡ true → further ≡ []

through_on : (lines more : Lines) → through_assign lines ≡ lines → (further : Lines) × (through_assign (lines ++ more) ≡ lines ++ further) × (has verb.Assign lines ≡ true → further ≡ [])
through_on lines more all = (
  cond (has verb.Assign lines) [] (through_assign more),
  through-front lines more ∙ ap (λ ls. ls ++ cond (has verb.Assign lines) [] (through_assign more)) all,
  λ asks. cond-true (has verb.Assign lines) [] (through_assign more) asks,
)

looks_on : (g : Goal) (lines more : Lines) → looked_at g lines ≡ lines → LooksOn g lines more
looks_on goal.Run lines more all = record { further = more; parts = refl; settled = λ h. absurd (cc) }
looks_on goal.Pairs lines more all = let on = through_on lines more all in record { further = on.0; parts = on.1; settled = on.2 }
looks_on goal.Feasible lines more all = let on = through_on lines more all in record { further = on.0; parts = on.1; settled = on.2 }

-- lines that do not end a run
pub goes_on : (g : Goal) (lines : Lines) → GoOn g lines → ends_run g lines ≡ false
unfolding ends_run
goes_on g lines go =
    ap (λ ls. is_some (stop_of (halt g) ls) || (settles g && has verb.Assign lines)) (looked-all g lines go.unsettled)
    ∙ ap (λ o. is_some o || (settles g && has verb.Assign lines)) go.unstopped ∙ go.unsettled

pub ends_by_stop : (g : Goal) (lines : Lines) (t : ℕ × Halt) → looked_at g lines ≡ lines → stop_of (halt g) lines ≡ Some t → ends_run g lines ≡ true
unfolding ends_run
ends_by_stop g lines t all stop =
    ap (λ ls. is_some (stop_of (halt g) ls) || (settles g && has verb.Assign lines)) all
    ∙ ap (λ o. is_some o || (settles g && has verb.Assign lines)) stop

pub ends_by_goal : (g : Goal) (lines : Lines) → (settles g && has verb.Assign lines) ≡ true → ends_run g lines ≡ true
unfolding ends_run
ends_by_goal g lines settled = or_right (is_some (stop_of (halt g) (looked_at g lines))) (settles g && has verb.Assign lines) settled

-- a line that stops the run is not in force
pub stopped_before : (g : Goal) (lines : Lines) (x : Text) (t : ℕ × Halt) → stop_of (halt g) lines ≡ None → stop_of (halt g) (lines ++ x ∷ []) ≡ Some t →
    in_force (halt g) (lines ++ x ∷ []) ≡ lines
stopped_before g lines x t none stop = by_rule (halt g lines x) refl where
  by_rule : (o : Option Halt) → halt g lines x ≡ o → in_force (halt g) (lines ++ x ∷ []) ≡ lines
  by_rule None h = absurd (let wrong : Some t ≡ None = sym stop ∙ stop_none (halt g) lines x none h in cc)
  by_rule (Some why) h = in_force_at (halt g) lines x why none h

-- Lines whose last ends a run tell how it ends, whatever follows.
pub record EndAlike (g : Goal) (lines all : Lines) : Type 0 where
  pub ends : ends_run g all ≡ true
  pub same_end : end_of g all ≡ end_of g lines
  pub same_lines : taken g all ≡ taken g lines

-- how lines end of which all are looked at, and those that are taken
pub end_by : (g : Goal) (lines : Lines) → looked_at g lines ≡ lines → end_of g lines ≡ option_map_or (λ s. halted s.0 s.1) (stop_of (halt g) lines) (last_of g lines)
unfolding end_of
end_by g lines all = ap (λ ls. option_map_or (λ s. halted s.0 s.1) (stop_of (halt g) ls) (last_of g lines)) all

pub taken_by : (g : Goal) (lines : Lines) → looked_at g lines ≡ lines → taken g lines ≡ in_force (halt g) lines
unfolding taken
taken_by g lines all = ap (in_force (halt g)) all

alike_by_stop : (g : Goal) (lines more : Lines) (t : ℕ × Halt) → looked_at g lines ≡ lines → stop_of (halt g) lines ≡ Some t → EndAlike g lines (lines ++ more)
unfolding ends_run end_of taken
alike_by_stop g lines more t all stop =
    let on = looks_on g lines more all in
    let stops : stop_of (halt g) (looked_at g (lines ++ more)) ≡ Some t = ap (stop_of (halt g)) on.parts ∙ stop-front (halt g) lines on.further t stop in
    record {
      ends = ap (λ o. is_some o || (settles g && has verb.Assign (lines ++ more))) stops;
      same_end = ap (λ o. option_map_or (λ s. halted s.0 s.1) o (last_of g (lines ++ more))) stops ∙ sym (end_by g lines all ∙ ap (λ o. option_map_or (λ s. halted s.0 s.1) o (last_of g lines)) stop);
      same_lines = ap (in_force (halt g)) on.parts ∙ in_force-front (halt g) lines on.further t stop ∙ sym (taken_by g lines all);
    }

has-front : (lines more : Lines) → has verb.Assign lines ≡ true → has verb.Assign (lines ++ more) ≡ true
unfolding has
has-front [] more h = absurd (cc)
has-front (line ∷ lines) more h = elim (cases_Bool (commands verb.Assign line)) [
  | inl asks ↦ ap (λ b. b || list_any (commands verb.Assign) (lines ++ more)) asks
  | inr other ↦ ap (λ b. b || list_any (commands verb.Assign) (lines ++ more)) other ∙ has-front lines more (sym (ap (λ b. b || list_any (commands verb.Assign) lines) other) ∙ h)
]

settled-front : (s : Bool) (lines more : Lines) → (s && has verb.Assign lines) ≡ true → (s && has verb.Assign (lines ++ more)) ≡ true
settled-front true lines more h = has-front lines more h
settled-front false lines more h = absurd (cc)

alike_by_goal : (g : Goal) (lines more : Lines) → looked_at g lines ≡ lines → stop_of (halt g) lines ≡ None → (settles g && has verb.Assign lines) ≡ true → EndAlike g lines (lines ++ more)
unfolding end_of taken
alike_by_goal g lines more all stop settled =
    let on = looks_on g lines more all in
    let same : looked_at g (lines ++ more) ≡ lines = on.parts ∙ ap (λ ls. lines ++ ls) (on.settled settled) ∙ append-nil lines in
    let settled_all : (settles g && has verb.Assign (lines ++ more)) ≡ true = settled-front (settles g) lines more settled in
    let last_all : last_of g (lines ++ more) ≡ Ended.Settled = cond-true (settles g && has verb.Assign (lines ++ more)) Ended.Settled (last_ended (lines ++ more)) settled_all in
    let last_here : last_of g lines ≡ Ended.Settled = cond-true (settles g && has verb.Assign lines) Ended.Settled (last_ended lines) settled in
    record {
      ends = ends_by_goal g (lines ++ more) settled_all;
      same_end = ap (λ ls. option_map_or (λ s. halted s.0 s.1) (stop_of (halt g) ls) (last_of g (lines ++ more))) same
          ∙ ap (λ e. option_map_or (λ s. halted s.0 s.1) (stop_of (halt g) lines) e) (last_all ∙ sym last_here) ∙ sym (end_by g lines all);
      same_lines = ap (in_force (halt g)) same ∙ sym (taken_by g lines all);
    }

pub ends_alike : (g : Goal) (lines more : Lines) → looked_at g lines ≡ lines → ends_run g lines ≡ true → EndAlike g lines (lines ++ more)
unfolding ends_run
ends_alike g lines more all ends = by_stop (stop_of (halt g) lines) refl where
  by_stop : (o : Option (ℕ × Halt)) → stop_of (halt g) lines ≡ o → EndAlike g lines (lines ++ more)
  by_stop (Some t) stop = alike_by_stop g lines more t all stop
  by_stop None stop =
      let settled : (settles g && has verb.Assign lines) ≡ true =
      sym (ap (λ ls. is_some (stop_of (halt g) ls) || (settles g && has verb.Assign lines)) all
      ∙ ap (λ o. is_some o || (settles g && has verb.Assign lines)) stop) ∙ ends in
      alike_by_goal g lines more all stop settled

-- A run whose goal an assignment reaches comes to no draw: it would have an assignment.

drawn_by : (called drawn : Bool) (n : ℕ) → cond (not called) (Ended.Refused n reason.NoCall) (cond (not drawn) (Ended.Refused n reason.Unfinished) Ended.Done) ≡ Ended.Done → drawn ≡ true
drawn_by true true n h = refl
drawn_by true false n h = absurd (let wrong : ⊥ = cc in wrong)
drawn_by false drawn n h = absurd (let wrong : ⊥ = cc in wrong)

assigned_by : (assigned closed drawn : Bool) → is_drawn (cond (not assigned) phase.Opening (cond (not closed) phase.Reviewing (cond (not drawn) phase.Closed phase.Drawn))) ≡ true → assigned ≡ true
assigned_by true closed drawn h = refl
assigned_by false closed drawn h = absurd (let wrong : false ≡ true = h in cc)

-- lines that end done have an assignment
done_assigned : (lines : Lines) → last_ended lines ≡ Ended.Done → has verb.Assign lines ≡ true
unfolding last_ended phase_after
done_assigned lines h =
    assigned_by (has verb.Assign lines) (has verb.Close lines) (has verb.Draw lines || has verb.Lottery lines) (drawn_by (has verb.Call lines) (is_drawn (phase_after lines)) (length lines + 1) h)

last_done : (assigned : Bool) (stop : Option (ℕ × Halt)) (last : Ended) → (last ≡ Ended.Done → assigned ≡ true) → option_map_or (λ s. halted s.0 s.1) stop (cond assigned Ended.Settled last) ≡ Ended.Done → ⊥
last_done assigned (Some (n, Halt.Refused r)) last assigns h = cc
last_done assigned (Some (n, Halt.Short)) last assigns h = cc
last_done true None last assigns h = cc
last_done false None last assigns h = let wrong : false ≡ true = assigns h in cc

pub never_drawn : (g : Goal) (lines : Lines) → settles g ≡ true → end_of g lines ≡ Ended.Done → ⊥
unfolding end_of
never_drawn g lines reaches done =
    last_done (has verb.Assign lines) (stop_of (halt g) (looked_at g lines)) (last_ended lines) (done_assigned lines)
    (sym (ap (λ b. option_map_or (λ s. halted s.0 s.1) (stop_of (halt g) (looked_at g lines)) (cond (b && has verb.Assign lines) Ended.Settled (last_ended lines))) reaches) ∙ done)
