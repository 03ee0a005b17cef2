use Rattle.std.proofs.Common.{◌≡◌, ◌≢◌, ℕ, ◌<◌, ◌+◌, ◌-◌, ◌^◌, [], ◌∷◌, ◌++◌, length, refl, sym, ap, subst, ◌∙◌, arith, Option, Some, None, length-append}
use Rattle.house_base.specs.Answer.{raised}
use Rattle.house_base.specs.declared.answer.Reason.{Reason}
use Rattle.house_base.specs.declared.answer.Took.{Took}
use Rattle.house_base.specs.Text.{Text}
use Rattle.house_model.specs.declared.goal.Goal.{Goal}
use Rattle.house_model.specs.Text.{Lines}
use Rattle.house_model.specs.Ending.{Halt, in_force, stop_of}
use Rattle.house_model.specs.Runs.{halt}
use Rattle.house_core.specs.declared.round.Shortage.{Shortage}
use Rattle.house_core.specs.declared.round.Stop.{Stop}
use Rattle.house_core.specs.declared.round.Stop.TheVariants as stop
use Rattle.house_core.specs.declared.state.State.{State}
use Rattle.house_core.specs.declared.step.Step.TheVariants as step
use Rattle.house_core.specs.House.{Standing, StandsFor, IsShown, IsStopAt, StopsAs, IsStep, stopped_step}
use Rattle.house_core.specs.Standing.{IsShortageOf, Says, setting_in}
use Rattle.house_core.proofs.EndingLemmas.{in_force_all, stop_at, in_force_at, stop_none, in_force_more, stop_stays, in_force_stays, stop_within}

-- a count below the greatest one is raised by one
pub raised_below : (n : ℕ) → n < 2 ^ 64 - 1 → raised n ≡ n + 1
raised_below n h = omega arith

not_stopped : (t : Option (ℕ × Halt)) (lines : ℕ) → StopsAs None lines t → t ≡ None
not_stopped None lines h = refl
not_stopped (Some at) lines h = absurd h

-- a house that goes on has all its lines in force
pub going : (g : Goal) (lines : Lines) (h : Standing) → StandsFor g lines h → h.stop ≡ None → stop_of (halt g) lines ≡ None
going g lines h is none = not_stopped _ h.lines (rw none at is.stop)

pub going_says : (g : Goal) (lines : Lines) (h : Standing) → StandsFor g lines h → h.stop ≡ None → Says lines h.state
going_says g lines h is none = rw (in_force_all (halt g) lines (going g lines h is none)) at is.says

pub going_count : (g : Goal) (lines : Lines) (h : Standing) → StandsFor g lines h → h.stop ≡ None → h.lines ≡ length lines
going_count g lines h is none = is.count ∙ ap length (in_force_all (halt g) lines (going g lines h is none))

-- a house stands for the goal that it has
pub own_goal : (g : Goal) (lines : Lines) (h : Standing) → StandsFor g lines h → StandsFor h.state.goal lines h
own_goal g lines h is = subst (λ purpose. StandsFor purpose lines h) (sym is.goal) is

length-more : (lines : Lines) (x : Text) → length (lines ++ x ∷ []) ≡ length lines + 1
length-more lines x = length-append lines (x ∷ [])

-- a house without a line
pub stands_nothing : (g : Goal) (s : State) → s.goal ≡ g → Says [] s → StandsFor g [] (record { state = s; lines = 0; stop = None })
unfolding in_force stop_of
stands_nothing g s same says = record { goal = same; count = refl; stop = tt; says = says }

-- why a line is not taken, where it has such a halt; want of memory needs none
abbrev pub HaltsBy : Stop → Option Halt → Type 0
HaltsBy (stop.Refused r) why = why ≡ Some (Halt.Refused r)
HaltsBy (stop.Short shortage) why = why ≡ Some Halt.Short
HaltsBy stop.Memory why = Unit {0}

pub halts_by : (s : Stop) (why : Option Halt) → ((r : Reason) → s ≡ stop.Refused r → why ≡ Some (Halt.Refused r)) →
    ((x : Shortage) → s ≡ stop.Short x → why ≡ Some Halt.Short) → HaltsBy s why
halts_by (stop.Refused r) why refused short = refused r refl
halts_by (stop.Short x) why refused short = short x refl
halts_by stop.Memory why refused short = tt

pub shown_by : (state : State) (s : Stop) → ((x : Shortage) → s ≡ stop.Short x → IsShortageOf (setting_in state) x) → IsShown state s
shown_by state (stop.Refused r) short = tt
shown_by state (stop.Short x) short = short x refl
shown_by state stop.Memory short = tt

-- a house that goes on, and one more line
module _ (g : Goal) (lines : Lines) (x : Text) (h : Standing) (is : StandsFor g lines h) (none : h.stop ≡ None) where
  unstopped : stop_of (halt g) lines ≡ None
  unstopped = going g lines h is none

  counted : h.lines ≡ length lines
  counted = going_count g lines h is none

  -- that is taken
  pub stands_more : (s : State) → s.goal ≡ h.state.goal → length lines < 2 ^ 64 - 1 → halt g lines x ≡ None → Says (lines ++ x ∷ []) s →
      StandsFor g (lines ++ x ∷ []) (record { state = s; lines = raised h.lines; stop = None })
  stands_more s same few free says =
      let force : in_force (halt g) (lines ++ x ∷ []) ≡ lines ++ x ∷ [] = in_force_more (halt g) lines x unstopped free in
      record {
        goal = same ∙ is.goal;
        count = ap raised counted ∙ raised_below _ few ∙ sym (length-more lines x) ∙ ap length (sym force);
        stop = rw (stop_none (halt g) lines x unstopped free) tt;
        says = rw force says;
      }

  pub step_going : (t answer : Took) → halt g lines x ≡ None → answer ≡ t → IsStep (stop_of (halt g) (lines ++ x ∷ [])) t (step.Going answer)
  step_going t answer free same = rw (stop_none (halt g) lines x unstopped free) same

  -- that ends the run
  stands_at : (s : Stop) (why : Halt) → halt g lines x ≡ Some why → IsStopAt s h.lines (length lines + 1, why) →
      StandsFor g (lines ++ x ∷ []) (record { state = h.state; lines = h.lines; stop = Some s })
  stands_at s why halts at =
      let force : in_force (halt g) (lines ++ x ∷ []) ≡ lines = in_force_at (halt g) lines x why unstopped halts in
      record {
        goal = is.goal;
        count = counted ∙ ap length (sym force);
        stop = rw (stop_at (halt g) lines x why unstopped halts) at;
        says = rw force (going_says g lines h is none);
      }

  pub stands_stop : (s : Stop) → (s ≡ stop.Memory → ⊥) → HaltsBy s (halt g lines x) →
      StandsFor g (lines ++ x ∷ []) (record { state = h.state; lines = h.lines; stop = Some s })
  stands_stop (stop.Refused r) never halts = stands_at (stop.Refused r) (Halt.Refused r) halts (ap (λ n. n + 1) counted, refl)
  stands_stop (stop.Short s) never halts = stands_at (stop.Short s) Halt.Short halts (ap (λ n. n + 1) counted, refl)
  stands_stop stop.Memory never halts = absurd (never refl)

  free_step : (o : Option (ℕ × Halt)) (t : Took) → IsStep o t step.Memory
  free_step None t = tt
  free_step (Some at) t = tt

  pub step_stop : (s : Stop) (t : Took) → length lines < 2 ^ 64 - 1 → HaltsBy s (halt g lines x) →
      IsStep (stop_of (halt g) (lines ++ x ∷ [])) t (stopped_step h.lines s)
  step_stop (stop.Refused r) t few halts =
      rw (stop_at (halt g) lines x (Halt.Refused r) unstopped halts) (ap raised counted ∙ raised_below _ few, refl)
  step_stop (stop.Short s) t few halts = rw (stop_at (halt g) lines x Halt.Short unstopped halts) refl
  step_stop stop.Memory t few halts = free_step (stop_of (halt g) (lines ++ x ∷ [])) t

-- a house that has stopped
pub stands_stopped : (g : Goal) (lines : Lines) (x : Text) (h : Standing) (s : Stop) → StandsFor g lines h → h.stop ≡ Some s → StandsFor g (lines ++ x ∷ []) h
stands_stopped g lines x h s is some = stays (stop_of (halt g) lines) refl is.stop
  where
    stays : (t : Option (ℕ × Halt)) → stop_of (halt g) lines ≡ t → StopsAs h.stop h.lines t → StandsFor g (lines ++ x ∷ []) h
    stays None e q = absurd (rw some at q)
    stays (Some at) e q = record {
      goal = is.goal;
      count = is.count ∙ ap length (sym (in_force_stays (halt g) lines x at e));
      stop = rw (stop_stays (halt g) lines x at e) q;
      says = rw (in_force_stays (halt g) lines x at e) is.says;
    }

-- the number of the line at which it stopped
pub stop_numbered : (g : Goal) (lines : Lines) (n m : ℕ) (why : Halt) → stop_of (halt g) lines ≡ Some (m, why) → n + 1 ≡ m → length lines < 2 ^ 64 - 1 → raised n ≡ m
stop_numbered g lines n m why stops e few =
    let low = stop_within (halt g) lines m why stops in
    let n_small : n < 2 ^ 64 - 1 = omega arith in
    raised_below n n_small ∙ e

pub step_stopped : (g : Goal) (lines : Lines) (x : Text) (h : Standing) (s : Stop) (t : Took) → StandsFor g lines h → h.stop ≡ Some s → length lines < 2 ^ 64 - 1 →
    IsStep (stop_of (halt g) (lines ++ x ∷ [])) t (stopped_step h.lines s)
step_stopped g lines x h s t is some few = at_stop (stop_of (halt g) lines) refl (rw some at is.stop)
  where
    answer : (s : Stop) (at : ℕ × Halt) → stop_of (halt g) lines ≡ Some at → IsStopAt s h.lines at → IsStep (Some at) t (stopped_step h.lines s)
    answer (stop.Refused r) at e q = (stop_numbered g lines h.lines at.0 at.1 e q.0 few, q.1)
    answer (stop.Short s) at e q = q.1
    answer stop.Memory at e q = absurd q

    at_stop : (o : Option (ℕ × Halt)) → stop_of (halt g) lines ≡ o → StopsAs (Some s) h.lines o → IsStep (stop_of (halt g) (lines ++ x ∷ [])) t (stopped_step h.lines s)
    at_stop None e q = absurd q
    at_stop (Some at) e q = rw (stop_stays (halt g) lines x at e) (answer s at e q)

pub not_memory : (s : Stop) (n : ℕ) → stopped_step n s ≢ step.Memory → s ≡ stop.Memory → ⊥
not_memory s n never e = never (ap (stopped_step n) e)

-- a step that finds no memory is that of a stop that found none
pub memory_step : (n : ℕ) (s : Stop) → stopped_step n s ≡ step.Memory → s ≡ stop.Memory
memory_step n (stop.Refused r) h = cc
memory_step n (stop.Short s) h = cc
memory_step n stop.Memory h = refl
