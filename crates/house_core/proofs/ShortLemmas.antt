-- A house that ended for the want of a valid assignment.
use Rattle.std.proofs.Common.{◌≡◌, Bool, true, Some, ap, subst}
use Rattle.std.specs.Prelude.{IfSome}
use Rattle.std.specs.Option.{option_map_or}
use Rattle.std.proofs.lemmas.Bool.{or_right}
use Rattle.house_model.specs.declared.goal.Goal.{Goal}
use Rattle.house_model.specs.declared.verb.Verb.TheVariants as verb
use Rattle.house_model.specs.Ending.{in_force}
use Rattle.house_model.specs.Runs.{halt}
use Rattle.house_model.specs.Said.{has, setting}
use Rattle.house_model.specs.Text.{Lines}
use Rattle.house_core.specs.declared.round.Shortage.{Shortage}
use Rattle.house_core.specs.declared.round.Stop.TheVariants as stop
use Rattle.house_core.specs.House.{Standing, StandsFor, IsShown, fell_short, has_setting, is_shortage}
use Rattle.house_core.specs.Standing.{IsShortageOf, setting_in}
use Rattle.house_core.proofs.SettingLemmas.{setting_says}

pub shown_here : (inside seen : Standing) → inside ≡ seen → IfSome inside.stop (IsShown inside.state) → IfSome seen.stop (IsShown seen.state)
shown_here inside seen same shown = subst (λ (h : Standing). IfSome h.stop (IsShown h.state)) same shown

-- the shortage is that of the setting of the lines in force
pub shown_shortage : (g : Goal) (lines : Lines) (h : Standing) (x : Shortage) → StandsFor g lines h → IfSome h.stop (IsShown h.state) → h.stop ≡ Some (stop.Short x) →
    IsShortageOf (setting (in_force (halt g) lines)) x
shown_shortage g lines h x is shown stopped =
    let own : IsShortageOf (setting_in h.state) x = rw stopped at shown in
    rw (setting_says (in_force (halt g) lines) h.state is.says) at own

pub shows_short : (h : Standing) (x : Shortage) → h.stop ≡ Some (stop.Short x) → fell_short h ≡ true
shows_short h x stopped = ap (λ o. option_map_or is_shortage o Bool.false) stopped

-- so its plan is that setting
pub plan_short : (g : Goal) (lines : Lines) (h : Standing) (x : Shortage) → StandsFor g lines h → IfSome h.stop (IsShown h.state) → h.stop ≡ Some (stop.Short x) →
    (has_setting (in_force (halt g) lines) h ≡ true) × (x.plan.value ≡ setting (in_force (halt g) lines))
plan_short g lines h x is shown stopped =
    (or_right (has verb.Assign (in_force (halt g) lines)) (fell_short h) (shows_short h x stopped), (shown_shortage g lines h x is shown stopped).plan)
