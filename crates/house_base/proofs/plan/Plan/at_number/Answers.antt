use Rattle.std.proofs.Common.{subst}
use Rattle.house_base.specs.Setting.{IsSetting}
use Rattle.house_base.specs.Tables.{GivesPlaces}
use Rattle.house_base.proofs.TableLemmas.{place-GivesPlaces}
use Rattle.house_base.proofs.plan.Plan.at_number.Goals as goal

pub returns-clause-below : goal.returns-clause-below
returns-clause-below c =
    let setting = subst IsSetting c.self.view_is c.self.invariant.setting in
    let gives = subst (λ s. GivesPlaces s c.self.inside.place_of_number) c.self.view_is c.self.invariant.gives_places in
    rw c.from.ensures ((place-GivesPlaces c.args.self.now c.self.inside.place_of_number c.args.number setting gives c.requires).0)

pub returns-clause-number : goal.returns-clause-number
returns-clause-number c =
    let setting = subst IsSetting c.self.view_is c.self.invariant.setting in
    let gives = subst (λ s. GivesPlaces s c.self.inside.place_of_number) c.self.view_is c.self.invariant.gives_places in
    rw c.from.ensures ((place-GivesPlaces c.args.self.now c.self.inside.place_of_number c.args.number setting gives c.requires).1)
