use Rattle.std.proofs.Common.{ap, subst, length, arith, slice_index}
use Rattle.std.proofs.lemmas.Option.{slice_get_within}
use Rattle.house_base.specs.Setting.{IsSetting}
use Rattle.house_base.specs.Tables.{GivesOwners}
use Rattle.house_base.proofs.TableLemmas.{owner-GivesOwners, owner-read}
use Rattle.house_base.proofs.plan.Plan.owner_at.Goals as goal

pub index-requires : goal.index-requires
index-requires c =
    let setting = subst IsSetting c.self.view_is c.self.invariant.setting in
    let gives = subst (λ s. GivesOwners s.owners c.self.inside.owner_of_place) c.self.view_is c.self.invariant.gives_owners in
    let found = owner-GivesOwners c.args.self.now c.self.inside.owner_of_place c.args.place setting gives c.requires in
    let items = ap (λ s. length s.owners) c.self.view_is in
    let inside = slice_get_within c.args.self.now.owners (slice_index c.self.inside.owner_of_place c.args.place) found.0 found.1 in
    omega (arith, items, inside)

pub returns : goal.returns
returns c =
    let setting = subst IsSetting c.self.view_is c.self.invariant.setting in
    let gives = subst (λ s. GivesOwners s.owners c.self.inside.owner_of_place) c.self.view_is c.self.invariant.gives_owners in
    let owners = ap (λ s. s.owners) c.self.view_is in
    let read = owner-read c.args.self.now c.self.inside.owner_of_place c.args.place c.index.result.now setting gives c.requires (rw (← owners) c.index.ensures) in
    record { person = read.0; owned = read.1; setting = setting }
