use Rattle.std.proofs.Common.{◌∙◌, ap, sym}
use Rattle.house_base.specs.Setting.{owner_from}
use Rattle.house_base.proofs.Settings.{owner_from-first, owner_from-other}
use Rattle.house_base.proofs.plan.Plan.owner_from.Goals as goal

pub returns-then-owner-place : goal.returns-then-owner-place
returns-then-owner-place c =
    sym (owner_from-first c.args.self.now c.owner_at-owner.result c.owner_at-owner.ensures.setting c.owner_at-owner.ensures.person) ∙ ap (owner_from c.args.self.now) c.if-owner-place.true

pub returns-else-owner-place : goal.returns-else-owner-place
returns-else-owner-place c =
    sym (owner_from-other c.args.self.now c.owner_at-owner.result c.args.place c.owner_at-owner.ensures.setting c.owner_at-owner.ensures.person c.owner_at-owner.ensures.owned c.if-owner-place.false)
