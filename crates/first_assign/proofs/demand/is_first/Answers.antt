use Rattle.std.proofs.Common.{is_some, inl, inr, sym, ap, ◌∙◌}
use Rattle.std.proofs.lemmas.Bool.{cases_eq, eq-eqb, ne_eqb}
use Rattle.house_base.specs.Setting.{owner_from}
use Rattle.house_base.proofs.Settings.{owner_from-first, owner_from-other}
use Rattle.first_assign.proofs.demand.is_first.Goals as goal

pub returns : goal.returns
returns c =
    let s = c.args.plan.now in
    let owner = c.owner_at.result in
    elim (cases_eq owner.first c.args.place) [
      | inl same ↦ eq-eqb owner.first c.args.place same
          ∙ sym (ap (λ o. is_some o) (sym (ap (owner_from s) same) ∙ owner_from-first s owner c.owner_at.ensures.setting c.owner_at.ensures.person))
      | inr other ↦ ne_eqb owner.first c.args.place other
          ∙ sym (ap (λ o. is_some o) (owner_from-other s owner c.args.place c.owner_at.ensures.setting c.owner_at.ensures.person c.owner_at.ensures.owned other))
    ]
