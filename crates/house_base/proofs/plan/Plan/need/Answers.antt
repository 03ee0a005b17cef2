use Rattle.std.proofs.Common.{◌∙◌, sym, ap, subst, arith}
use Rattle.house_base.specs.Setting.{IsSetting}
use Rattle.house_base.proofs.Settings.{need-some, need-none, need-le}
use Rattle.house_base.proofs.plan.Plan.need.Goals as goal

pub overflow_mul-result : goal.overflow_mul-result
overflow_mul-result c =
    let reviews = ap (λ s. s.reviews) c.self.view_is in
    let setting = subst IsSetting c.self.view_is c.self.invariant.setting in
    rw reviews (omega (arith, need-le c.args.self.now c.args.place c.in-Some.owner setting (sym c.owner_from.ensures ∙ c.in-Some.is)))

pub returns-in-Some : goal.returns-in-Some
returns-in-Some c =
    let reviews = ap (λ s. s.reviews) c.self.view_is in
    let setting = subst IsSetting c.self.view_is c.self.invariant.setting in
    rw reviews (record {
      value = sym (need-some c.args.self.now c.args.place c.in-Some.owner (sym c.owner_from.ensures ∙ c.in-Some.is));
      most = need-le c.args.self.now c.args.place c.in-Some.owner setting (sym c.owner_from.ensures ∙ c.in-Some.is);
    })

pub returns-in-None : goal.returns-in-None
returns-in-None c = record { value = sym (need-none _ _ (sym c.owner_from.ensures ∙ c.in-None.is)); most = omega arith }
