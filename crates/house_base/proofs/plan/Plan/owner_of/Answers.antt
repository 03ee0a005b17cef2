use Rattle.std.proofs.Common.{◌≡◌, ◌∙◌, refl, true, ap, arith, length}
use Rattle.house_base.proofs.Settings.{absent_more, not_viewed}
use Rattle.std.proofs.lemmas.Option.{slice_get_read}
use Rattle.house_base.proofs.plan.Plan.owner_of.Goals as goal

pub loop-owner-preserved : goal.loop-owner-preserved
loop-owner-preserved c =
    let items : c.deref-owner-items.result.now ≡ c.args.self.now.owners = c.deref-owner-items.ensures.value ∙ ap (λ s. s.owners) c.self.view_is in
    absent_more (λ owner. owner.name) _ _ _ c.owner-item.result (rw (← items) (slice_get_read _ _ _ _ refl c.loop-owner-test.true c.owner-item.is))
    (λ named. let same : c.eq.result ≡ true = c.eq.ensures.same.1 named in cc) c.loop-owner.invariant

pub returns-clause-none : goal.returns-clause-none
returns-clause-none c =
    let items : c.deref-owner-items.result.now ≡ c.args.self.now.owners = c.deref-owner-items.ensures.value ∙ ap (λ s. s.owners) c.self.view_is in
    let count = ap length items in
    not_viewed (λ owner. owner.name) _ _ _ (omega arith) c.loop-owner.invariant
