use Rattle.std.proofs.Common.{sym, subst, ◌∙◌}
use Rattle.house_base.specs.Setting.{IsSetting}
use Rattle.seat_quota.proofs.SixLemmas.{six-setting, six-made}
use Rattle.slip_check.proofs.write_tests.plan.Goals as goal

pub build-requires : goal.build-requires
build-requires c =
    subst IsSetting (sym (six-made c.in_ok-people.field-0.items c.in_ok-owners.field-0.items c.in_ok-new.field-0 c.in_ok-people.ensures c.in_ok-owners.ensures c.in_ok-new.ensures.whole)) six-setting

pub returns-clause-value : goal.returns-clause-value
returns-clause-value c =
    c.build.ensures ∙ six-made c.in_ok-people.field-0.items c.in_ok-owners.field-0.items c.in_ok-new.field-0 c.in_ok-people.ensures c.in_ok-owners.ensures c.in_ok-new.ensures.whole
