use Rattle.std.proofs.Common.{refl, sym, ◌∙◌}
use Rattle.review_desk.specs.Desk.{desk_profile}
use Rattle.slip_text.proofs.ToldLemmas.{ends_told, told_at, told_unlisted}
use Rattle.slip_text.proofs.text.told.Goals as goal

pub returns-in-Ok : goal.returns-in-Ok
returns-in-Ok c =
    let told = c.in-Ok.ensures.listed in
    let at_start = told.2 ∙ rw c.new-text.ensures.items refl in
    at_start ∙ sym (told_at (desk_profile c.args.plan.now c.args.desk.now) c.args.name told.0 c.requires.setting told.1)

pub returns-in-Err-Unlisted : goal.returns-in-Err-Unlisted
returns-in-Err-Unlisted c =
    ends_told c.unlisted.result c.unlisted.ensures
    (told_unlisted (desk_profile c.args.plan.now c.args.desk.now) c.args.name (c.in-Err-Unlisted.ensures.unlisted.0 (cc)))
