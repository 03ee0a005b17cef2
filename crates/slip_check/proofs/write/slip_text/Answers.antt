use Rattle.std.proofs.Common.{[], ◌++◌, ap, ◌∙◌}
use Rattle.house_model.specs.Report.{line_of}
use Rattle.review_desk.specs.Desk.{desk_profile}
use Rattle.slip_check.specs.Slip.{head_row}
use Rattle.slip_check.proofs.WriteLemmas.{in_front, slip_text-read}
use Rattle.slip_check.proofs.write.slip_text.Goals as goal

pub returns : goal.returns
returns c =
    let s = c.args.plan.now in
    let f = desk_profile s c.args.desk.now in
    let person = c.person-person.result in
    let all = c.push_ballots.new.out.items in
    let head = line_of (head_row c.in_ok-chance.chance c.dollars.result person.name) in
    in_front [] c.push_head.new.out.items all head _ (c.in_ok-push_head.ensures ∙ ap (λ t. t ++ head) c.new-text.ensures.items)
    (in_front c.push_head.new.out.items c.push_sizes.new.out.items all _ _ c.in_ok-push_sizes.ensures
    (in_front c.push_sizes.new.out.items c.push_members.new.out.items all _ _ c.in_ok-push_members.ensures c.in_ok-push_ballots.ensures))
    ∙ slip_text-read f c.args.place c.in_ok-chance.chance c.dollars.result c.args.seats c.owners.result person c.person-person.ensures
    c.in_ok-chance.ensures c.dollars.ensures c.requires.seats c.owners.ensures.value
