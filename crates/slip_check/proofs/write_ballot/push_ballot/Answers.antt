use Rattle.std.proofs.Common.{[], ◌∷◌, ◌++◌, ap, sym, ◌∙◌}
use Rattle.std.specs.Prelude.{codes}
use Rattle.review_desk.specs.Desk.{desk_profile}
use Rattle.slip_check.specs.Written.{spaced_cells}
use Rattle.slip_check.proofs.PlaceLemmas.{first_below}
use Rattle.slip_check.proofs.WriteLemmas.{ballot_line-written, in_front}
use Rattle.slip_check.proofs.write_ballot.push_ballot.Goals as goal

pub push_cells-requires-clause-reviewer : goal.push_cells-requires-clause-reviewer
push_cells-requires-clause-reviewer c = first_below c.args.plan.now c.args.owner.now c.requires.set_up.setting c.requires.person

pub returns : goal.returns
returns c =
    let old = c.args.out.now.items in
    let f = desk_profile c.args.plan.now c.args.desk.now in
    let owner = c.args.owner.now in
    let all = c.push.new.self.items in
    in_front old c.extend_from_slice.new.self.items all _ _ c.in_ok-extend_from_slice.ensures.items
    (in_front c.extend_from_slice.new.self.items c.extend_from_slice-2.new.self.items all _ _ c.in_ok-extend_from_slice-2.ensures.items
    (in_front c.extend_from_slice-2.new.self.items c.push_cells.new.out.items all _ _ c.in_ok-push_cells.ensures c.in_ok-push.ensures.items))
    ∙ ap (λ t. old ++ t)
    (ap (λ name. codes "ballot " ++ (name ++ (spaced_cells f owner.first ++ 10 ∷ []))) c.bytes.ensures.value ∙ sym (ballot_line-written f owner))
