use Rattle.std.proofs.Common.{◌≡◌, ◌++◌, ap, ◌∙◌, rules}
use Rattle.std.specs.Prelude.{decimal}
use Rattle.slip_check.proofs.WriteLemmas.{cell_written, in_front}
use Rattle.slip_check.proofs.write_ballot.push_cell.Goals as goal

pub returns : goal.returns
returns c =
    let old = c.args.out.now.items in
    let all = c.extend_from_slice-2.new.self.items in
    let digits_are : c.as_bytes.result.now ≡ decimal c.args.points = search rules in
    in_front old c.push.new.self.items all _ _ c.in_ok-push.ensures.items
    (in_front c.push.new.self.items c.extend_from_slice.new.self.items all _ _ c.in_ok-extend_from_slice.ensures.items
    (in_front c.extend_from_slice.new.self.items c.push-2.new.self.items all _ _ c.in_ok-push-2.ensures.items c.in_ok-extend_from_slice-2.ensures.items))
    ∙ ap (λ t. old ++ t) (cell_written c.bytes.result.now c.as_bytes.result.now c.args.proposal c.args.points c.bytes.ensures.value digits_are)
