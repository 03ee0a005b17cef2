use Rattle.std.proofs.Common.{◌≡◌, ◌≤◌, length, List, ℕ, ◌++◌, Bool, ◌&&◌, nat_le, take, ap, ◌∙◌, arith}
use Rattle.std.proofs.lemmas.Grind.{common_steps}
use Rattle.house_io.specs.Collected.{Collected, collected_with}
use Rattle.house_io.proofs.Room.{append-take_fitting, fitting_is_all}
use Rattle.house_io.proofs.plain.PlainSinkSink.give.Goals as goal
use Rattle.house_io.proofs.plain.PlainSinkSink.give.Goals.{then-self, else-self}

pub returns-clause-collected : goal.returns-clause-collected
returns-clause-collected c =
    let inside = c.self.inside in
    let bytes = inside.bytes.items in
    let piece = c.args.piece.now in
    let fits : length bytes ≤ inside.room = omega arith in
    let front_is = append-take_fitting bytes piece inside.room fits in
    let test_is = fitting_is_all bytes piece inside.room fits in
    let bytes_are : c.extend_from_slice.new.self.items ≡ take inside.room (bytes ++ piece) = grind (arith, common_steps, front_is) in
    let complete_is : c.if-self.self ≡ (inside.is_complete && nat_le (length (bytes ++ piece)) inside.room) = elim c.if-self.branch [ then-self w ↦ grind (arith, common_steps, test_is) | else-self w ↦ grind (arith, common_steps) ] in
    let collected : List ℕ → Bool → Collected = λ kept whole. record { bytes = kept; room = inside.room; is_complete = whole } in
    ap (λ kept. collected kept c.if-self.self) bytes_are
    ∙ ap (collected (take inside.room (bytes ++ piece))) complete_is
    ∙ ap (λ sink. collected_with sink piece) c.self.view_is
