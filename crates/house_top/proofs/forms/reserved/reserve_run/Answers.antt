use Rattle.std.proofs.Common.{refl}
use Rattle.house_top.proofs.ReserveLemmas.{tells_behind}
use Rattle.house_top.proofs.forms.reserved.reserve_run.Goals as goal

pub reserve_done-requires : goal.reserve_done-requires
reserve_done-requires c =
    let lines = c.requires.0 in
    (lines, c.requires.1, (c.in_ok-answer.ensures lines c.requires.1).of_call refl c.in-Done.is)

pub returns-in-Done : goal.returns-in-Done
returns-in-Done c =
    tells_behind c.reserve_done.result c.args.bytes.now c.args.run.now c.in_ok-answer.answer c.in_ok-answer.ensures c.in-Done.is c.reserve_done.ensures.status c.reserve_done.ensures.text

pub returns-in_default : goal.returns-in_default
returns-in_default c = (
  c.in_ok-answer.answer,
  λ lines has. (
    c.in_ok-answer.ensures lines has,
    record {
      ends = λ done. absurd (c.in_default.not-Done done);
      writes = λ done. absurd (c.in_default.not-Done done);
      same_ends = λ undone. refl;
      same_writes = λ undone. refl;
    },
  ),
)
