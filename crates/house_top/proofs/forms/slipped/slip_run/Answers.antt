use Rattle.std.proofs.Common.{refl, sym}
use Rattle.house_top.proofs.forms.slipped.slip_run.Goals as goal

pub returns-in_ok-slip_text-in-Done : goal.returns-in_ok-slip_text-in-Done
returns-in_ok-slip_text-in-Done c = (
  c.in_ok-answer.answer,
  λ lines has.
      let answers = c.in_ok-answer.ensures lines has in
      record {
        answers = answers;
        ends = sym c.in-Done.is;
        slip = λ done. c.in_ok-slip_text-in-Done.ensures lines has.taken.stands (answers.of_call refl c.in-Done.is);
        unless_done = λ undone. absurd (undone refl);
      },
)

pub returns-in_default : goal.returns-in_default
returns-in_default c = (
  c.in_ok-answer.answer,
  λ lines has. record {
    answers = c.in_ok-answer.ensures lines has;
    ends = refl;
    slip = λ done. absurd (c.in_default.not-Done done);
    unless_done = λ undone. refl;
  },
)
