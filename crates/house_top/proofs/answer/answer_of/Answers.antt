use Rattle.house_top.proofs.AnswerLemmas.{ended_answer}
use Rattle.house_top.proofs.answer.answer_of.Goals as goal

pub end_text-requires : goal.end_text-requires
end_text-requires c = let lines = c.requires.0 in (lines, c.requires.1.taken.stands, c.requires.1.few)

pub returns : goal.returns
returns c = λ lines has.
    ended_answer c.args.goal lines c.in_ok-end.field-0.end c.status_of.result c.in_ok-end.field-0.text.items has.looked (c.in_ok-end.ensures lines has.taken.stands has.few) c.status_of.ensures
