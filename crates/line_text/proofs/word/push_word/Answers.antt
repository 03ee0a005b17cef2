use Rattle.std.proofs.Common.{append_assoc}
use Rattle.house_model.specs.Report.{over}
use Rattle.line_text.proofs.word.push_word.Goals as goal

pub returns-in_ok-push_number-in-Share-2-clause-ok : goal.returns-in_ok-push_number-in-Share-2-clause-ok
unfolding over
returns-in_ok-push_number-in-Share-2-clause-ok c =
    rw (c.in_ok-push_number-in-Share-2.ensures.ok, c.in_ok-push-in-Share.ensures.items, c.in_ok-push_number-in-Share.ensures.ok, c.in-Share.is) (simp append_assoc)
