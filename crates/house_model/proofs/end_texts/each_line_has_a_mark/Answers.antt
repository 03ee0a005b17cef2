use Rattle.house_model.proofs.MarkLemmas.{length-marks, marks-unstopped}
use Rattle.house_model.proofs.end_texts.each_line_has_a_mark.Goals as goal

pub returns-clause-count : goal.returns-clause-count
returns-clause-count c = length-marks

pub returns-clause-all : goal.returns-clause-all
returns-clause-all c = marks-unstopped
