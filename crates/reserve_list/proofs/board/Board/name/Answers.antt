use Rattle.std.proofs.Common.{ap, ◌∙◌}
use Rattle.reserve_list.proofs.RowLemmas.{name-read}
use Rattle.reserve_list.proofs.board.Board.name.Goals as goal

pub returns : goal.returns
returns c = name-read c.args.self.now.outcome c.applicants.result.now c.args.number c.index-applicants-number.result (c.applicants.ensures ∙ ap (λ v. v.outcome.applicant_rows) c.self.view_is) c.requires
