use Rattle.std.proofs.Common.{sym, ap, ◌∙◌}
use Rattle.peer_selection.specs.Lottery.{chance}
use Rattle.house_model.specs.Reviews.{profile}
use Rattle.house_model.proofs.OwnReviewLemmas.{chance-without}
use Rattle.desk_merge.specs.Put.{put_in}
use Rattle.desk_merge.proofs.PutLemmas.{without-put_in}
use Rattle.desk_merge.proofs.laws.entries_of_one_person.Goals as goal

pub returns-clause-lines : goal.returns-clause-lines
returns-clause-lines c = without-put_in

pub returns-clause-chance : goal.returns-clause-chance
returns-clause-chance c =
    λ name lines m p items gives own.
    ap (λ ls. chance (profile ls) p) (sym (without-put_in name lines m items)) ∙ chance-without name (put_in lines m) p gives own
