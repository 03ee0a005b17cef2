use Rattle.std.proofs.Common.{refl}
use Rattle.house_model.specs.Isolation.{is_by, without}
use Rattle.house_model.specs.Text.{word, words}
use Rattle.house_model.specs.Verbs.{is_review}
use Rattle.house_model.proofs.isolation.lines_without_one_reviewer.Goals as goal

pub returns : goal.returns
unfolding without is_by is_review word words
returns c = refl
