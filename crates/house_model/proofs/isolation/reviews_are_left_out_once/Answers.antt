use Rattle.std.specs.Prelude.{not}
use Rattle.house_model.specs.Isolation.{is_by, without}
use Rattle.house_model.proofs.HouseLineLemmas.{filter-within}
use Rattle.house_model.proofs.isolation.reviews_are_left_out_once.Goals as goal

pub returns : goal.returns
unfolding without
returns c = λ name lines. filter-within (λ line. not (is_by name line)) (λ line. not (is_by name line)) (λ line stays. stays) lines
