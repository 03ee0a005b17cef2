use Rattle.desk_merge.specs.Put.{is_close, put_in, review_lines}
use Rattle.desk_merge.proofs.PutLemmas.{put_before_behind, put_before_first, put_before_none}
use Rattle.desk_merge.proofs.laws.reviews_stand_in_front_of_the_first_close.Goals as goal

pub returns-clause-none : goal.returns-clause-none
unfolding put_in
returns-clause-none c = λ lines m. put_before_none is_close (review_lines m) lines

pub returns-clause-first : goal.returns-clause-first
unfolding put_in
returns-clause-first c = λ before line rest m. put_before_first is_close (review_lines m) before line rest

pub returns-clause-behind : goal.returns-clause-behind
unfolding put_in
returns-clause-behind c = λ lines line m. put_before_behind is_close (review_lines m) lines line
