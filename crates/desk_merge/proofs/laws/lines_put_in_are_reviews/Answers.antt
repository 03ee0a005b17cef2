use Rattle.desk_merge.proofs.PutLemmas.{review_is, words_of_review}
use Rattle.desk_merge.proofs.laws.lines_put_in_are_reviews.Goals as goal

pub returns-clause-review : goal.returns-clause-review
returns-clause-review c = review_is

pub returns-clause-words : goal.returns-clause-words
returns-clause-words c = words_of_review
