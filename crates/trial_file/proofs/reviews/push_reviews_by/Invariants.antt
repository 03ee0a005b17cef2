use Rattle.std.proofs.Common.{◌≡◌, ◌+◌, ◌*◌, ◌++◌, length, map}
use Rattle.peer_selection.specs.Counting.{numbers_below}
use Rattle.trial_file.specs.Stream.{key_words}
use Rattle.trial_file.specs.Trial.{rows_text}
use Rattle.trial_file.proofs.ReviewLemmas.{row_by}
use Rattle.trial_file.proofs.reviews.push_reviews_by.Given as goal

-- the reviews so far stand behind the old text, and so many words were taken
abbrev pub invariant-loop-distance : goal.invariant-loop-distance
invariant-loop-distance l = record {
  text : l.out.items ≡
      l.fn.out.items
      ++ rows_text (map (row_by (key_words l.fn.generator.key) (length l.names) l.reviews l.reviewer) (numbers_below l.distance));
  words : l.generator ≡ record l.fn.generator { word_pos = l.reviewer * l.reviews + l.distance };
}
