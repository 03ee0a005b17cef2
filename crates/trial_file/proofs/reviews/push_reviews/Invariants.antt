use Rattle.std.proofs.Common.{◌≡◌, ◌*◌, ◌++◌, flat_map, length}
use Rattle.peer_selection.specs.Counting.{numbers_below}
use Rattle.trial_file.specs.Stream.{key_words}
use Rattle.trial_file.specs.Trial.{reviews_by, rows_text}
use Rattle.trial_file.proofs.reviews.push_reviews.Given as goal

-- the reviews by those so far stand behind the old text, and so many words were taken
abbrev pub invariant-loop-reviewer : goal.invariant-loop-reviewer
invariant-loop-reviewer l = record {
  text : l.out.items ≡
      l.fn.out.items
      ++ rows_text (flat_map (reviews_by (key_words l.fn.generator.key) (length l.names) l.reviews) (numbers_below l.reviewer));
  words : l.generator ≡ record l.fn.generator { word_pos = l.reviewer * l.reviews };
}
