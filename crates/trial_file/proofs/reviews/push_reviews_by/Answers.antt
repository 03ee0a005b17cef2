use Rattle.std.proofs.Common.{◌≡◌, ◌+◌, ◌*◌, ◌%◌, ◌++◌, length, map, sym, ap, ◌∙◌, arith}
use Rattle.house_model.specs.Report.{line_of}
use Rattle.peer_selection.specs.Counting.{numbers_below}
use Rattle.trial_file.specs.Stream.{key_words}
use Rattle.trial_file.specs.Trial.{review_row, rows_text, trial_name}
use Rattle.trial_file.proofs.ReviewLemmas.{all_by, at_place, one_further, row_by, word_there}
use Rattle.trial_file.proofs.RowLemmas.{none_yet, one_more}
use Rattle.trial_file.proofs.reviews.push_reviews_by.Goals as goal

pub loop-distance-init : goal.loop-distance-init
loop-distance-init c =
    let g = c.args.generator.now in
    record {
      text = none_yet (row_by (key_words g.key) (length c.args.names.now) c.args.reviews c.args.reviewer) c.args.out.now.items;
      words = at_place g (c.args.reviewer * c.args.reviews) (c.args.reviewer * c.args.reviews + 0) c.requires.words (omega arith);
    }

pub loop-distance-preserved : goal.loop-distance-preserved
loop-distance-preserved c =
    let first = c.args.generator.now in
    let g = c.loop-distance.generator in
    let out = c.loop-distance.out.items in
    let n = length c.args.names.now in
    let r = c.args.reviewer in
    let d = c.loop-distance.distance in
    let taken = r * c.args.reviews + d in
    let word = c.next_word.ensures.word ∙ word_there g first taken c.loop-distance.invariant.words in
    record {
      text = c.in_ok-push_review.ensures
          ∙ ap (λ t. out ++ line_of (review_row t c.name_at-in-loop-distance.result (c.next_word.result % 101))) c.name_at.ensures
          ∙ ap (λ t. out ++ line_of (review_row (trial_name (r + 1)) t (c.next_word.result % 101))) c.name_at-in-loop-distance.ensures
          ∙ ap (λ w. out ++ line_of (review_row (trial_name (r + 1)) (trial_name ((r + 1 + d) % n + 1)) (w % 101))) word
          ∙ one_more (row_by (key_words first.key) n c.args.reviews r) c.args.out.now.items out d c.loop-distance.invariant.text;
      words = one_further g first c.next_word.new.generator (r * c.args.reviews) d c.loop-distance.invariant.words c.next_word.ensures.rest;
    }

pub returns-clause-text : goal.returns-clause-text
returns-clause-text c =
    let words = key_words c.args.generator.now.key in
    let n = length c.args.names.now in
    let all : c.loop-distance.distance ≡ c.args.reviews = omega (arith, c.loop-distance.auto.distance-end, c.loop-distance-test.false) in
    c.loop-distance.invariant.text
    ∙ ap (λ d. c.args.out.now.items ++ rows_text (map (row_by words n c.args.reviews c.args.reviewer) (numbers_below d))) all
    ∙ ap (λ rows. c.args.out.now.items ++ rows_text rows) (sym (all_by words n c.args.reviews c.args.reviewer))
