use Rattle.std.proofs.Common.{◌+◌, ◌*◌, ◌++◌, length, ap, ◌∙◌, arith}
use Rattle.rand_chacha.specs.ChaCha.{ChaCha}
use Rattle.trial_file.specs.Stream.{key_words}
use Rattle.trial_file.specs.Trial.{reviews_by, rows_text}
use Rattle.trial_file.proofs.ReviewLemmas.{at_place}
use Rattle.trial_file.proofs.RowLemmas.{no_group_yet, one_group_more}
use Rattle.trial_file.proofs.reviews.push_reviews.Goals as goal

pub loop-reviewer-init : goal.loop-reviewer-init
loop-reviewer-init c =
    let g = c.args.generator.now in
    record {
      text = no_group_yet (reviews_by (key_words g.key) (length c.args.names.now) c.args.reviews) c.args.out.now.items;
      words = at_place g 0 (0 * c.args.reviews) c.requires.start (omega arith);
    }

pub loop-reviewer-preserved : goal.loop-reviewer-preserved
loop-reviewer-preserved c =
    let first = c.args.generator.now in
    let n = length c.args.names.now in
    let r = c.loop-reviewer.reviewer in
    let out = c.loop-reviewer.out.items in
    record {
      text = c.in_ok-push_reviews_by.ensures.text
          ∙ ap (λ (h : ChaCha). out ++ rows_text (reviews_by (key_words h.key) n c.args.reviews r)) c.loop-reviewer.invariant.words
          ∙ one_group_more (reviews_by (key_words first.key) n c.args.reviews) c.args.out.now.items out r c.loop-reviewer.invariant.text;
      words = c.in_ok-push_reviews_by.ensures.words
          ∙ ap (λ (h : ChaCha). record h { word_pos = (r + 1) * c.args.reviews }) c.loop-reviewer.invariant.words;
    }
