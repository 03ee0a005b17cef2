use Rattle.std.proofs.Common.{ℕ, ap, ◌∙◌}
use Rattle.rand_chacha.specs.ChaCha.{ChaCha, word_at}
use Rattle.trial_file.specs.Stream.{key_words}
use Rattle.trial_file.proofs.stream.next_word.Goals as goal

pub returns-clause-word : goal.returns-clause-word
unfolding key_words
returns-clause-word c =
    ap (λ (p : ℕ × ChaCha). p.0) c.next_word.ensures
    ∙ ap (λ s. word_at 4 c.args.generator.now.key s c.args.generator.now.word_pos) c.requires.stream
