use Rattle.std.proofs.Common.{◌≡◌, ◌+◌, ◌*◌, ◌%◌, [], ◌∷◌, ◌++◌, codes, ap, ◌∙◌, subst}
use Rattle.std.specs.Prelude.{OnOk, decimal}
use Rattle.rand_chacha.specs.ChaCha.{ChaCha}
use Rattle.house_model.specs.Report.{line_of}
use Rattle.trial_file.specs.Stream.{key_words}
use Rattle.trial_file.specs.Trial.{draw_of_words}
use Rattle.trial_file.proofs.file.push_draw.Goals as goal

pub returns : goal.returns
unfolding draw_of_words
returns c =
    let g = c.args.generator.now in
    let high = c.from-high.ensures ∙ c.next_word.ensures.word in
    let low = c.from-low.ensures ∙ c.next_word-2.ensures.word ∙ ap (λ (h : ChaCha). key_words h.key h.word_pos) c.next_word.ensures.rest in
    let draw : (c.from-high.result * 4294967296 + c.from-low.result) % (c.from.result * c.from-2.result) ≡ draw_of_words (key_words g.key g.word_pos) (key_words g.key (g.word_pos + 1)) c.args.applicants =
    ap (λ h. (h * 4294967296 + c.from-low.result) % (c.from.result * c.from-2.result)) high
    ∙ ap (λ w. (key_words g.key g.word_pos * 4294967296 + w) % (c.from.result * c.from-2.result)) low
    ∙ ap (λ n. (key_words g.key g.word_pos * 4294967296 + key_words g.key (g.word_pos + 1)) % (n * c.from-2.result)) c.from.ensures
    ∙ ap (λ d. (key_words g.key g.word_pos * 4294967296 + key_words g.key (g.word_pos + 1)) % (c.args.applicants * d)) c.from-2.ensures in
    subst (λ v. OnOk c.push_line.result (c.push_line.new.out.items ≡ c.args.out.now.items ++ line_of (codes "draw" ∷ decimal v ∷ []))) draw c.push_line.ensures.ok
