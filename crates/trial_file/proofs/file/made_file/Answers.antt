use Rattle.std.proofs.Common.{◌*◌, ◌++◌, map, flat_map, ap, ◌∙◌, arith}
use Rattle.rand_chacha.specs.ChaCha.{ChaCha}
use Rattle.house_model.specs.Report.{line_of}
use Rattle.peer_selection.specs.Counting.{numbers_below}
use Rattle.trial_file.specs.Stream.{key_words, seed_words}
use Rattle.trial_file.specs.Trial.{applicant_row, draw_row, made_file, place_row, reviews_by, rows_text}
use Rattle.trial_file.proofs.FileLemmas.{few_words, put_together}
use Rattle.trial_file.proofs.NameLemmas.{are_names, names_many}
use Rattle.trial_file.proofs.file.made_file.Goals as goal

pub push_applicants-requires : goal.push_applicants-requires
push_applicants-requires c = record { are = are_names c.deref.result.now c.args.applicants (c.deref.ensures.value ∙ c.in_ok-names.ensures) }

pub push_places-requires-clause-are : goal.push_places-requires-clause-are
push_places-requires-clause-are c = are_names c.deref-2.result.now c.args.applicants (c.deref-2.ensures.value ∙ c.in_ok-names.ensures)

pub push_places-requires-clause-few : goal.push_places-requires-clause-few
push_places-requires-clause-few c =
    omega (arith, names_many c.deref-2.result.now c.args.applicants (c.deref-2.ensures.value ∙ c.in_ok-names.ensures), c.requires.applicants_in_range.1)

pub push_reviews-requires-clause-are : goal.push_reviews-requires-clause-are
push_reviews-requires-clause-are c = are_names c.deref-3.result.now c.args.applicants (c.deref-3.ensures.value ∙ c.in_ok-names.ensures)

pub push_reviews-requires-clause-few_names : goal.push_reviews-requires-clause-few_names
push_reviews-requires-clause-few_names c =
    omega (arith, names_many c.deref-3.result.now c.args.applicants (c.deref-3.ensures.value ∙ c.in_ok-names.ensures), c.requires.applicants_in_range.1)

pub push_draw-requires-clause-bound : goal.push_draw-requires-clause-bound
push_draw-requires-clause-bound c =
    let many = names_many c.deref-3.result.now c.args.applicants (c.deref-3.ensures.value ∙ c.in_ok-names.ensures) in
    let at = ap (λ (g : ChaCha). g.word_pos) c.in_ok-push_reviews.ensures.words ∙ ap (λ n. n * c.args.reviews) many in
    omega (arith, at, few_words c.args.applicants c.args.reviews c.requires.applicants_in_range.1 c.requires.reviews_in_range.1)

pub returns : goal.returns
unfolding made_file seed_words
returns c =
    let n = c.args.applicants in
    let m = c.args.reviews in
    let g = c.generator_of-generator.result in
    let words = seed_words c.args.seed in
    let one = names_many c.deref.result.now n (c.deref.ensures.value ∙ c.in_ok-names.ensures) in
    let two = names_many c.deref-2.result.now n (c.deref-2.ensures.value ∙ c.in_ok-names.ensures) in
    let three = names_many c.deref-3.result.now n (c.deref-3.ensures.value ∙ c.in_ok-names.ensures) in
    let e2 = c.in_ok-push_applicants.ensures ∙ ap (λ k. c.push_call.new.out.items ++ rows_text (map applicant_row (numbers_below k))) one in
    let e3 = c.in_ok-push_places.ensures ∙ ap (λ k. c.push_applicants.new.out.items ++ rows_text (map (place_row c.args.clusters) (numbers_below k))) two in
    let e5 = c.in_ok-push_reviews.ensures.text
    ∙ ap (λ k. c.push_line.new.out.items ++ rows_text (flat_map (reviews_by (key_words g.key) k m) (numbers_below k))) three
    ∙ ap (λ key. c.push_line.new.out.items ++ rows_text (flat_map (reviews_by (key_words key) n m) (numbers_below n))) c.generator_of-generator.ensures.key in
    let e7 = c.in_ok-push_draw.ensures
    ∙ ap (λ (h : ChaCha). c.push_line-2.new.out.items ++ line_of (draw_row (key_words h.key) n h.word_pos)) c.in_ok-push_reviews.ensures.words
    ∙ ap (λ k. c.push_line-2.new.out.items ++ line_of (draw_row (key_words g.key) n (k * m))) three
    ∙ ap (λ key. c.push_line-2.new.out.items ++ line_of (draw_row (key_words key) n (n * m))) c.generator_of-generator.ensures.key in
    put_together words n c.args.clusters m c.args.seats c.new-text.result.items c.push_call.new.out.items c.push_applicants.new.out.items c.push_places.new.out.items c.push_line.new.out.items
    c.push_reviews.new.out.items c.push_line-2.new.out.items c.push_draw.new.out.items
    c.new-text.ensures.items c.in_ok-push_call.ensures e2 e3 c.in_ok-push_line.ensures.ok e5 c.in_ok-push_line-2.ensures.ok e7
