use Rattle.std.proofs.Common.{◌≡◌, ◌%◌, ap, ◌∙◌, take}
use Rattle.std.specs.Int.{w128, from_be_bytes}
use Rattle.house_model.specs.Seeds.{seed_draw}
use Rattle.seat_lottery.proofs.seed.draw_of.Goals as goal

pub returns-clause-value : goal.returns-clause-value
unfolding seed_draw
returns-clause-value c =
    let first : c.copy_from_slice.new.self ≡ take 16 c.digest_of-digest.result = c.copy_from_slice.ensures.after in
    let number : c.from_be_bytes.result ≡ from_be_bytes w128 c.copy_from_slice.new.self = c.from_be_bytes.ensures in
    ap (λ n. n % c.from.result) number
    ∙ (ap (λ den. from_be_bytes w128 c.copy_from_slice.new.self % den) c.from.ensures
    ∙ ap (λ bytes. from_be_bytes w128 bytes % c.args.den) (first ∙ ap (take 16) c.digest_of-digest.ensures))
