use Rattle.std.proofs.Common.{[], ◌++◌, codes, ap, ◌∙◌}
use Rattle.sha2.specs.Sha256.{sha256}
use Rattle.house_model.specs.Seeds.{person_digest}
use Rattle.cluster_draw.proofs.placings.digest_of.Goals as goal

pub returns : goal.returns
unfolding person_digest
returns c =
    let seed = c.bytes.result.now in
    let name = c.bytes-2.result.now in
    let one = c.update.ensures [] c.new-hasher.ensures in
    let two = c.update-2.ensures (codes "partition:") one in
    let three = c.update-3.ensures (codes "partition:" ++ seed) two in
    let four = c.update-4.ensures ((codes "partition:" ++ seed) ++ codes ":") three in
    c.finalize.ensures (((codes "partition:" ++ seed) ++ codes ":") ++ name) four
    ∙ (ap (λ s. sha256 (codes "partition:" ++ s ++ codes ":" ++ name)) c.bytes.ensures.value
    ∙ ap (λ p. sha256 (codes "partition:" ++ c.args.seed.now ++ codes ":" ++ p)) c.bytes-2.ensures.value)
