use Rattle.std.proofs.Common.{◌≡◌, true, sym, ◌∙◌}
use Rattle.house_model.specs.Verbs.{is_hex64}
use Rattle.command_text.proofs.DigestLemmas.{hex64_decodes, not_err}
use Rattle.command_text.proofs.command.read_digest.Goals as goal

pub returns-clause-err : goal.returns-clause-err
returns-clause-err c =
    let formed : is_hex64 c.args.word.now ≡ true = sym c.is_hex64.ensures ∙ c.if-not-is_hex64.false in
    not_err _ _ (c.map_err.ensures.variant ∙ rw c.from_hex.ensures (hex64_decodes c.args.word.now formed))
