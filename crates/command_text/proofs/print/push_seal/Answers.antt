use Rattle.std.proofs.Common.{◌≡◌, ap, ◌∙◌}
use Rattle.hex.specs.Hex.{encode_lower}
use Rattle.command_text.proofs.print.push_seal.Goals as goal

pub returns-clause-ok : goal.returns-clause-ok
returns-clause-ok c =
    let digits : c.as_bytes.result.now ≡ encode_lower c.args.digest.now =
    c.as_bytes.ensures.value ∙ c.in_ok-digits.ensures ∙ ap encode_lower c.as_slice.ensures in
    rw digits at c.push_line.ensures.ok
