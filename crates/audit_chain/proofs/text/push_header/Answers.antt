use Rattle.std.proofs.Common.{ap, ◌∙◌}
use Rattle.serde_json.specs.Written.{has_float}
use Rattle.audit_chain.proofs.ChainLemmas.{no_float_in_header}
use Rattle.audit_chain.proofs.text.push_header.Goals as goal

pub push_row-requires : goal.push_row-requires
push_row-requires c = ap has_float c.in_ok-row.ensures ∙ no_float_in_header c.args.version
