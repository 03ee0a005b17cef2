use Rattle.std.proofs.Common.{ap, ◌∙◌}
use Rattle.serde_json.specs.Written.{has_float}
use Rattle.audit_chain.proofs.ChainLemmas.{no_float_in_report, text_of_ascii}
use Rattle.audit_chain.proofs.text.push_report.Goals as goal

pub unwrap-text-requires : goal.unwrap-text-requires
unwrap-text-requires c = text_of_ascii c.args.text.now c.from_utf8.result c.requires c.from_utf8.ensures.cases

pub push_row-requires : goal.push_row-requires
push_row-requires c = ap has_float c.in_ok-row.ensures ∙ no_float_in_report c.unwrap-text.result.now
