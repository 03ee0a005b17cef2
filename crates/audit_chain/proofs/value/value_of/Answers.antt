use Rattle.std.proofs.Common.{sym}
use Rattle.serde_json.specs.View.{view}
use Rattle.audit_chain.proofs.FormLemmas.{value_read, value_refused}
use Rattle.audit_chain.proofs.value.value_of.Goals as goal

pub returns-in-Ok : goal.returns-in-Ok
returns-in-Ok c = sym (value_read c.args.row.now (view c.in-Ok.value) c.in-Ok.ensures.ok.0 c.in-Ok.ensures.ok.1)

pub returns-in_default : goal.returns-in_default
returns-in_default c = sym (value_refused c.args.row.now (c.in-Err.ensures.err (λ memory. c.in_default.not-Memory (c.classify.ensures.memory.1 memory))))
