use Rattle.house_core.proofs.StateLemmas.{not_so, some_once_begun}
use Rattle.house_core.proofs.state.State.round.Goals as goal

pub returns-then-not-looks_at_pairs-clause-some : goal.returns-then-not-looks_at_pairs-clause-some
returns-then-not-looks_at_pairs-clause-some c = some_once_begun c.args.self.now.book c.settled.result (not_so _ (λ h. let e = c.in-Ok.ensures.few.1 h in cc))

pub returns-then-pairs-eq0-clause-some : goal.returns-then-pairs-eq0-clause-some
returns-then-pairs-eq0-clause-some c = some_once_begun c.args.self.now.book c.computed.result (not_so _ (λ h. let e = c.in-Ok.ensures.few.1 h in cc))

pub returns-else-pairs-eq0-clause-some : goal.returns-else-pairs-eq0-clause-some
returns-else-pairs-eq0-clause-some c = some_once_begun c.args.self.now.book c.checked.result (not_so _ (λ h. let e = c.in-Ok.ensures.few.1 h in cc))
