use Rattle.std.proofs.Common.{◌≡◌, ◌<◌, [], length, get_or, position, bytes_eq, sym, ap, ◌∙◌, arith}
use Rattle.std.proofs.lemmas.Bool.{false≢true}
use Rattle.name_index.proofs.IndexLemmas.{position_at, position-here}
use Rattle.name_index.proofs.index.NameIndex.stands_at.Goals as goal

pub returns-in-Some-clause-here : goal.returns-in-Some-clause-here
returns-in-Some-clause-here c = λ equal.
    let same : c.in-Some.held.now ≡ c.args.name.now = c.eq.ensures.same.0 equal in
    let held = c.in-Some.ensures.lookup.3 in
    let items = c.deref.ensures.value in
    let below : c.args.number < length c.self.inside.names.items = omega (arith, held.0, ap length items) in
    let at : get_or c.self.inside.names.items c.args.number [] ≡ c.args.name.now
    = ap (λ names. get_or names c.args.number []) (sym items) ∙ (sym (held.1 []) ∙ same) in
    ap (position (bytes_eq c.args.name.now)) (sym c.self.view_is)
    ∙ position_at c.self.inside.names.items c.args.number c.args.name.now c.self.invariant.0.differ below at

pub returns-in-Some-clause-elsewhere : goal.returns-in-Some-clause-elsewhere
returns-in-Some-clause-elsewhere c = λ other at.
    let held = c.in-Some.ensures.lookup.3 in
    let here : get_or c.self.inside.names.items c.args.number [] ≡ c.args.name.now
    = position-here c.self.inside.names.items c.args.name.now c.args.number (ap (position (bytes_eq c.args.name.now)) c.self.view_is ∙ at) in
    let same : c.in-Some.held.now ≡ c.args.name.now
    = held.1 [] ∙ (ap (λ names. get_or names c.args.number []) c.deref.ensures.value ∙ here) in
    false≢true (sym other ∙ c.eq.ensures.same.1 same)
