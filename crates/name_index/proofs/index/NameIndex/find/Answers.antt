use Rattle.std.proofs.Common.{◌≡◌, ℕ, suc, None, Some, position, bytes_eq, is_some, sym, ap, ◌∙◌, arith}
use Rattle.std.proofs.lemmas.Option.{same_Some, none-some}
use Rattle.name_index.specs.Hints.{hint_for}
use Rattle.name_index.proofs.IndexLemmas.{is_some-position, position-without_hint}
use Rattle.name_index.proofs.index.NameIndex.find.Goals as goal

pub returns-in_default-clause-number : goal.returns-in_default-clause-number
returns-in_default-clause-number c =
    sym (ap (position (bytes_eq c.args.name.now)) (sym c.self.view_is)
    ∙ position-without_hint c.self.inside.names.items c.self.inside.hints c.args.name.now c.self.invariant.1
    (λ number e. none-some (suc number) (sym c.in_default.is ∙ (c.at.ensures ∙ e))))

pub returns-in_default-clause-known : goal.returns-in_default-clause-known
returns-in_default-clause-known c =
    ap is_some (returns-in_default-clause-number c) ∙ is_some-position c.args.self.now c.args.name.now

pub returns-then-hint-eq0-clause-number : goal.returns-then-hint-eq0-clause-number
returns-then-hint-eq0-clause-number c =
    sym (ap (position (bytes_eq c.args.name.now)) (sym c.self.view_is)
    ∙ position-without_hint c.self.inside.names.items c.self.inside.hints c.args.name.now c.self.invariant.1
    (λ number e. omega (arith, c.if-hint-eq0.true, same_Some c.in-Some.hint (suc number) (sym c.in-Some.is ∙ (c.at.ensures ∙ e)))))

pub returns-then-hint-eq0-clause-known : goal.returns-then-hint-eq0-clause-known
returns-then-hint-eq0-clause-known c =
    ap is_some (returns-then-hint-eq0-clause-number c) ∙ is_some-position c.args.self.now c.args.name.now

pub returns-then-stands_at-clause-known : goal.returns-then-stands_at-clause-known
returns-then-stands_at-clause-known c =
    sym (ap is_some (c.stands_at.ensures.here c.if-stands_at.true)) ∙ is_some-position c.args.self.now c.args.name.now

pub returns-else-stands_at-clause-known : goal.returns-else-stands_at-clause-known
returns-else-stands_at-clause-known c = ap is_some c.searched.ensures ∙ is_some-position c.args.self.now c.args.name.now
