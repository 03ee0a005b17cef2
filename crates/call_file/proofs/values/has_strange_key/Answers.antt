use Rattle.std.proofs.Common.{◌≡◌, false, not, ◌||◌, string_bytes, sym, ap, ◌∙◌}
use Rattle.call_file.specs.Keys.{is_named}
use Rattle.call_file.proofs.KeyLemmas.{any_strange, strange_in_view}
use Rattle.call_file.proofs.values.has_strange_key.Goals as goal

pub returns-then-not-is_named : goal.returns-then-not-is_named
returns-then-not-is_named c =
    let strange : is_named (string_bytes c.in-Some.word.now) ≡ false = ap is_named (sym c.as_str.ensures.value) ∙ sym c.is_named.ensures ∙ c.if-not-is_named.true in
    sym (strange_in_view c.args.table.now.entries
    ∙ c.loop-word.invariant
    ∙ ap any_strange c.in-Some.ensures.steps
    ∙ ap (λ b. not b || any_strange c.next.new.self) strange)

pub returns : goal.returns
returns c = sym (strange_in_view c.args.table.now.entries ∙ c.loop-word.invariant ∙ ap any_strange c.in-None.ensures.steps.0)
