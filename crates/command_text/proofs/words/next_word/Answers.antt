use Rattle.std.proofs.Common.{refl, sym, ◌∙◌}
use Rattle.command_text.proofs.WordLemmas.{word_before_gap, gap_at_once, last_word, no_word}
use Rattle.command_text.proofs.words.next_word.Goals as goal

pub returns-then-not-is_empty-clause-found : goal.returns-then-not-is_empty-clause-found
returns-then-not-is_empty-clause-found c =
    sym c.loop-word.invariant ∙ word_before_gap _ _ _ c.in-Some.ensures.found (c.in-Some.ensures.gap refl) (sym c.is_empty.ensures ∙ c.if-not-is_empty.true)

pub loop-word-preserved : goal.loop-word-preserved
loop-word-preserved c =
    sym (gap_at_once _ _ _ c.in-Some.ensures.found (c.in-Some.ensures.gap refl) (sym c.is_empty.ensures ∙ c.if-not-is_empty.false)) ∙ c.loop-word.invariant

pub returns-then-is_empty-clause-none : goal.returns-then-is_empty-clause-none
returns-then-is_empty-clause-none c =
    sym c.loop-word.invariant ∙ no_word _ c.in_default.ensures.none (sym c.is_empty-2.ensures ∙ c.if-is_empty.true)

pub returns-else-is_empty-clause-found : goal.returns-else-is_empty-clause-found
returns-else-is_empty-clause-found c =
    sym c.loop-word.invariant ∙ last_word _ c.in_default.ensures.none (sym c.is_empty-2.ensures ∙ c.if-is_empty.false)
