use Rattle.std.proofs.Common.{◌≡◌, ap, ◌∙◌, List, ℕ, Bor, length, take, drop, eqb, ◌-◌, ◌+◌, true, false, [], ◌∷◌}
use Rattle.std.specs.Prelude.{Option, None, Some, MatchOption, unwrap_or}
use Rattle.std.specs.Cmp.Lexicographic.{pointwise}
use Rattle.house_model.specs.Text.{without_return}
use Rattle.command_text.proofs.FeedLemmas.{with_return, with_no_return}
use Rattle.command_text.proofs.cutting.without_return.Goals as goal

trimmed : (stripped : Option (Bor (List ℕ))) (line : Bor (List ℕ)) →
    MatchOption stripped (pointwise eqb (drop (length line.now - 1) line.now) (13 ∷ []) ≡ false)
    (λ front. (pointwise eqb (drop (length line.now - 1) line.now) (13 ∷ []) ≡ true) × (front.now ≡ take (length line.now - 1) line.now) × (length front.now + 1 ≡ length line.now)) →
    (unwrap_or stripped line).now ≡ without_return line.now
trimmed None line h = with_no_return line.now h
trimmed (Some front) line h = h.1 ∙ with_return line.now h.0

pub returns : goal.returns
returns c = ap (λ line. line.now) c.unwrap_or.ensures ∙ trimmed c.strip_suffix.result c.args.line c.strip_suffix.ensures.cases
