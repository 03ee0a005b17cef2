use Rattle.std.proofs.Common.{◌≡◌, ◌∷◌, codes, map, take}
use Rattle.house_model.specs.Report.{over}
use Rattle.line_text.specs.Written.{written}
use Rattle.twin_check.proofs.text.push_chances.Given as goal

-- the words so far are the first two and the chances so far
abbrev pub invariant-loop-chance : goal.invariant-loop-chance
invariant-loop-chance l =
    map written l.words.items ≡ l.side ∷ codes "chance" ∷ map (λ x. over x l.den) (take l.chance-index l.chances)
