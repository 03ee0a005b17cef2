-- Two lists of lines, and what they come to for one person.
use Rattle.std.specs.Prelude.{◌≡◌}
use Rattle.house_base.specs.Text.{Text}
use Rattle.house_model.specs.Isolation.{without}
use Rattle.house_model.specs.Text.{Lines}
use Rattle.twin_check.specs.declared.half.Half.{Half}
use Rattle.twin_check.specs.declared.half.Half.TheVariants as half

-- two lists of lines are the same, once the review lines by the person of a name are taken out of both
abbrev pub Agree : Text → Lines → Lines → Type 0
Agree name a b = without name a ≡ without name b

-- Both are of one kind: chances are equal, each over the same denominator, and refusals have one reason; at which lines they
-- come may differ.
abbrev pub AreAlike : Half → Half → Type 0
AreAlike (half.Chances a d) (half.Chances b e) = (a ≡ b) × (d ≡ e)
AreAlike half.Unlisted half.Unlisted = Unit {0}
AreAlike (half.Refused m r) (half.Refused n q) = r ≡ q
AreAlike half.Short half.Short = Unit {0}
AreAlike a b = ⊥
