-- What a run of lines for the report comes to for one person.
use Rattle.std.specs.Prelude.{ℕ, ◌-◌, ◌++◌, List, length, filter, map, replicate, if◌then◌else◌}
use Rattle.std.specs.Str.{bytes_eq}
use Rattle.house_base.specs.Text.{Text, among}
use Rattle.house_base.specs.declared.limits.TheConstants.{MOST_OWN}
use Rattle.peer_selection.specs.Counting.{numbers_below}
use Rattle.peer_selection.specs.Lottery.{chance}
use Rattle.peer_selection.specs.Profile.{denominator}
use Rattle.house_model.specs.declared.goal.Goal.TheVariants as goal
use Rattle.house_model.specs.Ending.{Ended}
use Rattle.house_model.specs.Register.{persons, person_of}
use Rattle.house_model.specs.Report.{place_of_number}
use Rattle.house_model.specs.Reviews.{profile}
use Rattle.house_model.specs.Runs.{end_of}
use Rattle.house_model.specs.Said.{register, setting}
use Rattle.house_model.specs.Text.{Lines}
use Rattle.twin_check.specs.declared.half.Chances.{Chances}
use Rattle.twin_check.specs.declared.half.Half.{Half}
use Rattle.twin_check.specs.declared.half.Half.TheVariants as half

-- chances in the room that there is for those of one person
unfoldable pub chances_of : List ℕ → Chances
chances_of xs = record { count = length xs; list = xs ++ replicate (MOST_OWN - length xs) 0 }

-- the register numbers of a person's applicants, in register order
unfoldable pub own_numbers : Text → Lines → List ℕ
own_numbers name lines =
    filter (λ i. bytes_eq (person_of (register lines) i) name) (numbers_below (length (register lines).applicants))

-- their chances
unfoldable pub own_chances : Text → Lines → List ℕ
own_chances name lines =
    map (λ i. chance (profile lines) (place_of_number (setting lines) i)) (own_numbers name lines)

-- what lines that are done come to for the person of a name: the chances of its applicants, where there is such a person
unfoldable pub done_half : Text → Lines → Half
done_half name lines =
    if among (persons (register lines)) name
    then half.Chances (chances_of (own_chances name lines)) (denominator (setting lines)) else half.Unlisted

-- what lines that end so come to for it
abbrev pub half_at : Ended → Text → Lines → Half
half_at Ended.Done name lines = done_half name lines
half_at Ended.Settled name lines = done_half name lines
half_at (Ended.Refused line reason) name lines = half.Refused line reason
half_at Ended.Short name lines = half.Short

-- what a run of lines for the report comes to for the person of a name
unfoldable pub half_of : Text → Lines → Half
half_of name lines = half_at (end_of goal.Run lines) name lines
