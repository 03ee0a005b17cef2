-- The text of a comparison.
use Rattle.std.specs.Prelude.{List, [], ◌∷◌, ◌++◌, codes, decimal, map, take, if◌then◌else◌}
use Rattle.house_base.specs.Answer.{reason_word}
use Rattle.house_base.specs.Text.{Text}
use Rattle.house_model.specs.Report.{line_of, over}
use Rattle.twin_check.specs.declared.half.Half.{Half}
use Rattle.twin_check.specs.declared.half.Half.TheVariants as half
use Rattle.twin_check.specs.declared.half.Twin.{Twin}

-- the words on what a run comes to for a person
abbrev pub half_words : Half → List Text
half_words (half.Chances own den) = codes "chance" ∷ map (λ x. over x den) (take own.count own.list)
half_words half.Unlisted = codes "unlisted" ∷ []
half_words (half.Refused line reason) = codes "refused" ∷ decimal line ∷ reason_word reason ∷ []
half_words half.Short = codes "short" ∷ []

-- the text of a comparison: a line for each file, and one on whether they agree
unfoldable pub twin_text : Twin → Text
twin_text t =
    line_of (codes "first" ∷ half_words t.first) ++ line_of (codes "second" ∷ half_words t.second)
    ++ line_of (codes "agree" ∷ (if t.agree then codes "yes" else codes "no") ∷ [])
