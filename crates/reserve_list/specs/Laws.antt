-- What the laws of withdrawals say.
use Rattle.std.specs.Prelude.{◌≡◌, ℕ, ◌<◌, ◌↔◌, ◌++◌, ◌∷◌, [], Contains, List, true, codes, decimal, flat_map, if◌then◌else◌}
use Rattle.house_base.specs.Setting.{Setting, cluster_at, name_at, number_at, size}
use Rattle.house_base.specs.Text.{Text, among}
use Rattle.peer_selection.specs.Counting.{numbers_below}
use Rattle.peer_selection.specs.Profile.{Profile, denominator}
use Rattle.house_model.specs.Report.{line_of, over, place_of_number}
use Rattle.reserve_list.specs.Board.{BoardParts, chance_on, empty_on, holds_on, is_gone}
use Rattle.reserve_list.specs.Reserve.{Withdrawn, chance_after, empty_after, holds_after}

-- the places of those that have withdrawn on a board
abbrev pub places_gone : Setting → BoardParts → Withdrawn
places_gone s b p = is_gone b (number_at s p)

-- the places of those that have these names
abbrev pub places_named : Setting → List Text → Withdrawn
places_named s names p = among names (name_at s p)

-- who has withdrawn by one test has by another
abbrev pub MoreHaveGone : Profile → Withdrawn → Withdrawn → Type 0
MoreHaveGone f gone more = (q : ℕ) → q < size f.setting → gone q ≡ true → more q ≡ true

-- in the cluster of a place the same have withdrawn by two tests
abbrev pub AgreeBeside : Profile → ℕ → Withdrawn → Withdrawn → Type 0
AgreeBeside f p gone other =
    (q : ℕ) → q < size f.setting → cluster_at f.setting q ≡ cluster_at f.setting p → gone q ≡ other q

-- two lists with the same members
abbrev pub HaveSameMembers : List Text → List Text → Type 0
HaveSameMembers names others = (name : Text) → Contains names name ↔ Contains others name

-- a board says at each register number what the mechanism does at its place, for those that have withdrawn there
pub record IsOfMechanism (f : Profile) (v : ℕ) (gone : Withdrawn) (b : BoardParts) : Type 0 where
  pub holds : (i : ℕ) → i < size f.setting → holds_on b i ≡ holds_after f gone (place_of_number f.setting i) v
  pub chance : (i : ℕ) → i < size f.setting → chance_on b i ≡ chance_after f gone (place_of_number f.setting i)
  pub empty : empty_on b ≡ empty_after f gone v

-- how the applicant at a place stands in the end
abbrev pub final_word_after : Profile → ℕ → Withdrawn → ℕ → Text
final_word_after f v gone p = if gone p then codes "gone" else if holds_after f gone p v then codes "yes" else codes "no"

-- the words on it: its name, its chance, and how it stands
abbrev pub final_words_after : Profile → ℕ → Withdrawn → ℕ → List Text
final_words_after f v gone p = codes "final" ∷ name_at f.setting p ∷ codes "chance"
    ∷ over (chance_after f gone p) (denominator f.setting) ∷ final_word_after f v gone p ∷ []

-- the text of a board by the mechanism: the applicants in register order, and the seats that nobody holds
abbrev pub text_after : Profile → ℕ → Withdrawn → Text
text_after f v gone =
    flat_map (λ i. line_of (final_words_after f v gone (place_of_number f.setting i))) (numbers_below (size f.setting))
    ++ line_of (codes "empty" ∷ decimal (empty_after f gone v) ∷ [])
