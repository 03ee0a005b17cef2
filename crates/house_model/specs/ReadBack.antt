use Rattle.std.specs.Prelude.{◌≡◌, List, All, IsTrue, map, filter, flat_map, not, ◌&&◌}
use Rattle.house_base.specs.Name.{is_name}
use Rattle.house_base.specs.Setting.{Setting, name_at}
use Rattle.house_base.specs.Text.{Text}
use Rattle.peer_selection.specs.Profile.{Pairs, proposals_of}
use Rattle.house_model.specs.declared.verb.Verb.TheVariants as verb
use Rattle.house_model.specs.Said.{those, setting, run_pairs}
use Rattle.house_model.specs.Text.{Lines, lines}
use Rattle.house_model.specs.Texts.{pairs_text}
use Rattle.house_model.specs.Verbs.{is_house, commands}

-- What the text of an assignment says where its lines stand in an opening.

-- the names of persons and applicants are of their form
pub record HasFormedNames (s : Setting) : Type 0 where
  pub persons : All (λ owner. IsTrue (is_name owner.name)) s.owners
  pub applicants : All (λ person. IsTrue (is_name person.name)) s.people

-- the pairs of an assignment by their names: person by person in place order, each one's proposals by rising distance
unfoldable pub named_pairs : Setting → Pairs → List (Text × Text)
named_pairs s pairs =
    flat_map (λ owner. map (λ p. (owner.name, name_at s p)) (proposals_of s pairs owner.first)) s.owners

-- the lines of the house but for the pairs
abbrev pub rest_of : Lines → Lines
rest_of all = filter (λ line. is_house line && not (commands verb.Pair line)) all

-- Other lines say the same as an opening, but for their pairs: these are the lines of the text of its assignment.
pub record AreReadBack (opening others : Lines) : Type 0 where
  pub same_rest : rest_of others ≡ rest_of opening
  pub pairs : those verb.Pair others ≡ lines (pairs_text (setting opening) (run_pairs opening))
