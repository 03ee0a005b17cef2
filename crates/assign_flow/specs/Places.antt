use Rattle.house_base.specs.Rows.{has}
use Rattle.peer_selection.specs.Shortage.{Places}
use Rattle.assign_flow.specs.declared.places.PlaceSet.{PlaceSet}

-- the places that a set has
abbrev pub places_of : PlaceSet → Places
places_of s = has s.words 0
