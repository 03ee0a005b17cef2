use Rattle.std.specs.Prelude.{ℕ, Bool, ◌==◌, ◌&&◌, List, [], slice_get}
use Rattle.std.specs.List.{list_any}
use Rattle.std.specs.Option.{option_map_or}
use Rattle.house_base.specs.declared.plan.Person.{Person}
use Rattle.house_base.specs.declared.plan.Owner.{Owner}
use Rattle.house_base.specs.Text.{Text}
use Rattle.house_model.specs.Register.{pair_among}

-- the name of the applicant at a place
abbrev pub name_in : List Person → ℕ → Text
name_in people place = option_map_or (λ person. person.name) (slice_get people place) []

-- whether some person with this first place is barred from the applicant at another place
unfoldable pub is_barred : List (Text × Text) → List Person → List Owner → ℕ → ℕ → Bool
is_barred ps people owners r p = list_any (λ owner. owner.first == r
    && pair_among ps owner.name (name_in people p)) owners
