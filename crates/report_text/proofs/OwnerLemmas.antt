-- Persons of a setting.
use Rattle.std.proofs.Common.{◌≡◌, ℕ, ◌≤◌, ◌<◌, ap, ◌∙◌, arith, Some, slice_get, List}
use Rattle.std.specs.List.{Contains}
use Rattle.std.proofs.lemmas.List.Elements.{All-contains}
use Rattle.std.proofs.lemmas.Option.{slice_get-get_or, slice_get_within, get_or_from_slice_get}
use Rattle.house_base.specs.declared.limits.TheConstants.{MOST_OWN}
use Rattle.house_base.specs.declared.plan.Owner.{Owner}
use Rattle.house_base.specs.Setting.{Setting, IsSetting, size}
use Rattle.house_base.proofs.Settings.{end-StandInTurn}

-- what stands at an index is contained
pub Contains-at : {X : Type 0} (xs : List X) (i : ℕ) (x : X) → slice_get xs i ≡ Some x → Contains xs x
Contains-at xs i x at = (i, slice_get_within xs i x at, get_or_from_slice_get xs i x x at)

-- the first place of a person is a place
pub first_below : (s : Setting) (owner : Owner) → IsSetting s → Contains s.owners owner → owner.first < size s
first_below s owner setting (k, within, is) =
    let at = slice_get-get_or s.owners k owner within ∙ ap Some is in
    let ends = end-StandInTurn 0 s.owners (size s) k owner setting.in_turn at in
    let own = All-contains (λ o. (1 ≤ o.own) × (o.own ≤ MOST_OWN)) s.owners owner setting.own (k, within, is) in
    omega (arith, ends.1, own.0)
