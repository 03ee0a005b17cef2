use Rattle.std.proofs.Common.{◌≡◌, ℕ, ◌<◌, Some, length, slice_index}
use Rattle.std.specs.List.{slice_get}
use Rattle.house_base.specs.Setting.{IsOwned}
use Rattle.house_base.specs.declared.limits.TheConstants.{MOST_APPLICANTS}
use Rattle.house_base.specs.declared.plan.Owner.{Owner}
use Rattle.house_base.proofs.tables.table_of_owners.Given as goal

-- the places of the persons so far have their entries
abbrev pub invariant-loop-index : goal.invariant-loop-index
invariant-loop-index l = record {
  room : length l.table ≡ MOST_APPLICANTS;
  entries : (i place : ℕ) (owner : Owner) → i < l.index → slice_get l.owners i ≡ Some owner → IsOwned owner place → slice_index l.table place ≡ i;
}
