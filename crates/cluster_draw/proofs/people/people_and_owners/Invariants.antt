use Rattle.std.proofs.Common.{◌≡◌, ◌≤◌, ◌*◌, length, take}
use Rattle.house_base.specs.declared.limits.TheConstants.{MOST_OWN}
use Rattle.house_model.specs.Register.{owners_from}
use Rattle.cluster_draw.specs.Placings.{names_of, applicants_in}
use Rattle.cluster_draw.proofs.people.people_and_owners.Given as goal

abbrev pub invariant-loop-index : goal.invariant-loop-index
invariant-loop-index l = record {
  people : l.people.items ≡ applicants_in l.book (take l.index l.placings);
  owners : l.owners.items ≡ owners_from l.book 0 (names_of l.book (take l.index l.placings));
  short : length l.people.items ≤ MOST_OWN * l.index;
}
