use Rattle.std.proofs.Common.{◌≡◌, ◌<◌, length, take, All}
use Rattle.house_model.specs.Register.{persons, cluster_of}
use Rattle.cluster_draw.specs.Placings.{name_of, names_of}
use Rattle.cluster_draw.proofs.placings.placed.Given as goal

abbrev pub invariant-loop-person : goal.invariant-loop-person
invariant-loop-person l = record {
  known : All (λ placing. placing.person < length (persons l.book)) l.placings.items;
  named : names_of l.book l.placings.items ≡ take l.person (persons l.book);
  clusters : All (λ placing. placing.cluster ≡ cluster_of l.book (name_of l.book placing)) l.placings.items;
  many : length l.placings.items ≡ l.person;
}
