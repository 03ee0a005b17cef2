use Rattle.std.proofs.Common.{◌≡◌, ◌<◌, length, map, take, All}
use Rattle.house_model.specs.Register.{persons}
use Rattle.house_model.specs.Seeds.{drawn_cluster}
use Rattle.cluster_draw.specs.Placings.{name_of, names_of}
use Rattle.cluster_draw.proofs.placings.drawn.Given as goal

abbrev pub invariant-loop-rank : goal.invariant-loop-rank
invariant-loop-rank l = record {
  known : All (λ placing. placing.person < length (persons l.book)) l.placings.items;
  named : names_of l.book l.placings.items ≡ take l.rank (map (λ key. key.1) l.keys.items);
  clusters : All (λ placing. placing.cluster ≡ drawn_cluster l.seed l.clusters l.book (name_of l.book placing)) l.placings.items;
  many : length l.placings.items ≡ l.rank;
}
