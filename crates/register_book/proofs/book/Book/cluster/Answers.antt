use Rattle.std.proofs.Common.{◌<◌, ap, ◌∙◌, sym, length, ltb, arith}
use Rattle.std.proofs.lemmas.Bool.{lt-ltb}
use Rattle.register_book.proofs.SeenLemmas.{persons_seen, cluster_kept, placed_kept}
use Rattle.register_book.proofs.book.Book.cluster.Goals as goal

pub cluster-requires : goal.cluster-requires
cluster-requires c = omega (arith, c.requires, ap length (persons_seen _ _ _ _ _ c.self.view_is), c.self.invariant.places_kept.long)

pub returns-in-0-clause-placed : goal.returns-in-0-clause-placed
returns-in-0-clause-placed c =
    sym (placed_kept _ _ _ _ _ c.self.view_is c.self.invariant c.args.person c.cluster.result c.requires c.cluster.ensures ∙ ap (ltb 0) c.in-0.is)

pub returns-in_default-clause-placed : goal.returns-in_default-clause-placed
returns-in_default-clause-placed c =
    let some : 0 < c.cluster.result = omega arith in
    sym (placed_kept _ _ _ _ _ c.self.view_is c.self.invariant c.args.person c.cluster.result c.requires c.cluster.ensures ∙ lt-ltb 0 c.cluster.result some)

pub returns-in_default-clause-cluster : goal.returns-in_default-clause-cluster
returns-in_default-clause-cluster c =
    cluster_kept _ _ _ _ _ c.self.view_is c.self.invariant c.args.person c.cluster.result c.requires c.cluster.ensures
