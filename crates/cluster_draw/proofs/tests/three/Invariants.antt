use Rattle.std.proofs.Common.{◌≡◌, []}
use Rattle.cluster_draw.proofs.tests.three.Given as goal

abbrev pub invariant-loop-word : goal.invariant-loop-word
invariant-loop-word l = l.book.placed ≡ []
