use Rattle.std.proofs.Common.{◌≡◌, ℕ, sym}
use Rattle.house_base.specs.Setting.{IsOwned, cluster_at}
use Rattle.std.proofs.lemmas.List.Elements.{All-contains}
use Rattle.house_base.proofs.Settings.{other_cluster}
use Rattle.house_base.proofs.laws.reviewers_stand_outside.Goals as goal

pub returns-clause-other_cluster : goal.returns-clause-other_cluster
returns-clause-other_cluster c = other_cluster

pub returns-clause-none_of_its_own : goal.returns-clause-none_of_its_own
returns-clause-none_of_its_own c = λ s owner proposal setting contained owned allowed.
    other_cluster s owner.first proposal allowed (sym (All-contains (λ o. (place : ℕ) → IsOwned o place → cluster_at s place ≡ cluster_at s o.first) s.owners owner setting.one_cluster contained proposal owned))
