use Rattle.std.proofs.Common.{◌+◌, ◌*◌, true, ◌&&◌, ◌||◌, not, eqb, sym, ap, ◌∙◌, arith}
use Rattle.std.specs.Int.{bit_at}
use Rattle.std.proofs.lemmas.Bool.{ne_eqb}
use Rattle.house_base.specs.declared.rows.TheConstants.{WORD_BITS}
use Rattle.house_base.specs.Grid.{cell}
use Rattle.house_base.specs.Setting.{cluster_at}
use Rattle.house_base.proofs.Settings.{cluster_at-read}
use Rattle.first_assign.proofs.MemberLemmas.{cluster-range}
use Rattle.first_assign.proofs.demand.allowed_word.Goals as goal

pub word-cluster-requires-clause-row_below : goal.word-cluster-requires-clause-row_below
word-cluster-requires-clause-row_below c =
    let range = cluster-range c.args.plan.now c.args.reviewer c.person.result c.requires.setting c.person.ensures in
    omega (arith, range.1, c.requires.len)

pub returns-clause-bits : goal.returns-clause-bits
returns-clause-bits c = λ i below inside.
    let s = c.args.plan.now in
    let r = c.args.reviewer in
    let p = c.args.at * WORD_BITS + i in
    let k = c.person.result.cluster in
    let range = cluster-range s r c.person.result c.requires.setting c.person.ensures in
    let in_cluster = eqb (bit_at c.word-cluster.result i) 1 in
    let barred = eqb (bit_at c.word.result i) 1 in
    c.without.ensures i below
    ∙ (ap (λ b. b && not in_cluster && not barred) (c.word-everyone.ensures i below ∙ c.requires.members.before 0 p inside)
    ∙ (ap (λ b. true && not b && not barred)
    (c.word-cluster.ensures i below
    ∙ (c.requires.members.before k p inside
    ∙ (ap (λ b. b || eqb k (cluster_at s p)) (ne_eqb k 0 (λ e. omega (arith, e, range.0)))
    ∙ ap (λ m. eqb m (cluster_at s p)) (sym (cluster_at-read s r c.person.result c.person.ensures)))))
    ∙ ap (λ b. true && not (eqb (cluster_at s r) (cluster_at s p)) && not b)
    (c.word.ensures.bits i below (omega (arith, inside, c.barred.ensures.side)) ∙ ap (λ g. cell g r p) c.barred.ensures.value)))
