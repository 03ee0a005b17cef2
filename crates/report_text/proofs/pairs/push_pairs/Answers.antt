use Rattle.std.proofs.Common.{◌≡◌, ◌+◌, ◌%◌, ◌≤◌, ◌++◌, sym, ap, ◌∙◌, append_assoc, append-nil, arith, slice_get, codes, ◌∷◌, []}
use Rattle.house_base.specs.Grid.{cell}
use Rattle.house_base.specs.Setting.{size}
use Rattle.house_base.specs.declared.limits.TheConstants.{MOST_APPLICANTS}
use Rattle.house_model.specs.Report.{line_of}
use Rattle.report_text.proofs.OwnerLemmas.{first_below}
use Rattle.report_text.proofs.PairLineLemmas.{lines_to, lines_to-none, lines_to-all, lines_to-takes, lines_to-skips, pair_line-read}
use Rattle.report_text.proofs.pairs.push_pairs.Goals as goal
use Rattle.report_text.proofs.pairs.push_pairs.Goals.{then-get+in_ok-push_pair, else-get}

pub loop-distance-init : goal.loop-distance-init
loop-distance-init c =
    sym (ap (λ t. c.args.out.now.items ++ t) (lines_to-none c.args.plan.now (cell c.args.pairs.now) c.args.owner.now) ∙ append-nil c.args.out.now.items)

pub overflow_add-place : goal.overflow_add-place
overflow_add-place c =
    let few : size c.args.plan.now ≤ MOST_APPLICANTS = c.count-count.ensures.setting.few in
    omega (arith, few, first_below c.args.plan.now c.args.owner.now c.count-count.ensures.setting c.requires.person)

pub overflow_add-place-in-loop-distance : goal.overflow_add-place-in-loop-distance
overflow_add-place-in-loop-distance c =
    let few : size c.args.plan.now ≤ MOST_APPLICANTS = c.count-count.ensures.setting.few in
    omega (arith, few, first_below c.args.plan.now c.args.owner.now c.count-count.ensures.setting c.requires.person)

pub get-requires-clause-row_below : goal.get-requires-clause-row_below
get-requires-clause-row_below c =
    omega (arith, c.requires.side, first_below c.args.plan.now c.args.owner.now c.count-count.ensures.setting c.requires.person)

pub loop-distance-preserved : goal.loop-distance-preserved
loop-distance-preserved c =
    let s = c.args.plan.now in
    let pairs = cell c.args.pairs.now in
    let owner = c.args.owner.now in
    let d = c.loop-distance.distance in
    let old = c.args.out.now.items in
    let p = (owner.first + 1 + d) % size s in
    let p_is : (owner.first + 1 + d) % c.count-count.result ≡ p = ap (λ n. (owner.first + 1 + d) % n) c.count-count.ensures.value in
    let held_is : c.get.result ≡ pairs owner.first p = c.get.ensures ∙ ap (pairs owner.first) p_is in
    elim c.if-get.branch [
      | then-get+in_ok-push_pair w ↦
          ap (λ v. v.items) w.out-is
          ∙ w.in_ok-push_pair.ensures
          ∙ ap (λ t. t ++ line_of (codes "pair" ∷ owner.name ∷ w.person.result.name ∷ [])) c.loop-distance.invariant
          ∙ append_assoc old (lines_to s pairs owner d) (line_of (codes "pair" ∷ owner.name ∷ w.person.result.name ∷ []))
          ∙ ap (λ t. old ++ (lines_to s pairs owner d ++ t)) (pair_line-read s owner p w.person.result (sym (ap (slice_get s.people) p_is) ∙ w.person.ensures))
          ∙ ap (λ t. old ++ t) (sym (lines_to-takes s pairs owner d (sym held_is ∙ w.if-get.true)))
      | else-get w ↦
          ap (λ v. v.items) w.out-is ∙ c.loop-distance.invariant
          ∙ ap (λ t. old ++ t) (sym (lines_to-skips s pairs owner d (sym held_is ∙ w.if-get.false)))
    ]

pub returns : goal.returns
returns c =
    let n : c.loop-distance.distance ≡ size c.args.plan.now = omega (arith, c.loop-distance.auto.distance-end, c.count-count.ensures.value) in
    c.loop-distance.invariant
    ∙ ap (λ d. c.args.out.now.items ++ lines_to c.args.plan.now (cell c.args.pairs.now) c.args.owner.now d) n
    ∙ ap (λ t. c.args.out.now.items ++ t) (lines_to-all c.args.plan.now (cell c.args.pairs.now) c.args.owner.now)
