use Rattle.std.proofs.Common.{◌≡◌, ◌+◌, ◌++◌, take, ap, sym, ◌∙◌, arith}
use Rattle.std.proofs.lemmas.List.{take_all}
use Rattle.review_desk.specs.Desk.{desk_profile}
use Rattle.slip_check.specs.Slip.{places_in, reviews_one_of}
use Rattle.slip_check.specs.Written.{ballot_line}
use Rattle.slip_check.proofs.PlaceLemmas.{contains_at, first_below}
use Rattle.slip_check.proofs.WriteLemmas.{ballot_lines-all, line_skipped, line_taken, lines_of, take_next}
use Rattle.slip_check.proofs.write_ballot.push_ballots.Goals as goal
use Rattle.slip_check.proofs.write_ballot.push_ballots.Goals.{then-reviews_one_of+in_ok-push_ballot, else-reviews_one_of}

pub reviews_one_of-requires-clause-reviewer : goal.reviews_one_of-requires-clause-reviewer
reviews_one_of-requires-clause-reviewer c =
    let s = c.args.plan.now in
    first_below s c.owner-owner.result c.requires.setting (contains_at s.owners c.loop-index.index c.owner-owner.result c.owner-owner.ensures)

pub push_ballot-requires-clause-person : goal.push_ballot-requires-clause-person
push_ballot-requires-clause-person c = contains_at c.args.plan.now.owners c.loop-index.index c.owner-owner.result c.owner-owner.ensures

pub loop-index-preserved : goal.loop-index-preserved
unfolding reviews_one_of
loop-index-preserved c =
    let s = c.args.plan.now in
    let f = desk_profile s c.args.desk.now in
    let i = c.loop-index.index in
    let owner = c.owner-owner.result in
    let test = reviews_one_of f (places_in s c.args.cluster) in
    let old = c.args.out.now.items in
    let now = c.loop-index.out.items in
    let next = take_next s.owners i owner c.owner-owner.ensures in
    elim c.if-reviews_one_of.branch [
      | then-reviews_one_of+in_ok-push_ballot w ↦
          line_taken (ballot_line f) test (take i s.owners) (take (i + 1) s.owners) owner old now c.if-reviews_one_of.out.items c.loop-index.invariant next
          (sym c.reviews_one_of.ensures ∙ w.if-reviews_one_of.true) (ap (λ v. v.items) w.out-is ∙ w.in_ok-push_ballot.ensures)
      | else-reviews_one_of w ↦
          ap (λ v. v.items) w.out-is
          ∙ line_skipped (ballot_line f) test (take i s.owners) (take (i + 1) s.owners) owner old now c.loop-index.invariant next (sym c.reviews_one_of.ensures ∙ w.if-reviews_one_of.false)
    ]

pub returns : goal.returns
returns c =
    let s = c.args.plan.now in
    let f = desk_profile s c.args.desk.now in
    let all : take c.loop-index.index s.owners ≡ s.owners = take_all c.loop-index.index s.owners (omega (arith, c.loop-index-test.false, c.owners-index-end.ensures.value)) in
    c.loop-index.invariant
    ∙ ap (λ os. c.args.out.now.items ++ lines_of (ballot_line f) (reviews_one_of f (places_in s c.args.cluster)) os) all
    ∙ ap (λ t. c.args.out.now.items ++ t) (ballot_lines-all f c.args.cluster)
