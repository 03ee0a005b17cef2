use Rattle.std.proofs.Common.{ap, ◌∙◌, arith}
use Rattle.house_base.specs.Grid.{cell}
use Rattle.review_desk.specs.Desk.{Marks}
use Rattle.review_desk.specs.Line.{is_person, is_applicant}
use Rattle.review_desk.proofs.LineLemmas.{IsNamed, kind-unknown, kind-unassigned, kind-range, kind-kept, left-false, right-false, read-person, read-no_person, read-applicant, read-no_applicant, reviewer_of-read, proposal_of-read, points_in-read, named-known, named-pair, points-few, points-many, points-none}
use Rattle.review_desk.proofs.desk.Desk.find.Goals as goal

pub returns-in_default-clause-aside : goal.returns-in_default-clause-aside
returns-in_default-clause-aside c =
    let s = c.args.plan.now in
    let line = c.args.line.now in
    kind-unknown s (cell c.args.self.now.pairs) line
    (left-false (is_person s line.reviewer) (is_applicant s line.proposal) (read-no_person s line c.in_default.ensures))

pub returns-in_default-proposal_place-clause-aside : goal.returns-in_default-proposal_place-clause-aside
returns-in_default-proposal_place-clause-aside c =
    let s = c.args.plan.now in
    let line = c.args.line.now in
    let reviewer = read-person s c.args.self.now line c.in-Some.reviewer c.requires.set_up c.in-Some.ensures in
    kind-unknown s (cell c.args.self.now.pairs) line
    (right-false (is_person s line.reviewer) (is_applicant s line.proposal) reviewer.known
    (read-no_applicant s _ c.args.self.now line c.self.view_is c.requires.set_up c.in_default-proposal_place.ensures))

pub get-requires-clause-row_below : goal.get-requires-clause-row_below
get-requires-clause-row_below c =
    let reviewer = read-person c.args.plan.now c.args.self.now c.args.line.now c.in-Some.reviewer c.requires.set_up c.in-Some.ensures in
    omega (arith, reviewer.below, c.requires.set_up.side, ap (λ (m : Marks). m.pairs.side) c.self.view_is)

pub get-requires-clause-column_below : goal.get-requires-clause-column_below
get-requires-clause-column_below c =
    let proposal = read-applicant c.args.plan.now _ c.args.self.now c.args.line.now c.in-Some-proposal_place.proposal c.self.view_is c.requires.set_up c.in-Some-proposal_place.ensures in
    omega (arith, proposal.below, c.requires.set_up.side, ap (λ (m : Marks). m.pairs.side) c.self.view_is)

pub returns-then-not-get-clause-aside : goal.returns-then-not-get-clause-aside
returns-then-not-get-clause-aside c =
    let s = c.args.plan.now in
    let now = c.args.self.now in
    let line = c.args.line.now in
    let r = c.in-Some.reviewer in
    let p = c.in-Some-proposal_place.proposal in
    let named : IsNamed s line r p = record { reviewer = read-person s now line r c.requires.set_up c.in-Some.ensures; proposal = read-applicant s _ now line p c.self.view_is c.requires.set_up c.in-Some-proposal_place.ensures } in
    kind-unassigned s (cell now.pairs) line (named-known s line r p named) (named-pair s _ now line r p c.get.result named c.self.view_is c.get.ensures ∙ c.if-not-get.true)

pub returns-in-Some-points-clause-kept : goal.returns-in-Some-points-clause-kept
returns-in-Some-points-clause-kept c =
    let s = c.args.plan.now in
    let now = c.args.self.now in
    let line = c.args.line.now in
    let r = c.in-Some.reviewer in
    let p = c.in-Some-proposal_place.proposal in
    let named : IsNamed s line r p = record { reviewer = read-person s now line r c.requires.set_up c.in-Some.ensures; proposal = read-applicant s _ now line p c.self.view_is c.requires.set_up c.in-Some-proposal_place.ensures } in
    kind-kept s (cell now.pairs) line (named-known s line r p named) (named-pair s _ now line r p c.get.result named c.self.view_is c.get.ensures ∙ c.if-not-get.false)
    (points-few line c.in-Some-points.points c.in-Some-points.is c.if-points-le-MOST_POINTS.true)

pub returns-in-Some-points-clause-reviewer : goal.returns-in-Some-points-clause-reviewer
returns-in-Some-points-clause-reviewer c =
    reviewer_of-read c.args.plan.now c.args.line.now c.in-Some.reviewer
    (read-person c.args.plan.now c.args.self.now c.args.line.now c.in-Some.reviewer c.requires.set_up c.in-Some.ensures)

pub returns-in-Some-points-clause-proposal : goal.returns-in-Some-points-clause-proposal
returns-in-Some-points-clause-proposal c =
    proposal_of-read c.args.plan.now c.args.line.now c.in-Some-proposal_place.proposal
    (read-applicant c.args.plan.now _ c.args.self.now c.args.line.now c.in-Some-proposal_place.proposal c.self.view_is c.requires.set_up c.in-Some-proposal_place.ensures)

pub returns-in-Some-points-clause-points : goal.returns-in-Some-points-clause-points
returns-in-Some-points-clause-points c = points_in-read c.args.line.now c.in-Some-points.points c.in-Some-points.is

pub returns-in-Some-points-clause-reviewer_below : goal.returns-in-Some-points-clause-reviewer_below
returns-in-Some-points-clause-reviewer_below c =
    (read-person c.args.plan.now c.args.self.now c.args.line.now c.in-Some.reviewer c.requires.set_up c.in-Some.ensures).below

pub returns-in-Some-points-clause-proposal_below : goal.returns-in-Some-points-clause-proposal_below
returns-in-Some-points-clause-proposal_below c =
    (read-applicant c.args.plan.now _ c.args.self.now c.args.line.now c.in-Some-proposal_place.proposal c.self.view_is c.requires.set_up c.in-Some-proposal_place.ensures).below

pub returns-in_default-points-clause-aside : goal.returns-in_default-points-clause-aside
returns-in_default-points-clause-aside c =
    let s = c.args.plan.now in
    let now = c.args.self.now in
    let line = c.args.line.now in
    let r = c.in-Some.reviewer in
    let p = c.in-Some-proposal_place.proposal in
    let named : IsNamed s line r p = record { reviewer = read-person s now line r c.requires.set_up c.in-Some.ensures; proposal = read-applicant s _ now line p c.self.view_is c.requires.set_up c.in-Some-proposal_place.ensures } in
    kind-range s (cell now.pairs) line (named-known s line r p named) (named-pair s _ now line r p c.get.result named c.self.view_is c.get.ensures ∙ c.if-not-get.false)
    (points-many line c.in-Some-points.points c.in-Some-points.is c.if-points-le-MOST_POINTS.false)

pub returns-in_default-points-2-clause-aside : goal.returns-in_default-points-2-clause-aside
returns-in_default-points-2-clause-aside c =
    let s = c.args.plan.now in
    let now = c.args.self.now in
    let line = c.args.line.now in
    let r = c.in-Some.reviewer in
    let p = c.in-Some-proposal_place.proposal in
    let named : IsNamed s line r p = record { reviewer = read-person s now line r c.requires.set_up c.in-Some.ensures; proposal = read-applicant s _ now line p c.self.view_is c.requires.set_up c.in-Some-proposal_place.ensures } in
    kind-range s (cell now.pairs) line (named-known s line r p named) (named-pair s _ now line r p c.get.result named c.self.view_is c.get.ensures ∙ c.if-not-get.false)
    (points-none line c.in_default-points.is)
