use Rattle.std.proofs.Common.{refl, ap, ◌∙◌}
use Rattle.std.proofs.lemmas.Bool.{false≢true}
use Rattle.house_base.specs.Name.{is_name}
use Rattle.desk_merge.specs.Scan.{review_then}
use Rattle.desk_merge.proofs.ScanLemmas.{line_found, line_then, name_free, same_parts}
use Rattle.desk_merge.proofs.scan.first_entry.Goals as goal

pub returns-in_default-clause-none : goal.returns-in_default-clause-none
returns-in_default-clause-none c =
    λ e rest formed same.
    c.in_default.ensures.none e.0.0 e.0.1 (review_then e.1.0 e.1.1 rest) (name_free 32 e.0.0 refl formed.reviewer) (same ∙ line_then e rest)

pub returns-in_default-read-clause-none : goal.returns-in_default-read-clause-none
returns-in_default-read-clause-none c =
    λ e rest formed same.
    let parts = same_parts c.args.text.now c.in-Some.reviewer.now c.in-Some.proposal.now c.in-Some.rest.now e rest c.in-Some.ensures.found c.in-Some.ensures.reviewer c.in-Some.ensures.proposal formed same in
    false≢true (c.in_default-read.ensures.form.1 (ap is_name parts.0 ∙ formed.reviewer))

pub returns-in_default-read-2-clause-none : goal.returns-in_default-read-2-clause-none
returns-in_default-read-2-clause-none c =
    λ e rest formed same.
    let parts = same_parts c.args.text.now c.in-Some.reviewer.now c.in-Some.proposal.now c.in-Some.rest.now e rest c.in-Some.ensures.found c.in-Some.ensures.reviewer c.in-Some.ensures.proposal formed same in
    false≢true (c.in_default-read-2.ensures.form.1 (ap is_name parts.1 ∙ formed.proposal))

pub returns-in_default-first_review-clause-none : goal.returns-in_default-first_review-clause-none
returns-in_default-first_review-clause-none c =
    λ e rest formed same.
    let parts = same_parts c.args.text.now c.in-Some.reviewer.now c.in-Some.proposal.now c.in-Some.rest.now e rest c.in-Some.ensures.found c.in-Some.ensures.reviewer c.in-Some.ensures.proposal formed same in
    c.in_default-first_review.ensures.none e.1.0 e.1.1 rest formed.revision formed.points parts.2

pub returns-clause-found : goal.returns-clause-found
returns-clause-found c =
    line_found c.args.text.now c.in-Some.reviewer.now c.in-Some.proposal.now c.in-Some.rest.now _ c.in-Some-first_review.rest.now
    c.in-Some.ensures.found c.in-Some-read.ensures.value c.in-Some-read-2.ensures.value c.in-Some-first_review.ensures.found
