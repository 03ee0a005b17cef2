use Rattle.std.proofs.Common.{[], ◌∷◌, ◌++◌, refl, ◌∙◌}
use Rattle.std.specs.Prelude.{decimal}
use Rattle.desk_merge.specs.Scan.{review_then}
use Rattle.desk_merge.proofs.ScanLemmas.{behind_revision, line_then, name_free, points_before_feed, same_parts, whole_line}
use Rattle.desk_merge.proofs.scan.key_and_points.Goals as goal

pub returns-in_default-clause-none : goal.returns-in_default-clause-none
returns-in_default-clause-none c =
    λ e formed is.
    c.in_default.ensures.none e.0.0 e.0.1 (review_then e.1.0 e.1.1 []) (name_free 32 e.0.0 refl formed.reviewer) (whole_line c.args.line.now e is ∙ line_then e [])

pub returns-in_default-cut_at-clause-none : goal.returns-in_default-cut_at-clause-none
returns-in_default-cut_at-clause-none c =
    λ e formed is.
    let parts = same_parts c.args.line.now c.in-Some.reviewer.now c.in-Some.proposal.now c.in-Some.rest.now e [] c.in-Some.ensures.found c.in-Some.ensures.reviewer c.in-Some.ensures.proposal formed (whole_line c.args.line.now e is) in
    c.in_default-cut_at.ensures.none (decimal e.1.0) (decimal e.1.1 ++ 10 ∷ []) parts.2

pub returns-in_default-cut_at-2-clause-none : goal.returns-in_default-cut_at-2-clause-none
returns-in_default-cut_at-2-clause-none c =
    λ e formed is.
    let parts = same_parts c.args.line.now c.in-Some.reviewer.now c.in-Some.proposal.now c.in-Some.rest.now e [] c.in-Some.ensures.found c.in-Some.ensures.reviewer c.in-Some.ensures.proposal formed (whole_line c.args.line.now e is) in
    c.in_default-cut_at-2.ensures.none (decimal e.1.1) []
    (behind_revision c.in-Some.rest.now c.in-Some-cut_at._revision.now c.in-Some-cut_at.rest.now e formed parts.2 c.in-Some-cut_at.ensures.found c.in-Some-cut_at.ensures.free)

pub returns-clause-found : goal.returns-clause-found
returns-clause-found c =
    λ e formed is.
    let parts = same_parts c.args.line.now c.in-Some.reviewer.now c.in-Some.proposal.now c.in-Some.rest.now e [] c.in-Some.ensures.found c.in-Some.ensures.reviewer c.in-Some.ensures.proposal formed (whole_line c.args.line.now e is) in
    let behind = behind_revision c.in-Some.rest.now c.in-Some-cut_at._revision.now c.in-Some-cut_at.rest.now e formed parts.2 c.in-Some-cut_at.ensures.found c.in-Some-cut_at.ensures.free in
    (parts.0, parts.1, points_before_feed c.in-Some-cut_at.rest.now c.in-Some-cut_at-2.points.now c.in-Some-cut_at-2._behind.now e formed behind c.in-Some-cut_at-2.ensures.found c.in-Some-cut_at-2.ensures.free)
