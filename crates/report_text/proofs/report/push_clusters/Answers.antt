use Rattle.std.proofs.Common.{◌+◌, ◌++◌, take, get_or, sym, ap, ◌∙◌, append_assoc}
use Rattle.std.proofs.lemmas.List.{append-nil}
use Rattle.house_model.specs.Report.{line_of, cluster_words, cluster_lines}
use Rattle.report_text.proofs.RowLineLemmas.{no_row, cluster_lines-none, cluster_lines-more}
use Rattle.report_text.proofs.report.push_clusters.Goals as goal

pub loop-index-init : goal.loop-index-init
loop-index-init c = sym (ap (λ t. c.args.out.now.items ++ t) (cluster_lines-none c.args.den c.args.rows.now) ∙ append-nil c.args.out.now.items)

pub loop-index-preserved : goal.loop-index-preserved
loop-index-preserved c =
    let old = c.args.out.now.items in
    let rows = c.args.rows.now in
    let i = c.loop-index.index in
    let row = get_or rows i no_row in
    let line = line_of (cluster_words c.args.den (i + 1) row) in
    c.in_ok-push_cluster.ensures
    ∙ (ap (λ t. t ++ line) c.loop-index.invariant
    ∙ (append_assoc old (cluster_lines c.args.den (take i rows)) line
    ∙ ap (λ t. old ++ t) (sym (cluster_lines-more c.args.den rows i no_row c.loop-index-test.true))))
