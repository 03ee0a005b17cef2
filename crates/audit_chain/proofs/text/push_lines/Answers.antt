use Rattle.std.proofs.Common.{◌≡◌, ◌+◌, ◌<◌, ◌++◌, [], get_or, length, refl, sym, ap, ap₂, ◌∙◌, arith, append-nil, append_assoc}
use Rattle.std.proofs.lemmas.Option.{get_or_from_slice_get}
use Rattle.audit_chain.specs.Chain.{digest_behind, link, row_text}
use Rattle.audit_chain.proofs.ChainLemmas.{digest_behind_more, digest_behind_none, line_rows_more, row_from_parts}
use Rattle.audit_chain.proofs.text.push_lines.Goals as goal

pub loop-index-init : goal.loop-index-init
loop-index-init c = record {
  last = c.count-index-end.ensures;
  within = omega arith;
  digest = digest_behind_none c.args.lines.now;
  rows = sym (append-nil c.args.audit.now.items);
}

pub loop-index-preserved : goal.loop-index-preserved
loop-index-preserved c =
    let i = c.loop-index.index in
    let below : i < length c.args.lines.now = omega (arith, c.loop-index-test.true, c.count-index-end.ensures) in
    let line : c.line-line.result.now ≡ get_or c.args.lines.now i [] = sym (get_or_from_slice_get c.args.lines.now i c.line-line.result.now [] c.line-line.ensures.value) in
    let digest : c.link-digest.result ≡ digest_behind c.args.lines.now (i + 1) =
    c.link-digest.ensures ∙ ap₂ link c.loop-index.invariant.digest line ∙ digest_behind_more c.args.lines.now i below in
    record {
      last = c.count-index-end.ensures;
      within = omega (arith, c.loop-index-test.true);
      digest = digest;
      rows =
          c.in_ok-push_line_row.ensures
          ∙ ap₂ (λ t u. t ++ row_text u) c.loop-index.invariant.rows (row_from_parts c.args.version c.args.lines.now c.args.marks.now i _ _ _ refl digest line)
          ∙ append_assoc c.args.audit.now.items _ _
          ∙ ap (λ t. c.args.audit.now.items ++ t) (sym (line_rows_more c.args.version c.args.lines.now c.args.marks.now i));
    }
