use Rattle.std.proofs.Common.{◌≡◌, ◌++◌, [], refl, sym, ◌∙◌}
use Rattle.std.proofs.lemmas.List.{append-nil}
use Rattle.desk_merge.specs.Desk.{entry_line}
use Rattle.desk_merge.specs.Held.{item_at}
use Rattle.desk_merge.specs.Scan.{review_then}
use Rattle.desk_merge.proofs.ScanLemmas.{line_then, name_free, same_parts}
use Rattle.desk_merge.proofs.entries.Entries.key.Goals as goal

pub unreachable-requires : goal.unreachable-requires
unreachable-requires c =
    let e = item_at c.args.self.now c.args.index in
    let line : c.line.result.now ≡ entry_line e ++ [] = c.line.ensures.value ∙ sym (append-nil (entry_line e)) in
    c.in-None.ensures.none e.0.0 e.0.1 (review_then e.1.0 e.1.1 []) (name_free 32 e.0.0 refl c.line.ensures.formed.reviewer) (line ∙ line_then e [])

pub returns : goal.returns
returns c =
    let e = item_at c.args.self.now c.args.index in
    let line : c.line.result.now ≡ entry_line e ++ [] = c.line.ensures.value ∙ sym (append-nil (entry_line e)) in
    let parts = same_parts c.line.result.now c.in-Some.reviewer.now c.in-Some.proposal.now _ e [] c.in-Some.ensures.found c.in-Some.ensures.reviewer c.in-Some.ensures.proposal c.line.ensures.formed line in
    λ i. (parts.0 i, parts.1 i)
