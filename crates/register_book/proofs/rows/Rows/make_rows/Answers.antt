use Rattle.std.proofs.Common.{ap, ◌∙◌, arith}
use Rattle.register_book.specs.Rows.{holds}
use Rattle.register_book.proofs.BitLemmas.{holds-append_zeros}
use Rattle.register_book.proofs.rows.Rows.make_rows.Goals as goal

pub returns-in_ok-resize-clause-bits : goal.returns-in_ok-resize-clause-bits
returns-in_ok-resize-clause-bits c = λ row column.
    holds-append_zeros c.self.inside.words.items c.resize.new.self.items _ _ c.in_ok-resize.ensures.items (omega arith) row column
    ∙ ap (λ words. holds words row column) c.self.view_is
