use Rattle.std.proofs.Common.{◌≡◌, ◌++◌, ap, ◌∙◌, append_assoc, arith, sym}
use Rattle.house_model.specs.Report.{line_of}
use Rattle.reserve_list.specs.Board.{count_of}
use Rattle.reserve_list.specs.Leaving.{final_words}
use Rattle.reserve_list.proofs.TextLemmas.{lines-all, lines-more, lines-none, lines_below}
use Rattle.reserve_list.proofs.text.push_all.Goals as goal

pub loop-number-init : goal.loop-number-init
loop-number-init c = lines-none c.args.board.now c.args.out.now.items

pub loop-number-preserved : goal.loop-number-preserved
loop-number-preserved c =
    let b = c.args.board.now in
    let n = c.loop-number.number in
    c.in_ok-push_final.ensures
    ∙ ap (λ t. t ++ line_of (final_words b n)) c.loop-number.invariant
    ∙ append_assoc c.args.out.now.items (lines_below b n) (line_of (final_words b n))
    ∙ ap (λ t. c.args.out.now.items ++ t) (sym (lines-more b n))

pub returns : goal.returns
returns c =
    let b = c.args.board.now in
    let n : c.loop-number.number ≡ count_of b.outcome = omega (arith, c.count-number-end.ensures.value) in
    c.loop-number.invariant ∙ ap (λ k. c.args.out.now.items ++ lines_below b k) n ∙ ap (λ t. c.args.out.now.items ++ t) (lines-all b)
