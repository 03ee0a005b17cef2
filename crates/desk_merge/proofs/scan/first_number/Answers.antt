use Rattle.std.proofs.Common.{◌++◌, ◌∷◌, sym, ap, ◌∙◌, arith}
use Rattle.house_base.proofs.Digits.{decimal-number_up_to}
use Rattle.command_text.proofs.NumberLemmas.{number_at_most}
use Rattle.desk_merge.proofs.ScanLemmas.{not_printed}
use Rattle.desk_merge.proofs.scan.first_number.Goals as goal

pub returns-in_default-read_number-clause-none : goal.returns-in_default-read_number-clause-none
returns-in_default-read_number-clause-none c =
    λ n rest small same.
    not_printed c.args.byte c.args.most n c.in-Some.word.now c.in-Some.rest.now rest c.requires (omega (arith, c.ranges.most.fits)) c.in-Some.ensures.free (sym c.in_default-read_number.ensures) small
    (sym c.in-Some.ensures.found ∙ same)

pub returns-clause-found : goal.returns-clause-found
returns-clause-found c =
    c.in-Some.ensures.found
    ∙ ap (λ word. word ++ c.args.byte ∷ c.in-Some.rest.now) (decimal-number_up_to c.args.most c.in-Some.word.now c.in-Some-read_number.number (omega (arith, c.ranges.most.fits)) (sym c.in-Some-read_number.ensures))

pub returns-clause-most : goal.returns-clause-most
returns-clause-most c = number_at_most c.args.most c.in-Some-read_number.number c.in-Some.word.now (sym c.in-Some-read_number.ensures)
