use Rattle.std.proofs.Common.{◌≡◌, ◌≤◌, ◌-◌, ◌++◌, length, drop, decimal, codes, ◌∙◌, ap, arith, rules, length-take, length-drop}
use Rattle.std.proofs.lemmas.Fmt.{length-decimal-le}
use Rattle.intake_desk.proofs.ToldLemmas.{drop-last, drop-written}
use Rattle.intake_desk.proofs.told.fill_told.Goals as goal

pub write_digits-digits-requires : goal.write_digits-digits-requires
write_digits-digits-requires c = search (rules, length-decimal-le 20)

pub overflow_sub-begin : goal.overflow_sub-begin
overflow_sub-begin c =
    let fits : length (decimal c.args.count) ≤ 20 = search (rules, length-decimal-le 20) in
    omega (arith, fits, c.write_digits-digits.ensures.start)

pub copy_from_slice-requires : goal.copy_from_slice-requires
copy_from_slice-requires c =
    let fits : length (decimal c.args.count) ≤ 20 = search (rules, length-decimal-le 20) in
    let w = c.write_digits-digits in
    omega (arith, fits, w.ensures.start, w.auto.buf, length-take (w.result - (w.result - 5)) (drop (w.result - 5) w.new.buf), length-drop (w.result - 5) w.new.buf)

pub returns-clause-line : goal.returns-clause-line
returns-clause-line c =
    let fits : length (decimal c.args.count) ≤ 20 = search (rules, length-decimal-le 20) in
    let w = c.write_digits-digits in
    let head : c.copy_from_slice.new.self ≡ codes "kept " = search rules in
    drop-written w.new.buf c.copy_from_slice.new.self w.result 5 (omega (arith, fits, w.ensures.start)) (omega (arith, w.ensures.start, w.auto.buf))
    ∙ ap (λ l. l ++ drop w.result w.new.buf) head
    ∙ ap (λ l. codes "kept " ++ l) (w.ensures.written ∙ ap (λ l. decimal c.args.count ++ l) (drop-last c.args.buf.now 25 10 c.told-buf))
