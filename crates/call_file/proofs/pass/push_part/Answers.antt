use Rattle.std.proofs.Common.{length, ap, sym, ◌∙◌, arith}
use Rattle.call_file.proofs.CountLemmas.{rows_few}
use Rattle.call_file.proofs.pass.push_part.Goals as goal

pub push_rows-requires-clause-few : goal.push_rows-requires-clause-few
push_rows-requires-clause-few c =
    let all = ap length (sym c.reader_of-reader.ensures.all ∙ c.in-Ok.ensures.found) in
    let few = rows_few c.args.register.now in
    omega (arith, all, few)
