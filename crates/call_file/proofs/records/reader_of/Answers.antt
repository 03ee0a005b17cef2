use Rattle.std.proofs.Common.{◌+◌, length, ap, ◌∙◌}
use Rattle.csv.specs.Reading.{default_config, records_from, strip_bom}
use Rattle.call_file.specs.Records.{rows_from, rows_left, rows_of}
use Rattle.call_file.proofs.records.reader_of.Goals as goal

pub returns-clause-all : goal.returns-clause-all
unfolding rows_left rows_of
returns-clause-all c =
    let text = strip_bom c.args.register.now in
    ap (rows_from c.from_reader.result.state) c.from_reader.ensures.source
    ∙ ap (λ s. records_from default_config (length text + 1) s text) c.from_reader.ensures.state
