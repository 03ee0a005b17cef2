use Rattle.std.proofs.Common.{◌≡◌, ℕ, true, false, List, Option, Some, Bor, sym, ◌∙◌, subst}
use Rattle.csv.specs.Reading.{ExplainsRead}
use Rattle.csv.specs.Records.{fields_of}
use Rattle.call_file.proofs.ReadingLemmas.{row_ends, row_read, row_uneven}
use Rattle.call_file.proofs.records.next_row.Goals as goal

pub returns-in-Ok-clause-reading : goal.returns-in-Ok-clause-reading
returns-in-Ok-clause-reading c = λ e.
    let found : c.in-Ok.found ≡ true = cc in
    let read = rw found at (c.in-Ok.ensures.reads c.requires.trims_nothing c.requires.ready) in
    (row_read c.args.reader.now c.read_byte_record.new.self (fields_of c.read_byte_record.new.row) c.requires read (c.in-Ok.ensures.ready c.requires.trims_nothing) c.in-Ok.ensures.flexible).0

pub returns-in-Ok-clause-found : goal.returns-in-Ok-clause-found
returns-in-Ok-clause-found c = λ e.
    let found : c.in-Ok.found ≡ true = cc in
    let read = rw found at (c.in-Ok.ensures.reads c.requires.trims_nothing c.requires.ready) in
    (row_read c.args.reader.now c.read_byte_record.new.self (fields_of c.read_byte_record.new.row) c.requires read (c.in-Ok.ensures.ready c.requires.trims_nothing) c.in-Ok.ensures.flexible).1

pub returns-in-Ok-clause-end : goal.returns-in-Ok-clause-end
returns-in-Ok-clause-end c = λ e.
    let none : c.in-Ok.found ≡ false = cc in
    let read = rw none at (c.in-Ok.ensures.reads c.requires.trims_nothing c.requires.ready) in
    row_ends c.args.reader.now c.read_byte_record.new.self (fields_of c.read_byte_record.new.row) c.requires read

pub returns-in-UnequalLengths-clause-uneven : goal.returns-in-UnequalLengths-clause-uneven
returns-in-UnequalLengths-clause-uneven c = λ _.
    let rem : Bor (List ℕ) → Option (List ℕ) = λ bytes. Some bytes.now in
    let kind = sym c.kind.ensures ∙ c.in-UnequalLengths.is in
    let why = subst (ExplainsRead rem c.args.reader.now c.read_byte_record.new.self false) kind (c.in-Err.ensures.why c.requires.ready) in
    row_uneven c.args.reader.now c.read_byte_record.new.self why.3 c.in-UnequalLengths.expected_len c.requires why.1 (λ e. why.2 (e ∙ why.5)) why.4
