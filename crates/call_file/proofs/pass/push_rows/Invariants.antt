use Rattle.std.proofs.Common.{◌≡◌, ◌+◌, ◌<◌, ◌^◌, ◌++◌, Some, length, map}
use Rattle.csv.specs.Reading.{expected_len}
use Rattle.command_text.specs.Printing.{command_line}
use Rattle.call_file.specs.Keys.{said_by}
use Rattle.call_file.specs.Pass.{due, either, found_in, given_in}
use Rattle.call_file.specs.Records.{IsReading, rows_left}
use Rattle.call_file.specs.Register.{bad_record_below_header, width}
use Rattle.call_file.proofs.pass.push_rows.Given as goal

-- the lines so far, with those of the records to come, are those of all records, and so are the parts found and the first
-- record that is off
abbrev pub invariant-records : goal.invariant-records
invariant-records l =
    record {
      reading : IsReading l.reader;
      width : expected_len l.reader ≡ Some (width l.settings.version);
      few : length (rows_left l.reader) + l.number < 2 ^ 64;
      formed : bad_record_below_header (said_by l.settings) l.number (rows_left l.reader) ≡ bad_record_below_header (said_by l.settings) 2 (rows_left l.fn.reader);
      found : either l.found (found_in l.settings.version (rows_left l.reader)) ≡ found_in l.settings.version (rows_left l.fn.reader);
      lines : l.opening ++ map command_line (due l.part l.settings.version (given_in l.given) (rows_left l.reader)) ≡ l.fn.opening ++ map command_line (due l.part l.settings.version (given_in l.initial.given) (rows_left l.fn.reader));
    }

abbrev pub decreases-records : goal.decreases-records
decreases-records l = length (rows_left l.reader)
