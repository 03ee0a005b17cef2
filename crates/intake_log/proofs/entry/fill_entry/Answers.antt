use Rattle.std.proofs.Common.{◌≡◌, length, refl, rules}
use Rattle.std.specs.Int.{to_be_bytes, w32}
use Rattle.intake_log.proofs.EntryLemmas.{filled}
use Rattle.intake_log.proofs.entry.fill_entry.Goals as goal

pub returns : goal.returns
returns c =
    let line = c.args.line.now in
    let head : c.copy_from_slice.new.self ≡ to_be_bytes w32 (length line) = search rules in
    let body : c.copy_from_slice-2.new.self ≡ line = search rules in
    rw (head, body) (filled (to_be_bytes w32 (length line)) line c.args.buf.now refl c.requires.room)
