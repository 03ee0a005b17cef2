-- What is read of the two files, and what is refused.
use Rattle.std.proofs.Common.{◌≡◌, ◌≢◌, ℕ, Bool, true, false, cond, Option, None, Some, Ok, Err, map, drop, ◌∷◌, refl, sym, ap, ◌∙◌}
use Rattle.std.specs.Prelude.{option_map}
use Rattle.std.specs.Option.{option_map_or}
use Rattle.std.specs.Str.{IsUtf8, is_utf8}
use Rattle.std.proofs.lemmas.Str.{IsUtf8-from_is_utf8, is_utf8-from_IsUtf8}
use Rattle.toml.specs.Data.{Members}
use Rattle.toml.specs.Parse.{parse_document}
use Rattle.house_base.specs.Text.{Text}
use Rattle.command_text.specs.Printing.{command_line}
use Rattle.call_file.specs.declared.fault.OpenFault.{OpenFault}
use Rattle.call_file.specs.declared.fault.OpenFault.TheVariants as fault
use Rattle.call_file.specs.declared.key.Key.{Key}
use Rattle.call_file.specs.declared.records.RowFault.{RowFault}
use Rattle.call_file.specs.declared.records.RowFault.TheVariants as row_fault
use Rattle.call_file.specs.Keys.{Said, bad_key, document, said_in}
use Rattle.call_file.specs.Opening.{call_line, commands_behind, lines_in, read_call, said_or_refused}
use Rattle.call_file.specs.Records.{fault_at, rows_of}
use Rattle.call_file.specs.Register.{bad_record}

-- the call file is a document
pub call_read : (call : Text) (table : Members) → IsUtf8 call → parse_document call ≡ Some table → read_call call ≡ said_or_refused (Some table)
unfolding read_call document
call_read call table text parsed =
    ap said_or_refused (ap (λ b. cond b (parse_document call) None) (is_utf8-from_IsUtf8 call text) ∙ parsed)

-- it is none
pub call_refused : (call : Text) → (IsUtf8 call → parse_document call ≡ None) → read_call call ≡ Err fault.BadToml
unfolding read_call document
call_refused call refused = ap said_or_refused (by_text (is_utf8 call) refl) where
  by_text : (b : Bool) → is_utf8 call ≡ b → cond b (parse_document call) None ≡ None
  by_text true text = refused (IsUtf8-from_is_utf8 call text)
  by_text false text = refl

pub table_said : (table : Members) → bad_key table ≡ None → said_or_refused (Some table) ≡ Ok (said_in table)
table_said table fits = ap (λ o. option_map_or (λ k. Err (fault.BadKey k)) o (Ok (said_in table))) fits

pub table_refused : (table : Members) (k : Key) → bad_key table ≡ Some k → said_or_refused (Some table) ≡ Err (fault.BadKey k)
table_refused table k bad = ap (λ o. option_map_or (λ k. Err (fault.BadKey k)) o (Ok (said_in table))) bad

-- a record is refused
pub lines_refused : (said : Said) (register : Text) (refused : OpenFault) → option_map fault.BadRegister (bad_record said (rows_of register)) ≡ Some refused → lines_in said register ≡ Err refused
unfolding lines_in
lines_refused said register refused h = by_record (bad_record said (rows_of register)) h where
  by_record : (o : Option ℕ) → option_map fault.BadRegister o ≡ Some refused →
      option_map_or (λ number. Err (fault.BadRegister number)) o (Ok (call_line said ∷ map command_line (commands_behind said (drop 1 (rows_of register))))) ≡ Err refused
  by_record None h = absurd (let wrong : ⊥ = cc in wrong)
  by_record (Some number) h = let same : fault.BadRegister number ≡ refused = cc in ap Err same

-- none is
pub lines_given : (said : Said) (register : Text) → bad_record said (rows_of register) ≡ None →
    lines_in said register ≡ Ok (call_line said ∷ map command_line (commands_behind said (drop 1 (rows_of register))))
unfolding lines_in
lines_given said register h =
    ap (λ o. option_map_or (λ number. Err (fault.BadRegister number)) o (Ok (call_line said ∷ map command_line (commands_behind said (drop 1 (rows_of register)))))) h

-- a fault at the record of a number
pub refused_at : (number : ℕ) (kind : RowFault) (first : Option ℕ) → (kind ≡ row_fault.Off → first ≡ Some number) → (refused : OpenFault) → refused ≡ fault_at number kind →
    refused ≢ fault.Memory → option_map fault.BadRegister first ≡ Some refused
refused_at number row_fault.Off first off refused is real = ap (option_map fault.BadRegister) (off refl) ∙ ap Some (sym is)
refused_at number row_fault.Memory first off refused is real = absurd (real is)
