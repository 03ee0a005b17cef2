-- What a row says, from what its value is.
use Rattle.std.proofs.Common.{sym, ◌≡◌, zero, suc, [], ◌∷◌, ◌++◌, arith, subst, Bool, true, false, cond, Some, None, refl}
use Rattle.std.specs.Prelude.{All, IsUtf8}
use Rattle.std.proofs.lemmas.List.Elements.{All-append}
use Rattle.hex.specs.Hex.{IsBytes}
use Rattle.command_text.specs.Held.{HasNoFeed}
use Rattle.house_model.specs.Text.{Lines}
use Rattle.audit_chain.specs.File.{IsLine}
use Rattle.std.specs.Str.{is_utf8}
use Rattle.std.proofs.lemmas.Str.{IsUtf8-from_is_utf8, is_utf8-from_IsUtf8}
use Rattle.serde_json.specs.Data.{Data}
use Rattle.serde_json.specs.Read.{read}
use Rattle.house_base.specs.Text.{Text}
use Rattle.audit_chain.specs.Form.{value_of}

-- a text that is read as a value
pub value_read : (row : Text) (value : Data) → IsUtf8 row → read row ≡ Some value → value_of row ≡ Some value
unfolding value_of
value_read row value text is = rw (is_utf8-from_IsUtf8 row text) is

-- a text that is refused
pub value_refused : (row : Text) → (IsUtf8 row → read row ≡ None) → value_of row ≡ None
unfolding value_of
value_refused row refused = go (is_utf8 row) (λ h. refused (IsUtf8-from_is_utf8 row h))
  where
    go : (b : Bool) → (b ≡ true → read row ≡ None) → cond b (read row) None ≡ None
    go true h = h refl
    go false h = refl

-- one more line
pub line_pushed : (lines more : Lines) (line : Text) → more ≡ lines ++ line ∷ [] → HasNoFeed line → IsBytes line → All IsLine lines → All IsLine more
line_pushed lines more line is none bytes each =
    subst (All IsLine) (sym is) (All-append IsLine lines (line ∷ []) each (one line (none, bytes)))
  where
    one : (line : Text) → IsLine line → All IsLine (line ∷ [])
    one line fits zero d below = fits
    one line fits (suc k) d below = absurd (omega (arith, below))
