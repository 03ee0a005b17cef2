-- What is read of a desk file so far.
use Rattle.std.proofs.Common.{◌≡◌, ℕ, ◌+◌, ◌-◌, ◌<◌, ◌≤◌, List, [], ◌∷◌, ◌++◌, length, take, sym, ap, ◌∙◌, subst, append_assoc, arith, length-append}
use Rattle.std.specs.FinMap.{empty, entries, len, len-entries}
use Rattle.std.specs.List.{join_with_byte}
use Rattle.std.proofs.lemmas.List.{append-nil}
use Rattle.std.proofs.lemmas.List.Elements.{All-nil, All-push}
use Rattle.std.proofs.Math.Seq.{take-append_seam}
use Rattle.house_base.specs.Text.{Text}
use Rattle.house_model.specs.Report.{line_of}
use Rattle.desk_merge.specs.Desk.{AreItems, CanFollow, IsFaultAt, IsItem, desk_text, entry_line, entry_words}
use Rattle.desk_merge.specs.Joined.{Item, Joined}
use Rattle.desk_merge.proofs.HeldLemmas.{desk_text-push, entries-empty}
use Rattle.desk_merge.proofs.OrderLemmas.{sorted_entries}

-- bytes, of which these are left behind the lines of a map
pub record IsReadTo (bytes rest : Text) (m : Joined) : Type 0 where
  pub bytes_are : bytes ≡ desk_text (entries m) ++ rest
  pub items : AreItems (entries m)

pub read_none : (bytes : Text) (m : Joined) → m ≡ empty → IsReadTo bytes bytes m
unfolding desk_text
read_none bytes m is = record {
  bytes_are = ap (λ es. desk_text es ++ bytes) (sym (entries-empty m is));
  items = subst AreItems (sym (entries-empty m is)) (All-nil IsItem);
}

pub read_more : (bytes rest behind : Text) (m after : Joined) (e : Item) → IsReadTo bytes rest m → rest ≡ entry_line e ++ behind → IsItem e → entries after ≡ entries m ++ e ∷ [] → IsReadTo bytes behind after
read_more bytes rest behind m after e so_far rest_is formed is = record {
  bytes_are =
      so_far.bytes_are
      ∙ ap (λ t. desk_text (entries m) ++ t) rest_is
      ∙ sym (append_assoc (desk_text (entries m)) (entry_line e) behind)
      ∙ ap (λ t. t ++ behind) (sym (desk_text-push (entries m) e) ∙ ap desk_text (sym is));
  items = subst AreItems (sym is) (All-push IsItem (entries m) e so_far.items formed);
}

pub read_all : (bytes rest : Text) (m : Joined) → IsReadTo bytes rest m → length rest ≡ 0 → bytes ≡ desk_text (entries m)
read_all bytes [] m so_far none = so_far.bytes_are ∙ append-nil (desk_text (entries m))
read_all bytes (b ∷ rest) m so_far none = absurd (omega arith)

pub fault_here : (bytes rest : Text) (m : Joined) (line : ℕ) → IsReadTo bytes rest m → 0 < length rest → line ≡ len m + 1 →
    ((e : Item) (behind : Text) → IsItem e → CanFollow (entries m) e → rest ≡ entry_line e ++ behind → ⊥) → IsFaultAt bytes line
fault_here bytes rest m line so_far some line_is fault = record {
  before = entries m;
  behind = rest;
  bytes_are = so_far.bytes_are;
  items = so_far.items;
  rise = sorted_entries m;
  line_is = line_is ∙ ap (λ n. n + 1) (len-entries m);
  goes_on = some;
  fault = fault;
}

length_lines : (es : List Item) → length es ≤ length (desk_text es)
unfolding desk_text entry_line line_of
length_lines [] = omega arith
length_lines (e ∷ es) =
    omega (arith, length_lines es, length-append (join_with_byte 32 (entry_words e) ++ 10 ∷ []) (desk_text es), length-append (join_with_byte 32 (entry_words e)) (10 ∷ []))

-- there are more bytes than lines
pub few_lines : (bytes rest : Text) (m : Joined) → IsReadTo bytes rest m → len m + length rest ≤ length bytes
few_lines bytes rest m so_far = omega (arith, ap length so_far.bytes_are, length-append (desk_text (entries m)) rest, length_lines (entries m), len-entries m)

pub line_cut : (rest behind : Text) (e : Item) → rest ≡ entry_line e ++ behind → take (length rest - length behind) rest ≡ entry_line e
line_cut rest behind e is =
    let size : length rest - length behind ≡ length (entry_line e) = omega (arith, ap length is, length-append (entry_line e) behind) in
    ap (λ n. take n rest) size ∙ ap (take (length (entry_line e))) is ∙ take-append_seam (entry_line e) behind

-- a line has a byte
pub behind_shorter : (rest behind : Text) (e : Item) → rest ≡ entry_line e ++ behind → length behind < length rest
unfolding entry_line line_of
behind_shorter rest behind e is =
    omega (arith, ap length is, length-append (join_with_byte 32 (entry_words e) ++ 10 ∷ []) behind, length-append (join_with_byte 32 (entry_words e)) (10 ∷ []))
