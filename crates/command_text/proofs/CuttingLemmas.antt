-- A text that comes in pieces, and its lines.
use Rattle.std.proofs.Common.{◌≡◌, ℕ, ◌+◌, Bool, true, false, cond, eqb, List, [], ◌∷◌, ◌++◌, length, take, refl, sym, ap, ◌∙◌, arith, append_assoc, Some, None}
use Rattle.std.specs.Prelude.{position}
use Rattle.std.specs.Option.{option_to_list}
use Rattle.std.proofs.lemmas.List.{append-nil, take_all}
use Rattle.std.proofs.lemmas.List.Elements.{All-append, All-nil}
use Rattle.std.proofs.Math.Dec.{eqb-suc-zero}
use Rattle.house_base.specs.Text.{Text}
use Rattle.house_model.specs.Text.{Lines, lines, is_empty, without_return}
use Rattle.house_model.specs.Heard.{whole_lines}
use Rattle.command_text.specs.Held.{HasNoFeed}
use Rattle.command_text.specs.Cutting.{Cutting, Feeding, Feeds, EndsLine, GoesOn, IsWholeLine, AreFed, fresh, last_after, used_bytes, ended_lines, ended_line, rest_of}
use Rattle.command_text.proofs.FeedLemmas.{is_feed, no_feed_before, front_with_feed, length_before, lines_at_feed, lines_of_part, whole_lines_at_feed, whole_lines_of_part}

-- a feed that ends a line
pub ends_line : (before : Cutting) (piece : Text) (at : ℕ) (old begun line : Text) → position is_feed piece ≡ Some at → before.begun ≡ old →
    begun ≡ [] → line ≡ old ++ take at piece → EndsLine before piece (at + 1) (record { begun = begun; ended = Some line })
ends_line before piece at old begun line found same none ended = record {
  front = take at piece;
  front_has_no_feed = no_feed_before piece at found;
  used_is = ap (λ n. n + 1) (sym (length_before piece at found));
  front_is = front_with_feed piece at found;
  after_is = rw (none, ended, same) refl;
}

pub nothing_begun : (begun items : Text) → begun ≡ items → eqb (length items) 0 ≡ true → begun ≡ []
nothing_begun begun [] same none = same
nothing_begun begun (x ∷ xs) same none = cc (eqb-suc-zero (length xs))

-- a line that stands whole in a piece
pub whole_line_is : (before : Cutting) (piece line : Text) (at : ℕ) → before.begun ≡ [] → position is_feed piece ≡ Some at → line ≡ without_return (take at piece) →
    IsWholeLine before piece (at + 1) line
whole_line_is before piece line at none found is =
    (record { begun = []; ended = Some (take at piece) }, ends_line before piece at [] [] (take at piece) found none refl refl, ap Some (sym is), sym none)

-- A reading of a text into lines: a line that ends comes first, and a text without a line feed has these lines.
record IsReading (read last : Text → Lines) : Type 0 where
  at_feed : (front more : Text) → HasNoFeed front → read (front ++ 10 ∷ more) ≡ without_return front ∷ read more
  at_last : (text : Text) → HasNoFeed text → last text ≡ read text

pub no_feed_grows : (begun more : Text) → HasNoFeed begun → HasNoFeed more → HasNoFeed (begun ++ more)
no_feed_grows begun more = All-append (λ byte. is_feed byte ≡ false) begun more

-- the lines that feeds end and what they leave, which are to be the reading of all bytes
abbrev AreRead : (Text → Lines) → (Text → Lines) → Cutting → List Feeding → Type 0
AreRead read last before fs = ended_lines fs ++ last (last_after before fs).begun ≡ read (before.begun ++ used_bytes fs)

at_end : (begun front piece used : Text) → piece ≡ front ++ 10 ∷ [] → begun ++ (piece ++ used) ≡ (begun ++ front) ++ 10 ∷ used
at_end begun front piece used h = rw h (simp append_assoc)

one_ended : (read last : Text → Lines) → IsReading read last → (before : Cutting) (f : Feeding) (fs : List Feeding) → HasNoFeed before.begun →
    EndsLine before f.piece f.used f.after → (HasNoFeed f.after.begun → AreRead read last f.after fs) → AreRead read last before (f ∷ fs)
one_ended read last r before f fs none e rest =
    let begun : f.after.begun ≡ [] = ap (λ c. c.begun) e.after_is in
    let line : option_to_list (ended_line f.after) ≡ without_return (before.begun ++ e.front) ∷ [] = ap (λ c. option_to_list (ended_line c)) e.after_is in
    let more : ended_lines fs ++ last (last_after f.after fs).begun ≡ read (used_bytes fs) =
    rest (rw begun (All-nil (λ byte. is_feed byte ≡ false))) ∙ ap (λ t. read (t ++ used_bytes fs)) begun in
    let whole : read (before.begun ++ (take f.used f.piece ++ used_bytes fs)) ≡ without_return (before.begun ++ e.front) ∷ read (used_bytes fs) =
    ap read (at_end before.begun e.front (take f.used f.piece) (used_bytes fs) e.front_is)
    ∙ r.at_feed (before.begun ++ e.front) (used_bytes fs) (no_feed_grows before.begun e.front none e.front_has_no_feed) in
    ap (λ first. (first ++ ended_lines fs) ++ last (last_after f.after fs).begun) line
    ∙ ap (λ all. without_return (before.begun ++ e.front) ∷ all) more
    ∙ sym whole

one_went_on : (read last : Text → Lines) → (before : Cutting) (f : Feeding) (fs : List Feeding) → HasNoFeed before.begun →
    GoesOn before f.piece f.used f.after → (HasNoFeed f.after.begun → AreRead read last f.after fs) → AreRead read last before (f ∷ fs)
one_went_on read last before f fs none g rest =
    let begun : f.after.begun ≡ before.begun ++ f.piece = ap (λ c. c.begun) g.after_is in
    let line : option_to_list (ended_line f.after) ≡ [] = ap (λ c. option_to_list (ended_line c)) g.after_is in
    let used : take f.used f.piece ≡ f.piece = take_all f.used f.piece (omega (arith, g.used_is)) in
    ap (λ first. (first ++ ended_lines fs) ++ last (last_after f.after fs).begun) line
    ∙ rest (rw begun (no_feed_grows before.begun f.piece none g.has_no_feed))
    ∙ ap read (ap (λ t. t ++ used_bytes fs) begun ∙ append_assoc before.begun f.piece (used_bytes fs) ∙ ap (λ t. before.begun ++ (t ++ used_bytes fs)) (sym used))

one_more : (read last : Text → Lines) → IsReading read last → (whole : Bool) (before : Cutting) (f : Feeding) (fs : List Feeding) → HasNoFeed before.begun →
    Feeds before f.piece f.used whole f.after → (HasNoFeed f.after.begun → AreRead read last f.after fs) → AreRead read last before (f ∷ fs)
one_more read last r true before f fs none fed rest = one_ended read last r before f fs none fed rest
one_more read last r false before f fs none fed rest = one_went_on read last before f fs none fed rest

feeds_are_read : (read last : Text → Lines) → IsReading read last → (before : Cutting) (fs : List Feeding) → HasNoFeed before.begun → AreFed before fs →
    AreRead read last before fs
feeds_are_read read last r before [] none fed = r.at_last before.begun none ∙ ap read (sym (append-nil before.begun))
feeds_are_read read last r before (f ∷ fs) none fed = one_more read last r f.whole before f fs none fed.0 (λ after. feeds_are_read read last r f.after fs after fed.1)

-- what is left of a text without a line feed is its line, if it has a byte
last_line : Text → Lines
last_line text = option_to_list (cond (is_empty text) None (Some (without_return text)))

-- the lines that feeds end and what they leave are the lines of all bytes
pub feeds_give_lines : (fs : List Feeding) → AreFed fresh fs → ended_lines fs ++ option_to_list (rest_of (last_after fresh fs)) ≡ lines (used_bytes fs)
unfolding last_line
feeds_give_lines fs fed =
    feeds_are_read lines last_line (record { at_feed = lines_at_feed; at_last = λ text none. sym (lines_of_part text none) }) fresh fs (All-nil (λ byte. is_feed byte ≡ false)) fed

-- the lines that feeds end are the lines of all bytes that end with their line feed
pub feeds_give_whole_lines : (fs : List Feeding) → AreFed fresh fs → ended_lines fs ≡ whole_lines (used_bytes fs)
feeds_give_whole_lines fs fed =
    sym (append-nil (ended_lines fs))
    ∙ feeds_are_read whole_lines (λ text. []) (record { at_feed = whole_lines_at_feed; at_last = λ text none. sym (whole_lines_of_part text none) }) fresh fs (All-nil (λ byte. is_feed byte ≡ false)) fed
