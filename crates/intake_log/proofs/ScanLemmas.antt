-- What the scan meets at a gate.
use Rattle.std.proofs.Common.{◌≡◌, ◌⊎◌, inl, inr, ⊎_elim, ℕ, zero, suc, ◌+◌, ◌≤◌, ◌<◌, get_or, ◌==◌, ◌&&◌, ◌||◌, not, nat_le, Bool, true, false, cond, List, [], ◌∷◌, ◌++◌, length, take, drop, refl, sym, ◌∙◌, ap, subst, arith, Option, Some, None, Decides, append_assoc, length-append, length-drop, take-append-drop, drop-drop}
use Rattle.std.proofs.lemmas.Bool.{not-true}
use Rattle.std.proofs.lemmas.Bool.Decides.{Decides-and, Decides-or, Decides-like, Decides-by_and, Decides-ltb, nat_tests}
use Rattle.std.proofs.lemmas.Slice.Eq.{bytes_eq-Decides}
use Rattle.std.proofs.lemmas.List.{take_at, drop_at, length-take}
use Rattle.std.proofs.lemmas.Nat.{from_be_bytes-to_be_bytes_4}
use Rattle.std.specs.List.{list_any}
use Rattle.std.specs.Int.{to_be_bytes, from_be_bytes, w32}
use Rattle.command_text.specs.Held.{HasNoFeed}
use Rattle.house_model.specs.declared.limits.TheConstants.{MOST_BYTES, MOST_LINES}
use Rattle.intake_log.specs.declared.limits.TheConstants.{MOST_LINE_BYTES}
use Rattle.intake_log.specs.Journal.{IsJournalLine, records_size}
use Rattle.intake_log.specs.Limits.{IsFull, text_size}
use Rattle.intake_log.specs.Scan.{Scanned, line_at_front, is_record, is_full, scan_behind}
use Rattle.intake_log.specs.Scan.Scanned.{Ended, OffForm, Over}

pub option_cases : (o : Option (List ℕ)) → (o ≡ None) ⊎ ((x : List ℕ) × (o ≡ Some x))
option_cases None = inl refl
option_cases (Some x) = inr (x, refl)

pub bool_cases : (b : Bool) → (b ≡ true) ⊎ (b ≡ false)
bool_cases true = inl refl
bool_cases false = inr refl

not-or : (a b : Bool) → not (a || b) ≡ (not a && not b)
not-or true b = refl
not-or false b = refl

pub no_feed-Decides : (line : List ℕ) → Decides (not (list_any (λ byte. byte == 10) line)) (HasNoFeed line)
no_feed-Decides line =
    Decides-by_and (λ byte. not (byte == 10)) (λ byte. (byte == 10) ≡ false) (λ l. not (list_any (λ byte. byte == 10) l))
    (λ byte. (not-true (byte == 10), λ e. ap not e)) refl (λ byte l. not-or (byte == 10) (list_any (λ byte. byte == 10) l)) line

-- what the test of a record tells
pub record IsRecord (size : ℕ) (bytes : List ℕ) : Type 0 where
  pub head : take 4 bytes ≡ to_be_bytes w32 size
  pub short : size ≤ MOST_LINE_BYTES
  pub there : size ≤ length (drop 4 bytes)
  pub no_feed : HasNoFeed (take size (drop 4 bytes))

nat_le-Decides : (a b : ℕ) → Decides (nat_le a b) (a ≤ b)
nat_le-Decides a b = grind (arith, nat_tests)

pub is_record-Decides : (size : ℕ) (bytes : List ℕ) → Decides (is_record size bytes) (IsRecord size bytes)
unfolding is_record
is_record-Decides size bytes =
    Decides-like _
    (λ p. record { head = p.0.0.0; short = p.0.0.1; there = p.0.1; no_feed = p.1 })
    (λ r. (((r.head, r.short), r.there), r.no_feed))
    (Decides-and _ _ (Decides-and _ _ (Decides-and _ _ (bytes_eq-Decides (take 4 bytes) (to_be_bytes w32 size)) (nat_le-Decides size MOST_LINE_BYTES)) (nat_le-Decides size (length (drop 4 bytes)))) (no_feed-Decides (take size (drop 4 bytes))))

pub is_full-Decides : (lines : List (List ℕ)) (line : List ℕ) → Decides (is_full lines line) (IsFull lines line)
unfolding is_full
is_full-Decides lines line = Decides-or _ _ (nat_le-Decides MOST_LINES (length lines)) (Decides-ltb MOST_BYTES (text_size lines + (length line + 1)))

if-some : (b : Bool) (x y : List ℕ) → cond b (Some x) None ≡ Some y → (b ≡ true) × (x ≡ y)
if-some true x y e = (refl, cc)
if-some false x y e = absurd (cc)

-- where there is a line, bytes are its length, the line and more
pub line_at_front-some : (bytes line : List ℕ) → line_at_front bytes ≡ Some line → IsJournalLine line × (bytes ≡ to_be_bytes w32 (length line) ++ line ++ drop (4 + length line) bytes)
unfolding line_at_front
line_at_front-some bytes line e =
    let size = from_be_bytes w32 (take 4 bytes) in
    let both = if-some (is_record size bytes) (take size (drop 4 bytes)) line e in
    let r = (is_record-Decides size bytes).0 both.0 in
    let n : length line ≡ size = sym (ap length both.1) ∙ omega (arith, r.there, length-take size (drop 4 bytes)) in (
      record {
        short = omega (arith, n, r.short);
        no_feed = subst HasNoFeed both.1 r.no_feed;
      },
      sym (take-append-drop 4 bytes)
          ∙ ap (λ l. l ++ drop 4 bytes) (r.head ∙ ap (to_be_bytes w32) (sym n))
          ∙ ap (λ l. to_be_bytes w32 (length line) ++ l) (sym (take-append-drop size (drop 4 bytes)))
          ∙ ap (λ l. to_be_bytes w32 (length line) ++ (l ++ drop size (drop 4 bytes))) both.1
          ∙ ap (λ l. to_be_bytes w32 (length line) ++ (line ++ l)) (ap (λ k. drop k (drop 4 bytes)) (sym n) ∙ drop-drop (length line) 4 bytes)
          ∙ sym (append_assoc (to_be_bytes w32 (length line)) line (drop (4 + length line) bytes)),
    )

-- a length, its line and more
pub line_at_front-is : (line more : List ℕ) → IsJournalLine line → line_at_front (to_be_bytes w32 (length line) ++ line ++ more) ≡ Some line
unfolding line_at_front
line_at_front-is line more good =
    let head = to_be_bytes w32 (length line) in
    let bytes = head ++ line ++ more in
    let front : take 4 bytes ≡ head = ap (take 4) (append_assoc head line more) ∙ take_at head (line ++ more) 4 refl in
    let rest : drop 4 bytes ≡ line ++ more = ap (drop 4) (append_assoc head line more) ∙ drop_at head (line ++ more) 4 refl in
    let size : from_be_bytes w32 (take 4 bytes) ≡ length line = ap (from_be_bytes w32) front ∙ from_be_bytes-to_be_bytes_4 (length line) (omega (arith, good.short)) in
    let there : take (length line) (drop 4 bytes) ≡ line = ap (take (length line)) rest ∙ take_at line more (length line) refl in
    let test : is_record (length line) bytes ≡ true = (is_record-Decides (length line) bytes).1 (record {
      head = front;
      short = good.short;
      there = omega (arith, ap length rest, length-append line more);
      no_feed = subst HasNoFeed (sym there) good.no_feed;
    }) in
    ap (λ n. cond (is_record n bytes) (Some (take n (drop 4 bytes))) None) size
    ∙ ap (λ b. cond b (Some (take (length line) (drop 4 bytes))) None) test
    ∙ ap Some there

-- where there is none, bytes are no such thing
pub line_at_front-none : (bytes line more : List ℕ) → line_at_front bytes ≡ None → IsJournalLine line → bytes ≡ to_be_bytes w32 (length line) ++ line ++ more → ⊥
line_at_front-none bytes line more none good is =
    let e : line_at_front bytes ≡ Some line = ap line_at_front is ∙ line_at_front-is line more good in
    absurd (cc)

-- the scan behind an open gate
abbrev behind-gate : ℕ → List (List ℕ) → List ℕ → Option (List ℕ) → Scanned
behind-gate fuel lines rest None = OffForm (records_size lines)
behind-gate fuel lines rest (Some line) = cond (is_full lines line) Over (scan_behind fuel (lines ++ line ∷ []) (drop (4 + length line) rest))

-- the scan, gate by gate
pub at-nothing : (fuel : ℕ) (lines : List (List ℕ)) → scan_behind fuel lines [] ≡ OffForm (records_size lines)
unfolding scan_behind
at-nothing zero lines = refl
at-nothing (suc fuel) lines = refl

pub at-zero : (lines : List (List ℕ)) (bytes : List ℕ) → scan_behind 0 lines bytes ≡ OffForm (records_size lines)
unfolding scan_behind
at-zero lines bytes = refl

pub at-closed : (fuel : ℕ) (lines : List (List ℕ)) (rest : List ℕ) → scan_behind (suc fuel) lines (0 ∷ rest) ≡ Ended lines
unfolding scan_behind
at-closed fuel lines rest = refl

pub at-no_record : (fuel : ℕ) (lines : List (List ℕ)) (gate : ℕ) (rest : List ℕ) → line_at_front rest ≡ None → scan_behind (suc fuel) lines (suc gate ∷ rest) ≡ OffForm (records_size lines)
unfolding scan_behind
at-no_record fuel lines gate rest none = ap (behind-gate fuel lines rest) none

pub at-over : (fuel : ℕ) (lines : List (List ℕ)) (gate : ℕ) (rest line : List ℕ) → line_at_front rest ≡ Some line → is_full lines line ≡ true → scan_behind (suc fuel) lines (suc gate ∷ rest) ≡ Over
unfolding scan_behind
at-over fuel lines gate rest line some full = ap (behind-gate fuel lines rest) some ∙ ap (λ b. cond b Over (scan_behind fuel (lines ++ line ∷ []) (drop (4 + length line) rest))) full

pub at-record : (fuel : ℕ) (lines : List (List ℕ)) (gate : ℕ) (rest line : List ℕ) → line_at_front rest ≡ Some line → is_full lines line ≡ false
    → scan_behind (suc fuel) lines (suc gate ∷ rest) ≡ scan_behind fuel (lines ++ line ∷ []) (drop (4 + length line) rest)
unfolding scan_behind
at-record fuel lines gate rest line some room = ap (behind-gate fuel lines rest) some ∙ ap (λ b. cond b Over (scan_behind fuel (lines ++ line ∷ []) (drop (4 + length line) rest))) room

-- fuel for each byte is enough
pub enough : (fuel more : ℕ) (lines : List (List ℕ)) (bytes : List ℕ) → length bytes ≤ fuel → length bytes ≤ more → scan_behind fuel lines bytes ≡ scan_behind more lines bytes
enough fuel more lines [] low other = at-nothing fuel lines ∙ sym (at-nothing more lines)
enough zero more lines (b ∷ bytes) low other = absurd (omega (arith, low))
enough (suc fuel) zero lines (b ∷ bytes) low other = absurd (omega (arith, other))
enough (suc fuel) (suc more) lines (zero ∷ bytes) low other = at-closed fuel lines bytes ∙ sym (at-closed more lines bytes)
enough (suc fuel) (suc more) lines (suc gate ∷ bytes) low other =
    ⊎_elim
    (λ none. at-no_record fuel lines gate bytes none ∙ sym (at-no_record more lines gate bytes none))
    (λ some. ⊎_elim
    (λ full. at-over fuel lines gate bytes some.0 some.1 full ∙ sym (at-over more lines gate bytes some.0 some.1 full))
    (λ room.
    at-record fuel lines gate bytes some.0 some.1 room
    ∙ enough fuel more (lines ++ some.0 ∷ []) (drop (4 + length some.0) bytes) (omega (arith, low, length-drop (4 + length some.0) bytes)) (omega (arith, other, length-drop (4 + length some.0) bytes))
    ∙ sym (at-record more lines gate bytes some.0 some.1 room))
    (bool_cases (is_full lines some.0)))
    (option_cases (line_at_front bytes))

-- what a look for a line feed has told
pub has-feed : (line : List ℕ) (any : Bool) → any ≡ list_any (λ byte. byte == 10) line → any ≡ true → HasNoFeed line → ⊥
has-feed line any is true_is none = let e : false ≡ true = sym (ap not (sym is ∙ true_is)) ∙ (no_feed-Decides line).1 none in absurd (cc)

pub has-none : (line : List ℕ) (any : Bool) → any ≡ list_any (λ byte. byte == 10) line → any ≡ false → HasNoFeed line
has-none line any is false_is = (no_feed-Decides line).0 (ap not (sym is ∙ false_is))

-- what the code has tested
pub tested-none : (bytes : List ℕ) (size : ℕ) → size ≡ from_be_bytes w32 (take 4 bytes) → (IsRecord size bytes → ⊥) → line_at_front bytes ≡ None
unfolding line_at_front
tested-none bytes size is none =
    ap (λ n. cond (is_record n bytes) (Some (take n (drop 4 bytes))) None) (sym is)
    ∙ ap (λ b. cond b (Some (take size (drop 4 bytes))) None) (⊎_elim (λ test. absurd (none ((is_record-Decides size bytes).0 test))) (λ e. e) (bool_cases (is_record size bytes)))

pub tested-some : (bytes : List ℕ) (size : ℕ) → size ≡ from_be_bytes w32 (take 4 bytes) → IsRecord size bytes → line_at_front bytes ≡ Some (take size (drop 4 bytes))
unfolding line_at_front
tested-some bytes size is some =
    ap (λ n. cond (is_record n bytes) (Some (take n (drop 4 bytes))) None) (sym is)
    ∙ ap (λ b. cond b (Some (take size (drop 4 bytes))) None) ((is_record-Decides size bytes).1 some)

pub short-none : (bytes : List ℕ) → length bytes < 4 → line_at_front bytes ≡ None
short-none bytes short =
    ⊎_elim (λ none. none) (λ some. absurd (too-long some.0 (line_at_front-some bytes some.0 some.1).1)) (option_cases (line_at_front bytes))
  where
    too-long : (line : List ℕ) → bytes ≡ to_be_bytes w32 (length line) ++ line ++ drop (4 + length line) bytes → ⊥
    too-long line is =
        omega (
          arith,
          short,
          ap length is,
          length-append (to_be_bytes w32 (length line) ++ line) (drop (4 + length line) bytes),
          length-append (to_be_bytes w32 (length line)) line,
        )

-- the front of bytes are bytes
pub small-front : (n : ℕ) (bytes : List ℕ) → ((i : ℕ) → get_or bytes i 0 < 256) → (i : ℕ) → get_or (take n bytes) i 0 < 256
small-front zero bytes small i = omega arith
small-front (suc n) [] small i = omega arith
small-front (suc n) (b ∷ bytes) small zero = small 0
small-front (suc n) (b ∷ bytes) small (suc i) = small-front n bytes (λ k. small (suc k)) i
