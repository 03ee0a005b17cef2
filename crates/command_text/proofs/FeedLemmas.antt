-- The lines of a text, cut off from its front, and how many they are.
use Rattle.std.proofs.Common.{◌≡◌, ℕ, suc, ◌+◌, ◌-◌, ◌<◌, ◌≤◌, inl, inr, subst, Bool, true, false, cond, ltb, eqb, ◌&&◌, List, [], ◌∷◌, ◌++◌, map, length, take, drop, get_or, refl, sym, ap, ◌∙◌, arith, length-drop}
use Rattle.std.specs.Prelude.{All, IfNone, Option, Some, None, position}
use Rattle.std.specs.Option.{option_map, option_to_list}
use Rattle.std.specs.Cmp.Lexicographic.{pointwise}
use Rattle.std.specs.List.{slice_split, position_or_len, before_first, after_first}
use Rattle.std.proofs.lemmas.List.{drop-drop, take_all, take_more, length-take-le, get_or-drop, get_or-take}
use Rattle.std.proofs.lemmas.List.Elements.{All-from_get_or, All-get_or, All-take}
use Rattle.std.proofs.lemmas.List.Sums.{fails_before_first, passes_at_first, position_or_len_is}
use Rattle.std.proofs.lemmas.Bool.{cases_lt, eqb-true, le-ltb, lt-ltb, true≢false}
use Rattle.std.proofs.lemmas.Option.{cond_some}
use borrow.Author.Tests.{ltb-true}
use Rattle.std.proofs.lemmas.List.Splits.{slice_split_first, slice_split_none, slice_split_at, length-slice_split}
use Rattle.std.proofs.Math.Dec.{eqb-suc-zero}
use Rattle.memchr.specs.Find.{IsFirstByte, Nowhere, Passes, is_byte}
use Rattle.house_base.specs.Text.{Text}
use Rattle.house_model.specs.Heard.{whole_lines, without_last}
use Rattle.house_model.specs.Text.{lines, without_return, without_last_empty, is_empty}
use Rattle.command_text.specs.Held.{HasNoFeed}

-- whether a byte ends a line
abbrev pub is_feed : ℕ → Bool
is_feed b = eqb b 10

no_bytes : (xs : List ℕ) → is_empty xs ≡ eqb (length xs) 0
no_bytes [] = refl
no_bytes (x ∷ xs) = sym (eqb-suc-zero (length xs))

refuted : (b : Bool) → ¬ (b ≡ true) → b ≡ false
refuted true h = absurd (h refl)
refuted false h = refl

-- the first line feed stands where a search finds it
pub first_feed : (text : Text) (r : Option ℕ) → IsFirstByte (is_byte 10) text r → r ≡ position is_feed text
first_feed text None h =
    let none : position_or_len is_feed text ≡ length text =
    position_or_len_is is_feed text (length text) 0 (omega arith) (λ k below. refuted (is_feed (get_or text k 0)) (h k (omega arith) below)) (λ below. absurd (omega (arith, below))) in
    sym
    (ap (λ n. cond (ltb n (length text)) (Some n) None) none
    ∙ ap (λ b. cond b (Some (length text)) None) (le-ltb (length text) (length text) (omega arith)))
first_feed text (Some at) h =
    let found : position_or_len is_feed text ≡ at =
    position_or_len_is is_feed text at 0 (omega (arith, h.0.high)) (λ k below. refuted (is_feed (get_or text k 0)) (h.0.before k (omega arith) below)) (λ below. h.1) in
    sym
    (ap (λ n. cond (ltb n (length text)) (Some n) None) found
    ∙ ap (λ b. cond b (Some at) None) (lt-ltb at (length text) h.0.high))

-- where a search finds none, there is none
pub no_feed_found : (text : Text) (r : Option ℕ) → IsFirstByte (is_byte 10) text r → IfNone r (HasNoFeed text)
no_feed_found text None h = All-from_get_or (λ byte. is_feed byte ≡ false) text 0 (λ k below. refuted (is_feed (get_or text k 0)) (h k (omega arith) below))
no_feed_found text (Some at) h = tt

-- a line feed behind a front that has none

module _ (text : Text) (near : ℕ) (fits : near ≤ length text) where
  front_length : length (take near text) ≡ near
  front_length = length-take-le near text fits

  nowhere : HasNoFeed (take near text) → (to : ℕ) → Nowhere (Passes (is_byte 10) (drop near text)) 0 to → Nowhere (Passes (is_byte 10) text) 0 (near + to)
  nowhere none to behind k low below passes = elim (cases_lt k near) [
    | inl early ↦ true≢false (sym passes ∙ rw (get_or-take near text k 0 early) at (All-get_or (λ byte. is_feed byte ≡ false) (take near text) k 0 (omega (arith, early, front_length)) none))
    | inr late ↦
        let there : near + (k - near) ≡ k = omega (arith, late) in
        behind (k - near) (omega arith) (omega (arith, below, late)) (ap (λ b. eqb b 10) (get_or-drop near text (k - near) 0 ∙ ap (λ i. get_or text i 0) there) ∙ passes)
  ]

  found_behind : HasNoFeed (take near text) → (r : Option ℕ) → IsFirstByte (is_byte 10) (drop near text) r → IsFirstByte (is_byte 10) text (option_map (λ at. near + at) r)
  found_behind none None h =
      subst (λ n. Nowhere (Passes (is_byte 10) text) 0 n) (omega (arith, fits, length-drop near text)) (nowhere none (length (drop near text)) h)
  found_behind none (Some at) h = (
    record { low = omega arith; high = omega (arith, h.0.high, length-drop near text, fits); before = nowhere none at h.0.before },
    ap (λ b. eqb b 10) (sym (get_or-drop near text at 0)) ∙ h.1,
  )

  -- what a search of what stands behind the front finds
  search_behind : HasNoFeed (take near text) → (r : Option ℕ) → IsFirstByte (is_byte 10) (take (length text - near) (drop near text)) r →
      IsFirstByte (is_byte 10) text (option_map (λ at. near + at) r)
  search_behind none r h =
      found_behind none r
      (subst (λ t. IsFirstByte (is_byte 10) t r) (take_all (length text - near) (drop near text) (omega (arith, length-drop near text))) h)

  pub feed_behind : HasNoFeed (take near text) → (r : Option ℕ) → IsFirstByte (is_byte 10) (take (length text - near) (drop near text)) r →
      option_map (λ at. near + at) r ≡ position is_feed text
  feed_behind none r h = first_feed text (option_map (λ at. near + at) r) (search_behind none r h)

  pub no_feed_behind : HasNoFeed (take near text) → (r : Option ℕ) → IsFirstByte (is_byte 10) (take (length text - near) (drop near text)) r → r ≡ None → HasNoFeed text
  no_feed_behind none None h is = no_feed_found text None (search_behind none None h)
  no_feed_behind none (Some at) h is = cc

-- an empty text has no line
pub lines_of_none : (xs : List ℕ) → eqb (length xs) 0 ≡ true → lines xs ≡ []
unfolding lines
lines_of_none [] h = refl
lines_of_none (x ∷ xs) h = cc (eqb-suc-zero (length xs))

front_stays : (x : Text) (parts : List Text) → 0 < length parts → without_last_empty (x ∷ parts) ≡ x ∷ without_last_empty parts
front_stays x [] h = absurd (omega arith)
front_stays x (y ∷ more) h = refl

some_parts : (xs : List ℕ) → 0 < length (slice_split is_feed xs)
some_parts xs = omega (arith, length-slice_split is_feed xs)

-- the line before the first line feed
pub lines_to_feed : (xs : List ℕ) → position_or_len is_feed xs < length xs →
    lines xs ≡ without_return (before_first is_feed xs) ∷ lines (after_first is_feed xs)
unfolding lines
lines_to_feed xs h =
    ap (λ parts. map without_return (without_last_empty parts)) (slice_split_first is_feed xs 0 h)
    ∙ ap (map without_return) (front_stays (before_first is_feed xs) (slice_split is_feed (after_first is_feed xs)) (some_parts (after_first is_feed xs)))

-- a text without a line feed is its one line
pub lines_without_feed : (xs : List ℕ) → All (λ byte. is_feed byte ≡ false) xs → eqb (length xs) 0 ≡ false → lines xs ≡ without_return xs ∷ lines []
unfolding lines
lines_without_feed xs h some =
    ap (λ parts. map without_return (without_last_empty parts)) (slice_split_none is_feed xs h)
    ∙ ap (λ b. map without_return (cond b [] (xs ∷ []))) (no_bytes xs ∙ some)

-- the last byte, as a list of one
last_byte : (x : ℕ) (xs : List ℕ) → drop (length xs) (x ∷ xs) ≡ get_or (x ∷ xs) (length xs) 0 ∷ []
last_byte x [] = refl
last_byte x (y ∷ xs) = last_byte y xs

and_true : (b : Bool) → (b && true) ≡ b
and_true true = refl
and_true false = refl

-- whether a carriage return ends a text
pub ends_with_return : (xs : List ℕ) → pointwise eqb (drop (length xs - 1) xs) (13 ∷ []) ≡ eqb (get_or xs (length xs - 1) 0) 13
ends_with_return [] = refl
ends_with_return (x ∷ xs) =
    let before_last : suc (length xs) - 1 ≡ length xs = omega arith in
    rw before_last (rw (last_byte x xs) (and_true (eqb (get_or (x ∷ xs) (length xs) 0) 13)))

pub with_return : (xs : List ℕ) → pointwise eqb (drop (length xs - 1) xs) (13 ∷ []) ≡ true → take (length xs - 1) xs ≡ without_return xs
unfolding without_return
with_return xs h = sym (ap (λ b. cond b (take (length xs - 1) xs) xs) (sym (ends_with_return xs) ∙ h))

pub with_no_return : (xs : List ℕ) → pointwise eqb (drop (length xs - 1) xs) (13 ∷ []) ≡ false → xs ≡ without_return xs
unfolding without_return
with_no_return xs h = sym (ap (λ b. cond b (take (length xs - 1) xs) xs) (sym (ends_with_return xs) ∙ h))

-- the first line feed, where there is one
pub position_found : (xs : List ℕ) (at : ℕ) → position is_feed xs ≡ Some at → (position_or_len is_feed xs ≡ at) × (at < length xs)
position_found xs at h =
    let e = cond_some (ltb (position_or_len is_feed xs) (length xs)) (position_or_len is_feed xs) at h in
    let below : position_or_len is_feed xs < length xs = ltb-true _ _ e.0 in
    (e.1, rw e.1 at below)

-- what follows the byte at an index
pub after_byte : (xs : List ℕ) (at : ℕ) → take (length (drop at xs) - 1) (drop 1 (drop at xs)) ≡ drop (at + 1) xs
after_byte xs at = take_all (length (drop at xs) - 1) (drop 1 (drop at xs)) (simp length-drop (omega arith)) ∙ drop-drop 1 at xs

-- the text cut at its first line feed
pub cut_at_feed : (xs : List ℕ) (at : ℕ) → position is_feed xs ≡ Some at →
    lines xs ≡ without_return (take at xs) ∷ lines (take (length (drop at xs) - 1) (drop 1 (drop at xs)))
cut_at_feed xs at h =
    let found = position_found xs at h in
    let here : position_or_len is_feed xs < length xs = rw found.0 found.1 in
    lines_to_feed xs here ∙ rw (found.0, after_byte xs at) refl

-- what stands before the first line feed has none
pub no_feed_before : (xs : List ℕ) (at : ℕ) → position is_feed xs ≡ Some at → HasNoFeed (take at xs)
no_feed_before xs at h k d below =
    let found = position_found xs at h in
    let front : length (take at xs) ≡ at = length-take-le at xs (omega (arith, found.1)) in
    let early : k < at = omega (arith, front) in
    rw (get_or-take at xs k d early) (fails_before_first is_feed xs k d (omega (arith, found.0)))

pub no_feed_without_return : (line : Text) → HasNoFeed line → HasNoFeed (without_return line)
unfolding without_return
no_feed_without_return line h = go (eqb (get_or line (length line - 1) 0) 13)
  where
    go : (b : Bool) → HasNoFeed (cond b (take (length line - 1) line) line)
    go true = All-take (λ byte. is_feed byte ≡ false) (length line - 1) line h
    go false = h

-- the text up to and with its first line feed
pub front_with_feed : (xs : List ℕ) (at : ℕ) → position is_feed xs ≡ Some at → take (at + 1) xs ≡ take at xs ++ 10 ∷ []
front_with_feed xs at h =
    let found = position_found xs at h in
    let here : position_or_len is_feed xs < length xs = rw found.0 found.1 in
    let passes : is_feed (get_or xs at 0) ≡ true = rw found.0 at (passes_at_first is_feed xs 0 here) in
    take_more xs at 0 found.1 ∙ ap (λ byte. take at xs ++ byte ∷ []) (eqb-true (get_or xs at 0) 10 passes)

pub length_before : (xs : List ℕ) (at : ℕ) → position is_feed xs ≡ Some at → length (take at xs) ≡ at
length_before xs at h = length-take-le at xs (omega (arith, (position_found xs at h).1))

-- a line that ends, and the lines of what follows
pub lines_at_feed : (front more : Text) → HasNoFeed front → lines (front ++ 10 ∷ more) ≡ without_return front ∷ lines more
unfolding lines
lines_at_feed front more none =
    ap (λ parts. map without_return (without_last_empty parts)) (slice_split_at is_feed front 10 more none refl)
    ∙ ap (map without_return) (front_stays front (slice_split is_feed more) (some_parts more))

-- the lines of a text without a line feed
pub lines_of_part : (text : Text) → HasNoFeed text → lines text ≡ option_to_list (cond (is_empty text) None (Some (without_return text)))
lines_of_part [] none = lines_of_none [] refl
lines_of_part (x ∷ xs) none = lines_without_feed (x ∷ xs) none (eqb-suc-zero (length xs)) ∙ ap (λ parts. without_return (x ∷ xs) ∷ parts) (lines_of_none [] refl)

front_stays_whole : (x : Text) (parts : List Text) → 0 < length parts → without_last (x ∷ parts) ≡ x ∷ without_last parts
front_stays_whole x [] h = absurd (omega arith)
front_stays_whole x (y ∷ more) h = refl

-- the same of the lines that end with their line feed
pub whole_lines_at_feed : (front more : Text) → HasNoFeed front → whole_lines (front ++ 10 ∷ more) ≡ without_return front ∷ whole_lines more
unfolding whole_lines
whole_lines_at_feed front more none =
    ap (λ parts. map without_return (without_last parts)) (slice_split_at is_feed front 10 more none refl)
    ∙ ap (map without_return) (front_stays_whole front (slice_split is_feed more) (some_parts more))

pub whole_lines_of_part : (text : Text) → HasNoFeed text → whole_lines text ≡ []
unfolding whole_lines
whole_lines_of_part text none = ap (λ parts. map without_return (without_last parts)) (slice_split_none is_feed text none)
