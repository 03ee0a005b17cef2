-- Lines that end with a line feed and nothing else, and have one space between two words.
use Rattle.std.proofs.Common.{◌≡◌, ◌≢◌, ℕ, suc, ◌+◌, ◌-◌, ◌<◌, ◌≤◌, Bool, true, false, cond, eqb, ◌&&◌, List, [], ◌∷◌, ◌++◌, length, take, drop, get_or, refl, sym, ap, ◌∙◌, arith, add-one, drop-cons, bytes_eq, length-append, inl, inr, subst, Bor}
use Rattle.std.specs.Prelude.{All, IfSome, MatchOption, IfNone, Option, Some, None, filter, position, not}
use Rattle.std.specs.Cmp.Lexicographic.{pointwise}
use Rattle.std.specs.List.{join_with_byte, slice_split, position_or_len, before_first, after_first, onto_first}
use Rattle.std.specs.Option.{option_map, option_map_or}
use Rattle.std.proofs.lemmas.Option.{cond_some}
use Rattle.std.proofs.lemmas.Bool.{and_parts, cases_Bool, cases_lt, eqb-true, lt-ltb, true≢false, false≢true, false_from_ne_true}
use Rattle.std.proofs.lemmas.List.{append_cancel_left, append_cancel_right, take-append-drop, take_all, length-take-le}
use Rattle.std.proofs.lemmas.List.Elements.{All-from_get_or}
use Rattle.std.proofs.lemmas.List.Quantifiers.{position-Some}
use Rattle.std.proofs.lemmas.List.Splits.{slice_split-cons_no, slice_split-cons_yes, slice_split_at, slice_split_first, slice_split_none, length-slice_split}
use Rattle.std.proofs.lemmas.List.Sums.{fails_before_first, position_or_len_is}
use Rattle.std.proofs.Math.Dec.{eqb-suc-zero}
use Rattle.std.proofs.Math.Seq.{take-append_seam, drop-append_seam, drop-length}
use Rattle.house_base.specs.Text.{Text}
use Rattle.house_base.proofs.AmongLemmas.{bytes_eq-same, bytes_eq-other, same_text}
use Rattle.house_model.specs.Report.{line_of}
use Rattle.house_model.specs.Text.{words, is_empty, is_gap}
use Rattle.command_text.specs.Held.{HasNoFeed}
use Rattle.memchr.specs.Find.{IsFirstByte, is_byte}
use Rattle.command_text.proofs.FeedLemmas.{is_feed, front_with_feed, no_feed_found}
use Rattle.command_text.proofs.WordLemmas.{words_to_gap, words_without_gap}
use Rattle.command_text.specs.Strict.{Row, with_feeds, fed_lines, row_of, strict_row, spelled, spelled_behind}

pub no_bytes : (xs : Text) → is_empty xs ≡ eqb (length xs) 0
no_bytes [] = refl
no_bytes (x ∷ xs) = sym (eqb-suc-zero (length xs))

-- Lines.

pub fed_lines_of_none : (xs : Text) → eqb (length xs) 0 ≡ true → fed_lines xs ≡ []
unfolding fed_lines
fed_lines_of_none [] h = refl
fed_lines_of_none (x ∷ xs) h = cc (eqb-suc-zero (length xs))

front_stays : (x : Text) (parts : List Text) → 0 < length parts → with_feeds (x ∷ parts) ≡ (x ++ 10 ∷ []) ∷ with_feeds parts
front_stays x [] h = absurd (omega arith)
front_stays x (y ∷ more) h = refl

some_parts : (xs : Text) → 0 < length (slice_split is_feed xs)
some_parts xs = omega (arith, length-slice_split is_feed xs)

fed_lines_to_feed : (xs : Text) → position_or_len is_feed xs < length xs →
    fed_lines xs ≡ (before_first is_feed xs ++ 10 ∷ []) ∷ fed_lines (after_first is_feed xs)
unfolding fed_lines
fed_lines_to_feed xs h =
    ap with_feeds (slice_split_first is_feed xs 0 h)
    ∙ front_stays (before_first is_feed xs) (slice_split is_feed (after_first is_feed xs)) (some_parts (after_first is_feed xs))

-- a line and the line feed that ends it
pub fed_lines_at_feed : (front more : Text) → HasNoFeed front → fed_lines (front ++ 10 ∷ more) ≡ (front ++ 10 ∷ []) ∷ fed_lines more
unfolding fed_lines
fed_lines_at_feed front more none =
    ap with_feeds (slice_split_at is_feed front 10 more none refl) ∙ front_stays front (slice_split is_feed more) (some_parts more)

-- the first place at which a test passes
pub position_found : (test : ℕ → Bool) (xs : Text) (at : ℕ) → position test xs ≡ Some at → (position_or_len test xs ≡ at) × (at < length xs)
position_found test xs at h =
    let found = position-Some test xs at 0 h in
    (position_or_len_is test xs at 0 (omega (arith, found.0)) found.2 (λ below. found.1), found.0)

pub position_missing : (test : ℕ → Bool) (xs : Text) → position test xs ≡ None → position_or_len test xs ≡ length xs
position_missing test xs h = elim (cases_lt (position_or_len test xs) (length xs)) [
  | inl l ↦ cc (ap (λ b. cond b (Some (position_or_len test xs)) None) (lt-ltb _ _ l))
  | inr l ↦ position_or_len_is test xs (length xs) 0 (omega arith) (λ k below. fails_before_first test xs k 0 (omega arith)) (λ below. absurd (omega arith))
]

-- a line that ends
pub fed_lines_cut : (xs : Text) (at : ℕ) → position is_feed xs ≡ Some at → fed_lines xs ≡ take (at + 1) xs ∷ fed_lines (drop (at + 1) xs)
fed_lines_cut xs at h =
    let found = position_found is_feed xs at h in
    let here : position_or_len is_feed xs < length xs = omega (arith, found.0, found.1) in
    fed_lines_to_feed xs here
    ∙ ap (λ n. (take n xs ++ 10 ∷ []) ∷ fed_lines (drop (n + 1) xs)) found.0
    ∙ ap (λ line. line ∷ fed_lines (drop (at + 1) xs)) (sym (front_with_feed xs at h))

-- a last line that does not end
pub fed_lines_part : (xs : Text) → HasNoFeed xs → eqb (length xs) 0 ≡ false → fed_lines xs ≡ xs ∷ fed_lines []
unfolding fed_lines
fed_lines_part xs h some =
    ap with_feeds (slice_split_none is_feed xs h) ∙ ap (λ b. cond b [] (xs ∷ [])) (no_bytes xs ∙ some)

-- Equal texts, with the same in front or behind.

pub bytes_eq-iff : (a b x y : Text) → (a ≡ b → x ≡ y) → (x ≡ y → a ≡ b) → bytes_eq a b ≡ bytes_eq x y
bytes_eq-iff a b x y f g = elim (cases_Bool (bytes_eq x y)) [
  | inl e ↦ bytes_eq-same a b (g (same_text x y e)) ∙ sym e
  | inr e ↦ bytes_eq-other a b (λ same. false≢true (sym e ∙ bytes_eq-same x y (f same))) ∙ sym e
]

same_in_front : (w x y : Text) → bytes_eq (w ++ x) (w ++ y) ≡ bytes_eq x y
same_in_front w x y = bytes_eq-iff (w ++ x) (w ++ y) x y (append_cancel_left w x y) (ap (λ t. w ++ t))

pub same_behind : (x y w : Text) → bytes_eq (x ++ w) (y ++ w) ≡ bytes_eq x y
same_behind x y w = bytes_eq-iff (x ++ w) (y ++ w) x y (append_cancel_right x y w) (ap (λ t. t ++ w))

-- The words of a line.

guard_of_words : (ws : Row) (b : ℕ) (bs : Text) → (not (is_empty ws) && bytes_eq (b ∷ bs) (join_with_byte 32 ws)) ≡ bytes_eq (b ∷ bs) (join_with_byte 32 ws)
guard_of_words [] b bs = refl
guard_of_words (w ∷ ws) b bs = refl

same_guard : (text : Text) → (not (is_empty (words text)) && bytes_eq text (join_with_byte 32 (words text))) ≡ (not (is_empty text) && bytes_eq text (join_with_byte 32 (words text)))
unfolding words
same_guard [] = refl
same_guard (b ∷ bs) = guard_of_words (words (b ∷ bs)) b bs

one_less : (text : Text) → length (text ++ 10 ∷ []) - 1 ≡ length text
one_less text = omega (arith, length-append text (10 ∷ []))

pub before_last_byte : (text : Text) → take (length (text ++ 10 ∷ []) - 1) (text ++ 10 ∷ []) ≡ text
before_last_byte text = ap (λ n. take n (text ++ 10 ∷ [])) (one_less text) ∙ take-append_seam text (10 ∷ [])

-- what stands before the line feed is spelled as the line is
pub strict_of_spelled : (text : Text) → strict_row (text ++ 10 ∷ []) ≡ spelled text
unfolding strict_row spelled row_of line_of
strict_of_spelled text =
    ap (λ t. cond (not (is_empty (words t)) && bytes_eq (text ++ 10 ∷ []) (join_with_byte 32 (words t) ++ 10 ∷ [])) (Some (words t)) None) (before_last_byte text)
    ∙ ap (λ b. cond (not (is_empty (words text)) && b) (Some (words text)) None) (same_behind text (join_with_byte 32 (words text)) (10 ∷ []))
    ∙ ap (λ b. cond b (Some (words text)) None) (same_guard text)

pub strict_with_feed : (line : Text) → bytes_eq (drop (length line - 1) line) (10 ∷ []) ≡ true → strict_row line ≡ spelled (take (length line - 1) line)
strict_with_feed line h =
    let apart : line ≡ take (length line - 1) line ++ 10 ∷ [] =
    sym (take-append-drop (length line - 1) line) ∙ ap (λ t. take (length line - 1) line ++ t) (same_text _ _ h) in
    ap strict_row apart ∙ strict_of_spelled (take (length line - 1) line)

feed_is_last : (line t : Text) → line ≡ t ++ 10 ∷ [] → drop (length line - 1) line ≡ 10 ∷ []
feed_is_last line t e =
    ap (λ l. drop (length l - 1) l) e ∙ ap (λ n. drop n (t ++ 10 ∷ [])) (one_less t) ∙ drop-append_seam t (10 ∷ [])

and_no : (a b : Bool) → b ≡ false → (a && b) ≡ false
and_no true b h = h
and_no false b h = refl

pub strict_without_feed : (line : Text) → bytes_eq (drop (length line - 1) line) (10 ∷ []) ≡ false → strict_row line ≡ None
unfolding strict_row line_of
strict_without_feed line h =
    let ws = row_of line in
    let t = join_with_byte 32 ws in
    let other : bytes_eq line (t ++ 10 ∷ []) ≡ false =
    bytes_eq-other line (t ++ 10 ∷ []) (λ e. true≢false (sym (bytes_eq-same _ _ (feed_is_last line t e)) ∙ h)) in
    ap (λ b. cond b (Some ws) None) (and_no (not (is_empty ws)) (bytes_eq line (t ++ 10 ∷ [])) other)

-- The first word, and those behind it.

longer : (w : Text) (g : ℕ) (t : Text) → bytes_eq (w ++ g ∷ t) w ≡ false
longer w g t = bytes_eq-other (w ++ g ∷ t) w (λ e. let n : length (w ++ g ∷ t) ≡ length w = ap length e in absurd (omega (arith, n, length-append w (g ∷ t))))

not_empty : (w : Text) (g : ℕ) (t : Text) → not (is_empty (w ++ g ∷ t)) ≡ true
not_empty [] g t = refl
not_empty (b ∷ w) g t = refl

nothing_spelled : (t : Text) → (not (is_empty t) && bytes_eq t []) ≡ false
nothing_spelled [] = refl
nothing_spelled (b ∷ t) = refl

both_none : {A : Type 0} (b : Bool) → cond {A = Option A} b None None ≡ None
both_none true = refl
both_none false = refl

pick_rest : (w : Text) (ws : Row) (g x : Bool) → cond (g && x) (Some (w ∷ ws)) None ≡ option_map (λ row. w ∷ row) (cond g (cond x (Some ws) None) None)
pick_rest w ws true true = refl
pick_rest w ws true false = refl
pick_rest w ws false x = refl

-- with the words of what stands behind the gap
split_of : (w : Text) (g : ℕ) (t : Text) (ws : Row) → (t ≡ [] → ws ≡ []) →
    cond (bytes_eq (w ++ g ∷ t) (join_with_byte 32 (w ∷ ws))) (Some (w ∷ ws)) None
    ≡ option_map (λ row. w ∷ row) (cond (eqb g 32) (cond (not (is_empty t) && bytes_eq t (join_with_byte 32 ws)) (Some ws) None) None)
split_of w g t [] h =
    ap (λ b. cond b (Some (w ∷ [])) None) (longer w g t)
    ∙ ap (option_map (λ row. w ∷ row)) (sym (ap (λ b. cond (eqb g 32) (cond b (Some []) None) None) (nothing_spelled t) ∙ both_none (eqb g 32)))
split_of w g [] (v ∷ vs) h = cc (h refl)
split_of w g (b ∷ t) (v ∷ vs) h =
    ap (λ e. cond e (Some (w ∷ v ∷ vs)) None) (same_in_front w (g ∷ b ∷ t) (32 ∷ join_with_byte 32 (v ∷ vs)))
    ∙ pick_rest w (v ∷ vs) (eqb g 32) (bytes_eq (b ∷ t) (join_with_byte 32 (v ∷ vs)))

no_words : (t : Text) → t ≡ [] → words t ≡ []
unfolding words
no_words [] h = refl
no_words (b ∷ t) h = cc

spelled_at_gap : (w : Text) (g : ℕ) (t : Text) → words (w ++ g ∷ t) ≡ w ∷ words t → spelled (w ++ g ∷ t) ≡ option_map (λ row. w ∷ row) (spelled_behind (g ∷ t))
unfolding spelled
spelled_at_gap w g t h =
    ap (λ ws. cond (not (is_empty (w ++ g ∷ t)) && bytes_eq (w ++ g ∷ t) (join_with_byte 32 ws)) (Some ws) None) h
    ∙ ap (λ b. cond (b && bytes_eq (w ++ g ∷ t) (join_with_byte 32 (w ∷ words t))) (Some (w ∷ words t)) None) (not_empty w g t)
    ∙ split_of w g t (words t) (no_words t)

-- a word that nothing follows
pub spelled_word : (w : Text) → is_empty w ≡ false → All (λ b. is_gap b ≡ false) w → spelled w ≡ Some (w ∷ [])
unfolding spelled
spelled_word w some h =
    let ws : words w ≡ w ∷ [] = words_without_gap w h ∙ ap (λ b. cond (not b) (w ∷ []) []) some in
    ap (λ all. cond (not (is_empty w) && bytes_eq w (join_with_byte 32 all)) (Some all) None) ws
    ∙ ap (λ b. cond (not b && bytes_eq w w) (Some (w ∷ [])) None) some
    ∙ ap (λ b. cond b (Some (w ∷ [])) None) (bytes_eq-same w w refl)

free_up_to : (text : Text) → position_or_len is_gap text ≡ length text → All (λ b. is_gap b ≡ false) text
free_up_to text h = All-from_get_or (λ b. is_gap b ≡ false) text 0 (λ k below. fails_before_first is_gap text k 0 (omega arith))

front_some : (text : Text) (n : ℕ) → eqb n 0 ≡ false → n ≤ length text → is_empty (take n text) ≡ false
front_some text n h l = no_bytes (take n text) ∙ ap (λ k. eqb k 0) (length-take-le n text l) ∙ h

pub first_word_is : (text : Text) (n : ℕ) → position_or_len is_gap text ≡ n → n ≤ length text → eqb n 0 ≡ false →
    spelled text ≡ option_map (λ row. take n text ∷ row) (spelled_behind (drop n text))
first_word_is text n at l some = elim (cases_lt n (length text)) [
  | inl below ↦
      let w = take n text in
      let g = get_or text n 0 in
      let t = drop (n + 1) text in
      let behind : drop n text ≡ g ∷ t = drop-cons text n 0 below ∙ ap (λ k. g ∷ drop k text) (sym (add-one n)) in
      let apart : text ≡ w ++ g ∷ t = sym (take-append-drop n text) ∙ ap (λ r. w ++ r) behind in
      let here : position_or_len is_gap text < length text = omega (arith, at, below) in
      let word : before_first is_gap text ≡ w = ap (λ k. take k text) at in
      let rest : after_first is_gap text ≡ t = ap (λ k. drop (k + 1) text) at in
      let found : words text ≡ w ∷ words t =
      words_to_gap text here
      ∙ ap (λ f. cond (not (is_empty f)) (f ∷ words (after_first is_gap text)) (words (after_first is_gap text))) word
      ∙ ap (λ b. cond (not b) (w ∷ words (after_first is_gap text)) (words (after_first is_gap text))) (front_some text n some l)
      ∙ ap (λ r. w ∷ words r) rest in
      ap spelled apart ∙ spelled_at_gap w g t (ap words (sym apart) ∙ found) ∙ ap (λ r. option_map (λ row. w ∷ row) (spelled_behind r)) (sym behind)
  | inr past ↦
      let all : n ≡ length text = omega (arith, l, past) in
      let w : take n text ≡ text = take_all n text (omega (arith, all)) in
      let nothing : drop n text ≡ [] = ap (λ k. drop k text) all ∙ drop-length text in
      spelled_word text (ap is_empty (sym w) ∙ front_some text n some l) (free_up_to text (at ∙ all))
      ∙ ap (λ x. Some (x ∷ [])) (sym w)
      ∙ ap (λ r. option_map (λ row. take n text ∷ row) (spelled_behind r)) (sym nothing)
]

-- the first of these words, if there is one, begins with a byte that is no gap
BeginsFree : Row → Type 0
BeginsFree [] = Unit {0}
BeginsFree ([] ∷ ws) = ⊥
BeginsFree ((c ∷ w) ∷ ws) = is_gap c ≡ false

onto_free : (b : ℕ) (parts : List Text) → is_gap b ≡ false → BeginsFree (filter (λ w. not (is_empty w)) (onto_first b parts))
unfolding BeginsFree
onto_free b [] h = h
onto_free b (p ∷ ps) h = h

begins_free : (t : Text) → BeginsFree (words t)
unfolding words BeginsFree
begins_free [] = tt
begins_free (b ∷ t) = elim (cases_Bool (is_gap b)) [
  | inl gap ↦ subst BeginsFree (sym (ap (filter (λ w. not (is_empty w))) (slice_split-cons_yes is_gap b t gap))) (begins_free t)
  | inr free ↦ subst BeginsFree (sym (ap (filter (λ w. not (is_empty w))) (slice_split-cons_no is_gap b t free))) (onto_free b (slice_split is_gap t) free)
]

pub ne_eqb : (a b : ℕ) → (a ≡ b → ⊥) → eqb a b ≡ false
ne_eqb a b h = false_from_ne_true (eqb a b) (λ e. h (eqb-true a b e))

other_start : (b c : ℕ) (x : Bool) → is_gap b ≡ true → is_gap c ≡ false → (eqb b c && x) ≡ false
other_start b c x gap free = ap (λ e. e && x) (ne_eqb b c (λ same. true≢false (sym gap ∙ ap is_gap same ∙ free)))

gap_first : (b : ℕ) (t : Text) (ws : Row) → is_gap b ≡ true → BeginsFree ws → bytes_eq (b ∷ t) (join_with_byte 32 ws) ≡ false
unfolding BeginsFree
gap_first b t [] gap h = refl
gap_first b t ([] ∷ ws) gap h = absurd h
gap_first b t ((c ∷ w) ∷ []) gap h = other_start b c (bytes_eq t w) gap h
gap_first b t ((c ∷ w) ∷ v ∷ ws) gap h = other_start b c (bytes_eq t (w ++ 32 ∷ join_with_byte 32 (v ∷ ws))) gap h

-- a text that begins with no word
pub no_first_word : (text : Text) → position_or_len is_gap text ≡ 0 → spelled text ≡ None
unfolding spelled
no_first_word [] h = refl
no_first_word (b ∷ t) h =
    let gap : is_gap b ≡ true = elim (cases_Bool (is_gap b)) [
      | inl e ↦ e
      | inr e ↦ absurd (let n = ap (λ x. cond (not x) (1 + position_or_len is_gap t) 0) (sym e) ∙ h in omega (arith, n))
    ] in
    ap (λ x. cond x (Some (words (b ∷ t))) None) (gap_first b t (words (b ∷ t)) gap (begins_free (b ∷ t)))

-- One word that is left.

pub one_more : {A : Type 0} (w : A) (row : List A) (o : Option (List A)) → Some row ≡ option_map (λ r. w ∷ r) o → (r : List A) × (o ≡ Some r) × (row ≡ w ∷ r)
one_more w row None h = cc
one_more w row (Some r) h = (r, refl, cc)

pub no_last_word : (rest : Text) (row : Row) → (0 < length rest → spelled_behind rest ≡ None) → spelled_behind rest ≡ Some row → length row ≢ 1
no_last_word [] row h e = λ one. absurd (let n : length row ≡ 0 = ap (λ o. option_map_or length o 0) (sym e) in omega arith)
no_last_word (b ∷ rest) row h e = cc (h (omega arith))

pub filled : (ws : Row) → not (is_empty ws) ≡ true → 0 < length ws
filled [] h = cc
filled (w ∷ ws) h = omega arith

-- a text that is spelled has a word
pub spelled_some : (t : Text) (ws : Row) → spelled t ≡ Some ws → 0 < length ws
unfolding spelled
spelled_some t ws h =
    let found = cond_some (not (is_empty t) && bytes_eq t (join_with_byte 32 (words t))) (words t) ws h in
    let some = (and_parts (not (is_empty (words t))) (bytes_eq t (join_with_byte 32 (words t))) (same_guard t ∙ found.0)).0 in
    filled ws (ap (λ x. not (is_empty x)) (sym found.1) ∙ some)

if_both : {A : Type 0} (b : Bool) (o : Option A) (x : A) → cond b o None ≡ Some x → o ≡ Some x
if_both true o x h = h
if_both false o x h = cc

pub behind_some : (more : Text) (row : Row) → eqb (length more) 0 ≡ false → spelled_behind more ≡ Some row → 0 < length row
behind_some [] row some h = cc
behind_some (b ∷ more) row some h = spelled_some more row (if_both (eqb b 32) (spelled more) row h)

pub more_than_one : (w : Text) (rest more : Text) (row : Row) → spelled_behind rest ≡ option_map (λ r. w ∷ r) (spelled_behind more) → eqb (length more) 0 ≡ false
    → spelled_behind rest ≡ Some row → length row ≢ 1
more_than_one w rest more row found some e =
    let parts = one_more w row (spelled_behind more) (sym e ∙ found) in
    let left : 0 < length parts.0 = behind_some more parts.0 some parts.1 in
    let whole : length row ≡ suc (length parts.0) = ap length parts.2 in
    λ one. absurd (omega (arith, left, whole, one))

-- What the searches of std and of memchr tell.

pub feed_is_missing : (text : Text) (r : Option ℕ) → IsFirstByte (is_byte 10) text r → r ≡ None → HasNoFeed text
feed_is_missing text None h e = no_feed_found text None h
feed_is_missing text (Some at) h e = cc

-- a line with its last byte stripped off, where it is a line feed
abbrev IsStripped : Option (Bor Text) → Text → Type 0
IsStripped stripped line =
    MatchOption stripped (pointwise eqb (drop (length line - 1) line) (10 ∷ []) ≡ false)
    (λ front. (pointwise eqb (drop (length line - 1) line) (10 ∷ []) ≡ true) × (front.now ≡ take (length line - 1) line) × (length front.now + 1 ≡ length line))

pub strict_text : (stripped : Option (Bor Text)) (line : Text) → IsStripped stripped line → IfSome stripped (λ text. strict_row line ≡ spelled text.now)
strict_text None line h = tt
strict_text (Some front) line h = strict_with_feed line h.0 ∙ ap spelled (sym h.1)

pub strict_text_missing : (stripped : Option (Bor Text)) (line : Text) → IsStripped stripped line → IfNone stripped (strict_row line ≡ None)
strict_text_missing None line h = strict_without_feed line h
strict_text_missing (Some front) line h = tt
