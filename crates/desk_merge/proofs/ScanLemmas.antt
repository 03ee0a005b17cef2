-- The front of a text, and the words that stand there.
use Rattle.std.proofs.Common.{◌≡◌, ℕ, ◌+◌, ◌-◌, ◌<◌, ◌≤◌, ◌^◌, Bool, true, false, eqb, [], ◌∷◌, ◌++◌, length, take, drop, get_or, refl, sym, ap, ◌∙◌, append_assoc, arith, Some, None, add-one, drop-cons, inl, inr, length-append, length-take}
use Rattle.std.specs.Prelude.{IsTrue, codes, decimal, position}
use Rattle.std.specs.Char.{is_ascii_digit}
use Rattle.std.specs.List.{list_all, slice_split}
use Rattle.std.specs.Str.{all_ascii_digits}
use Rattle.std.proofs.lemmas.Bool.{and_parts, cases_Bool, eqb-true, le-leb, true≢false}
use Rattle.std.proofs.lemmas.Bool.Decides.{nat_tests}
use Rattle.std.proofs.lemmas.Fmt.{digits_decimal, digits_value-decimal}
use Rattle.std.proofs.lemmas.List.{append-nil, append_cancel_left, get_or-take, take-append-drop}
use Rattle.std.proofs.Math.Seq.{get_or-append_seam}
use Rattle.std.proofs.lemmas.List.Elements.{All-from_get_or, All-weaker}
use Rattle.std.proofs.lemmas.List.Quantifiers.{position-Some}
use Rattle.std.proofs.lemmas.List.Splits.{slice_split_at}
use Rattle.std.proofs.lemmas.List.Sums.{AllPass-from_list_all}
use Rattle.house_base.specs.Name.{is_name, is_name_byte}
use Rattle.house_base.specs.Number.{number_up_to}
use Rattle.house_base.specs.Text.{Text}
use Rattle.house_base.proofs.Digits.{is_canonical-decimal, numerals}
use Rattle.house_model.specs.Report.{line_of}
use Rattle.command_text.proofs.JoinedLemmas.{name_parts}
use Rattle.command_text.proofs.WordLemmas.{after_element}
use Rattle.desk_merge.specs.Desk.{IsItem, entry_line}
use Rattle.desk_merge.specs.Joined.{Item}
use Rattle.desk_merge.specs.Scan.{HasNo, key_then, review_then}

is_itself : (byte : ℕ) → eqb byte byte ≡ true
is_itself byte = grind (arith, nat_tests)

-- a text is cut in one way at the first such byte
pub cut_once : (byte : ℕ) (a b x y : Text) → HasNo byte a → HasNo byte b → a ++ byte ∷ x ≡ b ++ byte ∷ y → (a ≡ b) × (x ≡ y)
cut_once byte a b x y in_a in_b same =
    let left = slice_split_at (λ c. eqb c byte) a byte x in_a (is_itself byte) in
    let right = slice_split_at (λ c. eqb c byte) b byte y in_b (is_itself byte) in
    let fronts : a ≡ b = let parts = ap (slice_split (λ c. eqb c byte)) same in cc in
    let behind : byte ∷ x ≡ byte ∷ y = append_cancel_left b (byte ∷ x) (byte ∷ y) (ap (λ t. t ++ byte ∷ x) (sym fronts) ∙ same) in
    (fronts, cc)

-- Where the first such byte stands.

found_at : (byte : ℕ) (text : Text) (at : ℕ) → position (λ b. eqb b byte) text ≡ Some at → (at < length text) × (get_or text at 0 ≡ byte)
found_at byte text at h =
    let found = position-Some (λ b. eqb b byte) text at 0 h in
    (found.0, eqb-true (get_or text at 0) byte found.1)

pub cut_found : (byte : ℕ) (text : Text) (at : ℕ) → position (λ b. eqb b byte) text ≡ Some at →
    text ≡ take at text ++ byte ∷ take (length (drop at text) - 1) (drop 1 (drop at text))
cut_found byte text at h =
    let found = found_at byte text at h in
    let here : drop at text ≡ get_or text at 0 ∷ drop (at + 1) text = drop-cons text at 0 found.0 ∙ ap (λ n. get_or text at 0 ∷ drop n text) (sym (add-one at)) in
    sym (take-append-drop at text)
    ∙ ap (λ t. take at text ++ t) (here ∙ ap (λ b. b ∷ drop (at + 1) text) found.1 ∙ ap (λ t. byte ∷ t) (sym (after_element text at)))

pub front_free : (byte : ℕ) (text : Text) (at : ℕ) → position (λ b. eqb b byte) text ≡ Some at → HasNo byte (take at text)
front_free byte text at h =
    let found = position-Some (λ b. eqb b byte) text at 0 h in
    All-from_get_or (λ b. eqb b byte ≡ false) (take at text) 0 (λ k below.
    let within : k < at = omega (arith, below, length-take at text) in
    ap (λ b. eqb b byte) (get_or-take at text k 0 within) ∙ found.2 k within)

-- a byte that a text has
pub has_byte : (byte : ℕ) (text before behind : Text) → HasNo byte text → text ≡ before ++ byte ∷ behind → ⊥
has_byte byte text before behind free e =
    let within : length before < length text = omega (arith, ap length e, length-append before (byte ∷ behind)) in
    let here : get_or text (length before) byte ≡ byte = ap (λ t. get_or t (length before) byte) e ∙ get_or-append_seam before byte behind byte in
    true≢false (sym (is_itself byte) ∙ ap (λ b. eqb b byte) (sym here) ∙ free (length before) byte within)

-- Words without a byte.

free_of : (byte : ℕ) (p : ℕ → Bool) → p byte ≡ false → (b : ℕ) → p b ≡ true → eqb b byte ≡ false
free_of byte p other b passes = elim (cases_Bool (eqb b byte)) [
  | inl same ↦ absurd (true≢false (sym passes ∙ ap p (eqb-true b byte same) ∙ other))
  | inr differs ↦ differs
]

pub free_word : (byte : ℕ) (p : ℕ → Bool) (w : Text) → p byte ≡ false → list_all p w ≡ true → HasNo byte w
free_word byte p w other all = All-weaker (λ b. p b ≡ true) (λ b. eqb b byte ≡ false) (free_of byte p other) w (AllPass-from_list_all p w all)

pub name_free : (byte : ℕ) (w : Text) → is_name_byte byte ≡ false → IsTrue (is_name w) → HasNo byte w
name_free byte w other formed = free_word byte is_name_byte w other (name_parts w formed).1

all_digits : (w : Text) → all_ascii_digits w ≡ true → list_all is_ascii_digit w ≡ true
all_digits [] h = refl
all_digits (b ∷ w) h =
    let parts = and_parts (is_ascii_digit b) (all_ascii_digits w) h in
    rw (parts.0, all_digits w parts.1) refl

pub number_free : (byte n : ℕ) → is_ascii_digit byte ≡ false → n < 2 ^ 64 → HasNo byte (decimal n)
number_free byte n other fits = free_word byte is_ascii_digit (decimal n) other (all_digits (decimal n) (digits_decimal numerals n fits))

-- a number is read from what it prints as
pub printed : (most n : ℕ) → n ≤ most → most < 2 ^ 64 → number_up_to most (decimal n) ≡ Some n
unfolding number_up_to
printed most n small fits =
    rw (is_canonical-decimal n (omega arith), digits_value-decimal numerals n (omega arith), le-leb n most small) refl

-- a word that spells no number is not what one prints as
pub not_printed : (byte most n : ℕ) (word behind rest : Text) → is_ascii_digit byte ≡ false → most < 2 ^ 64 → HasNo byte word → number_up_to most word ≡ None → n ≤ most →
    word ++ byte ∷ behind ≡ decimal n ++ byte ∷ rest → ⊥
not_printed byte most n word behind rest other fits free none small same =
    let cut = cut_once byte word (decimal n) behind rest free (number_free byte n other (omega arith)) same in
    let read : number_up_to most word ≡ Some n = ap (number_up_to most) cut.0 ∙ printed most n small fits in
    cc

-- The front of a line.

pub key_parts : (a b c x y z : Text) → HasNo 32 a → HasNo 32 b → HasNo 32 x → HasNo 32 y → key_then a b c ≡ key_then x y z → (a ≡ x) × (b ≡ y) × (c ≡ z)
key_parts a b c x y z in_a in_b in_x in_y same =
    let behind = append_cancel_left (codes "entry ") (a ++ 32 ∷ (b ++ 32 ∷ c)) (x ++ 32 ∷ (y ++ 32 ∷ z)) same in
    let first = cut_once 32 a x (b ++ 32 ∷ c) (y ++ 32 ∷ z) in_a in_x behind in
    let second = cut_once 32 b y c z in_b in_y first.1 in
    (first.0, second.0, second.1)

-- a line from its front
pub line_then : (e : Item) (rest : Text) → entry_line e ++ rest ≡ key_then e.0.0 e.0.1 (review_then e.1.0 e.1.1 rest)
unfolding entry_line line_of
line_then e rest = simp append_assoc

-- a text that begins so with words and with the line of an item
pub same_parts : (text a b c : Text) (e : Item) (rest : Text) → text ≡ key_then a b c → HasNo 32 a → HasNo 32 b → IsItem e → text ≡ entry_line e ++ rest →
    (a ≡ e.0.0) × (b ≡ e.0.1) × (c ≡ review_then e.1.0 e.1.1 rest)
same_parts text a b c e rest begins in_a in_b formed same =
    key_parts a b c e.0.0 e.0.1 (review_then e.1.0 e.1.1 rest) in_a in_b (name_free 32 e.0.0 refl formed.reviewer) (name_free 32 e.0.1 refl formed.proposal) (sym begins ∙ same ∙ line_then e rest)

-- the line of an item, from its parts
pub line_found : (text a b c : Text) (e : Item) (rest : Text) → text ≡ key_then a b c → e.0.0 ≡ a → e.0.1 ≡ b → c ≡ review_then e.1.0 e.1.1 rest → text ≡ entry_line e ++ rest
line_found text a b c e rest begins first second behind =
    begins
    ∙ ap (λ w. key_then w b c) (sym first)
    ∙ ap (λ w. key_then e.0.0 w c) (sym second)
    ∙ ap (key_then e.0.0 e.0.1) behind
    ∙ sym (line_then e rest)

pub whole_line : (line : Text) (e : Item) → line ≡ entry_line e → line ≡ entry_line e ++ []
whole_line line e is = is ∙ sym (append-nil (entry_line e))

-- what stands behind the revision
pub behind_revision : (text word behind : Text) (e : Item) → IsItem e → text ≡ review_then e.1.0 e.1.1 [] → text ≡ word ++ 32 ∷ behind → HasNo 32 word → behind ≡ decimal e.1.1 ++ 10 ∷ []
behind_revision text word behind e formed is found free =
    (cut_once 32 word (decimal e.1.0) behind (decimal e.1.1 ++ 10 ∷ []) free (number_free 32 e.1.0 refl formed.revision) (sym found ∙ is)).1

pub points_before_feed : (text word behind : Text) (e : Item) → IsItem e → text ≡ decimal e.1.1 ++ 10 ∷ [] → text ≡ word ++ 10 ∷ behind → HasNo 10 word → word ≡ decimal e.1.1
points_before_feed text word behind e formed is found free =
    (cut_once 10 word (decimal e.1.1) behind [] free (number_free 10 e.1.1 refl (omega (arith, formed.points))) (sym found ∙ is)).0
