-- How reviews are held: the text of a desk file says its items, and each line stands where the ends say.
use Rattle.std.proofs.Common.{◌≡◌, ℕ, zero, suc, ◌+◌, ◌-◌, ◌<◌, ◌≤◌, ◌^◌, true, false, eqb, List, [], ◌∷◌, ◌++◌, length, take, drop, get_or, map, refl, sym, ap, ◌∙◌, subst, append_assoc, arith, length-append, Some}
use Rattle.std.specs.Prelude.{codes, decimal, slice_get}
use Rattle.std.specs.FinMap.{empty, empty_of_len, entries, entries-from_sorted, is_sorted, len, len-empty, len-entries}
use Rattle.std.specs.List.{join_with_byte, slice_split}
use Rattle.std.specs.Option.{option_map_or}
use Rattle.std.proofs.lemmas.List.{append-nil, get_or_read}
use Rattle.std.proofs.lemmas.List.Elements.{All-append, All-cons, All-head, All-nil, All-push, All-tail}
use Rattle.std.proofs.lemmas.List.Splits.{length-slice_split, slice_split_at}
use Rattle.std.proofs.Math.Seq.{drop-append_seam, take-append_seam}
use Rattle.house_base.specs.Name.{is_name_byte}
use Rattle.house_base.specs.Text.{Text}
use Rattle.house_model.specs.Heard.{without_last}
use Rattle.house_model.specs.Report.{line_of}
use Rattle.house_model.specs.Said.{number}
use Rattle.house_model.specs.Text.{word, words}
use Rattle.command_text.proofs.JoinedLemmas.{word_of_name, word_of_number, words_of_joined}
use Rattle.command_text.proofs.NumberLemmas.{number_is}
use Rattle.desk_merge.specs.Desk.{AreItems, CanFollow, IsItem, desk_text, entry_line, entry_words}
use Rattle.desk_merge.specs.Held.{AreHeld, item_at, item_in, item_on, items_in, joined_in, line_ends}
use Rattle.desk_merge.specs.Joined.{Item, Joined, key_cmp}
use Rattle.desk_merge.specs.Scan.{HasNo}
use Rattle.desk_merge.proofs.OrderLemmas.{so}
use Rattle.desk_merge.proofs.ScanLemmas.{free_word, name_free, number_free, printed}

-- The words of a line.

words_of_line : (e : Item) → IsItem e → words (join_with_byte 32 (entry_words e)) ≡ entry_words e
words_of_line e f =
    words_of_joined (entry_words e) (refl, (word_of_name e.0.0 f.reviewer, (word_of_name e.0.1 f.proposal, (word_of_number e.1.0 f.revision, (word_of_number e.1.1 (omega (arith, f.points)), tt)))))

number_back : (n : ℕ) → n < 2 ^ 64 → number (decimal n) ≡ n
number_back n fits = number_is (2 ^ 64 - 1) n (decimal n) (omega arith) (printed (2 ^ 64 - 1) n (omega arith) (omega arith))

item_of_line : (e : Item) → IsItem e → item_in (join_with_byte 32 (entry_words e)) ≡ e
unfolding item_in word
item_of_line e f =
    let w = words_of_line e f in
    let reviewer = ap (λ ws. option_map_or (λ x. x) (slice_get ws 1) []) w in
    let proposal = ap (λ ws. option_map_or (λ x. x) (slice_get ws 2) []) w in
    let revision = ap (λ ws. number (option_map_or (λ x. x) (slice_get ws 3) [])) w ∙ number_back e.1.0 f.revision in
    let points = ap (λ ws. number (option_map_or (λ x. x) (slice_get ws 4) [])) w ∙ number_back e.1.1 (omega (arith, f.points)) in
    λ i. ((reviewer i, proposal i), (revision i, points i))

pub spaced : (w rest : Text) → HasNo 10 w → HasNo 10 rest → HasNo 10 (w ++ 32 ∷ rest)
spaced w rest a b = All-append (λ c. eqb c 10 ≡ false) w (32 ∷ rest) a (All-cons (λ c. eqb c 10 ≡ false) 32 rest refl b)

-- a line has no line feed before its end
pub line_free : (e : Item) → IsItem e → HasNo 10 (join_with_byte 32 (entry_words e))
line_free e f =
    spaced (codes "entry") _ (free_word 10 is_name_byte (codes "entry") refl refl)
    (spaced e.0.0 _ (name_free 10 e.0.0 refl f.reviewer)
    (spaced e.0.1 _ (name_free 10 e.0.1 refl f.proposal)
    (spaced (decimal e.1.0) _ (number_free 10 e.1.0 refl f.revision) (number_free 10 e.1.1 refl (omega (arith, f.points))))))

pub line_and_behind : (e : Item) (more : Text) → entry_line e ++ more ≡ join_with_byte 32 (entry_words e) ++ 10 ∷ more
unfolding entry_line line_of
line_and_behind e more = append_assoc (join_with_byte 32 (entry_words e)) (10 ∷ []) more

before_feed : (t : Text) → take (length (t ++ 10 ∷ []) - 1) (t ++ 10 ∷ []) ≡ t
before_feed t =
    let size : length (t ++ 10 ∷ []) - 1 ≡ length t = omega (arith, length-append t (10 ∷ [])) in
    ap (λ n. take n (t ++ 10 ∷ [])) size ∙ take-append_seam t (10 ∷ [])

-- the line of an item says the item
pub item_on_line : (line : Text) (e : Item) → IsItem e → line ≡ entry_line e → item_on line ≡ e
unfolding entry_line line_of
item_on_line line e f is = ap item_on is ∙ ap item_in (before_feed (join_with_byte 32 (entry_words e))) ∙ item_of_line e f

-- The items that a text says.

front_stays : (x : Text) (parts : List Text) → 0 < length parts → without_last (x ∷ parts) ≡ x ∷ without_last parts
front_stays x [] h = absurd (omega arith)
front_stays x (y ∷ parts) h = refl

pub items_in-cons : (e : Item) (more : Text) → IsItem e → items_in (entry_line e ++ more) ≡ e ∷ items_in more
unfolding items_in
items_in-cons e more f =
    let line = join_with_byte 32 (entry_words e) in
    let parts = slice_split (λ b. eqb b 10) more in
    let some : 0 < length parts = omega (arith, length-slice_split (λ b. eqb b 10) more) in
    ap (λ t. map item_in (without_last (slice_split (λ b. eqb b 10) t))) (line_and_behind e more)
    ∙ ap (λ ps. map item_in (without_last ps)) (slice_split_at (λ b. eqb b 10) line 10 more (line_free e f) refl)
    ∙ ap (map item_in) (front_stays line parts some)
    ∙ ap (λ x. x ∷ map item_in (without_last parts)) (item_of_line e f)

pub items_in-desk_text : (es : List Item) → AreItems es → items_in (desk_text es) ≡ es
unfolding desk_text items_in
items_in-desk_text [] h = refl
items_in-desk_text (e ∷ es) h =
    items_in-cons e (desk_text es) (All-head IsItem e es h) ∙ ap (λ xs. e ∷ xs) (items_in-desk_text es (All-tail IsItem e es h))

-- What is held.

-- items that may stand in a desk file are held by their lines
pub held_of : (es : List Item) → AreItems es → is_sorted key_cmp es ≡ true → AreHeld (desk_text es) (line_ends 0 es)
held_of es items rise =
    let back = items_in-desk_text es items in
    record {
      spelled = ap desk_text (sym back);
      items = subst AreItems (sym back) items;
      rise = ap (is_sorted key_cmp) back ∙ rise;
      ends_are = ap (line_ends 0) (sym back);
    }

-- a text and the ends of its lines, by the map that they are seen as
pub record AreOf (m : Joined) (text : Text) (ends : List ℕ) : Type 0 where
  pub text_is : text ≡ desk_text (entries m)
  pub ends_are : ends ≡ line_ends 0 (entries m)
  pub items : AreItems (entries m)

pub seen : (m : Joined) (text : Text) (ends : List ℕ) → AreHeld text ends → joined_in text ≡ m → AreOf m text ends
seen m text ends held is =
    let same : items_in text ≡ entries m = sym (entries-from_sorted key_cmp (items_in text) (so _ held.rise)) ∙ ap entries is in
    record {
      text_is = held.spelled ∙ ap desk_text same;
      ends_are = held.ends_are ∙ ap (line_ends 0) same;
      items = subst AreItems same held.items;
    }

-- the map that the lines of items are seen as
pub entries_seen : (es : List Item) → AreItems es → is_sorted key_cmp es ≡ true → entries (joined_in (desk_text es)) ≡ es
entries_seen es items rise =
    let back = items_in-desk_text es items in
    entries-from_sorted key_cmp (items_in (desk_text es)) (so _ (ap (is_sorted key_cmp) back ∙ rise)) ∙ back

no_items : (es : List Item) → length es ≡ 0 → es ≡ []
no_items [] h = refl
no_items (e ∷ es) h = absurd (omega arith)

pub entries-empty : (m : Joined) → m ≡ empty → entries m ≡ []
entries-empty m is = no_items (entries m) (sym (len-entries m) ∙ ap len is ∙ len-empty key_cmp _)

pub nothing_held : AreHeld [] []
unfolding desk_text
nothing_held = held_of [] (All-nil IsItem) refl

pub nothing_seen : joined_in [] ≡ empty
unfolding desk_text
nothing_seen = empty_of_len (joined_in []) (len-entries (joined_in []) ∙ ap length (entries_seen [] (All-nil IsItem) refl))

-- Where the lines stand.

pub length-line_ends : (from : ℕ) (es : List Item) → length (line_ends from es) ≡ length es
length-line_ends from [] = refl
length-line_ends from (e ∷ es) = ap suc (length-line_ends (from + length (entry_line e)) es)

-- a part of a text
pub record StandsAt (text : Text) (start end : ℕ) (part : Text) : Type 0 where
  pub up : start ≤ end
  pub within : end ≤ length text
  pub part_is : take (end - start) (drop start text) ≡ part

stands_first : (before line behind : Text) (from : ℕ) → from ≡ length before → StandsAt (before ++ (line ++ behind)) from (from + length line) line
stands_first before line behind from is = record {
  up = omega arith;
  within = omega (arith, is, length-append before (line ++ behind), length-append line behind);
  part_is =
      let size : from + length line - from ≡ length line = omega arith in
      ap (λ n. take n (drop from (before ++ (line ++ behind)))) size
      ∙ ap (λ n. take (length line) (drop n (before ++ (line ++ behind)))) is
      ∙ ap (take (length line)) (drop-append_seam before (line ++ behind))
      ∙ take-append_seam line behind;
}

stands_behind : (before : Text) (from : ℕ) (es : List Item) (i : ℕ) (d : Item) → from ≡ length before → i < length es →
    StandsAt (before ++ desk_text es) (get_or (from ∷ line_ends from es) i 0) (get_or (line_ends from es) i 0) (entry_line (get_or es i d))
unfolding desk_text
stands_behind before from [] i d is below = absurd (omega arith)
stands_behind before from (e ∷ es) zero d is below = stands_first before (entry_line e) (desk_text es) from is
stands_behind before from (e ∷ es) (suc i) d is below =
    let rest = stands_behind (before ++ entry_line e) (from + length (entry_line e)) es i d (omega (arith, is, length-append before (entry_line e))) (omega arith) in
    subst (λ text. StandsAt text (get_or (line_ends from (e ∷ es)) i 0) (get_or (line_ends (from + length (entry_line e)) es) i 0) (entry_line (get_or es i d)))
    (append_assoc before (entry_line e) (desk_text es)) rest

-- the line at an index
pub line_stands : (es : List Item) (i : ℕ) (d : Item) → i < length es →
    StandsAt (desk_text es) (get_or (0 ∷ line_ends 0 es) i 0) (get_or (line_ends 0 es) i 0) (entry_line (get_or es i d))
line_stands es i d below = stands_behind [] 0 es i d refl below

-- One more line.

pub desk_text-push : (es : List Item) (e : Item) → desk_text (es ++ e ∷ []) ≡ desk_text es ++ entry_line e
unfolding desk_text
desk_text-push [] e = append-nil (entry_line e)
desk_text-push (x ∷ es) e = ap (λ t. entry_line x ++ t) (desk_text-push es e) ∙ sym (append_assoc (entry_line x) (desk_text es) (entry_line e))

pub line_ends-push : (from : ℕ) (es : List Item) (e : Item) → line_ends from (es ++ e ∷ []) ≡ line_ends from es ++ (from + length (desk_text (es ++ e ∷ []))) ∷ []
unfolding desk_text
line_ends-push from [] e = ap (λ n. n ∷ []) (omega (arith, length-append (entry_line e) []))
line_ends-push from (x ∷ es) e =
    ap (λ ends. (from + length (entry_line x)) ∷ ends) (line_ends-push (from + length (entry_line x)) es e
    ∙ ap (λ n. line_ends (from + length (entry_line x)) es ++ n ∷ []) (omega (arith, length-append (entry_line x) (desk_text (es ++ e ∷ [])))))

-- the line at an index, between the ends that were read
pub stands_in : (m : Joined) (text : Text) (ends : List ℕ) (index start end : ℕ) → AreOf m text ends → index < len m → start ≡ get_or (0 ∷ ends) index 0 → end ≡ get_or ends index end →
    StandsAt text start end (entry_line (item_at m index))
stands_in m text ends index start end held below start_is end_is =
    let es = entries m in
    let within : index < length es = omega (arith, len-entries m) in
    let many : index < length ends = omega (arith, ap length held.ends_are, length-line_ends 0 es) in
    let first : start ≡ get_or (0 ∷ line_ends 0 es) index 0 = start_is ∙ ap (λ xs. get_or (0 ∷ xs) index 0) held.ends_are in
    let last : end ≡ get_or (line_ends 0 es) index 0 = get_or_read ends index end many end_is 0 ∙ ap (λ xs. get_or xs index 0) held.ends_are in
    let stands = line_stands es index (([], []), (0, 0)) within in
    subst (λ t. StandsAt t start end (entry_line (item_at m index))) (sym held.text_is)
    (subst (λ n. StandsAt (desk_text es) n end (entry_line (item_at m index))) (sym first)
    (subst (λ n. StandsAt (desk_text es) (get_or (0 ∷ line_ends 0 es) index 0) n (entry_line (item_at m index))) (sym last) stands))

-- one more item, by what the text and the ends become
pub text_pushed : (m : Joined) (text : Text) (ends : List ℕ) (e : Item) (line : Text) (text_after : Text) → AreOf m text ends → line ≡ entry_line e → text_after ≡ text ++ line → text_after ≡ desk_text (entries m ++ e ∷ [])
text_pushed m text ends e line text_after held line_is after =
    after ∙ ap (λ t. t ++ line) held.text_is ∙ ap (λ l. desk_text (entries m) ++ l) line_is ∙ sym (desk_text-push (entries m) e)

pub ends_pushed : (m : Joined) (text : Text) (ends : List ℕ) (e : Item) (text_after : Text) (ends_after : List ℕ) (last : ℕ) → AreOf m text ends → text_after ≡ desk_text (entries m ++ e ∷ [])
    → last ≡ length text_after → ends_after ≡ ends ++ last ∷ [] → ends_after ≡ line_ends 0 (entries m ++ e ∷ [])
ends_pushed m text ends e text_after ends_after last held text_is last_is after =
    let size : last ≡ 0 + length (desk_text (entries m ++ e ∷ [])) = omega (arith, last_is, ap length text_is) in
    after
    ∙ ap (λ xs. xs ++ last ∷ []) held.ends_are
    ∙ ap (λ n. line_ends 0 (entries m) ++ n ∷ []) size
    ∙ sym (line_ends-push 0 (entries m) e)

pub items_pushed : (m : Joined) (text : Text) (ends : List ℕ) (e : Item) → AreOf m text ends → IsItem e → AreItems (entries m ++ e ∷ [])
items_pushed m text ends e held formed = All-push IsItem (entries m) e held.items formed

pub held_pushed : (m : Joined) (text : Text) (ends : List ℕ) (e : Item) (text_after : Text) (ends_after : List ℕ) → AreOf m text ends → IsItem e → CanFollow (entries m) e →
    text_after ≡ desk_text (entries m ++ e ∷ []) → ends_after ≡ line_ends 0 (entries m ++ e ∷ []) → AreHeld text_after ends_after
held_pushed m text ends e text_after ends_after held formed behind text_is ends_are =
    subst (λ t. AreHeld t ends_after) (sym text_is)
    (subst (λ xs. AreHeld (desk_text (entries m ++ e ∷ [])) xs) (sym ends_are) (held_of (entries m ++ e ∷ []) (items_pushed m text ends e held formed) behind))

pub entries_pushed : (m : Joined) (text : Text) (ends : List ℕ) (e : Item) (text_after : Text) → AreOf m text ends → IsItem e → CanFollow (entries m) e →
    text_after ≡ desk_text (entries m ++ e ∷ []) → entries (joined_in text_after) ≡ entries m ++ e ∷ []
entries_pushed m text ends e text_after held formed behind text_is =
    ap (λ t. entries (joined_in t)) text_is ∙ entries_seen (entries m ++ e ∷ []) (items_pushed m text ends e held formed) behind

-- a text begins with the line of one item
pub one_front : (a b : Item) (x y : Text) → IsItem a → IsItem b → entry_line a ++ x ≡ entry_line b ++ y → a ≡ b
one_front a b x y f g same =
    let lists : a ∷ items_in x ≡ b ∷ items_in y = sym (items_in-cons a x f) ∙ ap items_in same ∙ items_in-cons b y g in
    cc

pub one_item : (a b : Item) (rest : Text) → IsItem a → IsItem b → entry_line a ≡ entry_line b ++ rest → a ≡ b
one_item a b rest f g same = one_front a b [] rest f g (append-nil (entry_line a) ∙ same)

pub some_at : (es : List Item) (i : ℕ) (d : Item) → i < length es → slice_get es i ≡ Some (get_or es i d)
some_at [] i d below = absurd (omega arith)
some_at (e ∷ es) zero d below = refl
some_at (e ∷ es) (suc i) d below = some_at es i d (omega arith)
