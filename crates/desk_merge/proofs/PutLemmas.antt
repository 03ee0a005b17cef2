-- Review lines, put into others.
use Rattle.std.proofs.Common.{◌≡◌, ℕ, zero, suc, ◌+◌, ◌<◌, ◌≤◌, Bool, true, false, cond, not, ◌&&◌, ◌||◌, List, [], ◌∷◌, ◌++◌, filter, length, map, take, drop, get_or, bytes_eq, refl, sym, ap, ◌∙◌, append_assoc, arith, Some, None, add-one, inl, inr}
use Rattle.std.specs.Prelude.{codes, decimal, slice_get}
use Rattle.std.specs.declared.cmp.Ordering.TheVariants.{Equal}
use Rattle.std.specs.FinMap.{entries, entries_sorted, get-entries, get-retain_keys, len, len-entries, retain_keys}
use Rattle.std.specs.FinMap.Entries.{find-where_key, is_sorted-where_key, same_entries, where_key}
use Rattle.std.specs.List.{list_any}
use Rattle.std.specs.Option.{option_map_or}
use Rattle.std.proofs.lemmas.Bool.{cases_Bool, true≢false}
use Rattle.std.proofs.lemmas.Fmt.{length-decimal-le}
use Rattle.std.proofs.lemmas.List.{length-map}
use Rattle.std.proofs.lemmas.List.Elements.{All-head, All-tail, filter-append}
use Rattle.house_base.specs.declared.limits.TheConstants.{MOST_POINTS}
use Rattle.house_base.specs.Name.{is_name_byte}
use Rattle.house_base.specs.Text.{Text}
use Rattle.house_base.proofs.AmongLemmas.{same_text}
use Rattle.house_model.specs.Isolation.{is_by, without}
use Rattle.house_model.specs.Text.{Lines, word, words}
use Rattle.house_model.specs.Verbs.{is_review}
use Rattle.command_text.specs.Held.{HasNoFeed}
use Rattle.command_text.proofs.JoinedLemmas.{word_of_name, word_of_number, words_of_joined}
use Rattle.command_text.proofs.LineLemmas.{first_word}
use Rattle.desk_merge.specs.Desk.{AreItems, IsItem}
use Rattle.desk_merge.specs.Joined.{Item, Joined, Key, key_cmp}
use Rattle.desk_merge.specs.Put.{due, is_close, put_before, put_in, review_line, review_lines, review_words, without_reviewer}
use Rattle.desk_merge.proofs.HeldLemmas.{spaced}
use Rattle.desk_merge.proofs.OrderLemmas.{key_same, key_total}
use Rattle.desk_merge.proofs.ScanLemmas.{free_word, name_free, number_free}

neither : (a b : Bool) → (a || b) ≡ false → (a ≡ false) × (b ≡ false)
neither true b h = absurd (true≢false h)
neither false b h = (refl, h)

one_kept : (test : Text → Bool) (others lines : Lines) (x : Text) (keeps : Bool) → test x ≡ false →
    cond keeps (x ∷ put_before test others lines) (put_before test others lines) ≡ put_before test others (cond keeps (x ∷ lines) lines)
one_kept test others lines x true other = sym (ap (λ b. cond b (others ++ (x ∷ lines)) (x ∷ put_before test others lines)) other)
one_kept test others lines x false other = refl

-- Lines put in front of the first that passes a test.

pub put_before_none : (test : Text → Bool) (others lines : Lines) → list_any test lines ≡ false → put_before test others lines ≡ lines
put_before_none test others [] h = refl
put_before_none test others (line ∷ lines) h =
    let parts = neither (test line) (list_any test lines) h in
    ap (λ b. cond b (others ++ (line ∷ lines)) (line ∷ put_before test others lines)) parts.0 ∙ ap (λ ls. line ∷ ls) (put_before_none test others lines parts.1)

pub put_before_first : (test : Text → Bool) (others lines : Lines) (line : Text) (rest : Lines) → list_any test lines ≡ false → test line ≡ true →
    put_before test others (lines ++ line ∷ rest) ≡ lines ++ (others ++ line ∷ rest)
put_before_first test others [] line rest h here = ap (λ b. cond b (others ++ (line ∷ rest)) (line ∷ put_before test others rest)) here
put_before_first test others (x ∷ lines) line rest h here =
    let parts = neither (test x) (list_any test lines) h in
    ap (λ b. cond b (others ++ (x ∷ (lines ++ line ∷ rest))) (x ∷ put_before test others (lines ++ line ∷ rest))) parts.0 ∙ ap (λ ls. x ∷ ls) (put_before_first test others lines line rest parts.1 here)

pub put_before_behind : (test : Text → Bool) (others lines : Lines) (line : Text) → list_any test lines ≡ true → put_before test others (lines ++ line ∷ []) ≡ put_before test others lines ++ line ∷ []
put_before_behind test others [] line h = absurd (true≢false (sym h))
put_before_behind test others (x ∷ lines) line h = elim (cases_Bool (test x)) [
  | inl here ↦
      ap (λ b. cond b (others ++ (x ∷ (lines ++ line ∷ []))) (x ∷ put_before test others (lines ++ line ∷ []))) here
      ∙ sym (append_assoc others (x ∷ lines) (line ∷ []))
      ∙ ap (λ ls. ls ++ line ∷ []) (sym (ap (λ b. cond b (others ++ (x ∷ lines)) (x ∷ put_before test others lines)) here))
  | inr other ↦
      let rest : list_any test lines ≡ true = sym (ap (λ b. b || list_any test lines) other) ∙ h in
      ap (λ b. cond b (others ++ (x ∷ (lines ++ line ∷ []))) (x ∷ put_before test others (lines ++ line ∷ []))) other
      ∙ ap (λ ls. x ∷ ls) (put_before_behind test others lines line rest)
      ∙ ap (λ ls. ls ++ line ∷ []) (sym (ap (λ b. cond b (others ++ (x ∷ lines)) (x ∷ put_before test others lines)) other))
]

-- some lines are left out, but none that passes the test
filter-put_before : (test keep : Text → Bool) (others lines : Lines) → ((line : Text) → test line ≡ true → keep line ≡ true) →
    filter keep (put_before test others lines) ≡ put_before test (filter keep others) (filter keep lines)
filter-put_before test keep others [] kept = refl
filter-put_before test keep others (x ∷ lines) kept = elim (cases_Bool (test x)) [
  | inl here ↦
      let stays : filter keep (x ∷ lines) ≡ x ∷ filter keep lines = ap (λ b. cond b (x ∷ filter keep lines) (filter keep lines)) (kept x here) in
      ap (λ b. filter keep (cond b (others ++ (x ∷ lines)) (x ∷ put_before test others lines))) here
      ∙ filter-append keep others (x ∷ lines)
      ∙ ap (λ ls. filter keep others ++ ls) stays
      ∙ sym (ap (put_before test (filter keep others)) stays ∙ ap (λ b. cond b (filter keep others ++ (x ∷ filter keep lines)) (x ∷ put_before test (filter keep others) (filter keep lines))) here)
  | inr other ↦
      ap (λ b. filter keep (cond b (others ++ (x ∷ lines)) (x ∷ put_before test others lines))) other
      ∙ ap (λ ls. cond (keep x) (x ∷ ls) ls) (filter-put_before test keep others lines kept)
      ∙ one_kept test (filter keep others) (filter keep lines) x (keep x) other
]

-- The words of a review line.

pub words_of_review : (e : Item) → IsItem e → words (review_line e) ≡ review_words e
unfolding review_line
words_of_review e f =
    words_of_joined (review_words e) (refl, (word_of_name e.0.0 f.reviewer, (word_of_name e.0.1 f.proposal, (word_of_number e.1.1 (omega (arith, f.points)), tt))))

pub review_is : (e : Item) → IsItem e → is_review (review_line e) ≡ true
unfolding is_review
review_is e f = ap (λ w. bytes_eq w (codes "review")) (first_word (review_line e) (codes "review") _ (words_of_review e f))

reviewer_is : (e : Item) → IsItem e → word (review_line e) 1 ≡ e.0.0
unfolding word
reviewer_is e f = ap (λ ws. option_map_or (λ x. x) (slice_get ws 1) []) (words_of_review e f)

pub review_free : (e : Item) → IsItem e → HasNoFeed (review_line e)
unfolding review_line
review_free e f =
    spaced (codes "review") _ (free_word 10 is_name_byte (codes "review") refl refl)
    (spaced e.0.0 _ (name_free 10 e.0.0 refl f.reviewer)
    (spaced e.0.1 _ (name_free 10 e.0.1 refl f.proposal) (number_free 10 e.1.1 refl (omega (arith, f.points)))))

-- Without what one reviewer wrote.

by_reviewer : (name : Text) (e : Item) → IsItem e → not (is_by name (review_line e)) ≡ not (bytes_eq e.0.0 name)
unfolding is_by
by_reviewer name e f =
    ap (λ b. not (b && bytes_eq (word (review_line e) 1) name)) (review_is e f) ∙ ap (λ w. not (bytes_eq w name)) (reviewer_is e f)

close_stays : (name line : Text) → is_close line ≡ true → not (is_by name line) ≡ true
unfolding is_close is_by is_review
close_stays name line h = ap (λ w. not (bytes_eq w (codes "review") && bytes_eq (word line 1) name)) (same_text (word line 0) (codes "close") h)

map_kept : (keeps : Bool) (e : Item) (es : List Item) → cond keeps (review_line e ∷ map review_line es) (map review_line es) ≡ map review_line (cond keeps (e ∷ es) es)
map_kept true e es = refl
map_kept false e es = refl

reviews_kept : (name : Text) (es : List Item) → AreItems es →
    filter (λ line. not (is_by name line)) (map review_line es) ≡ map review_line (where_key key_cmp (λ key. not (bytes_eq key.0 name)) es)
reviews_kept name [] h = refl
reviews_kept name (e ∷ es) h =
    let rest = filter (λ line. not (is_by name line)) (map review_line es) in
    ap (λ b. cond b (review_line e ∷ rest) rest) (by_reviewer name e (All-head IsItem e es h))
    ∙ ap (λ ls. cond (not (bytes_eq e.0.0 name)) (review_line e ∷ ls) ls) (reviews_kept name es (All-tail IsItem e es h))
    ∙ map_kept (not (bytes_eq e.0.0 name)) e (where_key key_cmp (λ key. not (bytes_eq key.0 name)) es)

entries-retain_keys : (m : Joined) (p : Key → Bool) → entries (retain_keys m p) ≡ where_key key_cmp p (entries m)
entries-retain_keys m p =
    same_entries key_cmp key_total key_same (entries (retain_keys m p)) (where_key key_cmp p (entries m)) (entries_sorted (retain_keys m p)) (is_sorted-where_key key_cmp p (entries m) (entries_sorted m)) (λ q.
    let alike = λ (x : Key) (e : key_cmp q x ≡ Equal). ap p (sym (key_same q x e)) in
    sym (get-entries (retain_keys m p) q)
    ∙ get-retain_keys m p q alike
    ∙ ap (λ o. cond (p q) o None) (get-entries m q)
    ∙ sym (find-where_key key_cmp p q alike (entries m)))

pub without-put_in : (name : Text) (lines : Lines) (m : Joined) → AreItems (entries m) → without name (put_in lines m) ≡ put_in (without name lines) (without_reviewer name m)
unfolding put_in without review_lines without_reviewer
without-put_in name lines m items =
    filter-put_before is_close (λ line. not (is_by name line)) (map review_line (entries m)) lines (close_stays name)
    ∙ ap (λ others. put_before is_close others (filter (λ line. not (is_by name line)) lines))
    (reviews_kept name (entries m) items ∙ ap (map review_line) (sym (entries-retain_keys m (λ key. not (bytes_eq key.0 name)))))

-- Step by step.

mapped_at : (es : List Item) (i : ℕ) (d : Item) → i < length es → slice_get (map review_line es) i ≡ Some (review_line (get_or es i d))
mapped_at [] i d within = absurd (omega arith)
mapped_at (e ∷ es) zero d within = refl
mapped_at (e ∷ es) (suc i) d within = mapped_at es i d (omega arith)

take_suc : {A : Type 0} (xs : List A) (i : ℕ) (x : A) → slice_get xs i ≡ Some x → take (suc i) xs ≡ take i xs ++ x ∷ []
take_suc [] i x h = absurd (cc)
take_suc (y ∷ ys) zero x h = let same : y ≡ x = cc in ap (λ z. z ∷ []) same
take_suc (y ∷ ys) (suc i) x h = ap (λ zs. y ∷ zs) (take_suc ys i x h)

drop_suc : {A : Type 0} (xs : List A) (i : ℕ) (x : A) → slice_get xs i ≡ Some x → drop i xs ≡ x ∷ drop (suc i) xs
drop_suc [] i x h = absurd (cc)
drop_suc (y ∷ ys) zero x h = let same : y ≡ x = cc in ap (λ z. z ∷ ys) same
drop_suc (y ∷ ys) (suc i) x h = drop_suc ys i x h

pub review_at : (m : Joined) (i : ℕ) (d : Item) → i < length (entries m) → slice_get (review_lines m) i ≡ Some (review_line (get_or (entries m) i d))
unfolding review_lines
review_at m i d within = mapped_at (entries m) i d within

pub take_next : {A : Type 0} (xs : List A) (i : ℕ) (x : A) → slice_get xs i ≡ Some x → take (i + 1) xs ≡ take i xs ++ x ∷ []
take_next xs i x h = ap (λ n. take n xs) (add-one i) ∙ take_suc xs i x h

pub drop_at : {A : Type 0} (xs : List A) (i : ℕ) (x : A) → slice_get xs i ≡ Some x → drop i xs ≡ x ∷ drop (i + 1) xs
drop_at xs i x h = drop_suc xs i x h ∙ ap (λ n. x ∷ drop n xs) (sym (add-one i))

-- the review line, from its words
pub review_spelled : (e : Item) (reviewer proposal points : Text) → reviewer ≡ e.0.0 → proposal ≡ e.0.1 → points ≡ decimal e.1.1 → codes "review " ++ (reviewer ++ 32 ∷ (proposal ++ 32 ∷ points)) ≡ review_line e
unfolding review_line
review_spelled e reviewer proposal points first second third = λ i. codes "review " ++ (first i ++ 32 ∷ (second i ++ 32 ∷ third i))

pub short_points : (n : ℕ) → n ≤ MOST_POINTS → length (decimal n) ≤ 3
short_points n small = length-decimal-le 3 n (omega arith) (omega arith) (omega arith)

pub length-review_lines : (m : Joined) → length (review_lines m) ≡ len m
unfolding review_lines
length-review_lines m = length-map (entries m) review_line ∙ sym (len-entries m)

-- What is due of lines.

pub due_goes_on : (waits : Bool) (m : Joined) (line : Text) (rest : Lines) → (waits ≡ true → is_close line ≡ false) → due waits m (line ∷ rest) ≡ line ∷ due waits m rest
unfolding put_in
due_goes_on true m line rest h = ap (λ b. cond b (review_lines m ++ (line ∷ rest)) (line ∷ put_before is_close (review_lines m) rest)) (h refl)
due_goes_on false m line rest h = refl

pub due_at_close : (waits : Bool) (m : Joined) (line : Text) (rest : Lines) → waits ≡ true → is_close line ≡ true → due waits m (line ∷ rest) ≡ review_lines m ++ (line ∷ rest)
unfolding put_in
due_at_close waits m line rest w h =
    ap (λ b. due b m (line ∷ rest)) w ∙ ap (λ b. cond b (review_lines m ++ (line ∷ rest)) (line ∷ put_before is_close (review_lines m) rest)) h

pub due_of_none : (waits : Bool) (m : Joined) → due waits m [] ≡ []
unfolding put_in
due_of_none true m = refl
due_of_none false m = refl
