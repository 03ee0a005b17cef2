-- Texts whose rows of words stand one on a line.
use Rattle.std.proofs.Common.{◌≡◌, ℕ, ◌-◌, Bool, true, false, not, ◌&&◌, eqb, List, [], ◌∷◌, ◌++◌, length, map, flat_map, All, refl, ap, ◌∙◌, inl, inr, append_assoc}
use Rattle.std.specs.Prelude.{nat_lt, slice_index}
use Rattle.std.specs.List.{slice_split, join_with_byte, list_all}
use Rattle.std.proofs.lemmas.Bool.{and_parts, and_from, cases_lt, cond-false, not-true}
use Rattle.std.proofs.lemmas.List.{get_or_past}
use Rattle.std.proofs.lemmas.List.Elements.{All-weaker}
use Rattle.std.proofs.lemmas.List.Folds.{list_all-append}
use Rattle.std.proofs.lemmas.List.Splits.{slice_split_at, slice_split_none}
use Rattle.std.proofs.lemmas.List.Sums.{AllPass-from_list_all, list_all-from_AllPass}
use Rattle.house_base.specs.Text.{Text}
use Rattle.house_base.proofs.InOrderLemmas.{In}
use Rattle.house_model.specs.Printed.{rows}
use Rattle.house_model.specs.Report.{line_of}
use Rattle.house_model.specs.Text.{Lines, is_gap, is_empty, words, without_return, without_last_empty, lines}

-- Texts of which each stands on a line of its own.

-- a byte that ends no line
abbrev is_inner : ℕ → Bool
is_inner b = not (eqb b 10) && not (eqb b 13)

no_feed : (b : ℕ) → is_inner b ≡ true → eqb b 10 ≡ false
no_feed b h = not-true (eqb b 10) (and_parts (not (eqb b 10)) (not (eqb b 13)) h).0

no_return : (b : ℕ) → is_inner b ≡ true → eqb b 13 ≡ false
no_return b h = not-true (eqb b 13) (and_parts (not (eqb b 10)) (not (eqb b 13)) h).1

-- a test that fails at each byte
free_of : (passes test : ℕ → Bool) → ((b : ℕ) → passes b ≡ true → test b ≡ false) → (t : Text) → list_all passes t ≡ true → All (λ b. test b ≡ false) t
free_of passes test free t h = All-weaker (λ b. passes b ≡ true) (λ b. test b ≡ false) free t (AllPass-from_list_all passes t h)

last_empty-dropped : (ts : Lines) → without_last_empty (ts ++ [] ∷ []) ≡ ts
last_empty-dropped [] = refl
last_empty-dropped (t ∷ []) = refl
last_empty-dropped (t ∷ u ∷ more) = ap (λ us. t ∷ us) (last_empty-dropped (u ∷ more))

no_return_at : (t : Text) (i : ℕ) → All (λ b. eqb b 13 ≡ false) t → eqb (slice_index t i) 13 ≡ false
no_return_at t i free = elim (cases_lt i (length t)) [ inl within ↦ free i 0 within | inr past ↦ ap (λ b. eqb b 13) (get_or_past t i 0 past) ]

without_return-free : (t : Text) → list_all is_inner t ≡ true → without_return t ≡ t
unfolding without_return
without_return-free t h = cond-false (eqb (slice_index t (length t - 1)) 13) _ t (no_return_at t (length t - 1) (free_of is_inner (λ b. eqb b 13) no_return t h))

-- texts that end no line
abbrev AreInner : {X : Type 0} → (X → Text) → List X → Type 0
AreInner {X} text xs = (x : X) → In x xs → list_all is_inner (text x) ≡ true

split-feeds : {X : Type 0} (text : X → Text) (xs : List X) → AreInner text xs → slice_split (λ b. eqb b 10) (flat_map (λ x. text x ++ 10 ∷ []) xs) ≡ map text xs ++ [] ∷ []
split-feeds text [] inner = refl
split-feeds text (x ∷ xs) inner =
    let rest = flat_map (λ x. text x ++ 10 ∷ []) xs in
    ap (slice_split (λ b. eqb b 10)) (append_assoc (text x) (10 ∷ []) rest)
    ∙ (slice_split_at (λ b. eqb b 10) (text x) 10 rest (free_of is_inner (λ b. eqb b 10) no_feed (text x) (inner x (inl refl))) refl
    ∙ ap (λ ts. text x ∷ ts) (split-feeds text xs (λ y m. inner y (inr m))))

returns-kept : {X : Type 0} (text : X → Text) (xs : List X) → AreInner text xs → map without_return (map text xs) ≡ map text xs
returns-kept text [] inner = refl
returns-kept text (x ∷ xs) inner =
    ap (λ t. t ∷ map without_return (map text xs)) (without_return-free (text x) (inner x (inl refl)))
    ∙ ap (λ ts. text x ∷ ts) (returns-kept text xs (λ y m. inner y (inr m)))

-- the lines of texts that stand one on a line
lines-feeds : {X : Type 0} (text : X → Text) (xs : List X) → AreInner text xs → lines (flat_map (λ x. text x ++ 10 ∷ []) xs) ≡ map text xs
unfolding lines
lines-feeds text xs inner =
    ap (λ ts. map without_return (without_last_empty ts)) (split-feeds text xs inner)
    ∙ (ap (map without_return) (last_empty-dropped (map text xs)) ∙ returns-kept text xs inner)

-- Words that are joined.

-- a byte of ASCII that ends neither a line nor a word
abbrev pub is_plain : ℕ → Bool
is_plain b = is_inner b && (not (is_gap b) && nat_lt b 128)

-- whether a text is a word: it has a byte, and only such
abbrev pub is_word : Text → Bool
is_word w = not (is_empty w) && list_all is_plain w

abbrev pub AreWords : List Text → Type 0
AreWords [] = Unit {0}
AreWords (w ∷ ws) = (is_word w ≡ true) × AreWords ws

plain_inner : (b : ℕ) → is_plain b ≡ true → is_inner b ≡ true
plain_inner b h = (and_parts (is_inner b) (not (is_gap b) && nat_lt b 128) h).0

plain_no_gap : (b : ℕ) → is_plain b ≡ true → is_gap b ≡ false
plain_no_gap b h =
    not-true (is_gap b) (and_parts (not (is_gap b)) (nat_lt b 128) (and_parts (is_inner b) (not (is_gap b) && nat_lt b 128) h).1).0

word_inner : (w : Text) → is_word w ≡ true → list_all is_inner w ≡ true
word_inner w h =
    list_all-from_AllPass is_inner w
    (All-weaker (λ b. is_plain b ≡ true) (λ b. is_inner b ≡ true) plain_inner w (AllPass-from_list_all is_plain w (and_parts (not (is_empty w)) (list_all is_plain w) h).1))

word_no_gap : (w : Text) → is_word w ≡ true → All (λ b. is_gap b ≡ false) w
word_no_gap w h = free_of is_plain is_gap plain_no_gap w (and_parts (not (is_empty w)) (list_all is_plain w) h).1

some_byte : (w : Text) → is_word w ≡ true → not (is_empty w) ≡ true
some_byte w h = (and_parts (not (is_empty w)) (list_all is_plain w) h).0

joined_inner : (ws : List Text) → AreWords ws → list_all is_inner (join_with_byte 32 ws) ≡ true
joined_inner [] h = refl
joined_inner (w ∷ []) h = word_inner w h.0
joined_inner (w ∷ v ∷ more) h =
    list_all-append is_inner w (32 ∷ join_with_byte 32 (v ∷ more))
    ∙ and_from (list_all is_inner w) (list_all is_inner (join_with_byte 32 (v ∷ more))) (word_inner w h.0) (joined_inner (v ∷ more) h.1)

-- the words of a line that was joined of them
pub words-joined : (ws : List Text) → AreWords ws → words (join_with_byte 32 ws) ≡ ws
unfolding words
words-joined [] h = refl
words-joined (w ∷ []) h = rw (slice_split_none is_gap w (word_no_gap w h.0), some_byte w h.0) refl
words-joined (w ∷ v ∷ more) h =
    rw (slice_split_at is_gap w 32 (join_with_byte 32 (v ∷ more)) (word_no_gap w h.0) refl, some_byte w h.0)
    (ap (λ ws. w ∷ ws) (words-joined (v ∷ more) h.1))

-- Rows of words.

-- rows that are made of words
abbrev pub HaveWords : {X : Type 0} → (X → List Text) → List X → Type 0
HaveWords {X} row xs = (x : X) → In x xs → AreWords (row x)

-- the lines of a text of rows
pub lines-rows : {X : Type 0} (row : X → List Text) (xs : List X) → HaveWords row xs → lines (flat_map (λ x. line_of (row x)) xs) ≡ map (λ x. join_with_byte 32 (row x)) xs
unfolding line_of
lines-rows row xs h = lines-feeds (λ x. join_with_byte 32 (row x)) xs (λ x m. joined_inner (row x) (h x m))

words-rows : {X : Type 0} (row : X → List Text) (xs : List X) → HaveWords row xs → map words (map (λ x. join_with_byte 32 (row x)) xs) ≡ map row xs
words-rows row [] h = refl
words-rows row (x ∷ xs) h =
    ap (λ ws. ws ∷ map words (map (λ x. join_with_byte 32 (row x)) xs)) (words-joined (row x) (h x (inl refl)))
    ∙ ap (λ rs. row x ∷ rs) (words-rows row xs (λ y m. h y (inr m)))

-- the rows of a text are those of which it was made
pub rows-read : {X : Type 0} (row : X → List Text) (xs : List X) → HaveWords row xs → rows (flat_map (λ x. line_of (row x)) xs) ≡ map row xs
unfolding rows
rows-read row xs h = ap (map words) (lines-rows row xs h) ∙ words-rows row xs h
