use Rattle.std.proofs.Common.{◌≡◌, ℕ, ◌<◌, ◌≤◌, ◌+◌, suc, length-take, true, cond, ltb, List, [], ◌∷◌, ◌++◌, map, length, take, get_or, refl, sym, ap, ◌∙◌, append_assoc, arith, Result, Ok, Err}
use Rattle.std.specs.Prelude.{OnErr}
use Rattle.std.specs.List.{join_with_byte}
use Rattle.std.proofs.lemmas.Bool.{le-leb, lt-leb}
use Rattle.std.proofs.lemmas.List.{take_more, map-append, length-map}
use Rattle.std.proofs.Math.Seq.{take-append_seam}
use Rattle.line_text.specs.declared.word.Word.{Word}
use Rattle.line_text.specs.Written.{Extends, written}

-- a list with one more word at its end, joined
pub join_push : (c : ℕ) (x : List ℕ) (xs : List (List ℕ)) (y : List ℕ) → join_with_byte c ((x ∷ xs) ++ y ∷ []) ≡ join_with_byte c (x ∷ xs) ++ c ∷ y
join_push c x [] y = refl
join_push c x (z ∷ xs) y = ap (λ t. x ++ (c ∷ t)) (join_push c z xs y) ∙ sym (append_assoc x (c ∷ join_with_byte c (z ∷ xs)) (c ∷ y))

pushed : (xs : List (List ℕ)) (y : List ℕ) → join_with_byte 32 (xs ++ y ∷ []) ≡ cond (ltb 0 (length xs)) (join_with_byte 32 xs ++ 32 ∷ []) (join_with_byte 32 xs) ++ y
pushed [] y = refl
pushed (x ∷ xs) y =
    let some : ltb 0 (suc (length xs)) ≡ true = le-leb 1 (suc (length xs)) (omega arith) in
    rw some (join_push 32 x xs y ∙ sym (append_assoc (join_with_byte 32 (x ∷ xs)) (32 ∷ []) y))

-- the words so far, with the space that the next one needs
pub before_next : List Word → ℕ → List ℕ
before_next words i = cond (ltb 0 i) (join_with_byte 32 (map written (take i words)) ++ 32 ∷ []) (join_with_byte 32 (map written (take i words)))

count_written : (words : List Word) (i : ℕ) → i < length words → length (map written (take i words)) ≡ i
count_written words i h = simp (length-map, length-take) (omega arith)

-- one more word
pub join_more : (words : List Word) (i : ℕ) (d : Word) → i < length words →
    join_with_byte 32 (map written (take (i + 1) words)) ≡ before_next words i ++ written (get_or words i d)
unfolding before_next
join_more words i d h =
    ap (λ ws. join_with_byte 32 (map written ws)) (take_more words i d h)
    ∙ ap (join_with_byte 32) (map-append written (take i words) (get_or words i d ∷ []))
    ∙ pushed (map written (take i words)) (written (get_or words i d))
    ∙ ap (λ n. cond (ltb 0 n) (join_with_byte 32 (map written (take i words)) ++ 32 ∷ []) (join_with_byte 32 (map written (take i words))) ++ written (get_or words i d)) (count_written words i h)

-- behind a first word comes a space
pub next_spaced : (words : List Word) (i : ℕ) → 0 < i → before_next words i ≡ join_with_byte 32 (map written (take i words)) ++ 32 ∷ []
unfolding before_next
next_spaced words i h = ap (λ b. cond b (join_with_byte 32 (map written (take i words)) ++ 32 ∷ []) (join_with_byte 32 (map written (take i words)))) (le-leb 1 i (omega arith))

pub next_first : (words : List Word) (i : ℕ) → i ≤ 0 → before_next words i ≡ join_with_byte 32 (map written (take i words))
unfolding before_next
next_first words i h = ap (λ b. cond b (join_with_byte 32 (map written (take i words)) ++ 32 ∷ []) (join_with_byte 32 (map written (take i words)))) (lt-leb 1 i (omega arith))

-- the text behind an old one, with one more word
pub line_grows : (old out : List ℕ) (words : List Word) (i : ℕ) (d : Word) → i < length words → out ≡ old ++ before_next words i →
    out ++ written (get_or words i d) ≡ old ++ join_with_byte 32 (map written (take (i + 1) words))
line_grows old out words i d h spaced =
    ap (λ t. t ++ written (get_or words i d)) spaced
    ∙ append_assoc old (before_next words i) (written (get_or words i d))
    ∙ ap (λ t. old ++ t) (sym (join_more words i d h))

-- A text that begins with an old one.

pub extends_by : (old new more : List ℕ) → new ≡ old ++ more → Extends old new
extends_by old new more same = (more, same)

pub extends_more : (old mid new : List ℕ) → Extends old mid → Extends mid new → Extends old new
extends_more old mid new first second = (first.0 ++ second.0, second.1 ∙ ap (λ t. t ++ second.0) first.1 ∙ append_assoc old first.0 second.0)

-- cut back to its length
pub cut_back : (old new : List ℕ) → Extends old new → take (length old) new ≡ old
cut_back old new extends = ap (take (length old)) extends.1 ∙ take-append_seam old extends.0

-- what holds whatever the answer is, holds at an error
pub at_error : {A E : Type 0} (answer : Result A E) (P : Type 0) → P → OnErr answer P
at_error (Ok a) P holds = tt
at_error (Err e) P holds = holds
