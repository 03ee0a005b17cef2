-- The lines of the beginning of a text.
use Rattle.std.proofs.Common.{◌≡◌, ℕ, ◌+◌, ◌-◌, ◌<◌, ◌≤◌, ◌⊎◌, Bool, true, false, ltb, ◌||◌, List, [], ◌∷◌, ◌++◌, length, take, refl, sym, ap, ◌∙◌, inl, inr, arith, append-nil, append_assoc, length-append}
use Rattle.std.proofs.lemmas.Bool.{cases_Bool, eqb-true, or_left, or_right, lt-ltb, cond-true, cond-false}
use Rattle.std.proofs.lemmas.Bool.Decides.{nat_tests}
use Rattle.std.proofs.lemmas.List.{take_all}
use Rattle.std.proofs.lemmas.List.Elements.{All-append, All-nil, All-cons}
use Rattle.std.proofs.Math.Seq.{take-append-add}
use Rattle.command_text.specs.Held.{HasNoFeed}
use Rattle.command_text.proofs.FeedLemmas.{lines_at_feed, whole_lines_at_feed, whole_lines_of_part}
use Rattle.house_base.specs.Text.{Text}
use Rattle.house_model.specs.declared.limits.TheConstants.{MOST_BYTES, MOST_LINES}
use Rattle.house_model.specs.Heard.{heard, is_over, whole_lines}
use Rattle.house_model.specs.Text.{Lines, lines, without_return}
use Rattle.input_run.proofs.LineLemmas.{is_feed, lines-some}

-- The lines of a text are those that end in a front of it, and more: at least one where bytes follow.
pub record HasFront (front all : Lines) (behind : Text) : Type 0 where
  pub more : Lines
  pub parts : all ≡ front ++ more
  pub some : 0 < length behind → 1 ≤ length more

no_feed_more : (front : Text) (x : ℕ) → HasNoFeed front → is_feed x ≡ false → HasNoFeed (front ++ x ∷ [])
no_feed_more front x none other = All-append (λ byte. is_feed byte ≡ false) front (x ∷ []) none (All-cons (λ byte. is_feed byte ≡ false) x [] other (All-nil (λ byte. is_feed byte ≡ false)))

at_feed : (front : Text) (x : ℕ) (xs behind : Text) → HasNoFeed front → is_feed x ≡ true → HasFront (whole_lines ([] ++ xs)) (lines ([] ++ (xs ++ behind))) behind →
    HasFront (whole_lines (front ++ x ∷ xs)) (lines (front ++ (x ∷ xs ++ behind))) behind
at_feed front x xs behind none feed later =
    let ten : x ≡ 10 = eqb-true x 10 feed in
    record {
      more = later.more;
      parts = ap (λ b. lines (front ++ (b ∷ (xs ++ behind)))) ten ∙ lines_at_feed front (xs ++ behind) none ∙ ap (λ ls. without_return front ∷ ls) later.parts
          ∙ ap (λ ls. ls ++ later.more) (sym (ap (λ b. whole_lines (front ++ b ∷ xs)) ten ∙ whole_lines_at_feed front xs none));
      some = later.some;
    }

in_part : (front : Text) (x : ℕ) (xs behind : Text) → HasFront (whole_lines ((front ++ x ∷ []) ++ xs)) (lines ((front ++ x ∷ []) ++ (xs ++ behind))) behind →
    HasFront (whole_lines (front ++ x ∷ xs)) (lines (front ++ (x ∷ xs ++ behind))) behind
in_part front x xs behind later =
    let same : (front ++ x ∷ []) ++ xs ≡ front ++ x ∷ xs = append_assoc front (x ∷ []) xs in
    let same_all : (front ++ x ∷ []) ++ (xs ++ behind) ≡ front ++ (x ∷ xs ++ behind) = append_assoc front (x ∷ []) (xs ++ behind) in
    record { more = later.more; parts = ap lines (sym same_all) ∙ later.parts ∙ ap (λ t. whole_lines t ++ later.more) same; some = later.some }

lines-front_from : (front text behind : Text) → HasNoFeed front → HasFront (whole_lines (front ++ text)) (lines (front ++ (text ++ behind))) behind
lines-front_from front [] behind none =
    record {
      more = lines (front ++ behind);
      parts = ap (λ ls. ls ++ lines (front ++ behind)) (sym (ap whole_lines (append-nil front) ∙ whole_lines_of_part front none));
      some = λ some. lines-some (front ++ behind) (omega (arith, length-append front behind));
    }
lines-front_from front (x ∷ xs) behind none = elim (cases_Bool (is_feed x)) [
  | inl feed ↦ at_feed front x xs behind none feed (lines-front_from [] xs behind (All-nil (λ byte. is_feed byte ≡ false)))
  | inr other ↦ in_part front x xs behind (lines-front_from (front ++ x ∷ []) xs behind (no_feed_more front x none other))
]

-- the lines of a text behind a front
pub lines-front : (text behind : Text) → HasFront (whole_lines text) (lines (text ++ behind)) behind
lines-front text behind = lines-front_from [] text behind (All-nil (λ byte. is_feed byte ≡ false))

-- The lines that end in a text are those that end in a front of it, and more.
pub record HasWholeFront (front all : Lines) : Type 0 where
  pub more : Lines
  pub parts : all ≡ front ++ more

at_feed_whole : (front : Text) (x : ℕ) (xs behind : Text) → HasNoFeed front → is_feed x ≡ true → HasWholeFront (whole_lines ([] ++ xs)) (whole_lines ([] ++ (xs ++ behind))) →
    HasWholeFront (whole_lines (front ++ x ∷ xs)) (whole_lines (front ++ (x ∷ xs ++ behind)))
at_feed_whole front x xs behind none feed later =
    let ten : x ≡ 10 = eqb-true x 10 feed in
    record {
      more = later.more;
      parts = ap (λ b. whole_lines (front ++ (b ∷ (xs ++ behind)))) ten ∙ whole_lines_at_feed front (xs ++ behind) none ∙ ap (λ ls. without_return front ∷ ls) later.parts
          ∙ ap (λ ls. ls ++ later.more) (sym (ap (λ b. whole_lines (front ++ b ∷ xs)) ten ∙ whole_lines_at_feed front xs none));
    }

in_part_whole : (front : Text) (x : ℕ) (xs behind : Text) → HasWholeFront (whole_lines ((front ++ x ∷ []) ++ xs)) (whole_lines ((front ++ x ∷ []) ++ (xs ++ behind))) →
    HasWholeFront (whole_lines (front ++ x ∷ xs)) (whole_lines (front ++ (x ∷ xs ++ behind)))
in_part_whole front x xs behind later =
    let same : (front ++ x ∷ []) ++ xs ≡ front ++ x ∷ xs = append_assoc front (x ∷ []) xs in
    let same_all : (front ++ x ∷ []) ++ (xs ++ behind) ≡ front ++ (x ∷ xs ++ behind) = append_assoc front (x ∷ []) (xs ++ behind) in
    record { more = later.more; parts = ap whole_lines (sym same_all) ∙ later.parts ∙ ap (λ t. whole_lines t ++ later.more) same }

whole-front_from : (front text behind : Text) → HasNoFeed front → HasWholeFront (whole_lines (front ++ text)) (whole_lines (front ++ (text ++ behind)))
whole-front_from front [] behind none =
    record {
      more = whole_lines (front ++ behind);
      parts = ap (λ ls. ls ++ whole_lines (front ++ behind)) (sym (ap whole_lines (append-nil front) ∙ whole_lines_of_part front none));
    }
whole-front_from front (x ∷ xs) behind none = elim (cases_Bool (is_feed x)) [
  | inl feed ↦ at_feed_whole front x xs behind none feed (whole-front_from [] xs behind (All-nil (λ byte. is_feed byte ≡ false)))
  | inr other ↦ in_part_whole front x xs behind (whole-front_from (front ++ x ∷ []) xs behind (no_feed_more front x none other))
]

pub whole-front : (text behind : Text) → HasWholeFront (whole_lines text) (whole_lines (text ++ behind))
whole-front text behind = whole-front_from [] text behind (All-nil (λ byte. is_feed byte ≡ false))

-- What it means that a text is not over the limits.

within_by : (most_bytes most_lines bytes lines : ℕ) → (ltb most_bytes bytes || ltb most_lines lines) ≡ false → (bytes ≤ most_bytes) × (lines ≤ most_lines)
within_by m n a b h = (grind (arith, nat_tests), grind (arith, nat_tests))

pub within-limits : (text : Text) → is_over text ≡ false → (length text ≤ MOST_BYTES) × (length (lines text) ≤ MOST_LINES)
unfolding is_over
within-limits text h = within_by MOST_BYTES MOST_LINES (length text) (length (lines text)) h

within_from : (most_bytes most_lines bytes lines : ℕ) → bytes ≤ most_bytes → lines ≤ most_lines → (ltb most_bytes bytes || ltb most_lines lines) ≡ false
within_from m n a b h l = grind (arith, nat_tests)

pub within-from : (text : Text) → length text ≤ MOST_BYTES → length (lines text) ≤ MOST_LINES → is_over text ≡ false
unfolding is_over
within-from text h l = within_from MOST_BYTES MOST_LINES (length text) (length (lines text)) h l

pub over-by_bytes : (text : Text) → MOST_BYTES < length text → is_over text ≡ true
unfolding is_over
over-by_bytes text h = or_left (ltb MOST_BYTES (length text)) (ltb MOST_LINES (length (lines text))) (lt-ltb MOST_BYTES (length text) h)

pub over-by_lines : (text : Text) → MOST_LINES < length (lines text) → is_over text ≡ true
unfolding is_over
over-by_lines text h = or_right (ltb MOST_BYTES (length text)) (ltb MOST_LINES (length (lines text))) (lt-ltb MOST_LINES (length (lines text)) h)

-- no more lines end in a text than it has
pub whole-few : (text : Text) → is_over text ≡ false → length (whole_lines text) ≤ MOST_LINES
whole-few text within =
    let front = lines-front text [] in
    let count : length (lines text) ≡ length (whole_lines text) + length front.more = ap (λ t. length (lines t)) (sym (append-nil text)) ∙ ap length front.parts ∙ length-append (whole_lines text) front.more in
    omega (arith, count, (within-limits text within).1)

take_front : {X : Type 0} (n : ℕ) (xs ys : List X) → length xs ≤ n → take n (xs ++ ys) ≡ xs ++ take (n - length xs) ys
take_front n xs ys h = ap (λ k. take k (xs ++ ys)) (let e : n ≡ length xs + (n - length xs) = omega arith in e) ∙ take-append-add xs ys (n - length xs)

pub heard_over : (input : Text) → is_over input ≡ true → heard input ≡ take MOST_LINES (whole_lines (take MOST_BYTES input))
unfolding heard
heard_over input over = cond-true (is_over input) (take MOST_LINES (whole_lines (take MOST_BYTES input))) (lines input) over

pub heard_within : (input : Text) → is_over input ≡ false → heard input ≡ lines input
unfolding heard
heard_within input within = cond-false (is_over input) (take MOST_LINES (whole_lines (take MOST_BYTES input))) (lines input) within

-- of an input over the limits, the lines that end in a front of it within them are heard first
heard_over_front : (text behind : Text) → is_over text ≡ false → is_over (text ++ behind) ≡ true →
    heard (text ++ behind) ≡ whole_lines text ++ take (MOST_LINES - length (whole_lines text)) (whole-front text (take (MOST_BYTES - length text) behind)).more
heard_over_front text behind within over =
    let limits = within-limits text within in
    let front = whole-front text (take (MOST_BYTES - length text) behind) in
    heard_over (text ++ behind) over
    ∙ ap (λ t. take MOST_LINES (whole_lines t)) (take_front MOST_BYTES text behind limits.0)
    ∙ ap (take MOST_LINES) front.parts
    ∙ take_front MOST_LINES (whole_lines text) front.more (whole-few text within)

-- the lines that end in a front within the limits are heard, whatever follows
pub heard-front : (text behind : Text) → is_over text ≡ false → HasWholeFront (whole_lines text) (heard (text ++ behind))
heard-front text behind within = by_limits (is_over (text ++ behind)) refl where
  by_limits : (b : Bool) → is_over (text ++ behind) ≡ b → HasWholeFront (whole_lines text) (heard (text ++ behind))
  by_limits true over = record {
    more = take (MOST_LINES - length (whole_lines text)) (whole-front text (take (MOST_BYTES - length text) behind)).more;
    parts = heard_over_front text behind within over;
  }
  by_limits false fits = record { more = (lines-front text behind).more; parts = heard_within (text ++ behind) fits ∙ (lines-front text behind).parts }

-- an input with bytes behind a full front is over the limits
pub over-full : (text behind : Text) → (length text ≡ MOST_BYTES) ⊎ (length (whole_lines text) ≡ MOST_LINES) → 0 < length behind → is_over (text ++ behind) ≡ true
over-full text behind (inl bytes) some = over-by_bytes (text ++ behind) (omega (arith, length-append text behind))
over-full text behind (inr full) some =
    let front = lines-front text behind in
    let count : length (lines (text ++ behind)) ≡ length (whole_lines text) + length front.more = ap length front.parts ∙ length-append (whole_lines text) front.more in
    over-by_lines (text ++ behind) (omega (arith, count, front.some some))

no_room : {X : Type 0} (n : ℕ) (xs : List X) → n ≡ 0 → take n xs ≡ []
no_room n xs h = rw h refl

-- and no other lines are heard of it
pub heard-full : (text behind : Text) → is_over text ≡ false → (length text ≡ MOST_BYTES) ⊎ (length (whole_lines text) ≡ MOST_LINES) → 0 < length behind →
    heard (text ++ behind) ≡ whole_lines text
heard-full text behind within (inl bytes) some =
    let front_only : take MOST_BYTES (text ++ behind) ≡ text =
    take_front MOST_BYTES text behind (omega (arith, bytes)) ∙ ap (λ t. text ++ t) (no_room (MOST_BYTES - length text) behind (omega (arith, bytes))) ∙ append-nil text in
    heard_over (text ++ behind) (over-full text behind (inl bytes) some)
    ∙ ap (λ t. take MOST_LINES (whole_lines t)) front_only
    ∙ take_all MOST_LINES (whole_lines text) (whole-few text within)
heard-full text behind within (inr full) some =
    heard_over_front text behind within (over-full text behind (inr full) some)
    ∙ ap (λ ls. whole_lines text ++ ls) (no_room (MOST_LINES - length (whole_lines text)) (whole-front text (take (MOST_BYTES - length text) behind)).more (omega (arith, full)))
    ∙ append-nil (whole_lines text)
