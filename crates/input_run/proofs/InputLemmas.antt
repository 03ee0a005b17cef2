-- What was taken of an input, over the calls of a loop.
use Rattle.std.proofs.Common.{◌≡◌, ◌≢◌, ℕ, ◌+◌, ◌-◌, ◌<◌, ◌≤◌, List, [], ◌∷◌, ◌++◌, length, take, drop, refl, sym, ap, ◌∙◌, arith, append_assoc, append-nil, length-append, length-take, subst, inl, inr}
use Rattle.std.specs.Prelude.{Option, None, Some, IfSome, IsSomeAnd}
use Rattle.std.proofs.lemmas.List.{take-append-drop}
use Rattle.std.proofs.Math.Seq.{take-append_seam}
use Rattle.input_run.specs.declared.line_run.LineRun.{LineRun}
use Rattle.house_io.specs.Faults.{Rose}
use Rattle.house_io.specs.Source.{Takes}
use Rattle.house_base.specs.Text.{Text}
use Rattle.house_model.specs.declared.goal.Goal.{Goal}
use Rattle.house_model.specs.Heard.{whole_lines}
use Rattle.house_model.specs.Outcome.{outcome}
use Rattle.house_model.specs.Text.{Lines}
use Rattle.input_run.specs.declared.hearing.Hearing.{Hearing}
use Rattle.input_run.specs.declared.input.Heard.TheVariants as heard
use Rattle.input_run.proofs.EndLemmas.{goes_on}
use Rattle.house_model.specs.declared.limits.TheConstants.{MOST_BYTES, MOST_LINES}
use Rattle.input_run.proofs.FrontLemmas.{whole-few, within-limits}
use Rattle.input_run.proofs.TellLemmas.{tells_ended, too_long}
use Rattle.input_run.specs.Hearing.{HasEnded, HasHeard, HearsWhereTold, IsFull, TellsEnd}
use Rattle.input_run.specs.Input.{IsNoFurther, IsUndecided, NoFurtherWhereTold, TakesWhereTold, UndecidedWhereTold, most_at_once, taken_before}

-- no call takes nothing
pub taken_none : (left : Option (List ℕ)) → TakesWhereTold left left []
taken_none None = tt
taken_none (Some input) = refl

-- one more call
pub taken_more : (first middle last : Option (List ℕ)) (bytes buffer : List ℕ) (count : ℕ) → TakesWhereTold first middle bytes →
    IfSome middle (λ before. Takes count before last buffer) → TakesWhereTold first last (bytes ++ take count buffer)
taken_more None middle last bytes buffer count so_far takes = tt
taken_more (Some input) None last bytes buffer count so_far takes = absurd so_far
taken_more (Some input) (Some before) last bytes buffer count so_far takes =
    let parts : input ≡ (bytes ++ take count buffer) ++ drop count before =
    so_far
    ∙ ap (λ rest. bytes ++ rest) (sym (take-append-drop count before))
    ∙ sym (append_assoc bytes (take count before) (drop count before))
    ∙ ap (λ piece. (bytes ++ piece) ++ drop count before) (sym takes.bytes)
    in subst (λ left. TakesWhereTold (Some input) left (bytes ++ take count buffer)) (sym takes.rest) parts

pub front_taken : (input bytes rest : List ℕ) → input ≡ bytes ++ rest → taken_before input rest ≡ bytes
front_taken input bytes rest h =
    let count : length input - length rest ≡ length bytes = omega (arith, ap length h, length-append bytes rest) in
    rw (count, h) (take-append_seam bytes rest)

decides_nothing : (g : Goal) (opening : Lines) (bytes : Text) (h : Hearing) → HasHeard g opening bytes h → IsUndecided g opening bytes
decides_nothing g opening bytes h hears = record { within = hears.within; goes_on = goes_on g (opening ++ whole_lines bytes) hears.go_on }

-- where a call fails, what was taken decides nothing
pub undecided : (g : Goal) (opening : Lines) (first last after : Option (List ℕ)) (bytes : List ℕ) (h : Hearing) → TakesWhereTold first last bytes → after ≡ last → HasHeard g opening bytes h →
    UndecidedWhereTold g opening first after
undecided g opening first last after bytes h taken same hears = subst (UndecidedWhereTold g opening first) (sym same) (go first last taken)
  where
    go : (first last : Option (List ℕ)) → TakesWhereTold first last bytes → UndecidedWhereTold g opening first last
    go None last taken = tt
    go (Some input) None taken = tt
    go (Some input) (Some rest) taken = subst (IsUndecided g opening) (sym (front_taken input bytes rest taken)) (decides_nothing g opening bytes h hears)

-- behind what decides nothing one piece was taken, and no more
pub no_further : (g : Goal) (opening : Lines) (first last : Option Text) (bytes piece : Text) (h : Hearing) → TakesWhereTold first last (bytes ++ piece) → length piece ≤ most_at_once →
    HasHeard g opening bytes h → NoFurtherWhereTold g opening first last
no_further g opening None last bytes piece h taken few hears = tt
no_further g opening (Some input) None bytes piece h taken few hears = tt
no_further g opening (Some input) (Some rest) bytes piece h taken few hears =
    subst (IsNoFurther g opening) (sym (front_taken input (bytes ++ piece) rest taken)) (bytes, piece, refl, decides_nothing g opening bytes h hears, few)

-- nothing was taken behind what decides nothing
pub no_further-none : (g : Goal) (opening : Lines) (first last after : Option Text) (bytes : Text) (h : Hearing) → TakesWhereTold first last bytes → after ≡ last → HasHeard g opening bytes h →
    NoFurtherWhereTold g opening first after
no_further-none g opening first last after bytes h taken same hears =
    subst (NoFurtherWhereTold g opening first) (sym same) (no_further g opening first last bytes [] h (subst (TakesWhereTold first last) (sym (append-nil bytes)) taken) (omega arith) hears)

behind_front : (input bytes piece front behind rest : Text) → input ≡ (bytes ++ piece) ++ rest → piece ≡ front ++ behind → input ≡ (bytes ++ front) ++ (behind ++ rest)
behind_front input bytes piece front behind rest taken parts =
    taken ∙ ap (λ p. (bytes ++ p) ++ rest) parts ∙ simp append_assoc

-- opening lines and no more behind them than an input has
pub few_lines : (opening lines : Lines) → length lines ≤ MOST_LINES → length (opening ++ lines) ≤ length opening + MOST_LINES
few_lines opening lines few = omega (arith, length-append opening lines, few)

-- a line that ends the run was heard
pub ended_told : (g : Goal) (opening : Lines) (first last : Option Text) (bytes piece front behind : Text) (run : LineRun) → TakesWhereTold first last (bytes ++ piece) → piece ≡ front ++ behind →
    HasEnded g opening (bytes ++ front) run → HearsWhereTold g opening first last (heard.Lines run)
ended_told g opening first last bytes piece front behind run taken parts ended =
    (opening ++ whole_lines (bytes ++ front), ended.lines, few_lines opening (whole_lines (bytes ++ front)) (whole-few (bytes ++ front) ended.within), go first last taken)
  where
    go : (first last : Option Text) → TakesWhereTold first last (bytes ++ piece) → IfSome first (λ input. IsSomeAnd last (λ rest. TellsEnd g opening input rest (opening ++ whole_lines (bytes ++ front))))
    go None last taken = tt
    go (Some input) None taken = absurd taken
    go (Some input) (Some rest) taken =
        subst (λ input. TellsEnd g opening input rest (opening ++ whole_lines (bytes ++ front))) (sym (behind_front input bytes piece front behind rest taken parts))
        (tells_ended g opening (bytes ++ front) (behind ++ rest) rest run ended)

some_byte : (behind rest : Text) → behind ≢ [] → 0 < length (behind ++ rest)
some_byte [] rest h = absurd (h refl)
some_byte (x ∷ behind) rest h = omega arith

-- more bytes were taken than an input has room for
pub over_told : (g : Goal) (opening : Lines) (first last : Option Text) (bytes piece front behind : Text) → TakesWhereTold first last (bytes ++ piece) → piece ≡ front ++ behind → behind ≢ [] →
    IsFull g opening (bytes ++ front) → HearsWhereTold g opening first last heard.TooLong
over_told g opening first last bytes piece front behind taken parts some full = go first last taken
  where
    go : (first last : Option Text) → TakesWhereTold first last (bytes ++ piece) → IfSome first (λ input. outcome g opening input ≡ None)
    go None last taken = tt
    go (Some input) None taken = absurd taken
    go (Some input) (Some rest) taken =
        ap (outcome g opening) (behind_front input bytes piece front behind rest taken parts) ∙ too_long g opening (bytes ++ front) (behind ++ rest) full (some_byte behind rest some)

-- Where a piece is what was taken into a buffer.

pub piece_heard : (g : Goal) (opening : Lines) (bytes piece buffer : Text) (count : ℕ) (h : Hearing) → HasHeard g opening (bytes ++ piece) h → piece ≡ take count buffer →
    HasHeard g opening (bytes ++ take count buffer) h
piece_heard g opening bytes piece buffer count h hears is = subst (λ t. HasHeard g opening (bytes ++ t) h) is hears

-- with each piece fewer bytes are left of the limit
pub fewer_left : (g : Goal) (opening : Lines) (bytes buffer : Text) (count : ℕ) (old new : Hearing) → HasHeard g opening bytes old → HasHeard g opening (bytes ++ take count buffer) new → count ≢ 0 →
    count ≤ length buffer → MOST_BYTES - new.bytes < MOST_BYTES - old.bytes
fewer_left g opening bytes buffer count old new hears hears_more some within =
    omega (arith, hears.bytes_counted, hears_more.bytes_counted, length-append bytes (take count buffer), length-take count buffer, (within-limits (bytes ++ take count buffer) hears_more.within).0)

-- no more is taken than a buffer holds
pub piece_within : (buffer : Text) (count : ℕ) → length buffer ≡ most_at_once → length (take count buffer) ≤ most_at_once
piece_within buffer count holds = omega (arith, length-take count buffer, holds)

-- behind what decides nothing a piece was taken into a buffer
pub no_further-piece : (g : Goal) (opening : Lines) (first middle last : Option Text) (bytes buffer : Text) (count : ℕ) (h : Hearing) → TakesWhereTold first middle bytes →
    IfSome middle (λ before. Takes count before last buffer) → length buffer ≡ most_at_once → HasHeard g opening bytes h → NoFurtherWhereTold g opening first last
no_further-piece g opening first middle last bytes buffer count h taken takes holds hears =
    no_further g opening first last bytes (take count buffer) h (taken_more first middle last bytes buffer count taken takes) (piece_within buffer count holds) hears

-- a count that rose behind a call that let none fall has risen over both
pub rose_over : (first middle last : ℕ) → first ≤ middle → Rose middle last → Rose first last
rose_over first middle last le (inl more) = inl (omega arith)
rose_over first middle last le (inr top) = inr top
