-- How an input is cut into lines.
use Rattle.std.proofs.Common.{◌≡◌, ℕ, ◌+◌, ◌-◌, ◌≤◌, ◌<◌, ◌==◌, Bool, true, false, cond, [], ◌∷◌, ◌++◌, length, take, drop, position, refl, sym, ◌∙◌, ap, subst, arith, append-nil, append_assoc, length-append, length-take, Option, Some, None, IfSome, eqb}
use Rattle.std.specs.Prelude.{◌≢◌, IsSomeAnd, All}
use Rattle.std.specs.Io.KnownBytes.{IsAtEnd}
use Rattle.std.specs.Option.{option_to_list}
use Rattle.std.proofs.lemmas.Bool.{eqb-true}
use Rattle.std.proofs.lemmas.List.{length_push, take-append-drop, take_all, take_at}
use Rattle.std.proofs.lemmas.List.Elements.{All-push}
use Rattle.house_base.specs.Text.{Text}
use Rattle.house_model.specs.Heard.{whole_lines}
use Rattle.house_model.specs.Text.{Lines, lines, without_return}
use Rattle.command_text.specs.Held.{HasNoFeed}
use Rattle.command_text.proofs.FeedLemmas.{front_with_feed, lines_at_feed, lines_of_none, lines_of_part, no_feed_before, no_feed_without_return, position_found, whole_lines_at_feed, whole_lines_of_part}
use Rattle.intake_log.specs.declared.limits.TheConstants.{MOST_LINE_BYTES}
use Rattle.intake_desk.specs.Input.{IsBehind, IsCut, IsFollowed, IsNext, taken_before, uncut}

-- a line without its return has at most one byte less
return-length : (line : Text) → length line ≤ length (without_return line) + 1
unfolding without_return
return-length line = go (eqb (Rattle.std.specs.Prelude.slice_index line (length line - 1)) 13)
  where
    go : (b : Bool) → length line ≤ length (cond b (take (length line - 1) line) line) + 1
    go true = omega (arith, length-take (length line - 1) line)
    go false = omega arith

-- a text that is not empty, and has no line feed, is one line
one-line : (text : Text) → HasNoFeed text → text ≢ [] → lines text ≡ without_return text ∷ []
one-line [] none some = absurd (some refl)
one-line (x ∷ xs) none some = lines_of_part (x ∷ xs) none

-- a line that begins so is no shorter
long-line : (text more : Text) → HasNoFeed text → 0 < length text → (line : Text) × (rest : Lines) × (lines (text ++ more) ≡ line ∷ rest) × (length text ≤ length line + 1)
long-line text [] none some =
    (without_return text, [], ap lines (append-nil text) ∙ one-line text none (λ e. omega (arith, some, ap length e)), return-length text)
long-line text (b ∷ more) none some =
    go (eqb b 10) refl (λ e. long-line (text ++ b ∷ []) more (All-push (λ byte. eqb byte 10 ≡ false) text b none e) (omega (arith, length_push text b)))
  where
    go : (t : Bool) → eqb b 10 ≡ t → (eqb b 10 ≡ false → (line : Text) × (rest : Lines) × (lines ((text ++ b ∷ []) ++ more) ≡ line ∷ rest) × (length (text ++ b ∷ []) ≤ length line + 1))
        → (line : Text) × (rest : Lines) × (lines (text ++ b ∷ more) ≡ line ∷ rest) × (length text ≤ length line + 1)
    go true e longer = (without_return text, lines more, ap (λ x. lines (text ++ x ∷ more)) (eqb-true b 10 e) ∙ lines_at_feed text more none, return-length text)
    go false e longer =
        let found = longer e in
        (found.0, found.1, ap lines (sym (append_assoc text (b ∷ []) more)) ∙ found.2, omega (arith, found.3, length_push text b))

behind-none : IsBehind [] []
behind-none = record { lines_are = λ more. refl; whole_are = λ more. refl }

-- nothing was cut off yet
pub cut-none : (before : Option Text) → IsCut before before [] []
cut-none None = tt
cut-none (Some text) = ([], refl, behind-none)

-- bytes are taken, and nothing is cut off
pub cut-moved : (before left later : Option Text) (waiting more : Text) (done : Lines) → uncut more later ≡ uncut waiting left → IsCut before left waiting done → IsCut before later more done
cut-moved None left later waiting more done e cut = tt
cut-moved (Some text) None later waiting more done e cut = absurd cut
cut-moved (Some text) (Some rest) None waiting more done e cut = absurd (cc)
cut-moved (Some text) (Some rest) (Some after) waiting more done e cut =
    let same : more ++ after ≡ waiting ++ rest = cc in
    (cut.0, cut.1 ∙ ap (λ l. cut.0 ++ l) (sym same), cut.2)

-- the lines behind those that were cut off
lines-left : (text rest waiting : Text) (done : Lines) → IsCut (Some text) (Some rest) waiting done → lines text ≡ done ++ lines (waiting ++ rest)
lines-left text rest waiting done cut = ap lines cut.1 ∙ cut.2.lines_are (waiting ++ rest)

pub cut-front : (before left : Option Text) (waiting : Text) (done : Lines) → IsCut before left waiting done → IfSome before (λ text. (more : Lines) × (lines text ≡ done ++ more))
cut-front None left waiting done cut = tt
cut-front (Some text) None waiting done cut = absurd cut
cut-front (Some text) (Some rest) waiting done cut = (lines (waiting ++ rest), lines-left text rest waiting done cut)

-- up to a line feed
module _ (waiting : Text) (end : ℕ) (is : position (λ byte. byte == 10) waiting ≡ Some end) where
  parts : waiting ≡ take end waiting ++ 10 ∷ drop (end + 1) waiting
  parts = sym (take-append-drop (end + 1) waiting) ∙ ap (λ l. l ++ drop (end + 1) waiting) (front_with_feed waiting end is) ∙ append_assoc (take end waiting) (10 ∷ []) _

  parts-more : (rest : Text) → waiting ++ rest ≡ take end waiting ++ 10 ∷ (drop (end + 1) waiting ++ rest)
  parts-more rest = ap (λ l. l ++ rest) parts ∙ append_assoc (take end waiting) (10 ∷ drop (end + 1) waiting) rest

  none : HasNoFeed (take end waiting)
  none = no_feed_before waiting end is

  pub end-below : end < length waiting
  end-below = (position_found waiting end is).1

  pub fed-next : (before left : Option Text) (done : Lines) → IsCut before left waiting done → IsFollowed before done (λ line. line ≡ without_return (take end waiting))
  fed-next None left done cut = tt
  fed-next (Some text) None done cut = absurd cut
  fed-next (Some text) (Some rest) done cut = (
    without_return (take end waiting),
    lines (drop (end + 1) waiting ++ rest),
    lines-left text rest waiting done cut ∙ ap (λ l. done ++ l) (ap lines (parts-more rest) ∙ lines_at_feed (take end waiting) _ none),
    refl,
  )

  behind-fed : (consumed : Text) (done : Lines) → IsBehind consumed done → IsBehind (consumed ++ (take end waiting ++ 10 ∷ [])) (done ++ without_return (take end waiting) ∷ [])
  behind-fed consumed done behind = record {
    lines_are = λ more.
        ap lines (append_assoc consumed _ more ∙ ap (λ l. consumed ++ l) (append_assoc (take end waiting) (10 ∷ []) more))
        ∙ behind.lines_are _ ∙ ap (λ l. done ++ l) (lines_at_feed (take end waiting) more none) ∙ sym (append_assoc done _ _);
    whole_are = λ more.
        ap whole_lines (append_assoc consumed _ more ∙ ap (λ l. consumed ++ l) (append_assoc (take end waiting) (10 ∷ []) more))
        ∙ behind.whole_are _ ∙ ap (λ l. done ++ l) (whole_lines_at_feed (take end waiting) more none) ∙ sym (append_assoc done _ _);
  }

  pub fed-cut : (before left : Option Text) (done : Lines) → IsCut before left waiting done → IsCut before left (drop (end + 1) waiting) (done ++ without_return (take end waiting) ∷ [])
  fed-cut None left done cut = tt
  fed-cut (Some text) None done cut = absurd cut
  fed-cut (Some text) (Some rest) done cut = (
    cut.0 ++ (take end waiting ++ 10 ∷ []),
    cut.1 ∙ ap (λ l. cut.0 ++ l) (parts-more rest ∙ sym (append_assoc (take end waiting) (10 ∷ []) _)) ∙ sym (append_assoc cut.0 _ _),
    behind-fed cut.0 done cut.2,
  )

-- the end of the input
pub last-next : (before left : Option Text) (waiting : Text) (end : ℕ) (done : Lines) → HasNoFeed waiting → waiting ≢ [] → end ≡ length waiting → IsAtEnd left → IsCut before left waiting done
    → IfSome before (λ text. lines text ≡ done ++ without_return (take end waiting) ∷ [])
last-next None left waiting end done none some at ends cut = tt
last-next (Some text) None waiting end done none some at ends cut = absurd cut
last-next (Some text) (Some rest) waiting end done none some at ends cut =
    lines-left text rest waiting done cut
    ∙ ap (λ l. done ++ l)
    (ap (λ r. lines (waiting ++ r)) ends ∙ ap lines (append-nil waiting) ∙ one-line waiting none some
    ∙ ap (λ l. without_return l ∷ []) (sym (take_all end waiting (omega (arith, at)))))

pub end-cut : (before left : Option Text) (waiting : Text) (done : Lines) → waiting ≡ [] → IsAtEnd left → IsCut before left waiting done → IfSome before (λ text. lines text ≡ done)
end-cut None left waiting done empty ends cut = tt
end-cut (Some text) None waiting done empty ends cut = absurd cut
end-cut (Some text) (Some rest) waiting done empty ends cut =
    lines-left text rest waiting done cut
    ∙ ap (λ l. done ++ l) (ap (λ w. lines (w ++ rest)) empty ∙ ap lines ends ∙ lines_of_none [] refl) ∙ append-nil done

-- a line that is too long, of which the end was not seen
pub long-next : (before left : Option Text) (waiting : Text) (done : Lines) → HasNoFeed waiting → MOST_LINE_BYTES + 2 ≤ length waiting → IsCut before left waiting done
    → IsFollowed before done (λ line. MOST_LINE_BYTES < length line)
long-next None left waiting done none long cut = tt
long-next (Some text) None waiting done none long cut = absurd cut
long-next (Some text) (Some rest) waiting done none long cut =
    let first = long-line waiting rest none (omega (arith, long)) in
    (first.0, first.1, lines-left text rest waiting done cut ∙ ap (λ l. done ++ l) first.2, omega (arith, first.3, long))

-- where the input fails, the lines that were cut off are those that had ended
pub fault-cut : (before left : Option Text) (waiting : Text) (done : Lines) → HasNoFeed waiting → IsCut before left waiting done
    → IfSome before (λ text. IfSome left (λ rest. whole_lines (taken_before text rest) ≡ done))
fault-cut None left waiting done none cut = tt
fault-cut (Some text) None waiting done none cut = tt
fault-cut (Some text) (Some rest) waiting done none cut =
    let parts : text ≡ (cut.0 ++ waiting) ++ rest = cut.1 ∙ sym (append_assoc cut.0 waiting rest) in
    let size : length text ≡ length (cut.0 ++ waiting) + length rest = ap length parts ∙ length-append (cut.0 ++ waiting) rest in
    ap whole_lines (ap (take (length text - length rest)) parts ∙ take_at (cut.0 ++ waiting) rest (length text - length rest) (omega (arith, size)))
    ∙ cut.2.whole_are waiting ∙ ap (λ l. done ++ l) (whole_lines_of_part waiting none) ∙ append-nil done

-- the next line has no line feed
pub next-no_feed : (waiting : Text) (left : Option Text) (end : ℕ) (is_last : Bool) → IsNext waiting left end is_last → HasNoFeed (without_return (take end waiting))
next-no_feed waiting left end true next = no_feed_without_return _ (subst HasNoFeed (sym (take_all end waiting (omega (arith, next.2)))) next.0)
next-no_feed waiting left end false next = no_feed_without_return _ (no_feed_before waiting end next)

pub next-within : (waiting : Text) (left : Option Text) (end : ℕ) (is_last : Bool) → IsNext waiting left end is_last → end ≤ length waiting
next-within waiting left end true next = omega (arith, next.2)
next-within waiting left end false next = omega (arith, end-below waiting end next)

pub next-followed : (before left : Option Text) (waiting : Text) (end : ℕ) (is_last : Bool) (done : Lines) → IsNext waiting left end is_last → IsCut before left waiting done
    → IsFollowed before done (λ line. line ≡ without_return (take end waiting))
next-followed before left waiting end false done next cut = fed-next waiting end next before left done cut
next-followed None left waiting end true done next cut = tt
next-followed (Some text) left waiting end true done next cut =
    (without_return (take end waiting), [], last-next (Some text) left waiting end done next.0 next.1 next.2 next.3 cut, refl)
