use Rattle.std.proofs.Common.{◌≡◌, ℕ, Bool, true, false, eqb, cond, Option, Some, [], ◌∷◌, ◌++◌, refl, sym, ap, ◌∙◌, append-nil, append_assoc}
use Rattle.std.specs.Prelude.{filter, length, not, reverse, slice_get, ◌&&◌, ◌||◌, if◌then◌else◌}
use Rattle.std.specs.Option.{option_map_or, is_none}
use Rattle.std.specs.Str.{bytes_eq}
use Rattle.std.proofs.lemmas.Bool.{or_parts}
use Rattle.house_base.specs.declared.answer.Asides.{Asides}
use Rattle.house_base.specs.declared.answer.Kind.{Kind}
use Rattle.house_base.specs.declared.answer.Kind.TheVariants as kind
use Rattle.house_base.specs.declared.phase.Phase.TheVariants as phase
use Rattle.house_base.specs.Answer.{counted}
use Rattle.house_base.specs.Setting.{name_at}
use Rattle.house_base.specs.Text.{Text}
use Rattle.house_model.specs.declared.goal.Goal.{Goal}
use Rattle.house_model.specs.declared.goal.Goal.TheVariants as goal
use Rattle.house_model.specs.declared.verb.Verb.{Verb}
use Rattle.house_model.specs.declared.verb.Verb.TheVariants as verb
use Rattle.house_model.specs.Text.{Lines, words, word}
use Rattle.house_model.specs.Verbs.{verb_number, commands, is_review}
use Rattle.house_model.specs.Register.{reviewer_at}
use Rattle.house_model.specs.Said.{has, register, phase_after, number, setting, run_pairs, draw_of}
use Rattle.house_model.specs.Reviews.{kind_of, kind_tests, kept_after, asides_after, asides_of, no_asides, points_of}
use Rattle.house_core.proofs.VerbLemmas.{review_other}
use Rattle.house_core.proofs.PushLemmas.{has_push, has_other, call_number_other, seed_of_other, draw_of_other, register_other, phase_other, setting_same, run_pairs_same}

-- The reviews of a list of lines with one more.

-- What is set aside.

-- the counts with one more line
abbrev aside_more : Goal → Lines → Asides → Text → Asides
aside_more g before asides x = if is_review x then option_map_or (counted asides) (kind_of g before x) asides else asides

asides_after-push : (g : Goal) (before lines : Lines) (asides : Asides) (x : Text) →
    asides_after g before asides (lines ++ x ∷ []) ≡ aside_more g (before ++ lines) (asides_after g before asides lines) x
asides_after-push g before [] asides x = ap (λ l. aside_more g l asides x) (sym (append-nil before))
asides_after-push g before (line ∷ lines) asides x =
    asides_after-push g (before ++ line ∷ []) lines (aside_more g before asides line) x
    ∙ ap (λ l. aside_more g l (asides_after g (before ++ line ∷ []) (aside_more g before asides line) lines) x) (append_assoc before (line ∷ []) lines)

-- the counts after one more line
pub asides-push : (g : Goal) (lines : Lines) (x : Text) →
    asides_of g (lines ++ x ∷ []) ≡ (if is_review x then option_map_or (counted (asides_of g lines)) (kind_of g lines x) (asides_of g lines) else asides_of g lines)
unfolding asides_of
asides-push g lines x = asides_after-push g [] lines no_asides x

-- What is kept.

-- a line, if it is kept after those before
abbrev kept_one : Lines → Text → Lines
kept_one before x = if is_review x && is_none (kind_of goal.Run before x) then x ∷ [] else []

kept_after-push : (before lines : Lines) (x : Text) → kept_after before (lines ++ x ∷ []) ≡ kept_after before lines ++ kept_one (before ++ lines) x
kept_after-push before [] x = append-nil (kept_one before x) ∙ ap (λ l. kept_one l x) (sym (append-nil before))
kept_after-push before (line ∷ lines) x =
    ap (λ l. kept_one before line ++ l)
    (kept_after-push (before ++ line ∷ []) lines x
    ∙ ap (λ l. kept_after (before ++ line ∷ []) lines ++ kept_one l x) (append_assoc before (line ∷ []) lines))
    ∙ sym (append_assoc (kept_one before line) (kept_after (before ++ line ∷ []) lines) (kept_one (before ++ line ∷ lines) x))

-- the kept lines after one more
pub kept-push : (lines : Lines) (x : Text) →
    kept_after [] (lines ++ x ∷ []) ≡ kept_after [] lines ++ (if is_review x && is_none (kind_of goal.Run lines x) then x ∷ [] else [])
kept-push lines x = kept_after-push [] lines x

-- before the assignment each review line is set aside
early : (ill_formed : Bool) → is_none (if ill_formed then Some kind.Form else Some kind.Early) ≡ false
early true = refl
early false = refl

opening : (lines : Lines) → has verb.Assign lines ≡ false → phase_after lines ≡ phase.Opening
unfolding phase_after
opening lines h = rw h refl

aside-opening : (before : Lines) (x : Text) → has verb.Assign before ≡ false → is_none (kind_of goal.Run before x) ≡ false
unfolding kind_of kind_tests
aside-opening before x h = rw (opening before h) (early (not (eqb (length (words x)) 4)))

not_kept : (b : Bool) (o : Option Kind) → is_none o ≡ false → (b && is_none o) ≡ false
not_kept true o h = h
not_kept false o h = refl

kept_after-opening : (before lines : Lines) → has verb.Assign before ≡ false → has verb.Assign lines ≡ false → kept_after before lines ≡ []
unfolding has
kept_after-opening before [] none h = refl
kept_after-opening before (line ∷ lines) none h =
    let rest = or_parts (commands verb.Assign line) (has verb.Assign lines) h in
    ap (λ b. cond b (line ∷ []) [] ++ kept_after (before ++ line ∷ []) lines) (not_kept (is_review line) (kind_of goal.Run before line) (aside-opening before line none))
    ∙ kept_after-opening (before ++ line ∷ []) lines (has_push verb.Assign before line ∙ ap (λ b. b || commands verb.Assign line) none ∙ rest.0) rest.1

-- lines without an assignment keep no review
pub kept-opening : (lines : Lines) → has verb.Assign lines ≡ false → kept_after [] lines ≡ []
unfolding has
kept-opening lines h = kept_after-opening [] lines refl h

-- What the points are.

-- where no line is kept there are no points
pub points-none : (lines : Lines) (r p : ℕ) → kept_after [] lines ≡ [] → points_of lines r p ≡ 0
unfolding points_of
points-none lines r p h =
    let on_them = λ (line : Text). bytes_eq (word line 1) (reviewer_at (setting lines) r) && bytes_eq (word line 2) (name_at (setting lines) p) in
    ap (λ kept. option_map_or (λ line. number (word line 3)) (slice_get (reverse (filter on_them kept)) 0) 0) h

-- whether a kept line is on the person at one place and the applicant at another
abbrev pub is_on : Lines → ℕ → ℕ → Text → Bool
is_on lines r p line = bytes_eq (word line 1) (reviewer_at (setting lines) r) && bytes_eq (word line 2) (name_at (setting lines) p)

-- the points of the last of some lines, or 0
abbrev pub last_points : Lines → ℕ
last_points lines = option_map_or (λ line. number (word line 3)) (slice_get (reverse lines) 0) 0

pub points-are : (lines : Lines) (r p : ℕ) → points_of lines r p ≡ last_points (filter (is_on lines r p) (kept_after [] lines))
unfolding points_of
points-are lines r p = refl

pub points-more : (lines : Lines) (x : Text) (r p : ℕ) → setting (lines ++ x ∷ []) ≡ setting lines →
    points_of (lines ++ x ∷ []) r p
    ≡ last_points (filter (is_on lines r p) (kept_after [] lines ++ (if is_review x && is_none (kind_of goal.Run lines x) then x ∷ [] else [])))
unfolding points_of
points-more lines x r p same = rw (same, kept-push lines x) refl

-- a line that is not kept changes no points
pub points-same : (lines : Lines) (x : Text) (r p : ℕ) → (is_review x && is_none (kind_of goal.Run lines x)) ≡ false → setting (lines ++ x ∷ []) ≡ setting lines →
    points_of (lines ++ x ∷ []) r p ≡ points_of lines r p
points-same lines x r p aside same =
    points-more lines x r p same
    ∙ (ap (λ b. last_points (filter (is_on lines r p) (kept_after [] lines ++ cond b (x ∷ []) []))) aside
    ∙ (ap (λ l. last_points (filter (is_on lines r p) l)) (append-nil (kept_after [] lines)) ∙ sym (points-are lines r p)))

-- What a review line leaves as it is.

pub register-review : (lines : Lines) (x : Text) → is_review x ≡ true → register (lines ++ x ∷ []) ≡ register lines
register-review lines x h = register_other verb.Other lines x (review_other x h) refl refl refl refl

pub setting-review : (lines : Lines) (x : Text) → is_review x ≡ true → setting (lines ++ x ∷ []) ≡ setting lines
setting-review lines x h =
    setting_same lines (lines ++ x ∷ []) (λ i. call_number_other verb.Other lines x i (review_other x h) refl) (seed_of_other verb.Other lines x (review_other x h) refl) (register-review lines x h)

pub run_pairs-review : (lines : Lines) (x : Text) → is_review x ≡ true → run_pairs (lines ++ x ∷ []) ≡ run_pairs lines
run_pairs-review lines x h = run_pairs_same lines (lines ++ x ∷ []) (register-review lines x h) (setting-review lines x h)

-- each command but that of no command
pub has-review : (v : Verb) (lines : Lines) (x : Text) → is_review x ≡ true → eqb 11 (verb_number v) ≡ false → has v (lines ++ x ∷ []) ≡ has v lines
has-review v lines x h other = has_other verb.Other v lines x (review_other x h) other

pub phase-review : (lines : Lines) (x : Text) → is_review x ≡ true → phase_after (lines ++ x ∷ []) ≡ phase_after lines
phase-review lines x h = phase_other verb.Other lines x (review_other x h) refl refl refl refl

pub draw-review : (lines : Lines) (x : Text) → is_review x ≡ true → draw_of (lines ++ x ∷ []) ≡ draw_of lines
draw-review lines x h = draw_of_other verb.Other lines x (review_other x h) refl refl (register-review lines x h)
