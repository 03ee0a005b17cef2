-- The kind of a review line, by the phase in which it stands and by what the whole list puts on record.
use Rattle.std.proofs.Common.{◌≡◌, ℕ, ◌+◌, Bool, true, false, not, ◌&&◌, cond, eqb, leb, List, [], ◌∷◌, ◌++◌, length, filter, bytes_eq, Option, Some, refl, sym, ap, ◌∙◌, inl, inr, arith, append_assoc}
use Rattle.std.specs.Option.{is_none}
use Rattle.std.proofs.Math.Path.{fun_ext}
use Rattle.std.proofs.lemmas.Bool.{false≢true, cases_Bool, and_parts, and_from, and_right, cond-false, cond_both, eqb-true, le-leb}
use Rattle.std.proofs.lemmas.List.Elements.{filter-append}
use Rattle.house_base.specs.declared.answer.Kind.{Kind}
use Rattle.house_base.specs.declared.answer.Kind.TheVariants as kind
use Rattle.house_base.specs.declared.limits.TheConstants.{MOST_POINTS}
use Rattle.house_base.specs.declared.phase.Phase.{Phase}
use Rattle.house_base.specs.declared.phase.Phase.TheVariants as phase
use Rattle.house_base.specs.Setting.{Setting, name_at}
use Rattle.house_base.specs.Text.{Text, among}
use Rattle.house_model.specs.declared.goal.Goal.{Goal}
use Rattle.house_model.specs.declared.goal.Goal.TheVariants as goal
use Rattle.house_model.specs.Ending.{stop_after}
use Rattle.house_model.specs.Faults.{is_within}
use Rattle.house_model.specs.Interleaving.{AreInterleaved, phase_number, standing_after, standing_in, names_reviewer, reviews_naming}
use Rattle.house_model.specs.Isolation.{HaveSameHouse}
use Rattle.house_model.specs.Register.{names, persons, reviewer_at}
use Rattle.house_model.specs.Reviews.{is_before_assignment, is_after_close, is_assigned, kind_of, kind_tests, first_of_kinds, kept_after, points_of}
use Rattle.house_model.specs.Said.{register, phase_after, call_number, seed_of, seal_of, setting, assigned}
use Rattle.house_model.specs.Text.{Lines, words, word}
use Rattle.house_model.specs.Runs.{halt}
use Rattle.house_model.specs.Verbs.{is_review}
use Rattle.house_model.proofs.HouseLineLemmas.{filter-within, register-same, setting-same, assigned-same}
use Rattle.house_model.proofs.IsolationLemmas.{is_on}
use Rattle.house_model.proofs.LateLineLemmas.{HaveSameRecord, record-kept, setting-record, assigned-record, admitted_parts}

-- the tests of a review line that look at the record
abbrev record_tests : Goal → Lines → Text → List (Kind × Bool)
record_tests g whole line =
    (kind.Unknown, not (among (persons (register whole)) (word line 1) && among (names (register whole)) (word line 2)))
    ∷ (kind.Unassigned, not (is_assigned (setting whole) (assigned g whole) (word line 1) (word line 2)))
    ∷ (kind.Range, not (is_within 0 MOST_POINTS (word line 3)))
    ∷ []

-- the kind of a review line that stands in a phase of a list
pub kind_at : Goal → Phase → Lines → Text → Option Kind
kind_at g p whole line = first_of_kinds (
    (kind.Form, not (eqb (length (words line)) 4))
    ∷ (kind.Early, is_before_assignment p)
    ∷ (kind.Late, is_after_close p)
    ∷ record_tests g whole line)

early_either : (f e : Bool) (some more : List (Kind × Bool)) → e ≡ true → first_of_kinds ((kind.Form, f) ∷ (kind.Early, e) ∷ some) ≡ first_of_kinds ((kind.Form, f) ∷ (kind.Early, e) ∷ more)
early_either true e some more h = refl
early_either false true some more h = refl
early_either false false some more h = absurd (false≢true h)

kind_of-at : (g : Goal) (before whole : Lines) (line : Text) → (is_before_assignment (phase_after before) ≡ false → HaveSameRecord before whole) →
    kind_of g before line ≡ kind_at g (phase_after before) whole line
unfolding kind_of kind_tests kind_at
kind_of-at g before whole line same =
    elim (cases_Bool (is_before_assignment (phase_after before))) [
      | inl early ↦ early_either (not (eqb (length (words line)) 4)) (is_before_assignment (phase_after before))
          ((kind.Late, is_after_close (phase_after before)) ∷ record_tests g before line) ((kind.Late, is_after_close (phase_after before)) ∷ record_tests g whole line) early
      | inr late ↦ let one = same late in rw (one.register, setting-record before whole one, assigned-record g before whole one) refl
    ]

-- two lists with the same lines of the house give one kind
pub kind_at-same : (g : Goal) (a b : Lines) → HaveSameHouse a b → (p : Phase) (line : Text) → kind_at g p a line ≡ kind_at g p b line
unfolding kind_at
kind_at-same g a b same p line = rw (register-same a b same, setting-same a b same, assigned-same a b same g) refl

-- The whole list is read as lines before and lines after, of which none is refused.
pub record IsReadAt (g : Goal) (whole before lines : Lines) : Type 0 where
  pub parts : before ++ lines ≡ whole
  pub admitted : is_none (stop_after (halt g) before lines) ≡ true

module _ (g : Goal) (whole before : Lines) (line : Text) (lines : Lines) (h : IsReadAt g whole before (line ∷ lines)) where
  pub read_on : IsReadAt g whole (before ++ line ∷ []) lines
  read_on = record {
    parts = append_assoc before (line ∷ []) lines ∙ h.parts;
    admitted = (admitted_parts (halt g before line) (λ r. (length before + 1, r)) (stop_after (halt g) (before ++ line ∷ []) lines) h.admitted).1;
  }

  pub kind_of-read : kind_of g before line ≡ kind_at g (phase_after before) whole line
  kind_of-read =
      kind_of-at g before whole line (λ late.
      let kept = record-kept g before (line ∷ lines) late h.admitted in
      record { register = kept.register ∙ ap register h.parts; call = λ i. kept.call i ∙ ap (λ xs. call_number xs i) h.parts; seed = kept.seed ∙ ap seed_of h.parts; seal = kept.seal ∙ ap seal_of h.parts })

-- The kept lines are the kept ones among those of the reviewing.

is_kept : Lines → Text → Bool
is_kept whole line = is_review line && is_none (kind_at goal.Run phase.Reviewing whole line)

set_aside_early : (f : Bool) (rest : List (Kind × Bool)) → is_none (first_of_kinds ((kind.Form, f) ∷ (kind.Early, true) ∷ rest)) ≡ false
set_aside_early true rest = refl
set_aside_early false rest = refl

set_aside_late : (f : Bool) (rest : List (Kind × Bool)) → is_none (first_of_kinds ((kind.Form, f) ∷ (kind.Early, false) ∷ (kind.Late, true) ∷ rest)) ≡ false
set_aside_late true rest = refl
set_aside_late false rest = refl

kept_in : (p : Phase) (whole : Lines) (line : Text) →
    cond (is_review line && is_none (kind_at goal.Run p whole line)) (line ∷ []) [] ≡ filter (is_kept whole) (cond (eqb (phase_number p) 1) (line ∷ []) [])
unfolding kind_at is_kept
kept_in phase.Opening whole line =
    cond-false (is_review line && is_none (kind_at goal.Run phase.Opening whole line)) (line ∷ []) []
    (and_right (is_review line) (is_none (kind_at goal.Run phase.Opening whole line)) (set_aside_early (not (eqb (length (words line)) 4)) ((kind.Late, false) ∷ record_tests goal.Run whole line)))
kept_in phase.Reviewing whole line = refl
kept_in phase.Closed whole line =
    cond-false (is_review line && is_none (kind_at goal.Run phase.Closed whole line)) (line ∷ []) []
    (and_right (is_review line) (is_none (kind_at goal.Run phase.Closed whole line)) (set_aside_late (not (eqb (length (words line)) 4)) (record_tests goal.Run whole line)))
kept_in phase.Drawn whole line =
    cond-false (is_review line && is_none (kind_at goal.Run phase.Drawn whole line)) (line ∷ []) []
    (and_right (is_review line) (is_none (kind_at goal.Run phase.Drawn whole line)) (set_aside_late (not (eqb (length (words line)) 4)) (record_tests goal.Run whole line)))

kept-standing : (whole before lines : Lines) → IsReadAt goal.Run whole before lines → kept_after before lines ≡ filter (is_kept whole) (standing_after phase.Reviewing before lines)
kept-standing whole before [] h = refl
kept-standing whole before (line ∷ lines) h =
    let here = cond (eqb (phase_number (phase_after before)) 1) (line ∷ []) [] in
    ap (λ k. cond (is_review line && is_none k) (line ∷ []) [] ++ kept_after (before ++ line ∷ []) lines) (kind_of-read goal.Run whole before line lines h)
    ∙ (ap (λ xs. xs ++ kept_after (before ++ line ∷ []) lines) (kept_in (phase_after before) whole line)
    ∙ (ap (λ xs. filter (is_kept whole) here ++ xs) (kept-standing whole (before ++ line ∷ []) lines (read_on goal.Run whole before line lines h))
    ∙ sym (filter-append (is_kept whole) here (standing_after phase.Reviewing (before ++ line ∷ []) lines))))

pub filter-both : {A : Type 0} (p q : A → Bool) (xs : List A) → filter q (filter p xs) ≡ filter (λ x. p x && q x) xs
filter-both p q [] = refl
filter-both p q (x ∷ xs) =
    cond_both (p x) (x ∷ filter p xs) (filter p xs) (λ ys. filter q ys ≡ cond (p x && q x) (x ∷ filter (λ y. p y && q y) xs) (filter (λ y. p y && q y) xs))
    (λ yes. ap (λ ys. cond (q x) (x ∷ ys) ys) (filter-both p q xs) ∙ ap (λ b. cond (b && q x) (x ∷ filter (λ y. p y && q y) xs) (filter (λ y. p y && q y) xs)) (sym yes))
    (λ fails. filter-both p q xs ∙ ap (λ b. cond (b && q x) (x ∷ filter (λ y. p y && q y) xs) (filter (λ y. p y && q y) xs)) (sym fails))

formed_first : (f : Bool) (rest : List (Kind × Bool)) → is_none (first_of_kinds ((kind.Form, not f) ∷ rest)) ≡ true → f ≡ true
formed_first true rest h = refl
formed_first false rest h = absurd (false≢true h)

kept_formed : (whole : Lines) (line : Text) → is_none (kind_at goal.Run phase.Reviewing whole line) ≡ true → eqb (length (words line)) 4 ≡ true
unfolding kind_at
kept_formed whole line h = formed_first (eqb (length (words line)) 4) ((kind.Early, false) ∷ (kind.Late, false) ∷ record_tests goal.Run whole line) h

-- a line that does not have its four words is set aside for its form
pub kind_at-unformed : (g : Goal) (p : Phase) (whole : Lines) (line : Text) → eqb (length (words line)) 4 ≡ false → kind_at g p whole line ≡ Some kind.Form
unfolding kind_at
kind_at-unformed g p whole line h = rw h refl

-- a kept line on a pair is one of the reviewer's
kept_on : (whole : Lines) (s : Setting) (r p : ℕ) (line : Text) → (is_kept whole line && is_on s r p line) ≡ true → (names_reviewer line && bytes_eq (word line 1) (reviewer_at s r)) ≡ true
unfolding is_kept
kept_on whole s r p line h =
    let both = and_parts (is_review line && is_none (kind_at goal.Run phase.Reviewing whole line)) (is_on s r p line) h in
    let kept = and_parts (is_review line) (is_none (kind_at goal.Run phase.Reviewing whole line)) both.0 in
    let four = eqb-true (length (words line)) 4 (kept_formed whole line kept.1) in
    and_from (names_reviewer line) (bytes_eq (word line 1) (reviewer_at s r))
    (and_from (is_review line) (leb 2 (length (words line))) kept.0 (le-leb 2 (length (words line)) (omega (arith, four))))
    (and_parts (bytes_eq (word line 1) (reviewer_at s r)) (bytes_eq (word line 2) (name_at s p)) both.1).0

-- the kept lines on a pair, where no line is refused, are among the lines of the reviewer
kept_on-standing : (lines : Lines) (s : Setting) (r p : ℕ) → is_none (stop_after (halt goal.Run) [] lines) ≡ true →
    filter (is_on s r p) (kept_after [] lines) ≡ filter (λ line. is_kept lines line && is_on s r p line) (reviews_naming (reviewer_at s r) (standing_in phase.Reviewing lines))
unfolding standing_in
kept_on-standing lines s r p admitted =
    ap (filter (is_on s r p)) (kept-standing lines [] lines (record { parts = refl; admitted = admitted }))
    ∙ (filter-both (is_kept lines) (is_on s r p) (standing_after phase.Reviewing [] lines)
    ∙ sym (filter-within (λ line. is_kept lines line && is_on s r p line) (λ line. names_reviewer line && bytes_eq (word line 1) (reviewer_at s r)) (kept_on lines s r p) (standing_after phase.Reviewing [] lines)))

is_kept-same : (a b : Lines) → HaveSameHouse a b → is_kept a ≡ is_kept b
unfolding is_kept
is_kept-same a b same = fun_ext (λ line. ap (λ k. is_review line && is_none k) (kind_at-same goal.Run a b same phase.Reviewing line))

module _ (a b : Lines) (h : AreInterleaved a b) (admitted_a : is_none (stop_after (halt goal.Run) [] a) ≡ true) (admitted_b : is_none (stop_after (halt goal.Run) [] b) ≡ true) where
  kept_on-interleaved : (s : Setting) (r p : ℕ) → filter (is_on s r p) (kept_after [] b) ≡ filter (is_on s r p) (kept_after [] a)
  kept_on-interleaved s r p =
      kept_on-standing b s r p admitted_b
      ∙ (ap (λ kept. filter (λ line. kept line && is_on s r p line) (reviews_naming (reviewer_at s r) (standing_in phase.Reviewing b))) (sym (is_kept-same a b h.same_house))
      ∙ (ap (filter (λ line. is_kept a line && is_on s r p line)) (sym (h.same_reviews phase.Reviewing (reviewer_at s r)))
      ∙ sym (kept_on-standing a s r p admitted_a)))

  -- another order of arrival leaves all points
  pub points_of-interleaved : (r p : ℕ) → points_of b r p ≡ points_of a r p
  unfolding points_of
  points_of-interleaved r p = rw (sym (setting-same a b h.same_house), kept_on-interleaved (setting a) r p) refl
