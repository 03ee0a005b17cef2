use Rattle.std.proofs.Common.{◌≡◌, ℕ, ◌<◌, Bool, true, false, eqb, leb, cond, Option, Some, None, List, [], ◌∷◌, ◌++◌, length, map, refl, sym, ap, ◌∙◌, arith}
use Rattle.std.specs.Prelude.{not, ◌&&◌, if◌then◌else◌}
use Rattle.std.specs.Option.{option_map_or, option_or}
use Rattle.std.specs.Str.Parse.{digits_value}
use Rattle.std.proofs.lemmas.Bool.{and_parts, false≢true, false_from_ne_true, le-leb}
use Rattle.house_base.specs.declared.answer.Kind.{Kind}
use Rattle.house_base.specs.declared.answer.Kind.TheVariants as kind
use Rattle.house_base.specs.declared.limits.TheConstants.{MOST_POINTS}
use Rattle.house_base.specs.Grid.{Square, cell}
use Rattle.house_base.specs.Name.{is_name}
use Rattle.house_base.specs.Number.{is_canonical, number_up_to}
use Rattle.house_base.specs.Setting.{IsSetting, size, names_of}
use Rattle.house_base.specs.Text.{Text, among}
use Rattle.house_model.specs.declared.goal.Goal.{Goal}
use Rattle.house_model.specs.declared.goal.Goal.TheVariants as goal
use Rattle.house_model.specs.Faults.{is_within, looks_at_pairs}
use Rattle.house_model.specs.Register.{names, persons}
use Rattle.house_model.specs.Reviews.{is_before_assignment, is_after_close, is_assigned, kind_of, kind_tests, first_of_kinds, reviewer_place, proposal_place}
use Rattle.house_model.specs.Said.{register, phase_after, setting, run_pairs, assigned}
use Rattle.house_model.specs.Text.{Lines, words, word}
use Rattle.command_text.specs.Reading.{name_in, review_in}
use Rattle.review_desk.specs.Line.{kind_before, kind_among, is_person, is_applicant, reviewer_of, proposal_of}
use Rattle.house_core.specs.Standing.{are_known}
use Rattle.house_core.proofs.ReviewPlaceLemmas.{AreFormed, among-persons, among-names, person-formed, name-formed, name-some, reviewer_place-below, proposal_place-below}

-- The kind of a review line, as a desk finds it.

-- The first kind of two lists of tests.

or_some : {A : Type 0} (b : Bool) (x : A) (o p : Option A) → cond b (Some x) (option_or o p) ≡ option_or (cond b (Some x) o) p
or_some true x o p = refl
or_some false x o p = refl

first_of_kinds-append : (ks ls : List (Kind × Bool)) → first_of_kinds (ks ++ ls) ≡ option_or (first_of_kinds ks) (first_of_kinds ls)
first_of_kinds-append [] ls = refl
first_of_kinds-append (k ∷ ks) ls = ap (λ o. cond k.1 (Some k.0) o) (first_of_kinds-append ks ls) ∙ or_some k.1 k.0 (first_of_kinds ks) (first_of_kinds ls)

-- the kind of a line of four words while reviews are taken
abbrev kind_after : Goal → Lines → Text → Option Kind
kind_after g before line = first_of_kinds (
    (kind.Unknown, not (among (persons (register before)) (word line 1) && among (names (register before)) (word line 2)))
    ∷ (kind.Unassigned, not (is_assigned (setting before) (assigned g before) (word line 1) (word line 2)))
    ∷ (kind.Range, not (is_within 0 MOST_POINTS (word line 3)))
    ∷ [])

kind_of-parts : (g : Goal) (lines : Lines) (x : Text) → kind_of g lines x ≡ option_or (kind_before (phase_after lines) (review_in x)) (kind_after g lines x)
unfolding kind_of kind_tests kind_before
kind_of-parts g lines x =
    first_of_kinds-append
    ((kind.Form, not (eqb (length (words x)) 4)) ∷ (kind.Early, is_before_assignment (phase_after lines)) ∷ (kind.Late, is_after_close (phase_after lines)) ∷ [])
    ((kind.Unknown, not (among (persons (register lines)) (word x 1) && among (names (register lines)) (word x 2)))
    ∷ (kind.Unassigned, not (is_assigned (setting lines) (assigned g lines) (word x 1) (word x 2)))
    ∷ (kind.Range, not (is_within 0 MOST_POINTS (word x 3)))
    ∷ [])

-- The names of a line.

-- a word among texts that are all formed, where the word is formed or not
among-formed : (texts : List Text) (w : Text) (formed : Bool) → (among texts w ≡ true → formed ≡ true) →
    option_map_or (among texts) (if formed then Some w else None) false ≡ among texts w
among-formed texts w true h = refl
among-formed texts w false h = sym (false_from_ne_true (among texts w) (λ e. false≢true (h e)))

name_in-formed : (w : Text) → is_name w ≡ true → name_in w ≡ Some w
name_in-formed w h = rw h refl

-- a number within bounds
few-within : (canonical few : Bool) (value most : ℕ) → few ≡ leb value most →
    option_map_or (λ x. leb x most) (if canonical && few then Some value else None) false ≡ option_map_or (leb 0) (if canonical && few then Some value else None) false
few-within true true value most h = sym h ∙ sym (le-leb 0 value (omega arith))
few-within true false value most h = refl
few-within false few value most h = refl

pub points-within : (w : Text) → option_map_or (λ x. leb x MOST_POINTS) (number_up_to MOST_POINTS w) false ≡ is_within 0 MOST_POINTS w
unfolding number_up_to is_within
points-within w = few-within (is_canonical w) (leb (digits_value 10 w) MOST_POINTS) (digits_value 10 w) MOST_POINTS refl

-- three tests, of which the second counts only behind the first
three-kinds : (known known' given given' few few' : Bool) → known ≡ known' → (known ≡ true → given ≡ given') → few ≡ few' →
    first_of_kinds ((kind.Unknown, not known) ∷ (kind.Unassigned, not given) ∷ (kind.Range, not few) ∷ [])
    ≡ first_of_kinds ((kind.Unknown, not known') ∷ (kind.Unassigned, not given') ∷ (kind.Range, not few') ∷ [])
three-kinds true known' given given' few few' k g f = rw (← k, ← f, g refl) refl
three-kinds false known' given given' few few' k g f = rw (← k) refl

-- Lines that give a setting and formed names, and a square of the pairs that they assign.
pub record HoldsAssigned (lines : Lines) (square : Square) : Type 0 where
  pub formed : AreFormed (register lines)
  pub is_setting : IsSetting (setting lines)
  pub pairs : (r p : ℕ) → r < size (setting lines) → p < size (setting lines) → cell square r p ≡ run_pairs lines r p

-- a word among texts, of which those that are formed are those of others
among-formed-same : (texts others : List Text) (w : Text) (formed : Bool) → is_name w ≡ formed → (is_name w ≡ true → among texts w ≡ among others w) →
    option_map_or (among texts) (if formed then Some w else None) false ≡ option_map_or (among others) (if formed then Some w else None) false
among-formed-same texts others w true is h = h is
among-formed-same texts others w false is h = refl

pub is_person-register : (lines : Lines) (w : Text) → AreFormed (register lines) → is_person (setting lines) (name_in w) ≡ among (persons (register lines)) w
is_person-register lines w formed =
    among-formed-same (map (λ owner. owner.name) (setting lines).owners) (persons (register lines)) w (is_name w) refl (λ is. among-persons lines w (name-some w is))
    ∙ among-formed (persons (register lines)) w (is_name w) (λ known. person-formed (register lines) w formed known)

pub is_applicant-register : (lines : Lines) (w : Text) → AreFormed (register lines) → is_applicant (setting lines) (name_in w) ≡ among (names (register lines)) w
is_applicant-register lines w formed =
    among-formed (names_of (setting lines)) w (is_name w) (λ known. name-formed (register lines) w formed (sym (among-names lines w) ∙ known))
    ∙ among-names lines w

-- a line that names a person and an applicant
pub record NamesPair (lines : Lines) (x : Text) : Type 0 where
  pub reviewer_formed : is_name (word x 1) ≡ true
  pub reviewer_known : among (map (λ owner. owner.name) (setting lines).owners) (word x 1) ≡ true
  pub proposal_known : among (names_of (setting lines)) (word x 2) ≡ true
  pub reviewer : reviewer_of (setting lines) (review_in x) ≡ reviewer_place (setting lines) (word x 1)
  pub proposal : proposal_of (setting lines) (review_in x) ≡ proposal_place (setting lines) (word x 2)

pub names-pair : (lines : Lines) (x : Text) → AreFormed (register lines) →
    (among (persons (register lines)) (word x 1) && among (names (register lines)) (word x 2)) ≡ true → NamesPair lines x
unfolding reviewer_of proposal_of
names-pair lines x formed known =
    let both = and_parts (among (persons (register lines)) (word x 1)) (among (names (register lines)) (word x 2)) known in
    let person = person-formed (register lines) (word x 1) formed both.0 in
    let name = name-formed (register lines) (word x 2) formed both.1 in
    record {
      reviewer_formed = person;
      reviewer_known = among-persons lines (word x 1) (name-some (word x 1) person) ∙ both.0;
      proposal_known = among-names lines (word x 2) ∙ both.1;
      reviewer = ap (λ o. option_map_or (reviewer_place (setting lines)) o 0) (name_in-formed (word x 1) person);
      proposal = ap (λ o. option_map_or (proposal_place (setting lines)) o 0) (name_in-formed (word x 2) name);
    }

-- the pair of such a line is assigned where the square says so
given-by_square : (lines : Lines) (x : Text) (square : Square) → HoldsAssigned lines square → NamesPair lines x →
    is_assigned (setting lines) (run_pairs lines) (word x 1) (word x 2) ≡ cell square (reviewer_of (setting lines) (review_in x)) (proposal_of (setting lines) (review_in x))
unfolding is_assigned
given-by_square lines x square h named =
    let s = setting lines in
    sym
    (ap (λ r. cell square r (proposal_of (setting lines) (review_in x))) named.reviewer
    ∙ (ap (cell square (reviewer_place (setting lines) (word x 1))) named.proposal
    ∙ h.pairs (reviewer_place s (word x 1)) (proposal_place s (word x 2))
    (reviewer_place-below s (word x 1) h.is_setting named.reviewer_known) (proposal_place-below s (word x 2) named.proposal_known)))

kind_after-square : (lines : Lines) (x : Text) (square : Square) → HoldsAssigned lines square →
    kind_after goal.Run lines x ≡ kind_among (setting lines) (cell square) (review_in x)
unfolding kind_among
kind_after-square lines x square h =
    three-kinds
    (among (persons (register lines)) (word x 1) && among (names (register lines)) (word x 2))
    (is_person (setting lines) (name_in (word x 1)) && is_applicant (setting lines) (name_in (word x 2)))
    (is_assigned (setting lines) (run_pairs lines) (word x 1) (word x 2))
    (cell square (reviewer_of (setting lines) (review_in x)) (proposal_of (setting lines) (review_in x)))
    (is_within 0 MOST_POINTS (word x 3))
    (option_map_or (λ x. leb x MOST_POINTS) (number_up_to MOST_POINTS (word x 3)) false)
    (sym
    (ap (λ b. b && is_applicant (setting lines) (name_in (word x 2))) (is_person-register lines (word x 1) h.formed)
    ∙ ap (λ b. among (persons (register lines)) (word x 1) && b) (is_applicant-register lines (word x 2) h.formed)))
    (λ known. given-by_square lines x square h (names-pair lines x h.formed known))
    (sym (points-within (word x 3)))

-- three tests that all fail
no-kinds : (known given few : Bool) → first_of_kinds ((kind.Unknown, not known) ∷ (kind.Unassigned, not given) ∷ (kind.Range, not few) ∷ []) ≡ None →
    (known ≡ true) × (few ≡ true)
no-kinds true true true h = (refl, refl)
no-kinds true true false h = cc
no-kinds true false few h = cc
no-kinds false given few h = cc

-- a line that a desk keeps names a person and an applicant, and its points are within bounds
pub kept-line : (lines : Lines) (x : Text) (square : Square) → HoldsAssigned lines square → kind_among (setting lines) (cell square) (review_in x) ≡ None →
    NamesPair lines x × (is_within 0 MOST_POINTS (word x 3) ≡ true)
kept-line lines x square h kept =
    let passes = no-kinds
    (among (persons (register lines)) (word x 1) && among (names (register lines)) (word x 2))
    (is_assigned (setting lines) (run_pairs lines) (word x 1) (word x 2))
    (is_within 0 MOST_POINTS (word x 3))
    (kind_after-square lines x square h ∙ kept) in
    (names-pair lines x h.formed passes.0, passes.1)

-- The kind of a line is the one that a desk finds: first by the phase and the words, then among its names.

pub kind-by_desk : (lines : Lines) (x : Text) (square : Square) → HoldsAssigned lines square →
    kind_of goal.Run lines x ≡ option_or (kind_before (phase_after lines) (review_in x)) (kind_among (setting lines) (cell square) (review_in x))
kind-by_desk lines x square h =
    kind_of-parts goal.Run lines x ∙ ap (option_or (kind_before (phase_after lines) (review_in x))) (kind_after-square lines x square h)

-- a line with a kind by the phase and the words, whatever the lines before it put on record
pub kind-by_phase : (g : Goal) (lines : Lines) (x : Text) (k : Kind) → kind_before (phase_after lines) (review_in x) ≡ Some k → kind_of g lines x ≡ Some k
kind-by_phase g lines x k is = kind_of-parts g lines x ∙ ap (λ o. option_or o (kind_after g lines x)) is

-- a line without one
pub kind-by_names : (lines : Lines) (x : Text) (square : Square) → HoldsAssigned lines square → kind_before (phase_after lines) (review_in x) ≡ None →
    kind_of goal.Run lines x ≡ kind_among (setting lines) (cell square) (review_in x)
kind-by_names lines x square h none =
    kind-by_desk lines x square h ∙ ap (λ o. option_or o (kind_among (setting lines) (cell square) (review_in x))) none

-- Where nothing is assigned a line without a kind by the phase and the words is unassigned, if its names are known.

not_assigned : (known few : Bool) → first_of_kinds ((kind.Unknown, not known) ∷ (kind.Unassigned, not false) ∷ (kind.Range, not few) ∷ []) ≡ (if known then Some kind.Unassigned else Some kind.Unknown)
not_assigned true few = refl
not_assigned false few = refl

are_known-lines : (lines : Lines) (x : Text) → AreFormed (register lines) →
    are_known (register lines) (name_in (word x 1)) (name_in (word x 2)) ≡ (among (persons (register lines)) (word x 1) && among (names (register lines)) (word x 2))
are_known-lines lines x formed =
    ap (λ b. b && option_map_or (among (names (register lines))) (name_in (word x 2)) false)
    (among-formed (persons (register lines)) (word x 1) (is_name (word x 1)) (λ known. person-formed (register lines) (word x 1) formed known))
    ∙ ap (λ b. among (persons (register lines)) (word x 1) && b)
    (among-formed (names (register lines)) (word x 2) (is_name (word x 2)) (λ known. name-formed (register lines) (word x 2) formed known))

pub kind-by_register : (lines : Lines) (x : Text) → AreFormed (register lines) → kind_before (phase_after lines) (review_in x) ≡ None →
    kind_of goal.Feasible lines x ≡ (if are_known (register lines) (name_in (word x 1)) (name_in (word x 2)) then Some kind.Unassigned else Some kind.Unknown)
unfolding is_assigned
kind-by_register lines x formed none =
    kind_of-parts goal.Feasible lines x
    ∙ (ap (λ o. option_or o (kind_after goal.Feasible lines x)) none
    ∙ (not_assigned (among (persons (register lines)) (word x 1) && among (names (register lines)) (word x 2)) (is_within 0 MOST_POINTS (word x 3))
    ∙ ap (λ b. if b then Some kind.Unassigned else Some kind.Unknown) (sym (are_known-lines lines x formed))))

-- a goal that looks at the pairs has the kinds of a run
pub kind-by_pairs : (g : Goal) (lines : Lines) (x : Text) → looks_at_pairs g ≡ true → kind_of g lines x ≡ kind_of goal.Run lines x
unfolding kind_of kind_tests
kind-by_pairs goal.Run lines x h = refl
kind-by_pairs goal.Pairs lines x h = refl
kind-by_pairs goal.Feasible lines x h = absurd (false≢true h)
