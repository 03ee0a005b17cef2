use Rattle.std.proofs.Common.{◌≡◌, ℕ, ◌<◌, ◌≤◌, ◌^◌, ◌-◌, Bool, true, false, eqb, leb, cond, Option, Some, None, [], ◌∷◌, ◌++◌, refl, sym, ap, ◌∙◌, append-nil, arith}
use Rattle.std.specs.Prelude.{filter, ◌&&◌, if◌then◌else◌}
use Rattle.std.specs.List.{slice_get}
use Rattle.std.specs.Option.{option_map_or, is_none}
use Rattle.std.specs.Str.{bytes_eq}
use Rattle.std.specs.Str.Parse.{digits_value}
use Rattle.std.proofs.lemmas.Bool.{false≢true, le-leb, leb-true}
use Rattle.std.proofs.lemmas.List.{reverse-append}
use Rattle.std.proofs.lemmas.List.Elements.{filter-append}
use Rattle.house_base.specs.declared.answer.Kind.{Kind}
use Rattle.house_base.specs.declared.limits.TheConstants.{MOST_POINTS}
use Rattle.house_base.specs.Grid.{Square, cell}
use Rattle.house_base.specs.Number.{is_canonical, number_up_to}
use Rattle.house_base.specs.Setting.{size, name_at}
use Rattle.house_base.specs.Text.{Text}
use Rattle.house_model.specs.declared.goal.Goal.TheVariants as goal
use Rattle.house_model.specs.Faults.{is_within}
use Rattle.house_model.specs.Reviews.{kind_of, kept_after, points_of, reviewer_place, proposal_place}
use Rattle.house_model.specs.Said.{number, phase_after, setting}
use Rattle.house_model.specs.Text.{Lines, word}
use Rattle.house_model.specs.Verbs.{is_review}
use Rattle.command_text.specs.Reading.{review_in}
use Rattle.review_desk.specs.Line.{kind_before, kind_among, points_in, points_after}
use Rattle.review_desk.proofs.LineLemmas.{points-kept, points-aside}
use Rattle.house_core.proofs.ReviewLemmas.{is_on, last_points, points-are, points-more, points-same, setting-review}
use Rattle.house_core.proofs.ReviewKindLemmas.{HoldsAssigned, NamesPair, kept-line, kind-by_names}
use Rattle.house_core.proofs.ReviewPlaceLemmas.{name-some, is_reviewer-by_place, is_proposal-by_place}

-- The points after a review line, as a desk has them.

-- The number in a line.

more-room : (canonical few many : Bool) (value x : ℕ) → (few ≡ true → many ≡ true) → (if canonical && few then Some value else None) ≡ Some x →
    (if canonical && many then Some value else None) ≡ Some x
more-room true true many value x h is = rw (h refl) is
more-room true false many value x h is = cc
more-room false few many value x h is = cc

-- a number up to a bound is the same up to a greater one
number_up_to-more : (m n : ℕ) (w : Text) (x : ℕ) → m ≤ n → number_up_to m w ≡ Some x → number_up_to n w ≡ Some x
unfolding number_up_to
number_up_to-more m n w x l is =
    more-room (is_canonical w) (leb (digits_value 10 w) m) (leb (digits_value 10 w) n) (digits_value 10 w) x
    (λ few. le-leb (digits_value 10 w) n (omega (arith, l, leb-true (digits_value 10 w) m few))) is

same-number : (o p : Option ℕ) → ((x : ℕ) → o ≡ Some x → p ≡ Some x) → option_map_or (leb 0) o false ≡ true →
    option_map_or (λ n. n) p 0 ≡ option_map_or (λ n. n) o 0
same-number None p h some = absurd (false≢true some)
same-number (Some x) p h some = ap (λ o. option_map_or (λ n. n) o 0) (h x refl)

-- points within bounds are the number that the word spells
pub points-number : (x : Text) → is_within 0 MOST_POINTS (word x 3) ≡ true → number (word x 3) ≡ points_in (review_in x)
unfolding number points_in is_within
points-number x within =
    same-number (number_up_to MOST_POINTS (word x 3)) (number_up_to (2 ^ 64 - 1) (word x 3))
    (λ n is. number_up_to-more MOST_POINTS (2 ^ 64 - 1) (word x 3) n (omega arith) is) within

-- The last of the kept lines.

last_points-push : (on_them : Bool) (lines : Lines) (x : Text) → last_points (lines ++ (if on_them then x ∷ [] else [])) ≡ (if on_them then number (word x 3) else last_points lines)
last_points-push true lines x = ap (λ l. option_map_or (λ line. number (word line 3)) (slice_get l 0) 0) (reverse-append lines (x ∷ []))
last_points-push false lines x = ap last_points (append-nil lines)

-- a kept line sets the points of the pair that it names
points-push : (lines : Lines) (x : Text) (r p : ℕ) → is_review x ≡ true → kind_of goal.Run lines x ≡ None →
    points_of (lines ++ x ∷ []) r p ≡ (if is_on lines r p x then number (word x 3) else points_of lines r p)
points-push lines x r p review kept =
    points-more lines x r p (setting-review lines x review)
    ∙ (ap (λ b. last_points (filter (is_on lines r p) (kept_after [] lines ++ cond (b && is_none (kind_of goal.Run lines x)) (x ∷ []) []))) review
    ∙ (ap (λ o. last_points (filter (is_on lines r p) (kept_after [] lines ++ cond (is_none o) (x ∷ []) []))) kept
    ∙ (ap last_points (filter-append (is_on lines r p) (kept_after [] lines) (x ∷ []))
    ∙ (last_points-push (is_on lines r p x) (filter (is_on lines r p) (kept_after [] lines)) x
    ∙ ap (λ n. if is_on lines r p x then number (word x 3) else n) (sym (points-are lines r p))))))

-- the pair that it names, by its places
is_on-places : (lines : Lines) (x : Text) (square : Square) (r p : ℕ) → HoldsAssigned lines square → NamesPair lines x → p < size (setting lines) →
    is_on lines r p x ≡ (eqb r (reviewer_place (setting lines) (word x 1)) && eqb p (proposal_place (setting lines) (word x 2)))
is_on-places lines x square r p h named pl =
    ap (λ b. b && bytes_eq (word x 2) (name_at (setting lines) p))
    (is_reviewer-by_place (setting lines) (word x 1) r h.is_setting named.reviewer_known (name-some (word x 1) named.reviewer_formed))
    ∙ ap (λ b. eqb r (reviewer_place (setting lines) (word x 1)) && b) (is_proposal-by_place (setting lines) (word x 2) p h.is_setting named.proposal_known pl)

-- The points after a review line while reviews are taken are those of a desk.
pub points-review : (lines : Lines) (x : Text) (square : Square) (r p : ℕ) → HoldsAssigned lines square → is_review x ≡ true →
    kind_before (phase_after lines) (review_in x) ≡ None → p < size (setting lines) →
    points_of (lines ++ x ∷ []) r p ≡ points_after (setting lines) (cell square) (points_of lines) (review_in x) r p
points-review lines x square r p h review before pl =
    by-kind (kind_among (setting lines) (cell square) (review_in x)) refl
  where
    by-kind : (o : Option Kind) → kind_among (setting lines) (cell square) (review_in x) ≡ o →
        points_of (lines ++ x ∷ []) r p ≡ points_after (setting lines) (cell square) (points_of lines) (review_in x) r p
    by-kind None kept =
        let line = kept-line lines x square h kept in
        points-push lines x r p review (kind-by_names lines x square h before ∙ kept)
        ∙ (ap (λ b. if b then number (word x 3) else points_of lines r p) (is_on-places lines x square r p h line.0 pl)
        ∙ points-kept (setting lines) (cell square) (points_of lines) (review_in x) r p
        (reviewer_place (setting lines) (word x 1)) (proposal_place (setting lines) (word x 2)) (number (word x 3)) kept
        (sym line.0.reviewer) (sym line.0.proposal) (points-number x line.1))
    by-kind (Some k) aside =
        let of_kind = kind-by_names lines x square h before ∙ aside in
        points-same lines x r p (ap (λ b. b && is_none (kind_of goal.Run lines x)) review ∙ ap is_none of_kind) (setting-review lines x review)
        ∙ points-aside (setting lines) (cell square) (points_of lines) (review_in x) r p k aside
