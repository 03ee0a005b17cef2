-- The lines of a whole call give slips that can be read.
use Rattle.std.proofs.Common.{◌≡◌, ℕ, ◌-◌, ◌<◌, ◌≤◌, ◌∙◌, Bool, true, false, cond, ◌&&◌, List, [], ◌∷◌, ◌++◌, length, get_or, Option, Some, None, slice_get, refl, sym, ap, arith, subst, inl, inr}
use Rattle.std.specs.Prelude.{reverse}
use Rattle.std.specs.List.{AllByRecursion}
use Rattle.std.specs.Option.{is_none, option_map_or}
use Rattle.std.proofs.lemmas.Bool.{not-false}
use Rattle.std.proofs.lemmas.List.{get_or-reverse, length-reverse}
use Rattle.std.proofs.lemmas.Option.{get_or_from_slice_get, slice_get_within}
use Rattle.house_base.specs.Text.{Text}
use Rattle.house_base.specs.declared.answer.Kind.{Kind}
use Rattle.house_base.specs.declared.limits.TheConstants.{MOST_POINTS}
use Rattle.house_base.proofs.InOrderLemmas.{filter-In, In, In-append, In-get_or}
use Rattle.house_model.specs.declared.goal.Goal.{Goal}
use Rattle.house_model.specs.declared.goal.Goal.TheVariants as goal
use Rattle.house_model.specs.Ending.{stop_of}
use Rattle.house_model.specs.Faults.{is_within}
use Rattle.house_model.specs.Headline.{AreOfCall}
use Rattle.house_model.specs.Reviews.{first_of_kinds, kept_after, kind_of, kind_tests, points_of, profile}
use Rattle.house_model.specs.Said.{number, register, setting}
use Rattle.house_model.specs.Text.{Lines, word}
use Rattle.house_model.specs.Verbs.{is_review}
use Rattle.house_model.proofs.FormedNameLemmas.{names-formed}
use Rattle.house_model.proofs.RunEndLemmas.{done-parts}
use Rattle.house_model.proofs.SeededSettingLemmas.{HasFormedNames-seeded}
use Rattle.slip_check.specs.Limits.{GivesSlips}
use Rattle.slip_check.proofs.GiveLemmas.{number-within}

-- Points of a line that is kept are within bounds.

passed : (k : Kind) (b : Bool) (o : Option Kind) → cond b (Some k) o ≡ None → (b ≡ false) × (o ≡ None)
passed k true o h = cc
passed k false o h = (refl, h)

fails_each : (ks : List (Kind × Bool)) → first_of_kinds ks ≡ None → AllByRecursion (λ k. k.1 ≡ false) ks
fails_each [] h = tt
fails_each (k ∷ ks) h = let r = passed k.0 k.1 (first_of_kinds ks) h in (r.0, fails_each ks r.1)

kind-within : (g : Goal) (before : Lines) (line : Text) → kind_of g before line ≡ None → is_within 0 MOST_POINTS (word line 3) ≡ true
unfolding kind_of kind_tests
kind-within g before line h = not-false (is_within 0 MOST_POINTS (word line 3)) (fails_each (kind_tests g before line) h).1.1.1.1.1.0

kept-within : (before lines : Lines) (x : Text) → In x (kept_after before lines) → is_within 0 MOST_POINTS (word x 3) ≡ true
kept-within before [] x m = absurd m
kept-within before (line ∷ lines) x m =
    elim (In-append x (cond (is_review line && is_none (kind_of goal.Run before line)) (line ∷ []) []) (kept_after (before ++ line ∷ []) lines) m) [
      | inl here ↦ one (is_review line) (kind_of goal.Run before line) refl here
      | inr later ↦ kept-within (before ++ line ∷ []) lines x later
    ]
  where
    one : (r : Bool) (o : Option Kind) → kind_of goal.Run before line ≡ o → In x (cond (r && is_none o) (line ∷ []) []) → is_within 0 MOST_POINTS (word x 3) ≡ true
    one true None e (inl same) = ap (λ l. is_within 0 MOST_POINTS (word l 3)) same ∙ kind-within goal.Run before line e
    one true None e (inr none) = absurd none
    one true (Some k) e none = absurd none
    one false o e none = absurd none

picked : (o : Option Text) → ((x : Text) → o ≡ Some x → number (word x 3) ≤ MOST_POINTS) → option_map_or (λ line. number (word line 3)) o 0 ≤ MOST_POINTS
picked None h = omega arith
picked (Some x) h = h x refl

-- what stands first in a list turned round stands in the list
first-In : (xs : List Text) (x : Text) → slice_get (reverse xs) 0 ≡ Some x → In x xs
first-In xs x h =
    let some : 0 < length xs = omega (arith, slice_get_within (reverse xs) 0 x h, length-reverse xs) in
    let is : get_or xs (length xs - 1 - 0) x ≡ x = sym (get_or-reverse xs 0 x some) ∙ get_or_from_slice_get (reverse xs) 0 x x h in
    subst (λ y. In y xs) is (In-get_or xs (length xs - 1 - 0) x (omega arith))

points-most : (lines : Lines) (r p : ℕ) → points_of lines r p ≤ MOST_POINTS
unfolding points_of
points-most lines r p =
    picked _ (λ x e. number-within MOST_POINTS (word x 3) (omega arith)
    (kept-within [] lines x (filter-In _ x (kept_after [] lines) (first-In _ x e)).0))

pub gives-slips : (lines : Lines) → AreOfCall lines → GivesSlips (profile lines)
unfolding profile setting stop_of
gives-slips lines call = record {
  assigned = call.assigned;
  names = HasFormedNames-seeded _ _ _ _ (register lines) (names-formed goal.Run lines (done-parts lines call.done).0);
  most = λ r p rl pl. points-most lines r p;
}
