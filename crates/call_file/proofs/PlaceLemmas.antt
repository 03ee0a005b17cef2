-- Places that are given once, as a set keeps them.
use Rattle.std.proofs.Common.{◌≡◌, Bool, true, false, cond, not, ◌&&◌, List, [], ◌∷◌, ◌++◌, map, Ordering, Less, Equal, Greater, nat_cmp, is_eq, refl, sym, ap, ◌∙◌, append_assoc}
use Rattle.std.specs.Prelude.{filter}
use Rattle.std.specs.Ordering.{ordering_then}
use Rattle.std.specs.Cmp.{unsigned_tied}
use Rattle.std.specs.Cmp.Lexicographic.{slice_cmp}
use Rattle.std.specs.Str.{bytes_eq}
use Rattle.std.specs.BTreeSet.{BTreeSet, Updates}
use Rattle.std.proofs.lemmas.Map.Text.{is_eq-slice_cmp}
use Rattle.house_model.specs.Text.{Lines}
use Rattle.command_text.specs.Printing.{command_line}
use Rattle.call_file.specs.declared.settings.Version.TheVariants as version
use Rattle.call_file.specs.Opening.{Place, each_once, place_command, same_place}
use Rattle.call_file.specs.Pass.{given_in, place_cmp, places_due}

both_equal : (a b : Ordering) → is_eq (ordering_then a b) ≡ (is_eq a && is_eq b)
both_equal Less b = refl
both_equal Equal b = refl
both_equal Greater b = refl

-- the order does not tell a place from itself alone
same_by_order : (p q : Place) → is_eq (place_cmp p q) ≡ same_place p q
same_by_order p q =
    both_equal (slice_cmp nat_cmp p.0 q.0) (nat_cmp p.1 q.1)
    ∙ ap (λ b. b && is_eq (nat_cmp p.1 q.1)) (is_eq-slice_cmp p.0 q.0)
    ∙ ap (λ b. bytes_eq p.0 q.0 && b) (unsigned_tied p.1 q.1)

-- two tests one behind the other are one
one_test : (a b both : Place → Bool) → ((q : Place) → both q ≡ cond (b q) (a q) false) → (xs : List Place) → filter both xs ≡ filter a (filter b xs)
one_test a b both is [] = refl
one_test a b both is (x ∷ xs) =
    ap (λ t. cond t (x ∷ filter both xs) (filter both xs)) (is x)
    ∙ ap (λ ys. cond (cond (b x) (a x) false) (x ∷ ys) ys) (one_test a b both is xs)
    ∙ elim (b x) as (λ t. cond (cond t (a x) false) (x ∷ filter a (filter b xs)) (filter a (filter b xs)) ≡ filter a (cond t (x ∷ filter b xs) (filter b xs))) [ true ↦ refl | false ↦ refl ]

negated : (b c : Bool) → not (cond b true c) ≡ cond (not b) (not c) false
negated true c = refl
negated false c = refl

module _ (old new : BTreeSet Place) (p : Place) (updates : Updates place_cmp old new p true) where
  -- with one more place in the set, just the others are still to be given
  fewer_due : (ps : List Place) → filter (λ q. not (given_in new q)) ps ≡ filter (λ q. not (given_in old q)) (filter (λ q. not (same_place p q)) ps)
  fewer_due =
      one_test (λ q. not (given_in old q)) (λ q. not (same_place p q)) (λ q. not (given_in new q)) (λ q.
      ap not (updates.0 q ∙ ap (λ b. cond b true (given_in old q)) (same_by_order p q)) ∙ negated (same_place p q) (given_in old q))

  due_behind : (more : List Place) → places_due version.Second (given_in old) (p ∷ more) ≡
      map place_command (cond (not (given_in old p)) (p ∷ filter (λ q. not (given_in new q)) (each_once more)) (filter (λ q. not (given_in new q)) (each_once more)))
  unfolding places_due
  due_behind more = ap (λ rest. map place_command (cond (not (given_in old p)) (p ∷ rest) rest)) (sym (fewer_due (each_once more)))

  -- a place that was given adds nothing
  pub given_again : (lines : Lines) → given_in old p ≡ true → (more : List Place) →
      lines ++ map command_line (places_due version.Second (given_in new) more) ≡ lines ++ map command_line (places_due version.Second (given_in old) (p ∷ more))
  unfolding places_due
  given_again lines was more =
      ap (λ due. lines ++ map command_line due) (sym (due_behind more ∙ ap (λ b. map place_command (cond (not b) (p ∷ filter (λ q. not (given_in new q)) (each_once more)) (filter (λ q. not (given_in new q)) (each_once more)))) was))

  -- a place that was not given adds its line
  pub given_first : (lines after : Lines) → given_in old p ≡ false → after ≡ lines ++ command_line (place_command p) ∷ [] → (more : List Place) →
      after ++ map command_line (places_due version.Second (given_in new) more) ≡ lines ++ map command_line (places_due version.Second (given_in old) (p ∷ more))
  unfolding places_due
  given_first lines after was is more =
      ap (λ ls. ls ++ map command_line (places_due version.Second (given_in new) more)) is
      ∙ append_assoc lines (command_line (place_command p) ∷ []) (map command_line (places_due version.Second (given_in new) more))
      ∙ ap (λ due. lines ++ map command_line due) (sym (due_behind more ∙ ap (λ b. map place_command (cond (not b) (p ∷ filter (λ q. not (given_in new q)) (each_once more)) (filter (λ q. not (given_in new q)) (each_once more)))) was))

-- in the first version each place adds its line
pub given_always : (old new : Place → Bool) (p : Place) (lines after : Lines) → after ≡ lines ++ command_line (place_command p) ∷ [] → (more : List Place) →
    after ++ map command_line (places_due version.First new more) ≡ lines ++ map command_line (places_due version.First old (p ∷ more))
unfolding places_due
given_always old new p lines after is more =
    ap (λ ls. ls ++ map command_line (map place_command more)) is
    ∙ append_assoc lines (command_line (place_command p) ∷ []) (map command_line (map place_command more))

-- a test that is the denial of another
pub denied : (a b : Bool) → a ≡ not b → a ≡ true → b ≡ false
denied a true is h = absurd (let wrong : ⊥ = cc in wrong)
denied a false is h = refl

pub not_denied : (a b : Bool) → a ≡ not b → a ≡ false → b ≡ true
not_denied a true is h = refl
not_denied a false is h = absurd (let wrong : ⊥ = cc in wrong)
