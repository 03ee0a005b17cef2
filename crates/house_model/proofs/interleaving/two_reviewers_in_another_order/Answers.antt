use Rattle.std.proofs.Common.{◌≡◌, Bool, true, false, cond, [], ◌∷◌, length, filter, refl, sym, ap, ◌∙◌}
use Rattle.std.specs.Prelude.{codes}
use Rattle.std.specs.Str.{bytes_eq}
use Rattle.std.proofs.lemmas.Bool.{false≢true}
use Rattle.house_base.specs.declared.phase.Phase.{Phase}
use Rattle.house_base.specs.declared.phase.Phase.TheVariants as phase
use Rattle.house_base.specs.Text.{Text}
use Rattle.house_base.proofs.AmongLemmas.{same_text}
use Rattle.house_model.specs.Interleaving.{standing_in, reviews_naming, names_nobody}
use Rattle.house_model.specs.Said.{has, phase_after}
use Rattle.house_model.specs.Text.{Lines, word, words, is_blank}
use Rattle.house_model.specs.Verbs.{is_house, is_review, verb_in, verb_of}
use Rattle.house_model.proofs.interleaving.two_reviewers_in_another_order.Goals as goal

-- of two tests that never hold together, the elements that pass one or the other keep no order between them
two_tests : {X : Type 0} (a b : Bool) (x y z : X) → (a ≡ true → b ≡ true → ⊥) →
    cond a (x ∷ cond b (y ∷ cond a (z ∷ []) []) (cond a (z ∷ []) [])) (cond b (y ∷ cond a (z ∷ []) []) (cond a (z ∷ []) []))
    ≡ cond b (y ∷ cond a (x ∷ cond a (z ∷ []) []) (cond a (z ∷ []) [])) (cond a (x ∷ cond a (z ∷ []) []) (cond a (z ∷ []) []))
two_tests true true x y z apart = absurd (apart refl refl)
two_tests true false x y z apart = refl
two_tests false true x y z apart = refl
two_tests false false x y z apart = refl

apart : (name : Text) → bytes_eq (codes "a") name ≡ true → bytes_eq (codes "b") name ≡ true → ⊥
apart name is_a is_b =
    let one : codes "a" ≡ codes "b" = same_text (codes "a") name is_a ∙ sym (same_text (codes "b") name is_b) in
    false≢true (ap (bytes_eq (codes "a")) (sym one))

first : Lines
first = codes "assign" ∷ codes "review a c 5" ∷ codes "review b d 7" ∷ codes "review a c 6" ∷ []

second : Lines
second = codes "assign" ∷ codes "review b d 7" ∷ codes "review a c 5" ∷ codes "review a c 6" ∷ []

reviews : (p : Phase) (name : Text) → reviews_naming name (standing_in p first) ≡ reviews_naming name (standing_in p second)
unfolding first second standing_in phase_after has is_review word words verb_in verb_of
reviews phase.Opening name = refl
reviews phase.Reviewing name = two_tests (bytes_eq (codes "a") name) (bytes_eq (codes "b") name) (codes "review a c 5") (codes "review b d 7") (codes "review a c 6") (apart name)
reviews phase.Closed name = refl
reviews phase.Drawn name = refl

nobody : (p : Phase) → length (filter names_nobody (standing_in p first)) ≡ length (filter names_nobody (standing_in p second))
unfolding first second standing_in phase_after has is_review word words verb_in verb_of
nobody phase.Opening = refl
nobody phase.Reviewing = refl
nobody phase.Closed = refl
nobody phase.Drawn = refl

pub returns : goal.returns
unfolding first second standing_in phase_after has is_house is_blank is_review word words verb_in verb_of
returns c = record { same_house = refl; same_reviews = reviews; as_many = nobody }
