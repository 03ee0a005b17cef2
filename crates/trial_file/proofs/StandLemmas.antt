-- What some first lines of a trial say.
use Rattle.std.proofs.Common.{◌≡◌, ℕ, Bool, true, false, List, [], ◌∷◌, ◌++◌, None, refl, sym, ap, ◌∙◌}
use Rattle.std.specs.Prelude.{◌||◌}
use Rattle.house_base.specs.Text.{Text}
use Rattle.house_model.specs.declared.verb.Verb.{Verb}
use Rattle.house_model.specs.declared.verb.Verb.TheVariants as verb
use Rattle.house_model.specs.Register.{Register}
use Rattle.house_model.specs.Said.{applicant_in, clusters_of, has, number, phase_after, place_in, register, seal_of, those}
use Rattle.house_model.specs.Text.{Lines, word}
use Rattle.house_model.specs.Verbs.{is_review, verb_in}
use Rattle.house_core.proofs.PushLemmas.{call_number_first, call_number_other, has_other, has_same, phase_by, phase_is, register_applicant, register_other, register_place, seal_of_other}
use Rattle.house_core.proofs.VerbLemmas.{review_other}

-- Lines with a call of so many clusters, these applicants and places, and no more; and whether the assignment was made and
-- the reviews closed.
pub record Stands (lines : Lines) (clusters : ℕ) (applicants : List (Text × Text)) (placed : List (Text × ℕ))
    (assigned closed : Bool) : Type 0 where
  pub call : has verb.Call lines ≡ true
  pub clusters_are : clusters_of lines ≡ clusters
  pub applicants_are : (register lines).applicants ≡ applicants
  pub placed_are : (register lines).placed ≡ placed
  pub no_pairs : (register lines).pairs ≡ []
  pub is_assigned : has verb.Assign lines ≡ assigned
  pub is_closed : has verb.Close lines ≡ closed
  pub no_draw : has verb.Draw lines ≡ false
  pub no_lottery : has verb.Lottery lines ≡ false
  pub no_seed : has verb.Partition lines ≡ false
  pub no_seal : seal_of lines ≡ None

pub phase_of : (lines : Lines) (clusters : ℕ) (applicants : List (Text × Text)) (placed : List (Text × ℕ)) (assigned closed : Bool) →
    Stands lines clusters applicants placed assigned closed → phase_after lines ≡ phase_by assigned closed false
phase_of lines clusters applicants placed assigned closed s =
    phase_is lines
    ∙ ap (λ b. phase_by b (has verb.Close lines) (has verb.Draw lines || has verb.Lottery lines)) s.is_assigned
    ∙ ap (λ b. phase_by assigned b (has verb.Draw lines || has verb.Lottery lines)) s.is_closed
    ∙ ap (λ b. phase_by assigned closed (b || has verb.Lottery lines)) s.no_draw
    ∙ ap (λ b. phase_by assigned closed b) s.no_lottery

-- nothing but the call was said
none_has : (v : Verb) → has v [] ≡ false
unfolding has
none_has v = refl

none_registered : (field : Register → List (Text × Text)) → field (register []) ≡ field (record { applicants = []; placed = []; barred = []; pairs = [] })
unfolding register those
none_registered field = refl

none_placed : (register []).placed ≡ []
unfolding register those
none_placed = refl

none_sealed : seal_of [] ≡ None
unfolding seal_of
none_sealed = refl

pub first_stands : (x : Text) (clusters : ℕ) → verb_in x ≡ verb.Call → clusters ≡ number (word x 2) → Stands (x ∷ []) clusters [] [] false false
first_stands x clusters h is =
    let reg = register_other verb.Call [] x h refl refl refl refl in
    record {
      call = has_same verb.Call verb.Call [] x h refl;
      clusters_are = call_number_first [] x 2 (none_has verb.Call) h ∙ sym is;
      applicants_are = ap (λ (r : Register). r.applicants) reg ∙ none_registered (λ r. r.applicants);
      placed_are = ap (λ (r : Register). r.placed) reg ∙ none_placed;
      no_pairs = ap (λ (r : Register). r.pairs) reg ∙ none_registered (λ r. r.pairs);
      is_assigned = has_other verb.Call verb.Assign [] x h refl ∙ none_has verb.Assign;
      is_closed = has_other verb.Call verb.Close [] x h refl ∙ none_has verb.Close;
      no_draw = has_other verb.Call verb.Draw [] x h refl ∙ none_has verb.Draw;
      no_lottery = has_other verb.Call verb.Lottery [] x h refl ∙ none_has verb.Lottery;
      no_seed = has_other verb.Call verb.Partition [] x h refl ∙ none_has verb.Partition;
      no_seal = seal_of_other verb.Call [] x h refl ∙ none_sealed;
    }

module _ (lines : Lines) (x : Text) (clusters : ℕ) (applicants : List (Text × Text)) (placed : List (Text × ℕ)) where
  pub applicant_stands : (name : Text) → verb_in x ≡ verb.Applicant → applicant_in x ≡ (name, name) → Stands lines clusters applicants placed false false →
      Stands (lines ++ x ∷ []) clusters (applicants ++ (name, name) ∷ []) placed false false
  applicant_stands name h is s =
      let reg = register_applicant lines x h in
      record {
        call = has_other verb.Applicant verb.Call lines x h refl ∙ s.call;
        clusters_are = call_number_other verb.Applicant lines x 2 h refl ∙ s.clusters_are;
        applicants_are = ap (λ (r : Register). r.applicants) reg
            ∙ ap (λ as_before. as_before ++ applicant_in x ∷ []) s.applicants_are
            ∙ ap (λ a. applicants ++ a ∷ []) is;
        placed_are = ap (λ (r : Register). r.placed) reg ∙ s.placed_are;
        no_pairs = ap (λ (r : Register). r.pairs) reg ∙ s.no_pairs;
        is_assigned = has_other verb.Applicant verb.Assign lines x h refl ∙ s.is_assigned;
        is_closed = has_other verb.Applicant verb.Close lines x h refl ∙ s.is_closed;
        no_draw = has_other verb.Applicant verb.Draw lines x h refl ∙ s.no_draw;
        no_lottery = has_other verb.Applicant verb.Lottery lines x h refl ∙ s.no_lottery;
        no_seed = has_other verb.Applicant verb.Partition lines x h refl ∙ s.no_seed;
        no_seal = seal_of_other verb.Applicant lines x h refl ∙ s.no_seal;
      }

  pub place_stands : (name : Text) (cluster : ℕ) → verb_in x ≡ verb.Place → place_in x ≡ (name, cluster) → Stands lines clusters applicants placed false false →
      Stands (lines ++ x ∷ []) clusters applicants (placed ++ (name, cluster) ∷ []) false false
  place_stands name cluster h is s =
      let reg = register_place lines x h in
      record {
        call = has_other verb.Place verb.Call lines x h refl ∙ s.call;
        clusters_are = call_number_other verb.Place lines x 2 h refl ∙ s.clusters_are;
        applicants_are = ap (λ (r : Register). r.applicants) reg ∙ s.applicants_are;
        placed_are = ap (λ (r : Register). r.placed) reg
            ∙ ap (λ before. before ++ place_in x ∷ []) s.placed_are
            ∙ ap (λ p. placed ++ p ∷ []) is;
        no_pairs = ap (λ (r : Register). r.pairs) reg ∙ s.no_pairs;
        is_assigned = has_other verb.Place verb.Assign lines x h refl ∙ s.is_assigned;
        is_closed = has_other verb.Place verb.Close lines x h refl ∙ s.is_closed;
        no_draw = has_other verb.Place verb.Draw lines x h refl ∙ s.no_draw;
        no_lottery = has_other verb.Place verb.Lottery lines x h refl ∙ s.no_lottery;
        no_seed = has_other verb.Place verb.Partition lines x h refl ∙ s.no_seed;
        no_seal = seal_of_other verb.Place lines x h refl ∙ s.no_seal;
      }

  pub assign_stands : verb_in x ≡ verb.Assign → Stands lines clusters applicants placed false false → Stands (lines ++ x ∷ []) clusters applicants placed true false
  assign_stands h s =
      let reg = register_other verb.Assign lines x h refl refl refl refl in
      record {
        call = has_other verb.Assign verb.Call lines x h refl ∙ s.call;
        clusters_are = call_number_other verb.Assign lines x 2 h refl ∙ s.clusters_are;
        applicants_are = ap (λ (r : Register). r.applicants) reg ∙ s.applicants_are;
        placed_are = ap (λ (r : Register). r.placed) reg ∙ s.placed_are;
        no_pairs = ap (λ (r : Register). r.pairs) reg ∙ s.no_pairs;
        is_assigned = has_same verb.Assign verb.Assign lines x h refl;
        is_closed = has_other verb.Assign verb.Close lines x h refl ∙ s.is_closed;
        no_draw = has_other verb.Assign verb.Draw lines x h refl ∙ s.no_draw;
        no_lottery = has_other verb.Assign verb.Lottery lines x h refl ∙ s.no_lottery;
        no_seed = has_other verb.Assign verb.Partition lines x h refl ∙ s.no_seed;
        no_seal = seal_of_other verb.Assign lines x h refl ∙ s.no_seal;
      }

  pub review_stands : is_review x ≡ true → Stands lines clusters applicants placed true false → Stands (lines ++ x ∷ []) clusters applicants placed true false
  review_stands review s =
      let h = review_other x review in
      let reg = register_other verb.Other lines x h refl refl refl refl in
      record {
        call = has_other verb.Other verb.Call lines x h refl ∙ s.call;
        clusters_are = call_number_other verb.Other lines x 2 h refl ∙ s.clusters_are;
        applicants_are = ap (λ (r : Register). r.applicants) reg ∙ s.applicants_are;
        placed_are = ap (λ (r : Register). r.placed) reg ∙ s.placed_are;
        no_pairs = ap (λ (r : Register). r.pairs) reg ∙ s.no_pairs;
        is_assigned = has_other verb.Other verb.Assign lines x h refl ∙ s.is_assigned;
        is_closed = has_other verb.Other verb.Close lines x h refl ∙ s.is_closed;
        no_draw = has_other verb.Other verb.Draw lines x h refl ∙ s.no_draw;
        no_lottery = has_other verb.Other verb.Lottery lines x h refl ∙ s.no_lottery;
        no_seed = has_other verb.Other verb.Partition lines x h refl ∙ s.no_seed;
        no_seal = seal_of_other verb.Other lines x h refl ∙ s.no_seal;
      }

  pub close_stands : verb_in x ≡ verb.Close → Stands lines clusters applicants placed true false → Stands (lines ++ x ∷ []) clusters applicants placed true true
  close_stands h s =
      let reg = register_other verb.Close lines x h refl refl refl refl in
      record {
        call = has_other verb.Close verb.Call lines x h refl ∙ s.call;
        clusters_are = call_number_other verb.Close lines x 2 h refl ∙ s.clusters_are;
        applicants_are = ap (λ (r : Register). r.applicants) reg ∙ s.applicants_are;
        placed_are = ap (λ (r : Register). r.placed) reg ∙ s.placed_are;
        no_pairs = ap (λ (r : Register). r.pairs) reg ∙ s.no_pairs;
        is_assigned = has_other verb.Close verb.Assign lines x h refl ∙ s.is_assigned;
        is_closed = has_same verb.Close verb.Close lines x h refl;
        no_draw = has_other verb.Close verb.Draw lines x h refl ∙ s.no_draw;
        no_lottery = has_other verb.Close verb.Lottery lines x h refl ∙ s.no_lottery;
        no_seed = has_other verb.Close verb.Partition lines x h refl ∙ s.no_seed;
        no_seal = seal_of_other verb.Close lines x h refl ∙ s.no_seal;
      }
