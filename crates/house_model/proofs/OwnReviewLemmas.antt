-- What a person writes as a reviewer has no part in the chances of its own applicants.
use Rattle.std.proofs.Common.{◌≡◌, ◌≢◌, ℕ, ◌+◌, ◌<◌, true, not, ◌&&◌, cond, eqb, leb, ltb, List, [], length, map, get_or, find, Some, is_some, sym, ap, ◌∙◌, inl, inr, arith}
use Rattle.std.specs.List.{Contains, AllPairs, slice_get}
use Rattle.std.specs.Option.{option_map_or}
use Rattle.std.proofs.lemmas.Bool.{both_ways, cases_eq, cases_order, cond-true, cond-false, and_parts, eqb-true, eq-eqb, ne_eqb, ltb-true, leb-true, lt-ltb, le-leb, and_from}
use Rattle.std.proofs.lemmas.List.{get_or-map, length-map}
use Rattle.std.proofs.lemmas.List.Elements.{All-contains}
use Rattle.std.proofs.lemmas.Option.{slice_get-get_or, slice_get_within, get_or_from_slice_get, same_Some}
use Rattle.house_base.specs.declared.plan.Owner.{Owner}
use Rattle.house_base.specs.Grid.{cell}
use Rattle.house_base.specs.Setting.{Setting, IsSetting, IsOwned, size, cluster_at, owner_from, may}
use Rattle.house_base.proofs.Settings.{Contains-find, find-from_Contains, find_cases, owned-StandInTurn}
use Rattle.house_base.specs.Text.{Text}
use Rattle.peer_selection.specs.Laws.{IsAssigned, IsInClusterOf, with_points}
use Rattle.peer_selection.specs.Lottery.{chance}
use Rattle.peer_selection.specs.Profile.{Profile, Pairs, Points, score, rank, quota}
use Rattle.peer_selection.proofs.ImpartialLemmas.{score-same, rank-same, quota-same, chance-same}
use Rattle.peer_selection.proofs.PointLemmas.{given, AgreeOnPairs, score-agree, rank-of_scores, quota-of_scores, chance-of_scores}
use Rattle.peer_selection.proofs.ValidLemmas.{is_valid-each}
use Rattle.house_model.specs.declared.goal.Goal.TheVariants as goal
use Rattle.house_model.specs.Register.{reviewer_at}
use Rattle.house_model.specs.Report.{person_at}
use Rattle.house_model.specs.Reviews.{points_of, profile}
use Rattle.house_model.specs.Said.{setting, assigned}
use Rattle.house_model.specs.Text.{Lines}
use Rattle.house_model.specs.Isolation.{GiveAssignment, IsApplicantOf, without}
use Rattle.house_model.proofs.IsolationLemmas.{setting-without, assigned-without, points_of-without}

-- Persons of a setting.

person_at-found : (s : Setting) (p : ℕ) (owner : Owner) → find (λ o. leb o.first p && ltb p (o.first + o.own)) s.owners ≡ Some owner → person_at s p ≡ owner.name
unfolding person_at
person_at-found s p owner found = ap (λ o. option_map_or (λ owner. owner.name) o []) found

-- the person to whom the applicant at a place belongs
pub owner_of : (s : Setting) (p : ℕ) → IsSetting s → p < size s → (owner : Owner) × Contains s.owners owner × IsOwned owner p × (person_at s p ≡ owner.name)
owner_of s p h l =
    let test = λ (o : Owner). leb o.first p && ltb p (o.first + o.own) in
    let some = owned-StandInTurn 0 s.owners (size s) p h.in_turn (omega arith) l in
    let among : Contains s.owners some.1 = (some.0, slice_get_within s.owners some.0 some.1 some.2, get_or_from_slice_get s.owners some.0 some.1 some.1 some.2) in
    let found = find-from_Contains test s.owners some.1 among
    (and_from (leb some.1.first p) (ltb p (some.1.first + some.1.own)) (le-leb some.1.first p some.3.0) (lt-ltb p (some.1.first + some.1.own) some.3.1)) in
    let parts = and_parts (leb found.0.first p) (ltb p (found.0.first + found.0.own)) found.2 in (
      found.0,
      Contains-find test s.owners found.0 found.1,
      (leb-true found.0.first p parts.0, ltb-true p (found.0.first + found.0.own) parts.1),
      person_at-found s p found.0 found.1,
    )

names_apart : (owners : List Owner) (a b : Owner) (i j : ℕ) → AllPairs (λ x y. x ≢ y) (map (λ o. o.name) owners) → i < j → j < length owners →
    get_or owners i a ≡ a → get_or owners j b ≡ b → a.name ≢ b.name
names_apart owners a b i j apart below l at_a at_b same =
    let long = length-map owners (λ o. o.name) in
    apart i j a.name below (omega (arith, long))
    (get_or-map (λ o. o.name) owners i a a.name (omega arith) ∙ (ap (λ o. o.name) at_a ∙ (same ∙ (ap (λ o. o.name) (sym at_b) ∙ sym (get_or-map (λ o. o.name) owners j b a.name l)))))

-- a person is known by its name
pub same_name : (s : Setting) (a b : Owner) → IsSetting s → Contains s.owners a → Contains s.owners b → a.name ≡ b.name → a ≡ b
same_name s a b h (i, il, at_a) (j, jl, at_b) same =
    elim (cases_order i j) [
      | inl e ↦ same_Some a b (ap Some (sym at_a) ∙ (sym (slice_get-get_or s.owners i a il) ∙ (ap (slice_get s.owners) e ∙ (slice_get-get_or s.owners j b jl ∙ ap Some at_b))))
      | inr (inl below) ↦ absurd (names_apart s.owners a b i j h.owners_differ below jl at_a at_b same)
      | inr (inr above) ↦ absurd (names_apart s.owners b a j i h.owners_differ above il at_b at_a (sym same))
    ]

-- a reviewer of some applicant stands at its person's first place, so at another place it is another person
other_reviewer : (f : Profile) (owner : Owner) (r p : ℕ) → IsAssigned f → Contains f.setting.owners owner → r < size f.setting → p < size f.setting → f.pairs r p ≡ true →
    r ≢ owner.first → reviewer_at f.setting r ≢ owner.name
unfolding may reviewer_at owner_from
other_reviewer f owner r p h among rl pl reviews other same =
    let s = f.setting in
    let test = λ (o : Owner). eqb o.first r in
    let allowed = (is_valid-each s f.pairs h.valid).permitted r p rl pl reviews in
    let parts = and_parts (is_some (find test s.owners) && not (eqb (cluster_at s r) (cluster_at s p))) (not (cell s.barred r p)) allowed in
    let some = (and_parts (is_some (find test s.owners)) (not (eqb (cluster_at s r) (cluster_at s p))) parts.0).0 in
    elim (find_cases test s.owners) [
      | inl found ↦
          let named : found.0.name ≡ owner.name = sym (ap (λ o. option_map_or (λ owner. owner.name) o []) found.1) ∙ same in
          let one = same_name s found.0 owner h.setting (Contains-find test s.owners found.0 found.1) among named in
          other (sym (eqb-true found.0.first r found.2) ∙ ap (λ o. o.first) one)
      | inr none ↦ absurd (both_ways (is_some (find test s.owners)) (ap is_some none) some)
    ]

-- The profile of lines without the review lines of one person.

profile-without : (name : Text) (lines : Lines) → profile (without name lines) ≡ given (profile lines) (points_of (without name lines))
unfolding profile
profile-without name lines =
    let made : Setting → Pairs → Profile = λ s pairs. record { setting = s; pairs = pairs; points = points_of (without name lines) } in
    ap (λ s. made s (assigned goal.Run (without name lines))) (setting-without name lines) ∙ ap (made (setting lines)) (assigned-without name lines goal.Run)

give-assigned : (lines : Lines) → GiveAssignment lines → IsAssigned (profile lines)
unfolding profile
give-assigned lines h = record { setting = h.forms_setting; valid = h.assigns_validly }

module _ (name : Text) (lines : Lines) (p : ℕ) (gives : GiveAssignment lines) (own : IsApplicantOf name lines p) where
  abbrev left : Points
  left = points_of (without name lines)

  person : (owner : Owner) × Contains (setting lines).owners owner × IsOwned owner p × (person_at (setting lines) p ≡ owner.name)
  person = owner_of (setting lines) p gives.forms_setting own.0

  abbrev reviewer : ℕ
  reviewer = person.0.first

  -- among the points on pairs only those of the person may be others than before
  agree : AgreeOnPairs (profile lines) left (λ r q. cond (eqb r reviewer) (left reviewer q) (points_of lines r q))
  unfolding profile
  agree r q rl ql reviews =
      elim (cases_eq r reviewer) [
        | inl self ↦ ap (λ x. left x q) self ∙ sym (cond-true (eqb r reviewer) (left reviewer q) (points_of lines r q) (eq-eqb r reviewer self))
        | inr other ↦
            points_of-without name lines r q
            (λ e. other_reviewer (profile lines) person.0 r q (give-assigned lines gives) person.1 rl ql reviews other (e ∙ (sym own.1 ∙ person.3)))
            ∙ sym (cond-false (eqb r reviewer) (left reviewer q) (points_of lines r q) (ne_eqb r reviewer other))
      ]

  in_cluster : IsInClusterOf (profile lines) reviewer p
  unfolding profile
  in_cluster = (
    own.0,
    All-contains (λ owner. (place : ℕ) → IsOwned owner place → cluster_at (setting lines) place ≡ cluster_at (setting lines) owner.first)
        (setting lines).owners person.0 gives.forms_setting.one_cluster person.1 p person.2,
  )

  scores : score (given (profile lines) left) ≡ score (with_points (profile lines) reviewer (left reviewer))
  unfolding profile
  scores = score-agree (profile lines) left (λ r q. cond (eqb r reviewer) (left reviewer q) (points_of lines r q)) agree

  abbrev changed : Profile
  changed = with_points (profile lines) reviewer (left reviewer)

  pub score-without : score (profile (without name lines)) p ≡ score (profile lines) p
  score-without =
      ap (λ f. score f p) (profile-without name lines)
      ∙ (ap (λ s. s p) scores ∙ score-same (profile lines) reviewer (left reviewer) (give-assigned lines gives) p in_cluster)

  pub rank-without : rank (profile (without name lines)) p ≡ rank (profile lines) p
  rank-without =
      ap (λ f. rank f p) (profile-without name lines)
      ∙ (rank-of_scores (profile lines) left changed.points scores p ∙ rank-same (profile lines) reviewer (left reviewer) (give-assigned lines gives) p in_cluster)

  pub quota-without : quota (profile (without name lines)) (cluster_at (setting lines) p) ≡ quota (profile lines) (cluster_at (setting lines) p)
  unfolding profile
  quota-without =
      ap (λ f. quota f (cluster_at (setting lines) p)) (profile-without name lines)
      ∙ (quota-of_scores (profile lines) left changed.points scores (cluster_at (setting lines) p)
      ∙ (ap (quota changed) in_cluster.1
      ∙ (quota-same (profile lines) reviewer (left reviewer) (give-assigned lines gives) ∙ sym (ap (quota (profile lines)) in_cluster.1))))

  pub chance-without : chance (profile (without name lines)) p ≡ chance (profile lines) p
  chance-without =
      ap (λ f. chance f p) (profile-without name lines)
      ∙ (chance-of_scores (profile lines) left changed.points scores p ∙ chance-same (profile lines) reviewer (left reviewer) (give-assigned lines gives) p in_cluster)

-- Two lists that differ in these lines alone.

module _ (name : Text) (lines others : Lines) (same : without name lines ≡ without name others) where
  pub setting-one : setting others ≡ setting lines
  setting-one = sym (setting-without name others) ∙ (ap setting (sym same) ∙ setting-without name lines)

  assigned-one : assigned goal.Run others ≡ assigned goal.Run lines
  assigned-one = sym (assigned-without name others goal.Run) ∙ (ap (assigned goal.Run) (sym same) ∙ assigned-without name lines goal.Run)

  pub others_give : GiveAssignment lines → GiveAssignment others
  others_give gives = record {
    forms_setting = rw setting-one gives.forms_setting;
    assigns_validly = rw (setting-one, assigned-one) gives.assigns_validly;
  }

  pub chance-one : (p : ℕ) → GiveAssignment lines → IsApplicantOf name lines p → chance (profile lines) p ≡ chance (profile others) p
  chance-one p gives own =
      let its_own : IsApplicantOf name others p = rw setting-one own in
      sym (chance-without name lines p gives own) ∙ (ap (λ xs. chance (profile xs) p) same ∙ chance-without name others p (others_give gives) its_own)
