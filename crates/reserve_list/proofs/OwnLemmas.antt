-- What a person writes as a reviewer has no part in the chances of its own cluster, whoever withdraws.
use Rattle.std.proofs.Common.{◌≡◌, ℕ, ◌<◌, true, not, ◌&&◌, eqb, Some, is_some, sym, ap, ◌∙◌, inl, inr}
use Rattle.std.specs.List.{Contains}
use Rattle.std.proofs.lemmas.Bool.{and_parts, both_ways, cases_eq, cond-true, cond-false, eq-eqb, ne_eqb}
use Rattle.std.proofs.lemmas.List.Elements.{All-contains}
use Rattle.house_base.specs.declared.plan.Owner.{Owner}
use Rattle.house_base.specs.Grid.{cell}
use Rattle.house_base.specs.Setting.{Setting, IsOwned, cluster_at, may, owner_from, size}
use Rattle.house_base.specs.Text.{Text}
use Rattle.house_model.specs.declared.goal.Goal.TheVariants as goal
use Rattle.house_model.specs.Isolation.{GiveAssignment, IsApplicantOf, without}
use Rattle.house_model.specs.Report.{person_at}
use Rattle.house_model.specs.Reviews.{points_of, profile}
use Rattle.house_model.specs.Said.{assigned, setting}
use Rattle.house_model.specs.Text.{Lines}
use Rattle.house_model.proofs.IsolationLemmas.{assigned-without, points_of-without, setting-without}
use Rattle.house_model.proofs.OwnReviewLemmas.{owner_of, same_name}
use Rattle.house_model.proofs.ReviewerLemmas.{cases_owner, reviewer_at-some}
use Rattle.peer_selection.specs.Laws.{IsAssigned, IsInClusterOf, with_points}
use Rattle.peer_selection.specs.Profile.{Points, Profile, profile_on, quota, score}
use Rattle.peer_selection.proofs.ImpartialLemmas.{quota-same, rank-same}
use Rattle.peer_selection.proofs.PointLemmas.{AgreeOnPairs, given, quota-of_scores, rank-of_scores, score-agree}
use Rattle.peer_selection.proofs.ValidLemmas.{is_valid-each}
use Rattle.reserve_list.specs.Reserve.{Withdrawn, chance_after}
use Rattle.reserve_list.proofs.ChanceLemmas.{chance-points}

-- who reviews somebody is a person, and stands at its first place
reviewer_owner : (f : Profile) (r p : ℕ) → IsAssigned f → r < size f.setting → p < size f.setting → f.pairs r p ≡ true → (o : Owner) × Contains f.setting.owners o × (o.first ≡ r) × (owner_from f.setting r ≡ Some o)
unfolding may
reviewer_owner f r p h rl pl reviews =
    let s = f.setting in
    let allowed = (is_valid-each s f.pairs h.valid).permitted r p rl pl reviews in
    let parts = and_parts (is_some (owner_from s r) && not (eqb (cluster_at s r) (cluster_at s p))) (not (cell s.barred r p)) allowed in
    let some = (and_parts (is_some (owner_from s r)) (not (eqb (cluster_at s r) (cluster_at s p))) parts.0).0 in
    elim (cases_owner s r) [
      | inl found ↦ (found.0, found.1, found.2, found.3)
      | inr none ↦ absurd (both_ways (is_some (owner_from s r)) (ap is_some none) some)
    ]

module _ (name : Text) (lines : Lines) (own : ℕ) (gives : GiveAssignment lines) (is : IsApplicantOf name lines own) where
  abbrev s : Setting
  s = setting lines

  abbrev f : Profile
  f = profile_on (setting lines) (assigned goal.Run lines) (points_of lines)

  abbrev left : Points
  left = points_of (without name lines)

  assigns : IsAssigned f
  assigns = record { setting = gives.forms_setting; valid = gives.assigns_validly }

  person : (owner : Owner) × Contains (setting lines).owners owner × IsOwned owner own × (person_at (setting lines) own ≡ owner.name)
  person = owner_of (setting lines) own gives.forms_setting is.0

  abbrev reviewer : ℕ
  reviewer = person.0.first

  abbrev changed : Profile
  changed = with_points f reviewer (left reviewer)

  -- on the pairs only the points of this person may be others than before
  agree : AgreeOnPairs f left changed.points
  agree r q rl ql reviews =
      elim (cases_eq r reviewer) [
        | inl self ↦ ap (λ x. left x q) self ∙ sym (cond-true (eqb r reviewer) (left reviewer q) (points_of lines r q) (eq-eqb r reviewer self))
        | inr other ↦
            let o = reviewer_owner f r q assigns rl ql reviews in
            points_of-without name lines r q (λ e.
            let named : o.0.name ≡ person.0.name = sym (reviewer_at-some s r o.0 o.3) ∙ e ∙ sym is.1 ∙ person.3 in
            other (sym o.2 ∙ ap (λ x. x.first) (same_name s o.0 person.0 gives.forms_setting o.1 person.1 named)))
            ∙ sym (cond-false (eqb r reviewer) (left reviewer q) (points_of lines r q) (ne_eqb r reviewer other))
      ]

  scores : score (given f left) ≡ score (given f changed.points)
  scores = score-agree f left changed.points agree

  in_cluster : (q : ℕ) → q < size (setting lines) → cluster_at (setting lines) q ≡ cluster_at (setting lines) own → IsInClusterOf f reviewer q
  in_cluster q ql e = (
    ql,
    e ∙ All-contains (λ owner. (place : ℕ) → IsOwned owner place → cluster_at (setting lines) place ≡ cluster_at (setting lines) owner.first)
        (setting lines).owners person.0 gives.forms_setting.one_cluster person.1 own person.2,
  )

  profile-left : profile (without name lines) ≡ given f left
  unfolding profile
  profile-left =
      ap (λ t. profile_on t (assigned goal.Run (without name lines)) left) (setting-without name lines) ∙ ap (λ m. profile_on s m left) (assigned-without name lines goal.Run)

  pub chance-left_out : (gone : Withdrawn) (p : ℕ) → p < size (setting lines) → cluster_at (setting lines) p ≡ cluster_at (setting lines) own → chance_after (profile (without name lines)) gone p ≡ chance_after (profile lines) gone p
  unfolding profile
  chance-left_out gone p pl beside =
      let mine = in_cluster p pl beside in
      ap (λ g. chance_after g gone p) profile-left
      ∙ chance-points f left gone p assigns pl
      (λ q ql e. rank-of_scores f left changed.points scores q ∙ rank-same f reviewer (left reviewer) assigns q (in_cluster q ql (e ∙ beside)))
      (quota-of_scores f left changed.points scores (cluster_at s p) ∙ ap (quota changed) mine.1 ∙ quota-same f reviewer (left reviewer) assigns ∙ sym (ap (quota f) mine.1))

pub chance-own_lines : (name : Text) (lines : Lines) (gone : Withdrawn) (own p : ℕ) → GiveAssignment lines → IsApplicantOf name lines own → p < size (setting lines)
    → cluster_at (setting lines) p ≡ cluster_at (setting lines) own → chance_after (profile (without name lines)) gone p ≡ chance_after (profile lines) gone p
chance-own_lines name lines gone own p gives is pl beside = chance-left_out name lines own gives is gone p pl beside
