-- A person's own reviews have no part in the slips of its cluster.
use Rattle.std.proofs.Common.{◌≡◌, ◌≢◌, ℕ, suc, Bool, true, false, cond, eqb, List, [], ◌∷◌, map, filter, refl, sym, ap, ◌∙◌, subst, arith, inl, inr}
use Rattle.std.specs.List.{AllByRecursion, Contains}
use Rattle.std.proofs.lemmas.Bool.{both_ways, cases_Bool, cond-true, cond-false, eqb-true, ne_eqb}
use Rattle.std.proofs.lemmas.List.Elements.{All-contains}
use Rattle.house_base.specs.declared.plan.Owner.{Owner}
use Rattle.house_base.specs.Setting.{Setting, IsOwned, size, cluster_at, name_at}
use Rattle.house_base.specs.Text.{Text}
use Rattle.house_base.proofs.Settings.{owner_from-first}
use Rattle.house_model.specs.declared.goal.Goal.TheVariants as goal
use Rattle.house_model.specs.Isolation.{GiveAssignment, IsApplicantOf, without}
use Rattle.house_model.specs.Register.{reviewer_at}
use Rattle.house_model.specs.Reviews.{points_of, profile}
use Rattle.house_model.specs.Said.{assigned, setting}
use Rattle.house_model.specs.Text.{Lines}
use Rattle.house_model.proofs.IsolationLemmas.{assigned-without, points_of-without, setting-without}
use Rattle.house_model.proofs.OwnReviewLemmas.{chance-without, owner_of, same_name}
use Rattle.house_model.proofs.ReviewerLemmas.{reviewer_at-some}
use Rattle.peer_selection.specs.Laws.{IsAssigned, IsInClusterOf, with_points}
use Rattle.peer_selection.specs.Lottery.{chance}
use Rattle.peer_selection.specs.Profile.{Pairs, Points, Profile, denominator, profile_on, row}
use Rattle.peer_selection.proofs.ImpartialLemmas.{chance-same, not_reviewed}
use Rattle.slip_check.specs.Slip.{Ballot, Cell, Slip, ballot_of, cell_of, places_in, printed_slip, reviews_one_of, slip_of, slip_text}
use Rattle.slip_check.proofs.KeptLemmas.{none_kept}
use Rattle.slip_check.proofs.PlaceLemmas.{first_below}
use Rattle.slip_check.proofs.WriteLemmas.{cell_with}

-- Profiles whose points agree on the ballots have one slip.

abbrev ballot_with : Text → List Cell → Ballot
ballot_with person cells = record { person = person; cells = cells }

same_cells : (s : Setting) (pairs : Pairs) (a b : Points) (r : ℕ) (ps : List ℕ) → ((q : ℕ) → a r q ≡ b r q) → map (cell_of (profile_on s pairs a) r) ps ≡ map (cell_of (profile_on s pairs b) r) ps
same_cells s pairs a b r [] h = refl
same_cells s pairs a b r (p ∷ ps) h =
    ap (λ x. cell_with (name_at s p) x ∷ map (cell_of (profile_on s pairs a) r) ps) (h p)
    ∙ ap (λ cells. cell_with (name_at s p) (b r p) ∷ cells) (same_cells s pairs a b r ps h)

same_ballots : (s : Setting) (pairs : Pairs) (a b : Points) (owners : List Owner) → AllByRecursion (λ (o : Owner). (q : ℕ) → a o.first q ≡ b o.first q) owners
    → map (ballot_of (profile_on s pairs a)) owners ≡ map (ballot_of (profile_on s pairs b)) owners
unfolding ballot_of row
same_ballots s pairs a b [] all = refl
same_ballots s pairs a b (o ∷ os) all =
    ap (λ cells. ballot_with o.name cells ∷ map (ballot_of (profile_on s pairs a)) os) (same_cells s pairs a b o.first (row (profile_on s pairs a) o.first) all.0)
    ∙ ap (λ ballots. ballot_of (profile_on s pairs b) o ∷ ballots) (same_ballots s pairs a b os all.1)

-- what holds of each element that passes
all_passing : (P : Owner → Type 0) (test : Owner → Bool) (xs : List Owner) → ((x : Owner) → Contains xs x → test x ≡ true → P x) → AllByRecursion P (filter test xs)
all_passing P test [] h = tt
all_passing P test (x ∷ xs) h =
    let rest = all_passing P test xs (λ y has. h y (suc has.0, omega (arith, has.1), has.2)) in
    elim (cases_Bool (test x)) [
      | inl here ↦ subst (AllByRecursion P) (sym (cond-true (test x) (x ∷ filter test xs) (filter test xs) here)) (h x (0, omega arith, refl) here, rest)
      | inr other ↦ subst (AllByRecursion P) (sym (cond-false (test x) (x ∷ filter test xs) (filter test xs) other)) rest
    ]

slip_with : Profile → ℕ → List Ballot → Slip
unfolding slip_of
slip_with f p ballots = record (slip_of f p) { ballots = ballots }

slip-same : (s : Setting) (pairs : Pairs) (a b : Points) (p : ℕ)
    → ((o : Owner) → Contains s.owners o → reviews_one_of (profile_on s pairs a) (places_in s (cluster_at s p)) o ≡ true → (q : ℕ) → a o.first q ≡ b o.first q)
    → slip_of (profile_on s pairs a) p ≡ slip_of (profile_on s pairs b) p
unfolding slip_of reviews_one_of slip_with
slip-same s pairs a b p h =
    let test = reviews_one_of (profile_on s pairs a) (places_in s (cluster_at s p)) in
    ap (slip_with (profile_on s pairs a) p) (same_ballots s pairs a b (filter test s.owners) (all_passing (λ (o : Owner). (q : ℕ) → a o.first q ≡ b o.first q) test s.owners h))

-- Who reviews nobody of a cluster.

-- a person has no ballot in the slips of its cluster
no_ballot : (f : Profile) (owner : Owner) (p : ℕ) → IsAssigned f → Contains f.setting.owners owner → cluster_at f.setting p ≡ cluster_at f.setting owner.first
    → reviews_one_of f (places_in f.setting (cluster_at f.setting p)) owner ≡ false
unfolding reviews_one_of places_in
no_ballot f owner p h has same =
    let s = f.setting in
    let member = λ (q : ℕ). eqb (cluster_at s q) (cluster_at s p) in
    none_kept member (f.pairs owner.first) (size s)
    (λ q below is. not_reviewed f owner.first q h (first_below s owner h.setting has) below (eqb-true (cluster_at s q) (cluster_at s p) is ∙ same))

-- with other points of one reviewer
pub slip-other_points : (f : Profile) (reviewer p : ℕ) (points : ℕ → ℕ) → IsAssigned f → IsInClusterOf f reviewer p → slip_of (with_points f reviewer points) p ≡ slip_of f p
slip-other_points f reviewer p points h own =
    let s = f.setting in
    let others = λ (r q : ℕ). cond (eqb r reviewer) (points q) (f.points r q) in
    sym (slip-same s f.pairs f.points others p (λ o has reviews q.
    sym (cond-false (eqb o.first reviewer) (points q) (f.points o.first q)
    (ne_eqb o.first reviewer (λ e. both_ways (reviews_one_of f (places_in s (cluster_at s p)) o) (no_ballot f o p h has (own.1 ∙ ap (cluster_at s) (sym e))) reviews)))))

pub printed-other_points : (f : Profile) (reviewer p : ℕ) (points : ℕ → ℕ) → IsAssigned f → IsInClusterOf f reviewer p → printed_slip (with_points f reviewer points) p ≡ printed_slip f p
printed-other_points f reviewer p points h own =
    let g = with_points f reviewer points in
    ap (λ x. slip_text x (denominator f.setting) (slip_of g p)) (chance-same f reviewer points h p own)
    ∙ ap (slip_text (chance f p) (denominator f.setting)) (slip-other_points f reviewer p points h own)

-- Of lines.

module _ (name : Text) (lines : Lines) (p : ℕ) (gives : GiveAssignment lines) (own : IsApplicantOf name lines p) where
  abbrev s : Setting
  s = setting lines

  abbrev pairs : Pairs
  pairs = assigned goal.Run lines

  profile-left : profile (without name lines) ≡ profile_on s pairs (points_of (without name lines))
  unfolding profile
  profile-left =
      let left = points_of (without name lines) in
      ap (λ t. profile_on t (assigned goal.Run (without name lines)) left) (setting-without name lines) ∙ ap (λ m. profile_on s m left) (assigned-without name lines goal.Run)

  is_assigned : IsAssigned (profile_on s pairs (points_of (without name lines)))
  is_assigned = record { setting = gives.forms_setting; valid = gives.assigns_validly }

  -- whoever has a ballot is another person
  another : (o : Owner) → Contains s.owners o → reviews_one_of (profile_on s pairs (points_of (without name lines))) (places_in s (cluster_at s p)) o ≡ true → reviewer_at s o.first ≢ name
  another o has reviews e =
      let person = owner_of s p gives.forms_setting own.0 in
      let named : o.name ≡ person.0.name = sym (reviewer_at-some s o.first o (owner_from-first s o gives.forms_setting has)) ∙ e ∙ sym own.1 ∙ person.3 in
      let one = same_name s o person.0 gives.forms_setting has person.1 named in
      let together = All-contains (λ owner. (place : ℕ) → IsOwned owner place → cluster_at s place ≡ cluster_at s owner.first) s.owners person.0 gives.forms_setting.one_cluster person.1 p person.2 in
      both_ways (reviews_one_of (profile_on s pairs (points_of (without name lines))) (places_in s (cluster_at s p)) o)
      (no_ballot (profile_on s pairs (points_of (without name lines))) o p is_assigned has (together ∙ ap (λ x. cluster_at s x.first) (sym one))) reviews

  pub slip-without : slip_of (profile (without name lines)) p ≡ slip_of (profile lines) p
  unfolding profile
  slip-without =
      ap (λ f. slip_of f p) profile-left
      ∙ slip-same s pairs (points_of (without name lines)) (points_of lines) p (λ o has reviews q. points_of-without name lines o.first q (another o has reviews))

  pub printed-without : printed_slip (profile (without name lines)) p ≡ printed_slip (profile lines) p
  unfolding profile
  printed-without =
      let g = profile (without name lines) in
      ap (λ x. slip_text x (denominator g.setting) (slip_of g p)) (chance-without name lines p gives own)
      ∙ ap (λ t. slip_text (chance (profile lines) p) (denominator t) (slip_of g p)) (setting-without name lines)
      ∙ ap (slip_text (chance (profile lines) p) (denominator (setting lines))) slip-without
