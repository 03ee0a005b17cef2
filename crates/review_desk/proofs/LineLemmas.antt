use Rattle.std.proofs.Common.{◌≡◌, ℕ, ◌<◌, ◌≤◌, Bool, true, false, ◌&&◌, cond, nat_eq, leb, List, bytes_eq, Option, Some, None, refl, sym, ap, ◌∙◌, arith}
use Rattle.std.specs.List.{find, position}
use Rattle.std.specs.Option.{is_some, option_map, option_map_or, option_and_then}
use Rattle.std.proofs.lemmas.Bool.{le-leb, lt-leb}
use Rattle.std.proofs.lemmas.Iterator.Adapters.{position_from-zero}
use Rattle.house_base.specs.declared.answer.Kind.{Kind}
use Rattle.house_base.specs.declared.answer.Kind.TheVariants as kind
use Rattle.house_base.specs.declared.limits.TheConstants.{MOST_POINTS}
use Rattle.house_base.specs.declared.plan.Owner.{Owner}
use Rattle.house_base.specs.declared.plan.Person.{Person}
use Rattle.house_base.specs.declared.review.ReviewLine.{ReviewLine}
use Rattle.house_base.specs.Grid.{cell}
use Rattle.house_base.specs.Setting.{Setting, IsSetting, size, names_of}
use Rattle.house_base.proofs.Settings.{Contains-find}
use Rattle.house_base.specs.Text.{Text}
use Rattle.peer_selection.specs.Profile.{Pairs, Points}
use Rattle.house_model.specs.Reviews.{reviewer_place, proposal_place}
use Rattle.review_desk.specs.Desk.{Marks, IsSetUp, person_under}
use Rattle.review_desk.specs.Line.{is_person, is_applicant, reviewer_of, proposal_of, points_in, kind_among, points_after}
use Rattle.review_desk.proofs.PlaceLemmas.{among-find, among-position, first-below, position_from-below, position-names}

-- The kind of a whole line, test by test.

pub kind-unknown : (s : Setting) (pairs : Pairs) (line : ReviewLine) → (is_person s line.reviewer && is_applicant s line.proposal) ≡ false → kind_among s pairs line ≡ Some kind.Unknown
unfolding kind_among
kind-unknown s pairs line h = rw h refl

pub kind-unassigned : (s : Setting) (pairs : Pairs) (line : ReviewLine) → (is_person s line.reviewer && is_applicant s line.proposal) ≡ true →
    pairs (reviewer_of s line) (proposal_of s line) ≡ false → kind_among s pairs line ≡ Some kind.Unassigned
unfolding kind_among
kind-unassigned s pairs line h e = rw (h, e) refl

pub kind-range : (s : Setting) (pairs : Pairs) (line : ReviewLine) → (is_person s line.reviewer && is_applicant s line.proposal) ≡ true →
    pairs (reviewer_of s line) (proposal_of s line) ≡ true → option_map_or (λ x. leb x MOST_POINTS) line.points false ≡ false → kind_among s pairs line ≡ Some kind.Range
unfolding kind_among
kind-range s pairs line h e f = rw (h, e, f) refl

pub kind-kept : (s : Setting) (pairs : Pairs) (line : ReviewLine) → (is_person s line.reviewer && is_applicant s line.proposal) ≡ true →
    pairs (reviewer_of s line) (proposal_of s line) ≡ true → option_map_or (λ x. leb x MOST_POINTS) line.points false ≡ true → kind_among s pairs line ≡ None
unfolding kind_among
kind-kept s pairs line h e f = rw (h, e, f) refl

-- The names of a line, by the look-ups of a desk.

no_person : (o : Option Owner) → option_map (λ o. o.first) o ≡ None → is_some o ≡ false
no_person None h = refl
no_person (Some o) h = cc

a_person : (o : Option Owner) (place : ℕ) → option_map (λ o. o.first) o ≡ Some place → (x : Owner) × (o ≡ Some x) × (x.first ≡ place)
a_person None place h = cc
a_person (Some o) place h = (o, refl, cc)

-- a name under which no person stands is no person's
pub person-unknown : (s : Setting) (name : Option Text) → option_and_then (person_under s) name ≡ None → is_person s name ≡ false
person-unknown s None h = refl
person-unknown s (Some name) h =
    among-find s.owners name ∙ no_person (find (λ (o : Owner). bytes_eq o.name name) s.owners) h

-- a person and its place
pub record IsReviewer (s : Setting) (name : Option Text) (place : ℕ) : Type 0 where
  pub known : is_person s name ≡ true
  pub stands : place ≡ option_map_or (reviewer_place s) name 0
  pub below : place < size s

pub person-known : (s : Setting) (name : Option Text) (place : ℕ) → IsSetting s → option_and_then (person_under s) name ≡ Some place → IsReviewer s name place
unfolding reviewer_place
person-known s None place setting h = cc
person-known s (Some name) place setting h =
    let test = λ (o : Owner). bytes_eq o.name name in
    let found = a_person (find test s.owners) place h in
    let below = first-below 0 s.owners (size s) found.0 setting.own setting.in_turn (Contains-find test s.owners found.0 found.1) in
    record {
      known = among-find s.owners name ∙ ap is_some found.1;
      stands = sym (ap (λ o. option_map_or (λ (o : Owner). o.first) o 0) found.1 ∙ found.2);
      below = omega (arith, below, found.2);
    }

-- an applicant and its place
pub record IsProposal (s : Setting) (name : Option Text) (place : ℕ) : Type 0 where
  pub known : is_applicant s name ≡ true
  pub stands : place ≡ option_map_or (proposal_place s) name 0
  pub below : place < size s

-- the place of an applicant's name among those of a desk
applicant-place : (s : Setting) (names : List Text) (name : Text) → names ≡ names_of s → position (λ (p : Person). bytes_eq p.name name) s.people ≡ position (bytes_eq name) names
applicant-place s names name are = sym (ap (position (bytes_eq name)) are ∙ position-names (λ (p : Person). p.name) name s.people)

pub applicant-unknown : (s : Setting) (names : List Text) (name : Option Text) → names ≡ names_of s → option_and_then (λ name. position (bytes_eq name) names) name ≡ None → is_applicant s name ≡ false
applicant-unknown s names None are h = refl
applicant-unknown s names (Some name) are h =
    let test = λ (p : Person). bytes_eq p.name name in
    among-position s.people 0 name ∙ ap is_some (sym (position_from-zero test s.people) ∙ (applicant-place s names name are ∙ h))

pub applicant-known : (s : Setting) (names : List Text) (name : Option Text) (place : ℕ) → names ≡ names_of s → option_and_then (λ name. position (bytes_eq name) names) name ≡ Some place → IsProposal s name place
unfolding proposal_place
applicant-known s names None place are h = cc
applicant-known s names (Some name) place are h =
    let test = λ (p : Person). bytes_eq p.name name in
    let found : position test s.people ≡ Some place = applicant-place s names name are ∙ h in
    let below = position_from-below test 0 s.people place (sym (position_from-zero test s.people) ∙ found) in
    record {
      known = among-position s.people 0 name ∙ ap is_some (sym (position_from-zero test s.people) ∙ found);
      stands = sym (ap (λ o. option_map_or (λ x. x) o 0) found);
      below = omega (arith, below);
    }

pub both-true : (a b : Bool) → a ≡ true → b ≡ true → (a && b) ≡ true
both-true a b h e = rw (h, e) refl

pub left-false : (a b : Bool) → a ≡ false → (a && b) ≡ false
left-false a b h = rw h refl

pub right-false : (a b : Bool) → a ≡ true → b ≡ false → (a && b) ≡ false
right-false a b h e = rw (h, e) refl

-- The points after a line.

kept_sets : (s : Setting) (pairs : Pairs) (points : Points) (line : ReviewLine) (r p : ℕ) → kind_among s pairs line ≡ None →
    cond (nat_eq r (reviewer_of s line) && nat_eq p (proposal_of s line)) (points_in line) (points r p) ≡ points_after s pairs points line r p
unfolding points_after
kept_sets s pairs points line r p h = rw h refl

-- a kept line sets the points of its pair
pub points-kept : (s : Setting) (pairs : Pairs) (points : Points) (line : ReviewLine) (r p reviewer proposal x : ℕ) → kind_among s pairs line ≡ None →
    reviewer ≡ reviewer_of s line → proposal ≡ proposal_of s line → x ≡ points_in line → cond (nat_eq r reviewer && nat_eq p proposal) x (points r p) ≡ points_after s pairs points line r p
points-kept s pairs points line r p reviewer proposal x h is_reviewer is_proposal is_points =
    ap (λ n. cond (nat_eq r n && nat_eq p proposal) x (points r p)) is_reviewer
    ∙ (ap (λ n. cond (nat_eq r (reviewer_of s line) && nat_eq p n) x (points r p)) is_proposal
    ∙ (ap (λ y. cond (nat_eq r (reviewer_of s line) && nat_eq p (proposal_of s line)) y (points r p)) is_points ∙ kept_sets s pairs points line r p h))

-- a line that is set aside sets none
pub points-aside : (s : Setting) (pairs : Pairs) (points : Points) (line : ReviewLine) (r p : ℕ) (k : Kind) → kind_among s pairs line ≡ Some k →
    points r p ≡ points_after s pairs points line r p
unfolding points_after
points-aside s pairs points line r p k h = rw h refl

-- What a desk reads, as a look-up has it.

pub read-person : (s : Setting) (now : Marks) (line : ReviewLine) (place : ℕ) → IsSetUp s now → Some place ≡ option_and_then (person_under s) line.reviewer → IsReviewer s line.reviewer place
read-person s now line place set_up h = person-known s line.reviewer place set_up.setting (sym h)

pub read-no_person : (s : Setting) (line : ReviewLine) → None ≡ option_and_then (person_under s) line.reviewer → is_person s line.reviewer ≡ false
read-no_person s line h = person-unknown s line.reviewer (sym h)

pub read-applicant : (s : Setting) (d now : Marks) (line : ReviewLine) (place : ℕ) → d ≡ now → IsSetUp s now →
    Some place ≡ option_and_then (λ name. position (bytes_eq name) d.proposals) line.proposal → IsProposal s line.proposal place
read-applicant s d now line place same set_up h = applicant-known s d.proposals line.proposal place (ap (λ (m : Marks). m.proposals) same ∙ set_up.proposals) (sym h)

pub read-no_applicant : (s : Setting) (d now : Marks) (line : ReviewLine) → d ≡ now → IsSetUp s now →
    None ≡ option_and_then (λ name. position (bytes_eq name) d.proposals) line.proposal → is_applicant s line.proposal ≡ false
read-no_applicant s d now line same set_up h = applicant-unknown s d.proposals line.proposal (ap (λ (m : Marks). m.proposals) same ∙ set_up.proposals) (sym h)

pub reviewer_of-read : (s : Setting) (line : ReviewLine) (place : ℕ) → IsReviewer s line.reviewer place → place ≡ reviewer_of s line
unfolding reviewer_of
reviewer_of-read s line place h = h.stands

pub proposal_of-read : (s : Setting) (line : ReviewLine) (place : ℕ) → IsProposal s line.proposal place → place ≡ proposal_of s line
unfolding proposal_of
proposal_of-read s line place h = h.stands

pub points_in-read : (line : ReviewLine) (x : ℕ) → line.points ≡ Some x → x ≡ points_in line
unfolding points_in
points_in-read line x h = sym (ap (λ o. option_map_or (λ y. y) o 0) h)

-- a line whose names are known, for the pair at two places
pub record IsNamed (s : Setting) (line : ReviewLine) (r p : ℕ) : Type 0 where
  pub reviewer : IsReviewer s line.reviewer r
  pub proposal : IsProposal s line.proposal p

pub named-known : (s : Setting) (line : ReviewLine) (r p : ℕ) → IsNamed s line r p → (is_person s line.reviewer && is_applicant s line.proposal) ≡ true
named-known s line r p h = both-true (is_person s line.reviewer) (is_applicant s line.proposal) h.reviewer.known h.proposal.known

pub named-pair : (s : Setting) (d now : Marks) (line : ReviewLine) (r p : ℕ) (b : Bool) → IsNamed s line r p → d ≡ now → b ≡ cell d.pairs r p → cell now.pairs (reviewer_of s line) (proposal_of s line) ≡ b
named-pair s d now line r p b named same h =
    sym (h ∙ (ap (λ (m : Marks). cell m.pairs r p) same
    ∙ (ap (λ x. cell now.pairs x p) (reviewer_of-read s line r named.reviewer) ∙ ap (cell now.pairs (reviewer_of s line)) (proposal_of-read s line p named.proposal))))

pub points-few : (line : ReviewLine) (x : ℕ) → line.points ≡ Some x → x ≤ MOST_POINTS → option_map_or (λ x. leb x MOST_POINTS) line.points false ≡ true
points-few line x h l = ap (λ o. option_map_or (λ y. leb y MOST_POINTS) o false) h ∙ le-leb x MOST_POINTS l

pub points-many : (line : ReviewLine) (x : ℕ) → line.points ≡ Some x → MOST_POINTS < x → option_map_or (λ x. leb x MOST_POINTS) line.points false ≡ false
points-many line x h l = ap (λ o. option_map_or (λ y. leb y MOST_POINTS) o false) h ∙ lt-leb x MOST_POINTS l

pub points-none : (line : ReviewLine) → line.points ≡ None → option_map_or (λ x. leb x MOST_POINTS) line.points false ≡ false
points-none line h = ap (λ o. option_map_or (λ y. leb y MOST_POINTS) o false) h
