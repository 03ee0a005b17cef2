use Rattle.std.proofs.Common.{◌≡◌, ◌≢◌, ℕ, ◌+◌, ◌<◌, ◌≤◌, ◌⊎◌, Bool, true, false, not, ◌&&◌, ◌||◌, cond, ltb, Option, None, Some, refl, sym, ap, ◌∙◌, subst, inl, inr, arith}
use Rattle.std.specs.Prelude.{IfSome, IfNone}
use Rattle.std.specs.Option.{option_map_or}
use Rattle.std.proofs.lemmas.Bool.{cases_eq, cases_lt, false_from_ne_true, ltb-true, lt-ltb, le-ltb, both_ways, and_parts, and_from, not-true, or_cases}
use Rattle.peer_selection.specs.Counting.{count_below}
use Rattle.peer_selection.specs.Shortage.{Places}
use Rattle.assign_flow.specs.Residual.{Residual, Tree, reviewers_of, height, IsTree, IsGrown, IsSought, IsUnderWay, HasReached, ReachesReviewer, ReachesProposal}
use Rattle.peer_selection.proofs.CountingLemmas.{count_below-none, count_below-all, count_below-more, count_below-same}
use Rattle.assign_flow.proofs.CountLemmas.{count_below-turned}

-- Trees of a search, and one step more.

pub cases_Option : {A : Type 0} (o : Option A) → (o ≡ None) ⊎ ((x : A) × (o ≡ Some x))
cases_Option None = inl refl
cases_Option (Some x) = inr (x, refl)

pub height-some : (t : Tree) (p r : ℕ) → t.proposal_from p ≡ Some r → height t p ≡ t.order r
unfolding height
height-some t p r e = ap (λ o. option_map_or t.order o 0) e

pub height-none : (t : Tree) (p : ℕ) → t.proposal_from p ≡ None → height t p ≡ 0
unfolding height
height-none t p e = ap (λ o. option_map_or t.order o 0) e

-- a proposal that is reached is no higher than the reviewers are many
pub height-most : (g : Residual) (t : Tree) (p : ℕ) → IsTree g t → p < g.side → t.reached p ≡ true → height t p ≤ t.count
height-most g t p h pl reached = elim (cases_Option (t.proposal_from p)) [
  | inl none ↦ omega (arith, height-none t p none)
  | inr some ↦ omega (arith, height-some t p some.0 some.1, h.latest some.0 (h.proposal_below p some.0 pl reached some.1))
]

-- Nothing is reached at first.

none_counted : (t : Tree) (n : ℕ) → ((r : ℕ) → r < n → t.order r ≡ 0) → count_below (reviewers_of t) n ≡ 0
none_counted t n h = count_below-none (reviewers_of t) n (λ r l. le-ltb 0 (t.order r) (omega (arith, h r l)))

pub tree-none : (g : Residual) (t : Tree) → t.count ≡ 0 → ((r : ℕ) → r < g.side → t.order r ≡ 0) → ((p : ℕ) → p < g.side → t.reached p ≡ false) → IsTree g t
tree-none g t count reviewers proposals =
    let no_reviewer : (r : ℕ) → r < g.side → 0 < t.order r → ⊥ = λ r l o. omega (arith, reviewers r l) in
    let no_proposal : (p : ℕ) → p < g.side → t.reached p ≡ true → ⊥ = λ p l o. both_ways (t.reached p) (proposals p l) o in
    record {
      counted = count ∙ sym (none_counted t g.side reviewers);
      latest = λ r l. omega (arith, reviewers r l);
      reviewer_below = λ r p l o. absurd (no_reviewer r l o);
      reviewer_after = λ r p l o. absurd (no_reviewer r l o);
      reviewer_free = λ r p l o. absurd (no_reviewer r l o);
      reviewer_held = λ r p l o. absurd (no_reviewer r l o);
      reviewer_later = λ r p l o. absurd (no_reviewer r l o);
      proposal_below = λ p r l o. absurd (no_proposal p l o);
      proposal_after = λ p r l o. absurd (no_proposal p l o);
      proposal_free = λ p r l o. absurd (no_proposal p l o);
      proposal_open = λ p r l o. absurd (no_proposal p l o);
    }

-- One reviewer more.

-- while not all reviewers are reached, they are fewer than all
pub tree-few : (g : Residual) (t : Tree) (r : ℕ) → IsTree g t → r < g.side → t.order r ≡ 0 → t.count < g.side
tree-few g t r h l new =
    omega (
      arith,
      h.counted,
      count_below-more (reviewers_of t) (λ i. true) g.side r (λ i il e. refl) l (le-ltb 0 (t.order r) (omega (arith, new))) refl,
      count_below-all (λ i. true) g.side (λ i il. refl),
    )

-- what is asked of the way by which a reviewer is reached
pub record ComesFrom (g : Residual) (t : Tree) (r p : ℕ) : Type 0 where
  pub below : p < g.side
  pub reached : t.reached p ≡ true
  pub free : g.free r p ≡ true
  pub held : g.held r p ≡ true

-- reviewers that were reached before are not the new one
other_reviewer : (t : Tree) (r i : ℕ) → t.order r ≡ 0 → 0 < t.order i → i ≢ r
other_reviewer t r i new o e = omega (arith, ap t.order e)

same_height : (g : Residual) (t u : Tree) (r : ℕ) (from : Option ℕ) (p : ℕ) → IsTree g t → ReachesReviewer t u r from → t.order r ≡ 0 → p < g.side → t.reached p ≡ true → height u p ≡ height t p
same_height g t u r from p h step new pl reached = elim (cases_Option (t.proposal_from p)) [
  | inl none ↦ height-none u p (step.proposal_from p ∙ none) ∙ sym (height-none t p none)
  | inr some ↦ height-some u p some.0 (step.proposal_from p ∙ some.1)
      ∙ (step.other_order some.0 (other_reviewer t r some.0 new (h.proposal_after p some.0 pl reached some.1)) ∙ sym (height-some t p some.0 some.1))
]

-- a reviewer that is reached now is the new one or was reached before
which_reviewer : (t u : Tree) (r i : ℕ) (from : Option ℕ) → ReachesReviewer t u r from → 0 < u.order i → (i ≡ r) ⊎ ((i ≢ r) × (0 < t.order i))
which_reviewer t u r i from step o = elim (cases_eq i r) [
  | inl e ↦ inl e
  | inr ne ↦ inr (ne, omega (arith, step.other_order i ne))
]

pub tree-reviewer : (g : Residual) (t u : Tree) (r : ℕ) (from : Option ℕ) → IsTree g t → ReachesReviewer t u r from → r < g.side → t.order r ≡ 0
    → ((p : ℕ) → from ≡ Some p → ComesFrom g t r p) → IsTree g u
tree-reviewer g t u r from h step rl new way = record {
  counted = omega (
    arith,
    step.count,
    h.counted,
    count_below-turned (reviewers_of t) (reviewers_of u) g.side r rl (le-ltb 0 (t.order r) (omega (arith, new))) (lt-ltb 0 (u.order r) (omega (arith, step.order)))
        (λ i il ne. ap (ltb 0) (step.other_order i ne)),
  );
  latest = λ i il. elim (cases_eq i r) [
    | inl e ↦ omega (arith, ap u.order e, step.order, step.count)
    | inr ne ↦ omega (arith, step.other_order i ne, h.latest i il, step.count)
  ];
  reviewer_below = λ i p il o e. elim (which_reviewer t u r i from step o) [
    | inl here ↦ (way p (sym step.here_from ∙ (ap u.reviewer_from (sym here) ∙ e))).below
    | inr there ↦ h.reviewer_below i p il there.1 (sym (step.other_from i there.0) ∙ e)
  ];
  reviewer_after = λ i p il o e. elim (which_reviewer t u r i from step o) [
    | inl here ↦ step.reached p ∙ (way p (sym step.here_from ∙ (ap u.reviewer_from (sym here) ∙ e))).reached
    | inr there ↦ step.reached p ∙ h.reviewer_after i p il there.1 (sym (step.other_from i there.0) ∙ e)
  ];
  reviewer_free = λ i p il o e. elim (which_reviewer t u r i from step o) [
    | inl here ↦ ap (λ k. g.free k p) here ∙ (way p (sym step.here_from ∙ (ap u.reviewer_from (sym here) ∙ e))).free
    | inr there ↦ h.reviewer_free i p il there.1 (sym (step.other_from i there.0) ∙ e)
  ];
  reviewer_held = λ i p il o e. elim (which_reviewer t u r i from step o) [
    | inl here ↦ ap (λ k. g.held k p) here ∙ (way p (sym step.here_from ∙ (ap u.reviewer_from (sym here) ∙ e))).held
    | inr there ↦ h.reviewer_held i p il there.1 (sym (step.other_from i there.0) ∙ e)
  ];
  reviewer_later = λ i p il o e. elim (which_reviewer t u r i from step o) [
    | inl here ↦
        let w = way p (sym step.here_from ∙ (ap u.reviewer_from (sym here) ∙ e)) in
        omega (arith, same_height g t u r from p h step new w.below w.reached, height-most g t p h w.below w.reached, ap u.order here, step.order)
    | inr there ↦
        let f = sym (step.other_from i there.0) ∙ e in
        omega (
          arith,
          same_height g t u r from p h step new (h.reviewer_below i p il there.1 f) (h.reviewer_after i p il there.1 f),
          h.reviewer_later i p il there.1 f,
          step.other_order i there.0,
        )
  ];
  proposal_below = λ p q pl o e. h.proposal_below p q pl (sym (step.reached p) ∙ o) (sym (step.proposal_from p) ∙ e);
  proposal_after = λ p q pl o e.
      let before = h.proposal_after p q pl (sym (step.reached p) ∙ o) (sym (step.proposal_from p) ∙ e) in
      omega (arith, before, step.other_order q (other_reviewer t r q new before));
  proposal_free = λ p q pl o e. h.proposal_free p q pl (sym (step.reached p) ∙ o) (sym (step.proposal_from p) ∙ e);
  proposal_open = λ p q pl o e. h.proposal_open p q pl (sym (step.reached p) ∙ o) (sym (step.proposal_from p) ∙ e);
}

pub none_some : {A : Type 0} (x : A) → Some x ≡ None → ⊥
none_some x e = cc

-- One proposal more.

-- what is asked of the way by which a proposal is reached
pub record GoesTo (g : Residual) (t : Tree) (p r : ℕ) : Type 0 where
  pub below : r < g.side
  pub reached : 0 < t.order r
  pub free : g.free r p ≡ true
  pub held : g.held r p ≡ false

other_proposal : (t : Tree) (p q : ℕ) → t.reached p ≡ false → t.reached q ≡ true → q ≢ p
other_proposal t p q new o e = both_ways (t.reached p) new (ap t.reached (sym e) ∙ o)

which_proposal : (t u : Tree) (p q : ℕ) (from : Option ℕ) → ReachesProposal t u p from → u.reached q ≡ true → (q ≡ p) ⊎ ((q ≢ p) × (t.reached q ≡ true))
which_proposal t u p q from step o = elim (cases_eq q p) [
  | inl e ↦ inl e
  | inr ne ↦ inr (ne, sym (step.other_reached q ne) ∙ o)
]

kept_height : (t u : Tree) (p q : ℕ) (from : Option ℕ) → ReachesProposal t u p from → q ≢ p → height u q ≡ height t q
kept_height t u p q from step ne = elim (cases_Option (t.proposal_from q)) [
  | inl none ↦ height-none u q (step.other_from q ne ∙ none) ∙ sym (height-none t q none)
  | inr some ↦ height-some u q some.0 (step.other_from q ne ∙ some.1) ∙ (step.order some.0 ∙ sym (height-some t q some.0 some.1))
]

pub tree-proposal : (g : Residual) (t u : Tree) (p : ℕ) (from : Option ℕ) → IsTree g t → ReachesProposal t u p from → p < g.side → t.reached p ≡ false
    → ((r : ℕ) → from ≡ Some r → GoesTo g t p r) → IsTree g u
tree-proposal g t u p from h step pl new way =
    let before : (i : ℕ) → 0 < u.order i → 0 < t.order i = λ i o. omega (arith, step.order i) in
    let after : (q : ℕ) → t.reached q ≡ true → u.reached q ≡ true = λ q o. step.other_reached q (other_proposal t p q new o) ∙ o in
    record {
      counted = step.count ∙ (h.counted ∙ sym (count_below-same (reviewers_of u) (reviewers_of t) g.side (λ i il. ap (ltb 0) (step.order i))));
      latest = λ i il. omega (arith, step.order i, h.latest i il, step.count);
      reviewer_below = λ i q il o e. h.reviewer_below i q il (before i o) (sym (step.reviewer_from i) ∙ e);
      reviewer_after = λ i q il o e. after q (h.reviewer_after i q il (before i o) (sym (step.reviewer_from i) ∙ e));
      reviewer_free = λ i q il o e. h.reviewer_free i q il (before i o) (sym (step.reviewer_from i) ∙ e);
      reviewer_held = λ i q il o e. h.reviewer_held i q il (before i o) (sym (step.reviewer_from i) ∙ e);
      reviewer_later = λ i q il o e.
          let f = sym (step.reviewer_from i) ∙ e in
          omega (
            arith,
            kept_height t u p q from step (other_proposal t p q new (h.reviewer_after i q il (before i o) f)),
            h.reviewer_later i q il (before i o) f,
            step.order i,
          );
      proposal_below = λ q r ql o e. elim (which_proposal t u p q from step o) [
        | inl here ↦ (way r (sym step.here_from ∙ (ap u.proposal_from (sym here) ∙ e))).below
        | inr there ↦ h.proposal_below q r ql there.1 (sym (step.other_from q there.0) ∙ e)
      ];
      proposal_after = λ q r ql o e. elim (which_proposal t u p q from step o) [
        | inl here ↦ omega (arith, (way r (sym step.here_from ∙ (ap u.proposal_from (sym here) ∙ e))).reached, step.order r)
        | inr there ↦ omega (arith, h.proposal_after q r ql there.1 (sym (step.other_from q there.0) ∙ e), step.order r)
      ];
      proposal_free = λ q r ql o e. elim (which_proposal t u p q from step o) [
        | inl here ↦ ap (g.free r) here ∙ (way r (sym step.here_from ∙ (ap u.proposal_from (sym here) ∙ e))).free
        | inr there ↦ h.proposal_free q r ql there.1 (sym (step.other_from q there.0) ∙ e)
      ];
      proposal_open = λ q r ql o e. elim (which_proposal t u p q from step o) [
        | inl here ↦ ap (g.held r) here ∙ (way r (sym step.here_from ∙ (ap u.proposal_from (sym here) ∙ e))).held
        | inr there ↦ h.proposal_open q r ql there.1 (sym (step.other_from q there.0) ∙ e)
      ];
    }

-- The order of a reviewer says whether it is reached.

pub order-unreached : (reached : Bool) (before : ℕ) → reached ≡ false → cond reached (before + 1) 0 ≡ 0
order-unreached reached before h = ap (λ b. cond b (before + 1) 0) h

pub reached-same : (reached : Bool) (before : ℕ) → ltb 0 (cond reached (before + 1) 0) ≡ reached
reached-same true before = lt-ltb 0 (before + 1) (omega arith)
reached-same false before = refl

-- What a search has reached, and one step more.

pub sought-reviewer : (g : Residual) (a b room : Places) (t u : Tree) (r : ℕ) (from : Option ℕ) → IsSought g a b room t → ReachesReviewer t u r from → r < g.side → t.order r ≡ 0
    → (from ≡ None → a r ≡ true) → ((p : ℕ) → from ≡ Some p → ComesFrom g t r p) → IsSought g a b room u
sought-reviewer g a b room t u r from h step rl new source way = record {
  grown = tree-reviewer g t u r from h.grown step rl new way;
  reviewer_sources = λ i il o e. elim (which_reviewer t u r i from step o) [
    | inl here ↦ ap a here ∙ source (sym step.here_from ∙ (ap u.reviewer_from (sym here) ∙ e))
    | inr there ↦ h.reviewer_sources i il there.1 (sym (step.other_from i there.0) ∙ e)
  ];
  proposal_sources = λ q ql o e. h.proposal_sources q ql (sym (step.reached q) ∙ o) (sym (step.proposal_from q) ∙ e);
  least_reviewers = λ x y closed ra pb i il o. elim (which_reviewer t u r i from step (ltb-true 0 (u.order i) o)) [
    | inl here ↦ ap x here ∙ elim (cases_Option from) [
      | inl none ↦ ra r rl (source none)
      | inr some ↦
          let w = way some.0 some.1 in
          closed.back r some.0 rl w.below (h.least_proposals x y closed ra pb some.0 w.below w.reached) w.free w.held
    ]
    | inr there ↦ h.least_reviewers x y closed ra pb i il (lt-ltb 0 (t.order i) there.1)
  ];
  least_proposals = λ x y closed ra pb q ql o. h.least_proposals x y closed ra pb q ql (sym (step.reached q) ∙ o);
  full = λ q ql o. h.full q ql (sym (step.reached q) ∙ o);
}

pub sought-proposal : (g : Residual) (a b room : Places) (t u : Tree) (p : ℕ) (from : Option ℕ) → IsSought g a b room t → ReachesProposal t u p from → p < g.side → t.reached p ≡ false → room p ≡ false
    → (from ≡ None → b p ≡ true) → ((r : ℕ) → from ≡ Some r → GoesTo g t p r) → IsSought g a b room u
sought-proposal g a b room t u p from h step pl new none source way = record {
  grown = tree-proposal g t u p from h.grown step pl new way;
  reviewer_sources = λ i il o e. h.reviewer_sources i il (omega (arith, step.order i)) (sym (step.reviewer_from i) ∙ e);
  proposal_sources = λ q ql o e. elim (which_proposal t u p q from step o) [
    | inl here ↦ ap b here ∙ source (sym step.here_from ∙ (ap u.proposal_from (sym here) ∙ e))
    | inr there ↦ h.proposal_sources q ql there.1 (sym (step.other_from q there.0) ∙ e)
  ];
  least_reviewers = λ x y closed ra pb i il o. h.least_reviewers x y closed ra pb i il (sym (ap (ltb 0) (step.order i)) ∙ o);
  least_proposals = λ x y closed ra pb q ql o. elim (which_proposal t u p q from step o) [
    | inl here ↦ ap y here ∙ elim (cases_Option from) [
      | inl none ↦ pb p pl (source none)
      | inr some ↦
          let w = way some.0 some.1 in
          closed.forward some.0 p w.below pl (h.least_reviewers x y closed ra pb some.0 w.below (lt-ltb 0 (t.order some.0) w.reached)) w.free w.held
    ]
    | inr there ↦ h.least_proposals x y closed ra pb q ql there.1
  ];
  full = λ q ql o. elim (which_proposal t u p q from step o) [
    | inl here ↦ ap room here ∙ none
    | inr there ↦ h.full q ql there.1
  ];
}

-- what is reached while no proposal with room is comes by proposals without room
pub sought-grown : (g : Residual) (a b room : Places) (t : Tree) → IsSought g a b room t → IsGrown g a b room t
sought-grown g a b room t h = record {
  grown = h.grown;
  reviewer_sources = h.reviewer_sources;
  proposal_sources = h.proposal_sources;
  by_full = λ r p l o e. h.full p (h.grown.reviewer_below r p l o e) (h.grown.reviewer_after r p l o e);
}

-- and so it does where a proposal with room is reached last
pub found-grown : (g : Residual) (a b room : Places) (t u : Tree) (p r : ℕ) → IsSought g a b room t → ReachesProposal t u p (Some r) → p < g.side → room p ≡ true → GoesTo g t p r → IsGrown g a b room u
found-grown g a b room t u p r h step pl some way =
    let new : t.reached p ≡ false = false_from_ne_true (t.reached p) (λ e. both_ways (room p) (h.full p pl e) some) in
    let before = sought-grown g a b room t h in
    record {
      grown = tree-proposal g t u p (Some r) h.grown step pl new (λ q e. let same : r ≡ q = cc in subst (GoesTo g t p) same way);
      reviewer_sources = λ i il o e. h.reviewer_sources i il (omega (arith, step.order i)) (sym (step.reviewer_from i) ∙ e);
      proposal_sources = λ q ql o e. elim (which_proposal t u p q (Some r) step o) [
        | inl here ↦ absurd (none_some r (sym step.here_from ∙ (ap u.proposal_from (sym here) ∙ e)))
        | inr there ↦ h.proposal_sources q ql there.1 (sym (step.other_from q there.0) ∙ e)
      ];
      by_full = λ i q il o e. before.by_full i q il (omega (arith, step.order i)) (sym (step.reviewer_from i) ∙ e);
    }

-- the same from more sources
pub grown-wider : (g : Residual) (a b room c : Places) (t : Tree) → IsGrown g a b room t → ((r : ℕ) → r < g.side → a r ≡ true → c r ≡ true) → IsGrown g c b room t
grown-wider g a b room c t h wider = record {
  grown = h.grown;
  reviewer_sources = λ r l o e. wider r l (h.reviewer_sources r l o e);
  proposal_sources = h.proposal_sources;
  by_full = h.by_full;
}

-- A search is under way.

pub under_way-none : (g : Residual) (a b room : Places) (near_r near_p : Places) (t : Tree) → t.count ≡ 0 → ((r : ℕ) → t.order r ≡ 0) → ((p : ℕ) → t.reached p ≡ false)
    → ((r : ℕ) → r < g.side → near_r r ≡ a r) → ((p : ℕ) → p < g.side → near_p p ≡ b p) → ((p : ℕ) → p < g.side → b p ≡ true → room p ≡ false)
    → IsUnderWay g a b room near_r near_p t
under_way-none g a b room near_r near_p t count reviewers proposals rs ps none =
    let no_reviewer : (r : ℕ) → 0 < t.order r → ⊥ = λ r o. omega (arith, reviewers r) in
    let no_proposal : (p : ℕ) → t.reached p ≡ true → ⊥ = λ p o. both_ways (t.reached p) (proposals p) o in
    record {
      sought = record {
        grown = tree-none g t count (λ r l. reviewers r) (λ p l. proposals p);
        reviewer_sources = λ r l o e. absurd (no_reviewer r o);
        proposal_sources = λ p l o e. absurd (no_proposal p o);
        least_reviewers = λ x y closed ra pb r l o. absurd (no_reviewer r (ltb-true 0 (t.order r) o));
        least_proposals = λ x y closed ra pb p l o. absurd (no_proposal p o);
        full = λ p l o. absurd (no_proposal p o);
      };
      has_reviewers = λ r l o. rs r l ∙ o;
      has_proposals = λ p l o. ps p l ∙ o;
      forward = λ r p l k o f e. absurd (no_reviewer r o);
      back = λ r p l k o f e. absurd (no_proposal p o);
      other_reviewers = λ r l o none. sym (rs r l) ∙ o;
      other_proposals = λ p l o none. sym (ps p l) ∙ o;
      near_full = λ p l o. none p l (sym (ps p l) ∙ o);
    }

or_left : (a b : Bool) → a ≡ true → (a || b) ≡ true
or_left a b h = ap (λ c. c || b) h

or_right : (a b : Bool) → b ≡ true → (a || b) ≡ true
or_right true b h = refl
or_right false b h = h

-- where a reviewer came from: a proposal that is reached and that it holds by a free pair, if there is one
pub record ReviewerCame (g : Residual) (t : Tree) (r : ℕ) (from : Option ℕ) : Type 0 where
  pub none : from ≡ None → (p : ℕ) → p < g.side → t.reached p ≡ true → g.free r p ≡ true → g.held r p ≡ true → ⊥
  pub some : (p : ℕ) → from ≡ Some p → ComesFrom g t r p

pub record ProposalCame (g : Residual) (t : Tree) (p : ℕ) (from : Option ℕ) : Type 0 where
  pub none : from ≡ None → (r : ℕ) → r < g.side → 0 < t.order r → g.free r p ≡ true → g.held r p ≡ false → ⊥
  pub some : (r : ℕ) → from ≡ Some r → GoesTo g t p r

-- a reviewer that is near is reached
pub reviewer-sought : (g : Residual) (a b room near_r near_p : Places) (t u : Tree) (r : ℕ) (from : Option ℕ) → IsUnderWay g a b room near_r near_p t → ReachesReviewer t u r from → r < g.side → t.order r ≡ 0
    → near_r r ≡ true → ReviewerCame g t r from → IsSought g a b room u
reviewer-sought g a b room near_r near_p t u r from h step rl new near came =
    sought-reviewer g a b room t u r from h.sought step rl new (λ none. h.other_reviewers r rl near (came.none none)) came.some

-- and none of the proposals behind it has room
pub under_way-reviewer : (g : Residual) (a b room near_r near_p ahead more_p : Places) (t u : Tree) (r : ℕ) (from : Option ℕ) → IsUnderWay g a b room near_r near_p t → ReachesReviewer t u r from → r < g.side → t.order r ≡ 0
    → near_r r ≡ true → ReviewerCame g t r from → ((p : ℕ) → p < g.side → ahead p ≡ (g.free r p && not (g.held r p))) → ((p : ℕ) → more_p p ≡ (near_p p || ahead p))
    → ((p : ℕ) → ahead p ≡ true → room p ≡ false) → IsUnderWay g a b room near_r more_p u
under_way-reviewer g a b room near_r near_p ahead more_p t u r from h step rl new near came ways more no_room = record {
  sought = reviewer-sought g a b room near_r near_p t u r from h step rl new near came;
  has_reviewers = h.has_reviewers;
  has_proposals = λ p l o. more p ∙ or_left (near_p p) (ahead p) (h.has_proposals p l o);
  forward = λ i p il pl o f e. elim (which_reviewer t u r i from step o) [
    | inl here ↦
        more p
        ∙ or_right (near_p p) (ahead p)
        (ways p pl ∙ and_from (g.free r p) (not (g.held r p)) (ap (λ k. g.free k p) (sym here) ∙ f) (ap not (ap (λ k. g.held k p) (sym here) ∙ e)))
    | inr there ↦ more p ∙ or_left (near_p p) (ahead p) (h.forward i p il pl there.1 f e)
  ];
  back = λ i p il pl o f e. h.back i p il pl (sym (step.reached p) ∙ o) f e;
  other_reviewers = λ i il o none. h.other_reviewers i il o (λ p pl e f k. none p pl (step.reached p ∙ e) f k);
  other_proposals = λ p pl o none. elim (or_cases (near_p p) (ahead p) (sym (more p) ∙ o)) [
    | inl old ↦ h.other_proposals p pl old (λ i il e f k. none i il (omega (arith, e, step.other_order i (other_reviewer t r i new e))) f k)
    | inr here ↦
        let parts = and_parts (g.free r p) (not (g.held r p)) (sym (ways p pl) ∙ here) in
        absurd (none r rl (omega (arith, step.order)) parts.0 (not-true (g.held r p) parts.1))
  ];
  near_full = λ p pl o. elim (or_cases (near_p p) (ahead p) (sym (more p) ∙ o)) [
    | inl old ↦ h.near_full p pl old
    | inr here ↦ no_room p here
  ];
}

-- a proposal that is near is reached
pub under_way-proposal : (g : Residual) (a b room near_r near_p behind more_r : Places) (t u : Tree) (p : ℕ) (from : Option ℕ) → IsUnderWay g a b room near_r near_p t → ReachesProposal t u p from → p < g.side → t.reached p ≡ false
    → near_p p ≡ true → ProposalCame g t p from → ((r : ℕ) → r < g.side → behind r ≡ (g.free r p && g.held r p)) → ((r : ℕ) → more_r r ≡ (near_r r || behind r))
    → IsUnderWay g a b room more_r near_p u
under_way-proposal g a b room near_r near_p behind more_r t u p from h step pl new near came ways more = record {
  sought = sought-proposal g a b room t u p from h.sought step pl new (h.near_full p pl near) (λ none. h.other_proposals p pl near (came.none none)) came.some;
  has_reviewers = λ r l o. more r ∙ or_left (near_r r) (behind r) (h.has_reviewers r l o);
  has_proposals = h.has_proposals;
  forward = λ i q il ql o f e. h.forward i q il ql (omega (arith, step.order i, o)) f e;
  back = λ i q il ql o f e. elim (which_proposal t u p q from step o) [
    | inl here ↦
        more i
        ∙ or_right (near_r i) (behind i)
        (ways i il ∙ and_from (g.free i p) (g.held i p) (ap (g.free i) (sym here) ∙ f) (ap (g.held i) (sym here) ∙ e))
    | inr there ↦ more i ∙ or_left (near_r i) (behind i) (h.back i q il ql there.1 f e)
  ];
  other_reviewers = λ i il o none. elim (or_cases (near_r i) (behind i) (sym (more i) ∙ o)) [
    | inl old ↦ h.other_reviewers i il old (λ q ql e f k. none q ql (step.other_reached q (other_proposal t p q new e) ∙ e) f k)
    | inr here ↦
        let parts = and_parts (g.free i p) (g.held i p) (sym (ways i il) ∙ here) in
        absurd (none p pl step.reached parts.0 parts.1)
  ];
  other_proposals = λ q ql o none. h.other_proposals q ql o (λ i il e f k. none i il (omega (arith, step.order i, e)) f k);
  near_full = h.near_full;
}

-- where all that is near is reached, the search has gone on as far as it can
pub under_way-ends : (g : Residual) (a b room near_r near_p : Places) (t : Tree) → IsUnderWay g a b room near_r near_p t → ((r : ℕ) → near_r r ≡ true → reviewers_of t r ≡ true) → ((p : ℕ) → near_p p ≡ true → t.reached p ≡ true)
    → HasReached g a b t
under_way-ends g a b room near_r near_p t h reviewers proposals = record {
  closed = record {
    forward = λ r p l k o f e. proposals p (h.forward r p l k (ltb-true 0 (t.order r) o) f e);
    back = λ r p l k o f e. reviewers r (h.back r p l k o f e);
  };
  has_reviewers = λ r l o. reviewers r (h.has_reviewers r l o);
  has_proposals = λ p l o. proposals p (h.has_proposals p l o);
  least_reviewers = h.sought.least_reviewers;
  least_proposals = h.sought.least_proposals;
}

-- Where a place that is found came from.

pub within : (n i : ℕ) (ways other : Places) → ((k : ℕ) → n ≤ k → ways k ≡ false) → (ways i && other i) ≡ true → i < n
within n i ways other outside h = elim (cases_lt i n) [
  | inl below ↦ below
  | inr past ↦ absurd (both_ways (ways i) (outside i past) (and_parts (ways i) (other i) h).0)
]

pub came-reviewer : (g : Residual) (t : Tree) (r : ℕ) (from : Option ℕ) (held both : Places) → ((p : ℕ) → p < g.side → held p ≡ (g.free r p && g.held r p)) → ((p : ℕ) → g.side ≤ p → held p ≡ false)
    → ((p : ℕ) → both p ≡ (held p && t.reached p)) → IfSome from (λ p. both p ≡ true) → IfNone from ((p : ℕ) → 0 ≤ p → both p ≡ false) → ReviewerCame g t r from
came-reviewer g t r None held both ways outside each some none = record {
  none = λ e p pl o f k. both_ways (both p) (none p (omega arith)) (each p ∙ and_from (held p) (t.reached p) (ways p pl ∙ and_from (g.free r p) (g.held r p) f k) o);
  some = λ p e. absurd (none_some p (sym e));
}
came-reviewer g t r (Some q) held both ways outside each some none =
    let here = sym (each q) ∙ some in
    let below = within g.side q held t.reached outside here in
    let parts = and_parts (held q) (t.reached q) here in
    let pair = and_parts (g.free r q) (g.held r q) (sym (ways q below) ∙ parts.0) in
    let way : ComesFrom g t r q = record { below = below; reached = parts.1; free = pair.0; held = pair.1 } in
    record {
      none = λ e. absurd (none_some q e);
      some = λ p e. let same : q ≡ p = cc in subst (ComesFrom g t r) same way;
    }

pub came-proposal : (g : Residual) (t : Tree) (p : ℕ) (from : Option ℕ) (openers both : Places) → ((r : ℕ) → r < g.side → openers r ≡ (g.free r p && not (g.held r p))) → ((r : ℕ) → g.side ≤ r → openers r ≡ false)
    → ((r : ℕ) → both r ≡ (openers r && reviewers_of t r)) → IfSome from (λ r. both r ≡ true) → IfNone from ((r : ℕ) → 0 ≤ r → both r ≡ false) → ProposalCame g t p from
came-proposal g t p None openers both ways outside each some none = record {
  none = λ e r rl o f k. both_ways (both r) (none r (omega arith))
      (each r ∙ and_from (openers r) (reviewers_of t r) (ways r rl ∙ and_from (g.free r p) (not (g.held r p)) f (ap not k)) (lt-ltb 0 (t.order r) o));
  some = λ r e. absurd (none_some r (sym e));
}
came-proposal g t p (Some q) openers both ways outside each some none =
    let here = sym (each q) ∙ some in
    let below = within g.side q openers (reviewers_of t) outside here in
    let parts = and_parts (openers q) (reviewers_of t q) here in
    let pair = and_parts (g.free q p) (not (g.held q p)) (sym (ways q below) ∙ parts.0) in
    let way : GoesTo g t p q = record { below = below; reached = ltb-true 0 (t.order q) parts.1; free = pair.0; held = not-true (g.held q p) pair.1 } in
    record {
      none = λ e. absurd (none_some q e);
      some = λ r e. let same : q ≡ r = cc in subst (GoesTo g t p) same way;
    }

pub or_none : (b : Bool) → (b || false) ≡ b
or_none true = refl
or_none false = refl
