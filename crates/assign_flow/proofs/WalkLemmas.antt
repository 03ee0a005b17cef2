use Rattle.std.proofs.Common.{◌≡◌, ◌≢◌, ℕ, ◌+◌, ◌<◌, ◌≤◌, ◌⊎◌, Bool, true, false, ◌&&◌, cond, eqb, None, Some, refl, sym, ap, ◌∙◌, inl, inr, arith}
use Rattle.std.proofs.lemmas.Bool.{cases_eq, cases_Bool, both_ways, eq-eqb, ne_eqb, eqb-true, and_from, and_parts, cond-true, cond-false}
use Rattle.peer_selection.specs.Counting.{count_below}
use Rattle.peer_selection.specs.Profile.{Pairs}
use Rattle.peer_selection.proofs.CountingLemmas.{count_below-same}
use Rattle.assign_flow.specs.Residual.{Residual, Tree, height, IsTree, LeadsBack, ChangesAlong, HasWalked, WalksBack, at_one}
use Rattle.assign_flow.specs.declared.walk.End.TheVariants.{AtReviewer}
use Rattle.assign_flow.proofs.CountLemmas.{count_below-turned}
use Rattle.assign_flow.proofs.TreeLemmas.{height-some}

-- One pair is set, and all others stay.

pub record Sets (n : ℕ) (x y : Pairs) (row column : ℕ) (value : Bool) : Type 0 where
  pub here : y row column ≡ value
  pub other : (r p : ℕ) → r < n → p < n → (r ≡ row → p ≡ column → ⊥) → y r p ≡ x r p

pub sets-from : (n : ℕ) (x y : Pairs) (row column : ℕ) (value : Bool) → row < n → column < n
    → ((r p : ℕ) → r < n → p < n → y r p ≡ cond (eqb r row && eqb p column) value (x r p)) → Sets n x y row column value
sets-from n x y row column value rl cl h = record {
  here = h row column rl cl ∙ cond-true (eqb row row && eqb column column) value (x row column) (and_from (eqb row row) (eqb column column) (eq-eqb row row refl) (eq-eqb column column refl));
  other = λ r p l k apart. h r p l k ∙ cond-false (eqb r row && eqb p column) value (x r p) (not_both r p apart);
}
  where
    not_both : (r p : ℕ) → (r ≡ row → p ≡ column → ⊥) → (eqb r row && eqb p column) ≡ false
    not_both r p apart = elim (cases_Bool (eqb r row && eqb p column)) [
      | inl both ↦ let parts = and_parts (eqb r row) (eqb p column) both in absurd (apart (eqb-true r row parts.0) (eqb-true p column parts.1))
      | inr none ↦ none
    ]

pub which_pair : (n : ℕ) (x y : Pairs) (row column : ℕ) (value : Bool) (r p : ℕ) → Sets n x y row column value → r < n → p < n → ((r ≡ row) × (p ≡ column)) ⊎ (y r p ≡ x r p)
which_pair n x y row column value r p h l k = elim (cases_eq r row) [
  | inl same_row ↦ elim (cases_eq p column) [
    | inl same_column ↦ inl (same_row, same_column)
    | inr other ↦ inr (h.other r p l k (λ e f. other f))
  ]
  | inr other ↦ inr (h.other r p l k (λ e f. other e))
]

pub at_one-same : (i j : ℕ) → i ≡ j → at_one i j ≡ 1
at_one-same i j e = ap {B = ℕ} (λ b. cond b 1 0) (eq-eqb i j e)

pub at_one-other : (i j : ℕ) → i ≢ j → at_one i j ≡ 0
at_one-other i j ne = ap {B = ℕ} (λ b. cond b 1 0) (ne_eqb i j ne)

pub row-gains : (n : ℕ) (x y : Pairs) (row column r : ℕ) → Sets n x y row column true → column < n → x row column ≡ false → r < n → count_below (y r) n ≡ count_below (x r) n + at_one r row
row-gains n x y row column r h k old l = elim (cases_eq r row) [
  | inl same ↦
      omega (
        arith,
        at_one-same r row same,
        count_below-turned (x r) (y r) n column k (ap (λ i. x i column) same ∙ old) (ap (λ i. y i column) same ∙ h.here) (λ p pl ne. h.other r p l pl (λ e f. ne f)),
      )
  | inr other ↦ omega (arith, at_one-other r row other, count_below-same (y r) (x r) n (λ p pl. h.other r p l pl (λ e f. other e)))
]

pub row-loses : (n : ℕ) (x y : Pairs) (row column r : ℕ) → Sets n x y row column false → column < n → x row column ≡ true → r < n → count_below (y r) n + at_one r row ≡ count_below (x r) n
row-loses n x y row column r h k old l = elim (cases_eq r row) [
  | inl same ↦
      omega (
        arith,
        at_one-same r row same,
        count_below-turned (y r) (x r) n column k (ap (λ i. y i column) same ∙ h.here) (ap (λ i. x i column) same ∙ old) (λ p pl ne. sym (h.other r p l pl (λ e f. ne f))),
      )
  | inr other ↦ omega (arith, at_one-other r row other, count_below-same (y r) (x r) n (λ p pl. h.other r p l pl (λ e f. other e)))
]

pub column-gains : (n : ℕ) (x y : Pairs) (row column p : ℕ) → Sets n x y row column true → row < n → x row column ≡ false → p < n → count_below (λ r. y r p) n ≡ count_below (λ r. x r p) n + at_one p column
column-gains n x y row column p h k old l = elim (cases_eq p column) [
  | inl same ↦
      omega (
        arith,
        at_one-same p column same,
        count_below-turned (λ r. x r p) (λ r. y r p) n row k (ap (x row) same ∙ old) (ap (y row) same ∙ h.here) (λ r rl ne. h.other r p rl l (λ e f. ne e)),
      )
  | inr other ↦ omega (arith, at_one-other p column other, count_below-same (λ r. y r p) (λ r. x r p) n (λ r rl. h.other r p rl l (λ e f. other f)))
]

pub column-loses : (n : ℕ) (x y : Pairs) (row column p : ℕ) → Sets n x y row column false → row < n → x row column ≡ true → p < n → count_below (λ r. y r p) n + at_one p column ≡ count_below (λ r. x r p) n
column-loses n x y row column p h k old l = elim (cases_eq p column) [
  | inl same ↦
      omega (
        arith,
        at_one-same p column same,
        count_below-turned (λ r. y r p) (λ r. x r p) n row k (ap (y row) same ∙ h.here) (ap (x row) same ∙ old) (λ r rl ne. sym (h.other r p rl l (λ e f. ne e))),
      )
  | inr other ↦ omega (arith, at_one-other p column other, count_below-same (λ r. y r p) (λ r. x r p) n (λ r rl. h.other r p rl l (λ e f. other f)))
]

-- The walk.

-- where a search was, a way leads back from all that it reached
pub leads-tree : (g : Residual) (t : Tree) (top : ℕ) → IsTree g t → LeadsBack g.side g.held t top
leads-tree g t top h = record {
  reviewer_below = λ r p l o b e. h.reviewer_below r p l o e;
  reviewer_after = λ r p l o b e. h.reviewer_after r p l o e;
  reviewer_held = λ r p l o b e. h.reviewer_held r p l o e;
  reviewer_later = λ r p l o b e. h.reviewer_later r p l o e;
  proposal_below = λ p r l o e b. h.proposal_below p r l o e;
  proposal_after = λ p r l o e b. h.proposal_after p r l o e;
  proposal_open = λ p r l o e b. h.proposal_open p r l o e;
}

-- where the hole was reached from a reviewer: the walk has come to it
pub record ComesTo (n : ℕ) (t : Tree) (x : Pairs) (hole r : ℕ) : Type 0 where
  pub below : r < n
  pub reached : 0 < t.order r
  pub wanting : x r hole ≡ false
  pub tall : height t hole ≡ t.order r

pub comes-to : (n : ℕ) (t : Tree) (old x : Pairs) (p hole r : ℕ) → HasWalked n t old x p hole → t.proposal_from hole ≡ Some r → ComesTo n t x hole r
comes-to n t old x p hole r w e =
    let tall = height-some t hole r e in
    record {
      below = w.leads.proposal_below hole r w.below w.reached e (omega arith);
      reached = w.leads.proposal_after hole r w.below w.reached e (omega arith);
      wanting = w.leads.proposal_open hole r w.below w.reached e (omega arith);
      tall = tall;
    }

-- the pair of the hole is set
along-gain : (n : ℕ) (t : Tree) (old x y : Pairs) (hole r : ℕ) → ChangesAlong n t old x → Sets n x y r hole true → t.reached hole ≡ true → t.proposal_from hole ≡ Some r → ChangesAlong n t old y
along-gain n t old x y hole r h set reached from = record {
  gain_reached = λ i q il ql o m. elim (which_pair n x y r hole true i q set il ql) [
    | inl here ↦ ap t.reached here.1 ∙ reached
    | inr there ↦ h.gain_reached i q il ql o (sym there ∙ m)
  ];
  gain_from = λ i q il ql o m. elim (which_pair n x y r hole true i q set il ql) [
    | inl here ↦ ap t.proposal_from here.1 ∙ (from ∙ ap Some (sym here.0))
    | inr there ↦ h.gain_from i q il ql o (sym there ∙ m)
  ];
  loss_reached = λ i q il ql o m. elim (which_pair n x y r hole true i q set il ql) [
    | inl here ↦ absurd (both_ways (y i q) m (ap (λ k. y k q) here.0 ∙ (ap (y r) here.1 ∙ set.here)))
    | inr there ↦ h.loss_reached i q il ql o (sym there ∙ m)
  ];
  loss_from = λ i q il ql o m. elim (which_pair n x y r hole true i q set il ql) [
    | inl here ↦ absurd (both_ways (y i q) m (ap (λ k. y k q) here.0 ∙ (ap (y r) here.1 ∙ set.here)))
    | inr there ↦ h.loss_from i q il ql o (sym there ∙ m)
  ];
}

-- the pair of the next hole is taken away
along-loss : (n : ℕ) (t : Tree) (old x y : Pairs) (next r : ℕ) → ChangesAlong n t old x → Sets n x y r next false → 0 < t.order r → t.reviewer_from r ≡ Some next → ChangesAlong n t old y
along-loss n t old x y next r h set reached from = record {
  gain_reached = λ i q il ql o m. elim (which_pair n x y r next false i q set il ql) [
    | inl here ↦ absurd (both_ways (y i q) (ap (λ k. y k q) here.0 ∙ (ap (y r) here.1 ∙ set.here)) m)
    | inr there ↦ h.gain_reached i q il ql o (sym there ∙ m)
  ];
  gain_from = λ i q il ql o m. elim (which_pair n x y r next false i q set il ql) [
    | inl here ↦ absurd (both_ways (y i q) (ap (λ k. y k q) here.0 ∙ (ap (y r) here.1 ∙ set.here)) m)
    | inr there ↦ h.gain_from i q il ql o (sym there ∙ m)
  ];
  loss_reached = λ i q il ql o m. elim (which_pair n x y r next false i q set il ql) [
    | inl here ↦ omega (arith, ap t.order here.0, reached)
    | inr there ↦ h.loss_reached i q il ql o (sym there ∙ m)
  ];
  loss_from = λ i q il ql o m. elim (which_pair n x y r next false i q set il ql) [
    | inl here ↦ ap t.reviewer_from here.0 ∙ (from ∙ ap Some (sym here.1))
    | inr there ↦ h.loss_from i q il ql o (sym there ∙ m)
  ];
}

pub walks-reviewer : (n : ℕ) (t : Tree) (old x y : Pairs) (p hole r : ℕ) → HasWalked n t old x p hole → t.proposal_from hole ≡ Some r → Sets n x y r hole true → t.reviewer_from r ≡ None → WalksBack n t old y p (AtReviewer r)
walks-reviewer n t old x y p hole r w e set source =
    let come = comes-to n t old x p hole r w e in
    record {
      source = (come.below, come.reached, source);
      along = along-gain n t old x y hole r w.along set w.reached e;
      reviewers = λ i l. omega (arith, w.reviewers i l, row-gains n x y r hole i set w.below come.wanting l);
      proposals = λ q l. omega (arith, w.proposals q l, column-gains n x y r hole q set come.below come.wanting l);
    }

-- where the reviewer that the walk has come to was reached from a proposal
pub record GoesBack (n : ℕ) (t : Tree) (x : Pairs) (hole r next : ℕ) : Type 0 where
  pub below : next < n
  pub reached : t.reached next ≡ true
  pub holding : x r next ≡ true
  pub lower : height t next < t.order r
  pub apart : next ≢ hole

pub goes-back : (n : ℕ) (t : Tree) (old x : Pairs) (p hole r next : ℕ) → HasWalked n t old x p hole → t.proposal_from hole ≡ Some r → t.reviewer_from r ≡ Some next → GoesBack n t x hole r next
goes-back n t old x p hole r next w e f =
    let come = comes-to n t old x p hole r w e in
    let holding = w.leads.reviewer_held r next come.below come.reached (omega (arith, come.tall)) f in
    record {
      below = w.leads.reviewer_below r next come.below come.reached (omega (arith, come.tall)) f;
      reached = w.leads.reviewer_after r next come.below come.reached (omega (arith, come.tall)) f;
      holding = holding;
      lower = w.leads.reviewer_later r next come.below come.reached (omega (arith, come.tall)) f;
      apart = λ same. both_ways (x r hole) come.wanting (ap (x r) (sym same) ∙ holding);
    }

-- the pairs of reviewers that were reached before r are the same in x and z
pub leads-kept : (n : ℕ) (t : Tree) (x z : Pairs) (top low r : ℕ) → LeadsBack n x t top → low ≤ top → ((i : ℕ) → 0 < t.order i → t.order i ≤ low → i ≢ r) → ((i q : ℕ) → i < n → q < n → i ≢ r → z i q ≡ x i q) → LeadsBack n z t low
leads-kept n t x z top low r h most apart same = record {
  reviewer_below = λ i q l o b e. h.reviewer_below i q l o (omega arith) e;
  reviewer_after = λ i q l o b e. h.reviewer_after i q l o (omega arith) e;
  reviewer_held = λ i q l o b e. same i q l (h.reviewer_below i q l o (omega arith) e) (apart i o b) ∙ h.reviewer_held i q l o (omega arith) e;
  reviewer_later = λ i q l o b e. h.reviewer_later i q l o (omega arith) e;
  proposal_below = λ q i l o e b. h.proposal_below q i l o e (omega arith);
  proposal_after = λ q i l o e b. h.proposal_after q i l o e (omega arith);
  proposal_open = λ q i l o e b. same i q (h.proposal_below q i l o e (omega arith)) l (apart i (h.proposal_after q i l o e (omega arith)) b) ∙ h.proposal_open q i l o e (omega arith);
}

pub walked-more : (n : ℕ) (t : Tree) (old x y z : Pairs) (p hole r next : ℕ) → HasWalked n t old x p hole → t.proposal_from hole ≡ Some r → t.reviewer_from r ≡ Some next
    → Sets n x y r hole true → Sets n y z r next false → HasWalked n t old z p next
walked-more n t old x y z p hole r next w e f gain loss =
    let come = comes-to n t old x p hole r w e in
    let back = goes-back n t old x p hole r next w e f in
    let still : y r next ≡ true = gain.other r next come.below back.below (λ i j. back.apart j) ∙ back.holding in
    record {
      below = back.below;
      reached = back.reached;
      leads = leads-kept n t x z (height t hole) (height t next) r w.leads (omega (arith, come.tall, back.lower)) (λ i o b e. omega (arith, back.lower, ap t.order e))
          (λ i q il ql ne. loss.other i q il ql (λ j k. ne j) ∙ gain.other i q il ql (λ j k. ne j));
      along = along-loss n t old y z next r (along-gain n t old x y hole r w.along gain w.reached e) loss come.reached f;
      reviewers = λ i l. omega (arith, w.reviewers i l, row-gains n x y r hole i gain w.below come.wanting l, row-loses n y z r next i loss back.below still l);
      proposals = λ q l. omega (arith, w.proposals q l, column-gains n x y r hole q gain come.below come.wanting l, column-loses n y z r next q loss come.below still l);
    }
