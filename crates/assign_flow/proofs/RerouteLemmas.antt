use Rattle.std.proofs.Common.{◌≡◌, ◌≢◌, ℕ, zero, suc, ◌+◌, ◌<◌, ◌≤◌, ◌⊎◌, Bool, true, false, not, ◌&&◌, cond, eqb, Option, None, Some, refl, sym, ap, ◌∙◌, inl, inr, arith}
use Rattle.std.proofs.lemmas.Bool.{cases_Bool, both_ways, true≢false, and_parts, and_from, not-true, eqb-true, eq-eqb, ne_eqb, true_from_ne_false, cases_lt, le-ltb}
use Rattle.peer_selection.specs.Counting.{count_below}
use Rattle.peer_selection.specs.Profile.{Pairs}
use Rattle.peer_selection.specs.Shortage.{Places}
use Rattle.peer_selection.proofs.CountingLemmas.{one_if, count_below-zero, count_below-suc, count_below-none, count_below-passes, count_below-fails}
use Rattle.assign_flow.specs.declared.walk.End.{End}
use Rattle.assign_flow.specs.declared.walk.End.TheVariants.{AtReviewer, AtProposal}
use Rattle.assign_flow.specs.Residual.{Residual, Tree, IsTree, IsGrown, HasReached, LeadsBack, ChangesAlong, WalksBack, reviewers_of, nowhere, only, height, reviewer_gain, proposal_loss}
use Rattle.assign_flow.specs.Reroute.{gained, ChangesFew, IsRerouted, IsBlocked}
use Rattle.assign_flow.proofs.TreeLemmas.{none_some, cases_Option}
use Rattle.assign_flow.proofs.WalkLemmas.{Sets, which_pair, leads-tree, leads-kept, row-gains, row-loses, column-gains, column-loses}

-- Counts of what is gained and lost.

-- where no two places pass, at most one does
pub count_below-few : (test : ℕ → Bool) (n : ℕ) → ((i j : ℕ) → i < n → j < n → test i ≡ true → test j ≡ true → i ≡ j) → count_below test n ≤ 1
count_below-few test zero h = omega (arith, count_below-zero test)
count_below-few test (suc n) h = elim (cases_Bool (test n)) [
  | inl here ↦ omega (arith, count_below-passes test n here, count_below-none test n (λ i l. only_last i l here))
  | inr none ↦ omega (arith, count_below-fails test n none, count_below-few test n (λ i j l k. h i j (omega arith) (omega arith)))
]
  where
    only_last : (i : ℕ) → i < n → test n ≡ true → test i ≡ false
    only_last i l here = elim (cases_Bool (test i)) [
      | inl there ↦ absurd (omega (arith, h i n (omega arith) (omega arith) there here))
      | inr none ↦ none
    ]

gain_or_loss : (f g : Bool) → one_if g + one_if (f && not g) ≡ one_if f + one_if (g && not f)
gain_or_loss true true = refl
gain_or_loss true false = refl
gain_or_loss false true = refl
gain_or_loss false false = refl

-- what is there now and what is lost are what was there and what is gained
pub count_below-changed : (f g : ℕ → Bool) (n : ℕ) → count_below g n + count_below (λ i. f i && not (g i)) n ≡ count_below f n + count_below (λ i. g i && not (f i)) n
count_below-changed f g zero =
    omega (arith, count_below-zero f, count_below-zero g, count_below-zero (λ i. f i && not (g i)), count_below-zero (λ i. g i && not (f i)))
count_below-changed f g (suc n) =
    omega (
      arith,
      count_below-suc f n,
      count_below-suc g n,
      count_below-suc (λ i. f i && not (g i)) n,
      count_below-suc (λ i. g i && not (f i)) n,
      gain_or_loss (f n) (g n),
      count_below-changed f g n,
    )

gained_parts : (old new : Bool) → (new && not old) ≡ true → (new ≡ true) × (old ≡ false)
gained_parts old new h = let both = and_parts new (not old) h in (both.0, not-true old both.1)

some_same : (a b : ℕ) (o : Option ℕ) → o ≡ Some a → o ≡ Some b → a ≡ b
some_same a b o e f = cc

-- where each proposal gains from one reviewer alone and each reviewer loses one proposal alone, and all stand in as many
-- pairs as before, few pairs change
pub changes-few : (n : ℕ) (old new : Pairs) (giver taker : ℕ → Option ℕ)
    → ((r : ℕ) → r < n → count_below (new r) n ≡ count_below (old r) n)
    → ((p : ℕ) → p < n → count_below (λ r. new r p) n ≡ count_below (λ r. old r p) n)
    → ((r p : ℕ) → r < n → p < n → old r p ≡ false → new r p ≡ true → giver p ≡ Some r)
    → ((r p : ℕ) → r < n → p < n → old r p ≡ true → new r p ≡ false → taker r ≡ Some p) → ChangesFew n old new
changes-few n old new giver taker rows columns gives takes =
    let proposals_gain : (p : ℕ) → p < n → count_below (λ r. gained old new r p) n ≤ 1 = λ p l. count_below-few (λ r. gained old new r p) n
    (λ i j il jl e f.
    let a = gained_parts (old i p) (new i p) e in
    let b = gained_parts (old j p) (new j p) f in
    some_same i j (giver p) (gives i p il l a.1 a.0) (gives j p jl l b.1 b.0)) in
    let reviewers_lose : (r : ℕ) → r < n → count_below (gained new old r) n ≤ 1 = λ r l. count_below-few (gained new old r) n
    (λ i j il jl e f.
    let a = gained_parts (new r i) (old r i) e in
    let b = gained_parts (new r j) (old r j) f in
    some_same i j (taker r) (takes r i l il a.0 a.1) (takes r j l jl b.0 b.1)) in
    record {
      reviewers_gain = λ r l. omega (arith, rows r l, count_below-changed (old r) (new r) n, reviewers_lose r l);
      reviewers_lose = reviewers_lose;
      proposals_gain = proposals_gain;
      proposals_lose = λ p l. omega (arith, columns p l, count_below-changed (λ r. old r p) (λ r. new r p) n, proposals_gain p l);
    }

-- nothing changes
pub changes-none : (n : ℕ) (x : Pairs) → ChangesFew n x x
changes-none n x = changes-few n x x (λ p. None) (λ r. None) (λ r l. refl) (λ p l. refl) (λ r p l k e f. absurd (both_ways (x r p) e f)) (λ r p l k e f. absurd (both_ways (x r p) f e))

-- A closed walk: from the proposal to the reviewer by a search, and back by the pair itself.

-- the search has reached a proposal that the reviewer holds, and not the reviewer
pub record HasWay (g : Residual) (t : Tree) (reviewer proposal next : ℕ) : Type 0 where
  pub reviewer_below : reviewer < g.side
  pub proposal_below : proposal < g.side
  pub free : g.free reviewer proposal ≡ true
  pub wanting : g.held reviewer proposal ≡ false
  pub unreached : t.order reviewer ≡ 0
  pub next_below : next < g.side
  pub next_reached : t.reached next ≡ true
  pub next_free : g.free reviewer next ≡ true
  pub next_held : g.held reviewer next ≡ true

-- the pair is set, and the one with the proposal that was reached is taken away
pub record IsTurned (g : Residual) (x y : Pairs) (reviewer proposal next : ℕ) : Type 0 where
  pub gain : Sets g.side g.held x reviewer proposal true
  pub loss : Sets g.side x y reviewer next false

next_apart : (g : Residual) (t : Tree) (r p next : ℕ) → IsTree g t → HasWay g t r p next → next ≢ p
next_apart g t r p next h w e = both_ways (g.held r p) w.wanting (ap (g.held r) (sym e) ∙ w.next_held)

still_held : (g : Residual) (t : Tree) (x y : Pairs) (r p next : ℕ) → IsTree g t → HasWay g t r p next → IsTurned g x y r p next → x r next ≡ true
still_held g t x y r p next h w turned =
    turned.gain.other r next w.reviewer_below (w.next_below) (λ i j. next_apart g t r p next h w j)
    ∙ w.next_held

-- from the hole a way leads back
pub leads-turned : (g : Residual) (t : Tree) (x y : Pairs) (r p next : ℕ) → IsTree g t → HasWay g t r p next → IsTurned g x y r p next → LeadsBack g.side y t (height t next)
leads-turned g t x y r p next h w turned =
    leads-kept g.side t g.held y (height t next) (height t next) r (leads-tree g t (height t next) h) (omega arith) (λ i o b e. omega (arith, w.unreached, ap t.order e))
    (λ i q il ql ne. turned.loss.other i q il ql (λ j k. ne j) ∙ turned.gain.other i q il ql (λ j k. ne j))

-- the walk ends at the proposal
pub source-end : (g : Residual) (t : Tree) (y z : Pairs) (p next : ℕ) (end : End) (room : Places) → IsGrown g nowhere (only p) room t → WalksBack g.side t y z next end → (end ≡ AtProposal p) × (t.proposal_from p ≡ None)
source-end g t y z p next (AtReviewer s) room h w = absurd (true≢false (sym (h.reviewer_sources s w.source.0 w.source.1 w.source.2)))
source-end g t y z p next (AtProposal s) room h w =
    let same = eqb-true s p (h.proposal_sources s w.source.0 w.source.1 w.source.2) in
    (ap AtProposal same, ap t.proposal_from (sym same) ∙ w.source.2)

-- who gives a proposal the pair that it gains
giver_of : Tree → ℕ → ℕ → ℕ → Option ℕ
giver_of t r p q = cond (eqb q p) (Some r) (t.proposal_from q)

giver-same : (t : Tree) (r p q : ℕ) → q ≡ p → giver_of t r p q ≡ Some r
unfolding giver_of
giver-same t r p q e = ap (λ b. cond b (Some r) (t.proposal_from q)) (eq-eqb q p e)

giver-other : (t : Tree) (r p q : ℕ) → q ≢ p → giver_of t r p q ≡ t.proposal_from q
unfolding giver_of
giver-other t r p q ne = ap (λ b. cond b (Some r) (t.proposal_from q)) (ne_eqb q p ne)

-- which proposal takes from a reviewer the pair that it loses
taker_of : Tree → ℕ → ℕ → ℕ → Option ℕ
taker_of t r next i = cond (eqb i r) (Some next) (t.reviewer_from i)

taker-same : (t : Tree) (r next i : ℕ) → i ≡ r → taker_of t r next i ≡ Some next
unfolding taker_of
taker-same t r next i e = ap (λ b. cond b (Some next) (t.reviewer_from i)) (eq-eqb i r e)

taker-other : (t : Tree) (r next i : ℕ) → i ≢ r → taker_of t r next i ≡ t.reviewer_from i
unfolding taker_of
taker-other t r next i ne = ap (λ b. cond b (Some next) (t.reviewer_from i)) (ne_eqb i r ne)

-- where pairs differ from those at the search, and where the walk has changed them
which_change : (g : Residual) (t : Tree) (x y : Pairs) (r p next i q : ℕ) → IsTurned g x y r p next → i < g.side → q < g.side → ((i ≡ r) × (q ≡ p)) ⊎ (((i ≡ r) × (q ≡ next)) ⊎ (y i q ≡ g.held i q))
which_change g t x y r p next i q turned il ql = elim (which_pair g.side x y r next false i q turned.loss il ql) [
  | inl loss ↦ inr (inl loss)
  | inr same ↦ elim (which_pair g.side g.held x r p true i q turned.gain il ql) [
    | inl gain ↦ inl gain
    | inr still ↦ inr (inr (same ∙ still))
  ]
]

rerouted-gain : (g : Residual) (t : Tree) (x y z : Pairs) (r p next i q : ℕ) → IsTree g t → HasWay g t r p next → IsTurned g x y r p next → ChangesAlong g.side t y z → t.proposal_from p ≡ None
    → i < g.side → q < g.side → g.held i q ≡ false → z i q ≡ true → giver_of t r p q ≡ Some i
rerouted-gain g t x y z r p next i q h w turned along source il ql old new = elim (which_change g t x y r p next i q turned il ql) [
  | inl gain ↦ giver-same t r p q gain.1 ∙ ap Some (sym gain.0)
  | inr rest ↦ elim rest [
    | inl loss ↦ absurd (both_ways (g.held i q) old (ap (λ k. g.held k q) loss.0 ∙ (ap (g.held r) loss.1 ∙ w.next_held)))
    | inr same ↦
        let from = along.gain_from i q il ql (same ∙ old) new in
        giver-other t r p q (λ e. none_some i (sym from ∙ (ap t.proposal_from e ∙ source))) ∙ from
  ]
]

rerouted-loss : (g : Residual) (t : Tree) (x y z : Pairs) (r p next i q : ℕ) → IsTree g t → HasWay g t r p next → IsTurned g x y r p next → ChangesAlong g.side t y z
    → i < g.side → q < g.side → g.held i q ≡ true → z i q ≡ false → taker_of t r next i ≡ Some q
rerouted-loss g t x y z r p next i q h w turned along il ql old new = elim (which_change g t x y r p next i q turned il ql) [
  | inl gain ↦ absurd (both_ways (g.held i q) (ap (λ k. g.held k q) gain.0 ∙ (ap (g.held r) gain.1 ∙ w.wanting)) old)
  | inr rest ↦ elim rest [
    | inl loss ↦ taker-same t r next i loss.0 ∙ ap Some (sym loss.1)
    | inr same ↦ taker-other t r next i (λ e. omega (arith, w.unreached, ap t.order e, along.loss_reached i q il ql (same ∙ old) new)) ∙ along.loss_from i q il ql (same ∙ old) new
  ]
]

-- pairs that are not free stay
rerouted-others : (g : Residual) (t : Tree) (x y z : Pairs) (r p next i q : ℕ) → IsTree g t → HasWay g t r p next → IsTurned g x y r p next → ChangesAlong g.side t y z
    → i < g.side → q < g.side → g.free i q ≡ false → z i q ≡ g.held i q
rerouted-others g t x y z r p next i q h w turned along il ql fixed = elim (which_change g t x y r p next i q turned il ql) [
  | inl gain ↦ absurd (both_ways (g.free i q) fixed (ap (λ k. g.free k q) gain.0 ∙ (ap (g.free r) gain.1 ∙ w.free)))
  | inr rest ↦ elim rest [
    | inl loss ↦ absurd (both_ways (g.free i q) fixed (ap (λ k. g.free k q) loss.0 ∙ (ap (g.free r) loss.1 ∙ w.next_free)))
    | inr same ↦ walked (y i q) (z i q) refl refl ∙ same
  ]
]
  where
    walked : (a b : Bool) → y i q ≡ a → z i q ≡ b → z i q ≡ y i q
    walked true true e f = f ∙ sym e
    walked false false e f = f ∙ sym e
    walked false true e f = absurd (both_ways (g.free i q) fixed (h.proposal_free q i ql (along.gain_reached i q il ql e f) (along.gain_from i q il ql e f)))
    walked true false e f = absurd (both_ways (g.free i q) fixed (h.reviewer_free i q il (along.loss_reached i q il ql e f) (along.loss_from i q il ql e f)))

pub rerouted : (g : Residual) (t : Tree) (x y z : Pairs) (r p next : ℕ) (end : End) (room : Places) → IsGrown g nowhere (only p) room t → HasWay g t r p next → IsTurned g x y r p next → WalksBack g.side t y z next end
    → IsRerouted g.side g.free g.held z r p
rerouted g t x y z r p next end room reached w turned walk =
    let h = reached.grown in
    let n = g.side in
    let next_below = w.next_below in
    let holding = still_held g t x y r p next h w turned in
    let ends = source-end g t y z p next end room reached walk in
    let rows : (i : ℕ) → i < n → count_below (z i) n ≡ count_below (g.held i) n = λ i l.
    omega (
      arith,
      walk.reviewers i l,
      ap (λ e. reviewer_gain e i) ends.0,
      row-gains n g.held x r p i turned.gain w.proposal_below w.wanting l,
      row-loses n x y r next i turned.loss next_below holding l,
    ) in
    let columns : (q : ℕ) → q < n → count_below (λ i. z i q) n ≡ count_below (λ i. g.held i q) n = λ q l.
    omega (
      arith,
      walk.proposals q l,
      ap (λ e. proposal_loss e q) ends.0,
      column-gains n g.held x r p q turned.gain w.reviewer_below w.wanting l,
      column-loses n x y r next q turned.loss w.reviewer_below holding l,
    ) in
    record {
      holds = true_from_ne_false (z r p) (λ e.
          let kept : y r p ≡ true = turned.loss.other r p w.reviewer_below w.proposal_below (λ i j. next_apart g t r p next h w (sym j)) ∙ turned.gain.here in
          omega (arith, w.unreached, walk.along.loss_reached r p w.reviewer_below w.proposal_below kept e));
      reviewers = rows;
      proposals = columns;
      others = λ i q il ql fixed. rerouted-others g t x y z r p next i q h w turned walk.along il ql fixed;
      few = changes-few n g.held z (giver_of t r p) (taker_of t r next) rows columns
          (λ i q il ql old new. rerouted-gain g t x y z r p next i q h w turned walk.along ends.1 il ql old new)
          (λ i q il ql old new. rerouted-loss g t x y z r p next i q h w turned walk.along il ql old new);
    }

-- the room of the proposals that a reviewer offers
abbrev pub Offers : Residual → Places → ℕ → Type 0
Offers g room r = (q : ℕ) → q < g.side → room q ≡ (g.free r q && g.held r q)

-- a reviewer is not reached from the proposals that it offers
pub unreached-reviewer : (g : Residual) (t : Tree) (r p : ℕ) (room : Places) → IsGrown g nowhere (only p) room t → Offers g room r → r < g.side → t.order r ≡ 0
unreached-reviewer g t r p room h offers l = elim (cases_lt 0 (t.order r)) [
  | inl reached ↦ elim (cases_Option (t.reviewer_from r)) [
    | inl source ↦ absurd (true≢false (sym (h.reviewer_sources r l reached source)))
    | inr some ↦
        let q = some.0 in
        let below = h.grown.reviewer_below r q l reached some.1 in
        let one = offers q below ∙ and_from (g.free r q) (g.held r q) (h.grown.reviewer_free r q l reached some.1) (h.grown.reviewer_held r q l reached some.1) in
        absurd (both_ways (room q) (h.by_full r q l reached some.1) one)
  ]
  | inr none ↦ omega arith
]

-- where the search ends without an offer that is reached, the pair is blocked
pub blocked-reached : (g : Residual) (t : Tree) (r p : ℕ) (room : Places) → IsGrown g nowhere (only p) room t → HasReached g nowhere (only p) t → Offers g room r → r < g.side → p < g.side → IsBlocked g r p
blocked-reached g t r p room h reached offers l k = record {
  reviewers = reviewers_of t;
  proposals = t.reached;
  closed = reached.closed;
  inside = reached.has_proposals p k (eq-eqb p p refl);
  outside = le-ltb 0 (t.order r) (omega (arith, unreached-reviewer g t r p room h offers l));
}
