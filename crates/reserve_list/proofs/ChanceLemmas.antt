-- Chances when some have withdrawn.
use Rattle.std.proofs.Common.{◌≡◌, ℕ, suc, ◌+◌, ◌-◌, ◌*◌, ◌<◌, ◌≤◌, Bool, true, false, not, ◌&&◌, eqb, ltb, leb, min, refl, sym, ap, ◌∙◌, inl, inr, arith}
use Rattle.std.proofs.lemmas.Bool.{and_from, and_left, and_parts, cases_Bool, eqb-true, le-leb, leb-true}
use Rattle.house_base.specs.Setting.{cluster_at, size}
use Rattle.peer_selection.specs.Laws.{IsAssigned, IsInClusterOf, with_points}
use Rattle.peer_selection.specs.Lottery.{chance, seats, selected}
use Rattle.peer_selection.specs.Profile.{Points, Profile, cluster_size, denominator, quota, rank}
use Rattle.peer_selection.proofs.ChanceLemmas.{seats-exceed}
use Rattle.peer_selection.proofs.ClusterLemmas.{cluster_at-in_range, cumulative_quota-all, denominator-positive}
use Rattle.peer_selection.proofs.CountingLemmas.{count_below-mono, count_below-none, count_below-same}
use Rattle.peer_selection.proofs.ImpartialLemmas.{quota-same, rank-same}
use Rattle.peer_selection.proofs.PointLemmas.{given}
use Rattle.peer_selection.proofs.SelectionLemmas.{rank-apart, rank-within}
use Rattle.reserve_list.specs.Laws.{AgreeBeside, MoreHaveGone}
use Rattle.reserve_list.specs.Reserve.{Withdrawn, chance_after, empty_after, gone_ahead, holds_after, is_ahead, reserve_rank}
use Rattle.reserve_list.proofs.StandingLemmas.{AreRanked, rank-stay}

-- The ranks of a profile.

pub ranked-profile : (f : Profile) → AreRanked (cluster_at f.setting) (rank f) (size f.setting)
unfolding cluster_size
ranked-profile f = record {
  within = λ i l. rank-within f i l;
  differ = λ i k il kl e r. rank-apart f i k (record { first = il; second = kl; cluster = e }) r;
}

pub reserve_rank-some : (f : Profile) (gone : Withdrawn) (p : ℕ) → p < size f.setting → 1 ≤ reserve_rank f gone p
unfolding reserve_rank
reserve_rank-some f gone p l = omega (arith, rank-stay (cluster_at f.setting) (rank f) (size f.setting) (ranked-profile f) gone p l)

-- Exactly.

pub chance_after-gone : (f : Profile) (gone : Withdrawn) (p : ℕ) → gone p ≡ true → chance_after f gone p ≡ 0
unfolding chance_after holds_after
chance_after-gone f gone p h =
    count_below-none (λ v. not (gone p) && leb (reserve_rank f gone p) (seats f (cluster_at f.setting p) v)) (denominator f.setting)
    (λ v _. and_left (not (gone p)) (leb (reserve_rank f gone p) (seats f (cluster_at f.setting p) v)) (ap not h))

pub chance_after-stays : (f : Profile) (gone : Withdrawn) (p : ℕ) → IsAssigned f → p < size f.setting → gone p ≡ false
    → chance_after f gone p ≡ min (denominator f.setting) (quota f (cluster_at f.setting p) - (reserve_rank f gone p - 1) * denominator f.setting)
unfolding chance_after holds_after
chance_after-stays f gone p h l stays =
    let step = denominator f.setting in
    let j = cluster_at f.setting p in
    let r = reserve_rank f gone p in
    let range = cluster_at-in_range f.setting p h.setting l in
    let at : j - 1 + 1 ≡ j = omega (arith, range.0) in
    let better : suc (r - 1) ≡ r = omega (arith, reserve_rank-some f gone p l) in
    count_below-same (λ v. not (gone p) && leb r (seats f j v)) (λ v. ltb (r - 1) (seats f (j - 1 + 1) v)) step
    (λ v _. ap (λ g. not g && leb r (seats f j v)) stays ∙ ap (λ x. leb x (seats f j v)) (sym better) ∙ ap (λ x. leb (suc (r - 1)) (seats f x v)) (sym at))
    ∙ seats-exceed f f.setting.clusters (j - 1) (r - 1) (denominator-positive f h.setting) (cumulative_quota-all f h.setting h.valid) (omega (arith, range.0, range.1))
    ∙ ap (λ x. min step (quota f x - (r - 1) * step)) at

-- More withdraw.

gone_ahead-le : (f : Profile) (gone more : Withdrawn) (p : ℕ) → MoreHaveGone f gone more
    → gone_ahead (cluster_at f.setting) (rank f) gone (size f.setting) p ≤ gone_ahead (cluster_at f.setting) (rank f) more (size f.setting) p
unfolding gone_ahead
gone_ahead-le f gone more p all =
    let ahead = λ (k : ℕ). is_ahead (cluster_at f.setting) (rank f) k p in
    count_below-mono (λ k. gone k && ahead k) (λ k. more k && ahead k) (size f.setting)
    (λ k kl h. let both = and_parts (gone k) (ahead k) h in and_from (more k) (ahead k) (all k kl both.0) both.1)

pub holds-more : (f : Profile) (gone more : Withdrawn) (p v : ℕ) → MoreHaveGone f gone more → more p ≡ false → holds_after f gone p v ≡ true → holds_after f more p v ≡ true
unfolding holds_after reserve_rank
holds-more f gone more p v all stays h =
    let room = seats f (cluster_at f.setting p) v in
    let ahead = λ (g : Withdrawn). gone_ahead (cluster_at f.setting) (rank f) g (size f.setting) p in
    let within = leb-true (rank f p - ahead gone) room (and_parts (not (gone p)) (leb (rank f p - ahead gone) room) h).1 in
    and_from (not (more p)) (leb (rank f p - ahead more) room) (ap not stays) (le-leb (rank f p - ahead more) room (omega (arith, within, gone_ahead-le f gone more p all)))

pub chance-more : (f : Profile) (gone more : Withdrawn) (p : ℕ) → MoreHaveGone f gone more → more p ≡ false → chance_after f gone p ≤ chance_after f more p
unfolding chance_after
chance-more f gone more p all stays = count_below-mono (holds_after f gone p) (holds_after f more p) (denominator f.setting) (λ v _ h. holds-more f gone more p v all stays h)

-- Others withdraw.

ahead_same : (member : Bool) (less x y : Bool) → (member ≡ true → x ≡ y) → (x && (member && less)) ≡ (y && (member && less))
ahead_same true less x y h = ap (λ b. b && less) (h refl)
ahead_same false less true true h = refl
ahead_same false less true false h = refl
ahead_same false less false true h = refl
ahead_same false less false false h = refl

reserve_rank-agree : (f : Profile) (gone other : Withdrawn) (p : ℕ) → AgreeBeside f p gone other → reserve_rank f gone p ≡ reserve_rank f other p
unfolding reserve_rank gone_ahead
reserve_rank-agree f gone other p agree =
    let ahead = λ (k : ℕ). is_ahead (cluster_at f.setting) (rank f) k p in
    ap (λ x. rank f p - x) (count_below-same (λ k. gone k && ahead k) (λ k. other k && ahead k) (size f.setting)
    (λ k kl. ahead_same (eqb (cluster_at f.setting k) (cluster_at f.setting p)) (ltb (rank f k) (rank f p)) (gone k) (other k) (λ e. agree k kl (eqb-true (cluster_at f.setting k) (cluster_at f.setting p) e))))

pub chance-agree : (f : Profile) (gone other : Withdrawn) (p : ℕ) → p < size f.setting → AgreeBeside f p gone other → chance_after f gone p ≡ chance_after f other p
unfolding chance_after holds_after
chance-agree f gone other p l agree =
    let room = seats f (cluster_at f.setting p) in
    count_below-same (λ v. not (gone p) && leb (reserve_rank f gone p) (room v)) (λ v. not (other p) && leb (reserve_rank f other p) (room v)) (denominator f.setting)
    (λ v _. ap (λ g. not g && leb (reserve_rank f gone p) (room v)) (agree p l refl) ∙ ap (λ r. not (other p) && leb r (room v)) (reserve_rank-agree f gone other p agree))

reserve_rank-nobody : (f : Profile) (p : ℕ) → reserve_rank f (λ q. false) p ≡ rank f p
unfolding reserve_rank gone_ahead
reserve_rank-nobody f p =
    let none = count_below-none (λ k. false && is_ahead (cluster_at f.setting) (rank f) k p) (size f.setting) (λ k _. refl) in
    omega (arith, none)

chance-nobody : (f : Profile) (p : ℕ) → chance_after f (λ q. false) p ≡ chance f p
unfolding chance_after holds_after chance selected
chance-nobody f p =
    count_below-same (λ v. leb (reserve_rank f (λ q. false) p) (seats f (cluster_at f.setting p) v)) (λ v. leb (rank f p) (seats f (cluster_at f.setting p) v)) (denominator f.setting)
    (λ v _. ap (λ r. leb r (seats f (cluster_at f.setting p) v)) (reserve_rank-nobody f p))

pub chance-untouched : (f : Profile) (gone : Withdrawn) (p : ℕ) → p < size f.setting → AgreeBeside f p gone (λ q. false) → chance_after f gone p ≡ chance f p
chance-untouched f gone p l agree = chance-agree f gone (λ q. false) p l agree ∙ chance-nobody f p

-- Other points.

ahead_by : (member : Bool) (a b x y : ℕ) → (member ≡ true → a ≡ b) → x ≡ y → (member && ltb a x) ≡ (member && ltb b y)
ahead_by true a b x y h e = ap (λ z. ltb z x) (h refl) ∙ ap (ltb b) e
ahead_by false a b x y h e = refl

reserve_rank-points : (f : Profile) (points : Points) (gone : Withdrawn) (p : ℕ) → p < size f.setting
    → ((q : ℕ) → q < size f.setting → cluster_at f.setting q ≡ cluster_at f.setting p → rank (given f points) q ≡ rank f q)
    → reserve_rank (given f points) gone p ≡ reserve_rank f gone p
unfolding reserve_rank gone_ahead
reserve_rank-points f points gone p l ranks =
    let g = given f points in
    let s = f.setting in
    let own = ranks p l refl in
    let same = count_below-same (λ k. gone k && is_ahead (cluster_at s) (rank g) k p) (λ k. gone k && is_ahead (cluster_at s) (rank f) k p) (size s)
    (λ k kl. ap (λ b. gone k && b) (ahead_by (eqb (cluster_at s k) (cluster_at s p)) (rank g k) (rank f k) (rank g p) (rank f p) (λ e. ranks k kl (eqb-true (cluster_at s k) (cluster_at s p) e)) own)) in
    omega (arith, own, same)

-- points that leave the ranks in a cluster and its quota leave each chance there
pub chance-points : (f : Profile) (points : Points) (gone : Withdrawn) (p : ℕ) → IsAssigned f → p < size f.setting
    → ((q : ℕ) → q < size f.setting → cluster_at f.setting q ≡ cluster_at f.setting p → rank (given f points) q ≡ rank f q)
    → quota (given f points) (cluster_at f.setting p) ≡ quota f (cluster_at f.setting p)
    → chance_after (given f points) gone p ≡ chance_after f gone p
chance-points f points gone p h l ranks quotas =
    let g = given f points in
    let step = denominator f.setting in
    let assigned : IsAssigned g = record { setting = h.setting; valid = h.valid } in
    elim (cases_Bool (gone p)) [
      | inl left ↦ chance_after-gone g gone p left ∙ sym (chance_after-gone f gone p left)
      | inr stays ↦
          chance_after-stays g gone p assigned l stays
          ∙ ap (λ x. min step (x - (reserve_rank g gone p - 1) * step)) quotas
          ∙ ap (λ x. min step (quota f (cluster_at f.setting p) - (x - 1) * step)) (reserve_rank-points f points gone p l ranks)
          ∙ sym (chance_after-stays f gone p h l stays)
    ]

pub chance-other_points : (f : Profile) (gone : Withdrawn) (reviewer p : ℕ) (points : ℕ → ℕ) → IsAssigned f → IsInClusterOf f reviewer p → chance_after (with_points f reviewer points) gone p ≡ chance_after f gone p
chance-other_points f gone reviewer p points h own =
    chance-points f (with_points f reviewer points).points gone p h own.0
    (λ q ql e. rank-same f reviewer points h q (ql, e ∙ own.1))
    (ap (quota (with_points f reviewer points)) own.1 ∙ quota-same f reviewer points h ∙ sym (ap (quota f) own.1))

-- Tests that agree everywhere.

pub holds-agree : (f : Profile) (gone other : Withdrawn) (p v : ℕ) → p < size f.setting → AgreeBeside f p gone other → holds_after f gone p v ≡ holds_after f other p v
unfolding holds_after
holds-agree f gone other p v l agree =
    let room = seats f (cluster_at f.setting p) v in
    ap (λ g. not g && leb (reserve_rank f gone p) room) (agree p l refl) ∙ ap (λ r. not (other p) && leb r room) (reserve_rank-agree f gone other p agree)

pub empty-agree : (f : Profile) (gone other : Withdrawn) (v : ℕ) → ((q : ℕ) → q < size f.setting → gone q ≡ other q) → empty_after f gone v ≡ empty_after f other v
unfolding empty_after
empty-agree f gone other v agree =
    ap (λ x. f.setting.seats - x) (count_below-same (λ p. holds_after f gone p v) (λ p. holds_after f other p v) (size f.setting) (λ p l. holds-agree f gone other p v l (λ q ql e. agree q ql)))
