use Rattle.std.proofs.Common.{◌≡◌, ℕ, ◌+◌, ◌<◌, ◌≤◌, Bool, ◌&&◌, ◌||◌, eqb, ltb, get_or, Some, refl, ap, ◌∙◌, arith}
use Rattle.std.specs.List.{slice_get}
use Rattle.std.proofs.lemmas.Bool.Decides.{nat_tests}
use Rattle.house_base.specs.declared.plan.Person.{Person}
use Rattle.house_base.specs.Setting.{Setting, size, cluster_at}
use Rattle.house_base.proofs.Settings.{cluster_at-read}
use Rattle.peer_selection.specs.Counting.{count_below}
use Rattle.peer_selection.specs.Profile.{Profile, score, rank}
use Rattle.peer_selection.proofs.CountingLemmas.{one_if, count_below-add_one, count_below-same}
use Rattle.seat_quota.specs.Totals.{Shares, IsTotals}
use Rattle.rank_table.specs.Rank.{goes_before}

pub goes_before-read : (s : Setting) (scores : ℕ → ℕ) (rival place : ℕ) (a b : Person) (own other : ℕ) →
    slice_get s.people rival ≡ Some a → slice_get s.people place ≡ Some b → own ≡ scores place → other ≡ scores rival →
    goes_before s scores rival place ≡ (eqb a.cluster b.cluster && (ltb own other || (eqb other own && ltb rival place)))
goes_before-read s scores rival place a b own other at_rival at_place is_own is_other =
    rw (cluster_at-read s rival a at_rival, cluster_at-read s place b at_place, is_own, is_other) refl

pub before_then : (x y own other r p : ℕ) → x ≡ y → own < other → ltb own other ≡ (eqb x y && (ltb own other || (eqb other own && ltb r p)))
before_then x y own other r p e h = grind (arith, nat_tests)

pub before_tied : (x y own other r p : ℕ) → x ≡ y → other ≡ own → ltb r p ≡ (eqb x y && (ltb own other || (eqb other own && ltb r p)))
before_tied x y own other r p e h = grind (arith, nat_tests)

pub before_last : (x y own other r p : ℕ) → x ≡ y → other ≤ own → (other ≡ own → ⊥) → eqb other own ≡ (eqb x y && (ltb own other || (eqb other own && ltb r p)))
before_last x y own other r p e h ne = grind (arith, nat_tests)

pub before_else : (x y own other r p : ℕ) → (x ≡ y → ⊥) → eqb x y ≡ (eqb x y && (ltb own other || (eqb other own && ltb r p)))
before_else x y own other r p e = grind (arith, nat_tests)

-- those that go before an applicant by the scores of a profile give its rank
pub rank-counted : (f : Profile) (t : Shares) (place before : ℕ) → IsTotals f t → place < size f.setting →
    before ≡ count_below (λ q. goes_before f.setting (λ p. get_or t.scores p 0) q place) (size f.setting) → before + 1 ≡ rank f place
unfolding rank
rank-counted f t place before is l e =
    let same = count_below-same (λ q. goes_before f.setting (λ p. get_or t.scores p 0) q place) (λ q. goes_before f.setting (score f) q place) (size f.setting)
    (λ q ql. ap (λ x. eqb (cluster_at f.setting q) (cluster_at f.setting place) && (ltb (get_or t.scores place 0) x || (eqb x (get_or t.scores place 0) && ltb q place))) (is.score q ql)
    ∙ ap (λ x. eqb (cluster_at f.setting q) (cluster_at f.setting place) && (ltb x (score f q) || (eqb (score f q) x && ltb q place))) (is.score place l)) in
    omega (arith, same)

-- one more number, which passes a test or not
pub counted : (test : ℕ → Bool) (n before after : ℕ) (b : Bool) → test n ≡ b → before ≡ count_below test n → after ≡ before + one_if b → after ≡ count_below test (n + 1)
counted test n before after b h e f = omega (arith, count_below-add_one test n, ap one_if h)
