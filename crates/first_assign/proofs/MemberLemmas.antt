use Rattle.std.proofs.Common.{◌≡◌, ℕ, ◌+◌, ◌-◌, ◌<◌, ◌≤◌, Bool, true, false, ◌&&◌, ◌||◌, not, cond, eqb, List, Some, is_some, slice_get, min, refl, sym, ap, ◌∙◌, inl, inr, arith}
use Rattle.std.proofs.lemmas.Bool.{cases_eq, eq-eqb, ne_eqb}
use Rattle.std.proofs.lemmas.Bool.Decides.{nat_tests}
use Rattle.std.proofs.lemmas.List.Elements.{All-get_or}
use Rattle.std.proofs.lemmas.Option.{get_or_from_slice_get, slice_get_within}
use Rattle.std.proofs.Math.Path.{subst}
use Rattle.house_base.specs.declared.plan.Person.{Person}
use Rattle.house_base.specs.declared.rows.TheConstants.{ROW_BITS}
use Rattle.house_base.specs.Grid.{cell}
use Rattle.house_base.specs.Rows.{has}
use Rattle.house_base.specs.Setting.{Setting, IsSetting, may, cluster_at, owner_from}
use Rattle.first_assign.specs.Members.{HasMembers, is_apart}

-- Rows of bits for clusters, place by place.

hit : (a b c old : Bool) → c ≡ true → old ≡ false → cond (a && c) true (cond (b && c) true old) ≡ (b || a)
hit true true c old e f = ap (λ x. cond (true && x) true (cond (true && x) true old)) e
hit true false c old e f = ap (λ x. cond (true && x) true (cond (false && x) true old)) e
hit false true c old e f = ap (λ x. cond (false && x) true (cond (true && x) true old)) e
hit false false c old e f = f

miss : (a b c old : Bool) → c ≡ false → cond (a && c) true (cond (b && c) true old) ≡ old
miss true true c old e = ap (λ x. cond (true && x) true (cond (true && x) true old)) e
miss true false c old e = ap (λ x. cond (true && x) true (cond (false && x) true old)) e
miss false true c old e = ap (λ x. cond (false && x) true (cond (true && x) true old)) e
miss false false c old e = refl

-- one place more, in the row of all and in the row of its cluster
pub members-next : (s : Setting) (n cluster : ℕ) (old mid new : List ℕ) → cluster_at s n ≡ cluster → n < ROW_BITS
    → ((k p : ℕ) → p < ROW_BITS → has mid k p ≡ cond (eqb k 0 && eqb p n) true (has old k p))
    → ((k p : ℕ) → p < ROW_BITS → has new k p ≡ cond (eqb k cluster && eqb p n) true (has mid k p))
    → HasMembers s n old → HasMembers s (n + 1) new
members-next s n cluster old mid new at within first second h =
    let both : (k p : ℕ) → p < ROW_BITS → has new k p ≡ cond (eqb k cluster && eqb p n) true (cond (eqb k 0 && eqb p n) true (has old k p))
    = λ k p pl. second k p pl ∙ ap (cond (eqb k cluster && eqb p n) true) (first k p pl) in
    record {
      before = λ k p pl. elim (cases_eq p n) [
        | inl same ↦
            both k p (omega (arith, pl))
            ∙ (hit (eqb k cluster) (eqb k 0) (eqb p n) (has old k p) (eq-eqb p n same) (h.behind k p (omega (arith, same)) (omega (arith, pl)))
            ∙ ap (λ c. eqb k 0 || eqb k c) (sym at ∙ ap (cluster_at s) (sym same)))
        | inr other ↦
            both k p (omega (arith, pl))
            ∙ (miss (eqb k cluster) (eqb k 0) (eqb p n) (has old k p) (ne_eqb p n other) ∙ h.before k p (omega (arith, pl, other)))
      ];
      behind = λ k p from pl.
          both k p pl ∙ (miss (eqb k cluster) (eqb k 0) (eqb p n) (has old k p) (ne_eqb p n (λ e. omega (arith, e, from))) ∙ h.behind k p (omega (arith, from)) pl);
    }

-- the cluster of an applicant is one of the call's
pub cluster-range : (s : Setting) (place : ℕ) (person : Person) → IsSetting s → slice_get s.people place ≡ Some person → (1 ≤ person.cluster) × (person.cluster ≤ s.clusters)
cluster-range s place person h at =
    subst (λ (p : Person). (1 ≤ p.cluster) × (p.cluster ≤ s.clusters)) (get_or_from_slice_get s.people place person person at)
    (All-get_or (λ p. (1 ≤ p.cluster) × (p.cluster ≤ s.clusters)) s.people place person (slice_get_within s.people place person at) h.clusters)

-- Who may be reviewed, from a person's first place and from another.

pub may-first : (s : Setting) (r p : ℕ) → is_some (owner_from s r) ≡ true → may s r p ≡ is_apart s r p
unfolding may
may-first s r p e = ap (λ b. b && not (eqb (cluster_at s r) (cluster_at s p)) && not (cell s.barred r p)) e

pub may-other : (s : Setting) (r p : ℕ) → is_some (owner_from s r) ≡ false → may s r p ≡ false
unfolding may
may-other s r p e = ap (λ b. b && not (eqb (cluster_at s r) (cluster_at s p)) && not (cell s.barred r p)) e

-- a bit that is left where two others are not
pub bit-without : (a b c d : ℕ) → a < 2 → b < 2 → c < 2 → d ≡ min (min a (1 - b)) (1 - c) → eqb d 1 ≡ (eqb a 1 && not (eqb b 1) && not (eqb c 1))
bit-without a b c d al bl cl e = grind (arith, nat_tests)
