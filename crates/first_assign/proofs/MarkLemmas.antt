use Rattle.std.proofs.Common.{◌≡◌, ◌≢◌, ℕ, ◌+◌, ◌<◌, Bool, true, false, ◌&&◌, ◌||◌, ◌==◌, cond, List, [], map, take, Contains, IsTrue, bytes_eq, Some, slice_get, refl, sym, ap, ◌∙◌, inl, inr, arith}
use Rattle.std.specs.List.{list_any}
use Rattle.std.proofs.lemmas.Bool.{cases_eq, cases_order, eq-eqb, ne_eqb}
use Rattle.std.proofs.lemmas.List.{length-map}
use Rattle.std.proofs.lemmas.List.Folds.{list_any_more}
use Rattle.std.proofs.lemmas.Option.{slice_get_within, get_or_from_slice_get}
use Rattle.house_base.specs.Name.{is_name}
use Rattle.house_base.specs.declared.plan.Owner.{Owner}
use Rattle.house_base.specs.Setting.{Setting, IsSetting, size, names_of, name_at}
use Rattle.house_base.proofs.Settings.{owner_from-first}
use Rattle.house_base.specs.Text.{Text}
use Rattle.house_base.proofs.InOrderLemmas.{In-from_Contains, InOrder-from_AllPairs, same_element}
use Rattle.house_base.proofs.AmongLemmas.{bytes_eq-same, bytes_eq-other}
use Rattle.house_model.specs.Register.{name_pair, pair_among, reviewer_at}
use Rattle.house_model.proofs.ReviewerLemmas.{cases_owner, reviewer_at-some, reviewer_at-none, no_name, name_at-slice_get}

-- A person and a proposal by their names: where one more pair is marked.

-- a person's name is at its first place alone
pub reviewer_found : (s : Setting) (o : Owner) → IsSetting s → Contains s.owners o → IsTrue (is_name o.name) → (r : ℕ) → (r == o.first) ≡ bytes_eq o.name (reviewer_at s r)
reviewer_found s o h c formed r = elim (cases_eq r o.first) [
  | inl e ↦
      eq-eqb r o.first e
      ∙ sym (bytes_eq-same o.name (reviewer_at s r) (sym (ap (reviewer_at s) e ∙ reviewer_at-some s o.first o (owner_from-first s o h c))))
  | inr ne ↦
      ne_eqb r o.first ne
      ∙ sym (bytes_eq-other o.name (reviewer_at s r) (λ e. elim (cases_owner s r) [
        | inl some ↦
            let same = same_element (λ owner. owner.name) s.owners o some.0 (InOrder-from_AllPairs (λ a b. a ≢ b) (map (λ owner. owner.name) s.owners) h.owners_differ)
            (In-from_Contains o s.owners c) (In-from_Contains some.0 s.owners some.1) (e ∙ reviewer_at-some s r some.0 some.3) in
            ne (sym (ap (λ w. w.first) same ∙ some.2))
        | inr none ↦ no_name o.name formed (e ∙ reviewer_at-none s r none)
      ]))
]

-- an applicant's name is at its place alone
pub proposal_found : (s : Setting) (place : ℕ) → IsSetting s → place < size s → (p : ℕ) → p < size s → (p == place) ≡ bytes_eq (name_at s place) (name_at s p)
proposal_found s place h placed p l =
    let here = get_or_from_slice_get (names_of s) place (name_at s place) [] (name_at-slice_get s place placed) in
    let there = get_or_from_slice_get (names_of s) p (name_at s p) [] (name_at-slice_get s p l) in
    let many = length-map s.people (λ person. person.name) in
    elim (cases_order p place) [
      | inl same ↦ eq-eqb p place same ∙ sym (bytes_eq-same (name_at s place) (name_at s p) (ap (name_at s) (sym same)))
      | inr other ↦ elim other [
        | inl less ↦ ne_eqb p place (λ same. omega arith)
            ∙ sym (bytes_eq-other (name_at s place) (name_at s p) (λ f. h.names_differ p place [] less (omega (arith, placed, many)) (there ∙ (sym f ∙ sym here))))
        | inr more ↦ ne_eqb p place (λ same. omega arith)
            ∙ sym (bytes_eq-other (name_at s place) (name_at s p) (λ f. h.names_differ place p [] more (omega (arith, l, many)) (here ∙ (f ∙ sym there))))
      ]
    ]

-- One more pair.

pub marked : (old a b c d : Bool) → a ≡ c → b ≡ d → cond (a && b) true old ≡ (old || (c && d))
marked old a b c d e f = ap (λ x. cond (x && b) true old) e ∙ (ap (λ x. cond (c && x) true old) f ∙ either old (c && d))
  where
    either : (x y : Bool) → cond y true x ≡ (x || y)
    either true true = refl
    either true false = refl
    either false true = refl
    either false false = refl

pub name_pair-none : (s : Setting) (r p : ℕ) → name_pair [] s r p ≡ false
unfolding name_pair pair_among
name_pair-none s r p = refl

pub name_pair-more : (ps : List (Text × Text)) (i : ℕ) (x : Text × Text) (s : Setting) (r p : ℕ) → slice_get ps i ≡ Some x
    → name_pair (take (i + 1) ps) s r p ≡ (name_pair (take i ps) s r p || (bytes_eq x.0 (reviewer_at s r) && bytes_eq x.1 (name_at s p)))
unfolding name_pair pair_among
name_pair-more ps i x s r p at =
    list_any_more (λ q. bytes_eq q.0 (reviewer_at s r) && bytes_eq q.1 (name_at s p)) ps i x (slice_get_within ps i x at)
    ∙ ap (λ q. list_any (λ w. bytes_eq w.0 (reviewer_at s r) && bytes_eq w.1 (name_at s p)) (take i ps) || (bytes_eq q.0 (reviewer_at s r) && bytes_eq q.1 (name_at s p)))
    (get_or_from_slice_get ps i x x at)
