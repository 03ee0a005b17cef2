use Rattle.std.proofs.Common.{◌≡◌, ℕ, ◌+◌, ◌-◌, ◌*◌, ◌/◌, ◌%◌, ◌<◌, min, ap, ◌∙◌, inl, inr, arith}
use Rattle.std.proofs.lemmas.Bool.{cases_lt}
use Rattle.std.proofs.lemmas.Nat.{div_below, div-mul-add}
use Rattle.peer_selection.proofs.MarkLemmas.{marks-below}
use Rattle.seat_lottery.proofs.marks_below.Goals as goal

-- a quotient, rounded up
rounded_up : (x den : ℕ) → 0 < den → (x + (den - 1)) / den ≡ x / den + min 1 (x % den)
rounded_up x den h =
    elim (cases_lt 0 (x % den)) [
      | inl some ↦
          ap (λ y. y / den) (let e : x + (den - 1) ≡ (x / den + 1) * den + (x % den - 1) = omega arith in e)
          ∙ (div-mul-add (x / den + 1) den (x % den - 1) (omega arith) ∙ (let e : x / den + 1 ≡ x / den + min 1 (x % den) = omega arith in e))
      | inr none ↦
          ap (λ y. y / den) (let e : x + (den - 1) ≡ x / den * den + (den - 1) = omega arith in e)
          ∙ (div-mul-add (x / den) den (den - 1) (omega arith) ∙ (let e : x / den ≡ x / den + min 1 (x % den) = omega arith in e))
    ]

-- the marks below an end, counted from the draw on
from_draw : (end den draw : ℕ) → draw < den → (end - draw) / den + min 1 ((end - draw) % den) ≡ (end + (den - 1 - draw)) / den
from_draw end den draw h =
    let up = rounded_up (end - draw) den (omega arith) in
    elim (cases_lt draw end) [
      | inl past ↦ let same = ap (λ y. y / den) (let e : end - draw + (den - 1) ≡ end + (den - 1 - draw) = omega arith in e) in omega (arith, up, same)
      | inr short ↦
          let none : (end + (den - 1 - draw)) / den < 1 = div_below (end + (den - 1 - draw)) den 1 (omega arith) (omega arith) in
          let nothing : (end - draw + (den - 1)) / den < 1 = div_below (end - draw + (den - 1)) den 1 (omega arith) (omega arith) in
          omega (arith, up, none, nothing)
    ]

pub returns : goal.returns
returns c =
    let counted = ap (λ x. x / c.args.den + min 1 (x % c.args.den)) (let e : c.saturating_sub.result ≡ c.args.end - c.args.draw = omega arith in e) in
    let result_is : c.div_ceil.result ≡ c.saturating_sub.result / c.args.den + min 1 (c.saturating_sub.result % c.args.den) = omega arith in
    result_is ∙ (counted ∙ (from_draw c.args.end c.args.den c.args.draw c.requires ∙ marks-below c.args.end c.args.den c.args.draw c.requires))
