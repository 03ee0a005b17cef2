use Rattle.std.proofs.Common.{◌≡◌, ℕ, Bool, refl, sym, ap, ◌∙◌, ◌<◌, ◌==◌, ◌&&◌, true, cond, arith, get_or, inl, inr, length}
use Rattle.std.proofs.lemmas.Bool.{cases_eq, eq-eqb, ne_eqb}
use Rattle.house_base.specs.Grid.{cell}
use Rattle.house_model.specs.Register.{names, persons, pair_among}
use Rattle.register_book.specs.Held.{text_at}
use Rattle.cluster_draw.proofs.BarredLemmas.{row_run, row_set, row_start, row_whole}
use Rattle.cluster_draw.proofs.conflicts.bar_person.Goals as goal

pub loop-number-init : goal.loop-number-init
loop-number-init c = record {
  from = omega arith;
  side = refl;
  as_many = refl;
  cells = λ r number rl nl. row_start (cell c.args.barred.now r (get_or c.args.places.now number 0))
      (λ n. pair_among c.args.book.now.barred (text_at (persons c.args.book.now) c.args.person) (text_at (names c.args.book.now) n)) c.args.first r number;
}

pub loop-number-preserved : goal.loop-number-preserved
loop-number-preserved c =
    let reg = c.args.book.now in
    let test : ℕ → Bool = λ n. pair_among reg.barred (text_at (persons reg) c.args.person) (text_at (names reg) n) in
    let places = c.args.places.now in
    let first = c.args.first in
    let from = c.loop-number.from in
    let here = c.in-Some.number in
    let place = c.from-place.result in
    let inside : here < length reg.applicants = c.in-Some.ensures.below in
    record {
      from = omega (arith, inside);
      side = c.set.ensures.side ∙ c.loop-number.invariant.side;
      as_many = c.set.ensures.as_many ∙ c.loop-number.invariant.as_many;
      cells = λ r number rl nl.
          let at = get_or places number 0 in
          let old = cell c.args.barred.now r at in
          let side = c.loop-number.invariant.side ∙ c.requires.side in
          let same : (at == place) ≡ (number == here) = elim (cases_eq number here) [
            | inl e ↦ eq-eqb at place (ap (λ n. get_or places n 0) e ∙ sym c.from-place.ensures) ∙ sym (eq-eqb number here e)
            | inr ne ↦ ne_eqb at place (λ e. ne (c.requires.places.differ number here nl inside (e ∙ c.from-place.ensures))) ∙ sym (ne_eqb number here ne)
          ] in
          c.set.ensures.cells r at (omega (arith, rl, side)) (omega (arith, c.requires.places.below number nl, side))
          ∙ (ap (λ b. cond (r == first && b) true (cell c.loop-number.barred r at)) same
          ∙ (ap (λ b. cond (r == first && number == here) true b)
          (c.loop-number.invariant.cells r number rl nl ∙ row_run old test first from here r number c.in-Some.ensures.from c.in-Some.ensures.before)
          ∙ row_set old test first here r number c.in-Some.ensures.barred));
    }

pub returns-clause-cells : goal.returns-clause-cells
returns-clause-cells c = λ r number rl nl.
    let reg = c.args.book.now in
    let test : ℕ → Bool = λ n. pair_among reg.barred (text_at (persons reg) c.args.person) (text_at (names reg) n) in
    let old = cell c.args.barred.now r (get_or c.args.places.now number 0) in
    let n = length reg.applicants in
    c.loop-number.invariant.cells r number rl nl
    ∙ (row_run old test c.args.first c.loop-number.from n r number c.loop-number.invariant.from c.in_default.ensures.none
    ∙ row_whole old test c.args.first n r number nl)
