use Rattle.std.proofs.Common.{◌≡◌, ◌+◌, ◌%◌, ◌++◌, sym, ap, ◌∙◌, arith, slice_get}
use Rattle.house_base.specs.Grid.{cell}
use Rattle.house_base.specs.Setting.{size}
use Rattle.review_desk.specs.Desk.{desk_profile}
use Rattle.slip_check.specs.Written.{spaced_cell}
use Rattle.slip_check.proofs.WriteLemmas.{cell_read, line_skipped, line_taken, lines_of, name_at-read, places_of_none, places_to, places_to-more, spaced_cells-all}
use Rattle.slip_check.proofs.write_ballot.push_cells.Goals as goal
use Rattle.slip_check.proofs.write_ballot.push_cells.Goals.{then-get+in_ok-push_cell, else-get}

pub loop-distance-init : goal.loop-distance-init
loop-distance-init c = places_of_none (desk_profile c.args.plan.now c.args.desk.now) c.args.reviewer c.args.out.now.items

pub loop-distance-preserved : goal.loop-distance-preserved
loop-distance-preserved c =
    let s = c.args.plan.now in
    let f = desk_profile s c.args.desk.now in
    let r = c.args.reviewer in
    let d = c.loop-distance.distance in
    let old = c.args.out.now.items in
    let now = c.loop-distance.out.items in
    let p = (r + 1 + d) % size s in
    let p_is : c.place_at-place.result ≡ p = c.place_at-place.ensures ∙ ap (λ n. (r + 1 + d) % n) c.count-count.ensures.value in
    let held : c.get.result ≡ f.pairs r p = c.get.ensures ∙ ap (λ g. cell g r c.place_at-place.result) c.grid.ensures ∙ ap (f.pairs r) p_is in
    elim c.if-get.branch [
      | then-get+in_ok-push_cell w ↦
          line_taken (spaced_cell f r) (f.pairs r) (places_to s r d) (places_to s r (d + 1)) p old now c.if-get.out.items c.loop-distance.invariant (places_to-more s r d)
          (sym held ∙ w.if-get.true)
          (ap (λ v. v.items) w.out-is ∙ w.in_ok-push_cell.ensures
          ∙ ap (λ t. now ++ t) (cell_read f r p w.points.result w.person.result.name (name_at-read s p w.person.result (sym (ap (slice_get s.people) p_is) ∙ w.person.ensures)) (w.points.ensures.value ∙ ap (f.points r) p_is)))
      | else-get w ↦
          ap (λ v. v.items) w.out-is
          ∙ line_skipped (spaced_cell f r) (f.pairs r) (places_to s r d) (places_to s r (d + 1)) p old now c.loop-distance.invariant (places_to-more s r d) (sym held ∙ w.if-get.false)
    ]

pub returns : goal.returns
returns c =
    let s = c.args.plan.now in
    let f = desk_profile s c.args.desk.now in
    let r = c.args.reviewer in
    let n : c.loop-distance.distance ≡ size s = omega (arith, c.loop-distance.auto.distance-end, c.count-count.ensures.value) in
    c.loop-distance.invariant
    ∙ ap (λ d. c.args.out.now.items ++ lines_of (spaced_cell f r) (f.pairs r) (places_to s r d)) n
    ∙ ap (λ t. c.args.out.now.items ++ t) (spaced_cells-all f r)
