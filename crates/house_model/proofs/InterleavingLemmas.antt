-- In which order the lines of different reviewers arrive decides nothing.
use Rattle.std.proofs.Common.{◌≡◌, refl, sym, ap, ◌∙◌}
use Rattle.std.proofs.Math.Path.{fun_ext}
use Rattle.house_base.specs.Setting.{Setting}
use Rattle.peer_selection.specs.Profile.{Pairs, Points, Profile}
use Rattle.house_model.specs.declared.goal.Goal.TheVariants as goal
use Rattle.house_model.specs.Ending.{Ended}
use Rattle.house_model.specs.Interleaving.{AreInterleaved}
use Rattle.house_model.specs.Reviews.{asides_of, points_of, profile}
use Rattle.house_model.specs.Said.{setting, assigned, draw_of}
use Rattle.house_model.specs.Text.{Lines}
use Rattle.house_model.specs.Runs.{end_of, report_of}
use Rattle.house_model.proofs.AsideCountLemmas.{asides_of-interleaved}
use Rattle.house_model.proofs.DoneLemmas.{done-house, done-admitted}
use Rattle.house_model.proofs.HouseLineLemmas.{setting-same, assigned-same, draw_of-same}
use Rattle.house_model.proofs.KindLemmas.{points_of-interleaved}

module _ (a b : Lines) (h : AreInterleaved a b) where
  pub done-arrival : end_of goal.Run a ≡ Ended.Done → end_of goal.Run b ≡ Ended.Done
  done-arrival = done-house goal.Run a b h.same_house

  pub draw-arrival : draw_of b ≡ draw_of a
  draw-arrival = sym (draw_of-same a b h.same_house)

  pub profile-arrival : end_of goal.Run a ≡ Ended.Done → profile b ≡ profile a
  unfolding profile
  profile-arrival done =
      let points : points_of b ≡ points_of a =
      fun_ext (λ r. fun_ext (λ p. points_of-interleaved a b h (done-admitted a done) (done-admitted b (done-arrival done)) r p)) in
      let made : Setting → Pairs → Points → Profile = λ s pairs given. record { setting = s; pairs = pairs; points = given } in
      ap (λ s. made s (assigned goal.Run b) (points_of b)) (sym (setting-same a b h.same_house))
      ∙ (ap (λ pairs. made (setting a) pairs (points_of b)) (sym (assigned-same a b h.same_house goal.Run)) ∙ ap (made (setting a) (assigned goal.Run a)) points)

  pub asides-arrival : end_of goal.Run a ≡ Ended.Done → asides_of goal.Run b ≡ asides_of goal.Run a
  asides-arrival done =
      asides_of-interleaved goal.Run a b h (record { parts = refl; admitted = done-admitted a done })
      (record { parts = refl; admitted = done-admitted b (done-arrival done) })

  pub report-arrival : end_of goal.Run a ≡ Ended.Done → report_of b ≡ report_of a
  unfolding report_of
  report-arrival done =
      rw (profile-arrival done, asides-arrival done, draw-arrival) refl
