use Rattle.std.proofs.Common.{◌≡◌, ℕ, ◌+◌, ◌*◌, ◌<◌, get_or, refl, sym, ap, ◌∙◌, arith}
use Rattle.review_desk.specs.Desk.{desk_profile}
use Rattle.peer_selection.specs.Profile.{denominator}
use Rattle.seat_quota.proofs.TotalLemmas.{score-most, cluster_cents-from, clusters-whole}
use Rattle.seat_quota.proofs.totals.Totals.of_rows.Goals as goal

pub cluster_sums-requires-clause-most : goal.cluster_sums-requires-clause-most
cluster_sums-requires-clause-most c =
    let f = desk_profile c.args.plan.now c.args.desk.now in
    λ p l. omega (arith, ap (λ xs. get_or xs p 0) c.deref.ensures.value, c.in_ok-scores.ensures.value p l, score-most f p l)

pub returns-clause-held : goal.returns-clause-held
unfolding denominator
returns-clause-held c =
    let f = desk_profile c.args.plan.now c.args.desk.now in
    let scores = c.deref.result.now in
    let is = λ (j : ℕ) (l : j < c.args.plan.now.clusters). c.in_ok-clusters.ensures.value j l
    ∙ cluster_cents-from f scores (j + 1) (λ p pl. ap (λ xs. get_or xs p 0) c.deref.ensures.value ∙ c.in_ok-scores.ensures.value p pl) in
    let den : c.from.result * c.from-2.result ≡ denominator c.args.plan.now = rw (c.from.ensures, c.from-2.ensures, c.owners.ensures.value) refl in
    record {
      scores = c.in_ok-scores.ensures.len;
      clusters = c.in_ok-clusters.ensures.len;
      den = den;
      whole = clusters-whole f c.in_ok-clusters.clusters.items c.requires.desk.setting c.requires.desk.valid is ∙ sym den;
    }

pub returns-clause-whole : goal.returns-clause-whole
unfolding denominator
returns-clause-whole c =
    let f = desk_profile c.args.plan.now c.args.desk.now in
    let is = λ (j : ℕ) (l : j < c.args.plan.now.clusters). c.in_ok-clusters.ensures.value j l
    ∙ cluster_cents-from f c.deref.result.now (j + 1) (λ p pl. ap (λ xs. get_or xs p 0) c.deref.ensures.value ∙ c.in_ok-scores.ensures.value p pl) in
    let den : c.from.result * c.from-2.result ≡ denominator c.args.plan.now = rw (c.from.ensures, c.from-2.ensures, c.owners.ensures.value) refl in
    clusters-whole f c.in_ok-clusters.clusters.items c.requires.desk.setting c.requires.desk.valid is ∙ sym den

pub returns-clause-value : goal.returns-clause-value
returns-clause-value c =
    let f = desk_profile c.args.plan.now c.args.desk.now in
    let scores = c.deref.result.now in
    record {
      score = c.in_ok-scores.ensures.value;
      cents = λ j l. c.in_ok-clusters.ensures.value j l
          ∙ cluster_cents-from f scores (j + 1) (λ p pl. ap (λ xs. get_or xs p 0) c.deref.ensures.value ∙ c.in_ok-scores.ensures.value p pl);
    }
