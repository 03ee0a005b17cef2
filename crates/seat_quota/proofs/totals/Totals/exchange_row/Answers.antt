use Rattle.std.proofs.Common.{◌*◌, ◌<◌, ◌∙◌, arith}
use Rattle.house_base.specs.declared.limits.TheConstants.{DOLLAR}
use Rattle.house_base.specs.Setting.{size}
use Rattle.seat_quota.proofs.ExchangeLemmas.{item, score-waits, score-exchanged, score-grown}
use Rattle.seat_quota.proofs.totals.Totals.exchange_row.Goals as goal

pub exchange-requires-clause-enough : goal.exchange-requires-clause-enough
exchange-requires-clause-enough c =
    let row = c.args.row.now in
    let i = c.loop-i.i in
    let inside : item row i < size c.args.plan.now = c.requires.places.below i 0 c.loop-i-test.true in
    let waits = score-waits row c.loop-i.self.scores c.args.self.now.scores c.args.before.now c.args.after.now i c.requires.places.differ c.loop-i-test.true (c.loop-i.invariant.scores (item row i) inside) in
    omega (arith, waits, c.requires.enough i c.loop-i-test.true)

pub loop-i-preserved : goal.loop-i-preserved
loop-i-preserved c =
    let n = size c.args.plan.now in
    let row = c.args.row.now in
    let i = c.loop-i.i in
    let inside : item row i < n = c.requires.places.below i 0 c.loop-i-test.true in
    let waits = score-waits row c.loop-i.self.scores c.args.self.now.scores c.args.before.now c.args.after.now i c.requires.places.differ c.loop-i-test.true (c.loop-i.invariant.scores (item row i) inside) in
    record {
      summed = c.exchange.ensures.summed;
      den = c.exchange.ensures.den ∙ c.loop-i.invariant.den;
      most = λ p pl. score-grown c.loop-i.self.scores c.exchange.new.self.scores c.args.self.now.scores (item row i) (item c.args.before.now i) (item c.args.after.now i) n (n * DOLLAR) p
          c.exchange.ensures.score (c.requires.few i c.loop-i-test.true) (omega (arith, waits, c.requires.most (item row i) inside)) c.loop-i.invariant.most c.exchange.ensures.others pl;
      scores = λ p pl. score-exchanged row c.loop-i.self.scores c.exchange.new.self.scores c.args.self.now.scores c.args.before.now c.args.after.now i n p
          c.requires.places.differ c.loop-i-test.true inside c.loop-i.invariant.scores c.exchange.ensures.score c.exchange.ensures.others pl;
    }
