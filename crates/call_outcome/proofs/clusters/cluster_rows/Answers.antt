use Rattle.std.proofs.Common.{◌≡◌, ℕ, ◌+◌, ◌-◌, ◌*◌, ◌<◌, ◌≤◌, min, List, [], ◌∷◌, length, map, get_or, sym, ap, subst, ◌∙◌, arith, length-append, All}
use Rattle.house_base.specs.declared.limits.TheConstants.{MOST_SEATS}
use Rattle.peer_selection.specs.Counting.{sum_below, numbers_below}
use Rattle.peer_selection.specs.Profile.{cluster_size, profile_on}
use Rattle.peer_selection.proofs.CountingLemmas.{sum_below-zero, sum_below-add_one}
use Rattle.house_model.specs.declared.outcome.ClusterRow.{ClusterRow}
use Rattle.house_model.specs.Report.{cluster_row, cluster_rows_of}
use Rattle.std.proofs.lemmas.List.Elements.{All-push}
use Rattle.peer_selection.specs.Profile.{denominator}
use Rattle.peer_selection.proofs.CountingLemmas.{count_below-le}
use Rattle.peer_selection.specs.Marks.{marks, is_marked}
use Rattle.peer_selection.proofs.MarkLemmas.{marks-settled}
use Rattle.call_outcome.proofs.OutcomeLemmas.{quotas-within, line-fits, row_with, cluster_row-from, rows_more}
use Rattle.call_outcome.proofs.clusters.cluster_rows.Goals as goal

pub loop-index-init : goal.loop-index-init
unfolding numbers_below
loop-index-init c =
    let line = λ (j : ℕ). get_or c.args.totals.now.clusters j 0 in
    record {
      before = omega (arith, ap (λ x. c.call-call.result.seats * x) (sum_below-zero line));
      filled = rw c.new-rows.ensures.items (λ k d l. absurd (omega arith));
      len = ap length c.new-rows.ensures.items;
      value = λ pairs points is. c.new-rows.ensures.items;
    }

pub overflow_mul-quota : goal.overflow_mul-quota
overflow_mul-quota c =
    let s = c.args.plan.now in
    let t = c.args.totals.now in
    let i = c.loop-index.index in
    let line = λ (j : ℕ). get_or t.clusters j 0 in
    let inside : i < s.clusters = omega (arith, c.loop-index-test.true, c.call-call.ensures.clusters) in
    let back : i + 1 - 1 ≡ i = omega arith in
    let cents_is : c.cluster_cents-cents.result ≡ get_or t.clusters i 0 = c.cluster_cents-cents.ensures ∙ ap line back in
    let seats_is : c.from.result ≡ s.seats = c.from.ensures ∙ c.call-call.ensures.seats in
    let quota_is : c.from.result * c.cluster_cents-cents.result ≡ s.seats * get_or t.clusters i 0 = ap (λ x. x * c.cluster_cents-cents.result) seats_is ∙ ap (λ x. s.seats * x) cents_is in
    let before_is : c.loop-index.before ≡ s.seats * sum_below line i = c.loop-index.invariant.before ∙ ap (λ x. x * sum_below line i) c.call-call.ensures.seats in
    let within = quotas-within s t i c.requires.totals inside in
    let fits = line-fits s c.requires.setting in
    omega (arith, quota_is, within, fits)

pub seats-seats-requires-clause-end : goal.seats-seats-requires-clause-end
seats-seats-requires-clause-end c =
    let s = c.args.plan.now in
    let t = c.args.totals.now in
    let i = c.loop-index.index in
    let line = λ (j : ℕ). get_or t.clusters j 0 in
    let inside : i < s.clusters = omega (arith, c.loop-index-test.true, c.call-call.ensures.clusters) in
    let back : i + 1 - 1 ≡ i = omega arith in
    let cents_is : c.cluster_cents-cents.result ≡ get_or t.clusters i 0 = c.cluster_cents-cents.ensures ∙ ap line back in
    let seats_is : c.from.result ≡ s.seats = c.from.ensures ∙ c.call-call.ensures.seats in
    let quota_is : c.from.result * c.cluster_cents-cents.result ≡ s.seats * get_or t.clusters i 0 = ap (λ x. x * c.cluster_cents-cents.result) seats_is ∙ ap (λ x. s.seats * x) cents_is in
    let before_is : c.loop-index.before ≡ s.seats * sum_below line i = c.loop-index.invariant.before ∙ ap (λ x. x * sum_below line i) c.call-call.ensures.seats in
    let within = quotas-within s t i c.requires.totals inside in
    let fits = line-fits s c.requires.setting in
    omega (arith, before_is, quota_is, within, fits)

pub overflow_add-before : goal.overflow_add-before
overflow_add-before c =
    let s = c.args.plan.now in
    let t = c.args.totals.now in
    let i = c.loop-index.index in
    let line = λ (j : ℕ). get_or t.clusters j 0 in
    let inside : i < s.clusters = omega (arith, c.loop-index-test.true, c.call-call.ensures.clusters) in
    let back : i + 1 - 1 ≡ i = omega arith in
    let cents_is : c.cluster_cents-cents.result ≡ get_or t.clusters i 0 = c.cluster_cents-cents.ensures ∙ ap line back in
    let seats_is : c.from.result ≡ s.seats = c.from.ensures ∙ c.call-call.ensures.seats in
    let quota_is : c.from.result * c.cluster_cents-cents.result ≡ s.seats * get_or t.clusters i 0 = ap (λ x. x * c.cluster_cents-cents.result) seats_is ∙ ap (λ x. s.seats * x) cents_is in
    let before_is : c.loop-index.before ≡ s.seats * sum_below line i = c.loop-index.invariant.before ∙ ap (λ x. x * sum_below line i) c.call-call.ensures.seats in
    let within = quotas-within s t i c.requires.totals inside in
    let fits = line-fits s c.requires.setting in
    omega (arith, before_is, quota_is, within, fits)

pub loop-index-preserved : goal.loop-index-preserved
loop-index-preserved c =
    let s = c.args.plan.now in
    let t = c.args.totals.now in
    let i = c.loop-index.index in
    let line = λ (j : ℕ). get_or t.clusters j 0 in
    let inside : i < s.clusters = omega (arith, c.loop-index-test.true, c.call-call.ensures.clusters) in
    let back : i + 1 - 1 ≡ i = omega arith in
    let cents_is : c.cluster_cents-cents.result ≡ get_or t.clusters i 0 = c.cluster_cents-cents.ensures ∙ ap line back in
    let seats_is : c.from.result ≡ s.seats = c.from.ensures ∙ c.call-call.ensures.seats in
    let quota_is : c.from.result * c.cluster_cents-cents.result ≡ s.seats * get_or t.clusters i 0 = ap (λ x. x * c.cluster_cents-cents.result) seats_is ∙ ap (λ x. s.seats * x) cents_is in
    let before_is : c.loop-index.before ≡ s.seats * sum_below line i = c.loop-index.invariant.before ∙ ap (λ x. x * sum_below line i) c.call-call.ensures.seats in
    let within = quotas-within s t i c.requires.totals inside in
    let fits = line-fits s c.requires.setting in
    let quota = c.from.result * c.cluster_cents-cents.result in
    let before = c.loop-index.before in
    let row = row_with c.cluster_cents-cents.result quota c.seats-seats.result c.min-filled.result in
    let den_is : c.denominator-den.result ≡ denominator s = c.denominator-den.ensures ∙ c.requires.totals.den in
    let covered : before + quota ≤ c.args.draw + s.seats * c.denominator-den.result = omega (arith, before_is, quota_is, within, ap (λ x. s.seats * x) den_is) in
    let some : 1 ≤ c.denominator-den.result = omega (arith, den_is, c.requires.draw) in
    let counted_seats = c.seats-seats.ensures.counted ∙ marks-settled before quota c.denominator-den.result c.args.draw s.seats some covered in
    let seats_are = c.seats-seats.ensures.counted ∙ ap (λ d. marks before quota d c.args.draw) den_is in
    let few : c.seats-seats.result ≤ MOST_SEATS = omega (arith, counted_seats, count_below-le (is_marked before quota c.denominator-den.result c.args.draw) s.seats, c.requires.setting.seats_in_range.1) in
    let filled_are : c.min-filled.result ≡ min c.seats-seats.result (cluster_size s (i + 1)) = c.min-filled.ensures ∙ ap (min c.seats-seats.result) (c.from-in-loop-index.ensures ∙ c.cluster_size.ensures) in
    let pushed = c.in_ok-push.ensures.items in
    let P : ClusterRow → Type 0 = λ row. (row.filled ≤ row.seats) × (row.seats ≤ MOST_SEATS) in
    let Q : List ClusterRow → Type 0 = λ rows. All P rows in
    let small : c.min-filled.result ≤ c.seats-seats.result = omega (arith, filled_are) in
    record {
      before = omega (arith, c.loop-index.invariant.before, quota_is, ap (λ x. x * get_or t.clusters i 0) c.call-call.ensures.seats, ap (λ x. c.call-call.result.seats * x) (sum_below-add_one line i));
      filled = subst Q (sym pushed) (All-push P c.loop-index.rows.items row c.loop-index.invariant.filled (small, few));
      len = ap length pushed ∙ (length-append c.loop-index.rows.items (row ∷ []) ∙ ap (λ n. n + 1) c.loop-index.invariant.len);
      value = λ pairs points is.
          let f = profile_on s pairs points in
          rows_more (λ i. cluster_row f c.args.draw (i + 1)) i c.loop-index.rows.items c.push.new.self.items row (c.loop-index.invariant.value pairs points is)
          (cluster_row-from f t i c.args.draw before c.cluster_cents-cents.result quota c.seats-seats.result c.min-filled.result is inside before_is cents_is (ap (λ x. x * c.cluster_cents-cents.result) seats_is) seats_are (omega (arith, some, den_is)) (omega (arith, before_is, quota_is, within)) filled_are)
          pushed;
    }

pub returns-clause-value : goal.returns-clause-value
unfolding cluster_rows_of
returns-clause-value c =
    let whole : c.loop-index.index ≡ c.args.plan.now.clusters = omega (arith, c.loop-index-test.false, c.call-call.ensures.clusters) in
    λ pairs points is. c.loop-index.invariant.value pairs points is ∙ ap (λ n. map (λ i. cluster_row (profile_on c.args.plan.now pairs points) c.args.draw (i + 1)) (numbers_below n)) whole
