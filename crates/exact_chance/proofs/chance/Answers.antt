use Rattle.std.proofs.Common.{◌≡◌, ℕ, suc, ◌+◌, ◌-◌, ◌*◌, ◌/◌, ◌%◌, ◌<◌, ◌≤◌, leb, ap, arith}
use Rattle.std.proofs.Math.Nat.{mul-le-mul_right}
use Rattle.peer_selection.specs.Counting.{count_below}
use Rattle.peer_selection.specs.Marks.{marks}
use Rattle.peer_selection.proofs.MarkLemmas.{marks-reach}
use Rattle.exact_chance.proofs.chance.Goals as goal

-- the draws that put at least so many marks into a stretch
abbrev draws_reaching : ℕ → ℕ → ℕ → ℕ → ℕ
draws_reaching start quota den rank = count_below (λ draw. leb rank (marks start quota den draw)) den

reached_by_all : (start quota den rank : ℕ) → 1 ≤ den → 1 ≤ rank → rank ≤ quota / den → den ≡ draws_reaching start quota den rank
reached_by_all start quota den rank h positive l =
    let stretch : suc (rank - 1) * den ≡ rank * den = ap (λ x. x * den) (let more : suc (rank - 1) ≡ rank = omega arith in more) in
    omega (arith, marks-reach start quota den rank h positive, stretch, mul-le-mul_right {m = rank} {n = quota / den} den l)

reached_by_some : (start quota den rank : ℕ) → 1 ≤ den → 1 ≤ rank → rank ≡ quota / den + 1 → quota % den ≡ draws_reaching start quota den rank
reached_by_some start quota den rank h positive e =
    let whole : (rank - 1) * den ≡ quota / den * den = ap (λ x. x * den) (let less : rank - 1 ≡ quota / den = omega arith in less) in
    omega (arith, marks-reach start quota den rank h positive, whole)

reached_by_none : (start quota den rank : ℕ) → 1 ≤ den → 1 ≤ rank → quota / den + 1 < rank → 0 ≡ draws_reaching start quota den rank
reached_by_none start quota den rank h positive l =
    omega (arith, marks-reach start quota den rank h positive, mul-le-mul_right {m = suc (quota / den)} {n = rank - 1} den (omega arith))

pub returns-then-rank-whole-clause-counted : goal.returns-then-rank-whole-clause-counted
returns-then-rank-whole-clause-counted c = λ start.
    reached_by_all start c.args.quota c.args.den c.args.rank c.requires.den c.requires.rank (omega arith)

pub returns-then-rank-whole-2-clause-counted : goal.returns-then-rank-whole-2-clause-counted
returns-then-rank-whole-2-clause-counted c = λ start.
    reached_by_some start c.args.quota c.args.den c.args.rank c.requires.den c.requires.rank (omega arith)

pub returns-else-rank-whole-2-clause-counted : goal.returns-else-rank-whole-2-clause-counted
returns-else-rank-whole-2-clause-counted c = λ start.
    reached_by_none start c.args.quota c.args.den c.args.rank c.requires.den c.requires.rank (omega arith)
