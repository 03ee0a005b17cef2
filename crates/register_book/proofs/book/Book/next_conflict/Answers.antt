use Rattle.std.proofs.Common.{◌≡◌, ℕ, ◌<◌, ◌≤◌, true, false, length, ◌∙◌, arith}
use Rattle.house_base.proofs.RowLemmas.{IfSome-map, IfSome-both, IfNone-map}
use Rattle.house_model.specs.Register.{names, persons, pair_among}
use Rattle.register_book.specs.Held.{text_at}
use Rattle.register_book.specs.Rows.{holds}
use Rattle.register_book.proofs.ConflictLemmas.{person_kept, conflict_known, conflict_seen}
use Rattle.register_book.proofs.book.Book.next_conflict.Goals as goal

pub next-requires : goal.next-requires
next-requires c = omega (arith, person_kept _ _ _ _ _ c.self.view_is c.self.invariant c.args.person c.requires, c.self.invariant.conflicts_kept.long)

pub returns-clause-below : goal.returns-clause-below
returns-clause-below c =
    IfSome-map (λ j. holds c.self.inside.conflicts c.args.person j ≡ true) (λ j. j < length c.args.self.now.applicants) c.next.result
    (λ j set. conflict_known _ _ _ _ _ c.self.view_is c.self.invariant c.args.person j set) c.next.ensures.set

pub returns-clause-barred : goal.returns-clause-barred
returns-clause-barred c =
    let reg = c.args.self.now in
    IfSome-map (λ j. holds c.self.inside.conflicts c.args.person j ≡ true) (λ j. pair_among reg.barred (text_at (persons reg) c.args.person) (text_at (names reg) j) ≡ true) c.next.result
    (λ j set. conflict_seen _ _ _ _ _ c.self.view_is c.self.invariant c.args.person j c.requires (conflict_known _ _ _ _ _ c.self.view_is c.self.invariant c.args.person j set) ∙ set) c.next.ensures.set

pub returns-clause-before : goal.returns-clause-before
returns-clause-before c =
    let reg = c.args.self.now in
    IfSome-map (λ j. (j < length reg.applicants) × ((k : ℕ) → c.args.from ≤ k → k < j → holds c.self.inside.conflicts c.args.person k ≡ false))
    (λ j. (k : ℕ) → c.args.from ≤ k → k < j → pair_among reg.barred (text_at (persons reg) c.args.person) (text_at (names reg) k) ≡ false) c.next.result
    (λ j found k from below. conflict_seen _ _ _ _ _ c.self.view_is c.self.invariant c.args.person k c.requires (omega (arith, below, found.0)) ∙ found.1 k from below)
    (IfSome-both (λ j. j < length reg.applicants) (λ j. (k : ℕ) → c.args.from ≤ k → k < j → holds c.self.inside.conflicts c.args.person k ≡ false) c.next.result
    (returns-clause-below c) c.next.ensures.before)

pub returns-clause-none : goal.returns-clause-none
returns-clause-none c =
    let reg = c.args.self.now in
    IfNone-map ((k : ℕ) → c.args.from ≤ k → holds c.self.inside.conflicts c.args.person k ≡ false)
    ((k : ℕ) → c.args.from ≤ k → k < length reg.applicants → pair_among reg.barred (text_at (persons reg) c.args.person) (text_at (names reg) k) ≡ false) c.next.result
    (λ none k from below. conflict_seen _ _ _ _ _ c.self.view_is c.self.invariant c.args.person k c.requires below ∙ none k from) c.next.ensures.none
