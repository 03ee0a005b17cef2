use Rattle.std.proofs.Common.{◌<◌, ltb, map, refl, sym, ap, ◌∙◌, arith}
use Rattle.std.proofs.lemmas.Bool.{false≢true, lt-ltb, not_from_false, not-true}
use Rattle.house_base.specs.Text.{among}
use Rattle.house_model.specs.Register.{persons}
use Rattle.house_model.proofs.RegisterLemmas.{with_place}
use Rattle.register_book.specs.Roll.{persons_in}
use Rattle.register_book.proofs.KeptLemmas.{IsBook-place, register_of-place}
use Rattle.register_book.proofs.SeenLemmas.{persons_seen, placed_seen, found_at, unplaced, placed_by_cluster, room_kept}
use Rattle.register_book.proofs.book.Book.place.Goals as goal

pub returns-in_default-clause-known : goal.returns-in_default-clause-known
returns-in_default-clause-known c =
    (λ e. cc, λ t. absurd (false≢true (sym (unplaced _ _ _ _ _ c.self.view_is c.self.invariant c.args.person (sym c.in_default.ensures.known)) ∙ t)))

pub returns-in_default-clause-unknown : goal.returns-in_default-clause-unknown
returns-in_default-clause-unknown c =
    let unknown = ap (λ l. among l c.args.person) (sym (persons_seen _ _ _ _ _ c.self.view_is)) ∙ sym c.in_default.ensures.known in
    (λ e. not_from_false (among (persons c.args.self.now) c.args.person) unknown, λ t. refl)

pub returns-then-cluster-ne0-clause-known : goal.returns-then-cluster-ne0-clause-known
returns-then-cluster-ne0-clause-known c =
    let some : 0 < c.cluster.result = omega arith in
    let placed = placed_by_cluster _ _ _ _ _ c.self.view_is c.self.invariant c.args.person c.in-Some.number c.cluster.result (sym c.in-Some.ensures.number) c.cluster.ensures in
    (λ e. placed ∙ lt-ltb 0 c.cluster.result some, λ t. refl)

pub returns-then-cluster-ne0-clause-unknown : goal.returns-then-cluster-ne0-clause-unknown
returns-then-cluster-ne0-clause-unknown c =
    let known = ap (λ l. among l c.args.person) (sym (persons_seen _ _ _ _ _ c.self.view_is)) ∙ sym c.in-Some.ensures.known in
    (λ e. cc, λ t. absurd (false≢true (sym (not-true (among (persons c.args.self.now) c.args.person) t) ∙ known)))

pub place-requires-clause-room : goal.place-requires-clause-room
place-requires-clause-room c =
    room_kept _ _ _ _ _ c.self.view_is c.self.invariant c.args.person (sym c.in-Some.ensures.known)
    (placed_by_cluster _ _ _ _ _ c.self.view_is c.self.invariant c.args.person c.in-Some.number c.cluster.result (sym c.in-Some.ensures.number) c.cluster.ensures
    ∙ ap (ltb 0) c.if-cluster-ne0.false)

pub invariant_of-self : goal.invariant_of-self
invariant_of-self c =
    let at = found_at (persons_in c.self.inside.roll) c.args.person c.in-Some.number (sym c.in-Some.ensures.number) in
    IsBook-place c.self.inside.roll c.self.inside.places c.place.new.self c.self.inside.conflicts c.self.inside.pairs c.args.person c.in-Some.number c.args.cluster
    c.self.invariant at.2 at.1
    (ap (λ l. among (map (λ p. p.0) l) c.args.person) (placed_seen _ _ _ _ _ c.self.view_is)
    ∙ (placed_by_cluster _ _ _ _ _ c.self.view_is c.self.invariant c.args.person c.in-Some.number c.cluster.result (sym c.in-Some.ensures.number) c.cluster.ensures
    ∙ ap (ltb 0) c.if-cluster-ne0.false))
    c.requires.from_one c.place.ensures.placed c.place.ensures.clusters c.place.ensures.room

pub returns-clause-added : goal.returns-clause-added
returns-clause-added c =
    register_of-place c.self.inside.roll c.self.inside.places c.place.new.self c.self.inside.conflicts c.self.inside.pairs c.args.person c.args.cluster c.place.ensures.placed
    ∙ ap (λ reg. with_place reg c.args.person c.args.cluster) c.self.view_is

pub returns-clause-known : goal.returns-clause-known
returns-clause-known c =
    let new = placed_by_cluster _ _ _ _ _ c.self.view_is c.self.invariant c.args.person c.in-Some.number c.cluster.result (sym c.in-Some.ensures.number) c.cluster.ensures
    ∙ ap (ltb 0) c.if-cluster-ne0.false in
    (λ e. cc, λ t. absurd (false≢true (sym new ∙ t)))

pub returns-clause-unknown : goal.returns-clause-unknown
returns-clause-unknown c =
    let known = ap (λ l. among l c.args.person) (sym (persons_seen _ _ _ _ _ c.self.view_is)) ∙ sym c.in-Some.ensures.known in
    (λ e. cc, λ t. absurd (false≢true (sym (not-true (among (persons c.args.self.now) c.args.person) t) ∙ known)))
