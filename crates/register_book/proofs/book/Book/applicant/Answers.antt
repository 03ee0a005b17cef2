use Rattle.std.proofs.Common.{true, false, refl, sym, ap, ◌∙◌, inl, inr, arith}
use Rattle.std.proofs.lemmas.Bool.{false≢true}
use Rattle.std.proofs.lemmas.Result.{err_from_is_err_and}
use Rattle.house_model.proofs.RegisterLemmas.{with_applicant}
use Rattle.register_book.proofs.ApplicantLemmas.{MoreRoom, MoreRows, MorePairRows, same_rows, same_pairs, register_of-wider, IsBook-wider, register_of-applicant, IsBook-applicant, name_seen, too_many_seen, too_many_known, few_seen}
use Rattle.register_book.proofs.book.Book.applicant.Goals as goal
use Rattle.register_book.proofs.book.Book.applicant.Goals.{then-count-ge-MOST_APPLICANTS-via-then-count-ge-MOST_APPLICANTS, then-count-ge-MOST_APPLICANTS-via-else-count-ge-MOST_APPLICANTS+then-own_count-ge-MOST_OWN}

pub returns-then-is_some-clause-known : goal.returns-then-is_some-clause-known
returns-then-is_some-clause-known c =
    (λ e. name_seen _ _ _ _ _ c.self.view_is c.args.name c.args.person true (sym c.find.ensures.known ∙ sym c.if-is_some.ensures), λ t. refl)

pub returns-then-is_some-clause-too_many : goal.returns-then-is_some-clause-too_many
returns-then-is_some-clause-too_many c =
    (λ e. cc, λ t. absurd (too_many_known _ _ _ _ _ c.self.view_is c.args.name c.args.person (sym c.find.ensures.known ∙ sym c.if-is_some.ensures) t))

pub returns-then-count-ge-MOST_APPLICANTS-clause-known : goal.returns-then-count-ge-MOST_APPLICANTS-clause-known
returns-then-count-ge-MOST_APPLICANTS-clause-known c =
    let new = name_seen _ _ _ _ _ c.self.view_is c.args.name c.args.person false (sym c.find.ensures.known ∙ sym c.if-is_some.ensures) in
    (λ e. cc, λ t. absurd (false≢true (sym new ∙ t)))

pub returns-then-count-ge-MOST_APPLICANTS-clause-too_many : goal.returns-then-count-ge-MOST_APPLICANTS-clause-too_many
returns-then-count-ge-MOST_APPLICANTS-clause-too_many c =
    let too_many = too_many_seen _ _ _ _ _ c.self.view_is c.args.name c.args.person (sym c.find.ensures.known ∙ sym c.if-is_some.ensures) in
    elim c.then-count-ge-MOST_APPLICANTS.branch [
      | then-count-ge-MOST_APPLICANTS-via-then-count-ge-MOST_APPLICANTS w ↦ (λ e. too_many (inl (omega (arith, c.count-count.ensures.value))), λ t. refl)
      | then-count-ge-MOST_APPLICANTS-via-else-count-ge-MOST_APPLICANTS+then-own_count-ge-MOST_OWN w ↦ (λ e. too_many (inr (omega (arith, w.own_count.ensures))), λ t. refl)
    ]

pub invariant_of-self : goal.invariant_of-self
invariant_of-self c =
    let more : MoreRoom c.self.inside.places c.make_room.new.self
    = record { placed = c.make_room.ensures.placed; clusters = c.make_room.ensures.clusters; longer = c.make_room.ensures.longer; wider = c.make_room.ensures.wider } in
    IsBook-wider c.self.inside.roll c.self.inside.places c.make_room.new.self c.self.inside.conflicts c.self.inside.conflicts c.self.inside.pairs c.self.inside.pairs more (same_rows c.self.inside.conflicts) (same_pairs c.self.inside.pairs) c.self.invariant

pub returns-in_err-make_room-clause-refused : goal.returns-in_err-make_room-clause-refused
returns-in_err-make_room-clause-refused c =
    let more : MoreRoom c.self.inside.places c.make_room.new.self
    = record { placed = c.make_room.ensures.placed; clusters = c.make_room.ensures.clusters; longer = c.make_room.ensures.longer; wider = c.make_room.ensures.wider } in
    let p = err_from_is_err_and c.from_residual.result c.from_residual.ensures.1 in
    rw p.1 (register_of-wider c.self.inside.roll c.self.inside.places c.make_room.new.self c.self.inside.conflicts c.self.inside.conflicts c.self.inside.pairs c.self.inside.pairs more (same_rows c.self.inside.conflicts) (same_pairs c.self.inside.pairs) ∙ c.self.view_is)

pub returns-in_err-make_room-clause-known : goal.returns-in_err-make_room-clause-known
returns-in_err-make_room-clause-known c =
    let new = name_seen _ _ _ _ _ c.self.view_is c.args.name c.args.person false (sym c.find.ensures.known ∙ sym c.if-is_some.ensures) in
    let p = err_from_is_err_and c.from_residual.result c.from_residual.ensures.1 in
    rw (p.1, p.2) (λ e. cc, λ t. absurd (false≢true (sym new ∙ t)))

pub returns-in_err-make_room-clause-too_many : goal.returns-in_err-make_room-clause-too_many
returns-in_err-make_room-clause-too_many c =
    let p = err_from_is_err_and c.from_residual.result c.from_residual.ensures.1 in
    rw (p.1, p.2)
    (λ e. cc, λ t. absurd (few_seen _ _ _ _ _ c.self.view_is c.args.name c.args.person (omega (arith, c.count-count.ensures.value)) (omega (arith, c.own_count.ensures)) t))

pub invariant_of-self-in_err-make_rows : goal.invariant_of-self-in_err-make_rows
invariant_of-self-in_err-make_rows c =
    let more : MoreRoom c.self.inside.places c.make_room.new.self
    = record { placed = c.make_room.ensures.placed; clusters = c.make_room.ensures.clusters; longer = c.make_room.ensures.longer; wider = c.make_room.ensures.wider } in
    let more_rows : MoreRows c.self.inside.conflicts c.make_rows.new.self
    = record { bits = c.make_rows.ensures.bits; longer = c.make_rows.ensures.longer } in
    IsBook-wider c.self.inside.roll c.self.inside.places c.make_room.new.self c.self.inside.conflicts c.make_rows.new.self c.self.inside.pairs c.self.inside.pairs more more_rows (same_pairs c.self.inside.pairs) c.self.invariant

pub returns-in_err-make_rows-clause-refused : goal.returns-in_err-make_rows-clause-refused
returns-in_err-make_rows-clause-refused c =
    let more : MoreRoom c.self.inside.places c.make_room.new.self
    = record { placed = c.make_room.ensures.placed; clusters = c.make_room.ensures.clusters; longer = c.make_room.ensures.longer; wider = c.make_room.ensures.wider } in
    let more_rows : MoreRows c.self.inside.conflicts c.make_rows.new.self
    = record { bits = c.make_rows.ensures.bits; longer = c.make_rows.ensures.longer } in
    let p = err_from_is_err_and c.from_residual-in_err-make_rows.result c.from_residual-in_err-make_rows.ensures.1 in
    rw p.1 (register_of-wider c.self.inside.roll c.self.inside.places c.make_room.new.self c.self.inside.conflicts c.make_rows.new.self c.self.inside.pairs c.self.inside.pairs more more_rows (same_pairs c.self.inside.pairs) ∙ c.self.view_is)

pub returns-in_err-make_rows-clause-known : goal.returns-in_err-make_rows-clause-known
returns-in_err-make_rows-clause-known c =
    let new = name_seen _ _ _ _ _ c.self.view_is c.args.name c.args.person false (sym c.find.ensures.known ∙ sym c.if-is_some.ensures) in
    let p = err_from_is_err_and c.from_residual-in_err-make_rows.result c.from_residual-in_err-make_rows.ensures.1 in
    rw (p.1, p.2) (λ e. cc, λ t. absurd (false≢true (sym new ∙ t)))

pub returns-in_err-make_rows-clause-too_many : goal.returns-in_err-make_rows-clause-too_many
returns-in_err-make_rows-clause-too_many c =
    let p = err_from_is_err_and c.from_residual-in_err-make_rows.result c.from_residual-in_err-make_rows.ensures.1 in
    rw (p.1, p.2)
    (λ e. cc, λ t. absurd (few_seen _ _ _ _ _ c.self.view_is c.args.name c.args.person (omega (arith, c.count-count.ensures.value)) (omega (arith, c.own_count.ensures)) t))

pub invariant_of-self-in_err-make_rows-2 : goal.invariant_of-self-in_err-make_rows-2
invariant_of-self-in_err-make_rows-2 c =
    let more : MoreRoom c.self.inside.places c.make_room.new.self
    = record { placed = c.make_room.ensures.placed; clusters = c.make_room.ensures.clusters; longer = c.make_room.ensures.longer; wider = c.make_room.ensures.wider } in
    let more_rows : MoreRows c.self.inside.conflicts c.make_rows.new.self
    = record { bits = c.make_rows.ensures.bits; longer = c.make_rows.ensures.longer } in
    let more_pair_rows : MorePairRows c.self.inside.pairs c.make_rows-2.new.self
    = record { pairs = c.make_rows-2.ensures.pairs; longer = c.make_rows-2.ensures.longer } in
    IsBook-wider c.self.inside.roll c.self.inside.places c.make_room.new.self c.self.inside.conflicts c.make_rows.new.self c.self.inside.pairs c.make_rows-2.new.self more more_rows more_pair_rows c.self.invariant

pub returns-in_err-make_rows-2-clause-refused : goal.returns-in_err-make_rows-2-clause-refused
returns-in_err-make_rows-2-clause-refused c =
    let more : MoreRoom c.self.inside.places c.make_room.new.self
    = record { placed = c.make_room.ensures.placed; clusters = c.make_room.ensures.clusters; longer = c.make_room.ensures.longer; wider = c.make_room.ensures.wider } in
    let more_rows : MoreRows c.self.inside.conflicts c.make_rows.new.self
    = record { bits = c.make_rows.ensures.bits; longer = c.make_rows.ensures.longer } in
    let more_pair_rows : MorePairRows c.self.inside.pairs c.make_rows-2.new.self
    = record { pairs = c.make_rows-2.ensures.pairs; longer = c.make_rows-2.ensures.longer } in
    let p = err_from_is_err_and c.from_residual-in_err-make_rows-2.result c.from_residual-in_err-make_rows-2.ensures.1 in
    rw p.1 (register_of-wider c.self.inside.roll c.self.inside.places c.make_room.new.self c.self.inside.conflicts c.make_rows.new.self c.self.inside.pairs c.make_rows-2.new.self more more_rows more_pair_rows ∙ c.self.view_is)

pub returns-in_err-make_rows-2-clause-known : goal.returns-in_err-make_rows-2-clause-known
returns-in_err-make_rows-2-clause-known c =
    let new = name_seen _ _ _ _ _ c.self.view_is c.args.name c.args.person false (sym c.find.ensures.known ∙ sym c.if-is_some.ensures) in
    let p = err_from_is_err_and c.from_residual-in_err-make_rows-2.result c.from_residual-in_err-make_rows-2.ensures.1 in
    rw (p.1, p.2) (λ e. cc, λ t. absurd (false≢true (sym new ∙ t)))

pub returns-in_err-make_rows-2-clause-too_many : goal.returns-in_err-make_rows-2-clause-too_many
returns-in_err-make_rows-2-clause-too_many c =
    let p = err_from_is_err_and c.from_residual-in_err-make_rows-2.result c.from_residual-in_err-make_rows-2.ensures.1 in
    rw (p.1, p.2)
    (λ e. cc, λ t. absurd (few_seen _ _ _ _ _ c.self.view_is c.args.name c.args.person (omega (arith, c.count-count.ensures.value)) (omega (arith, c.own_count.ensures)) t))

pub invariant_of-self-in_err-add : goal.invariant_of-self-in_err-add
invariant_of-self-in_err-add c =
    let more : MoreRoom c.self.inside.places c.make_room.new.self
    = record { placed = c.make_room.ensures.placed; clusters = c.make_room.ensures.clusters; longer = c.make_room.ensures.longer; wider = c.make_room.ensures.wider } in
    let more_rows : MoreRows c.self.inside.conflicts c.make_rows.new.self
    = record { bits = c.make_rows.ensures.bits; longer = c.make_rows.ensures.longer } in
    let more_pair_rows : MorePairRows c.self.inside.pairs c.make_rows-2.new.self
    = record { pairs = c.make_rows-2.ensures.pairs; longer = c.make_rows-2.ensures.longer } in
    rw c.in_err-add.ensures.refused (IsBook-wider c.self.inside.roll c.self.inside.places c.make_room.new.self c.self.inside.conflicts c.make_rows.new.self c.self.inside.pairs c.make_rows-2.new.self more more_rows more_pair_rows c.self.invariant)

pub returns-in_err-add-clause-refused : goal.returns-in_err-add-clause-refused
returns-in_err-add-clause-refused c =
    let more : MoreRoom c.self.inside.places c.make_room.new.self
    = record { placed = c.make_room.ensures.placed; clusters = c.make_room.ensures.clusters; longer = c.make_room.ensures.longer; wider = c.make_room.ensures.wider } in
    let more_rows : MoreRows c.self.inside.conflicts c.make_rows.new.self
    = record { bits = c.make_rows.ensures.bits; longer = c.make_rows.ensures.longer } in
    let more_pair_rows : MorePairRows c.self.inside.pairs c.make_rows-2.new.self
    = record { pairs = c.make_rows-2.ensures.pairs; longer = c.make_rows-2.ensures.longer } in
    let p = err_from_is_err_and c.from_residual-in_err-add.result c.from_residual-in_err-add.ensures.1 in
    rw (p.1, c.in_err-add.ensures.refused) (register_of-wider c.self.inside.roll c.self.inside.places c.make_room.new.self c.self.inside.conflicts c.make_rows.new.self c.self.inside.pairs c.make_rows-2.new.self more more_rows more_pair_rows ∙ c.self.view_is)

pub returns-in_err-add-clause-known : goal.returns-in_err-add-clause-known
returns-in_err-add-clause-known c =
    let new = name_seen _ _ _ _ _ c.self.view_is c.args.name c.args.person false (sym c.find.ensures.known ∙ sym c.if-is_some.ensures) in
    let p = err_from_is_err_and c.from_residual-in_err-add.result c.from_residual-in_err-add.ensures.1 in
    rw (p.1, p.2) (λ e. cc, λ t. absurd (false≢true (sym new ∙ t)))

pub returns-in_err-add-clause-too_many : goal.returns-in_err-add-clause-too_many
returns-in_err-add-clause-too_many c =
    let p = err_from_is_err_and c.from_residual-in_err-add.result c.from_residual-in_err-add.ensures.1 in
    rw (p.1, p.2)
    (λ e. cc, λ t. absurd (few_seen _ _ _ _ _ c.self.view_is c.args.name c.args.person (omega (arith, c.count-count.ensures.value)) (omega (arith, c.own_count.ensures)) t))

pub invariant_of-self-2 : goal.invariant_of-self-2
invariant_of-self-2 c =
    let more : MoreRoom c.self.inside.places c.make_room.new.self
    = record { placed = c.make_room.ensures.placed; clusters = c.make_room.ensures.clusters; longer = c.make_room.ensures.longer; wider = c.make_room.ensures.wider } in
    let more_rows : MoreRows c.self.inside.conflicts c.make_rows.new.self
    = record { bits = c.make_rows.ensures.bits; longer = c.make_rows.ensures.longer } in
    let more_pair_rows : MorePairRows c.self.inside.pairs c.make_rows-2.new.self
    = record { pairs = c.make_rows-2.ensures.pairs; longer = c.make_rows-2.ensures.longer } in
    let xs = c.self.inside.roll in
    rw c.in_ok-add.ensures.added
    (IsBook-applicant xs c.make_room.new.self c.make_rows.new.self c.make_rows-2.new.self
    (IsBook-wider c.self.inside.roll c.self.inside.places c.make_room.new.self c.self.inside.conflicts c.make_rows.new.self c.self.inside.pairs c.make_rows-2.new.self more more_rows more_pair_rows c.self.invariant)
    c.args.name c.args.person (sym c.find.ensures.known ∙ sym c.if-is_some.ensures) c.bytes-name_bytes.ensures.form c.bytes-person_bytes.ensures.form
    (omega (arith, c.count-count.ensures.value)) (omega (arith, c.own_count.ensures))
    (omega (arith, c.in_ok-make_room.ensures.long, c.count-count.ensures.value))
    (omega (arith, c.in_ok-make_room.ensures.wide, c.count-count.ensures.value))
    (omega (arith, c.in_ok-make_rows.ensures.rows, c.count-count.ensures.value))
    (omega (arith, c.in_ok-make_rows-2.ensures.rows, c.count-count.ensures.value)))

pub returns-clause-added : goal.returns-clause-added
returns-clause-added c =
    let more : MoreRoom c.self.inside.places c.make_room.new.self
    = record { placed = c.make_room.ensures.placed; clusters = c.make_room.ensures.clusters; longer = c.make_room.ensures.longer; wider = c.make_room.ensures.wider } in
    let more_rows : MoreRows c.self.inside.conflicts c.make_rows.new.self
    = record { bits = c.make_rows.ensures.bits; longer = c.make_rows.ensures.longer } in
    let more_pair_rows : MorePairRows c.self.inside.pairs c.make_rows-2.new.self
    = record { pairs = c.make_rows-2.ensures.pairs; longer = c.make_rows-2.ensures.longer } in
    let xs = c.self.inside.roll in
    let h = IsBook-wider c.self.inside.roll c.self.inside.places c.make_room.new.self c.self.inside.conflicts c.make_rows.new.self c.self.inside.pairs c.make_rows-2.new.self more more_rows more_pair_rows c.self.invariant in
    rw c.in_ok-add.ensures.added
    (register_of-applicant xs c.make_room.new.self c.make_rows.new.self c.make_rows-2.new.self h c.args.name c.args.person (sym c.find.ensures.known ∙ sym c.if-is_some.ensures)
    ∙ ap (λ reg. with_applicant reg c.args.name c.args.person)
    (register_of-wider c.self.inside.roll c.self.inside.places c.make_room.new.self c.self.inside.conflicts c.make_rows.new.self c.self.inside.pairs c.make_rows-2.new.self more more_rows more_pair_rows ∙ c.self.view_is))

pub returns-clause-known : goal.returns-clause-known
returns-clause-known c =
    let new = name_seen _ _ _ _ _ c.self.view_is c.args.name c.args.person false (sym c.find.ensures.known ∙ sym c.if-is_some.ensures) in
    (λ e. cc, λ t. absurd (false≢true (sym new ∙ t)))

pub returns-clause-too_many : goal.returns-clause-too_many
returns-clause-too_many c =
    (λ e. cc, λ t. absurd (few_seen _ _ _ _ _ c.self.view_is c.args.name c.args.person (omega (arith, c.count-count.ensures.value)) (omega (arith, c.own_count.ensures)) t))
