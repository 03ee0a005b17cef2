use Rattle.std.proofs.Common.{◌≡◌, ◌++◌, [], length, sym, ap, ◌∙◌, arith, take, Some, slice_get, append-nil, length-append}
use Rattle.std.specs.List.{enumerate_from}
use Rattle.std.proofs.lemmas.Option.{get_or_from_slice_get, same_Some}
use Rattle.house_base.proofs.AmongLemmas.{bytes_eq-same, bytes_eq-other}
use Rattle.house_model.specs.Register.{persons, person_of, own_count}
use Rattle.house_model.proofs.AtIndexLemmas.{same_index}
use Rattle.house_model.proofs.RegisterPeopleLemmas.{Apart-persons}
use Rattle.cluster_draw.specs.Placings.{own_rows}
use Rattle.cluster_draw.proofs.PeopleLemmas.{own_rows-more, own_rows-same, own_rows-before, own_rows-most, own_left, applicant_parts, applicant_known, whole_own, push_row}
use Rattle.cluster_draw.proofs.people.push_own.Goals as goal
use Rattle.cluster_draw.proofs.people.push_own.Goals.{then-person_of-person+in_ok-push, else-person_of-person}

pub applicants-init : goal.applicants-init
applicants-init c =
    let before = c.args.people.now.items in
    sym (ap (λ l. before ++ l) (own_rows-before c.args.book.now c.args.placing.person c.args.placing.cluster c.person_name-name.result c.person_name-name.ensures) ∙ append-nil before)

pub overflow_cast-len : goal.overflow_cast-len
overflow_cast-len c =
    let reg = c.args.book.now in
    let name = c.person_name-name.result in
    let cluster = c.args.placing.cluster in
    let number = c.applicants.number in
    let before = c.args.people.now.items in
    let rows = own_rows name cluster (enumerate_from 0 (take number reg.applicants)) in
    omega (arith, ap length c.applicants.invariant, length-append before rows, own_rows-most reg number cluster name, c.own_count-own.ensures.register.own name)

pub person_of-requires : goal.person_of-requires
person_of-requires c =
    let reg = c.args.book.now in
    let own = c.own_count-own.ensures.value ∙ ap (own_count reg) (get_or_from_slice_get (persons reg) c.args.placing.person c.person_name-name.result [] c.person_name-name.ensures) in
    own_left reg c.applicants.number c.args.placing.cluster c.person_name-name.result c.args.people.now.items c.applicants.people.items
    (omega (arith, c.applicants-test.true, own)) c.applicants.invariant

pub name-requires : goal.name-requires
name-requires c =
    let reg = c.args.book.now in
    let own = c.own_count-own.ensures.value ∙ ap (own_count reg) (get_or_from_slice_get (persons reg) c.args.placing.person c.person_name-name.result [] c.person_name-name.ensures) in
    own_left reg c.applicants.number c.args.placing.cluster c.person_name-name.result c.args.people.now.items c.applicants.people.items
    (omega (arith, c.applicants-test.true, own)) c.applicants.invariant

pub overflow_add-number : goal.overflow_add-number
overflow_add-number c =
    let reg = c.args.book.now in
    let own = c.own_count-own.ensures.value ∙ ap (own_count reg) (get_or_from_slice_get (persons reg) c.args.placing.person c.person_name-name.result [] c.person_name-name.ensures) in
    let left =
    own_left reg c.applicants.number c.args.placing.cluster c.person_name-name.result c.args.people.now.items c.applicants.people.items
    (omega (arith, c.applicants-test.true, own)) c.applicants.invariant in
    omega (arith, left, c.own_count-own.ensures.register.few)

pub applicants-smaller : goal.applicants-smaller
applicants-smaller c =
    let reg = c.args.book.now in
    let own = c.own_count-own.ensures.value ∙ ap (own_count reg) (get_or_from_slice_get (persons reg) c.args.placing.person c.person_name-name.result [] c.person_name-name.ensures) in
    let left =
    own_left reg c.applicants.number c.args.placing.cluster c.person_name-name.result c.args.people.now.items c.applicants.people.items
    (omega (arith, c.applicants-test.true, own)) c.applicants.invariant in
    omega (arith, left)

pub applicants-preserved : goal.applicants-preserved
applicants-preserved c =
    let reg = c.args.book.now in
    let name = c.person_name-name.result in
    let cluster = c.args.placing.cluster in
    let number = c.applicants.number in
    let owner = person_of reg number in
    let before = c.args.people.now.items in
    let rows = own_rows name cluster (enumerate_from 0 (take number reg.applicants)) in
    elim c.if-person_of-person.branch [
      | then-person_of-person+in_ok-push w ↦
          let same : person_of reg number ≡ name =
          same_Some (person_of reg number) name (sym c.person_of.ensures.person ∙ (ap (slice_get (persons reg)) w.if-person_of-person.true ∙ c.person_name-name.ensures)) in
          ap (λ v. v.items) w.people-is
          ∙ (w.in_ok-push.ensures.items
          ∙ (push_row c.applicants.people.items before rows (record { name = w.name.result; cluster = cluster; number = number }) c.applicants.invariant
          ∙ ap (λ l. before ++ l) (sym (own_rows-more name cluster reg.applicants number (w.name.result, owner) (applicant_parts reg number w.name.result w.name.ensures) (bytes_eq-same owner name same)))))
      | else-person_of-person w ↦
          let own = c.own_count-own.ensures.value ∙ ap (own_count reg) (get_or_from_slice_get (persons reg) c.args.placing.person name [] c.person_name-name.ensures) in
          let listed = applicant_known reg number (own_left reg number cluster name before c.applicants.people.items (omega (arith, c.applicants-test.true, own)) c.applicants.invariant) in
          ap (λ v. v.items) w.people-is
          ∙ (c.applicants.invariant
          ∙ ap (λ l. before ++ l) (sym (own_rows-same name cluster reg.applicants number (listed.0, owner) listed.1
          (bytes_eq-other owner name (λ e. w.if-person_of-person.false
          (same_index (persons reg) c.person_of.result c.args.placing.person name (Apart-persons reg) (c.person_of.ensures.person ∙ ap Some e) c.person_name-name.ensures))))))
    ]

pub returns-clause-people : goal.returns-clause-people
returns-clause-people c =
    whole_own c.args.book.now c.args.placing.person c.applicants.number c.args.placing.cluster c.person_name-name.result c.args.people.now.items c.applicants.people.items
    c.person_name-name.ensures (omega (arith, c.applicants-test.false, c.own_count-own.ensures.value)) c.applicants.invariant

pub returns-clause-name : goal.returns-clause-name
returns-clause-name c = sym (get_or_from_slice_get (persons c.args.book.now) c.args.placing.person c.person_name-name.result [] c.person_name-name.ensures)
