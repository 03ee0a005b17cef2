use Rattle.std.proofs.Common.{length, ap, ◌∙◌, arith}
use Rattle.house_base.specs.Text.{among}
use Rattle.name_index.proofs.IndexLemmas.{IsIndex-push, HaveHints-push, HaveHints-kept}
use Rattle.name_index.proofs.index.NameIndex.add.Goals as goal

pub invariant_of-self : goal.invariant_of-self
invariant_of-self c = (
  c.self.invariant.0,
  HaveHints-kept c.self.inside.names.items c.self.inside.hints c.make_room.new.self c.self.invariant.1 c.make_room.ensures.kept,
)

pub invariant_of-self-in_err-reserve : goal.invariant_of-self-in_err-reserve
invariant_of-self-in_err-reserve c =
    rw (c.reserve.ensures.items) (
      c.self.invariant.0,
      HaveHints-kept c.self.inside.names.items c.self.inside.hints c.make_room.new.self c.self.invariant.1 c.make_room.ensures.kept,
    )

pub invariant_of-self-in_err-insert : goal.invariant_of-self-in_err-insert
invariant_of-self-in_err-insert c =
    rw (c.reserve.ensures.items, c.in_err-insert.ensures.err) (
      record { few = c.self.invariant.0.few; differ = c.self.invariant.0.differ; found = c.self.invariant.0.found },
      HaveHints-kept c.self.inside.names.items c.self.inside.hints c.make_room.new.self c.self.invariant.1 c.make_room.ensures.kept,
    )

pub invariant_of-self-2 : goal.invariant_of-self-2
invariant_of-self-2 c =
    rw (c.push_reserved.ensures.items, c.reserve.ensures.items) (
      IsIndex-push c.self.inside.names.items c.args.name c.len-number.result c.self.inside.numbers c.insert.new.self c.self.invariant.0
          (ap (λ names. among names c.args.name) c.self.view_is ∙ c.requires.unknown)
          (omega arith) (omega (arith, ap length c.self.view_is))
          (λ q. c.in_ok-insert.ensures.updates.0 q),
      HaveHints-push c.self.inside.names.items c.make_room.new.self c.put.new.self c.args.name _
          (HaveHints-kept c.self.inside.names.items c.self.inside.hints c.make_room.new.self c.self.invariant.1 c.make_room.ensures.kept)
          (omega arith) (c.put.ensures.hint c.in_ok-make_room.ensures.room) c.put.ensures.others,
    )
