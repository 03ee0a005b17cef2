use Rattle.std.proofs.Common.{◌∙◌, refl, arith}
use Rattle.std.proofs.lemmas.Option.{slice_get_read, slice_get_within}
use Rattle.house_base.proofs.Settings.{end-StandInTurn, length-StandInTurn}
use Rattle.house_base.proofs.TableLemmas.{owners_more}
use Rattle.house_base.proofs.tables.table_of_owners.Goals as goal

pub overflow_add-owner : goal.overflow_add-owner
overflow_add-owner c =
    let at = slice_get_read c.args.owners.now _ c.loop-index.index c.index-owners-index.result refl c.loop-index-test.true c.index-owners-index.is in
    let ends = end-StandInTurn 0 c.args.owners.now c.args.count c.loop-index.index c.index-owners-index.result c.requires.in_turn at in
    omega (arith, ends.1)

pub overflow_cast-index : goal.overflow_cast-index
overflow_cast-index c = omega (arith, length-StandInTurn 0 c.args.owners.now c.args.count c.requires.own c.requires.in_turn)

pub fill-requires : goal.fill-requires
fill-requires c =
    let at = slice_get_read c.args.owners.now _ c.loop-index.index c.index-owners-index.result refl c.loop-index-test.true c.index-owners-index.is in
    let ends = end-StandInTurn 0 c.args.owners.now c.args.count c.loop-index.index c.index-owners-index.result c.requires.in_turn at in
    omega (arith, ends.1)

pub loop-index-preserved : goal.loop-index-preserved
loop-index-preserved c =
    let at = slice_get_read c.args.owners.now _ c.loop-index.index c.index-owners-index.result refl c.loop-index-test.true c.index-owners-index.is in
    let more = owners_more c.args.owners.now c.args.count c.loop-index.index c.index-owners-index.result c.loop-index.table c.fill.new.table c.requires.in_turn at c.fill.ensures.inside c.fill.ensures.before c.loop-index.invariant.entries in
    record {
      room = c.fill.ensures.room ∙ c.loop-index.invariant.room;
      entries = λ i place owner below here owned. more i below place owner here owned;
    }

pub returns : goal.returns
returns c = record {
  room = c.loop-index.invariant.room;
  owner = λ i place owner here owned. c.loop-index.invariant.entries i place owner (omega (arith, slice_get_within c.args.owners.now i owner here)) here owned;
}
