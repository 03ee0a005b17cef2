use Rattle.std.proofs.Common.{◌≡◌, ◌+◌, ◌*◌, vec_len}
use Rattle.house_base.specs.declared.rows.TheConstants.{ROW_WORDS}
use Rattle.first_assign.specs.Members.{HasMembers}
use Rattle.first_assign.proofs.members.members.Given as goal

abbrev pub invariant-loop-place : goal.invariant-loop-place
invariant-loop-place l = record {
  len : vec_len l.rows ≡ (l.plan.clusters + 1) * ROW_WORDS;
  members : HasMembers l.plan l.place l.rows.items;
}
