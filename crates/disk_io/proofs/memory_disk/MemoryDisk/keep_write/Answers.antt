use Rattle.std.proofs.Common.{true, ◌≡◌, ◌≤◌, ◌+◌, ◌++◌, ◌∷◌, [], max, length, rules, sym, subst}
use Rattle.disk_io.specs.Replay.{replayed, seen_now}
use Rattle.disk_io.specs.declared.step.Step.TheVariants.{Write}
use Rattle.disk_io.proofs.StepLemmas.{IsReplayed-write, IsReplayed-failed_write}
use Rattle.disk_io.proofs.memory_disk.MemoryDisk.keep_write.Goals as goal

pub invariant_of-self-then-is_done : goal.invariant_of-self-then-is_done
invariant_of-self-then-is_done c =
    let inside = c.self.inside in
    let piece = c.args.piece.now in
    let within : c.args.at ≤ length (replayed inside.first.items inside.steps.items).seen = subst (λ disk. c.args.at ≤ length (seen_now disk)) (sym c.self.view_is) c.requires in
    let more : c.push.new.self.items ≡ inside.steps.items ++ Write c.args.at piece true ∷ [] = search rules in
    let last : c.max-self-inside.result ≡ max inside.size (c.args.at + length piece) = search rules in
    IsReplayed-write _ _ _ c.args.at piece _ _ c.self.invariant more within last

pub invariant_of-self-else-is_done : goal.invariant_of-self-else-is_done
invariant_of-self-else-is_done c =
    let inside = c.self.inside in
    let piece = c.args.piece.now in
    let within : c.args.at ≤ length (replayed inside.first.items inside.steps.items).seen = subst (λ disk. c.args.at ≤ length (seen_now disk)) (sym c.self.view_is) c.requires in
    IsReplayed-failed_write _ _ _ c.args.at piece _ c.self.invariant (search rules) within
