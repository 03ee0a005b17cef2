use Rattle.std.proofs.Common.{◌≡◌, ◌≤◌, Ok, map, take}
use Rattle.std.specs.Prelude.{IfSome}
use Rattle.house_io.specs.Files.{StaysReady}
use Rattle.house_top.specs.Desks.{all_loaded}
use Rattle.house_top.specs.Given.{held}
use Rattle.house_top.specs.Words.{texts}
use Rattle.house_top.proofs.desks.load_all.Given as goal

-- the files so far are loaded, and no load has changed one
abbrev pub invariant-loop-name : goal.invariant-loop-name
invariant-loop-name g l = record {
  loaded : IfSome (g.F.Files.contents l.fn.files) (λ files. all_loaded (held (texts (take l.name-index l.names)) files) ≡ Ok (map (λ bytes. bytes.items) l.all.items));
  unchanged : g.F.Files.contents l.files ≡ g.F.Files.contents l.fn.files;
  ready : StaysReady (g.F.Files.ready l.fn.files) (g.F.Files.ready l.files);
  never_falls : g.F.Files.faults l.fn.files ≤ g.F.Files.faults l.files;
}
