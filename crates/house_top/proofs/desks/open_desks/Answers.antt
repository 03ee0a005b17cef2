use Rattle.std.proofs.Common.{Global, Vec, ℕ, map, subst}
use Rattle.house_top.specs.Desks.{IsOfDesks, join_read}
use Rattle.house_top.specs.Words.{texts}
use Rattle.house_top.proofs.DeskLemmas.{desks_long, desks_read}
use Rattle.house_top.proofs.desks.open_desks.Goals as goal

pub returns-in_ok-read_all-in-Ok-clause-opened : goal.returns-in_ok-read_all-in-Ok-clause-opened
returns-in_ok-read_all-in-Ok-clause-opened g c =
    let items = λ (v : Vec ℕ Global). v.items in
    let opened = c.in_ok-read_all-in-Ok.field-0 in
    desks_read (g.F.Files.contents c.args.files.now) (texts c.args.names.now) (map items c.in-Ok.all.items) opened c.in-Ok.ensures.loaded
    (subst (λ vs. IsOfDesks (join_read (map items vs)) opened) c.deref.ensures.value c.in_ok-read_all-in-Ok.ensures.read)

pub returns-in-Err-Long-clause-opened : goal.returns-in-Err-Long-clause-opened
returns-in-Err-Long-clause-opened g c = desks_long (g.F.Files.contents c.args.files.now) (texts c.args.names.now) _ _ (c.in-Err-Long.ensures.long (cc))
