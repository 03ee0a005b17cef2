use Rattle.std.proofs.Common.{arith, sym, subst, length, ◌≤◌}
use Rattle.std.specs.Prelude.{IfOk}
use Rattle.house_model.specs.declared.limits.TheConstants.{MOST_BYTES}
use Rattle.call_file.specs.Opening.{opened}
use Rattle.house_top.specs.Opened.{IsOpened}
use Rattle.house_top.specs.Opening.{by_grammar}
use Rattle.house_top.proofs.LoadLemmas.{long_counted, opened_long, read_files, read_long}
use Rattle.house_top.proofs.opening.open_files.Goals as goal

pub load_both-requires-clause-call : goal.load_both-requires-clause-call
load_both-requires-clause-call g c = c.requires.call

pub load_both-requires-clause-register : goal.load_both-requires-clause-register
load_both-requires-clause-register g c = c.requires.register

pub returns-in-Ok-clause-opened : goal.returns-in-Ok-clause-opened
returns-in-Ok-clause-opened g c =
    let read = subst (λ register. IfOk c.read_both.result (IsOpened (by_grammar (opened c.in-Ok.call.items register)))) c.deref-in-Ok.ensures.value
    (subst (λ call. IfOk c.read_both.result (IsOpened (by_grammar (opened call c.deref-in-Ok.result.now)))) c.deref.ensures.value c.read_both.ensures.opened) in
    read_files (g.F.Files.contents c.args.files.now) c.args.call.now c.args.register.now c.in-Ok.call.items c.in-Ok.register.items c.read_both.result c.in-Ok.ensures.loaded read

pub returns-in-Ok-clause-few : goal.returns-in-Ok-clause-few
returns-in-Ok-clause-few g c =
    c.read_both.ensures.few (subst (λ register. length register ≤ MOST_BYTES) (sym c.deref-in-Ok.ensures.value) (omega (arith, c.in-Ok.ensures.short, c.in-Ok.register.ok.0)))

pub returns-in-Ok-clause-too_long : goal.returns-in-Ok-clause-too_long
returns-in-Ok-clause-too_long g c = read_long c.deref.result.now c.deref-in-Ok.result.now c.read_both.result _ c.read_both.ensures.opened

pub returns-in-Ok-clause-failed : goal.returns-in-Ok-clause-failed
returns-in-Ok-clause-failed g c = λ is. absurd (c.read_both.ensures.never_failed is)

pub returns-in-Ok-clause-unchanged : goal.returns-in-Ok-clause-unchanged
returns-in-Ok-clause-unchanged g c = c.in-Ok.ensures.unchanged

pub returns-in-Err-Long-clause-opened : goal.returns-in-Err-Long-clause-opened
returns-in-Err-Long-clause-opened g c = opened_long (g.F.Files.contents c.args.files.now) c.args.call.now c.args.register.now _ _ (c.in-Err-Long.ensures.long (cc))

pub returns-in-Err-Long-clause-too_long : goal.returns-in-Err-Long-clause-too_long
returns-in-Err-Long-clause-too_long g c = λ is none. long_counted _ (g.F.Files.contents c.args.files.now) _ _ (c.in-Err-Long.ensures.long (cc)) none

pub returns-in-Err-Failed-clause-failed : goal.returns-in-Err-Failed-clause-failed
returns-in-Err-Failed-clause-failed g c = λ is. c.in-Err-Failed.ensures.failed (cc)
