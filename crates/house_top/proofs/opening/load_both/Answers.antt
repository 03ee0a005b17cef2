use Rattle.std.proofs.Common.{◌∙◌, arith}
use Rattle.house_top.proofs.LoadLemmas.{both_loaded, first_long, second_failed, second_long}
use Rattle.house_top.proofs.opening.load_both.Goals as goal

pub load-requires : goal.load-requires
load-requires g c = c.requires.call

pub load-requires-in-Ok : goal.load-requires-in-Ok
load-requires-in-Ok g c = c.in-Ok.ensures.ready c.args.register.now c.requires.register

pub returns-in-Ok-load-clause-loaded : goal.returns-in-Ok-load-clause-loaded
returns-in-Ok-load-clause-loaded g c =
    both_loaded (g.F.Files.contents c.args.files.now) (g.F.Files.contents c.load.new.self) c.args.call.now c.args.register.now c.in-Ok.call.items c.in-Ok-load.register.items c.in-Ok.ensures.unchanged
    c.in-Ok.ensures.content c.in-Ok-load.ensures.content (omega (arith, c.in-Ok.ensures.short, c.in-Ok.call.ok.0)) (omega (arith, c.in-Ok-load.ensures.short, c.in-Ok-load.register.ok.0))

pub returns-in-Ok-load-clause-short : goal.returns-in-Ok-load-clause-short
returns-in-Ok-load-clause-short g c = c.in-Ok-load.ensures.short

pub returns-in-Ok-load-clause-long : goal.returns-in-Ok-load-clause-long
returns-in-Ok-load-clause-long g c = λ is. absurd (let wrong : ⊥ = cc in wrong)

pub returns-in-Ok-load-clause-failed : goal.returns-in-Ok-load-clause-failed
returns-in-Ok-load-clause-failed g c = λ is. absurd (let wrong : ⊥ = cc in wrong)

pub returns-in-Ok-load-clause-unchanged : goal.returns-in-Ok-load-clause-unchanged
returns-in-Ok-load-clause-unchanged g c = c.in-Ok-load.ensures.unchanged ∙ c.in-Ok.ensures.unchanged

pub returns-in-Err-load-clause-long : goal.returns-in-Err-load-clause-long
returns-in-Err-load-clause-long g c = λ is.
    second_long (g.F.Files.contents c.args.files.now) (g.F.Files.contents c.load.new.self) c.args.call.now c.args.register.now c.in-Ok.call.items _ _ _ c.in-Ok.ensures.unchanged c.in-Ok.ensures.content
    (omega (arith, c.in-Ok.ensures.short, c.in-Ok.call.ok.0)) c.in-Ok.ensures.never_falls (c.in-Err-load.ensures.long (cc))

pub returns-in-Err-load-clause-failed : goal.returns-in-Err-load-clause-failed
returns-in-Err-load-clause-failed g c = λ is. second_failed _ _ _ c.in-Ok.ensures.never_falls (c.in-Err-load.ensures.failed (cc))

pub returns-in-Err-load-clause-unchanged : goal.returns-in-Err-load-clause-unchanged
returns-in-Err-load-clause-unchanged g c = c.in-Err-load.ensures.unchanged ∙ c.in-Ok.ensures.unchanged

pub returns-in-Err-clause-long : goal.returns-in-Err-clause-long
returns-in-Err-clause-long g c = λ is. first_long (g.F.Files.contents c.args.files.now) c.args.call.now c.args.register.now _ _ (c.in-Err.ensures.long (cc))

pub returns-in-Err-clause-failed : goal.returns-in-Err-clause-failed
returns-in-Err-clause-failed g c = λ is. c.in-Err.ensures.failed (cc)

pub returns-in-Err-clause-unchanged : goal.returns-in-Err-clause-unchanged
returns-in-Err-clause-unchanged g c = c.in-Err.ensures.unchanged
