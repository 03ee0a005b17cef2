use Rattle.std.proofs.Common.{ap}
use Rattle.house_top.specs.declared.bad.Bad.TheVariants as bad
use Rattle.house_top.specs.declared.status.Status.TheVariants as status
use Rattle.house_top.specs.Opening.{status_of_refusal}
use Rattle.house_top.proofs.LoadLemmas.{few_opened, grammar_lines, grammar_refused}
use Rattle.house_top.proofs.opening.read_both.Goals as goal

pub returns-in-Ok-clause-opened : goal.returns-in-Ok-clause-opened
returns-in-Ok-clause-opened c = grammar_lines c.args.call.now c.args.register.now c.in-Ok.lines c.in-Ok.ensures.ok

pub returns-in-Ok-clause-few : goal.returns-in-Ok-clause-few
returns-in-Ok-clause-few c = λ fits. few_opened c.in-Ok.lines c.args.register.now c.in-Ok.ensures.few fits

pub returns-in-Err-BadToml-clause-opened : goal.returns-in-Err-BadToml-clause-opened
returns-in-Err-BadToml-clause-opened c =
    grammar_refused c.args.call.now c.args.register.now c.in-Err-BadToml.field-0 (status.BadFile bad.Toml) (c.in-Err-BadToml.ensures.refused (λ is. cc)) (cc)

pub returns-in-Err-BadKey-clause-opened : goal.returns-in-Err-BadKey-clause-opened
returns-in-Err-BadKey-clause-opened c =
    grammar_refused c.args.call.now c.args.register.now c.in-Err-BadKey.field-0 (status.BadFile (bad.Key c.in-Err-BadKey.key)) (c.in-Err-BadKey.ensures.refused (λ is. cc)) (ap status_of_refusal c.in-Err-BadKey.field-0-is)

pub returns-in-Err-BadRegister-clause-opened : goal.returns-in-Err-BadRegister-clause-opened
returns-in-Err-BadRegister-clause-opened c =
    grammar_refused c.args.call.now c.args.register.now c.in-Err-BadRegister.field-0 (status.BadFile (bad.Entry c.in-Err-BadRegister.number)) (c.in-Err-BadRegister.ensures.refused (λ is. cc)) (ap status_of_refusal c.in-Err-BadRegister.field-0-is)
