use Rattle.std.proofs.Common.{◌≡◌, ap, ◌∙◌, arith}
use Rattle.std.proofs.lemmas.Bool.{false≢true}
use Rattle.std.proofs.lemmas.Grind.{common_steps}
use Rattle.house_base.specs.Name.{is_name}
use Rattle.trial_file.specs.Trial.{trial_name}
use Rattle.trial_file.proofs.NameLemmas.{name_formed}
use Rattle.trial_file.proofs.names.trial_name.Goals as goal

pub unreachable-requires : goal.unreachable-requires
unreachable-requires c =
    let word : c.deref.result.now ≡ trial_name c.args.number = grind (arith, common_steps) in
    false≢true (c.in-None.ensures.form.1 (ap is_name word ∙ name_formed c.args.number c.requires))
