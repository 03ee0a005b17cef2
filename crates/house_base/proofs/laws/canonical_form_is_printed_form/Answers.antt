use Rattle.house_base.proofs.Digits.{number_up_to-decimal, decimal-number_up_to}
use Rattle.house_base.proofs.laws.canonical_form_is_printed_form.Goals as goal

pub returns-clause-printed : goal.returns-clause-printed
returns-clause-printed c = number_up_to-decimal

pub returns-clause-only : goal.returns-clause-only
returns-clause-only c = decimal-number_up_to
