use Rattle.std.proofs.Common.{◌≡◌, true, sym, ◌∙◌, arith}
use Rattle.std.specs.Str.{IsUtf8}
use Rattle.std.specs.Str.Parse.{ParsesUnsigned}
use Rattle.std.proofs.lemmas.Grind.{common_steps}
use Rattle.house_base.specs.Number.{is_canonical}
use Rattle.house_base.proofs.Digits.{number_up_to_other, IsUtf8-is_canonical, number_up_to_unread, number_up_to_read}
use Rattle.house_base.proofs.number.read_number.Goals as goal

pub returns-then-not-is_canonical : goal.returns-then-not-is_canonical
returns-then-not-is_canonical c = number_up_to_other _ _ (sym c.is_canonical.ensures ∙ c.if-not-is_canonical.true)

pub returns-in_err-digits : goal.returns-in_err-digits
returns-in_err-digits c =
    let canonical : is_canonical c.args.text.now ≡ true = sym c.is_canonical.ensures ∙ c.if-not-is_canonical.false in
    let utf8 : IsUtf8 c.args.text.now = IsUtf8-is_canonical _ canonical in
    absurd (grind (arith, common_steps))

pub returns-in_err-number : goal.returns-in_err-number
returns-in_err-number c =
    let canonical : is_canonical c.args.text.now ≡ true = sym c.is_canonical.ensures ∙ c.if-not-is_canonical.false in
    let same : c.in_ok-digits.digits.now ≡ c.args.text.now = grind (arith, common_steps) in
    let parses : ParsesUnsigned 64 10 c.args.text.now c.parse.result = rw same at c.parse.ensures.value.0 in
    c.from_residual-in_err-number.ensures ∙ number_up_to_unread _ _ c.parse.result (omega arith) canonical parses (sym c.ok-2.ensures.value ∙ c.in_err-number.was)

pub returns : goal.returns
returns c =
    let canonical : is_canonical c.args.text.now ≡ true = sym c.is_canonical.ensures ∙ c.if-not-is_canonical.false in
    let same : c.in_ok-digits.digits.now ≡ c.args.text.now = grind (arith, common_steps) in
    let parses : ParsesUnsigned 64 10 c.args.text.now c.parse.result = rw same at c.parse.ensures.value.0 in
    c.then_some.ensures ∙ number_up_to_read _ _ c.parse.result c.in_ok-number.number canonical parses (sym c.ok-2.ensures.value ∙ c.in_ok-number.was)
