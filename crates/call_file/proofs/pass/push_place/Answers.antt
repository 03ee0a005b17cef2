use Rattle.std.proofs.Common.{◌≡◌, ◌++◌, Some, option_map, map, ap, sym, ◌∙◌}
use Rattle.std.proofs.lemmas.Result.{IfOk-weaker}
use Rattle.std.specs.List.{cons_option}
use Rattle.command_text.specs.Printing.{command_line}
use Rattle.call_file.specs.declared.settings.Version.TheVariants as version
use Rattle.call_file.specs.Opening.{place_of}
use Rattle.call_file.specs.Pass.{given_in, places_due}
use Rattle.call_file.proofs.PlaceLemmas.{denied, given_again, given_always, given_first, not_denied}
use Rattle.call_file.proofs.pass.push_place.Goals as goal

pub returns-in-First : goal.returns-in-First
returns-in-First c =
    let entry = c.args.entry.now in
    let place_is : place_of entry ≡ Some (entry.person, c.in-Some.cluster) = ap (option_map (λ cluster. (entry.person, cluster))) c.in-Some.is in
    rw c.in-First.is (IfOk-weaker c.push.result _ _ (λ _ is more.
    given_always (given_in c.args.given.now) (given_in c.args.given.now) (entry.person, c.in-Some.cluster) c.args.opening.now c.push.new.self is more
    ∙ ap (λ o. c.args.opening.now ++ map command_line (places_due version.First (given_in c.args.given.now) (cons_option o more))) (sym place_is)) c.push.ensures)

pub returns-then-branch : goal.returns-then-branch
returns-then-branch c =
    let entry = c.args.entry.now in
    let place_is : place_of entry ≡ Some (entry.person, c.in-Some.cluster) = ap (option_map (λ cluster. (entry.person, cluster))) c.in-Some.is in
    let was = denied _ _ c.in_ok-insert-in-Second.ensures.added c.if-branch.true in
    rw c.in-Second.is (IfOk-weaker c.push-then-branch.result _ _ (λ _ is more.
    given_first c.args.given.now c.insert.new.self (entry.person, c.in-Some.cluster) c.in_ok-insert-in-Second.ensures.updates c.args.opening.now c.push-then-branch.new.self was is more
    ∙ ap (λ o. c.args.opening.now ++ map command_line (places_due version.Second (given_in c.args.given.now) (cons_option o more))) (sym place_is)) c.push-then-branch.ensures)

pub returns-else-branch : goal.returns-else-branch
returns-else-branch c =
    let entry = c.args.entry.now in
    let place_is : place_of entry ≡ Some (entry.person, c.in-Some.cluster) = ap (option_map (λ cluster. (entry.person, cluster))) c.in-Some.is in
    let was = not_denied _ _ c.in_ok-insert-in-Second.ensures.added c.if-branch.false in
    rw c.in-Second.is (λ more.
    given_again c.args.given.now c.insert.new.self (entry.person, c.in-Some.cluster) c.in_ok-insert-in-Second.ensures.updates c.args.opening.now was more
    ∙ ap (λ o. c.args.opening.now ++ map command_line (places_due version.Second (given_in c.args.given.now) (cons_option o more))) (sym place_is))
