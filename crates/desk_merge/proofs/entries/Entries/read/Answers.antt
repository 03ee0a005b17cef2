use Rattle.std.proofs.Common.{◌≡◌, ◌<◌, ◌++◌, ◌∷◌, [], true, false, length, sym, ap, ◌∙◌, subst, arith}
use Rattle.std.proofs.lemmas.Bool.{true≢false}
use Rattle.std.proofs.lemmas.Bool.Decides.{nat_tests}
use Rattle.std.specs.FinMap.{entries}
use Rattle.desk_merge.specs.Desk.{CanFollow, IsItem, entry_line}
use Rattle.desk_merge.specs.Entry.{item_of}
use Rattle.desk_merge.proofs.HeldLemmas.{item_on_line, one_front}
use Rattle.desk_merge.proofs.ReadLemmas.{behind_shorter, fault_here, few_lines, line_cut, read_more, read_none}
use Rattle.desk_merge.proofs.entries.Entries.read.Goals as goal

pub loop-rest-init : goal.loop-rest-init
loop-rest-init c = read_none c.args.bytes.now c.new-entries.result c.new-entries.ensures

pub next_line-requires : goal.next_line-requires
next_line-requires c =
    let some : 0 < length c.loop-rest.rest.now = grind (arith, nat_tests) in
    omega (arith, few_lines c.args.bytes.now c.loop-rest.rest.now c.loop-rest.entries c.loop-rest.invariant)

pub returns-in_default-clause-bad : goal.returns-in_default-clause-bad
returns-in_default-clause-bad c =
    let some : 0 < length c.loop-rest.rest.now = grind (arith, nat_tests) in
    λ line same.
    let number : c.next_line.result ≡ line = cc in
    fault_here c.args.bytes.now c.loop-rest.rest.now c.loop-rest.entries line c.loop-rest.invariant some (sym number ∙ c.next_line.ensures)
    (λ e behind formed follows is. c.in_default.ensures.none e behind formed is)

pub next_line-requires-then-not-can_follow : goal.next_line-requires-then-not-can_follow
next_line-requires-then-not-can_follow c =
    let some : 0 < length c.loop-rest.rest.now = grind (arith, nat_tests) in
    omega (arith, few_lines c.args.bytes.now c.loop-rest.rest.now c.loop-rest.entries c.loop-rest.invariant)

pub returns-then-not-can_follow-clause-bad : goal.returns-then-not-can_follow-clause-bad
returns-then-not-can_follow-clause-bad c =
    let some : 0 < length c.loop-rest.rest.now = grind (arith, nat_tests) in
    let no : c.can_follow.result ≡ false = c.if-not-can_follow.true in
    λ line same.
    let number : c.next_line-then-not-can_follow.result ≡ line = cc in
    fault_here c.args.bytes.now c.loop-rest.rest.now c.loop-rest.entries line c.loop-rest.invariant some (sym number ∙ c.next_line-then-not-can_follow.ensures)
    (λ e behind formed follows is.
    let same_item : e ≡ item_of c.in-Some.entry = one_front e (item_of c.in-Some.entry) behind c.in-Some.behind.now formed c.in-Some.ensures.formed (sym is ∙ c.in-Some.ensures.found) in
    let yes : c.can_follow.result ≡ true = c.can_follow.ensures.1 (subst (CanFollow (entries c.loop-rest.entries)) same_item follows) in
    true≢false (sym yes ∙ no))

pub loop-rest-smaller : goal.loop-rest-smaller
loop-rest-smaller c = behind_shorter c.loop-rest.rest.now c.in-Some.behind.now (item_of c.in-Some.entry) c.in-Some.ensures.found

pub push-requires-clause-line : goal.push-requires-clause-line
push-requires-clause-line c =
    let e = item_of c.in-Some.entry in
    let line = line_cut c.loop-rest.rest.now c.in-Some.behind.now e c.in-Some.ensures.found in
    line ∙ ap entry_line (sym (item_on_line _ e c.in-Some.ensures.formed line))

pub push-requires-clause-formed : goal.push-requires-clause-formed
push-requires-clause-formed c =
    let e = item_of c.in-Some.entry in
    let line = line_cut c.loop-rest.rest.now c.in-Some.behind.now e c.in-Some.ensures.found in
    subst IsItem (sym (item_on_line _ e c.in-Some.ensures.formed line)) c.in-Some.ensures.formed

pub push-requires-clause-behind : goal.push-requires-clause-behind
push-requires-clause-behind c =
    let e = item_of c.in-Some.entry in
    let line = line_cut c.loop-rest.rest.now c.in-Some.behind.now e c.in-Some.ensures.found in
    subst (CanFollow (entries c.loop-rest.entries)) (sym (item_on_line _ e c.in-Some.ensures.formed line)) (c.can_follow.ensures.0 c.if-not-can_follow.false)

pub loop-rest-preserved : goal.loop-rest-preserved
loop-rest-preserved c =
    let e = item_of c.in-Some.entry in
    let line = line_cut c.loop-rest.rest.now c.in-Some.behind.now e c.in-Some.ensures.found in
    read_more c.args.bytes.now c.loop-rest.rest.now c.in-Some.behind.now c.loop-rest.entries c.push.new.self e c.loop-rest.invariant c.in-Some.ensures.found c.in-Some.ensures.formed
    (c.in_ok-push.ensures.ok ∙ ap (λ x. entries c.loop-rest.entries ++ x ∷ []) (item_on_line _ e c.in-Some.ensures.formed line))
