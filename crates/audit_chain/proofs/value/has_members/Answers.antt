use Rattle.std.proofs.Common.{sym, ap, ◌∙◌, nat_eq, false}
use Rattle.std.specs.Option.{option_map, option_map_or}
use Rattle.serde_json.specs.Events.{members_len}
use Rattle.serde_json.specs.View.{members_view}
use Rattle.serde_json.proofs.Views.{members_len-members_view}
use Rattle.audit_chain.proofs.value.has_members.Goals as goal

pub returns-in-Some : goal.returns-in-Some
returns-in-Some c =
    let found = sym (ap (option_map (λ m. members_view m.now.entries)) c.in-Some.is) ∙ c.as_object.ensures in
    ap (λ n. nat_eq n c.args.count) (c.len.ensures.len ∙ sym (members_len-members_view c.in-Some.members.now.entries))
    ∙ ap (λ o. option_map_or (λ m. nat_eq (members_len m) c.args.count) o false) found
