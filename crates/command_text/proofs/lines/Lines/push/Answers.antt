use Rattle.std.proofs.Common.{◌≡◌, ◌+◌, ◌==◌, false, length, ap, arith, length-append}
use Rattle.std.proofs.lemmas.List.Elements.{All-append}
use Rattle.command_text.proofs.HeldLemmas.{parts_more, rise_more}
use Rattle.command_text.proofs.lines.Lines.push.Goals as goal

pub invariant_of-self-2 : goal.invariant_of-self-2
invariant_of-self-2 c =
    let bytes = c.self.inside.bytes.items in
    let ends = c.self.inside.ends.items in
    let line = c.args.line.now in
    let own = c.extend_from_slice.new.self.ok.0 in
    let last : c.len.result ≡ length bytes + length line = omega (arith, own, c.len.ensures, ap length c.in_ok-extend_from_slice.ensures.items, length-append bytes line) in
    rw (c.push_reserved.ensures.items, c.reserve.ensures.items, c.in_ok-extend_from_slice.ensures.items, last) (record {
      rise = rw (length-append bytes line) (rise_more 0 ends (length bytes) (length bytes + length line) c.self.invariant.rise (omega arith));
      no_feed = All-append (λ byte. (byte == 10) ≡ false) bytes line c.self.invariant.no_feed c.requires.no_line_feed;
    })

pub returns-clause-ok : goal.returns-clause-ok
returns-clause-ok c =
    let bytes = c.self.inside.bytes.items in
    let ends = c.self.inside.ends.items in
    let own = c.extend_from_slice.new.self.ok.0 in
    let last : c.len.result ≡ length bytes + length c.args.line.now = omega (arith, own, c.len.ensures, ap length c.in_ok-extend_from_slice.ensures.items, length-append bytes c.args.line.now) in
    rw (c.push_reserved.ensures.items, c.reserve.ensures.items, c.in_ok-extend_from_slice.ensures.items, last, ← c.self.view_is) (parts_more 0 ends bytes c.args.line.now c.self.invariant.rise)
