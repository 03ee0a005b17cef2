use Rattle.std.proofs.Common.{◌≡◌, ◌≤◌, ◌<◌, ◌-◌, ◌∷◌, length, get_or, take, sym, ap, ◌∙◌, arith, rules, ◌==◌, false, length-take}
use Rattle.std.proofs.lemmas.List.{length-take-le}
use Rattle.std.proofs.lemmas.List.Elements.{All-take}
use Rattle.command_text.proofs.HeldLemmas.{length-parts_from, parts_less, rise_less, rise_at}
use Rattle.command_text.proofs.lines.Lines.remove_last.Goals as goal

pub invariant_of-self : goal.invariant_of-self
invariant_of-self c =
    let inside = c.self.inside in
    let bytes = inside.bytes.items in
    let ends = inside.ends.items in
    let n = length ends - 1 in
    let some : 0 < length ends = omega (arith, length-parts_from 0 ends bytes, ap length c.self.view_is, c.requires) in
    let within : n ≤ length ends = omega arith in
    let start = get_or (0 ∷ ends) n 0 in
    let low : start ≤ length bytes = omega (arith, rise_at 0 ends (length bytes) n c.self.invariant.rise (omega (arith, some))) in
    let own = inside.ends.ok.0 in
    let last : c.len-last.result - 1 ≡ n = omega (arith, own, c.len-last.ensures) in
    let start_is : c.start_of-start.result ≡ start =
    c.start_of-start.ensures ∙ ap (λ xs. get_or (0 ∷ xs) (c.len-last.result - 1) 0) c.deref.ensures.value ∙ ap (λ k. get_or (0 ∷ ends) k 0) last in
    let bytes_are : c.truncate.new.self.items ≡ take start bytes = c.truncate.ensures.items ∙ ap (λ k. take k bytes) start_is in
    let ends_are : c.truncate-2.new.self.items ≡ take n ends = c.truncate-2.ensures.items ∙ ap (λ k. take k ends) last in
    rw (bytes_are, ends_are) (record {
      rise = rw (length-take-le start bytes low) (rise_less 0 ends (length bytes) n c.self.invariant.rise within);
      no_feed = All-take (λ byte. (byte == 10) ≡ false) start bytes c.self.invariant.no_feed;
    })

pub returns : goal.returns
returns c =
    let inside = c.self.inside in
    let bytes = inside.bytes.items in
    let ends = inside.ends.items in
    let n = length ends - 1 in
    let some : 0 < length ends = omega (arith, length-parts_from 0 ends bytes, ap length c.self.view_is, c.requires) in
    let within : n ≤ length ends = omega arith in
    let start = get_or (0 ∷ ends) n 0 in
    let own = inside.ends.ok.0 in
    let last : c.len-last.result - 1 ≡ n = omega (arith, own, c.len-last.ensures) in
    let start_is : c.start_of-start.result ≡ start =
    c.start_of-start.ensures ∙ ap (λ xs. get_or (0 ∷ xs) (c.len-last.result - 1) 0) c.deref.ensures.value ∙ ap (λ k. get_or (0 ∷ ends) k 0) last in
    let bytes_are : c.truncate.new.self.items ≡ take start bytes = c.truncate.ensures.items ∙ ap (λ k. take k bytes) start_is in
    let ends_are : c.truncate-2.new.self.items ≡ take n ends = c.truncate-2.ensures.items ∙ ap (λ k. take k ends) last in
    let count : n ≡ length c.args.self.now - 1 = omega (arith, length-parts_from 0 ends bytes, ap length c.self.view_is) in
    rw (bytes_are, ends_are) (parts_less 0 ends bytes (length bytes) n c.self.invariant.rise within)
    ∙ ap (take n) c.self.view_is ∙ ap (λ k. take k c.args.self.now) count
