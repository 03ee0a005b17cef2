use Rattle.std.proofs.Common.{◌<◌, [], length, get_or, ap, ◌∙◌, arith}
use Rattle.std.proofs.lemmas.List.{length-map, get_or-map, get_or_read}
use Rattle.register_book.specs.Roll.{persons_in, own_in}
use Rattle.register_book.proofs.roll.Roll.own_at.Goals as goal

pub index-requires : goal.index-requires
index-requires c =
    let xs = c.self.inside.applicants.items in
    omega (arith, c.requires, ap length c.self.invariant.own_are, length-map (persons_in xs) (own_in xs), ap (λ l. length (persons_in l)) c.self.view_is)

pub returns : goal.returns
returns c =
    let xs = c.self.inside.applicants.items in
    let person = c.args.person in
    let below : person < length (persons_in xs) = omega (arith, c.requires, ap (λ l. length (persons_in l)) c.self.view_is) in
    let inside : person < length c.self.inside.own.items = omega (arith, below, ap length c.self.invariant.own_are, length-map (persons_in xs) (own_in xs)) in
    get_or_read c.self.inside.own.items person c.index.result.now inside c.index.ensures 0
    ∙ (ap (λ l. get_or l person 0) c.self.invariant.own_are
    ∙ (get_or-map (own_in xs) (persons_in xs) person [] 0 below ∙ ap (λ l. own_in l (get_or (persons_in l) person [])) c.self.view_is))
