use Rattle.register_book.proofs.PairLemmas.{IsPairList-push}
use Rattle.register_book.proofs.pair_list.PairList.add.Goals as goal

pub invariant_of-self-2 : goal.invariant_of-self-2
invariant_of-self-2 c =
    IsPairList-push c.self.inside.pairs.items c.push.new.self.items c.self.inside.rows c.set.new.self c.args.person c.args.applicant c.self.invariant
    c.in_ok-push.ensures.items c.set.ensures.bits
