use Rattle.std.proofs.Common.{◌≡◌, ℕ, Bool, ◌&&◌, get_or, length-set, refl, ◌∙◌, arith}
use Rattle.assign_flow.proofs.PlaceLemmas.{one, one-and, has-joined, words-more}
use Rattle.assign_flow.proofs.places.PlaceSet.and.Goals as goal

pub returns : goal.returns
returns c = has-joined (λ a b. a && b) c.args.self.now.words c.args.other.now.words c.loop-at.words refl (omega arith) (omega arith) c.loop-at.invariant.len (λ k i kl il. c.loop-at.invariant.bits k i (omega arith) il)

pub loop-at-preserved : goal.loop-at-preserved
loop-at-preserved c =
    let xs = c.args.self.now.words in
    let ys = c.args.other.now.words in
    let at = c.loop-at.at in
    let P : ℕ → ℕ → Bool → Type 0 = λ k i b. b ≡ (one (get_or xs k 0) i && one (get_or ys k 0) i) in
    record {
      len = length-set c.loop-at.words at _ ∙ c.loop-at.invariant.len;
      bits = words-more P c.loop-at.words at _ (omega arith) c.loop-at.invariant.bits (λ i il. one-and (get_or xs at 0) (get_or ys at 0) i);
    }
