use Rattle.std.proofs.Common.{◌≡◌, ℕ, ◌<◌, ◌&&◌, ◌||◌, not, eqb, ap, ◌∙◌}
use Rattle.house_base.specs.Setting.{Setting, size, need, may}
use Rattle.peer_selection.specs.Counting.{count_below, all_below}
use Rattle.peer_selection.specs.Profile.{Pairs, is_valid}
use Rattle.peer_selection.proofs.CountingLemmas.{count_below-same, all_below-same}

-- What the pairs and the points say of the places of a setting decides all that is made of them.

-- two assignments agree on the places below n
abbrev pub SamePairs : ℕ → Pairs → Pairs → Type 0
SamePairs n a b = (r p : ℕ) → r < n → p < n → a r p ≡ b r p

-- one is valid just where the other is
pub is_valid-same : (s : Setting) (a b : Pairs) → SamePairs (size s) a b → is_valid s a ≡ is_valid s b
unfolding is_valid
is_valid-same s a b h =
    let n = size s in
    let permitted = λ (pairs : Pairs). all_below (λ r. all_below (λ p. not (pairs r p) || may s r p) n) n in
    let owed = λ (pairs : Pairs). all_below (λ r. eqb (count_below (pairs r) n) (need s r)) n in
    let got = λ (pairs : Pairs). all_below (λ p. eqb (count_below (λ r. pairs r p) n) s.reviews) n in
    let same_permitted : permitted a ≡ permitted b =
    all_below-same (λ r. all_below (λ p. not (a r p) || may s r p) n) (λ r. all_below (λ p. not (b r p) || may s r p) n) n (λ r rl.
    all_below-same (λ p. not (a r p) || may s r p) (λ p. not (b r p) || may s r p) n (λ p pl. ap (λ pair. not pair || may s r p) (h r p rl pl))) in
    let same_owed : owed a ≡ owed b =
    all_below-same (λ r. eqb (count_below (a r) n) (need s r)) (λ r. eqb (count_below (b r) n) (need s r)) n (λ r rl.
    ap (λ count. eqb count (need s r)) (count_below-same (a r) (b r) n (λ p pl. h r p rl pl))) in
    let same_got : got a ≡ got b =
    all_below-same (λ p. eqb (count_below (λ r. a r p) n) s.reviews) (λ p. eqb (count_below (λ r. b r p) n) s.reviews) n (λ p pl.
    ap (λ count. eqb count s.reviews) (count_below-same (λ r. a r p) (λ r. b r p) n (λ r rl. h r p rl pl))) in
    ap (λ test. (test && owed a) && got a) same_permitted
    ∙ (ap (λ test. (permitted b && test) && got a) same_owed
    ∙ ap (λ test. (permitted b && owed b) && test) same_got)
