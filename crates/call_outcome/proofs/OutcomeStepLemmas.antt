-- Steps of counts and of lists.
use Rattle.std.proofs.Common.{◌≡◌, ◌≢◌, ℕ, ◌+◌, ◌<◌, ◌≤◌, Bool, List, ◌++◌, length, take, drop, get_or, set, ap, ◌∙◌, arith, below_more}
use Rattle.std.proofs.lemmas.List.{get_or-set_same, get_or-set_other, take_all, take-append-le}
use Rattle.peer_selection.specs.Counting.{count_below}
use Rattle.peer_selection.proofs.CountingLemmas.{one_if, count_below-add_one}

-- one more number, which passes a test or not
pub counted : (test : ℕ → Bool) (n before after : ℕ) (b : Bool) → test n ≡ b → before ≡ count_below test n → after ≡ before + one_if b → after ≡ count_below test (n + 1)
counted test n before after b h e f = omega (arith, count_below-add_one test n, ap one_if h)

-- a write behind a front that agrees with a function lengthens it
pub set_more : (xs : List ℕ) (i v : ℕ) (f : ℕ → ℕ) → i < length xs → ((k : ℕ) → k < i → get_or xs k 0 ≡ f k) → v ≡ f i → (k : ℕ) → k < i + 1 → get_or (set xs i v) k 0 ≡ f k
set_more xs i v f l h e =
    below_more (λ k. get_or (set xs i v) k 0 ≡ f k) i
    (λ k b. let ne : k ≢ i = omega arith in get_or-set_other xs i k v 0 ne ∙ h k b)
    (get_or-set_same xs i v 0 l ∙ e)

-- ... and leaves what stands behind it
pub set_later : (xs : List ℕ) (i v k : ℕ) → i + 1 ≤ k → get_or (set xs i v) k 0 ≡ get_or xs k 0
set_later xs i v k h = let ne : k ≢ i = omega arith in get_or-set_other xs i k v 0 ne

-- a slice of a whole vector, written back
pub written_back : (new items : List ℕ) (len : ℕ) → length new ≡ len → length items ≡ len → take len (new ++ drop (length new) items) ≡ new
written_back new items len e h = take-append-le len new (drop (length new) items) (omega arith) ∙ take_all len new (omega arith)
