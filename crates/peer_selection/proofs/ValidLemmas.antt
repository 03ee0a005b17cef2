use Rattle.std.proofs.Common.{◌≡◌, ℕ, ◌<◌, Bool, true, false, ◌&&◌, ◌||◌, not, eqb, IsTrue, ◌↔◌, refl, sym, ◌∙◌}
use Rattle.std.proofs.lemmas.Bool.{true≢false, and_parts, and_from, eqb-true, eq-eqb}
use Rattle.house_base.specs.Setting.{Setting, size, need, may}
use Rattle.peer_selection.specs.Counting.{count_below, all_below}
use Rattle.peer_selection.specs.Profile.{Pairs, is_valid}
use Rattle.peer_selection.specs.Laws.{IsValid}
use Rattle.peer_selection.proofs.CountingLemmas.{all_below-each, all_below-from}

-- A valid assignment, fact by fact.

-- the three tests of an assignment
pairs_permitted : Setting → Pairs → Bool
pairs_permitted s pairs = all_below (λ r. all_below (λ p. not (pairs r p) || may s r p) (size s)) (size s)

reviews_owed : Setting → Pairs → Bool
reviews_owed s pairs = all_below (λ r. eqb (count_below (pairs r) (size s)) (need s r)) (size s)

reviews_got : Setting → Pairs → Bool
reviews_got s pairs = all_below (λ p. eqb (count_below (λ r. pairs r p) (size s)) s.reviews) (size s)

is_valid-tests : (s : Setting) (pairs : Pairs) → is_valid s pairs ≡ ((pairs_permitted s pairs && reviews_owed s pairs) && reviews_got s pairs)
unfolding is_valid pairs_permitted reviews_owed reviews_got
is_valid-tests s pairs = refl

implied : (a b : Bool) → (not a || b) ≡ true → a ≡ true → b ≡ true
implied true b h e = h
implied false b h e = absurd (true≢false (sym e))

implies : (a b : Bool) → (a ≡ true → b ≡ true) → (not a || b) ≡ true
implies true b h = h refl
implies false b h = refl

permitted-each : (s : Setting) (pairs : Pairs) → pairs_permitted s pairs ≡ true → (r p : ℕ) → r < size s → p < size s → pairs r p ≡ true → may s r p ≡ true
unfolding pairs_permitted
permitted-each s pairs h r p rl pl =
    implied (pairs r p) (may s r p)
    (all_below-each (λ p. not (pairs r p) || may s r p) (size s) (all_below-each (λ r. all_below (λ p. not (pairs r p) || may s r p) (size s)) (size s) h r rl) p pl)

permitted-from : (s : Setting) (pairs : Pairs) → ((r p : ℕ) → r < size s → p < size s → pairs r p ≡ true → may s r p ≡ true) → pairs_permitted s pairs ≡ true
unfolding pairs_permitted
permitted-from s pairs h =
    all_below-from (λ r. all_below (λ p. not (pairs r p) || may s r p) (size s)) (size s) (λ r rl.
    all_below-from (λ p. not (pairs r p) || may s r p) (size s) (λ p pl. implies (pairs r p) (may s r p) (h r p rl pl)))

owed-each : (s : Setting) (pairs : Pairs) → reviews_owed s pairs ≡ true → (r : ℕ) → r < size s → count_below (pairs r) (size s) ≡ need s r
unfolding reviews_owed
owed-each s pairs h r rl = eqb-true (count_below (pairs r) (size s)) (need s r) (all_below-each (λ r. eqb (count_below (pairs r) (size s)) (need s r)) (size s) h r rl)

owed-from : (s : Setting) (pairs : Pairs) → ((r : ℕ) → r < size s → count_below (pairs r) (size s) ≡ need s r) → reviews_owed s pairs ≡ true
unfolding reviews_owed
owed-from s pairs h = all_below-from (λ r. eqb (count_below (pairs r) (size s)) (need s r)) (size s) (λ r rl. eq-eqb (count_below (pairs r) (size s)) (need s r) (h r rl))

got-each : (s : Setting) (pairs : Pairs) → reviews_got s pairs ≡ true → (p : ℕ) → p < size s → count_below (λ r. pairs r p) (size s) ≡ s.reviews
unfolding reviews_got
got-each s pairs h p pl = eqb-true (count_below (λ r. pairs r p) (size s)) s.reviews (all_below-each (λ p. eqb (count_below (λ r. pairs r p) (size s)) s.reviews) (size s) h p pl)

got-from : (s : Setting) (pairs : Pairs) → ((p : ℕ) → p < size s → count_below (λ r. pairs r p) (size s) ≡ s.reviews) → reviews_got s pairs ≡ true
unfolding reviews_got
got-from s pairs h = all_below-from (λ p. eqb (count_below (λ r. pairs r p) (size s)) s.reviews) (size s) (λ p pl. eq-eqb (count_below (λ r. pairs r p) (size s)) s.reviews (h p pl))

pub is_valid-each : (s : Setting) (pairs : Pairs) → IsTrue (is_valid s pairs) → IsValid s pairs
is_valid-each s pairs h =
    let last = and_parts (pairs_permitted s pairs && reviews_owed s pairs) (reviews_got s pairs) (sym (is_valid-tests s pairs) ∙ h) in
    let first = and_parts (pairs_permitted s pairs) (reviews_owed s pairs) last.0 in
    record { permitted = permitted-each s pairs first.0; owed = owed-each s pairs first.1; reviewed = got-each s pairs last.1 }

pub is_valid-from : (s : Setting) (pairs : Pairs) → IsValid s pairs → IsTrue (is_valid s pairs)
is_valid-from s pairs h =
    is_valid-tests s pairs
    ∙ and_from (pairs_permitted s pairs && reviews_owed s pairs) (reviews_got s pairs)
    (and_from (pairs_permitted s pairs) (reviews_owed s pairs) (permitted-from s pairs h.permitted) (owed-from s pairs h.owed)) (got-from s pairs h.reviewed)

-- the test of an assignment says just what a valid one is
pub is_valid-iff : (s : Setting) (pairs : Pairs) → IsTrue (is_valid s pairs) ↔ IsValid s pairs
is_valid-iff s pairs = (is_valid-each s pairs, is_valid-from s pairs)
