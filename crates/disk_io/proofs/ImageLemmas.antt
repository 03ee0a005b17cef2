-- An image behind a write is one from before it, torn in its range.
use Rattle.std.proofs.Common.{◌≡◌, ◌⊎◌, inl, inr, ⊎_elim, ℕ, zero, suc, ◌+◌, ◌≤◌, ◌<◌, ◌&&◌, ◌||◌, max, false, nat_le, nat_lt, List, [], ◌∷◌, length, get_or, take, drop, refl, sym, ◌∙◌, ap, arith}
use Rattle.std.proofs.lemmas.List.{drop_all, length-take-le, get_or-take, take-take}
use Rattle.std.proofs.lemmas.Bool.Decides.{nat_tests}
use Rattle.disk_io.specs.Disk.{Torn}
use Rattle.disk_io.specs.Images.{IsImage, OnDisk, with_range, is_inside, end_of}
use Rattle.disk_io.specs.Laws.{below_or}

-- c, but in a range what other has, where it has something
pub overlay : ℕ → ℕ → List ℕ → List ℕ → List ℕ
overlay zero zero c other = c
overlay zero (suc n) [] other = []
overlay zero (suc n) (x ∷ c) [] = x ∷ c
overlay zero (suc n) (x ∷ c) (y ∷ other) = y ∷ overlay zero n c other
overlay (suc at) n [] other = []
overlay (suc at) n (x ∷ c) [] = x ∷ c
overlay (suc at) n (x ∷ c) (y ∷ other) = x ∷ overlay at n c other

length-overlay : (at n : ℕ) (c other : List ℕ) → length (overlay at n c other) ≡ length c
unfolding overlay
length-overlay zero zero c other = refl
length-overlay zero (suc n) [] other = refl
length-overlay zero (suc n) (x ∷ c) [] = refl
length-overlay zero (suc n) (x ∷ c) (y ∷ other) = ap suc (length-overlay zero n c other)
length-overlay (suc at) n [] other = refl
length-overlay (suc at) n (x ∷ c) [] = refl
length-overlay (suc at) n (x ∷ c) (y ∷ other) = ap suc (length-overlay at n c other)

front-overlay : (at n : ℕ) (c other : List ℕ) → take at (overlay at n c other) ≡ take at c
unfolding overlay
front-overlay zero n c other = refl
front-overlay (suc at) n [] other = refl
front-overlay (suc at) n (x ∷ c) [] = refl
front-overlay (suc at) n (x ∷ c) (y ∷ other) = ap (λ (l : List ℕ). x ∷ l) (front-overlay at n c other)

behind-overlay : (at n k : ℕ) (c other : List ℕ) → at + n ≤ k → drop k (overlay at n c other) ≡ drop k c
unfolding overlay
behind-overlay zero zero k c other le = refl
behind-overlay zero (suc n) k [] other le = refl
behind-overlay zero (suc n) k (x ∷ c) [] le = refl
behind-overlay zero (suc n) zero (x ∷ c) (y ∷ other) le = absurd (omega (arith, le))
behind-overlay zero (suc n) (suc k) (x ∷ c) (y ∷ other) le = behind-overlay zero n k c other (omega (arith, le))
behind-overlay (suc at) n k [] other le = refl
behind-overlay (suc at) n k (x ∷ c) [] le = refl
behind-overlay (suc at) n zero (x ∷ c) (y ∷ other) le = absurd (omega (arith, le))
behind-overlay (suc at) n (suc k) (x ∷ c) (y ∷ other) le = behind-overlay at n k c other (omega (arith, le))

-- at a place outside the range it is c
outside-overlay : (at n : ℕ) (c other : List ℕ) (i : ℕ) → (i < at) ⊎ (at + n ≤ i) → get_or (overlay at n c other) i 0 ≡ get_or c i 0
unfolding overlay
outside-overlay zero zero c other i out = refl
outside-overlay zero (suc n) [] other i out = refl
outside-overlay zero (suc n) (x ∷ c) [] i out = refl
outside-overlay zero (suc n) (x ∷ c) (y ∷ other) zero (inl low) = absurd (omega (arith, low))
outside-overlay zero (suc n) (x ∷ c) (y ∷ other) zero (inr high) = absurd (omega (arith, high))
outside-overlay zero (suc n) (x ∷ c) (y ∷ other) (suc i) (inl low) = absurd (omega (arith, low))
outside-overlay zero (suc n) (x ∷ c) (y ∷ other) (suc i) (inr high) = outside-overlay zero n c other i (inr (omega (arith, high)))
outside-overlay (suc at) n [] other i out = refl
outside-overlay (suc at) n (x ∷ c) [] i out = refl
outside-overlay (suc at) n (x ∷ c) (y ∷ other) zero out = refl
outside-overlay (suc at) n (x ∷ c) (y ∷ other) (suc i) (inl low) = outside-overlay at n c other i (inl (omega (arith, low)))
outside-overlay (suc at) n (x ∷ c) (y ∷ other) (suc i) (inr high) = outside-overlay at n c other i (inr (omega (arith, high)))

-- at a place inside it is the other, where both have something
inside-overlay : (at n : ℕ) (c other : List ℕ) (i : ℕ) → at ≤ i → i < at + n → i < length c → i < length other → get_or (overlay at n c other) i 0 ≡ get_or other i 0
unfolding overlay
inside-overlay zero zero c other i low high here there = absurd (omega (arith, high))
inside-overlay zero (suc n) [] other i low high here there = absurd (omega (arith, here))
inside-overlay zero (suc n) (x ∷ c) [] i low high here there = absurd (omega (arith, there))
inside-overlay zero (suc n) (x ∷ c) (y ∷ other) zero low high here there = refl
inside-overlay zero (suc n) (x ∷ c) (y ∷ other) (suc i) low high here there = inside-overlay zero n c other i (omega arith) (omega (arith, high)) (omega (arith, here)) (omega (arith, there))
inside-overlay (suc at) n [] other i low high here there = absurd (omega (arith, here))
inside-overlay (suc at) n (x ∷ c) [] i low high here there = absurd (omega (arith, there))
inside-overlay (suc at) n (x ∷ c) (y ∷ other) zero low high here there = absurd (omega (arith, low))
inside-overlay (suc at) n (x ∷ c) (y ∷ other) (suc i) low high here there = inside-overlay at n c other i (omega (arith, low)) (omega (arith, high)) (omega (arith, here)) (omega (arith, there))

-- a place outside a range fails the test of that range
test-false : (at n i : ℕ) → (i < at) ⊎ (at + n ≤ i) → (nat_le at i && nat_lt i (at + n)) ≡ false
test-false at n i (inl low) = grind (arith, nat_tests, low)
test-false at n i (inr high) = grind (arith, nat_tests, high)

-- a place outside one more range
still-outside : (i at n : ℕ) (ranges : List (ℕ × ℕ)) → (i < at) ⊎ (at + n ≤ i) → is_inside i ranges ≡ false → is_inside i ((at, n) ∷ ranges) ≡ false
still-outside i at n ranges out old = ap (λ b. b || is_inside i ranges) (test-false at n i out) ∙ old

module _ (s : OnDisk) (at n : ℕ) (seen c : List ℕ) (here : IsImage s s.seen) (low : at ≤ length s.seen) (img : IsImage (with_range s at n seen) c) where
  -- the image from before: one that is as long, with what read then in the range
  torn-by : (c' : List ℕ) → length c' ≤ length c → length s.synced ≤ length c' → length c' ≤ end_of (length s.synced) s.ranges
      → ((i : ℕ) → i < length c' → get_or c' i 0 ≡ get_or c i 0) → take at c' ≡ take at c → drop (at + n) c' ≡ drop (at + n) c → length c ≤ max (length c') (at + n)
      → (d : List ℕ) × IsImage s d × Torn at n d c
  torn-by c' longer enough most get front back end =
      let d = overlay at n c' s.seen in
      let same-length = length-overlay at n c' s.seen in (
        d,
        record {
          no_shorter = omega (arith, same-length, enough);
          no_longer = omega (arith, same-length, most);
          same = λ i lt out. ⊎_elim
              (λ le. ⊎_elim
              (λ high. outside-overlay at n c' s.seen i (inr high) ∙ get i (omega (arith, lt, enough)) ∙ img.same i lt (still-outside i at n s.ranges (inr high) out))
              (λ inside. inside-overlay at n c' s.seen i le inside (omega (arith, lt, enough)) (omega (arith, lt, here.no_shorter)) ∙ here.same i lt out)
              (below_or (at + n) i))
              (λ less. outside-overlay at n c' s.seen i (inl less) ∙ get i (omega (arith, lt, enough)) ∙ img.same i lt (still-outside i at n s.ranges (inl less) out))
              (below_or at i);
        },
        record {
          before = sym (front-overlay at n c' s.seen ∙ front);
          after = sym (behind-overlay at n (at + n) c' s.seen (omega arith) ∙ back);
          no_shorter = omega (arith, same-length, longer);
          no_longer = omega (arith, same-length, end);
        },
      )

  -- where the write has made the image longer, the one from before ends at the old greatest end
  pub torn-from : (d : List ℕ) × IsImage s d × Torn at n d c
  torn-from =
      let most = end_of (length s.synced) s.ranges in
      ⊎_elim
      (λ within. torn-by c (omega arith) img.no_shorter within (λ i lt. refl) refl refl (omega arith))
      (λ beyond.
      let cut = length-take-le most c (omega (arith, beyond)) in
      torn-by (take most c) (omega (arith, cut, beyond)) (omega (arith, cut, here.no_shorter, here.no_longer)) (omega (arith, cut))
      (λ i lt. get_or-take most c i 0 (omega (arith, lt, cut)))
      (take-take at most c (omega (arith, low, here.no_longer)))
      (drop_all (at + n) (take most c) (omega (arith, cut, img.no_longer, beyond)) ∙ sym (drop_all (at + n) c (omega (arith, img.no_longer, beyond))))
      (omega (arith, img.no_longer, beyond)))
      (below_or (length c) most)

-- nothing is torn
pub torn_itself : (at n : ℕ) (c : List ℕ) → Torn at n c c
torn_itself at n c = record { before = refl; after = refl; no_shorter = omega arith; no_longer = omega arith }
