-- A file stands for one list of lines alone.
use Rattle.std.proofs.Common.{◌≡◌, inl, inr, ℕ, ◌≤◌, List, [], ◌∷◌, ◌++◌, length, take, drop, refl, sym, ◌∙◌, ap, arith, append_assoc, length-append}
use Rattle.std.proofs.lemmas.List.{take_at, drop_at, nil_from_length}
use Rattle.std.proofs.lemmas.Nat.{from_be_bytes-to_be_bytes_4}
use Rattle.std.specs.Int.{to_be_bytes, from_be_bytes, w32}
use Rattle.intake_log.specs.declared.limits.TheConstants.{MOST_LINE_BYTES}
use Rattle.intake_log.specs.Journal.{AreRecords, IsClosedAt, StandsFor}

-- four bytes determine a length
same-length : (n m : ℕ) → n ≤ MOST_LINE_BYTES → m ≤ MOST_LINE_BYTES → to_be_bytes w32 n ≡ to_be_bytes w32 m → n ≡ m
same-length n m low other e =
    sym (from_be_bytes-to_be_bytes_4 n (omega (arith, low))) ∙ ap (from_be_bytes w32) e ∙ from_be_bytes-to_be_bytes_4 m (omega (arith, other))

-- lines of one length, each with something behind it
same-line : (l m : List ℕ) (a b x y : List ℕ) → length l ≡ length m → (l ++ a) ++ x ≡ (m ++ b) ++ y → (l ≡ m) × (a ++ x ≡ b ++ y)
same-line l m a b x y n e =
    let whole : l ++ (a ++ x) ≡ m ++ (b ++ y) = sym (append_assoc l a x) ∙ e ∙ append_assoc m b y in (
      sym (take_at l (a ++ x) (length l) refl) ∙ ap (take (length l)) whole ∙ take_at m (b ++ y) (length l) (sym n),
      sym (drop_at l (a ++ x) (length l) refl) ∙ ap (drop (length l)) whole ∙ drop_at m (b ++ y) (length l) (sym n),
    )

pub same-records : (r s b d : List ℕ) (lines others : List (List ℕ)) → AreRecords r lines → AreRecords s others → r ++ 0 ∷ b ≡ s ++ 0 ∷ d → lines ≡ others
same-records r s b d [] [] hold held e = refl
same-records r s b d [] (m ∷ others) hold held e =
    let heads : 0 ∷ b ≡ held.0 ∷ ((to_be_bytes w32 (length m) ++ m ++ held.1) ++ 0 ∷ d) = ap (λ r. r ++ 0 ∷ b) (sym hold) ∙ e ∙ ap (λ s. s ++ 0 ∷ d) held.4 in
    absurd (held.2 (cc))
same-records r s b d (l ∷ lines) [] hold held e =
    let heads : hold.0 ∷ ((to_be_bytes w32 (length l) ++ l ++ hold.1) ++ 0 ∷ b) ≡ 0 ∷ d = ap (λ r. r ++ 0 ∷ b) (sym hold.4) ∙ e ∙ ap (λ s. s ++ 0 ∷ d) held in
    absurd (hold.2 (cc))
same-records r s b d (l ∷ lines) (m ∷ others) hold held e =
    let whole : hold.0 ∷ ((to_be_bytes w32 (length l) ++ l ++ hold.1) ++ 0 ∷ b) ≡ held.0 ∷ ((to_be_bytes w32 (length m) ++ m ++ held.1) ++ 0 ∷ d) =
    ap (λ r. r ++ 0 ∷ b) (sym hold.4) ∙ e ∙ ap (λ s. s ++ 0 ∷ d) held.4 in
    let lengths : to_be_bytes w32 (length l) ≡ to_be_bytes w32 (length m) = ap (λ bytes. take 4 (drop 1 bytes)) whole in
    let rests : (l ++ hold.1) ++ 0 ∷ b ≡ (m ++ held.1) ++ 0 ∷ d = ap (drop 5) whole in
    let both = same-line l m hold.1 held.1 (0 ∷ b) (0 ∷ d) (same-length (length l) (length m) hold.3.short held.3.short lengths) rests in
    let others-are = same-records hold.1 held.1 b d lines others hold.5 held.5 both.1 in
    ap (λ line. line ∷ lines) both.0 ∙ ap (λ lines. m ∷ lines) others-are

-- no bytes are the records of no lines alone
no-lines : (r : List ℕ) (lines : List (List ℕ)) → AreRecords r lines → r ≡ [] → lines ≡ []
no-lines r [] hold e = refl
no-lines r (l ∷ lines) hold e = let heads : hold.0 ∷ (to_be_bytes w32 (length l) ++ l ++ hold.1) ≡ [] = sym hold.4 ∙ e in absurd (cc)

pub short-closed : (bytes : List ℕ) (lines : List (List ℕ)) (gate : ℕ) → length bytes ≤ 1 → IsClosedAt gate bytes lines → lines ≡ []
short-closed bytes lines gate short z =
    no-lines z.records lines z.hold (nil_from_length z.records (omega (arith, short, ap length z.parts, length-append z.records (0 ∷ z.behind))))

pub StandsFor-determined : (bytes : List ℕ) (lines others : List (List ℕ)) → StandsFor bytes lines → StandsFor bytes others → lines ≡ others
StandsFor-determined bytes lines others (inl empty) (inl none) = empty.1 ∙ sym none.1
StandsFor-determined bytes lines others (inl empty) (inr closed) = empty.1 ∙ sym (short-closed bytes others closed.0 empty.0 closed.1)
StandsFor-determined bytes lines others (inr closed) (inl empty) = short-closed bytes lines closed.0 empty.0 closed.1 ∙ sym empty.1
StandsFor-determined bytes lines others (inr closed) (inr other) =
    let z = closed.1 in
    let o = other.1 in
    same-records z.records o.records z.behind o.behind lines others z.hold o.hold (sym z.parts ∙ o.parts)
