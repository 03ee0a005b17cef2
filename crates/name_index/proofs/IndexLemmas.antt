use Rattle.std.proofs.Common.{◌≡◌, ◌≢◌, ℕ, zero, suc, ◌+◌, ◌<◌, ◌≤◌, true, false, not, cond, eqb, ltb, List, [], ◌∷◌, ◌++◌, length, get_or, take, AllPairs, Some, None, position, is_some, bytes_eq, refl, sym, ap, ◌∙◌, subst, inl, inr, arith}
use Rattle.std.specs.List.{position_or_len, prefix_len, slice_get}
use Rattle.std.specs.BTreeMap.{BTreeMap, get}
use Rattle.std.specs.Cmp.Lexicographic.{slice_cmp, texts_ties}
use Rattle.std.specs.Ordering.{nat_cmp, is_eq}
use Rattle.std.proofs.lemmas.Bool.{cases_Bool, cases_lt, cases_eq, cond-true, cond-false, cond_both, false≢true, lt-ltb, le-ltb, eq-eqb, ne_eqb, not-true}
use Rattle.std.proofs.lemmas.List.{length_push, length-take, get_or_push, get_or-take, get_or_append_left}
use Rattle.std.proofs.lemmas.List.Folds.{prefix_len-append, position_or_len_push}
use Rattle.std.proofs.lemmas.List.Quantifiers.{all_pairs_push}
use Rattle.std.proofs.lemmas.Option.{same_Some, none-some, slice_get_within, get_or_from_slice_get}
use Rattle.std.proofs.lemmas.List.Sums.{prefix_len-le-length, position_or_len_is, passes_at_first}
use Rattle.house_base.specs.declared.limits.TheConstants.{MOST_APPLICANTS}
use Rattle.house_base.specs.Text.{Text, among}
use Rattle.house_base.proofs.InOrderLemmas.{In, In-get_or, In-Contains}
use Rattle.house_base.proofs.AmongLemmas.{same_text, bytes_eq-same, bytes_eq-other, cases_text, among-In, In-among, not_among, not_In}
use Rattle.name_index.specs.Hints.{HaveHints, digest_of, hint_for}
use Rattle.name_index.specs.Index.{IsIndex, number_in}

-- The number of a text among others.

pub number_in-le : (xs : List Text) (t : Text) → number_in xs t ≤ length xs
unfolding number_in
number_in-le xs t = prefix_len-le-length (λ x. not (bytes_eq t x)) xs

pub number_of_member : (xs : List Text) (t : Text) → In t xs → number_in xs t < length xs
unfolding number_in
number_of_member [] t m = absurd m
number_of_member (x ∷ xs) t m =
    cond_both (not (bytes_eq t x)) (1 + number_in xs t) 0 (λ n. n < length (x ∷ xs))
    (λ other. elim m [
      | inl e ↦ absurd (false≢true (sym (not-true (bytes_eq t x) other) ∙ bytes_eq-same t x e))
      | inr there ↦ omega (arith, number_of_member xs t there)
    ])
    (λ same. omega arith)

pub number_in-known : (xs : List Text) (t : Text) → among xs t ≡ true → number_in xs t < length xs
number_in-known xs t known = number_of_member xs t (among-In xs t known)

-- what stands at a text's number
pub at-number_in : (xs : List Text) (t : Text) → number_in xs t < length xs → get_or xs (number_in xs t) [] ≡ t
unfolding number_in
at-number_in xs t below = sym (same_text t (get_or xs (number_in xs t) []) (passes_at_first (bytes_eq t) xs [] below))

pub known-number_in : (xs : List Text) (t : Text) → number_in xs t < length xs → among xs t ≡ true
known-number_in xs t below =
    In-among xs t (subst (λ x. In x xs) (at-number_in xs t below) (In-get_or xs (number_in xs t) [] below))

pub number_in-unknown : (xs : List Text) (t : Text) → among xs t ≡ false → number_in xs t ≡ length xs
number_in-unknown xs t unknown = elim (cases_lt (number_in xs t) (length xs)) [
  | inl below ↦ absurd (false≢true (sym unknown ∙ known-number_in xs t below))
  | inr above ↦ omega (arith, number_in-le xs t)
]

-- the number of what stands at a place, where no two are equal
pub number_in-at : (xs : List Text) (i : ℕ) → AllPairs (λ a b. a ≢ b) xs → i < length xs → number_in xs (get_or xs i []) ≡ i
unfolding number_in
number_in-at xs i differ below =
    position_or_len_is (bytes_eq (get_or xs i [])) xs i [] (omega arith)
    (λ k l. bytes_eq-other (get_or xs i []) (get_or xs k []) (λ e. differ k i [] l below (sym e)))
    (λ l. bytes_eq-same (get_or xs i []) (get_or xs i []) refl)

-- behind those that have numbers there is room for more
pub number_in-append : (xs ys : List Text) (t : Text) → number_in xs t < length xs → number_in (xs ++ ys) t ≡ number_in xs t
unfolding number_in
number_in-append xs ys t below =
    let p = λ (x : Text). not (bytes_eq t x) in
    prefix_len-append p xs ys
    ∙ cond-false (eqb (prefix_len p xs) (length xs)) (length xs + prefix_len p ys) (prefix_len p xs) (ne_eqb (prefix_len p xs) (length xs) (λ e. omega arith))

pub number_in-push : (xs : List Text) (y t : Text) → number_in xs t ≡ length xs → number_in (xs ++ y ∷ []) t ≡ length xs + cond (bytes_eq t y) 0 1
unfolding number_in
number_in-push xs y t last =
    position_or_len_push (bytes_eq t) xs y
    ∙ cond-true (eqb (position_or_len (bytes_eq t) xs) (length xs)) (length xs + cond (bytes_eq t y) 0 1) (position_or_len (bytes_eq t) xs) (eq-eqb (position_or_len (bytes_eq t) xs) (length xs) last)

pub number_in-new : (xs : List Text) (t : Text) → among xs t ≡ false → number_in (xs ++ t ∷ []) t ≡ length xs
number_in-new xs t new =
    number_in-push xs t t (number_in-unknown xs t new) ∙ (ap (λ b. length xs + cond b 0 1) (bytes_eq-same t t refl) ∙ omega arith)

-- The place of a text among others.

pub position_known : (xs : List Text) (t : Text) → number_in xs t < length xs → position (bytes_eq t) xs ≡ Some (number_in xs t)
unfolding number_in
position_known xs t below =
    cond-true (ltb (number_in xs t) (length xs)) (Some (number_in xs t)) None (lt-ltb (number_in xs t) (length xs) below)

pub position_unknown : (xs : List Text) (t : Text) → length xs ≤ number_in xs t → position (bytes_eq t) xs ≡ None
unfolding number_in
position_unknown xs t above =
    cond-false (ltb (number_in xs t) (length xs)) (Some (number_in xs t)) None (le-ltb (number_in xs t) (length xs) above)

pub is_some-position : (xs : List Text) (t : Text) → is_some (position (bytes_eq t) xs) ≡ among xs t
is_some-position xs t = elim (cases_Bool (among xs t)) [
  | inl known ↦ ap is_some (position_known xs t (number_in-known xs t known)) ∙ sym known
  | inr unknown ↦ ap is_some (position_unknown xs t (omega (arith, number_in-unknown xs t unknown))) ∙ sym unknown
]

pub position_push : (xs : List Text) (y t : Text) → among xs y ≡ false
    → position (bytes_eq t) (xs ++ y ∷ []) ≡ cond (bytes_eq y t) (Some (length xs)) (position (bytes_eq t) xs)
position_push xs y t new = elim (cases_text y t) [
  | inl same ↦
      let last = number_in-unknown xs t (ap (among xs) (sym same) ∙ new) in
      let number : number_in (xs ++ y ∷ []) t ≡ length xs
      = number_in-push xs y t last ∙ (ap (λ b. length xs + cond b 0 1) (bytes_eq-same t y (sym same)) ∙ omega arith) in
      position_known (xs ++ y ∷ []) t (omega (arith, number, length_push xs y))
      ∙ (ap Some number ∙ sym (cond-true (bytes_eq y t) (Some (length xs)) (position (bytes_eq t) xs) (bytes_eq-same y t same)))
  | inr other ↦ elim (cases_Bool (among xs t)) [
    | inl known ↦
        let below = number_in-known xs t known in
        let number = number_in-append xs (y ∷ []) t below in
        position_known (xs ++ y ∷ []) t (omega (arith, number, below, length_push xs y))
        ∙ (ap Some number ∙ (sym (position_known xs t below)
        ∙ sym (cond-false (bytes_eq y t) (Some (length xs)) (position (bytes_eq t) xs) (bytes_eq-other y t other))))
    | inr unknown ↦
        let last = number_in-unknown xs t unknown in
        let number : number_in (xs ++ y ∷ []) t ≡ length xs + 1
        = number_in-push xs y t last ∙ ap (λ b. length xs + cond b 0 1) (bytes_eq-other t y (λ e. other (sym e))) in
        position_unknown (xs ++ y ∷ []) t (omega (arith, number, length_push xs y))
        ∙ (sym (position_unknown xs t (omega (arith, last)))
        ∙ sym (cond-false (bytes_eq y t) (Some (length xs)) (position (bytes_eq t) xs) (bytes_eq-other y t other)))
  ]
]

-- what stands at a number is found there, where no two are equal
pub position_at : (xs : List Text) (i : ℕ) (t : Text) → AllPairs (λ a b. a ≢ b) xs → i < length xs → get_or xs i [] ≡ t
    → position (bytes_eq t) xs ≡ Some i
position_at xs i t differ below at =
    let number : number_in xs t ≡ i = subst (λ x. number_in xs x ≡ i) at (number_in-at xs i differ below) in
    position_known xs t (omega (arith, number, below)) ∙ ap Some number

-- An index with one name more, and with one less.

pub AllPairs-push_text : (xs : List Text) (y : Text) → AllPairs (λ a b. a ≢ b) xs → among xs y ≡ false → AllPairs (λ a b. a ≢ b) (xs ++ y ∷ [])
AllPairs-push_text xs y differ new =
    all_pairs_push (λ a b. a ≢ b) xs y differ
    (λ k d l e. not_In xs y new (subst (λ x. In x xs) e (In-get_or xs k d l)))

pub IsIndex-push : (xs : List Text) (y : Text) (number : ℕ) (m n : BTreeMap Text ℕ) → IsIndex xs m → among xs y ≡ false
    → number ≡ length xs → length xs < MOST_APPLICANTS
    → ((q : Text) → get (slice_cmp nat_cmp) n q ≡ cond (is_eq (slice_cmp nat_cmp y q)) (Some number) (get (slice_cmp nat_cmp) m q))
    → IsIndex (xs ++ y ∷ []) n
IsIndex-push xs y number m n h new last few updated = record {
  few = omega (arith, length_push xs y, few);
  differ = AllPairs-push_text xs y h.differ new;
  found = λ q.
      updated q
      ∙ (ap (λ b. cond b (Some number) (get (slice_cmp nat_cmp) m q)) (sym (texts_ties y q))
      ∙ (ap (λ k. cond (bytes_eq y q) (Some k) (get (slice_cmp nat_cmp) m q)) last
      ∙ (ap (λ o. cond (bytes_eq y q) (Some (length xs)) o) (h.found q)
      ∙ sym (position_push xs y q new))));
}

-- the last of a list stands nowhere before
pub last_is_new : (xs : List Text) (y : Text) → AllPairs (λ a b. a ≢ b) (xs ++ y ∷ []) → among xs y ≡ false
last_is_new xs y differ = not_among xs y (λ m. earlier xs y differ m)
  where
    earlier : (xs : List Text) (y : Text) → AllPairs (λ a b. a ≢ b) (xs ++ y ∷ []) → In y xs → ⊥
    earlier xs y differ m =
        let c = In-Contains y xs m in
        differ c.0 (length xs) y c.1 (omega (arith, length_push xs y))
        (get_or_append_left xs (y ∷ []) y c.0 c.1 ∙ (c.2 ∙ sym (get_or_push xs y y (length xs) refl)))

pub IsIndex-pop : (xs ys : List Text) (y : Text) (m n : BTreeMap Text ℕ) → IsIndex xs m → xs ≡ ys ++ y ∷ []
    → ((q : Text) → get (slice_cmp nat_cmp) n q ≡ cond (is_eq (slice_cmp nat_cmp y q)) None (get (slice_cmp nat_cmp) m q))
    → IsIndex ys n
IsIndex-pop xs ys y m n h e updated =
    let differ : AllPairs (λ a b. a ≢ b) (ys ++ y ∷ []) = subst (λ l. AllPairs (λ a b. a ≢ b) l) e h.differ in
    let new = last_is_new ys y differ in
    record {
      few = omega (arith, h.few, ap length e, length_push ys y);
      differ = λ i j d below l.
          subst (λ a. a ≢ get_or ys j d) (get_or_append_left ys (y ∷ []) d i (omega arith))
          (subst (λ b. get_or (ys ++ y ∷ []) i d ≢ b) (get_or_append_left ys (y ∷ []) d j l) (differ i j d below (omega (arith, length_push ys y))));
      found = λ q.
          updated q
          ∙ (ap (λ b. cond b None (get (slice_cmp nat_cmp) m q)) (sym (texts_ties y q))
          ∙ (ap (λ o. cond (bytes_eq y q) None o) (h.found q ∙ (ap (position (bytes_eq q)) e ∙ position_push ys y q new))
          ∙ gone ys y q new));
    }
  where
    gone : (ys : List Text) (y q : Text) → among ys y ≡ false
        → cond (bytes_eq y q) None (cond (bytes_eq y q) (Some (length ys)) (position (bytes_eq q) ys)) ≡ position (bytes_eq q) ys
    gone ys y q new = elim (cases_text y q) [
      | inl same ↦
          cond-true (bytes_eq y q) None (cond (bytes_eq y q) (Some (length ys)) (position (bytes_eq q) ys)) (bytes_eq-same y q same)
          ∙ sym (position_unknown ys q (omega (arith, number_in-unknown ys q (ap (among ys) (sym same) ∙ new))))
      | inr other ↦
          cond-false (bytes_eq y q) None (cond (bytes_eq y q) (Some (length ys)) (position (bytes_eq q) ys)) (bytes_eq-other y q other)
          ∙ cond-false (bytes_eq y q) (Some (length ys)) (position (bytes_eq q) ys) (bytes_eq-other y q other)
    ]

-- what a place tells of a number
pub number_from_position : (xs : List Text) (t : Text) (i : ℕ) → position (bytes_eq t) xs ≡ Some i → (number_in xs t ≡ i) × (i < length xs)
number_from_position xs t i e = elim (cases_lt (number_in xs t) (length xs)) [
  | inl below ↦ let same = same_Some (number_in xs t) i (sym (position_known xs t below) ∙ e) in (same, omega (arith, same, below))
  | inr above ↦ absurd (none-some i (sym (position_unknown xs t above) ∙ e))
]

-- a text without a place has no number either
pub no_number : (xs : List Text) (t : Text) → position (bytes_eq t) xs ≡ None → length xs ≤ number_in xs t
no_number xs t e = elim (cases_lt (number_in xs t) (length xs)) [
  | inl below ↦ absurd (none-some (number_in xs t) (sym e ∙ position_known xs t below))
  | inr above ↦ above
]

-- what stands at a place stands nowhere before it, where no two are equal
pub among-before : (xs : List Text) (i : ℕ) (t : Text) → AllPairs (λ a b. a ≢ b) xs → slice_get xs i ≡ Some t → among (take i xs) t ≡ false
among-before xs i t differ at = not_among (take i xs) t (λ m.
    let c = In-Contains t (take i xs) m in
    let before : c.0 < i = omega (arith, c.1, length-take i xs) in
    differ c.0 i t before (slice_get_within xs i t at)
    (sym (get_or-take i xs c.0 t before) ∙ (c.2 ∙ sym (get_or_from_slice_get xs i t t at))))

-- Hints.

-- a text whose hint is none, or 0, is not among those that have hints
pub position-without_hint : (texts : List Text) (hints : List ℕ) (t : Text) → HaveHints texts hints → ((number : ℕ) → hint_for hints t ≡ Some (suc number) → ⊥)
    → position (bytes_eq t) texts ≡ None
position-without_hint texts hints t have none = elim (cases_lt (number_in texts t) (length texts)) [
  | inl below ↦
      let hint = have (number_in texts t) below in
      absurd (none hint.0 (ap (hint_for hints) (sym (at-number_in texts t below)) ∙ hint.1))
  | inr above ↦ position_unknown texts t above
]

-- hints of one digest are one
pub hint_for-same : (hints : List ℕ) (a b : Text) → digest_of a ≡ digest_of b → hint_for hints a ≡ hint_for hints b
hint_for-same hints a b same = ap (slice_get hints) same

-- a further text with a hint, which is put under its digest
pub HaveHints-push : (texts : List Text) (old new : List ℕ) (t : Text) (hint : ℕ) → HaveHints texts old → 0 < hint → hint_for new t ≡ Some hint
    → ((other : Text) → digest_of other ≢ digest_of t → hint_for new other ≡ hint_for old other) → HaveHints (texts ++ t ∷ []) new
HaveHints-push texts old new t zero have some here others i below = absurd (omega arith)
HaveHints-push texts old new t (suc number) have some here others i below = elim (cases_lt i (length texts)) [
  | inl before ↦
      let same : get_or (texts ++ t ∷ []) i [] ≡ get_or texts i [] = get_or_append_left texts (t ∷ []) [] i before in
      elim (cases_eq (digest_of (get_or texts i [])) (digest_of t)) [
        | inl one ↦ (number, ap (hint_for new) same ∙ (hint_for-same new (get_or texts i []) t one ∙ here))
        | inr two ↦ ((have i before).0, ap (hint_for new) same ∙ (others (get_or texts i []) two ∙ (have i before).1))
      ]
  | inr last ↦
      let at : i ≡ length texts = omega (arith, below, last, length_push texts t) in
      (number, ap (hint_for new) (get_or_push texts t [] i (sym at)) ∙ here)
]

pub HaveHints-pop : (texts front : List Text) (t : Text) (hints : List ℕ) → HaveHints texts hints → texts ≡ front ++ t ∷ [] → HaveHints front hints
HaveHints-pop texts front t hints have e i below =
    let within : i < length texts = omega (arith, below, ap length e, length_push front t) in
    let hint = have i within in
    let same : get_or texts i [] ≡ get_or front i [] = ap (λ l. get_or l i []) e ∙ get_or_append_left front (t ∷ []) [] i below in
    (hint.0, ap (hint_for hints) (sym same) ∙ hint.1)

pub HaveHints-kept : (texts : List Text) (old new : List ℕ) → HaveHints texts old → (0 < length old → new ≡ old) → HaveHints texts new
HaveHints-kept texts old new have kept i below =
    let hint = have i below in
    let some : 0 < length old = omega (arith, slice_get_within old (digest_of (get_or texts i [])) (suc hint.0) hint.1) in
    (hint.0, ap (λ hints. hint_for hints (get_or texts i [])) (kept some) ∙ hint.1)

-- what stands at the place of a text
pub position-here : (texts : List Text) (t : Text) (i : ℕ) → position (bytes_eq t) texts ≡ Some i → get_or texts i [] ≡ t
position-here texts t i at = elim (cases_lt (number_in texts t) (length texts)) [
  | inl below ↦
      ap (λ k. get_or texts k []) (same_Some i (number_in texts t) (sym at ∙ position_known texts t below)) ∙ at-number_in texts t below
  | inr above ↦ absurd (none-some i (sym (position_unknown texts t above) ∙ at))
]
