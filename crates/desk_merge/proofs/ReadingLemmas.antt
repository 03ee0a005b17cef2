-- What bytes are read as, as a function of them.
use Rattle.std.proofs.Common.{◌≡◌, ℕ, zero, suc, ◌+◌, ◌<◌, ◌≤◌, ◌^◌, Bool, true, false, cond, ◌&&◌, List, [], ◌∷◌, ◌++◌, length, take, drop, refl, sym, ap, ◌∙◌, subst, append_assoc, arith, length-append, ◌⊎◌, inl, inr, Result, Ok, Err}
use Rattle.std.specs.FinMap.{entries, entries-from_sorted, is_sorted}
use Rattle.std.specs.List.{join_with_byte, list_all}
use Rattle.std.specs.Prelude.{nat_le, nat_lt}
use Rattle.std.specs.Str.{bytes_eq}
use Rattle.std.proofs.lemmas.Bool.{and_parts, cases_lt, le-leb, leb-true, lt-ltb, ltb-true, true≢false}
use Rattle.std.proofs.lemmas.List.{length-drop, length-take-le, take-append-drop, take_all}
use Rattle.std.proofs.lemmas.List.Elements.{All-cons, All-head, All-nil, All-push, All-tail}
use Rattle.std.proofs.Math.Seq.{take-append_seam}
use Rattle.house_base.proofs.AmongLemmas.{bytes_eq-same, same_text}
use Rattle.house_base.specs.declared.limits.TheConstants.{MOST_POINTS}
use Rattle.house_base.specs.Name.{is_name}
use Rattle.house_base.specs.Text.{Text}
use Rattle.house_model.specs.Report.{line_of}
use Rattle.desk_merge.specs.Desk.{AreItems, IsItem, Reads, desk_text, entry_line, entry_words}
use Rattle.desk_merge.specs.Held.{items_in, joined_in}
use Rattle.desk_merge.specs.Joined.{Item, Joined, key_cmp}
use Rattle.desk_merge.specs.Reading.{desk_read, front_within, is_desk_file, is_item, longest_front}
use Rattle.desk_merge.proofs.HeldLemmas.{desk_text-push, items_in-desk_text}
use Rattle.desk_merge.proofs.OrderLemmas.{so}
use Rattle.desk_merge.proofs.UniqueLemmas.{reads_once}

both : (a b : Bool) → a ≡ true → b ≡ true → (a && b) ≡ true
both a b p q = rw (p, q) refl

passes_or_fails : (b : Bool) → (b ≡ true) ⊎ (b ≡ false)
passes_or_fails true = inl refl
passes_or_fails false = inr refl

-- Items.

item_of_test : (e : Item) → is_item e ≡ true → IsItem e
item_of_test e h =
    let revision = nat_lt e.1.0 (2 ^ 64) in
    let points = nat_le e.1.1 MOST_POINTS in
    let last = and_parts (is_name e.0.0 && is_name e.0.1 && revision) points h in
    let third = and_parts (is_name e.0.0 && is_name e.0.1) revision last.0 in
    let names = and_parts (is_name e.0.0) (is_name e.0.1) third.0 in
    record {
      reviewer = names.0;
      proposal = names.1;
      revision = ltb-true e.1.0 (2 ^ 64) third.1;
      points = leb-true e.1.1 MOST_POINTS last.1;
    }

test_of_item : (e : Item) → IsItem e → is_item e ≡ true
test_of_item e f =
    both _ (nat_le e.1.1 MOST_POINTS) (both _ (nat_lt e.1.0 (2 ^ 64)) (both (is_name e.0.0) (is_name e.0.1) f.reviewer f.proposal) (lt-ltb e.1.0 (2 ^ 64) f.revision))
    (le-leb e.1.1 MOST_POINTS f.points)

items_of_test : (es : List Item) → list_all is_item es ≡ true → AreItems es
items_of_test [] h = All-nil IsItem
items_of_test (e ∷ es) h =
    let parts = and_parts (is_item e) (list_all is_item es) h in
    All-cons IsItem e es (item_of_test e parts.0) (items_of_test es parts.1)

test_of_items : (es : List Item) → AreItems es → list_all is_item es ≡ true
test_of_items [] h = refl
test_of_items (e ∷ es) h =
    both (is_item e) (list_all is_item es) (test_of_item e (All-head IsItem e es h)) (test_of_items es (All-tail IsItem e es h))

-- Desk files.

-- a text that passes the test is the file of what its lines say
record IsDesk (text : Text) : Type 0 where
  spelled : text ≡ desk_text (items_in text)
  items : AreItems (items_in text)
  rise : is_sorted key_cmp (items_in text) ≡ true

desk_of_test : (text : Text) → is_desk_file text ≡ true → IsDesk text
unfolding is_desk_file
desk_of_test text h =
    let es = items_in text in
    let last = and_parts (bytes_eq text (desk_text es) && list_all is_item es) (is_sorted key_cmp es) h in
    let first = and_parts (bytes_eq text (desk_text es)) (list_all is_item es) last.0 in
    record { spelled = same_text text (desk_text es) first.0; items = items_of_test es first.1; rise = last.1 }

test_of_file : (es : List Item) → AreItems es → is_sorted key_cmp es ≡ true → is_desk_file (desk_text es) ≡ true
unfolding is_desk_file
test_of_file es items rise =
    let back = items_in-desk_text es items in
    both _ _
    (both _ _ (bytes_eq-same (desk_text es) (desk_text (items_in (desk_text es))) (ap desk_text (sym back))) (ap (list_all is_item) back ∙ test_of_items es items))
    (ap (is_sorted key_cmp) back ∙ rise)

no_bytes : is_desk_file [] ≡ true
unfolding desk_text
no_bytes = test_of_file [] (All-nil IsItem) refl

-- The longest front.

-- by whether a front of a length is a desk file
one_more : (n : ℕ) (text : Text) (b : Bool) → is_desk_file (take (suc n) text) ≡ b → front_within (suc n) text ≡ cond b (suc n) (front_within n text)
unfolding front_within
one_more n text b is = ap (λ b. cond b (suc n) (front_within n text)) is

none_longer : (text : Text) → front_within 0 text ≡ 0
unfolding front_within
none_longer text = refl

front_is : (n : ℕ) (text : Text) → is_desk_file (take (front_within n text) text) ≡ true
front_is zero text = ap (λ k. is_desk_file (take k text)) (none_longer text) ∙ no_bytes
front_is (suc n) text = elim (passes_or_fails (is_desk_file (take (suc n) text))) [
  | inl passes ↦ ap (λ k. is_desk_file (take k text)) (one_more n text true passes) ∙ passes
  | inr fails ↦ ap (λ k. is_desk_file (take k text)) (one_more n text false fails) ∙ front_is n text
]

front_fits : (n : ℕ) (text : Text) → front_within n text ≤ n
front_fits zero text = omega (arith, none_longer text)
front_fits (suc n) text = elim (passes_or_fails (is_desk_file (take (suc n) text))) [
  | inl passes ↦ omega (arith, one_more n text true passes)
  | inr fails ↦ omega (arith, one_more n text false fails, front_fits n text)
]

front_longest : (n : ℕ) (text : Text) (k : ℕ) → k ≤ n → is_desk_file (take k text) ≡ true → k ≤ front_within n text
front_longest zero text k fits is = omega (arith, fits)
front_longest (suc n) text k fits is = elim (passes_or_fails (is_desk_file (take (suc n) text))) [
  | inl passes ↦ omega (arith, fits, one_more n text true passes)
  | inr fails ↦ elim (cases_lt k (suc n)) [
    | inl less ↦ omega (arith, one_more n text false fails, front_longest n text k (omega (arith, less)) is)
    | inr enough ↦
        let here : k ≡ suc n = omega (arith, fits, enough) in
        absurd (true≢false (sym is ∙ ap (λ k. is_desk_file (take k text)) here ∙ fails))
  ]
]

-- What bytes are read as.

some_line : (e : Item) → 0 < length (entry_line e)
unfolding entry_line line_of
some_line e = some_feed (join_with_byte 32 (entry_words e))
  where
    some_feed : (t : Text) → 0 < length (t ++ 10 ∷ [])
    some_feed t = omega (arith, length-append t (10 ∷ []))

off_form : (bytes : Text) → is_desk_file bytes ≡ false → Reads bytes (Err (length (items_in (longest_front bytes)) + 1))
off_form bytes fails =
    let n = front_within (length bytes) bytes in
    let front = take n bytes in
    let behind = drop n bytes in
    let desk = desk_of_test front (front_is (length bytes) bytes) in
    let before = items_in front in
    let fits : n ≤ length bytes = front_fits (length bytes) bytes in
    let size : length front ≡ n = length-take-le n bytes fits in
    let apart : bytes ≡ desk_text before ++ behind = sym (take-append-drop n bytes) ∙ ap (λ t. t ++ behind) desk.spelled in
    record {
      before = before;
      behind = behind;
      bytes_are = apart;
      items = desk.items;
      rise = desk.rise;
      line_is = refl;
      goes_on = elim (cases_lt n (length bytes)) [
        | inl less ↦ omega (arith, less, length-drop n bytes)
        | inr all ↦ absurd (true≢false (sym (front_is (length bytes) bytes) ∙ ap is_desk_file (take_all n bytes all) ∙ fails))
      ];
      fault = λ e rest formed follows begins.
          let es = before ++ e ∷ [] in
          let line = entry_line e in
          let longer : bytes ≡ desk_text es ++ rest =
          apart ∙ ap (λ t. desk_text before ++ t) begins ∙ sym (append_assoc (desk_text before) line rest) ∙ ap (λ t. t ++ rest) (sym (desk_text-push before e)) in
          let k = length (desk_text es) in
          let file : is_desk_file (take k bytes) ≡ true =
          ap (λ t. is_desk_file (take k t)) longer ∙ ap is_desk_file (take-append_seam (desk_text es) rest) ∙ test_of_file es (All-push IsItem before e desk.items formed) follows in
          let within : k ≤ length bytes = omega (arith, ap length longer, length-append (desk_text es) rest) in
          let most : k ≤ n = front_longest (length bytes) bytes k within file in
          let more : k ≡ length (desk_text before) + length line = ap length (desk_text-push before e) ∙ length-append (desk_text before) line in
          omega (arith, most, more, size, ap length desk.spelled, some_line e);
    }

of_form : (bytes : Text) → is_desk_file bytes ≡ true → Reads bytes (Ok (joined_in bytes))
of_form bytes passes =
    let desk = desk_of_test bytes passes in
    let same : entries (joined_in bytes) ≡ items_in bytes = entries-from_sorted key_cmp (items_in bytes) (so _ desk.rise) in
    (desk.spelled ∙ ap desk_text (sym same), subst AreItems (sym same) desk.items)

read_by : (bytes : Text) (b : Bool) → is_desk_file bytes ≡ b → Reads bytes (cond b (Ok (joined_in bytes)) (Err (length (items_in (longest_front bytes)) + 1)))
read_by bytes true is = of_form bytes is
read_by bytes false is = off_form bytes is

-- bytes are read as the function says
pub is_read : (bytes : Text) → Reads bytes (desk_read bytes)
unfolding desk_read
is_read bytes = read_by bytes (is_desk_file bytes) refl

-- and as nothing else
pub read_as : (bytes : Text) (r : Result Joined ℕ) → Reads bytes r → desk_read bytes ≡ r
read_as bytes r reads = reads_once bytes (desk_read bytes) r (is_read bytes) reads
