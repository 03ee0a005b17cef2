-- The chances in the rows of an outcome, in the room that there is for those of one person.
use Rattle.std.proofs.Common.{◌≡◌, ℕ, suc, ◌+◌, ◌-◌, ◌<◌, ◌≤◌, true, false, cond, List, [], ◌∷◌, ◌++◌, length, map, filter, take, drop, get_or, bytes_eq, refl, sym, ap, ◌∙◌, append_assoc, arith, length-append}
use Rattle.std.specs.Prelude.{replicate}
use Rattle.std.proofs.Math.ListN.{set}
use Rattle.std.proofs.Math.Seq.{set-append_seam}
use Rattle.std.proofs.lemmas.List.{append-nil, map-append, take-append-drop}
use Rattle.std.proofs.lemmas.List.Elements.{filter-append, filter_more}
use Rattle.house_base.specs.Text.{Text}
use Rattle.house_base.specs.declared.limits.TheConstants.{MOST_OWN}
use Rattle.house_model.specs.declared.outcome.ApplicantRow.{ApplicantRow}
use Rattle.house_model.specs.Report.{OutcomeParts}
use Rattle.house_model.specs.Text.{is_empty}
use Rattle.twin_check.specs.declared.half.Chances.{Chances}
use Rattle.twin_check.specs.declared.half.Half.TheVariants as half
use Rattle.twin_check.specs.Half.{chances_of}
use Rattle.twin_check.specs.Rows.{chances_in, half_in}

-- One more chance, in the room that is left.

room_left : (n : ℕ) → n < MOST_OWN → MOST_OWN - n ≡ suc (MOST_OWN - (n + 1))
room_left n room = omega arith

length_more : (xs : List ℕ) (x : ℕ) → length (xs ++ x ∷ []) ≡ length xs + 1
length_more xs x = omega (arith, length-append xs (x ∷ []))

one_more : (xs : List ℕ) (x : ℕ) → length xs < MOST_OWN →
    set (xs ++ replicate (MOST_OWN - length xs) 0) (length xs) x ≡ (xs ++ x ∷ []) ++ replicate (MOST_OWN - length (xs ++ x ∷ [])) 0
one_more xs x room =
    ap (λ n. set (xs ++ replicate n 0) (length xs) x) (room_left (length xs) room)
    ∙ set-append_seam xs 0 (replicate (MOST_OWN - (length xs + 1)) 0) x
    ∙ ap (λ n. xs ++ x ∷ replicate (MOST_OWN - n) 0) (sym (length_more xs x))
    ∙ sym (append_assoc xs (x ∷ []) (replicate (MOST_OWN - length (xs ++ x ∷ [])) 0))

pub chance_put : (old : Chances) (xs : List ℕ) (x : ℕ) → old ≡ chances_of xs → old.count < MOST_OWN →
    ◌≡◌ {A = Chances} (record { count = old.count + 1; list = set old.list old.count x }) (chances_of (xs ++ x ∷ []))
unfolding chances_of
chance_put old xs x are room =
    let many : old.count ≡ length xs = ap (λ (c : Chances). c.count) are in
    let list : old.list ≡ xs ++ replicate (MOST_OWN - length xs) 0 = ap (λ (c : Chances). c.list) are in
    let fits : length xs < MOST_OWN = omega (arith, many, room) in
    let count : old.count + 1 ≡ length (xs ++ x ∷ []) = omega (arith, many, length_more xs x) in
    let put : set old.list old.count x ≡ (xs ++ x ∷ []) ++ replicate (MOST_OWN - length (xs ++ x ∷ [])) 0 =
    ap (λ l. set l old.count x) list ∙ ap (λ n. set (xs ++ replicate (MOST_OWN - length xs) 0) n x) many ∙ one_more xs x fits in
    λ i. record { count = count i; list = put i }

pub count_is : (old : Chances) (xs : List ℕ) → old ≡ chances_of xs → old.count ≡ length xs
unfolding chances_of
count_is old xs are = ap (λ (c : Chances). c.count) are

-- The rows so far.

module _ (name : Text) (rows : List ApplicantRow) (i : ℕ) (row : ApplicantRow) (within : i < length rows) (at : row ≡ get_or rows i row) where
  row_more : filter (λ (r : ApplicantRow). bytes_eq r.person name) (take (i + 1) rows)
      ≡ filter (λ (r : ApplicantRow). bytes_eq r.person name) (take i rows) ++ cond (bytes_eq row.person name) (row ∷ []) []
  row_more =
      filter_more (λ (r : ApplicantRow). bytes_eq r.person name) rows i row within
      ∙ ap (λ (r : ApplicantRow). filter (λ (q : ApplicantRow). bytes_eq q.person name) (take i rows) ++ cond (bytes_eq r.person name) (r ∷ []) []) (sym at)

  pub own_taken : bytes_eq row.person name ≡ true → chances_in name (take (i + 1) rows) ≡ chances_in name (take i rows) ++ row.chance ∷ []
  unfolding chances_in
  own_taken own =
      let front = filter (λ (r : ApplicantRow). bytes_eq r.person name) (take i rows) in
      ap (map (λ r. r.chance)) (row_more ∙ ap (λ b. front ++ cond b (row ∷ []) []) own) ∙ map-append (λ r. r.chance) front (row ∷ [])

  pub other_taken : bytes_eq row.person name ≡ false → chances_in name (take (i + 1) rows) ≡ chances_in name (take i rows)
  unfolding chances_in
  other_taken other =
      let front = filter (λ (r : ApplicantRow). bytes_eq r.person name) (take i rows) in
      ap (map (λ r. r.chance)) (row_more ∙ ap (λ b. front ++ cond b (row ∷ []) []) other ∙ append-nil front)

-- there are no more in some rows than in all
in_front : (name : Text) (front rest : List ApplicantRow) → length (chances_in name front) ≤ length (chances_in name (front ++ rest))
unfolding chances_in
in_front name front rest =
    let own_row = λ (row : ApplicantRow). bytes_eq row.person name in
    let both : map (λ r. r.chance) (filter own_row (front ++ rest)) ≡ map (λ r. r.chance) (filter own_row front) ++ map (λ r. r.chance) (filter own_row rest) =
    ap (map (λ r. r.chance)) (filter-append own_row front rest) ∙ map-append (λ r. r.chance) (filter own_row front) (filter own_row rest) in
    omega (arith, ap length both, length-append (map (λ r. r.chance) (filter own_row front)) (map (λ r. r.chance) (filter own_row rest)))

pub in_all : (name : Text) (rows : List ApplicantRow) (i : ℕ) → length (chances_in name (take i rows)) ≤ length (chances_in name rows)
in_all name rows i =
    let front = in_front name (take i rows) (drop i rows) in
    omega (arith, front, ap (λ rs. length (chances_in name rs)) (take-append-drop i rows))

-- there is room for that of an own row
pub room : (name : Text) (rows : List ApplicantRow) (i : ℕ) (row : ApplicantRow) (old : Chances) → i < length rows → row ≡ get_or rows i row → bytes_eq row.person name ≡ true →
    old ≡ chances_of (chances_in name (take i rows)) → length (chances_in name rows) ≤ MOST_OWN → old.count < MOST_OWN
room name rows i row old within at own are few =
    let many = count_is old (chances_in name (take i rows)) are in
    let more = ap length (own_taken name rows i row within at own) in
    let grown = length_more (chances_in name (take i rows)) row.chance in
    omega (arith, many, more, grown, few, in_all name rows (i + 1))

pub one_taken : (name : Text) (rows : List ApplicantRow) (i : ℕ) (row : ApplicantRow) (new : Chances) → i < length rows → row ≡ get_or rows i row → bytes_eq row.person name ≡ true →
    new ≡ chances_of (chances_in name (take i rows) ++ row.chance ∷ []) → new ≡ chances_of (chances_in name (take (i + 1) rows))
one_taken name rows i row new within at own are = are ∙ ap chances_of (sym (own_taken name rows i row within at own))

pub other_row : (name : Text) (rows : List ApplicantRow) (i : ℕ) (row : ApplicantRow) → i < length rows → row ≡ get_or rows i row → bytes_eq row.person name ≡ false →
    chances_of (chances_in name (take i rows)) ≡ chances_of (chances_in name (take (i + 1) rows))
other_row name rows i row within at other = ap chances_of (sym (other_taken name rows i row within at other))

-- What an outcome has of a person.

no_length : (xs : List ℕ) → length xs ≡ 0 → is_empty xs ≡ true
no_length [] h = refl
no_length (x ∷ xs) h = absurd (omega arith)

some_length : (xs : List ℕ) → (length xs ≡ 0 → ⊥) → is_empty xs ≡ false
some_length [] h = absurd (h refl)
some_length (x ∷ xs) h = refl

pub none_told : (name : Text) (o : OutcomeParts) (rows : List ApplicantRow) (found : Chances) → rows ≡ o.applicant_rows → found ≡ chances_of (chances_in name rows) → found.count ≡ 0 →
    half.Unlisted ≡ half_in name o
unfolding half_in
none_told name o rows found are is none =
    let empty = no_length (chances_in name o.applicant_rows) (sym (ap (λ rs. length (chances_in name rs)) are) ∙ sym (count_is found (chances_in name rows) is) ∙ none) in
    sym (ap (λ b. cond b half.Unlisted (half.Chances (chances_of (chances_in name o.applicant_rows)) o.den)) empty)

pub some_told : (name : Text) (o : OutcomeParts) (rows : List ApplicantRow) (found : Chances) (den : ℕ) → rows ≡ o.applicant_rows → found ≡ chances_of (chances_in name rows) →
    (found.count ≡ 0 → ⊥) → den ≡ o.den → half.Chances found den ≡ half_in name o
unfolding half_in
some_told name o rows found den are is some over =
    let many = count_is found (chances_in name rows) is in
    let filled = some_length (chances_in name o.applicant_rows) (λ none. some (many ∙ ap (λ rs. length (chances_in name rs)) are ∙ none)) in
    ap (λ c. half.Chances c den) (is ∙ ap (λ rs. chances_of (chances_in name rs)) are)
    ∙ ap (half.Chances (chances_of (chances_in name o.applicant_rows))) over
    ∙ sym (ap (λ b. cond b half.Unlisted (half.Chances (chances_of (chances_in name o.applicant_rows)) o.den)) filled)
