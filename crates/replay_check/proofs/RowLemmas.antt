-- The rows of a file that holds lines, and the version that it names.
use Rattle.std.proofs.Common.{◌≡◌, ℕ, ◌<◌, Bool, true, false, cond, ◌&&◌, ◌||◌, ◌==◌, List, [], ◌∷◌, ◌++◌, length, get_or, Option, Some, None, Ok, Err, refl, sym, ap, ◌∙◌, inl, inr, arith, eqb-true, append-nil, append_assoc, length-append}
use Rattle.std.specs.Prelude.{codes, is_some, option_and_then, ok_or}
use Rattle.std.specs.List.{join_with_byte}
use Rattle.std.specs.Option.{option_or}
use Rattle.std.proofs.lemmas.List.Splits.{join_with_byte-slice_split}
use Rattle.house_base.specs.Text.{Text}
use Rattle.house_model.specs.Heard.{without_last}
use Rattle.house_model.specs.Text.{Lines, is_empty}
use Rattle.audit_chain.specs.File.{bad_row, first_misfit, is_reported, lines_held, lines_of, parts, rest, rows, version_held, version_of}
use Rattle.audit_chain.specs.Form.{has_members, known_version, names_the_format, number_at, value_of, version_in, version_named}
use Rattle.audit_chain.specs.declared.fault.RowFault.{RowFault}
use Rattle.audit_chain.specs.declared.fault.RowFault.TheVariants.{BadRow}
use Rattle.audit_chain.proofs.CountLemmas.{rows_counted}
use Rattle.audit_chain.proofs.HeldLemmas.{held_at, holds}
use Rattle.audit_chain.proofs.PartLemmas.{rows_first, rows_of_none, some_parts}
use Rattle.audit_chain.proofs.PlaceLemmas.{all_fit}
use Rattle.replay_check.specs.Audit.{IsVersion}

-- The last part apart.

in_two : (ps : List Text) → 0 < length ps → ps ≡ without_last ps ++ get_or ps (length (without_last ps)) [] ∷ []
in_two [] some = absurd (omega arith)
in_two (x ∷ []) some = refl
in_two (x ∷ y ∷ more) some = ap (λ ps. x ∷ ps) (in_two (y ∷ more) (omega arith))

parts_are : (bytes : Text) → parts bytes ≡ rows bytes ++ rest bytes ∷ []
unfolding rows rest
parts_are bytes = in_two (parts bytes) (some_parts bytes)

whole : (bytes : Text) → join_with_byte 10 (rows bytes ++ rest bytes ∷ []) ≡ bytes
whole bytes = ap (join_with_byte 10) (sym (parts_are bytes)) ∙ join_with_byte-slice_split 10 bytes

-- a file that holds lines has no row that is not of the form
no_misfit : (bytes : Text) (lines : Lines) → lines_held bytes ≡ Ok lines → first_misfit (rows bytes) ≡ None
no_misfit bytes lines held = by_misfit (first_misfit (rows bytes)) refl
  where
    by_misfit : (o : Option ℕ) → first_misfit (rows bytes) ≡ o → first_misfit (rows bytes) ≡ None
    by_misfit None none = none
    by_misfit (Some place) found = absurd (let err = held_at bytes place found in let wrong : ⊥ = cc in wrong)

no_bytes : (text : Text) → is_empty text ≡ true → text ≡ []
no_bytes [] h = refl
no_bytes (x ∷ text) h = absurd (let wrong : ⊥ = cc in wrong)

ended_so : (reported : Bool) (text : Text) (n : ℕ) (held lines : Lines) → holds (cond (reported && is_empty text) None (Some n)) held ≡ Ok lines → is_empty text ≡ true
ended_so true [] n held lines h = refl
ended_so true (x ∷ text) n held lines h = absurd (let wrong : ⊥ = cc in wrong)
ended_so false text n held lines h = absurd (let wrong : ⊥ = cc in wrong)

-- nothing stands behind its last line feed
nothing_left : (bytes : Text) (lines : Lines) → lines_held bytes ≡ Ok lines → rest bytes ≡ []
unfolding lines_held bad_row
nothing_left bytes lines held =
    no_bytes (rest bytes)
    (ended_so (is_reported (rows bytes)) (rest bytes) (length (rows bytes)) (lines_of (rows bytes)) lines
    (sym (ap (λ o. holds (option_or o (cond (is_reported (rows bytes) && is_empty (rest bytes)) None (Some (length (rows bytes))))) (lines_of (rows bytes))) (no_misfit bytes lines held)) ∙ held))

-- files that hold lines and have the same rows are the same
pub same_rows : (one other : Text) (here there : Lines) → lines_held one ≡ Ok here → lines_held other ≡ Ok there → rows one ≡ rows other → one ≡ other
same_rows one other here there held held_there same =
    sym (whole one)
    ∙ ap (λ r. join_with_byte 10 (rows one ++ r ∷ [])) (nothing_left one here held ∙ sym (nothing_left other there held_there))
    ∙ ap (λ rs. join_with_byte 10 (rs ++ rest other ∷ [])) same
    ∙ whole other

-- and as many rows where they hold the same lines
pub as_many_rows : (one other : Text) (lines : Lines) → lines_held one ≡ Ok lines → lines_held other ≡ Ok lines → length (rows one) ≡ length (rows other)
as_many_rows one other lines held held_there = rows_counted one lines held ∙ sym (rows_counted other lines held_there)

-- a file that holds lines names a version
pub names_version : (bytes : Text) (lines : Lines) → lines_held bytes ≡ Ok lines → (version : ℕ) × (version_held bytes ≡ Ok version)
unfolding version_held
names_version bytes lines held = by_rows (rows bytes) refl
  where
    by_version : (row : Text) (more : List Text) → rows bytes ≡ row ∷ more → (o : Option ℕ) → version_in row ≡ o → is_some o ≡ true → (version : ℕ) × (version_held bytes ≡ Ok version)
    by_version row more are None is some = absurd (let wrong : ⊥ = cc in wrong)
    by_version row more are (Some version) is some =
        (version, ap (λ rs. ok_or (version_of rs) (BadRow 1)) are ∙ ap (λ o. ok_or o (BadRow 1)) is)

    by_rows : (rs : List Text) → rows bytes ≡ rs → (version : ℕ) × (version_held bytes ≡ Ok version)
    by_rows [] are =
        let count = sym (ap length are) ∙ rows_counted bytes lines held in
        absurd (omega (arith, count))
    by_rows (row ∷ more) are =
        by_version row more are (version_in row) refl (all_fit (row ∷ more) (sym (ap first_misfit are) ∙ no_misfit bytes lines held) 0 (omega arith))

pub never_refused : (bytes : Text) (lines : Lines) (fault : RowFault) → lines_held bytes ≡ Ok lines → version_held bytes ≡ Err fault → ⊥
never_refused bytes lines fault held refused =
    let names = names_version bytes lines held in
    absurd (let wrong : Ok names.0 ≡ Err fault = sym names.1 ∙ refused in let never : ⊥ = cc in never)

-- a version that is named is one that there is
one_of : (n version : ℕ) (first second : Bool) → n == 1 ≡ first → n == 2 ≡ second → cond (first || second) (Some n) None ≡ Some version → IsVersion version
one_of n version true second first_is second_is h = let same : n ≡ version = cc in inl (sym same ∙ eqb-true n 1 first_is)
one_of n version false true first_is second_is h = let same : n ≡ version = cc in inr (sym same ∙ eqb-true n 2 second_is)
one_of n version false false first_is second_is h = absurd (let wrong : ⊥ = cc in wrong)

known : (o : Option ℕ) (version : ℕ) → option_and_then known_version o ≡ Some version → IsVersion version
known None version h = absurd (let wrong : ⊥ = cc in wrong)
known (Some n) version h = one_of n version (n == 1) (n == 2) refl refl h

named_so : (b : Bool) (o : Option ℕ) (version : ℕ) → cond b (option_and_then known_version o) None ≡ Some version → IsVersion version
named_so true o version h = known o version h
named_so false o version h = absurd (let wrong : ⊥ = cc in wrong)

of_value : (value : _) (version : ℕ) → version_named value ≡ Some version → IsVersion version
unfolding version_named
of_value value version h = named_so (has_members 2 value && names_the_format value) (number_at (codes "version") value) version h

in_value : {D : Type 0} (name : D → Option ℕ) → ((value : D) (version : ℕ) → name value ≡ Some version → IsVersion version) → (o : Option D) (version : ℕ) →
    option_and_then name o ≡ Some version → IsVersion version
in_value name of None version h = absurd (let wrong : ⊥ = cc in wrong)
in_value name of (Some value) version h = of value version h

first_names : (rs : List Text) (version : ℕ) → ok_or (version_of rs) (BadRow 1) ≡ Ok version → version_of rs ≡ Some version
first_names rs version h = by (version_of rs) h
  where
    by : (o : Option ℕ) → ok_or o (BadRow 1) ≡ Ok version → o ≡ Some version
    by None h = absurd (let wrong : ⊥ = cc in wrong)
    by (Some n) h = ap Some (let same : n ≡ version = cc in same)

pub is_version : (bytes : Text) (version : ℕ) → version_held bytes ≡ Ok version → IsVersion version
unfolding version_held
is_version bytes version named = by_rows (rows bytes) (first_names (rows bytes) version named)
  where
    by_rows : (rs : List Text) → version_of rs ≡ Some version → IsVersion version
    by_rows [] h = absurd (let wrong : ⊥ = cc in wrong)
    by_rows (row ∷ more) h = in_value version_named of_value (value_of row) version h

-- Rows that are cut off the front of two files.

pub one_more_row : (all before : List Text) (left row behind : Text) → all ≡ before ++ rows left → parts left ≡ row ∷ parts behind → all ≡ before ++ row ∷ rows behind
one_more_row all before left row behind cut next = cut ∙ ap (λ rs. before ++ rs) (rows_first left row behind next)

pub row_joins : (all before : List Text) (row : Text) (behind : List Text) → all ≡ before ++ row ∷ behind → all ≡ (before ++ row ∷ []) ++ behind
row_joins all before row behind cut = cut ∙ sym (append_assoc before (row ∷ []) behind)

pub no_more_rows : (all before : List Text) (left : Text) → all ≡ before ++ rows left → parts left ≡ left ∷ [] → all ≡ before
no_more_rows all before left cut alone = cut ∙ ap (λ rs. before ++ rs) (rows_of_none left alone) ∙ append-nil before

-- lists as long as each other of which one is the front of the other are the same
pub front_is_whole : (one other before : List Text) (left : Text) → one ≡ before → other ≡ before ++ rows left → length one ≡ length other → one ≡ other
front_is_whole one other before left here there long = here ∙ sym (there ∙ ap (λ rs. before ++ rs) (none (rows left) short) ∙ append-nil before)
  where
    none : (rs : List Text) → length rs ≡ 0 → rs ≡ []
    none [] h = refl
    none (r ∷ rs) h = absurd (omega (arith, h))

    short : length (rows left) ≡ 0
    short = let e = sym (ap length here) ∙ long ∙ ap length there ∙ length-append before (rows left) in omega (arith, e)
