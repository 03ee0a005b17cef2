-- A map of texts and vectors, seen as what each file holds.
use Rattle.std.proofs.Common.{◌≡◌, ℕ, Bool, true, false, cond, List, [], ◌∷◌, map, Option, Some, String, Vec, BTreeMap, sym, refl, ap, ◌∙◌, subst, IsSome}
use Rattle.std.specs.Option.{option_map}
use Rattle.std.specs.Ordering.{nat_cmp, eq_by_cmp, is_eq}
use Rattle.std.specs.Cmp.Lexicographic.{slice_cmp, nat_list_cmp_total, nat_list_eq_equiv}
use Rattle.std.specs.Str.{bytes_eq}
use Rattle.std.specs.String.{string_bytes, string_cmp}
use Rattle.std.specs.Map.{lookup}
use Rattle.std.specs.BTreeMap.{get_by_text, is_at, Updates}
use Rattle.std.specs.FinMap.{get, insert, find, get-from_entries, get-insert, same_map, nat_cmp-IsAntisymmetric, slice_cmp-IsAntisymmetric}
use Rattle.std.proofs.lemmas.Cmp.{eq_by_cmp_equiv}
use Rattle.std.proofs.lemmas.Map.Text.{is_eq-slice_cmp, btree_map_updates_text}
use Rattle.house_io.specs.Files.{Contents}
use Rattle.house_io.specs.FileMap.{file_of, contents_of}

module _ {Z : Type 0} where
  -- the content of a vector
  abbrev pub content_of : Option (Vec ℕ Z) → Option (List ℕ)
  content_of = option_map (λ bytes. bytes.items)

  -- one choice of contents is the choice of one content
  content_of-cond : (b : Bool) (bytes : Vec ℕ Z) (other : Option (Vec ℕ Z)) → content_of (cond b (Some bytes) other) ≡ cond b (Some bytes.items) (content_of other)
  content_of-cond true bytes other = refl
  content_of-cond false bytes other = refl

module _ {Y Z : Type 0} where
  -- the first file of that name holds what the map has there
  find-file_of : (name : List ℕ) (entries : List (String Y × Vec ℕ Z)) → find (slice_cmp nat_cmp) name (map file_of entries) ≡ content_of (lookup (is_at (λ k. slice_cmp nat_cmp name (string_bytes k))) entries)
  find-file_of name [] = refl
  find-file_of name (e ∷ es) =
      elim (is_eq (slice_cmp nat_cmp name (string_bytes e.0))) as (λ b. cond b (Some e.1.items) (find (slice_cmp nat_cmp) name (map file_of es)) ≡ content_of (cond b (Some e.1) (lookup (is_at (λ k. slice_cmp nat_cmp name (string_bytes k))) es))) [
        | true ↦ refl
        | false ↦ find-file_of name es
      ]

  -- a file holds what the map has under its name
  pub get-contents_of : (files : BTreeMap (String Y) (Vec ℕ Z)) (name : List ℕ) → get (contents_of files) name ≡ content_of (get_by_text files name)
  get-contents_of files name = get-from_entries nat_list_cmp_total (map file_of files.entries) name ∙ find-file_of name files.entries

  -- to insert under a text is to set the file of that name
  pub contents_of-insert : (old new : BTreeMap (String Y) (Vec ℕ Z)) (key : String Y) (bytes : Vec ℕ Z) → Updates string_cmp old new key (Some bytes) → contents_of new ≡ insert (contents_of old) (string_bytes key) bytes.items
  contents_of-insert old new key bytes updates =
      same_map nat_list_cmp_total (slice_cmp-IsAntisymmetric nat_cmp-IsAntisymmetric) _ _ (λ name.
      let same_test : bytes_eq (string_bytes key) name ≡ eq_by_cmp (slice_cmp nat_cmp) name (string_bytes key) = nat_list_eq_equiv.symm (string_bytes key) name ∙ sym (is_eq-slice_cmp name (string_bytes key)) in
      get-contents_of new name
      ∙ ap content_of (btree_map_updates_text (string_bytes key) old new _ updates name)
      ∙ content_of-cond _ bytes _
      ∙ ap (λ b. cond b (Some bytes.items) (content_of (get_by_text old name))) same_test
      ∙ ap (λ o. cond (eq_by_cmp (slice_cmp nat_cmp) name (string_bytes key)) (Some bytes.items) o) (sym (get-contents_of old name))
      ∙ sym (get-insert nat_list_cmp_total (contents_of old) (string_bytes key) bytes.items name))

-- a file that was put is held
pub held-insert : (files : Contents) (name bytes : List ℕ) → IsSome (get (insert files name bytes) name)
held-insert files name bytes =
    subst IsSome (sym (get-insert nat_list_cmp_total files name bytes name ∙ ap (λ b. cond b (Some bytes) (get files name)) ((eq_by_cmp_equiv nat_list_cmp_total).refl name))) refl

-- a file that was held is held when another was put
pub held-before_insert : (files : Contents) (name bytes other : List ℕ) → IsSome (get files other) → IsSome (get (insert files name bytes) other)
held-before_insert files name bytes other held =
    subst IsSome (sym (get-insert nat_list_cmp_total files name bytes other))
    (elim (eq_by_cmp (slice_cmp nat_cmp) other name) as (λ b. IsSome (cond b (Some bytes) (get files other))) [ true ↦ refl | false ↦ held ])
