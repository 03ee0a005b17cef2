-- Desk files, loaded and read one by one.
use Rattle.std.proofs.Common.{◌≡◌, ℕ, ◌+◌, ◌<◌, ◌≤◌, List, [], ◌∷◌, ◌++◌, length, map, take, drop, get_or, refl, sym, ap, ◌∙◌, subst, arith, Option, Some, None, Result, Ok, Err}
use Rattle.std.specs.Prelude.{All, IfSome, MatchOption}
use Rattle.std.specs.FinMap.{get}
use Rattle.std.proofs.lemmas.List.{drop_more, get_or_at, length-map, length-take-le, map-append, take-append-drop}
use Rattle.std.proofs.lemmas.List.Elements.{All-get_or}
use Rattle.house_base.specs.Text.{Text}
use Rattle.house_io.specs.Faults.{Rose}
use Rattle.house_io.specs.Files.{Contents, IsLonger}
use Rattle.house_io.proofs.Counting.{Rose-from_earlier}
use Rattle.house_model.specs.declared.limits.TheConstants.{MOST_BYTES}
use Rattle.desk_merge.specs.Joined.{Joined, join, join_of}
use Rattle.desk_merge.specs.Reading.{desk_read}
use Rattle.desk_merge.proofs.JoinLemmas.{join_of-append, join_of-one}
use Rattle.house_top.specs.declared.bad.Bad.TheVariants as bad
use Rattle.house_top.specs.declared.status.Status.{Status}
use Rattle.house_top.specs.declared.status.Status.TheVariants as status
use Rattle.house_top.specs.declared.desks.Desks.{Desks}
use Rattle.house_top.specs.declared.desks.Desks.TheVariants as desks
use Rattle.house_top.specs.Desks.{IsOfDesks, all_loaded, all_of, desk_or_refused, desks_from, desks_of, join_loaded, join_read, join_there, with_first}
use Rattle.house_top.specs.Given.{held}
use Rattle.house_top.specs.Opening.{loaded}
use Rattle.house_top.proofs.LoadLemmas.{loaded_long, loaded_short}

-- a list by one of its places
pub map_at : {X Y : Type 0} (f : X → Y) (xs : List X) (i : ℕ) (d : X) → i < length xs → map f xs ≡ map f (take i xs) ++ f (get_or xs i d) ∷ map f (drop (i + 1) xs)
map_at f xs i d within =
    ap (map f) (sym (take-append-drop i xs) ∙ ap (λ t. take i xs ++ t) (drop_more xs i d within)) ∙ map-append f (take i xs) (get_or xs i d ∷ drop (i + 1) xs)

-- what holds of all holds at one place
pub all_at : {X : Type 0} (f : X → Text) (P : Text → Type 0) (xs : List X) (i : ℕ) (d : X) → i < length xs → All P (map f xs) → P (f (get_or xs i d))
all_at f P xs i d within all =
    let here = f (get_or xs i d) in
    subst P (ap (λ ts. get_or ts i here) (map_at f xs i d within) ∙ get_or_at (map f (take i xs)) here (map f (drop (i + 1) xs)) here i (length-map (take i xs) f ∙ length-take-le i xs (omega (arith, within))))
    (All-get_or P (map f xs) i here (omega (arith, within, length-map xs f)) all)

-- Values that are all there.

-- where a value and those behind it are there
there : {A : Type 0} (r : Result A Status) (rest : Result (List A) Status) (all : List A) → with_first r rest ≡ Ok all →
    (a : A) × (more : List A) × (r ≡ Ok a) × (rest ≡ Ok more) × (a ∷ more ≡ all)
there (Err s) rest all is = absurd (let wrong : ⊥ = cc in wrong)
there (Ok a) (Err s) all is = absurd (let wrong : ⊥ = cc in wrong)
there (Ok a) (Ok more) all is = (a, more, refl, refl, cc)

-- one value more
one_more : {A : Type 0} (rs : List (Result A Status)) (all : List A) (r : Result A Status) (a : A) → all_of rs ≡ Ok all → r ≡ Ok a → all_of (rs ++ r ∷ []) ≡ Ok (all ++ a ∷ [])
one_more {A} [] all r a are is =
    let none : [] ≡ all = cc in
    ap (λ r. with_first r (Ok [])) is ∙ ap (λ (all : List A). Ok (all ++ a ∷ [])) none
one_more {A} (x ∷ rs) all r a are is =
    let parts = there x (all_of rs) all are in
    ap (λ x. with_first x (all_of (rs ++ r ∷ []))) parts.2
    ∙ ap (with_first (Ok parts.0)) (one_more rs parts.1 r a parts.3 is)
    ∙ ap (λ (all : List A). Ok (all ++ a ∷ [])) parts.4

-- the first that is not there
one_less : {A : Type 0} (rs : List (Result A Status)) (all : List A) (r : Result A Status) (more : List (Result A Status)) (s : Status) → all_of rs ≡ Ok all → r ≡ Err s → all_of (rs ++ r ∷ more) ≡ Err s
one_less {A} [] all r more s are is = ap (λ r. with_first r (all_of more)) is
one_less {A} (x ∷ rs) all r more s are is =
    let parts = there x (all_of rs) all are in
    ap (λ x. with_first x (all_of (rs ++ r ∷ more))) parts.2 ∙ ap (with_first (Ok parts.0)) (one_less rs parts.1 r more s parts.3 is)

-- Files that are loaded.

loads_of : (files : Contents) (names more : List Text) → map loaded (held (names ++ more) files) ≡ map loaded (held names files) ++ map loaded (held more files)
loads_of files names more = ap (map loaded) (map-append (get files) names more) ∙ map-append loaded (held names files) (held more files)

pub loads_more : (files : Contents) (names : List Text) (name : Text) (all : List Text) (bytes : Text) → all_loaded (held names files) ≡ Ok all → loaded (get files name) ≡ Ok bytes →
    all_loaded (held (names ++ name ∷ []) files) ≡ Ok (all ++ bytes ∷ [])
loads_more files names name all bytes are is = ap all_of (loads_of files names (name ∷ [])) ∙ one_more (map loaded (held names files)) all (loaded (get files name)) bytes are is

pub loads_less : (files : Contents) (names : List Text) (name : Text) (more : List Text) (all : List Text) (s : Status) → all_loaded (held names files) ≡ Ok all → loaded (get files name) ≡ Err s →
    all_loaded (held (names ++ name ∷ more) files) ≡ Err s
loads_less files names name more all s are is =
    ap all_of (loads_of files names (name ∷ more)) ∙ one_less (map loaded (held names files)) all (loaded (get files name)) (map loaded (held more files)) s are is

-- where files are told: one more is loaded
pub more_loaded : (before between : Option Contents) (names : List Text) (name : Text) (all : List Text) (bytes : Text) → between ≡ before → IfSome before (λ files. all_loaded (held names files) ≡ Ok all) →
    IfSome between (λ files. get files name ≡ Some bytes) → length bytes ≤ MOST_BYTES → IfSome before (λ files. all_loaded (held (names ++ name ∷ []) files) ≡ Ok (all ++ bytes ∷ []))
more_loaded before between names name all bytes same are is fits = by_contents before are (subst (λ o. IfSome o (λ files. get files name ≡ Some bytes)) same is)
  where
    by_contents : (o : Option Contents) → IfSome o (λ files. all_loaded (held names files) ≡ Ok all) → IfSome o (λ files. get files name ≡ Some bytes) →
        IfSome o (λ files. all_loaded (held (names ++ name ∷ []) files) ≡ Ok (all ++ bytes ∷ []))
    by_contents None are is = tt
    by_contents (Some files) are is = loads_more files names name all bytes are (loaded_short (get files name) bytes is fits)

-- one is too long, or its length is not told
pub one_long : (before between : Option Contents) (names : List Text) (name : Text) (more all : List Text) (first mid last : ℕ) → between ≡ before → IfSome before (λ files. all_loaded (held names files) ≡ Ok all) → first ≤ mid →
    MatchOption between (Rose mid last) (λ files. IsLonger files name MOST_BYTES) → MatchOption before (Rose first last) (λ files. all_loaded (held (names ++ name ∷ more) files) ≡ Err status.TooLong)
one_long before between names name more all first mid last same are still long = by_contents before are (subst (λ o. MatchOption o (Rose mid last) (λ files. IsLonger files name MOST_BYTES)) same long)
  where
    by_contents : (o : Option Contents) → IfSome o (λ files. all_loaded (held names files) ≡ Ok all) → MatchOption o (Rose mid last) (λ files. IsLonger files name MOST_BYTES) →
        MatchOption o (Rose first last) (λ files. all_loaded (held (names ++ name ∷ more) files) ≡ Err status.TooLong)
    by_contents None are long = Rose-from_earlier first mid last still long
    by_contents (Some files) are long = loads_less files names name more all status.TooLong are (loaded_long (get files name) long)

-- Files that are read.

-- what a file is read as, behind others
desk_behind : (first number : ℕ) (texts : List Text) (bytes : Text) (more : List Text) → number ≡ first + length texts →
    desks_from first (texts ++ bytes ∷ more) ≡ desks_from first texts ++ desk_or_refused number (desk_read bytes) ∷ desks_from (number + 1) more
desk_behind first number [] bytes more is =
    let same : first ≡ number = omega (arith, is) in
    ap (λ n. desk_or_refused n (desk_read bytes) ∷ desks_from (n + 1) more) same
desk_behind first number (text ∷ texts) bytes more is =
    ap (λ ds. desk_or_refused first (desk_read text) ∷ ds) (desk_behind (first + 1) number texts bytes more (omega (arith, is)))

maps_there : (r : Result (List Joined) Status) (m : Joined) → join_there r ≡ Ok m → (ms : List Joined) × (r ≡ Ok ms) × (join_of ms ≡ m)
maps_there (Ok ms) m is = (ms, refl, cc)
maps_there (Err s) m is = absurd (let wrong : ⊥ = cc in wrong)

-- the join with one more
pub reads_more : (texts : List Text) (bytes : Text) (m e : Joined) → join_read texts ≡ Ok m → desk_read bytes ≡ Ok e → join_read (texts ++ bytes ∷ []) ≡ Ok (join m e)
reads_more texts bytes m e are is =
    let maps = maps_there (all_of (desks_from 1 texts)) m are in
    let number = 1 + length texts in
    let desk = desk_or_refused number (desk_read bytes) in
    ap (λ ds. join_there (all_of ds)) (desk_behind 1 number texts bytes [] refl)
    ∙ ap join_there (one_more (desks_from 1 texts) maps.0 desk e maps.1 (ap (desk_or_refused number) is))
    ∙ ap Ok (join_of-append maps.0 (e ∷ []) ∙ ap (join (join_of maps.0)) (join_of-one e) ∙ ap (λ m. join m e) maps.2)

-- the first that is off the form
pub reads_less : (texts : List Text) (bytes : Text) (more : List Text) (m : Joined) (number line : ℕ) → number ≡ 1 + length texts → join_read texts ≡ Ok m → desk_read bytes ≡ Err line →
    join_read (texts ++ bytes ∷ more) ≡ Err (status.BadFile (bad.Desk number line))
reads_less texts bytes more m number line at are is =
    let maps = maps_there (all_of (desks_from 1 texts)) m are in
    let desk = desk_or_refused number (desk_read bytes) in
    ap (λ ds. join_there (all_of ds)) (desk_behind 1 number texts bytes more at)
    ∙ ap join_there (one_less (desks_from 1 texts) maps.0 desk (desks_from (number + 1) more) (status.BadFile (bad.Desk number line)) maps.1 (ap (desk_or_refused number) is))

-- the fact of names that are these
pub long_of : (before : Option Contents) (first last : ℕ) (names these : List Text) → names ≡ these → MatchOption before (Rose first last) (λ files. all_loaded (held these files) ≡ Err status.TooLong) →
    MatchOption before (Rose first last) (λ files. all_loaded (held names files) ≡ Err status.TooLong)
long_of before first last names these are long = subst (λ ns. MatchOption before (Rose first last) (λ files. all_loaded (held ns files) ≡ Err status.TooLong)) (sym are) long

-- What the files come to.

pub desks_read : (contents : Option Contents) (names texts : List Text) (d : Desks) → IfSome contents (λ all. all_loaded (held names all) ≡ Ok texts) → IsOfDesks (join_read texts) d →
    IfSome contents (λ all. IsOfDesks (desks_of (held names all)) d)
unfolding desks_of
desks_read None names texts d are is = tt
desks_read (Some all) names texts d are is = subst (λ r. IsOfDesks (join_loaded r) d) (sym are) is

pub desks_long : (contents : Option Contents) (names : List Text) (first last : ℕ) → MatchOption contents (Rose first last) (λ all. all_loaded (held names all) ≡ Err status.TooLong) →
    IfSome contents (λ all. IsOfDesks (desks_of (held names all)) desks.TooLong)
unfolding desks_of
desks_long None names first last long = tt
desks_long (Some all) names first last long = ap join_loaded long
