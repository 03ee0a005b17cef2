-- The text of a slip, line by line and cell by cell.
use Rattle.std.proofs.Common.{◌≡◌, ℕ, ◌+◌, ◌-◌, ◌*◌, ◌%◌, ◌<◌, ◌≤◌, ◌||◌, zero, suc, Bool, true, false, eqb, leb, List, [], ◌∷◌, ◌++◌, length, map, filter, flat_map, take, Some, slice_get, refl, sym, ap, ◌∙◌, append_assoc, append-nil, arith, inl, inr}
use Rattle.std.specs.Prelude.{codes, decimal, slice_index}
use Rattle.std.specs.List.{join_with_byte, list_any}
use Rattle.std.specs.Option.{option_map_or}
use Rattle.std.proofs.lemmas.Bool.{cases_Bool, cases_lt, cond-true, cond-false}
use Rattle.std.proofs.lemmas.Grind.{flat_map-append}
use Rattle.std.proofs.lemmas.List.{map-append, take_more}
use Rattle.std.proofs.lemmas.List.Elements.{filter-append}
use Rattle.std.proofs.lemmas.Option.{slice_get_within, get_or_from_slice_get}
use Rattle.std.proofs.Math.Nat.{mul-le-mul}
use Rattle.house_base.specs.declared.limits.TheConstants.{DOLLAR, MOST_APPLICANTS, MOST_SEATS}
use Rattle.house_base.specs.declared.plan.Owner.{Owner}
use Rattle.house_base.specs.declared.plan.Person.{Person}
use Rattle.house_base.specs.Setting.{Setting, IsSetting, size, cluster_at, name_at}
use Rattle.house_base.proofs.Settings.{cluster_at-read, length-StandInTurn}
use Rattle.house_base.specs.Text.{Text}
use Rattle.house_model.specs.Report.{line_of}
use Rattle.peer_selection.specs.Counting.{count_below, numbers_below}
use Rattle.peer_selection.specs.Laws.{IsAssigned}
use Rattle.peer_selection.specs.Lottery.{chance}
use Rattle.peer_selection.specs.Marks.{marks}
use Rattle.peer_selection.specs.Profile.{Profile, cumulative_quota, denominator, quota, rank, row}
use Rattle.peer_selection.proofs.CountingLemmas.{numbers_below-add_one, sum_below-term}
use Rattle.peer_selection.proofs.MarkLemmas.{chance-marks_of}
use Rattle.seat_quota.specs.Totals.{HoldsTotals, Shares}
use Rattle.slip_check.specs.Slip.{Cell, ballot_of, ballot_row, cell_of, cell_text, head_row, member_row, places_in, reviews_one_of, sizes_row, slip_of, slip_rows, slip_text}
use Rattle.slip_check.specs.Written.{ballot_line, ballot_lines, member_line, member_lines, spaced_cell, spaced_cells, voters_of}

-- Lines of the elements that pass a test.

-- what stands in a text behind an old one: the lines of those elements of a list that pass
abbrev pub lines_of : {X : Type 0} → (X → Text) → (X → Bool) → List X → Text
lines_of line test xs = flat_map line (filter test xs)

-- one element more, which passes
pub line_taken : {X : Type 0} (line : X → Text) (test : X → Bool) (xs more : List X) (x : X) (old now new : Text) → now ≡ old ++ lines_of line test xs
    → more ≡ xs ++ x ∷ [] → test x ≡ true → new ≡ now ++ line x → new ≡ old ++ lines_of line test more
line_taken line test xs more x old now new so_far grown passes is =
    is ∙ ap (λ t. t ++ line x) so_far
    ∙ append_assoc old (lines_of line test xs) (line x)
    ∙ ap (λ t. old ++ t)
    (ap (λ t. lines_of line test xs ++ t) (sym (append-nil (line x)))
    ∙ sym (flat_map-append line (filter test xs) (x ∷ []))
    ∙ ap (flat_map line) (sym (ap (filter test) grown ∙ filter-append test xs (x ∷ []) ∙ ap (λ ys. filter test xs ++ ys) (cond-true (test x) (x ∷ []) [] passes))))

-- one element more, which does not pass
pub line_skipped : {X : Type 0} (line : X → Text) (test : X → Bool) (xs more : List X) (x : X) (old now : Text) → now ≡ old ++ lines_of line test xs
    → more ≡ xs ++ x ∷ [] → test x ≡ false → now ≡ old ++ lines_of line test more
line_skipped line test xs more x old now so_far grown fails =
    so_far
    ∙ ap (λ ys. old ++ flat_map line ys)
    (sym (ap (filter test) grown ∙ filter-append test xs (x ∷ []) ∙ ap (λ ys. filter test xs ++ ys) (cond-false (test x) (x ∷ []) [] fails) ∙ append-nil (filter test xs)))

-- with a text in between
pub in_front : (old now new a rest : Text) → now ≡ old ++ a → new ≡ now ++ rest → new ≡ old ++ (a ++ rest)
in_front old now new a rest h k = k ∙ ap (λ t. t ++ rest) h ∙ append_assoc old a rest

-- nothing yet
pub line_none : (old now : Text) → now ≡ old → now ≡ old ++ []
line_none old now same = same ∙ sym (append-nil old)

-- The places behind a reviewer, round all.

pub places_to : Setting → ℕ → ℕ → List ℕ
places_to s r d = map (λ e. (r + 1 + e) % size s) (numbers_below d)

pub places_to-none : (s : Setting) (r : ℕ) → places_to s r 0 ≡ []
unfolding places_to numbers_below
places_to-none s r = refl

pub places_to-more : (s : Setting) (r d : ℕ) → places_to s r (d + 1) ≡ places_to s r d ++ (r + 1 + d) % size s ∷ []
unfolding places_to
places_to-more s r d =
    let at = λ (e : ℕ). (r + 1 + e) % size s in
    ap (map at) (numbers_below-add_one d) ∙ map-append at (numbers_below d) (d ∷ [])

pub places_of_none : (f : Profile) (r : ℕ) (old : Text) → old ≡ old ++ lines_of (spaced_cell f r) (f.pairs r) (places_to f.setting r 0)
places_of_none f r old = sym (ap (λ ps. old ++ lines_of (spaced_cell f r) (f.pairs r) ps) (places_to-none f.setting r) ∙ append-nil old)

pub spaced_cells-all : (f : Profile) (r : ℕ) → lines_of (spaced_cell f r) (f.pairs r) (places_to f.setting r (size f.setting)) ≡ spaced_cells f r
unfolding places_to spaced_cells row
spaced_cells-all f r = refl

pub member_lines-all : (s : Setting) (j : ℕ) → lines_of (member_line s) (λ q. eqb (cluster_at s q) j) (numbers_below (size s)) ≡ member_lines s j
unfolding member_lines places_in
member_lines-all s j = refl

pub ballot_lines-all : (f : Profile) (j : ℕ) → lines_of (ballot_line f) (reviews_one_of f (places_in f.setting j)) f.setting.owners ≡ ballot_lines f j
unfolding ballot_lines voters_of
ballot_lines-all f j = refl

-- Whether one passes.

or_assoc : (a b c : Bool) → (a || (b || c)) ≡ ((a || b) || c)
or_assoc true b c = refl
or_assoc false b c = refl

any-append : (test : ℕ → Bool) (xs ys : List ℕ) → list_any test (xs ++ ys) ≡ (list_any test xs || list_any test ys)
any-append test [] ys = refl
any-append test (x ∷ xs) ys = ap (λ b. test x || b) (any-append test xs ys) ∙ or_assoc (test x) (list_any test xs) (list_any test ys)

or_no : (a b : Bool) → a ≡ false → b ≡ false → (a || b) ≡ false
or_no true b h k = h
or_no false b h k = k

or_second : (a b : Bool) → b ≡ true → (a || b) ≡ true
or_second true b h = refl
or_second false b h = h

or_first : (a b : Bool) → a ≡ true → (a || b) ≡ true
or_first true b h = refl
or_first false b h = cc

-- nobody so far passes both tests
pub none_more : (member test : ℕ → Bool) (n : ℕ) → list_any test (filter member (numbers_below n)) ≡ false → (member n ≡ true → test n ≡ false)
    → list_any test (filter member (numbers_below (n + 1))) ≡ false
none_more member test n so_far fails = elim (cases_Bool (member n)) [
  | inl here ↦
      ap (list_any test) (ap (filter member) (numbers_below-add_one n) ∙ filter-append member (numbers_below n) (n ∷ []) ∙ ap (λ ys. filter member (numbers_below n) ++ ys) (cond-true (member n) (n ∷ []) [] here))
      ∙ any-append test (filter member (numbers_below n)) (n ∷ [])
      ∙ or_no (list_any test (filter member (numbers_below n))) (test n || false) so_far (or_no (test n) false (fails here) refl)
  | inr other ↦
      ap (list_any test) (ap (filter member) (numbers_below-add_one n) ∙ filter-append member (numbers_below n) (n ∷ []) ∙ ap (λ ys. filter member (numbers_below n) ++ ys) (cond-false (member n) (n ∷ []) [] other) ∙ append-nil (filter member (numbers_below n)))
      ∙ so_far
]

-- one that passes both
pub one_passes : (member test : ℕ → Bool) (p n : ℕ) → p < n → member p ≡ true → test p ≡ true → list_any test (filter member (numbers_below n)) ≡ true
unfolding numbers_below
one_passes member test p zero below is passes = absurd (omega arith)
one_passes member test p (suc n) below is passes =
    ap (list_any test) (filter-append member (numbers_below n) (n ∷ [])) ∙ any-append test (filter member (numbers_below n)) (filter member (n ∷ []))
    ∙ elim (cases_lt p n) [
      | inl l ↦ or_first (list_any test (filter member (numbers_below n))) (list_any test (filter member (n ∷ []))) (one_passes member test p n l is passes)
      | inr l ↦
          let last : p ≡ n = omega arith in
          or_second (list_any test (filter member (numbers_below n))) (list_any test (filter member (n ∷ [])))
          (ap (list_any test) (cond-true (member n) (n ∷ []) [] (ap member (sym last) ∙ is)) ∙ or_first (test n) false (ap test (sym last) ∙ passes))
    ]

-- The parts of a slip.

-- words with a space between two are the first, and the others with a space before each
joined-spaced : (w : Text) (ws : List Text) → join_with_byte 32 (w ∷ ws) ≡ w ++ flat_map (λ v. 32 ∷ v) ws
joined-spaced w [] = sym (append-nil w)
joined-spaced w (v ∷ ws) = ap (λ t. w ++ 32 ∷ t) (joined-spaced v ws)

flat_map-map : {A B : Type 0} (g : B → Text) (h : A → B) (xs : List A) → flat_map g (map h xs) ≡ flat_map (λ x. g (h x)) xs
flat_map-map g h [] = refl
flat_map-map g h (x ∷ xs) = ap (λ t. g (h x) ++ t) (flat_map-map g h xs)

pub ballot_line-written : (f : Profile) (owner : Owner) → ballot_line f owner ≡ codes "ballot " ++ (owner.name ++ (spaced_cells f owner.first ++ 10 ∷ []))
unfolding ballot_line ballot_of spaced_cells line_of
ballot_line-written f owner =
    let places = row f owner.first in
    let cells = map (cell_of f owner.first) places in
    let spaced = λ (v : Text). 32 ∷ v in
    let one_by_one : flat_map spaced (map cell_text cells) ≡ flat_map (spaced_cell f owner.first) places =
    flat_map-map spaced cell_text cells ∙ flat_map-map (λ cell. spaced (cell_text cell)) (cell_of f owner.first) places in
    ap (λ t. t ++ 10 ∷ []) (joined-spaced (codes "ballot") (owner.name ∷ map cell_text cells) ∙ ap (λ t. codes "ballot " ++ (owner.name ++ t)) one_by_one)
    ∙ ap (λ t. codes "ballot " ++ t) (append_assoc owner.name (flat_map (spaced_cell f owner.first) places) (10 ∷ []))

pub slip_text-written : (f : Profile) (p number den : ℕ) → slip_text number den (slip_of f p)
    ≡ line_of (head_row number den (name_at f.setting p)) ++ (line_of (sizes_row f.setting.seats (length f.setting.owners))
    ++ (member_lines f.setting (cluster_at f.setting p) ++ ballot_lines f (cluster_at f.setting p)))
unfolding slip_text slip_rows slip_of member_lines ballot_lines ballot_line voters_of
slip_text-written f p number den =
    let s = f.setting in
    let j = cluster_at s p in
    let head = line_of (head_row number den (name_at s p)) in
    let sizes = line_of (sizes_row s.seats (length s.owners)) in
    let places = places_in s j in
    let voters = voters_of f j in
    ap (λ t. head ++ (sizes ++ t))
    (flat_map-append line_of (map member_row (map (name_at s) places)) (map ballot_row (map (ballot_of f) voters))
    ∙ ap (λ t. t ++ flat_map line_of (map ballot_row (map (ballot_of f) voters)))
    (flat_map-map line_of member_row (map (name_at s) places) ∙ flat_map-map (λ name. line_of (member_row name)) (name_at s) places)
    ∙ ap (λ t. flat_map (member_line s) places ++ t)
    (flat_map-map line_of ballot_row (map (ballot_of f) voters) ∙ flat_map-map (λ ballot. line_of (ballot_row ballot)) (ballot_of f) voters))

-- the name of the applicant at a place
pub name_at-read : (s : Setting) (p : ℕ) (person : Person) → slice_get s.people p ≡ Some person → name_at s p ≡ person.name
unfolding name_at
name_at-read s p person at = ap (λ found. option_map_or (λ person. person.name) found []) at

-- a slip, from what its lines are written of
pub slip_text-read : (f : Profile) (p number den seats persons : ℕ) (person : Person) → slice_get f.setting.people p ≡ Some person → number ≡ chance f p → den ≡ denominator f.setting
    → seats ≡ f.setting.seats → persons ≡ length f.setting.owners
    → line_of (head_row number den person.name) ++ (line_of (sizes_row seats persons) ++ (member_lines f.setting person.cluster ++ ballot_lines f person.cluster))
    ≡ slip_text (chance f p) (denominator f.setting) (slip_of f p)
slip_text-read f p number den seats persons person at number_is den_is seats_is persons_is =
    let s = f.setting in
    let lines = λ (j : ℕ). member_lines s j ++ ballot_lines f j in
    ap (λ x. line_of (head_row x den person.name) ++ (line_of (sizes_row seats persons) ++ lines person.cluster)) number_is
    ∙ ap (λ x. line_of (head_row (chance f p) x person.name) ++ (line_of (sizes_row seats persons) ++ lines person.cluster)) den_is
    ∙ ap (λ x. line_of (head_row (chance f p) (denominator s) x) ++ (line_of (sizes_row seats persons) ++ lines person.cluster)) (sym (name_at-read s p person at))
    ∙ ap (λ x. line_of (head_row (chance f p) (denominator s) (name_at s p)) ++ (line_of (sizes_row x persons) ++ lines person.cluster)) seats_is
    ∙ ap (λ x. line_of (head_row (chance f p) (denominator s) (name_at s p)) ++ (line_of (sizes_row s.seats x) ++ lines person.cluster)) persons_is
    ∙ ap (λ j. line_of (head_row (chance f p) (denominator s) (name_at s p)) ++ (line_of (sizes_row s.seats (length s.owners)) ++ lines j)) (sym (cluster_at-read s p person at))
    ∙ sym (slip_text-written f p (chance f p) (denominator s))

abbrev pub cell_with : Text → ℕ → Cell
cell_with name points = record { proposal = name; points = points }

-- the cell of a reviewer, from a name and points
pub cell_read : (f : Profile) (r p points : ℕ) (name : Text) → name_at f.setting p ≡ name → points ≡ f.points r p → 32 ∷ cell_text (cell_with name points) ≡ spaced_cell f r p
cell_read f r p points name name_is points_is =
    ap (λ w. 32 ∷ cell_text (cell_with w points)) (sym name_is) ∙ ap (λ x. 32 ∷ cell_text (cell_with (name_at f.setting p) x)) points_is

-- the same, from what is written
pub cell_written : (name digits proposal : Text) (points : ℕ) → name ≡ proposal → digits ≡ decimal points → 32 ∷ (name ++ 58 ∷ digits) ≡ 32 ∷ cell_text (cell_with proposal points)
unfolding cell_text
cell_written name digits proposal points name_is digits_are = ap (λ w. 32 ∷ (w ++ 58 ∷ digits)) name_is ∙ ap (λ t. 32 ∷ (proposal ++ 58 ∷ t)) digits_are

-- Persons.

-- one person more
pub take_next : {X : Type 0} (xs : List X) (i : ℕ) (x : X) → slice_get xs i ≡ Some x → take (i + 1) xs ≡ take i xs ++ x ∷ []
take_next xs i x at = take_more xs i x (slice_get_within xs i x at) ∙ ap (λ y. take i xs ++ y ∷ []) (get_or_from_slice_get xs i x x at)

-- The chance.

-- the quota of a cluster fits
pub quota_fits : (s : Setting) (t : Shares) (j : ℕ) → IsSetting s → HoldsTotals s t → j < s.clusters → s.seats * slice_index t.clusters j ≤ MOST_SEATS * (MOST_APPLICANTS * DOLLAR)
unfolding denominator
quota_fits s t j setting held below =
    let persons = length-StandInTurn 0 s.owners (size s) setting.own setting.in_turn in
    let term = sum_below-term (slice_index t.clusters) j s.clusters below in
    let den_is : t.den ≡ length s.owners * DOLLAR = held.den in
    let cents : slice_index t.clusters j ≤ MOST_APPLICANTS * DOLLAR = omega (arith, term, held.whole, den_is, persons, setting.few) in
    mul-le-mul setting.seats_in_range.1 cents

pub chance-counted : (f : Profile) (p width den place number : ℕ) → IsAssigned f → p < size f.setting → width ≡ quota f (cluster_at f.setting p) → den ≡ denominator f.setting → place ≡ rank f p
    → ((start : ℕ) → number ≡ count_below (λ v. leb place (marks start width den v)) den) → number ≡ chance f p
chance-counted f p width den place number assigned below width_is den_is place_is counted =
    let start = cumulative_quota f (cluster_at f.setting p - 1) in
    counted start
    ∙ ap (λ w. count_below (λ v. leb place (marks start w den v)) den) width_is
    ∙ ap (λ r. count_below (λ v. leb r (marks start (quota f (cluster_at f.setting p)) den v)) den) place_is
    ∙ ap (λ d. count_below (λ v. leb (rank f p) (marks start (quota f (cluster_at f.setting p)) d v)) d) den_is
    ∙ sym (chance-marks_of f p assigned below)
