-- The cells of a ballot, one by one.
use Rattle.std.proofs.Common.{◌≡◌, ℕ, ◌*◌, ◌<◌, ◌≤◌, ◌∙◌, Bool, true, false, eqb, ◌&&◌, ◌||◌, leb, List, [], ◌∷◌, ◌++◌, map, length, refl, sym, ap, arith, Some, None, Option, bytes_eq, append_assoc, append-nil, length-append, inl, inr}
use Rattle.std.specs.Prelude.{not, codes}
use Rattle.std.specs.List.{list_all}
use Rattle.std.specs.Option.{option_map}
use Rattle.std.proofs.lemmas.Bool.{and_parts, le-leb, leb-true, cases_Bool}
use Rattle.std.proofs.lemmas.Bool.Decides.{nat_tests}
use Rattle.std.proofs.lemmas.List.{map-append, length-map}
use Rattle.std.proofs.lemmas.List.Folds.{list_all-append, list_any-append}
use Rattle.house_base.specs.Name.{is_name}
use Rattle.house_base.specs.Text.{Text, among}
use Rattle.house_base.specs.declared.limits.TheConstants.{MOST_OWN, MOST_REVIEWS}
use Rattle.house_base.proofs.AmongLemmas.{bytes_eq-swap}
use Rattle.house_model.specs.Text.{is_empty}
use Rattle.name_index.proofs.IndexLemmas.{AllPairs-push_text}
use Rattle.slip_check.specs.Counted.{AreCells, IsBallotOf, points_in}
use Rattle.slip_check.specs.Form.{all_differ, are_cells, before_colon, is_ballot, is_cell}
use Rattle.command_text.specs.Strict.{Row, spelled_behind}
use Rattle.command_text.proofs.StrictLemmas.{behind_some, one_more}

among-append : (xs ys : List Text) (t : Text) → among (xs ++ ys) t ≡ (among xs t || among ys t)
unfolding among
among-append xs ys t = list_any-append (bytes_eq t) xs ys

among_one : (x t : Text) → among (x ∷ []) t ≡ bytes_eq t x
unfolding among
among_one x t = elim (cases_Bool (bytes_eq t x)) [ inl e ↦ rw e refl | inr e ↦ rw e refl ]

among-cons : (x : Text) (xs : List Text) (t : Text) → among (x ∷ xs) t ≡ (bytes_eq t x || among xs t)
unfolding among
among-cons x xs t = refl

turn : (a b c d : Bool) → (not (a || b) && (c && not d)) ≡ ((not a && c) && not (b || d))
turn true b c d = refl
turn false true c d = grind (arith, nat_tests)
turn false false c d = refl

-- one text more, which is among none of the others
pub all_differ-push : (xs : List Text) (x : Text) → all_differ (xs ++ x ∷ []) ≡ (all_differ xs && not (among xs x))
unfolding among
all_differ-push [] x = refl
all_differ-push (t ∷ ts) x =
    ap (λ b. not b && all_differ (ts ++ x ∷ [])) (among-append ts (x ∷ []) t ∙ ap (λ b. among ts t || b) (among_one x t ∙ bytes_eq-swap t x))
    ∙ ap (λ b. not (among ts t || bytes_eq x t) && b) (all_differ-push ts x)
    ∙ turn (among ts t) (bytes_eq x t) (all_differ ts) (among ts x)
    ∙ ap (λ b. (not (among ts t) && all_differ ts) && not b) (sym (among-cons t ts x))

pub all_differ-front : (xs ys : List Text) → all_differ (xs ++ ys) ≡ true → all_differ xs ≡ true
all_differ-front [] ys h = refl
all_differ-front (t ∷ ts) ys h =
    let parts = and_parts (not (among (ts ++ ys) t)) (all_differ (ts ++ ys)) h in
    let rest = all_differ-front ts ys parts.1 in
    let apart : not (among ts t || among ys t) ≡ true = ap not (sym (among-append ts ys t)) ∙ parts.0 in
    grind (arith, nat_tests)

-- Cells of which some are read.

pub no_cells : AreCells [] [] []
unfolding are_cells
no_cells = record { cells = refl; proposals_are = refl; points_are = refl; differ = λ i j d l m. absurd (omega arith) }

pub cells_parts : (ws : Row) → are_cells ws ≡ true → (length ws ≤ MOST_REVIEWS * MOST_OWN) × (list_all is_cell ws ≡ true) × (all_differ (map before_colon ws) ≡ true)
unfolding are_cells
cells_parts ws h =
    let a = and_parts (leb (length ws) (MOST_REVIEWS * MOST_OWN) && list_all is_cell ws) (all_differ (map before_colon ws)) h in
    let b = and_parts (leb (length ws) (MOST_REVIEWS * MOST_OWN)) (list_all is_cell ws) a.0 in
    (leb-true _ _ b.0, b.1, a.1)

pub cells_from : (ws : Row) → length ws ≤ MOST_REVIEWS * MOST_OWN → list_all is_cell ws ≡ true → all_differ (map before_colon ws) ≡ true → are_cells ws ≡ true
unfolding are_cells
cells_from ws l a d = rw (le-leb _ _ l, a, d) refl

last_passes : (p : Text → Bool) (ws : Row) (w : Text) → list_all p ws ≡ true → p w ≡ true → list_all p (ws ++ w ∷ []) ≡ true
last_passes p ws w h k = list_all-append p ws (w ∷ []) ∙ rw (h, k) refl

pub cells_more : (ws : Row) (w : Text) (proposals : List Text) (points : List ℕ) → AreCells ws proposals points → length proposals < MOST_REVIEWS * MOST_OWN
    → is_cell w ≡ true → among proposals (before_colon w) ≡ false
    → AreCells (ws ++ w ∷ []) (proposals ++ before_colon w ∷ []) (points ++ points_in w ∷ [])
cells_more ws w proposals points r room cell new =
    let parts = cells_parts ws r.cells in
    let count : length ws ≡ length proposals = sym (length-map ws before_colon) ∙ ap length (sym r.proposals_are) in
    let short : length (ws ++ w ∷ []) ≤ MOST_REVIEWS * MOST_OWN = omega (arith, count, room, length-append ws (w ∷ [])) in
    let apart : all_differ (map before_colon (ws ++ w ∷ [])) ≡ true =
    ap all_differ (map-append before_colon ws (w ∷ [])) ∙ all_differ-push (map before_colon ws) (before_colon w)
    ∙ rw (parts.2, ap (λ ps. among ps (before_colon w)) (sym r.proposals_are) ∙ new) refl in
    record {
      cells = cells_from (ws ++ w ∷ []) short (last_passes is_cell ws w parts.1 cell) apart;
      proposals_are = ap (λ ps. ps ++ before_colon w ∷ []) r.proposals_are ∙ sym (map-append before_colon ws (w ∷ []));
      points_are = ap (λ ps. ps ++ points_in w ∷ []) r.points_are ∙ sym (map-append points_in ws (w ∷ []));
      differ = AllPairs-push_text proposals (before_colon w) r.differ new;
    }

refuted : (b : Bool) → (b ≡ true → ⊥) → b ≡ false
refuted true h = absurd (h refl)
refuted false h = refl

both_ways : (b : Bool) → b ≡ true → b ≡ false → ⊥
both_ways true h k = cc
both_ways false h k = cc

pub too_many_cells : (ws : Row) (w : Text) (proposals : List Text) (points : List ℕ) → AreCells ws proposals points → MOST_REVIEWS * MOST_OWN ≤ length proposals
    → are_cells (ws ++ w ∷ []) ≡ false
too_many_cells ws w proposals points r full =
    let count : length ws ≡ length proposals = sym (length-map ws before_colon) ∙ ap length (sym r.proposals_are) in
    refuted (are_cells (ws ++ w ∷ [])) (λ e. absurd (omega (arith, (cells_parts (ws ++ w ∷ []) e).0, length-append ws (w ∷ []), count, full)))

pub no_cell : (ws : Row) (w : Text) → is_cell w ≡ false → are_cells (ws ++ w ∷ []) ≡ false
no_cell ws w h =
    refuted (are_cells (ws ++ w ∷ [])) (λ e.
    let all : (list_all is_cell ws && list_all is_cell (w ∷ [])) ≡ true = sym (list_all-append is_cell ws (w ∷ [])) ∙ (cells_parts (ws ++ w ∷ []) e).1 in
    let last = (and_parts (is_cell w) true (and_parts (list_all is_cell ws) (list_all is_cell (w ∷ [])) all).1).0 in
    both_ways (is_cell w) last h)

pub cell_again : (ws : Row) (w : Text) (proposals : List Text) (points : List ℕ) → AreCells ws proposals points → among proposals (before_colon w) ≡ true
    → are_cells (ws ++ w ∷ []) ≡ false
cell_again ws w proposals points r again =
    refuted (are_cells (ws ++ w ∷ [])) (λ e.
    let apart : (all_differ (map before_colon ws) && not (among (map before_colon ws) (before_colon w))) ≡ true =
    sym (ap all_differ (map-append before_colon ws (w ∷ [])) ∙ all_differ-push (map before_colon ws) (before_colon w)) ∙ (cells_parts (ws ++ w ∷ []) e).2 in
    let new = (and_parts (all_differ (map before_colon ws)) (not (among (map before_colon ws) (before_colon w))) apart).1 in
    both_ways (not (among (map before_colon ws) (before_colon w))) new (ap (λ ps. not (among ps (before_colon w))) (sym r.proposals_are) ∙ ap not again))

-- where the first so many are no cells, neither are all
pub cells_front : (ws more : Row) → are_cells ws ≡ false → are_cells (ws ++ more) ≡ false
cells_front ws more h =
    refuted (are_cells (ws ++ more)) (λ e.
    let parts = cells_parts (ws ++ more) e in
    let all = (and_parts (list_all is_cell ws) (list_all is_cell more) (sym (list_all-append is_cell ws more) ∙ parts.1)).0 in
    let apart = all_differ-front (map before_colon ws) (map before_colon more) (ap all_differ (sym (map-append before_colon ws more)) ∙ parts.2) in
    both_ways (are_cells ws) (cells_from ws (omega (arith, parts.0, length-append ws more)) all apart) h)

-- What is left behind so many words.

twice : (ws : Row) (w : Text) (o : Option Row) → option_map (λ row. ws ++ row) (option_map (λ row. w ∷ row) o) ≡ option_map (λ row. (ws ++ w ∷ []) ++ row) o
twice ws w None = refl
twice ws w (Some row) = ap Some (sym (append_assoc ws (w ∷ []) row))

pub left_more : (ws : Row) (w : Text) (rest left more : Text) → spelled_behind rest ≡ option_map (λ row. ws ++ row) (spelled_behind left)
    → spelled_behind left ≡ option_map (λ row. w ∷ row) (spelled_behind more)
    → spelled_behind rest ≡ option_map (λ row. (ws ++ w ∷ []) ++ row) (spelled_behind more)
left_more ws w rest left more h k = h ∙ ap (option_map (λ row. ws ++ row)) k ∙ twice ws w (spelled_behind more)

-- The same in the words of the code.

pub cells_pushed : (ws : Row) (w : Text) (ps ps' : List Text) (pts pts' : List ℕ) (p : Text) (n : ℕ) → AreCells ws ps pts → length ps < MOST_REVIEWS * MOST_OWN
    → is_cell w ≡ true → among ps p ≡ false → p ≡ before_colon w → n ≡ points_in w → ps' ≡ ps ++ p ∷ [] → pts' ≡ pts ++ n ∷ [] → AreCells (ws ++ w ∷ []) ps' pts'
cells_pushed ws w ps ps' pts pts' p n r room cell new p_is n_is grown grown_points =
    rw (grown, grown_points, p_is, n_is) (cells_more ws w ps pts r room cell (ap (among ps) (sym p_is) ∙ new))

-- Of the words behind others so many were read as cells.
pub record IsReadTo (rest left : Text) (ps : List Text) (pts : List ℕ) : Type 0 where
  pub ws : Row
  pub read : AreCells ws ps pts
  pub split : spelled_behind rest ≡ option_map (λ row. ws ++ row) (spelled_behind left)

same_row : (o : Option Row) → o ≡ option_map (λ row. [] ++ row) o
same_row None = refl
same_row (Some row) = refl

pub nothing_read : (rest : Text) → IsReadTo rest rest [] []
nothing_read rest = record { ws = []; read = no_cells; split = same_row (spelled_behind rest) }

pub one_read : (rest left more w : Text) (ps ps' : List Text) (pts pts' : List ℕ) (i : IsReadTo rest left ps pts)
    → spelled_behind left ≡ option_map (λ row. w ∷ row) (spelled_behind more) → AreCells (i.ws ++ w ∷ []) ps' pts' → IsReadTo rest more ps' pts'
one_read rest left more w ps ps' pts pts' i found read =
    record { ws = i.ws ++ w ∷ []; read = read; split = left_more i.ws w rest left more i.split found }

pub all_read : (rest left : Text) (ps : List Text) (pts : List ℕ) → IsReadTo rest left ps pts → length left ≡ 0 → (ws : Row) × (spelled_behind rest ≡ Some ws) × AreCells ws ps pts
all_read rest [] ps pts i none = (i.ws, i.split ∙ ap Some (append-nil i.ws), i.read)
all_read rest (b ∷ left) ps pts i none = absurd (omega (arith, none))

unread_row : (ws row : Row) (o : Option Row) → o ≡ None → option_map (λ r. ws ++ r) o ≡ Some row → ⊥
unread_row ws row None h e = cc
unread_row ws row (Some r) h e = cc

-- nothing is spelled where nothing is left behind the words that were read
pub not_spelled : (rest left : Text) (ps : List Text) (pts : List ℕ) → IsReadTo rest left ps pts → spelled_behind left ≡ None → (ws : Row) → spelled_behind rest ≡ Some ws → are_cells ws ≡ false
not_spelled rest left ps pts i none ws e = absurd (unread_row i.ws ws (spelled_behind left) none (sym i.split ∙ e))

front_of : (ws : Row) (w : Text) (row : Row) (o : Option Row) → option_map (λ r. (ws ++ w ∷ []) ++ r) o ≡ Some row → (more : Row) × (row ≡ (ws ++ w ∷ []) ++ more)
front_of ws w row None e = cc
front_of ws w row (Some r) e = (r, cc)

pub cell_off : (rest left more w : Text) (ps : List Text) (pts : List ℕ) (i : IsReadTo rest left ps pts)
    → spelled_behind left ≡ option_map (λ row. w ∷ row) (spelled_behind more) → are_cells (i.ws ++ w ∷ []) ≡ false
    → (ws : Row) → spelled_behind rest ≡ Some ws → are_cells ws ≡ false
cell_off rest left more w ps pts i found off ws e =
    let front = front_of i.ws w ws (spelled_behind more) (sym (left_more i.ws w rest left more i.split found) ∙ e) in
    ap are_cells front.1 ∙ cells_front (i.ws ++ w ∷ []) front.0 off

-- A ballot's line.

pub ballot_is : (w : Text) (ws : Row) → is_ballot (codes "ballot" ∷ w ∷ ws) ≡ ((is_name w && not (is_empty ws)) && are_cells ws)
unfolding is_ballot
ballot_is w ws = refl

row_behind : (w : Text) (rest more : Text) (row : Row) → spelled_behind rest ≡ option_map (λ r. w ∷ r) (spelled_behind more) → spelled_behind rest ≡ Some row
    → (ws : Row) × (spelled_behind more ≡ Some ws) × (row ≡ w ∷ ws)
row_behind w rest more row found e = one_more w row (spelled_behind more) (sym e ∙ found)

pub ballot_without_person : (rest : Text) (row : Row) → (0 < length rest → spelled_behind rest ≡ None) → spelled_behind rest ≡ Some row → is_ballot (codes "ballot" ∷ row) ≡ false
unfolding is_ballot is_name
ballot_without_person [] [] h e = refl
ballot_without_person [] (w ∷ row) h e = cc
ballot_without_person (b ∷ rest) row h e = cc (h (omega arith))

three_no1 : (a b c : Bool) → a ≡ false → ((a && b) && c) ≡ false
three_no1 a b c h = grind (arith, nat_tests)

three_no2 : (a b c : Bool) → b ≡ false → ((a && b) && c) ≡ false
three_no2 a b c h = grind (arith, nat_tests)

three_no3 : (a b c : Bool) → c ≡ false → ((a && b) && c) ≡ false
three_no3 a b c h = grind (arith, nat_tests)

pub ballot_of_nobody : (w rest more : Text) (row : Row) → spelled_behind rest ≡ option_map (λ r. w ∷ r) (spelled_behind more) → is_name w ≡ false → spelled_behind rest ≡ Some row
    → is_ballot (codes "ballot" ∷ row) ≡ false
ballot_of_nobody w rest more row found off e =
    let parts = row_behind w rest more row found e in
    ap (λ r. is_ballot (codes "ballot" ∷ r)) parts.2 ∙ ballot_is w parts.0 ∙ three_no1 (is_name w) (not (is_empty parts.0)) (are_cells parts.0) off

none_left : (more : Text) (ws : Row) → length more ≡ 0 → spelled_behind more ≡ Some ws → not (is_empty ws) ≡ false
none_left [] [] h e = refl
none_left [] (w ∷ ws) h e = cc
none_left (b ∷ more) ws h e = absurd (omega (arith, h))

pub ballot_without_cells : (w rest more : Text) (row : Row) → spelled_behind rest ≡ option_map (λ r. w ∷ r) (spelled_behind more) → length more ≡ 0 → spelled_behind rest ≡ Some row
    → is_ballot (codes "ballot" ∷ row) ≡ false
ballot_without_cells w rest more row found none e =
    let parts = row_behind w rest more row found e in
    ap (λ r. is_ballot (codes "ballot" ∷ r)) parts.2 ∙ ballot_is w parts.0 ∙ three_no2 (is_name w) (not (is_empty parts.0)) (are_cells parts.0) (none_left more parts.0 none parts.1)

pub ballot_of_no_cells : (w rest more : Text) (row : Row) → spelled_behind rest ≡ option_map (λ r. w ∷ r) (spelled_behind more)
    → ((ws : Row) → spelled_behind more ≡ Some ws → are_cells ws ≡ false) → spelled_behind rest ≡ Some row → is_ballot (codes "ballot" ∷ row) ≡ false
ballot_of_no_cells w rest more row found off e =
    let parts = row_behind w rest more row found e in
    ap (λ r. is_ballot (codes "ballot" ∷ r)) parts.2 ∙ ballot_is w parts.0 ∙ three_no3 (is_name w) (not (is_empty parts.0)) (are_cells parts.0) (off parts.0 parts.1)

pub some_row : (ws : Row) → 0 < length ws → not (is_empty ws) ≡ true
some_row [] h = absurd (omega arith)
some_row (w ∷ ws) h = refl

pub ballot_read : (w p rest more : Text) (ps : List Text) (pts : List ℕ) → spelled_behind rest ≡ option_map (λ r. w ∷ r) (spelled_behind more) → is_name w ≡ true → p ≡ w
    → eqb (length more) 0 ≡ false → (ws : Row) × (spelled_behind more ≡ Some ws) × AreCells ws ps pts
    → (row : Row) × (spelled_behind rest ≡ Some row) × IsBallotOf (codes "ballot" ∷ row) p ps pts
ballot_read w p rest more ps pts found name same some (ws, e, cells) = (
  w ∷ ws,
  found ∙ ap (option_map (λ r. w ∷ r)) e,
  record {
    ballot = ballot_is w ws ∙ rw (name, some_row ws (behind_some more ws some e), cells.cells) refl;
    person_is = same;
    cells_are = cells;
  },
)
