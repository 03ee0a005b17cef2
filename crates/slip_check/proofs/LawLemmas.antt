-- What the lines behind the first tell, and what the slip of an applicant says.
use Rattle.std.proofs.Common.{◌≡◌, ℕ, ◌*◌, ◌^◌, ◌<◌, ◌∙◌, cond, List, [], ◌∷◌, length, map, filter, drop, get_or, refl, sym, ap, arith, None}
use Rattle.std.specs.Prelude.{codes}
use Rattle.std.proofs.lemmas.Bool.{cases_Bool}
use Rattle.std.proofs.Common.{inl, inr}
use Rattle.house_base.specs.Setting.{name_at, size}
use Rattle.house_base.specs.Text.{Text}
use Rattle.house_base.specs.declared.limits.TheConstants.{DOLLAR}
use Rattle.house_base.proofs.Settings.{length-StandInTurn}
use Rattle.house_model.specs.Said.{number}
use Rattle.peer_selection.specs.Laws.{IsAssigned}
use Rattle.peer_selection.specs.Lottery.{chance, selected}
use Rattle.peer_selection.specs.Profile.{Profile, denominator}
use Rattle.peer_selection.proofs.CountingLemmas.{count_below-le}
use Rattle.slip_check.specs.Form.{Rows, ballot_in, ballots_in, begins, fault_from, fault_in, is_on_form, members_in, rows_of, slip_in, word_at}
use Rattle.slip_check.specs.Limits.{GivesSlips, IsRight, Says}
use Rattle.slip_check.specs.Slip.{Ballot, Slip, printed_slip, slip_of, worth}
use Rattle.command_text.specs.Strict.{Row, fed_lines, row_of}
use Rattle.slip_check.proofs.LimitLemmas.{slip-within}
use Rattle.slip_check.proofs.OpenedLemmas.{first_begins, starts, step_off}
use Rattle.slip_check.proofs.ReadBackLemmas.{read-back}
use Rattle.slip_check.proofs.WorthLemmas.{worth-chance}

-- the first line of a text of the form, and those behind it
record HasFirst (lines : List Text) : Type 0 where
  line : Text
  rest : List Text
  split : lines ≡ line ∷ rest
  begins_slip : word_at (row_of line) 0 ≡ codes "slip"

first_of : (lines : List Text) → fault_from [] lines ≡ None → HasFirst lines
unfolding members_in
first_of [] h = cc
first_of (line ∷ rest) h = record {
  line = line;
  rest = rest;
  split = refl;
  begins_slip = first_begins line (elim (cases_Bool (is_on_form [] line)) [ inl on ↦ on | inr off ↦ absurd (cc (step_off [] line rest off, h)) ]);
}

-- what is read off the lines behind the first
abbrev behind : Text → Rows → Slip
behind name rows = record {
  name = name;
  seats = number (word_at (get_or rows 0 []) 1);
  persons = number (word_at (get_or rows 0 []) 3);
  members = members_in rows;
  ballots = ballots_in rows;
}

members_behind : (first : Row) (rows : Rows) → word_at first 0 ≡ codes "slip" → members_in (first ∷ rows) ≡ members_in rows
unfolding members_in
members_behind first rows h =
    ap (λ b. map (λ said. word_at said 1) (cond b (first ∷ filter (begins (codes "member")) rows) (filter (begins (codes "member")) rows)))
    (starts (codes "member") first (codes "slip") h)

ballots_behind : (first : Row) (rows : Rows) → word_at first 0 ≡ codes "slip" → ballots_in (first ∷ rows) ≡ ballots_in rows
unfolding ballots_in
ballots_behind first rows h =
    ap (λ b. map ballot_in (cond b (first ∷ filter (begins (codes "ballot")) rows) (filter (begins (codes "ballot")) rows)))
    (starts (codes "ballot") first (codes "slip") h)

abbrev slip_with : Text → ℕ → ℕ → List Text → List Ballot → Slip
slip_with name seats persons members ballots = record { name = name; seats = seats; persons = persons; members = members; ballots = ballots }

slip_behind : (first : Row) (rows : Rows) → word_at first 0 ≡ codes "slip" → slip_in (first ∷ rows) ≡ behind (slip_in (first ∷ rows)).name rows
unfolding slip_in
slip_behind first rows h =
    let seats = number (word_at (get_or rows 0 []) 1) in
    let persons = number (word_at (get_or rows 0 []) 3) in
    ap (λ ms. slip_with (word_at first 1) seats persons ms (ballots_in (first ∷ rows))) (members_behind first rows h)
    ∙ ap (slip_with (word_at first 1) seats persons (members_in rows)) (ballots_behind first rows h)

rows_split : (bytes : Text) (line : Text) (rest : List Text) → fed_lines bytes ≡ line ∷ rest → rows_of bytes ≡ row_of line ∷ map row_of rest
unfolding rows_of
rows_split bytes line rest h = ap (map row_of) h

slip_told : (bytes : Text) → (h : fault_in bytes ≡ None) → slip_in (rows_of bytes) ≡ behind (slip_in (rows_of bytes)).name (map row_of (drop 1 (fed_lines bytes)))
unfolding fault_in
slip_told bytes h =
    let f = first_of (fed_lines bytes) h in
    let rows = rows_split bytes f.line f.rest f.split in
    ap slip_in rows
    ∙ slip_behind (row_of f.line) (map row_of f.rest) f.begins_slip
    ∙ ap (λ r. behind (slip_in r).name (map row_of f.rest)) (sym rows)
    ∙ ap (λ l. behind (slip_in (rows_of bytes)).name (map row_of (drop 1 l))) (sym f.split)

pub one_worth : (a b : Text) → fault_in a ≡ None → fault_in b ≡ None → drop 1 (fed_lines a) ≡ drop 1 (fed_lines b)
    → (slip_in (rows_of a)).name ≡ (slip_in (rows_of b)).name → worth (slip_in (rows_of a)) ≡ worth (slip_in (rows_of b))
one_worth a b h k lines name =
    ap worth
    (slip_told a h ∙ ap (λ n. behind n (map row_of (drop 1 (fed_lines a)))) name ∙ ap (λ l. behind (slip_in (rows_of b)).name (map row_of l)) lines ∙ sym (slip_told b k))

-- The slip of an applicant.

chance-fits : (f : Profile) (p : ℕ) → IsAssigned f → chance f p < 2 ^ 64
unfolding chance denominator
chance-fits f p h =
    let persons = length-StandInTurn 0 f.setting.owners (size f.setting) h.setting.own h.setting.in_turn in
    omega (arith, count_below-le (selected f p) (length f.setting.owners * DOLLAR), persons, h.setting.few)

pub says-own : (f : Profile) (p : ℕ) → GivesSlips f → p < size f.setting → Says (printed_slip f p) (slip_of f p) (chance f p)
unfolding denominator slip_of
says-own f p h l = read-back (slip_of f p) (chance f p) (slip-within f h p l) (chance-fits f p h.assigned)

pub right-own : (f : Profile) (p : ℕ) → GivesSlips f → p < size f.setting → IsRight (printed_slip f p)
right-own f p h l =
    let says = says-own f p h l in
    record { formed = says.formed; worth = says.chance ∙ sym (ap worth says.slip ∙ worth-chance f p h.assigned l) }

-- a text that names an applicant and has the lines of its slip behind the first
pub worth-told : (f : Profile) (p : ℕ) (bytes : Text) → GivesSlips f → p < size f.setting → fault_in bytes ≡ None → (slip_in (rows_of bytes)).name ≡ name_at f.setting p
    → drop 1 (fed_lines bytes) ≡ drop 1 (fed_lines (printed_slip f p)) → worth (slip_in (rows_of bytes)) ≡ chance f p
unfolding slip_of
worth-told f p bytes h l formed name lines =
    let says = says-own f p h l in
    one_worth bytes (printed_slip f p) formed says.formed lines (name ∙ sym (ap (λ (s : Slip). s.name) says.slip))
    ∙ ap worth says.slip ∙ worth-chance f p h.assigned l
