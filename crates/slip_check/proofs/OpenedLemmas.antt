-- The first two lines of a text, and what a check makes of the rest.
use Rattle.std.proofs.Common.{◌≡◌, ℕ, ◌+◌, ◌∙◌, true, false, cond, bytes_eq, eqb, ◌&&◌, List, [], ◌∷◌, ◌++◌, length, refl, sym, ap, Some, None, Option}
use Rattle.std.specs.Prelude.{codes}
use Rattle.std.proofs.lemmas.Bool.{and_parts, false≢true}
use Rattle.house_base.specs.Text.{Text}
use Rattle.house_base.specs.Name.{is_name}
use Rattle.house_base.specs.declared.limits.TheConstants.{MOST_APPLICANTS, MOST_SEATS}
use Rattle.house_base.proofs.AmongLemmas.{same_text}
use Rattle.house_model.specs.Faults.{is_within}
use Rattle.house_model.specs.Said.{number}
use Rattle.house_model.specs.Text.{is_empty}
use Rattle.slip_check.specs.Counted.{Counted, IsCount, IsStart}
use Rattle.slip_check.specs.Form.{Rows, ballots_in, before_slash, begins, behind_slash, chance_in, denominator_in, fault_from, fault_in, is_denominator, is_head, is_on_form, is_share, is_sizes, members_in, rows_of, slip_in, word_at}
use Rattle.slip_check.specs.Slip.{Slip, worth}
use Rattle.command_text.specs.Strict.{Row, fed_lines, row_of, strict_row}
use Rattle.slip_check.proofs.CheckLemmas.{rows_cons}
use Rattle.slip_check.proofs.HeadLemmas.{follows_head, follows_sizes, off_form_unread, on_form_is, row_is}

head_begins : (said : Row) → is_head said ≡ true → word_at said 0 ≡ codes "slip"
unfolding is_head
head_begins said h =
    let a = (and_parts (((eqb (length said) 4 && begins (codes "slip") said) && is_name (word_at said 1)) && bytes_eq (word_at said 2) (codes "chance")) (is_share (word_at said 3)) h).0 in
    let b = (and_parts ((eqb (length said) 4 && begins (codes "slip") said) && is_name (word_at said 1)) (bytes_eq (word_at said 2) (codes "chance")) a).0 in
    let d = (and_parts (eqb (length said) 4 && begins (codes "slip") said) (is_name (word_at said 1)) b).0 in
    same_text (word_at said 0) (codes "slip") (and_parts (eqb (length said) 4) (begins (codes "slip") said) d).1

sizes_begin : (said : Row) → is_sizes said ≡ true → word_at said 0 ≡ codes "seats"
unfolding is_sizes
sizes_begin said h =
    let a = (and_parts (((eqb (length said) 4 && begins (codes "seats") said) && is_within 1 MOST_SEATS (word_at said 1)) && bytes_eq (word_at said 2) (codes "persons")) (is_within 1 MOST_APPLICANTS (word_at said 3)) h).0 in
    let b = (and_parts ((eqb (length said) 4 && begins (codes "seats") said) && is_within 1 MOST_SEATS (word_at said 1)) (bytes_eq (word_at said 2) (codes "persons")) a).0 in
    let d = (and_parts (eqb (length said) 4 && begins (codes "seats") said) (is_within 1 MOST_SEATS (word_at said 1)) b).0 in
    same_text (word_at said 0) (codes "seats") (and_parts (eqb (length said) 4) (begins (codes "seats") said) d).1

line_begins : (before : Rows) (line w : Text) (o : Option Row) → strict_row line ≡ o → is_on_form before line ≡ true
    → ((said : Row) → strict_row line ≡ Some said → word_at said 0 ≡ w) → word_at (row_of line) 0 ≡ w
line_begins before line w None e on h = absurd (false≢true (sym (off_form_unread before line e) ∙ on))
line_begins before line w (Some said) e on h = ap (λ r. word_at r 0) (row_is line said e) ∙ h said e

pub first_begins : (line : Text) → is_on_form [] line ≡ true → word_at (row_of line) 0 ≡ codes "slip"
first_begins line on = line_begins [] line (codes "slip") (strict_row line) refl on
    (λ said e. head_begins said (sym (on_form_is [] line said e ∙ follows_head [] said refl) ∙ on))

pub second_begins : (first : Row) (line : Text) → is_on_form (first ∷ []) line ≡ true → word_at (row_of line) 0 ≡ codes "seats"
second_begins first line on = line_begins (first ∷ []) line (codes "seats") (strict_row line) refl on
    (λ said e. sizes_begin said (and_parts (is_sizes said) (is_denominator (first ∷ []) said) (sym (on_form_is (first ∷ []) line said e ∙ follows_sizes (first ∷ []) said refl) ∙ on)).0)

pub starts : (w : Text) (said : Row) (v : Text) → word_at said 0 ≡ v → begins w said ≡ bytes_eq v w
starts w said v h = ap (λ x. bytes_eq x w) h

pub start_of : (a b : Row) → word_at a 0 ≡ codes "slip" → word_at b 0 ≡ codes "seats" → IsStart (a ∷ b ∷ [])
unfolding members_in ballots_in
start_of a b h k = record {
  two = refl;
  members = rw (starts (codes "member") a (codes "slip") h, starts (codes "member") b (codes "seats") k) refl;
  ballots = rw (starts (codes "ballot") a (codes "slip") h, starts (codes "ballot") b (codes "seats") k) refl;
}

no_member_yet : (a : Row) → word_at a 0 ≡ codes "slip" → members_in (a ∷ []) ≡ []
unfolding members_in
no_member_yet a h = rw (starts (codes "member") a (codes "slip") h) refl

-- Where a text is off the form at its first two lines.

step_on : (before : Rows) (line : Text) (rest : List Text) → is_on_form before line ≡ true → fault_from before (line ∷ rest) ≡ fault_from (before ++ row_of line ∷ []) rest
step_on before line rest h = ap (λ b. cond b (fault_from (before ++ row_of line ∷ []) rest) (Some (length before + 1))) h

pub step_off : (before : Rows) (line : Text) (rest : List Text) → is_on_form before line ≡ false → fault_from before (line ∷ rest) ≡ Some (length before + 1)
step_off before line rest h = ap (λ b. cond b (fault_from (before ++ row_of line ∷ []) rest) (Some (length before + 1))) h

pub fault_of_nothing : (bytes : Text) → fed_lines bytes ≡ [] → fault_in bytes ≡ Some 1
unfolding fault_in members_in
fault_of_nothing bytes h = ap (fault_from []) h

pub fault_at_first : (bytes line rest : Text) → fed_lines bytes ≡ line ∷ fed_lines rest → is_on_form [] line ≡ false → fault_in bytes ≡ Some 1
unfolding fault_in
fault_at_first bytes line rest cut off = ap (fault_from []) cut ∙ step_off [] line (fed_lines rest) off

pub fault_behind_first : (bytes line rest : Text) → fed_lines bytes ≡ line ∷ fed_lines rest → is_on_form [] line ≡ true → fault_in bytes ≡ fault_from (row_of line ∷ []) (fed_lines rest)
unfolding fault_in
fault_behind_first bytes line rest cut on = ap (fault_from []) cut ∙ step_on [] line (fed_lines rest) on

pub fault_without_second : (bytes line rest : Text) → fed_lines bytes ≡ line ∷ fed_lines rest → is_on_form [] line ≡ true → fed_lines rest ≡ [] → fault_in bytes ≡ Some 2
fault_without_second bytes line rest cut on none =
    fault_behind_first bytes line rest cut on ∙ ap (fault_from (row_of line ∷ [])) none
    ∙ ap (λ ms. cond (is_empty ms) (Some (length (row_of line ∷ []) + 1)) None) (no_member_yet (row_of line) (first_begins line on))

pub fault_at_second : (bytes line rest second after : Text) → fed_lines bytes ≡ line ∷ fed_lines rest → is_on_form [] line ≡ true → fed_lines rest ≡ second ∷ fed_lines after
    → is_on_form (row_of line ∷ []) second ≡ false → fault_in bytes ≡ Some 2
fault_at_second bytes line rest second after cut on cut2 off =
    fault_behind_first bytes line rest cut on ∙ ap (fault_from (row_of line ∷ [])) cut2 ∙ step_off (row_of line ∷ []) second (fed_lines after) off

-- Two first lines of the form.

pub record IsOpened (bytes after : Text) (first second : Row) : Type 0 where
  pub fault : fault_in bytes ≡ fault_from (first ∷ second ∷ []) (fed_lines after)
  pub rows : rows_of bytes ≡ first ∷ second ∷ rows_of after
  pub start : IsStart (first ∷ second ∷ [])

pub opened : (bytes line rest second after : Text) → fed_lines bytes ≡ line ∷ fed_lines rest → fed_lines rest ≡ second ∷ fed_lines after
    → is_on_form [] line ≡ true → is_on_form (row_of line ∷ []) second ≡ true → IsOpened bytes after (row_of line) (row_of second)
opened bytes line rest second after cut cut2 on on2 = record {
  fault = fault_behind_first bytes line rest cut on ∙ ap (fault_from (row_of line ∷ [])) cut2 ∙ step_on (row_of line ∷ []) second (fed_lines after) on2;
  rows = rows_cons bytes line rest cut ∙ ap (λ rows. row_of line ∷ rows) (rows_cons rest second after cut2);
  start = start_of (row_of line) (row_of second) (first_begins line on) (second_begins (row_of line) second on2);
}

pub den_is : (first : Row) (den : ℕ) → den ≡ number (behind_slash (word_at first 3)) → denominator_in (first ∷ []) ≡ den
unfolding denominator_in
den_is first den h = sym h

-- what a check is right about
pub chance_is : (bytes after : Text) (first second : Row) (chance : ℕ) → IsOpened bytes after first second → chance ≡ number (before_slash (word_at first 3)) → chance_in (rows_of bytes) ≡ chance
unfolding chance_in
chance_is bytes after first second chance o h = ap (λ rows. chance_in rows) o.rows ∙ sym h

pub worth_at : (bytes after name : Text) (first second : Row) (seats persons result : ℕ) (c : Counted) → IsOpened bytes after first second
    → ((rows : Rows) → IsCount rows c → (slip : Slip) → slip.name ≡ name → slip.seats ≡ seats → slip.persons ≡ persons → slip.members ≡ members_in rows → slip.ballots ≡ ballots_in rows → result ≡ worth slip)
    → IsCount (first ∷ second ∷ rows_of after) c → name ≡ word_at first 1 → seats ≡ number (word_at second 1) → persons ≡ number (word_at second 3)
    → result ≡ worth (slip_in (rows_of bytes))
unfolding slip_in
worth_at bytes after name first second seats persons result c o right count n s p =
    right (first ∷ second ∷ rows_of after) count (slip_in (first ∷ second ∷ rows_of after)) (sym n) (sym s) (sym p) refl refl
    ∙ sym (ap (λ rows. worth (slip_in rows)) o.rows)

-- the persons that the second line names
pub persons_at : (bytes after : Text) (first second : Row) (persons : ℕ) → IsOpened bytes after first second → persons ≡ number (word_at second 3) → persons ≡ (slip_in (rows_of bytes)).persons
unfolding slip_in
persons_at bytes after first second persons o h = h ∙ sym (ap (λ rows. (slip_in rows).persons) o.rows)
