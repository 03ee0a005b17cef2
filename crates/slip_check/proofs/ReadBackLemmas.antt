-- The text of a slip within the limits reads back as the slip.
use Rattle.std.proofs.Common.{◌≡◌, ℕ, ◌*◌, ◌^◌, ◌<◌, ◌≤◌, ◌∙◌, false, List, [], ◌∷◌, ◌++◌, length, map, refl, ap, arith, append-nil, length-append}
use Rattle.std.specs.Prelude.{IsTrue, decimal}
use Rattle.std.specs.List.{AllByRecursion}
use Rattle.std.proofs.lemmas.List.Elements.{recursion_from_All}
use Rattle.house_base.specs.Name.{is_name}
use Rattle.house_base.specs.Text.{Text}
use Rattle.house_base.specs.declared.limits.TheConstants.{DOLLAR}
use Rattle.house_model.specs.Said.{number}
use Rattle.house_model.specs.Text.{is_empty}
use Rattle.slip_check.specs.Form.{Rows, ballots_in, chance_in, members_in, slip_in}
use Rattle.slip_check.specs.Limits.{IsBallot, IsSlip, Says}
use Rattle.slip_check.specs.Slip.{Ballot, Slip, ballot_row, head_row, member_row, sizes_row, slip_rows, slip_text}
use Rattle.slip_check.proofs.FollowLemmas.{all_new, ballots-follow, ballots_in-append, ballots_in-ballots, ballots_in-members, members-follow, members_in-append, members_in-ballots, members_in-members}
use Rattle.slip_check.proofs.PrintedLineLemmas.{ArePrinted, Follow, fault_in-printed, printed-append, rows_of-printed}
use Rattle.slip_check.proofs.PrintedRowLemmas.{ballots-printed, head-follows, head-printed, members-printed, sizes-follow, sizes-printed}
use Rattle.slip_check.proofs.PrintedWordLemmas.{before-over, number-decimal}

abbrev slip_with : Text → ℕ → ℕ → List Text → List Ballot → Slip
slip_with name seats persons members ballots = record { name = name; seats = seats; persons = persons; members = members; ballots = ballots }

module _ (s : Slip) (chance : ℕ) (h : IsSlip s) (fits : chance < 2 ^ 64) where
  abbrev start : Rows
  start = head_row chance (s.persons * DOLLAR) s.name ∷ sizes_row s.seats s.persons ∷ []

  abbrev rows : Rows
  rows = start ++ map member_row s.members ++ map ballot_row s.ballots

  named : AllByRecursion (λ name. IsTrue (is_name name)) s.members
  named = recursion_from_All (λ name. IsTrue (is_name name)) s.members h.members

  each : AllByRecursion IsBallot s.ballots
  each = recursion_from_All IsBallot s.ballots h.ballots

  den_fits : s.persons * DOLLAR < 2 ^ 64
  den_fits = omega (arith, h.persons_in_range.1)

  -- Its rows.

  printed : ArePrinted rows
  printed = (
    head-printed chance (s.persons * DOLLAR) s.name fits den_fits h.formed,
    (
      sizes-printed s.seats s.persons (omega (arith, h.seats_in_range.1)) (omega (arith, h.persons_in_range.1)),
      printed-append (map member_row s.members) (map ballot_row s.ballots) (members-printed s.members named) (ballots-printed s.ballots each),
    ),
  )

  members_before : members_in (start ++ map member_row s.members) ≡ s.members
  unfolding members_in
  members_before = members_in-append start (map member_row s.members) ∙ members_in-members s.members

  ballots_before : ballots_in (start ++ map member_row s.members) ≡ []
  unfolding ballots_in
  ballots_before = ballots_in-append start (map member_row s.members) ∙ ballots_in-members s.members

  filled : (texts : List Text) → 1 ≤ length texts → is_empty texts ≡ false
  filled [] l = absurd (omega arith)
  filled (t ∷ texts) l = refl

  no_members : members_in start ≡ []
  unfolding members_in
  no_members = refl

  no_ballots : ballots_in start ≡ []
  unfolding ballots_in
  no_ballots = refl

  follow : Follow [] rows
  follow = (
    head-follows chance (s.persons * DOLLAR) s.name fits den_fits h.formed,
    (
      sizes-follow chance s.seats s.persons s.name fits h.seats_in_range h.persons_in_range,
      members-follow start [] s.members (map ballot_row s.ballots) (omega arith) no_members no_ballots (all_new [] s.members h.members_differ) (omega (arith, h.few)) named
          (ballots-follow (start ++ map member_row s.members) [] s.ballots (omega (arith, length-append start (map member_row s.members)))
          (ap is_empty members_before ∙ filled s.members h.some) ballots_before (all_new [] (map (λ ballot. ballot.person) s.ballots) h.persons_differ) (omega (arith, h.few_ballots)) each),
    ),
  )

  members_are : members_in rows ≡ s.members
  unfolding members_in
  members_are =
      members_in-append start (map member_row s.members ++ map ballot_row s.ballots)
      ∙ members_in-append (map member_row s.members) (map ballot_row s.ballots)
      ∙ ap (λ ts. ts ++ members_in (map ballot_row s.ballots)) (members_in-members s.members)
      ∙ ap (λ ts. s.members ++ ts) (members_in-ballots s.ballots) ∙ append-nil s.members

  ballots_are : ballots_in rows ≡ s.ballots
  unfolding ballots_in
  ballots_are =
      ballots_in-append start (map member_row s.members ++ map ballot_row s.ballots)
      ∙ ballots_in-append (map member_row s.members) (map ballot_row s.ballots)
      ∙ ap (λ bs. bs ++ ballots_in (map ballot_row s.ballots)) (ballots_in-members s.members)
      ∙ ballots_in-ballots s.ballots each

  slip_is : slip_in rows ≡ s
  unfolding slip_in
  slip_is =
      ap (λ n. slip_with s.name n (number (decimal s.persons)) (members_in rows) (ballots_in rows)) (number-decimal s.seats (omega (arith, h.seats_in_range.1)))
      ∙ ap (λ n. slip_with s.name s.seats n (members_in rows) (ballots_in rows)) (number-decimal s.persons (omega (arith, h.persons_in_range.1)))
      ∙ ap (λ ms. slip_with s.name s.seats s.persons ms (ballots_in rows)) members_are
      ∙ ap (slip_with s.name s.seats s.persons s.members) ballots_are

  chance_is : chance_in rows ≡ chance
  unfolding chance_in
  chance_is = ap number (before-over chance (s.persons * DOLLAR) fits) ∙ number-decimal chance fits

  pub read-back : Says (slip_text chance (s.persons * DOLLAR) s) s chance
  unfolding slip_text slip_rows
  read-back = record {
    formed = fault_in-printed rows printed follow (ap is_empty members_are ∙ filled s.members h.some);
    slip = ap slip_in (rows_of-printed rows printed) ∙ slip_is;
    chance = ap chance_in (rows_of-printed rows printed) ∙ chance_is;
  }
