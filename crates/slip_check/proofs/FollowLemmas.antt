-- The members and the ballots of a slip within the limits are of the form behind those before them.
use Rattle.std.proofs.Common.{◌≡◌, ◌+◌, ◌<◌, ◌≤◌, ◌∙◌, true, false, ◌&&◌, List, [], ◌∷◌, ◌++◌, length, map, filter, slice_get, refl, sym, ap, subst, arith, append_assoc, append-nil, length-append, Some}
use Rattle.std.specs.Prelude.{IsTrue, codes, not}
use Rattle.std.specs.List.{AllByRecursion, list_all}
use Rattle.std.proofs.lemmas.Bool.{lt-ltb}
use Rattle.std.proofs.lemmas.List.{length-map, map-append}
use Rattle.std.proofs.lemmas.List.Elements.{filter-append, recursion_from_All}
use Rattle.std.proofs.lemmas.Option.{slice_get-get_or}
use Rattle.std.proofs.Math.Seq.{get_or-append_seam, take-append_seam}
use Rattle.house_base.specs.Name.{is_name}
use Rattle.house_base.specs.Text.{Text, among}
use Rattle.house_base.specs.declared.limits.TheConstants.{MOST_APPLICANTS}
use Rattle.house_model.specs.Text.{is_empty}
use Rattle.name_index.proofs.IndexLemmas.{among-before}
use Rattle.slip_check.specs.Form.{Rows, all_differ, are_cells, ballot_in, ballots_in, before_colon, begins, cell_in, follows, is_ballot, is_cell, may_be_member, may_vote, members_in, word_at}
use Rattle.slip_check.specs.Limits.{AreDifferent, IsBallot, IsCell}
use Rattle.slip_check.specs.Slip.{Ballot, Cell, ballot_row, cell_text, member_row}
use Rattle.slip_check.proofs.BallotLemmas.{all_differ-push, ballot_is, cells_from, some_row}
use Rattle.slip_check.proofs.CountLemmas.{ballots-kept, ballots-push, goes_on_ballot, goes_on_member, member_is, members-kept, members-push}
use Rattle.slip_check.proofs.HeadLemmas.{follows_on}
use Rattle.slip_check.proofs.PrintedLineLemmas.{Follow}
use Rattle.slip_check.proofs.PrintedWordLemmas.{before_colon-cell, cell_in-text, is_cell-text}

-- Texts of which none is among those before it.

abbrev pub AreNew : List Text → List Text → Type 0
AreNew taken [] = Unit {0}
AreNew taken (t ∷ more) = (among taken t ≡ false) × AreNew (taken ++ t ∷ []) more

pub all_new : (taken more : List Text) → AreDifferent (taken ++ more) → AreNew taken more
all_new taken [] h = tt
all_new taken (t ∷ more) h =
    let within : length taken < length (taken ++ t ∷ more) = omega (arith, length-append taken (t ∷ more)) in
    let at : slice_get (taken ++ t ∷ more) (length taken) ≡ Some t =
    slice_get-get_or (taken ++ t ∷ more) (length taken) [] within ∙ ap Some (get_or-append_seam taken t more []) in (
      ap (λ ts. among ts t) (sym (take-append_seam taken (t ∷ more))) ∙ among-before (taken ++ t ∷ more) (length taken) t h at,
      all_new (taken ++ t ∷ []) more (subst AreDifferent (sym (append_assoc taken (t ∷ []) more)) h),
    )

differ-on : (taken more : List Text) → all_differ taken ≡ true → AreNew taken more → all_differ (taken ++ more) ≡ true
differ-on taken [] h new = ap all_differ (append-nil taken) ∙ h
differ-on taken (t ∷ more) h new =
    let one : all_differ (taken ++ t ∷ []) ≡ true = all_differ-push taken t ∙ rw (h, new.0) refl in
    ap all_differ (sym (append_assoc taken (t ∷ []) more)) ∙ differ-on (taken ++ t ∷ []) more one new.1

differ : (texts : List Text) → AreDifferent texts → all_differ texts ≡ true
differ texts h = differ-on [] texts refl (all_new [] texts h)

-- Members.

may-member : (before : Rows) (name : Text) → ballots_in before ≡ [] → length (members_in before) < MOST_APPLICANTS → among (members_in before) name ≡ false → may_be_member before name ≡ true
unfolding may_be_member
may-member before name none few new =
    let empty : is_empty (ballots_in before) ≡ true = ap is_empty none in
    rw (empty, lt-ltb (length (members_in before)) MOST_APPLICANTS few, new) refl

member-follows : (before : Rows) (name : Text) → 2 ≤ length before → ballots_in before ≡ [] → length (members_in before) < MOST_APPLICANTS → among (members_in before) name ≡ false
    → IsTrue (is_name name) → follows before (member_row name) ≡ true
member-follows before name two none few new named =
    follows_on before (member_row name) two ∙ goes_on_member before (name ∷ [])
    ∙ ap (λ b. b && may_be_member before name) (member_is name ∙ named) ∙ may-member before name none few new

pub members-follow : (before : Rows) (taken more : List Text) (rest : Rows) → 2 ≤ length before → members_in before ≡ taken → ballots_in before ≡ [] → AreNew taken more
    → length taken + length more ≤ MOST_APPLICANTS → AllByRecursion (λ name. IsTrue (is_name name)) more → Follow (before ++ map member_row more) rest
    → Follow before (map member_row more ++ rest)
members-follow before taken [] rest two ms none new few named h = subst (λ rows. Follow rows rest) (append-nil before) h
members-follow before taken (name ∷ more) rest two ms none new few named h =
    let row = member_row name in (
      member-follows before name two none (omega (arith, ap length ms)) (ap (λ ts. among ts name) ms ∙ new.0) named.0,
      members-follow (before ++ row ∷ []) (taken ++ name ∷ []) more rest (omega (arith, length-append before (row ∷ [])))
          (members-push before row refl ∙ ap (λ ts. ts ++ name ∷ []) ms) (ballots-kept before row refl ∙ none) new.1
          (omega (arith, length-append taken (name ∷ []))) named.1
          (subst (λ rows. Follow rows rest) (sym (append_assoc before (row ∷ []) (map member_row more))) h),
    )

-- Ballots.

cells-formed : (cells : List Cell) → AllByRecursion IsCell cells → list_all is_cell (map cell_text cells) ≡ true
cells-formed [] all = refl
cells-formed (c ∷ cells) all = rw (is_cell-text c all.0, cells-formed cells all.1) refl

proposals-read : (cells : List Cell) → AllByRecursion IsCell cells → map before_colon (map cell_text cells) ≡ map (λ cell. cell.proposal) cells
proposals-read [] all = refl
proposals-read (c ∷ cells) all =
    ap (λ w. w ∷ map before_colon (map cell_text cells)) (before_colon-cell c all.0) ∙ ap (λ ws. c.proposal ∷ ws) (proposals-read cells all.1)

cells-read : (cells : List Cell) → AllByRecursion IsCell cells → map cell_in (map cell_text cells) ≡ cells
cells-read [] all = refl
cells-read (c ∷ cells) all = ap (λ x. x ∷ map cell_in (map cell_text cells)) (cell_in-text c all.0) ∙ ap (λ xs. c ∷ xs) (cells-read cells all.1)

cells-of : (b : Ballot) → IsBallot b → AllByRecursion IsCell b.cells
cells-of b h = recursion_from_All IsCell b.cells h.cells

abbrev ballot_with : Text → List Cell → Ballot
ballot_with person cells = record { person = person; cells = cells }

ballot-read : (b : Ballot) → IsBallot b → ballot_in (ballot_row b) ≡ b
unfolding ballot_in
ballot-read b h = ap (ballot_with b.person) (cells-read b.cells (cells-of b h))

ballot-formed : (b : Ballot) → IsBallot b → is_ballot (ballot_row b) ≡ true
ballot-formed b h =
    let ws = map cell_text b.cells in
    let count : length ws ≡ length b.cells = length-map b.cells cell_text in
    let some : not (is_empty ws) ≡ true = some_row ws (omega (arith, count, h.some)) in
    let apart : all_differ (map before_colon ws) ≡ true = ap all_differ (proposals-read b.cells (cells-of b h)) ∙ differ (map (λ cell. cell.proposal) b.cells) h.differ in
    let cells : are_cells ws ≡ true = cells_from ws (omega (arith, count, h.few)) (cells-formed b.cells (cells-of b h)) apart in
    let named : is_name b.person ≡ true = h.formed in
    ballot_is b.person ws ∙ rw (named, some, cells) refl

may-ballot : (before : Rows) (person : Text) → is_empty (members_in before) ≡ false → length (ballots_in before) < MOST_APPLICANTS
    → among (map (λ ballot. ballot.person) (ballots_in before)) person ≡ false → may_vote before person ≡ true
unfolding may_vote
may-ballot before person some few new = rw (some, lt-ltb (length (ballots_in before)) MOST_APPLICANTS few, new) refl

ballot-follows : (before : Rows) (b : Ballot) → 2 ≤ length before → is_empty (members_in before) ≡ false → length (ballots_in before) < MOST_APPLICANTS
    → among (map (λ ballot. ballot.person) (ballots_in before)) b.person ≡ false → IsBallot b → follows before (ballot_row b) ≡ true
ballot-follows before b two some few new h =
    follows_on before (ballot_row b) two ∙ goes_on_ballot before (b.person ∷ map cell_text b.cells)
    ∙ ap (λ x. x && may_vote before b.person) (ballot-formed b h) ∙ may-ballot before b.person some few new

pub ballots-follow : (before : Rows) (taken more : List Ballot) → 2 ≤ length before → is_empty (members_in before) ≡ false → ballots_in before ≡ taken
    → AreNew (map (λ ballot. ballot.person) taken) (map (λ ballot. ballot.person) more) → length taken + length more ≤ MOST_APPLICANTS → AllByRecursion IsBallot more
    → Follow before (map ballot_row more)
ballots-follow before taken [] two some bs new few each = tt
ballots-follow before taken (b ∷ more) two some bs new few each =
    let row = ballot_row b in (
      ballot-follows before b two some (omega (arith, ap length bs)) (ap (λ xs. among (map (λ ballot. ballot.person) xs) b.person) bs ∙ new.0) each.0,
      ballots-follow (before ++ row ∷ []) (taken ++ b ∷ []) more (omega (arith, length-append before (row ∷ [])))
          (ap is_empty (members-kept before row refl) ∙ some)
          (ballots-push before row refl ∙ ap (λ xs. xs ++ ballot_in row ∷ []) bs ∙ ap (λ x. taken ++ x ∷ []) (ballot-read b each.0))
          (subst (λ ts. AreNew ts (map (λ ballot. ballot.person) more)) (sym (map-append (λ ballot. ballot.person) taken (b ∷ []))) new.1)
          (omega (arith, length-append taken (b ∷ []))) each.1,
    )

-- What the rows of members and of ballots say.

pub members_in-append : (xs ys : Rows) → members_in (xs ++ ys) ≡ members_in xs ++ members_in ys
unfolding members_in
members_in-append xs ys =
    ap (map (λ said. word_at said 1)) (filter-append (begins (codes "member")) xs ys)
    ∙ map-append (λ said. word_at said 1) (filter (begins (codes "member")) xs) (filter (begins (codes "member")) ys)

pub ballots_in-append : (xs ys : Rows) → ballots_in (xs ++ ys) ≡ ballots_in xs ++ ballots_in ys
unfolding ballots_in
ballots_in-append xs ys =
    ap (map ballot_in) (filter-append (begins (codes "ballot")) xs ys)
    ∙ map-append ballot_in (filter (begins (codes "ballot")) xs) (filter (begins (codes "ballot")) ys)

pub members_in-members : (names : List Text) → members_in (map member_row names) ≡ names
unfolding members_in
members_in-members [] = refl
members_in-members (name ∷ names) = ap (λ ts. name ∷ ts) (members_in-members names)

pub members_in-ballots : (ballots : List Ballot) → members_in (map ballot_row ballots) ≡ []
unfolding members_in
members_in-ballots [] = refl
members_in-ballots (b ∷ ballots) = members_in-ballots ballots

pub ballots_in-members : (names : List Text) → ballots_in (map member_row names) ≡ []
unfolding ballots_in
ballots_in-members [] = refl
ballots_in-members (name ∷ names) = ballots_in-members names

pub ballots_in-ballots : (ballots : List Ballot) → AllByRecursion IsBallot ballots → ballots_in (map ballot_row ballots) ≡ ballots
unfolding ballots_in
ballots_in-ballots [] each = refl
ballots_in-ballots (b ∷ ballots) each =
    ap (λ x. x ∷ ballots_in (map ballot_row ballots)) (ballot-read b each.0) ∙ ap (λ xs. b ∷ xs) (ballots_in-ballots ballots each.1)
