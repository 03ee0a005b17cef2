use Rattle.std.specs.Prelude.{◌≡◌, ◌≢◌, ℕ, ◌<◌, ◌≤◌, Bool, true, false, Option, Some, None, is_some, IfSome, IsSome, IsSomeAnd, MatchOption, Result, Ok, Err, [], ◌∷◌, ◌++◌, length, All, nat_le, nat_lt, ◌==◌, ◌&&◌, ◌||◌, not, if◌then◌else◌}
use Rattle.std.specs.Option.{option_map_or}
use Rattle.std.specs.Str.{bytes_eq}
use Rattle.house_base.specs.declared.phase.Phase.TheVariants as phase
use Rattle.house_base.specs.declared.limits.TheConstants.{MOST_APPLICANTS, MOST_OWN, MOST_CLUSTERS}
use Rattle.house_base.specs.Answer.{counted, took_as}
use Rattle.house_base.specs.declared.answer.Asides.{Asides}
use Rattle.house_base.specs.declared.answer.Kind.{Kind}
use Rattle.house_base.specs.declared.answer.Kind.TheVariants as kind
use Rattle.house_base.specs.declared.answer.Took.{Took}
use Rattle.house_base.specs.declared.answer.Took.TheVariants as took
use Rattle.house_base.specs.declared.review.ReviewLine.{ReviewLine}
use Rattle.house_base.specs.declared.answer.Reason.{Reason}
use Rattle.house_base.specs.declared.answer.Reason.TheVariants as reason
use Rattle.house_base.specs.Grid.{Square, cell}
use Rattle.house_base.specs.Setting.{Setting, size}
use Rattle.house_base.specs.Text.{Text, among}
use Rattle.peer_selection.specs.Profile.{Pairs, denominator, is_valid}
use Rattle.peer_selection.specs.FirstAssignment.{first_assignment, has_assignment}
use Rattle.peer_selection.specs.Shortage.{IsShortage, assignment_demand}
use Rattle.house_model.specs.declared.command.Command.{Command}
use Rattle.house_model.specs.declared.command.Command.TheVariants as command
use Rattle.house_model.specs.declared.goal.Goal.{Goal}
use Rattle.house_model.specs.declared.verb.Verb.{Verb}
use Rattle.house_model.specs.declared.verb.Verb.TheVariants as verb
use Rattle.house_model.specs.Commands.{verb_of_command}
use Rattle.house_model.specs.Text.{Lines}
use Rattle.house_model.specs.Verbs.{allows, is_review, verb_in}
use Rattle.house_model.specs.Register.{Register, IsRegister, names, persons, placed_names, own_count, pair_among, all_placed, name_pair}
use Rattle.house_model.specs.Said.{has, phase_after, seats_of, clusters_of, reviews_of, register, denominator_of, draw_of, seed_of, seal_of, setting, run_pairs}
use Rattle.house_model.specs.Seeds.{seed_draw, seed_seal, seeded_setting}
use Rattle.house_model.specs.Reviews.{kind_of, asides_of, points_of}
use Rattle.house_model.specs.Runs.{halt}
use Rattle.house_model.specs.Ending.{Halt}
use Rattle.house_model.specs.Faults.{looks_at_pairs}
use Rattle.cut_gap.specs.Cut.{marked}
use Rattle.review_desk.specs.Desk.{points_at}
use Rattle.review_desk.specs.Line.{kind_before, kind_among, points_after}
use Rattle.seat_quota.specs.Tally.{DeskTotals, IsTally}
use Rattle.house_core.specs.declared.state.State.{State}
use Rattle.house_core.specs.declared.round.Round.{Round}
use Rattle.house_core.specs.declared.round.Shortage.{Shortage}
use Rattle.house_core.specs.declared.round.Stop.{Stop}
use Rattle.house_core.specs.declared.round.Stop.TheVariants as stop

-- the numbers of the call; 0 before it
abbrev pub seats_in : State → ℕ
seats_in s = option_map_or (λ c. c.seats) s.call 0

abbrev pub clusters_in : State → ℕ
clusters_in s = option_map_or (λ c. c.clusters) s.call 0

abbrev pub reviews_in : State → ℕ
reviews_in s = option_map_or (λ c. c.reviews) s.call 0

-- the setting of the call and its register
abbrev pub setting_in : State → Setting
setting_in s = seeded_setting s.seed (seats_in s) (clusters_in s) (reviews_in s) s.book

-- whether pairs were made by hand
abbrev pub has_pairs_in : State → Bool
has_pairs_in s = not (length s.book.pairs == 0)

-- the pairs of the assignment, by places: those made by hand, or where there are none the first assignment
abbrev pub pairs_in : State → Pairs
pairs_in s = if has_pairs_in s then name_pair s.book.pairs (setting_in s) else first_assignment (setting_in s)

-- the square holds these pairs of a setting
pub record HoldsPairs (s : Setting) (pairs : Pairs) (square : Square) : Type 0 where
  pub side : square.side ≡ size s
  pub cells : (r p : ℕ) → r < size s → p < size s → cell square r p ≡ pairs r p

-- what holds of each state
pub record IsState (s : State) : Type 0 where
  pub placed : All (λ p. (1 ≤ p.1) × (p.1 ≤ clusters_in s)) s.book.placed
  pub tallied : IfSome s.round (λ r. IfSome r.tally (λ t. IsTally r.plan.value t))
  pub tallies : looks_at_pairs s.goal ≡ true → IfSome s.round (λ r. IsSome r.tally)
  pub registered : IfSome s.round (λ r. IsRegister s.book)
  pub settled : IfSome s.round (λ r. denominator r.plan.value ≡ denominator_of s.book)
  pub opening : s.phase ≡ phase.Opening → s.round ≡ None
  pub assigned : s.phase ≢ phase.Opening → IsSome s.round
  pub some : s.phase ≢ phase.Opening → 1 ≤ denominator_of s.book
  pub drawn : s.phase ≡ phase.Drawn → s.draw < denominator_of s.book

-- whether a verb is the call's
abbrev pub is_call : Verb → Bool
is_call verb.Call = true
is_call v = false

-- the command may come once, or not beside another
abbrev pub comes_again_in : State → Verb → Bool
comes_again_in s verb.Call = is_some s.call
comes_again_in s verb.Place = is_some s.seed
comes_again_in s verb.Partition = not (length s.book.placed == 0) || is_some s.seed
comes_again_in s verb.Seal = is_some s.seal
comes_again_in s v = false

-- why a command may not come after what the state has, whatever its words say
abbrev pub turned_away : State → Verb → Option Reason
turned_away s v =
    if not (is_some s.call || is_call v) then Some reason.NoCall
    else if not (allows s.phase v) || comes_again_in s v then Some reason.Order
    else None

-- why a command that may come is not carried out
abbrev pub own_reason : State → Command → Option Reason
own_reason s (command.Applicant name person) =
    if among (names s.book) name then Some reason.Known
    else if nat_le MOST_APPLICANTS (length s.book.applicants)
    || nat_le MOST_OWN (own_count s.book person) then Some reason.TooMany
    else None
own_reason s (command.Conflict person proposal) =
    if not (among (persons s.book) person && among (names s.book) proposal) then Some reason.Unknown else None
own_reason s (command.Place person cluster) =
    if not (nat_le cluster (clusters_in s)) then Some reason.Range
    else if among (placed_names s.book) person then Some reason.Known
    else if not (among (persons s.book) person) then Some reason.Unknown
    else None
own_reason s (command.Pair person proposal) =
    if pair_among s.book.pairs person proposal then Some reason.Known
    else if not (among (persons s.book) person && among (names s.book) proposal) then Some reason.Unknown
    else None
own_reason s command.Assign =
    if length s.book.applicants == 0 then Some reason.Few
    else if not (is_some s.seed || all_placed s.book) then Some reason.Unplaced
    else if looks_at_pairs s.goal && has_pairs_in s
    && not (is_valid (setting_in s) (pairs_in s)) then Some reason.Invalid
    else None
own_reason s (command.Draw n) =
    if not (nat_lt n (denominator_of s.book)) then Some reason.Range
    else if is_some s.seal then Some reason.Seal
    else None
own_reason s (command.Lottery seed) =
    if option_map_or (λ seal. not (bytes_eq (seed_seal seed) seal)) s.seal false then Some reason.Seal else None
own_reason s c = None

-- a command asks for an assignment that is looked for, and there is no valid one
abbrev pub falls_short_in : State → Command → Bool
falls_short_in s command.Assign = not (looks_at_pairs s.goal && has_pairs_in s) && not (has_assignment (setting_in s))
falls_short_in s c = false

-- a cluster that some call may have
abbrev pub IsFormed : Command → Type 0
IsFormed (command.Place person cluster) = (1 ≤ cluster) × (cluster ≤ MOST_CLUSTERS)
IsFormed c = Unit {0}

-- one more pair that may not be
pub record IsBarredMore (old new : Register) (person proposal : Text) : Type 0 where
  pub others : record new { barred = [] } ≡ record old { barred = [] }
  pub barred : (a b : Text) → pair_among new.barred a b ≡ (pair_among old.barred a b
      || (bytes_eq person a && bytes_eq proposal b))

-- a tally of the pairs of an assignment, in which no points were given yet
pub record IsSilent (s : Setting) (pairs : Pairs) (t : DeskTotals) : Type 0 where
  pub held : HoldsPairs s pairs t.desk.pairs
  pub valid : is_valid s pairs ≡ true
  pub silent : (a b : ℕ) → points_at t.desk a b ≡ 0

-- a round that begins: a goal that looks at the pairs has their tally
pub record IsSilentRound (s : State) (r : Round) : Type 0 where
  pub plan : r.plan.value ≡ setting_in s
  pub tally : MatchOption r.tally (looks_at_pairs s.goal ≡ false)
      (λ t. (looks_at_pairs s.goal ≡ true) × IsSilent (setting_in s) (pairs_in s) t)

-- the shortage of a setting
pub record IsShortageOf (s : Setting) (shortage : Shortage) : Type 0 where
  pub plan : shortage.plan.value ≡ s
  pub reviewers : length shortage.cut.reviewers ≡ size s
  pub proposals : length shortage.cut.proposals ≡ size s
  pub printed : IsShortage (assignment_demand s) (marked shortage.cut.reviewers) (marked shortage.cut.proposals)

-- what a command makes of a state
abbrev pub Becomes : State → Command → State → Type 0
Becomes old (command.Call c) new = new ≡ record old { call = Some c }
Becomes old (command.Applicant name person) new =
    new ≡ record old { book = record old.book { applicants = old.book.applicants ++ (name, person) ∷ [] } }
Becomes old (command.Conflict person proposal) new = (book : Register) × (new ≡ record old { book = book })
    × IsBarredMore old.book book person proposal
Becomes old (command.Place person cluster) new = new ≡ record old {
  book = record old.book {
    placed = old.book.placed
        ++ (person, cluster) ∷ [];
  };
}
Becomes old (command.Pair person proposal) new = new ≡ record old {
  book = record old.book {
    pairs = old.book.pairs
        ++ (person, proposal) ∷ [];
  };
}
Becomes old command.Assign new = (round : Round) × (new ≡ record old { phase = phase.Reviewing; round = Some round })
    × IsSilentRound old round
Becomes old command.Close new = new ≡ record old { phase = phase.Closed }
Becomes old (command.Draw n) new = new ≡ record old { phase = phase.Drawn; draw = n }
Becomes old (command.Partition seed) new = new ≡ record old { seed = Some seed }
Becomes old (command.Seal digest) new = new ≡ record old { seal = Some digest }
Becomes old (command.Lottery seed) new =
    new ≡ record old { phase = phase.Drawn; draw = seed_draw seed (denominator_of old.book) }

-- why an assignment may not begin once its pairs are looked at or looked for
abbrev pub IsOfPairs : Halt → Type 0
IsOfPairs (Halt.Refused reason.Invalid) = Unit {0}
IsOfPairs (Halt.Refused r) = ⊥
IsOfPairs Halt.Short = Unit {0}

-- the reviews of these pairs of a setting begin
pub record BeginsReviews (s : Setting) (pairs : Pairs) (r : Round) : Type 0 where
  pub plan : r.plan.value ≡ s
  pub silent : IsSomeAnd r.tally (λ t. IsSilent s pairs t × IsTally s t)

-- why no assignment of a setting begins that is looked for: there is none, or memory is wanting
abbrev pub IsOfNone : Setting → Stop → Type 0
IsOfNone s (stop.Refused r) = ⊥
IsOfNone s (stop.Short shortage) = (has_assignment s ≡ false) × IsShortageOf s shortage
IsOfNone s stop.Memory = Unit {0}

-- why these pairs do not begin: they are not valid, or memory is wanting
abbrev pub IsOfInvalid : Setting → Pairs → Stop → Type 0
IsOfInvalid s pairs (stop.Refused r) = (r ≡ reason.Invalid) × (is_valid s pairs ≡ false)
IsOfInvalid s pairs (stop.Short shortage) = ⊥
IsOfInvalid s pairs stop.Memory = Unit {0}

-- Where want of memory may come: at an applicant and a pair where no reason fits, and at an assignment in the
-- place of what its pairs come to.
abbrev pub LacksAt : Verb → Option Halt → Type 0
LacksAt verb.Applicant why = why ≡ None
LacksAt verb.Pair why = why ≡ None
LacksAt verb.Assign why = IfSome why IsOfPairs
LacksAt v why = ⊥

-- the same of a line after the lines before it
abbrev pub MayLack : Goal → Lines → Text → Type 0
MayLack g before line = LacksAt (verb_in line) (halt g before line)

-- why a command that may come ends the run
abbrev pub own_halt : State → Command → Option Halt
own_halt s c = option_map_or (λ reason. Some (Halt.Refused reason)) (own_reason s c)
    (if falls_short_in s c then Some Halt.Short else None)

-- where a command that may come may find no memory
abbrev pub StateMayLack : State → Command → Type 0
StateMayLack s c = LacksAt (verb_of_command c) (own_halt s c)

-- why a command is not carried out: the state has a reason, an assignment falls short, or memory is wanting
abbrev pub StopsAt : State → Command → Stop → Type 0
StopsAt s c (stop.Refused r) = own_halt s c ≡ Some (Halt.Refused r)
StopsAt s c (stop.Short shortage) = (own_halt s c ≡ Some Halt.Short) × IsShortageOf (setting_in s) shortage
StopsAt s c stop.Memory = StateMayLack s c

-- what carrying out a command gives
abbrev pub Obeys : State → Command → Result Unit Stop → State → Type 0
Obeys old c (Ok done) new = (own_halt old c ≡ None) × Becomes old c new
Obeys old c (Err why) new = StopsAt old c why × (new ≡ old)

-- what a command comes to that may not come, or that may
abbrev pub TakesFor : Option Reason → State → Command → Result Unit Stop → State → Type 0
TakesFor (Some r) old c result new = (result ≡ Err (stop.Refused r)) × (new ≡ old)
TakesFor None old c result new = Obeys old c result new

abbrev pub Takes : State → Command → Result Unit Stop → State → Type 0
Takes old c result new = TakesFor (turned_away old (verb_of_command c)) old c result new

-- a register that has what another has, its barred pairs in whatever order and number
pub record IsSameRegister (held given : Register) : Type 0 where
  pub others : record held { barred = [] } ≡ record given { barred = [] }
  pub barred : (a b : Text) → pair_among held.barred a b ≡ pair_among given.barred a b

-- the tally after a review line that its desk looks at
pub record IsTallyAfter (plan : Setting) (old new : DeskTotals) (line : ReviewLine) : Type 0 where
  pub pairs : new.desk.pairs ≡ old.desk.pairs
  pub points : (a b : ℕ) → a < size plan → b < size plan →
      points_at new.desk a b ≡ points_after plan (cell old.desk.pairs) (points_at old.desk) line a b

-- the round after a review line: without a tally it stays
pub record IsRoundAfter (old new : Round) (line : ReviewLine) : Type 0 where
  pub plan : new.plan.value ≡ old.plan.value
  pub tally : MatchOption old.tally (new.tally ≡ None)
      (λ before. IsSomeAnd new.tally (λ after. IsTallyAfter old.plan.value before after line))

-- whether names are those of a person and of an applicant on record
abbrev pub are_known : Register → Option Text → Option Text → Bool
are_known reg person proposal =
    option_map_or (among (persons reg)) person false && option_map_or (among (names reg)) proposal false

-- the kind, if any, under which a round sets a line aside: by its desk, or where it has none as unassigned
abbrev pub kind_at : Register → Round → ReviewLine → Option Kind
kind_at reg r line = option_map_or (λ t. kind_among r.plan.value (cell t.desk.pairs) line) r.tally
    (if are_known reg line.reviewer line.proposal then Some kind.Unassigned else Some kind.Unknown)

-- the counts after a line of a kind, or of none
abbrev pub counted_as : Asides → Option Kind → Asides
counted_as asides found = option_map_or (counted asides) found asides

-- what a review line makes of a state, where it comes in time and where not
abbrev pub LooksAt : Option Round → State → ReviewLine → Took → State → Type 0
LooksAt None old line answer new = ⊥
LooksAt (Some r) old line answer new =
    (after : Round) × IsRoundAfter r after line × (answer ≡ took_as (kind_at old.book r line))
    × (new ≡ record old { round = Some after; asides = counted_as old.asides (kind_at old.book r line) })

abbrev pub Reviews : State → ReviewLine → Took → State → Type 0
Reviews old line answer new = MatchOption (kind_before old.phase line) (LooksAt old.round old line answer new)
    (λ kind. (answer ≡ took.Aside kind) × (new ≡ record old { asides = counted old.asides kind }))

-- The tally is what these lines say: of their assignment, with the points that they give.
pub record IsTallyOf (lines : Lines) (t : DeskTotals) : Type 0 where
  pub pairs : HoldsPairs (setting lines) (run_pairs lines) t.desk.pairs
  pub valid : is_valid (setting lines) (run_pairs lines) ≡ true
  pub points : (a b : ℕ) → a < size (setting lines) → b < size (setting lines) →
      points_at t.desk a b ≡ points_of lines a b

-- The round is what these lines say for a goal.
pub record IsRoundOf (g : Goal) (lines : Lines) (r : Round) : Type 0 where
  pub fixed : has verb.Assign lines ≡ true
  pub plan : r.plan.value ≡ setting lines
  pub tally : MatchOption r.tally (looks_at_pairs g ≡ false) (λ t. (looks_at_pairs g ≡ true) × IsTallyOf lines t)

-- The state is what these lines say for its goal, none of which ends the run.
pub record Says (lines : Lines) (s : State) : Type 0 where
  pub phase : s.phase ≡ phase_after lines
  pub call : MatchOption s.call (has verb.Call lines ≡ false) (λ c.
      (has verb.Call lines ≡ true) × (c.seats ≡ seats_of lines) × (c.clusters ≡ clusters_of lines)
      × (c.reviews ≡ reviews_of lines))
  pub book : IsSameRegister s.book (register lines)
  pub seed : s.seed ≡ seed_of lines
  pub seal : s.seal ≡ seal_of lines
  pub round : MatchOption s.round (has verb.Assign lines ≡ false) (IsRoundOf s.goal lines)
  pub asides : s.asides ≡ asides_of s.goal lines
  pub draw : s.draw ≡ draw_of lines
  pub no_place_before_call : has verb.Call lines ≡ false → has verb.Place lines ≡ false
  pub close_after_assign : has verb.Close lines ≡ true → has verb.Assign lines ≡ true
  pub draw_after_close : has verb.Draw lines ≡ true → has verb.Close lines ≡ true
  pub lottery_after_close : has verb.Lottery lines ≡ true → has verb.Close lines ≡ true
