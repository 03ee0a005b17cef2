-- What the words of a line end the run for, by the state.
use Rattle.std.proofs.Common.{◌≡◌, ℕ, ◌≤◌, ◌<◌, ◌-◌, ◌^◌, Bool, true, false, eqb, ltb, leb, Option, Some, None, List, length, refl, sym, ap, ◌∙◌, subst, inl, inr, arith}
use Rattle.std.specs.Prelude.{is_some, not, ◌||◌, ◌&&◌, if◌then◌else◌}
use Rattle.std.specs.Option.{option_map_or}
use Rattle.std.specs.Str.{bytes_eq}
use Rattle.std.specs.Str.Parse.{digits_value}
use Rattle.std.proofs.lemmas.Bool.{true≢false, not-true, not-false, and_cases, and_parts, and_left, and_right, le-leb, lt-leb, leb-true, leb-false}
use Rattle.house_base.specs.declared.limits.TheConstants.{MOST_CLUSTERS}
use Rattle.house_base.specs.Number.{number_up_to, is_canonical}
use Rattle.house_base.specs.declared.answer.Reason.{Reason}
use Rattle.house_base.specs.declared.answer.Reason.TheVariants as reason
use Rattle.house_base.specs.Setting.{Setting}
use Rattle.house_base.specs.Text.{Text}
use Rattle.peer_selection.specs.Profile.{Pairs, is_valid}
use Rattle.peer_selection.specs.FirstAssignment.{first_assignment, has_assignment}
use Rattle.house_model.specs.declared.command.Command.{Command}
use Rattle.house_model.specs.declared.command.Command.TheVariants as command
use Rattle.house_model.specs.declared.goal.Goal.{Goal}
use Rattle.house_model.specs.Ending.{Halt}
use Rattle.house_model.specs.declared.verb.Verb.{Verb}
use Rattle.house_model.specs.declared.verb.Verb.TheVariants as verb
use Rattle.house_model.specs.Commands.{verb_of_command}
use Rattle.house_model.specs.Text.{Lines, word}
use Rattle.house_model.specs.Verbs.{verb_in}
use Rattle.house_model.specs.Register.{all_placed, name_pair}
use Rattle.house_model.specs.Said.{has, number, clusters_of, applicant_in, register, denominator_of, setting, has_pairs, run_pairs}
use Rattle.house_model.specs.Runs.{falls_short, halt}
use Rattle.house_model.specs.Seeds.{seed_seal}
use Rattle.house_model.specs.Faults.{fault, ill_formed, is_within, is_below, names_are_formed, numbers_are_in_range, looks_at_pairs}
use Rattle.command_text.specs.Reading.{Carries, IsCommandLine, IsBadLine, numbers_are_within, reading_fault}
use Rattle.house_core.specs.declared.state.State.{State}
use Rattle.house_core.specs.Standing.{Says, turned_away, own_reason, own_halt, falls_short_in, clusters_in, setting_in, has_pairs_in, pairs_in}
use Rattle.house_core.proofs.RefusalLemmas.{own_by, own_of, said_by, halt_by, halt_is, fault_halts}
use Rattle.house_core.proofs.AdmittedLemmas.{IsAdmitted, is_admitted, admitted_fault, the_call, few_clusters, seed_in}
use Rattle.house_core.proofs.SameRegisterLemmas.{names-same, applicants-same, persons-same, own_count-same, placed-same, all_placed-same, pairs-same, denominator-same, setting-same}

-- a command other than a call comes after one
pub came : (b : Bool) → not (b || false) ≡ false → b ≡ true
came true h = refl
came false h = cc

-- Numbers within bounds that are read within greater ones.
abbrev picked : Bool → ℕ → ℕ → Option ℕ
picked canonical value most = if canonical && leb value most then Some value else None

within_picked : (canonical : Bool) (value low high : ℕ) →
    option_map_or (leb low) (picked canonical value high) false ≡ (canonical && (leb value high && leb low value))
within_picked true value low high = cut (leb value high) where
  cut : (b : Bool) → option_map_or (leb low) (if b then Some value else None) false ≡ (b && leb low value)
  cut true = refl
  cut false = refl
within_picked false value low high = refl

within_by_digits : (w : Text) (low high : ℕ) → is_within low high w ≡ (is_canonical w && (leb (digits_value 10 w) high && leb low (digits_value 10 w)))
unfolding is_within number_up_to
within_by_digits w low high = within_picked (is_canonical w) (digits_value 10 w) low high

number_by_digits : (w : Text) → is_canonical w ≡ true → digits_value 10 w ≤ 2 ^ 64 - 1 → number w ≡ digits_value 10 w
unfolding number number_up_to
number_by_digits w canonical small = rw (canonical, le-leb (digits_value 10 w) (2 ^ 64 - 1) small) refl

and_both : (a b c : Bool) → a ≡ true → c ≡ true → (a && (b && c)) ≡ b
and_both a true c ha hc = rw (ha, hc) refl
and_both a false c ha hc = rw ha refl

-- a number that is read within greater bounds
pub within_clusters : (w : Text) (most : ℕ) → is_within 1 MOST_CLUSTERS w ≡ true → is_within 1 most w ≡ leb (number w) most
within_clusters w most h =
    let parts = and_parts (is_canonical w) (leb (digits_value 10 w) MOST_CLUSTERS && leb 1 (digits_value 10 w)) (sym (within_by_digits w 1 MOST_CLUSTERS) ∙ h) in
    let bounds = and_parts (leb (digits_value 10 w) MOST_CLUSTERS) (leb 1 (digits_value 10 w)) parts.1 in
    let few : digits_value 10 w ≤ MOST_CLUSTERS = leb-true (digits_value 10 w) MOST_CLUSTERS bounds.0 in
    let small : digits_value 10 w ≤ 2 ^ 64 - 1 = omega arith in
    within_by_digits w 1 most
    ∙ and_both (is_canonical w) (leb (digits_value 10 w) most) (leb 1 (digits_value 10 w)) parts.0 bounds.1
    ∙ ap (λ n. leb n most) (sym (number_by_digits w parts.0 small))

-- it is a number from 1 to the greater bound
pub holds_clusters : (w : Text) → is_within 1 MOST_CLUSTERS w ≡ true → (1 ≤ number w) × (number w ≤ MOST_CLUSTERS)
holds_clusters w h =
    let parts = and_parts (is_canonical w) (leb (digits_value 10 w) MOST_CLUSTERS && leb 1 (digits_value 10 w)) (sym (within_by_digits w 1 MOST_CLUSTERS) ∙ h) in
    let bounds = and_parts (leb (digits_value 10 w) MOST_CLUSTERS) (leb 1 (digits_value 10 w)) parts.1 in
    let few : digits_value 10 w ≤ MOST_CLUSTERS = leb-true (digits_value 10 w) MOST_CLUSTERS bounds.0 in
    let some : 1 ≤ digits_value 10 w = leb-true 1 (digits_value 10 w) bounds.1 in
    let small : digits_value 10 w ≤ 2 ^ 64 - 1 = omega arith in
    let is = number_by_digits w parts.0 small in
    (omega arith, omega arith)

pub within_fewer : (w : Text) (most : ℕ) → most ≤ MOST_CLUSTERS → is_within 1 MOST_CLUSTERS w ≡ false → is_within 1 most w ≡ false
within_fewer w most few h =
    within_by_digits w 1 most ∙ still (is_canonical w) (digits_value 10 w) (sym (within_by_digits w 1 MOST_CLUSTERS) ∙ h) where
      still : (canonical : Bool) (value : ℕ) → (canonical && (leb value MOST_CLUSTERS && leb 1 value)) ≡ false → (canonical && (leb value most && leb 1 value)) ≡ false
      still canonical value none = elim (and_cases canonical (leb value MOST_CLUSTERS && leb 1 value) none) [
        | inl e ↦ and_left canonical (leb value most && leb 1 value) e
        | inr e ↦ and_right canonical (leb value most && leb 1 value) (elim (and_cases (leb value MOST_CLUSTERS) (leb 1 value) e) [
          | inl more ↦ let over : MOST_CLUSTERS < value = leb-false value MOST_CLUSTERS more in
              and_left (leb value most) (leb 1 value) (lt-leb value most (omega arith))
          | inr zero_value ↦ and_right (leb value most) (leb 1 value) zero_value
        ])
      ]

below_read : (o : Option ℕ) (bound : ℕ) → option_map_or (leb 0) o false ≡ true → option_map_or (λ n. ltb n bound) o false ≡ ltb (option_map_or (λ n. n) o 0) bound
below_read None bound h = cc
below_read (Some n) bound h = refl

below_none : (o : Option ℕ) (bound : ℕ) → option_map_or (leb 0) o false ≡ false → option_map_or (λ n. ltb n bound) o false ≡ false
below_none None bound h = refl
below_none (Some n) bound h = absurd (true≢false (sym (le-leb 0 n (omega arith)) ∙ h))

-- a number of 64 bits below a bound
pub below_is : (w : Text) (bound : ℕ) → is_within 0 (2 ^ 64 - 1) w ≡ true → is_below bound w ≡ ltb (number w) bound
unfolding is_below is_within number
below_is w bound h = below_read (number_up_to (2 ^ 64 - 1) w) bound h

pub below_off : (w : Text) (bound : ℕ) → is_within 0 (2 ^ 64 - 1) w ≡ false → is_below bound w ≡ false
unfolding is_below is_within
below_off w bound h = below_none (number_up_to (2 ^ 64 - 1) w) bound h

-- What the reading of a line found.

abbrev pub fault_by : Bool → Bool → Bool → Option Reason
fault_by form name range = if form then Some reason.Form else if name then Some reason.Name else if range then Some reason.Range else None

pub fault_is : (x : Text) → reading_fault x ≡ fault_by (ill_formed x) (not (names_are_formed (verb_in x) x)) (not (numbers_are_within (verb_in x) x))
unfolding reading_fault
fault_is x = refl

pub none_by : (form name range : Bool) → fault_by form name range ≡ None → (form ≡ false) × (name ≡ false) × (range ≡ false)
none_by true name range h = cc
none_by false true range h = cc
none_by false false true h = cc
none_by false false false h = (refl, refl, refl)

some_by : (form name range off : Bool) (k u t b f p v : Bool) (r : Reason) → fault_by form name range ≡ Some r → (range ≡ true → off ≡ true) →
    said_by form name (own_by off k u t b f p v) ≡ Some r
some_by true name range off k u t b f p v r h stays = h
some_by false true range off k u t b f p v r h stays = h
some_by false false true off k u t b f p v r h stays = rw (stays refl) h
some_by false false false off k u t b f p v r h stays = cc

-- numbers that are off the bounds that no call narrows are off those of the call
off_stays : (lines : Lines) (s : State) (x : Text) (v : Verb) → Says lines s → IsAdmitted lines v → not (numbers_are_within v x) ≡ true → not (numbers_are_in_range lines v x) ≡ true
off_stays lines s x verb.Call h adm off = off
off_stays lines s x verb.Place h adm off =
    ap not (within_fewer (word x 2) (clusters_of lines) (few_clusters lines s h (came (has verb.Call lines) adm.called)) (not-true _ off))
off_stays lines s x verb.Draw h adm off = ap not (below_off (word x 1) (denominator_of (register lines)) (not-true _ off))
off_stays lines s x verb.Applicant h adm off = off
off_stays lines s x verb.Conflict h adm off = off
off_stays lines s x verb.Partition h adm off = off
off_stays lines s x verb.Pair h adm off = off
off_stays lines s x verb.Seal h adm off = off
off_stays lines s x verb.Assign h adm off = off
off_stays lines s x verb.Close h adm off = off
off_stays lines s x verb.Lottery h adm off = off
off_stays lines s x verb.Other h adm off = off

-- a line that can be read as no command is refused for what the reading found
pub bad_refused : (g : Goal) (lines : Lines) (s : State) (x : Text) (v : Verb) (r : Reason) → Says lines s → IsBadLine x v r → turned_away s v ≡ None → halt g lines x ≡ Some (Halt.Refused r)
bad_refused g lines s x v r h bad free =
    let adm = is_admitted lines s v h free in
    let found = subst (λ w. fault_by (ill_formed x) (not (names_are_formed w x)) (not (numbers_are_within w x)) ≡ Some r) (sym bad.verb) (sym (fault_is x) ∙ bad.fault) in
    fault_halts g lines x r (admitted_fault g lines x v bad.house (sym bad.verb) adm
    ∙ some_by (ill_formed x) (not (names_are_formed v x)) (not (numbers_are_within v x)) (not (numbers_are_in_range lines v x)) _ _ _ _ _ _ _ r found (off_stays lines s x v h adm))

-- What is left of the fault of a command that was read.

pub clusters_are : (lines : Lines) (s : State) → Says lines s → has verb.Call lines ≡ true → clusters_in s ≡ clusters_of lines
clusters_are lines s h yes_call = let c = the_call lines s h yes_call in rw c.1 c.3

pub setting_is : (lines : Lines) (s : State) → Says lines s → has verb.Call lines ≡ true → setting_in s ≡ setting lines
unfolding setting
setting_is lines s h yes_call =
    let c = the_call lines s h yes_call in
    rw (c.1, c.2, c.3, c.4, h.seed) (setting-same _ _ _ _ s.book (register lines) h.book)

pub has_pairs_are : (lines : Lines) (s : State) → Says lines s → has_pairs_in s ≡ has_pairs lines
unfolding has_pairs
has_pairs_are lines s h = ap (λ (pairs : List (Text × Text)). not (eqb (length pairs) 0)) (pairs-same s.book (register lines) h.book)

-- the pairs of an assignment, made by hand or first of all
abbrev pairs_by : Bool → List (Text × Text) → Setting → Pairs
pairs_by made pairs plan = if made then name_pair pairs plan else first_assignment plan

pub pairs_are : (lines : Lines) (s : State) → Says lines s → has verb.Call lines ≡ true → pairs_in s ≡ run_pairs lines
unfolding run_pairs
pairs_are lines s h yes_call =
    ap (λ made. pairs_by made s.book.pairs (setting_in s)) (has_pairs_are lines s h)
    ∙ (ap (λ plan. pairs_by (has_pairs lines) s.book.pairs plan) (setting_is lines s h yes_call)
    ∙ ap (λ pairs. pairs_by (has_pairs lines) pairs (setting lines)) (pairs-same s.book (register lines) h.book))

-- an assignment, by what it is refused for
abbrev assign_by : Bool → Bool → Bool → Option Reason
assign_by few placed invalid = if few then Some reason.Few else if not placed then Some reason.Unplaced else if invalid then Some reason.Invalid else None

-- what the lines answer to a command is what the state answers
own_is : (lines : Lines) (s : State) (x : Text) (c : Command) → Says lines s → IsAdmitted lines (verb_of_command c) → Carries c x → not (numbers_are_within (verb_of_command c) x) ≡ false →
    own_of s.goal lines (verb_of_command c) x ≡ own_reason s c
own_is lines s x (command.Call call) h adm carries within = rw (not-false _ within) refl
own_is lines s x (command.Applicant name person) h adm carries within =
    let its_name : name ≡ word x 1 = ap (λ (a : Text × Text). a.0) carries in
    let its_person : person ≡ (applicant_in x).1 = ap (λ (a : Text × Text). a.1) carries in
    rw (its_name, its_person, names-same s.book (register lines) h.book, own_count-same s.book (register lines) h.book (applicant_in x).1, applicants-same s.book (register lines) h.book) refl
own_is lines s x (command.Conflict person proposal) h adm carries within =
    let its_person : person ≡ word x 1 = ap (λ (a : Text × Text). a.0) carries in
    let its_proposal : proposal ≡ word x 2 = ap (λ (a : Text × Text). a.1) carries in
    rw (its_person, its_proposal, names-same s.book (register lines) h.book, persons-same s.book (register lines) h.book) refl
own_is lines s x (command.Place person cluster) h adm carries within =
    let its_person : person ≡ word x 1 = ap (λ (a : Text × ℕ). a.0) carries in
    let its_cluster : cluster ≡ number (word x 2) = ap (λ (a : Text × ℕ). a.1) carries in
    let clusters : clusters_in s ≡ clusters_of lines = clusters_are lines s h (came (has verb.Call lines) adm.called) in
    let range : is_within 1 (clusters_of lines) (word x 2) ≡ leb (number (word x 2)) (clusters_of lines) = within_clusters (word x 2) (clusters_of lines) (not-false _ within) in
    rw (range, its_person, its_cluster, clusters, placed-same s.book (register lines) h.book, persons-same s.book (register lines) h.book) refl
own_is lines s x (command.Partition seed) h adm carries within = refl
own_is lines s x (command.Pair person proposal) h adm carries within =
    let its_person : person ≡ word x 1 = ap (λ (a : Text × Text). a.0) carries in
    let its_proposal : proposal ≡ word x 2 = ap (λ (a : Text × Text). a.1) carries in
    rw (its_person, its_proposal, names-same s.book (register lines) h.book, persons-same s.book (register lines) h.book, pairs-same s.book (register lines) h.book) refl
own_is lines s x (command.Seal digest) h adm carries within = refl
own_is lines s x command.Assign h adm carries within =
    let yes_call : has verb.Call lines ≡ true = came (has verb.Call lines) adm.called in
    sym
    (ap (λ n. assign_by (eqb n 0) (is_some s.seed || all_placed s.book) (looks_at_pairs s.goal && has_pairs_in s && not (is_valid (setting_in s) (pairs_in s)))) (applicants-same s.book (register lines) h.book)
    ∙ (ap (λ b. assign_by (eqb (length (register lines).applicants) 0) (b || all_placed s.book) (looks_at_pairs s.goal && has_pairs_in s && not (is_valid (setting_in s) (pairs_in s)))) (seed_in lines s h)
    ∙ (ap (λ b. assign_by (eqb (length (register lines).applicants) 0) (has verb.Partition lines || b) (looks_at_pairs s.goal && has_pairs_in s && not (is_valid (setting_in s) (pairs_in s)))) (all_placed-same s.book (register lines) h.book)
    ∙ (ap (λ b. assign_by (eqb (length (register lines).applicants) 0) (has verb.Partition lines || all_placed (register lines)) (looks_at_pairs s.goal && b && not (is_valid (setting_in s) (pairs_in s)))) (has_pairs_are lines s h)
    ∙ (ap (λ plan. assign_by (eqb (length (register lines).applicants) 0) (has verb.Partition lines || all_placed (register lines)) (looks_at_pairs s.goal && has_pairs lines && not (is_valid plan (pairs_in s)))) (setting_is lines s h yes_call)
    ∙ ap (λ pairs. assign_by (eqb (length (register lines).applicants) 0) (has verb.Partition lines || all_placed (register lines)) (looks_at_pairs s.goal && has_pairs lines && not (is_valid (setting lines) pairs))) (pairs_are lines s h yes_call))))))
own_is lines s x command.Close h adm carries within = refl
own_is lines s x (command.Draw n) h adm carries within =
    rw (below_is (word x 1) (denominator_of (register lines)) (not-false _ within), carries, denominator-same s.book (register lines) h.book, h.seal) refl
own_is lines s x (command.Lottery seed) h adm carries within =
    let P : Text → Option (List ℕ) → Option Reason = λ t seal. if option_map_or (λ bytes. not (bytes_eq (seed_seal t) bytes)) seal false then Some reason.Seal else None in
    sym (ap (λ t. P t s.seal) carries ∙ ap (P (word x 1)) h.seal)

-- whether an assignment falls short
short_is : (lines : Lines) (s : State) (c : Command) → Says lines s → IsAdmitted lines (verb_of_command c) → falls_short s.goal lines (verb_of_command c) ≡ falls_short_in s c
short_is lines s (command.Call call) h adm = refl
short_is lines s (command.Applicant name person) h adm = refl
short_is lines s (command.Conflict person proposal) h adm = refl
short_is lines s (command.Place person cluster) h adm = refl
short_is lines s (command.Partition seed) h adm = refl
short_is lines s (command.Pair person proposal) h adm = refl
short_is lines s (command.Seal digest) h adm = refl
short_is lines s command.Assign h adm =
    sym
    (ap (λ b. not (looks_at_pairs s.goal && b) && not (has_assignment (setting_in s))) (has_pairs_are lines s h)
    ∙ ap (λ plan. not (looks_at_pairs s.goal && has_pairs lines) && not (has_assignment plan)) (setting_is lines s h (came (has verb.Call lines) adm.called)))
short_is lines s command.Close h adm = refl
short_is lines s (command.Draw n) h adm = refl
short_is lines s (command.Lottery seed) h adm = refl

-- a command that was read and may come has the fault that the state answers alone
read_fault : (lines : Lines) (s : State) (x : Text) (c : Command) → Says lines s → IsCommandLine x c → IsAdmitted lines (verb_of_command c) →
    fault s.goal lines x ≡ own_reason s c
read_fault lines s x c h line adm =
    let parts = none_by _ _ _ (subst (λ w. fault_by (ill_formed x) (not (names_are_formed w x)) (not (numbers_are_within w x)) ≡ None) (sym line.verb) (sym (fault_is x) ∙ line.no_fault)) in
    admitted_fault s.goal lines x (verb_of_command c) line.house (sym line.verb) adm
    ∙ rw (parts.0, parts.1) (own_is lines s x c h adm line.carries parts.2)

-- and ends the run for what the state answers
pub read_halt : (lines : Lines) (s : State) (x : Text) (c : Command) → Says lines s → IsCommandLine x c → turned_away s (verb_of_command c) ≡ None →
    halt s.goal lines x ≡ own_halt s c
read_halt lines s x c h line free =
    let adm = is_admitted lines s (verb_of_command c) h free in
    halt_is s.goal lines x
    ∙ (ap (λ o. halt_by o (falls_short s.goal lines (verb_in x))) (read_fault lines s x c h line adm)
    ∙ ap (halt_by (own_reason s c)) (ap (falls_short s.goal lines) (sym line.verb) ∙ short_is lines s c h adm))
