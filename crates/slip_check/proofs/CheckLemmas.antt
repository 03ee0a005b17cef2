-- The lines of a text, one after another, and where it is off the form of a slip.
use Rattle.std.proofs.Common.{◌≡◌, ℕ, leb, bytes_eq, ◌+◌, ◌*◌, ◌∙◌, true, false, cond, List, [], ◌∷◌, ◌++◌, map, length, refl, sym, ap, arith, Some, None, append_assoc, append-nil, length-append, subst}
use Rattle.house_base.specs.Text.{Text}
use Rattle.house_model.specs.Text.{is_empty}
use Rattle.slip_check.specs.Counted.{Counted, IsCount, IsReached, IsStart}
use Rattle.slip_check.specs.Form.{Rows, ballots_in, fault_from, is_on_form, members_in, rows_of}
use Rattle.std.specs.Prelude.{position, sum}
use Rattle.std.specs.Option.{option_map_or}
use Rattle.house_base.specs.declared.limits.TheConstants.{DOLLAR}
use Rattle.peer_selection.specs.Counting.{count_below}
use Rattle.peer_selection.specs.Marks.{marks}
use Rattle.slip_check.specs.Slip.{Slip, rank_among, score_on, scores, worth}
use Rattle.command_text.specs.Strict.{fed_lines, row_of}

-- nothing was read
pub counted_nothing : (start : Rows) → members_in start ≡ [] → ballots_in start ≡ [] → IsCount start (record { members = []; voters = []; scores = [] })
counted_nothing start ms bs = record {
  members_are = sym ms;
  voters_are = sym (ap (map (λ b. b.person)) bs);
  scores_are = sym (ap (map (score_on (ballots_in start))) ms);
  differ = λ i j d l m. absurd (omega arith);
  few = omega arith;
  few_voters = omega arith;
}

pub reached_start : (start : Rows) (text : Text) → IsStart start → IsReached start text text 2 (record { members = []; voters = []; scores = [] })
reached_start start text s = record {
  before = start;
  fault = refl;
  rows = refl;
  count = counted_nothing start s.members s.ballots;
  number_is = sym s.two;
  behind = omega (arith, s.two);
}

pub rows_cons : (rest line after : Text) → fed_lines rest ≡ line ∷ fed_lines after → rows_of rest ≡ row_of line ∷ rows_of after
unfolding rows_of
rows_cons rest line after h = ap (map row_of) h

rows_none : (rest : Text) → fed_lines rest ≡ [] → rows_of rest ≡ []
unfolding rows_of
rows_none rest h = ap (map row_of) h

-- one line more
pub reached_more : (start : Rows) (text rest line after : Text) (n : ℕ) (c new : Counted) (r : IsReached start text rest n c) → fed_lines rest ≡ line ∷ fed_lines after
    → is_on_form r.before line ≡ true → IsCount (r.before ++ row_of line ∷ []) new → IsReached start text after (n + 1) new
reached_more start text rest line after n c new r cut on count = record {
  before = r.before ++ row_of line ∷ [];
  fault = r.fault ∙ ap (fault_from r.before) cut ∙ ap (λ b. cond b (fault_from (r.before ++ row_of line ∷ []) (fed_lines after)) (Some (length r.before + 1))) on;
  rows =
      r.rows ∙ ap (λ rows. r.before ++ rows) (rows_cons rest line after cut)
      ∙ sym (append_assoc r.before (row_of line ∷ []) (rows_of after));
  count = count;
  number_is = omega (arith, r.number_is, length-append r.before (row_of line ∷ []));
  behind = omega (arith, r.behind, length-append r.before (row_of line ∷ []));
}

-- a line off the form
pub reached_off : (start : Rows) (text rest line after : Text) (n : ℕ) (c : Counted) (r : IsReached start text rest n c) → fed_lines rest ≡ line ∷ fed_lines after
    → is_on_form r.before line ≡ false → fault_from start (fed_lines text) ≡ Some (n + 1)
reached_off start text rest line after n c r cut off =
    r.fault ∙ ap (fault_from r.before) cut
    ∙ ap (λ b. cond b (fault_from (r.before ++ row_of line ∷ []) (fed_lines after)) (Some (length r.before + 1))) off
    ∙ ap (λ k. Some (k + 1)) (sym r.number_is)

empty_of : {A : Type 0} (xs : List A) → length xs ≡ 0 → is_empty xs ≡ true
empty_of [] h = refl
empty_of (x ∷ xs) h = absurd (omega (arith, h))

some_of : {A : Type 0} (xs : List A) → (length xs ≡ 0 → ⊥) → is_empty xs ≡ false
some_of [] h = absurd (h refl)
some_of (x ∷ xs) h = refl

pub end_without_member : (start : Rows) (text rest : Text) (n : ℕ) (c : Counted) (r : IsReached start text rest n c) → fed_lines rest ≡ [] → length c.members ≡ 0
    → fault_from start (fed_lines text) ≡ Some (n + 1)
end_without_member start text rest n c r none h =
    r.fault ∙ ap (fault_from r.before) none
    ∙ ap (λ b. cond b (Some (length r.before + 1)) None) (empty_of (members_in r.before) (sym (ap length r.count.members_are) ∙ h))
    ∙ ap (λ k. Some (k + 1)) (sym r.number_is)

pub end_with_member : (start : Rows) (text rest : Text) (n : ℕ) (c : Counted) (r : IsReached start text rest n c) → fed_lines rest ≡ [] → (length c.members ≡ 0 → ⊥)
    → fault_from start (fed_lines text) ≡ None
end_with_member start text rest n c r none h =
    r.fault ∙ ap (fault_from r.before) none
    ∙ ap (λ b. cond b (Some (length r.before + 1)) None) (some_of (members_in r.before) (λ e. h (ap length r.count.members_are ∙ e)))

pub end_count : (start : Rows) (text rest : Text) (n : ℕ) (c : Counted) (r : IsReached start text rest n c) → fed_lines rest ≡ [] → IsCount (start ++ rows_of text) c
end_count start text rest n c r none =
    subst (λ rows. IsCount rows c) (sym (r.rows ∙ ap (λ rows. r.before ++ rows) (rows_none rest none) ∙ append-nil r.before)) r.count

-- two lines without a word
pub blank_start : IsStart ([] ∷ [] ∷ [])
unfolding members_in ballots_in
blank_start = record { two = refl; members = refl; ballots = refl }

-- The worth of a slip from its count.

abbrev draws : ℕ → ℕ → ℕ → ℕ
draws quota den rank = count_below (λ v. leb rank (marks 0 quota den v)) den

scores_is : (rows : Rows) (c : Counted) (s : Slip) → IsCount rows c → s.members ≡ members_in rows → s.ballots ≡ ballots_in rows → scores s ≡ c.scores
unfolding scores
scores_is rows c s r ms bs = ap (λ b. map (score_on b) s.members) bs ∙ ap (map (score_on (ballots_in rows))) ms ∙ sym r.scores_are

place_is : (rows : Rows) (c : Counted) (s : Slip) (name : Text) → IsCount rows c → s.name ≡ name → s.members ≡ members_in rows
    → position (bytes_eq s.name) s.members ≡ position (bytes_eq name) c.members
place_is rows c s name r same ms = ap (λ n. position (bytes_eq n) s.members) same ∙ ap (position (bytes_eq name)) (ms ∙ sym r.members_are)

pub worth_is : (rows : Rows) (c : Counted) (s : Slip) (name : Text) (seats persons index quota den rank result : ℕ) → IsCount rows c → s.name ≡ name → s.seats ≡ seats
    → s.persons ≡ persons → s.members ≡ members_in rows → s.ballots ≡ ballots_in rows → position (bytes_eq name) c.members ≡ Some index
    → quota ≡ seats * sum c.scores → den ≡ persons * DOLLAR → rank ≡ rank_among c.scores index → result ≡ draws quota den rank → result ≡ worth s
unfolding worth
worth_is rows c s name seats persons index quota den rank result r n k p ms bs found q d rk h =
    let sc = scores_is rows c s r ms bs in
    let quota_is : quota ≡ s.seats * sum (scores s) = q ∙ ap (λ x. x * sum c.scores) (sym k) ∙ ap (λ x. s.seats * sum x) (sym sc) in
    let den_is : den ≡ s.persons * DOLLAR = d ∙ ap (λ x. x * DOLLAR) (sym p) in
    let rank_is : rank ≡ rank_among (scores s) index = rk ∙ ap (λ x. rank_among x index) (sym sc) in
    h ∙ ap (λ x. draws x den rank) quota_is ∙ ap (λ x. draws (s.seats * sum (scores s)) x rank) den_is
    ∙ ap (draws (s.seats * sum (scores s)) (s.persons * DOLLAR)) rank_is
    ∙ sym (ap (λ o. option_map_or (λ i. draws (s.seats * sum (scores s)) (s.persons * DOLLAR) (rank_among (scores s) i)) o 0) (place_is rows c s name r n ms ∙ found))

pub worth_of_stranger : (rows : Rows) (c : Counted) (s : Slip) (name : Text) → IsCount rows c → s.name ≡ name → s.members ≡ members_in rows
    → position (bytes_eq name) c.members ≡ None → 0 ≡ worth s
unfolding worth
worth_of_stranger rows c s name r n ms found =
    sym (ap (λ o. option_map_or (λ i. draws (s.seats * sum (scores s)) (s.persons * DOLLAR) (rank_among (scores s) i)) o 0) (place_is rows c s name r n ms ∙ found))
