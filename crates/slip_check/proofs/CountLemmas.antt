-- The members and the ballots of lines, one line after another.
use Rattle.std.proofs.Common.{◌≡◌, ◌≢◌, ℕ, ◌+◌, ◌*◌, ◌<◌, ◌≤◌, ◌∙◌, Bool, true, false, cond, eqb, ltb, ◌&&◌, ◌||◌, List, [], ◌∷◌, ◌++◌, map, length, get_or, refl, sym, ap, arith, Some, None, Option, bytes_eq, append-nil, length-append, drop, filter, subst, inl, inr}
use Rattle.std.specs.Prelude.{not, AllPairs, OnOk, Result, Ok, Err, codes, position, sum}
use Rattle.std.specs.Option.{option_map, option_map_or}
use Rattle.std.proofs.lemmas.Bool.{and_parts, cases_lt, ltb-true, lt-ltb, le-ltb, eqb-true, not-true}
use Rattle.std.proofs.lemmas.Bool.Decides.{nat_tests}
use Rattle.std.proofs.lemmas.List.{map-append, length-map, get_or-map, ext_get_or, get_or_past}
use Rattle.std.proofs.lemmas.List.Elements.{filter-append}
use Rattle.std.proofs.lemmas.List.Sums.{sum_by-append, sum_by-cons}
use Rattle.std.proofs.lemmas.List.Quantifiers.{position-Some}
use Rattle.house_base.specs.Name.{is_name}
use Rattle.house_base.specs.Text.{Text, among}
use Rattle.house_base.specs.declared.limits.TheConstants.{DOLLAR, MOST_APPLICANTS}
use Rattle.house_model.specs.Text.{is_empty}
use Rattle.name_index.proofs.IndexLemmas.{AllPairs-push_text}
use Rattle.peer_selection.specs.Split.{cents_at}
use Rattle.peer_selection.proofs.CountingLemmas.{sum_below-term}
use Rattle.peer_selection.proofs.SplitLemmas.{cents-sum}
use Rattle.slip_check.specs.Counted.{Counted, IsBallotOf, IsCount, points_in}
use Rattle.slip_check.specs.Form.{Rows, are_cells, ballot_in, ballots_in, begins, cell_in, goes_on, is_ballot, is_member, is_on_form, may_be_member, may_vote, members_in, word_at}
use Rattle.slip_check.specs.Slip.{Ballot, ballot_cents, score_on}
use Rattle.command_text.specs.Strict.{Row, row_of, spelled, spelled_behind, strict_row}
use Rattle.command_text.proofs.StrictLemmas.{filled, ne_eqb, one_more}
use Rattle.slip_check.proofs.HeadLemmas.{by_row, follows_on, on_form_is, row_is}

both : (a b : Bool) → b ≡ false → (a && b) ≡ false
both true b h = h
both false b h = refl

-- What a line adds.

filter-push : {A : Type 0} (test : A → Bool) (xs : List A) (x : A) (b : Bool) → test x ≡ b → filter test (xs ++ x ∷ []) ≡ filter test xs ++ cond b (x ∷ []) []
filter-push test xs x b h = filter-append test xs (x ∷ []) ∙ ap (λ t. filter test xs ++ cond t (x ∷ []) []) h

pub members-push : (rows : Rows) (said : Row) → begins (codes "member") said ≡ true → members_in (rows ++ said ∷ []) ≡ members_in rows ++ word_at said 1 ∷ []
unfolding members_in
members-push rows said h =
    ap (map (λ r. word_at r 1)) (filter-push (begins (codes "member")) rows said true h) ∙ map-append (λ r. word_at r 1) (filter (begins (codes "member")) rows) (said ∷ [])

pub members-kept : (rows : Rows) (said : Row) → begins (codes "member") said ≡ false → members_in (rows ++ said ∷ []) ≡ members_in rows
unfolding members_in
members-kept rows said h = ap (map (λ r. word_at r 1)) (filter-push (begins (codes "member")) rows said false h ∙ append-nil (filter (begins (codes "member")) rows))

pub ballots-push : (rows : Rows) (said : Row) → begins (codes "ballot") said ≡ true → ballots_in (rows ++ said ∷ []) ≡ ballots_in rows ++ ballot_in said ∷ []
unfolding ballots_in
ballots-push rows said h =
    ap (map ballot_in) (filter-push (begins (codes "ballot")) rows said true h) ∙ map-append ballot_in (filter (begins (codes "ballot")) rows) (said ∷ [])

pub ballots-kept : (rows : Rows) (said : Row) → begins (codes "ballot") said ≡ false → ballots_in (rows ++ said ∷ []) ≡ ballots_in rows
unfolding ballots_in
ballots-kept rows said h = ap (map ballot_in) (filter-push (begins (codes "ballot")) rows said false h ∙ append-nil (filter (begins (codes "ballot")) rows))

-- Which lines go on.

or_false : (a : Bool) → (a || false) ≡ a
or_false true = refl
or_false false = refl

pub goes_on_member : (before : Rows) (ws : Row) → goes_on before (codes "member" ∷ ws) ≡ (is_member (codes "member" ∷ ws) && may_be_member before (word_at (codes "member" ∷ ws) 1))
unfolding goes_on is_ballot
goes_on_member before ws = or_false (is_member (codes "member" ∷ ws) && may_be_member before (word_at (codes "member" ∷ ws) 1))

no_member : (said : Row) → begins (codes "member") said ≡ false → is_member said ≡ false
unfolding is_member
no_member said h = ap (λ b. b && is_name (word_at said 1)) (both (eqb (length said) 2) (begins (codes "member") said) h)

no_ballot : (said : Row) → begins (codes "ballot") said ≡ false → is_ballot said ≡ false
unfolding is_ballot
no_ballot said h = rw h refl

pub goes_on_ballot : (before : Rows) (ws : Row) → goes_on before (codes "ballot" ∷ ws) ≡ (is_ballot (codes "ballot" ∷ ws) && may_vote before (word_at (codes "ballot" ∷ ws) 1))
unfolding goes_on
goes_on_ballot before ws =
    ap (λ b. (b && may_be_member before (word_at (codes "ballot" ∷ ws) 1)) || (is_ballot (codes "ballot" ∷ ws) && may_vote before (word_at (codes "ballot" ∷ ws) 1)))
    (no_member (codes "ballot" ∷ ws) refl)

pub goes_on_other : (before : Rows) (w : Text) (ws : Row) → bytes_eq w (codes "member") ≡ false → bytes_eq w (codes "ballot") ≡ false → goes_on before (w ∷ ws) ≡ false
unfolding goes_on
goes_on_other before w ws h k = rw (no_member (w ∷ ws) h, no_ballot (w ∷ ws) k) refl

pub member_is : (w : Text) → is_member (codes "member" ∷ w ∷ []) ≡ is_name w
unfolding is_member
member_is w = refl

member_of_two : (ws : Row) → length ws ≢ 1 → is_member (codes "member" ∷ ws) ≡ false
unfolding is_member
member_of_two [] h = refl
member_of_two (w ∷ []) h = absurd (h refl)
member_of_two (w ∷ v ∷ ws) h = rw (ne_eqb (length (codes "member" ∷ w ∷ v ∷ ws)) 2 (λ e. absurd (omega (arith, e)))) refl

-- Scores.

sum_one : (n : ℕ) → sum (n ∷ []) ≡ n
sum_one n = omega (arith, sum_by-cons (λ x. x) n [])

pub score-push : (ballots : List Ballot) (b : Ballot) (name : Text) → score_on (ballots ++ b ∷ []) name ≡ score_on ballots name + ballot_cents b name
unfolding score_on
score-push ballots b name =
    ap sum (map-append (λ x. ballot_cents x name) ballots (b ∷ []))
    ∙ sum_by-append (λ x. x) (map (λ x. ballot_cents x name) ballots) (ballot_cents b name ∷ [])
    ∙ ap (λ n. sum (map (λ x. ballot_cents x name) ballots) + n) (sum_one (ballot_cents b name))

pub score-nothing : (name : Text) → score_on [] name ≡ 0
unfolding score_on
score-nothing name = refl

map-map : {A B C : Type 0} (g : B → C) (f : A → B) (xs : List A) → map g (map f xs) ≡ map (λ x. g (f x)) xs
map-map g f [] = refl
map-map g f (x ∷ xs) = ap (λ ys. g (f x) ∷ ys) (map-map g f xs)

-- the points of a ballot are its cells'
pub ballot_cents_is : (said : Row) (person : Text) (ps : List Text) (pts : List ℕ) (name : Text) → IsBallotOf said person ps pts →
    ballot_cents (ballot_in said) name ≡ option_map_or (cents_at pts) (position (bytes_eq name) ps) 0
unfolding ballot_cents ballot_in cell_in
ballot_cents_is said person ps pts name b =
    ap (λ xs. option_map_or (cents_at xs) (position (bytes_eq name) (map (λ cell. cell.proposal) (map cell_in (drop 2 said)))) 0)
    (map-map (λ cell. cell.points) cell_in (drop 2 said) ∙ sym b.cells_are.points_are)
    ∙ ap (λ xs. option_map_or (cents_at pts) (position (bytes_eq name) xs) 0) (map-map (λ cell. cell.proposal) cell_in (drop 2 said) ∙ sym b.cells_are.proposals_are)

cents_most : (pts : List ℕ) (i : ℕ) → i < length pts → cents_at pts i ≤ DOLLAR
cents_most pts i l = omega (arith, sum_below-term (cents_at pts) i (length pts) l, cents-sum pts (omega arith))

found_most : (pts : List ℕ) (n : ℕ) (o : Option ℕ) → n ≡ length pts → ((i : ℕ) → o ≡ Some i → i < n) → option_map_or (cents_at pts) o 0 ≤ DOLLAR
found_most pts n None same below = omega arith
found_most pts n (Some i) same below = cents_most pts i (omega (arith, below i refl, same))

position_below : (test : Text → Bool) (xs : List Text) (i : ℕ) → position test xs ≡ Some i → i < length xs
position_below test xs i h = (position-Some test xs i [] h).0

ballot_cents_most : (b : Ballot) (name : Text) → ballot_cents b name ≤ DOLLAR
unfolding ballot_cents
ballot_cents_most b name =
    let pts = map (λ cell. cell.points) b.cells in
    let ps = map (λ cell. cell.proposal) b.cells in
    let same : length ps ≡ length pts = length-map b.cells (λ cell. cell.proposal) ∙ sym (length-map b.cells (λ cell. cell.points)) in
    found_most pts (length ps) (position (bytes_eq name) ps) same (λ i e. position_below (bytes_eq name) ps i e)

pub score_most : (ballots : List Ballot) (name : Text) → score_on ballots name ≤ length ballots * DOLLAR
unfolding score_on
score_most [] name = omega arith
score_most (b ∷ ballots) name =
    omega (arith, ballot_cents_most b name, score_most ballots name, sum_by-cons (λ x. x) (ballot_cents b name) (map (λ x. ballot_cents x name) ballots))

-- What a count tells of the lines.

same_length : {A B : Type 0} (f : A → B) (xs : List A) (ys : List B) → ys ≡ map f xs → length ys ≡ length xs
same_length f xs ys h = ap length h ∙ length-map xs f

pub as_many_scores : (rows : Rows) (c : Counted) → IsCount rows c → length c.scores ≡ length c.members
as_many_scores rows c r = same_length (score_on (ballots_in rows)) (members_in rows) c.scores r.scores_are ∙ ap length (sym r.members_are)

pub as_many_voters : (rows : Rows) (c : Counted) → IsCount rows c → length c.voters ≡ length (ballots_in rows)
as_many_voters rows c r = same_length (λ b. b.person) (ballots_in rows) c.voters r.voters_are

pub score_at : (rows : Rows) (c : Counted) (k : ℕ) → IsCount rows c → k < length c.members → get_or c.scores k 0 ≡ score_on (ballots_in rows) (get_or c.members k [])
score_at rows c k r l =
    ap (λ xs. get_or xs k 0) r.scores_are
    ∙ get_or-map (score_on (ballots_in rows)) (members_in rows) k [] 0 (omega (arith, l, ap length r.members_are))
    ∙ ap (λ xs. score_on (ballots_in rows) (get_or xs k [])) (sym r.members_are)

pub scores_most : (rows : Rows) (c : Counted) → IsCount rows c → (k : ℕ) → get_or c.scores k 0 ≤ length c.voters * DOLLAR
scores_most rows c r k = elim (cases_lt k (length c.members)) [
  | inl l ↦ omega (arith, score_at rows c k r l, score_most (ballots_in rows) (get_or c.members k []), as_many_voters rows c r)
  | inr past ↦ omega (arith, get_or_past c.scores k 0 (omega (arith, past, as_many_scores rows c r)))
]

-- Whether a member may come, and whether a ballot may.

empty_by_length : {A : Type 0} (xs : List A) → is_empty xs ≡ eqb (length xs) 0
empty_by_length [] = refl
empty_by_length (x ∷ xs) = sym (ne_eqb (length (x ∷ xs)) 0 (λ e. absurd (omega (arith, e))))

three : (a b c x y z : Bool) → a ≡ x → b ≡ y → c ≡ z → ((a && b) && c) ≡ ((x && y) && z)
three a b c x y z h k l = rw (h, k, l) refl

pub may_be_member_is : (rows : Rows) (c : Counted) (name : Text) → IsCount rows c →
    may_be_member rows name ≡ ((eqb (length c.voters) 0 && ltb (length c.members) MOST_APPLICANTS) && not (among c.members name))
unfolding may_be_member
may_be_member_is rows c name r =
    three _ _ _ _ _ _ (empty_by_length (ballots_in rows) ∙ ap (λ n. eqb n 0) (sym (as_many_voters rows c r)))
    (ap (λ xs. ltb (length xs) MOST_APPLICANTS) (sym r.members_are)) (ap (λ xs. not (among xs name)) (sym r.members_are))

pub may_vote_is : (rows : Rows) (c : Counted) (name : Text) → IsCount rows c →
    may_vote rows name ≡ ((not (eqb (length c.members) 0) && ltb (length c.voters) MOST_APPLICANTS) && not (among c.voters name))
unfolding may_vote
may_vote_is rows c name r =
    three _ _ _ _ _ _ (ap not (empty_by_length (members_in rows) ∙ ap (λ xs. eqb (length xs) 0) (sym r.members_are)))
    (ap (λ n. ltb n MOST_APPLICANTS) (sym (as_many_voters rows c r))) (ap (λ xs. not (among xs name)) (sym r.voters_are))

three_no1 : (a b c : Bool) → a ≡ false → ((a && b) && c) ≡ false
three_no1 a b c h = grind (arith, nat_tests)

three_no2 : (a b c : Bool) → b ≡ false → ((a && b) && c) ≡ false
three_no2 a b c h = grind (arith, nat_tests)

-- the same in the words of the code: members and voters are those of a count
pub no_member_after : (rows : Rows) (c : Counted) (name : Text) → IsCount rows c → 0 < length c.voters → false ≡ may_be_member rows name
no_member_after rows c name r h = sym (may_be_member_is rows c name r ∙ three_no1 _ _ _ (ne_eqb (length c.voters) 0 (λ e. absurd (omega (arith, e, h)))))

pub no_member_beyond : (rows : Rows) (c : Counted) (name : Text) → IsCount rows c → MOST_APPLICANTS ≤ length c.members → false ≡ may_be_member rows name
no_member_beyond rows c name r h = sym (may_be_member_is rows c name r ∙ three_no2 _ _ _ (le-ltb (length c.members) MOST_APPLICANTS h))

pub member_if_new : (rows : Rows) (c : Counted) (name : Text) → IsCount rows c → length c.voters ≡ 0 → length c.members < MOST_APPLICANTS
    → not (among c.members name) ≡ may_be_member rows name
member_if_new rows c name r h l =
    sym (may_be_member_is rows c name r ∙ ap (λ b. (b && ltb (length c.members) MOST_APPLICANTS) && not (among c.members name)) (ap (λ n. eqb n 0) h)
    ∙ ap (λ b. (true && b) && not (among c.members name)) (lt-ltb (length c.members) MOST_APPLICANTS l))

pub no_vote_before : (rows : Rows) (c : Counted) (name : Text) → IsCount rows c → length c.members ≡ 0 → false ≡ may_vote rows name
no_vote_before rows c name r h = sym (may_vote_is rows c name r ∙ three_no1 _ _ _ (ap (λ n. not (eqb n 0)) h))

pub no_vote_beyond : (rows : Rows) (c : Counted) (name : Text) → IsCount rows c → MOST_APPLICANTS ≤ length c.voters → false ≡ may_vote rows name
no_vote_beyond rows c name r h = sym (may_vote_is rows c name r ∙ three_no2 _ _ _ (le-ltb (length c.voters) MOST_APPLICANTS h))

pub vote_if_new : (rows : Rows) (c : Counted) (name : Text) → IsCount rows c → (length c.members ≡ 0 → ⊥) → length c.voters < MOST_APPLICANTS
    → not (among c.voters name) ≡ may_vote rows name
vote_if_new rows c name r h l =
    sym (may_vote_is rows c name r ∙ ap (λ b. (not b && ltb (length c.voters) MOST_APPLICANTS) && not (among c.voters name)) (ne_eqb (length c.members) 0 h)
    ∙ ap (λ b. (true && b) && not (among c.voters name)) (lt-ltb (length c.voters) MOST_APPLICANTS l))

-- What a member's line changes.

pub member_may : (rows : Rows) (c : Counted) (name : Text) → IsCount rows c → may_be_member rows name ≡ true →
    (length c.voters ≡ 0) × (length c.members < MOST_APPLICANTS) × (among c.members name ≡ false)
member_may rows c name r h =
    let whole = sym (may_be_member_is rows c name r) ∙ h in
    let parts = and_parts (eqb (length c.voters) 0 && ltb (length c.members) MOST_APPLICANTS) (not (among c.members name)) whole in
    let sizes = and_parts (eqb (length c.voters) 0) (ltb (length c.members) MOST_APPLICANTS) parts.0 in
    (eqb-true _ _ sizes.0, ltb-true _ _ sizes.1, not-true (among c.members name) parts.1)

pub vote_may : (rows : Rows) (c : Counted) (name : Text) → IsCount rows c → may_vote rows name ≡ true →
    (length c.voters < MOST_APPLICANTS) × (among c.voters name ≡ false)
vote_may rows c name r h =
    let whole = sym (may_vote_is rows c name r) ∙ h in
    let parts = and_parts (not (eqb (length c.members) 0) && ltb (length c.voters) MOST_APPLICANTS) (not (among c.voters name)) whole in
    let sizes = and_parts (not (eqb (length c.members) 0)) (ltb (length c.voters) MOST_APPLICANTS) parts.0 in
    (ltb-true _ _ sizes.1, not-true (among c.voters name) parts.1)

nothing : {A : Type 0} (xs : List A) → length xs ≡ 0 → xs ≡ []
nothing [] h = refl
nothing (x ∷ xs) h = absurd (omega (arith, h))

pub member_counted : (before : Rows) (c new : Counted) (w : Text) → IsCount before c → may_be_member before w ≡ true
    → new.members ≡ c.members ++ w ∷ [] → new.voters ≡ c.voters → new.scores ≡ c.scores ++ 0 ∷ []
    → IsCount (before ++ (codes "member" ∷ w ∷ []) ∷ []) new
member_counted before c new w r h members voters scores =
    let said = codes "member" ∷ w ∷ [] in
    let may = member_may before c w r h in
    let bs = ballots_in before in
    let ms = members_in before in
    let kept : ballots_in (before ++ said ∷ []) ≡ bs = ballots-kept before said refl in
    let grown : members_in (before ++ said ∷ []) ≡ ms ++ w ∷ [] = members-push before said refl in
    let none : score_on bs w ≡ 0 = ap (λ b. score_on b w) (nothing bs (sym (as_many_voters before c r) ∙ may.0)) ∙ score-nothing w in
    record {
      members_are = members ∙ ap (λ xs. xs ++ w ∷ []) r.members_are ∙ sym grown;
      voters_are = voters ∙ r.voters_are ∙ ap (map (λ b. b.person)) (sym kept);
      scores_are =
          scores ∙ ap (λ xs. xs ++ 0 ∷ []) r.scores_are
          ∙ ap (λ n. map (score_on bs) ms ++ n ∷ []) (sym none)
          ∙ sym (map-append (score_on bs) ms (w ∷ []))
          ∙ ap (map (score_on bs)) (sym grown)
          ∙ ap (λ b. map (score_on b) (members_in (before ++ said ∷ []))) (sym kept);
      differ = subst (AllPairs (λ a b. a ≢ b)) (sym members) (AllPairs-push_text c.members w r.differ may.2);
      few = omega (arith, ap length members, length-append c.members (w ∷ []), may.1);
      few_voters = omega (arith, ap length voters, may.0);
    }

same_row_is : (a b : Row) (o : Option Row) → o ≡ Some a → o ≡ Some b → b ≡ a
same_row_is a b o h k = cc

pub member_off_words : (before : Rows) (ws : Row) → length ws ≢ 1 → goes_on before (codes "member" ∷ ws) ≡ false
member_off_words before ws h =
    goes_on_member before ws ∙ ap (λ b. b && may_be_member before (word_at (codes "member" ∷ ws) 1)) (member_of_two ws h)

member_of_one : (before : Rows) (w : Text) → goes_on before (codes "member" ∷ w ∷ []) ≡ (is_name w && may_be_member before w)
member_of_one before w = goes_on_member before (w ∷ []) ∙ ap (λ b. b && may_be_member before w) (member_is w)

pub member_off_name : (before : Rows) (w rest : Text) (ws : Row) → spelled_behind rest ≡ Some (w ∷ []) → spelled_behind rest ≡ Some ws → is_name w ≡ false
    → goes_on before (codes "member" ∷ ws) ≡ false
member_off_name before w rest ws found spells h =
    ap (λ said. goes_on before (codes "member" ∷ said)) (same_row_is (w ∷ []) ws (spelled_behind rest) found spells) ∙ member_of_one before w ∙ ap (λ b. b && may_be_member before w) h

pub member_off_may : (before : Rows) (w rest : Text) (ws : Row) → spelled_behind rest ≡ Some (w ∷ []) → spelled_behind rest ≡ Some ws → may_be_member before w ≡ false
    → goes_on before (codes "member" ∷ ws) ≡ false
member_off_may before w rest ws found spells h =
    ap (λ said. goes_on before (codes "member" ∷ said)) (same_row_is (w ∷ []) ws (spelled_behind rest) found spells) ∙ member_of_one before w ∙ both (is_name w) (may_be_member before w) h

pub member_taken : (before : Rows) (c new : Counted) (w name rest : Text) → IsCount before c → spelled_behind rest ≡ Some (w ∷ []) → is_name w ≡ true → name ≡ w
    → may_be_member before name ≡ true → new.members ≡ c.members ++ name ∷ [] → new.voters ≡ c.voters → new.scores ≡ c.scores ++ 0 ∷ []
    → (ws : Row) × (spelled_behind rest ≡ Some ws) × (goes_on before (codes "member" ∷ ws) ≡ true) × IsCount (before ++ (codes "member" ∷ ws) ∷ []) new
member_taken before c new w name rest r found formed same may members voters scores =
    let may_w : may_be_member before w ≡ true = ap (may_be_member before) (sym same) ∙ may in (
      w ∷ [],
      found,
      member_of_one before w ∙ rw (formed, may_w) refl,
      member_counted before c new w r may_w (members ∙ ap (λ n. c.members ++ n ∷ []) same) voters scores,
    )

-- What a ballot's line changes.

pub ballot_counted : (before : Rows) (c new : Counted) (ws : Row) (person : Text) (ps : List Text) (pts : List ℕ) → IsCount before c
    → IsBallotOf (codes "ballot" ∷ ws) person ps pts → length c.voters < MOST_APPLICANTS → new.members ≡ c.members → new.voters ≡ c.voters ++ person ∷ [] → length new.scores ≡ length c.scores
    → ((k : ℕ) → k < length c.members → get_or new.scores k 0 ≡ get_or c.scores k 0 + option_map_or (cents_at pts) (position (bytes_eq (get_or c.members k [])) ps) 0)
    → IsCount (before ++ (codes "ballot" ∷ ws) ∷ []) new
unfolding ballot_in
ballot_counted before c new ws person ps pts r b room members voters each scores =
    let said = codes "ballot" ∷ ws in
    let bs = ballots_in before in
    let ms = members_in before in
    let grown : ballots_in (before ++ said ∷ []) ≡ bs ++ ballot_in said ∷ [] = ballots-push before said refl in
    let kept : members_in (before ++ said ∷ []) ≡ ms = members-kept before said refl in
    let many : length c.scores ≡ length c.members = as_many_scores before c r in
    let own : length ms ≡ length c.members = ap length (sym r.members_are) in
    let added : new.scores ≡ map (score_on (bs ++ ballot_in said ∷ [])) ms =
    ext_get_or 0 new.scores (map (score_on (bs ++ ballot_in said ∷ [])) ms) (omega (arith, each, many, own, length-map ms (score_on (bs ++ ballot_in said ∷ []))))
    (λ k kl.
    let below : k < length c.members = omega (arith, kl, each, many) in
    let name = get_or c.members k [] in
    let right : get_or (map (score_on (bs ++ ballot_in said ∷ [])) ms) k 0 ≡ score_on (bs ++ ballot_in said ∷ []) name =
    get_or-map (score_on (bs ++ ballot_in said ∷ [])) ms k [] 0 (omega (arith, below, own)) ∙ ap (λ xs. score_on (bs ++ ballot_in said ∷ []) (get_or xs k [])) (sym r.members_are) in
    omega (arith, scores k below, score_at before c k r below, right, score-push bs (ballot_in said) name, ballot_cents_is said person ps pts name b)) in
    record {
      members_are = members ∙ r.members_are ∙ sym kept;
      voters_are =
          voters ∙ ap (λ xs. xs ++ person ∷ []) r.voters_are ∙ ap (λ n. map (λ x. x.person) bs ++ n ∷ []) b.person_is
          ∙ sym (map-append (λ x. x.person) bs (ballot_in said ∷ [])) ∙ ap (map (λ x. x.person)) (sym grown);
      scores_are = added ∙ ap (map (score_on (bs ++ ballot_in said ∷ []))) (sym kept) ∙ ap (λ x. map (score_on x) (members_in (before ++ said ∷ []))) (sym grown);
      differ = subst (AllPairs (λ x y. x ≢ y)) (sym members) r.differ;
      few = omega (arith, ap length members, r.few);
      few_voters = omega (arith, ap length voters, length-append c.voters (person ∷ []), room);
    }

pub ballot_off : (before : Rows) (ws : Row) → is_ballot (codes "ballot" ∷ ws) ≡ false → goes_on before (codes "ballot" ∷ ws) ≡ false
ballot_off before ws h = goes_on_ballot before ws ∙ ap (λ b. b && may_vote before (word_at (codes "ballot" ∷ ws) 1)) h

pub ballot_off_may : (before : Rows) (rest person : Text) (ps : List Text) (pts : List ℕ) (ws : Row)
    → (said : Row) × (spelled_behind rest ≡ Some said) × IsBallotOf (codes "ballot" ∷ said) person ps pts → spelled_behind rest ≡ Some ws → may_vote before person ≡ false
    → goes_on before (codes "ballot" ∷ ws) ≡ false
ballot_off_may before rest person ps pts ws (said, found, b) spells h =
    ap (λ r. goes_on before (codes "ballot" ∷ r)) (same_row_is said ws (spelled_behind rest) found spells) ∙ goes_on_ballot before said
    ∙ both (is_ballot (codes "ballot" ∷ said)) (may_vote before (word_at (codes "ballot" ∷ said) 1)) (ap (may_vote before) (sym b.person_is) ∙ h)

pub ballot_taken : (before : Rows) (c new : Counted) (rest person : Text) (ps : List Text) (pts : List ℕ) → IsCount before c
    → (said : Row) × (spelled_behind rest ≡ Some said) × IsBallotOf (codes "ballot" ∷ said) person ps pts → may_vote before person ≡ true
    → new.members ≡ c.members → new.voters ≡ c.voters ++ person ∷ [] → length new.scores ≡ length c.scores
    → ((k : ℕ) → k < length c.members → get_or new.scores k 0 ≡ get_or c.scores k 0 + option_map_or (cents_at pts) (position (bytes_eq (get_or c.members k [])) ps) 0)
    → (ws : Row) × (spelled_behind rest ≡ Some ws) × (goes_on before (codes "ballot" ∷ ws) ≡ true) × IsCount (before ++ (codes "ballot" ∷ ws) ∷ []) new
ballot_taken before c new rest person ps pts r (said, found, b) may members voters each scores = (
  said,
  found,
  goes_on_ballot before said ∙ rw (b.ballot, ap (may_vote before) (sym b.person_is) ∙ may) refl,
  ballot_counted before c new said person ps pts r b (vote_may before c person r may).0 members voters each scores,
)

-- A line behind the second, by its first word.

pub line_off : (before : Rows) (line text w rest : Text) → 2 ≤ length before → strict_row line ≡ spelled text
    → spelled text ≡ option_map (λ said. w ∷ said) (spelled_behind rest)
    → ((ws : Row) → spelled_behind rest ≡ Some ws → goes_on before (w ∷ ws) ≡ false) → is_on_form before line ≡ false
line_off before line text w rest two e found off =
    by_row before line (spelled text) e
    (λ said is.
    let parts = one_more w said (spelled_behind rest) (sym is ∙ found) in
    follows_on before said two ∙ ap (goes_on before) parts.2 ∙ off parts.0 parts.1)

pub line_on : (before : Rows) (line text w first rest : Text) (new : Counted) → 2 ≤ length before → strict_row line ≡ spelled text
    → spelled text ≡ option_map (λ said. w ∷ said) (spelled_behind rest) → w ≡ first
    → (ws : Row) × (spelled_behind rest ≡ Some ws) × (goes_on before (first ∷ ws) ≡ true) × IsCount (before ++ (first ∷ ws) ∷ []) new
    → (is_on_form before line ≡ true) × IsCount (before ++ row_of line ∷ []) new
line_on before line text w first rest new two e found same (ws, spells, goes, count) =
    let said : strict_row line ≡ Some (first ∷ ws) = e ∙ found ∙ ap (option_map (λ r. w ∷ r)) spells ∙ ap (λ x. Some (x ∷ ws)) same in (
      on_form_is before line (first ∷ ws) said ∙ follows_on before (first ∷ ws) two ∙ goes,
      subst (λ r. IsCount (before ++ r ∷ []) new) (sym (row_is line (first ∷ ws) said)) count,
    )

pub on_ok : {A E : Type 0} (r : Result A E) (P Q : Type 0) → (P → Q) → OnOk r P → OnOk r Q
on_ok (Ok x) P Q f h = f h
on_ok (Err e) P Q f h = tt

-- A ballot's points, and its cents, in the words of the code.

pub ballot_some : (said : Row) (person : Text) (ps : List Text) (pts : List ℕ) → IsBallotOf said person ps pts → 1 ≤ length pts
unfolding is_ballot
ballot_some said person ps pts b =
    let cells = drop 2 said in
    let front = (and_parts ((begins (codes "ballot") said && is_name (word_at said 1)) && not (is_empty cells)) (are_cells cells) b.ballot).0 in
    let some = filled cells (and_parts (begins (codes "ballot") said && is_name (word_at said 1)) (not (is_empty cells)) front).1 in
    omega (arith, some, ap length b.cells_are.points_are, length-map cells points_in)

-- scores that were given the cents of a ballot
abbrev pub WereGiven : List ℕ → List ℕ → List Text → List Text → List ℕ → Type 0
WereGiven new old members ps pts = (k : ℕ) → k < length members → get_or new k 0 ≡ get_or old k 0 + option_map_or (cents_at pts) (position (bytes_eq (get_or members k [])) ps) 0

pub given_as : (new old old' : List ℕ) (ms ms' ps ps' : List Text) (pts pts' : List ℕ) → old ≡ old' → ms ≡ ms' → ps ≡ ps' → pts ≡ pts'
    → WereGiven new old ms ps pts → WereGiven new old' ms' ps' pts'
given_as new old old' ms ms' ps ps' pts pts' e1 e2 e3 e4 h =
    subst (λ x. WereGiven new old' ms' ps' x) e4 (subst (λ x. WereGiven new old' ms' x pts) e3 (subst (λ x. WereGiven new old' x ps pts) e2 (subst (λ x. WereGiven new x ms ps pts) e1 h)))
