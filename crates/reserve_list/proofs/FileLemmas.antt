-- A file of withdrawals, line by line.
use Rattle.std.proofs.Common.{◌≡◌, ℕ, ◌+◌, ◌<◌, ◌≤◌, ◌++◌, ◌∷◌, [], ◌||◌, Bool, true, false, not, cond, bytes_eq, List, Option, Some, None, filter, get_or, length, map, set, take, refl, sym, ap, ◌∙◌, arith, inl, inr, append_assoc, length-append}
use Rattle.std.specs.Option.{option_map_or}
use Rattle.std.specs.Prelude.{Result, Ok, Err, OnErr, OnOk}
use Rattle.std.proofs.lemmas.Bool.{cases_Bool, cases_eq}
use Rattle.std.proofs.lemmas.List.{append-nil, ext_get_or, get_or-map, get_or-set_other, get_or-set_same, length-map, length-set, map-append, take_at}
use Rattle.std.proofs.lemmas.List.Elements.{filter-append}
use Rattle.std.proofs.lemmas.Option.{none-some}
use Rattle.std.proofs.lemmas.Result.{on_err_weaker, on_ok_weaker}
use Rattle.house_base.proofs.AmongLemmas.{among-cons, bytes_eq-other, bytes_eq-same}
use Rattle.house_base.specs.Text.{Text, among}
use Rattle.house_base.specs.declared.answer.Reason.{Reason}
use Rattle.house_base.specs.declared.answer.Reason.TheVariants as reason
use Rattle.house_model.specs.Report.{OutcomeParts, line_of, outcome_text}
use Rattle.house_model.specs.Text.{Lines, is_blank, lines, word}
use Rattle.line_text.specs.Written.{Extends}
use Rattle.peer_selection.specs.Counting.{numbers_below}
use Rattle.peer_selection.proofs.CountingLemmas.{get_or-numbers_below, length-numbers_below}
use Rattle.reserve_list.specs.Board.{BoardParts, IsBoard, IsRanked, and_gone, board_after, count_of, fresh_board, gone_after, is_gone, is_gone_after, name_on, number_of}
use Rattle.reserve_list.specs.Leaving.{IsLeftOf, board_text, fault_after, file_fault, form_fault, leaving, left_board, line_fault, move_words, moves_after, moves_text, name_fault, reserve_text}
use Rattle.reserve_list.specs.Line.{MayBeBehind, MayHaveLeft, board_behind, board_without, moves_on}
use Rattle.reserve_list.specs.declared.fault.LineFault.{LineFault}
use Rattle.reserve_list.proofs.NameLemmas.{number-alone, number-below, number-name}

or_nothing : (x : Bool) → (x || false) ≡ x
or_nothing true = refl
or_nothing false = refl

or_group : (x y z : Bool) → (x || (y || z)) ≡ ((x || y) || z)
or_group true y z = refl
or_group false y z = refl

or_yes : (x y : Bool) → (x || (y || true)) ≡ true
or_yes true y = refl
or_yes false true = refl
or_yes false false = refl

left_none : (a b : Option Reason) → option_map_or (λ reason. Some reason) a b ≡ None → b ≡ None
left_none None b h = h
left_none (Some r) b h = absurd (none-some r (sym h))

-- One line.

pub fault-blank : (b : BoardParts) (line : Text) → is_blank line ≡ true → line_fault b line ≡ None
unfolding line_fault
fault-blank b line blank = ap (λ x. cond x None (option_map_or (λ reason. Some reason) (form_fault line) (name_fault b (word line 1)))) blank

pub fault-formed : (b : BoardParts) (line name : Text) → is_blank line ≡ false → form_fault line ≡ None → name ≡ word line 1 → name_fault b name ≡ line_fault b line
unfolding line_fault
fault-formed b line name some formed e =
    ap (name_fault b) e
    ∙ sym (ap (λ o. option_map_or (λ reason. Some reason) o (name_fault b (word line 1))) formed)
    ∙ sym (ap (λ x. cond x None (option_map_or (λ reason. Some reason) (form_fault line) (name_fault b (word line 1)))) some)

pub fault-ill_formed : (b : BoardParts) (line : Text) (r : Reason) → is_blank line ≡ false → form_fault line ≡ Some r → line_fault b line ≡ Some r
unfolding line_fault
fault-ill_formed b line r some ill =
    ap (λ x. cond x None (option_map_or (λ reason. Some reason) (form_fault line) (name_fault b (word line 1)))) some
    ∙ ap (λ o. option_map_or (λ reason. Some reason) o (name_fault b (word line 1))) ill

pub board-blank : (b : BoardParts) (line : Text) → is_blank line ≡ true → board_behind b line ≡ b
unfolding board_behind
board-blank b line blank = ap (λ x. cond x b (board_without b (word line 1))) blank

pub board-formed : (b : BoardParts) (line name : Text) → is_blank line ≡ false → name ≡ word line 1 → board_without b name ≡ board_behind b line
unfolding board_behind
board-formed b line name some e = ap (board_without b) e ∙ sym (ap (λ x. cond x b (board_without b (word line 1))) some)

pub moves-blank : (b : BoardParts) (line : Text) → is_blank line ≡ true → moves_on b line ≡ []
unfolding moves_on
moves-blank b line blank = ap (λ x. cond x [] (line_of (move_words b (word line 1)))) blank

pub moves-formed : (b : BoardParts) (line name : Text) → is_blank line ≡ false → name ≡ word line 1 → line_of (move_words b name) ≡ moves_on b line
unfolding moves_on
moves-formed b line name some e = ap (λ n. line_of (move_words b n)) e ∙ sym (ap (λ x. cond x [] (line_of (move_words b (word line 1)))) some)

-- what the call on the name says, said of the line
module _ (r : Result (Unit {0}) LineFault) (b : BoardParts) (line name : Text) (some : is_blank line ≡ false) (formed : form_fault line ≡ None) (named : name ≡ word line 1) where
  left-of_name : (new : BoardParts) → MayHaveLeft b name new → MayBeBehind b line new
  left-of_name new (inl same) = inl same
  left-of_name new (inr went) = inr (sym (fault-formed b line name some formed named) ∙ went.0, went.1 ∙ board-formed b line name some named)

  pub fault-of_line : OnOk r (name_fault b name ≡ None) → OnOk r (line_fault b line ≡ None)
  fault-of_line = on_ok_weaker {P = name_fault b name ≡ None} {Q = line_fault b line ≡ None} r (λ h. sym (fault-formed b line name some formed named) ∙ h)

  pub board-of_line : (new : BoardParts) → OnOk r (new ≡ board_without b name) → OnOk r (new ≡ board_behind b line)
  board-of_line new = on_ok_weaker {P = new ≡ board_without b name} {Q = new ≡ board_behind b line} r (λ h. h ∙ board-formed b line name some named)

  pub left-of_line : (new : BoardParts) → OnErr r (MayHaveLeft b name new) → OnErr r (MayBeBehind b line new)
  left-of_line new = on_err_weaker {P = MayHaveLeft b name new} {Q = MayBeBehind b line new} r (left-of_name new)

  pub text-of_line : (old new : Text) → OnOk r (new ≡ old ++ line_of (move_words b name)) → OnOk r (new ≡ old ++ moves_on b line)
  text-of_line old new = on_ok_weaker {P = new ≡ old ++ line_of (move_words b name)} {Q = new ≡ old ++ moves_on b line} r (λ h. h ∙ ap (λ t. old ++ t) (moves-formed b line name some named))

-- The set of names.

among-nothing : (t : Text) → among [] t ≡ false
unfolding among
among-nothing t = refl

among-push : (names : List Text) (name t : Text) → among (names ++ name ∷ []) t ≡ (among names t || bytes_eq t name)
among-push [] name t = among-cons name [] t ∙ ap (λ x. bytes_eq t name || x) (among-nothing t) ∙ or_nothing (bytes_eq t name) ∙ sym (ap (λ x. x || bytes_eq t name) (among-nothing t))
among-push (n ∷ names) name t =
    among-cons n (names ++ name ∷ []) t ∙ ap (λ x. bytes_eq t n || x) (among-push names name t)
    ∙ or_group (bytes_eq t n) (among names t) (bytes_eq t name) ∙ sym (ap (λ x. x || bytes_eq t name) (among-cons n names t))

pub gone-at : (b : BoardParts) (names : List Text) (k : ℕ) → k < count_of b.outcome → is_gone (board_after b names) k ≡ is_gone_after b names k
unfolding is_gone gone_after
gone-at b names k l =
    get_or-map (is_gone_after b names) (numbers_below (count_of b.outcome)) k 0 false (omega (arith, length-numbers_below (count_of b.outcome)))
    ∙ ap (is_gone_after b names) (get_or-numbers_below (count_of b.outcome) k 0 l)

gone_after-length : (b : BoardParts) (names : List Text) → length (gone_after b names) ≡ count_of b.outcome
unfolding gone_after
gone_after-length b names = length-map (numbers_below (count_of b.outcome)) (is_gone_after b names) ∙ length-numbers_below (count_of b.outcome)

-- nobody's names change nothing
pub after-nobody : (b : BoardParts) → IsBoard b → b ≡ board_after b []
unfolding is_gone
after-nobody b board =
    ap (λ gone. record b { gone = gone })
    (ext_get_or false b.gone (gone_after b []) (board.each ∙ sym (gone_after-length b [])) (λ k l.
    let kl : k < count_of b.outcome = omega (arith, board.each) in
    sym (gone-at b [] k kl ∙ ap (λ x. is_gone b k || x) (among-nothing (name_on b.outcome k)) ∙ or_nothing (is_gone b k))))

-- one name more
after-more : (b : BoardParts) (names : List Text) (name : Text) (i : ℕ) → IsRanked b.outcome → number_of b.outcome name ≡ Some i → and_gone (board_after b names) i ≡ board_after b (names ++ name ∷ [])
unfolding is_gone
after-more b names name i ranked named =
    let n = count_of b.outcome in
    let old = gone_after b names in
    let long = gone_after-length b names in
    ap (λ gone. record b { gone = gone })
    (ext_get_or false (set old i true) (gone_after b (names ++ name ∷ [])) (length-set old i true ∙ long ∙ sym (gone_after-length b (names ++ name ∷ []))) (λ k l.
    let kl : k < n = omega (arith, l, long, length-set old i true) in
    let pushed = gone-at b (names ++ name ∷ []) k kl ∙ ap (λ x. is_gone b k || x) (among-push names name (name_on b.outcome k)) in
    elim (cases_eq k i) [
      | inl e ↦
          let here = bytes_eq-same (name_on b.outcome k) name (ap (name_on b.outcome) e ∙ number-name b.outcome name i named) in
          ap (λ x. get_or (set old i true) x false) e ∙ get_or-set_same old i true false (omega (arith, number-below b.outcome name i named, long))
          ∙ sym (pushed ∙ ap (λ x. is_gone b k || (among names (name_on b.outcome k) || x)) here ∙ or_yes (is_gone b k) (among names (name_on b.outcome k)))
      | inr other ↦
          let apart = bytes_eq-other (name_on b.outcome k) name (λ e. other (number-alone b.outcome name i ranked named k kl e)) in
          get_or-set_other old i k true false other
          ∙ gone-at b names k kl
          ∙ sym (pushed ∙ ap (λ x. is_gone b k || (among names (name_on b.outcome k) || x)) apart ∙ ap (λ x. is_gone b k || x) (or_nothing (among names (name_on b.outcome k))))
    ]))

number_known : (b : BoardParts) (name : Text) (o : Option ℕ) → number_of b.outcome name ≡ o → option_map_or (λ i. cond (is_gone b i) (Some reason.Known) None) o (Some reason.Unknown) ≡ None → (i : ℕ) × (number_of b.outcome name ≡ Some i)
number_known b name None e h = absurd (none-some reason.Unknown (sym h))
number_known b name (Some i) e h = (i, e)

-- a name that can withdraw is one more
pub without-more : (b : BoardParts) (names : List Text) (name : Text) → IsRanked b.outcome → name_fault (board_after b names) name ≡ None → board_without (board_after b names) name ≡ board_after b (names ++ name ∷ [])
unfolding name_fault board_without
without-more b names name ranked h =
    let known = number_known (board_after b names) name (number_of b.outcome name) refl h in
    ap (λ o. option_map_or (and_gone (board_after b names)) o (board_after b names)) known.1 ∙ after-more b names name known.0 ranked known.1

-- Lines.

pub leaving-append : (xs ys : Lines) → leaving (xs ++ ys) ≡ leaving xs ++ leaving ys
unfolding leaving
leaving-append xs ys =
    ap (map (λ line. word line 1)) (filter-append (λ line. not (is_blank line)) xs ys)
    ∙ map-append (λ line. word line 1) (filter (λ line. not (is_blank line)) xs) (filter (λ line. not (is_blank line)) ys)

leaving-blank : (line : Text) → is_blank line ≡ true → leaving (line ∷ []) ≡ []
unfolding leaving
leaving-blank line blank = ap (λ x. map (λ line. word line 1) (cond (not x) (line ∷ []) [])) blank

leaving-one : (line : Text) → is_blank line ≡ false → leaving (line ∷ []) ≡ word line 1 ∷ []
unfolding leaving
leaving-one line some = ap (λ x. map (λ line. word line 1) (cond (not x) (line ∷ []) [])) some

leaving-nothing : leaving [] ≡ []
unfolding leaving
leaving-nothing = refl

name_fault-formed : (b : BoardParts) (line : Text) → is_blank line ≡ false → line_fault b line ≡ None → name_fault b (word line 1) ≡ None
unfolding line_fault
name_fault-formed b line some h =
    left_none (form_fault line) (name_fault b (word line 1)) (sym (ap (λ x. cond x None (option_map_or (λ reason. Some reason) (form_fault line) (name_fault b (word line 1)))) some) ∙ h)

-- the board behind a line is that of the names up to it
board-line : (b : BoardParts) (before : Lines) (line : Text) → IsRanked b.outcome → line_fault (board_after b (leaving before)) line ≡ None
    → board_behind (board_after b (leaving before)) line ≡ board_after b (leaving (before ++ line ∷ []))
board-line b before line ranked h =
    let cur = board_after b (leaving before) in
    elim (cases_Bool (is_blank line)) [
      | inl blank ↦ board-blank cur line blank ∙ ap (board_after b) (sym (leaving-append before (line ∷ []) ∙ ap (λ xs. leaving before ++ xs) (leaving-blank line blank) ∙ append-nil (leaving before)))
      | inr some ↦
          sym (board-formed cur line (word line 1) some refl)
          ∙ without-more b (leaving before) (word line 1) ranked (name_fault-formed cur line some h)
          ∙ ap (board_after b) (sym (leaving-append before (line ∷ []) ∙ ap (λ xs. leaving before ++ xs) (leaving-one line some)))
    ]

-- what is written of a line, and of those behind it
moves-line : (b : BoardParts) (before : Lines) (line : Text) (more : Lines)
    → moves_after b (leaving before) (leaving (line ∷ more)) ≡ moves_on (board_after b (leaving before)) line ++ moves_after b (leaving (before ++ line ∷ [])) (leaving more)
moves-line b before line more =
    let cur = board_after b (leaving before) in
    let split = leaving-append (line ∷ []) more in
    let pushed = leaving-append before (line ∷ []) in
    elim (cases_Bool (is_blank line)) [
      | inl blank ↦
          ap (moves_after b (leaving before)) (split ∙ ap (λ xs. xs ++ leaving more) (leaving-blank line blank))
          ∙ ap (λ xs. moves_after b xs (leaving more)) (sym (pushed ∙ ap (λ xs. leaving before ++ xs) (leaving-blank line blank) ∙ append-nil (leaving before)))
          ∙ sym (ap (λ t. t ++ moves_after b (leaving (before ++ line ∷ [])) (leaving more)) (moves-blank cur line blank))
      | inr some ↦
          ap (moves_after b (leaving before)) (split ∙ ap (λ xs. xs ++ leaving more) (leaving-one line some))
          ∙ ap (λ xs. line_of (move_words cur (word line 1)) ++ moves_after b xs (leaving more)) (sym (pushed ∙ ap (λ xs. leaving before ++ xs) (leaving-one line some)))
          ∙ ap (λ t. t ++ moves_after b (leaving (before ++ line ∷ [])) (leaving more)) (moves-formed cur line (word line 1) some refl)
    ]

pub extends-twice : (old out new : Text) → Extends old out → Extends out new → Extends old new
extends-twice old out new (x, e) (y, f) = (x ++ y, f ∙ ap (λ t. t ++ y) e ∙ append_assoc old x y)

-- Of a file so many lines were taken on a board, and the rest is left.
pub record IsTaken (b : BoardParts) (bytes rest : Text) (old out : Text) (number : ℕ) (cur : BoardParts) : Type 0 where
  pub before : Lines
  pub fault : file_fault b bytes ≡ fault_after b before (lines rest)
  pub names : leaving (lines bytes) ≡ leaving before ++ leaving (lines rest)
  pub board : cur ≡ board_after b (leaving before)
  pub moves : old ++ moves_text b bytes ≡ out ++ moves_after b (leaving before) (leaving (lines rest))
  pub number_is : number ≡ length before
  pub grows : Extends old out
  pub few : number + length rest ≤ length bytes

pub taken-none : (b : BoardParts) (bytes old : Text) → IsBoard b → IsTaken b bytes bytes old old 0 b
unfolding file_fault moves_text
taken-none b bytes old board =
    record {
      before = [];
      fault = refl;
      names = sym (ap (λ xs. xs ++ leaving (lines bytes)) leaving-nothing);
      board = after-nobody b board ∙ ap (board_after b) (sym leaving-nothing);
      moves = ap (λ xs. old ++ moves_after b xs (leaving (lines bytes))) (sym leaving-nothing);
      number_is = refl;
      grows = ([], sym (append-nil old));
      few = omega arith;
    }

fault-more : (b : BoardParts) (before : Lines) (line : Text) (more : Lines) → line_fault (board_after b (leaving before)) line ≡ None → fault_after b before (line ∷ more) ≡ fault_after b (before ++ line ∷ []) more
fault-more b before line more h = ap (λ o. option_map_or (λ reason. Some (length before + 1, reason)) o (fault_after b (before ++ line ∷ []) more)) h

pub taken-more : (b : BoardParts) (bytes rest behind line old out new : Text) (number : ℕ) (cur next : BoardParts) → IsBoard b → IsTaken b bytes rest old out number cur
    → lines rest ≡ line ∷ lines behind → length behind < length rest → line_fault cur line ≡ None → next ≡ board_behind cur line → new ≡ out ++ moves_on cur line
    → IsTaken b bytes behind old new (number + 1) next
taken-more b bytes rest behind line old out new number cur next board t cut shorter fine goes writes =
    let at = ap (λ x. line_fault x line) (sym t.board) ∙ fine in
    record {
      before = t.before ++ line ∷ [];
      fault = t.fault ∙ ap (fault_after b t.before) cut ∙ fault-more b t.before line (lines behind) at;
      names = t.names ∙ ap (λ ls. leaving t.before ++ leaving ls) cut ∙ ap (λ xs. leaving t.before ++ xs) (leaving-append (line ∷ []) (lines behind))
          ∙ sym (append_assoc (leaving t.before) (leaving (line ∷ [])) (leaving (lines behind))) ∙ ap (λ xs. xs ++ leaving (lines behind)) (sym (leaving-append t.before (line ∷ [])));
      board = goes ∙ ap (λ x. board_behind x line) t.board ∙ board-line b t.before line board.ranked at;
      moves = t.moves ∙ ap (λ ls. out ++ moves_after b (leaving t.before) (leaving ls)) cut ∙ ap (λ x. out ++ x) (moves-line b t.before line (lines behind))
          ∙ ap (λ x. out ++ (moves_on x line ++ moves_after b (leaving (t.before ++ line ∷ [])) (leaving (lines behind)))) (sym t.board)
          ∙ sym (append_assoc out (moves_on cur line) (moves_after b (leaving (t.before ++ line ∷ [])) (leaving (lines behind))))
          ∙ ap (λ x. x ++ moves_after b (leaving (t.before ++ line ∷ [])) (leaving (lines behind))) (sym writes);
      number_is = ap (λ x. x + 1) t.number_is ∙ sym (length-append t.before (line ∷ []));
      grows = extends-twice old out new t.grows (moves_on cur line, writes);
      few = omega (arith, t.few);
    }

-- where an error came: the names before it, and maybe that of its line, are a front of the file's

front-left : (b : BoardParts) (bytes : Text) (names more : List Text) (cur : BoardParts) → leaving (lines bytes) ≡ names ++ more → cur ≡ board_after b names → IsLeftOf b bytes cur
front-left b bytes names more cur all is =
    (length names, is ∙ ap (board_after b) (sym (ap (take (length names)) all ∙ take_at names more (length names) refl)))

pub taken-left : (b : BoardParts) (bytes rest behind line old out : Text) (number : ℕ) (cur next : BoardParts) → IsBoard b → IsTaken b bytes rest old out number cur
    → lines rest ≡ line ∷ lines behind → MayBeBehind cur line next → IsLeftOf b bytes next
taken-left b bytes rest behind line old out number cur next board t cut (inl same) = front-left b bytes (leaving t.before) (leaving (lines rest)) next t.names (same ∙ t.board)
taken-left b bytes rest behind line old out number cur next board t cut (inr went) =
    let at = ap (λ x. line_fault x line) (sym t.board) ∙ went.0 in
    front-left b bytes (leaving (t.before ++ line ∷ [])) (leaving (lines behind)) next
    (t.names ∙ ap (λ ls. leaving t.before ++ leaving ls) cut ∙ ap (λ xs. leaving t.before ++ xs) (leaving-append (line ∷ []) (lines behind))
    ∙ sym (append_assoc (leaving t.before) (leaving (line ∷ [])) (leaving (lines behind))) ∙ ap (λ xs. xs ++ leaving (lines behind)) (sym (leaving-append t.before (line ∷ []))))
    (went.1 ∙ ap (λ x. board_behind x line) t.board ∙ board-line b t.before line board.ranked at)

-- where no line is left

pub taken-fault : (b : BoardParts) (bytes rest old out : Text) (number : ℕ) (cur : BoardParts) → IsTaken b bytes rest old out number cur → lines rest ≡ [] → file_fault b bytes ≡ None
taken-fault b bytes rest old out number cur t none = t.fault ∙ ap (fault_after b t.before) none

pub taken-board : (b : BoardParts) (bytes rest old out : Text) (number : ℕ) (cur : BoardParts) → IsTaken b bytes rest old out number cur → lines rest ≡ [] → cur ≡ left_board b bytes
taken-board b bytes rest old out number cur t none =
    t.board ∙ ap (board_after b) (sym (t.names ∙ ap (λ ls. leaving t.before ++ leaving ls) none ∙ ap (λ xs. leaving t.before ++ xs) leaving-nothing ∙ append-nil (leaving t.before)))

pub taken-text : (b : BoardParts) (bytes rest old out : Text) (number : ℕ) (cur : BoardParts) → IsTaken b bytes rest old out number cur → lines rest ≡ [] → out ≡ old ++ moves_text b bytes
taken-text b bytes rest old out number cur t none =
    sym (t.moves ∙ ap (λ ls. out ++ moves_after b (leaving t.before) (leaving ls)) none ∙ ap (λ xs. out ++ moves_after b (leaving t.before) xs) leaving-nothing ∙ append-nil out)

-- where the next line is refused
pub taken-bad : (b : BoardParts) (bytes rest behind line old out : Text) (number : ℕ) (cur : BoardParts) (r : Reason) → IsTaken b bytes rest old out number cur
    → lines rest ≡ line ∷ lines behind → line_fault cur line ≡ Some r → file_fault b bytes ≡ Some (number + 1, r)
taken-bad b bytes rest behind line old out number cur r t cut bad =
    t.fault ∙ ap (fault_after b t.before) cut
    ∙ ap (λ o. option_map_or (λ reason. Some (length t.before + 1, reason)) o (fault_after b (t.before ++ line ∷ []) (lines behind))) (ap (λ x. line_fault x line) (sym t.board) ∙ bad)
    ∙ ap (λ n. Some (n + 1, r)) (sym t.number_is)

-- What becomes of an outcome and a file.

pub reserve-bad : (o : OutcomeParts) (b : BoardParts) (bytes : Text) (line : ℕ) (r : Reason) → b ≡ fresh_board o → file_fault b bytes ≡ Some (line, r) → reserve_text o bytes ≡ Err (line, r)
unfolding reserve_text
reserve-bad o b bytes line r e h =
    ap (λ f. option_map_or (λ fault. Err fault) f (Ok (outcome_text o ++ (moves_text (fresh_board o) bytes ++ board_text (left_board (fresh_board o) bytes))))) (ap (λ x. file_fault x bytes) (sym e) ∙ h)

pub reserve-ok : (o : OutcomeParts) (b left : BoardParts) (bytes report moves text : Text) → b ≡ fresh_board o → file_fault b bytes ≡ None → left ≡ left_board b bytes
    → report ≡ outcome_text o → moves ≡ report ++ moves_text b bytes → text ≡ moves ++ board_text left → reserve_text o bytes ≡ Ok text
unfolding reserve_text
reserve-ok o b left bytes report moves text e h l r m t =
    let fresh = fresh_board o in
    ap (λ f. option_map_or (λ fault. Err fault) f (Ok (outcome_text o ++ (moves_text fresh bytes ++ board_text (left_board fresh bytes))))) (ap (λ x. file_fault x bytes) (sym e) ∙ h)
    ∙ ap Ok (sym (t
    ∙ ap (λ x. moves ++ board_text x) (l ∙ ap (λ x. left_board x bytes) e)
    ∙ ap (λ x. x ++ board_text (left_board fresh bytes)) (m ∙ ap (λ x. report ++ moves_text x bytes) e ∙ ap (λ x. x ++ moves_text fresh bytes) r)
    ∙ append_assoc (outcome_text o) (moves_text fresh bytes) (board_text (left_board fresh bytes))))
