use Rattle.std.proofs.Common.{◌≡◌, ℕ, ◌+◌, ◌≤◌, cond, Option, Some, None, [], ◌∷◌, ◌++◌, length, refl, ap, ◌∙◌, append_assoc, length-append, arith}
use Rattle.std.specs.Prelude.{is_some}
use Rattle.std.specs.Option.{option_map_or}
use Rattle.std.proofs.lemmas.List.{append-nil}
use Rattle.std.proofs.lemmas.Option.{some_pair_parts}
use Rattle.house_base.specs.Text.{Text}
use Rattle.house_model.specs.Text.{Lines}
use Rattle.house_model.specs.Ending.{Halt, Rule, stop_after, stop_of, in_force_after, in_force}

-- no stop here or further on
no_stop : (n : ℕ) (o : Option Halt) (rest : Option (ℕ × Halt)) → option_map_or (λ r. Some (n, r)) o rest ≡ None → (o ≡ None) × (rest ≡ None)
no_stop n None rest h = (refl, h)
no_stop n (Some r) rest h = cc

stop_after_push : (rule : Rule) (before lines : Lines) (x : Text) → stop_after rule before lines ≡ None →
    stop_after rule before (lines ++ x ∷ []) ≡ option_map_or (λ r. Some (length (before ++ lines) + 1, r)) (rule (before ++ lines) x) None
stop_after_push rule before [] x h = rw append-nil refl
stop_after_push rule before (y ∷ lines) x h =
    let s = no_stop (length before + 1) (rule before y) (stop_after rule (before ++ y ∷ []) lines) h in
    let e = append_assoc before (y ∷ []) lines in
    rw s.0 (stop_after_push rule (before ++ y ∷ []) lines x s.1 ∙ ap (λ all. option_map_or (λ r. Some (length all + 1, r)) (rule all x) None) e)

in_force_after_all : (rule : Rule) (before lines : Lines) → stop_after rule before lines ≡ None → in_force_after rule before lines ≡ lines
in_force_after_all rule before [] h = refl
in_force_after_all rule before (y ∷ lines) h =
    let s = no_stop (length before + 1) (rule before y) (stop_after rule (before ++ y ∷ []) lines) h in
    rw s.0 (ap (λ rest. y ∷ rest) (in_force_after_all rule (before ++ y ∷ []) lines s.1))

in_force_after_push : (rule : Rule) (before lines : Lines) (x : Text) → stop_after rule before lines ≡ None →
    in_force_after rule before (lines ++ x ∷ []) ≡ lines ++ cond (is_some (rule (before ++ lines) x)) [] (x ∷ [])
in_force_after_push rule before [] x h = rw append-nil refl
in_force_after_push rule before (y ∷ lines) x h =
    let s = no_stop (length before + 1) (rule before y) (stop_after rule (before ++ y ∷ []) lines) h in
    let e = append_assoc before (y ∷ []) lines in
    rw s.0 (ap (λ rest. y ∷ rest) (in_force_after_push rule (before ++ y ∷ []) lines x s.1 ∙ ap (λ all. lines ++ cond (is_some (rule all x)) [] (x ∷ [])) e))

stays : (n : ℕ) (y : Text) (t : ℕ × Halt) (rest more : Option (ℕ × Halt)) (kept grown : Lines) (o : Option Halt) →
    (rest ≡ Some t → (more ≡ Some t) × (grown ≡ kept)) → option_map_or (λ r. Some (n, r)) o rest ≡ Some t →
    (option_map_or (λ r. Some (n, r)) o more ≡ Some t) × (cond (is_some o) [] (y ∷ grown) ≡ cond (is_some o) [] (y ∷ kept))
stays n y t rest more kept grown None later h = ((later h).0, ap (λ all. y ∷ all) (later h).1)
stays n y t rest more kept grown (Some r) later h = (h, refl)

-- a stop stays with one more line
stop_after_stays : (rule : Rule) (before lines : Lines) (x : Text) (t : ℕ × Halt) → stop_after rule before lines ≡ Some t →
    (stop_after rule before (lines ++ x ∷ []) ≡ Some t) × (in_force_after rule before (lines ++ x ∷ []) ≡ in_force_after rule before lines)
stop_after_stays rule before [] x t h = cc
stop_after_stays rule before (y ∷ lines) x t h =
    stays (length before + 1) y t (stop_after rule (before ++ y ∷ []) lines) (stop_after rule (before ++ y ∷ []) (lines ++ x ∷ []))
    (in_force_after rule (before ++ y ∷ []) lines) (in_force_after rule (before ++ y ∷ []) (lines ++ x ∷ [])) (rule before y)
    (stop_after_stays rule (before ++ y ∷ []) lines x t) h

numbered : (k n : ℕ) (y : Text) (r : Halt) (rest : Option (ℕ × Halt)) (kept : Lines) (o : Option Halt) →
    (rest ≡ Some (n, r) → (k + 1) + length kept + 1 ≡ n) → option_map_or (λ q. Some (k + 1, q)) o rest ≡ Some (n, r) →
    k + length (cond (is_some o) [] (y ∷ kept)) + 1 ≡ n
numbered k n y r rest kept None later h = let e = later h in omega arith
numbered k n y r rest kept (Some q) later h = let e : k + 1 ≡ n = (some_pair_parts (k + 1) n q r h).0 in omega arith

stop_after_number : (rule : Rule) (before lines : Lines) (n : ℕ) (r : Halt) → stop_after rule before lines ≡ Some (n, r) →
    length before + length (in_force_after rule before lines) + 1 ≡ n
stop_after_number rule before [] n r h = cc
stop_after_number rule before (y ∷ lines) n r h =
    numbered (length before) n y r (stop_after rule (before ++ y ∷ []) lines) (in_force_after rule (before ++ y ∷ []) lines) (rule before y)
    (λ e. rw (length-append) at (stop_after_number rule (before ++ y ∷ []) lines n r e)) h

-- lines without a stop are all in force
pub in_force_all : (rule : Rule) (lines : Lines) → stop_of rule lines ≡ None → in_force rule lines ≡ lines
unfolding stop_of in_force
in_force_all rule lines h = in_force_after_all rule [] lines h

-- one more line, which ends the run
pub stop_at : (rule : Rule) (lines : Lines) (x : Text) (r : Halt) → stop_of rule lines ≡ None → rule lines x ≡ Some r →
    stop_of rule (lines ++ x ∷ []) ≡ Some (length lines + 1, r)
unfolding stop_of
stop_at rule lines x r h e = stop_after_push rule [] lines x h ∙ ap (λ o. option_map_or (λ q. Some (length lines + 1, q)) o None) e

pub in_force_at : (rule : Rule) (lines : Lines) (x : Text) (r : Halt) → stop_of rule lines ≡ None → rule lines x ≡ Some r →
    in_force rule (lines ++ x ∷ []) ≡ lines
unfolding stop_of in_force
in_force_at rule lines x r h e = in_force_after_push rule [] lines x h ∙ ap (λ o. lines ++ cond (is_some o) [] (x ∷ [])) e ∙ append-nil lines

-- one more line, which does not
pub stop_none : (rule : Rule) (lines : Lines) (x : Text) → stop_of rule lines ≡ None → rule lines x ≡ None →
    stop_of rule (lines ++ x ∷ []) ≡ None
unfolding stop_of
stop_none rule lines x h e = stop_after_push rule [] lines x h ∙ ap (λ o. option_map_or (λ q. Some (length lines + 1, q)) o None) e

pub in_force_more : (rule : Rule) (lines : Lines) (x : Text) → stop_of rule lines ≡ None → rule lines x ≡ None →
    in_force rule (lines ++ x ∷ []) ≡ lines ++ x ∷ []
unfolding stop_of in_force
in_force_more rule lines x h e = in_force_after_push rule [] lines x h ∙ ap (λ o. lines ++ cond (is_some o) [] (x ∷ [])) e

-- behind a stop nothing changes
pub stop_stays : (rule : Rule) (lines : Lines) (x : Text) (t : ℕ × Halt) → stop_of rule lines ≡ Some t →
    stop_of rule (lines ++ x ∷ []) ≡ Some t
unfolding stop_of
stop_stays rule lines x t h = (stop_after_stays rule [] lines x t h).0

pub in_force_stays : (rule : Rule) (lines : Lines) (x : Text) (t : ℕ × Halt) → stop_of rule lines ≡ Some t →
    in_force rule (lines ++ x ∷ []) ≡ in_force rule lines
unfolding stop_of in_force
in_force_stays rule lines x t h = (stop_after_stays rule [] lines x t h).1

-- a stop comes one line behind those in force
pub stop_number : (rule : Rule) (lines : Lines) (n : ℕ) (r : Halt) → stop_of rule lines ≡ Some (n, r) → length (in_force rule lines) + 1 ≡ n
unfolding stop_of in_force
stop_number rule lines n r h = let e = stop_after_number rule [] lines n r h in omega arith

stops_short : (o : Option Halt) (n : ℕ) (line : Text) (lines rest : Lines) (later : Option (ℕ × Halt)) (t : ℕ × Halt) →
    (later ≡ Some t → length rest + 1 ≤ length lines) → option_map_or (λ q. Some (n, q)) o later ≡ Some t →
    length (cond (is_some o) [] (line ∷ rest)) + 1 ≤ length (line ∷ lines)
stops_short None n line lines rest later t shorter h = let k = shorter h in omega arith
stops_short (Some r) n line lines rest later t shorter h = omega arith

in_force_after-le : (rule : Rule) (before lines : Lines) (t : ℕ × Halt) → stop_after rule before lines ≡ Some t → length (in_force_after rule before lines) + 1 ≤ length lines
in_force_after-le rule before [] t h = cc
in_force_after-le rule before (line ∷ lines) t h =
    stops_short (rule before line) (length before + 1) line lines (in_force_after rule (before ++ line ∷ []) lines) (stop_after rule (before ++ line ∷ []) lines) t
    (λ e. in_force_after-le rule (before ++ line ∷ []) lines t e) h

-- a list stops at one of its lines
pub stop_within : (rule : Rule) (lines : Lines) (n : ℕ) (r : Halt) → stop_of rule lines ≡ Some (n, r) → n ≤ length lines
unfolding stop_of in_force
stop_within rule lines n r h = let e = stop_number rule lines n r h in let below = in_force_after-le rule [] lines (n, r) h in omega arith
