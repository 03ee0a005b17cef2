-- Review lines end no run.
use Rattle.std.proofs.Common.{◌≡◌, ◌↔◌, ℕ, ◌+◌, Bool, true, false, not, ◌&&◌, cond, [], ◌∷◌, ◌++◌, length, filter, Option, Some, None, is_some, refl, sym, ap, ◌∙◌, arith, append-nil}
use Rattle.std.specs.Option.{option_map_or, is_none}
use Rattle.std.proofs.lemmas.Bool.{cond_both, cond-true, cond-false, not-false, both_ways, false_from_ne_true}
use Rattle.std.proofs.lemmas.List.Elements.{filter-append}
use Rattle.house_base.specs.declared.answer.Reason.TheVariants as reason
use Rattle.house_base.specs.Text.{Text}
use Rattle.house_model.specs.declared.goal.Goal.{Goal}
use Rattle.house_model.specs.declared.goal.Goal.TheVariants as goal
use Rattle.house_model.specs.declared.verb.Verb.{Verb}
use Rattle.house_model.specs.declared.verb.Verb.TheVariants as verb
use Rattle.house_model.specs.Text.{Lines}
use Rattle.house_model.specs.Verbs.{verb_in, commands, is_house}
use Rattle.house_model.specs.Said.{has, phase_after}
use Rattle.house_model.specs.Faults.{fault, house_fault, lacks_call, out_of_order, comes_again, numbers_are_in_range, breaks_seal, is_unplaced, is_invalid}
use Rattle.house_model.specs.Ending.{Halt, Rule, Ended, ended, halted, unnumbered, stop_after, stop_of, in_force_after, in_force, last_ended, is_drawn}
use Rattle.house_model.specs.Runs.{halt, searches, falls_short, through_assign, looked_at, settles, last_of, end_of, taken}
use Rattle.house_model.specs.Isolation.{HaveSameHouse, IgnoresReviews, is_by, without}
use Rattle.house_model.proofs.HouseLineLemmas.{no_house_other, command_of_house, same-push, same-left, review_other, review_no_house, has-same, phase_after-same, call_number-same, register-same, seal_of-same, setting-same, has_pairs-same, run_pairs-same}
use Rattle.house_model.proofs.IsolationLemmas.{house_not_by, without-house, by_review}

-- How a list of lines ends, but for the number of a line, is told by why it stops, and by how it would end.

abbrev pub why : Option (ℕ × Halt) → Option Halt
why None = None
why (Some s) = Some s.1

abbrev end_by : Option Halt → Ended → Ended
end_by None last = unnumbered last
end_by (Some (Halt.Refused r)) last = Ended.Refused 0 r
end_by (Some Halt.Short) last = Ended.Short

by_why : (stop : Option (ℕ × Halt)) (last : Ended) → unnumbered (option_map_or (λ s. halted s.0 s.1) stop last) ≡ end_by (why stop) last
by_why None last = refl
by_why (Some (n, Halt.Refused r)) last = refl
by_why (Some (n, Halt.Short)) last = refl

by_last : (reasons : Option Halt) (last later : Ended) → unnumbered last ≡ unnumbered later → end_by reasons last ≡ end_by reasons later
by_last None last later h = h
by_last (Some (Halt.Refused r)) last later h = refl
by_last (Some Halt.Short) last later h = refl

end_alike : (stop more : Option (ℕ × Halt)) (last later : Ended) → why stop ≡ why more → unnumbered last ≡ unnumbered later →
    unnumbered (option_map_or (λ s. halted s.0 s.1) stop last) ≡ unnumbered (option_map_or (λ s. halted s.0 s.1) more later)
end_alike stop more last later stops lasts =
    by_why stop last ∙ (ap (λ w. end_by w last) stops ∙ (by_last (why more) last later lasts ∙ sym (by_why more later)))

unnumbered_last : (called drawn : Bool) (n m : ℕ) →
    unnumbered (cond (not called) (Ended.Refused n reason.NoCall) (cond (not drawn) (Ended.Refused n reason.Unfinished) Ended.Done))
    ≡ unnumbered (cond (not called) (Ended.Refused m reason.NoCall) (cond (not drawn) (Ended.Refused m reason.Unfinished) Ended.Done))
unnumbered_last false drawn n m = refl
unnumbered_last true false n m = refl
unnumbered_last true true n m = refl

is_numbered : (e : Ended) → unnumbered e ≡ Ended.Done → e ≡ Ended.Done
is_numbered Ended.Done h = refl
is_numbered (Ended.Refused n r) h = absurd (cc)
is_numbered Ended.Short h = absurd (cc)
is_numbered Ended.Settled h = absurd (cc)

pub done_alike : (e f : Ended) → unnumbered e ≡ unnumbered f → e ≡ Ended.Done → f ≡ Ended.Done
done_alike e f alike done = is_numbered f (sym alike ∙ ap unnumbered done)

none_why : (stop : Option (ℕ × Halt)) → is_none (why stop) ≡ is_none stop
none_why None = refl
none_why (Some s) = refl

done_stop : (stop : Option (ℕ × Halt)) (last : Ended) → option_map_or (λ s. halted s.0 s.1) stop last ≡ Ended.Done → is_none stop ≡ true
done_stop None last h = refl
done_stop (Some (n, Halt.Refused r)) last h = absurd (cc)
done_stop (Some (n, Halt.Short)) last h = absurd (cc)

last_ended-same : (a b : Lines) → HaveSameHouse a b → unnumbered (last_ended a) ≡ unnumbered (last_ended b)
unfolding last_ended
last_ended-same a b same =
    rw (has-same a b same verb.Call (omega arith), phase_after-same a b same)
    (unnumbered_last (has verb.Call b) (is_drawn (phase_after b)) (length a + 1) (length b + 1))

-- Without the lines of one person the same lines are refused.

without-push_kept : (name : Text) (before : Lines) (line : Text) → not (is_by name line) ≡ true → without name (before ++ line ∷ []) ≡ without name before ++ line ∷ []
unfolding without
without-push_kept name before line stays =
    filter-append (λ x. not (is_by name x)) before (line ∷ []) ∙ ap (λ xs. filter (λ x. not (is_by name x)) before ++ xs) (cond-true (not (is_by name line)) (line ∷ []) [] stays)

without-push_own : (name : Text) (before : Lines) (line : Text) → not (is_by name line) ≡ false → without name (before ++ line ∷ []) ≡ without name before
unfolding without
without-push_own name before line goes =
    filter-append (λ x. not (is_by name x)) before (line ∷ [])
    ∙ (ap (λ xs. filter (λ x. not (is_by name x)) before ++ xs) (cond-false (not (is_by name line)) (line ∷ []) [] goes) ∙ append-nil (filter (λ x. not (is_by name x)) before))

why_either : (answer : Option Halt) (n m : ℕ) (rest more : Option (ℕ × Halt)) → why rest ≡ why more →
    why (option_map_or (λ r. Some (n, r)) answer rest) ≡ why (option_map_or (λ r. Some (m, r)) answer more)
why_either (Some x) n m rest more rests = refl
why_either None n m rest more rests = rests

why_by : (answer other : Option Halt) (n m : ℕ) (rest more : Option (ℕ × Halt)) → answer ≡ other → why rest ≡ why more →
    why (option_map_or (λ r. Some (n, r)) answer rest) ≡ why (option_map_or (λ r. Some (m, r)) other more)
why_by answer other n m rest more same rests = ap (λ o. why (option_map_or (λ r. Some (n, r)) o rest)) same ∙ why_either other n m rest more rests

stop_after-without : (rule : Rule) (name : Text) → IgnoresReviews rule → (before lines : Lines) →
    why (stop_after rule (without name before) (without name lines)) ≡ why (stop_after rule before lines)
unfolding without
stop_after-without rule name h before [] = refl
stop_after-without rule name h before (line ∷ lines) =
    cond_both (not (is_by name line)) (line ∷ filter (λ x. not (is_by name x)) lines) (filter (λ x. not (is_by name x)) lines)
    (λ ys. why (stop_after rule (without name before) ys) ≡ why (stop_after rule before (line ∷ lines)))
    (λ stays.
    let rests = ap (λ xs. why (stop_after rule xs (without name lines))) (sym (without-push_kept name before line stays)) ∙ stop_after-without rule name h (before ++ line ∷ []) lines in
    why_by (rule (without name before) line) (rule before line) (length (without name before) + 1) (length before + 1)
    (stop_after rule (without name before ++ line ∷ []) (without name lines)) (stop_after rule (before ++ line ∷ []) lines) (h.same_without name before line) rests)
    (λ goes.
    ap (λ xs. why (stop_after rule xs (without name lines))) (sym (without-push_own name before line goes))
    ∙ (stop_after-without rule name h (before ++ line ∷ []) lines
    ∙ sym (ap (λ o. why (option_map_or (λ r. Some (length before + 1, r)) o (stop_after rule (before ++ line ∷ []) lines)))
    (h.refuses_none before line (by_review name line (not-false (is_by name line) goes))))))

stop_of-without : (rule : Rule) (name : Text) → IgnoresReviews rule → (lines : Lines) → why (stop_of rule (without name lines)) ≡ why (stop_of rule lines)
unfolding stop_of without
stop_of-without rule name h lines = stop_after-without rule name h [] lines

pub ended-without : (rule : Rule) (name : Text) (lines : Lines) → IgnoresReviews rule → unnumbered (ended rule (without name lines)) ≡ unnumbered (ended rule lines)
unfolding ended
ended-without rule name lines h =
    end_alike (stop_of rule (without name lines)) (stop_of rule lines) (last_ended (without name lines)) (last_ended lines)
    (stop_of-without rule name h lines) (last_ended-same (without name lines) lines (without-house name lines))

-- and the same lines are in force

kept_front : (test : Text → Bool) (stops : Bool) (line : Text) (more : Lines) → test line ≡ true →
    filter test (cond stops [] (line ∷ more)) ≡ cond stops [] (line ∷ filter test more)
kept_front test true line more h = refl
kept_front test false line more h = cond-true (test line) (line ∷ filter test more) (filter test more) h

in_force_after-without : (rule : Rule) (name : Text) → IgnoresReviews rule → (before lines : Lines) →
    in_force_after rule (without name before) (without name lines) ≡ without name (in_force_after rule before lines)
unfolding without
in_force_after-without rule name h before [] = refl
in_force_after-without rule name h before (line ∷ lines) =
    let stays_here = λ (x : Text). not (is_by name x) in
    let more = in_force_after rule (before ++ line ∷ []) lines in
    cond_both (not (is_by name line)) (line ∷ filter stays_here lines) (filter stays_here lines)
    (λ ys. in_force_after rule (without name before) ys ≡ without name (in_force_after rule before (line ∷ lines)))
    (λ stays.
    let rests = ap (λ xs. in_force_after rule xs (without name lines)) (sym (without-push_kept name before line stays)) ∙ in_force_after-without rule name h (before ++ line ∷ []) lines in
    ap (λ o. cond (is_some o) [] (line ∷ in_force_after rule (without name before ++ line ∷ []) (without name lines))) (h.same_without name before line)
    ∙ (ap (λ xs. cond (is_some (rule before line)) [] (line ∷ xs)) rests
    ∙ sym (kept_front stays_here (is_some (rule before line)) line more stays)))
    (λ goes.
    ap (λ xs. in_force_after rule xs (without name lines)) (sym (without-push_own name before line goes))
    ∙ (in_force_after-without rule name h (before ++ line ∷ []) lines
    ∙ (sym (cond-false (not (is_by name line)) (line ∷ filter stays_here more) (filter stays_here more) goes)
    ∙ sym (ap (λ o. filter stays_here (cond (is_some o) [] (line ∷ more))) (h.refuses_none before line (by_review name line (not-false (is_by name line) goes)))))))

in_force-without : (rule : Rule) (name : Text) → IgnoresReviews rule → (lines : Lines) → in_force rule (without name lines) ≡ without name (in_force rule lines)
unfolding in_force without
in_force-without rule name h lines = in_force_after-without rule name h [] lines

-- The halt of a line depends on the lines of the house alone.

module _ (a b : Lines) (same : HaveSameHouse a b) where
  comes_again-same : (v : Verb) → comes_again a v ≡ comes_again b v
  comes_again-same verb.Call = has-same a b same verb.Call (omega arith)
  comes_again-same verb.Place = has-same a b same verb.Partition (omega arith)
  comes_again-same verb.Partition = rw (has-same a b same verb.Place (omega arith), has-same a b same verb.Partition (omega arith)) refl
  comes_again-same verb.Seal = has-same a b same verb.Seal (omega arith)
  comes_again-same v = refl

  lacks_call-same : (line : Text) → lacks_call a line ≡ lacks_call b line
  unfolding lacks_call
  lacks_call-same line = rw (has-same a b same verb.Call (omega arith)) refl

  out_of_order-same : (line : Text) → out_of_order a line ≡ out_of_order b line
  unfolding out_of_order
  out_of_order-same line = rw (phase_after-same a b same, comes_again-same (verb_in line)) refl

  numbers-same : (v : Verb) (line : Text) → numbers_are_in_range a v line ≡ numbers_are_in_range b v line
  numbers-same verb.Place line = rw (call_number-same a b same 2) refl
  numbers-same verb.Draw line = rw (register-same a b same) refl
  numbers-same v line = refl

  is_unplaced-same : (v : Verb) → is_unplaced a v ≡ is_unplaced b v
  is_unplaced-same verb.Assign = rw (has-same a b same verb.Partition (omega arith), register-same a b same) refl
  is_unplaced-same v = refl

  is_invalid-same : (g : Goal) (v : Verb) → is_invalid g a v ≡ is_invalid g b v
  is_invalid-same g verb.Assign = rw (has_pairs-same a b same, setting-same a b same, run_pairs-same a b same) refl
  is_invalid-same g v = refl

  searches-same : (g : Goal) → searches g a ≡ searches g b
  searches-same goal.Run = ap not (has_pairs-same a b same)
  searches-same goal.Pairs = ap not (has_pairs-same a b same)
  searches-same goal.Feasible = refl

  falls_short-same : (g : Goal) (v : Verb) → falls_short g a v ≡ falls_short g b v
  falls_short-same g verb.Assign = let one = searches-same g in let other = setting-same a b same in cc
  falls_short-same g v = refl

  breaks_seal-same : (v : Verb) (line : Text) → breaks_seal a v line ≡ breaks_seal b v line
  breaks_seal-same verb.Draw line = rw (seal_of-same a b same) refl
  breaks_seal-same verb.Lottery line = rw (seal_of-same a b same) refl
  breaks_seal-same v line = refl

  house_fault-same : (g : Goal) (line : Text) → house_fault g a line ≡ house_fault g b line
  unfolding house_fault
  house_fault-same g line =
      rw (
        lacks_call-same line,
        out_of_order-same line,
        numbers-same (verb_in line) line,
        register-same a b same,
        breaks_seal-same (verb_in line) line,
        is_unplaced-same (verb_in line),
        is_invalid-same g (verb_in line),
      ) refl

  pub halt-same : (g : Goal) (line : Text) → halt g a line ≡ halt g b line
  unfolding halt fault
  halt-same g line = rw (house_fault-same g line, falls_short-same g (verb_in line)) refl

pub halt-ignores : (g : Goal) → IgnoresReviews (halt g)
unfolding halt fault
halt-ignores g = record {
  refuses_none = λ before line h. rw (review_other line h, review_no_house line h) refl;
  same_without = λ name before line. halt-same (without name before) before (without-house name before) g line;
}

-- The lines that are looked at are those of all that are left.

looked_front : (test : Text → Bool) (last : Bool) (more : Lines) → filter test (cond last [] more) ≡ cond last [] (filter test more)
looked_front test true more = refl
looked_front test false more = refl

-- what keeps each assignment keeps the lines up to the first
through_assign-filter : (test : Text → Bool) → ((line : Text) → commands verb.Assign line ≡ true → test line ≡ true) → (lines : Lines) →
    filter test (through_assign lines) ≡ through_assign (filter test lines)
through_assign-filter test kept [] = refl
through_assign-filter test kept (line ∷ lines) =
    let last = commands verb.Assign line in
    let more = cond last [] (through_assign lines) in
    let rest : filter test more ≡ cond last [] (through_assign (filter test lines)) =
    looked_front test last (through_assign lines) ∙ ap (λ xs. cond last [] xs) (through_assign-filter test kept lines) in
    cond_both (test line) (line ∷ filter test lines) (filter test lines)
    (λ ys. filter test (line ∷ more) ≡ through_assign ys)
    (λ stays. cond-true (test line) (line ∷ filter test more) (filter test more) stays ∙ ap (λ xs. line ∷ xs) rest)
    (λ goes.
    cond-false (test line) (line ∷ filter test more) (filter test more) goes
    ∙ (rest ∙ cond-false last [] (through_assign (filter test lines)) (false_from_ne_true last (λ assigns. both_ways (test line) goes (kept line assigns)))))

looked_at-filter : (g : Goal) (test : Text → Bool) → ((line : Text) → commands verb.Assign line ≡ true → test line ≡ true) → (lines : Lines) →
    filter test (looked_at g lines) ≡ looked_at g (filter test lines)
looked_at-filter goal.Run test kept lines = refl
looked_at-filter goal.Pairs test kept lines = through_assign-filter test kept lines
looked_at-filter goal.Feasible test kept lines = through_assign-filter test kept lines

assign_of_house : (line : Text) → commands verb.Assign line ≡ true → is_house line ≡ true
assign_of_house line h = command_of_house verb.Assign (omega arith) line h

-- lists with the same lines of the house are looked at alike
pub looked_at-house : (g : Goal) (a b : Lines) → HaveSameHouse a b → HaveSameHouse (looked_at g a) (looked_at g b)
looked_at-house g a b same =
    looked_at-filter g is_house assign_of_house a ∙ (ap (looked_at g) same ∙ sym (looked_at-filter g is_house assign_of_house b))

looked_at-without : (g : Goal) (name : Text) (lines : Lines) → looked_at g (without name lines) ≡ without name (looked_at g lines)
unfolding without
looked_at-without g name lines =
    sym (looked_at-filter g (λ line. not (is_by name line)) (λ line assigns. house_not_by name line (assign_of_house line assigns)) lines)

last_of-same : (g : Goal) (a b : Lines) → HaveSameHouse a b → unnumbered (last_of g a) ≡ unnumbered (last_of g b)
last_of-same g a b same =
    rw (has-same a b same verb.Assign (omega arith)) (settled_or (settles g && has verb.Assign b) (last_ended a) (last_ended b) (last_ended-same a b same)) where
      settled_or : (settled : Bool) (last later : Ended) → unnumbered last ≡ unnumbered later → unnumbered (cond settled Ended.Settled last) ≡ unnumbered (cond settled Ended.Settled later)
      settled_or true last later h = refl
      settled_or false last later h = h

-- without the lines of one person a run ends alike, with the same lines taken
pub end_of-without : (g : Goal) (name : Text) (lines : Lines) → unnumbered (end_of g (without name lines)) ≡ unnumbered (end_of g lines)
unfolding end_of
end_of-without g name lines =
    end_alike (stop_of (halt g) (looked_at g (without name lines))) (stop_of (halt g) (looked_at g lines)) (last_of g (without name lines)) (last_of g lines)
    (ap (λ xs. why (stop_of (halt g) xs)) (looked_at-without g name lines) ∙ stop_of-without (halt g) name (halt-ignores g) (looked_at g lines))
    (last_of-same g (without name lines) lines (without-house name lines))

pub done-without : (g : Goal) (name : Text) (lines : Lines) → (end_of g (without name lines) ≡ Ended.Done) ↔ (end_of g lines ≡ Ended.Done)
done-without g name lines =
    let alike = end_of-without g name lines in
    (done_alike (end_of g (without name lines)) (end_of g lines) alike, done_alike (end_of g lines) (end_of g (without name lines)) (sym alike))

pub taken-without : (g : Goal) (name : Text) (lines : Lines) → taken g (without name lines) ≡ without name (taken g lines)
unfolding taken
taken-without g name lines =
    ap (in_force (halt g)) (looked_at-without g name lines) ∙ in_force-without (halt g) name (halt-ignores g) (looked_at g lines)

-- A line that is not of the house ends no run, so a list of lines ends by its lines of the house.

admitted_outside : (g : Goal) (before : Lines) (line : Text) → is_house line ≡ false → halt g before line ≡ None
unfolding halt fault
admitted_outside g before line outside = rw (no_house_other line outside, outside) refl

stop_after-house : (g : Goal) (a b : Lines) → HaveSameHouse a b → (lines : Lines) →
    why (stop_after (halt g) a lines) ≡ why (stop_after (halt g) b (filter is_house lines))
stop_after-house g a b same [] = refl
stop_after-house g a b same (line ∷ lines) =
    cond_both (is_house line) (line ∷ filter is_house lines) (filter is_house lines)
    (λ ys. why (stop_after (halt g) a (line ∷ lines)) ≡ why (stop_after (halt g) b ys))
    (λ inside.
    why_by (halt g a line) (halt g b line) (length a + 1) (length b + 1)
    (stop_after (halt g) (a ++ line ∷ []) lines) (stop_after (halt g) (b ++ line ∷ []) (filter is_house lines))
    (halt-same a b same g line) (stop_after-house g (a ++ line ∷ []) (b ++ line ∷ []) (same-push a b same line) lines))
    (λ outside.
    ap (λ o. why (option_map_or (λ r. Some (length a + 1, r)) o (stop_after (halt g) (a ++ line ∷ []) lines))) (admitted_outside g a line outside)
    ∙ stop_after-house g (a ++ line ∷ []) b (sym (same-left b a (sym same) line outside)) lines)

stop_of-house : (g : Goal) (a b : Lines) → HaveSameHouse a b → why (stop_of (halt g) a) ≡ why (stop_of (halt g) b)
unfolding stop_of
stop_of-house g a b same =
    stop_after-house g [] [] refl a ∙ (ap (λ xs. why (stop_after (halt g) [] xs)) same ∙ sym (stop_after-house g [] [] refl b))

-- lists with the same lines of the house end alike
pub end_of-house : (g : Goal) (a b : Lines) → HaveSameHouse a b → unnumbered (end_of g a) ≡ unnumbered (end_of g b)
unfolding end_of
end_of-house g a b same =
    end_alike (stop_of (halt g) (looked_at g a)) (stop_of (halt g) (looked_at g b)) (last_of g a) (last_of g b)
    (stop_of-house g (looked_at g a) (looked_at g b) (looked_at-house g a b same)) (last_of-same g a b same)

pub done-house : (g : Goal) (a b : Lines) → HaveSameHouse a b → end_of g a ≡ Ended.Done → end_of g b ≡ Ended.Done
done-house g a b same = done_alike (end_of g a) (end_of g b) (end_of-house g a b same)

-- in lines that are done none ends the run before
pub done-admitted : (lines : Lines) → end_of goal.Run lines ≡ Ended.Done → is_none (stop_after (halt goal.Run) [] lines) ≡ true
unfolding end_of stop_of
done-admitted lines done = done_stop (stop_after (halt goal.Run) [] lines) (last_of goal.Run lines) done
