use Rattle.std.proofs.Common.{◌≡◌, ◌≢◌, ◌+◌, ◌∷◌, [], ◌++◌, Bool, true, false, not, nat_eq, refl, sym, ap, ◌∙◌, arith, length-append}
use Rattle.std.specs.Cmp.Lexicographic.{other_text, pointwise, same_text}
use Rattle.house_base.specs.Text.{Text}
use Rattle.audit_chain.specs.File.{rows}
use Rattle.replay_check.proofs.RowLemmas.{front_is_whole, no_more_rows, one_more_row, row_joins}
use Rattle.replay_check.proofs.differ.first_difference.Goals as goal

told_other : (one other : Text) → true ≡ not (pointwise nat_eq one other) → one ≢ other
told_other one other h = other_text one other (by (pointwise nat_eq one other) h)
  where
    by : (b : Bool) → true ≡ not b → false ≡ b
    by false h = refl
    by true h = absurd (let wrong : ⊥ = cc in wrong)

told_same : (one other : Text) → false ≡ not (pointwise nat_eq one other) → one ≡ other
told_same one other h = same_text one other (by (pointwise nat_eq one other) h)
  where
    by : (b : Bool) → false ≡ not b → true ≡ b
    by true h = refl
    by false h = absurd (let wrong : ⊥ = cc in wrong)

pub returns-in_default-first_row : goal.returns-in_default-first_row
returns-in_default-first_row c = λ long.
    let l = c.loop-kept_row in
    let all = rows c.args.right.now in
    let whole = no_more_rows all l.invariant.before l.right_rest.now l.invariant.in_right c.in_default-first_row.ensures.none in
    sym (front_is_whole all (rows c.args.kept.now) l.invariant.before l.kept_rest.now whole l.invariant.in_kept (sym long))

pub returns-then-ne : goal.returns-then-ne
returns-then-ne c =
    let l = c.loop-kept_row in record {
      before = l.invariant.before;
      kept_behind = rows c.in-Some.kept_behind.now;
      right_behind = rows c.in-Some-first_row.right_behind.now;
      in_kept = one_more_row (rows c.args.kept.now) l.invariant.before l.kept_rest.now c.in-Some.kept_row.now c.in-Some.kept_behind.now l.invariant.in_kept c.in-Some.ensures.found;
      in_right = one_more_row (rows c.args.right.now) l.invariant.before l.right_rest.now c.in-Some-first_row.right_row.now c.in-Some-first_row.right_behind.now l.invariant.in_right c.in-Some-first_row.ensures.found;
      number_is = l.invariant.number_is;
      differ = told_other c.in-Some.kept_row.now c.in-Some-first_row.right_row.now (sym c.if-ne.true ∙ c.ne.ensures);
    }

pub loop-kept_row-preserved : goal.loop-kept_row-preserved
loop-kept_row-preserved c =
    let l = c.loop-kept_row in
    let row = c.in-Some.kept_row.now in
    let kept = one_more_row (rows c.args.kept.now) l.invariant.before l.kept_rest.now row c.in-Some.kept_behind.now l.invariant.in_kept c.in-Some.ensures.found in
    let right = one_more_row (rows c.args.right.now) l.invariant.before l.right_rest.now c.in-Some-first_row.right_row.now c.in-Some-first_row.right_behind.now l.invariant.in_right c.in-Some-first_row.ensures.found in
    let same : c.in-Some-first_row.right_row.now ≡ row = sym (told_same row c.in-Some-first_row.right_row.now (sym c.if-ne.false ∙ c.ne.ensures)) in
    record {
      before = l.invariant.before ++ row ∷ [];
      in_kept = row_joins (rows c.args.kept.now) l.invariant.before row (rows c.in-Some.kept_behind.now) kept;
      in_right = row_joins (rows c.args.right.now) l.invariant.before row (rows c.in-Some-first_row.right_behind.now)
          (right ∙ ap (λ r. l.invariant.before ++ r ∷ rows c.in-Some-first_row.right_behind.now) same);
      number_is = ap (λ n. n + 1) l.invariant.number_is ∙ ap (λ n. n + 1) (sym (length-append l.invariant.before (row ∷ [])));
      short = let shorter = c.in-Some.ensures.shorter in let before = l.invariant.short in omega (arith, shorter, before);
    }

pub returns : goal.returns
returns c = λ long.
    let l = c.loop-kept_row in
    let all = rows c.args.kept.now in
    let whole = no_more_rows all l.invariant.before l.kept_rest.now l.invariant.in_kept c.in_default.ensures.none in
    front_is_whole all (rows c.args.right.now) l.invariant.before l.right_rest.now whole l.invariant.in_right long
