-- The lines that a run takes before its input.
use Rattle.std.proofs.Common.{◌≡◌, ℕ, ◌+◌, ◌-◌, ◌^◌, ◌<◌, [], ◌∷◌, ◌++◌, Some, true, length, take, drop, slice_get, sym, ap, ◌∙◌, subst, arith, take-append-drop}
use Rattle.std.proofs.Math.Seq.{take-length}
use Rattle.std.proofs.lemmas.List.{length-take-le, take_more}
use Rattle.std.proofs.lemmas.Option.{get_or_from_slice_get, slice_get_within}
use Rattle.input_run.specs.declared.line_run.LineRun.{LineRun}
use Rattle.input_run.specs.Kept.{HasTaken}
use Rattle.house_base.specs.Text.{Text}
use Rattle.house_model.specs.declared.goal.Goal.{Goal}
use Rattle.house_model.specs.declared.limits.TheConstants.{MOST_LINES}
use Rattle.house_model.specs.Runs.{ends_run}
use Rattle.house_model.specs.Text.{Lines}
use Rattle.input_run.specs.Hearing.{EndsWith, GoOn, HasLines, HasOpened}

pub one_more : (lines : Lines) (n : ℕ) (x : Text) → slice_get lines n ≡ Some x → take (n + 1) lines ≡ take n lines ++ x ∷ []
one_more lines n x at = take_more lines n x (slice_get_within lines n x at) ∙ ap (λ y. take n lines ++ y ∷ []) (get_or_from_slice_get lines n x x at)

pub few_lines : (lines : Lines) (n : ℕ) → n < length lines → length lines + MOST_LINES < 2 ^ 64 - 1 → length (take n lines) < 2 ^ 64 - 1
few_lines lines n within few = omega (arith, length-take-le n lines (omega (arith, within)), within, few)

pub taken_all : (g : Goal) (lines : Lines) (n : ℕ) (run : LineRun) → n ≡ length lines → length lines + MOST_LINES < 2 ^ 64 - 1 →
    HasTaken g (take n lines) run × GoOn g (take n lines) → HasOpened g lines run
taken_all g lines n run all few taken =
    let whole : take n lines ≡ lines = ap (λ n. take n lines) all ∙ take-length lines in
    record { taken = subst (λ ls. HasTaken g ls run) whole taken.0; go_on = subst (GoOn g) whole taken.1; few = few }

-- the line that ends the run is the last that was taken
pub ended_at : (g : Goal) (lines : Lines) (n : ℕ) (x : Text) (run : LineRun) → slice_get lines n ≡ Some x → n < length lines → length lines + MOST_LINES < 2 ^ 64 - 1 →
    EndsWith g (take n lines ++ x ∷ []) run →
    (front behind : Lines) × (lines ≡ front ++ behind) × HasLines g front run × (ends_run g front ≡ true)
ended_at g lines n x run at within few ends =
    let more = one_more lines n x at in (
      take (n + 1) lines,
      drop (n + 1) lines,
      sym (take-append-drop (n + 1) lines),
      subst (λ ls. HasLines g ls run) (sym more) (record {
        taken = ends.taken;
        few = subst (λ ls. length ls < 2 ^ 64 - 1) more (omega (arith, few, length-take-le (n + 1) lines (omega (arith, within)), within));
        looked = ends.looked;
        clear = ends.clear;
      }),
      ap (ends_run g) more ∙ ends.ends,
    )
