-- What lines tell of an input.
use Rattle.std.proofs.Common.{◌≡◌, ◌<◌, Bool, true, false, not, cond, ◌&&◌, [], ◌++◌, length, Option, Some, None, refl, sym, ap, ◌∙◌, append_assoc}
use Rattle.input_run.specs.declared.line_run.LineRun.{LineRun}
use Rattle.house_base.specs.Text.{Text}
use Rattle.house_model.specs.declared.goal.Goal.{Goal}
use Rattle.house_model.specs.Ending.{Ended}
use Rattle.house_model.specs.Heard.{heard, is_over, whole_lines}
use Rattle.house_model.specs.Outcome.{outcome}
use Rattle.house_model.specs.Runs.{end_of, ends_run, taken}
use Rattle.house_model.specs.Text.{Lines, lines}
use Rattle.input_run.proofs.EndLemmas.{ends_alike, goes_on}
use Rattle.input_run.proofs.FrontLemmas.{heard-front, heard-full, heard_within, over-full}
use Rattle.input_run.specs.Hearing.{HasEnded, IsFull, TellsEnd}

pub outcome_by : (g : Goal) (opening : Lines) (input : Text) (over ends : Bool) → is_over input ≡ over → ends_run g (opening ++ heard input) ≡ ends →
    outcome g opening input ≡ cond (over && not ends) None (Some (end_of g (opening ++ heard input)))
unfolding outcome
outcome_by g opening input over ends h e =
    ap (λ b. cond (b && not (ends_run g (opening ++ heard input))) None (Some (end_of g (opening ++ heard input)))) h
    ∙ ap (λ b. cond (over && not b) None (Some (end_of g (opening ++ heard input)))) e

-- a line that ends the run is told before the limits
pub never_over : (over : Bool) (d e : Option Ended) → cond (over && not true) d e ≡ e
never_over true d e = refl
never_over false d e = refl

-- a line that ends a run tells how it ends
pub tells_ended : (g : Goal) (opening : Lines) (bytes behind rest : Text) (run : LineRun) → HasEnded g opening bytes run → TellsEnd g opening (bytes ++ behind) rest (opening ++ whole_lines bytes)
tells_ended g opening bytes behind rest run ended =
    let front = heard-front bytes behind ended.within in
    let parts : opening ++ heard (bytes ++ behind) ≡ (opening ++ whole_lines bytes) ++ front.more =
    ap (λ ls. opening ++ ls) front.parts ∙ sym (append_assoc opening (whole_lines bytes) front.more) in
    let alike = ends_alike g (opening ++ whole_lines bytes) front.more ended.lines.looked ended.ends in
    record {
      due = outcome_by g opening (bytes ++ behind) (is_over (bytes ++ behind)) true refl (ap (ends_run g) parts ∙ alike.ends)
          ∙ never_over (is_over (bytes ++ behind)) None (Some (end_of g (opening ++ heard (bytes ++ behind))))
          ∙ ap Some (ap (end_of g) parts ∙ alike.same_end);
      same_lines = ap (taken g) parts ∙ alike.same_lines;
      all = λ goes. absurd (let wrong : true ≡ false = sym ended.ends ∙ goes in cc);
    }

-- all lines of an input within its limits tell how a run ends
pub tells_all : (g : Goal) (opening : Lines) (bytes : Text) → is_over bytes ≡ false → TellsEnd g opening bytes [] (opening ++ lines bytes)
tells_all g opening bytes within =
    let all : opening ++ heard bytes ≡ opening ++ lines bytes = ap (λ ls. opening ++ ls) (heard_within bytes within) in
    record {
      due = outcome_by g opening bytes false (ends_run g (opening ++ heard bytes)) within refl ∙ ap (λ ls. Some (end_of g ls)) all;
      same_lines = ap (taken g) all;
      all = λ goes. (refl, within, all);
    }

-- an input with bytes behind all that it has room for is too long
pub too_long : (g : Goal) (opening : Lines) (bytes behind : Text) → IsFull g opening bytes → 0 < length behind → outcome g opening (bytes ++ behind) ≡ None
too_long g opening bytes behind full some =
    outcome_by g opening (bytes ++ behind) true false (over-full bytes behind full.full some)
    (ap (λ ls. ends_run g (opening ++ ls)) (heard-full bytes behind full.within full.full some) ∙ goes_on g (opening ++ whole_lines bytes) full.go_on)
