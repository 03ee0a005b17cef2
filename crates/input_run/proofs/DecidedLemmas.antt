-- Where not all of an input was taken, what was taken decides how the run ends.
use Rattle.std.proofs.Common.{◌≡◌, ◌≢◌, ℕ, ◌<◌, ◌||◌, [], ◌∷◌, ◌++◌, length, refl, sym, ap, ◌∙◌, subst, append_assoc, arith}
use Rattle.std.specs.Prelude.{Option, None, Some}
use Rattle.std.proofs.lemmas.Bool.{or_right}
use Rattle.input_run.specs.declared.line_run.LineRun.{LineRun}
use Rattle.house_base.specs.Text.{Text}
use Rattle.house_model.specs.declared.goal.Goal.{Goal}
use Rattle.house_model.specs.Heard.{is_over, whole_lines}
use Rattle.house_model.specs.Runs.{ends_run}
use Rattle.house_model.specs.Text.{Lines}
use Rattle.input_run.proofs.EndLemmas.{ends_alike}
use Rattle.input_run.proofs.FrontLemmas.{over-full, whole-front}
use Rattle.input_run.proofs.InputLemmas.{front_taken}
use Rattle.input_run.specs.Hearing.{HasEnded, IsFull}
use Rattle.input_run.specs.Input.{DecidedWhereTold, IsDecided, TakesWhereTold}

-- a line that ends the run is among the bytes
line_decides : (g : Goal) (opening : Lines) (text behind : Text) (run : LineRun) → HasEnded g opening text run → IsDecided g opening (text ++ behind)
line_decides g opening text behind run ended =
    let front = whole-front text behind in
    let parts : opening ++ whole_lines (text ++ behind) ≡ (opening ++ whole_lines text) ++ front.more =
    ap (λ ls. opening ++ ls) front.parts ∙ sym (append_assoc opening (whole_lines text) front.more) in
    let alike = ends_alike g (opening ++ whole_lines text) front.more ended.lines.looked ended.ends in
    or_right (is_over (text ++ behind)) (ends_run g (opening ++ whole_lines (text ++ behind))) (ap (ends_run g) parts ∙ alike.ends)

-- there are bytes behind as many as an input may have
limit_decides : (g : Goal) (opening : Lines) (text behind : Text) → IsFull g opening text → 0 < length behind → IsDecided g opening (text ++ behind)
limit_decides g opening text behind full some = ap (λ over. over || ends_run g (opening ++ whole_lines (text ++ behind))) (over-full text behind full.full some)

decided : (g : Goal) (opening : Lines) (first last : Option Text) (taken : Text) → TakesWhereTold first last taken → IsDecided g opening taken → DecidedWhereTold g opening first last
decided g opening None last taken told decides = tt
decided g opening (Some input) None taken told decides = absurd told
decided g opening (Some input) (Some rest) taken told decides = λ some. subst (IsDecided g opening) (sym (front_taken input taken rest told)) decides

parts_of : (bytes piece front behind : Text) → piece ≡ front ++ behind → bytes ++ piece ≡ (bytes ++ front) ++ behind
parts_of bytes piece front behind parts = ap (λ p. bytes ++ p) parts ∙ sym (append_assoc bytes front behind)

pub ended_decides : (g : Goal) (opening : Lines) (first last : Option Text) (bytes piece front behind : Text) (run : LineRun) → TakesWhereTold first last (bytes ++ piece) → piece ≡ front ++ behind →
    HasEnded g opening (bytes ++ front) run → DecidedWhereTold g opening first last
ended_decides g opening first last bytes piece front behind run taken parts ended =
    decided g opening first last (bytes ++ piece) taken (subst (IsDecided g opening) (sym (parts_of bytes piece front behind parts)) (line_decides g opening (bytes ++ front) behind run ended))

some_behind : (behind : Text) → behind ≢ [] → 0 < length behind
some_behind [] h = absurd (h refl)
some_behind (x ∷ behind) h = some_more x behind where
  some_more : (x : ℕ) (behind : Text) → 0 < length (x ∷ behind)
  some_more x behind = omega arith

pub over_decides : (g : Goal) (opening : Lines) (first last : Option Text) (bytes piece front behind : Text) → TakesWhereTold first last (bytes ++ piece) → piece ≡ front ++ behind → behind ≢ [] →
    IsFull g opening (bytes ++ front) → DecidedWhereTold g opening first last
over_decides g opening first last bytes piece front behind taken parts some full =
    decided g opening first last (bytes ++ piece) taken (subst (IsDecided g opening) (sym (parts_of bytes piece front behind parts)) (limit_decides g opening (bytes ++ front) behind full (some_behind behind some)))
