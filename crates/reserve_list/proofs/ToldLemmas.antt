-- The lines of a whole call and a file of withdrawals.
use Rattle.std.proofs.Common.{◌≡◌, ℕ, ◌<◌, ◌≤◌, ◌++◌, false, Option, Some, None, refl, sym, ap, ◌∙◌, arith}
use Rattle.std.specs.Prelude.{Result, Ok, Err}
use Rattle.std.specs.Option.{option_map_or}
use Rattle.std.proofs.lemmas.Bool.{false≢true}
use Rattle.house_base.specs.declared.answer.Reason.{Reason}
use Rattle.house_base.specs.Setting.{size}
use Rattle.house_base.specs.Text.{Text}
use Rattle.house_model.specs.declared.goal.Goal.TheVariants as goal
use Rattle.house_model.specs.Headline.{AreOfCall}
use Rattle.house_model.specs.Isolation.{GiveAssignment}
use Rattle.house_model.specs.Report.{outcome_text, report}
use Rattle.house_model.specs.Reviews.{asides_of, profile}
use Rattle.house_model.specs.Runs.{report_of}
use Rattle.house_model.specs.Said.{draw_of}
use Rattle.house_model.specs.Text.{Lines, lines as lines_of}
use Rattle.peer_selection.specs.Lottery.{chance}
use Rattle.peer_selection.specs.Profile.{Profile}
use Rattle.reserve_list.specs.Board.{fresh_board}
use Rattle.reserve_list.specs.Leaving.{board_text, file_fault, leaving, left_board, moves_text, reserve_text}
use Rattle.reserve_list.specs.Reserve.{Withdrawn, chance_after}
use Rattle.reserve_list.specs.Told.{PassesSeatsOn, outcome_told, places_leaving, reserve_told}
use Rattle.reserve_list.proofs.ChanceLemmas.{chance-more, chance-untouched}
use Rattle.reserve_list.proofs.OutcomeLemmas.{text-of_mechanism}
use Rattle.reserve_list.proofs.OwnLemmas.{chance-own_lines}
use Rattle.reserve_list.proofs.SetLemmas.{after-same}

-- what is told where a file has no fault
faultless : (fault : Option (ℕ × Reason)) (all text : Text) (told : Result Text (ℕ × Reason)) → told ≡ option_map_or (λ f. Err f) fault (Ok all) → told ≡ Ok text → text ≡ all
faultless None all text told e h = cc
faultless (Some f) all text told e h = absurd (cc)

gives : (lines : Lines) → AreOfCall lines → GiveAssignment lines
unfolding profile
gives lines h = record { forms_setting = h.assigned.setting; assigns_validly = h.assigned.valid }

-- who stays has no less than when nobody has withdrawn
chance-no_less : (f : Profile) (gone : Withdrawn) (p : ℕ) → p < size f.setting → gone p ≡ false → chance f p ≤ chance_after f gone p
chance-no_less f gone p l stays =
    let more = chance-more f (λ q. false) gone p (λ q ql never. absurd (false≢true never)) stays in
    omega (arith, more, chance-untouched f (λ q. false) p l (λ q ql e. refl))

pub seats-passed_on : (lines : Lines) (bytes text : Text) → AreOfCall lines → reserve_told bytes lines ≡ Ok text → PassesSeatsOn lines bytes text
unfolding profile report_of report reserve_text
seats-passed_on lines bytes text h told =
    let f = profile lines in
    let o = outcome_told lines in
    let names = leaving (lines_of bytes) in
    let gone = places_leaving bytes lines in
    record {
      printed = faultless (file_fault (fresh_board o) bytes) (outcome_text o ++ (moves_text (fresh_board o) bytes ++ board_text (left_board (fresh_board o) bytes))) text (reserve_told bytes lines) refl told
          ∙ ap (λ t. outcome_text o ++ (moves_text (fresh_board o) bytes ++ t)) (text-of_mechanism f (asides_of goal.Run lines) (draw_of lines) names h.assigned h.drawn);
      no_less = λ p l stays. chance-no_less f gone p l stays;
      untouched = λ p l alone. chance-untouched f gone p l alone;
      any_order = λ other same. sym (after-same (fresh_board o) names (leaving (lines_of other)) same);
      left_out = λ name p own. chance-own_lines name lines gone p p (gives lines h) own own.0 refl;
    }
