-- What a piece more of an input comes to.
use Rattle.std.proofs.Common.{◌≡◌, ◌≢◌, ℕ, ◌+◌, ◌-◌, ◌<◌, ◌≤◌, [], ◌++◌, length, take, sym, ap, ◌∙◌, subst, append-nil}
use Rattle.std.specs.Prelude.{Option, None, Some, Ok, Err, IfSome, IsSomeAnd}
use Rattle.std.specs.Io.KnownBytes.{IsAtEnd}
use Rattle.house_base.specs.Text.{Text}
use Rattle.house_io.specs.Source.{Takes}
use Rattle.house_model.specs.declared.goal.Goal.{Goal}
use Rattle.house_model.specs.declared.limits.TheConstants.{MOST_BYTES, MOST_LINES}
use Rattle.house_model.specs.Text.{Lines, lines}
use Rattle.input_run.proofs.DecidedLemmas.{ended_decides, over_decides}
use Rattle.input_run.proofs.FrontLemmas.{within-limits}
use Rattle.input_run.proofs.InputLemmas.{ended_told, few_lines, fewer_left, no_further-none, no_further-piece, over_told, taken_more, taken_none, undecided}
use Rattle.input_run.specs.declared.fault.InputFault.TheVariants as fault
use Rattle.input_run.specs.declared.hearing.Hearing.{Hearing}
use Rattle.input_run.specs.declared.hearing.Progress.TheVariants as progress
use Rattle.input_run.specs.declared.input.Heard.TheVariants as what
use Rattle.input_run.specs.declared.line_run.LineRun.{LineRun}
use Rattle.input_run.specs.declared.piece.HearingEnd.{HearingEnd}
use Rattle.input_run.specs.declared.piece.HearingEnd.TheVariants as end
use Rattle.input_run.specs.Hearing.{HasHeard, HasLines, HearsPiece, HearsWhereTold, TellsEnd}
use Rattle.input_run.specs.Input.{DecidedWhereTold, EndsWhereTold, NoFurtherWhereTold, TakesWhereTold, most_at_once}
use Rattle.input_run.specs.Piece.{EndsHearing, HasHeardAll, HearsMore, TakesInput}

-- A piece in a buffer that was taken behind what was heard.

taken_now : (g : Goal) (opening : Lines) (first middle last : Option Text) (buffer : Text) (count : ℕ) (old : Hearing) (heard : HasHeardAll g opening first middle old) →
    IfSome middle (λ before. Takes count before last buffer) → TakesWhereTold first last (heard.0 ++ take count buffer)
taken_now g opening first middle last buffer count old heard takes = taken_more first middle last heard.0 buffer count heard.1 takes

none_further : (g : Goal) (opening : Lines) (first middle last : Option Text) (buffer : Text) (count : ℕ) (old : Hearing) → HasHeardAll g opening first middle old →
    IfSome middle (λ before. Takes count before last buffer) → length buffer ≡ most_at_once → NoFurtherWhereTold g opening first last
none_further g opening first middle last buffer count old heard takes holds = no_further-piece g opening first middle last heard.0 buffer count old heard.1 takes holds heard.2

pub piece_going : (g : Goal) (opening : Lines) (first middle last : Option Text) (buffer : Text) (count : ℕ) (old new : Hearing) (heard : HasHeardAll g opening first middle old) →
    IfSome middle (λ before. Takes count before last buffer) → length buffer ≡ most_at_once → count ≢ 0 → count ≤ length buffer →
    HasHeard g opening (heard.0 ++ take count buffer) new → TakesInput g opening first last (Ok None) (HearsMore g opening first last old new)
piece_going g opening first middle last buffer count old new heard takes holds some within hears = record {
  has = ((heard.0 ++ take count buffer, taken_now g opening first middle last buffer count old heard takes, hears), fewer_left g opening heard.0 buffer count old new heard.2 hears some within);
  undecided = λ failed. absurd (let wrong : ⊥ = cc in wrong);
  no_further = none_further g opening first middle last buffer count old heard takes holds;
}

pub piece_ended : (g : Goal) (opening : Lines) (first middle last : Option Text) (buffer : Text) (count : ℕ) (old new : Hearing) (heard : HasHeardAll g opening first middle old) →
    IfSome middle (λ before. Takes count before last buffer) → length buffer ≡ most_at_once →
    HearsPiece g opening heard.0 (take count buffer) progress.Ended new → TakesInput g opening first last (Ok (Some end.Ended)) (HearsMore g opening first last old new)
piece_ended g opening first middle last buffer count old new heard takes holds (front, behind, parts, ended) =
    let taken = taken_now g opening first middle last buffer count old heard takes in
    record {
      has = (
        ended_told g opening first last heard.0 (take count buffer) front behind new.run taken parts ended,
        ended_decides g opening first last heard.0 (take count buffer) front behind new.run taken parts ended,
      );
      undecided = λ failed. absurd (let wrong : ⊥ = cc in wrong);
      no_further = none_further g opening first middle last buffer count old heard takes holds;
    }

pub piece_over : (g : Goal) (opening : Lines) (first middle last : Option Text) (buffer : Text) (count : ℕ) (old new : Hearing) (heard : HasHeardAll g opening first middle old) →
    IfSome middle (λ before. Takes count before last buffer) → length buffer ≡ most_at_once →
    HearsPiece g opening heard.0 (take count buffer) progress.Over new → TakesInput g opening first last (Ok (Some end.Over)) (HearsMore g opening first last old new)
piece_over g opening first middle last buffer count old new heard takes holds (front, behind, parts, some, full) =
    let taken = taken_now g opening first middle last buffer count old heard takes in
    record {
      has = (
        over_told g opening first last heard.0 (take count buffer) front behind taken parts some full,
        over_decides g opening first last heard.0 (take count buffer) front behind taken parts some full,
      );
      undecided = λ failed. absurd (let wrong : ⊥ = cc in wrong);
      no_further = none_further g opening first middle last buffer count old heard takes holds;
    }

pub piece_memory : (g : Goal) (opening : Lines) (first middle last : Option Text) (buffer : Text) (count : ℕ) (old new : Hearing) → HasHeardAll g opening first middle old →
    IfSome middle (λ before. Takes count before last buffer) → length buffer ≡ most_at_once → TakesInput g opening first last (Err fault.Memory) (HearsMore g opening first last old new)
piece_memory g opening first middle last buffer count old new heard takes holds = record {
  has = tt;
  undecided = λ failed. absurd (let wrong : ⊥ = cc in wrong);
  no_further = none_further g opening first middle last buffer count old heard takes holds;
}

-- The source has failed.
pub piece_failed : (g : Goal) (opening : Lines) (first middle last : Option Text) (old : Hearing) → HasHeardAll g opening first middle old → last ≡ middle →
    TakesInput g opening first last (Err fault.Failed) (HearsMore g opening first last old old)
piece_failed g opening first middle last old heard same = record {
  has = tt;
  undecided = λ failed. undecided g opening first middle last heard.0 old heard.1 same heard.2;
  no_further = no_further-none g opening first middle last heard.0 old heard.1 same heard.2;
}

-- The input is at its end.

ends_told : (first middle last : Option Text) (bytes buffer : Text) → TakesWhereTold first middle bytes → IsAtEnd middle → IfSome middle (λ before. Takes 0 before last buffer) → EndsWhereTold first last
ends_told None middle last bytes buffer taken at_end takes = tt
ends_told (Some input) None last bytes buffer taken at_end takes = absurd taken
ends_told (Some input) (Some rest) last bytes buffer taken at_end takes =
    let none : rest ≡ [] = at_end in
    subst (λ last. IsSomeAnd last (λ rest. rest ≡ [])) (sym takes.rest) none

pub piece_end : (g : Goal) (opening : Lines) (first middle last : Option Text) (buffer : Text) (count : ℕ) (old : Hearing) (heard : HasHeardAll g opening first middle old) →
    IfSome middle (λ before. Takes count before last buffer) → length buffer ≡ most_at_once → count ≡ 0 → IsAtEnd middle → TakesInput g opening first last (Ok (Some end.AtEnd)) (HearsMore g opening first last old old)
piece_end g opening first middle last buffer count old heard takes holds none at_end =
    let takes_none : IfSome middle (λ before. Takes 0 before last buffer) = subst (λ n. IfSome middle (λ before. Takes n before last buffer)) none takes in
    record {
      has = (
        (heard.0, subst (TakesWhereTold first last) (append-nil heard.0) (taken_more first middle last heard.0 buffer 0 heard.1 takes_none), heard.2),
        ends_told first middle last heard.0 buffer heard.1 at_end takes_none,
      );
      undecided = λ failed. absurd (let wrong : ⊥ = cc in wrong);
      no_further = none_further g opening first middle last buffer count old heard takes holds;
    }

-- The end of an input, told by the lines that its run has then.
pub end_told : (g : Goal) (opening : Lines) (first last : Option Text) (bytes : Text) (run : LineRun) (lines : Lines) → TakesWhereTold first last bytes → EndsWhereTold first last →
    HasLines g lines run → length lines ≤ length opening + MOST_LINES → TellsEnd g opening bytes [] lines → HearsWhereTold g opening first last (what.Lines run)
end_told g opening first last bytes run lines taken ends has few tells = (lines, has, few, go first last taken ends)
  where
    go : (first last : Option Text) → TakesWhereTold first last bytes → EndsWhereTold first last → IfSome first (λ input. IsSomeAnd last (λ rest. TellsEnd g opening input rest lines))
    go None last taken ends = tt
    go (Some input) None taken ends = absurd taken
    go (Some input) (Some rest) taken ends =
        let none : rest ≡ [] = ends in
        let all : input ≡ bytes = taken ∙ ap (λ r. bytes ++ r) none ∙ append-nil bytes in
        subst (λ r. TellsEnd g opening input r lines) (sym none) (subst (λ i. TellsEnd g opening i [] lines) (sym all) tells)

-- the same of an input that a run has heard
pub heard_end : (g : Goal) (opening : Lines) (first last : Option Text) (h : Hearing) (run : LineRun) (all : HasHeardAll g opening first last h) → EndsWhereTold first last →
    HasLines g (opening ++ lines all.0) run → TellsEnd g opening all.0 [] (opening ++ lines all.0) → HearsWhereTold g opening first last (what.Lines run)
heard_end g opening first last h run all ends has tells =
    end_told g opening first last all.0 run (opening ++ lines all.0) all.1 ends has (few_lines opening (lines all.0) (within-limits all.0 all.2.within).1) tells

pub end_decides : (g : Goal) (opening : Lines) (first last : Option Text) → EndsWhereTold first last → DecidedWhereTold g opening first last
end_decides g opening None last ends = tt
end_decides g opening (Some input) None ends = absurd ends
end_decides g opening (Some input) (Some rest) ends = λ some. absurd (some ends)

-- With a piece more a run goes on, or it does not.

pub no_more : (g : Goal) (opening : Lines) (first last : Option Text) (old new : Hearing) (o : Option HearingEnd) (why : HearingEnd) → o ≡ Some why → TakesInput g opening first last (Ok o) (HearsMore g opening first last old new) →
    TakesInput g opening first last (Ok why) (EndsHearing g opening first last new)
no_more g opening first last old new o why is takes = by_option (subst (λ o. TakesInput g opening first last (Ok o) (HearsMore g opening first last old new)) is takes)
  where
    by_option : TakesInput g opening first last (Ok (Some why)) (HearsMore g opening first last old new) → TakesInput g opening first last (Ok why) (EndsHearing g opening first last new)
    by_option takes = record { has = takes.has; undecided = λ failed. absurd (let wrong : ⊥ = cc in wrong); no_further = takes.no_further }

pub more_heard : (g : Goal) (opening : Lines) (first last : Option Text) (old new : Hearing) (o : Option HearingEnd) → o ≡ None → TakesInput g opening first last (Ok o) (HearsMore g opening first last old new) →
    HasHeardAll g opening first last new × (MOST_BYTES - new.bytes < MOST_BYTES - old.bytes)
more_heard g opening first last old new o is takes = subst (HearsMore g opening first last old new) is takes.has

-- Why an input is heard no more.

pub at_end : (g : Goal) (opening : Lines) (first last : Option Text) (h : Hearing) (why : HearingEnd) → why ≡ end.AtEnd → TakesInput g opening first last (Ok why) (EndsHearing g opening first last h) →
    HasHeardAll g opening first last h × EndsWhereTold first last
at_end g opening first last h why is takes = subst (EndsHearing g opening first last h) is takes.has

pub by_line : (g : Goal) (opening : Lines) (first last : Option Text) (h : Hearing) (why : HearingEnd) → why ≡ end.Ended → TakesInput g opening first last (Ok why) (EndsHearing g opening first last h) →
    HearsWhereTold g opening first last (what.Lines h.run) × DecidedWhereTold g opening first last
by_line g opening first last h why is takes = subst (EndsHearing g opening first last h) is takes.has

pub by_limit : (g : Goal) (opening : Lines) (first last : Option Text) (h : Hearing) (why : HearingEnd) → why ≡ end.Over → TakesInput g opening first last (Ok why) (EndsHearing g opening first last h) →
    HearsWhereTold g opening first last what.TooLong × DecidedWhereTold g opening first last
by_limit g opening first last h why is takes = subst (EndsHearing g opening first last h) is takes.has

-- a run that has heard nothing of its input
pub none_heard : (g : Goal) (opening : Lines) (left : Option Text) (h : Hearing) → HasHeard g opening [] h → HasHeardAll g opening left left h
none_heard g opening left h hears = ([], taken_none left, hears)
