-- What comes of a call file and a register.
use Rattle.std.specs.Prelude.{◌≡◌, ◌+◌, ◌-◌, ◌^◌, ◌<◌, Result, Ok, Err, length}
use Rattle.house_model.specs.declared.limits.TheConstants.{MOST_LINES}
use Rattle.house_model.specs.Text.{Lines}
use Rattle.house_top.specs.declared.bad.Bad.{Bad}
use Rattle.house_top.specs.declared.bad.Bad.TheVariants as bad
use Rattle.house_top.specs.declared.opening.Opened.{Opened}
use Rattle.house_top.specs.declared.opening.Opened.TheVariants as opened
use Rattle.house_top.specs.declared.status.Status.{Status}
use Rattle.house_top.specs.declared.status.Status.TheVariants as status

-- the files come to these opening lines, or to a status without a run
abbrev pub IsOpened : Result Lines Status → Opened → Type 0
IsOpened opening (opened.Lines lines) = opening ≡ Ok lines
IsOpened opening (opened.Bad why) = opening ≡ Err (status.BadFile why)
IsOpened opening opened.TooLong = opening ≡ Err status.TooLong

-- opening lines and those of an input behind them can be counted
abbrev pub HasFewLines : Opened → Type 0
HasFewLines (opened.Lines lines) = length lines + MOST_LINES < 2 ^ 64 - 1
HasFewLines (opened.Bad why) = Unit {0}
HasFewLines opened.TooLong = Unit {0}

-- a call file or a register can be refused for this
abbrev pub OpensNone : Bad → Type 0
OpensNone bad.Toml = Unit {0}
OpensNone (bad.Key key) = Unit {0}
OpensNone (bad.Entry number) = Unit {0}
OpensNone (bad.Slip line) = ⊥
OpensNone (bad.Row row) = ⊥
OpensNone (bad.Desk file line) = ⊥
OpensNone (bad.Leave line reason) = ⊥

-- where files open no run, it is for a fault that they can have
abbrev pub IsBadOpening : Opened → Type 0
IsBadOpening (opened.Bad why) = OpensNone why
IsBadOpening o = Unit {0}
