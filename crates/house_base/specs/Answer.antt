use Rattle.std.specs.Prelude.{ℕ, ◌+◌, ◌-◌, ◌^◌, List, Option, Some, None, min, codes}
use Rattle.house_base.specs.declared.answer.Asides.{Asides}
use Rattle.house_base.specs.declared.answer.Kind.{Kind}
use Rattle.house_base.specs.declared.answer.Kind.TheVariants as kind
use Rattle.house_base.specs.declared.answer.Reason.{Reason}
use Rattle.house_base.specs.declared.answer.Reason.TheVariants as reason
use Rattle.house_base.specs.declared.answer.Took.{Took}
use Rattle.house_base.specs.declared.answer.Took.TheVariants as took

-- the word of a reason
abbrev pub reason_word : Reason → List ℕ
reason_word reason.NoCall = codes "no-call"
reason_word reason.Order = codes "order"
reason_word reason.Form = codes "form"
reason_word reason.Name = codes "name"
reason_word reason.Range = codes "range"
reason_word reason.Known = codes "known"
reason_word reason.Unknown = codes "unknown"
reason_word reason.TooMany = codes "too-many"
reason_word reason.Seal = codes "seal"
reason_word reason.Few = codes "few"
reason_word reason.Unplaced = codes "unplaced"
reason_word reason.Invalid = codes "invalid"
reason_word reason.Unfinished = codes "unfinished"

-- one more, up to the greatest number of 64 bits
abbrev pub raised : ℕ → ℕ
raised n = min (n + 1) (2 ^ 64 - 1)

-- the counts with one more line of a kind
abbrev pub counted : Asides → Kind → Asides
counted asides kind.Form = record asides { form = raised asides.form }
counted asides kind.Early = record asides { early = raised asides.early }
counted asides kind.Late = record asides { late = raised asides.late }
counted asides kind.Unknown = record asides { unknown = raised asides.unknown }
counted asides kind.Unassigned = record asides { unassigned = raised asides.unassigned }
counted asides kind.Range = record asides { range = raised asides.range }

-- what becomes of a line that is set aside under a kind, or under none
abbrev pub took_as : Option Kind → Took
took_as None = took.Kept
took_as (Some k) = took.Aside k
