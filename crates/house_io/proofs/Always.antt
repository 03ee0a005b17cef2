-- What holds whatever a call answers.
use Rattle.std.proofs.Common.{Result, Ok, Err, IfOk, OnErr}

-- a fact that holds of each value holds of the one that there may be
pub IfOk-always : {T E : Type 0} (answer : Result T E) (P : T → Type 0) → ((value : T) → P value) → IfOk answer P
IfOk-always (Ok value) P holds = holds value
IfOk-always (Err fault) P holds = tt

-- a fact that holds anyway holds after an error
pub OnErr-always : {T E : Type 0} (answer : Result T E) (P : Type 0) → P → OnErr answer P
OnErr-always (Ok value) P holds = tt
OnErr-always (Err fault) P holds = holds
