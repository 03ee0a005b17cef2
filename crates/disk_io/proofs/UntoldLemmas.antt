-- A disk that tells no content: anything may be an image, at each time.
use Rattle.std.proofs.Common.{ℕ, List, Result, Ok, Err, IfOk, OnOk, arith, inl}
use Rattle.disk_io.specs.Disk.{GoesOn, Torn}
use Rattle.disk_io.proofs.ImageLemmas.{torn_itself}

-- any result gives what always holds
pub always : {T E : Type 0} (r : Result T E) (P : T → Type 0) → ((x : T) → P x) → IfOk r P
always (Ok x) P f = f x
always (Err e) P f = tt

pub always_on : {T E : Type 0} (r : Result T E) (P : Type 0) → P → OnOk r P
always_on (Ok x) P p = p
always_on (Err e) P p = tt

-- any image is torn from itself
pub any_torn : (at n : ℕ) (image : List ℕ) → Unit {0} → (earlier : List ℕ) × Unit {0} × Torn at n earlier image
any_torn at n image left = (image, tt, torn_itself at n image)

-- a clock that stands still
pub stands_still : GoesOn 0 0 (λ _ _. Unit {0}) (λ _ _. Unit {0})
stands_still = record { later = omega arith; joins = λ t image le since. inl since }
