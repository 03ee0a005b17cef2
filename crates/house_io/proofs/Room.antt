-- What fits a room.
use Rattle.std.proofs.Common.{◌≡◌, ℕ, ◌+◌, ◌-◌, ◌≤◌, ◌==◌, nat_le, min, List, ◌++◌, length, take, sym, ap, ◌∙◌, arith, length-append}
use Rattle.std.proofs.lemmas.Grind.{common_steps}
use Rattle.std.proofs.lemmas.List.{take_min}
use Rattle.std.proofs.Math.Seq.{take-append-add}

-- as much of a piece as has room after some bytes is the front of both
pub append-take_fitting : (bytes piece : List ℕ) (room : ℕ) → length bytes ≤ room → bytes ++ take (min (room - length bytes) (length piece)) piece ≡ take room (bytes ++ piece)
append-take_fitting bytes piece room fits =
    let whole_room : length bytes + (room - length bytes) ≡ room = omega arith in
    ap (λ front. bytes ++ front) (take_min (room - length bytes) piece)
    ∙ sym (take-append-add bytes piece (room - length bytes))
    ∙ ap (λ n. take n (bytes ++ piece)) whole_room

-- all of a piece has room after some bytes exactly where both fit
pub fitting_is_all : (bytes piece : List ℕ) (room : ℕ) → length bytes ≤ room → (min (room - length bytes) (length piece) == length piece) ≡ nat_le (length (bytes ++ piece)) room
fitting_is_all bytes piece room fits = grind (arith, common_steps, length-append {A = ℕ})
