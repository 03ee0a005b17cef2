-- The setting that a state gives is that of its lines, whether a call was made or not.
use Rattle.std.proofs.Common.{◌≡◌, ℕ, Bool, true, false, Option, Some, None, List, [], ◌∷◌, refl, sym, ap}
use Rattle.std.specs.Prelude.{find, MatchOption}
use Rattle.std.specs.List.{list_any}
use Rattle.std.specs.Option.{option_map_or}
use Rattle.std.proofs.lemmas.Bool.{or_parts}
use Rattle.house_base.specs.declared.call.Call.{Call}
use Rattle.house_model.specs.declared.verb.Verb.TheVariants as verb
use Rattle.house_model.specs.Said.{has, call_number, number, register, seats_of, clusters_of, reviews_of, seed_of, setting}
use Rattle.house_model.specs.Text.{Lines, word}
use Rattle.house_model.specs.Verbs.{commands}
use Rattle.house_core.specs.declared.state.State.{State}
use Rattle.house_core.specs.Standing.{Says, setting_in}
use Rattle.house_core.proofs.SameRegisterLemmas.{setting-same}

none_found : {A : Type 0} (test : A → Bool) (xs : List A) → list_any test xs ≡ false → find test xs ≡ None
none_found test [] none = refl
none_found test (x ∷ xs) none =
    let parts = or_parts (test x) (list_any test xs) none in
    rw parts.0 (none_found test xs parts.1)

no_number : (lines : Lines) (i : ℕ) → has verb.Call lines ≡ false → call_number lines i ≡ 0
unfolding call_number has
no_number lines i none = ap (λ o. option_map_or (λ line. number (word line i)) o 0) (none_found (commands verb.Call) lines none)

numbers_say : (call : Option Call) (lines : Lines) → MatchOption call (has verb.Call lines ≡ false) (λ c.
    (has verb.Call lines ≡ true) × (c.seats ≡ seats_of lines) × (c.clusters ≡ clusters_of lines) × (c.reviews ≡ reviews_of lines)) →
    (option_map_or (λ (c : Call). c.seats) call 0 ≡ seats_of lines) × (option_map_or (λ (c : Call). c.clusters) call 0 ≡ clusters_of lines)
    × (option_map_or (λ (c : Call). c.reviews) call 0 ≡ reviews_of lines)
numbers_say None lines none = (sym (no_number lines 1 none), sym (no_number lines 2 none), sym (no_number lines 3 none))
numbers_say (Some c) lines made = (made.1, made.2, made.3)

pub setting_says : (lines : Lines) (s : State) → Says lines s → setting_in s ≡ setting lines
unfolding setting
setting_says lines s says =
    let numbers = numbers_say s.call lines says.call in
    rw (numbers.0, numbers.1, numbers.2, says.seed) (setting-same (seed_of lines) (seats_of lines) (clusters_of lines) (reviews_of lines) s.book (register lines) says.book)
