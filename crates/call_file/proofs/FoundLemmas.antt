-- The parts of the opening to which records add.
use Rattle.std.proofs.Common.{◌≡◌, ℕ, Bool, true, false, not, ◌||◌, List, [], ◌∷◌, ◌++◌, map, Option, None, Some, refl, ap, ◌∙◌}
use Rattle.std.specs.Prelude.{is_some, option_map}
use Rattle.std.specs.List.{cons_option, flat_map, list_any}
use Rattle.house_base.specs.Text.{Text}
use Rattle.house_model.specs.Text.{is_empty, words}
use Rattle.house_model.specs.declared.command.Command.{Command}
use Rattle.house_model.specs.declared.command.Command.TheVariants as command
use Rattle.call_file.specs.declared.pass.Found.{Found}
use Rattle.call_file.specs.declared.pass.Part.{Part}
use Rattle.call_file.specs.declared.pass.Part.TheVariants as part
use Rattle.call_file.specs.declared.settings.Version.{Version}
use Rattle.call_file.specs.declared.settings.Version.TheVariants as version
use Rattle.call_file.specs.Opening.{Place, commands_of, conflicts_of, given_places, place_command, places_of}
use Rattle.call_file.specs.Pass.{either, found_at, found_in, has}
use Rattle.call_file.specs.Register.{Fields, conflicts_field, entry_of}

or_again : (a b c : Bool) → ((a || b) || c) ≡ (a || (b || c))
or_again true b c = refl
or_again false b c = refl

or_none : (a : Bool) → (a || false) ≡ a
or_none true = refl
or_none false = refl

-- what was found with a record, and what those behind it add to
pub found_behind : (v : Version) (before here : Found) (fields : Fields) (rows : List Fields) → here ≡ found_at v fields →
    either (either before here) (found_in v rows) ≡ either before (found_in v (fields ∷ rows))
found_behind v before here fields rows is =
    let places = or_again before.places here.places (found_in v rows).places in
    let conflicts = or_again before.conflicts here.conflicts (found_in v rows).conflicts in
    let again : either (either before here) (found_in v rows) ≡ either before (either here (found_in v rows)) = rw (places, conflicts) refl in
    again ∙ ap (λ f. either before (either f (found_in v rows))) is

-- no records add to nothing
pub found_at_end : (v : Version) (before : Found) → either before (found_in v []) ≡ before
found_at_end v before = rw (or_none before.places, or_none before.conflicts) refl

no_places : (v : Version) (rows : List Fields) → (found_in v rows).places ≡ false → places_of v rows ≡ []
no_places v [] h = refl
no_places v (fields ∷ rows) h = by_cluster (entry_of v fields).cluster h (no_places v rows) where
  by_cluster : (o : Option ℕ) → (is_some o || (found_in v rows).places) ≡ false → ((found_in v rows).places ≡ false → places_of v rows ≡ []) →
      cons_option (option_map (λ cluster. ((entry_of v fields).person, cluster)) o) (places_of v rows) ≡ []
  by_cluster None h behind = behind h
  by_cluster (Some n) h behind = absurd (let wrong : ⊥ = cc in wrong)

none_given : (v : Version) → map place_command (given_places v []) ≡ []
none_given version.First = refl
none_given version.Second = refl

-- where no record adds a place, there are none
places_none : (v : Version) (rows : List Fields) → (found_in v rows).places ≡ false → commands_of part.Places v rows ≡ []
unfolding commands_of
places_none v rows h = ap (λ ps. map place_command (given_places v ps)) (no_places v rows h) ∙ none_given v

no_conflicts : (v : Version) (rows : List Fields) → (found_in v rows).conflicts ≡ false → flat_map (conflicts_of v) rows ≡ []
no_conflicts v [] h = refl
no_conflicts v (fields ∷ rows) h = by_words (words (conflicts_field v fields)) h (no_conflicts v rows) where
  by_words : (ws : List Text) → (not (is_empty ws) || (found_in v rows).conflicts) ≡ false → ((found_in v rows).conflicts ≡ false → flat_map (conflicts_of v) rows ≡ []) →
      map (command.Conflict (entry_of v fields).person) ws ++ flat_map (conflicts_of v) rows ≡ []
  by_words [] h behind = behind h
  by_words (w ∷ ws) h behind = absurd (let wrong : ⊥ = cc in wrong)

-- where no record lists a conflict, there are none
conflicts_none : (v : Version) (rows : List Fields) → (found_in v rows).conflicts ≡ false → commands_of part.Conflicts v rows ≡ []
unfolding commands_of
conflicts_none v rows h = no_conflicts v rows h

-- a part that has no lines, as records tell
pub none_of : (k : Part) (v : Version) (rows : List Fields) → has (found_in v rows) k ≡ false → commands_of k v rows ≡ []
none_of part.Applicants v rows h = absurd (let wrong : ⊥ = cc in wrong)
none_of part.Places v rows h = places_none v rows h
none_of part.Conflicts v rows h = conflicts_none v rows h
