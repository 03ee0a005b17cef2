-- What a list of lines says with one more line.
use Rattle.std.proofs.Common.{◌≡◌, ℕ, Bool, true, false, cond, eqb, Option, Some, None, [], ◌∷◌, ◌++◌, length, map, refl, ap, ◌∙◌}
use Rattle.std.specs.Prelude.{filter, find, is_some, not, ◌||◌, if◌then◌else◌}
use Rattle.std.specs.List.{list_any}
use Rattle.std.specs.Option.{option_map, option_map_or, option_or}
use Rattle.std.proofs.lemmas.List.{append-nil, map-append}
use Rattle.std.proofs.lemmas.List.Elements.{filter-append}
use Rattle.std.proofs.lemmas.List.Folds.{list_any-append, find-append}
use Rattle.std.proofs.Math.Dec.{eqb-suc-zero}
use Rattle.std.proofs.lemmas.Bool.{or_parts}
use Rattle.house_base.specs.declared.phase.Phase.{Phase}
use Rattle.house_base.specs.declared.phase.Phase.TheVariants as phase
use Rattle.house_base.specs.Text.{Text}
use Rattle.house_model.specs.declared.verb.Verb.{Verb}
use Rattle.house_model.specs.declared.verb.Verb.TheVariants as verb
use Rattle.house_model.specs.Text.{Lines, word}
use Rattle.house_model.specs.Verbs.{verb_in, verb_number, commands}
use Rattle.house_model.specs.Register.{Register}
use Rattle.house_model.specs.Said.{has, those, number, phase_after, call_number, applicant_in, place_in, pair_in, register, denominator_of, spelled, seed_of, seal_of, draw_of, setting, has_pairs, run_pairs}
use Rattle.house_model.specs.Seeds.{seed_draw}
use Rattle.house_core.proofs.VerbLemmas.{commands_is}

-- A list of lines with one more.

or_false : (b : Bool) → (b || false) ≡ b
or_false true = refl
or_false false = refl

or_true : (b : Bool) → (b || true) ≡ true
or_true true = refl
or_true false = refl

pub has_push : (v : Verb) (lines : Lines) (x : Text) → has v (lines ++ x ∷ []) ≡ (has v lines || commands v x)
unfolding has
has_push v lines x = list_any-append (commands v) lines (x ∷ []) ∙ ap (λ b. list_any (commands v) lines || b) (or_false (commands v x))

-- a line with another command
pub has_other : (v w : Verb) (lines : Lines) (x : Text) → verb_in x ≡ v → eqb (verb_number v) (verb_number w) ≡ false → has w (lines ++ x ∷ []) ≡ has w lines
has_other v w lines x h other = has_push w lines x ∙ ap (λ b. has w lines || b) (commands_is x v w h ∙ other) ∙ or_false (has w lines)

-- a line with the command
pub has_same : (v w : Verb) (lines : Lines) (x : Text) → verb_in x ≡ v → eqb (verb_number v) (verb_number w) ≡ true → has w (lines ++ x ∷ []) ≡ true
has_same v w lines x h same = has_push w lines x ∙ ap (λ b. has w lines || b) (commands_is x v w h ∙ same) ∙ or_true (has w lines)

pub those_other : (v w : Verb) (lines : Lines) (x : Text) → verb_in x ≡ v → eqb (verb_number v) (verb_number w) ≡ false → those w (lines ++ x ∷ []) ≡ those w lines
unfolding those
those_other v w lines x h other =
    filter-append (commands w) lines (x ∷ []) ∙ ap (λ b. filter (commands w) lines ++ cond b (x ∷ []) []) (commands_is x v w h ∙ other) ∙ append-nil (filter (commands w) lines)

pub those_same : (v w : Verb) (lines : Lines) (x : Text) → verb_in x ≡ v → eqb (verb_number v) (verb_number w) ≡ true → those w (lines ++ x ∷ []) ≡ those w lines ++ x ∷ []
unfolding those
those_same v w lines x h same =
    filter-append (commands w) lines (x ∷ []) ∙ ap (λ b. filter (commands w) lines ++ cond b (x ∷ []) []) (commands_is x v w h ∙ same)

-- the first line with a command
or_none : {T : Type 0} (o : Option T) → option_or o None ≡ o
or_none None = refl
or_none (Some x) = refl

find_other : (v w : Verb) (lines : Lines) (x : Text) → verb_in x ≡ v → eqb (verb_number v) (verb_number w) ≡ false → find (commands w) (lines ++ x ∷ []) ≡ find (commands w) lines
find_other v w lines x h other =
    find-append (commands w) lines (x ∷ []) ∙ ap (λ b. option_or (find (commands w) lines) (cond b (Some x) None)) (commands_is x v w h ∙ other) ∙ or_none (find (commands w) lines)

not_found : (v : Verb) (lines : Lines) → list_any (commands v) lines ≡ false → find (commands v) lines ≡ None
not_found v [] h = refl
not_found v (y ∷ lines) h = let none = or_parts (commands v y) (list_any (commands v) lines) h in rw none.0 (not_found v lines none.1)

find_first : (w : Verb) (lines : Lines) (x : Text) → list_any (commands w) lines ≡ false → verb_in x ≡ w → eqb (verb_number w) (verb_number w) ≡ true →
    find (commands w) (lines ++ x ∷ []) ≡ Some x
find_first w lines x none h same =
    find-append (commands w) lines (x ∷ []) ∙ ap (λ o. option_or o (cond (commands w x) (Some x) None)) (not_found w lines none)
    ∙ ap (λ b. cond b (Some x) None) (commands_is x w w h ∙ same)

pub call_number_other : (v : Verb) (lines : Lines) (x : Text) (i : ℕ) → verb_in x ≡ v → eqb (verb_number v) 0 ≡ false → call_number (lines ++ x ∷ []) i ≡ call_number lines i
unfolding call_number
call_number_other v lines x i h other = ap (λ o. option_map_or (λ line. number (word line i)) o 0) (find_other v verb.Call lines x h other)

pub call_number_first : (lines : Lines) (x : Text) (i : ℕ) → has verb.Call lines ≡ false → verb_in x ≡ verb.Call → call_number (lines ++ x ∷ []) i ≡ number (word x i)
unfolding call_number has
call_number_first lines x i none h = ap (λ o. option_map_or (λ line. number (word line i)) o 0) (find_first verb.Call lines x none h refl)

-- whether a line with a command was found
found_by : {T : Type 0} (b c : Bool) (x : T) (o : Option T) → is_some o ≡ c → is_some (cond b (Some x) o) ≡ (b || c)
found_by true c x o h = refl
found_by false c x o h = h

found : (v : Verb) (lines : Lines) → is_some (find (commands v) lines) ≡ list_any (commands v) lines
found v [] = refl
found v (y ∷ lines) = found_by (commands v y) (list_any (commands v) lines) y (find (commands v) lines) (found v lines)

is_some-map : {T U : Type 0} (f : T → U) (o : Option T) → is_some (option_map f o) ≡ is_some o
is_some-map f None = refl
is_some-map f (Some x) = refl

-- the seed of the clusters
pub seed_came : (lines : Lines) → is_some (seed_of lines) ≡ has verb.Partition lines
unfolding seed_of has
seed_came lines = is_some-map (λ line. word line 1) (find (commands verb.Partition) lines) ∙ found verb.Partition lines

pub seed_of_other : (v : Verb) (lines : Lines) (x : Text) → verb_in x ≡ v → eqb (verb_number v) 4 ≡ false → seed_of (lines ++ x ∷ []) ≡ seed_of lines
unfolding seed_of
seed_of_other v lines x h other = ap (option_map (λ line. word line 1)) (find_other v verb.Partition lines x h other)

pub seed_of_first : (lines : Lines) (x : Text) → has verb.Partition lines ≡ false → verb_in x ≡ verb.Partition → seed_of (lines ++ x ∷ []) ≡ Some (word x 1)
unfolding seed_of has
seed_of_first lines x none h = ap (option_map (λ line. word line 1)) (find_first verb.Partition lines x none h refl)

-- the seal
pub seal_came : (lines : Lines) → is_some (seal_of lines) ≡ has verb.Seal lines
unfolding seal_of has
seal_came lines = is_some-map (λ line. spelled (word line 1)) (find (commands verb.Seal) lines) ∙ found verb.Seal lines

pub seal_of_other : (v : Verb) (lines : Lines) (x : Text) → verb_in x ≡ v → eqb (verb_number v) 6 ≡ false → seal_of (lines ++ x ∷ []) ≡ seal_of lines
unfolding seal_of
seal_of_other v lines x h other = ap (option_map (λ line. spelled (word line 1))) (find_other v verb.Seal lines x h other)

pub seal_of_first : (lines : Lines) (x : Text) → has verb.Seal lines ≡ false → verb_in x ≡ verb.Seal → seal_of (lines ++ x ∷ []) ≡ Some (spelled (word x 1))
unfolding seal_of has
seal_of_first lines x none h = ap (option_map (λ line. spelled (word line 1))) (find_first verb.Seal lines x none h refl)

-- the draw, by the first line of each of its two commands
abbrev draw_by : Lines → Option Text → Option Text → ℕ
draw_by lines drawn sealed =
    option_map_or (λ line. number (word line 1)) drawn (option_map_or (λ line. seed_draw (word line 1) (denominator_of (register lines))) sealed 0)

pub draw_of_other : (v : Verb) (lines : Lines) (x : Text) → verb_in x ≡ v → eqb (verb_number v) 9 ≡ false → eqb (verb_number v) 10 ≡ false →
    register (lines ++ x ∷ []) ≡ register lines → draw_of (lines ++ x ∷ []) ≡ draw_of lines
unfolding draw_of
draw_of_other v lines x h drawn sealed reg = rw (find_other v verb.Draw lines x h drawn, find_other v verb.Lottery lines x h sealed, reg) refl

-- nothing is drawn before the draw
pub draw_of_none : (lines : Lines) → has verb.Draw lines ≡ false → has verb.Lottery lines ≡ false → draw_of lines ≡ 0
unfolding draw_of has
draw_of_none lines drawn sealed = rw (not_found verb.Draw lines drawn, not_found verb.Lottery lines sealed) refl

pub draw_of_first : (lines : Lines) (x : Text) → has verb.Draw lines ≡ false → verb_in x ≡ verb.Draw → draw_of (lines ++ x ∷ []) ≡ number (word x 1)
unfolding draw_of has
draw_of_first lines x none h = ap (λ o. draw_by (lines ++ x ∷ []) o (find (commands verb.Lottery) (lines ++ x ∷ []))) (find_first verb.Draw lines x none h refl)

pub draw_of_seed : (lines : Lines) (x : Text) → has verb.Draw lines ≡ false → has verb.Lottery lines ≡ false → verb_in x ≡ verb.Lottery →
    register (lines ++ x ∷ []) ≡ register lines → draw_of (lines ++ x ∷ []) ≡ seed_draw (word x 1) (denominator_of (register lines))
unfolding draw_of has
draw_of_seed lines x drawn sealed h reg =
    rw (find_other verb.Lottery verb.Draw lines x h refl, not_found verb.Draw lines drawn, find_first verb.Lottery lines x sealed h refl, reg) refl

-- the register, where nothing is put on record
register_from : Lines → Lines → Lines → Lines → Register
register_from applicants placed barred pairs = record {
  applicants = map applicant_in applicants;
  placed = map place_in placed;
  barred = map pair_in barred;
  pairs = map pair_in pairs;
}

pub register_other : (v : Verb) (lines : Lines) (x : Text) → verb_in x ≡ v →
    eqb (verb_number v) 1 ≡ false → eqb (verb_number v) 3 ≡ false → eqb (verb_number v) 2 ≡ false → eqb (verb_number v) 5 ≡ false →
    register (lines ++ x ∷ []) ≡ register lines
unfolding register
register_other v lines x h a p b q =
    rw (those_other v verb.Applicant lines x h a, those_other v verb.Place lines x h p, those_other v verb.Conflict lines x h b, those_other v verb.Pair lines x h q) refl

pub register_applicant : (lines : Lines) (x : Text) → verb_in x ≡ verb.Applicant →
    register (lines ++ x ∷ []) ≡ record (register lines) { applicants = (register lines).applicants ++ applicant_in x ∷ [] }
unfolding register
register_applicant lines x h =
    rw (
      those_same verb.Applicant verb.Applicant lines x h refl,
      those_other verb.Applicant verb.Place lines x h refl,
      those_other verb.Applicant verb.Conflict lines x h refl,
      those_other verb.Applicant verb.Pair lines x h refl,
      map-append applicant_in (those verb.Applicant lines) (x ∷ []),
    ) refl

pub register_place : (lines : Lines) (x : Text) → verb_in x ≡ verb.Place →
    register (lines ++ x ∷ []) ≡ record (register lines) { placed = (register lines).placed ++ place_in x ∷ [] }
unfolding register
register_place lines x h =
    rw (
      those_same verb.Place verb.Place lines x h refl,
      those_other verb.Place verb.Applicant lines x h refl,
      those_other verb.Place verb.Conflict lines x h refl,
      those_other verb.Place verb.Pair lines x h refl,
      map-append place_in (those verb.Place lines) (x ∷ []),
    ) refl

-- whether some person was put into a cluster
none_kept : {T : Type 0} (f : Text → T) (p : Text → Bool) (lines : Lines) → eqb (length (map f (filter p lines))) 0 ≡ not (list_any p lines)
none_kept f p [] = refl
none_kept {T} f p (y ∷ lines) = which (p y) (none_kept f p lines)
  where
    which : (b : Bool) → eqb (length (map f (filter p lines))) 0 ≡ not (list_any p lines) →
        eqb (length (map f (cond b (y ∷ filter p lines) (filter p lines)))) 0 ≡ not (b || list_any p lines)
    which true rest = eqb-suc-zero (length (map f (filter p lines)))
    which false rest = rest

pub placed_came : (lines : Lines) → eqb (length (register lines).placed) 0 ≡ not (has verb.Place lines)
unfolding register those has
placed_came lines = none_kept place_in (commands verb.Place) lines

pub register_pair : (lines : Lines) (x : Text) → verb_in x ≡ verb.Pair →
    register (lines ++ x ∷ []) ≡ record (register lines) { pairs = (register lines).pairs ++ pair_in x ∷ [] }
unfolding register
register_pair lines x h =
    rw (
      those_same verb.Pair verb.Pair lines x h refl,
      those_other verb.Pair verb.Applicant lines x h refl,
      those_other verb.Pair verb.Conflict lines x h refl,
      those_other verb.Pair verb.Place lines x h refl,
      map-append pair_in (those verb.Pair lines) (x ∷ []),
    ) refl

pub register_conflict : (lines : Lines) (x : Text) → verb_in x ≡ verb.Conflict →
    register (lines ++ x ∷ []) ≡ record (register lines) { barred = (register lines).barred ++ pair_in x ∷ [] }
unfolding register
register_conflict lines x h =
    rw (
      those_same verb.Conflict verb.Conflict lines x h refl,
      those_other verb.Conflict verb.Applicant lines x h refl,
      those_other verb.Conflict verb.Place lines x h refl,
      those_other verb.Conflict verb.Pair lines x h refl,
      map-append pair_in (those verb.Conflict lines) (x ∷ []),
    ) refl

-- the phase, by what came
abbrev pub phase_by : Bool → Bool → Bool → Phase
phase_by assigned closed drawn = if not assigned then phase.Opening else if not closed then phase.Reviewing else if not drawn then phase.Closed else phase.Drawn

pub phase_is : (lines : Lines) → phase_after lines ≡ phase_by (has verb.Assign lines) (has verb.Close lines) (has verb.Draw lines || has verb.Lottery lines)
unfolding phase_after
phase_is lines = refl

pub phase_other : (v : Verb) (lines : Lines) (x : Text) → verb_in x ≡ v →
    eqb (verb_number v) 7 ≡ false → eqb (verb_number v) 8 ≡ false → eqb (verb_number v) 9 ≡ false → eqb (verb_number v) 10 ≡ false →
    phase_after (lines ++ x ∷ []) ≡ phase_after lines
unfolding phase_after
phase_other v lines x h a c d l =
    rw (has_other v verb.Assign lines x h a, has_other v verb.Close lines x h c, has_other v verb.Draw lines x h d, has_other v verb.Lottery lines x h l) refl

-- what the setting and the assignment are read from
pub setting_same : (old new : Lines) → ((i : ℕ) → call_number new i ≡ call_number old i) → seed_of new ≡ seed_of old → register new ≡ register old → setting new ≡ setting old
unfolding setting
setting_same old new numbers seed reg = rw (numbers 1, numbers 2, numbers 3, seed, reg) refl

pub run_pairs_same : (old new : Lines) → register new ≡ register old → setting new ≡ setting old → run_pairs new ≡ run_pairs old
unfolding run_pairs has_pairs
run_pairs_same old new reg plan = rw (reg, plan) refl
