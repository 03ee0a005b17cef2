-- The slip that is told of a name, by the place of its applicant.
use Rattle.std.proofs.Common.{◌≡◌, ℕ, ◌<◌, true, [], ◌∷◌, List, Option, Some, None, Result, Ok, Err, Vec, codes, position, bytes_eq, slice_get, refl, sym, ap, ◌∙◌, subst, arith}
use Rattle.std.specs.Prelude.{IfOk}
use Rattle.std.specs.List.{Contains}
use Rattle.std.specs.Option.{option_map_or}
use Rattle.std.proofs.lemmas.List.{length-map}
use Rattle.std.proofs.lemmas.List.Quantifiers.{position-Some}
use Rattle.std.proofs.lemmas.Option.{get_or_from_slice_get, slice_get_within}
use Rattle.house_base.specs.Setting.{IsSetting, Setting, names_of, size}
use Rattle.house_base.specs.Text.{Text}
use Rattle.house_base.proofs.AmongLemmas.{same_text}
use Rattle.name_index.proofs.IndexLemmas.{position_at}
use Rattle.peer_selection.specs.Profile.{Profile}
use Rattle.house_model.specs.declared.goal.Goal.TheVariants as goal
use Rattle.house_model.specs.declared.verb.Verb.TheVariants as verb
use Rattle.house_model.specs.Ending.{in_force, stop_of}
use Rattle.house_model.specs.Headline.{AreOfCall}
use Rattle.house_model.specs.Isolation.{GiveAssignment, without}
use Rattle.house_model.specs.Report.{line_of}
use Rattle.house_model.specs.Reviews.{profile}
use Rattle.house_model.specs.Runs.{halt}
use Rattle.house_model.specs.Said.{has, setting}
use Rattle.house_model.specs.Text.{Lines}
use Rattle.house_model.proofs.IsolationLemmas.{setting-without}
use Rattle.house_model.proofs.ReviewerLemmas.{name_at-slice_get}
use Rattle.house_model.proofs.RunEndLemmas.{done-parts}
use Rattle.house_core.specs.House.{IsDeskOf}
use Rattle.house_core.proofs.EndingLemmas.{in_force_all}
use Rattle.review_desk.specs.Desk.{IsSetUp, Marks, desk_profile}
use Rattle.slip_check.specs.Limits.{IsRight}
use Rattle.slip_check.specs.Slip.{printed_slip}
use Rattle.slip_check.proofs.AgreeLemmas.{printed-agree}
use Rattle.slip_check.proofs.CallLemmas.{gives-slips}
use Rattle.slip_check.proofs.LawLemmas.{worth-told}
use Rattle.slip_check.proofs.OwnSlipLemmas.{printed-without}
use Rattle.slip_text.specs.Told.{OwnReviewsAreInNoSlip, PrintsChances, slip_told}

abbrev told_by : Profile → Option ℕ → Text
told_by f place = option_map_or (printed_slip f) place (line_of (codes "unlisted" ∷ []))

-- the slip of an applicant
pub told_at : (f : Profile) (name : Text) (p : ℕ) → IsSetting f.setting → slice_get (names_of f.setting) p ≡ Some name → slip_told name f ≡ printed_slip f p
unfolding slip_told
told_at f name p is at =
    let names = names_of f.setting in
    ap (told_by f) (position_at names p name is.names_differ (slice_get_within names p name at) (get_or_from_slice_get names p name [] at))

no_place : (names : List Text) (name : Text) (place : Option ℕ) → position (bytes_eq name) names ≡ place → (Contains names name → ⊥) → place ≡ None
no_place names name None at none = refl
no_place names name (Some p) at none =
    let found = position-Some (bytes_eq name) names p name at in
    absurd (none (p, found.0, sym (same_text _ _ found.1)))

-- what is told where no applicant has the name
pub told_unlisted : (f : Profile) (name : Text) → (Contains (names_of f.setting) name → ⊥) → slip_told name f ≡ line_of (codes "unlisted" ∷ [])
unfolding slip_told
told_unlisted f name none = ap (told_by f) (no_place (names_of f.setting) name (position (bytes_eq name) (names_of f.setting)) refl none)

-- profiles of one setting whose slips are the same
told_alike : (name : Text) (f g : Profile) → g.setting ≡ f.setting → ((p : ℕ) → p < size f.setting → printed_slip f p ≡ printed_slip g p) → slip_told name f ≡ slip_told name g
unfolding slip_told
told_alike name f g same slips =
    by_place (position (bytes_eq name) (names_of f.setting)) refl
    ∙ ap (λ (s : Setting). told_by g (position (bytes_eq name) (names_of s))) (sym same)
  where
    by_place : (place : Option ℕ) → position (bytes_eq name) (names_of f.setting) ≡ place → told_by f place ≡ told_by g place
    by_place None at = refl
    by_place (Some p) at =
        let found = position-Some (bytes_eq name) (names_of f.setting) p [] at in
        slips p (omega (arith, found.0, length-map f.setting.people (λ person. person.name)))

-- The desk of a run.

pub has_assignment : (lines : Lines) → AreOfCall lines → has verb.Assign (in_force (halt goal.Run) lines) ≡ true
unfolding stop_of
has_assignment lines call =
    let parts = done-parts lines call.done in
    ap (has verb.Assign) (in_force_all (halt goal.Run) lines parts.0) ∙ parts.1

pub all_in_force : (lines : Lines) → AreOfCall lines → in_force (halt goal.Run) lines ≡ lines
unfolding stop_of
all_in_force lines call = in_force_all (halt goal.Run) lines (done-parts lines call.done).0

-- the slips of a desk are those of its lines
desk_told : (name : Text) (lines : Lines) (desk : Marks) → IsSetUp (setting lines) desk → IsDeskOf lines desk → slip_told name (desk_profile (setting lines) desk) ≡ slip_told name (profile lines)
unfolding profile
desk_told name lines desk up of =
    told_alike name (desk_profile (setting lines) desk) (profile lines) refl
    (λ p l. printed-agree (setting lines) _ _ _ _ p (record { setting = up.setting; valid = up.valid }) (record { pairs = of.pairs.cells; points = of.points }) l)

house_told : (name : Text) (lines : Lines) (plan : Setting) (desk : Marks) (text : Text) → AreOfCall lines → plan ≡ setting (in_force (halt goal.Run) lines) →
    IsSetUp (setting (in_force (halt goal.Run) lines)) desk → IsDeskOf (in_force (halt goal.Run) lines) desk → text ≡ slip_told name (desk_profile plan desk) → text ≡ slip_told name (profile lines)
house_told name lines plan desk text call is up of written =
    let all = all_in_force lines call in
    let of_all = subst (λ (ls : Lines). IsDeskOf ls desk) all of in
    let up_all = subst (λ (ls : Lines). IsSetUp (setting ls) desk) all up in
    written ∙ ap (λ (s : Setting). slip_told name (desk_profile s desk)) (is ∙ ap setting all) ∙ desk_told name lines desk up_all of_all

-- the same of what was written
pub told_by_house : {E Z : Type 0} (r : Result (Vec ℕ Z) E) (name : Text) (lines : Lines) (plan : Setting) (desk : Marks) → AreOfCall lines → plan ≡ setting (in_force (halt goal.Run) lines) →
    IsSetUp (setting (in_force (halt goal.Run) lines)) desk → IsDeskOf (in_force (halt goal.Run) lines) desk → IfOk r (λ text. text.items ≡ slip_told name (desk_profile plan desk)) →
    IfOk r (λ text. text.items ≡ slip_told name (profile lines))
told_by_house {E} {Z} (Ok text) name lines plan desk call is up of written = house_told name lines plan desk text.items call is up of written
told_by_house {E} {Z} (Err memory) name lines plan desk call is up of written = tt

pub ends_told : {E Z : Type 0} (r : Result (Vec ℕ Z) E) {a b : Text} → IfOk r (λ text. text.items ≡ a) → b ≡ a → IfOk r (λ text. text.items ≡ b)
ends_told {E} {Z} (Ok text) written is = written ∙ sym is
ends_told {E} {Z} (Err memory) written is = tt

pub set_up_at : (lines : Lines) (plan : Setting) (desk : Marks) → plan ≡ setting (in_force (halt goal.Run) lines) → IsSetUp (setting (in_force (halt goal.Run) lines)) desk → IsSetUp plan desk
set_up_at lines plan desk is up = subst (λ (s : Setting). IsSetUp s desk) (sym is) up

-- The laws.

gives : (lines : Lines) → AreOfCall lines → GiveAssignment lines
unfolding profile
gives lines call = record { forms_setting = call.assigned.setting; assigns_validly = call.assigned.valid }

pub own_reviews : (name : Text) (lines : Lines) → AreOfCall lines → OwnReviewsAreInNoSlip name lines (slip_told name (profile lines))
unfolding profile
own_reviews name lines call = λ person p own named.
    let at = name_at-slice_get (setting lines) p own.0 ∙ ap Some named in
    let same = setting-without person lines in
    let setting_left = subst IsSetting (sym same) call.assigned.setting in
    let at_left = subst (λ (s : Setting). slice_get (names_of s) p ≡ Some name) (sym same) at in
    told_at (profile lines) name p call.assigned.setting at
    ∙ sym (printed-without person lines p (gives lines call) own)
    ∙ sym (told_at (profile (without person lines)) name p setting_left at_left)

pub prints_chances : (bytes : Text) → IsRight bytes → PrintsChances bytes
unfolding profile
prints_chances bytes right = λ lines p call l name rest.
    sym (worth-told (profile lines) p bytes (gives-slips lines call) l right.formed name rest) ∙ sym right.worth
