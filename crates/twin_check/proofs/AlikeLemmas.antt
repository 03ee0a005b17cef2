-- Lists of lines that differ in nothing but the review lines of one person come to the same for it.
use Rattle.std.proofs.Common.{◌≡◌, ℕ, ◌<◌, Bool, true, false, cond, List, [], ◌∷◌, length, map, filter, bytes_eq, refl, sym, ap, ◌∙◌, subst, inl, inr, arith}
use Rattle.house_base.specs.Setting.{Setting, size}
use Rattle.house_base.specs.Text.{Text, among}
use Rattle.house_base.proofs.AmongLemmas.{same_text}
use Rattle.house_base.proofs.InOrderLemmas.{In, filter-In}
use Rattle.peer_selection.specs.Counting.{numbers_below}
use Rattle.peer_selection.specs.Lottery.{chance}
use Rattle.peer_selection.specs.Profile.{denominator}
use Rattle.house_model.specs.declared.goal.Goal.TheVariants as goal
use Rattle.house_model.specs.Ending.{Ended, unnumbered}
use Rattle.house_model.specs.Headline.{AreOfCall}
use Rattle.house_model.specs.Isolation.{GiveAssignment, IsApplicantOf, without}
use Rattle.house_model.specs.Register.{Register, person_of, persons}
use Rattle.house_model.specs.Report.{place_of_number}
use Rattle.house_model.specs.Reviews.{profile}
use Rattle.house_model.specs.Runs.{end_of}
use Rattle.house_model.specs.Said.{register, setting}
use Rattle.house_model.specs.Text.{Lines}
use Rattle.house_model.proofs.DoneLemmas.{end_of-without}
use Rattle.house_model.proofs.IsolationLemmas.{register-without}
use Rattle.house_model.proofs.NamedPlaceLemmas.{HasNamesOf-setting}
use Rattle.house_model.proofs.OwnReviewLemmas.{chance-one, setting-one}
use Rattle.house_model.proofs.PrintedCallLemmas.{below-In}
use Rattle.house_model.proofs.ReportLemmas.{place_of_number-within}
use Rattle.house_model.proofs.RunEndLemmas.{settled-parts}
use Rattle.twin_check.specs.Agree.{AreAlike}
use Rattle.twin_check.specs.declared.half.Half.{Half}
use Rattle.twin_check.specs.declared.half.Half.TheVariants as half
use Rattle.twin_check.specs.Half.{chances_of, done_half, half_at, half_of, own_chances, own_numbers}
use Rattle.twin_check.proofs.OwnLemmas.{person_of-place}

map-agree : {X Y : Type 0} (f g : X → Y) (xs : List X) → ((x : X) → In x xs → f x ≡ g x) → map f xs ≡ map g xs
map-agree f g [] h = refl
map-agree f g (x ∷ xs) h = ap (λ y. y ∷ map f xs) (h x (inl refl)) ∙ ap (λ ys. g x ∷ ys) (map-agree f g xs (λ y m. h y (inr m)))

gives : (lines : Lines) → AreOfCall lines → GiveAssignment lines
unfolding profile
gives lines call = record { forms_setting = call.assigned.setting; assigns_validly = call.assigned.valid }

-- a number of the person's is that of an applicant that belongs to it
own_place : (name : Text) (lines : Lines) (i : ℕ) → GiveAssignment lines → In i (own_numbers name lines) → IsApplicantOf name lines (place_of_number (setting lines) i)
unfolding own_numbers
own_place name lines i give m =
    let n = length (register lines).applicants in
    let found = filter-In (λ k. bytes_eq (person_of (register lines) k) name) i (numbers_below n) m in
    let named = HasNamesOf-setting lines in
    let below : i < size (setting lines) = omega (arith, below-In n i found.0, named.count) in (
      place_of_number-within (setting lines) i give.forms_setting,
      person_of-place lines i give.forms_setting below ∙ same_text (person_of (register lines) i) name found.1,
    )

module _ (name : Text) (lines others : Lines) (agree : without name lines ≡ without name others) where
  same_register : register lines ≡ register others
  same_register = sym (register-without name lines) ∙ ap register agree ∙ register-without name others

  same_setting : setting others ≡ setting lines
  same_setting = setting-one name lines others agree

  same_numbers : own_numbers name lines ≡ own_numbers name others
  unfolding own_numbers
  same_numbers =
      ap (λ (reg : Register). filter (λ i. bytes_eq (person_of reg i) name) (numbers_below (length reg.applicants))) same_register

  same_chances : GiveAssignment lines → own_chances name lines ≡ own_chances name others
  unfolding own_chances
  same_chances give =
      map-agree (λ i. chance (profile lines) (place_of_number (setting lines) i)) (λ i. chance (profile others) (place_of_number (setting lines) i)) (own_numbers name lines)
      (λ i m. chance-one name lines others agree (place_of_number (setting lines) i) give (own_place name lines i give m))
      ∙ ap (λ (s : Setting). map (λ i. chance (profile others) (place_of_number s i)) (own_numbers name lines)) (sym same_setting)
      ∙ ap (map (λ i. chance (profile others) (place_of_number (setting others) i))) same_numbers

  alike_to_itself : (b : Bool) (x y : Half) → AreAlike x x → AreAlike y y → AreAlike (cond b x y) (cond b x y)
  alike_to_itself true x y p q = p
  alike_to_itself false x y p q = q

  same_done : GiveAssignment lines → done_half name lines ≡ done_half name others
  unfolding done_half
  same_done give =
      let told : Bool → List ℕ → ℕ → Half = λ b xs d. cond b (half.Chances (chances_of xs) d) half.Unlisted in
      ap (λ (reg : Register). told (among (persons reg) name) (own_chances name lines) (denominator (setting lines))) same_register
      ∙ ap (λ xs. told (among (persons (register others)) name) xs (denominator (setting lines))) (same_chances give)
      ∙ ap (λ (s : Setting). told (among (persons (register others)) name) (own_chances name others) (denominator s)) (sym same_setting)

  done_alike : AreAlike (done_half name lines) (done_half name lines)
  unfolding done_half
  done_alike =
      alike_to_itself (among (persons (register lines)) name) (half.Chances (chances_of (own_chances name lines)) (denominator (setting lines))) half.Unlisted (refl, refl) tt

  ends_alike : unnumbered (end_of goal.Run lines) ≡ unnumbered (end_of goal.Run others)
  ends_alike = sym (end_of-without goal.Run name lines) ∙ ap (λ ls. unnumbered (end_of goal.Run ls)) agree ∙ end_of-without goal.Run name others

  halves_at : (e f : Ended) → unnumbered e ≡ unnumbered f → (e ≡ Ended.Done → GiveAssignment lines) → (e ≡ Ended.Settled → ⊥) → AreAlike (half_at e name lines) (half_at f name others)
  halves_at Ended.Done Ended.Done same give unsettled = subst (AreAlike (done_half name lines)) (same_done (give refl)) done_alike
  halves_at Ended.Done (Ended.Refused n q) same give unsettled = absurd (cc)
  halves_at Ended.Done Ended.Short same give unsettled = absurd (cc)
  halves_at Ended.Done Ended.Settled same give unsettled = absurd (cc)
  halves_at (Ended.Refused m r) Ended.Done same give unsettled = absurd (cc)
  halves_at (Ended.Refused m r) (Ended.Refused n q) same give unsettled = cc
  halves_at (Ended.Refused m r) Ended.Short same give unsettled = absurd (cc)
  halves_at (Ended.Refused m r) Ended.Settled same give unsettled = absurd (cc)
  halves_at Ended.Short Ended.Done same give unsettled = absurd (cc)
  halves_at Ended.Short (Ended.Refused n q) same give unsettled = absurd (cc)
  halves_at Ended.Short Ended.Short same give unsettled = tt
  halves_at Ended.Short Ended.Settled same give unsettled = absurd (cc)
  halves_at Ended.Settled f same give unsettled = absurd (unsettled refl)

-- a run for the report never ends at an assignment
settled_never : (lines : Lines) → end_of goal.Run lines ≡ Ended.Settled → ⊥
settled_never lines settled = absurd (let wrong : false ≡ true = (settled-parts goal.Run lines settled).1 in cc)

-- what lines come to is the same without the person's review lines
pub halves_alike : (name : Text) (lines others : Lines) → (end_of goal.Run lines ≡ Ended.Done → GiveAssignment lines) → without name lines ≡ without name others →
    AreAlike (half_of name lines) (half_of name others)
unfolding half_of
halves_alike name lines others give agree =
    halves_at name lines others agree (end_of goal.Run lines) (end_of goal.Run others) (ends_alike name lines others agree) give (settled_never lines)

pub halves_of_call : (name : Text) (lines others : Lines) → (end_of goal.Run lines ≡ Ended.Done → AreOfCall lines) → without name lines ≡ without name others →
    AreAlike (half_of name lines) (half_of name others)
halves_of_call name lines others call agree = halves_alike name lines others (λ done. gives lines (call done)) agree
