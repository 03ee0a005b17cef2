-- The applicant of a name.
use Rattle.std.proofs.Common.{◌≡◌, ℕ, ◌<◌, [], ◌∷◌, bytes_eq, cond, get_or, Option, Some, None, true, false, refl, sym, ap, ◌∙◌}
use Rattle.std.specs.Prelude.{codes}
use Rattle.std.proofs.lemmas.Bool.{both_ways}
use Rattle.std.proofs.lemmas.Option.{same_Some}
use Rattle.house_base.specs.declared.answer.Reason.TheVariants as reason
use Rattle.std.specs.Option.{option_map_or}
use Rattle.std.proofs.lemmas.List.Quantifiers.{position-Some}
use Rattle.house_base.proofs.AmongLemmas.{same_text}
use Rattle.house_base.specs.Text.{Text}
use Rattle.house_model.specs.Report.{OutcomeParts, line_of}
use Rattle.house_model.specs.declared.outcome.ApplicantRow.{ApplicantRow}
use Rattle.reserve_list.specs.Board.{BoardParts, IsBoard, IsRanked, IsWithdrawal, and_gone, count_of, is_gone, moved_of, moves_up, name_on, number_of}
use Rattle.reserve_list.specs.Leaving.{move_words, name_fault, up_word}
use Rattle.reserve_list.specs.Line.{board_without, up_text}
use Rattle.reserve_list.specs.declared.fault.Moved.{Moved}
use Rattle.reserve_list.specs.declared.fault.Moved.TheVariants as moved
use Rattle.reserve_list.proofs.MoveLemmas.{moves-up}
use Rattle.reserve_list.proofs.RowLemmas.{name-read}

no_row : ApplicantRow
no_row = record { name = []; person = []; cluster = 0; rank = 0; cents = 0; chance = 0; chosen = false }

pub number-below : (o : OutcomeParts) (name : Text) (i : ℕ) → number_of o name ≡ Some i → i < count_of o
unfolding number_of
number-below o name i h = (position-Some (λ row. bytes_eq row.name name) o.applicant_rows i no_row h).0

pub number-name : (o : OutcomeParts) (name : Text) (i : ℕ) → number_of o name ≡ Some i → name_on o i ≡ name
unfolding number_of
number-name o name i h =
    let at = position-Some (λ row. bytes_eq row.name name) o.applicant_rows i no_row h in
    sym (name-read o o.applicant_rows i no_row refl at.0) ∙ same_text (get_or o.applicant_rows i no_row).name name at.1

-- nobody else has it
pub number-alone : (o : OutcomeParts) (name : Text) (i : ℕ) → IsRanked o → number_of o name ≡ Some i → (k : ℕ) → k < count_of o → name_on o k ≡ name → k ≡ i
number-alone o name i r h k kl e = r.names_differ k i kl (number-below o name i h) (e ∙ sym (number-name o name i h))

-- What a withdrawal by name comes to.

pub withdrawal-made : (b : BoardParts) (name : Text) (i : ℕ) (new : BoardParts) (up : Moved) → IsBoard b → number_of b.outcome name ≡ Some i → is_gone b i ≡ false → new ≡ and_gone b i → up ≡ moved_of b i
    → IsWithdrawal b name new up
withdrawal-made b name i new up board named stays gone moved =
    record {
      number = i;
      named = named;
      alone = number-alone b.outcome name i board.ranked named;
      stayed = stays;
      gone = gone;
      moved = moved;
      next = moves-up b board i (number-below b.outcome name i named) stays;
    }

pub not_refused : (b : BoardParts) (name : Text) (i : ℕ) → number_of b.outcome name ≡ Some i → is_gone b i ≡ false → (x : ℕ) × (number_of b.outcome name ≡ Some x) × (is_gone b x ≡ true) → ⊥
not_refused b name i named stays (x, at, gone) =
    both_ways (is_gone b i) stays (ap (is_gone b) (same_Some i x (sym named ∙ at)) ∙ gone)

pub name_fault-none : (b : BoardParts) (name : Text) (new : BoardParts) (up : Moved) → IsWithdrawal b name new up → name_fault b name ≡ None
unfolding name_fault
name_fault-none b name new up w =
    ap (λ o. option_map_or (λ i. cond (is_gone b i) (Some reason.Known) None) o (Some reason.Unknown)) w.named
    ∙ ap (λ g. cond g (Some reason.Known) None) w.stayed

pub name_fault-unknown : (b : BoardParts) (name : Text) → number_of b.outcome name ≡ None → name_fault b name ≡ Some reason.Unknown
unfolding name_fault
name_fault-unknown b name h = ap (λ o. option_map_or (λ i. cond (is_gone b i) (Some reason.Known) None) o (Some reason.Unknown)) h

pub name_fault-known : (b : BoardParts) (name : Text) → (x : ℕ) × (number_of b.outcome name ≡ Some x) × (is_gone b x ≡ true) → name_fault b name ≡ Some reason.Known
unfolding name_fault
name_fault-known b name (x, at, gone) =
    ap (λ o. option_map_or (λ i. cond (is_gone b i) (Some reason.Known) None) o (Some reason.Unknown)) at
    ∙ ap (λ g. cond g (Some reason.Known) None) gone

pub board-withdrawn : (b : BoardParts) (name : Text) (new : BoardParts) (up : Moved) → IsWithdrawal b name new up → new ≡ board_without b name
unfolding board_without
board-withdrawn b name new up w = w.gone ∙ sym (ap (λ o. option_map_or (and_gone b) o b) w.named)

up-same : (o : OutcomeParts) (up : Option ℕ) → up_text (option_map_or (λ k. moved.Up (name_on o k)) up moved.Nobody) ≡ option_map_or (name_on o) up (codes "-")
up-same o None = refl
up-same o (Some k) = refl

pub words-withdrawn : (b : BoardParts) (name : Text) (new : BoardParts) (up : Moved) → IsWithdrawal b name new up → line_of (codes "withdraw" ∷ name ∷ codes "up" ∷ up_text up ∷ []) ≡ line_of (move_words b name)
unfolding move_words up_word
words-withdrawn b name new up w =
    ap (λ u. line_of (codes "withdraw" ∷ name ∷ codes "up" ∷ u ∷ []))
    (ap up_text w.moved ∙ up-same b.outcome (moves_up b w.number)
    ∙ sym (ap (λ o. option_map_or (λ i. option_map_or (name_on b.outcome) (moves_up b i) (codes "-")) o (codes "-")) w.named))
