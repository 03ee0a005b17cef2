-- A line is read in one way.
use Rattle.std.proofs.Common.{◌≡◌, ℕ, ◌≤◌, Bool, true, false, refl, sym, ap, ◌∙◌, subst, Some, None}
use Rattle.std.specs.Prelude.{not}
use Rattle.std.proofs.Math.Bridge.{le_prop}
use Rattle.std.proofs.lemmas.Bool.{and_parts, not-true, true≢false}
use Rattle.hex.proofs.HexLemmas.{decode_of-same}
use Rattle.house_base.specs.declared.call.Call.{Call}
use Rattle.house_base.specs.declared.answer.Reason.{Reason}
use Rattle.house_base.specs.declared.limits.TheConstants.{MOST_SEATS, FEWEST_CLUSTERS, MOST_CLUSTERS, MOST_REVIEWS}
use Rattle.house_base.specs.Text.{Text}
use Rattle.house_model.specs.declared.command.Command.{Command}
use Rattle.house_model.specs.declared.command.Command.TheVariants as command
use Rattle.house_model.specs.Commands.{verb_of_command}
use Rattle.house_model.specs.Text.{is_blank}
use Rattle.house_model.specs.Verbs.{is_house, is_review}
use Rattle.command_text.specs.declared.line.Line.{Line}
use Rattle.command_text.specs.declared.line.Line.TheVariants as kind
use Rattle.command_text.specs.Reading.{Reads, Carries, reading_fault}

abbrev InRange : ℕ → ℕ → ℕ → Type 0
InRange low high n = (low ≤ n) × (n ≤ high)

in_range_once : (low high n : ℕ) (p q : InRange low high n) → p ≡ q
in_range_once low high n = prop
  where
    prop : IsProp (InRange low high n)
    prop = hlevel le_prop

-- a call is its three numbers
abbrev call_of : (seats clusters reviews : ℕ) → InRange 1 MOST_SEATS seats → InRange FEWEST_CLUSTERS MOST_CLUSTERS clusters → InRange 1 MOST_REVIEWS reviews → Call
call_of seats clusters reviews p q r = record { seats = seats; clusters = clusters; reviews = reviews; seats_in_range = p; clusters_in_range = q; reviews_in_range = r }

same_reviews : (s c r t : ℕ) (p : InRange 1 MOST_SEATS s) (q : InRange FEWEST_CLUSTERS MOST_CLUSTERS c) (u : InRange 1 MOST_REVIEWS r) (v : InRange 1 MOST_REVIEWS t) →
    r ≡ t → call_of s c r p q u ≡ call_of s c t p q v
same_reviews s c r t p q u v h =
    subst (λ t. (v : InRange 1 MOST_REVIEWS t) → call_of s c r p q u ≡ call_of s c t p q v) h (λ v. ap (call_of s c r p q) (in_range_once 1 MOST_REVIEWS r u v)) v

same_clusters : (s c d r t : ℕ) (p : InRange 1 MOST_SEATS s) (q : InRange FEWEST_CLUSTERS MOST_CLUSTERS c) (w : InRange FEWEST_CLUSTERS MOST_CLUSTERS d)
    (u : InRange 1 MOST_REVIEWS r) (v : InRange 1 MOST_REVIEWS t) → c ≡ d → r ≡ t → call_of s c r p q u ≡ call_of s d t p w v
same_clusters s c d r t p q w u v h k =
    subst (λ d. (w : InRange FEWEST_CLUSTERS MOST_CLUSTERS d) → call_of s c r p q u ≡ call_of s d t p w v) h
    (λ w. same_reviews s c r t p q u v k ∙ ap (λ x. call_of s c t p x v) (in_range_once FEWEST_CLUSTERS MOST_CLUSTERS c q w)) w

same_call : (a b : Call) → a.seats ≡ b.seats → a.clusters ≡ b.clusters → a.reviews ≡ b.reviews → a ≡ b
same_call a b h k l =
    subst (λ s. (p : InRange 1 MOST_SEATS s) → a ≡ call_of s b.clusters b.reviews p b.clusters_in_range b.reviews_in_range) h
    (λ p. same_clusters a.seats a.clusters b.clusters a.reviews b.reviews a.seats_in_range a.clusters_in_range b.clusters_in_range a.reviews_in_range b.reviews_in_range k l
    ∙ ap (λ x. call_of a.seats b.clusters b.reviews x b.clusters_in_range b.reviews_in_range) (in_range_once 1 MOST_SEATS a.seats a.seats_in_range p)) b.seats_in_range

-- two commands of one verb and of the same words
same_carried : (line : Text) (a b : Command) → verb_of_command a ≡ verb_of_command b → Carries a line → Carries b line → a ≡ b
same_carried line (command.Call a) (command.Call b) v h k = ap command.Call (same_call a b (h.0 ∙ sym k.0) (h.1 ∙ sym k.1) (h.2 ∙ sym k.2))
same_carried line (command.Applicant a b) (command.Applicant c d) v h k = ap (λ x. command.Applicant x.0 x.1) (h ∙ sym k)
same_carried line (command.Conflict a b) (command.Conflict c d) v h k = ap (λ x. command.Conflict x.0 x.1) (h ∙ sym k)
same_carried line (command.Place a b) (command.Place c d) v h k = ap (λ x. command.Place x.0 x.1) (h ∙ sym k)
same_carried line (command.Partition a) (command.Partition b) v h k = ap command.Partition (h ∙ sym k)
same_carried line (command.Pair a b) (command.Pair c d) v h k = ap (λ x. command.Pair x.0 x.1) (h ∙ sym k)
same_carried line (command.Seal a) (command.Seal b) v h k = ap command.Seal (decode_of-same _ a b h k)
same_carried line command.Assign command.Assign v h k = refl
same_carried line command.Close command.Close v h k = refl
same_carried line (command.Draw a) (command.Draw b) v h k = ap command.Draw (h ∙ sym k)
same_carried line (command.Lottery a) (command.Lottery b) v h k = ap command.Lottery (h ∙ sym k)
same_carried line a b v h k = cc v

-- a line of the house is neither blank nor a review line
pub house_parts : (line : Text) → is_house line ≡ true → (is_blank line ≡ false) × (is_review line ≡ false)
unfolding is_house
house_parts line h =
    let parts = and_parts (not (is_blank line)) (not (is_review line)) h in
    (not-true (is_blank line) parts.0, not-true (is_review line) parts.1)

no_both : (b : Bool) → b ≡ true → b ≡ false → ⊥
no_both b is is_not = true≢false (sym is ∙ is_not)

fault_or_none : (line : Text) (r : Reason) → reading_fault line ≡ None → reading_fault line ≡ Some r → ⊥
fault_or_none line r none some = cc

pub reads_once : (line : Text) (a b : Line) → Reads line a → Reads line b → a ≡ b
reads_once line kind.Blank kind.Blank h k = refl
reads_once line kind.Blank (kind.Review r) h k = absurd (no_both (is_blank line) h k.0)
reads_once line kind.Blank (kind.House c) h k = absurd (no_both (is_blank line) h (house_parts line k.house).0)
reads_once line kind.Blank (kind.Bad v r) h k = absurd (no_both (is_blank line) h (house_parts line k.house).0)
reads_once line (kind.Review r) kind.Blank h k = absurd (no_both (is_blank line) k h.0)
reads_once line (kind.Review r) (kind.Review q) h k = ap kind.Review (h.2 ∙ sym k.2)
reads_once line (kind.Review r) (kind.House c) h k = absurd (no_both (is_review line) h.1 (house_parts line k.house).1)
reads_once line (kind.Review r) (kind.Bad v q) h k = absurd (no_both (is_review line) h.1 (house_parts line k.house).1)
reads_once line (kind.House c) kind.Blank h k = absurd (no_both (is_blank line) k (house_parts line h.house).0)
reads_once line (kind.House c) (kind.Review r) h k = absurd (no_both (is_review line) k.1 (house_parts line h.house).1)
reads_once line (kind.House c) (kind.House d) h k = ap kind.House (same_carried line c d (h.verb ∙ sym k.verb) h.carries k.carries)
reads_once line (kind.House c) (kind.Bad v r) h k = absurd (fault_or_none line r h.no_fault k.fault)
reads_once line (kind.Bad v r) kind.Blank h k = absurd (no_both (is_blank line) k (house_parts line h.house).0)
reads_once line (kind.Bad v r) (kind.Review q) h k = absurd (no_both (is_review line) k.1 (house_parts line h.house).1)
reads_once line (kind.Bad v r) (kind.House c) h k = absurd (fault_or_none line r k.no_fault h.fault)
reads_once line (kind.Bad v r) (kind.Bad u q) h k =
    let reasons : Some r ≡ Some q = sym h.fault ∙ k.fault in
    let reason : r ≡ q = cc reasons in
    ap (λ w. kind.Bad w r) (h.verb ∙ sym k.verb) ∙ ap (kind.Bad u) reason
