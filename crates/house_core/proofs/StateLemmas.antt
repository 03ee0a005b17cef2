-- What the answers of the register, of the plan and of the pairs mean for a state.
use Rattle.std.proofs.Common.{◌≡◌, ◌≢◌, ℕ, ◌<◌, ◌≤◌, Bool, true, false, eqb, arith, Option, Some, None, List, [], ◌∷◌, length, map, refl, sym, ap, ◌∙◌, Result, Ok, Err}
use Rattle.std.specs.Prelude.{◌&&◌, ◌||◌, not, IsTrue, ◌↔◌, nat_le, IsSomeAnd, IfOk, OnOk, if◌then◌else◌}
use Rattle.std.proofs.lemmas.Result.{IfOk-weaker}
use Rattle.house_base.specs.declared.limits.TheConstants.{MOST_APPLICANTS, MOST_OWN}
use Rattle.house_base.specs.declared.answer.Reason.{Reason}
use Rattle.house_base.specs.declared.answer.Reason.TheVariants as reason
use Rattle.house_base.specs.Setting.{Setting, size}
use Rattle.house_base.specs.Text.{Text, among}
use Rattle.peer_selection.specs.Profile.{Pairs}
use Rattle.peer_selection.proofs.SameLemmas.{is_valid-same}
use Rattle.house_model.specs.declared.command.Command.TheVariants as command
use Rattle.house_model.specs.Register.{Register, names, persons, firsts, own_count, pair_among}
use Rattle.house_model.specs.Said.{denominator_of}
use Rattle.register_book.specs.declared.fault.BookFault.{BookFault}
use Rattle.register_book.specs.declared.fault.BookFault.TheVariants as book
use Rattle.seat_quota.specs.Tally.{DeskTotals, IsTally}
use Rattle.house_core.specs.declared.round.Round.{Round}
use Rattle.house_core.specs.declared.round.Stop.{Stop}
use Rattle.house_core.specs.declared.state.State.{State}
use Rattle.house_core.specs.Standing.{StopsAt, BeginsReviews, IsSilent, own_halt}
use Rattle.house_core.specs.Stops.{stop_of}
use Rattle.house_core.proofs.RefusalLemmas.{halt_by}

-- on tests

pub not_so : (b : Bool) → (IsTrue b → ⊥) → b ≡ false
not_so true h = absurd (h refl)
not_so false h = refl

-- the first of two reasons that fits
abbrev pub either : Bool → Reason → Bool → Reason → Option Reason
either a p b q = if a then Some p else if b then Some q else None

neither : (a b : Bool) (p q : Reason) → a ≡ false → b ≡ false → either a p b q ≡ None
neither true b p q h k = cc
neither false b p q h k = rw k refl

first : (a b : Bool) (p q : Reason) → a ≡ true → either a p b q ≡ Some p
first a b p q h = rw h refl

second : (a b : Bool) (p q : Reason) → a ≡ false → b ≡ true → either a p b q ≡ Some q
second a b p q h k = rw (h, k) refl

rest_fails : (a b : Bool) → a ≡ false → (not a && b) ≡ false → b ≡ false
rest_fails true b h k = cc
rest_fails false b h k = k

rest_holds : (a b : Bool) → (not a && b) ≡ true → (a ≡ false) × (b ≡ true)
rest_holds true b h = cc
rest_holds false b h = (refl, h)

-- an answer of the register, as the clauses of its calls write it
abbrev pub Answer : Type 0
Answer = Result (Unit {0}) BookFault

-- an answer that is given exactly where a test holds, beside an answer that it is not
abbrev pub TellsOf : Answer → BookFault → Bool → Type 0
TellsOf r fault b = (r ≡ Err fault) ↔ IsTrue b

-- an applicant that may be entered, and why one may not
abbrev pub is_full : Register → Text → Bool
is_full reg person = nat_le MOST_APPLICANTS (length reg.applicants) || nat_le MOST_OWN (own_count reg person)

pub entered : (s : State) (name person : Text) → TellsOf (Ok tt) book.Known (among (names s.book) name) →
    TellsOf (Ok tt) book.TooMany (not (among (names s.book) name) && is_full s.book person) → own_halt s (command.Applicant name person) ≡ None
entered s name person known many =
    let fresh = not_so _ (λ h. let e = known.1 h in cc) in
    ap (λ o. halt_by o false)
    (neither (among (names s.book) name) (is_full s.book person) reason.Known reason.TooMany fresh (rest_fails _ _ fresh (not_so _ (λ h. let e = many.1 h in cc))))

pub not_entered : (s : State) (name person : Text) (fault : BookFault) → TellsOf (Err fault) book.Known (among (names s.book) name) →
    TellsOf (Err fault) book.TooMany (not (among (names s.book) name) && is_full s.book person) → (◌≢◌ {A = Answer} (Err fault) (Err book.Unknown)) →
    StopsAt s (command.Applicant name person) (stop_of fault)
not_entered s name person book.Known known many never =
    ap (λ o. halt_by o false) (first (among (names s.book) name) (is_full s.book person) reason.Known reason.TooMany (known.0 refl))
not_entered s name person book.Unknown known many never = absurd (never refl)
not_entered s name person book.TooMany known many never =
    let parts = rest_holds (among (names s.book) name) (is_full s.book person) (many.0 refl) in
    ap (λ o. halt_by o false) (second (among (names s.book) name) (is_full s.book person) reason.Known reason.TooMany parts.0 parts.1)
not_entered s name person book.Memory known many never =
    let fresh = not_so _ (λ h. let e = known.1 h in cc) in
    ap (λ o. halt_by o false)
    (neither (among (names s.book) name) (is_full s.book person) reason.Known reason.TooMany fresh (rest_fails _ _ fresh (not_so _ (λ h. let e = many.1 h in cc))))

-- a pair that may be noted, and why one may not
abbrev pub is_unknown : Register → Text → Text → Bool
is_unknown reg person proposal = not (among (persons reg) person && among (names reg) proposal)

pub paired : (s : State) (person proposal : Text) → TellsOf (Ok tt) book.Known (pair_among s.book.pairs person proposal) →
    TellsOf (Ok tt) book.Unknown (is_unknown s.book person proposal) → own_halt s (command.Pair person proposal) ≡ None
paired s person proposal known unknown =
    ap (λ o. halt_by o false)
    (neither (pair_among s.book.pairs person proposal) (is_unknown s.book person proposal) reason.Known reason.Unknown
    (not_so _ (λ h. let e = known.1 h in cc)) (not_so _ (λ h. let e = unknown.1 h in cc)))

pub not_paired : (s : State) (person proposal : Text) (fault : BookFault) → TellsOf (Err fault) book.Known (pair_among s.book.pairs person proposal) →
    TellsOf (Err fault) book.Unknown (is_unknown s.book person proposal) → (◌≢◌ {A = Answer} (Err fault) (Err book.TooMany)) → StopsAt s (command.Pair person proposal) (stop_of fault)
not_paired s person proposal book.Known known unknown many =
    ap (λ o. halt_by o false) (first (pair_among s.book.pairs person proposal) (is_unknown s.book person proposal) reason.Known reason.Unknown (known.0 refl))
not_paired s person proposal book.Unknown known unknown many =
    ap (λ o. halt_by o false)
    (second (pair_among s.book.pairs person proposal) (is_unknown s.book person proposal) reason.Known reason.Unknown (not_so _ (λ h. let e = known.1 h in cc)) (unknown.0 refl))
not_paired s person proposal book.TooMany known unknown many = absurd (many refl)
not_paired s person proposal book.Memory known unknown many =
    ap (λ o. halt_by o false)
    (neither (pair_among s.book.pairs person proposal) (is_unknown s.book person proposal) reason.Known reason.Unknown
    (not_so _ (λ h. let e = known.1 h in cc)) (not_so _ (λ h. let e = unknown.1 h in cc)))

-- where somebody applied there is a person
some_firsts : (xs : List (Text × Text)) → eqb (length xs) 0 ≡ false → 1 ≤ length (firsts (map (λ a. a.1) xs))
some_firsts [] h = cc
some_firsts (x ∷ xs) h = omega arith

some_denominator : (reg : Register) → eqb (length reg.applicants) 0 ≡ false → 1 ≤ denominator_of reg
unfolding denominator_of persons
some_denominator reg h = omega (arith, some_firsts reg.applicants h)

pub some_once_begun : (reg : Register) (r : Result Round Stop) → eqb (length reg.applicants) 0 ≡ false → OnOk r (1 ≤ denominator_of reg)
some_once_begun reg (Ok round) h = some_denominator reg h
some_once_begun reg (Err why) h = tt

-- pairs that are the same begin the same reviews
silent_as : (plan : Setting) (p q : Pairs) (tally : Option DeskTotals) → ((a b : ℕ) → a < size plan → b < size plan → p a b ≡ q a b) →
    IsSomeAnd tally (λ t. IsSilent plan p t × IsTally plan t) → IsSomeAnd tally (λ t. IsSilent plan q t × IsTally plan t)
silent_as plan p q None same h = absurd h
silent_as plan p q (Some t) same h = (
  record {
    held = record { side = h.0.held.side; cells = λ a b al bl. h.0.held.cells a b al bl ∙ same a b al bl };
    valid = sym (is_valid-same plan p q same) ∙ h.0.valid;
    silent = h.0.silent;
  },
  h.1,
)

pub begins_as : (plan : Setting) (p q : Pairs) (r : Result Round Stop) → ((a b : ℕ) → a < size plan → b < size plan → p a b ≡ q a b) →
    IfOk r (BeginsReviews plan p) → IfOk r (BeginsReviews plan q)
begins_as plan p q r same h =
    IfOk-weaker r (BeginsReviews plan p) (BeginsReviews plan q) (λ round begins. record { plan = begins.plan; silent = silent_as plan p q round.tally same begins.silent }) h
