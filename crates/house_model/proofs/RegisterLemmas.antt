use Rattle.std.proofs.Common.{◌≡◌, ℕ, ◌+◌, ◌<◌, ◌≤◌, ◌≢◌, true, false, ◌||◌, cond, List, [], ◌∷◌, ◌++◌, length, map, All, AllPairs, bytes_eq, IsTrue, refl, sym, ap, ◌∙◌, subst, inl, inr, arith}
use Rattle.std.specs.List.{list_any}
use Rattle.std.proofs.lemmas.Bool.{cond_both}
use Rattle.std.proofs.lemmas.List.{length_push, map_push, length-map}
use Rattle.std.proofs.lemmas.List.Elements.{All-push, All-nil}
use Rattle.std.proofs.lemmas.List.Sums.{sum_by_push}
use Rattle.house_base.specs.Name.{is_name}
use Rattle.house_base.specs.declared.limits.TheConstants.{MOST_APPLICANTS, MOST_OWN}
use Rattle.house_base.specs.Text.{Text, among}
use Rattle.house_base.proofs.InOrderLemmas.{In, Apart, All-In, All-from_In, In-append_left, AllPairs-from_InOrder, InOrder-from_AllPairs, InOrder-push}
use Rattle.house_base.proofs.AmongLemmas.{same_text, among-In, In-among, not_In}
use Rattle.house_model.specs.Register.{Register, IsRegister, names, persons, placed_names, own_count}
use Rattle.house_model.proofs.GroupLemmas.{among-firsts, length-firsts, length-Apart}

-- What holds of a register, and how it is kept.

-- the persons of the applicants, in register order
abbrev pub their_persons : Register → List Text
their_persons reg = map (λ a. a.1) reg.applicants

pub among_persons : (reg : Register) (t : Text) → among (persons reg) t ≡ among (their_persons reg) t
unfolding persons
among_persons reg t = among-firsts (their_persons reg) t

pub length-persons : (reg : Register) → length (persons reg) ≤ length reg.applicants
unfolding persons
length-persons reg = omega (arith, length-firsts (their_persons reg), length-map reg.applicants (λ a. a.1))

abbrev pub empty_register : Register
empty_register = record { applicants = []; placed = []; barred = []; pairs = [] }

pub IsRegister-empty : IsRegister empty_register
unfolding own_count
IsRegister-empty = record {
  few = omega arith;
  names_differ = λ i j d below l. absurd (omega arith);
  names_formed = All-nil (λ a. IsTrue (is_name a.0) × IsTrue (is_name a.1));
  own = λ person. omega arith;
  placed_differ = λ i j d below l. absurd (omega arith);
  placed_persons = All-nil (λ p. IsTrue (among (persons empty_register) p));
}

-- with one more applicant
abbrev pub with_applicant : Register → Text → Text → Register
with_applicant reg name person = record reg { applicants = reg.applicants ++ (name, person) ∷ [] }

-- with one more place
abbrev pub with_place : Register → Text → ℕ → Register
with_place reg person cluster = record reg { placed = reg.placed ++ (person, cluster) ∷ [] }

-- with one more pair of a hand-made assignment
abbrev pub with_pair : Register → Text → Text → Register
with_pair reg person proposal = record reg { pairs = reg.pairs ++ (person, proposal) ∷ [] }

push_apart : (xs : List Text) (t : Text) → AllPairs (λ a b. a ≢ b) xs → among xs t ≡ false → AllPairs (λ a b. a ≢ b) (xs ++ t ∷ [])
push_apart xs t o new =
    AllPairs-from_InOrder (λ a b. a ≢ b) (xs ++ t ∷ [])
    (InOrder-push (λ a b. a ≢ b) xs t (InOrder-from_AllPairs (λ a b. a ≢ b) xs o)
    (λ x m e. let P : Text → Type 0 = λ y. In y xs in not_In xs t new (subst P e m)))

own_count-with_applicant : (reg : Register) (name person p : Text) → own_count (with_applicant reg name person) p ≡ own_count reg p + cond (bytes_eq person p) 1 0
unfolding own_count
own_count-with_applicant reg name person p = sum_by_push (λ a. cond (bytes_eq a.1 p) 1 0) reg.applicants (name, person)

their_persons-push : (reg : Register) (name person : Text) → their_persons (with_applicant reg name person) ≡ their_persons reg ++ person ∷ []
their_persons-push reg name person = map_push (λ a. a.1) reg.applicants (name, person)

-- who is a person stays one
person_stays : (reg : Register) (name person p : Text) → among (persons reg) p ≡ true → among (persons (with_applicant reg name person)) p ≡ true
person_stays reg name person p h =
    among_persons (with_applicant reg name person) p
    ∙ (ap (λ l. among l p) (their_persons-push reg name person)
    ∙ In-among (their_persons reg ++ person ∷ []) p (In-append_left p (their_persons reg) (person ∷ []) (among-In (their_persons reg) p (sym (among_persons reg p) ∙ h))))

pub IsRegister-with_applicant : (reg : Register) (name person : Text) → IsRegister reg → IsTrue (is_name name) → IsTrue (is_name person)
    → among (names reg) name ≡ false → length reg.applicants < MOST_APPLICANTS → own_count reg person < MOST_OWN → IsRegister (with_applicant reg name person)
IsRegister-with_applicant reg name person h name_formed person_formed new room few_own = record {
  few = omega (arith, length_push reg.applicants (name, person), room);
  names_differ =
      subst (λ l. AllPairs (λ a b. a ≢ b) l) (sym (map_push (λ a. a.0) reg.applicants (name, person))) (push_apart (names reg) name h.names_differ new);
  names_formed = All-push (λ a. IsTrue (is_name a.0) × IsTrue (is_name a.1)) reg.applicants (name, person) h.names_formed (name_formed, person_formed);
  own = λ p. rw own_count-with_applicant (cond_both (bytes_eq person p) 1 0 (λ n. own_count reg p + n ≤ MOST_OWN)
      (λ same. omega (arith, few_own, ap (own_count reg) (same_text person p same)))
      (λ other. omega (arith, h.own p)));
  placed_differ = h.placed_differ;
  placed_persons = All-from_In (λ p. IsTrue (among (persons (with_applicant reg name person)) p)) (placed_names reg)
      (λ p m. person_stays reg name person p (All-In (λ q. IsTrue (among (persons reg) q)) (placed_names reg) p h.placed_persons m));
}

pub IsRegister-with_place : (reg : Register) (person : Text) (cluster : ℕ) → IsRegister reg
    → among (persons reg) person ≡ true → among (placed_names reg) person ≡ false → IsRegister (with_place reg person cluster)
unfolding persons own_count
IsRegister-with_place reg person cluster h known new = record {
  few = h.few;
  names_differ = h.names_differ;
  names_formed = h.names_formed;
  own = h.own;
  placed_differ =
      subst (λ l. AllPairs (λ a b. a ≢ b) l) (sym (map_push (λ p. p.0) reg.placed (person, cluster))) (push_apart (placed_names reg) person h.placed_differ new);
  placed_persons =
      subst (λ l. All (λ p. IsTrue (among (persons reg) p)) l) (sym (map_push (λ p. p.0) reg.placed (person, cluster)))
      (All-push (λ p. IsTrue (among (persons reg) p)) (placed_names reg) person h.placed_persons known);
}

pub IsRegister-with_pair : (reg : Register) (person proposal : Text) → IsRegister reg → IsRegister (with_pair reg person proposal)
unfolding persons own_count
IsRegister-with_pair reg person proposal h = record {
  few = h.few;
  names_differ = h.names_differ;
  names_formed = h.names_formed;
  own = h.own;
  placed_differ = h.placed_differ;
  placed_persons = h.placed_persons;
}

-- while a person has no place, there are fewer places than applicants
pub fewer_placed : (reg : Register) (person : Text) → IsRegister reg → among (persons reg) person ≡ true → among (placed_names reg) person ≡ false
    → length reg.placed < length reg.applicants
fewer_placed reg person h known new =
    let placed = placed_names reg in
    let apart : Apart (person ∷ placed_names reg) = (λ y m e. let P : Text → Type 0 = λ z. In z (placed_names reg) in not_In (placed_names reg) person new (subst P (sym e) m), InOrder-from_AllPairs (λ a b. a ≢ b) (placed_names reg) h.placed_differ) in
    omega (
      arith,
      length-persons reg,
      length-map reg.placed (λ p. p.0),
      length-Apart (person ∷ placed_names reg) (persons reg) apart
          (λ t m. elim m [
            | inl e ↦ among-In (persons reg) t (ap (among (persons reg)) e ∙ known)
            | inr there ↦ among-In (persons reg) t (All-In (λ q. IsTrue (among (persons reg) q)) (placed_names reg) t h.placed_persons there)
          ]),
    )

-- Tests of a register, by its lists.

-- whether a text is that of some element
pub among-map : {X : Type 0} (f : X → Text) (xs : List X) (t : Text) → among (map f xs) t ≡ list_any (λ x. bytes_eq t (f x)) xs
unfolding among
among-map f [] t = refl
among-map f (x ∷ xs) t = ap (λ b. bytes_eq t (f x) || b) (among-map f xs t)

-- there are no more places than applicants
pub length-placed : (reg : Register) → IsRegister reg → length reg.placed ≤ length reg.applicants
length-placed reg h =
    omega (
      arith,
      length-persons reg,
      length-map reg.placed (λ p. p.0),
      length-Apart (placed_names reg) (persons reg) (InOrder-from_AllPairs (λ a b. a ≢ b) (placed_names reg) h.placed_differ)
          (λ t m. among-In (persons reg) t (All-In (λ q. IsTrue (among (persons reg) q)) (placed_names reg) t h.placed_persons m)),
    )
