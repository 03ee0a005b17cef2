use Rattle.std.proofs.Common.{◌≡◌, ℕ, ◌+◌, ◌*◌, ◌<◌, ◌≤◌, Bool, true, false, not, ◌&&◌, ◌||◌, leb, List, [], ◌∷◌, ◌++◌, length, get_or, map, All, IsTrue, ◌⊎◌, refl, sym, ap, ◌∙◌, subst, inl, inr, arith}
use Rattle.std.proofs.lemmas.Bool.{cases_Bool, cases_lt, ltb-false, false≢true, and_parts, and_from, or_cases, or_left, or_right, le-leb, leb-true, not_from_false, not-true}
use Rattle.std.proofs.lemmas.List.{length_push, length-map, map_push, get_or_append_left, get_or_push, append-nil}
use Rattle.std.proofs.lemmas.List.Elements.{All-weaker}
use Rattle.house_base.specs.Name.{is_name}
use Rattle.house_base.specs.declared.limits.TheConstants.{MOST_APPLICANTS, MOST_OWN}
use Rattle.house_base.specs.Text.{Text, among}
use Rattle.house_model.specs.Register.{Register, IsRegister, names, own_count}
use Rattle.house_model.proofs.RegisterLemmas.{with_applicant, IsRegister-with_applicant}
use Rattle.register_book.specs.Held.{IsBook, register_of, cluster_in, named, pairs_where, text_at}
use Rattle.register_book.specs.PairList.{PairsHeld}
use Rattle.register_book.specs.Places.{PlacesHeld}
use Rattle.register_book.specs.Roll.{names_in, persons_in, own_in}
use Rattle.register_book.specs.Rows.{holds}
use Rattle.register_book.specs.declared.rows.TheConstants.{ROW_WORDS}
use Rattle.register_book.proofs.KeptLemmas.{same_register}
use Rattle.register_book.proofs.NamedLemmas.{named-append, pairs_where-same, pairs_where-name, pairs_where-person}
use Rattle.register_book.proofs.RollLemmas.{length-persons_in, persons_in-push_known, persons_in-push_new}
use Rattle.register_book.proofs.SeenLemmas.{applicants_seen, names_seen, placed_seen, own_seen, numbers_kept, cluster_in-placed, unplaced}

-- A book with more room, and one with an applicant more.

-- places with more room
pub record MoreRoom (old new : PlacesHeld) : Type 0 where
  pub placed : new.placed ≡ old.placed
  pub clusters : (k : ℕ) → get_or new.clusters k 0 ≡ get_or old.clusters k 0
  pub longer : length old.clusters ≤ length new.clusters
  pub wider : old.room ≤ new.room

-- rows of the same bits, with more of them
pub record MoreRows (old new : List ℕ) : Type 0 where
  pub bits : (r c : ℕ) → holds new r c ≡ holds old r c
  pub longer : length old ≤ length new

pub same_rows : (rows : List ℕ) → MoreRows rows rows
same_rows rows = record { bits = λ r c. refl; longer = omega arith }

-- the same pairs with more rows
pub record MorePairRows (old new : PairsHeld) : Type 0 where
  pub pairs : new.pairs ≡ old.pairs
  pub longer : length old.rows ≤ length new.rows

pub same_pairs : (pairs : PairsHeld) → MorePairRows pairs pairs
same_pairs pairs = record { pairs = refl; longer = omega arith }

module _ (xs : List (Text × Text)) (places places' : PlacesHeld) (conflicts conflicts' : List ℕ) (pairs pairs' : PairsHeld)
    (more : MoreRoom places places') (more_rows : MoreRows conflicts conflicts') (more_pair_rows : MorePairRows pairs pairs') where
  pub register_of-wider : register_of xs places' conflicts' pairs' ≡ register_of xs places conflicts pairs
  unfolding register_of
  register_of-wider =
      same_register xs places'.placed places.placed
      (pairs_where (holds conflicts') (persons_in xs) (names_in xs)) (pairs_where (holds conflicts) (persons_in xs) (names_in xs))
      (named (persons_in xs) (names_in xs) pairs'.pairs) (named (persons_in xs) (names_in xs) pairs.pairs)
      more.placed (pairs_where-same (holds conflicts') (holds conflicts) (persons_in xs) (names_in xs) more_rows.bits)
      (ap (named (persons_in xs) (names_in xs)) more_pair_rows.pairs)

  pub IsBook-wider : IsBook xs places conflicts pairs → IsBook xs places' conflicts' pairs'
  IsBook-wider h =
      let P : ℕ × ℕ → Type 0 = λ p. (p.0 < length (persons_in xs)) × (p.1 < length xs) in
      let Q : Text × ℕ → Type 0 = λ p. 1 ≤ p.1 in
      record {
        register = subst (λ r. IsRegister r) (sym register_of-wider) h.register;
        places_kept = record {
          from_one = subst (λ l. All Q l) (sym more.placed) h.places_kept.from_one;
          room = omega (arith, h.places_kept.room, more.wider);
          long = omega (arith, h.places_kept.long, more.longer);
          clusters = λ i l. more.clusters i ∙ (h.places_kept.clusters i l ∙ ap (λ p. cluster_in p (text_at (persons_in xs) i)) (sym more.placed));
          rest = λ i l. more.clusters i ∙ h.places_kept.rest i l;
        };
        conflicts_kept = record {
          long = omega (arith, h.conflicts_kept.long, more_rows.longer);
          known = λ r c t. h.conflicts_kept.known r c (sym (more_rows.bits r c) ∙ t);
        };
        pairs_kept = record {
          long = omega (arith, h.pairs_kept.long, more_pair_rows.longer);
          known = subst (λ l. All P l) (sym more_pair_rows.pairs) h.pairs_kept.known;
        };
      }

-- The persons of one applicant more: those of before, and perhaps one behind them.

pub record MorePersons (old new : List Text) (person : Text) : Type 0 where
  pub longer : length old ≤ length new
  pub by_one : length new ≤ length old + 1
  pub kept : (i : ℕ) → i < length old → get_or new i [] ≡ get_or old i []
  pub last : (i : ℕ) → i < length new → length old ≤ i → (get_or new i [] ≡ person) × (among old person ≡ false)

pub more_persons : (xs : List (Text × Text)) (x : Text × Text) → MorePersons (persons_in xs) (persons_in (xs ++ x ∷ [])) x.1
more_persons xs x = elim (cases_Bool (among (persons_in xs) x.1)) [
  | inl known ↦
      let P : List Text → Type 0 = λ l. MorePersons (persons_in xs) l x.1 in
      subst P (sym (persons_in-push_known xs x known)) (record {
        longer = omega arith;
        by_one = omega arith;
        kept = λ i l. refl;
        last = λ i l m. absurd (omega arith);
      })
  | inr new ↦
      let ps = persons_in xs in
      let P : List Text → Type 0 = λ l. MorePersons ps l x.1 in
      subst P (sym (persons_in-push_new xs x new)) (record {
        longer = omega (arith, length_push ps x.1);
        by_one = omega (arith, length_push ps x.1);
        kept = λ i l. get_or_append_left ps (x.1 ∷ []) [] i l;
        last = λ i l m. (get_or_push ps x.1 [] i (omega (arith, l, m, length_push ps x.1)), new);
      })
]

module _ (xs : List (Text × Text)) (places : PlacesHeld) (conflicts : List ℕ) (pairs : PairsHeld) (h : IsBook xs places conflicts pairs)
    (name person : Text) (new : among (names_in xs) name ≡ false) where
  same_barred : pairs_where (holds conflicts) (persons_in (xs ++ (name, person) ∷ [])) (names_in (xs ++ (name, person) ∷ []))
      ≡ pairs_where (holds conflicts) (persons_in xs) (names_in xs)
  same_barred =
      let held = holds conflicts in
      let ps = persons_in xs in
      let ns = names_in xs in
      let more = persons_in (xs ++ (name, person) ∷ []) in
      ap (pairs_where held more) (map_push (λ a. a.0) xs (name, person))
      ∙ (pairs_where-name held more ns name new (λ r c t. omega (arith, (h.conflicts_kept.known r c t).1, length-map xs (λ a. a.0)))
      ∙ elim (cases_Bool (among ps person)) [
        | inl known ↦ ap (λ l. pairs_where held l ns) (persons_in-push_known xs (name, person) known)
        | inr unknown ↦
            ap (λ l. pairs_where held l ns) (persons_in-push_new xs (name, person) unknown)
            ∙ pairs_where-person held ps ns person unknown (λ r c t. (h.conflicts_kept.known r c t).0)
      ])

  same_pairs_named : named (persons_in (xs ++ (name, person) ∷ [])) (names_in (xs ++ (name, person) ∷ [])) pairs.pairs
      ≡ named (persons_in xs) (names_in xs) pairs.pairs
  same_pairs_named =
      let ps = persons_in xs in
      let ns = names_in xs in
      let more = persons_in (xs ++ (name, person) ∷ []) in
      let numbers = numbers_kept xs places conflicts pairs h in
      ap (λ l. named more l pairs.pairs) (map_push (λ a. a.0) xs (name, person))
      ∙ elim (cases_Bool (among ps person)) [
        | inl known ↦
            ap (λ l. named l (ns ++ name ∷ []) pairs.pairs) (persons_in-push_known xs (name, person) known ∙ sym (append-nil ps))
            ∙ named-append ps [] ns (name ∷ []) pairs.pairs numbers
        | inr unknown ↦
            ap (λ l. named l (ns ++ name ∷ []) pairs.pairs) (persons_in-push_new xs (name, person) unknown)
            ∙ named-append ps (person ∷ []) ns (name ∷ []) pairs.pairs numbers
      ]

  pub register_of-applicant : register_of (xs ++ (name, person) ∷ []) places conflicts pairs ≡ with_applicant (register_of xs places conflicts pairs) name person
  unfolding register_of
  register_of-applicant =
      same_register (xs ++ (name, person) ∷ []) places.placed places.placed
      (pairs_where (holds conflicts) (persons_in (xs ++ (name, person) ∷ [])) (names_in (xs ++ (name, person) ∷ []))) (pairs_where (holds conflicts) (persons_in xs) (names_in xs))
      (named (persons_in (xs ++ (name, person) ∷ [])) (names_in (xs ++ (name, person) ∷ [])) pairs.pairs) (named (persons_in xs) (names_in xs) pairs.pairs)
      refl same_barred same_pairs_named

  -- who is no person has no cluster
  no_cluster : among (persons_in xs) person ≡ false → cluster_in places.placed person ≡ 0
  no_cluster unknown =
      let old = register_of xs places conflicts pairs in
      omega (
        arith,
        ltb-false 0 (cluster_in places.placed person)
            (sym (cluster_in-placed places.placed person h.places_kept.from_one)
            ∙ (ap (λ l. among (map (λ p. p.0) l) person) (placed_seen xs places conflicts pairs old refl)
            ∙ unplaced xs places conflicts pairs old refl h person unknown)),
      )

  pub IsBook-applicant : IsTrue (is_name name) → IsTrue (is_name person) → length xs < MOST_APPLICANTS → own_in xs person < MOST_OWN
      → length xs + 1 ≤ length places.clusters → length xs + 1 ≤ places.room
      → (length xs + 1) * ROW_WORDS ≤ length conflicts → (length xs + 1) * ROW_WORDS ≤ length pairs.rows
      → IsBook (xs ++ (name, person) ∷ []) places conflicts pairs
  IsBook-applicant formed person_formed few few_own long wide rows pair_rows =
      let old = register_of xs places conflicts pairs in
      let ps = persons_in xs in
      let more = more_persons xs (name, person) in
      let longer = length_push xs (name, person) in
      record {
        register = subst (λ r. IsRegister r) (sym register_of-applicant)
            (IsRegister-with_applicant old name person h.register formed person_formed
            (ap (λ l. among l name) (sym (names_seen xs places conflicts pairs old refl)) ∙ new)
            (omega (arith, few, ap length (applicants_seen xs places conflicts pairs old refl)))
            (omega (arith, few_own, own_seen xs places conflicts pairs old refl person)));
        places_kept = record {
          from_one = h.places_kept.from_one;
          room = omega (arith, wide, longer);
          long = omega (arith, long, length-persons_in xs, more.by_one);
          clusters = λ i l. elim (cases_lt i (length ps)) [
            | inl before ↦ h.places_kept.clusters i before ∙ ap (cluster_in places.placed) (sym (more.kept i before))
            | inr behind ↦
                let last = more.last i l behind in
                h.places_kept.rest i behind ∙ (sym (no_cluster last.1) ∙ ap (cluster_in places.placed) (sym last.0))
          ];
          rest = λ i l. h.places_kept.rest i (omega (arith, l, more.longer));
        };
        conflicts_kept = record {
          long = omega (arith, rows, length-persons_in xs, more.by_one);
          known = λ r c t.
              let both = h.conflicts_kept.known r c t in
              (omega (arith, both.0, more.longer), omega (arith, both.1, longer));
        };
        pairs_kept = record {
          long = omega (arith, pair_rows, length-persons_in xs, more.by_one);
          known = All-weaker (λ p. (p.0 < length ps) × (p.1 < length xs)) (λ p. (p.0 < length (persons_in (xs ++ (name, person) ∷ []))) × (p.1 < length (xs ++ (name, person) ∷ [])))
              (λ p both. (omega (arith, both.0, more.longer), omega (arith, both.1, longer))) pairs.pairs h.pairs_kept.known;
        };
      }

-- Whether an applicant may come.

module _ (xs : List (Text × Text)) (places : PlacesHeld) (conflicts : List ℕ) (pairs : PairsHeld) (reg : Register) (seen : register_of xs places conflicts pairs ≡ reg)
    (name person : Text) where
  pub name_seen : (known : Bool) → among (names_in xs) name ≡ known → among (names reg) name ≡ known
  name_seen known e = ap (λ l. among l name) (sym (names_seen xs places conflicts pairs reg seen)) ∙ e

  -- there are too many already
  abbrev pub are_too_many : Bool
  are_too_many = not (among (names reg) name) && (leb MOST_APPLICANTS (length reg.applicants) || leb MOST_OWN (own_count reg person))

  pub too_many_seen : among (names_in xs) name ≡ false → (MOST_APPLICANTS ≤ length xs) ⊎ (MOST_OWN ≤ own_in xs person) → are_too_many ≡ true
  too_many_seen new full =
      let many = leb MOST_APPLICANTS (length reg.applicants) in
      let many_own = leb MOST_OWN (own_count reg person) in
      and_from (not (among (names reg) name)) (many || many_own) (not_from_false (among (names reg) name) (name_seen false new))
      (elim full [
        | inl l ↦ or_left many many_own (le-leb MOST_APPLICANTS (length reg.applicants) (omega (arith, l, ap length (applicants_seen xs places conflicts pairs reg seen))))
        | inr l ↦ or_right many many_own (le-leb MOST_OWN (own_count reg person) (omega (arith, l, own_seen xs places conflicts pairs reg seen person)))
      ])

  pub too_many_known : among (names_in xs) name ≡ true → are_too_many ≡ true → ⊥
  too_many_known known e =
      let both = and_parts (not (among (names reg) name)) (leb MOST_APPLICANTS (length reg.applicants) || leb MOST_OWN (own_count reg person)) e in
      false≢true (sym (not-true (among (names reg) name) both.0) ∙ name_seen true known)

  pub few_seen : length xs < MOST_APPLICANTS → own_in xs person < MOST_OWN → are_too_many ≡ true → ⊥
  few_seen few few_own e =
      let many = leb MOST_APPLICANTS (length reg.applicants) in
      let many_own = leb MOST_OWN (own_count reg person) in
      elim (or_cases many many_own (and_parts (not (among (names reg) name)) (many || many_own) e).1) [
        | inl full ↦ omega (arith, few, leb-true MOST_APPLICANTS (length reg.applicants) full, ap length (applicants_seen xs places conflicts pairs reg seen))
        | inr full ↦ omega (arith, few_own, leb-true MOST_OWN (own_count reg person) full, own_seen xs places conflicts pairs reg seen person)
      ]
