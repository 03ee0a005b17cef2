use Rattle.std.proofs.Common.{◌≡◌, ◌≢◌, ℕ, ◌<◌, ◌≤◌, Bool, true, false, ◌&&◌, ◌||◌, cond, eqb, List, [], ◌∷◌, ◌++◌, Option, Some, None, length, get_or, set, map, find, All, bytes_eq, refl, sym, ap, ◌∙◌, subst, inl, inr, arith}
use Rattle.std.specs.List.{list_any}
use Rattle.std.specs.Option.{option_map_or}
use Rattle.std.proofs.lemmas.Bool.{cases_eq, false≢true, or_parts, or_cases, and_parts, eqb-true}
use Rattle.std.proofs.lemmas.List.{length-set, get_or-set_same, get_or-set_other}
use Rattle.std.proofs.lemmas.List.Elements.{All-nil, All-push}
use Rattle.house_base.specs.Text.{Text, among}
use Rattle.house_base.proofs.AmongLemmas.{bytes_eq-same, bytes_eq-other, bytes_eq-swap}
use Rattle.house_model.specs.Register.{Register, IsRegister, persons, own_count}
use Rattle.house_model.proofs.RegisterLemmas.{empty_register, with_place, with_pair, IsRegister-empty, IsRegister-with_place, IsRegister-with_pair}
use Rattle.register_book.specs.Held.{IsBook, register_of, cluster_in, named, pairs_where, text_at}
use Rattle.register_book.specs.PairList.{PairsHeld}
use Rattle.register_book.specs.Places.{PlacesHeld}
use Rattle.name_index.specs.Index.{number_in}
use Rattle.register_book.specs.Roll.{names_in, persons_in}
use Rattle.register_book.specs.Rows.{holds}
use Rattle.register_book.proofs.BitLemmas.{holds-none}
use Rattle.name_index.proofs.IndexLemmas.{at-number_in, known-number_in, number_in-at}
use Rattle.register_book.proofs.NamedLemmas.{named-push, pairs_where-none}
use Rattle.register_book.proofs.RollLemmas.{persons_in-differ}
use Rattle.register_book.proofs.SeenLemmas.{persons_seen, placed_seen}

-- How a register is kept.

pub same_register : (a : List (Text × Text)) (b c : List (Text × ℕ)) (d e f g : List (Text × Text)) → b ≡ c → d ≡ e → f ≡ g
    → ◌≡◌ {A = Register} (record { applicants = a; placed = b; barred = d; pairs = f }) (record { applicants = a; placed = c; barred = e; pairs = g })
same_register a b c d e f g p q r =
    ap (λ x. record { applicants = a; placed = x; barred = d; pairs = f }) p
    ∙ (ap (λ x. record { applicants = a; placed = c; barred = x; pairs = f }) q
    ∙ ap (λ x. record { applicants = a; placed = c; barred = e; pairs = x }) r)

-- An empty book.

pub register_of-empty : (xs : List (Text × Text)) (places : PlacesHeld) (conflicts : List ℕ) (pairs : PairsHeld)
    → xs ≡ [] → places.placed ≡ [] → pairs.pairs ≡ [] → register_of xs places conflicts pairs ≡ empty_register
unfolding register_of persons_in named
register_of-empty xs places conflicts pairs e f g =
    ap (λ l. register_of l places conflicts pairs) e
    ∙ same_register [] places.placed [] (pairs_where (holds conflicts) [] []) [] (named [] [] pairs.pairs) [] f (pairs_where-none (holds conflicts) [])
    (ap (named [] []) g)

pub IsBook-empty : (xs : List (Text × Text)) (places : PlacesHeld) (conflicts : List ℕ) (pairs : PairsHeld)
    → xs ≡ [] → places.placed ≡ [] → places.clusters ≡ [] → conflicts ≡ [] → pairs ≡ record { pairs = []; rows = [] } → IsBook xs places conflicts pairs
unfolding persons_in
IsBook-empty xs places conflicts pairs e f g i j =
    let register = subst (λ r. IsRegister r) (sym (register_of-empty xs places conflicts pairs e f (ap (λ q. q.pairs) j))) IsRegister-empty in
    let none : length (persons_in xs) ≡ 0 = ap (λ l. length (persons_in l)) e in
    record {
      register = register;
      places_kept = record {
        from_one = subst (λ l. All (λ p. 1 ≤ p.1) l) (sym f) (All-nil (λ p. 1 ≤ p.1));
        room = omega (arith, ap length e);
        long = omega (arith, none);
        clusters = λ k l. absurd (omega (arith, none, l));
        rest = λ k l. ap (λ c. get_or c k 0) g;
      };
      conflicts_kept = record {
        long = omega (arith, none);
        known = λ r c t. absurd (false≢true (sym (ap (λ w. holds w r c) i ∙ holds-none r c) ∙ t));
      };
      pairs_kept = record {
        long = omega (arith, none);
        known = subst (λ l. All (λ p. (p.0 < length (persons_in xs)) × (p.1 < length xs)) l) (sym (ap (λ q. q.pairs) j))
            (All-nil (λ p. (p.0 < length (persons_in xs)) × (p.1 < length xs)));
      };
    }

-- A book with one conflict more.

-- with these pairs that may not be
abbrev pub with_barred : List (Text × Text) → Register → Register
with_barred barred reg = record reg { barred = barred }

IsRegister-barred : (reg : Register) (barred : List (Text × Text)) → IsRegister reg → IsRegister (record reg { barred = barred })
unfolding persons own_count
IsRegister-barred reg barred h = record {
  few = h.few;
  names_differ = h.names_differ;
  names_formed = h.names_formed;
  own = h.own;
  placed_differ = h.placed_differ;
  placed_persons = h.placed_persons;
}

pub register_of-conflict : (xs : List (Text × Text)) (places : PlacesHeld) (conflicts more : List ℕ) (pairs : PairsHeld)
    → register_of xs places more pairs ≡ record (register_of xs places conflicts pairs) { barred = (register_of xs places more pairs).barred }
unfolding register_of
register_of-conflict xs places conflicts more pairs = refl

module _ (xs : List (Text × Text)) (places : PlacesHeld) (conflicts : List ℕ) (pairs : PairsHeld) (h : IsBook xs places conflicts pairs) where
  pub IsBook-conflict : (more : List ℕ) (person name : ℕ) → length more ≡ length conflicts
      → ((r c : ℕ) → holds more r c ≡ (holds conflicts r c || (eqb r person && eqb c name)))
      → person < length (persons_in xs) → name < length xs → IsBook xs places more pairs
  IsBook-conflict more person name same step below name_below = record {
    register = subst (λ r. IsRegister r) (sym (register_of-conflict xs places conflicts more pairs))
        (IsRegister-barred (register_of xs places conflicts pairs) (register_of xs places more pairs).barred h.register);
    places_kept = h.places_kept;
    conflicts_kept = record {
      long = omega (arith, h.conflicts_kept.long, same);
      known = λ r c t. elim (or_cases (holds conflicts r c) (eqb r person && eqb c name) (sym (step r c) ∙ t)) [
        | inl before ↦ h.conflicts_kept.known r c before
        | inr now ↦
            let both = and_parts (eqb r person) (eqb c name) now in
            (omega (arith, below, eqb-true r person both.0), omega (arith, name_below, eqb-true c name both.1))
      ];
    };
    pairs_kept = h.pairs_kept;
  }

  -- A book with one pair more.

  pub register_of-pair : (more : PairsHeld) (person name : ℕ) → more.pairs ≡ pairs.pairs ++ (person, name) ∷ []
      → register_of xs places conflicts more ≡ with_pair (register_of xs places conflicts pairs) (text_at (persons_in xs) person) (text_at (names_in xs) name)
  unfolding register_of
  register_of-pair more person name e =
      same_register xs places.placed places.placed _ _ (named (persons_in xs) (names_in xs) more.pairs) _ refl refl
      (ap (named (persons_in xs) (names_in xs)) e ∙ named-push (persons_in xs) (names_in xs) pairs.pairs person name)

  pub IsBook-pair : (more : PairsHeld) (person name : ℕ) → more.pairs ≡ pairs.pairs ++ (person, name) ∷ [] → length more.rows ≡ length pairs.rows
      → person < length (persons_in xs) → name < length xs → IsBook xs places conflicts more
  IsBook-pair more person name e same below name_below =
      let P : ℕ × ℕ → Type 0 = λ p. (p.0 < length (persons_in xs)) × (p.1 < length xs) in
      record {
        register = subst (λ r. IsRegister r) (sym (register_of-pair more person name e))
            (IsRegister-with_pair (register_of xs places conflicts pairs) (text_at (persons_in xs) person) (text_at (names_in xs) name) h.register);
        places_kept = h.places_kept;
        conflicts_kept = h.conflicts_kept;
        pairs_kept = record {
          long = omega (arith, h.pairs_kept.long, same);
          known = subst (λ l. All P l) (sym e) (All-push P pairs.pairs (person, name) h.pairs_kept.known (below, name_below));
        };
      }

-- Places.

-- a choice between an element and what a search finds
through : (b : Bool) (p : Text × ℕ) (o q : Option (Text × ℕ)) → option_map_or (λ r. r.1) o 0 ≡ option_map_or (λ r. r.1) q 0
    → option_map_or (λ r. r.1) (cond b (Some p) o) 0 ≡ option_map_or (λ r. r.1) (cond b (Some p) q) 0
through true p o q e = refl
through false p o q e = e

cluster_in-push_other : (placed : List (Text × ℕ)) (t u : Text) (cluster : ℕ) → t ≢ u → cluster_in (placed ++ (t, cluster) ∷ []) u ≡ cluster_in placed u
unfolding cluster_in
cluster_in-push_other [] t u cluster other =
    ap (λ b. option_map_or (λ (p : Text × ℕ). p.1) (cond b (Some (t, cluster)) None) 0) (bytes_eq-other t u other)
cluster_in-push_other (p ∷ ps) t u cluster other =
    through (bytes_eq p.0 u) p (find (λ q. bytes_eq q.0 u) (ps ++ (t, cluster) ∷ [])) (find (λ q. bytes_eq q.0 u) ps) (cluster_in-push_other ps t u cluster other)

cluster_in-push_same : (placed : List (Text × ℕ)) (t : Text) (cluster : ℕ) → among (map (λ p. p.0) placed) t ≡ false → cluster_in (placed ++ (t, cluster) ∷ []) t ≡ cluster
unfolding cluster_in among
cluster_in-push_same [] t cluster new =
    ap (λ b. option_map_or (λ (p : Text × ℕ). p.1) (cond b (Some (t, cluster)) None) 0) (bytes_eq-same t t refl)
cluster_in-push_same (p ∷ ps) t cluster new =
    let both = or_parts (bytes_eq t p.0) (list_any (bytes_eq t) (map (λ q. q.0) ps)) new in
    ap (λ b. option_map_or (λ (q : Text × ℕ). q.1) (cond b (Some p) (find (λ q. bytes_eq q.0 t) (ps ++ (t, cluster) ∷ []))) 0) (bytes_eq-swap p.0 t ∙ both.0)
    ∙ cluster_in-push_same ps t cluster both.1

pub register_of-place : (xs : List (Text × Text)) (places more : PlacesHeld) (conflicts : List ℕ) (pairs : PairsHeld) (person : Text) (cluster : ℕ)
    → more.placed ≡ places.placed ++ (person, cluster) ∷ [] → register_of xs more conflicts pairs ≡ with_place (register_of xs places conflicts pairs) person cluster
unfolding register_of
register_of-place xs places more conflicts pairs person cluster e = same_register xs more.placed _ _ _ _ _ e refl refl

-- a book with one place more
pub IsBook-place : (xs : List (Text × Text)) (places more : PlacesHeld) (conflicts : List ℕ) (pairs : PairsHeld) (person : Text) (number cluster : ℕ)
    → IsBook xs places conflicts pairs → number_in (persons_in xs) person ≡ number → number < length (persons_in xs)
    → among (map (λ p. p.0) places.placed) person ≡ false → 1 ≤ cluster
    → more.placed ≡ places.placed ++ (person, cluster) ∷ [] → more.clusters ≡ set places.clusters number cluster → more.room ≡ places.room
    → IsBook xs more conflicts pairs
IsBook-place xs places more conflicts pairs person number cluster h numbered below new from_one e f g =
    let ps = persons_in xs in
    let old = register_of xs places conflicts pairs in
    let at : get_or ps number [] ≡ person = ap (λ k. get_or ps k []) (sym numbered) ∙ at-number_in ps person (omega (arith, numbered, below)) in
    let known : among ps person ≡ true = known-number_in ps person (omega (arith, numbered, below)) in
    let P : Text × ℕ → Type 0 = λ p. 1 ≤ p.1 in
    record {
      register = subst (λ r. IsRegister r) (sym (register_of-place xs places more conflicts pairs person cluster e))
          (IsRegister-with_place old person cluster h.register
          (ap (λ l. among l person) (sym (persons_seen xs places conflicts pairs old refl)) ∙ known)
          (ap (λ l. among (map (λ p. p.0) l) person) (sym (placed_seen xs places conflicts pairs old refl)) ∙ new));
      places_kept = record {
        from_one = subst (λ l. All P l) (sym e) (All-push P places.placed (person, cluster) h.places_kept.from_one from_one);
        room = omega (arith, h.places_kept.room, g);
        long = omega (arith, h.places_kept.long, ap length f, length-set places.clusters number cluster);
        clusters = λ i l.
            ap (λ c. get_or c i 0) f
            ∙ (chosen i number at l below
            ∙ ap (λ p. cluster_in p (get_or ps i [])) (sym e));
        rest = λ i l. ap (λ c. get_or c i 0) f ∙ (get_or-set_other places.clusters number i cluster 0 (omega (arith, l, below)) ∙ h.places_kept.rest i l);
      };
      conflicts_kept = h.conflicts_kept;
      pairs_kept = h.pairs_kept;
    }
  where
    chosen : (i number : ℕ) → get_or (persons_in xs) number [] ≡ person → i < length (persons_in xs) → number < length (persons_in xs)
        → get_or (set places.clusters number cluster) i 0 ≡ cluster_in (places.placed ++ (person, cluster) ∷ []) (get_or (persons_in xs) i [])
    chosen i number at l below = elim (cases_eq i number) [
      | inl same ↦
          ap (λ k. get_or (set places.clusters number cluster) k 0) same
          ∙ (get_or-set_same places.clusters number cluster 0 (omega (arith, below, h.places_kept.long))
          ∙ (sym (cluster_in-push_same places.placed person cluster new)
          ∙ ap (cluster_in (places.placed ++ (person, cluster) ∷ [])) (sym (ap (λ k. get_or (persons_in xs) k []) same ∙ at))))
      | inr other ↦
          get_or-set_other places.clusters number i cluster 0 other
          ∙ (h.places_kept.clusters i l
          ∙ sym (cluster_in-push_other places.placed person (get_or (persons_in xs) i []) cluster
          (λ e. other (sym (number_in-at (persons_in xs) i (persons_in-differ xs) l)
          ∙ (ap (number_in (persons_in xs)) (sym e ∙ sym at) ∙ number_in-at (persons_in xs) number (persons_in-differ xs) below)))))
    ]
