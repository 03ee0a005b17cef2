-- The lines of the text of an assignment name its pairs.
use Rattle.std.proofs.Common.{◌≡◌, ℕ, zero, suc, ◌+◌, ◌%◌, ◌<◌, true, List, [], ◌∷◌, ◌++◌, map, flat_map, IsTrue, slice_get, refl, sym, ap, ◌∙◌, inl, inr, arith}
use Rattle.std.specs.Prelude.{codes}
use Rattle.std.specs.List.{join_with_byte}
use Rattle.std.specs.Option.{option_map_or}
use Rattle.std.proofs.Math.Nat.{mod-lt}
use Rattle.std.proofs.lemmas.List.Concat.{flat_map-append}
use Rattle.house_base.specs.declared.plan.Owner.{Owner}
use Rattle.house_base.specs.Name.{is_name}
use Rattle.house_base.specs.Setting.{Setting, size, names_of, name_at}
use Rattle.house_base.specs.Text.{Text}
use Rattle.house_base.proofs.InOrderLemmas.{In, All-In, map-In, filter-In, flat_map-In}
use Rattle.peer_selection.specs.Counting.{numbers_below}
use Rattle.peer_selection.specs.Profile.{Pairs, proposals_of}
use Rattle.house_model.specs.ReadBack.{HasFormedNames, named_pairs}
use Rattle.house_model.specs.Report.{line_of}
use Rattle.house_model.specs.Said.{pair_in}
use Rattle.house_model.specs.Text.{word, lines}
use Rattle.house_model.specs.Texts.{pair_lines, pairs_text}
use Rattle.house_model.proofs.AtIndexLemmas.{In-slice_get}
use Rattle.house_model.proofs.ReviewerLemmas.{name_at-slice_get}
use Rattle.house_model.proofs.RowTextLemmas.{AreWords, words-joined, lines-rows}
use Rattle.house_model.proofs.WordLemmas.{word_of_name}

-- The line of a pair of names.

abbrev pair_words : Text × Text → List Text
pair_words pair = codes "pair" ∷ pair.0 ∷ pair.1 ∷ []

abbrev pair_text : Text × Text → Text
pair_text pair = join_with_byte 32 (pair_words pair)

abbrev AreNames : Text × Text → Type 0
AreNames pair = (is_name pair.0 ≡ true) × (is_name pair.1 ≡ true)

pair_are_words : (pair : Text × Text) → AreNames pair → AreWords (pair_words pair)
pair_are_words pair h = (refl, (word_of_name pair.0 h.0, (word_of_name pair.1 h.1, tt)))

pair_in-text : (pair : Text × Text) → AreNames pair → pair_in (pair_text pair) ≡ pair
unfolding word
pair_in-text pair h =
    let e = words-joined (pair_words pair) (pair_are_words pair h) in
    λ i. (option_map_or (λ w. w) (slice_get (e i) 1) [], option_map_or (λ w. w) (slice_get (e i) 2) [])

-- The text of an assignment.

pairs_text-named : (s : Setting) (pairs : Pairs) → pairs_text s pairs ≡ flat_map (λ pair. line_of (pair_words pair)) (named_pairs s pairs)
unfolding pairs_text pair_lines line_of named_pairs
pairs_text-named s pairs = each s.owners where
  line : Text × Text → Text
  line pair = pair_text pair ++ 10 ∷ []

  of_one : (owner : Owner) (ps : List ℕ) → flat_map (λ p. pair_text (owner.name, name_at s p) ++ 10 ∷ []) ps ≡ flat_map (λ pair. pair_text pair ++ 10 ∷ []) (map (λ p. (owner.name, name_at s p)) ps)
  of_one owner [] = refl
  of_one owner (p ∷ ps) = ap (λ t. (pair_text (owner.name, name_at s p) ++ 10 ∷ []) ++ t) (of_one owner ps)

  each : (owners : List Owner) →
      flat_map (λ owner. flat_map (λ p. pair_text (owner.name, name_at s p) ++ 10 ∷ []) (proposals_of s pairs owner.first)) owners
      ≡ flat_map (λ pair. pair_text pair ++ 10 ∷ []) (flat_map (λ owner. map (λ p. (owner.name, name_at s p)) (proposals_of s pairs owner.first)) owners)
  each [] = refl
  each (owner ∷ owners) =
      let here = map (λ p. (owner.name, name_at s p)) (proposals_of s pairs owner.first) in
      let later = flat_map (λ (o : Owner). map (λ p. (o.name, name_at s p)) (proposals_of s pairs o.first)) owners in
      ap (λ t. t ++ flat_map (λ o. flat_map (λ p. pair_text (o.name, name_at s p) ++ 10 ∷ []) (proposals_of s pairs o.first)) owners)
      (of_one owner (proposals_of s pairs owner.first))
      ∙ (ap (λ t. flat_map (λ pair. pair_text pair ++ 10 ∷ []) here ++ t) (each owners)
      ∙ sym (flat_map-append (λ (pair : Text × Text). pair_text pair ++ 10 ∷ []) here later))

within-mod : (n r p : ℕ) → In p (map (λ d. (r + 1 + d) % n) (numbers_below n)) → p < n
unfolding numbers_below
within-mod zero r p m = absurd m
within-mod (suc n) r p m =
    let at = map-In (λ d. (r + 1 + d) % suc n) p (numbers_below (suc n)) m in
    let below : (r + 1 + at.0) % suc n < suc n = mod-lt (r + 1 + at.0) (omega arith) in
    omega (arith, at.2, below)

-- the proposals of a reviewer are applicants that it reviews
pub proposals_of-In : (s : Setting) (pairs : Pairs) (r p : ℕ) → In p (proposals_of s pairs r) → (p < size s) × (pairs r p ≡ true)
proposals_of-In s pairs r p m =
    let at = filter-In (pairs r) p (map (λ d. (r + 1 + d) % size s) (numbers_below (size s))) m in
    (within-mod (size s) r p at.0, at.1)

pub name_at-formed : (s : Setting) (p : ℕ) → HasFormedNames s → p < size s → is_name (name_at s p) ≡ true
name_at-formed s p h l =
    let at = map-In (λ person. person.name) (name_at s p) s.people (In-slice_get (names_of s) p (name_at s p) (name_at-slice_get s p l)) in
    ap is_name at.2 ∙ All-In (λ person. IsTrue (is_name person.name)) s.people at.0 h.applicants at.1

-- a pair that is named is one of a person and an applicant that it reviews
pub record IsNamed (s : Setting) (pairs : Pairs) (pair : Text × Text) : Type 0 where
  pub owner : Owner
  pub proposal : ℕ
  pub among : In owner s.owners
  pub within : proposal < size s
  pub reviews : pairs owner.first proposal ≡ true
  pub names : pair ≡ (owner.name, name_at s proposal)

pub named_pairs-In : (s : Setting) (pairs : Pairs) (pair : Text × Text) → In pair (named_pairs s pairs) → IsNamed s pairs pair
unfolding named_pairs
named_pairs-In s pairs pair m =
    let at = flat_map-In (λ owner. map (λ p. (owner.name, name_at s p)) (proposals_of s pairs owner.first)) pair s.owners m in
    let on = map-In (λ p. (at.0.name, name_at s p)) pair (proposals_of s pairs at.0.first) at.2 in
    let reviewed = proposals_of-In s pairs at.0.first on.0 on.1 in
    record { owner = at.0; proposal = on.0; among = at.1; within = reviewed.0; reviews = reviewed.1; names = on.2 }

named-names : (s : Setting) (pairs : Pairs) → HasFormedNames s → (pair : Text × Text) → In pair (named_pairs s pairs) → AreNames pair
named-names s pairs h pair m =
    let n = named_pairs-In s pairs pair m in (
      ap (λ (q : Text × Text). is_name q.0) n.names ∙ All-In (λ owner. IsTrue (is_name owner.name)) s.owners n.owner h.persons n.among,
      ap (λ (q : Text × Text). is_name q.1) n.names ∙ name_at-formed s n.proposal h n.within,
    )

read_each : (ps : List (Text × Text)) → ((pair : Text × Text) → In pair ps → AreNames pair) → map pair_in (map pair_text ps) ≡ ps
read_each [] h = refl
read_each (pair ∷ ps) h =
    ap (λ q. q ∷ map pair_in (map pair_text ps)) (pair_in-text pair (h pair (inl refl))) ∙ ap (λ qs. pair ∷ qs) (read_each ps (λ q m. h q (inr m)))

-- the lines of the text name the pairs
pub pairs_text-read : (s : Setting) (pairs : Pairs) → HasFormedNames s → map pair_in (lines (pairs_text s pairs)) ≡ named_pairs s pairs
pairs_text-read s pairs h =
    let named = named_pairs s pairs in
    ap (λ t. map pair_in (lines t)) (pairs_text-named s pairs)
    ∙ (ap (map pair_in) (lines-rows pair_words named (λ pair m. pair_are_words pair (named-names s pairs h pair m)))
    ∙ read_each named (named-names s pairs h))
