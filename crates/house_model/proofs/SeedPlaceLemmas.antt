use Rattle.std.proofs.Common.{◌≡◌, ℕ, ◌+◌, ◌<◌, Bool, true, false, ◌&&◌, ◌||◌, ◌==◌, nat_lt, cond, List, length, map, bytes_eq, sum_by, Some, slice_get, option_map, sym, ap, ◌∙◌, subst, arith}
use Rattle.std.specs.List.Sorted.{IsPermutation, IsSorted}
use Rattle.std.proofs.lemmas.Option.{slice_get-map, slice_get_within, same_Some}
use Rattle.house_base.specs.Text.{Text}
use Rattle.house_base.proofs.InOrderLemmas.{In, InOrder, InOrder-from_AllPairs, InOrder-filter, InOrder-weaker, InOrder-flat_map}
use Rattle.peer_selection.specs.Counting.{count_below}
use Rattle.house_model.specs.Register.{Register, persons, person_of, entry}
use Rattle.house_model.specs.Seeds.{person_key, key_cmp, key_rank, drawn_place, drawn_register}
use Rattle.house_model.proofs.GroupLemmas.{In-group}
use Rattle.house_model.proofs.OrderedLemmas.{entries_in, people_in, people_in-entries, entries_in-each, sum_by-entries_in}
use Rattle.house_model.proofs.RegisterPeopleLemmas.{Numbered, person_in, numbered, own_entries, enumerate_from-In, InOrder-enumerate_from}
use Rattle.house_model.proofs.RegisterPlaceLemmas.{test_by_person, test_by_number, test_itself, count_by-enumerate_from, count_below-start, sum_by-agree, person_of-at, applicant_at, index_in_order}
use Rattle.house_model.proofs.SeedLemmas.{Key, rank_at, IsOrder-order, IsOrder-drawn}

-- The place of each applicant under a seed: how many stand before it.

module _ (seed : Text) (reg : Register) (keys : List Key) (moved : IsPermutation (map (person_key seed) (persons reg)) keys) (sorted : IsSorted key_cmp keys) where
  abbrev by_key : List Text
  by_key = map (λ k. k.1) keys

  abbrev rank : Text → ℕ
  rank = key_rank seed reg

  abbrev before : Numbered → Numbered → Bool
  before e f = nat_lt (rank e.1.1) (rank f.1.1) || (rank e.1.1 == rank f.1.1 && nat_lt e.0 f.0)

  abbrev Precedes : Numbered → Numbered → Type 0
  Precedes e f = (before e f ≡ true) × (before f e ≡ false)

  ranks_rise : InOrder (λ p q. rank p < rank q) by_key
  ranks_rise = InOrder-from_AllPairs (λ p q. rank p < rank q) by_key
      (λ i j d l m. omega (arith, l, rank_at seed reg keys moved sorted i d (omega (arith, l, m)), rank_at seed reg keys moved sorted j d m))

  precedes_by_number : (e f : Numbered) → e.1.1 ≡ f.1.1 → e.0 < f.0 → Precedes e f
  precedes_by_number e f same l =
      let P : ℕ → Type 0 = λ n. ((nat_lt (rank e.1.1) n || (rank e.1.1 == n && nat_lt e.0 f.0)) ≡ true) × ((nat_lt n (rank e.1.1) || (n == rank e.1.1 && nat_lt f.0 e.0)) ≡ false) in
      subst P (ap rank same) (test_by_number (rank e.1.1) e.0 f.0 l)

  entries_in_order : InOrder Precedes (entries_in reg by_key)
  entries_in_order =
      InOrder-flat_map Precedes (own_entries reg) by_key
      (λ p pm. InOrder-weaker (λ a b. a.0 < b.0) Precedes (own_entries reg p)
      (λ a b am bm l. precedes_by_number a b ((In-group person_in (numbered reg) p a am).1 ∙ sym (In-group person_in (numbered reg) p b bm).1) l)
      (InOrder-filter (λ a b. a.0 < b.0) (λ e. bytes_eq e.1.1 p) (numbered reg) (InOrder-enumerate_from 0 reg.applicants)))
      (InOrder-weaker (λ p q. rank p < rank q) (λ p q. (a b : Numbered) → In a (own_entries reg p) → In b (own_entries reg q) → Precedes a b) by_key
      (λ p q pm qm l a b am bm. test_by_person (rank a.1.1) (rank b.1.1) a.0 b.0
      (omega (arith, l, ap rank (In-group person_in (numbered reg) p a am).1, ap rank (In-group person_in (numbered reg) q b bm).1)))
      ranks_rise)

  place-count : (e : Numbered) → In e (numbered reg) → drawn_place seed reg e.0 ≡ sum_by (λ x. cond (before x e) 1 0) (entries_in reg by_key)
  unfolding drawn_place
  place-count e m =
      let test = λ (j : ℕ). nat_lt (rank (person_of reg j)) (rank (person_of reg e.0)) || (rank (person_of reg j) == rank (person_of reg e.0) && nat_lt j e.0) in
      let listed = count_by-enumerate_from test 0 reg.applicants in
      let from_zero = ap (count_below test) (let z : 0 + length reg.applicants ≡ length reg.applicants = omega arith in z) in
      let agree = sum_by-agree (λ x. cond (test x.0) 1 0) (λ x. cond (before x e) 1 0) (numbered reg)
      (λ x xm. ap (λ b. cond b 1 0)
      (ap (λ t. nat_lt (rank t) (rank (person_of reg e.0)) || (rank t == rank (person_of reg e.0) && nat_lt x.0 e.0)) (person_of-at reg x xm)
      ∙ ap (λ t. nat_lt (rank x.1.1) (rank t) || (rank x.1.1 == rank t && nat_lt x.0 e.0)) (person_of-at reg e m))) in
      omega (arith, listed, from_zero, agree, count_below-start test, sum_by-entries_in reg by_key (IsOrder-order seed reg keys moved sorted) (λ x. cond (before x e) 1 0))

  people-place : (clusters : ℕ) (e : Numbered) → In e (numbered reg)
      → slice_get (people_in (drawn_register seed clusters reg) by_key) (drawn_place seed reg e.0) ≡ Some (entry (drawn_register seed clusters reg) e)
  unfolding drawn_register
  people-place clusters e m =
      let drawn = drawn_register seed clusters reg in
      let o = IsOrder-order seed reg keys moved sorted in
      ap (λ l. slice_get l (drawn_place seed reg e.0)) (people_in-entries (drawn_register seed clusters reg) by_key (IsOrder-drawn seed clusters reg by_key o))
      ∙ (slice_get-map (entry (drawn_register seed clusters reg)) (entries_in reg by_key) (drawn_place seed reg e.0)
      ∙ ap (option_map (entry (drawn_register seed clusters reg))) (ap (slice_get (entries_in reg by_key)) (place-count e m)
      ∙ index_in_order before (entries_in reg by_key) e (λ y. test_itself (rank y.1.1) y.0) entries_in_order (entries_in-each reg by_key o e m)))

  -- the applicant at an index stands at its place
  pub slice_get-drawn_place : (clusters i : ℕ) (a : Text × Text) → slice_get reg.applicants i ≡ Some a
      → slice_get (people_in (drawn_register seed clusters reg) by_key) (drawn_place seed reg i) ≡ Some (entry (drawn_register seed clusters reg) (i, a))
  slice_get-drawn_place clusters i a at =
      let r = enumerate_from-In 0 reg.applicants i (slice_get_within reg.applicants i a at) in
      let P : ℕ → Type 0 = λ n. In (n, r.0) (numbered reg) in
      let m = subst P (let e : 0 + i ≡ i = omega arith in e) r.1 in
      people-place clusters (i, r.0) m
      ∙ ap (λ x. Some (entry (drawn_register seed clusters reg) (i, x))) (same_Some r.0 a (sym (applicant_at reg (i, r.0) m) ∙ at))
