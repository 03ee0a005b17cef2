-- How many review lines are set aside under each kind, phase by phase and reviewer by reviewer.
use Rattle.std.proofs.Common.{◌≡◌, ℕ, zero, suc, ◌+◌, ◌*◌, Bool, true, false, not, ◌&&◌, cond, eqb, leb, List, [], ◌∷◌, ◌++◌, length, map, filter, flat_map, sum_by, bytes_eq, Option, Some, None, refl, sym, ap, ◌∙◌, arith}
use Rattle.std.specs.Option.{option_map_or}
use Rattle.std.proofs.Math.Path.{fun_ext}
use Rattle.std.proofs.lemmas.Bool.{and_parts, ne_eqb, not-true, leb-false}
use Rattle.std.proofs.lemmas.List.Sums.{sum_by-cons, sum_by-append}
use Rattle.house_base.specs.Answer.{counted, raised}
use Rattle.house_base.specs.declared.answer.Asides.{Asides}
use Rattle.house_base.specs.declared.answer.Kind.{Kind}
use Rattle.house_base.specs.declared.answer.Kind.TheVariants as kind
use Rattle.house_base.specs.declared.phase.Phase.{Phase}
use Rattle.house_base.specs.declared.phase.Phase.TheVariants as phase
use Rattle.house_base.specs.Text.{Text}
use Rattle.house_base.proofs.InOrderLemmas.{In-map, In-append_left, In-append_right, filter-In}
use Rattle.house_model.specs.declared.goal.Goal.{Goal}
use Rattle.house_model.specs.Interleaving.{AreInterleaved, phase_number, standing_after, standing_in, names_reviewer, names_nobody}
use Rattle.house_model.specs.Isolation.{HaveSameHouse}
use Rattle.house_model.specs.Register.{firsts}
use Rattle.house_model.specs.Reviews.{kind_of, asides_after, asides_of, no_asides}
use Rattle.house_model.specs.Said.{phase_after}
use Rattle.house_model.specs.Text.{Lines, words, word}
use Rattle.house_model.specs.Verbs.{is_review}
use Rattle.house_model.proofs.GroupLemmas.{group, sum_by-groups, In-firsts, Apart-firsts}
use Rattle.house_model.proofs.KindLemmas.{IsReadAt, read_on, kind_at, kind_at-same, kind_at-unformed, kind_of-read, filter-both}

-- Counts of kinds.

abbrev kind_number : Kind → ℕ
kind_number kind.Form = 0
kind_number kind.Early = 1
kind_number kind.Late = 2
kind_number kind.Unknown = 3
kind_number kind.Unassigned = 4
kind_number kind.Range = 5

abbrev is_kind : Kind → Option Kind → Bool
is_kind k None = false
is_kind k (Some j) = eqb (kind_number j) (kind_number k)

-- the count of one kind
abbrev count_in : Kind → Asides → ℕ
count_in kind.Form asides = asides.form
count_in kind.Early asides = asides.early
count_in kind.Late asides = asides.late
count_in kind.Unknown asides = asides.unknown
count_in kind.Unassigned asides = asides.unassigned
count_in kind.Range asides = asides.range

raised_by : ℕ → ℕ → ℕ
raised_by zero x = x
raised_by (suc n) x = raised_by n (raised x)

raised_by-plus : (n m x : ℕ) → raised_by m (raised_by n x) ≡ raised_by (n + m) x
unfolding raised_by
raised_by-plus zero m x = ap (λ t. raised_by t x) (let e : m ≡ 0 + m = omega arith in e)
raised_by-plus (suc n) m x = raised_by-plus n m (raised x) ∙ ap (λ t. raised_by t x) (let e : suc (n + m) ≡ suc n + m = omega arith in e)

count-counted : (k j : Kind) (asides : Asides) → count_in k (counted asides j) ≡ raised_by (cond (eqb (kind_number j) (kind_number k)) 1 0) (count_in k asides)
unfolding raised_by
count-counted kind.Form kind.Form asides = refl
count-counted kind.Early kind.Early asides = refl
count-counted kind.Late kind.Late asides = refl
count-counted kind.Unknown kind.Unknown asides = refl
count-counted kind.Unassigned kind.Unassigned asides = refl
count-counted kind.Range kind.Range asides = refl
count-counted k j asides = refl

count-line : (k : Kind) (review : Bool) (o : Option Kind) (asides : Asides) →
    count_in k (cond review (option_map_or (counted asides) o asides) asides) ≡ raised_by (cond (review && is_kind k o) 1 0) (count_in k asides)
unfolding raised_by
count-line k false o asides = refl
count-line k true None asides = refl
count-line k true (Some j) asides = count-counted k j asides

-- how many review lines are set aside under one kind
set_aside : Goal → Kind → Lines → Lines → ℕ
set_aside g k before [] = 0
set_aside g k before (line ∷ lines) = cond (is_review line && is_kind k (kind_of g before line)) 1 0 + set_aside g k (before ++ line ∷ []) lines

count-asides : (g : Goal) (k : Kind) (before lines : Lines) (asides : Asides) → count_in k (asides_after g before asides lines) ≡ raised_by (set_aside g k before lines) (count_in k asides)
unfolding raised_by set_aside
count-asides g k before [] asides = refl
count-asides g k before (line ∷ lines) asides =
    let next = cond (is_review line) (option_map_or (counted asides) (kind_of g before line) asides) asides in
    let here = cond (is_review line && is_kind k (kind_of g before line)) 1 0 in
    count-asides g k (before ++ line ∷ []) lines next
    ∙ (ap (raised_by (set_aside g k (before ++ line ∷ []) lines)) (count-line k (is_review line) (kind_of g before line) asides)
    ∙ raised_by-plus here (set_aside g k (before ++ line ∷ []) lines) (count_in k asides))

same_counts : (a b : Asides) → ((k : Kind) → count_in k a ≡ count_in k b) → a ≡ b
same_counts a b h = λ i. record {
  form = h kind.Form i;
  early = h kind.Early i;
  late = h kind.Late i;
  unknown = h kind.Unknown i;
  unassigned = h kind.Unassigned i;
  range = h kind.Range i;
}

-- Phase by phase.

-- whether a review line in a phase is set aside under a kind
weight : Goal → Kind → Lines → Phase → Text → ℕ
weight g k whole p line = cond (is_review line && is_kind k (kind_at g p whole line)) 1 0

abbrev over_phases : (Phase → ℕ) → ℕ
over_phases f = f phase.Opening + f phase.Reviewing + f phase.Closed + f phase.Drawn

sum_by_one : {X : Type 0} (f : X → ℕ) (x : X) → sum_by f (x ∷ []) ≡ f x
sum_by_one f x = omega (arith, sum_by-cons f x [])

one_phase : (w : Phase → Text → ℕ) (p : Phase) (line : Text) → w p line ≡ over_phases (λ q. sum_by (w q) (cond (eqb (phase_number p) (phase_number q)) (line ∷ []) []))
one_phase w phase.Opening line = omega (arith, sum_by_one (w phase.Opening) line)
one_phase w phase.Reviewing line = omega (arith, sum_by_one (w phase.Reviewing) line)
one_phase w phase.Closed line = omega (arith, sum_by_one (w phase.Closed) line)
one_phase w phase.Drawn line = omega (arith, sum_by_one (w phase.Drawn) line)

set_aside-standing : (g : Goal) (k : Kind) (whole before lines : Lines) → IsReadAt g whole before lines →
    set_aside g k before lines ≡ over_phases (λ q. sum_by (weight g k whole q) (standing_after q before lines))
unfolding set_aside weight
set_aside-standing g k whole before [] h = refl
set_aside-standing g k whole before (line ∷ lines) h =
    let p = phase_after before in
    let w = λ (q : Phase) (x : Text). cond (is_review x && is_kind k (kind_at g q whole x)) 1 0 in
    let here = λ (q : Phase). cond (eqb (phase_number p) (phase_number q)) (line ∷ []) [] in
    let later = λ (q : Phase). standing_after q (before ++ line ∷ []) lines in
    let first : cond (is_review line && is_kind k (kind_of g before line)) 1 0 ≡ over_phases (λ q. sum_by (w q) (here q)) =
    ap (λ o. cond (is_review line && is_kind k o) 1 0) (kind_of-read g whole before line lines h) ∙ one_phase w p line in
    let rest = set_aside-standing g k whole (before ++ line ∷ []) lines (read_on g whole before line lines h) in
    omega (
      arith,
      first,
      rest,
      sum_by-append (w phase.Opening) (here phase.Opening) (later phase.Opening),
      sum_by-append (w phase.Reviewing) (here phase.Reviewing) (later phase.Reviewing),
      sum_by-append (w phase.Closed) (here phase.Closed) (later phase.Closed),
      sum_by-append (w phase.Drawn) (here phase.Drawn) (later phase.Drawn),
    )

-- Reviewer by reviewer.

sum_by-kept : (w : Text → ℕ) (b : Bool) (x : Text) (xs : Lines) → sum_by w (cond b (x ∷ xs) xs) ≡ cond b (w x) 0 + sum_by w xs
sum_by-kept w true x xs = sum_by-cons w x xs
sum_by-kept w false x xs = omega arith

length-kept : (b : Bool) (x : Text) (xs : Lines) → length (cond b (x ∷ xs) xs) ≡ cond b 1 0 + length xs
length-kept true x xs = omega arith
length-kept false x xs = omega arith

shares : (review second : Bool) (x c : ℕ) → (review ≡ false → x ≡ 0) → ((review && not second) ≡ true → x ≡ c) →
    x ≡ cond (review && second) x 0 + cond (review && not second) 1 0 * c
shares false second x c none nobody = omega (arith, none refl)
shares true true x c none nobody = omega arith
shares true false x c none nobody = omega (arith, nobody refl)

-- a sum over lines in which only review lines weigh, and those that name nobody the same
sum_by-reviews : (w : Text → ℕ) (c : ℕ) → ((x : Text) → is_review x ≡ false → w x ≡ 0) → ((x : Text) → names_nobody x ≡ true → w x ≡ c) → (xs : Lines) →
    sum_by w xs ≡ sum_by w (filter names_reviewer xs) + length (filter names_nobody xs) * c
sum_by-reviews w c none nobody [] = omega arith
sum_by-reviews w c none nobody (x ∷ xs) =
    let more = length-kept (names_nobody x) x (filter names_nobody xs) in
    omega (
      arith,
      sum_by-cons w x xs,
      sum_by-reviews w c none nobody xs,
      sum_by-kept w (names_reviewer x) x (filter names_reviewer xs),
      ap (λ n. n * c) more,
      shares (is_review x) (leb 2 (length (words x))) (w x) c (none x) (nobody x),
    )

module _ (w : Text → ℕ) (c : ℕ) (none : (x : Text) → is_review x ≡ false → w x ≡ 0) (nobody : (x : Text) → names_nobody x ≡ true → w x ≡ c)
    (a b : Lines) (reviews : (name : Text) → filter (λ line. names_reviewer line && bytes_eq (word line 1) name) a ≡ filter (λ line. names_reviewer line && bytes_eq (word line 1) name) b)
    (as_many : length (filter names_nobody a) ≡ length (filter names_nobody b)) where
  abbrev key : Text → Text
  key line = word line 1

  abbrev keys : List Text
  keys = firsts (map key (a ++ b))

  groups-same : group key (filter names_reviewer a) ≡ group key (filter names_reviewer b)
  groups-same =
      fun_ext (λ name. filter-both names_reviewer (λ x. bytes_eq (key x) name) a ∙ (reviews name ∙ sym (filter-both names_reviewer (λ x. bytes_eq (key x) name) b)))

  named-same : sum_by w (filter names_reviewer a) ≡ sum_by w (filter names_reviewer b)
  named-same =
      sym (sum_by-groups w key (filter names_reviewer a) keys (Apart-firsts (map key (a ++ b)))
      (λ x m. In-firsts (map key (a ++ b)) (key x) (In-map key x (a ++ b) (In-append_left x a b (filter-In names_reviewer x a m).0))))
      ∙ (ap (λ of. sum_by w (flat_map of keys)) groups-same
      ∙ sum_by-groups w key (filter names_reviewer b) keys (Apart-firsts (map key (a ++ b)))
      (λ x m. In-firsts (map key (a ++ b)) (key x) (In-map key x (a ++ b) (In-append_right x a b (filter-In names_reviewer x b m).0))))

  sum_by-same : sum_by w a ≡ sum_by w b
  sum_by-same = sum_by-reviews w c none nobody a ∙ (ap (λ n. n + length (filter names_nobody a) * c) named-same
      ∙ (ap (λ n. sum_by w (filter names_reviewer b) + n * c) as_many ∙ sym (sum_by-reviews w c none nobody b)))

over-same : (f g : Phase → ℕ) → ((q : Phase) → f q ≡ g q) → over_phases f ≡ over_phases g
over-same f g h = omega (arith, h phase.Opening, h phase.Reviewing, h phase.Closed, h phase.Drawn)

weight-none : (g : Goal) (k : Kind) (whole : Lines) (p : Phase) (x : Text) → is_review x ≡ false → weight g k whole p x ≡ 0
unfolding weight
weight-none g k whole p x h = ap (λ r. cond (r && is_kind k (kind_at g p whole x)) 1 0) h

weight-nobody : (g : Goal) (k : Kind) (whole : Lines) (p : Phase) (x : Text) → names_nobody x ≡ true → weight g k whole p x ≡ cond (is_kind k (Some kind.Form)) 1 0
unfolding weight
weight-nobody g k whole p x h =
    let parts = and_parts (is_review x) (not (leb 2 (length (words x)))) h in
    let few = leb-false 2 (length (words x)) (not-true (leb 2 (length (words x))) parts.1) in
    let unformed = ne_eqb (length (words x)) 4 (λ e. absurd (omega (arith, few, e))) in
    ap (λ r. cond (r && is_kind k (kind_at g p whole x)) 1 0) parts.0 ∙ ap (λ o. cond (is_kind k o) 1 0) (kind_at-unformed g p whole x unformed)

weight-same : (g : Goal) (k : Kind) (a b : Lines) → HaveSameHouse a b → (p : Phase) → weight g k a p ≡ weight g k b p
unfolding weight
weight-same g k a b same p = fun_ext (λ x. ap (λ o. cond (is_review x && is_kind k o) 1 0) (kind_at-same g a b same p x))

-- another order of arrival leaves the counts
set_aside-interleaved : (g : Goal) (k : Kind) (a b : Lines) → AreInterleaved a b → IsReadAt g a [] a → IsReadAt g b [] b → set_aside g k [] b ≡ set_aside g k [] a
unfolding standing_in
set_aside-interleaved g k a b h read_a read_b =
    set_aside-standing g k b [] b read_b
    ∙ (over-same (λ q. sum_by (weight g k b q) (standing_in q b)) (λ q. sum_by (weight g k a q) (standing_in q a))
    (λ q. ap (λ w. sum_by w (standing_in q b)) (sym (weight-same g k a b h.same_house q))
    ∙ sym (sum_by-same (weight g k a q) (cond (is_kind k (Some kind.Form)) 1 0) (weight-none g k a q) (weight-nobody g k a q)
    (standing_in q a) (standing_in q b) (h.same_reviews q) (h.as_many q)))
    ∙ sym (set_aside-standing g k a [] a read_a))

pub asides_of-interleaved : (g : Goal) (a b : Lines) → AreInterleaved a b → IsReadAt g a [] a → IsReadAt g b [] b → asides_of g b ≡ asides_of g a
unfolding asides_of
asides_of-interleaved g a b h read_a read_b =
    same_counts (asides_after g [] no_asides b) (asides_after g [] no_asides a)
    (λ k. count-asides g k [] b no_asides ∙ (ap (λ n. raised_by n (count_in k no_asides)) (set_aside-interleaved g k a b h read_a read_b) ∙ sym (count-asides g k [] a no_asides)))
