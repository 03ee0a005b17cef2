use Rattle.std.proofs.Common.{◌≡◌, ℕ, ◌+◌, ◌<◌, List, [], ◌∷◌, ◌++◌, length, get_or, map, take, All, Option, Some, None, is_some, IfSome, slice_get, sym, ap, ◌∙◌, subst, inl, inr}
use Rattle.std.specs.Option.{unwrap_or}
use Rattle.std.proofs.lemmas.Bool.{false≢true}
use Rattle.std.proofs.lemmas.List.{take_more}
use Rattle.std.proofs.lemmas.Option.{slice_get_within, get_or_from_slice_get}
use Rattle.house_base.specs.Text.{Text, among}
use Rattle.house_base.proofs.AmongLemmas.{In-among}
use Rattle.house_base.proofs.InOrderLemmas.{In, In-append, In-get_or, All-In, All-from_In}
use Rattle.house_model.specs.Register.{Register, persons, cluster_of}
use Rattle.house_model.specs.Seeds.{drawn_cluster, drawn_register}
use Rattle.house_model.proofs.SeedLemmas.{persons-drawn, cluster_of-drawn}
use Rattle.cluster_draw.specs.Placings.{name_of, names_of, ArePlacings}
use Rattle.cluster_draw.specs.declared.placings.Placing.{Placing}

-- The placings, one person after another.

pub take_push : {X : Type 0} (xs : List X) (n : ℕ) (x : X) → slice_get xs n ≡ Some x → take (n + 1) xs ≡ take n xs ++ x ∷ []
take_push xs n x at =
    take_more xs n x (slice_get_within xs n x at) ∙ ap (λ y. take n xs ++ y ∷ []) (get_or_from_slice_get xs n x x at)

pub All-push : {X : Type 0} (P : X → Type 0) (xs : List X) (x : X) → All P xs → P x → All P (xs ++ x ∷ [])
All-push {X} P xs x h here =
    All-from_In P (xs ++ x ∷ []) (λ y m. elim (In-append y xs (x ∷ []) m) [
      | inl before ↦ All-In P xs y h before
      | inr last ↦ elim last [ inl e ↦ subst P (sym e) here | inr none ↦ absurd none ]
    ])

pub found_person : (reg : Register) (name : Text) (o : Option ℕ) → is_some o ≡ among (persons reg) name → IfSome o (λ p. slice_get (persons reg) p ≡ Some name)
    → In name (persons reg) → slice_get (persons reg) (unwrap_or o 0) ≡ Some name
found_person reg name None known number m = absurd (false≢true (known ∙ In-among (persons reg) name m))
found_person reg name (Some p) known number m = number

pub ArePlacings-drawn : (seed : Text) (clusters : ℕ) (reg : Register) (order : List Text) (placings : List Placing)
    → All (λ placing. placing.person < length (persons reg)) placings → names_of reg placings ≡ order
    → All (λ placing. placing.cluster ≡ drawn_cluster seed clusters reg (name_of reg placing)) placings
    → ArePlacings (drawn_register seed clusters reg) order placings
ArePlacings-drawn seed clusters reg order placings known named drawn =
    let same = persons-drawn seed clusters reg in
    let drawn_in = drawn_register seed clusters reg in
    record {
      known = subst (λ ps. All (λ placing. placing.person < length ps) placings) (sym same) known;
      named = ap (λ ps. map (λ placing. get_or ps placing.person []) placings) same ∙ named;
      clusters = All-from_In (λ placing. placing.cluster ≡ cluster_of (drawn_register seed clusters reg) (name_of (drawn_register seed clusters reg) placing)) placings
          (λ placing m.
          let within = All-In (λ p. p.person < length (persons reg)) placings placing known m in
          All-In (λ p. p.cluster ≡ drawn_cluster seed clusters reg (name_of reg p)) placings placing drawn m
          ∙ (sym (cluster_of-drawn seed clusters reg (name_of reg placing) (In-get_or (persons reg) placing.person [] within))
          ∙ ap (λ ps. cluster_of (drawn_register seed clusters reg) (get_or ps placing.person [])) (sym same)));
    }
