use Rattle.std.proofs.Common.{◌≡◌, ℕ, ◌*◌, ◌<◌, List, [], length, IsTrue, refl, sym, ap, ◌∙◌}
use Rattle.std.proofs.lemmas.Bool.{false_from_ne_true}
use Rattle.house_base.specs.Name.{is_name}
use Rattle.house_base.specs.declared.plan.Person.{Person}
use Rattle.house_base.specs.declared.plan.Owner.{Owner}
use Rattle.house_base.specs.Grid.{Square, cell}
use Rattle.house_base.specs.Setting.{Setting, owner_from, name_at}
use Rattle.house_base.specs.Text.{Text, among}
use Rattle.house_base.proofs.AmongLemmas.{among-In}
use Rattle.house_base.proofs.InOrderLemmas.{In, All-In, map-In}
use Rattle.house_model.specs.Register.{Register, IsRegister, names, persons, owners_from, square_of, name_pair, pair_among, reviewer_at}
use Rattle.house_model.specs.Seeds.{open_setting_in, setting_in}
use Rattle.house_model.proofs.GroupLemmas.{firsts-In}
use Rattle.house_model.proofs.RegisterLemmas.{their_persons}
use Rattle.house_model.proofs.OrderedLemmas.{IsOrder, people_in, IsSetting-setting_in}
use Rattle.house_model.proofs.RegisterSettingLemmas.{MakesSetting}
use Rattle.house_model.proofs.ReviewerLemmas.{no_name}
use Rattle.cluster_draw.specs.Barred.{is_barred}
use Rattle.cluster_draw.proofs.BarredLemmas.{is_barred-named, square_by_cells}

-- The setting of a register from its parts.

-- no person is without a name
no_person : (reg : Register) → IsRegister reg → In [] (persons reg) → ⊥
unfolding persons
no_person reg h m =
    let r = map-In (λ a. a.1) [] reg.applicants (firsts-In (their_persons reg) [] m) in
    no_name r.0.1 (All-In (λ a. IsTrue (is_name a.0) × IsTrue (is_name a.1)) reg.applicants r.0 h.names_formed r.1).1 (sym r.2)

-- the conflicts of a register are those of persons
abbrev pub OfPersons : Register → Type 0
OfPersons reg = (a b : Text) → IsTrue (pair_among reg.barred a b) → IsTrue (among (persons reg) a) × IsTrue (among (names reg) b)

-- the pairs of names are the same before and after pairs are barred
named_alike : (order : List Text) (seats clusters reviews : ℕ) (reg : Register) (r p : ℕ)
    → name_pair reg.barred (setting_in order seats clusters reviews reg) r p ≡ name_pair reg.barred (open_setting_in order seats clusters reviews reg) r p
unfolding name_pair reviewer_at owner_from name_at setting_in open_setting_in
named_alike order seats clusters reviews reg r p = refl

module _ (order : List Text) (seats clusters reviews : ℕ) (reg : Register) (h : MakesSetting seats clusters reviews reg) (o : IsOrder reg order) (known : OfPersons reg) where
  barred_alike : (r p : ℕ) → is_barred reg.barred (people_in reg order) (owners_from reg 0 order) r p ≡ name_pair reg.barred (setting_in order seats clusters reviews reg) r p
  unfolding setting_in open_setting_in
  barred_alike r p =
      is_barred-named reg.barred (setting_in order seats clusters reviews reg) r p (IsSetting-setting_in seats clusters reviews reg order h o)
      (λ b. false_from_ne_true (pair_among reg.barred [] b) (λ e. no_person reg h.register (among-In (persons reg) [] (known [] b e).0)))

  pub setting_in-parts : (ps : List Person) (os : List Owner) (barred : Square) → ps ≡ people_in reg order → os ≡ owners_from reg 0 order
      → barred.side ≡ length reg.applicants → length barred.cells ≡ barred.side * barred.side
      → ((r p : ℕ) → r < length reg.applicants → p < length reg.applicants → cell barred r p ≡ is_barred reg.barred ps os r p)
      → ◌≡◌ {A = Setting} (record { seats = seats; clusters = clusters; reviews = reviews; people = ps; owners = os; barred = barred }) (setting_in order seats clusters reviews reg)
  unfolding setting_in open_setting_in
  setting_in-parts ps os barred those theirs side many each =
      let square : barred ≡ square_of (length reg.applicants) (name_pair reg.barred (open_setting_in order seats clusters reviews reg)) =
      square_by_cells barred (length reg.applicants) (name_pair reg.barred (open_setting_in order seats clusters reviews reg)) side (many ∙ ap (λ n. n * n) side)
      (λ r p rl pl. each r p rl pl ∙ (ap (λ l. is_barred reg.barred l os r p) those ∙ (ap (λ l. is_barred reg.barred (people_in reg order) l r p) theirs
      ∙ (barred_alike r p ∙ named_alike order seats clusters reviews reg r p)))) in
      ap (λ qs. record { seats = seats; clusters = clusters; reviews = reviews; people = qs; owners = os; barred = barred }) those
      ∙ (ap (λ us. record { seats = seats; clusters = clusters; reviews = reviews; people = people_in reg order; owners = us; barred = barred }) theirs
      ∙ ap (λ b. record { seats = seats; clusters = clusters; reviews = reviews; people = people_in reg order; owners = owners_from reg 0 order; barred = b }) square)
