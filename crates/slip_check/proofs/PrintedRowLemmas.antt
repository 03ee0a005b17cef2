-- The rows of a slip within the limits can stand in lines, and the first two are of the form.
use Rattle.std.proofs.Common.{◌≡◌, ℕ, ◌*◌, ◌^◌, ◌<◌, ◌≤◌, ◌∙◌, true, eqb, ◌&&◌, List, [], ◌∷◌, map, refl, ap, arith}
use Rattle.std.specs.Prelude.{IsTrue, decimal}
use Rattle.std.specs.List.{AllByRecursion}
use Rattle.std.proofs.lemmas.Bool.{eq-eqb}
use Rattle.std.proofs.lemmas.List.Elements.{recursion_from_All}
use Rattle.house_base.specs.Name.{is_name}
use Rattle.house_base.specs.Text.{Text}
use Rattle.house_base.specs.declared.limits.TheConstants.{DOLLAR, MOST_APPLICANTS, MOST_SEATS}
use Rattle.house_model.specs.Report.{over}
use Rattle.house_model.specs.Said.{number}
use Rattle.slip_check.specs.Form.{denominator_in, follows, is_denominator, is_head, is_sizes}
use Rattle.slip_check.specs.Limits.{IsBallot, IsCell}
use Rattle.slip_check.specs.Slip.{Ballot, Cell, ballot_row, cell_text, head_row, member_row, sizes_row}
use Rattle.slip_check.proofs.HeadLemmas.{follows_head, follows_sizes}
use Rattle.slip_check.proofs.PlainWordLemmas.{ArePlain, plain_between, plain_name, plain_number}
use Rattle.slip_check.proofs.PrintedLineLemmas.{ArePrinted, IsPrinted}
use Rattle.slip_check.proofs.PrintedWordLemmas.{behind-over, number-decimal, share-over, within-decimal}

-- Words.

pub head-printed : (chance den : ℕ) (name : Text) → chance < 2 ^ 64 → den < 2 ^ 64 → IsTrue (is_name name) → IsPrinted (head_row chance den name)
unfolding over
head-printed chance den name cl dl h = record {
  some = refl;
  plain = (refl, (plain_name name h, (refl, (plain_between (decimal chance) (decimal den) 47 (plain_number chance cl) refl (plain_number den dl), tt))));
}

pub sizes-printed : (seats persons : ℕ) → seats < 2 ^ 64 → persons < 2 ^ 64 → IsPrinted (sizes_row seats persons)
sizes-printed seats persons sl pl = record {
  some = refl;
  plain = (refl, (plain_number seats sl, (refl, (plain_number persons pl, tt))));
}

member-printed : (name : Text) → IsTrue (is_name name) → IsPrinted (member_row name)
member-printed name h = record { some = refl; plain = (refl, (plain_name name h, tt)) }

cells-plain : (cells : List Cell) → AllByRecursion IsCell cells → ArePlain (map cell_text cells)
unfolding cell_text
cells-plain [] all = tt
cells-plain (c ∷ cells) all =
    (plain_between c.proposal (decimal c.points) 58 (plain_name c.proposal all.0.formed) refl (plain_number c.points (omega (arith, all.0.most))), cells-plain cells all.1)

ballot-printed : (b : Ballot) → IsBallot b → IsPrinted (ballot_row b)
ballot-printed b h = record {
  some = refl;
  plain = (refl, (plain_name b.person h.formed, cells-plain b.cells (recursion_from_All IsCell b.cells h.cells)));
}

pub members-printed : (names : List Text) → AllByRecursion (λ name. IsTrue (is_name name)) names → ArePrinted (map member_row names)
members-printed [] all = tt
members-printed (name ∷ names) all = (member-printed name all.0, members-printed names all.1)

pub ballots-printed : (ballots : List Ballot) → AllByRecursion IsBallot ballots → ArePrinted (map ballot_row ballots)
ballots-printed [] all = tt
ballots-printed (b ∷ ballots) all = (ballot-printed b all.0, ballots-printed ballots all.1)

-- The first two rows.

pub head-follows : (chance den : ℕ) (name : Text) → chance < 2 ^ 64 → den < 2 ^ 64 → IsTrue (is_name name) → follows [] (head_row chance den name) ≡ true
unfolding is_head
head-follows chance den name cl dl h =
    let named : is_name name ≡ true = h in
    follows_head [] (head_row chance den name) refl ∙ rw (named, share-over chance den cl dl) refl

denominator-is : (chance den : ℕ) (name : Text) → chance < 2 ^ 64 → den < 2 ^ 64 → denominator_in (head_row chance den name ∷ []) ≡ den
unfolding denominator_in
denominator-is chance den name cl dl = ap number (behind-over chance den cl) ∙ number-decimal den dl

same_number : (n : ℕ) → eqb n n ≡ true
same_number n = eq-eqb n n refl

sizes-are : (seats persons : ℕ) → (1 ≤ seats) × (seats ≤ MOST_SEATS) → (1 ≤ persons) × (persons ≤ MOST_APPLICANTS) → is_sizes (sizes_row seats persons) ≡ true
unfolding is_sizes
sizes-are seats persons s p =
    rw (within-decimal 1 MOST_SEATS seats (omega arith) s.0 s.1, within-decimal 1 MOST_APPLICANTS persons (omega arith) p.0 p.1) refl

pub sizes-follow : (chance seats persons : ℕ) (name : Text) → chance < 2 ^ 64 → (1 ≤ seats) × (seats ≤ MOST_SEATS) → (1 ≤ persons) × (persons ≤ MOST_APPLICANTS)
    → follows (head_row chance (persons * DOLLAR) name ∷ []) (sizes_row seats persons) ≡ true
unfolding is_denominator
sizes-follow chance seats persons name cl s p =
    let before = head_row chance (persons * DOLLAR) name ∷ [] in
    let den : denominator_in before ≡ persons * DOLLAR = denominator-is chance (persons * DOLLAR) name cl (omega (arith, p.1)) in
    let said : number (decimal persons) * DOLLAR ≡ persons * DOLLAR = ap (λ n. n * DOLLAR) (number-decimal persons (omega (arith, p.1))) in
    follows_sizes before (sizes_row seats persons) refl
    ∙ ap (λ b. b && eqb (denominator_in before) (number (decimal persons) * DOLLAR)) (sizes-are seats persons s p)
    ∙ ap (λ n. eqb n (number (decimal persons) * DOLLAR)) den
    ∙ ap (eqb (persons * DOLLAR)) said ∙ same_number (persons * DOLLAR)
