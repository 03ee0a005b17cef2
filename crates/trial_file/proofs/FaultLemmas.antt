-- Why no line of a trial ends the run.
use Rattle.std.proofs.Common.{◌≡◌, ℕ, ◌-◌, ◌^◌, ◌<◌, ◌≤◌, Bool, true, false, not, eqb, leb, List, [], ◌∷◌, length, map, bytes_eq, None, refl, sym, ap, ◌∙◌, subst, inl, inr, arith}
use Rattle.std.specs.Prelude.{count_by}
use Rattle.std.specs.List.{list_all}
use Rattle.std.proofs.Math.Dec.{eqb-suc-zero}
use Rattle.std.proofs.lemmas.Bool.{and_from, le-leb, lt-leb, lt-ltb, not-false}
use Rattle.house_base.specs.Text.{Text, among}
use Rattle.house_base.specs.declared.limits.TheConstants.{MOST_APPLICANTS, MOST_CLUSTERS}
use Rattle.house_base.proofs.AmongLemmas.{In-among, among-In}
use Rattle.house_base.proofs.InOrderLemmas.{In}
use Rattle.house_model.specs.declared.command.Command.{Command}
use Rattle.house_model.specs.declared.command.Command.TheVariants as command
use Rattle.house_model.specs.declared.goal.Goal.TheVariants as goal
use Rattle.house_model.specs.declared.verb.Verb.TheVariants as verb
use Rattle.house_model.specs.Commands.{verb_of_command}
use Rattle.house_model.specs.Faults.{fault, ill_formed, is_below, is_within, names_are_formed}
use Rattle.house_model.specs.Register.{all_placed, names, own_count, persons, placed_names}
use Rattle.house_model.specs.Runs.{falls_short, halt}
use Rattle.house_model.specs.Said.{applicant_in, clusters_of, denominator_of, has, has_pairs, number, phase_after, register}
use Rattle.house_model.specs.Text.{Lines, word}
use Rattle.house_model.specs.Verbs.{verb_in}
use Rattle.house_model.proofs.RegisterLemmas.{among_persons}
use Rattle.command_text.specs.Reading.{IsCommandLine, numbers_are_within}
use Rattle.house_core.proofs.AdmittedLemmas.{IsAdmitted, admitted_fault}
use Rattle.house_core.proofs.OwnLemmas.{below_is, fault_by, fault_is, none_by, within_clusters}
use Rattle.house_core.proofs.RefusalLemmas.{halt_by, halt_is, own_of}
use Rattle.trial_file.proofs.StandLemmas.{Stands, phase_of}

-- a command's line has its words, names and numbers
clean : (x : Text) (c : Command) → IsCommandLine x c →
    (ill_formed x ≡ false) × (not (names_are_formed (verb_of_command c) x) ≡ false) × (not (numbers_are_within (verb_of_command c) x) ≡ false)
clean x c line =
    none_by _ _ _
    (subst (λ w. fault_by (ill_formed x) (not (names_are_formed w x)) (not (numbers_are_within w x)) ≡ None) (sym line.verb) (sym (fault_is x) ∙ line.no_fault))

faultless : (lines : Lines) (x : Text) (c : Command) → IsCommandLine x c → IsAdmitted lines (verb_of_command c) → own_of goal.Run lines (verb_of_command c) x ≡ None →
    fault goal.Run lines x ≡ None
faultless lines x c line adm own =
    let parts = clean x c line in
    admitted_fault goal.Run lines x (verb_of_command c) line.house (sym line.verb) adm ∙ rw (parts.0, parts.1) own

goes_on : (lines : Lines) (x : Text) → fault goal.Run lines x ≡ None → falls_short goal.Run lines (verb_in x) ≡ false → halt goal.Run lines x ≡ None
goes_on lines x none plain =
    halt_is goal.Run lines x ∙ ap (λ o. halt_by o (falls_short goal.Run lines (verb_in x))) none ∙ ap (halt_by None) plain

-- The call.

pub call_goes : (x : Text) (c : Command) → IsCommandLine x c → verb_of_command c ≡ verb.Call → halt goal.Run [] x ≡ None
unfolding has phase_after
call_goes x c line is =
    let parts = clean x c line in
    let within = subst (λ v. not (numbers_are_within v x) ≡ false) is parts.2 in
    let adm : IsAdmitted [] verb.Call = record { called = refl; in_turn = refl } in
    let own : own_of goal.Run [] verb.Call x ≡ None = rw within refl in
    goes_on [] x (faultless [] x c line (subst (IsAdmitted []) (sym is) adm) (ap (λ v. own_of goal.Run [] v x) is ∙ own))
    (ap (falls_short goal.Run []) (sym line.verb ∙ is))

module _ (lines : Lines) (x : Text) (clusters : ℕ) (applicants : List (Text × Text)) (placed : List (Text × ℕ)) where
  -- An applicant that is new.

  pub applicant_goes : (name : Text) → Stands lines clusters applicants placed false false → IsCommandLine x (command.Applicant name name) →
      among (map (λ a. a.0) applicants) name ≡ false → length applicants < MOST_APPLICANTS → count_by (λ a. bytes_eq a.1 name) applicants ≡ 0 →
      halt goal.Run lines x ≡ None
  unfolding own_count
  applicant_goes name s line new few none =
      let its_name : name ≡ word x 1 = ap (λ (a : Text × Text). a.0) line.carries in
      let its_person : name ≡ (applicant_in x).1 = ap (λ (a : Text × Text). a.1) line.carries in
      let adm : IsAdmitted lines verb.Applicant = record {
        called = rw s.call refl;
        in_turn = rw (phase_of lines clusters applicants placed false false s) refl;
      } in
      let known : among (names (register lines)) (word x 1) ≡ false =
      ap (λ (ps : List (Text × Text)). among (map (λ a. a.0) ps) (word x 1)) s.applicants_are ∙ ap (among (map (λ a. a.0) applicants)) (sym its_name) ∙ new in
      let full : leb MOST_APPLICANTS (length (register lines).applicants) ≡ false =
      lt-leb MOST_APPLICANTS (length (register lines).applicants) (omega (arith, few, ap length s.applicants_are)) in
      let owned : own_count (register lines) (applicant_in x).1 ≡ 0 =
      ap (λ (ps : List (Text × Text)). count_by (λ a. bytes_eq a.1 (applicant_in x).1) ps) s.applicants_are
      ∙ ap (λ t. count_by (λ a. bytes_eq a.1 t) applicants) (sym its_person) ∙ none in
      let own : own_of goal.Run lines verb.Applicant x ≡ None = rw (known, full, owned) refl in
      goes_on lines x (faultless lines x (command.Applicant name name) line adm own) (ap (falls_short goal.Run lines) (sym line.verb))

  -- A person's place.

  pub place_goes : (name : Text) (cluster : ℕ) → Stands lines clusters applicants placed false false → IsCommandLine x (command.Place name cluster) → cluster ≤ clusters →
      among (map (λ p. p.0) placed) name ≡ false → In name (map (λ a. a.1) applicants) → halt goal.Run lines x ≡ None
  place_goes name cluster s line within new known =
      let its_name : name ≡ word x 1 = ap (λ (a : Text × ℕ). a.0) line.carries in
      let its_cluster : cluster ≡ number (word x 2) = ap (λ (a : Text × ℕ). a.1) line.carries in
      let adm : IsAdmitted lines verb.Place = record {
        called = rw s.call refl;
        in_turn = rw (phase_of lines clusters applicants placed false false s, s.no_seed) refl;
      } in
      let bounded : is_within 1 MOST_CLUSTERS (word x 2) ≡ true = not-false _ (clean x (command.Place name cluster) line).2 in
      let range : is_within 1 (clusters_of lines) (word x 2) ≡ true =
      within_clusters (word x 2) (clusters_of lines) bounded ∙ le-leb (number (word x 2)) (clusters_of lines) (omega (arith, within, its_cluster, s.clusters_are)) in
      let free : among (placed_names (register lines)) (word x 1) ≡ false =
      ap (λ (ps : List (Text × ℕ)). among (map (λ p. p.0) ps) (word x 1)) s.placed_are ∙ ap (among (map (λ p. p.0) placed)) (sym its_name) ∙ new in
      let person : among (persons (register lines)) (word x 1) ≡ true =
      among_persons (register lines) (word x 1)
      ∙ ap (λ (ps : List (Text × Text)). among (map (λ a. a.1) ps) (word x 1)) s.applicants_are
      ∙ ap (among (map (λ a. a.1) applicants)) (sym its_name)
      ∙ In-among (map (λ a. a.1) applicants) name known in
      let own : own_of goal.Run lines verb.Place x ≡ None = rw (range, free, person) refl in
      goes_on lines x (faultless lines x (command.Place name cluster) line adm own) (ap (falls_short goal.Run lines) (sym line.verb))

  -- The assignment, where all are placed.

  all_pass : (test : Text → Bool) (ts : List Text) → ((t : Text) → In t ts → test t ≡ true) → list_all test ts ≡ true
  all_pass test [] h = refl
  all_pass test (t ∷ ts) h = and_from (test t) (list_all test ts) (h t (inl refl)) (all_pass test ts (λ u m. h u (inr m)))

  pub no_pairs_held : (a c : Bool) → Stands lines clusters applicants placed a c → has_pairs lines ≡ false
  unfolding has_pairs
  no_pairs_held a c s = ap (λ (ps : List (Text × Text)). not (eqb (length ps) 0)) s.no_pairs

  placed_all : Stands lines clusters applicants placed false false → ((t : Text) → In t (map (λ a. a.1) applicants) → In t (map (λ p. p.0) placed)) →
      all_placed (register lines) ≡ true
  unfolding all_placed
  placed_all s each =
      all_pass (among (placed_names (register lines))) (persons (register lines))
      (λ t m.
      let their : among (map (λ a. a.1) applicants) t ≡ true =
      sym (ap (λ (ps : List (Text × Text)). among (map (λ a. a.1) ps) t) s.applicants_are) ∙ sym (among_persons (register lines) t) ∙ In-among (persons (register lines)) t m in
      ap (λ (ps : List (Text × ℕ)). among (map (λ p. p.0) ps) t) s.placed_are ∙ In-among (map (λ p. p.0) placed) t (each t (among-In (map (λ a. a.1) applicants) t their)))

  pub assign_faultless : Stands lines clusters applicants placed false false → IsCommandLine x command.Assign → 1 ≤ length applicants →
      ((t : Text) → In t (map (λ a. a.1) applicants) → In t (map (λ p. p.0) placed)) → fault goal.Run lines x ≡ None
  assign_faultless s line some each =
      let adm : IsAdmitted lines verb.Assign = record {
        called = rw s.call refl;
        in_turn = rw (phase_of lines clusters applicants placed false false s) refl;
      } in
      let filled : eqb (length (register lines).applicants) 0 ≡ false = ap (λ (ps : List (Text × Text)). eqb (length ps) 0) s.applicants_are ∙ not_empty applicants some in
      let own : own_of goal.Run lines verb.Assign x ≡ None = rw (filled, s.no_seed, placed_all s each, no_pairs_held false false s) refl in
      faultless lines x command.Assign line adm own
    where
      not_empty : (ps : List (Text × Text)) → 1 ≤ length ps → eqb (length ps) 0 ≡ false
      not_empty [] h = absurd (omega arith)
      not_empty (p ∷ ps) h = eqb-suc-zero (length ps)

  -- The close and the draw.

  pub close_goes : Stands lines clusters applicants placed true false → IsCommandLine x command.Close → halt goal.Run lines x ≡ None
  close_goes s line =
      let adm : IsAdmitted lines verb.Close = record {
        called = rw s.call refl;
        in_turn = rw (phase_of lines clusters applicants placed true false s) refl;
      } in
      goes_on lines x (faultless lines x command.Close line adm refl) (ap (falls_short goal.Run lines) (sym line.verb))

  pub draw_goes : (v : ℕ) → Stands lines clusters applicants placed true true → IsCommandLine x (command.Draw v) → v < denominator_of (register lines) →
      halt goal.Run lines x ≡ None
  draw_goes v s line below =
      let adm : IsAdmitted lines verb.Draw = record {
        called = rw s.call refl;
        in_turn = rw (phase_of lines clusters applicants placed true true s) refl;
      } in
      let bounded : is_within 0 (2 ^ 64 - 1) (word x 1) ≡ true = not-false _ (clean x (command.Draw v) line).2 in
      let range : is_below (denominator_of (register lines)) (word x 1) ≡ true =
      below_is (word x 1) (denominator_of (register lines)) bounded ∙ lt-ltb (number (word x 1)) (denominator_of (register lines)) (omega (arith, below, line.carries)) in
      let own : own_of goal.Run lines verb.Draw x ≡ None = rw (range, s.no_seal) refl in
      goes_on lines x (faultless lines x (command.Draw v) line adm own) (ap (falls_short goal.Run lines) (sym line.verb))
