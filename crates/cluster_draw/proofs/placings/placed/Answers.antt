use Rattle.std.proofs.Common.{◌≡◌, ◌<◌, ◌++◌, ◌∷◌, [], length, All, sym, ap, ◌∙◌, subst, arith, length-append}
use Rattle.std.proofs.lemmas.List.{map_push, take_all}
use Rattle.std.proofs.lemmas.Option.{slice_get-get_or}
use Rattle.house_model.specs.Register.{persons, cluster_of}
use Rattle.register_book.specs.Held.{text_at}
use Rattle.cluster_draw.specs.Placings.{name_of, names_of}
use Rattle.cluster_draw.specs.declared.placings.Placing.{Placing}
use Rattle.cluster_draw.proofs.PeopleLemmas.{cluster_or_none}
use Rattle.cluster_draw.proofs.PlacingLemmas.{take_push, All-push}
use Rattle.cluster_draw.proofs.placings.placed.Goals as goal

pub loop-person-preserved : goal.loop-person-preserved
loop-person-preserved c =
    let reg = c.args.book.now in
    let index = c.loop-person.person in
    let before = c.loop-person.placings.items in
    let last : Placing = record { person = index; cluster = c.unwrap_or-cluster.result } in
    let longer : c.push.new.self.items ≡ before ++ last ∷ [] = c.in_ok-push.ensures.items in
    let below : index < length (persons reg) = omega (arith, c.loop-person-test.true, c.persons-person-end.ensures.value) in
    record {
      known = subst (λ l. All (λ placing. placing.person < length (persons reg)) l) (sym longer)
          (All-push (λ placing. placing.person < length (persons reg)) before last c.loop-person.invariant.known below);
      named = ap (names_of reg) longer
          ∙ (map_push (name_of reg) before last
          ∙ (ap (λ l. l ++ text_at (persons reg) index ∷ []) c.loop-person.invariant.named
          ∙ sym (take_push (persons reg) index (text_at (persons reg) index) (slice_get-get_or (persons reg) index [] below))));
      clusters = subst (λ l. All (λ placing. placing.cluster ≡ cluster_of reg (name_of reg placing)) l) (sym longer)
          (All-push (λ placing. placing.cluster ≡ cluster_of reg (name_of reg placing)) before last c.loop-person.invariant.clusters
          (c.unwrap_or-cluster.ensures ∙ cluster_or_none reg (text_at (persons reg) index) c.cluster.result c.cluster.ensures.placed c.cluster.ensures.cluster));
      many = omega (arith, ap length longer, length-append before (last ∷ []), c.loop-person.invariant.many);
    }

pub returns-clause-placings : goal.returns-clause-placings
returns-clause-placings c = record {
  known = c.loop-person.invariant.known;
  named = c.loop-person.invariant.named ∙ take_all c.loop-person.person (persons c.args.book.now) (omega (arith, c.loop-person-test.false, c.persons-person-end.ensures.value));
  clusters = c.loop-person.invariant.clusters;
}
