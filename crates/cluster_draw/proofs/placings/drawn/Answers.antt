use Rattle.std.proofs.Common.{◌≡◌, ◌+◌, ◌%◌, ◌<◌, ◌++◌, ◌∷◌, [], List, length, get_or, map, take, All, Some, slice_get, sym, ap, ◌∙◌, subst, arith, length-append}
use Rattle.std.specs.List.Sorted.{IsPermutation, IsSorted}
use Rattle.std.proofs.lemmas.List.{length-map, get_or-map, map_push, take_all}
use Rattle.std.proofs.lemmas.Option.{slice_get-get_or, slice_get_within, get_or_from_slice_get}
use Rattle.house_base.proofs.InOrderLemmas.{In, In-get_or}
use Rattle.house_model.specs.Register.{persons}
use Rattle.house_model.specs.Seeds.{person_key, key_cmp, drawn_cluster, drawn_persons}
use Rattle.house_model.proofs.SeedLemmas.{Key, IsOrder-order, length-order, moved_names, drawn_persons-sorted, drawn_cluster-at}
use Rattle.cluster_draw.specs.Placings.{name_of, names_of}
use Rattle.cluster_draw.specs.declared.placings.Placing.{Placing}
use Rattle.cluster_draw.proofs.PlacingLemmas.{take_push, All-push, found_person, ArePlacings-drawn}
use Rattle.cluster_draw.proofs.placings.drawn.Goals as goal

pub loop-rank-preserved : goal.loop-rank-preserved
loop-rank-preserved c =
    let reg = c.args.book.now in
    let seed = c.args.seed.now in
    let rank = c.loop-rank.rank in
    let keys : List Key = c.sort_unstable.new.self.items in
    let moved : IsPermutation (map (person_key seed) (persons reg)) keys = subst (λ l. IsPermutation l keys) c.in_ok-keys.ensures c.sort_unstable.ensures.permutation in
    let sorted : IsSorted key_cmp keys = c.sort_unstable.ensures.sorted in
    let order = map (λ key. key.1) keys in
    let below : rank < length order = omega (arith, c.loop-rank-test.true, c.persons-rank-end.ensures.value, length-order seed reg keys moved sorted) in
    let key = c.index.result.now in
    let name_here : get_or order rank [] ≡ key.1 =
    get_or-map (λ k. k.1) keys rank key [] (omega (arith, below, length-map keys (λ k. k.1))) ∙ ap (λ k. k.1) (sym c.index.ensures) in
    let among = subst (λ t. In t (persons reg)) name_here ((IsOrder-order seed reg keys moved sorted).only (get_or order rank []) (In-get_or order rank [] below)) in
    let found : slice_get (persons reg) c.unwrap_or-person.result ≡ Some key.1 =
    ap (slice_get (persons reg)) c.unwrap_or-person.ensures ∙ found_person reg key.1 c.find_person.result c.find_person.ensures.known c.find_person.ensures.number among in
    let before = c.loop-rank.placings.items in
    let last : Placing = record { person = c.unwrap_or-person.result; cluster = 1 + rank % c.args.clusters } in
    let longer : c.push.new.self.items ≡ before ++ last ∷ [] = c.in_ok-push.ensures.items in
    let named : name_of reg last ≡ key.1 = get_or_from_slice_get (persons reg) c.unwrap_or-person.result key.1 [] found in
    record {
      known = subst (λ l. All (λ placing. placing.person < length (persons reg)) l) (sym longer)
          (All-push (λ placing. placing.person < length (persons reg)) before last c.loop-rank.invariant.known (slice_get_within (persons reg) c.unwrap_or-person.result key.1 found));
      named = ap (names_of reg) longer
          ∙ (map_push (name_of reg) before last
          ∙ (ap (λ l. l ++ name_of reg last ∷ []) c.loop-rank.invariant.named
          ∙ (ap (λ t. take rank order ++ t ∷ []) (named ∙ sym name_here)
          ∙ sym (take_push order rank (get_or order rank []) (slice_get-get_or order rank [] below)))));
      clusters = subst (λ l. All (λ placing. placing.cluster ≡ drawn_cluster seed c.args.clusters reg (name_of reg placing)) l) (sym longer)
          (All-push (λ placing. placing.cluster ≡ drawn_cluster seed c.args.clusters reg (name_of reg placing)) before last c.loop-rank.invariant.clusters
          (sym (drawn_cluster-at seed reg keys moved sorted c.args.clusters rank below) ∙ ap (drawn_cluster seed c.args.clusters reg) (name_here ∙ sym named)));
      many = omega (arith, ap length longer, length-append before (last ∷ []), c.loop-rank.invariant.many);
    }

pub returns-clause-placings : goal.returns-clause-placings
returns-clause-placings c =
    let seed = c.args.seed.now in
    let reg = c.args.book.now in
    let keys = c.sort_unstable.new.self.items in
    let moved : IsPermutation (map (person_key seed) (persons reg)) keys = subst (λ l. IsPermutation l keys) c.in_ok-keys.ensures c.sort_unstable.ensures.permutation in
    let sorted : IsSorted key_cmp keys = c.sort_unstable.ensures.sorted in
    let long = length-order seed reg keys moved sorted in
    ArePlacings-drawn seed c.args.clusters reg (drawn_persons seed reg) c.loop-rank.placings.items c.loop-rank.invariant.known
    (c.loop-rank.invariant.named
    ∙ (take_all c.loop-rank.rank (map (λ key. key.1) keys) (omega (arith, c.loop-rank-test.false, c.persons-rank-end.ensures.value, long))
    ∙ sym (drawn_persons-sorted seed reg keys moved sorted))) c.loop-rank.invariant.clusters

pub returns-clause-order : goal.returns-clause-order
returns-clause-order c =
    let seed = c.args.seed.now in
    let reg = c.args.book.now in
    let keys = c.sort_unstable.new.self.items in
    let moved : IsPermutation (map (person_key seed) (persons reg)) keys = subst (λ l. IsPermutation l keys) c.in_ok-keys.ensures c.sort_unstable.ensures.permutation in
    let sorted : IsSorted key_cmp keys = c.sort_unstable.ensures.sorted in
    subst (λ l. IsPermutation (persons reg) l) (sym (drawn_persons-sorted seed reg keys moved sorted)) (moved_names seed reg keys moved sorted)
