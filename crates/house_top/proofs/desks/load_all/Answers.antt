use Rattle.std.proofs.Common.{◌≡◌, ◌+◌, ◌++◌, List, ◌∷◌, [], Global, Vec, ℕ, Ok, drop, map, string_bytes, sym, ap, ◌∙◌, subst, arith, take}
use Rattle.std.specs.Prelude.{IfSome}
use Rattle.std.proofs.lemmas.List.{map-append, map_more}
use Rattle.house_base.specs.Text.{Text}
use Rattle.house_io.specs.declared.files.LoadFault.{LoadFault}
use Rattle.house_top.specs.Desks.{all_loaded}
use Rattle.house_top.specs.Given.{held}
use Rattle.house_top.specs.Words.{texts}
use Rattle.house_top.proofs.DeskLemmas.{all_at, long_of, map_at, more_loaded, one_long}
use Rattle.house_top.proofs.desks.load_all.Goals as goal

pub load-requires : goal.load-requires
load-requires g c =
    let names = c.args.names.now in
    let i = c.loop-name.name-index in
    let name = c.name-item.result in
    let ready = g.F.Files.ready c.args.files.now in
    let here : ready (string_bytes name) =
    subst (λ x. ready (string_bytes x)) (sym c.name-item.is) (all_at string_bytes ready names i name c.loop-name-test.true c.requires) in
    c.loop-name.invariant.ready c.as_str.result.now (subst ready (sym c.as_str.ensures.value) here)

pub returns-in-Err-clause-long : goal.returns-in-Err-clause-long
returns-in-Err-clause-long g c =
    let names = c.args.names.now in
    let i = c.loop-name.name-index in
    let name = c.name-item.result in
    let all = map (λ (v : Vec ℕ Global). v.items) c.loop-name.all.items in
    let shown = g.F.Files.contents in
    let whole : texts names ≡ texts (take i names) ++ c.as_str.result.now ∷ texts (drop (i + 1) names) =
    map_at string_bytes names i name c.loop-name-test.true
    ∙ ap (λ x. texts (take i names) ++ string_bytes x ∷ texts (drop (i + 1) names)) (sym c.name-item.is)
    ∙ ap (λ t. texts (take i names) ++ t ∷ texts (drop (i + 1) names)) (sym c.as_str.ensures.value) in
    λ is.
    long_of (shown c.args.files.now) _ _ (texts names) _ whole
    (one_long (shown c.args.files.now) (shown c.loop-name.files) (texts (take i names)) c.as_str.result.now (texts (drop (i + 1) names)) all _ _ _
    c.loop-name.invariant.unchanged c.loop-name.invariant.loaded c.loop-name.invariant.never_falls (c.in-Err.ensures.long (let same : c.in-Err.fault ≡ LoadFault.Long = cc in cc)))

pub loop-name-preserved : goal.loop-name-preserved
loop-name-preserved g c =
    let names = c.args.names.now in
    let i = c.loop-name.name-index in
    let name = c.name-item.result in
    let items = λ (v : Vec ℕ Global). v.items in
    let all = map items c.loop-name.all.items in
    let shown = g.F.Files.contents in
    let bytes = c.in-Ok.bytes in
    let more : texts (take (i + 1) names) ≡ texts (take i names) ++ c.as_str.result.now ∷ [] =
    map_more string_bytes names i name c.loop-name-test.true
    ∙ ap (λ x. texts (take i names) ++ string_bytes x ∷ []) (sym c.name-item.is)
    ∙ ap (λ t. texts (take i names) ++ t ∷ []) (sym c.as_str.ensures.value) in
    let pushed : map items c.push_reserved.new.self.items ≡ all ++ bytes.items ∷ [] =
    ap (map items) (c.push_reserved.ensures.items ∙ ap (λ vs. vs ++ bytes ∷ []) c.in_ok-reserve.ensures.items) ∙ map-append items c.loop-name.all.items (bytes ∷ []) in
    let loaded = more_loaded (shown c.args.files.now) (shown c.loop-name.files) (texts (take i names)) c.as_str.result.now all bytes.items
    c.loop-name.invariant.unchanged c.loop-name.invariant.loaded c.in-Ok.ensures.content (omega (arith, c.in-Ok.ensures.short, bytes.ok.0)) in
    record {
      loaded = subst (λ (ns : List Text). IfSome (shown c.args.files.now) (λ files. all_loaded (held ns files) ≡ Ok (map items c.push_reserved.new.self.items))) (sym more)
          (subst (λ (bs : List Text). IfSome (shown c.args.files.now) (λ files. all_loaded (held (texts (take i names) ++ c.as_str.result.now ∷ []) files) ≡ Ok bs)) (sym pushed) loaded);
      unchanged = c.in-Ok.ensures.unchanged ∙ c.loop-name.invariant.unchanged;
      ready = λ name was. c.in-Ok.ensures.ready name (c.loop-name.invariant.ready name was);
      never_falls = omega (arith, c.loop-name.invariant.never_falls, c.in-Ok.ensures.never_falls);
    }
