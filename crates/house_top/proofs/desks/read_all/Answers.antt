use Rattle.std.proofs.Common.{◌≡◌, ◌+◌, ◌<◌, ◌++◌, ◌∷◌, [], drop, Vec, Global, Ok, Err, ℕ, length, map, take, sym, ap, ◌∙◌, arith}
use Rattle.std.proofs.lemmas.List.{length-map, length-take-le, map_more, take_all}
use Rattle.desk_merge.specs.Joined.{join_of}
use Rattle.desk_merge.specs.Reading.{desk_read}
use Rattle.desk_merge.proofs.ReadingLemmas.{read_as}
use Rattle.house_top.specs.declared.bad.Bad.TheVariants as bad
use Rattle.house_top.specs.declared.status.Status.TheVariants as status
use Rattle.house_top.specs.Desks.{join_read}
use Rattle.house_top.proofs.DeskLemmas.{map_at, reads_less, reads_more}
use Rattle.house_top.proofs.desks.read_all.Goals as goal

pub loop-index-init : goal.loop-index-init
unfolding join_of
loop-index-init c = ap Ok (sym c.new-joined.ensures)

pub loop-index-preserved : goal.loop-index-preserved
loop-index-preserved c =
    let items = λ (v : Vec ℕ Global). v.items in
    let all = c.args.all.now in
    let i = c.loop-index.index in
    let file = c.index-all-index.result in
    let more : map items (take (i + 1) all) ≡ map items (take i all) ++ file.items ∷ [] =
    map_more items all i file c.loop-index-test.true ∙ ap (λ v. map items (take i all) ++ items v ∷ []) (sym c.index-all-index.is) in
    let read : desk_read file.items ≡ Ok c.in-Ok.entries = ap desk_read (sym c.deref.ensures.value) ∙ read_as c.deref.result.now (Ok c.in-Ok.entries) c.in-Ok.ensures.ok in
    ap join_read more
    ∙ reads_more (map items (take i all)) file.items c.loop-index.joined c.in-Ok.entries c.loop-index.invariant read
    ∙ ap Ok (sym c.in_ok-joined-in-Ok.ensures)

pub returns-in-Err-BadLine-clause-read : goal.returns-in-Err-BadLine-clause-read
returns-in-Err-BadLine-clause-read c =
    let items = λ (v : Vec ℕ Global). v.items in
    let all = c.args.all.now in
    let i = c.loop-index.index in
    let file = c.index-all-index.result in
    let line = c.in-Err-BadLine.line in
    let whole : map items all ≡ map items (take i all) ++ file.items ∷ map items (drop (i + 1) all) =
    map_at items all i file c.loop-index-test.true ∙ ap (λ v. map items (take i all) ++ items v ∷ map items (drop (i + 1) all)) (sym c.index-all-index.is) in
    let read : desk_read file.items ≡ Err line = ap desk_read (sym c.deref.ensures.value) ∙ read_as c.deref.result.now (Err line) (c.in-Err-BadLine.ensures.bad line (ap Err c.in-Err-BadLine.field-0-is)) in
    let within : i < length all = c.loop-index-test.true in
    let number : i + 1 ≡ 1 + length (map items (take i all)) = omega (arith, length-map (take i all) items, length-take-le i all (omega (arith, within))) in
    ap join_read whole
    ∙ reads_less (map items (take i all)) file.items (map items (drop (i + 1) all)) c.loop-index.joined (i + 1) line number c.loop-index.invariant read
    ∙ ap (λ l. Err (status.BadFile (bad.Desk (i + 1) l))) (sym c.in-Err-BadLine.line-is)

pub returns-clause-read : goal.returns-clause-read
returns-clause-read c =
    let items = λ (v : Vec ℕ Global). v.items in
    sym (ap (λ vs. join_read (map items vs)) (take_all c.loop-index.index c.args.all.now (omega (arith, c.loop-index-test.false)))) ∙ c.loop-index.invariant
