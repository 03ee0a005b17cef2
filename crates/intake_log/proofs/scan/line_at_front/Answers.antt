use Rattle.std.proofs.Common.{◌≡◌, length, take, drop, sym, ◌∙◌, ap, subst, arith, length-take, Some}
use Rattle.std.proofs.lemmas.Nat.{be_bytes_4}
use Rattle.std.specs.Int.{from_be_bytes, w32}
use Rattle.command_text.specs.Held.{HasNoFeed}
use Rattle.intake_log.proofs.ScanLemmas.{has-feed, has-none, short-none, small-front, tested-none, tested-some}
use Rattle.intake_log.proofs.scan.line_at_front.Goals as goal
use Rattle.intake_log.proofs.scan.line_at_front.Goals.{then-size-gt-MOST_LINE_BYTES-via-then-size-gt-MOST_LINE_BYTES, then-size-gt-MOST_LINE_BYTES-via-else-size-gt-MOST_LINE_BYTES+then-size-rest}

pub returns-then-bytes-lt-LENGTH_BYTES-clause-line : goal.returns-then-bytes-lt-LENGTH_BYTES-clause-line
returns-then-bytes-lt-LENGTH_BYTES-clause-line c = short-none c.args.bytes.now (omega arith)

pub returns-then-size-gt-MOST_LINE_BYTES-clause-line : goal.returns-then-size-gt-MOST_LINE_BYTES-clause-line
returns-then-size-gt-MOST_LINE_BYTES-clause-line c =
    let bytes = c.args.bytes.now in
    let size = c.from_be_bytes-size.result in
    let rest : length c.split_at.result.1.now ≡ length (drop 4 bytes) = ap length c.split_at.ensures.back in
    tested-none bytes size (c.from_be_bytes-size.ensures ∙ ap (from_be_bytes w32) c.split_at.ensures.front)
    (λ r. elim c.then-size-gt-MOST_LINE_BYTES.branch [
      | then-size-gt-MOST_LINE_BYTES-via-then-size-gt-MOST_LINE_BYTES w ↦ omega (arith, r.short)
      | then-size-gt-MOST_LINE_BYTES-via-else-size-gt-MOST_LINE_BYTES+then-size-rest w ↦ omega (arith, r.there, rest)
    ])

pub returns-then-contains-clause-line : goal.returns-then-contains-clause-line
returns-then-contains-clause-line c =
    let bytes = c.args.bytes.now in
    let size = c.from_be_bytes-size.result in
    let line : c.split_at-2.result.0.now ≡ take size (drop 4 bytes) = c.split_at-2.ensures.front ∙ ap (take size) c.split_at.ensures.back in
    tested-none bytes size (c.from_be_bytes-size.ensures ∙ ap (from_be_bytes w32) c.split_at.ensures.front)
    (λ r. has-feed c.split_at-2.result.0.now c.contains.result c.contains.ensures.value c.if-contains.true (subst HasNoFeed (sym line) r.no_feed))

pub returns-clause-line : goal.returns-clause-line
returns-clause-line c =
    let bytes = c.args.bytes.now in
    let size = c.from_be_bytes-size.result in
    let is = c.from_be_bytes-size.ensures ∙ ap (from_be_bytes w32) c.split_at.ensures.front in
    let four : length (take 4 bytes) ≡ 4 = omega (arith, length-take 4 bytes) in
    let small = small-front 4 bytes (λ i. omega (arith, c.type_inv.bytes i)) in
    let line : c.split_at-2.result.0.now ≡ take size (drop 4 bytes) = c.split_at-2.ensures.front ∙ ap (take size) c.split_at.ensures.back in
    tested-some bytes size is (record {
      head = sym (be_bytes_4 (take 4 bytes) size four small is);
      short = omega arith;
      there = omega (arith, ap length c.split_at.ensures.back);
      no_feed = subst HasNoFeed line (has-none c.split_at-2.result.0.now c.contains.result c.contains.ensures.value c.if-contains.false);
    }) ∙ ap Some (sym line)
