use Rattle.std.proofs.Common.{◌≡◌, ◌≤◌, length, take, drop, ◌∙◌, ap, arith, length-take, ◌++◌}
use Rattle.std.proofs.lemmas.List.{take-append-le}
use Rattle.intake_log.specs.declared.limits.TheConstants.{FRONT_BYTES}
use Rattle.intake_log.proofs.StartLemmas.{grown, grown-most, front-ends, front-full, only_reads-more}
use Rattle.intake_log.proofs.load.read_front.Goals as goal

pub returns-then-count-eq0-clause-front : goal.returns-then-count-eq0-clause-front
returns-then-count-eq0-clause-front g c =
    let i = c.loop-buf.invariant in
    let at_is : c.len-in-loop-buf-2.result ≡ length c.loop-buf.front.items = omega (arith, c.loop-buf.front.ok.0) in
    front-ends _ _ c.loop-buf.front.items c.in_ok-count.count _ FRONT_BYTES c.len-in-loop-buf-2.result at_is i.only_reads.same i.so_far c.in_ok-count.ensures.count
    c.if-count-eq0.true (omega (arith, length-take c.min-room.result c.loop-buf.buf)) (omega (arith, c.loop-buf.front.ok.0))

pub loop-buf-preserved : goal.loop-buf-preserved
loop-buf-preserved g c =
    let i = c.loop-buf.invariant in
    let at_is : c.len-in-loop-buf-2.result ≡ length c.loop-buf.front.items = omega (arith, c.loop-buf.front.ok.0) in
    let buf = c.read.new.buf in
    let rest = drop c.min-room.result c.loop-buf.buf in
    let within : c.in_ok-count.count ≤ length buf = omega (arith, c.in_ok-count.ensures.within, c.read.auto.buf) in
    let size : length (take c.in_ok-count.count buf) ≡ c.in_ok-count.count = omega (arith, length-take c.in_ok-count.count buf, within) in
    let more = c.in_ok-extend_from_slice.ensures.items ∙ ap (λ l. c.loop-buf.front.items ++ l) (take-append-le c.in_ok-count.count buf rest within) in
    let room : length (take c.in_ok-count.count buf) ≤ c.min-room.result = omega (arith, size, c.in_ok-count.ensures.within, length-take c.min-room.result c.loop-buf.buf) in
    let most = grown-most c.loop-buf.front.items (take c.in_ok-count.count buf) c.extend_from_slice.new.self.items c.min-room.result FRONT_BYTES (omega (arith, c.loop-buf.front.ok.0)) room
    (omega (arith, c.loop-buf.front.ok.0)) more in
    record {
      most = omega (arith, most, c.extend_from_slice.new.self.ok.0);
      so_far = grown _ _ c.loop-buf.front.items _ c.extend_from_slice.new.self.items c.in_ok-count.count c.len-in-loop-buf-2.result at_is i.only_reads.same i.so_far c.in_ok-count.ensures.value size more;
      only_reads = only_reads-more g.D.Disk.content g.D.Disk.images g.D.Disk.moment g.D.Disk.images_since g.met.D.Disk.counts_now c.args.disk.now c.loop-buf.disk c.read.new.self
          i.only_reads c.read.ensures.same c.read.ensures.images c.read.ensures.during c.read.ensures.time;
      never_falls = omega (arith, i.never_falls, c.read.ensures.never_falls);
    }

pub returns-clause-front : goal.returns-clause-front
returns-clause-front g c =
    let i = c.loop-buf.invariant in
    front-full _ c.loop-buf.front.items FRONT_BYTES i.so_far (omega (arith, c.loop-buf.front.ok.0)) (omega (arith, c.loop-buf.front.ok.0))
