use Rattle.std.proofs.Common.{◌≡◌, ◌+◌, length, subst, sym, arith}
use Rattle.writeback_ioend.specs.Folios.{HaveTickets, LooksOn}
use Rattle.writeback_ioend.proofs.LendLemmas.{lends-share, numbered, seeks-all, seeks-ended, seeks-first, seeks-on, seeks-run, tickets-kept, tickets-more}
use Rattle.writeback_ioend.proofs.lend.lend_runs.Goals as goal

pub loop-init : goal.loop-init
loop-init g c =
    let some = c.requires.some in
    record {
      of = c.requires.of;
      tickets = λ t is. is;
      high = omega (arith, some);
      seeks = seeks-first c.args.mount.now c.args.file c.args.waits c.args.from c.args.end c.args.pass.now c.args.numbers.now.items c.args.bios.now.items c.requires.numbers.0 c.requires.bios.0;
      have = subst (HaveTickets c.args.pass.now) (sym c.requires.bios.0) tt;
      bios = c.requires.bios.1;
      numbers = c.requires.numbers.1;
    }

pub lend_run-requires-clause-share : goal.lend_run-requires-clause-share
lend_run-requires-clause-share g c =
    let more = c.if-at-end.false in
    let high = c.loop.invariant.high in
    let few = c.requires.few in
    let within = c.requires.within in
    lends-share c.args.mount.now c.args.file c.args.waits c.args.from c.loop.at c.args.pass.now c.loop.pass c.loop.numbers.items c.loop.bios.items c.loop.invariant.seeks.lends c.requires.shares
    (omega (arith, more, high, within)) (omega (arith, more, high, few))

pub push_reserved-requires : goal.push_reserved-requires
push_reserved-requires g c =
    let count = numbered c.args.mount.now c.args.file 0 c.loop.numbers.items c.loop.bios.items c.loop.invariant.seeks.lends.lent in
    let many = c.loop.invariant.seeks.lends.many in
    let high = c.loop.invariant.high in
    let few = c.requires.few in
    let more = c.if-at-end.false in
    let room = c.loop.invariant.numbers in
    let ok = c.loop.numbers.ok.0 in
    omega (arith, count, many, high, few, more, room, ok)

pub loop-preserved-in-Lent : goal.loop-preserved-in-Lent
loop-preserved-in-Lent g c =
    let came = c.in-Lent.ensures.came in
    let parts : c.len-in-Lent.result ≡ length c.in-Lent.bio.parts = c.len-in-Lent.ensures.count in
    let slot : c.len.result ≡ length c.loop.bios.items = (let len = c.len.ensures in let ok = c.loop.bios.ok.0 in omega (arith, len, ok)) in
    let many = c.loop.invariant.seeks.lends.many in
    let few = c.requires.few in
    let below = c.loop.invariant.high in
    let more = c.if-at-end.false in
    let room = c.loop.invariant.bios in
    let room' = c.loop.invariant.numbers in
    let kept = c.push_reserved-in-Lent.ensures.capacity in
    let kept' = c.push_reserved.ensures.capacity in
    record {
      of = c.next_due-at.ensures.of;
      tickets = λ t is. c.next_due-at.ensures.tickets t (c.in-Lent.ensures.tickets t (c.loop.invariant.tickets t is));
      high = c.next_due-at.ensures.within;
      seeks = seeks-run c.args.mount.now c.args.file c.args.waits c.args.from c.loop.at (c.loop.at + length c.in-Lent.bio.parts) c.next_due-at.result _ c.args.end c.in-Lent.number c.args.pass.now c.loop.pass c.lend_run.new.pass c.next_due-at.new.pass
          c.loop.numbers.items c.push_reserved.new.self.items c.loop.bios.items c.push_reserved-in-Lent.new.self.items c.in-Lent.bio c.requires.of (omega (arith, more, below)) c.loop.invariant.seeks (omega (arith, slot, many, few, below)) came.tries
          (subst (λ n. LooksOn c.args.mount.now c.args.file c.args.waits (c.loop.at + n) c.next_due-at.result c.args.end c.lend_run.new.pass c.next_due-at.new.pass) parts (c.next_due-at.ensures.looked c.args.waits))
          c.push_reserved.ensures.items c.push_reserved-in-Lent.ensures.items;
      have = tickets-kept c.lend_run.new.pass c.next_due-at.new.pass c.push_reserved-in-Lent.new.self.items c.next_due-at.ensures.tickets
          (subst (HaveTickets c.lend_run.new.pass) (sym c.push_reserved-in-Lent.ensures.items)
          (tickets-more c.lend_run.new.pass c.loop.bios.items c.in-Lent.bio (tickets-kept c.loop.pass c.lend_run.new.pass c.loop.bios.items c.in-Lent.ensures.tickets c.loop.invariant.have) came.ticket));
      bios = omega (arith, room, kept);
      numbers = omega (arith, room', kept');
    }

pub loop-preserved : goal.loop-preserved
loop-preserved g c =
    let slot : c.len.result ≡ length c.loop.bios.items = (let len = c.len.ensures in let ok = c.loop.bios.ok.0 in omega (arith, len, ok)) in
    let many = c.loop.invariant.seeks.lends.many in
    let few = c.requires.few in
    let below = c.loop.invariant.high in
    let more = c.if-at-end.false in
    record {
      of = c.next_due-at-in-On.ensures.of;
      tickets = λ t is. c.next_due-at-in-On.ensures.tickets t (c.in-On.ensures.tickets t (c.loop.invariant.tickets t is));
      high = c.next_due-at-in-On.ensures.within;
      seeks = seeks-on c.args.mount.now c.args.file c.args.waits c.args.from c.loop.at c.in-On.next c.next_due-at-in-On.result _ c.args.end c.args.pass.now c.loop.pass c.lend_run.new.pass c.next_due-at-in-On.new.pass
          c.loop.numbers.items c.loop.bios.items c.requires.of (omega (arith, more, below)) c.loop.invariant.seeks (omega (arith, slot, many, few, below)) c.in-On.ensures.came.tries (c.next_due-at-in-On.ensures.looked c.args.waits);
      have = tickets-kept c.lend_run.new.pass c.next_due-at-in-On.new.pass c.loop.bios.items c.next_due-at-in-On.ensures.tickets (tickets-kept c.loop.pass c.lend_run.new.pass c.loop.bios.items c.in-On.ensures.tickets c.loop.invariant.have);
      bios = c.loop.invariant.bios;
      numbers = c.loop.invariant.numbers;
    }

pub returns-in-Ended-clause-sought : goal.returns-in-Ended-clause-sought
returns-in-Ended-clause-sought g c =
    let slot : c.len.result ≡ length c.loop.bios.items = (let len = c.len.ensures in let ok = c.loop.bios.ok.0 in omega (arith, len, ok)) in
    let many = c.loop.invariant.seeks.lends.many in
    let few = c.requires.few in
    let below = c.loop.invariant.high in
    let more = c.if-at-end.false in
    seeks-ended c.args.mount.now c.args.file c.args.waits c.args.from c.loop.at _ c.args.end c.args.pass.now c.loop.pass c.lend_run.new.pass c.loop.numbers.items c.loop.bios.items c.in-Ended.fault c.requires.of (omega (arith, more, below)) c.loop.invariant.seeks (omega (arith, slot, many, few, below)) c.in-Ended.ensures.came

pub returns-in-Ended-clause-have : goal.returns-in-Ended-clause-have
returns-in-Ended-clause-have g c = tickets-kept c.loop.pass c.lend_run.new.pass c.loop.bios.items c.in-Ended.ensures.tickets c.loop.invariant.have

pub returns-then-at-end-clause-sought : goal.returns-then-at-end-clause-sought
returns-then-at-end-clause-sought g c =
    let same = c.if-at-end.true in
    let some = c.requires.some in
    seeks-all c.args.mount.now c.args.file c.args.waits c.args.from c.loop.at c.args.end c.args.pass.now c.loop.pass c.loop.numbers.items c.loop.bios.items (omega (arith, same, some)) c.loop.invariant.seeks
