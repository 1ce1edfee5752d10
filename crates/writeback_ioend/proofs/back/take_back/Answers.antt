use Rattle.std.proofs.Common.{◌≡◌, ◌+◌, length, ap, subst, sym, refl, ◌∙◌, arith}
use Rattle.std.specs.Vec.Iter.{into_iter_items}
use Rattle.writeback_ioend.specs.Folios.{HaveComeBack, HaveTickets, carried_by}
use Rattle.writeback_ioend.specs.Writebacks.{or_else}
use Rattle.writeback_ioend.proofs.BackLemmas.{TakesSome, back-head, next-few, takes-all, takes-next, takes-none}
use Rattle.writeback_ioend.proofs.LendLemmas.{tickets-kept}
use Rattle.writeback_ioend.proofs.back.take_back.Goals as goal

pub loop-init : goal.loop-init
loop-init g c = record {
  of = c.requires.of;
  tickets = λ t is. is;
  numbers_left = omega arith;
  bios_left = omega arith;
  dones_left = omega arith;
  back = subst (λ l. HaveComeBack c.args.mount.now c.args.file l (into_iter_items c.into_iter-bios.result) (into_iter_items c.into_iter-dones.result)) (sym c.into_iter-numbers.ensures.rest)
      (subst (λ l. HaveComeBack c.args.mount.now c.args.file c.args.numbers.items l (into_iter_items c.into_iter-dones.result)) (sym c.into_iter-bios.ensures.rest)
      (subst (HaveComeBack c.args.mount.now c.args.file c.args.numbers.items c.args.bios.items) (sym c.into_iter-dones.ensures.rest) c.requires.back));
  have = subst (HaveTickets c.args.pass.now) (sym c.into_iter-bios.ensures.rest) c.requires.have;
  some = takes-none c.args.mount.now c.args.file c.args.pass.now (into_iter_items c.into_iter-bios.result) (into_iter_items c.into_iter-dones.result);
}

pub overflow_add-blocks : goal.overflow_add-blocks
overflow_add-blocks g c =
    let few = next-few c.args.mount.now c.args.file c.args.pass.now c.loop.pass c.take_one-blocks.new.pass (into_iter_items c.into_iter-bios.result) (into_iter_items c.loop.bios) (into_iter_items c.next_of-bio.new.rest) (into_iter_items c.into_iter-dones.result) (into_iter_items c.loop.dones)
    c.loop.counter c.loop.blocks c.take_one-blocks.result c.loop.failed c.next_of-bio.result c.next_of-done.result c.loop.invariant.some c.next_of-bio.ensures.items c.take_one-blocks.ensures.returns in
    let all : carried_by (into_iter_items c.into_iter-bios.result) ≡ carried_by c.args.bios.items = ap carried_by c.into_iter-bios.ensures.rest in
    let most = c.requires.few in
    omega (arith, few, all, most)

pub loop-preserved : goal.loop-preserved
loop-preserved g c =
    let head = back-head c.args.mount.now c.args.file c.next_of-number.result (into_iter_items c.next_of-number.new.rest) (into_iter_items c.loop.numbers) c.next_of-bio.result (into_iter_items c.next_of-bio.new.rest) (into_iter_items c.loop.bios) c.next_of-done.result (into_iter_items c.next_of-done.new.rest) (into_iter_items c.loop.dones)
    c.next_of-number.ensures.items c.next_of-bio.ensures.items c.next_of-done.ensures.items c.loop.invariant.back in
    let have = subst (HaveTickets c.loop.pass) c.next_of-bio.ensures.items c.loop.invariant.have in
    record {
      of = c.take_one-blocks.ensures.of;
      tickets = λ t is. c.take_one-blocks.ensures.tickets t (c.loop.invariant.tickets t is);
      numbers_left = (let n = c.loop.invariant.numbers_left in let e = c.next_of-number.ensures.len in omega (arith, n, e));
      bios_left = (let n = c.loop.invariant.bios_left in let e = c.next_of-bio.ensures.len in omega (arith, n, e));
      dones_left = (let n = c.loop.invariant.dones_left in let e = c.next_of-done.ensures.len in omega (arith, n, e));
      back = head.1;
      have = tickets-kept c.loop.pass c.take_one-blocks.new.pass (into_iter_items c.next_of-bio.new.rest) c.take_one-blocks.ensures.tickets have.1;
      some = subst (TakesSome c.args.mount.now c.args.file c.args.pass.now c.take_one-blocks.new.pass (into_iter_items c.into_iter-bios.result) (into_iter_items c.next_of-bio.new.rest) (into_iter_items c.into_iter-dones.result) (into_iter_items c.next_of-done.new.rest) (c.loop.counter + 1) (c.loop.blocks + c.take_one-blocks.result))
          (sym (c.or_else-failed.ensures ∙ ap (or_else c.loop.failed) c.failed_now.ensures))
          (takes-next c.args.mount.now c.args.file c.args.pass.now c.loop.pass c.take_one-blocks.new.pass (into_iter_items c.into_iter-bios.result) (into_iter_items c.loop.bios) (into_iter_items c.next_of-bio.new.rest) (into_iter_items c.into_iter-dones.result) (into_iter_items c.loop.dones) (into_iter_items c.next_of-done.new.rest)
          c.loop.counter (c.loop.counter + 1) c.loop.blocks c.take_one-blocks.result (c.loop.blocks + c.take_one-blocks.result) c.loop.failed c.next_of-bio.result c.next_of-done.result c.loop.invariant.some c.next_of-bio.ensures.items c.next_of-done.ensures.items refl refl c.take_one-blocks.ensures.returns);
    }

pub returns-clause-returns : goal.returns-clause-returns
returns-clause-returns g c =
    let whole : c.loop.counter ≡ length c.args.bios.items = (let ok = c.args.bios.ok.0 in let past = c.loop-test.false in let most = c.loop.auto.counter-end in let len = c.len-count.ensures in omega (arith, ok, past, most, len)) in
    takes-all c.args.mount.now c.args.file c.args.pass.now c.loop.pass c.args.bios.items (into_iter_items c.loop.bios) c.args.dones.items (into_iter_items c.loop.dones) (into_iter_items c.loop.numbers) c.loop.counter c.loop.blocks c.loop.failed
    (subst (λ l. TakesSome c.args.mount.now c.args.file c.args.pass.now c.loop.pass l (into_iter_items c.loop.bios) c.args.dones.items (into_iter_items c.loop.dones) c.loop.counter c.loop.blocks c.loop.failed) c.into_iter-bios.ensures.rest
    (subst (λ l. TakesSome c.args.mount.now c.args.file c.args.pass.now c.loop.pass (into_iter_items c.into_iter-bios.result) (into_iter_items c.loop.bios) l (into_iter_items c.loop.dones) c.loop.counter c.loop.blocks c.loop.failed) c.into_iter-dones.ensures.rest c.loop.invariant.some))
    c.loop.invariant.back whole
