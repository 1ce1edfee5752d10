use Rattle.std.proofs.Common.{◌≡◌, length, vec_len, subst, arith}
use Rattle.mini_fs.specs.Acts.{HasRun}
use Rattle.writeback_ioend.proofs.BackLemmas.{can-send, come-back, run-carried, run-rose, run-tickets}
use Rattle.writeback_ioend.proofs.LendLemmas.{tickets-kept}
use Rattle.writeback_ioend.proofs.back.send.Goals as goal

pub run_all-requires-clause-can_send : goal.run_all-requires-clause-can_send
run_all-requires-clause-can_send g c = λ place b at.
    let h = can-send c.args.mount.now c.args.file 0 c.args.numbers.items c.args.bios.items c.requires.lent place b at in
    let slot = h.0 in
    (omega (arith, slot), h.1)

pub take_back-requires-clause-have : goal.take_back-requires-clause-have
take_back-requires-clause-have g c =
    tickets-kept c.args.pass.now c.run_all.new.pass c.run_all.new.bios.items c.run_all.ensures.tickets (run-tickets c.args.pass.now c.args.bios.items c.run_all.new.bios.items c.run_all.new.dones.items c.run_all.ensures.run c.requires.have)

pub take_back-requires-clause-back : goal.take_back-requires-clause-back
take_back-requires-clause-back g c = come-back c.args.mount.now c.args.file 0 c.args.numbers.items c.args.bios.items c.run_all.new.bios.items c.run_all.new.dones.items c.requires.lent c.run_all.ensures.run

pub take_back-requires-clause-few : goal.take_back-requires-clause-few
take_back-requires-clause-few g c = (let same = run-carried c.args.bios.items c.run_all.new.bios.items c.run_all.new.dones.items c.run_all.ensures.run in let few = c.requires.carried in omega (arith, same, few))

pub returns-clause-sent : goal.returns-clause-sent
returns-clause-sent g c = record {
  middle = c.run_all.new.pass;
  back = c.run_all.new.bios.items;
  dones = c.run_all.new.dones.items;
  ran = subst (λ n. HasRun n c.args.pass.now c.run_all.new.pass) (let ok = c.args.bios.ok.0 in let e : vec_len c.args.bios ≡ length c.args.bios.items = omega (arith, ok) in e) (record { pass_is = c.run_all.ensures.pass; shelves = c.run_all.ensures.shelves; pushed = c.run_all.ensures.pushed });
  run = c.run_all.ensures.run;
  lane = record { ran = c.run_all.ensures.lane; own = c.run_all.ensures.own; rose = run-rose c.args.bios.items c.run_all.new.bios.items c.run_all.new.dones.items c.run_all.ensures.run };
  returns = c.take_back.ensures.returns;
}
