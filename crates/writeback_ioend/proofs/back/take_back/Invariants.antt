use Rattle.std.proofs.Common.{◌≡◌, ◌+◌}
use Rattle.std.specs.Vec.Iter.{into_iter_items, into_iter_len}
use Rattle.mini_fs.specs.PassView.{IsPassOf}
use Rattle.mini_fs.specs.Tickets.{KeepsTickets}
use Rattle.writeback_ioend.specs.Folios.{HaveComeBack, HaveTickets}
use Rattle.writeback_ioend.proofs.BackLemmas.{TakesSome}
use Rattle.writeback_ioend.proofs.back.take_back.Given as goal

-- what went with the first so many bios was taken back
abbrev pub invariant-loop : goal.invariant-loop
invariant-loop g l = record {
  of : IsPassOf l.mount l.pass;
  tickets : KeepsTickets l.initial.pass l.pass;
  numbers_left : into_iter_len l.numbers + l.counter ≡ into_iter_len l.initial.numbers;
  bios_left : into_iter_len l.bios + l.counter ≡ into_iter_len l.initial.bios;
  dones_left : into_iter_len l.dones + l.counter ≡ into_iter_len l.initial.dones;
  back : HaveComeBack l.mount l.file (into_iter_items l.numbers) (into_iter_items l.bios) (into_iter_items l.dones);
  have : HaveTickets l.pass (into_iter_items l.bios);
  some : TakesSome l.mount l.file l.initial.pass l.pass (into_iter_items l.initial.bios) (into_iter_items l.bios) (into_iter_items l.initial.dones) (into_iter_items l.dones) l.counter l.blocks l.failed;
}
