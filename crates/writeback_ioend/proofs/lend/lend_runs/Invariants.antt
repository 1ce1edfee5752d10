use Rattle.std.proofs.Common.{◌≤◌, vec_capacity}
use Rattle.mini_fs.specs.PassView.{IsPassOf}
use Rattle.mini_fs.specs.Tickets.{KeepsTickets}
use Rattle.writeback_ioend.specs.Folios.{HaveTickets, Seeks}
use Rattle.writeback_ioend.proofs.lend.lend_runs.Given as goal

abbrev pub invariant-loop : goal.invariant-loop
invariant-loop g l = record {
  of : IsPassOf l.mount l.pass;
  tickets : KeepsTickets l.initial.pass l.pass;
  high : l.at ≤ l.end;
  seeks : Seeks l.mount l.file l.waits l.from l.at l.end l.initial.pass l.pass l.numbers.items l.bios.items;
  have : HaveTickets l.pass l.bios.items;
  bios : 32 ≤ vec_capacity l.bios;
  numbers : 32 ≤ vec_capacity l.numbers;
}
