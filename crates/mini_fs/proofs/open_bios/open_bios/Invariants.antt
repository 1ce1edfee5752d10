use Rattle.std.proofs.Common.{◌≡◌, vec_len, vec_capacity}
use Rattle.std.specs.Prelude.{All}
use Rattle.mini_fs.specs.BioSeats.{IsNewOwner}
use Rattle.mini_fs.proofs.open_bios.open_bios.Given as goal

-- so many shelves are open
abbrev pub invariant-loop : goal.invariant-loop
invariant-loop l = record {
  each : All IsNewOwner l.shelves.items;
  count : vec_len l.shelves ≡ l.counter;
  room : vec_capacity l.shelves ≡ 32;
}
