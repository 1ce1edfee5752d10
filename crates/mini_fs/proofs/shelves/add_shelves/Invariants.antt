use Rattle.std.proofs.Common.{◌≡◌, ◌≤◌, ◌++◌, take, drop, vec_len, vec_capacity}
use Rattle.mini_fs.proofs.shelves.add_shelves.Given as goal

-- so many shelves were put behind the others
abbrev pub invariant-loop : goal.invariant-loop
invariant-loop l = record {
  both : l.shelves.items ≡ l.initial.shelves.items ++ take l.counter l.initial.from.items;
  rest : l.from.items ≡ drop l.counter l.initial.from.items;
  few : vec_len l.shelves ≤ 32;
  room : vec_capacity l.shelves ≡ vec_capacity l.initial.shelves;
}
