use Rattle.std.proofs.Common.{◌≡◌, ◌≤◌, ◌*◌, ◌^◌, take}
use Rattle.io_script.specs.Summary.{stamps_on}
use Rattle.io_script.proofs.summary.stamps_of.Given as goal

abbrev pub invariant-loop-b : goal.invariant-loop-b
invariant-loop-b l = record {
  stamps : l.stamps ≡ stamps_on (take l.b l.blocks);
  small : l.stamps ≤ l.b * 2 ^ 64;
}
