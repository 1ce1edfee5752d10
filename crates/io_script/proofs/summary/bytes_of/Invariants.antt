use Rattle.std.proofs.Common.{◌≡◌, ◌≤◌, ◌*◌, ◌^◌, take}
use Rattle.io_script.specs.Summary.{bytes_in}
use Rattle.io_script.proofs.summary.bytes_of.Given as goal

abbrev pub invariant-loop-i : goal.invariant-loop-i
invariant-loop-i l = record {
  bytes : l.bytes ≡ bytes_in (take l.i l.calls);
  small : l.bytes ≤ l.i * 2 ^ 64;
}
