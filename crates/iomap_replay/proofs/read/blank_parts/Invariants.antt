use Rattle.std.proofs.Common.{◌≡◌, length, replicate}
use Rattle.iob_base.specs.Parting.{bare_part}
use Rattle.iomap_replay.specs.OneRead.{blank}
use Rattle.iomap_replay.proofs.read.blank_parts.Given as goal

abbrev pub invariant-loop : goal.invariant-loop
invariant-loop l = record {
  many : length l.parts ≡ l.counter;
  parts : l.parts ≡ replicate l.counter (bare_part (blank l.size));
}
