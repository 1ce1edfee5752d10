use Rattle.std.proofs.Common.{◌≡◌}
use Rattle.iob_base.specs.DeviceBlock.{fresh_blocks}
use Rattle.iob_base.proofs.sector.sectors.Given as goal

abbrev pub invariant-loop-number : goal.invariant-loop-number
invariant-loop-number l = l.all.items ≡ fresh_blocks l.size l.fill l.number
