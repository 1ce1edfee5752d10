use Rattle.extent_map.specs.Expansion.{NumbersFit}
use Rattle.extent_map.specs.Longest.{IsRunAt}
use Rattle.extent_map.proofs.walk.run_from.Given as goal

abbrev pub invariant-loop-n : goal.invariant-loop-n
invariant-loop-n l = IsRunAt l.kinds l.b l.kind l.n × NumbersFit l.kind l.n
