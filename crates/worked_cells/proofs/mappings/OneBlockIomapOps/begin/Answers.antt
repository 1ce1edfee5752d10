use Rattle.std.proofs.Common.{refl, arith}
use Rattle.worked_cells.proofs.mappings.OneBlockIomapOps.begin.Goals as goal

pub returns-clause-mapping : goal.returns-clause-mapping
returns-clause-mapping g c =
    let within = c.requires.within in
    record {
      file_is = refl;
      from = omega arith;
      to = omega arith;
      fits = omega arith;
      addr = refl;
      fresh = refl;
    }
