use Rattle.std.proofs.Common.{Some, subst}
use Rattle.mini_fs.specs.Mappings.{TellsFrom}
use Rattle.mini_fs.proofs.MapBlocks.{tells-begun}
use Rattle.mini_fs.proofs.Opens.{noted-open, of-noted}
use Rattle.mini_fs.proofs.mapping.MountIomapOps.begin.Goals as goal

pub returns-in-Ok-clause-of : goal.returns-in-Ok-clause-of
returns-in-Ok-clause-of g c = of-noted c.args.self.now c.begin_as.new.pass c.note.new.self (Some c.in-Ok.begun) c.in-Ok.ensures.of c.note.ensures

pub returns-in-Ok-clause-mapping : goal.returns-in-Ok-clause-mapping
returns-in-Ok-clause-mapping g c =
    tells-begun c.args.self.now c.args.file c.args.pos c.in-Ok.begun c.is_laid_out.ensures c.block_at-block.ensures.sized
    (subst (λ b. TellsFrom c.args.self.now c.args.file b c.in-Ok.begun) c.block_at-block.ensures.is c.in-Ok.ensures.tells)

pub returns-in-Ok-clause-unended : goal.returns-in-Ok-clause-unended
returns-in-Ok-clause-unended g c = noted-open c.args.self.now c.args.file c.block_at-block.result c.in-Ok.begun c.begin_as.new.pass c.note.new.self c.in-Ok.ensures.of c.in-Ok.ensures.tells c.note.ensures
