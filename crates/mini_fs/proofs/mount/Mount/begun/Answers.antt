use Rattle.std.proofs.Common.{arith}
use Rattle.mini_fs.proofs.MapBlocks.{blocks-few}
use Rattle.mini_fs.proofs.mount.Mount.begun.Goals as goal

pub bytes_of-requires : goal.bytes_of-requires
bytes_of-requires c =
    let few = blocks-few c.args.self.now c.args.file c.is_laid_out.ensures in
    let within = c.requires.within in
    omega arith

pub bytes_of-requires-2 : goal.bytes_of-requires-2
bytes_of-requires-2 c =
    let few = blocks-few c.args.self.now c.args.file c.is_laid_out.ensures in
    let within = c.requires.within in
    omega arith
