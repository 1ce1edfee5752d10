use Rattle.std.proofs.Common.{refl}
use Rattle.buffered_write.proofs.CutLemmas.{saw-size}
use Rattle.buffered_write.proofs.size_room.see_size.Goals as goal

pub returns-clause-seen : goal.returns-clause-seen
returns-clause-seen g c = saw-size c.args.mount.now c.args.file c.args.pass.now c.size_turn.new.pass c.args.by c.size_turn.result _ _ c.is_laid_out.ensures c.requires.sized refl c.size_turn.ensures.turned
