use Rattle.std.proofs.Common.{◌≤◌, sym, subst}
use Rattle.buffered_write.proofs.RoomLemmas.{size-end}
use Rattle.buffered_write.proofs.size_room.settle_room.Goals as goal

pub size_turn-requires-clause-ready : goal.size_turn-requires-clause-ready
size_turn-requires-clause-ready g c = λ cell seat stand. (c.requires.room seat stand.seat_is, subst (λ n. c.args.to ≤ n) (sym (size-end c.args.mount.now c.args.file cell c.is_laid_out.ensures c.requires.sized stand.cell_is)) c.requires.within)
