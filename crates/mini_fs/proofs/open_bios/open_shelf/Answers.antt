use Rattle.mini_fs.proofs.ShelfLists.{new-owner}
use Rattle.mini_fs.proofs.open_bios.open_shelf.Goals as goal

pub invariant_of-result : goal.invariant_of-result
invariant_of-result c = new-owner c.in_ok-shelf.shelf _ c.in_ok-shelf.owner c.in_ok-shelf.ensures c.in_ok-shelf-2.ensures.ok
