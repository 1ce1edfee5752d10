use Rattle.std.proofs.Common.{rules}
use Rattle.bio_pages.proofs.ShelfKeeps.{looks}
use Rattle.bio_pages.proofs.shelf.BioShelf.look.Goals as goal

pub load-found-requires : goal.load-found-requires
load-found-requires g c = (search rules, search rules, looks _ _ _)
