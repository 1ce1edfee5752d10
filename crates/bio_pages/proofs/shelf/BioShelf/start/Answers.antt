use Rattle.bio_pages.proofs.ShelfKeeps.{starts}
use Rattle.bio_pages.proofs.shelf.BioShelf.start.Goals as goal

pub vacant-requires : goal.vacant-requires
vacant-requires g c = starts c.args.slots
