use Rattle.std.proofs.Common.{Some}
use Rattle.bio_pages.specs.ShelfRule.{errand_to}
use Rattle.bio_pages.proofs.shelf.BioShelf.split.Given as goal

abbrev pub ghosts-lend : goal.ghosts-lend
ghosts-lend g a = record { errand = Some (errand_to a.slot a.bio.now) }
