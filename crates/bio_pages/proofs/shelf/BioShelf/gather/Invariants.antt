use Rattle.bio_pages.proofs.shelf.BioShelf.gather.Given as goal

abbrev pub ghosts-pick : goal.ghosts-pick
ghosts-pick g a = record { slot = a.slot }
