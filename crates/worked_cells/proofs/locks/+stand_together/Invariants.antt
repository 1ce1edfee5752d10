use Rattle.worked_cells.proofs.locks.+stand_together.Given as goal

-- how many holds are still to be taken
abbrev pub decreases-stand_together : goal.decreases-stand_together
decreases-stand_together g l = l.more
