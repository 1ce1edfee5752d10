use Rattle.std.proofs.Common.{Some}
use Rattle.turn_cell.proofs.cell.TurnCell.split.Given as goal

abbrev pub ghosts-split_place : goal.ghosts-split_place
ghosts-split_place g a = record { share = a.share; kept = Some a.kept.now; given = Some a.given.now }
