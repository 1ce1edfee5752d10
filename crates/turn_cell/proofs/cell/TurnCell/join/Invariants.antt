use Rattle.std.proofs.Common.{Some}
use Rattle.turn_cell.specs.Steps.{Looked}
use Rattle.turn_cell.proofs.cell.TurnCell.join.Given as goal

abbrev pub ghosts-join_place : goal.ghosts-join_place
ghosts-join_place g a = record { both = Some a.both.now }

abbrev pub ghosts-look : goal.ghosts-look
ghosts-look g a = record { fact = λ m n w. Looked m.0 w }
