use Rattle.turn_cell.specs.Steps.{Tried, Left}
use Rattle.turn_cell.proofs.cell.TurnCell.turn_at.Given as goal

abbrev pub ghosts-try_gate : goal.ghosts-try_gate
ghosts-try_gate g a = record { fact = λ m n w. Tried g.T.Chronicle.truth a.self.now.table.shared.key.value.value a.place.now.id a.claims.now m.0 n w }

abbrev pub ghosts-leave : goal.ghosts-leave
ghosts-leave g a = record {
  fact = λ m n w.
      Left g.T.Chronicle.truth
      (λ opening history entry. g.C.Change.does a.began.now.change.value opening history a.began.now.value.value a.began.now.claims.value a.change.now a.value a.claims.now a.out.now entry)
      a.self.now.table.shared.key.value.value a.place.now.id a.began.now.claims.value a.began.now.value.value a.claims.now a.value m.0 w;
}
