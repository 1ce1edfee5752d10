use Rattle.folio_bits.proofs.countdown.Countdown.split.Given as goal

abbrev pub ghosts-cut : goal.ghosts-cut
ghosts-cut a = record { share = a.share }
