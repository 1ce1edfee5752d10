use Rattle.std.proofs.Common.{rules}
use Rattle.folio_bits.proofs.Keeps.{finishes}
use Rattle.folio_bits.proofs.countdown.Countdown.finish.Goals as goal

pub fetch_sub-found-requires : goal.fetch_sub-found-requires
fetch_sub-found-requires c = (search rules, search rules, finishes _ _ c.seat.inside.amount c.seat.inside.place.me c.seat.invariant.0 c.seat.invariant.1)
