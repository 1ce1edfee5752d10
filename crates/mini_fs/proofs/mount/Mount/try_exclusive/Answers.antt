use Rattle.mini_fs.proofs.Seats.{lock_set}
use Rattle.mini_fs.proofs.mount.Mount.try_exclusive.Goals as goal

pub returns-in-Err-clause-refused : goal.returns-in-Err-clause-refused
returns-in-Err-clause-refused c = record {
  seat = c.seat_out-seat.result;
  next = c.in-Err.field-0.seat;
  here = c.seat_out-seat.ensures.seat;
  did = c.in-Err.ensures.refused;
  pass_is = lock_set c.args.pass.now _ _ c.args.file _ c.seat_out-seat.ensures.pass c.seat_home.ensures;
}
