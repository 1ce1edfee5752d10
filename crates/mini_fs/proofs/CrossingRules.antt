-- Which types of other libraries can go to another thread or be shared, as a set for `search`.
use denote.Param.Send.{sendable}
use Rattle.std.proofs.Crossing.{crosses}
use Rattle.atomic_table.proofs.shared.Seat.TheSendSync.{the_send as Seat-send}
use Rattle.atomic_table.proofs.shared.Shared.TheSendSync.{the_send as Shared-send, the_sync as Shared-sync}
use Rattle.atomic_table.proofs.send_lease.SendLease.TheSendSync.{the_send as SendLease-send, the_sync as SendLease-sync}
use Rattle.space_pool.proofs.claims.PoolClaims.TheSendSync.{the_send as PoolClaims-send}

pub ruleset crossing_rules = (sendable, crosses, Seat-send, Shared-send, Shared-sync, SendLease-send, SendLease-sync, PoolClaims-send)
