-- The record of each call as one of a trace.
use Rattle.std.proofs.Common.{ℕ}
use Rattle.iob_base.specs.declared.answer.Answer.{Answer}
use Rattle.iob_base.specs.declared.stamp.FileId.{FileId}
use Rattle.fault_device.specs.LaneView.{LaneView}
use Rattle.mount_parts.specs.MountView.{MountView}
use Rattle.mini_fs.specs.PassView.{PassView}
use Rattle.call_traces.specs.TracedCalls.{AllocIsTraced, PunchIsTraced, ReadIsTraced, TruncIsTraced, WriteIsTraced, ZeroIsTraced}

module _ (m : MountView) (file : FileId) (call off : ℕ) (a b : LaneView) (p q : PassView) (answer : Answer) where
  pub read-traced : ReadIsTraced m file call off a b p q answer
  read-traced iov later r exists = record { exists = exists; acted = r.did.acted; at_file = r.did.at_file; placed = r.read.placed; callers = r.read.callers; stamps = r.read.stamps }

  pub write-traced : WriteIsTraced m file call off a b p q answer
  write-traced iov later w exists = record { exists = exists; acted = w.did.acted; at_file = w.did.at_file; placed = w.placed; callers = w.callers; stamps = w.stamps }

  pub zero-traced : ZeroIsTraced m file call off a b p q answer
  zero-traced asked z exists = record { exists = exists; acted = z.did.acted; at_file = z.did.at_file; placed = z.placed; callers = z.callers; stamps = z.stamps }

  pub punch-traced : PunchIsTraced m file call off a b p q answer
  punch-traced asked z exists = record { exists = exists; acted = z.did.acted; at_file = z.did.at_file; placed = z.placed; callers = z.callers; stamps = z.stamps }

  pub alloc-traced : AllocIsTraced m file call off a b p q answer
  alloc-traced asked t exists = record { exists = exists; acted = t.did.acted; at_file = t.did.at_file; placed = t.placed; callers = t.callers; stamps = t.stamps }

  pub trunc-traced : TruncIsTraced m file call off a b p q answer
  trunc-traced t exists = record { exists = exists; acted = t.did.acted; at_file = t.did.at_file; placed = t.placed; callers = t.callers; stamps = t.stamps }
