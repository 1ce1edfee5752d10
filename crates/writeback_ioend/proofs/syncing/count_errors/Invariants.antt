use Rattle.mini_fs.specs.PassView.{IsPassOf}
use Rattle.writeback_ioend.specs.Syncs.{CountsErrors}
use Rattle.writeback_ioend.proofs.syncing.count_errors.Given as goal

abbrev pub invariant-loop-stripe : goal.invariant-loop-stripe
invariant-loop-stripe g l = IsPassOf l.mount l.pass × CountsErrors l.mount l.file l.stripe l.initial.pass l.pass l.errors
