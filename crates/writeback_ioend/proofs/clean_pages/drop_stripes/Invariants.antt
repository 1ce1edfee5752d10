use Rattle.mini_fs.specs.PassView.{IsPassOf}
use Rattle.mini_fs.specs.Tickets.{KeepsTickets}
use Rattle.writeback_ioend.specs.DropsCache.{DropsStripes}
use Rattle.writeback_ioend.proofs.clean_pages.drop_stripes.Given as goal

abbrev pub invariant-loop-stripe : goal.invariant-loop-stripe
invariant-loop-stripe g l = IsPassOf l.mount l.pass × DropsStripes l.mount l.file l.stripe l.initial.pass l.pass l.pages × KeepsTickets l.initial.pass l.pass
