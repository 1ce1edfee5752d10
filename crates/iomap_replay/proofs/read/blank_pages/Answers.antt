use Rattle.std.proofs.Common.{ap, ◌∙◌}
use Rattle.iob_base.specs.Parting.{pages_of}
use Rattle.iob_base.proofs.PartLemmas.{pages_of-alike}
use Rattle.iomap_replay.specs.OneRead.{blank}
use Rattle.iomap_replay.proofs.read.blank_pages.Goals as goal

pub returns : goal.returns
returns c = ap pages_of c.in_ok-parts.ensures ∙ pages_of-alike c.args.n (blank c.args.size)
