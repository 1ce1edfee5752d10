use Rattle.std.proofs.Common.{sym}
use Rattle.extent_map.proofs.Following.{no_extent}
use Rattle.extent_map.proofs.Seeking.{sought_here}
use Rattle.extent_map.proofs.seek.first_from.Goals as goal

pub returns-then-is_sort : goal.returns-then-is_sort
returns-then-is_sort c =
    sym (sought_here c.args.hole c.args.b c.place_of-at.result c.args.runs.now no_extent c.requires.follow c.place_of-at.ensures (sym c.if-is_sort.ensures))
