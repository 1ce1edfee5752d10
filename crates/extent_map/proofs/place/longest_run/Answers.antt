use Rattle.std.proofs.Common.{get_or, arith}
use Rattle.io_model.specs.declared.file.Extent.{Extent}
use Rattle.extent_map.proofs.Following.{no_extent}
use Rattle.extent_map.proofs.Looking.{Seen, looked, number_fits, seen}
use Rattle.extent_map.proofs.place.longest_run.Goals as goal

pub overflow_sub-skipped : goal.overflow_sub-skipped
overflow_sub-skipped c = (seen c.args.runs.now c.place_of.result c.args.b no_extent c.requires.follow c.requires.apart c.place_of.ensures).from

pub overflow_sub-run : goal.overflow_sub-run
overflow_sub-run c =
    let s = seen c.args.runs.now c.place_of.result c.args.b no_extent c.requires.follow c.requires.apart c.place_of.ensures in
    omega (arith, s.from, s.below)

pub nth_kind-requires : goal.nth_kind-requires
nth_kind-requires c =
    let e : Extent = get_or c.args.runs.now c.place_of.result no_extent in
    let s : Seen c.args.runs.now c.args.b e = seen c.args.runs.now c.place_of.result c.args.b no_extent c.requires.follow c.requires.apart c.place_of.ensures in
    number_fits e.kind _ e.length (omega (arith, s.from, s.below)) s.fits

pub returns : goal.returns
returns c =
    let e : Extent = get_or c.args.runs.now c.place_of.result no_extent in
    let s : Seen c.args.runs.now c.args.b e = seen c.args.runs.now c.place_of.result c.args.b no_extent c.requires.follow c.requires.apart c.place_of.ensures in
    looked c.args.runs.now c.args.b c.args.max e c.nth_kind.result c.min.result s c.requires.some c.nth_kind.ensures c.min.ensures
