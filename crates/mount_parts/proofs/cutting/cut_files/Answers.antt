use Rattle.std.proofs.Common.{◌∙◌, ap, arith}
use Rattle.std.specs.Vec.Iter.{into_iter_items}
use Rattle.file_stripes.specs.Taking.{sector_numbers}
use Rattle.mount_parts.proofs.Cuts.{cut-all, cut-begins, cut-blocks, cut-next, cut-none, cut-pieces, cut-sectors}
use Rattle.mount_parts.proofs.cutting.cut_files.Goals as goal

pub cut_file-requires-clause-held : goal.cut_file-requires-clause-held
cut_file-requires-clause-held c =
    cut-begins c.args.files.now c.loop-i.i c.index-files-i.result c.loop-i.pieces.items (into_iter_items c.into_iter-rest.result) (into_iter_items c.loop-i.rest) c.loop-i.invariant c.loop-i-test.true c.index-files-i.is

pub loop-i-init : goal.loop-i-init
loop-i-init c = cut-none c.args.files.now c.new-pieces.result.items (into_iter_items c.into_iter-rest.result) c.new-pieces.ensures.items (ap sector_numbers c.into_iter-rest.ensures.rest ∙ c.requires.held)

pub loop-i-preserved : goal.loop-i-preserved
loop-i-preserved c =
    cut-next c.args.files.now c.loop-i.i c.index-files-i.result c.loop-i.pieces.items c.cut_file.new.pieces.items (into_iter_items c.into_iter-rest.result) (into_iter_items c.loop-i.rest) (into_iter_items c.cut_file.new.held)
    c.loop-i.invariant c.loop-i-test.true c.index-files-i.is c.in_ok-cut_file.ensures

pub returns-clause-cut : goal.returns-clause-cut
returns-clause-cut c =
    cut-all c.args.files.now c.loop-i.i c.loop-i.pieces.items (into_iter_items c.into_iter-rest.result) (into_iter_items c.loop-i.rest) c.loop-i.invariant (omega arith)

pub returns-clause-pieces : goal.returns-clause-pieces
returns-clause-pieces c =
    cut-pieces c.args.files.now c.loop-i.pieces.items (cut-all c.args.files.now c.loop-i.i c.loop-i.pieces.items (into_iter_items c.into_iter-rest.result) (into_iter_items c.loop-i.rest) c.loop-i.invariant (omega arith))

pub returns-clause-sectors : goal.returns-clause-sectors
returns-clause-sectors c =
    cut-sectors c.args.files.now c.loop-i.i c.loop-i.pieces.items (into_iter_items c.into_iter-rest.result) (into_iter_items c.loop-i.rest) c.loop-i.invariant (omega arith) ∙ c.into_iter-rest.ensures.rest

pub returns-clause-blocks : goal.returns-clause-blocks
returns-clause-blocks c =
    cut-blocks c.args.files.now c.loop-i.pieces.items (cut-all c.args.files.now c.loop-i.i c.loop-i.pieces.items (into_iter_items c.into_iter-rest.result) (into_iter_items c.loop-i.rest) c.loop-i.invariant (omega arith))
