use Rattle.std.proofs.Common.{◌≤◌, ◌+◌, ◌||◌, ◌∙◌, sym, ap, arith}
use Rattle.io_script.proofs.Places.{some_from-place, AreMarks-own}
use Rattle.io_script.specs.Marks.{some_from}
use Rattle.io_script.specs.Reading.{is_place_taken}
use Rattle.io_script.specs.SoFar.{is_taken}
use Rattle.io_script.proofs.read.extents.is_overlap.Goals as goal

pub returns-then-has_mark : goal.returns-then-has_mark
returns-then-has_mark c =
    let files = c.args.r.now.files.items in
    let fits : c.args.block + c.args.n ≤ 65536 = omega (arith, c.requires.reader.small c.args.i, c.requires.blocks) in
    let placed = c.has_mark.ensures (is_place_taken files) (AreMarks-own _ _ _ _ c.deref.ensures.value c.requires.reader.placed) ∙ some_from-place files c.args.i c.args.n c.args.block fits in
    ap (λ t. t || some_from (is_taken files) c.args.dev c.args.n) (sym c.if-has_mark.true ∙ placed)

pub returns : goal.returns
returns c =
    let files = c.args.r.now.files.items in
    let fits : c.args.block + c.args.n ≤ 65536 = omega (arith, c.requires.reader.small c.args.i, c.requires.blocks) in
    let placed = c.has_mark.ensures (is_place_taken files) (AreMarks-own _ _ _ _ c.deref.ensures.value c.requires.reader.placed) ∙ some_from-place files c.args.i c.args.n c.args.block fits in
    let taken = c.has_mark-2.ensures (is_taken files) (AreMarks-own _ _ _ _ c.deref-2.ensures.value c.requires.reader.taken) in
    taken ∙ ap (λ t. t || some_from (is_taken files) c.args.dev c.args.n) (sym c.if-has_mark.false ∙ placed)
