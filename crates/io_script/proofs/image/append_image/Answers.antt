use Rattle.std.proofs.Common.{◌∷◌, IsTrue, ◌+◌, ◌++◌, ◌∙◌, sym, ap, arith, drop, length, slice_index_or}
use Rattle.std.proofs.lemmas.List.{at_drop_more}
use Rattle.io_model.specs.Fitting.{is_merged_from}
use Rattle.io_model.specs.RunText.{image_lines}
use Rattle.io_model.specs.declared.file.Extent.{Extent}
use Rattle.io_model.specs.declared.file.Kind.TheVariants.{Hole}
use Rattle.io_script.proofs.Extents.{merged_next, merged_within, image_lines-part}
use Rattle.io_script.proofs.image.append_image.Goals as goal

no_extent : Extent
no_extent = record { block = 0; length = 0; kind = Hole }

pub split_at-requires : goal.split_at-requires
unfolding no_extent
split_at-requires c =
    let at = c.loop-extent in
    let e = slice_index_or c.args.extents.now at.extent-index no_extent in
    let es = drop (at.extent-index + 1) c.args.extents.now in
    let n = length c.args.blocks.now in
    let here : IsTrue (is_merged_from at.first n (e ∷ es)) =
    sym (at_drop_more (is_merged_from at.first n) c.args.extents.now at.extent-index no_extent c.loop-extent-test.true) ∙ at.invariant.merged in
    let within = merged_within (at.first + e.length) n es (merged_next at.first n e es here).1 in
    omega (arith, at.invariant.count, within)

pub loop-extent-preserved : goal.loop-extent-preserved
unfolding no_extent
loop-extent-preserved c =
    let at = c.loop-extent in
    let e = slice_index_or c.args.extents.now at.extent-index no_extent in
    let es = drop (at.extent-index + 1) c.args.extents.now in
    let n = length c.args.blocks.now in
    let name = c.args.name.now in
    let left = at.left.now in
    let split = at_drop_more (is_merged_from at.first n) c.args.extents.now at.extent-index no_extent c.loop-extent-test.true in
    let here : IsTrue (is_merged_from at.first n (e ∷ es)) = sym split ∙ at.invariant.merged in
    record {
      merged = (merged_next at.first n e es here).1;
      count = omega (arith, at.invariant.count, c.split_at.ensures.back_len);
      lines = λ rest.
          rw c.split_at.ensures.back (c.in_ok-append_kind.ensures (image_lines name es (at.first + e.length) (drop e.length left) rest)
          ∙ rw c.split_at.ensures.front (ap (λ t. at.text.items ++ t) (sym (image_lines-part name e es at.first n left rest here)))
          ∙ ap (λ t. at.text.items ++ t) (sym (at_drop_more (λ extents. image_lines name extents at.first left rest) c.args.extents.now at.extent-index no_extent c.loop-extent-test.true))
          ∙ at.invariant.lines rest);
    }
