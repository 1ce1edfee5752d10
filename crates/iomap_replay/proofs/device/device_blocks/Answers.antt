use Rattle.std.proofs.Common.{◌≡◌, ◌-◌, ◌+◌, length, drop, get_or, replicate, sym, ◌∙◌, ap, arith}
use Rattle.std.proofs.lemmas.List.{drop_all, length-replicate}
use Rattle.std.proofs.Math.ListN.{set}
use Rattle.iob_base.specs.DeviceBlock.{DeviceBlock, device_block}
use Rattle.iomap_replay.specs.Devices.{content_given}
use Rattle.iomap_replay.proofs.Devices.{fresh_blocks-given, length-blocks_with, list_all-drop, get_or-blocks_with, length-given_or, whole-here, set-next_given}
use Rattle.iomap_replay.proofs.device.device_blocks.Goals as goal

pub loop-left-init : goal.loop-left-init
loop-left-init c = (
  omega arith,
  c.in_ok-all.ensures
      ∙ rw (c.requires.size, drop_all (length c.args.given.now) c.args.given.now (omega arith))
      (fresh_blocks-given c.args.device.block_size c.args.device.fill c.args.device.blocks),
)

pub index_mut-sector-requires : goal.index_mut-sector-requires
index_mut-sector-requires c =
    let g = c.index-given-left.result in
    let whole = whole-here c.args.device c.args.given.now (c.loop-left.left - 1) g c.requires.whole (omega arith) c.index-given-left.is in
    let many = ap length c.loop-left.invariant.1 ∙ length-blocks_with _ 0 c.args.device.blocks in
    omega (arith, whole.0, many, c.loop-left.all.ok.0)

pub write_block-requires : goal.write_block-requires
write_block-requires c =
    let g = c.index-given-left.result in
    let fill = replicate c.args.device.block_size c.args.device.fill in
    let rest = drop c.loop-left.left c.args.given.now in
    let whole = whole-here c.args.device c.args.given.now (c.loop-left.left - 1) g c.requires.whole (omega arith) c.index-given-left.is in
    let sector = c.index_mut-sector.result.now in
    let here = c.index_mut-sector.ensures.value ∙ ap (λ all. get_or all g.0 sector) c.loop-left.invariant.1
    ∙ get_or-blocks_with (content_given rest fill) 0 c.args.device.blocks g.0 sector whole.0 in
    ap length c.as_slice.ensures ∙ whole.1
    ∙ sym (ap (λ (s : DeviceBlock). length s.bytes) here
    ∙ length-given_or c.args.device rest fill (0 + g.0) (list_all-drop _ c.loop-left.left c.args.given.now c.requires.whole) (length-replicate _ _))

pub loop-left-preserved : goal.loop-left-preserved
loop-left-preserved c =
    let g = c.index-given-left.result in
    let fill = replicate c.args.device.block_size c.args.device.fill in
    let rest = drop c.loop-left.left c.args.given.now in
    let whole = whole-here c.args.device c.args.given.now (c.loop-left.left - 1) g c.requires.whole (omega arith) c.index-given-left.is in
    let sector = c.index_mut-sector.result.now in
    let here = c.index_mut-sector.ensures.value ∙ ap (λ all. get_or all g.0 sector) c.loop-left.invariant.1
    ∙ get_or-blocks_with (content_given rest fill) 0 c.args.device.blocks g.0 sector whole.0 in
    let written = c.write_block.ensures ∙ ap (λ bytes. device_block sector.number bytes) c.as_slice.ensures
    ∙ ap (λ (s : DeviceBlock). device_block s.number g.1) here ∙ (let e : 0 + g.0 ≡ g.0 = omega arith in ap (λ n. device_block n g.1) e) in (
      omega arith,
      ap (λ block. set c.loop-left.all.items g.0 block) written
          ∙ ap (λ all. set all g.0 (device_block g.0 g.1)) c.loop-left.invariant.1
          ∙ set-next_given c.args.given.now fill c.args.device.blocks c.loop-left.left g c.loop-left-test.true c.loop-left.invariant.0 c.index-given-left.is whole.0,
    )
