use Rattle.std.proofs.Common.{◌≡◌, map, ap, sym, ◌∙◌}
use Rattle.crossbeam_utils.specs.Padded.{padded_value}
use Rattle.turn_cell.specs.Seats.{cell_view, seat_claims, seat_view}
use Rattle.range_core.specs.ClaimsView.{ClaimsView}
use Rattle.mount_parts.specs.Ends.{ClaimsNoBlocks}
use Rattle.mount_parts.specs.MountView.{MountView}
use Rattle.mini_fs.specs.PassView.{PassView, own_claims, size_seat}
use Rattle.mini_fs.specs.Wholes.{seat_of_size}
use Rattle.mini_fs.proofs.Through.{map-map}
use Rattle.mini_fs.proofs.Unmounting.{all-more, all-seen, same-cells, unmounts-alike, with-queue}
use Rattle.mini_fs.proofs.mount.Mount.unmount.Goals as goal

pub take_apart-requires-clause-cells : goal.take_apart-requires-clause-cells
take_apart-requires-clause-cells c =
    let r = c.self.inside in
    let p = c.pass.inside in
    same-cells seat_view (λ v. v.cell) (λ k. cell_view (padded_value k)) (λ k. k.cell) p.stripes.items _ r.stripes.items _ (ap (λ (v : PassView). v.stripes) c.pass.view_is) (ap (λ (v : MountView). v.stripes) c.self.view_is) c.requires.of.stripes

pub take_apart-requires-clause-laid : goal.take_apart-requires-clause-laid
take_apart-requires-clause-laid c = (c.self.inside.queue, c.self.invariant)

pub take_apart-requires-clause-whole : goal.take_apart-requires-clause-whole
take_apart-requires-clause-whole c =
    let p = c.pass.inside in
    all-seen seat_view (λ v. v.share ≡ 9223372036854775808) p.stripes.items _ (ap (λ (v : PassView). v.stripes) c.pass.view_is) c.requires.whole.stripes

pub take_apart-requires-clause-free : goal.take_apart-requires-clause-free
take_apart-requires-clause-free c =
    let p = c.pass.inside in
    all-more (λ s. seat_claims s ≡ own_claims p.caller p.spare) (λ s. ClaimsNoBlocks (seat_claims s)) p.stripes.items (λ s is. ap (λ (l : ClaimsView). l.held) is) c.pass.invariant.0

pub take_apart-requires-clause-size_cells : goal.take_apart-requires-clause-size_cells
take_apart-requires-clause-size_cells c =
    let r = c.self.inside in
    let p = c.pass.inside in
    same-cells (λ s. size_seat (seat_view s) (seat_claims s)) (λ v. v.seat.cell) (λ k. cell_view (padded_value k)) (λ k. k.cell) p.sizes.items _ r.sizes.items _ (ap (λ (v : PassView). v.sizes) c.pass.view_is) (ap (λ (v : MountView). v.sizes) c.self.view_is) c.requires.of.sizes

pub take_apart-requires-clause-sizes_whole : goal.take_apart-requires-clause-sizes_whole
take_apart-requires-clause-sizes_whole c =
    let p = c.pass.inside in
    all-seen (λ s. size_seat (seat_view s) (seat_claims s)) (λ v. v.seat.share ≡ 9223372036854775808) p.sizes.items _ (ap (λ (v : PassView). v.sizes) c.pass.view_is) c.requires.whole.sizes

pub returns : goal.returns
returns c =
    let p = c.pass.inside in
    record {
      ok = unmounts-alike _ c.args.self (map seat_view p.stripes.items) c.args.pass.stripes (map seat_view p.sizes.items) (map seat_of_size c.args.pass.sizes) c.take_apart.result c.self.view_is (ap (λ (v : PassView). v.stripes) c.pass.view_is)
          (sym (map-map seat_of_size (λ s. size_seat (seat_view s) (seat_claims s)) p.sizes.items) ∙ ap (λ (v : PassView). map seat_of_size v.sizes) c.pass.view_is) (with-queue _ c.take_apart.result c.self.inside.queue c.take_apart.ensures);
    }
