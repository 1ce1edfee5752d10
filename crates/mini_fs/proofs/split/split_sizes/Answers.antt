use Rattle.std.proofs.Common.{◌≡◌, ◌<◌, List, map, length, Some, ap, ◌∙◌, arith}
use Rattle.std.specs.Prelude.{slice_get}
use Rattle.std.proofs.lemmas.List.{length-map}
use Rattle.turn_cell.specs.Seats.{cell_view, seat_claims, seat_view}
use Rattle.mini_fs.specs.Places.{CanGiveSize, SizePlace, cell_of_size, given_size_place, id_of_size, kept_size_place, size_place}
use Rattle.mini_fs.proofs.Firsts.{part-all, part-at, part-kept, part-made, part-made-all}
use Rattle.mount_parts.proofs.Places.{all-at, seen-alike}
use Rattle.mini_fs.proofs.split.split_sizes.Goals as goal

pub split-seat-requires-clause-cell : goal.split-seat-requires-clause-cell
split-seat-requires-clause-cell c =
    let l = c.loop-i in
    let xs : List SizePlace = map (λ s. size_place (seat_view s) (seat_claims s)) c.args.seats.now.items in
    let x = c.index_mut.result.now in
    let below : l.i < length l.seats.items = (let ok = l.seats.ok.0 in let n = l.invariant.len in let t = c.loop-i-test.true in let len = c.len-i-end.ensures in omega arith) in
    let here : slice_get xs l.i ≡ Some (size_place (seat_view x) (seat_claims x)) = part-at (λ s. size_place (seat_view s) (seat_claims s)) kept_size_place l.seats.items xs l.i x l.invariant.seats below c.index_mut.ensures.value in
    seen-alike cell_of_size id_of_size xs c.args.mount.now.sizes l.i (size_place (seat_view x) (seat_claims x)) (cell_view c.size_cell-cell.result.now) c.requires.cells here c.size_cell-cell.ensures

pub split-seat-requires-clause-less : goal.split-seat-requires-clause-less
split-seat-requires-clause-less c =
    let l = c.loop-i in
    let xs : List SizePlace = map (λ s. size_place (seat_view s) (seat_claims s)) c.args.seats.now.items in
    let x = c.index_mut.result.now in
    let below : l.i < length l.seats.items = (let ok = l.seats.ok.0 in let n = l.invariant.len in let t = c.loop-i-test.true in let len = c.len-i-end.ensures in omega arith) in
    let here : slice_get xs l.i ≡ Some (size_place (seat_view x) (seat_claims x)) = part-at (λ s. size_place (seat_view s) (seat_claims s)) kept_size_place l.seats.items xs l.i x l.invariant.seats below c.index_mut.ensures.value in
    (all-at CanGiveSize xs l.i (size_place (seat_view x) (seat_claims x)) c.requires.can here).0

pub split-seat-requires-clause-cut : goal.split-seat-requires-clause-cut
split-seat-requires-clause-cut c =
    let l = c.loop-i in
    let xs : List SizePlace = map (λ s. size_place (seat_view s) (seat_claims s)) c.args.seats.now.items in
    let x = c.index_mut.result.now in
    let below : l.i < length l.seats.items = (let ok = l.seats.ok.0 in let n = l.invariant.len in let t = c.loop-i-test.true in let len = c.len-i-end.ensures in omega arith) in
    let here : slice_get xs l.i ≡ Some (size_place (seat_view x) (seat_claims x)) = part-at (λ s. size_place (seat_view s) (seat_claims s)) kept_size_place l.seats.items xs l.i x l.invariant.seats below c.index_mut.ensures.value in
    (all-at CanGiveSize xs l.i (size_place (seat_view x) (seat_claims x)) c.requires.can here).1

pub loop-i-preserved : goal.loop-i-preserved
loop-i-preserved c =
    let l = c.loop-i in
    let xs : List SizePlace = map (λ s. size_place (seat_view s) (seat_claims s)) c.args.seats.now.items in
    let x = c.index_mut.result.now in
    let below : l.i < length l.seats.items = (let ok = l.seats.ok.0 in let n = l.invariant.len in let t = c.loop-i-test.true in let len = c.len-i-end.ensures in omega arith) in
    let here : slice_get xs l.i ≡ Some (size_place (seat_view x) (seat_claims x)) = part-at (λ s. size_place (seat_view s) (seat_claims s)) kept_size_place l.seats.items xs l.i x l.invariant.seats below c.index_mut.ensures.value in
    let y = c.split-seat.new.seat in
    let z = c.split-seat.result in
    let kept : size_place (seat_view y) (seat_claims y) ≡ kept_size_place (size_place (seat_view x) (seat_claims x)) = (λ j. record { seat = c.split-seat.ensures.kept j; claims = c.split-seat.ensures.claims.0 j }) in
    let given : size_place (seat_view z) (seat_claims z) ≡ given_size_place (size_place (seat_view x) (seat_claims x)) = (λ j. record { seat = c.split-seat.ensures.given j; claims = c.split-seat.ensures.claims.1 j }) in
    record {
      seats = part-kept (λ s. size_place (seat_view s) (seat_claims s)) kept_size_place l.seats.items xs l.i x y l.invariant.seats here kept;
      made = ap (map (λ s. size_place (seat_view s) (seat_claims s))) c.push_reserved.ensures.items ∙ part-made (λ s. size_place (seat_view s) (seat_claims s)) given_size_place l.made.items xs l.i (size_place (seat_view x) (seat_claims x)) z l.invariant.made here given;
      len = l.invariant.len;
      count = (let n = l.invariant.count in let e = c.push_reserved.ensures in omega (arith, e.len));
      capacity = c.push_reserved.ensures.capacity ∙ l.invariant.capacity;
    }

pub returns : goal.returns
returns c =
    let l = c.loop-i in
    let xs : List SizePlace = map (λ s. size_place (seat_view s) (seat_claims s)) c.args.seats.now.items in
    let all : l.i ≡ length xs = (let ok = c.args.seats.now.ok.0 in let past = c.loop-i-test.false in let most = l.auto.i-end in let len = c.len-i-end.ensures in omega (arith, length-map c.args.seats.now.items (λ s. size_place (seat_view s) (seat_claims s)))) in
    record {
      kept = part-all (λ s. size_place (seat_view s) (seat_claims s)) kept_size_place l.seats.items xs l.i l.invariant.seats all;
      made = part-made-all (λ s. size_place (seat_view s) (seat_claims s)) given_size_place l.made.items xs l.i l.invariant.made all;
    }
