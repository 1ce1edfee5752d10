use Rattle.std.proofs.Common.{◌≡◌, ◌+◌, ◌-◌, ◌<◌, List, length, take, drop, get_or, arith, refl, sym, ap, ◌∙◌, subst, length-take, length-drop}
use Rattle.iov_iter.specs.IovView.{PagePlace, sizes}
use Rattle.iov_iter.specs.Slots.{joined, places}
use Rattle.iov_iter.specs.Spots.{Stands, byte_of}
use Rattle.iov_iter.proofs.Bytes.{write_more}
use Rattle.iov_iter.proofs.SlotLemmas.{length_joined, length_sizes}
use Rattle.iov_iter.proofs.SpotLemmas.{in_page}
use Rattle.iov_iter.proofs.pieces.write_from.Goals as goal

pub write_piece-n-requires-clause-page : goal.write_piece-n-requires-clause-page
write_piece-n-requires-clause-page c =
    omega (arith, in_page (sizes (places c.args.slots.now.items)) c.loop-done.spot c.loop-done.invariant.stands (omega (arith, length_joined c.args.slots.now.items)), length_sizes c.loop-done.slots.items, ap (λ (ps : List PagePlace). length (sizes ps)) c.loop-done.invariant.same)

pub write_piece-n-requires-clause-inside : goal.write_piece-n-requires-clause-inside
write_piece-n-requires-clause-inside c =
    let P : List PagePlace → Type 0 = λ ps. c.loop-done.spot.offset < get_or (sizes ps) c.loop-done.spot.page 0 in
    subst P (sym c.loop-done.invariant.same)
    (c.loop-done.invariant.stands.inside (in_page (sizes (places c.args.slots.now.items)) c.loop-done.spot c.loop-done.invariant.stands (omega (arith, length_joined c.args.slots.now.items))))

pub spot_after-spot-requires-clause-page : goal.spot_after-spot-requires-clause-page
spot_after-spot-requires-clause-page c =
    omega (arith, in_page (sizes (places c.args.slots.now.items)) c.loop-done.spot c.loop-done.invariant.stands (omega (arith, length_joined c.args.slots.now.items)), length_sizes c.write_piece-n.new.slots.items, ap (λ (ps : List PagePlace). length (sizes ps)) (c.write_piece-n.ensures.places ∙ c.loop-done.invariant.same))

pub loop-done-smaller : goal.loop-done-smaller
loop-done-smaller c =
    let P : List PagePlace → Type 0 = λ ps. c.loop-done.spot.offset < get_or (sizes ps) c.loop-done.spot.page 0 in
    let inside : c.loop-done.spot.offset < get_or (sizes (places c.loop-done.slots.items)) c.loop-done.spot.page 0 =
    subst P (sym c.loop-done.invariant.same)
    (c.loop-done.invariant.stands.inside (in_page (sizes (places c.args.slots.now.items)) c.loop-done.spot c.loop-done.invariant.stands (omega (arith, length_joined c.args.slots.now.items)))) in
    omega (arith, inside, c.write_piece-n.ensures.count, length-take (length c.args.from.now - c.loop-done.done) (drop c.loop-done.done c.args.from.now), length-drop c.loop-done.done c.args.from.now)

pub loop-done-preserved : goal.loop-done-preserved
loop-done-preserved c =
    let rest : length (take (length c.args.from.now - c.loop-done.done) (drop c.loop-done.done c.args.from.now)) ≡ length c.args.from.now - c.loop-done.done =
    omega (arith, length-take (length c.args.from.now - c.loop-done.done) (drop c.loop-done.done c.args.from.now), length-drop c.loop-done.done c.args.from.now) in
    let same : places c.write_piece-n.new.slots.items ≡ places c.args.slots.now.items = c.write_piece-n.ensures.places ∙ c.loop-done.invariant.same in
    let S : List PagePlace → Type 0 = λ ps. Stands (sizes ps) c.spot_after-spot.result in
    let B : List PagePlace → Type 0 = λ ps. byte_of (sizes ps) c.spot_after-spot.result ≡ byte_of (sizes ps) c.loop-done.spot + c.write_piece-n.result in
    let byte : byte_of (sizes (places c.args.slots.now.items)) c.spot_after-spot.result ≡ byte_of (sizes (places c.args.slots.now.items)) c.loop-done.spot + c.write_piece-n.result =
    subst B same c.spot_after-spot.ensures.byte in
    let at : byte_of (sizes (places c.loop-done.slots.items)) c.loop-done.spot ≡ byte_of (sizes (places c.args.slots.now.items)) c.args.spot + c.loop-done.done =
    ap (λ (ps : List PagePlace). byte_of (sizes ps) c.loop-done.spot) c.loop-done.invariant.same ∙ c.loop-done.invariant.byte in
    record {
      within = omega (arith, rest, c.write_piece-n.ensures.count);
      bytes = write_more (byte_of (sizes (places c.args.slots.now.items)) c.args.spot) c.loop-done.done c.write_piece-n.result (length c.args.from.now - c.loop-done.done) (byte_of (sizes (places c.loop-done.slots.items)) c.loop-done.spot) c.args.from.now (joined c.args.slots.now.items) (joined c.loop-done.slots.items) (joined c.write_piece-n.new.slots.items) at c.loop-done.invariant.within refl (omega arith) c.loop-done.invariant.bytes c.write_piece-n.ensures.bytes;
      same = same;
      stands = subst S same c.spot_after-spot.ensures.stands;
      byte = omega (arith, byte, c.loop-done.invariant.byte);
    }
