use Rattle.std.proofs.Common.{◌≡◌, ◌+◌, ◌-◌, ◌≤◌, length, take, drop, arith, length-take, length-drop}
use Rattle.iov_iter.specs.IovView.{sizes}
use Rattle.iov_iter.specs.Slots.{joined, places}
use Rattle.iov_iter.specs.Spots.{byte_of}
use Rattle.iov_iter.proofs.Bytes.{read_more}
use Rattle.iov_iter.proofs.SlotLemmas.{length_joined, length_sizes}
use Rattle.iov_iter.proofs.SpotLemmas.{in_page}
use Rattle.iov_iter.proofs.pieces.read_from.Goals as goal

pub read_piece-n-requires-clause-page : goal.read_piece-n-requires-clause-page
read_piece-n-requires-clause-page c =
    omega (arith, in_page (sizes (places c.args.slots.now.items)) c.loop-done.spot c.loop-done.invariant.stands (omega (arith, length_joined c.args.slots.now.items)), length_sizes c.args.slots.now.items)

pub read_piece-n-requires-clause-inside : goal.read_piece-n-requires-clause-inside
read_piece-n-requires-clause-inside c =
    c.loop-done.invariant.stands.inside (in_page (sizes (places c.args.slots.now.items)) c.loop-done.spot c.loop-done.invariant.stands (omega (arith, length_joined c.args.slots.now.items)))

pub spot_after-spot-requires-clause-page : goal.spot_after-spot-requires-clause-page
spot_after-spot-requires-clause-page c =
    omega (arith, in_page (sizes (places c.args.slots.now.items)) c.loop-done.spot c.loop-done.invariant.stands (omega (arith, length_joined c.args.slots.now.items)), length_sizes c.args.slots.now.items)

pub loop-done-smaller : goal.loop-done-smaller
loop-done-smaller c =
    omega (arith, c.loop-done.invariant.stands.inside (in_page (sizes (places c.args.slots.now.items)) c.loop-done.spot c.loop-done.invariant.stands (omega (arith, length_joined c.args.slots.now.items))), c.read_piece-n.ensures.count, length-take (length c.loop-done.into - c.loop-done.done) (drop c.loop-done.done c.loop-done.into), length-drop c.loop-done.done c.loop-done.into)

pub loop-done-preserved : goal.loop-done-preserved
loop-done-preserved c =
    let rest : length (take (length c.loop-done.into - c.loop-done.done) (drop c.loop-done.done c.loop-done.into)) ≡ length c.loop-done.into - c.loop-done.done =
    omega (arith, length-take (length c.loop-done.into - c.loop-done.done) (drop c.loop-done.done c.loop-done.into), length-drop c.loop-done.done c.loop-done.into) in
    let within : c.loop-done.done + c.read_piece-n.result ≤ length c.args.into.now = omega (arith, rest, c.read_piece-n.ensures.count) in
    record {
      within = within;
      bytes = read_more (byte_of (sizes (places c.args.slots.now.items)) c.args.spot) c.loop-done.done c.read_piece-n.result (joined c.args.slots.now.items) c.args.into.now c.loop-done.into c.read_piece-n.new.into c.loop-done.invariant.bytes (omega arith) within c.requires.within
          (rw (← c.loop-done.invariant.byte) c.read_piece-n.ensures.bytes);
      stands = c.spot_after-spot.ensures.stands;
      byte = omega (arith, c.spot_after-spot.ensures.byte, c.loop-done.invariant.byte);
    }
