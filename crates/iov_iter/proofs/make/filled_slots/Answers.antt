use Rattle.std.proofs.Common.{◌≡◌, ◌+◌, ◌++◌, ℕ, List, length, take, vec_len, arith, sym, ap, ◌∙◌}
use Rattle.iov_iter.specs.IovView.{PagePlace}
use Rattle.iov_iter.specs.Making.{bytes_in, lengths_of, numbered, page_sizes, sizes_of}
use Rattle.iov_iter.proofs.Filling.{Fills, fills}
use Rattle.iov_iter.proofs.Making.{length_numbered, length_places, numbered_append}
use Rattle.iov_iter.proofs.make.filled_slots.Goals as goal

pub add_bytes-requires-clause-numbers : goal.add_bytes-requires-clause-numbers
add_bytes-requires-clause-numbers c =
    let segs = c.args.segments.now in
    let size : ℕ = c.args.page_size in
    let i : ℕ = c.loop-segment.segment-index in
    let f : Fills size segs i c.segment-item.result = fills size segs i c.segment-item.result c.loop-segment-test.true c.segment-item.is in
    let many : length c.loop-segment.slots.items ≡ length (sizes_of size (lengths_of (take i segs))) =
    sym (length_places c.loop-segment.slots.items) ∙ ap length c.loop-segment.invariant.pages ∙ length_numbered c.args.first (sizes_of size (lengths_of (take i segs))) in
    omega (arith, many, f.fits, c.requires.numbers, ap (λ (b : List ℕ). length (page_sizes size (length b))) c.as_slice.ensures.value)

pub loop-segment-preserved : goal.loop-segment-preserved
loop-segment-preserved c =
    let segs = c.args.segments.now in
    let size : ℕ = c.args.page_size in
    let i : ℕ = c.loop-segment.segment-index in
    let f : Fills size segs i c.segment-item.result = fills size segs i c.segment-item.result c.loop-segment-test.true c.segment-item.is in
    let front : List ℕ = sizes_of size (lengths_of (take i segs)) in
    let many : length c.loop-segment.slots.items ≡ length front =
    sym (length_places c.loop-segment.slots.items) ∙ ap length c.loop-segment.invariant.pages ∙ length_numbered c.args.first front in
    let next : c.args.first + vec_len c.loop-segment.slots ≡ c.args.first + length front = omega (arith, many) in
    record {
      bytes = c.in_ok-add_bytes.ensures.joined ∙ ap (λ (b : List ℕ). b ++ c.as_slice.result.now) c.loop-segment.invariant.bytes
          ∙ ap (λ (b : List ℕ). bytes_in (take i segs) ++ b) c.as_slice.ensures.value ∙ sym f.bytes;
      pages = c.in_ok-add_bytes.ensures.places
          ∙ ap (λ (ps : List PagePlace). ps ++ numbered (c.args.first + vec_len c.loop-segment.slots) (page_sizes size (length c.as_slice.result.now))) c.loop-segment.invariant.pages
          ∙ ap (λ (b : List ℕ). numbered c.args.first front ++ numbered (c.args.first + vec_len c.loop-segment.slots) (page_sizes size (length b))) c.as_slice.ensures.value
          ∙ ap (λ k. numbered c.args.first front ++ numbered k (page_sizes size (length c.segment-item.result.items))) next
          ∙ sym (numbered_append c.args.first front (page_sizes size (length c.segment-item.result.items)))
          ∙ ap (numbered c.args.first) (sym f.sizes);
    }
