use Rattle.std.proofs.Common.{◌≡◌, ◌+◌, ◌++◌, ℕ, List, length, replicate, sum, take, get_or, vec_len, arith, sym, ap, ◌∙◌}
use Rattle.std.proofs.lemmas.List.{replicate-append-replicate}
use Rattle.iov_iter.specs.Making.{numbered, page_sizes, sizes_of}
use Rattle.iov_iter.proofs.Making.{length_numbered, length_places, numbered_append, segment_fits, sizes_more, sum_more}
use Rattle.iov_iter.proofs.make.zeroed_slots.Goals as goal

pub add_segment-requires-clause-numbers : goal.add_segment-requires-clause-numbers
add_segment-requires-clause-numbers c =
    let many : length c.loop-bytes.slots.items ≡ length (sizes_of c.args.page_size (take c.loop-bytes.bytes-index c.args.lengths.now)) =
    sym (length_places c.loop-bytes.slots.items) ∙ ap length c.loop-bytes.invariant.pages ∙ length_numbered c.args.first (sizes_of c.args.page_size (take c.loop-bytes.bytes-index c.args.lengths.now)) in
    omega (arith, many, segment_fits c.args.page_size c.args.lengths.now c.loop-bytes.bytes-index c.loop-bytes-test.true, c.requires.numbers)

pub loop-bytes-preserved : goal.loop-bytes-preserved
loop-bytes-preserved c =
    let ls = c.args.lengths.now in
    let i = c.loop-bytes.bytes-index in
    let front : List ℕ = sizes_of c.args.page_size (take i ls) in
    let many : length c.loop-bytes.slots.items ≡ length (sizes_of c.args.page_size (take i ls)) =
    sym (length_places c.loop-bytes.slots.items) ∙ ap length c.loop-bytes.invariant.pages ∙ length_numbered c.args.first (sizes_of c.args.page_size (take i ls)) in
    let next : c.args.first + vec_len c.loop-bytes.slots ≡ c.args.first + length (sizes_of c.args.page_size (take i ls)) = omega (arith, many) in
    record {
      bytes = c.in_ok-add_segment.ensures.joined ∙ ap (λ b. b ++ replicate (get_or ls i 0) 0) c.loop-bytes.invariant.bytes
          ∙ replicate-append-replicate (sum (take i ls)) (get_or ls i 0) 0 ∙ ap (λ n. replicate n 0) (sym (sum_more ls i c.loop-bytes-test.true));
      pages = c.in_ok-add_segment.ensures.places ∙ ap (λ ps. ps ++ numbered (c.args.first + vec_len c.loop-bytes.slots) (page_sizes c.args.page_size (get_or ls i 0))) c.loop-bytes.invariant.pages
          ∙ ap (λ k. numbered c.args.first (sizes_of c.args.page_size (take i ls)) ++ numbered k (page_sizes c.args.page_size (get_or ls i 0))) next
          ∙ sym (numbered_append c.args.first (sizes_of c.args.page_size (take i ls)) (page_sizes c.args.page_size (get_or ls i 0)))
          ∙ ap (numbered c.args.first) (sym (sizes_more c.args.page_size ls i c.loop-bytes-test.true));
    }
