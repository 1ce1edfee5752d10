-- Pages of the blocks of a run are copied to an iov one after the other.
use Rattle.std.proofs.Common.{◌≡◌, ℕ, suc, ◌+◌, ◌-◌, ◌<◌, ◌≤◌, Option, Some, None, List, ◌++◌, length, get_or, sym, ◌∙◌, ap, subst, arith, length-append}
use Rattle.std.specs.Prelude.{IsSomeAnd, slice_get}
use Rattle.std.proofs.lemmas.Option.{slice_get-get_or}
use Rattle.iob_base.specs.declared.sector.Page.{Page}
use Rattle.io_model.specs.Contents.{Content}
use Rattle.iov_iter.specs.IovView.{IovView, written_on}
use Rattle.iov_iter.proofs.Bytes.{length-put_at, put_at_more}
use Rattle.range_core.specs.BlockTruth.{IsWholePage}
use Rattle.range_core.specs.ByteRuns.{HasNext, IsByteRun, gathered, part_at, part_bytes}
use Rattle.range_core.specs.Paging.{HavePages, bytes_of, cached_at, cached_bytes}
use Rattle.range_core.specs.declared.cell.Cell.{Cell}
use Rattle.range_core.specs.declared.parts.ByteRun.{ByteRun}
use Rattle.range_core.proofs.ByteRunLemmas.{gathered-more, length-gathered, next_part}

-- bytes written on behind others
pub written_more : (v iov : IovView) (xs ys : List ℕ) → iov ≡ written_on xs v → v.place + length xs ≤ length v.bytes → written_on ys iov ≡ written_on (xs ++ ys) v
written_more v iov xs ys e h =
    let bytes = put_at_more v.place xs ys v.bytes h in
    let place : v.place + length xs + length ys ≡ v.place + length (xs ++ ys) = omega (arith, length-append xs ys) in
    ap (written_on ys) e ∙ (λ i. record v { bytes = bytes i; place = place i })

-- what is left of the room of an iov on which some bytes were written
pub room_left : (v iov : IovView) (xs : List ℕ) (n m : ℕ) → iov ≡ written_on xs v → HasNext v n → length xs + m ≤ n → HasNext iov m
room_left v iov xs n m e room h =
    let within = room.within in
    let kept = length-put_at v.place xs v.bytes (omega arith) in
    let N : IovView → Type 0 = λ x. HasNext x m in
    subst N (sym e) (record { within = omega arith; home = λ b low high. room.home b (omega arith) (omega arith) })

module _ (run : ByteRun) (first : ℕ) (cells : List Cell) where
  -- the k-th block of a run has this page
  pub cached-block : first ≤ run.first → (k : ℕ) (c : Cell) → slice_get cells (run.first - first + k) ≡ Some c → cached_at first cells (run.first + k) ≡ bytes_of c.page
  cached-block l k c at = let z : run.first + k - first ≡ run.first - first + k = omega arith in ap (λ i. cached_bytes (slice_get cells i)) z ∙ ap cached_bytes at

  whole_page : (size : ℕ) (o : Option Page) → IsSomeAnd o (IsWholePage size) → length (bytes_of o) ≡ size
  whole_page size None h = absurd h
  whole_page size (Some p) h = h

  -- the pages of a run are whole
  pub cached-whole : first ≤ run.first → run.first + run.blocks ≤ first + length cells → HavePages run first cells → (d : Cell) (k : ℕ) → k < run.blocks → length (cached_at first cells (run.first + k)) ≡ run.size
  cached-whole low high have d k l =
      let here : slice_get cells (run.first - first + k) ≡ Some (get_or cells (run.first - first + k) d) = slice_get-get_or cells (run.first - first + k) d (omega arith) in
      ap length (cached-block low k _ here) ∙ whole_page run.size _ (have k _ l here)

  part_fits : (o : Option Page) (at n : ℕ) → at + n ≤ run.size → IsSomeAnd o (IsWholePage run.size) → IsSomeAnd o (λ p. at + n ≤ length p.bytes)
  part_fits None at n h o = absurd o
  part_fits (Some p) at n h o = omega (arith, o)

  -- what is left of an iov's room after the first k blocks holds the next block's part
  pub part_room : IsByteRun run → first ≤ run.first → run.first + run.blocks ≤ first + length cells → HavePages run first cells → (d : Cell) (v iov : IovView) (k : ℕ) → k < run.blocks → HasNext v (run.to - run.from)
      → iov ≡ written_on (gathered run (cached_at first cells) run.first k) v → HasNext iov (part_at run (run.first + k)).length
  part_room r low high have d v iov k l room e =
      let p = next_part run r k l in
      let behind = p.behind in
      let long = length-gathered run (cached_at first cells) r (cached-whole low high have d) k (omega arith) in
      room_left v iov (gathered run (cached_at first cells) run.first k) (run.to - run.from) _ e room (omega arith)

  -- one more block
  pub copied_more : IsByteRun run → first ≤ run.first → run.first + run.blocks ≤ first + length cells → HavePages run first cells → (c : Cell) (v iov new : IovView) (k : ℕ) → k < run.blocks → HasNext v (run.to - run.from)
      → iov ≡ written_on (gathered run (cached_at first cells) run.first k) v → c ≡ get_or cells (run.first - first + k) c → new ≡ written_on (part_bytes (part_at run (run.first + k)) (bytes_of c.page)) iov
      → new ≡ written_on (gathered run (cached_at first cells) run.first (k + 1)) v
  copied_more r low high have c v iov new k l room e at w =
      let p = next_part run r k l in
      let behind = p.behind in
      let within = room.within in
      let contents : ℕ → Content = cached_at first cells in
      let there : slice_get cells (run.first - first + k) ≡ Some c = slice_get-get_or cells (run.first - first + k) c (omega arith) ∙ ap Some (sym at) in
      let is : contents (run.first + k) ≡ bytes_of c.page = cached-block low k c there in
      let long = length-gathered run contents r (cached-whole low high have c) k (omega arith) in
      let one : suc k ≡ k + 1 = omega arith in
      w ∙ ap (λ x. written_on (part_bytes (part_at run (run.first + k)) x) iov) (sym is)
      ∙ written_more v iov (gathered run contents run.first k) _ e (omega arith)
      ∙ ap (λ l. written_on l v) (sym (gathered-more run contents run.first k) ∙ ap (gathered run contents run.first) one)
