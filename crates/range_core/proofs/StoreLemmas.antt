-- The next bytes of an iov are laid over the blocks of a run one after the other.
use Rattle.std.proofs.Common.{◌≡◌, ℕ, ◌+◌, ◌-◌, ◌<◌, ◌≤◌, Option, Some, None, List, length, take, drop, sym, ◌∙◌, ap, subst, arith, length-drop}
use Rattle.std.specs.Prelude.{IsSomeAnd}
use Rattle.std.proofs.lemmas.List.{drop-drop, drop-take, length-take-le, take-take}
use Rattle.iob_base.specs.declared.sector.Page.{Page}
use Rattle.io_model.specs.Effects.{overlay}
use Rattle.io_model.specs.Lists.{bytes_between}
use Rattle.io_model.specs.Parts.{part_in, span}
use Rattle.iov_iter.specs.IovView.{IovView}
use Rattle.range_core.specs.BlockTruth.{IsWholePage}
use Rattle.range_core.specs.ByteRuns.{HasNext, IsByteRun, part_at}
use Rattle.range_core.specs.Paging.{lacks_page}
use Rattle.range_core.specs.Stores.{dirtied, laid, next_bytes, past, stored}
use Rattle.range_core.specs.declared.cell.Cell.{Cell}
use Rattle.range_core.specs.declared.parts.ByteRun.{ByteRun}
use Rattle.range_core.proofs.ByteRunLemmas.{begun, next_part}
use Rattle.range_core.proofs.KeptPlaces.{KeepsPlaces}
use Rattle.range_core.proofs.PagingLemmas.{filled_keeps}

-- a piece of the first bytes after a place
pub piece_of : (n m all place : ℕ) (bytes : List ℕ) → m + n ≤ all → take n (drop m (take all (drop place bytes))) ≡ take n (drop (place + m) bytes)
piece_of n m all place bytes h =
    let rest : all ≡ m + (all - m) = omega arith in
    ap (λ k. take n (drop m (take k (drop place bytes)))) rest
    ∙ ap (take n) (drop-take m (all - m) (drop place bytes))
    ∙ take-take n (all - m) (drop m (drop place bytes)) (omega arith)
    ∙ ap (take n) (drop-drop m place bytes)

module _ (run : ByteRun) where
  -- the bytes of a run that lie in its k-th block
  pub part_piece : IsByteRun run → (k : ℕ) → k < run.blocks → (bytes : List ℕ)
      → bytes_between ((part_in run.size (span run.from run.to) (run.first + k)).from - run.from) ((part_in run.size (span run.from run.to) (run.first + k)).to - run.from) bytes ≡ take (part_at run (run.first + k)).length (drop (begun run k) bytes)
  part_piece r k l bytes =
      let p = next_part run r k l in
      let place = p.place in
      let behind = p.behind in
      let many : (part_in run.size (span run.from run.to) (run.first + k)).to - run.from - ((part_in run.size (span run.from run.to) (run.first + k)).from - run.from) ≡ (part_at run (run.first + k)).length = (let some = r.some in let ends = p.meets in omega arith) in
      ap (λ n. take n (drop ((part_in run.size (span run.from run.to) (run.first + k)).from - run.from) bytes)) many
      ∙ ap (λ n. take (part_at run (run.first + k)).length (drop n bytes)) place

  -- a block over which the next bytes of an iov were laid
  pub laid_part : IsByteRun run → (k : ℕ) → k < run.blocks → (v iov : IovView) (c : Cell) → iov ≡ past v (begun run k)
      → dirtied (overlay (part_at run (run.first + k)).at (next_bytes iov (part_at run (run.first + k)).length)) c ≡ laid run (next_bytes v (run.to - run.from)) k c
  laid_part r k l v iov c e =
      let p = next_part run r k l in
      let n : ℕ = (part_at run (run.first + k)).length in
      let bytes : List ℕ = next_bytes v (run.to - run.from) in
      let is : next_bytes iov n ≡ bytes_between ((part_in run.size (span run.from run.to) (run.first + k)).from - run.from) ((part_in run.size (span run.from run.to) (run.first + k)).to - run.from) bytes =
      ap (λ (x : IovView). next_bytes x n) e ∙ sym (piece_of n (begun run k) (run.to - run.from) v.place v.bytes p.behind) ∙ sym (part_piece r k l bytes) in
      ap (λ xs. dirtied (overlay (part_at run (run.first + k)).at xs) c) is

  -- an iov is past one more part
  pub past_more : IsByteRun run → (k : ℕ) → k < run.blocks → (v iov new : IovView) → iov ≡ past v (begun run k) → new ≡ past iov (part_at run (run.first + k)).length → new ≡ past v (begun run (k + 1))
  past_more r k l v iov new e w =
      let p = next_part run r k l in
      let more = p.more in
      let place : v.place + begun run k + (part_at run (run.first + k)).length ≡ v.place + begun run (k + 1) = omega arith in
      w ∙ ap (λ (x : IovView). past x (part_at run (run.first + k)).length) e ∙ ap (λ m. record v { place = m }) place

  -- what is left of the room of an iov
  pub room_past : IsByteRun run → (k : ℕ) → k < run.blocks → (v iov : IovView) → HasNext v (run.to - run.from) → iov ≡ past v (begun run k) → HasNext iov (part_at run (run.first + k)).length
  room_past r k l v iov room e =
      let p = next_part run r k l in
      let behind = p.behind in
      let within = room.within in
      let N : IovView → Type 0 = λ x. HasNext x (part_at run (run.first + k)).length in
      subst N (sym e) (record { within = omega arith; home = λ b low high. room.home b (omega arith) (omega arith) })

pub part_fits : (size at n : ℕ) (o : Option Page) → at + n ≤ size → IsSomeAnd o (IsWholePage size) → IsSomeAnd o (λ p. at + n ≤ length p.bytes)
part_fits size at n None h o = absurd o
part_fits size at n (Some p) h o = omega (arith, o)

-- a block of a store keeps its place
pub stored_keeps : (run : ByteRun) (bytes : List ℕ) → KeepsPlaces (stored run bytes)
stored_keeps run bytes =
    let filled = filled_keeps lacks_page run.size in
    record { kind = filled.kind; sector = filled.sector; away = filled.away }

-- as many bytes as a store asks for
pub length-next_bytes : (v : IovView) (n : ℕ) → HasNext v n → length (next_bytes v n) ≡ n
length-next_bytes v n room = let within = room.within in length-take-le n (drop v.place v.bytes) (omega (arith, length-drop v.place v.bytes))
