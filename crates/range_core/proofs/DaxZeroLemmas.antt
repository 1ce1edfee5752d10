-- Zeros are laid over the sectors of a run of blocks.
use Rattle.std.proofs.Common.{◌≡◌, ℕ, ◌+◌, ◌-◌, ◌<◌, ◌≤◌, List, ◌++◌, length, All, refl, sym, ap, subst, arith}
use Rattle.std.proofs.lemmas.List.{length-replicate}
use Rattle.iob_base.specs.declared.stamp.Stamp.{Stamp}
use Rattle.io_model.specs.Contents.{Content}
use Rattle.io_model.specs.Effects.{overlay}
use Rattle.range_core.specs.ByteRuns.{IsByteRun, part_at}
use Rattle.range_core.specs.Cells.{IsPlaced}
use Rattle.range_core.specs.DaxZeros.{cleared_through, zeroed_through}
use Rattle.range_core.specs.OnRun.{on_each}
use Rattle.range_core.specs.RangeView.{IsSound, LiesAt, RangeView, range_view}
use Rattle.range_core.specs.Spots.{overlaid}
use Rattle.range_core.specs.Stamps.{stamps_from}
use Rattle.range_core.specs.Through.{where_mapped}
use Rattle.range_core.specs.StoreZeros.{zeros_of}
use Rattle.range_core.specs.declared.cell.Cell.{Cell}
use Rattle.range_core.specs.declared.parts.ByteRun.{ByteRun}
use Rattle.range_core.proofs.LayLemmas.{length-overlaid}
use Rattle.range_core.proofs.OnRunLemmas.{length-on_each}
use Rattle.range_core.proofs.SoundLemmas.{All-on_each_at, sound_next, stamps_from-range}
use Rattle.range_core.proofs.ThroughLemmas.{either_mapped, place-changed}
use Rattle.range_core.proofs.ThroughTruth.{KeepsStates, space_stays}
use Rattle.range_core.proofs.StoreZerosLemmas.{zero_piece}

-- zeros over a block's part are the run's zeros there
pub cleared-through : (run : ByteRun) → IsByteRun run → (k : ℕ) → k < run.blocks → (c : Cell) → cleared_through (part_at run (run.first + k)) c ≡ zeroed_through run k c
cleared-through run r k l c = ap (λ xs. where_mapped (overlay (part_at run (run.first + k)).at xs) c) (sym (zero_piece run r k l))

-- a block keeps all but the bytes of its sector
pub zeroed-stays : (run : ByteRun) → KeepsStates (zeroed_through run)
zeroed-stays run = record {
  kind = λ j c. either_mapped (λ d. d.kind ≡ c.kind) (over j) c (λ _. refl) (λ _. refl);
  page = λ j c. either_mapped (λ d. d.page ≡ c.page) (over j) c (λ _. refl) (λ _. refl);
  dirty = λ j c. either_mapped (λ d. d.dirty ≡ c.dirty) (over j) c (λ _. refl) (λ _. refl);
  away = λ j c. either_mapped (λ d. d.away ≡ c.away) (over j) c (λ _. refl) (λ _. refl);
}
  where
    over : ℕ → Content → Content
    over j x = overlaid run.size run.from run.to (zeros_of run) (run.first + j) x

-- a block that has some of the zeros is in its place
zeroed-placed : (run : ByteRun) → IsByteRun run → (k : ℕ) → k < run.blocks → (c : Cell) → IsPlaced run.size c → IsPlaced run.size (zeroed_through run k c)
zeroed-placed run r k l c h =
    let f : Content → Content = overlaid run.size run.from run.to (zeros_of run) (run.first + k) in
    either_mapped (IsPlaced run.size) f c (λ _. place-changed run.size f (length-overlaid run r (zeros_of run) (length-replicate (run.to - run.from) 0) k l) c.kind c.sector c.away h) (λ _. h)

-- a range stays sound
pub zeroed_sound : (r : RangeView) (run : ByteRun) (cells : List Cell) (log : List (ℕ × Stamp)) (st : Stamp) → IsByteRun run → run.size ≡ r.geometry.block_size → LiesAt r run.first run.blocks → IsSound r → cells ≡ on_each (zeroed_through run) 0 (run.first - r.first) run.blocks r.cells
    → log ≡ r.log ++ stamps_from run.first run.blocks st → IsSound (range_view r.geometry r.mode r.first cells log r.cookie r.errors r.tickets r.seat r.space)
zeroed_sound r run cells log st met size lies s are joined =
    let f : ℕ → Cell → Cell = zeroed_through run in
    let low : ℕ = run.first - r.first in
    let first = lies.low in
    let last = lies.high in
    let within : low + run.blocks ≤ length r.cells = omega arith in
    let P : ℕ → Type 0 = λ n. All (IsPlaced n) (on_each f 0 low run.blocks r.cells) in
    let Q : ℕ → Type 0 = λ n. All (IsPlaced n) r.cells in
    let places : All (IsPlaced r.geometry.block_size) (on_each f 0 low run.blocks r.cells) = subst P size (All-on_each_at f (λ _. 0) (IsPlaced run.size) 0 low run.blocks r.cells within (λ j c l there h. let z : 0 + j ≡ j = omega arith in let S : ℕ → Type 0 = λ m. IsPlaced run.size (f m c) in subst S (sym z) (zeroed-placed run met j l c h)) (subst Q (sym size) s.places)) in
    let S : List Cell → Type 0 = λ xs. IsSound (range_view r.geometry r.mode r.first xs log r.cookie r.errors r.tickets r.seat r.space) in
    subst S (sym are)
    (sound_next r (on_each f 0 low run.blocks r.cells) log (stamps_from run.first run.blocks st) r.cookie r.errors r.tickets r.seat r.space s (length-on_each f 0 low run.blocks r.cells) places joined (stamps_from-range r.first (length r.cells) run.first run.blocks st first last)
    (space_stays f (zeroed-stays run) r.geometry.block_size low run.blocks r.cells r.space s.space))
