-- What is left of a mount, from what is left of its stripes, sizes and pool.
use Rattle.std.proofs.Common.{◌≡◌, ℕ, suc, ◌+◌, [], ◌∷◌, ◌*◌, ◌<◌, ◌≤◌, Option, Some, None, List, length, map, drop, refl, sym, ◌∙◌, ap, subst, arith}
use Rattle.std.specs.Prelude.{◌/◌, ◌%◌, All, IsTrue, slice_get}
use Rattle.std.proofs.lemmas.List.{length-drop, length-map, length-take}
use Rattle.std.proofs.lemmas.List.Elements.{All-cons}
use Rattle.std.proofs.lemmas.Option.{none-some}
use Rattle.iob_base.specs.Layout.{Layout}
use Rattle.io_model.specs.Fitting.{is_merged_from}
use Rattle.io_model.specs.Kinds.{kind_at}
use Rattle.io_model.specs.declared.file.BlockEnd.{BlockEnd}
use Rattle.io_model.specs.declared.file.Extent.{Extent}
use Rattle.io_model.specs.declared.file.FileEnd.{FileEnd}
use Rattle.io_model.specs.declared.file.SizeStamp.{SizeStamp}
use Rattle.io_model.specs.declared.file.Unmounted.{Unmounted}
use Rattle.file_stripes.specs.declared.run_end.RunEnd.{RunEnd}
use Rattle.turn_cell.specs.Stakes.{total}
use Rattle.turn_cell.specs.Views.{CellView, SeatView}
use Rattle.turn_cell.proofs.Sums.{total-map}
use Rattle.range_core.specs.Happened.{HasHappened}
use Rattle.range_core.specs.RangeView.{RangeView}
use Rattle.range_core.specs.declared.cell.Cell.{Cell}
use Rattle.range_core.specs.declared.entry.Entry.{Entry}
use Rattle.size_core.specs.SizesView.{SizesView}
use Rattle.size_core.specs.declared.entry.SizeEntry.{SizeEntry}
use Rattle.mount_parts.specs.Ends.{AreEnds, EndsBlock, IsEnd, RangeEndView, SawAll, end_numbers}
use Rattle.mount_parts.specs.FileEnds.{AreFileEnds, AreRunsOf, HasSizeEnd, IsFileEnd, run_end, runs_of, size_end}
use Rattle.mount_parts.specs.MountView.{IsLaidOut, LieInOrder, MountView, pool_share, stripes_of}
use Rattle.mount_parts.specs.PoolEnds.{EndsPool}
use Rattle.mount_parts.specs.SizeEnds.{AreSizeEnds, EndsSize}
use Rattle.mount_parts.specs.Unmounts.{EndsFile, EndsSizeOf, Unmounts, file_numbers}
use Rattle.mount_parts.specs.declared.file.FilePlace.{FilePlace}
use Rattle.mount_parts.specs.declared.size_end.SizeEnd.{SizeEnd}
use Rattle.mount_parts.proofs.FileEndings.{get-drop, get-take}
use Rattle.mount_parts.proofs.FileRuns.{AreRunsAt, IsRunAt, block-in, follow-on, runs-long, same-kind}
use Rattle.mount_parts.proofs.Lies.{file-room, of-file, size-room}
use Rattle.mount_parts.proofs.Places.{map-there, there, within}
use Rattle.mount_parts.proofs.PoolEnds.{ends-alike}
use Rattle.mount_parts.proofs.Weights.{all-from, files-weigh, run_weight, total-alike}

-- the extents and the blocks that are left of a range
abbrev pub run_in : RangeEndView → RunEnd
run_in v = run_end v.extents v.blocks

-- what a seat at the pool claims for a range weighs
abbrev pub space_weight : (ℕ → ℕ) → RangeEndView → ℕ
space_weight f v = total f v.space.numbers

abbrev pub part_share : RangeEndView → ℕ
part_share v = v.seat.share

-- what is left of a size belongs to the file that has its cell
pub size-of : (cells : List (CellView SizesView)) (seats : List (SeatView SizeEntry)) (sizes : List SizeEnd) (o : Option ℕ) (size : Option ℕ) (stamps : List SizeStamp) → AreSizeEnds cells seats sizes → ((at : ℕ) → o ≡ Some at → at < length cells) → HasSizeEnd (size_end o sizes) size stamps → EndsSizeOf cells seats o size stamps
size-of cells seats sizes None size stamps are room has = has
size-of cells seats sizes (Some at) size stamps are room has =
    let e = there sizes at (let n = are.count in let r = room at refl in omega arith) in
    let own : HasSizeEnd (Some e.0) size stamps = subst (λ x. HasSizeEnd x size stamps) e.1 has in
    record {
      now = e.0.size;
      size_is = own.0;
      ends = λ cell seat hc hs. subst (EndsSize cell.opening seat.seen e.0.size) (sym own.1) (are.each at cell seat e.0 hc hs e.1).ends;
    }

-- a run is merged from the first block of its stripe on
moved : (first blocks n i : ℕ) (extents : List Extent) → first ≡ 0 + i * 64 → n ≡ blocks → IsTrue (is_merged_from first (first + blocks) extents) → IsTrue (is_merged_from (0 + i * 64) (0 + i * 64 + n) extents)
moved first blocks n i extents at long merged = subst (λ k. IsTrue (is_merged_from (0 + i * 64) (0 + i * 64 + k) extents)) (sym long) (subst (λ k. IsTrue (is_merged_from k (k + blocks) extents)) at merged)

module _ (m : MountView) (seats : List (SeatView Entry)) (views : List RangeEndView) (laid : IsLaidOut m) (long : length seats ≡ length m.stripes) (ends : AreEnds m.stripes seats views) where
  -- What stands at a stripe: its cell and seat, and what is left of it
  record StandsAt (j : ℕ) (v : RangeEndView) : Type 0 where
    cell : CellView RangeView
    seat : SeatView Entry
    cell_is : slice_get m.stripes j ≡ Some cell
    seat_is : slice_get seats j ≡ Some seat
    end : IsEnd cell seat v

  stands : (j : ℕ) (v : RangeEndView) → slice_get views j ≡ Some v → StandsAt j v
  stands j v at =
      let count = ends.count in
      let w = within views j v at in
      let c = there m.stripes j (omega arith) in
      let s = there seats j (omega arith) in
      record { cell = c.0; seat = s.0; cell_is = c.1; seat_is = s.1; end = ends.each j c.0 s.0 v c.1 s.1 at }

  pub runs-count : length (map run_in views) ≡ length m.stripes
  runs-count = length-map views run_in ∙ ends.count

  view-at : (j : ℕ) (e : RunEnd) → slice_get (map run_in views) j ≡ Some e → (v : RangeEndView) × (slice_get views j ≡ Some v) × (run_in v ≡ e)
  view-at j e at =
      let w = within (map run_in views) j e at in
      let v = there views j (omega (arith, length-map views run_in)) in
      let both : Some (run_in v.0) ≡ Some e = sym (map-there run_in views j v.0 v.1) ∙ at in
      let same : run_in v.0 ≡ e = cc in
      (v.0, v.1, same)

  module _ (k : ℕ) (file : FilePlace) (here : slice_get m.files k ≡ Some file) where
    room : file.stripe + stripes_of file.blocks ≤ length (map run_in views)
    room = let r = file-room m.files 0 0 (length m.stripes) (length m.sizes) k file laid.order here in let n = runs-count in omega arith

    own-many : length (runs_of file (map run_in views)) ≡ stripes_of file.blocks
    own-many = let r = room in omega (arith, length-take (stripes_of file.blocks) (drop file.stripe (map run_in views)), length-drop file.stripe (map run_in views))

    run-there : (i : ℕ) → i < stripes_of file.blocks → slice_get (runs_of file (map run_in views)) i ≡ slice_get (map run_in views) (file.stripe + i)
    run-there i below = get-take (drop file.stripe (map run_in views)) (stripes_of file.blocks) i below ∙ get-drop (map run_in views) file.stripe i

    own-runs : AreRunsAt 0 file.blocks (runs_of file (map run_in views))
    own-runs i e at =
        let below : i < stripes_of file.blocks = (let w = within (runs_of file (map run_in views)) i e at in let n = own-many in omega arith) in
        let v = view-at (file.stripe + i) e (sym (run-there i below) ∙ at) in
        let s = stands (file.stripe + i) v.0 v.1 in
        let is = laid.stripes k file i s.cell here below s.cell_is in
        let first : s.cell.opening.first ≡ 0 + i * 64 = (let f = is.first in omega arith) in
        let run : IsRunAt 0 file.blocks i (run_in v.0) = record {
          merged = moved s.cell.opening.first (length s.cell.opening.cells) (length v.0.blocks) i v.0.extents first s.end.ends.count s.end.ends.merged;
          long = s.end.ends.count ∙ is.blocks;
        } in
        subst (IsRunAt 0 file.blocks i) v.2 run

    pub are-runs : AreRunsOf file (runs_of file (map run_in views))
    are-runs = record { follow = follow-on 0 file.blocks (runs_of file (map run_in views)) own-runs own-many; long = runs-long 0 file.blocks (runs_of file (map run_in views)) own-runs own-many }

    module _ (cells : List (CellView SizesView)) (sizes : List SizeEnd) (end : FileEnd) (is : IsFileEnd (map run_in views) sizes file end) where
      file-long : length end.blocks ≡ file.blocks
      file-long = ap length is.joined.blocks ∙ are-runs.long

      -- a block ends as the history of its stripe leaves it
      block-ends : (b : ℕ) (cell : CellView RangeView) (seat : SeatView Entry) (was : Cell) (block : BlockEnd) → slice_get m.stripes (file.stripe + b / 64) ≡ Some cell → slice_get seats (file.stripe + b / 64) ≡ Some seat
          → slice_get cell.opening.cells (b % 64) ≡ Some was → slice_get end.blocks b ≡ Some block → EndsBlock m.geometry.block_size b was cell.opening.log seat.seen (kind_at end.extents b) block
      block-ends b cell seat was block hc hs hw hb =
          let q : ℕ = b / 64 in
          let r : ℕ = b % 64 in
          let own : List RunEnd = runs_of file (map run_in views) in
          let split : q * 64 + r ≡ b = omega arith in
          let inside : b < length end.blocks = within end.blocks b block hb in
          let below : q < stripes_of file.blocks = (let n = file-long in omega arith) in
          let v = there views (file.stripe + q) (let n = ends.count in let w = within m.stripes (file.stripe + q) cell hc in omega arith) in
          let one = ends.each (file.stripe + q) cell seat v.0 hc hs v.1 in
          let run_is : slice_get own q ≡ Some (run_in v.0) = run-there q below ∙ map-there run_in views (file.stripe + q) v.0 v.1 in
          let deep : r < length v.0.blocks = (let w = within cell.opening.cells r was hw in let n = one.ends.count in omega arith) in
          let here_is : slice_get v.0.blocks r ≡ Some block =
          sym (block-in 0 file.blocks own q r (run_in v.0) own-runs own-many run_is deep) ∙ ap (λ l. slice_get l (q * 64 + r)) (sym is.joined.blocks) ∙ ap (slice_get end.blocks) split ∙ hb in
          let stripe = laid.stripes k file q cell here below hc in
          let at : cell.opening.first + r ≡ b = (let f = stripe.first in omega arith) in
          let size : cell.opening.geometry.block_size ≡ m.geometry.block_size = ap (λ (g : Layout). g.block_size) stripe.sizes in
          let kind : kind_at v.0.extents b ≡ kind_at end.extents b =
          ap (kind_at v.0.extents) (sym split) ∙ sym (same-kind file.blocks (length end.blocks) own end.extents q r (run_in v.0) own-runs own-many run_is deep is.joined.kinds (omega arith)) ∙ ap (kind_at end.extents) split in
          let raw : EndsBlock cell.opening.geometry.block_size (cell.opening.first + r) was cell.opening.log seat.seen (kind_at v.0.extents (cell.opening.first + r)) block = one.ends.blocks r was block hw here_is in
          let there_is : EndsBlock cell.opening.geometry.block_size b was cell.opening.log seat.seen (kind_at v.0.extents b) block = subst (λ n. EndsBlock cell.opening.geometry.block_size n was cell.opening.log seat.seen (kind_at v.0.extents n) block) at raw in
          subst (λ n. EndsBlock n b was cell.opening.log seat.seen (kind_at end.extents b) block) size (subst (λ x. EndsBlock cell.opening.geometry.block_size b was cell.opening.log seat.seen x block) kind there_is)

      pub file-ends : (others : List (SeatView SizeEntry)) → AreSizeEnds m.sizes others sizes → EndsFile m seats others file end
      file-ends others are = record {
        merged = subst (λ n. IsTrue (is_merged_from 0 n end.extents)) file-long is.joined.merged;
        count = file-long;
        blocks = block-ends;
        size = size-of m.sizes others sizes file.size end.size end.sizes are (λ at e. size-room m.files 0 0 (length m.stripes) (length m.sizes) k at file laid.order here e) is.size;
      }

  pub saw-stripes : All SawAll seats
  saw-stripes = all-from SawAll seats (λ k seat hs.
      let c = there m.stripes k (let w = within seats k seat hs in omega arith) in
      let v = there views k (let w = within seats k seat hs in let n = ends.count in omega arith) in
      (ends.each k c.0 seat v.0 c.1 hs v.1).saw)

  pub all-happened : (k : ℕ) (cell : CellView RangeView) (seat : SeatView Entry) → slice_get m.stripes k ≡ Some cell → slice_get seats k ≡ Some seat → HasHappened cell.opening seat.seen
  all-happened k cell seat hc hs =
      let v = there views k (let w = within m.stripes k cell hc in let n = ends.count in omega arith) in
      (ends.each k cell seat v.0 hc hs v.1).ends.happened

  -- the seats at the pool have the share that they had at the opening, and are at the pool still
  pub share-whole : total part_share views ≡ total pool_share m.stripes
  share-whole = total-alike part_share pool_share views m.stripes ends.count (λ k v cell hv hc.
      let s = there seats k (let w = within m.stripes k cell hc in omega arith) in
      ap (λ p. p.1) (ends.each k cell s.0 v hc s.1 hv).space.part)

  pub at-pool : (j : ℕ) (v : RangeEndView) → slice_get views j ≡ Some v → v.seat.cell ≡ m.pool.cell
  at-pool j v at =
      let s = stands j v at in
      let w = within m.stripes j s.cell s.cell_is in
      let f = of-file m.files 0 0 (length m.stripes) (length m.sizes) j laid.order (omega arith) w in
      let is = laid.stripes f.k f.file f.i s.cell f.here f.below (ap (slice_get m.stripes) (sym f.stripe_is) ∙ s.cell_is) in
      ap (λ p. p.0) s.end.space.part ∙ is.pool

  -- the sectors of the blocks of all files are those that the seats at the pool claim
  pub space-weighs : (f : ℕ → ℕ) (cells : List SizeEnd) (files : List FileEnd) → length cells ≡ length m.sizes → AreFileEnds m.files (map run_in views) cells files → total (space_weight f) views ≡ total f (file_numbers files)
  space-weighs f cells files sized are =
      let each : total (space_weight f) views ≡ total (λ v. run_weight f (run_in v)) views = total-alike (space_weight f) (λ v. run_weight f (run_in v)) views views refl (λ k v w hv hw.
      let both : Some v ≡ Some w = sym hv ∙ hw in
      let same : v ≡ w = cc in
      (stands k v hv).end.space.numbers f ∙ ap (λ x. total f (end_numbers x.blocks)) same) in
      each ∙ sym (total-map (run_weight f) run_in views) ∙ sym (files-weigh f m.files 0 0 (length m.stripes) (length m.sizes) (map run_in views) cells files laid.order runs-count are.count are.each)

  module _ (fs : List FilePlace) (runs : List RunEnd) (fs_are : fs ≡ m.files) (runs_are : runs ≡ map run_in views) where
    pub parts-few : All (λ f. f.blocks ≤ 65536) fs
    parts-few = subst (All (λ f. f.blocks ≤ 65536)) (sym fs_are) laid.few

    pub parts-order : (sizes : List SizeEnd) → length sizes ≡ length m.sizes → LieInOrder 0 0 fs (length runs) (length sizes)
    parts-order sizes sized =
        let stripes : length m.stripes ≡ length runs = sym runs-count ∙ ap length (sym runs_are) in
        subst (λ l. LieInOrder 0 0 l (length runs) (length sizes)) (sym fs_are) (subst (λ n. LieInOrder 0 0 m.files n (length sizes)) stripes (subst (λ n. LieInOrder 0 0 m.files (length m.stripes) n) (sym sized) laid.order))

    pub parts-runs : (k : ℕ) (file : FilePlace) → slice_get fs k ≡ Some file → AreRunsOf file (runs_of file runs)
    parts-runs k file at = subst (λ l. AreRunsOf file (runs_of file l)) (sym runs_are) (are-runs k file (ap (λ l. slice_get l k) (sym fs_are) ∙ at))

    module _ (others : List (SeatView SizeEntry)) (others_long : length others ≡ length m.sizes) (sizes : List SizeEnd) (sizes_are : AreSizeEnds m.sizes others sizes) (u : Unmounted) (files_are : AreFileEnds fs runs sizes u.files) where
      own-ends : AreFileEnds m.files (map run_in views) sizes u.files
      own-ends = subst (λ l. AreFileEnds m.files l sizes u.files) runs_are (subst (λ l. AreFileEnds l runs sizes u.files) fs_are files_are)

      saw-sizes : All SawAll others
      saw-sizes = all-from SawAll others (λ k seat hs.
          let c = there m.sizes k (let w = within others k seat hs in omega arith) in
          let e = there sizes k (let w = within others k seat hs in let n = sizes_are.count in omega arith) in
          (sizes_are.each k c.0 seat e.0 c.1 hs e.1).saw)

      pub unmounts : (claims : (ℕ → ℕ) → ℕ) → ((f : ℕ → ℕ) → claims f ≡ total (space_weight f) views) → (0 < length m.stripes → EndsPool m.pool.opening claims u.free) → (length m.stripes ≡ 0 → u.free ≡ m.idle) → Unmounts m seats others u
      unmounts claims weigh pool idle = record {
        saw = saw-stripes;
        saw_sizes = saw-sizes;
        happened = all-happened;
        count = own-ends.count;
        files = λ k file end hf he. file-ends k file hf m.sizes sizes end (own-ends.each k file end hf he) others sizes_are;
        pool = λ some. ends-alike m.pool.opening claims (λ f. total f (file_numbers u.files)) u.free (λ f. weigh f ∙ space-weighs f sizes u.files sizes_are.count own-ends) (pool some);
        idle = idle;
      }

module _ {A S V : Type 0} (seat : A → S) (view : A → V) where
  seats-alike : {B : Type 0} (w : B → ℕ) (g : S → B) (u : V → ℕ) (xs : List A) → ((e : A) → w (g (seat e)) ≡ u (view e)) → total w (map g (map seat xs)) ≡ total u (map view xs)
  seats-alike w g u [] same = refl
  seats-alike w g u (x ∷ xs) same = let here : w (g (seat x)) ≡ u (view x) = same x in let rest = seats-alike w g u xs same in omega arith

  -- seats that came out of values weigh what is seen of these
  pub seats-weigh : {B : Type 0} (w : B → ℕ) (g : S → B) (u : V → ℕ) (xs : List A) (ss : List S) → ((e : A) → w (g (seat e)) ≡ u (view e)) → ss ≡ map seat xs → total w (map g ss) ≡ total u (map view xs)
  seats-weigh w g u xs ss same are = ap (λ l. total w (map g l)) are ∙ seats-alike w g u xs same

  seats-each : (P : S → Type 0) (Q : V → Type 0) (xs : List A) → ((e : A) → Q (view e) → P (seat e)) → ((k : ℕ) (v : V) → slice_get (map view xs) k ≡ Some v → Q v) → All P (map seat xs)
  seats-each P Q [] by each = all-from P [] (λ k x at. absurd (none-some x at))
  seats-each P Q (x ∷ xs) by each = All-cons P (seat x) (map seat xs) (by x (each 0 (view x) refl)) (seats-each P Q xs by (λ k v at. each (suc k) v at))

  -- and what holds of what is seen of these holds of the seats
  pub seats-all : (P : S → Type 0) (Q : V → Type 0) (xs : List A) (ss : List S) → ((e : A) → Q (view e) → P (seat e)) → ss ≡ map seat xs → ((k : ℕ) (v : V) → slice_get (map view xs) k ≡ Some v → Q v) → All P ss
  seats-all P Q xs ss by are each = subst (All P) (sym are) (seats-each P Q xs by each)
