-- Blocks and bytes of files.
use Rattle.std.proofs.Common.{◌≡◌, ℕ, zero, suc, ◌+◌, ◌-◌, ◌*◌, ◌<◌, ◌≤◌, min, All, List, [], ◌∷◌, get_or, refl, sym, ap, subst, arith, le-div_iff_mul-le, div-lt_iff_lt-mul, div-mul-le_self, mul-le-mul}
use Rattle.std.specs.Prelude.{◌/◌, ◌%◌, ◌^◌, IsTrue, is_some}
use Rattle.std.proofs.lemmas.List.Elements.{All-head, All-tail}
use Rattle.iob_base.specs.Geometry.{is_block_size}
use Rattle.iob_base.specs.declared.stamp.FileId.{FileId}
use Rattle.io_model.specs.declared.file.Kind.{Kind}
use Rattle.io_model.specs.declared.file.Kind.TheVariants.{Hole, Delalloc, Unwritten, Mapped}
use Rattle.iomap_core.specs.Mappings.{IsBegun, has_address}
use Rattle.mount_parts.specs.MountView.{MountView, IsLaidOut, file_at, no_file}
use Rattle.mount_parts.specs.declared.file.FilePlace.{FilePlace}
use Rattle.mini_fs.specs.Mappings.{TellsFrom, address_of, type_of}
use Rattle.mini_fs.specs.Turns.{block_at}
use Rattle.mini_fs.specs.declared.begun.Begun.{Begun}

few-at : (fs : List FilePlace) (k : ℕ) → All (λ f. f.blocks ≤ 65536) fs → (get_or fs k no_file).blocks ≤ 65536
few-at [] k all = omega arith
few-at (f ∷ fs) zero all = All-head (λ (x : FilePlace). x.blocks ≤ 65536) f fs all
few-at (f ∷ fs) (suc k) all = few-at fs k (All-tail (λ (x : FilePlace). x.blocks ≤ 65536) f fs all)

-- a file has at most 65,536 blocks
pub blocks-few : (m : MountView) (file : FileId) → IsLaidOut m → (file_at m file).blocks ≤ 65536
blocks-few m file laid = few-at m.files file.0 laid.few

pub size-most : (n : ℕ) → IsTrue (is_block_size n) → n ≤ 4096
size-most n is = grind arith

pub size-some : (n : ℕ) → IsTrue (is_block_size n) → 0 < n
size-some n is = grind arith

-- so many blocks have a number of 64 bits of bytes
pub bytes-fit : (blocks size most : ℕ) → blocks ≤ 2 ^ 32 → size ≤ 4096 → blocks * size < 2 ^ 64
bytes-fit blocks size most few small = let h = mul-le-mul few small in omega arith

-- the block of a byte before the end is one of the blocks
pub block-within : (pos blocks size : ℕ) → 0 < size → pos < blocks * size → pos / size < blocks
block-within pos blocks size some below = grind (arith, div-lt_iff_lt-mul)

pub div-mono : (a b n : ℕ) → 0 < n → a ≤ b → a / n ≤ b / n
div-mono a b n some le = let h = div-mul-le_self a n in grind (arith, le-div_iff_mul-le)

address-same : (size : ℕ) (kind : Kind) → is_some (address_of size kind) ≡ has_address (type_of kind)
address-same size Hole = refl
address-same size Delalloc = refl
address-same size (Unwritten d) = refl
address-same size (Mapped d) = refl

in-block : (pos size n : ℕ) → 0 < size → 0 < n → pos < pos / size * size + n * size
in-block pos size n some more =
    let one : 1 * size ≤ n * size = mul-le-mul more (omega arith) in
    let h : size * (pos / size) + pos % size ≡ pos = omega arith in
    omega arith

-- a mapping that begins with the block of a position is one that a begin there may give
pub tells-begun : (m : MountView) (file : FileId) (pos : ℕ) (begun : Begun) → IsLaidOut m → IsTrue (is_block_size m.geometry.block_size) → TellsFrom m file (block_at m pos) begun → IsBegun file pos begun.iomap
tells-begun m file pos begun laid sized t =
    let size = m.geometry.block_size in
    let extent = begun.sample.extent in
    let most = blocks-few m file laid in
    let within = t.lies.within in
    let some = size-some size sized in
    let fits : (extent.block + extent.length) * size < 2 ^ 64 = bytes-fit (extent.block + extent.length) size 0 (omega arith) (size-most size sized) in
    let low : pos / size * size ≤ pos = div-mul-le_self pos size in
    let high : pos < pos / size * size + extent.length * size = in-block pos size extent.length some t.lies.some in
    subst (λ (b : Begun). IsBegun file pos b.iomap) (sym t.is) (record {
      file_is = refl;
      from = subst (λ b. b * size ≤ pos) (sym t.starts) low;
      to = subst (λ b. pos < b * size + extent.length * size) (sym t.starts) high;
      fits = omega arith;
      addr = address-same size extent.kind;
      fresh = refl;
    })

-- the blocks that bytes meet are at least one
pub asked-is : (pos length end size : ℕ) → 0 < size → pos < end → 0 < length → ((pos + (min length (end - pos) - 1)) / size + 1 - pos / size ≡ (min (pos + length) end - 1) / size + 1 - pos / size) × (pos / size ≤ (pos + (min length (end - pos) - 1)) / size)
asked-is pos length end size some within more =
    let e : pos + (min length (end - pos) - 1) ≡ min (pos + length) end - 1 = omega arith in
    (ap (λ n. n / size + 1 - pos / size) e, div-mono pos (pos + (min length (end - pos) - 1)) size some (omega arith))
