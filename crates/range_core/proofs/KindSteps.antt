-- The kinds of the blocks of an extent: they go on from the first, and have space, or were written, as it has.
use Rattle.std.proofs.Common.{◌≡◌, ℕ, ◌+◌, refl, ap, arith}
use Rattle.io_model.specs.Kinds.{kind_after}
use Rattle.io_model.specs.declared.file.Kind.{Kind}
use Rattle.io_model.specs.declared.file.Kind.TheVariants.{Hole, Delalloc, Unwritten, Mapped}
use Rattle.range_core.specs.Kinds.{has_space, is_mapped, is_unwritten}

pub kind_after-plus : (k : Kind) (i j : ℕ) → kind_after (kind_after k i) j ≡ kind_after k (i + j)
kind_after-plus Hole i j = refl
kind_after-plus Delalloc i j = refl
kind_after-plus (Unwritten d) i j = ap Unwritten (omega arith)
kind_after-plus (Mapped d) i j = ap Mapped (omega arith)

pub mapped-after : (k : Kind) (i : ℕ) → is_mapped (kind_after k i) ≡ is_mapped k
mapped-after Hole i = refl
mapped-after Delalloc i = refl
mapped-after (Unwritten d) i = refl
mapped-after (Mapped d) i = refl

pub unwritten-after : (k : Kind) (i : ℕ) → is_unwritten (kind_after k i) ≡ is_unwritten k
unwritten-after Hole i = refl
unwritten-after Delalloc i = refl
unwritten-after (Unwritten d) i = refl
unwritten-after (Mapped d) i = refl

pub space-after : (k : Kind) (i : ℕ) → has_space (kind_after k i) ≡ has_space k
space-after Hole i = refl
space-after Delalloc i = refl
space-after (Unwritten d) i = refl
space-after (Mapped d) i = refl
