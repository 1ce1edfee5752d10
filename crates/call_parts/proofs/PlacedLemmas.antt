-- Stamps of a run of blocks that lies in one stripe stand there.
use Rattle.std.proofs.Common.{◌≡◌, ℕ, zero, suc, ◌+◌, ◌/◌, ◌%◌, ◌<◌, ◌≤◌, List, [], sym, ap, subst, arith}
use Rattle.std.specs.Prelude.{All}
use Rattle.std.proofs.lemmas.List.Elements.{All-cons, All-nil}
use Rattle.iob_base.specs.declared.stamp.FileId.{FileId}
use Rattle.iob_base.specs.declared.stamp.Stamp.{Stamp}
use Rattle.range_core.specs.EntryStamps.{stamps_of}
use Rattle.range_core.specs.Stamps.{stamps_from}
use Rattle.range_core.specs.declared.entry.Entry.{Entry}
use Rattle.mount_parts.specs.MountView.{MountView, file_at, stripe_at}
use Rattle.mini_fs.specs.Acts.Act.{Turn}
use Rattle.call_parts.specs.Steps.{IsPlaced}

-- the blocks of a run that crosses no border of a stripe are of one stripe
one-stripe : (first n b : ℕ) → first % 64 + n ≤ 64 → first ≤ b → b < first + n → first / 64 ≡ b / 64
one-stripe first n b folds low high = omega arith

abbrev StandsAt : MountView → FileId → ℕ → ℕ × Stamp → Type 0
StandsAt m file stripe x = stripe ≡ stripe_at m file x.0

stand-from : (m : MountView) (file : FileId) (stripe first n : ℕ) (stamp : Stamp) → ((b : ℕ) → first ≤ b → b < first + n → stripe ≡ stripe_at m file b) → All (StandsAt m file stripe) (stamps_from first n stamp)
stand-from m file stripe first zero stamp here = All-nil (StandsAt m file stripe)
stand-from m file stripe first (suc n) stamp here =
    All-cons (StandsAt m file stripe) (first, stamp) (stamps_from (first + 1) n stamp) (here first (omega arith) (omega arith))
    (stand-from m file stripe (first + 1) n stamp (λ b low high. here b (omega (arith, low)) (omega (arith, high))))

-- an entry at the stripe of the first block of such a run, which stamped these blocks, left its stamps where it stands
pub run-placed : (m : MountView) (file : FileId) (first n : ℕ) (stamp : Stamp) (others : List Entry) (own : Entry) → first % 64 + n ≤ 64 → stamps_of m.geometry.block_size own ≡ stamps_from first n stamp → IsPlaced m file (Turn (stripe_at m file first) others own)
run-placed m file first n stamp others own folds is =
    subst (All (StandsAt m file (stripe_at m file first))) (sym is)
    (stand-from m file (stripe_at m file first) first n stamp (λ b low high. ap (λ k. (file_at m file).stripe + k) (one-stripe first n b folds low high)))

-- and so did one that left no stamps
pub bare-placed : (m : MountView) (file : FileId) (stripe : ℕ) (others : List Entry) (own : Entry) → stamps_of m.geometry.block_size own ≡ [] → IsPlaced m file (Turn stripe others own)
bare-placed m file stripe others own none = subst (All (StandsAt m file stripe)) (sym none) (All-nil (StandsAt m file stripe))
