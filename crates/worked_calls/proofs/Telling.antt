-- A caller is told of the failed writebacks of one file.
use Rattle.std.proofs.Common.{◌≡◌, ℕ, Some, None, Option, List, length, refl, ap, ◌∙◌, length-set}
use Rattle.iob_base.specs.declared.answer.Fault.{Fault}
use Rattle.worked_mounts.specs.Alone.{only_file}
use Rattle.writeback_ioend.specs.Syncs.{counts_after}

one-after : (seen : List ℕ) (stopped : Option Fault) (found : ℕ) → length (counts_after seen only_file stopped found) ≡ length seen
one-after seen None found = length-set seen 0 found
one-after seen (Some fault) found = refl

-- a sync leaves the number of files
pub still-one : (seen told : List ℕ) (stopped : Option Fault) (found : ℕ) → length seen ≡ 1 → told ≡ counts_after seen only_file stopped found → length told ≡ 1
still-one seen told stopped found one counts = ap length counts ∙ one-after seen stopped found ∙ one
