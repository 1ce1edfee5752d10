use Rattle.std.proofs.Common.{◌++◌, length}
use Rattle.hex.specs.Hex.{encode_lower}
use Rattle.io_script.proofs.Appended.{HasLeft}
use Rattle.io_script.proofs.hexadecimal.append_digits.Given as goal

abbrev pub invariant-loop-left : goal.invariant-loop-left
invariant-loop-left l = HasLeft (λ rest. encode_lower l.bytes ++ rest) (λ rest. encode_lower l.left ++ rest) l.initial.text.items l.text.items

abbrev pub decreases-loop-left : goal.decreases-loop-left
decreases-loop-left l = length l.left
