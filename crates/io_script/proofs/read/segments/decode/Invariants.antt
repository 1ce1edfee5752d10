use Rattle.std.proofs.Common.{◌≡◌, ◌++◌, ◌*◌, ◌/◌, length, take, drop}
use Rattle.io_script.specs.GrammarNumbers.{hex_bytes}
use Rattle.io_script.proofs.read.segments.decode.Given as goal

abbrev pub invariant-pairs : goal.invariant-pairs
invariant-pairs l = (take l.i l.bytes.items ++ hex_bytes (drop (2 * l.i) l.word) ≡ hex_bytes l.word) × (length l.bytes.items ≡ length l.word / 2)
