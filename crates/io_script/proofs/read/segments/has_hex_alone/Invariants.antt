use Rattle.std.proofs.Common.{◌≡◌, ◌&&◌, drop}
use Rattle.std.specs.List.{list_all}
use Rattle.io_script.specs.GrammarNumbers.{is_hex}
use Rattle.io_script.proofs.read.segments.has_hex_alone.Given as goal

abbrev pub invariant-loop-b : goal.invariant-loop-b
invariant-loop-b l = (l.all && list_all is_hex (drop l.b-index l.word)) ≡ list_all is_hex l.word
