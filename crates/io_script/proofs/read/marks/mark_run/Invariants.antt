use Rattle.std.proofs.Common.{◌≡◌, ℕ, ◌<◌, false, ◌||◌, ◌&&◌, nat_le, nat_lt, length, get_or}
use Rattle.io_script.proofs.read.marks.mark_run.Given as goal

abbrev pub invariant-loop-i : goal.invariant-loop-i
invariant-loop-i l = record {
  many : length l.marks.items ≡ length l.initial.marks.items;
  each : (k : ℕ) → k < length l.marks.items → get_or l.marks.items k false ≡ (get_or l.initial.marks.items k false || (nat_le l.low k && nat_lt k l.i));
}
