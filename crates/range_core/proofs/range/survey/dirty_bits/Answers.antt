use Rattle.std.proofs.Common.{◌≡◌, ℕ, ◌≤◌, Bool, true, false, sym, arith}
use mir.Val.{bool_byte}
use Rattle.range_core.proofs.SurveyLemmas.{dirty_word-none, room_for_bit}
use Rattle.range_core.proofs.range.survey.dirty_bits.Goals as goal

few : (n : ℕ) (t : Bool) → n ≡ bool_byte t → n ≤ 1
few n true e = let is : n ≡ 1 = e in omega arith
few n false e = let is : n ≡ 0 = e in omega arith

pub loop-i-init : goal.loop-i-init
loop-i-init c = sym (dirty_word-none _)

pub overflow_mul-word : goal.overflow_mul-word
overflow_mul-word c = omega (arith, room_for_bit c.args.cells.now c.args.n c.loop-i.i c.loop-i.word (omega (arith, c.loop-i-test.true)) c.requires.few c.loop-i.invariant)

pub overflow_add-word : goal.overflow_add-word
overflow_add-word c = omega (arith, few _ _ c.from.ensures, room_for_bit c.args.cells.now c.args.n c.loop-i.i c.loop-i.word (omega (arith, c.loop-i-test.true)) c.requires.few c.loop-i.invariant)
