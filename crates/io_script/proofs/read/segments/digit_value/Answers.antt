-- The table is held against the definition at each of the 256 bytes, by computing.
use Rattle.std.proofs.Common.{◌≡◌, ℕ, ◌<◌, ◌≤◌, ◌&&◌, Bool, List, true, nat_eq, nat_le, get_or, refl, arith}
use Rattle.std.proofs.lemmas.Grind.{common_steps}
use Rattle.io_script.specs.GrammarNumbers.{hex_value}
use Rattle.io_script.specs.declared.read.segments.TheConstants.{DIGITS}
use Rattle.io_script.proofs.Computed.{passes_below, passes_at}
use Rattle.io_script.proofs.read.segments.digit_value.Goals as goal

-- the table has the value of the byte, and it is that of a digit
abbrev right_at : List ℕ → ℕ → Bool
right_at table b = nat_eq (get_or table b 0) (hex_value b) && nat_le (get_or table b 0) 15

both_facts : (x y : ℕ) → (nat_eq x y && nat_le x 15) ≡ true → (x ≡ y) × (x ≤ 15)
both_facts x y h = grind (arith, common_steps)

from_table : (table : List ℕ) (b : ℕ) → b < 256 → passes_below (right_at table) 256 ≡ true → (get_or table b 0 ≡ hex_value b) × (get_or table b 0 ≤ 15)
from_table table b lt h = both_facts (get_or table b 0) (hex_value b) (passes_at (right_at table) 256 h b lt)

pub returns-clause-value : goal.returns-clause-value
returns-clause-value c = (from_table DIGITS c.args.b (omega arith) refl).0

pub returns-clause-small : goal.returns-clause-small
returns-clause-small c = (from_table DIGITS c.args.b (omega arith) refl).1
