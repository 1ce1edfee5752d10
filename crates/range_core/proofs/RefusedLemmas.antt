-- Events that were refused.
use Rattle.std.proofs.Common.{refl}
use Rattle.range_core.specs.Quiet.{RefusedIsQuiet}
use Rattle.range_core.specs.declared.entry.Event.TheVariants.{Sample, Reserve, Unreserve, Attach, Preallocate, Fetch, LendRead, FillBack, Store, StoreZeros, LendWriteback, WrittenBack, DropClean, LendDirect, LendPart, DirectBack, PartBack, DirectNow, Wipe, DaxGet, DaxPut, DaxZero}

pub refused_is_quiet : RefusedIsQuiet
refused_is_quiet size caller (Sample a b) fault = record { content = λ b x. refl; state = λ b s. refl; failed = refl; lent = refl; changed = refl; stamps = refl; found = λ b s. refl }
refused_is_quiet size caller (Reserve a b) fault = record { content = λ b x. refl; state = λ b s. refl; failed = refl; lent = refl; changed = refl; stamps = refl; found = λ b s. refl }
refused_is_quiet size caller (Unreserve a b) fault = record { content = λ b x. refl; state = λ b s. refl; failed = refl; lent = refl; changed = refl; stamps = refl; found = λ b s. refl }
refused_is_quiet size caller (Attach a b) fault = record { content = λ b x. refl; state = λ b s. refl; failed = refl; lent = refl; changed = refl; stamps = refl; found = λ b s. refl }
refused_is_quiet size caller (Preallocate a b) fault = record { content = λ b x. refl; state = λ b s. refl; failed = refl; lent = refl; changed = refl; stamps = refl; found = λ b s. refl }
refused_is_quiet size caller (Fetch a b c) fault = record { content = λ b x. refl; state = λ b s. refl; failed = refl; lent = refl; changed = refl; stamps = refl; found = λ b s. refl }
refused_is_quiet size caller (LendRead a b) fault = record { content = λ b x. refl; state = λ b s. refl; failed = refl; lent = refl; changed = refl; stamps = refl; found = λ b s. refl }
refused_is_quiet size caller (FillBack a b c d) fault = record { content = λ b x. refl; state = λ b s. refl; failed = refl; lent = refl; changed = refl; stamps = refl; found = λ b s. refl }
refused_is_quiet size caller (Store a b c d e) fault = record { content = λ b x. refl; state = λ b s. refl; failed = refl; lent = refl; changed = refl; stamps = refl; found = λ b s. refl }
refused_is_quiet size caller (StoreZeros a b c d) fault = record { content = λ b x. refl; state = λ b s. refl; failed = refl; lent = refl; changed = refl; stamps = refl; found = λ b s. refl }
refused_is_quiet size caller (LendWriteback a b) fault = record { content = λ b x. refl; state = λ b s. refl; failed = refl; lent = refl; changed = refl; stamps = refl; found = λ b s. refl }
refused_is_quiet size caller (WrittenBack a b c d e) fault = record { content = λ b x. refl; state = λ b s. refl; failed = refl; lent = refl; changed = refl; stamps = refl; found = λ b s. refl }
refused_is_quiet size caller (DropClean a b) fault = record { content = λ b x. refl; state = λ b s. refl; failed = refl; lent = refl; changed = refl; stamps = refl; found = λ b s. refl }
refused_is_quiet size caller (LendDirect a b c d e) fault = record { content = λ b x. refl; state = λ b s. refl; failed = refl; lent = refl; changed = refl; stamps = refl; found = λ b s. refl }
refused_is_quiet size caller (LendPart a b c d e) fault = record { content = λ b x. refl; state = λ b s. refl; failed = refl; lent = refl; changed = refl; stamps = refl; found = λ b s. refl }
refused_is_quiet size caller (DirectBack a b c d e f g) fault = record { content = λ b x. refl; state = λ b s. refl; failed = refl; lent = refl; changed = refl; stamps = refl; found = λ b s. refl }
refused_is_quiet size caller (PartBack a b c d e f g h) fault = record { content = λ b x. refl; state = λ b s. refl; failed = refl; lent = refl; changed = refl; stamps = refl; found = λ b s. refl }
refused_is_quiet size caller (DirectNow a b c) fault = record { content = λ b x. refl; state = λ b s. refl; failed = refl; lent = refl; changed = refl; stamps = refl; found = λ b s. refl }
refused_is_quiet size caller (Wipe a b c) fault = record { content = λ b x. refl; state = λ b s. refl; failed = refl; lent = refl; changed = refl; stamps = refl; found = λ b s. refl }
refused_is_quiet size caller (DaxGet a b c d) fault = record { content = λ b x. refl; state = λ b s. refl; failed = refl; lent = refl; changed = refl; stamps = refl; found = λ b s. refl }
refused_is_quiet size caller (DaxPut a b c d e) fault = record { content = λ b x. refl; state = λ b s. refl; failed = refl; lent = refl; changed = refl; stamps = refl; found = λ b s. refl }
refused_is_quiet size caller (DaxZero a b c d) fault = record { content = λ b x. refl; state = λ b s. refl; failed = refl; lent = refl; changed = refl; stamps = refl; found = λ b s. refl }
