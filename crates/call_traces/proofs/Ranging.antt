-- The calls of a script with their ranges.
use Rattle.std.proofs.Common.{◌≡◌, ℕ, zero, suc, ◌+◌, ◌*◌, ◌/◌, ◌<◌, ◌≤◌, Bool, true, false, List, [], ◌∷◌, length, min, Some, refl, sym, ap, ◌∙◌, arith}
use Rattle.std.specs.Prelude.{slice_get}
use Rattle.std.proofs.lemmas.Bool.{false≢true}
use Rattle.std.proofs.lemmas.Bool.Decides.{nat_tests}
use Rattle.std.proofs.lemmas.Option.{none-some}
use Rattle.iob_base.specs.declared.answer.Reply.{Reply}
use Rattle.iob_base.specs.declared.answer.Reply.TheVariants.{Ok, Err}
use Rattle.io_model.specs.Answered.{answered_in}
use Rattle.io_model.specs.Lists.{numbered}
use Rattle.io_model.specs.Parts.{Span, meets, span}
use Rattle.io_model.specs.Ranges.{Ranged, ranged_calls, ranged_from}
use Rattle.io_model.specs.declared.file.FileEnd.{FileEnd}
use Rattle.io_model.specs.declared.run.Run.{Run}
use Rattle.io_model.specs.declared.script.Call.{Call}
use Rattle.io_model.specs.declared.script.Script.{Script}
use Rattle.mount_parts.proofs.Places.{within}

-- the item of a number stands in the list
pub number-within : {A : Type 0} (xs : List A) (n : ℕ) (x : A) → numbered xs n ≡ Some x → (0 < n) × (n ≤ length xs)
number-within xs zero x at = absurd (none-some x at)
number-within xs (suc n) x at = (let w : n < length xs = within xs n x at in (omega arith, omega (arith, w)))

module _ (script : Script) (files : List FileEnd) where
  ranged-long : (n : ℕ) (calls : List Call) → length (ranged_from script files n calls) ≡ length calls
  ranged-long n [] = refl
  ranged-long n (call ∷ calls) = ap suc (ranged-long (n + 1) calls)

  ranged-there : (n : ℕ) (calls : List Call) (i : ℕ) (r : Ranged) → slice_get (ranged_from script files n calls) i ≡ Some r → slice_get calls i ≡ Some r.call
  ranged-there n [] i r at = absurd (none-some r at)
  ranged-there n (call ∷ calls) zero r at = let same : call ≡ r.call = cc in ap Some same
  ranged-there n (call ∷ calls) (suc i) r at = ranged-there (n + 1) calls i r at

pub calls-long : (script : Script) (run : Run) → length (ranged_calls script run) ≡ length script.calls
calls-long script run = ranged-long script run.ends.files 1 script.calls

pub call-numbered : (script : Script) (run : Run) (n : ℕ) (r : Ranged) → numbered (ranged_calls script run) n ≡ Some r → numbered script.calls n ≡ Some r.call
call-numbered script run zero r at = absurd (none-some r at)
call-numbered script run (suc n) r at = ranged-there script run.ends.files 1 script.calls n r at

-- a span that ends no later than another that begins where it does meets no more blocks
meets-less : (size from to more b : ℕ) → to ≤ more → meets size (span from to) b ≡ true → meets size (span from more) b ≡ true
meets-less size from to more b less met = grind (arith, nat_tests)

-- what a reply answers lies in the range
pub answered-meets : (size : ℕ) (range : Span) (direct : Bool) (reply : Reply) (b : ℕ) → meets size (answered_in size range direct reply) b ≡ true → meets size range b ≡ true
answered-meets size range direct (Ok count stop) b met = meets-less size range.from (min range.to (range.from + count)) range.to b (omega arith) met
answered-meets size range true (Err fault sent) b met = meets-less size range.from (min range.to ((range.from / size + sent) * size)) range.to b (omega arith) met
answered-meets size range false (Err fault sent) b met = let none : meets size (span 0 0) b ≡ false = grind (arith, nat_tests) in absurd (false≢true (sym none ∙ met))
