use Rattle.std.specs.Prelude.{ℕ, zero, suc, Bool, true, false, not, ◌&&◌, ◌||◌, ◌==◌, ◌+◌, List, [], ◌∷◌, length, map, IsTrue, if◌then◌else◌}
use Rattle.std.specs.Str.{bytes_eq}
use Rattle.iob_base.specs.declared.answer.Reply.{Reply}
use Rattle.iob_base.specs.declared.answer.Reply.TheVariants.{Ok, Err}
use Rattle.iob_base.specs.declared.answer.Stop.{Stop}
use Rattle.iob_base.specs.declared.answer.Stop.TheVariants.{Whole}
use Rattle.io_model.specs.Calls.{asked_of, is_data_call, offset_of}
use Rattle.io_model.specs.Journals.{each_block}
use Rattle.io_model.specs.Lists.{both_from}
use Rattle.io_model.specs.OneOrder.{calls_of, touches}
use Rattle.io_model.specs.Parts.{Span, span}
use Rattle.io_model.specs.Ranges.{Ranged, ranged}
use Rattle.io_model.specs.RunText.{is_error}
use Rattle.io_model.specs.declared.run.CallEnd.{CallEnd}
use Rattle.io_model.specs.declared.run.Run.{Run}
use Rattle.io_model.specs.declared.script.Call.{Call}
use Rattle.io_model.specs.declared.script.Script.{Script}
use Rattle.io_model.specs.declared.script.Verb.{Verb}
use Rattle.io_script.specs.Generated.{generated}

-- a reply that did so much, and was not cut
abbrev pub is_stop_whole : Stop → Bool
is_stop_whole Whole = true
is_stop_whole _ = false

abbrev pub is_whole_reply : ℕ → Reply → Bool
is_whole_reply asked (Ok count stop) = count == asked && is_stop_whole stop
is_whole_reply asked (Err fault sent) = false

-- a call was answered without an error, and a data call did all that it was asked
abbrev pub did_all : Call → CallEnd → Bool
did_all call end = not (is_error end.answer.reply) && (not (is_data_call call.verb) || is_whole_reply (asked_of call.verb) end.answer.reply)

-- each call of a run did
abbrev pub AnswersWhole : Script → Run → Type 0
AnswersWhole script run = IsTrue (both_from (λ n call end. did_all call end) 1 script.calls run.calls)

-- the bytes that a call asks
abbrev pub asked_span : Verb → Span
asked_span verb = span (offset_of verb) (offset_of verb + asked_of verb)

-- calls, each with the bytes that it asks
abbrev pub asking : List Call → List Ranged
asking calls = map (λ call. ranged call (asked_span call.verb)) calls

-- the numbers of the items that pass a test, the first of which is n
abbrev pub numbers_where : {A : Type 0} → (A → Bool) → ℕ → List A → List ℕ
numbers_where test n [] = []
numbers_where test n (x ∷ xs) = if test x then n ∷ numbers_where test (n + 1) xs else numbers_where test (n + 1) xs

-- the calls of the script of a number that leave a stamp on a block, in the order of the script
abbrev pub generated_journal : ℕ → ℕ → List ℕ
generated_journal seed b = numbers_where (touches 512 0 b) 1 (asking (generated seed).calls)

-- the sum of a function of so many numbers, from the first on; proofs open it where they need it
unfoldable pub sum_over : (ℕ → ℕ) → ℕ → ℕ → ℕ
sum_over f first zero = 0
sum_over f first (suc more) = f first + sum_over f (first + 1) more

-- each block of a run has the stamps of these calls, in this order
abbrev pub HasGeneratedJournals : ℕ → Run → Type 0
HasGeneratedJournals seed run = IsTrue (each_block (λ f b block. bytes_eq (calls_of block.journal) (generated_journal seed b)) run.ends.files)

-- how many stamps the journals of the file's blocks have together
abbrev pub generated_stamps : ℕ → ℕ
generated_stamps seed = sum_over (λ b. length (generated_journal seed b)) 0 2048
