-- Which calls of a script the calls of a trace are.
use Rattle.std.specs.Prelude.{◌≡◌, ℕ, ◌<◌, ◌≤◌, ◌==◌, false, Option, Some, None, List, [], ◌∷◌, ◌++◌, All, length}
use Rattle.iob_base.specs.DeviceBlock.{DeviceBlock}
use Rattle.iob_base.specs.Layout.{Layout}
use Rattle.io_model.specs.Answered.{is_answered}
use Rattle.io_model.specs.Journals.{IsLawfulJournal}
use Rattle.io_model.specs.Lists.{numbered}
use Rattle.io_model.specs.Parts.{meets}
use Rattle.io_model.specs.Ranges.{Ranged, ranged_calls}
use Rattle.io_model.specs.declared.file.FileSpec.{FileSpec}
use Rattle.io_model.specs.declared.run.CallEnd.{CallEnd}
use Rattle.io_model.specs.declared.run.Run.{Run}
use Rattle.io_model.specs.declared.script.Call.{Call}
use Rattle.io_model.specs.declared.script.Script.{Script}
use Rattle.turn_cell.specs.Stakes.{total}
use Rattle.range_core.specs.EntryCounts.{one_where}
use Rattle.call_traces.specs.Runs.{IsRun}
use Rattle.call_traces.specs.SeatTraces.{all_calls, calls_in}
use Rattle.call_traces.specs.Traces.{Traced}

-- the phase and the caller of a call of a script
abbrev pub phase_in : Option Call → ℕ
phase_in None = 0
phase_in (Some call) = call.phase

abbrev pub caller_in : Option Call → ℕ
caller_in None = 0
caller_in (Some call) = call.caller

module _ (script : Script) where
  -- the same of the call of a script that has the number of a call of a trace
  abbrev pub phase_of : Traced → ℕ
  phase_of c = phase_in (numbered script.calls c.number)

  abbrev pub caller_of : Traced → ℕ
  caller_of c = caller_in (numbered script.calls c.number)

  -- each call has a lower number than the later ones
  abbrev pub AreRising : List Traced → Type 0
  AreRising [] = Unit {0}
  AreRising (c ∷ calls) = All (λ d. c.number < d.number) calls × AreRising calls

  -- All calls are of one caller, in the order of the script
  pub record AreOfOne (calls : List Traced) : Type 0 where
    pub caller : ℕ
    pub are : All (λ c. caller_of c ≡ caller) calls
    pub rising : AreRising calls

  abbrev pub HaveOtherCallers : List Traced → List Traced → Type 0
  HaveOtherCallers calls others = All (λ c. All (λ d. caller_of c ≡ caller_of d → ⊥) others) calls

  -- each list has the calls of one caller, which are none of another list's
  abbrev pub AreCallers : List (List Traced) → Type 0
  AreCallers [] = Unit {0}
  AreCallers (calls ∷ callers) = AreOfOne calls × HaveOtherCallers calls (calls_in callers) × AreCallers callers

  -- a call is of an earlier phase than another, and has a lower number
  pub record IsEarlier (c later : Traced) : Type 0 where
    pub phase : phase_of c < phase_of later
    pub number : c.number < later.number

  -- The callers made the calls of one phase, which is earlier than those of others
  pub record IsPhaseBefore (callers : List (List Traced)) (others : List Traced) : Type 0 where
    pub phase : ℕ
    pub are : All (λ c. phase_of c ≡ phase) (calls_in callers)
    pub callers_are : AreCallers callers
    pub earlier : All (λ c. All (IsEarlier c) others) (calls_in callers)

  abbrev pub ArePhases : List (List (List Traced)) → Type 0
  ArePhases [] = Unit {0}
  ArePhases (callers ∷ phases) = IsPhaseBefore callers (all_calls phases) × ArePhases phases

-- 1 for a call of this number
abbrev pub is_call : ℕ → Traced → ℕ
is_call n c = one_where (c.number == n)

module _ (script : Script) (makers : List ℕ) (run : Run) where
  -- A call of a trace is the call of the script that has its number: it was made by the pass of its maker, at its file, and answered the blocks that its reply speaks of
  pub record IsCallOf (c : Traced) : Type 0 where
    pub call : Ranged
    pub end : CallEnd
    pub call_is : numbered (ranged_calls script run) c.number ≡ Some call
    pub end_is : numbered run.calls c.number ≡ Some end
    pub maker : numbered makers c.number ≡ Some c.before.caller
    pub file_is : c.file ≡ call.call.file
    pub answered : (b : ℕ) → is_answered script.geometry.block_size call end.answer.reply b ≡ meets script.geometry.block_size c.answered b

  -- a call that is none of the script's answers no block
  abbrev pub AnswersNothing : Traced → Type 0
  AnswersNothing c = (b : ℕ) → meets script.geometry.block_size c.answered b ≡ false

  -- The phases of a trace are those of the script, with each call once, and what closed the files after them answered nothing
  pub record TracesScript (phases : List (List (List Traced))) (closing : List Traced) : Type 0 where
    pub calls : All IsCallOf (all_calls phases)
    pub once : (n : ℕ) → 0 < n → n ≤ length script.calls → total (is_call n) (all_calls phases) ≡ 1
    pub ends : length run.calls ≡ length script.calls
    pub phases_are : ArePhases script phases
    pub closes : All AnswersNothing closing

-- A run whose trace is that of a script has lawful journals: at each block every call of the script that answered it, once, of its maker, in the order of its caller and of the phases
abbrev pub RunsHaveLawfulJournals : Type 0
RunsHaveLawfulJournals = (geometry : Layout) (cookie : ℕ) (sectors : List DeviceBlock) (files : List FileSpec) (script : Script) (makers : List ℕ) (run : Run) (phases : List (List (List Traced))) (closing : List Traced)
    → (did : IsRun geometry cookie sectors files (phases ++ (closing ∷ []) ∷ []) run.ends) → did.mount.geometry.block_size ≡ script.geometry.block_size → TracesScript script makers run phases closing → IsLawfulJournal script makers run
