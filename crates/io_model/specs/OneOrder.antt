use Rattle.std.specs.Prelude.{ℕ, Bool, not, ◌&&◌, ◌||◌, ◌==◌, nat_le, ◌+◌, List, [], ◌∷◌, map, IsTrue, if◌then◌else◌}
use Rattle.std.specs.Str.{bytes_eq}
use Rattle.iob_base.specs.declared.stamp.Stamp.{Stamp}
use Rattle.io_model.specs.Answered.{is_answered}
use Rattle.io_model.specs.Calls.{is_data_call}
use Rattle.io_model.specs.Journals.{each_block}
use Rattle.io_model.specs.Lists.{each_pair}
use Rattle.io_model.specs.Parts.{meets}
use Rattle.io_model.specs.Ranges.{Ranged, ranged_calls}
use Rattle.io_model.specs.declared.run.CallEnd.{CallEnd}
use Rattle.io_model.specs.declared.run.Run.{Run}
use Rattle.io_model.specs.declared.script.Call.{Call}
use Rattle.io_model.specs.declared.script.Script.{Script}

-- the calls stand in the order of their phases
abbrev pub phases_rise : List Call → Bool
phases_rise calls = each_pair (λ call later. nat_le call.phase later.phase) calls

-- a data call touches this block of this file
abbrev pub touches : ℕ → ℕ → ℕ → Ranged → Bool
touches size f b r = is_data_call r.call.verb && (r.call.file.0 == f && meets size r.range b)

-- two calls of one phase that touch a block are those of one caller
abbrev pub stay_apart : ℕ → ℕ → ℕ → Ranged → Ranged → Bool
stay_apart size f b r s = not (r.call.phase == s.call.phase && (touches size f b r && touches size f b s)) || r.call.caller == s.call.caller

-- no two callers of a phase meet in a block
abbrev pub callers_stay_apart : Script → Run → Bool
callers_stay_apart script run = each_block (λ f b block. each_pair (stay_apart script.geometry.block_size f b) (ranged_calls script run)) run.ends.files

-- the places where the items of two lists pass a test, the first of which is n
abbrev pub places_where : {A B : Type 0} → (A → B → Bool) → ℕ → List A → List B → List ℕ
places_where test n [] ys = []
places_where test n (x ∷ xs) [] = []
places_where test n (x ∷ xs) (y ∷ ys) = if test x y then n ∷ places_where test (n + 1) xs ys else places_where test (n + 1) xs ys

-- a call with its end has answered this block of this file
abbrev pub has_answered : ℕ → ℕ → ℕ → Ranged → CallEnd → Bool
has_answered size f b r end = r.call.file.0 == f && is_answered size r end.answer.reply b

-- the numbers of the calls that answered a block, in the order of the script
abbrev pub answered_in_order : Script → Run → ℕ → ℕ → List ℕ
answered_in_order script run f b = places_where (has_answered script.geometry.block_size f b) 1 (ranged_calls script run) run.calls

-- the numbers of the calls whose stamps these are
abbrev pub calls_of : List Stamp → List ℕ
calls_of stamps = map (λ st. st.call) stamps

-- the journal of each block is the list of the calls that answered it, in the order of the script
abbrev pub IsInScriptOrder : Script → Run → Type 0
IsInScriptOrder script run = IsTrue (each_block (λ f b block. bytes_eq (calls_of block.journal) (answered_in_order script run f b)) run.ends.files)

-- a run of a script that leaves its journals one order: phases stand in order, and callers of a phase stay apart
pub record HasOneOrder (script : Script) (run : Run) : Type 0 where
  pub phases : IsTrue (phases_rise script.calls)
  pub apart : IsTrue (callers_stay_apart script run)
