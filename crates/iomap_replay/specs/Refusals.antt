use Rattle.std.specs.Prelude.{◌≡◌, ◌⊎◌, ℕ, false, List, Some, codes, length}
use Rattle.io_model.specs.declared.script.Script.{Script}
use Rattle.io_script.specs.CheckText.{refusal_text, check_text}
use Rattle.io_script.specs.Checking.{IsChecked}
use Rattle.io_script.specs.Grammar.{IsScript, refusal_of}
use Rattle.io_script.specs.declared.read.cause.Cause.{Cause}
use Rattle.io_script.specs.declared.read.script.Checked.{Checked}
use Rattle.iomap_replay.specs.Form.{is_built}

-- the line for a script of a form that is not built
abbrev pub NOT_YET : List ℕ
NOT_YET = codes "refused line 0 cause 14 NotYet\n"

-- a text is no script, and this is the line that says where and why
pub record IsNoScript (text written : List ℕ) : Type 0 where
  pub line : ℕ
  pub cause : Cause
  pub refused : refusal_of text ≡ Some (line, cause)
  pub says : written ≡ refusal_text line cause

-- a text is a script of a form that is not built, and this is the line that says so
pub record IsNotBuilt (text written : List ℕ) : Type 0 where
  pub script : Script
  pub is_script : IsScript text script
  pub not_built : is_built script ≡ false
  pub says : written ≡ NOT_YET

-- the line by which a replay refuses a text
abbrev pub IsRefusal : List ℕ → List ℕ → Type 0
IsRefusal text written = IsNoScript text written ⊎ IsNotBuilt text written

-- a text is a script, and these lines tell how many files, phases and calls it has
pub record IsCounted (text written : List ℕ) : Type 0 where
  pub checked : Checked
  pub is : IsChecked text checked
  pub says : written ≡ check_text (length checked.script.files) checked.phases (length checked.script.calls)
