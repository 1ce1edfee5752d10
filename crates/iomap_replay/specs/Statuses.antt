use Rattle.std.specs.Prelude.{◌≡◌, ℕ, Bool, true, false, List, [], Option, Some, IfSome}
use Rattle.fault_device.specs.Opening.{Opening}
use Rattle.io_model.specs.Causes.{AreCaused}
use Rattle.io_model.specs.Right.{RunIsRight}
use Rattle.io_model.specs.RunText.{run_text, has_error}
use Rattle.io_model.specs.declared.run.Run.{Run}
use Rattle.io_model.specs.declared.script.Script.{Script}
use Rattle.io_script.specs.Grammar.{IsScript}
use Rattle.iomap_replay.specs.Refusals.{IsNoScript, IsRefusal, IsCounted}
use Rattle.iomap_replay.specs.Starts.{starts_of}
use Rattle.iomap_replay.specs.Streams.{TookWhole, TookPrefix}
use Rattle.iomap_replay.specs.declared.ending.Ending.{Ending}
use Rattle.iomap_replay.specs.declared.ending.Ending.TheVariants.{Whole, Errors, Refused}

-- what was written is the text of a right run of the script that the text is, with the image where it
-- is asked for: its journals hold every answered call once and in order, and replaying them from the
-- opening contents gives every byte read and every final byte; and every fault has its cause in the
-- script or in the fates of the lanes as they were handed over
pub record Shows (text : List ℕ) (openings : List Opening) (image : Bool) (written : List ℕ) (failed : Bool) : Type 0 where
  pub script : Script
  pub makers : List ℕ
  pub run : Run
  pub is_script : IsScript text script
  pub right : RunIsRight script makers run
  pub causes : AreCaused (starts_of script openings) script run
  pub shown : written ≡ run_text script run image
  pub error : failed ≡ has_error run

-- what a replay of a text writes, with the image or without it, by how it ends
abbrev pub Replays : List Opening → Bool → List ℕ → Ending → List ℕ → Type 0
Replays openings image text Whole written = Shows text openings image written false
Replays openings image text Errors written = Shows text openings image written true
Replays openings image text Refused written = IsRefusal text written
Replays openings image text _ written = ⊥

-- what a check of a text writes, by how it ends
abbrev pub Checks : List ℕ → Ending → List ℕ → Type 0
Checks text Whole written = IsCounted text written
Checks text Refused written = IsNoScript text written
Checks text _ written = ⊥

-- where a source tells its bytes, they are this text, and nothing is left
abbrev pub WasWhole : Option (List ℕ) → List ℕ → Option (List ℕ) → Type 0
WasWhole before text now = IfSome before (λ bytes. (bytes ≡ text) × (now ≡ Some []))

-- where a source tells its bytes, they are this text
abbrev pub IsTextOf : Option (List ℕ) → List ℕ → Type 0
IsTextOf before text = IfSome before (λ bytes. bytes ≡ text)

-- a text that is refused may be too long to be read to its end
abbrev pub WasReadFor : Ending → Option (List ℕ) → List ℕ → Option (List ℕ) → Type 0
WasReadFor Refused before text now = IsTextOf before text
WasReadFor _ before text now = WasWhole before text now

-- the source's text was read, and the sink took the whole of what this ending says of it
pub record WroteWhole (Says : List ℕ → Ending → List ℕ → Type 0) (ending : Ending) (before now taken after : Option (List ℕ)) : Type 0 where
  pub text : List ℕ
  pub written : List ℕ
  pub read : WasReadFor ending before text now
  pub says : Says text ending written
  pub took : TookWhole taken written after

-- the sink failed after it had taken the beginning of what some ending says of the source's text
pub record WrotePart (Says : List ℕ → Ending → List ℕ → Type 0) (before taken after : Option (List ℕ)) : Type 0 where
  pub text : List ℕ
  pub written : List ℕ
  pub ending : Ending
  pub read : IsTextOf before text
  pub says : Says text ending written
  pub took : TookPrefix taken written after
