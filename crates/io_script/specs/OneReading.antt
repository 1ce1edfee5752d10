use Rattle.std.specs.Prelude.{◌≡◌, ℕ, ◌==◌, Bool, not, List, length, IsTrue}
use Rattle.std.specs.List.{list_all}
use Rattle.std.specs.Str.{bytes_eq}
use Rattle.io_model.specs.Lists.{each_pair}
use Rattle.io_model.specs.RunText.{run_text}
use Rattle.io_model.specs.declared.run.Run.{Run}
use Rattle.io_model.specs.declared.script.Script.{Script}
use Rattle.io_script.specs.Grammar.{IsScript}
use Rattle.io_script.specs.Told.{SaysTheSame}

-- a byte of a name is no blank
abbrev pub is_name_byte : ℕ → Bool
is_name_byte c = not (c == 32)

-- each file of a script has a name, a word that no other file has, as in every script of the grammar
pub record NamesFiles (script : Script) : Type 0 where
  pub one_each : IsTrue (length script.names == length script.files)
  pub words : IsTrue (list_all (list_all is_name_byte) script.names)
  pub own : IsTrue (each_pair (λ name other. not (bytes_eq name other)) script.names)

-- if a text is a script in the grammar, then that script names its files
abbrev pub NamesFilesIfScript : List ℕ → Script → Type 0
NamesFilesIfScript text script = IsScript text script → NamesFiles script

-- a text has one reading: runs of a script that have the same text are the same in all that it tells
abbrev pub HasOneReading : Script → Bool → Run → Run → Type 0
HasOneReading script image one other = run_text script one image ≡ run_text script other image → SaysTheSame script image one other
