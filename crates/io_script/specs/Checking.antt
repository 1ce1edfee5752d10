use Rattle.std.specs.Prelude.{◌≡◌, ℕ, List}
use Rattle.io_script.specs.Grammar.{IsScript, kept_lines, so_far}
use Rattle.io_script.specs.declared.read.script.Checked.{Checked}

-- a text in the grammar, with the script that it is and the number of its phase lines
pub record IsChecked (text : List ℕ) (checked : Checked) : Type 0 where
  pub script : IsScript text checked.script
  pub phases : checked.phases ≡ (so_far (kept_lines text)).phases
