use Rattle.std.specs.Prelude.{ℕ, ◌%◌, List, codes, decimal, length}
use Rattle.std.specs.List.{count_by, sum, sum_by}
use Rattle.io_model.specs.RunText.{is_error}
use Rattle.io_model.specs.Text.{◌⋅◌}
use Rattle.io_model.specs.declared.file.BlockEnd.{BlockEnd}
use Rattle.io_model.specs.declared.file.FileEnd.{FileEnd}
use Rattle.io_model.specs.declared.run.CallEnd.{CallEnd}
use Rattle.io_model.specs.declared.run.Run.{Run}

-- how many calls were answered by an error
abbrev pub errors_in : List CallEnd → ℕ
errors_in ends = count_by (λ end. is_error end.answer.reply) ends

-- how many bytes all reads gave, and the sum of these bytes
abbrev pub bytes_in : List CallEnd → ℕ
bytes_in ends = sum_by (λ end. length end.got) ends

abbrev pub sum_in : List CallEnd → ℕ
sum_in ends = sum_by (λ end. sum end.got) ends

-- how many stamps the journals of blocks have, and those of files
abbrev pub stamps_on : List BlockEnd → ℕ
stamps_on blocks = sum_by (λ block. length block.journal) blocks

abbrev pub stamps_in : List FileEnd → ℕ
stamps_in files = sum_by (λ file. stamps_on file.blocks) files

-- the summary of a run of the script that a number gives
abbrev pub summary_text : ℕ → Run → List ℕ
summary_text seed run =
    codes "gen " ⋅ decimal seed
    ⋅ codes "\ncalls " ⋅ decimal (length run.calls) ⋅ codes " errors " ⋅ decimal (errors_in run.calls)
    ⋅ codes "\nread " ⋅ decimal (bytes_in run.calls) ⋅ codes " sum " ⋅ decimal (sum_in run.calls % 18446744073709551616)
    ⋅ codes "\nstamps " ⋅ decimal (stamps_in run.ends.files)
    ⋅ codes "\nfree " ⋅ decimal (length run.ends.free)
    ⋅ codes "\nend\n"
