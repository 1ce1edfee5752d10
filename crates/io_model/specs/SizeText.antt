use Rattle.std.specs.Prelude.{ℕ, List, [], ◌∷◌, Option, Some, None, codes, decimal}
use Rattle.io_model.specs.Text.{◌⋅◌}
use Rattle.io_model.specs.declared.file.SizeMark.{SizeMark}
use Rattle.io_model.specs.declared.file.SizeMark.TheVariants.{See, Grow, Cut}
use Rattle.io_model.specs.declared.file.SizeStamp.{SizeStamp}

-- what a call did at the size of its file
abbrev pub size_mark_text : SizeMark → List ℕ → List ℕ
size_mark_text (See found) rest = codes "S" ⋅ decimal found ⋅ rest
size_mark_text (Grow to) rest = codes "G" ⋅ decimal to ⋅ rest
size_mark_text (Cut to) rest = codes "C" ⋅ decimal to ⋅ rest

abbrev pub size_stamps_text : List SizeStamp → List ℕ → List ℕ
size_stamps_text [] rest = rest
size_stamps_text (st ∷ sts) rest = codes " " ⋅ decimal st.call ⋅ size_mark_text st.mark (size_stamps_text sts rest)

-- a line of what calls did at the size of a file, where there is any
abbrev pub sizes_line : List ℕ → List SizeStamp → List ℕ → List ℕ
sizes_line name [] rest = rest
sizes_line name (st ∷ sts) rest = codes "sizes " ⋅ name ⋅ size_stamps_text (st ∷ sts) (codes "\n" ⋅ rest)

abbrev pub size_line : List ℕ → ℕ → List ℕ → List ℕ
size_line name size rest = codes "size " ⋅ name ⋅ codes " " ⋅ decimal size ⋅ codes "\n" ⋅ rest

-- the lines of a file's size, where it has one
abbrev pub size_lines : List ℕ → Option ℕ → List SizeStamp → List ℕ → List ℕ
size_lines name None stamps rest = rest
size_lines name (Some size) stamps rest = sizes_line name stamps (size_line name size rest)
