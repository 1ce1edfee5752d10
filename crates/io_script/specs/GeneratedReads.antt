use Rattle.std.specs.Prelude.{ℕ, not, ◌==◌, ◌+◌, ◌/◌, ◌%◌, List, [], ◌∷◌, map, codes, decimal, slice_index, if◌then◌else◌}
use Rattle.std.specs.List.{sum_by, take_while}
use Rattle.iob_base.specs.declared.stamp.Mark.TheVariants.{Done}
use Rattle.iob_base.specs.declared.stamp.Stamp.{Stamp}
use Rattle.io_model.specs.Calls.{asked_of, is_read, offset_of}
use Rattle.io_model.specs.Contents.{Content}
use Rattle.io_model.specs.Effects.{replayed}
use Rattle.io_model.specs.Text.{◌⋅◌}
use Rattle.io_model.specs.declared.script.Call.{Call}
use Rattle.io_script.specs.Generated.{generated}
use Rattle.io_script.specs.GeneratedJournal.{asking, generated_journal, generated_stamps, sum_over}

-- the stamp of a call that was done
abbrev pub done : ℕ → Stamp
done n = record { caller = 0; call = n; mark = Done }

-- the content of a block before a call: what the calls of its journal before that one leave there; proofs open it where they need it
unfoldable pub content_before : ℕ → ℕ → ℕ → Content
content_before seed n b = replayed (generated seed) (asking (generated seed).calls) 0 b (map done (take_while (λ m. not (m == n)) (generated_journal seed b)))

-- the byte at a place of the file before a call
abbrev pub byte_before : ℕ → ℕ → ℕ → ℕ
byte_before seed n place = slice_index (content_before seed n (place / 512)) (place % 512)

-- how many bytes a call reads, and their sum
abbrev pub bytes_by : Call → ℕ
bytes_by call = if is_read call.verb then asked_of call.verb else 0

abbrev pub sum_by_call : ℕ → ℕ → Call → ℕ
sum_by_call seed n call = if is_read call.verb then sum_over (λ i. byte_before seed n (offset_of call.verb + i)) 0 (asked_of call.verb) else 0

-- a sum over calls beside their numbers, the first of which is n
abbrev pub sum_numbered : (ℕ → Call → ℕ) → ℕ → List Call → ℕ
sum_numbered f n [] = 0
sum_numbered f n (call ∷ calls) = f n call + sum_numbered f (n + 1) calls

abbrev pub generated_bytes : ℕ → ℕ
generated_bytes seed = sum_by bytes_by (generated seed).calls

abbrev pub generated_sum : ℕ → ℕ
generated_sum seed = sum_numbered (sum_by_call seed) 1 (generated seed).calls

-- the summary of a run of the script of a number in which every call did all that it was asked, and which leaves so many blocks free
abbrev pub known_summary : ℕ → ℕ → List ℕ
known_summary seed free =
    codes "gen " ⋅ decimal seed
    ⋅ codes "\ncalls " ⋅ decimal 2048 ⋅ codes " errors " ⋅ decimal 0
    ⋅ codes "\nread " ⋅ decimal (generated_bytes seed) ⋅ codes " sum " ⋅ decimal (generated_sum seed % 18446744073709551616)
    ⋅ codes "\nstamps " ⋅ decimal (generated_stamps seed)
    ⋅ codes "\nfree " ⋅ decimal free
    ⋅ codes "\nend\n"
