-- What entries do to the content of a block, and what the stamps say that they leave on it.
use Rattle.std.specs.Prelude.{◌≡◌, ℕ, not, List, length}
use Rattle.std.specs.List.{fold}
use Rattle.std.specs.Str.{bytes_eq}
use Rattle.io_model.specs.Contents.{Content}
use Rattle.io_model.specs.Effects.{effect}
use Rattle.io_model.specs.Ranges.{Ranged}
use Rattle.turn_cell.specs.Stakes.{total}
use Rattle.range_core.specs.BlockContents.{content_after, replayed}
use Rattle.range_core.specs.EntryCounts.{one_where}
use Rattle.range_core.specs.EntryStamps.{stamps_in, stamps_of}
use Rattle.range_core.specs.Stamps.{stamps_at}
use Rattle.range_core.specs.declared.entry.Entry.{Entry}

-- what the stamps that an entry left on a block say of its content: the effects of the calls that they name
abbrev pub told_by : ℕ → List Ranged → ℕ → Content → Entry → Content
told_by size calls b content e = fold (effect size calls b) content (stamps_at b (stamps_of size e))

-- an entry changes the content of a block as its stamps there say, and not at all where it left none
abbrev pub ChangesAsTold : ℕ → List Ranged → ℕ → Entry → Type 0
ChangesAsTold size calls b e = (content : Content) → length content ≡ size → content_after size b content e ≡ told_by size calls b content e

-- 1 for an entry that changes this content of a block in another way
abbrev pub untold : ℕ → List Ranged → ℕ → Content → Entry → ℕ
untold size calls b content e = one_where (not (bytes_eq (content_after size b content e) (told_by size calls b content e)))

-- Where no entry of a history changes a block in another way than its stamps there say, the history leaves of the block what the effects of all its stamps there leave, one after the other
abbrev pub StampsTellContent : Type 0
StampsTellContent = (size : ℕ) (calls : List Ranged) (b : ℕ) (history : List Entry) → ((content : Content) → length content ≡ size → total (untold size calls b content) history ≡ 0)
    → (opening : Content) → length opening ≡ size → replayed size b opening history ≡ fold (effect size calls b) opening (stamps_at b (stamps_in size history))
