use Rattle.std.specs.Prelude.{ℕ, ◌+◌, ◌-◌, ◌/◌, List, [], map, IsTrue, if◌then◌else◌}
use Rattle.std.specs.List.{sum, range_with_len}
use Rattle.std.specs.Str.{bytes_eq}
use Rattle.io_model.specs.Calls.{is_direct, lengths_of}
use Rattle.io_model.specs.Lists.{both_from}
use Rattle.io_model.specs.declared.run.Run.{Run}
use Rattle.io_model.specs.declared.script.Call.{Call}
use Rattle.io_model.specs.declared.script.Script.{Script}

-- how many pages a call's segments need: each segment has pages of its own
abbrev pub page_count : ℕ → Call → ℕ
page_count size call = sum (map (λ n. (n + (size - 1)) / size) (lengths_of call.verb))

-- the user pages of a direct call, in order; every other call has none
abbrev pub own_pages : ℕ → Call → List ℕ
own_pages size call = if is_direct call.verb then range_with_len call.first_page (page_count size call) else []

-- each user page of a direct call came back once, in its place
abbrev pub PagesComeBack : Script → Run → Type 0
PagesComeBack script run =
    IsTrue (both_from (λ n call end. bytes_eq end.pages (own_pages script.geometry.block_size call)) 1 script.calls run.calls)
