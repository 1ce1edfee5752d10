use Rattle.std.specs.Prelude.{ℕ, Bool, true, false, ◌-◌, ◌*◌, ◌+◌, List, ◌++◌, Option, Some, None, length, take, drop, if◌then◌else◌}
use Rattle.std.specs.List.{fold}
use Rattle.iob_base.specs.declared.stamp.Mark.{Mark}
use Rattle.iob_base.specs.declared.stamp.Mark.TheVariants.{Done, Landed, Missed}
use Rattle.iob_base.specs.declared.stamp.Stamp.{Stamp}
use Rattle.io_model.specs.Calls.{offset_of, bytes_of, is_write, is_zeroing}
use Rattle.io_model.specs.Contents.{Content, zeros, opening_content}
use Rattle.io_model.specs.Lists.{bytes_between, numbered}
use Rattle.io_model.specs.Parts.{part_in, span_length}
use Rattle.io_model.specs.Ranges.{Ranged}
use Rattle.io_model.specs.declared.script.Script.{Script}

-- a content with other bytes at a place in it
abbrev pub overlay : ℕ → List ℕ → Content → Content
overlay place bytes content = take place content ++ (bytes ++ drop (place + length bytes) content)

-- the call's bytes reached the block: it was done, or failed after they had landed
abbrev pub has_landed : Mark → Bool
has_landed Done = true
has_landed Landed = true
has_landed Missed = false

-- what a call that had its effect leaves of a block's content: its bytes on its part, or zeros there
abbrev pub content_after : ℕ → Ranged → ℕ → Content → Content
content_after size r b content =
    let part = part_in size r.range b in
    let place = part.from - b * size in
    if is_write r.call.verb then overlay place (bytes_between (part.from - offset_of r.call.verb) (part.to - offset_of r.call.verb) (bytes_of r.call.verb)) content
    else (if is_zeroing r.call.verb then overlay place (zeros (span_length part)) content else content)

-- the effect of a stamp on a block: that of its call, where the mark says that it took place, and none of a number that names no call
abbrev pub effect_of : ℕ → ℕ → Mark → Option Ranged → Content → Content
effect_of size b mark None content = content
effect_of size b mark (Some r) content = if has_landed mark then content_after size r b content else content

abbrev pub effect : ℕ → List Ranged → ℕ → Content → Stamp → Content
effect size calls b content stamp = effect_of size b stamp.mark (numbered calls stamp.call) content

-- the content of a block after a list of stamps: their effects, one after the other, on its opening content
abbrev pub replayed : Script → List Ranged → ℕ → ℕ → List Stamp → Content
replayed script calls f b stamps = fold (effect script.geometry.block_size calls b) (opening_content script f b) stamps
