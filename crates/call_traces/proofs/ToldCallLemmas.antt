-- The entries of each call change the blocks as its stamps say.
use Rattle.std.proofs.Common.{◌≡◌, ℕ, ◌-◌, ◌*◌, ◌/◌, ◌<◌, Bool, true, false, ◌==◌, if◌then◌else◌, inl, inr, List, length, get_or, Option, Some, None, refl, sym, ap, ◌∙◌, subst}
use Rattle.std.specs.Prelude.{All, IsTrue}
use Rattle.std.proofs.lemmas.Bool.{and_parts}
use Rattle.iob_base.specs.declared.answer.Answer.{Answer}
use Rattle.iob_base.specs.declared.stamp.FileId.{FileId}
use Rattle.iob_base.specs.declared.stamp.Mode.{Mode}
use Rattle.iob_base.specs.declared.stamp.Tag.{Tag}
use Rattle.io_model.specs.Answered.{answered_in}
use Rattle.io_model.specs.Calls.{bytes_of, is_write, is_zeroing, offset_of}
use Rattle.io_model.specs.Contents.{Content, zeros}
use Rattle.io_model.specs.Effects as model
use Rattle.io_model.specs.Lawful.{is_lawful_reply}
use Rattle.io_model.specs.Lists.{bytes_between, numbered}
use Rattle.io_model.specs.Parts.{Span, blocks_met, meets, part_in, range_in, span_length}
use Rattle.io_model.specs.Ranges.{Ranged, cut_range}
use Rattle.io_model.specs.declared.script.Verb.TheVariants.{Punch, Pwrite, Trunc, Zero}
use Rattle.fault_device.specs.LaneView.{LaneView}
use Rattle.range_core.specs.BlockContents.{content_after}
use Rattle.range_core.specs.EntryStamps.{stamps_in}
use Rattle.range_core.specs.Stamps.{done_by, stamps_at, stamps_from}
use Rattle.range_core.specs.declared.entry.Entry.{Entry}
use Rattle.range_core.specs.declared.entry.Event.{Event}
use Rattle.range_core.specs.declared.entry.Event.TheVariants.{Sample, Reserve, Unreserve, Fetch, LendRead, FillBack, Store, StoreZeros, Wipe, DaxZero}
use Rattle.mount_parts.specs.MountView.{MountView, file_at}
use Rattle.mini_fs.specs.Acts.{own_entries}
use Rattle.mini_fs.specs.CallActs.{is_tag, tag_of}
use Rattle.mini_fs.specs.Mappings.{file_end}
use Rattle.mini_fs.specs.PassView.{PassView}
use Rattle.call_parts.specs.Parts.{stamps_over}
use Rattle.buffered_read.specs.Preads.{may_read}
use Rattle.buffered_write.specs.Clears.{may_clear}
use Rattle.buffered_write.specs.Pwrites.{has_room, may_write}
use Rattle.buffered_write.specs.Truncates.{cut_span}
use Rattle.buffered_write.specs.Zeroes.{may_zero}
use Rattle.call_traces.specs.Changes.{ChangesAsTold}
use Rattle.call_traces.specs.ToldCalls.{AllocIsTold, PunchIsTold, ReadIsTold, TruncIsTold, UnstampedAreTold, WriteIsTold, ZeroIsTold}
use Rattle.call_traces.proofs.BlockStampLemmas.{IsStampedBy, one_if, one-stamped, span-stamps}
use Rattle.call_traces.proofs.CalledLemmas.{cut-told, punch-told, written-told, zero-told}
use Rattle.call_traces.proofs.LayingLemmas.{is_laying}
use Rattle.call_traces.proofs.ToldLemmas.{none-told, one-told, unstamped-told}

pub unstamped-are-told : UnstampedAreTold
unstamped-are-told size some es none calls b = none-told size some calls b es (ap (stamps_at b) none)

-- the events of a read change no content
read-keeps : (tag : Tag) (size b : ℕ) (e : Entry) (content : Content) → may_read tag e.event ≡ true → content_after size b content e ≡ content
read-keeps tag size b e content may = by e.event may
  where
    by : (event : Event) → may_read tag event ≡ true → content_after size b content (record e { event = event }) ≡ content
    by (Sample a0 a1) is = refl
    by (Fetch a0 a1 a2) is = refl
    by (LendRead a0 a1) is = refl
    by (FillBack a0 a1 a2 a3) is = refl
    by _ is = absurd (cc)

-- the events of a write lay bytes, those of zeros and of clearings lay zeros
write-lays : (tag : Tag) (event : Event) → may_write tag event ≡ true → is_laying event ≡ true
write-lays tag (Sample a0 a1) is = refl
write-lays tag (Reserve a0 a1) is = refl
write-lays tag (Unreserve a0 a1) is = refl
write-lays tag (LendRead a0 a1) is = refl
write-lays tag (FillBack a0 a1 a2 a3) is = refl
write-lays tag (Store by seen from to bytes) is = (and_parts (is_tag by tag) (length bytes == to - from) is).1
write-lays tag _ is = absurd (cc)

zero-lays : (mode : Mode) (tag : Tag) (event : Event) → may_zero mode tag event ≡ true → is_laying event ≡ true
zero-lays mode tag (Sample a0 a1) is = refl
zero-lays mode tag (LendRead a0 a1) is = refl
zero-lays mode tag (FillBack a0 a1 a2 a3) is = refl
zero-lays mode tag (StoreZeros a0 a1 a2 a3) is = refl
zero-lays mode tag (DaxZero a0 a1 a2 a3) is = refl
zero-lays mode tag _ is = absurd (cc)

clear-lays : (mode : Mode) (tag : Tag) (event : Event) → may_clear mode tag event ≡ true → is_laying event ≡ true
clear-lays mode tag (Wipe a0 a1 a2) is = refl
clear-lays mode tag (Sample a0 a1) is = refl
clear-lays mode tag (LendRead a0 a1) is = refl
clear-lays mode tag (FillBack a0 a1 a2 a3) is = refl
clear-lays mode tag (StoreZeros a0 a1 a2 a3) is = refl
clear-lays mode tag (DaxZero a0 a1 a2 a3) is = refl
clear-lays mode tag _ is = absurd (cc)

-- a read changes nothing
read-after : (size b : ℕ) (r : Ranged) (content : Content) → is_write r.call.verb ≡ false → is_zeroing r.call.verb ≡ false → model.content_after size r b content ≡ content
read-after size b r content writes clears =
    ap (λ t. if t then model.overlay (from - b * size) (bytes_between (from - offset_of r.call.verb) (to - offset_of r.call.verb) (bytes_of r.call.verb)) content else (if is_zeroing r.call.verb then model.overlay (from - b * size) (zeros (to - from)) content else content)) writes
    ∙ ap (λ t. if t then model.overlay (from - b * size) (zeros (to - from)) content else content) clears
  where
    from : ℕ
    from = (part_in size r.range b).from

    to : ℕ
    to = (part_in size r.range b).to

-- the entries of a read, which stamp each block of a span once
fetches-told : (size : ℕ) (some : 0 < size) (calls : List Ranged) (b n : ℕ) (r : Ranged) → numbered calls n ≡ Some r → is_write r.call.verb ≡ false → is_zeroing r.call.verb ≡ false → (by : Tag) → by.call ≡ n
    → (es : List Entry) (answered : Span) → All (λ e. IsTrue (may_read by e.event)) es → stamps_in size es ≡ stamps_from (answered.from / size) (blocks_met size answered) (done_by by) → All (ChangesAsTold size calls b) es
fetches-told size some calls b n r named writes clears by tag es answered may stamps = at (meets size answered b) refl
  where
    left : stamps_at b (stamps_in size es) ≡ one_if b (done_by by) (meets size answered b)
    left = ap (stamps_at b) stamps ∙ span-stamps b (done_by by) size answered some

    told : (e : Entry) → may_read by e.event ≡ true → IsStampedBy size b (done_by by) e → ChangesAsTold size calls b e
    told e reads (inl none) = unstamped-told size some calls b e none
    told e reads (inr one) = λ content whole. read-keeps by size b e content reads ∙ sym (one-told size some calls b n r named by tag e content one ∙ read-after size b r content writes clears)

    at : (t : Bool) → meets size answered b ≡ t → All (ChangesAsTold size calls b) es
    at false unmet = none-told size some calls b es (left ∙ ap (one_if b (done_by by)) unmet)
    at true met = let stamped = one-stamped size b (done_by by) es (left ∙ ap (one_if b (done_by by)) met) in λ k d lt. told (get_or es k d) (may k d lt) (stamped k d lt)

module _ (m : MountView) (file : FileId) (call off : ℕ) (before after : LaneView) (p q : PassView) (answer : Answer) where
  abbrev size : ℕ
  size = m.geometry.block_size

  abbrev by : Tag
  by = tag_of p call

  -- stamps of what was answered of one range are those of what was answered of the other, where they are the same
  moved-stamps : (es : List Entry) (range other : Span) → other ≡ range → stamps_in size es ≡ stamps_over size (answered_in size range false answer.reply) (done_by by)
      → stamps_in size es ≡ stamps_over size (answered_in size other false answer.reply) (done_by by)
  moved-stamps es range other same stamps = subst (λ s. stamps_in size es ≡ stamps_over size (answered_in size s false answer.reply) (done_by by)) (sym same) stamps

  pub read-told : ReadIsTold m file call off before after p q answer
  read-told iov later t some calls lengths is b =
      fetches-told size some calls b call is.ranged is.named (ap is_write is.verb_is) (ap is_zeroing is.verb_is) by refl (own_entries t.acts) _ t.did.made t.read.stamps

  pub write-told : WriteIsTold m file call off before after p q answer
  write-told iov later t some calls segments bytes is b =
      written-told size some calls b call is.call.ranged is.call.named by refl (own_entries t.acts) (λ k d lt. write-lays by (get_or (own_entries t.acts) k d).event (t.did.made k d lt)) off t.count t.fault
      (ap (λ (s : Span). s.from) is.range_is) t.stops answer.reply (moved-stamps (own_entries t.acts) (range_in (file_end m file) off (length iov.bytes)) is.call.ranged.range is.range_is t.stamps)
      (file_end m file) m.geometry.grain (file_at m file).blocks iov.bytes segments is.call.verb_is bytes t.laid t.reply
      (subst (λ s. is_lawful_reply m.geometry.grain size (file_at m file).blocks s true (Pwrite off segments) answer.reply ≡ true) (sym is.range_is) (t.lawful segments bytes))

  pub zero-is-told : ZeroIsTold m file call off before after p q answer
  zero-is-told asked t some calls is b =
      zero-told size some calls b call is.call.ranged is.call.named by refl (own_entries t.acts) (λ k d lt. zero-lays (file_at m file).mode by (get_or (own_entries t.acts) k d).event (t.did.made k d lt)) off t.count t.fault
      (ap (λ (s : Span). s.from) is.range_is) t.stops answer.reply (moved-stamps (own_entries t.acts) (range_in (file_end m file) off asked) is.call.ranged.range is.range_is t.stamps)
      (file_end m file) m.geometry.grain (file_at m file).blocks asked is.call.verb_is t.laid t.reply
      (subst (λ s. is_lawful_reply m.geometry.grain size (file_at m file).blocks s true (Zero off asked) answer.reply ≡ true) (sym is.range_is) t.lawful)

  pub punch-is-told : PunchIsTold m file call off before after p q answer
  punch-is-told asked t some calls is b =
      punch-told size some calls b call is.call.ranged is.call.named by refl (own_entries t.acts) (λ k d lt. clear-lays (file_at m file).mode by (get_or (own_entries t.acts) k d).event (t.did.made k d lt)) off t.count t.fault
      (ap (λ (s : Span). s.from) is.range_is) t.stops answer.reply (moved-stamps (own_entries t.acts) (range_in (file_end m file) off asked) is.call.ranged.range is.range_is t.stamps)
      (has_room (file_end m file) off asked) (span_length (range_in (file_end m file) off asked)) m.geometry.grain (file_at m file).blocks asked is.call.verb_is t.laid t.reply
      (subst (λ s. is_lawful_reply m.geometry.grain size (file_at m file).blocks s true (Punch off asked) answer.reply ≡ true) (sym is.range_is) t.lawful)

  pub alloc-told : AllocIsTold m file call off before after p q answer
  alloc-told asked t some calls b = unstamped-are-told size some (own_entries t.acts) t.stamps calls b

  cut-begins : (end : ℕ) (found : Option ℕ) → (cut_range size end off found).from ≡ off
  cut-begins end None = refl
  cut-begins end (Some n) = refl

  pub trunc-told : TruncIsTold m file call off before after p q answer
  trunc-told t some calls is b =
      cut-told size some calls b call is.call.ranged is.call.named by refl (own_entries t.acts) (λ k d lt. clear-lays (file_at m file).mode by (get_or (own_entries t.acts) k d).event (t.did.made k d lt)) off t.count t.fault
      (ap (λ (s : Span). s.from) is.range_is ∙ cut-begins (file_end m file) t.found) t.stops answer.reply (moved-stamps (own_entries t.acts) (cut_span m file off t.found) is.call.ranged.range is.range_is t.stamps)
      (file_end m file) m.geometry.grain (file_at m file).blocks is.call.verb_is t.laid t.reply
      (subst (λ s. is_lawful_reply m.geometry.grain size (file_at m file).blocks s true (Trunc off) answer.reply ≡ true) (sym is.range_is) t.lawful)
