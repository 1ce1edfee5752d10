-- How few bios zeros and clearings send: in a file with a page cache none of their events makes a block cold, and in one without it they read nothing.
use Rattle.std.proofs.Common.{◌≡◌, ℕ, List, [], ◌∷◌, refl, arith}
use Rattle.std.specs.Prelude.{◌/◌, All, Bool, IsTrue, Option}
use Rattle.std.proofs.lemmas.Bool.{false≢true}
use Rattle.std.proofs.lemmas.List.Elements.{All-head, All-tail, All-weaker}
use Rattle.iob_base.specs.declared.answer.Fault.{Fault}
use Rattle.iob_base.specs.declared.stamp.FileId.{FileId}
use Rattle.iob_base.specs.declared.stamp.Mode.{Mode}
use Rattle.iob_base.specs.declared.stamp.Mode.TheVariants.{Cached, Dax}
use Rattle.iob_base.specs.declared.stamp.Tag.{Tag}
use Rattle.io_model.specs.Parts.{blocks_met, span}
use Rattle.range_core.specs.EntryCounts.{has_lent, one_where}
use Rattle.range_core.specs.Refusals.{covers_in_part}
use Rattle.range_core.specs.declared.entry.Entry.{Entry}
use Rattle.range_core.specs.declared.entry.Event.{Event}
use Rattle.range_core.specs.declared.entry.Event.TheVariants as event
use Rattle.range_core.specs.declared.entry.Outcome.{Outcome}
use Rattle.range_core.specs.declared.entry.Outcome.TheVariants as outcome
use Rattle.mount_parts.specs.MountView.{MountView, file_at}
use Rattle.mini_fs.specs.Acts.{Act, own_entries}
use Rattle.mini_fs.specs.Acts.Act.{Turn, SizeTurn, Busy, Open, Close, Take, Refused, Leave, Run, Note, Number}
use Rattle.mini_fs.specs.CallActs.{loans_in}
use Rattle.mini_fs.specs.PassView.{PassView}
use Rattle.call_parts.specs.Budgets.{IsLentAmong, LendsAmong, keeps_read}
use Rattle.buffered_write.specs.Clears.{may_clear}
use Rattle.buffered_write.specs.PartReads.{KeepsBudget, ReadsInPart}
use Rattle.buffered_write.specs.Zeroes.{may_zero}
use Rattle.buffered_write.proofs.ClearLemmas.{zero-clears}
use Rattle.buffered_write.proofs.PartReadLemmas.{budget-none, budget-of}

-- in the page cache a block that was read needs no read again
clear-keeps : (by : Tag) (e : Event) → IsTrue (may_clear Cached by e) → IsTrue (keeps_read e)
clear-keeps by (event.Sample block most) is = refl
clear-keeps by (event.StoreZeros tag seen from to) is = refl
clear-keeps by (event.Wipe tag block blocks) is = refl
clear-keeps by (event.LendRead block most) is = refl
clear-keeps by (event.FillBack ticket block blocks done) is = refl
clear-keeps by e is = absurd (false≢true is)

module _ (m : MountView) (file : FileId) (so : ℕ → Bool) (low n : ℕ) (by : Tag) where
  -- and without one none is lent
  lends-none : (stripe : ℕ) (e : Event) (o : Outcome) → IsTrue (may_clear Dax by e) → IsLentAmong m file so low n stripe e o → one_where (has_lent o) ≡ 0
  lends-none stripe (event.LendRead block most) o is among = absurd (false≢true is)
  lends-none stripe e (outcome.Lending ticket blocks) is among = absurd among
  lends-none stripe e o is among = refl

  dax-lends : (acts : List Act) → All (LendsAmong m file so low n) acts → All (λ (e : Entry). IsTrue (may_clear Dax by e.event)) (own_entries acts) → loans_in acts ≡ 0
  dax-lends [] among made = refl
  dax-lends (Turn stripe others own ∷ acts) among made =
      let one = lends-none stripe own.event own.outcome (All-head (λ (e : Entry). IsTrue (may_clear Dax by e.event)) own (own_entries acts) made) (All-head (LendsAmong m file so low n) (Turn stripe others own) acts among) in
      let rest = dax-lends acts (All-tail (LendsAmong m file so low n) (Turn stripe others own) acts among) (All-tail (λ (e : Entry). IsTrue (may_clear Dax by e.event)) own (own_entries acts) made) in
      omega (arith, one, rest)
  dax-lends (SizeTurn cell others own ∷ acts) among made = dax-lends acts (All-tail (LendsAmong m file so low n) (SizeTurn cell others own) acts among) made
  dax-lends (Busy stripe word ∷ acts) among made = dax-lends acts (All-tail (LendsAmong m file so low n) (Busy stripe word) acts among) made
  dax-lends (Open stripe ∷ acts) among made = dax-lends acts (All-tail (LendsAmong m file so low n) (Open stripe) acts among) made
  dax-lends (Close stripe ∷ acts) among made = dax-lends acts (All-tail (LendsAmong m file so low n) (Close stripe) acts among) made
  dax-lends (Take f c was now ∷ acts) among made = dax-lends acts (All-tail (LendsAmong m file so low n) (Take f c was now) acts among) made
  dax-lends (Refused f c was now ∷ acts) among made = dax-lends acts (All-tail (LendsAmong m file so low n) (Refused f c was now) acts among) made
  dax-lends (Leave f c was now ∷ acts) among made = dax-lends acts (All-tail (LendsAmong m file so low n) (Leave f c was now) acts among) made
  dax-lends (Run bios ∷ acts) among made = dax-lends acts (All-tail (LendsAmong m file so low n) (Run bios) acts among) made
  dax-lends (Note begun ∷ acts) among made = dax-lends acts (All-tail (LendsAmong m file so low n) (Note begun) acts among) made
  dax-lends (Number call ∷ acts) among made = dax-lends acts (All-tail (LendsAmong m file so low n) (Number call) acts among) made

module _ (m : MountView) (file : FileId) (by : Tag) (from to : ℕ) (fault : Option Fault) (p : PassView) (acts : List Act) (few : ReadsInPart m file from to fault acts) where
  -- a clearing keeps its budget in a file of any mode
  pub clear-budget : All (λ (e : Entry). IsTrue (may_clear (file_at m file).mode by e.event)) (own_entries acts) → KeepsBudget m file from to p acts
  clear-budget made = at (file_at m file).mode made
    where
      at : (mode : Mode) → All (λ (e : Entry). IsTrue (may_clear mode by e.event)) (own_entries acts) → KeepsBudget m file from to p acts
      at Cached made = budget-of m file from to fault p acts few (All-weaker (λ (e : Entry). IsTrue (may_clear Cached by e.event)) (λ (e : Entry). IsTrue (keeps_read e.event)) (λ e is. clear-keeps by e.event is) (own_entries acts) made)
      at Dax made =
          let size = m.geometry.block_size in
          budget-none m file from to p acts (dax-lends m file (covers_in_part size from to) (from / size) (blocks_met size (span from to)) by acts few.among made)

  -- the same of zeros
  zero-made : All (λ (e : Entry). IsTrue (may_zero (file_at m file).mode by e.event)) (own_entries acts) → All (λ (e : Entry). IsTrue (may_clear (file_at m file).mode by e.event)) (own_entries acts)
  zero-made made = All-weaker (λ (e : Entry). IsTrue (may_zero (file_at m file).mode by e.event)) (λ (e : Entry). IsTrue (may_clear (file_at m file).mode by e.event)) (λ e is. zero-clears (file_at m file).mode by e.event is) (own_entries acts) made

  pub zero-budget : All (λ (e : Entry). IsTrue (may_zero (file_at m file).mode by e.event)) (own_entries acts) → KeepsBudget m file from to p acts
  zero-budget made = clear-budget (zero-made made)
