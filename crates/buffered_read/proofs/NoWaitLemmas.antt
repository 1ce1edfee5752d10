-- What a read that does not wait tells of all its acts.
use Rattle.std.proofs.Common.{◌≡◌, ℕ, ◌+◌, ◌-◌, ◌<◌, ◌≤◌, ◌++◌, ◌∷◌, [], List, min, sum, Bool, true, false, Some, None, length, refl, sym, ap, ◌∙◌, subst, arith, append-nil}
use Rattle.std.specs.Prelude.{◌^◌, IfNone, IfSome, IsTrue, Option, slice_get}
use Rattle.std.proofs.lemmas.List.Elements.{All-nil, All-cons}
use Rattle.std.proofs.lemmas.Option.{none-some}
use Rattle.iob_base.specs.declared.answer.Answer.{Answer}
use Rattle.iob_base.specs.declared.answer.Fault.{Fault}
use Rattle.iob_base.specs.Geometry.{is_block_size, is_folio_blocks}
use Rattle.iob_base.specs.Layout.{Layout}
use Rattle.iob_base.specs.declared.stamp.FileId.{FileId}
use Rattle.iob_base.specs.declared.stamp.Tag.{Tag}
use Rattle.io_model.specs.Answered.{answered_in}
use Rattle.io_model.specs.Lawful.{is_lawful_reply, may_meet}
use Rattle.io_model.specs.Parts.{range_in, span, span_length}
use Rattle.io_model.specs.declared.script.Verb.TheVariants.{Pread}
use Rattle.iov_iter.specs.IovView.{IovView, written_on}
use Rattle.turn_cell.specs.Views.{CellView, SeatView}
use Rattle.range_core.specs.EntryCounts.{has_lent, lendings, one_where}
use Rattle.range_core.specs.EntryStamps.{stamps_by, stamps_in, stamps_of}
use Rattle.range_core.specs.RangeView.{RangeView}
use Rattle.range_core.specs.Stamps.{done_by}
use Rattle.range_core.specs.declared.entry.Entry.{Entry}
use Rattle.range_core.specs.declared.entry.Event.{Event}
use Rattle.range_core.specs.declared.entry.Outcome.{Outcome}
use Rattle.range_core.specs.declared.entry.Outcome.TheVariants as outcome
use Rattle.range_core.specs.declared.fault.EventFault.{EventFault}
use Rattle.range_core.specs.declared.fault.EventFault.TheVariants as refusal
use Rattle.mount_parts.specs.MountView.{MountView, file_at}
use Rattle.mini_fs.specs.Acts.{Act, Acted, Acts, own_entries}
use Rattle.mini_fs.specs.Acts.Act.{Turn, SizeTurn, Busy, Open, Close, Take, Refused, Leave, Run, Note, Number}
use Rattle.mini_fs.specs.CallActs.{CallActs, IsActAt, loans_in, lock_acts, size_acts, tag_of, with_call}
use Rattle.mini_fs.specs.Mappings.{file_end}
use Rattle.mini_fs.specs.PassView.{IsPassOf, PassView, share_at, share_in}
use Rattle.mini_fs.specs.Turns.{block_at}
use Rattle.mini_fs.proofs.ActLemmas.{acted-seat}
use Rattle.mini_fs.proofs.CallLemmas.{call-none, call-then, loans-append, lock_acts-append, own_entries-append, size_acts-append}
use Rattle.call_parts.specs.Parts.{part_end, part_fetch, read_to, stamps_over}
use Rattle.call_parts.specs.Reads.{bytes_given, bytes_of_act, bytes_read, given_in}
use Rattle.call_parts.specs.Replies.{read_reply}
use Rattle.buffered_read.specs.Tries.{EndsSo, Hinders, IsPartAt, KeepsPass, OnlyTurned, ReadParts, ReadsPart, TriedParts, TriesRead, hindrance, may_fetch}
use Rattle.call_parts.proofs.NumberLemmas.{answered-so, call-numbered, own-tag, stamps-append}
use Rattle.call_parts.proofs.PartLemmas.{IsPart, over-met, over-none, over-parts, part-is}
use Rattle.call_parts.proofs.ReadyLemmas.{some-blocks, some-bytes}
use Rattle.call_parts.proofs.ReplyLemmas.{lawful-read}
use Rattle.buffered_read.proofs.SoFarLemmas.{found-then, read-append, seat-there}

own-fetch : (g : Layout) (by : Tag) (to at : ℕ) (e : Event) → e ≡ part_fetch g by to at → IsTrue (may_fetch by e)
own-fetch g by to at e is = subst (λ x. IsTrue (may_fetch by x)) (sym is) (own-tag by)

-- an entry of a fetch lends nothing
lent-none : (e : Entry) (o : Outcome) → e.outcome ≡ o → has_lent o ≡ false → lendings e ≡ 0
lent-none e o is none = ap (λ x. one_where (has_lent x)) is ∙ ap one_where none

module _ (m : MountView) (file : FileId) (by : Tag) (to : ℕ) where
  call-turn : (at stripe : ℕ) (others : List Entry) (own : Entry) (o : Outcome) (p q : PassView) → IsPartAt m file by to at stripe own o → Acts (Turn stripe others own) p q → CallActs m file (may_fetch by) p q (Turn stripe others own ∷ [])
  call-turn at stripe others own o p q is did = record {
    acted = (q, did, refl);
    at_file = All-cons (IsActAt m file) (Turn stripe others own) [] (block_at m at, is.block, is.stripe_is) (All-nil (IsActAt m file));
    made = All-cons (λ (e : Entry). IsTrue (may_fetch by e.event)) own [] (own-fetch m.geometry by to at own.event is.event) (All-nil (λ (e : Entry). IsTrue (may_fetch by e.event)));
    closed = λ stripe. refl;
  }

  -- Acts that read parts, or hinder one: they are the call's own, at no lock and no size, and lend nothing
  pub record AreReads (p q : PassView) (acts : List Act) : Type 0 where
    pub did : CallActs m file (may_fetch by) p q acts
    pub class : lock_acts acts ≡ []
    pub sizes : size_acts acts ≡ []
    pub loans : loans_in acts ≡ 0

  reads-none : (p q : PassView) → q ≡ p → AreReads p q []
  reads-none p q is = record { did = subst (λ x. CallActs m file (may_fetch by) p x []) (sym is) (call-none m file (may_fetch by) p); class = refl; sizes = refl; loans = refl }

  pub reads-then : (p q r : PassView) (acts more : List Act) → AreReads p q acts → AreReads q r more → AreReads p r (acts ++ more)
  reads-then p q r acts more first second = record {
    did = call-then m file (may_fetch by) p q r acts more first.did second.did;
    class = lock_acts-append acts more ∙ ap (λ l. l ++ lock_acts more) first.class ∙ second.class;
    sizes = size_acts-append acts more ∙ ap (λ l. l ++ size_acts more) first.sizes ∙ second.sizes;
    loans = loans-append acts more ∙ ap (λ n. n + loans_in more) first.loans ∙ ap (λ n. 0 + n) second.loans;
  }

  reads-part : (at : ℕ) (a : Act) (p q : PassView) → ReadsPart m file by to at a → Acts a p q → AreReads p q (a ∷ [])
  reads-part at (Turn stripe others own) p q is did = record {
    did = call-turn at stripe others own outcome.Finished p q is did;
    class = refl;
    sizes = refl;
    loans = ap (λ n. n + 0) (lent-none own outcome.Finished is.outcome_is refl);
  }
  reads-part at (SizeTurn cell others own) p q is did = absurd is
  reads-part at (Busy stripe word) p q is did = absurd is
  reads-part at (Open stripe) p q is did = absurd is
  reads-part at (Close stripe) p q is did = absurd is
  reads-part at (Take f c before after) p q is did = absurd is
  reads-part at (Refused f c before after) p q is did = absurd is
  reads-part at (Leave f c before after) p q is did = absurd is
  reads-part at (Run bios) p q is did = absurd is
  reads-part at (Note begun) p q is did = absurd is
  reads-part at (Number call) p q is did = absurd is

  pub reads-parts : (from at : ℕ) (acts : List Act) (p q : PassView) → ReadParts m file by to from at acts → Acted acts p q → AreReads p q acts
  reads-parts from at [] p q is did = reads-none p q did
  reads-parts from at (a ∷ acts) p q (first, rest) (r, one, more) = reads-then p r q (a ∷ []) acts (reads-part from a p r first one) (reads-parts (part_end m.geometry to from) at acts r q rest more)

  reads-hindered : (at : ℕ) (fault : Fault) (a : Act) (p q : PassView) → Hinders m file by to at fault a → Acts a p q → AreReads p q (a ∷ [])
  reads-hindered at fault (Turn stripe others own) p q is did = record {
    did = call-turn at stripe others own (outcome.Refused is.refused) p q is.part did;
    class = refl;
    sizes = refl;
    loans = ap (λ n. n + 0) (lent-none own (outcome.Refused is.refused) is.part.outcome_is refl);
  }
  reads-hindered at fault (Busy stripe word) p q is did = record {
    did = record {
      acted = (q, did, refl);
      at_file = All-cons (IsActAt m file) (Busy stripe word) [] (block_at m at, is.block, is.stripe_is) (All-nil (IsActAt m file));
      made = All-nil (λ (e : Entry). IsTrue (may_fetch by e.event));
      closed = λ stripe. refl;
    };
    class = refl;
    sizes = refl;
    loans = refl;
  }
  reads-hindered at fault (SizeTurn cell others own) p q is did = absurd is
  reads-hindered at fault (Open stripe) p q is did = absurd is
  reads-hindered at fault (Close stripe) p q is did = absurd is
  reads-hindered at fault (Take f c before after) p q is did = absurd is
  reads-hindered at fault (Refused f c before after) p q is did = absurd is
  reads-hindered at fault (Leave f c before after) p q is did = absurd is
  reads-hindered at fault (Run bios) p q is did = absurd is
  reads-hindered at fault (Note begun) p q is did = absurd is
  reads-hindered at fault (Number call) p q is did = absurd is

  pub reads-last : (at : ℕ) (fault : Option Fault) (last : List Act) (p q : PassView) → EndsSo m file by to at fault last → Acted last p q → AreReads p q last
  reads-last at None last p q ends did = subst (AreReads p q) (sym ends.0) (reads-none p q (subst (λ l. Acted l p q) ends.0 did))
  reads-last at (Some fault) last p q (a, is, hinders) did =
      let one : Acted (a ∷ []) p q = subst (λ l. Acted l p q) is did in
      let here : Acts a p q = subst (λ r. Acts a p r) (sym one.2) one.1 in
      subst (AreReads p q) (sym is) (reads-hindered at fault a p q hinders here)

  -- what hinders a part leaves no stamps, and gives no bytes
  refused-stamps : (size at stripe : ℕ) (own : Entry) (e : EventFault) → IsPartAt m file by to at stripe own (outcome.Refused e) → stamps_of size own ≡ []
  refused-stamps size at stripe own e is = ap (λ x. stamps_by size x own.outcome) is.event ∙ ap (λ x. stamps_by size (part_fetch m.geometry by to at) x) is.outcome_is

  refused-bytes : (o : Option (CellView RangeView)) (history : List Entry) (at stripe : ℕ) (own : Entry) (e : EventFault) → IsPartAt m file by to at stripe own (outcome.Refused e) → given_in o history own ≡ []
  refused-bytes None history at stripe own e is = refl
  refused-bytes (Some cell) history at stripe own e is = ap (λ x. bytes_given cell.opening history x own.outcome) is.event ∙ ap (λ x. bytes_given cell.opening history (part_fetch m.geometry by to at) x) is.outcome_is

  hindered-none : (at : ℕ) (fault : Fault) (a : Act) → Hinders m file by to at fault a → (size : ℕ) (p : PassView) (before : List Act) → (stamps_in size (own_entries (a ∷ [])) ≡ []) × (bytes_read m p before (a ∷ []) ≡ [])
  hindered-none at fault (Turn stripe others own) is size p before = (ap (λ l. l ++ []) (refused-stamps size at stripe own is.refused is.part), ap (λ l. l ++ []) (refused-bytes _ _ at stripe own is.refused is.part))
  hindered-none at fault (Busy stripe word) is size p before = (refl, refl)
  hindered-none at fault (SizeTurn cell others own) is size p before = absurd is
  hindered-none at fault (Open stripe) is size p before = absurd is
  hindered-none at fault (Close stripe) is size p before = absurd is
  hindered-none at fault (Take f c b after) is size p before = absurd is
  hindered-none at fault (Refused f c b after) is size p before = absurd is
  hindered-none at fault (Leave f c b after) is size p before = absurd is
  hindered-none at fault (Run bios) is size p before = absurd is
  hindered-none at fault (Note begun) is size p before = absurd is
  hindered-none at fault (Number call) is size p before = absurd is

  pub last-none : (at : ℕ) (fault : Option Fault) (last : List Act) → EndsSo m file by to at fault last → (size : ℕ) (p : PassView) (before : List Act) → (stamps_in size (own_entries last) ≡ []) × (bytes_read m p before last ≡ [])
  last-none at None last ends size p before = (ap (λ l. stamps_in size (own_entries l)) ends.0, ap (bytes_read m p before) ends.0)
  last-none at (Some fault) last (a, is, hinders) size p before =
      let h = hindered-none at fault a hinders size p before in
      (ap (λ l. stamps_in size (own_entries l)) is ∙ h.0, ap (bytes_read m p before) is ∙ h.1)

  -- the acts that read parts stamp the blocks of their bytes, once each
  module _ (some : 0 < m.geometry.block_size) (more : 0 < m.geometry.folio_blocks) where
    part-at : (at stripe : ℕ) (own : Entry) (o : Outcome) → IsPartAt m file by to at stripe own o → IsPart m.geometry.block_size m.geometry.folio_blocks to at (part_end m.geometry to at)
    part-at at stripe own o is = part-is m.geometry.block_size m.geometry.folio_blocks to at some more is.some

    own-stamps : (at stripe : ℕ) (own : Entry) → IsPartAt m file by to at stripe own outcome.Finished → stamps_of m.geometry.block_size own ≡ stamps_over m.geometry.block_size (span at (part_end m.geometry to at)) (done_by by)
    own-stamps at stripe own is =
        ap (λ x. stamps_by m.geometry.block_size x own.outcome) is.event ∙ ap (λ x. stamps_by m.geometry.block_size (part_fetch m.geometry by to at) x) is.outcome_is
        ∙ sym (over-met m.geometry.block_size some (done_by by) at (part_end m.geometry to at) (part-at at stripe own outcome.Finished is).some)

    -- the parts go on
    pub parts-on : (from at : ℕ) (acts : List Act) → ReadParts m file by to from at acts → from ≤ at
    parts-on from at [] is = omega (arith, is)
    parts-on from at (Turn stripe others own ∷ acts) (first, rest) = (let p = (part-at from stripe own outcome.Finished first).some in let h = parts-on (part_end m.geometry to from) at acts rest in omega (arith, p, h))
    parts-on from at (SizeTurn cell others own ∷ acts) (first, rest) = absurd first
    parts-on from at (Busy stripe word ∷ acts) (first, rest) = absurd first
    parts-on from at (Open stripe ∷ acts) (first, rest) = absurd first
    parts-on from at (Close stripe ∷ acts) (first, rest) = absurd first
    parts-on from at (Take f c b after ∷ acts) (first, rest) = absurd first
    parts-on from at (Refused f c b after ∷ acts) (first, rest) = absurd first
    parts-on from at (Leave f c b after ∷ acts) (first, rest) = absurd first
    parts-on from at (Run bios ∷ acts) (first, rest) = absurd first
    parts-on from at (Note begun ∷ acts) (first, rest) = absurd first
    parts-on from at (Number call ∷ acts) (first, rest) = absurd first

    -- the part that begins at a place, and those after it, up to another
    join-stamps : (from at : ℕ) (acts : List Act) → IsPart m.geometry.block_size m.geometry.folio_blocks to from (part_end m.geometry to from) → ReadParts m file by to (part_end m.geometry to from) at acts
        → stamps_over m.geometry.block_size (span from (part_end m.geometry to from)) (done_by by) ++ stamps_over m.geometry.block_size (span (part_end m.geometry to from) at) (done_by by) ≡ stamps_over m.geometry.block_size (span from at) (done_by by)
    join-stamps from at [] part rest =
        let size = m.geometry.block_size in
        ap (λ n. stamps_over size (span from (part_end m.geometry to from)) (done_by by) ++ stamps_over size (span (part_end m.geometry to from) n) (done_by by)) (sym rest)
        ∙ ap (λ l. stamps_over size (span from (part_end m.geometry to from)) (done_by by) ++ l) (over-none size some (done_by by) (part_end m.geometry to from))
        ∙ append-nil (stamps_over size (span from (part_end m.geometry to from)) (done_by by))
        ∙ ap (λ n. stamps_over size (span from n) (done_by by)) rest
    join-stamps from at (Turn stripe others own ∷ acts) part (first, rest) =
        let next = part_end m.geometry to from in
        let later = (part-at next stripe own outcome.Finished first).some in
        let on = parts-on (part_end m.geometry to next) at acts rest in
        over-parts m.geometry.block_size some (done_by by) from next at part.some (omega (arith, later, on)) (part.ends first.some)
    join-stamps from at (SizeTurn cell others own ∷ acts) part (first, rest) = absurd first
    join-stamps from at (Busy stripe word ∷ acts) part (first, rest) = absurd first
    join-stamps from at (Open stripe ∷ acts) part (first, rest) = absurd first
    join-stamps from at (Close stripe ∷ acts) part (first, rest) = absurd first
    join-stamps from at (Take f c b after ∷ acts) part (first, rest) = absurd first
    join-stamps from at (Refused f c b after ∷ acts) part (first, rest) = absurd first
    join-stamps from at (Leave f c b after ∷ acts) part (first, rest) = absurd first
    join-stamps from at (Run bios ∷ acts) part (first, rest) = absurd first
    join-stamps from at (Note begun ∷ acts) part (first, rest) = absurd first
    join-stamps from at (Number call ∷ acts) part (first, rest) = absurd first

    pub parts-stamps : (from at : ℕ) (acts : List Act) → ReadParts m file by to from at acts → stamps_in m.geometry.block_size (own_entries acts) ≡ stamps_over m.geometry.block_size (span from at) (done_by by)
    parts-stamps from at [] is = sym (over-none m.geometry.block_size some (done_by by) from) ∙ ap (λ n. stamps_over m.geometry.block_size (span from n) (done_by by)) is
    parts-stamps from at (Turn stripe others own ∷ acts) (first, rest) =
        ap (λ l. l ++ stamps_in m.geometry.block_size (own_entries acts)) (own-stamps from stripe own first)
        ∙ ap (λ l. stamps_over m.geometry.block_size (span from (part_end m.geometry to from)) (done_by by) ++ l) (parts-stamps (part_end m.geometry to from) at acts rest)
        ∙ join-stamps from at acts (part-at from stripe own outcome.Finished first) rest
    parts-stamps from at (SizeTurn cell others own ∷ acts) (first, rest) = absurd first
    parts-stamps from at (Busy stripe word ∷ acts) (first, rest) = absurd first
    parts-stamps from at (Open stripe ∷ acts) (first, rest) = absurd first
    parts-stamps from at (Close stripe ∷ acts) (first, rest) = absurd first
    parts-stamps from at (Take f c b after ∷ acts) (first, rest) = absurd first
    parts-stamps from at (Refused f c b after ∷ acts) (first, rest) = absurd first
    parts-stamps from at (Leave f c b after ∷ acts) (first, rest) = absurd first
    parts-stamps from at (Run bios ∷ acts) (first, rest) = absurd first
    parts-stamps from at (Note begun ∷ acts) (first, rest) = absurd first
    parts-stamps from at (Number call ∷ acts) (first, rest) = absurd first

-- acts give the same bytes after the number of the call
act-numbered : (m : MountView) (p : PassView) (call : ℕ) (before : List Act) (a : Act) → bytes_of_act m p (Number call ∷ before) a ≡ bytes_of_act m (with_call p call) before a
act-numbered m p call before (Turn stripe others own) = refl
act-numbered m p call before (SizeTurn cell others own) = refl
act-numbered m p call before (Busy stripe word) = refl
act-numbered m p call before (Open stripe) = refl
act-numbered m p call before (Close stripe) = refl
act-numbered m p call before (Take f c b after) = refl
act-numbered m p call before (Refused f c b after) = refl
act-numbered m p call before (Leave f c b after) = refl
act-numbered m p call before (Run bios) = refl
act-numbered m p call before (Note begun) = refl
act-numbered m p call before (Number other) = refl

read-numbered : (m : MountView) (p : PassView) (call : ℕ) (before acts : List Act) → bytes_read m p (Number call ∷ before) acts ≡ bytes_read m (with_call p call) before acts
read-numbered m p call before [] = refl
read-numbered m p call before (a ∷ acts) =
    ap (λ l. l ++ bytes_read m p (Number call ∷ (before ++ a ∷ [])) acts) (act-numbered m p call before a)
    ∙ ap (λ l. bytes_of_act m (with_call p call) before a ++ l) (read-numbered m p call (before ++ a ∷ []) acts)

-- a read that does not wait may be hindered so
may-refuse : (off : ℕ) (lengths : List ℕ) (e : EventFault) → may_meet false (Pread off lengths) (hindrance e) ≡ true
may-refuse off lengths (refusal.Stale sample now) = refl
may-refuse off lengths (refusal.Away block ticket) = refl
may-refuse off lengths (refusal.Cold block) = refl
may-refuse off lengths (refusal.Settled block) = refl
may-refuse off lengths (refusal.Unattached block) = refl
may-refuse off lengths (refusal.Dirty block) = refl
may-refuse off lengths (refusal.Worn cookie) = refl
may-refuse off lengths refusal.NoMemory = refl
may-refuse off lengths (refusal.NoSpace wanted found) = refl
may-refuse off lengths (refusal.Poison done) = refl

may-hinder : (m : MountView) (file : FileId) (by : Tag) (to at off : ℕ) (lengths : List ℕ) (fault : Fault) (a : Act) → Hinders m file by to at fault a → (at < to) × (may_meet false (Pread off lengths) fault ≡ true)
may-hinder m file by to at off lengths fault (Turn stripe others own) is = (is.part.some, ap (may_meet false (Pread off lengths)) is.fault_is ∙ may-refuse off lengths is.refused)
may-hinder m file by to at off lengths fault (Busy stripe word) is = (is.some, ap (may_meet false (Pread off lengths)) is.fault_is)
may-hinder m file by to at off lengths fault (SizeTurn cell others own) is = absurd is
may-hinder m file by to at off lengths fault (Open stripe) is = absurd is
may-hinder m file by to at off lengths fault (Close stripe) is = absurd is
may-hinder m file by to at off lengths fault (Take f c b after) is = absurd is
may-hinder m file by to at off lengths fault (Refused f c b after) is = absurd is
may-hinder m file by to at off lengths fault (Leave f c b after) is = absurd is
may-hinder m file by to at off lengths fault (Run bios) is = absurd is
may-hinder m file by to at off lengths fault (Note begun) is = absurd is
may-hinder m file by to at off lengths fault (Number call) is = absurd is

-- how far a read came, of the bytes that the file has of those asked
far-so : (m : MountView) (file : FileId) (by : Tag) (off met at : ℕ) (lengths : List ℕ) (fault : Option Fault) (last : List Act) → off ≤ at → EndsSo m file by (off + met) at fault last
    → (at - off ≤ met) × (IfNone fault (at - off ≡ met) × IfSome fault (λ f. (at - off < met) × (may_meet false (Pread off lengths) f ≡ true)))
far-so m file by off met at lengths None last low ends = let e = ends.1 in (omega (arith, e), (omega (arith, e), tt))
far-so m file by off met at lengths (Some fault) last low (a, is, hinders) =
    let h = may-hinder m file by (off + met) at off lengths fault a hinders in
    let less = h.0 in
    (omega (arith, less), (tt, (omega (arith, less, low), h.1)))

-- the shares are as before
shares-kept : (m : MountView) (file : FileId) (may : Event → Bool) (p q : PassView) (acts : List Act) → IsPassOf m p → IsPassOf m q → CallActs m file may p q acts → (k : ℕ) → share_at q k ≡ share_at p k
shares-kept m file may p q acts of mine did k = at (slice_get p.stripes k) (slice_get q.stripes k) refl refl
  where
    at : (x y : Option (SeatView Entry)) → slice_get p.stripes k ≡ x → slice_get q.stripes k ≡ y → share_in y ≡ share_in x
    at None None e f = refl
    at None (Some t) e f = let s = seat-there m p q k t of mine f in absurd (none-some s.0 (sym e ∙ s.1))
    at (Some s) y e f =
        let h = acted-seat k acts p q s did.acted e in
        let shares = h.2.share in
        let closed = did.closed k in
        ap share_in (sym f ∙ h.1) ∙ (let same : h.0.share ≡ s.share = omega (arith, shares, closed) in same)

-- what the call did, from what its tries did
module _ (m : MountView) (file : FileId) (call off at : ℕ) (p q : PassView) (iov later : IovView) (fault : Option Fault) (answer : Answer) where
  pub tries-read : 0 < m.geometry.block_size → 0 < m.geometry.folio_blocks → length iov.bytes ≡ sum iov.lengths → off ≤ at
      → (t : TriedParts m file (tag_of p call) (read_to (file_end m file) off (length iov.bytes)) off at (with_call p call) q iov later fault)
      → answer.reply ≡ read_reply (length iov.bytes) (span_length (range_in (file_end m file) off (length iov.bytes))) (at - off) fault → answer.bios ≡ 0
      → TriesRead m file call off p q iov later answer
  tries-read some more joined low t reply bios =
      let size = m.geometry.block_size in
      let by = tag_of p call in
      let met = span_length (range_in (file_end m file) off (length iov.bytes)) in
      let to = off + met in
      let middle = t.middle in
      let parts = t.read.acts in
      let reads = reads-then m file by to (with_call p call) middle q parts t.last (reads-parts m file by to off at parts (with_call p call) middle t.read.parts t.read.acted) (reads-last m file by to at fault t.last middle q t.ends t.ended) in
      let none = last-none m file by to at fault t.last t.ends size in
      let place : off + (at - off) ≡ at = omega (arith, low) in
      let far = far-so m file by off met at iov.lengths fault t.last low t.ends in
      let bytes : bytes_read m p [] (Number call ∷ (parts ++ t.last)) ≡ bytes_read m (with_call p call) [] parts =
      read-numbered m p call [] (parts ++ t.last) ∙ read-append m (with_call p call) [] parts t.last ∙ ap (λ l. bytes_read m (with_call p call) [] parts ++ l) (none (with_call p call) parts).1 ∙ append-nil (bytes_read m (with_call p call) [] parts) in
      record {
        count = at - off;
        fault = fault;
        parts = parts;
        last = t.last;
        acts = Number call ∷ (parts ++ t.last);
        acts_are = refl;
        did = call-then m file (may_fetch by) p (with_call p call) q (Number call ∷ []) (parts ++ t.last) (call-numbered m file (may_fetch by) p call) reads.did;
        words = found-then (with_call p call) middle q parts t.last t.read.words t.words;
        class = reads.class;
        sizes = reads.sizes;
        read = subst (λ n. ReadParts m file by to off n parts) (sym place) t.read.parts;
        ends = subst (λ n. EndsSo m file by to n fault t.last) (sym place) t.ends;
        stamps = ap (stamps_in size) (own_entries-append parts t.last) ∙ stamps-append size (own_entries parts) (own_entries t.last)
            ∙ ap (λ l. stamps_in size (own_entries parts) ++ l) (none p []).0 ∙ append-nil (stamps_in size (own_entries parts))
            ∙ parts-stamps m file by to some more off at parts t.read.parts
            ∙ ap (λ n. stamps_over size (span off n) (done_by by)) (sym place)
            ∙ sym (answered-so size some (done_by by) (file_end m file) off (length iov.bytes) (at - off) fault far.0)
            ∙ ap (λ r. stamps_over size (answered_in size (range_in (file_end m file) off (length iov.bytes)) false r) (done_by by)) (sym reply);
        bytes = t.read.bytes ∙ ap (λ l. written_on l iov) (sym bytes);
        counted = ap length bytes ∙ t.read.long;
        reply = reply;
        lawful = subst (λ r. IsTrue (is_lawful_reply m.geometry.grain size (file_at m file).blocks (range_in (file_end m file) off (length iov.bytes)) false (Pread off iov.lengths) r)) (sym reply)
            (subst (λ n. IsTrue (is_lawful_reply m.geometry.grain size (file_at m file).blocks (range_in (file_end m file) off n) false (Pread off iov.lengths) (read_reply n (span_length (range_in (file_end m file) off n)) (at - off) fault))) (sym joined)
            (lawful-read m.geometry.grain size (file_at m file).blocks off (at - off) iov.lengths false fault
            (subst (λ n. IfNone fault (at - off ≡ span_length (range_in (file_end m file) off n)) × IfSome fault (λ f. (at - off < span_length (range_in (file_end m file) off n)) × (may_meet false (Pread off iov.lengths) f ≡ true))) joined far.1)));
        bios = bios ∙ ap (λ n. min n (2 ^ 64 - 1)) (sym reads.loans);
      }

  -- the same, as the body of the call computes it
  pub tries-from : (by : Tag) (start : PassView) (asked to : ℕ) → IsTrue (is_block_size m.geometry.block_size) → IsTrue (is_folio_blocks m.geometry.folio_blocks) → length iov.bytes ≡ sum iov.lengths → off ≤ at
      → by ≡ tag_of p call → start ≡ with_call p call → asked ≡ length iov.bytes → to ≡ read_to (file_end m file) off asked
      → TriedParts m file by to off at start q iov later fault → answer.reply ≡ read_reply asked (to - off) (at - off) fault → answer.bios ≡ 0
      → TriesRead m file call off p q iov later answer
  tries-from by start asked to sized foliod joined low by_is start_is asked_is to_is t reply bios =
      let end : to ≡ read_to (file_end m file) off (length iov.bytes) = to_is ∙ ap (read_to (file_end m file) off) asked_is in
      let met : to - off ≡ span_length (range_in (file_end m file) off (length iov.bytes)) = omega (arith, end) in
      tries-read (some-bytes m.geometry.block_size sized) (some-blocks m.geometry.folio_blocks foliod) joined low
      (subst (λ b. TriedParts m file b (read_to (file_end m file) off (length iov.bytes)) off at (with_call p call) q iov later fault) by_is
      (subst (λ n. TriedParts m file by n off at (with_call p call) q iov later fault) end
      (subst (λ s. TriedParts m file by to off at s q iov later fault) start_is t)))
      (reply ∙ ap (λ n. read_reply n (to - off) (at - off) fault) asked_is ∙ ap (λ n. read_reply (length iov.bytes) n (at - off) fault) met)
      bios

  -- of the pass nothing else changed
  pub keeps-pass : (start : PassView) → start ≡ with_call p call → OnlyTurned start q → IsPassOf m p → IsPassOf m q → TriesRead m file call off p q iov later answer → KeepsPass call p q
  keeps-pass start is turned of mine read = let rest : OnlyTurned (with_call p call) q = subst (λ s. OnlyTurned s q) is turned in record {
    last = ap (λ (v : PassView). v.last) rest;
    caller = ap (λ (v : PassView). v.caller) rest;
    spare = ap (λ (v : PassView). v.spare) rest;
    shares = shares-kept m file (may_fetch (tag_of p call)) p q read.acts of mine read.did;
  }
