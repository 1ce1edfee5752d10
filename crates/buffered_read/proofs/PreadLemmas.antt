-- What a read of a file tells of all its acts.
use Rattle.std.proofs.Common.{inl, inr, ◌≡◌, ℕ, zero, suc, ◌+◌, ◌-◌, ◌<◌, ◌≤◌, ◌==◌, ◌++◌, ◌∷◌, [], List, min, sum, Bool, true, false, Some, Ok, Err, length, if◌then◌else◌, refl, sym, ap, ◌∙◌, subst, arith, append-nil}
use Rattle.std.specs.Prelude.{◌⊎◌, ◌^◌, ◌/◌, nat_lt, All, IfNone, IfOk, IfSome, IsTrue, None, Option, Result, is_some, slice_get}
use Rattle.std.specs.declared.alloc.AllocError.{AllocError}
use Rattle.std.proofs.lemmas.Bool.{cases_eq, eqb-true, false≢true}
use Rattle.std.proofs.lemmas.Bool.Decides.{nat_tests}
use Rattle.std.proofs.lemmas.List.Elements.{All-append, All-cons, All-nil, All-weaker}
use Rattle.std.proofs.lemmas.Option.{slice_get-get_or}
use Rattle.iob_base.specs.declared.answer.Answer.{Answer}
use Rattle.iob_base.specs.declared.answer.Fault.{Fault}
use Rattle.iob_base.specs.declared.answer.Fault.TheVariants as fault
use Rattle.iob_base.specs.declared.answer.Reply.TheVariants as reply
use Rattle.iob_base.specs.declared.stamp.FileId.{FileId}
use Rattle.iob_base.specs.declared.stamp.Tag.{Tag}
use Rattle.io_model.specs.Answered.{answered_in}
use Rattle.io_model.specs.Lawful.{is_lawful_reply, may_meet}
use Rattle.io_model.specs.Parts.{blocks_met, range_in, span, span_length}
use Rattle.io_model.specs.declared.script.Verb.TheVariants.{Pread}
use Rattle.iov_iter.specs.IovView.{IovView, written_on}
use Rattle.inode_lock.specs.Calls.{IsLeft, IsWon}
use Rattle.inode_lock.specs.declared.word.Class.TheVariants.{Cached}
use Rattle.fault_device.specs.LaneView.{LaneView}
use Rattle.turn_cell.specs.Stakes.{total}
use Rattle.range_core.specs.EntryCounts.{lendings}
use Rattle.range_core.specs.EntryStamps.{stamps_in}
use Rattle.range_core.specs.Stamps.{done_by}
use Rattle.range_core.specs.declared.entry.Entry.{Entry}
use Rattle.range_core.specs.declared.entry.Event.{Event}
use Rattle.range_core.specs.declared.entry.Event.TheVariants as event
use Rattle.size_core.specs.SizeTurns.{Sees}
use Rattle.size_core.specs.declared.entry.SizeEntry.{SizeEntry}
use Rattle.size_core.specs.declared.entry.SizeEvent.TheVariants.{See}
use Rattle.size_core.specs.declared.turns.SeeSize.{SeeSize}
use Rattle.mount_parts.specs.MountView.{HasFile, IsLaidOut, MountView, file_at, no_file}
use Rattle.mount_parts.proofs.Places.{set-same}
use Rattle.mini_fs.specs.Acts.{Act, Acted, bios_in, last_in, own_entries}
use Rattle.mini_fs.specs.Acts.Act.{Leave, Number, SizeTurn, Take}
use Rattle.mini_fs.specs.CallActs.{CallActs, IsActAt, loans_in, lock_acts, size_acts, tag_of, with_call}
use Rattle.mini_fs.specs.Calls.{HasShares, LeavesPass, MayCall}
use Rattle.mini_fs.specs.Holds.{BringsBack, HoldView, IsHoldOf, TakesOut}
use Rattle.mini_fs.specs.Mappings.{file_end}
use Rattle.mini_fs.specs.PassView.{IsPassOf, PassView}
use Rattle.mini_fs.specs.SizeTurns.{HasSize, TurnsAtSize, cell_in, size_at}
use Rattle.mini_fs.specs.Tickets.{KeepsTickets}
use Rattle.mini_fs.proofs.ActLemmas.{left-act, taken-act, turned_size-act}
use Rattle.mini_fs.proofs.CallEnds.{acted-caller, acted-locks, acted-shares, acted-spare}
use Rattle.mini_fs.proofs.CallLemmas.{call-none, call-then, lock_acts-append, own_entries-append, size_acts-append}
use Rattle.mini_fs.proofs.PassActs.{acted-pass}
use Rattle.call_parts.specs.Budgets.{AreSound, IsSound, LendsFew, keeps_read}
use Rattle.call_parts.specs.Causes.{IsCaused}
use Rattle.call_parts.specs.Parts.{read_to, stamps_over}
use Rattle.buffered_read.specs.Preads.{EndsAt, HasReadUpTo, ReadOn, may_read, stops_read}
use Rattle.buffered_read.specs.ReadCalls.{FindsEnd, FoundEnd, KeepsBudget, Preads, ReadsBy, ReadsCut, ReadsHeld, found_end}
use Rattle.call_parts.specs.Reads.{bytes_read}
use Rattle.call_parts.specs.Replies.{read_reply}
use Rattle.call_parts.specs.Steps.{IsPlaced, IsQuiet, ServedBy, dones_in}
use Rattle.call_parts.specs.declared.progress.Progress.{Progress}
use Rattle.call_parts.proofs.BudgetLemmas.{how-many-all, loans-few}
use Rattle.call_parts.proofs.FewLemmas.{few-ended, few-quiet, few-then}
use Rattle.call_parts.proofs.NumberLemmas.{answered-so, tickets-numbered}
use Rattle.buffered_read.proofs.ReadLemmas.{bytes-after, over-nothing}
use Rattle.call_parts.proofs.ReplyLemmas.{MayStop, ranged-so}
use Rattle.buffered_read.proofs.SoFarLemmas.{read-append, written-none}
use Rattle.call_parts.proofs.StepLemmas.{bios-append, quiet-placed, served-none}
use Rattle.buffered_read.proofs.WarmLemmas.{shares-after}

-- no look is made at a file without a size, or for no bytes
pub finds-blocks : (o : Option ℕ) (asked end caller : ℕ) (by : Tag) → (is_some o ≡ false) ⊎ (asked ≡ 0) → FindsEnd o asked end caller by [] (Ok end)
finds-blocks None asked end caller by is = (refl, refl)
finds-blocks (Some cell) zero end caller by is = (refl, refl)
finds-blocks (Some cell) (suc n) end caller by (inl is) = absurd (false≢true (sym is))
finds-blocks (Some cell) (suc n) end caller by (inr is) = absurd (omega (arith, is))

pub found-blocks : (m : MountView) (file : FileId) (by : Tag) (asked end : ℕ) (p : PassView) → end ≡ file_end m file → (is_some (file_at m file).size ≡ false) ⊎ (asked ≡ 0) → FoundEnd m file by asked p p (Ok end)
found-blocks m file by asked end p end_is none = record {
  acts = [];
  did = call-none m file (may_read by) p;
  finds = subst (λ n. FindsEnd (file_at m file).size asked (file_end m file) p.caller by [] (Ok n)) (sym end_is) (finds-blocks (file_at m file).size asked (file_end m file) p.caller by none);
}

-- one look was made
module _ (m : MountView) (file : FileId) (by : Tag) (laid : IsLaidOut m) (exists : HasFile m file) (p q : PassView) (found : Result ℕ AllocError) (change later : SeeSize) where
  abbrev pub Looks : Type 0
  Looks = TurnsAtSize (λ opening history value claims next left entry. Sees change later opening history value next claims left found entry) m (size_at m file) p q

  found-within : (out : Result ℕ AllocError) (now end : ℕ) (Then : ℕ → Type 0) → now ≤ end → IfOk out (λ n. (n ≡ now) × Then n) → IfOk out (λ n. n ≤ end)
  found-within (Err e) now end Then most ok = tt
  found-within (Ok n) now end Then most ok = (let is = ok.0 in omega (arith, is, most))

  size-end : (t : Looks) (cell : ℕ) → (file_at m file).size ≡ Some cell → t.cell.opening.end ≡ file_end m file
  size-end t cell is = laid.ends file.0 (file_at m file) cell t.cell (slice_get-get_or m.files file.0 no_file exists) is (subst (λ n. slice_get m.sizes n ≡ Some t.cell) (ap cell_in is) t.stand.cell_is)

  looks-so : (t : Looks) (o : Option ℕ) (asked : ℕ) → (file_at m file).size ≡ o → is_some o ≡ true → 0 < asked → by ≡ change.by → FindsEnd o asked (file_end m file) p.caller by (SizeTurn (size_at m file) t.turned.others t.turned.entry ∷ []) found
  looks-so t None asked is some more by_is = absurd (false≢true some)
  looks-so t (Some cell) zero is some more by_is = absurd (omega (arith, more))
  looks-so t (Some cell) (suc n) is some more by_is =
      let truth = t.turned.stood.holds in
      let most = truth.within in
      let same = truth.same_end in
      let end = size-end t cell is in
      record {
        others = t.turned.others;
        own = t.turned.entry;
        acts_are = ap (λ k. SizeTurn k t.turned.others t.turned.entry ∷ []) (ap cell_in is);
        caller_is = ap (λ (e : SizeEntry). e.caller) t.turned.done.enters.entry_is;
        event = ap (λ (e : SizeEntry). e.event) t.turned.done.enters.entry_is ∙ ap (λ b. See b found) (sym by_is);
        within = found-within found t.turned.value.size (file_end m file) _ (omega (arith, most, same, end)) t.turned.done.ok;
      }

  sized-cell : (o : Option ℕ) → is_some o ≡ true → o ≡ Some (cell_in o)
  sized-cell None some = absurd (false≢true some)
  sized-cell (Some cell) some = refl

  pub found-size : (asked : ℕ) → HasSize m file → 0 < asked → by ≡ change.by → Looks → FoundEnd m file by asked p q found
  found-size asked sized more by_is t =
      let act = SizeTurn (size_at m file) t.turned.others t.turned.entry in
      record {
        acts = act ∷ [];
        did = record { acted = (q, turned_size-act t, refl); at_file = All-cons (IsActAt m file) act [] (sized-cell (file_at m file).size sized) (All-nil (IsActAt m file)); made = All-nil (λ (e : Entry). IsTrue (may_read by e.event)); closed = λ k. refl };
        finds = looks-so t (file_at m file).size asked refl sized more by_is;
      }

-- the acts that find where the bytes of a file end are at most one look at its size
pub record AreLooks (m : MountView) (p : PassView) (acts : List Act) : Type 0 where
  pub own : own_entries acts ≡ []
  pub bios : bios_in acts ≡ 0
  pub locks : lock_acts acts ≡ []
  pub sizes : size_acts acts ≡ acts
  pub last : last_in p.last acts ≡ p.last
  pub bytes : bytes_read m p [] acts ≡ []

no-looks : (m : MountView) (p : PassView) (acts : List Act) → acts ≡ [] → AreLooks m p acts
no-looks m p acts is = subst (AreLooks m p) (sym is) (record { own = refl; bios = refl; locks = refl; sizes = refl; last = refl; bytes = refl })

one-look : (m : MountView) (p : PassView) (acts : List Act) (cell : ℕ) (others : List SizeEntry) (own : SizeEntry) → acts ≡ SizeTurn cell others own ∷ [] → AreLooks m p acts
one-look m p acts cell others own is = subst (AreLooks m p) (sym is) (record { own = refl; bios = refl; locks = refl; sizes = refl; last = refl; bytes = refl })

looks-only : (m : MountView) (p : PassView) (o : Option ℕ) (asked end caller : ℕ) (by : Tag) (acts : List Act) (found : Result ℕ AllocError) → FindsEnd o asked end caller by acts found → AreLooks m p acts
looks-only m p None asked end caller by acts found finds = no-looks m p acts finds.0
looks-only m p (Some cell) zero end caller by acts found finds = no-looks m p acts finds.0
looks-only m p (Some cell) (suc n) end caller by acts found finds = one-look m p acts cell finds.others finds.own finds.acts_are

-- an end that was found lies in the file, and none is missed where no bytes are asked
pub found-end : (o : Option ℕ) (asked end caller : ℕ) (by : Tag) (acts : List Act) (found : ℕ) → FindsEnd o asked end caller by acts (Ok found) → found ≤ end
found-end None asked end caller by acts found finds = (let is : found ≡ end = (let same = finds.1 in cc) in omega (arith, is))
found-end (Some cell) zero end caller by acts found finds = (let is : found ≡ end = (let same = finds.1 in cc) in omega (arith, is))
found-end (Some cell) (suc n) end caller by acts found finds = finds.within

found-none : (o : Option ℕ) (asked end caller : ℕ) (by : Tag) (acts : List Act) (e : AllocError) → FindsEnd o asked end caller by acts (Err e) → 0 < asked
found-none None asked end caller by acts e finds = (let same = finds.1 in absurd (cc))
found-none (Some cell) zero end caller by acts e finds = (let same = finds.1 in absurd (cc))
found-none (Some cell) (suc n) end caller by acts e finds = omega arith

-- what stops a read may be told by one that waits
may-stop : (off : ℕ) (lengths : List ℕ) (f : Fault) → IsTrue (stops_read f) → may_meet true (Pread off lengths) f ≡ true
may-stop off lengths (fault.Eio lane before after) is = refl
may-stop off lengths fault.NoMemory is = refl
may-stop off lengths (fault.SyncEio seen count) is = absurd (false≢true is)
may-stop off lengths (fault.Again why) is = absurd (false≢true is)
may-stop off lengths (fault.NotAligned alignment) is = absurd (false≢true is)
may-stop off lengths (fault.TooFar offset end) is = absurd (false≢true is)
may-stop off lengths (fault.NoSpace wanted found) is = absurd (false≢true is)
may-stop off lengths (fault.Worn cookie) is = absurd (false≢true is)

-- how far a read came of the bytes that it was to read
far-so : (size off met at count : ℕ) (lengths : List ℕ) (o : Option Fault) → off + count ≡ at → EndsAt size off (off + met) at o → IfSome o (λ f. IsTrue (stops_read f)) → (count ≤ met) × (IfNone o (count ≡ met) × IfSome o (λ f. (count < met) × (may_meet true (Pread off lengths) f ≡ true)))
far-so size off met at count lengths None is ends kind = (omega (arith, is, ends), (omega (arith, is, ends), tt))
far-so size off met at count lengths (Some f) is ends kind = (let less = ends.0 in (omega (arith, is, less), (tt, (omega (arith, is, less), may-stop off lengths f kind))))

-- the reply of a read that was cut at an end, from what its body computes
module _ (m : MountView) (file : FileId) (by : Tag) (off end : ℕ) (a b : LaneView) (p q : PassView) (iov later : IovView) (answer : Answer) (came : Progress) where
  pub cut-read : 0 < m.geometry.block_size → (asked to : ℕ) → asked ≡ length iov.bytes → length iov.bytes ≡ sum iov.lengths → to ≡ read_to end off asked → HasReadUpTo m file by off to a b p q iov later came
      → answer.reply ≡ read_reply asked (to - off) (came.at - off) came.fault → answer.bios ≡ came.bios → ReadsCut m file by off end a b p q iov later answer
  cut-read some asked to asked_is joined to_is read is sent =
      let size = m.geometry.block_size in
      let met = span_length (range_in end off (length iov.bytes)) in
      let begins = read.read.begins in
      let count = came.at - off in
      let place : off + count ≡ came.at = omega (arith, begins) in
      let to_so : to ≡ read_to end off (length iov.bytes) = to_is ∙ ap (read_to end off) asked_is in
      let met_so : to - off ≡ met = omega (arith, to_so) in
      let here : HasReadUpTo m file by off (read_to end off (length iov.bytes)) a b p q iov later came = subst (λ n. HasReadUpTo m file by off n a b p q iov later came) to_so read in
      let far = far-so size off met came.at count iov.lengths came.fault place here.stops here.read.kind in
      let replied : answer.reply ≡ read_reply (length iov.bytes) met count came.fault =
      is ∙ ap (λ n. read_reply n (to - off) count came.fault) asked_is ∙ ap (λ n. read_reply (length iov.bytes) n count came.fault) met_so in
      record {
        came = came;
        read = here;
        count = count;
        count_is = place;
        reply = replied;
        lawful = subst (λ r. IsTrue (is_lawful_reply m.geometry.grain size (file_at m file).blocks (range_in end off (length iov.bytes)) true (Pread off iov.lengths) r)) (sym replied)
            (subst (λ n. IsTrue (is_lawful_reply m.geometry.grain size (file_at m file).blocks (range_in end off n) true (Pread off iov.lengths) (read_reply n (span_length (range_in end off n)) count came.fault))) (sym joined)
            (ranged-so size (range_in end off (sum iov.lengths)) true off iov.lengths (file_at m file).blocks count came.fault (omega arith)
            (subst (λ n. MayStop size (range_in end off n) true off iov.lengths count came.fault) joined far.1)));
        stamps = ap (λ r. stamps_over size (answered_in size (range_in end off (length iov.bytes)) false r) (done_by by)) replied
            ∙ answered-so size some (done_by by) end off (length iov.bytes) count came.fault far.0
            ∙ ap (λ n. stamps_over size (span off n) (done_by by)) place;
        bios = sent;
      }

-- the reply of a read without memory to look at the size
no-memory : (grain size blocks off : ℕ) (lengths : List ℕ) (cut n : ℕ) → 0 < n → n ≡ sum lengths → IsTrue (is_lawful_reply grain size blocks (range_in cut off n) true (Pread off lengths) (reply.Err fault.NoMemory 0))
no-memory grain size blocks off lengths cut n some joined = at (sum lengths == 0) refl
  where
    at : (t : Bool) → (sum lengths == 0) ≡ t → (if t then false else true) ≡ true
    at true e = absurd (let none = eqb-true (sum lengths) 0 e in omega (arith, none, some, joined))
    at false e = refl

-- no block is met by no bytes, and a read that was cut meets the blocks of its range
met-none : (size from to : ℕ) → to ≤ from → blocks_met size (span from to) ≡ 0
met-none size from to none = ap (λ b. if b then ((to - 1) / size + 1) - from / size else 0) (let no : nat_lt from to ≡ false = grind (arith, nat_tests, none) in no)

met-cut : (size end off asked : ℕ) → blocks_met size (span off (read_to end off asked)) ≡ blocks_met size (range_in end off asked)
met-cut size end off asked = cut (min (off + asked) end) (read_to end off asked) (omega arith)
  where
    cut : (to at : ℕ) → at ≡ off + (to - off) → blocks_met size (span off at) ≡ blocks_met size (span off to)
    cut to at is = elim (cases_eq (off - to) 0) [
      | inl low ↦ (let same : at ≡ to = omega (arith, is, low) in ap (λ n. blocks_met size (span off n)) same)
      | inr high ↦ met-none size off at (omega (arith, is, high)) ∙ sym (met-none size off to (omega (arith, high)))
    ]

-- after the turns of a read a block that was read needs no read
read-keeps : (by : Tag) (e : Event) → IsTrue (may_read by e) → IsTrue (keeps_read e)
read-keeps by (event.Sample block most) is = refl
read-keeps by (event.Fetch tag from to) is = refl
read-keeps by (event.LendRead block most) is = refl
read-keeps by (event.FillBack ticket block blocks done) is = refl
read-keeps by e is = absurd (false≢true is)

-- what the acts of a read under its class tell
module _ (m : MountView) (file : FileId) (by : Tag) (off : ℕ) (a b : LaneView) (p q r : PassView) (iov later : IovView) (answer : Answer) (of : IsPassOf m p) where
  pub held-cut : (found asked : ℕ) → asked ≡ length iov.bytes → FoundEnd m file by asked p q (Ok found) → ReadsCut m file by off found a b q r iov later answer → ReadsHeld m file by off a b p r iov later answer
  held-cut found asked asked_is finds cut =
      let f = subst (λ n. FoundEnd m file by n p q (Ok found)) asked_is finds in
      let size = m.geometry.block_size in
      let looks = looks-only m p (file_at m file).size (length iov.bytes) (file_end m file) p.caller by f.acts (Ok found) f.finds in
      let read = cut.read.read in
      let steps = read.steps in
      let caller : q.caller ≡ p.caller = acted-caller f.acts p q f.did.acted in
      let own : own_entries (f.acts ++ read.acts) ≡ own_entries read.acts = own_entries-append f.acts read.acts ∙ ap (λ l. l ++ own_entries read.acts) looks.own in
      let loans : loans_in (f.acts ++ read.acts) ≡ loans_in read.acts = ap (total lendings) own in
      let bytes : bytes_read m p [] (f.acts ++ read.acts) ≡ bytes_read m q [] read.acts = bytes-after m p q f.acts of f.did.acted read.acts ∙ ap (λ l. l ++ bytes_read m q [] read.acts) looks.bytes in
      let place = cut.count_is in
      record {
        acts = f.acts ++ read.acts;
        did = call-then m file (may_read by) p q r f.acts read.acts f.did steps.did;
        locks = lock_acts-append f.acts read.acts ∙ ap (λ l. l ++ lock_acts read.acts) looks.locks ∙ steps.locks;
        last = steps.last ∙ (acted-pass f.acts p q f.did.acted).last ∙ looks.last;
        read = record {
          found = Ok found;
          count = cut.count;
          fault = cut.came.fault;
          callers = subst (All (λ (e : Entry). e.caller ≡ p.caller)) (sym own) (subst (λ n. All (λ (e : Entry). e.caller ≡ n) (own_entries read.acts)) caller steps.callers);
          placed = All-append (IsPlaced m file) f.acts read.acts (quiet-placed m file f.acts (subst (All IsQuiet) (sym looks.own) (All-nil IsQuiet))) steps.placed;
          run = (let two = bios-append f.acts read.acts in let none = looks.bios in let ran = steps.run in let e : bios_in (f.acts ++ read.acts) ≡ loans_in read.acts = omega (arith, two, none, ran) in e) ∙ sym loans;
          lane = subst (λ es. ServedBy a b (dones_in es)) (sym own) steps.lane;
          sizes = subst (λ l. FindsEnd (file_at m file).size (length iov.bytes) (file_end m file) p.caller by l (Ok found))
              (sym (size_acts-append f.acts read.acts ∙ ap (λ l. l ++ size_acts read.acts) looks.sizes ∙ ap (λ l. f.acts ++ l) steps.sizes ∙ append-nil f.acts)) f.finds;
          stops = subst (λ n. EndsAt size off (read_to found off (length iov.bytes)) n cut.came.fault) (sym place) cut.read.stops;
          stamps = ap (stamps_in size) own ∙ read.stamps ∙ sym cut.stamps;
          bytes = read.bytes ∙ ap (λ l. written_on l iov) (sym bytes);
          counted = ap length bytes ∙ read.long ∙ (let e : cut.came.at - off ≡ cut.count = omega (arith, place) in e);
          parts = subst (ReadOn off (off + cut.count)) (sym own) (subst (λ n. ReadOn off n (own_entries read.acts)) (sym place) read.parts);
          reply = cut.reply;
          lawful = cut.lawful;
          cause = subst (λ es. IfSome cut.came.fault (IsCaused m es)) (sym own) read.cause;
          bios = cut.bios ∙ read.bios ∙ ap (λ n. min n (2 ^ 64 - 1)) (sym loans);
          few = subst (λ n. LendsFew m file (λ b. true) (off / size) n cut.came.fault (f.acts ++ read.acts)) (met-cut size found off (length iov.bytes))
              (few-then m file (λ b. true) (off / size) (blocks_met size (span off (read_to found off (length iov.bytes)))) cut.came.fault f.acts read.acts
              (few-quiet m file (λ b. true) (off / size) (blocks_met size (span off (read_to found off (length iov.bytes)))) None f.acts (subst AreSound (sym looks.own) (All-nil (λ (e : Entry). IsSound e.event))) (ap (total lendings) looks.own)) cut.read.few);
        };
      }

-- the read without memory to look at the size
pub held-none : (m : MountView) (file : FileId) (by : Tag) (off : ℕ) (a : LaneView) (p q : PassView) (iov : IovView) (answer : Answer) (e : AllocError) (asked : ℕ) → asked ≡ length iov.bytes → length iov.bytes ≡ sum iov.lengths → FoundEnd m file by asked p q (Err e) → answer ≡ record { reply = reply.Err fault.NoMemory 0; bios = 0 }
    → ReadsHeld m file by off a a p q iov iov answer
held-none m file by off a p q iov answer e asked asked_is joined finds is =
    let f = subst (λ n. FoundEnd m file by n p q (Err e)) asked_is finds in
    let size = m.geometry.block_size in
    let looks = looks-only m p (file_at m file).size (length iov.bytes) (file_end m file) p.caller by f.acts (Err e) f.finds in
    let loans : loans_in f.acts ≡ 0 = ap (total lendings) looks.own in
    subst (ReadsHeld m file by off a a p q iov iov) (sym is) (record {
      acts = f.acts;
      did = f.did;
      locks = looks.locks;
      last = (acted-pass f.acts p q f.did.acted).last ∙ looks.last;
      read = record {
        found = Err e;
        count = 0;
        fault = Some fault.NoMemory;
        callers = subst (All (λ (x : Entry). x.caller ≡ p.caller)) (sym looks.own) (All-nil (λ (x : Entry). x.caller ≡ p.caller));
        placed = quiet-placed m file f.acts (subst (All IsQuiet) (sym looks.own) (All-nil IsQuiet));
        run = looks.bios ∙ sym loans;
        lane = subst (λ es. ServedBy a a (dones_in es)) (sym looks.own) (served-none a);
        sizes = subst (λ l. FindsEnd (file_at m file).size (length iov.bytes) (file_end m file) p.caller by l (Err e)) (sym looks.sizes) f.finds;
        stops = (refl, refl);
        stamps = ap (stamps_in size) looks.own ∙ sym (over-nothing size (done_by by) 0);
        bytes = sym (written-none iov) ∙ ap (λ l. written_on l iov) (sym looks.bytes);
        counted = ap length looks.bytes;
        parts = subst (ReadOn off (off + 0)) (sym looks.own) (let z : off ≡ off + 0 = omega arith in z);
        reply = refl;
        lawful = no-memory m.geometry.grain size (file_at m file).blocks off iov.lengths (file_end m file) (length iov.bytes) (found-none (file_at m file).size (length iov.bytes) (file_end m file) p.caller by f.acts e f.finds) joined;
        cause = tt;
        bios = ap (λ n. min n (2 ^ 64 - 1)) (sym loans);
        few = few-quiet m file (λ b. true) (off / size) (blocks_met size (range_in (file_end m file) off (length iov.bytes))) (Some fault.NoMemory) f.acts (subst AreSound (sym looks.own) (All-nil (λ (x : Entry). IsSound x.event))) loans;
      };
    })

-- the acts of a read under its class, with others around them that make no entry, run no bio, meet no size and give no bytes
unfoldable reads-around : (m : MountView) (file : FileId) (by : Tag) (off : ℕ) (a b : LaneView) (p start : PassView) (iov later : IovView) (answer : Answer) (inner acts : List Act) → start.caller ≡ p.caller → own_entries acts ≡ own_entries inner → bios_in acts ≡ bios_in inner → size_acts acts ≡ size_acts inner
    → bytes_read m p [] acts ≡ bytes_read m start [] inner → ((low n : ℕ) (o : Option Fault) → LendsFew m file (λ b. true) low n o inner → LendsFew m file (λ b. true) low n o acts) → (All (IsPlaced m file) inner → All (IsPlaced m file) acts) → ReadsBy m file by off a b start iov later answer inner → ReadsBy m file by off a b p iov later answer acts
reads-around m file by off a b p start iov later answer inner acts caller own bios sizes bytes few placed r =
    let loans : loans_in acts ≡ loans_in inner = ap (total lendings) own in
    record {
      found = r.found;
      count = r.count;
      fault = r.fault;
      callers = subst (All (λ (e : Entry). e.caller ≡ p.caller)) (sym own) (subst (λ n. All (λ (e : Entry). e.caller ≡ n) (own_entries inner)) caller r.callers);
      placed = placed r.placed;
      run = bios ∙ r.run ∙ sym loans;
      lane = subst (λ es. ServedBy a b (dones_in es)) (sym own) r.lane;
      sizes = subst (λ l. FindsEnd (file_at m file).size (length iov.bytes) (file_end m file) p.caller by l r.found) (sym sizes) (subst (λ n. FindsEnd (file_at m file).size (length iov.bytes) (file_end m file) n by (size_acts inner) r.found) caller r.sizes);
      stops = r.stops;
      stamps = ap (stamps_in m.geometry.block_size) own ∙ r.stamps;
      bytes = r.bytes ∙ ap (λ l. written_on l iov) (sym bytes);
      counted = ap length bytes ∙ r.counted;
      parts = subst (ReadOn off (off + r.count)) (sym own) r.parts;
      reply = r.reply;
      lawful = r.lawful;
      cause = subst (λ es. IfSome r.fault (IsCaused m es)) (sym own) r.cause;
      bios = r.bios ∙ ap (λ n. min n (2 ^ 64 - 1)) (sym loans);
      few = few (off / m.geometry.block_size) (blocks_met m.geometry.block_size (range_in (found_end (file_end m file) r.found) off (length iov.bytes))) r.fault r.few;
    }

-- the call: its number, its class, the read under it, and the end of the class
module _ (m : MountView) (file : FileId) (call : ℕ) (p p1 p2 : PassView) (hold : HoldView) (may : MayCall m file call p) (numbered : p1 ≡ with_call p call) (takes : TakesOut (IsWon Cached) p1 file p2 hold) where
  first-acted : Acted (Number call ∷ Take file Cached takes.seat hold.seat ∷ []) p p2
  first-acted = (p1, numbered, (p2, taken-act takes, refl))

  first-did : CallActs m file (may_read (tag_of p call)) p p2 (Number call ∷ Take file Cached takes.seat hold.seat ∷ [])
  first-did = record {
    acted = first-acted;
    at_file = All-cons (IsActAt m file) (Number call) (Take file Cached takes.seat hold.seat ∷ []) tt (All-cons (IsActAt m file) (Take file Cached takes.seat hold.seat) [] refl (All-nil (IsActAt m file)));
    made = All-nil (λ (e : Entry). IsTrue (may_read (tag_of p call) e.event));
    closed = λ k. refl;
  }

  -- what the read under the class asks
  pub held-caller : (by : Tag) → by ≡ tag_of p call → by.caller ≡ p2.caller
  held-caller by is = ap (λ (t : Tag). t.caller) is ∙ sym (acted-caller (Number call ∷ Take file Cached takes.seat hold.seat ∷ []) p p2 first-acted)

  pub held-shares : HasShares m file 2 p2
  held-shares = shares-after m file (may_read (tag_of p call)) 2 p p2 (Number call ∷ Take file Cached takes.seat hold.seat ∷ []) (omega arith) first-did (λ k has. (let most = may.shares k has in omega (arith, most)))

  module _ (off : ℕ) (a b : LaneView) (q : PassView) (iov later : IovView) (answer : Answer) (by : Tag) (by_is : by ≡ tag_of p call) (held_by : ReadsHeld m file by off a b p2 q iov later answer) where
    held : ReadsHeld m file (tag_of p call) off a b p2 q iov later answer
    held = subst (λ t. ReadsHeld m file t off a b p2 q iov later answer) by_is held_by

    -- the hold is still the pass's
    pub still-held : IsHoldOf m p2 hold → IsHoldOf m q hold
    still-held is = record {
      caller = is.caller ∙ sym (acted-caller held.acts p2 q held.did.acted);
      lock = is.lock;
      out = ap (λ l. slice_get l hold.file.0) (acted-locks held.acts p2 q held.did.acted held.locks) ∙ is.out;
    }

    module _ (r : PassView) (mine : IsHoldOf m q hold) (leaves : BringsBack (IsLeft Cached) q hold r) where
      abbrev last_act : Act
      last_act = Leave hold.file Cached hold.seat leaves.next

      abbrev rest_acts : List Act
      rest_acts = held.acts ++ last_act ∷ []

      abbrev call_acts : List Act
      call_acts = Number call ∷ Take file Cached takes.seat hold.seat ∷ rest_acts

      last-did : CallActs m file (may_read (tag_of p call)) q r (last_act ∷ [])
      last-did = record {
        acted = (r, left-act mine leaves, refl);
        at_file = All-cons (IsActAt m file) last_act [] takes.file_is (All-nil (IsActAt m file));
        made = All-nil (λ (e : Entry). IsTrue (may_read (tag_of p call) e.event));
        closed = λ k. refl;
      }

      call-did : CallActs m file (may_read (tag_of p call)) p r call_acts
      call-did = call-then m file (may_read (tag_of p call)) p p2 r (Number call ∷ Take file Cached takes.seat hold.seat ∷ []) rest_acts first-did (call-then m file (may_read (tag_of p call)) p2 q r held.acts (last_act ∷ []) held.did last-did)

      call-few : (low n : ℕ) (o : Option Fault) → LendsFew m file (λ b. true) low n o held.acts → LendsFew m file (λ b. true) low n o call_acts
      call-few low n o few =
          few-then m file (λ b. true) low n o (Number call ∷ Take file Cached takes.seat hold.seat ∷ []) rest_acts
          (few-quiet m file (λ b. true) low n None (Number call ∷ Take file Cached takes.seat hold.seat ∷ []) (All-nil (λ (e : Entry). IsSound e.event)) refl)
          (few-ended m file (λ b. true) low n o held.acts (last_act ∷ []) few (All-nil (λ (e : Entry). IsSound e.event)) refl)

      -- the call's own number and its class leave no stamps
      call-placed : All (IsPlaced m file) held.acts → All (IsPlaced m file) call_acts
      call-placed placed =
          All-cons (IsPlaced m file) (Number call) (Take file Cached takes.seat hold.seat ∷ rest_acts) tt
          (All-cons (IsPlaced m file) (Take file Cached takes.seat hold.seat) rest_acts tt (All-append (IsPlaced m file) held.acts (last_act ∷ []) placed (All-cons (IsPlaced m file) last_act [] tt (All-nil (IsPlaced m file)))))

      within-budget : KeepsBudget m file (off / m.geometry.block_size) (blocks_met m.geometry.block_size (range_in (found_end (file_end m file) held.read.found) off (length iov.bytes))) p call_acts
      within-budget alone happened =
          let low = off / m.geometry.block_size in
          let n = blocks_met m.geometry.block_size (range_in (found_end (file_end m file) held.read.found) off (length iov.bytes)) in
          let few = call-few low n held.read.fault held.read.few in
          subst (λ k. loans_in call_acts ≤ k) (how-many-all low n)
          (loans-few m file (λ b. true) low n p call_acts few.among (All-weaker (λ (e : Entry). IsTrue (may_read (tag_of p call) e.event)) (λ (e : Entry). IsTrue (keeps_read e.event)) (λ e is. read-keeps (tag_of p call) e.event is) (own_entries call_acts) call-did.made) few.falls alone happened)

      pub pread-so : Preads m file call off a b p r iov later answer
      unfolding reads-around
      pread-so =
          let own : own_entries rest_acts ≡ own_entries held.acts = own_entries-append held.acts (last_act ∷ []) ∙ append-nil (own_entries held.acts) in
          let bios : bios_in rest_acts ≡ bios_in held.acts = (let two = bios-append held.acts (last_act ∷ []) in omega (arith, two)) in
          let sizes : size_acts rest_acts ≡ size_acts held.acts = size_acts-append held.acts (last_act ∷ []) ∙ append-nil (size_acts held.acts) in
          let bytes : bytes_read m p [] call_acts ≡ bytes_read m p2 [] held.acts = bytes-after m p p2 (Number call ∷ Take file Cached takes.seat hold.seat ∷ []) may.of first-acted rest_acts ∙ read-append m p2 [] held.acts (last_act ∷ []) ∙ append-nil (bytes_read m p2 [] held.acts) in
          record {
            acts = call_acts;
            did = call-did;
            class = (
              takes.seat,
              hold.seat,
              hold.seat,
              leaves.next,
              ap (λ l. Take file Cached takes.seat hold.seat ∷ l) (lock_acts-append held.acts (last_act ∷ []) ∙ ap (λ l. l ++ last_act ∷ []) held.locks) ∙ ap (λ f. Take file Cached takes.seat hold.seat ∷ Leave f Cached hold.seat leaves.next ∷ []) takes.file_is,
            );
            read = reads-around m file (tag_of p call) off a b p p2 iov later answer held.acts call_acts (acted-caller (Number call ∷ Take file Cached takes.seat hold.seat ∷ []) p p2 first-acted) own bios sizes bytes call-few call-placed held.read;
            budget = λ alone happened. within-budget alone happened;
          }

      pub pread-leaves : IsPassOf m r → KeepsTickets p1 p2 → KeepsTickets p2 q → KeepsTickets q r → LeavesPass m file call p r
      pread-leaves of taken kept left = record {
        of = of;
        last = ap (λ (v : PassView). v.last) leaves.pass_is ∙ held.last ∙ ap (λ (v : PassView). v.last) takes.pass_is ∙ ap (λ (v : PassView). v.last) numbered;
        caller = acted-caller call_acts p r call-did.acted;
        spare = acted-spare call_acts p r call-did.acted;
        shares = acted-shares call_acts p r call-did.acted call-did.closed;
        free = (
          leaves.next,
          subst (λ (f : FileId). slice_get r.locks f.0 ≡ Some (Some leaves.next)) takes.file_is (ap (λ (v : PassView). slice_get v.locks hold.file.0) leaves.pass_is ∙ set-same q.locks hold.file.0 None (Some leaves.next) mine.out),
        );
        tickets = λ t is. left t (kept t (taken t (tickets-numbered p p1 call t numbered is)));
      }
