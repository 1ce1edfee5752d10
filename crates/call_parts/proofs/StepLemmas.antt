-- Steps of a call put one after another, and what their entries come to.
use Rattle.std.proofs.Common.{◌≡◌, ℕ, zero, suc, ◌+◌, ◌≤◌, inl, Bool, List, [], ◌∷◌, ◌++◌, Some, refl, sym, ap, ◌∙◌, subst, arith, append_assoc}
use Rattle.std.specs.Prelude.{All, IsTrue, None, Option, slice_get}
use Rattle.std.proofs.lemmas.Bool.{false≢true}
use Rattle.std.proofs.lemmas.List.Elements.{All-append, All-cons, All-head, All-nil, All-tail, All-weaker}
use Rattle.std.proofs.lemmas.Option.{none-some}
use Rattle.iob_base.specs.declared.answer.Fault.{Fault}
use Rattle.iob_base.specs.declared.answer.Fault.TheVariants.{Again, Eio, NoMemory, NoSpace, NotAligned, SyncEio, TooFar, Worn}
use Rattle.iob_base.specs.declared.stamp.FileId.{FileId}
use Rattle.iob_base.specs.declared.stamp.Stamp.{Stamp}
use Rattle.fault_device.specs.LaneView.{LaneView}
use Rattle.fault_device.specs.declared.lane.Done.{Done}
use Rattle.fault_device.proofs.Runs.{ran_more, ran_none}
use Rattle.bio_pages.specs.Lists.{AreApart, IsApart, IsOwn}
use Rattle.turn_cell.specs.Views.{CellView}
use Rattle.range_core.specs.EntryStamps.{stamps_by, stamps_in}
use Rattle.range_core.specs.RangeView.{RangeView}
use Rattle.range_core.specs.declared.entry.Entry.{Entry}
use Rattle.range_core.specs.declared.entry.Event.{Event}
use Rattle.range_core.specs.declared.entry.Event.TheVariants as event
use Rattle.range_core.specs.declared.entry.Outcome.{Outcome}
use Rattle.range_core.specs.declared.fault.EventFault.TheVariants as refusal
use Rattle.mount_parts.specs.MountView.{MountView, stripe_at}
use Rattle.mini_fs.specs.Acts.{Act, bios_in, own_entries, seen_in}
use Rattle.mini_fs.specs.Acts.Act.{Turn, SizeTurn, Busy, Open, Close, Take, Refused, Leave, Run, Note, Number}
use Rattle.mini_fs.specs.CallActs.{loans_in, lock_acts, size_acts}
use Rattle.mini_fs.specs.PassView.{IsPassOf, PassView}
use Rattle.mini_fs.proofs.CallEnds.{acted-caller}
use Rattle.mini_fs.proofs.CallLemmas.{call-none, call-then, loans-append, lock_acts-append, own_entries-append, size_acts-append}
use Rattle.call_parts.specs.Causes.{HasFailed, HasOne, IsCaused, WasRefusedFor}
use Rattle.call_parts.specs.Reads.{bytes_given, bytes_read, given_in, seen_at}
use Rattle.call_parts.specs.Steps.{CameOfRise, IsPlaced, IsQuiet, ServedBy, Steps, done_of, dones_in, is_quiet}

-- bios of acts put one after another
pub bios-append : (acts more : List Act) → bios_in (acts ++ more) ≡ bios_in acts + bios_in more
bios-append [] more = omega arith
bios-append (Turn stripe others own ∷ acts) more = bios-append acts more
bios-append (SizeTurn cell others own ∷ acts) more = bios-append acts more
bios-append (Busy stripe word ∷ acts) more = bios-append acts more
bios-append (Open stripe ∷ acts) more = bios-append acts more
bios-append (Close stripe ∷ acts) more = bios-append acts more
bios-append (Take file c before after ∷ acts) more = bios-append acts more
bios-append (Refused file c before after ∷ acts) more = bios-append acts more
bios-append (Leave file c before after ∷ acts) more = bios-append acts more
bios-append (Run bios ∷ acts) more = (let rest = bios-append acts more in omega (arith, rest))
bios-append (Note begun ∷ acts) more = bios-append acts more
bios-append (Number call ∷ acts) more = bios-append acts more

-- transfers of entries put one after another
pub dones-append : (entries more : List Entry) → dones_in (entries ++ more) ≡ dones_in entries ++ dones_in more
dones-append [] more = refl
dones-append (e ∷ entries) more = ap (λ l. done_of e.event e.outcome ++ l) (dones-append entries more) ∙ sym (append_assoc (done_of e.event e.outcome) (dones_in entries) (dones_in more))

-- failed transfers within counts of a lane are within wider ones
own-wider : (number then now low high : ℕ) (dones : List Done) → low ≤ then → now ≤ high → All (IsOwn number then now) dones → All (IsOwn number low high) dones
own-wider number then now low high dones lower higher own =
    All-weaker (IsOwn number then now) (IsOwn number low high) (λ d is failed. let h = is failed in let a = h.1 in let b = h.2 in (h.0, omega (arith, a, lower), omega (arith, b, higher))) dones own

-- a failed transfer shares no rise with later ones
apart-later : (number low mid high : ℕ) (d : Done) (dones : List Done) → IsOwn number low mid d → All (IsOwn number mid high) dones → All (IsApart d) dones
apart-later number low mid high d dones mine own =
    All-weaker (IsOwn number mid high) (IsApart d) (λ e is failed other. let a = (mine failed).2 in let b = (is other).1 in inl (omega (arith, a, b))) dones own

apart-then : (number low mid high : ℕ) (dones more : List Done) → All (IsOwn number low mid) dones → All (IsOwn number mid high) more → AreApart dones → AreApart more → AreApart (dones ++ more)
apart-then number low mid high [] more own theirs first later = later
apart-then number low mid high (d ∷ dones) more own theirs first later = (
  All-append (IsApart d) dones more first.0 (apart-later number low mid high d more (All-head (IsOwn number low mid) d dones own) theirs),
  apart-then number low mid high dones more (All-tail (IsOwn number low mid) d dones own) theirs first.1 later,
)

-- a lane that did nothing, and one that served two steps
pub served-none : (lane : LaneView) → ServedBy lane lane []
served-none lane = record { ran = (0, ran_none lane); own = record { own = All-nil (IsOwn lane.number lane.count lane.count); apart = tt }; rose = All-nil CameOfRise }

pub served-then : (a b c : LaneView) (dones more : List Done) → ServedBy a b dones → ServedBy b c more → ServedBy a c (dones ++ more)
served-then a b c dones more first later =
    let one = first.ran.1 in
    let two = later.ran.1 in
    let low = one.never_falls in
    let high = two.never_falls in
    let theirs : All (IsOwn a.number b.count c.count) more = subst (λ n. All (IsOwn n b.count c.count) more) one.number later.own.own in
    record {
      ran = (first.ran.0 + later.ran.0, ran_more first.ran.0 later.ran.0 a b c one two);
      own = record {
        own = All-append (IsOwn a.number a.count c.count) dones more
            (own-wider a.number a.count b.count a.count c.count dones (omega arith) high first.own.own)
            (own-wider a.number b.count c.count a.count c.count more low (omega arith) theirs);
        apart = apart-then a.number a.count b.count c.count dones more first.own.own theirs first.own.apart later.own.apart;
      };
      rose = All-append CameOfRise dones more first.rose later.rose;
    }

-- no act is a step, and two steps are one
pub steps-none : (m : MountView) (file : FileId) (may : Event → Bool) (lane : LaneView) (p : PassView) → IsPassOf m p → Steps m file may lane lane p p []
steps-none m file may lane p of = record {
  of = of;
  did = call-none m file may p;
  locks = refl;
  sizes = refl;
  last = refl;
  callers = All-nil (λ (e : Entry). e.caller ≡ p.caller);
  placed = All-nil (IsPlaced m file);
  run = refl;
  lane = served-none lane;
  tickets = λ t is. is;
}

pub steps-then : (m : MountView) (file : FileId) (may : Event → Bool) (a b c : LaneView) (p q r : PassView) (acts more : List Act) → Steps m file may a b p q acts → Steps m file may b c q r more → Steps m file may a c p r (acts ++ more)
steps-then m file may a b c p q r acts more first later =
    let same : q.caller ≡ p.caller = acted-caller acts p q first.did.acted in
    let entries : own_entries (acts ++ more) ≡ own_entries acts ++ own_entries more = own_entries-append acts more in
    let ran = first.run in
    let ran' = later.run in
    let bios = bios-append acts more in
    let loans = loans-append acts more in
    record {
      of = later.of;
      did = call-then m file may p q r acts more first.did later.did;
      locks = lock_acts-append acts more ∙ ap (λ l. l ++ lock_acts more) first.locks ∙ later.locks;
      sizes = size_acts-append acts more ∙ ap (λ l. l ++ size_acts more) first.sizes ∙ later.sizes;
      last = later.last ∙ first.last;
      callers = subst (All (λ (e : Entry). e.caller ≡ p.caller)) (sym entries) (All-append (λ (e : Entry). e.caller ≡ p.caller) (own_entries acts) (own_entries more) first.callers (subst (λ n. All (λ (e : Entry). e.caller ≡ n) (own_entries more)) same later.callers));
      placed = All-append (IsPlaced m file) acts more first.placed later.placed;
      run = bios ∙ ap (λ n. n + bios_in more) ran ∙ ap (λ n. loans_in acts + n) ran' ∙ sym loans;
      lane = subst (ServedBy a c) (sym (ap dones_in entries ∙ dones-append (own_entries acts) (own_entries more))) (served-then a b c (dones_in (own_entries acts)) (dones_in (own_entries more)) first.lane later.lane);
      tickets = λ t is. later.tickets t (first.tickets t is);
    }

-- a step that may make only such events is one that may make more
pub steps-may : (m : MountView) (file : FileId) (may might : Event → Bool) (a b : LaneView) (p q : PassView) (acts : List Act) → ((e : Event) → IsTrue (may e) → IsTrue (might e)) → Steps m file may a b p q acts → Steps m file might a b p q acts
steps-may m file may might a b p q acts more s = record {
  of = s.of;
  did = record {
    acted = s.did.acted;
    at_file = s.did.at_file;
    made = All-weaker (λ (e : Entry). IsTrue (may e.event)) (λ (e : Entry). IsTrue (might e.event)) (λ e is. more e.event is) (own_entries acts) s.did.made;
    closed = s.did.closed;
  };
  locks = s.locks;
  sizes = s.sizes;
  last = s.last;
  callers = s.callers;
  placed = s.placed;
  run = s.run;
  lane = s.lane;
  tickets = s.tickets;
}

-- one of a part of a list is one of the list
module _ {A : Type 0} (P : A → Type 0) where
  pub one-left : (xs ys : List A) → HasOne P xs → HasOne P (xs ++ ys)
  one-left [] ys (i, x, at, is) = absurd (none-some x at)
  one-left (z ∷ xs) ys (zero, x, at, is) = (zero, x, at, is)
  one-left (z ∷ xs) ys (suc i, x, at, is) = let rest = one-left xs ys (i, x, at, is) in (suc rest.0, rest.1, rest.2, rest.3)

  pub one-right : (xs ys : List A) → HasOne P ys → HasOne P (xs ++ ys)
  one-right [] ys one = one
  one-right (z ∷ xs) ys one = let rest = one-right xs ys one in (suc rest.0, rest.1, rest.2, rest.3)

-- what caused a fault of a part of a call caused it in the whole
pub caused-left : (m : MountView) (entries more : List Entry) (fault : Fault) → IsCaused m entries fault → IsCaused m (entries ++ more) fault
caused-left m entries more (Eio lane before after) is = subst (HasOne (HasFailed lane before after)) (sym (dones-append entries more)) (one-left (HasFailed lane before after) (dones_in entries) (dones_in more) is)
caused-left m entries more (Worn cookie) is = one-left (WasRefusedFor (refusal.Worn cookie)) entries more is
caused-left m entries more (NoSpace wanted found) is = (one-left (WasRefusedFor (refusal.NoSpace wanted found)) entries more is.0, is.1)
caused-left m entries more NoMemory is = tt
caused-left m entries more (SyncEio seen count) is = absurd is
caused-left m entries more (Again why) is = absurd is
caused-left m entries more (NotAligned alignment) is = absurd is
caused-left m entries more (TooFar offset end) is = absurd is

pub caused-right : (m : MountView) (entries more : List Entry) (fault : Fault) → IsCaused m more fault → IsCaused m (entries ++ more) fault
caused-right m entries more (Eio lane before after) is = subst (HasOne (HasFailed lane before after)) (sym (dones-append entries more)) (one-right (HasFailed lane before after) (dones_in entries) (dones_in more) is)
caused-right m entries more (Worn cookie) is = one-right (WasRefusedFor (refusal.Worn cookie)) entries more is
caused-right m entries more (NoSpace wanted found) is = (one-right (WasRefusedFor (refusal.NoSpace wanted found)) entries more is.0, is.1)
caused-right m entries more NoMemory is = tt
caused-right m entries more (SyncEio seen count) is = absurd is
caused-right m entries more (Again why) is = absurd is
caused-right m entries more (NotAligned alignment) is = absurd is
caused-right m entries more (TooFar offset end) is = absurd is

-- an entry that is quiet leaves no stamps and gives no bytes
quiet-stamp : (size : ℕ) (e : Event) (o : Outcome) → IsTrue (is_quiet e) → stamps_by size e o ≡ []
quiet-stamp size (event.Fetch by from to) o is = absurd (false≢true is)
quiet-stamp size (event.Store by seen from to bytes) o is = absurd (false≢true is)
quiet-stamp size (event.StoreZeros by seen from to) o is = absurd (false≢true is)
quiet-stamp size (event.LendDirect by seen op block blocks) o is = absurd (false≢true is)
quiet-stamp size (event.DirectBack by op ticket block kind pages done) o is = absurd (false≢true is)
quiet-stamp size (event.PartBack by ticket block kind from to bytes done) o is = absurd (false≢true is)
quiet-stamp size (event.DirectNow by block blocks) o is = absurd (false≢true is)
quiet-stamp size (event.Wipe by block blocks) o is = absurd (false≢true is)
quiet-stamp size (event.DaxGet by seen from to) o is = absurd (false≢true is)
quiet-stamp size (event.DaxPut by seen from to bytes) o is = absurd (false≢true is)
quiet-stamp size (event.DaxZero by seen from to) o is = absurd (false≢true is)
quiet-stamp size e o is = refl

-- nor does an act that made such an entry leave one elsewhere
pub quiet-act : (m : MountView) (file : FileId) (stripe : ℕ) (others : List Entry) (own : Entry) → IsQuiet own → IsPlaced m file (Turn stripe others own)
quiet-act m file stripe others own is = subst (All (λ x. stripe ≡ stripe_at m file x.0)) (sym (quiet-stamp m.geometry.block_size own.event own.outcome is)) (All-nil (λ (x : ℕ × Stamp). stripe ≡ stripe_at m file x.0))

quiet-given : (opening : RangeView) (history : List Entry) (e : Event) (o : Outcome) → IsTrue (is_quiet e) → bytes_given opening history e o ≡ []
quiet-given opening history (event.Fetch by from to) o is = absurd (false≢true is)
quiet-given opening history e o is = refl

pub quiet-stamps : (size : ℕ) (entries : List Entry) → All IsQuiet entries → stamps_in size entries ≡ []
quiet-stamps size [] quiet = refl
quiet-stamps size (e ∷ entries) quiet =
    ap (λ l. l ++ stamps_in size entries) (quiet-stamp size e.event e.outcome (All-head IsQuiet e entries quiet)) ∙ quiet-stamps size entries (All-tail IsQuiet e entries quiet)

quiet-in : (cell : Option (CellView RangeView)) (history : List Entry) (e : Entry) → IsQuiet e → given_in cell history e ≡ []
quiet-in None history e is = refl
quiet-in (Some cell) history e is = quiet-given cell.opening history e.event e.outcome is

pub quiet-bytes : (m : MountView) (p : PassView) (before acts : List Act) → All IsQuiet (own_entries acts) → bytes_read m p before acts ≡ []
quiet-bytes m p before [] quiet = refl
quiet-bytes m p before (Turn stripe others own ∷ acts) quiet =
    ap (λ l. l ++ bytes_read m p (before ++ Turn stripe others own ∷ []) acts) (quiet-in (slice_get m.stripes stripe) ((seen_at p stripe ++ seen_in stripe before) ++ others) own (All-head IsQuiet own (own_entries acts) quiet))
    ∙ quiet-bytes m p (before ++ Turn stripe others own ∷ []) acts (All-tail IsQuiet own (own_entries acts) quiet)
quiet-bytes m p before (SizeTurn cell others own ∷ acts) quiet = quiet-bytes m p (before ++ SizeTurn cell others own ∷ []) acts quiet
quiet-bytes m p before (Busy stripe word ∷ acts) quiet = quiet-bytes m p (before ++ Busy stripe word ∷ []) acts quiet
quiet-bytes m p before (Open stripe ∷ acts) quiet = quiet-bytes m p (before ++ Open stripe ∷ []) acts quiet
quiet-bytes m p before (Close stripe ∷ acts) quiet = quiet-bytes m p (before ++ Close stripe ∷ []) acts quiet
quiet-bytes m p before (Take file c was now ∷ acts) quiet = quiet-bytes m p (before ++ Take file c was now ∷ []) acts quiet
quiet-bytes m p before (Refused file c was now ∷ acts) quiet = quiet-bytes m p (before ++ Refused file c was now ∷ []) acts quiet
quiet-bytes m p before (Leave file c was now ∷ acts) quiet = quiet-bytes m p (before ++ Leave file c was now ∷ []) acts quiet
quiet-bytes m p before (Run bios ∷ acts) quiet = quiet-bytes m p (before ++ Run bios ∷ []) acts quiet
quiet-bytes m p before (Note begun ∷ acts) quiet = quiet-bytes m p (before ++ Note begun ∷ []) acts quiet
quiet-bytes m p before (Number call ∷ acts) quiet = quiet-bytes m p (before ++ Number call ∷ []) acts quiet

-- acts that made only such entries left no stamps at other stripes than those of their blocks
pub quiet-placed : (m : MountView) (file : FileId) (acts : List Act) → All IsQuiet (own_entries acts) → All (IsPlaced m file) acts
quiet-placed m file [] quiet = All-nil (IsPlaced m file)
quiet-placed m file (Turn stripe others own ∷ acts) quiet =
    All-cons (IsPlaced m file) (Turn stripe others own) acts (quiet-act m file stripe others own (All-head IsQuiet own (own_entries acts) quiet)) (quiet-placed m file acts (All-tail IsQuiet own (own_entries acts) quiet))
quiet-placed m file (SizeTurn cell others own ∷ acts) quiet = All-cons (IsPlaced m file) (SizeTurn cell others own) acts tt (quiet-placed m file acts quiet)
quiet-placed m file (Busy stripe word ∷ acts) quiet = All-cons (IsPlaced m file) (Busy stripe word) acts tt (quiet-placed m file acts quiet)
quiet-placed m file (Open stripe ∷ acts) quiet = All-cons (IsPlaced m file) (Open stripe) acts tt (quiet-placed m file acts quiet)
quiet-placed m file (Close stripe ∷ acts) quiet = All-cons (IsPlaced m file) (Close stripe) acts tt (quiet-placed m file acts quiet)
quiet-placed m file (Take at c before after ∷ acts) quiet = All-cons (IsPlaced m file) (Take at c before after) acts tt (quiet-placed m file acts quiet)
quiet-placed m file (Refused at c before after ∷ acts) quiet = All-cons (IsPlaced m file) (Refused at c before after) acts tt (quiet-placed m file acts quiet)
quiet-placed m file (Leave at c before after ∷ acts) quiet = All-cons (IsPlaced m file) (Leave at c before after) acts tt (quiet-placed m file acts quiet)
quiet-placed m file (Run bios ∷ acts) quiet = All-cons (IsPlaced m file) (Run bios) acts tt (quiet-placed m file acts quiet)
quiet-placed m file (Note begun ∷ acts) quiet = All-cons (IsPlaced m file) (Note begun) acts tt (quiet-placed m file acts quiet)
quiet-placed m file (Number call ∷ acts) quiet = All-cons (IsPlaced m file) (Number call) acts tt (quiet-placed m file acts quiet)
