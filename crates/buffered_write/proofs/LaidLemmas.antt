-- What a call tells that laid bytes over a range of a file, with acts at the file's lock and size around them.
use Rattle.std.proofs.Common.{◌≡◌, ℕ, ◌-◌, ◌++◌, ◌∷◌, [], List, None, Some, refl, sym, ap, ◌∙◌, subst, arith, append-nil, take, min}
use Rattle.std.specs.Prelude.{◌^◌, All, Bool, IfSome, IsTrue, slice_get, slice_set}
use Rattle.std.proofs.lemmas.List.Elements.{All-append, All-cons, All-nil}
use Rattle.iob_base.specs.declared.stamp.FileId.{FileId}
use Rattle.iob_base.specs.declared.stamp.Tag.{Tag}
use Rattle.inode_lock.specs.Calls.{IsLeft, IsWon}
use Rattle.inode_lock.specs.declared.word.Class.TheVariants.{Exclusive}
use Rattle.fault_device.specs.LaneView.{LaneView}
use Rattle.turn_cell.specs.Stakes.{total}
use Rattle.range_core.specs.EntryCounts.{lendings}
use Rattle.range_core.specs.EntryStamps.{stamps_in}
use Rattle.range_core.specs.declared.entry.Entry.{Entry}
use Rattle.range_core.specs.declared.entry.Event.{Event}
use Rattle.mount_parts.specs.MountView.{MountView}
use Rattle.mount_parts.proofs.Places.{set-same}
use Rattle.mini_fs.specs.Acts.{Act, Acted, Acts, bios_in, closed_in, opened_in, own_entries}
use Rattle.mini_fs.specs.Acts.Act.{Leave, Take}
use Rattle.mini_fs.specs.CallActs.{CallActs, IsActAt, lock_acts, size_acts, with_call}
use Rattle.mini_fs.specs.Calls.{LeavesPass}
use Rattle.mini_fs.specs.Holds.{BringsBack, HoldView, HoldsNone, IsHoldOf, TakesOut}
use Rattle.mini_fs.specs.PassView.{IsPassOf, PassView}
use Rattle.mini_fs.specs.Tickets.{KeepsTickets}
use Rattle.mini_fs.proofs.ActLemmas.{left-act, taken-act}
use Rattle.mini_fs.proofs.CallEnds.{acted-caller, acted-locks, acted-shares, acted-spare}
use Rattle.mini_fs.proofs.CallLemmas.{call-then, lock_acts-append, own_entries-append, size_acts-append}
use Rattle.call_parts.specs.Causes.{IsCaused}
use Rattle.call_parts.specs.Steps.{IsPlaced, ServedBy, dones_in}
use Rattle.call_parts.specs.declared.progress.Progress.{Progress}
use Rattle.call_parts.proofs.NumberLemmas.{tickets-numbered}
use Rattle.call_parts.proofs.StepLemmas.{bios-append}
use Rattle.buffered_write.specs.PartReads.{ReadsInPart}
use Rattle.buffered_write.proofs.PartReadLemmas.{reads-before, reads-behind}
use Rattle.buffered_write.specs.Lays.{HasLaid, LieOn, laid_in}
use Rattle.buffered_write.specs.LaysLocked.{HeldExclusive, LaidWith}
use Rattle.buffered_write.specs.Pwrites.{IsPlain}

-- a hold is still the pass's after acts that meet no lock
pub held-after : {m : MountView} (p q : PassView) (acts : List Act) (h : HoldView) → Acted acts p q → lock_acts acts ≡ [] → IsHoldOf m p h → IsHoldOf m q h
held-after p q acts h did none is = record {
  caller = is.caller ∙ sym (acted-caller acts p q did);
  lock = is.lock;
  out = ap (λ l. slice_get l h.file.0) (acted-locks acts p q did none) ∙ is.out;
}

-- the class is left
pub free-after : (file : FileId) (p q : PassView) (h : HoldView) (m : MountView) → h.file ≡ file → IsHoldOf m p h → BringsBack (IsLeft Exclusive) p h q → HoldsNone q file
free-after file p q h m same is l =
    (l.next, ap (λ (v : PassView). slice_get v.locks file.0) l.pass_is ∙ ap (λ f. slice_get (slice_set p.locks f.0 (Some l.next)) file.0) same ∙ set-same p.locks file.0 None (Some l.next) (ap (λ f. slice_get p.locks f.0) (sym same) ∙ is.out))

-- An act of a call that makes no entry at a stripe and runs no bio: it takes or leaves the class of the file, or meets its size
pub record IsBare (m : MountView) (file : FileId) (act : Act) (p q : PassView) : Type 0 where
  pub did : Acts act p q
  pub here : IsActAt m file act
  pub own : own_entries (act ∷ []) ≡ []
  pub bios : bios_in (act ∷ []) ≡ 0
  pub closed : (k : ℕ) → opened_in k (act ∷ []) ≡ closed_in k (act ∷ [])
  pub placed : IsPlaced m file act
  pub caller : q.caller ≡ p.caller
  pub last : q.last ≡ p.last
  pub tickets : KeepsTickets p q

-- stamps that acts left, and one behind them
pub placed-then : (m : MountView) (file : FileId) (acts : List Act) (act : Act) → All (IsPlaced m file) acts → IsPlaced m file act → All (IsPlaced m file) (acts ++ act ∷ [])
placed-then m file acts act first last = All-append (IsPlaced m file) acts (act ∷ []) first (All-cons (IsPlaced m file) act [] last (All-nil (IsPlaced m file)))

pub bare-call : (m : MountView) (file : FileId) (may : Event → Bool) (act : Act) (p q : PassView) → IsBare m file act p q → CallActs m file may p q (act ∷ [])
bare-call m file may act p q bare = record {
  acted = (q, bare.did, refl);
  at_file = All-cons (IsActAt m file) act [] bare.here (All-nil (IsActAt m file));
  made = subst (All (λ (e : Entry). IsTrue (may e.event))) (sym bare.own) (All-nil (λ (e : Entry). IsTrue (may e.event)));
  closed = bare.closed;
}

module _ (m : MountView) (may : Event → Bool) (file : FileId) (by : Tag) (from to : ℕ) (bytes : List ℕ) (a b : LaneView) (came : Progress) where
  -- the same entries, told of other acts of the same pass
  laid-told : (Also Other : List Act → Type 0) (p q r s : PassView) (w : LaidWith Also m may file by from to bytes a b p q came) (acts : List Act) → own_entries acts ≡ own_entries w.acts → bios_in acts ≡ bios_in w.acts → p.caller ≡ r.caller → Other acts → IsPassOf m s
      → CallActs m file may r s acts → All (IsPlaced m file) acts → s.last ≡ r.last → KeepsTickets r s → ReadsInPart m file from to came.fault acts → LaidWith Other m may file by from to bytes a b r s came
  laid-told Also Other p q r s w acts own bios caller also of did placed last tickets few = record {
    acts = acts;
    also = also;
    of = of;
    did = did;
    last = last;
    callers = subst (All (λ (e : Entry). e.caller ≡ r.caller)) (sym own) (subst (λ n. All (λ (e : Entry). e.caller ≡ n) (own_entries w.acts)) caller w.callers);
    placed = placed;
    run = bios ∙ w.run ∙ ap (λ es. total lendings es) (sym own);
    lane = subst (λ es. ServedBy a b (dones_in es)) (sym own) w.lane;
    tickets = tickets;
    begins = w.begins;
    laid = subst (λ es. LieOn from came.at (take (came.at - from) bytes) (laid_in m.geometry.block_size es)) (sym own) w.laid;
    stamps = ap (stamps_in m.geometry.block_size) own ∙ w.stamps;
    cause = subst (λ es. IfSome came.fault (IsCaused m es)) (sym own) w.cause;
    bios = w.bios ∙ ap (λ es. min (total lendings es) (2 ^ 64 - 1)) (sym own);
    few = few;
    dry = λ dax. ap (total lendings) own ∙ w.dry dax;
  }

  -- with a bare act before it, and with one behind it
  pub laid-behind : (Also Other : List Act → Type 0) (p q r : PassView) (act : Act) → IsBare m file act p q → (w : LaidWith Also m may file by from to bytes a b q r came) → Other (act ∷ w.acts) → LaidWith Other m may file by from to bytes a b p r came
  laid-behind Also Other p q r act bare w also =
      let bios = bios-append (act ∷ []) w.acts in
      let none = bare.bios in
      laid-told Also Other q r p r w (act ∷ w.acts) (own_entries-append (act ∷ []) w.acts ∙ ap (λ l. l ++ own_entries w.acts) bare.own) (omega (arith, bios, none)) bare.caller also w.of
      (call-then m file may p q r (act ∷ []) w.acts (bare-call m file may act p q bare) w.did) (All-cons (IsPlaced m file) act w.acts bare.placed w.placed) (w.last ∙ bare.last) (λ t is. w.tickets t (bare.tickets t is)) (reads-behind m file from to came.fault (act ∷ []) w.acts bare.own w.few)

  pub laid-before : (Also Other : List Act → Type 0) (p q r : PassView) (act : Act) → IsBare m file act q r → IsPassOf m r → (w : LaidWith Also m may file by from to bytes a b p q came) → Other (w.acts ++ act ∷ []) → LaidWith Other m may file by from to bytes a b p r came
  laid-before Also Other p q r act bare of w also =
      let bios = bios-append w.acts (act ∷ []) in
      let none = bare.bios in
      laid-told Also Other p q p r w (w.acts ++ act ∷ []) (own_entries-append w.acts (act ∷ []) ∙ ap (λ l. own_entries w.acts ++ l) bare.own ∙ append-nil (own_entries w.acts)) (omega (arith, bios, none)) refl also of
      (call-then m file may p q r w.acts (act ∷ []) w.did (bare-call m file may act q r bare)) (placed-then m file w.acts act w.placed bare.placed) (bare.last ∙ w.last) (λ t is. bare.tickets t (w.tickets t is)) (reads-before m file from to came.fault w.acts (act ∷ []) bare.own w.few)

  -- what was laid under mappings, with what else is known of its acts: they met no lock and no size
  pub laid-so : (Also : List Act → Type 0) (p q : PassView) (h : HasLaid m may file by from bytes a b p q came) → Also h.acts → ReadsInPart m file from to came.fault h.acts → LaidWith Also m may file by from to bytes a b p q came
  laid-so Also p q h also few = (let s = h.steps in record {
    acts = h.acts;
    also = also;
    of = s.of;
    did = s.did;
    last = s.last;
    callers = s.callers;
    placed = s.placed;
    run = s.run;
    lane = s.lane;
    tickets = s.tickets;
    begins = h.begins;
    laid = h.laid;
    stamps = h.stamps;
    cause = h.cause;
    bios = h.bios;
    few = few;
    dry = h.dry;
  })

  pub laid-plain : (p q : PassView) (h : HasLaid m may file by from bytes a b p q came) → ReadsInPart m file from to came.fault h.acts → LaidWith IsPlain m may file by from to bytes a b p q came
  laid-plain p q h few = laid-so IsPlain p q h (h.steps.locks, h.steps.sizes) few

  -- what else is known of the same acts
  pub laid-other : (Also Other : List Act → Type 0) (p q : PassView) (w : LaidWith Also m may file by from to bytes a b p q came) → Other w.acts → LaidWith Other m may file by from to bytes a b p q came
  laid-other Also Other p q w also = laid-told Also Other p q p q w w.acts refl refl refl also w.of w.did w.placed w.last w.tickets w.few

  -- under the exclusive class, whatever rests on the entries of the acts and on what they did at sizes
  pub laid-held : (Also Rest : List Act → Type 0) (p p1 p2 q : PassView) (h : HoldView) → TakesOut (IsWon Exclusive) p file p1 h → KeepsTickets p p1 → IsHoldOf m p1 h → (w : LaidWith Also m may file by from to bytes a b p1 p2 came) → lock_acts w.acts ≡ []
      → BringsBack (IsLeft Exclusive) p2 h q → IsPassOf m q → KeepsTickets p2 q → ((acts : List Act) → own_entries acts ≡ own_entries w.acts → size_acts acts ≡ size_acts w.acts → Rest acts) → LaidWith (λ acts. HeldExclusive file acts × Rest acts) m may file by from to bytes a b p q came
  laid-held Also Rest p p1 p2 q h t first is w none l of last rest =
      let took : Act = Take file Exclusive t.seat h.seat in
      let leave : Act = Leave h.file Exclusive h.seat l.next in
      let left = laid-before Also Leaves p1 p2 q leave (record {
        did = left-act (held-after p1 p2 w.acts h w.did.acted none is) l;
        here = t.file_is;
        own = refl;
        bios = refl;
        closed = λ k. refl;
        placed = tt;
        caller = ap (λ (v : PassView). v.caller) l.pass_is;
        last = ap (λ (v : PassView). v.last) l.pass_is;
        tickets = last;
      }) of w (
        ap (λ f. w.acts ++ Leave f Exclusive h.seat l.next ∷ []) t.file_is,
        lock_acts-append w.acts (leave ∷ []) ∙ ap (λ x. x ++ leave ∷ []) none ∙ ap (λ f. Leave f Exclusive h.seat l.next ∷ []) t.file_is,
        own_entries-append w.acts (leave ∷ []) ∙ append-nil (own_entries w.acts),
        size_acts-append w.acts (leave ∷ []) ∙ append-nil (size_acts w.acts),
      ) in
      laid-behind Leaves (λ acts. HeldExclusive file acts × Rest acts) p p1 q took (record {
        did = taken-act t;
        here = refl;
        own = refl;
        bios = refl;
        closed = λ k. refl;
        placed = tt;
        caller = ap (λ (v : PassView). v.caller) t.pass_is;
        last = ap (λ (v : PassView). v.last) t.pass_is;
        tickets = first;
      }) left (
        record { home = t.seat; held = h.seat; next = l.next; work = w.acts; acts_are = ap (λ x. took ∷ x) left.also.0; locks = ap (λ x. took ∷ x) left.also.1 },
        rest (took ∷ left.acts) left.also.2 left.also.3,
      )
    where
      Leaves : List Act → Type 0
      Leaves acts = (acts ≡ w.acts ++ Leave file Exclusive h.seat l.next ∷ []) × (lock_acts acts ≡ Leave file Exclusive h.seat l.next ∷ []) × (own_entries acts ≡ own_entries w.acts) × (size_acts acts ≡ size_acts w.acts)

-- how a call leaves its pass
pub leaves-call : (m : MountView) (file : FileId) (may : Event → Bool) (call : ℕ) (p q : PassView) (acts : List Act) → CallActs m file may p q acts → IsPassOf m q → HoldsNone q file → KeepsTickets (with_call p call) q → q.last ≡ call → LeavesPass m file call p q
leaves-call m file may call p q acts did of free tickets last = record {
  of = of;
  last = last;
  caller = acted-caller acts p q did.acted;
  spare = acted-spare acts p q did.acted;
  shares = acted-shares acts p q did.acted did.closed;
  free = free;
  tickets = λ t is. tickets t (tickets-numbered p (with_call p call) call t refl is);
}
