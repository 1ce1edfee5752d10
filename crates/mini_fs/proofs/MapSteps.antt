-- Turns after turns, and what a look and a promise tell of a file.
use Rattle.std.proofs.Common.{◌≡◌, ℕ, ◌+◌, ◌<◌, ◌≤◌, Bool, true, false, List, [], ◌∷◌, ◌++◌, length, set, Some, None, Ok, Err, refl, sym, ap, ◌∙◌, subst, arith, append_assoc, append-nil}
use Rattle.std.specs.Prelude.{◌%◌, ◌&&◌, ◌==◌, nat_le, not, Result, IfOk, IfErr, IsSome, IsSomeAnd, slice_get, unwrap_or}
use Rattle.iob_base.specs.declared.TheConstants.{WORN}
use Rattle.iob_base.specs.declared.stamp.FileId.{FileId}
use Rattle.iob_base.specs.declared.stamp.Mode.TheVariants.{Cached}
use Rattle.io_model.specs.declared.file.Kind.TheVariants.{Hole}
use Rattle.turn_cell.specs.Views.{SeatView}
use Rattle.range_core.specs.Attaches.{IsRefusedFor, holes_in}
use Rattle.range_core.specs.KnownSamples.{WasGiven}
use Rattle.range_core.specs.RangeView.{LiesAt}
use Rattle.range_core.specs.Refusals.{where_true, ◌orElse◌}
use Rattle.range_core.specs.Reserves.{reserve_fault}
use Rattle.range_core.specs.Samples.{MaySample}
use Rattle.range_core.specs.declared.entry.Entry.{Entry}
use Rattle.range_core.specs.declared.fault.EventFault.{EventFault}
use Rattle.range_core.specs.declared.fault.EventFault.TheVariants.{Stale, Away, Cold, Settled, Unattached, Dirty, Worn, NoMemory, NoSpace, Poison}
use Rattle.range_core.specs.declared.sample.Sample.{Sample}
use Rattle.mount_parts.specs.MountView.{MountView, HasBlock, IsLaidOut, file_at, stripe_at}
use Rattle.mount_parts.proofs.Places.{set-same}
use Rattle.mini_fs.specs.MapTurns.{MakesTurn, MakesTurns, MapTurn, turns_of}
use Rattle.mini_fs.specs.MapTurns.MapTurn.{Look, Place, Promise}
use Rattle.mini_fs.specs.Mappings.{IsGivenAt, LiesInStripe, begin_fault}
use Rattle.mini_fs.specs.PassView.{PassView, claims_of}
use Rattle.mini_fs.specs.SpaceTurns.{MayReserve}
use Rattle.mini_fs.specs.Turns.{ReadyAt}
use Rattle.mini_fs.proofs.Ready.{run-lies, stripe-here}

-- one turn
pub make-one : (m : MountView) (file : FileId) (t : MapTurn) (p q : PassView) → MakesTurn m file t p q → MakesTurns m file (t ∷ []) p q
make-one m file t p q one = (q, one, refl)

-- turns, and then others
pub make-then : (m : MountView) (file : FileId) (ts us : List MapTurn) (p q r : PassView) → MakesTurns m file ts p q → MakesTurns m file us q r → MakesTurns m file (ts ++ us) p r
make-then m file [] us p q r first more = subst (λ x. MakesTurns m file us x r) first more
make-then m file (t ∷ ts) us p q r (s, one, rest) more = (s, one, make-then m file ts us s q r rest more)

pub turns_of-more : {A : Type 0} (f : A → List MapTurn) (xs : List A) (x : A) → turns_of f (xs ++ x ∷ []) ≡ turns_of f xs ++ f x
turns_of-more f [] x = append-nil (f x)
turns_of-more f (y ∷ xs) x = ap (λ l. f y ++ l) (turns_of-more f xs x) ∙ sym (append_assoc (f y) (turns_of f xs) (f x))

at-end : {A : Type 0} (xs : List A) (x : A) → slice_get (xs ++ x ∷ []) (length xs) ≡ Some x
at-end [] x = refl
at-end (y ∷ xs) x = at-end xs x

module _ (m : MountView) (file : FileId) (laid : IsLaidOut m) where
  -- a block of the file may be looked at
  pub look-ready : (p : PassView) (b most : ℕ) → HasBlock m file b → 0 < most → ReadyAt (λ opening entries claims. MaySample opening b most) m p (stripe_at m file b) (claims_of p)
  look-ready p b most has some cell seat stand =
      let below : b % 64 < 64 = omega arith in
      record { lies = run-lies m file laid b 1 (omega arith) (omega arith) (omega arith) cell stand.cell_is; some = some }

  -- a run of blocks of the file that crosses no multiple of 64 may be used by a turn at its stripe
  pub run-ready : (p : PassView) (b n : ℕ) → 0 < n → b + n ≤ (file_at m file).blocks → b % 64 + n ≤ 64 → ReadyAt (λ opening entries claims. LiesAt opening b n) m p (stripe_at m file b) (claims_of p)
  run-ready p b n some within stripe cell seat stand = run-lies m file laid b n some within stripe cell stand.cell_is

  -- what a look found lies in one stripe
  pub look-lies : (p q : PassView) (b most : ℕ) (sample : Sample) → HasBlock m file b → MakesTurn m file (Look b most sample) p q → LiesInStripe m file sample.extent
  look-lies p q b most sample has t =
      let s = stripe-here m file laid b t.cell has t.stand.cell_is in
      let lies = t.turned.done.lies in
      let starts : sample.extent.block ≡ b = ap (λ (x : Sample). x.extent.block) t.turned.done.sample_is in
      let first = s.first in
      let blocks = s.blocks in
      let low = lies.low in
      let high = lies.high in
      let some = lies.some in
      record { some = some; within = omega arith; stripe = omega arith }

  -- a sample that was given of a hole of a cached file may be promised space
  pub promise-ready : (p : PassView) (seen : Sample) → (file_at m file).mode ≡ Cached → seen.extent.kind ≡ Hole → LiesInStripe m file seen.extent → IsGivenAt p (stripe_at m file seen.extent.block) seen
      → ReadyAt (λ opening entries claims. MayReserve seen seen.extent.length opening entries) m p (stripe_at m file seen.extent.block) (claims_of p)
  promise-ready p seen cached hole lies given cell seat stand =
      let within = lies.within in
      let some = lies.some in
      let s = stripe-here m file laid seen.extent.block cell (omega arith) stand.cell_is in
      record {
        holes = record { mode = s.mode ∙ cached; hole = hole; enough = omega arith; inside = run-lies m file laid seen.extent.block seen.extent.length lies.some lies.within lies.stripe cell stand.cell_is };
        given = subst (λ o. IsSomeAnd o (λ (x : SeatView Entry). WasGiven seen x.seen)) stand.seat_is given;
      }

-- what a look found begins with its block
pub look-starts : (m : MountView) (file : FileId) (p q : PassView) (b most : ℕ) (sample : Sample) → MakesTurn m file (Look b most sample) p q → sample.extent.block ≡ b
look-starts m file p q b most sample t = ap (λ (x : Sample). x.extent.block) t.turned.done.sample_is

-- after a look the pass was given the sample
pub look-given : (m : MountView) (file : FileId) (p q : PassView) (b most : ℕ) (sample : Sample) → MakesTurn m file (Look b most sample) p q → IsGivenAt q (stripe_at m file b) sample
look-given m file p q b most sample t =
    let stripe = stripe_at m file b in
    let h = t.turned in
    let there : slice_get (set p.stripes stripe t.after) stripe ≡ Some t.after = set-same p.stripes stripe t.before t.after t.stand.seat_is in
    let here : slice_get q.stripes stripe ≡ Some t.after = subst (λ (x : PassView). slice_get x.stripes stripe ≡ Some t.after) (sym t.pass_is) there in
    let last : slice_get ((t.before.seen ++ h.others) ++ h.entry ∷ []) (length (t.before.seen ++ h.others)) ≡ Some h.entry = at-end (t.before.seen ++ h.others) h.entry in
    let given : WasGiven sample t.after.seen = record {
      place = length (t.before.seen ++ h.others);
      entry = h.entry;
      here = subst (λ l. slice_get l (length (t.before.seen ++ h.others)) ≡ Some h.entry) (sym h.seen_is) last;
      gave = ap (λ (e : Entry). e.outcome) h.done.entry_is;
    } in
    subst (λ o. IsSomeAnd o (λ (x : SeatView Entry). WasGiven sample x.seen)) (sym here) given

-- what space was promised to is the beginning of the hole
pub promise-lies : (m : MountView) (file : FileId) (p q : PassView) (seen : Sample) (n : ℕ) (answer : Result Sample EventFault) → n ≤ seen.extent.length → LiesInStripe m file seen.extent → MakesTurn m file (Promise seen n answer) p q
    → IfOk answer (λ promised. LiesInStripe m file promised.extent × (promised.extent.block ≡ seen.extent.block))
promise-lies m file p q seen n (Err fault) few lies t = tt
promise-lies m file p q seen n (Ok promised) few lies t =
    let ok = t.turned.done.ok in
    let starts : promised.extent.block ≡ seen.extent.block = ap (λ (x : Sample). x.extent.block) ok.sample_is in
    let most = ok.few in
    let some = ok.some in
    let within = lies.within in
    let stripe : seen.extent.block % 64 + seen.extent.length ≤ 64 = lies.stripe in
    let here : seen.extent.block % 64 + promised.extent.length ≤ 64 = omega arith in
    (record { some = some; within = omega arith; stripe = subst (λ b. b % 64 + promised.extent.length ≤ 64) (sym starts) here }, starts)

reserve-faults : (a b : Bool) (x y c n : ℕ) → begin_fault (unwrap_or ((where_true a (Stale x y)) orElse (where_true b (Worn c))) (NoSpace n 0)) ≡ None → (now : ℕ) × (unwrap_or ((where_true a (Stale x y)) orElse (where_true b (Worn c))) (NoSpace n 0) ≡ Stale x now)
reserve-faults true b x y c n none = (y, refl)
reserve-faults false true x y c n none = absurd (cc)
reserve-faults false false x y c n none = absurd (cc)

-- a promise that gives the begin no fault found its sample stale
pub promise-faults : (m : MountView) (file : FileId) (p q : PassView) (seen : Sample) (n : ℕ) (answer : Result Sample EventFault) → MakesTurn m file (Promise seen n answer) p q → IfErr answer (λ fault. begin_fault fault ≡ None → (now : ℕ) × (fault ≡ Stale seen.cookie now))
promise-faults m file p q seen n (Ok promised) t = tt
promise-faults m file p q seen n (Err fault) t = λ none.
    let r = t.turned.value in
    let is : fault ≡ reserve_fault r seen n = t.turned.done.err.is in
    let f = reserve-faults (not (seen.cookie == r.cookie)) (true && nat_le WORN r.cookie) seen.cookie r.cookie r.cookie n (ap begin_fault (sym is) ∙ none) in
    (f.0, is ∙ f.1)

space-faults : (holes : ℕ) (b : Bool) (c : ℕ) (fault : EventFault) → IsRefusedFor holes (where_true b (Worn c)) fault → IsSome (begin_fault fault)
space-faults holes true c fault is = subst (λ f. IsSome (begin_fault f)) (sym is) refl
space-faults holes false c (Stale x y) is = absurd is
space-faults holes false c (Away x y) is = absurd is
space-faults holes false c (Cold x) is = absurd is
space-faults holes false c (Settled x) is = absurd is
space-faults holes false c (Unattached x) is = absurd is
space-faults holes false c (Dirty x) is = absurd is
space-faults holes false c (Worn x) is = absurd is
space-faults holes false c NoMemory is = refl
space-faults holes false c (NoSpace w f) is = refl
space-faults holes false c (Poison d) is = absurd is

-- a refusal of sectors is a fault of the begin
pub place-faults : (m : MountView) (file : FileId) (p q : PassView) (b n : ℕ) (answer : Result ℕ EventFault) → MakesTurn m file (Place b n answer) p q → IfErr answer (λ fault. IsSome (begin_fault fault))
place-faults m file p q b n (Ok taken) t = tt
place-faults m file p q b n (Err fault) t = space-faults (holes_in t.turned.value b n) _ t.turned.value.cookie fault t.turned.done.err.refused
