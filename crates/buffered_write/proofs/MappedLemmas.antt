-- What a mapping that was begun tells of the bytes in it, and how the range of a call goes on behind it.
use Rattle.std.proofs.Common.{inl, inr, ◌≡◌, ℕ, ◌+◌, ◌*◌, ◌++◌, ◌∷◌, [], List, min, Bool, true, false, Some, None, refl, sym, ap, ◌∙◌, arith}
use Rattle.std.specs.Prelude.{◌%◌, All, IfSome, IsTrue, Option}
use Rattle.std.proofs.lemmas.Bool.{cases_eq, false≢true}
use Rattle.std.proofs.lemmas.List.Elements.{All-head, All-tail, All-weaker}
use Rattle.std.proofs.Math.Nat.{add-mul, mul-mod_left}
use Rattle.iob_base.specs.declared.answer.Fault.{Fault}
use Rattle.iob_base.specs.declared.stamp.FileId.{FileId}
use Rattle.fault_device.specs.LaneView.{LaneView}
use Rattle.iomap_core.specs.declared.mapping.Iomap.{Iomap}
use Rattle.range_core.specs.declared.entry.Entry.{Entry}
use Rattle.range_core.specs.declared.entry.Event.{Event}
use Rattle.range_core.specs.declared.entry.Event.TheVariants as event
use Rattle.range_core.specs.declared.entry.Outcome.{Outcome}
use Rattle.mount_parts.specs.MountView.{MountView}
use Rattle.mini_fs.specs.Acts.{Act, own_entries}
use Rattle.mini_fs.specs.CallActs.{loans_in}
use Rattle.mini_fs.specs.Mappings.{mapping_of}
use Rattle.mini_fs.specs.PassView.{PassView}
use Rattle.mini_fs.specs.declared.begun.Begun.{Begun}
use Rattle.call_parts.specs.Budgets.{IsSound}
use Rattle.call_parts.specs.Causes.{IsCaused}
use Rattle.call_parts.specs.Maps.{maps}
use Rattle.call_parts.specs.Steps.{IsQuiet, Steps, is_quiet}
use Rattle.call_parts.specs.declared.progress.Progress.{Progress}
use Rattle.call_parts.proofs.StepLemmas.{quiet-stamps}
use Rattle.buffered_write.specs.Lays.{EndsAt, GoesTo, IsLeftAt, LaysNothing, laid_by, laid_in}
use Rattle.buffered_write.specs.Pwrites.{HasMapped}
use Rattle.buffered_write.specs.Zeroes.{HasBegun}

-- an entry that is quiet lays nothing
quiet-lay : (size : ℕ) (e : Event) (o : Outcome) → IsTrue (is_quiet e) → laid_by size e o ≡ []
quiet-lay size (event.Store by seen from to bytes) o is = absurd (false≢true is)
quiet-lay size (event.StoreZeros by seen from to) o is = absurd (false≢true is)
quiet-lay size (event.Wipe by block blocks) o is = absurd (false≢true is)
quiet-lay size (event.DaxZero by seen from to) o is = absurd (false≢true is)
quiet-lay size e o is = refl

pub quiet-lays : (size : ℕ) (entries : List Entry) → All IsQuiet entries → laid_in size entries ≡ []
quiet-lays size [] quiet = refl
quiet-lays size (e ∷ entries) quiet = ap (λ l. l ++ laid_in size entries) (quiet-lay size e.event e.outcome (All-head IsQuiet e entries quiet)) ∙ quiet-lays size entries (All-tail IsQuiet e entries quiet)

maps-quiet : (writes : Bool) (e : Event) → IsTrue (maps writes e) → IsTrue (is_quiet e)
maps-quiet writes (event.Sample block most) is = refl
maps-quiet writes (event.Reserve seen blocks) is = refl
maps-quiet writes (event.Unreserve block blocks) is = refl
maps-quiet writes e is = absurd (false≢true is)

-- an event that maps brings no read back
maps-sound : (writes : Bool) (e : Event) → IsTrue (maps writes e) → IsSound e
maps-sound writes (event.Sample block most) is = tt
maps-sound writes (event.Reserve seen blocks) is = tt
maps-sound writes (event.Unreserve block blocks) is = tt
maps-sound writes e is = absurd (false≢true is)

module _ (m : MountView) (file : FileId) where
  -- a step that maps lays nothing
  pub map-step : (writes : Bool) (lane : LaneView) (p q : PassView) (acts : List Act) (fault : Option Fault) → Steps m file (maps writes) lane lane p q acts → loans_in acts ≡ 0 → IfSome fault (IsCaused m (own_entries acts)) → LaysNothing m (maps writes) file lane lane p q 0 fault
  map-step writes lane p q acts fault steps none cause =
      let quiet : All IsQuiet (own_entries acts) = All-weaker (λ (e : Entry). IsTrue (maps writes e.event)) IsQuiet (λ e is. maps-quiet writes e.event is) (own_entries acts) steps.did.made in
      record {
        acts = acts;
        steps = steps;
        laid = quiet-lays m.geometry.block_size (own_entries acts) quiet;
        stamps = quiet-stamps m.geometry.block_size (own_entries acts) quiet;
        cause = cause;
        sent = omega (arith, none);
        sound = λ no. All-weaker (λ (e : Entry). IsTrue (maps writes e.event)) (λ (e : Entry). IsSound e.event) (λ e is. maps-sound writes e.event is) (own_entries acts) steps.did.made;
        dry = λ dax. none;
      }

module _ (m : MountView) (file : FileId) where
  -- a mapping that is to be written is one that was begun
  pub begun-of : (pos : ℕ) (p : PassView) (iomap : Iomap) → HasMapped m file pos p iomap → HasBegun m file pos p iomap
  begun-of pos p iomap mapped = record { begun = mapped.begun; noted = mapped.noted; iomap_is = mapped.iomap_is; unended = mapped.unended; tells = mapped.tells; given = mapped.given; begins = mapped.begins }

  -- where work on a mapping ends, its range may be cut
  pub begun-goes : (pos left end : ℕ) (p : PassView) (iomap : Iomap) (came : Progress) (stale : Bool) → HasBegun m file pos p iomap → end ≡ min (iomap.offset + iomap.length) (pos + left) → EndsAt m.geometry.block_size pos end came.at came.fault stale
      → GoesTo m.geometry.block_size pos (pos + left) came.at came.fault
  begun-goes pos left end p iomap came stale mapped end_is ends = fits came.fault stale ends
    where
      size : ℕ
      size = m.geometry.block_size

      wider : IsLeftAt size pos end came.at → IsLeftAt size pos (pos + left) came.at
      wider l = ((let h = l.0 in omega (arith, h, end_is)), l.1)

      block-end : iomap.offset + iomap.length ≡ (mapped.begun.sample.extent.block + mapped.begun.sample.extent.length) * size
      block-end =
          let begun : mapped.begun.iomap ≡ mapping_of m file mapped.tells.new mapped.begun.sample = ap (λ (b : Begun). b.iomap) mapped.tells.is in
          let offset : iomap.offset ≡ mapped.begun.sample.extent.block * size = ap (λ (i : Iomap). i.offset) (sym mapped.iomap_is ∙ begun) in
          let long : iomap.length ≡ mapped.begun.sample.extent.length * size = ap (λ (i : Iomap). i.length) (sym mapped.iomap_is ∙ begun) in
          let all = add-mul mapped.begun.sample.extent.block mapped.begun.sample.extent.length size in
          omega (arith, offset, long, all)

      fits : (fault : Option Fault) (s : Bool) → EndsAt size pos end came.at fault s → GoesTo size pos (pos + left) came.at fault
      fits (Some fault) s e = wider e.0
      fits None true e = elim e.1 [ inl f ↦ inl f | inr f ↦ inr (inr f) ]
      fits None false e = elim (cases_eq end (pos + left)) [
        | inl f ↦ inr (inl (e ∙ f))
        | inr n ↦
            let at : came.at ≡ (mapped.begun.sample.extent.block + mapped.begun.sample.extent.length) * size = (let b = block-end in omega (arith, e, end_is, n, b)) in
            inr (inr (ap (λ k. k % size) at ∙ mul-mod_left (mapped.begun.sample.extent.block + mapped.begun.sample.extent.length) size))
      ]
