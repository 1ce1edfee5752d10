-- What one turn tells that was to wipe a run of blocks.
use Rattle.std.proofs.Common.{inl, ◌≡◌, ℕ, zero, suc, ◌+◌, ◌-◌, ◌*◌, ◌<◌, ◌∷◌, [], List, Some, None, Ok, Err, length, take, refl, sym, ap, ◌∙◌, subst, arith, append-nil}
use Rattle.std.specs.Prelude.{◌/◌, IfSome, Option, Result, replicate}
use Rattle.std.proofs.lemmas.List.{length-replicate, take-replicate}
use Rattle.std.proofs.lemmas.List.Elements.{All-cons, All-nil}
use Rattle.iob_base.specs.declared.answer.Fault.{Fault}
use Rattle.iob_base.specs.declared.stamp.FileId.{FileId}
use Rattle.iob_base.specs.declared.stamp.Tag.{Tag}
use Rattle.io_model.specs.Parts.{span}
use Rattle.fault_device.specs.LaneView.{lane_of}
use Rattle.range_core.specs.RangeView.{LiesAt}
use Rattle.range_core.specs.Spots.{blocks_met}
use Rattle.range_core.specs.Stamps.{done_by, stamps_from}
use Rattle.range_core.specs.declared.entry.Entry.{Entry}
use Rattle.range_core.specs.declared.entry.Event.TheVariants.{Wipe}
use Rattle.range_core.specs.declared.entry.Outcome.TheVariants.{Counted, Refused}
use Rattle.range_core.specs.declared.fault.EventFault.{EventFault}
use Rattle.range_core.specs.declared.fault.EventFault.TheVariants as refusal
use Rattle.mount_parts.specs.MountView.{HasBlock, IsLaidOut, MountView, file_at, stripe_at}
use Rattle.mini_fs.specs.Acts.{HasTurned}
use Rattle.mini_fs.specs.Acts.Act.{Turn}
use Rattle.mini_fs.specs.PageTurns.{WipesAt, entry_by}
use Rattle.mini_fs.specs.PassView.{IsPassOf, PassView, claims_of}
use Rattle.mini_fs.specs.Turns.{ReadyAt, TurnsAt}
use Rattle.mini_fs.proofs.ActLemmas.{turned-act}
use Rattle.mini_fs.proofs.Ready.{run-lies}
use Rattle.call_parts.specs.Budgets.{IsSound}
use Rattle.buffered_write.proofs.PartReadLemmas.{quiet-reads}
use Rattle.call_parts.specs.Causes.{IsCaused}
use Rattle.call_parts.specs.Parts.{stamps_over}
use Rattle.call_parts.proofs.MapLemmas.{act-step}
use Rattle.call_parts.proofs.NumberLemmas.{own-tag}
use Rattle.call_parts.proofs.PartLemmas.{over-met, over-none}
use Rattle.call_parts.proofs.PlacedLemmas.{bare-placed, run-placed}
use Rattle.buffered_write.specs.Clears.{IsOfClearing, IsRunOf, StopsClear, WipedOnce, WipesTo, may_clear, wipe_fault, wiped_to}
use Rattle.buffered_write.specs.Lays.{GoesAt, LieOn}
use Rattle.buffered_write.specs.Pwrites.{progress}
use Rattle.buffered_write.proofs.ClearLemmas.{clears-none, clears-then, div-between}
use Rattle.buffered_write.proofs.LayLemmas.{lie-none}
use Rattle.buffered_write.proofs.UnderLemmas.{goes-at}

-- a run of whole blocks has them from its first byte on
block-begin : (size block : ℕ) → 0 < size → block * size / size ≡ block
block-begin size block some = div-between (block * size) block size some (omega arith) (omega (arith, some))

block-last : (size block blocks : ℕ) → 0 < size → 0 < blocks → ((block + blocks) * size - 1) / size ≡ block + blocks - 1
block-last size block blocks some more = at blocks more
  where
    at : (n : ℕ) → 0 < n → ((block + n) * size - 1) / size ≡ block + n - 1
    at zero less = absurd (omega (arith, less))
    at (suc n) less =
        let long : (block + suc n) * size ≡ (block + n) * size + size = omega arith in
        let last = div-between ((block + suc n) * size - 1) (block + n) size some (omega (arith, long, some)) (omega (arith, long, some)) in
        omega (arith, last)

pub run-stamps : (size block blocks : ℕ) (by : Tag) → 0 < size → 0 < blocks → stamps_over size (span (block * size) ((block + blocks) * size)) (done_by by) ≡ stamps_from block blocks (done_by by)
run-stamps size block blocks by some more =
    let first = block-begin size block some in
    let last = block-last size block blocks some more in
    let less : block * size < (block + blocks) * size = run-some size block blocks some more in
    let many : blocks_met size (block * size) ((block + blocks) * size) ≡ blocks = omega (arith, first, last, more) in
    over-met size some (done_by by) (block * size) ((block + blocks) * size) less ∙ ap (λ n. stamps_from n (blocks_met size (block * size) ((block + blocks) * size)) (done_by by)) first ∙ ap (λ n. stamps_from block n (done_by by)) many
  where
    run-some : (size block blocks : ℕ) → 0 < size → 0 < blocks → block * size < (block + blocks) * size
    run-some size block zero some more = absurd (omega (arith, more))
    run-some size block (suc n) some more = (let long : (block + suc n) * size ≡ block * size + n * size + size = omega arith in omega (arith, long, some))

-- a wipe is refused for a worn cookie or for want of memory
pub wipe-stops : (refused : EventFault) → StopsClear (wipe_fault refused)
wipe-stops (refusal.Worn cookie) = tt
wipe-stops (refusal.NoSpace wanted found) = tt
wipe-stops refusal.NoMemory = tt
wipe-stops (refusal.Stale sample now) = tt
wipe-stops (refusal.Away block ticket) = tt
wipe-stops (refusal.Cold block) = tt
wipe-stops (refusal.Settled block) = tt
wipe-stops (refusal.Unattached block) = tt
wipe-stops (refusal.Dirty block) = tt
wipe-stops (refusal.Poison done) = tt

wipe-causes : (m : MountView) (refused : EventFault) (own : Entry) → own.outcome ≡ Refused refused → IsCaused m (own ∷ []) (wipe_fault refused)
wipe-causes m (refusal.Worn cookie) own is = (0, own, refl, is)
wipe-causes m (refusal.NoSpace wanted found) own is = tt
wipe-causes m refusal.NoMemory own is = tt
wipe-causes m (refusal.Stale sample now) own is = tt
wipe-causes m (refusal.Away block ticket) own is = tt
wipe-causes m (refusal.Cold block) own is = tt
wipe-causes m (refusal.Settled block) own is = tt
wipe-causes m (refusal.Unattached block) own is = tt
wipe-causes m (refusal.Dirty block) own is = tt
wipe-causes m (refusal.Poison done) own is = tt

module _ (m : MountView) (file : FileId) (by : Tag) (block blocks : ℕ) (p q : PassView) where
  pub wipe-ready : IsLaidOut m → IsRunOf m file block blocks → ReadyAt (λ opening history claims. LiesAt opening block blocks) m p (stripe_at m file block) (claims_of p)
  wipe-ready laid run cell seat stand = run-lies m file laid block blocks run.some run.within run.in_stripe cell stand.cell_is

  pub run-block : IsRunOf m file block blocks → HasBlock m file block
  run-block run = (let some = run.some in let within = run.within in omega (arith, some, within))

  -- the run was wiped
  did-wipe : (count : ℕ) (others : List Entry) → 0 < m.geometry.block_size → IsRunOf m file block blocks → IsPassOf m p → HasTurned (stripe_at m file block) others (entry_by p.caller (Wipe by block blocks) (Counted count)) p q
      → WipesTo m file by block blocks p q (wiped_to m.geometry.block_size block blocks None)
  did-wipe count others some run of did lane =
      let size = m.geometry.block_size in
      let own : Entry = entry_by p.caller (Wipe by block blocks) (Counted count) in
      let long : (block + blocks) * size - block * size ≡ blocks * size = omega arith in
      let much : length (replicate {A = ℕ} (blocks * size) 0) ≡ blocks * size = length-replicate {A = ℕ} (blocks * size) 0 in
      let sum : block * size + blocks * size ≡ (block + blocks) * size = omega arith in
      record {
        laid = record {
          acts = Turn (stripe_at m file block) others own ∷ [];
          steps = act-step m file (may_clear (file_at m file).mode by) block others own p q of (run-block run) did (own-tag by) refl refl refl (run-placed m file block blocks (done_by by) others own run.in_stripe refl) lane;
          begins = omega arith;
          laid = record {
            order = (refl, tt);
            together = append-nil (replicate (blocks * size) 0) ∙ sym (take-replicate ((block + blocks) * size - block * size) ((block + blocks) * size - block * size) 0 (omega arith) ∙ ap (λ n. replicate n 0) long);
            reach = ap (λ l. block * size + length l) (take-replicate ((block + blocks) * size - block * size) ((block + blocks) * size - block * size) 0 (omega arith) ∙ ap (λ n. replicate n 0) long) ∙ ap (λ n. block * size + n) much ∙ sum;
          };
          stamps = append-nil (stamps_from block blocks (done_by by)) ∙ sym (run-stamps size block blocks by some run.some);
          cause = tt;
          bios = omega arith;
          dry = λ dax. refl;
        };
        parts = All-cons (IsOfClearing size (block * size) ((block + blocks) * size)) own [] (omega arith, omega arith) (All-nil (IsOfClearing size (block * size) ((block + blocks) * size)));
        few = quiet-reads m file (block * size) ((block + blocks) * size) None (Turn (stripe_at m file block) others own ∷ []) (All-cons (λ (e : Entry). IsSound e.event) own [] tt (All-nil (λ (e : Entry). IsSound e.event))) refl;
      }

  -- the run was refused, and that stops the call or not
  not-wiped : (refused : EventFault) (fault : Option Fault) (others : List Entry) → 0 < m.geometry.block_size → IsRunOf m file block blocks → IsPassOf m p → HasTurned (stripe_at m file block) others (entry_by p.caller (Wipe by block blocks) (Refused refused)) p q
      → IfSome fault (IsCaused m (entry_by p.caller (Wipe by block blocks) (Refused refused) ∷ [])) → WipesTo m file by block blocks p q (progress (block * m.geometry.block_size) 0 fault)
  not-wiped refused fault others some run of did cause lane =
      let size = m.geometry.block_size in
      let own : Entry = entry_by p.caller (Wipe by block blocks) (Refused refused) in
      let none : block * size - block * size ≡ 0 = omega arith in
      record {
        laid = record {
          acts = Turn (stripe_at m file block) others own ∷ [];
          steps = act-step m file (may_clear (file_at m file).mode by) block others own p q of (run-block run) did (own-tag by) refl refl refl (bare-placed m file (stripe_at m file block) others own refl) lane;
          begins = omega arith;
          laid = subst (λ n. LieOn (block * size) (block * size) (take n (replicate ((block + blocks) * size - block * size) 0)) []) (sym none) (lie-none (block * size));
          stamps = sym (over-none size some (done_by by) (block * size));
          cause = cause;
          bios = omega arith;
          dry = λ dax. refl;
        };
        parts = All-cons (IsOfClearing size (block * size) ((block + blocks) * size)) own [] (omega arith, omega arith) (All-nil (IsOfClearing size (block * size) ((block + blocks) * size)));
        few = quiet-reads m file (block * size) ((block + blocks) * size) fault (Turn (stripe_at m file block) others own ∷ []) (All-cons (λ (e : Entry). IsSound e.event) own [] tt (All-nil (λ (e : Entry). IsSound e.event))) refl;
      }

  -- what the turn came to
  pub wiped-once : (answer : Result ℕ EventFault) → 0 < m.geometry.block_size → IsRunOf m file block blocks → IsPassOf m p → TurnsAt (λ opening history before after entry. WipesAt m.pool.opening by block blocks before after p.caller answer entry) m (stripe_at m file block) (claims_of p) (claims_of p) p q
      → WipedOnce m file by block blocks p q answer
  wiped-once (Ok count) some run of t =
      did-wipe count t.turned.others some run of (subst (λ e. HasTurned (stripe_at m file block) t.turned.others e p q) t.turned.done.entry_is (turned-act t))
  wiped-once (Err refused) some run of t =
      let did = subst (λ e. HasTurned (stripe_at m file block) t.turned.others e p q) t.turned.done.entry_is (turned-act t) in (
        not-wiped refused None t.turned.others some run of did tt,
        not-wiped refused (Some (wipe_fault refused)) t.turned.others some run of did (wipe-causes m refused (entry_by p.caller (Wipe by block blocks) (Refused refused)) refl),
      )

module _ (m : MountView) (file : FileId) (by : Tag) (block blocks : ℕ) (some : 0 < m.geometry.block_size) where
  -- a run that was not wiped yet, and then was or was not
  pub wipes-none : (p : PassView) → IsPassOf m p → WipesTo m file by block blocks p p (progress (block * m.geometry.block_size) 0 None)
  wipes-none p of lane = clears-none m file by (block * m.geometry.block_size) ((block + blocks) * m.geometry.block_size) lane p some of

  pub wipes-then : (p q r : PassView) (at : ℕ) (fault : Option Fault) → WipesTo m file by block blocks p q (progress (block * m.geometry.block_size) 0 None) → WipesTo m file by block blocks q r (progress at 0 fault) → WipesTo m file by block blocks p r (progress at 0 fault)
  wipes-then p q r at fault one two lane =
      clears-then m file by (block * m.geometry.block_size) ((block + blocks) * m.geometry.block_size) lane lane lane p q r (progress (block * m.geometry.block_size) 0 None) (progress at 0 fault) some refl (omega arith) (inl refl) (one lane) (two lane)

  pub wiped-goes : (p q : PassView) (answer : Result ℕ EventFault) → WipedOnce m file by block blocks p q answer → GoesAt m file by p → GoesAt m file by q
  wiped-goes p q (Ok count) w goes = (let c = (w (lane_of 0 0 None)).laid in goes-at m file by (may_clear (file_at m file).mode by) (lane_of 0 0 None) (lane_of 0 0 None) p q c.acts c.steps goes)
  wiped-goes p q (Err refused) w goes = (let c = (w.0 (lane_of 0 0 None)).laid in goes-at m file by (may_clear (file_at m file).mode by) (lane_of 0 0 None) (lane_of 0 0 None) p q c.acts c.steps goes)
