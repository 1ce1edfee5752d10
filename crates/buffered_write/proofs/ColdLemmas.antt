-- A turn that lays bytes and is refused for a cold block names one of those that it meets; and what a read of one tells.
use Rattle.std.proofs.Common.{inl, inr, ◌≡◌, ℕ, ◌+◌, ◌-◌, ◌<◌, ◌≤◌, suc, ◌∷◌, [], List, length, refl, sym, ap, ◌∙◌, subst, arith, if◌then◌else◌, true, false, Some, None}
use Rattle.std.specs.Prelude.{◌^◌, ◌/◌, ◌&&◌, ◌==◌, not, min, Bool, IfSome, Option, unwrap_or}
use Rattle.std.proofs.lemmas.Bool.{lt-ltb}
use Rattle.std.proofs.lemmas.List.{length-take}
use Rattle.std.proofs.lemmas.List.Elements.{All-cons, All-nil}
use Rattle.iob_base.specs.declared.answer.Fault.{Fault}
use Rattle.iob_base.specs.declared.answer.Fault.TheVariants.{Eio, NoMemory}
use Rattle.iob_base.specs.declared.stamp.FileId.{FileId}
use Rattle.iob_base.specs.declared.stamp.Mode.TheVariants.{Cached}
use Rattle.fault_device.specs.LaneView.{LaneView}
use Rattle.turn_cell.specs.Stakes.{total}
use Rattle.range_core.specs.EntryCounts.{lendings}
use Rattle.range_core.specs.EntryStamps.{stamps_in}
use Rattle.range_core.specs.RangeView.{RangeView, cells_from}
use Rattle.range_core.specs.Refusals.{away_with_page, cold_in_part, covers_in_part, first_that_stops, is_cold, met, pageless_at, stale, store_refusal, where_true, ◌orElse◌}
use Rattle.range_core.specs.Spots.{blocks_met}
use Rattle.range_core.specs.declared.cell.Cell.{Cell}
use Rattle.range_core.specs.declared.entry.Entry.{Entry}
use Rattle.range_core.specs.declared.fault.EventFault.{EventFault}
use Rattle.range_core.specs.declared.fault.EventFault.TheVariants as refusal
use Rattle.range_core.specs.declared.lending.Away.{Away}
use Rattle.range_core.specs.declared.lending.Lender.{Lender}
use Rattle.range_core.specs.declared.lending.Lender.TheVariants as lender
use Rattle.range_core.specs.declared.sample.Sample.{Sample}
use Rattle.mount_parts.specs.MountView.{MountView, file_at}
use Rattle.mini_fs.specs.Acts.{Act, own_entries}
use Rattle.mini_fs.specs.PassView.{PassView}
use Rattle.call_parts.specs.Budgets.{AreSound, IsSound, LendsFew}
use Rattle.call_parts.specs.Causes.{IsCaused}
use Rattle.call_parts.specs.Fills.{FillCame, Fills, bios_of, fill_fault, fills}
use Rattle.call_parts.specs.Steps.{Steps}
use Rattle.call_parts.specs.declared.cold.Fill.{Fill}
use Rattle.call_parts.specs.declared.cold.Fill.TheVariants as fill
use Rattle.buffered_write.specs.Lays.{LaysNothing, LieUnder, laid_in}
use Rattle.buffered_write.specs.Pwrites.{IsInPart, Warmed, after_fill}
use Rattle.buffered_write.specs.declared.store_part.Try.{Try}
use Rattle.buffered_write.proofs.UnderLemmas.{cached-dry, met-under}

-- a block is one of n from another on, and a range covers it in part
abbrev IsMetInPart : ℕ → ℕ → ℕ → ℕ → ℕ → ℕ → Type 0
IsMetInPart size from to b n k = (b ≤ k) × (k < b + n) × (covers_in_part size from to k ≡ true)

-- a block that is cold in part is one of those met, and is covered in part
cold-first : (size from to b k n : ℕ) (c : Cell) (rest : Option EventFault) → (rest ≡ Some (refusal.Cold k) → IsMetInPart size from to (b + 1) n k) → (where_true (covers_in_part size from to b && is_cold c) (refusal.Cold b) orElse rest) ≡ Some (refusal.Cold k) → IsMetInPart size from to b (suc n) k
cold-first size from to b k n c rest later e = by (covers_in_part size from to b) (is_cold c) refl e
  where
    farther : IsMetInPart size from to (b + 1) n k → IsMetInPart size from to b (suc n) k
    farther (low, high, part) = (omega (arith, low), omega (arith, high), part)

    by : (covers cold : Bool) → covers_in_part size from to b ≡ covers → (where_true (covers && cold) (refusal.Cold b) orElse rest) ≡ Some (refusal.Cold k) → IsMetInPart size from to b (suc n) k
    by true true is e = (let same : b ≡ k = cc in (omega (arith, same), omega (arith, same), subst (λ i. covers_in_part size from to i ≡ true) same is))
    by true false is e = farther (later e)
    by false cold is e = farther (later e)

cold-in : (size from to b k : ℕ) (cells : List Cell) → first_that_stops (cold_in_part size from to) b cells ≡ Some (refusal.Cold k) → IsMetInPart size from to b (length cells) k
cold-in size from to b k [] e = absurd (cc)
cold-in size from to b k (c ∷ cells) e = cold-first size from to b k (length cells) c (first_that_stops (cold_in_part size from to) (b + 1) cells) (λ f. cold-in size from to (b + 1) k cells f) e

-- and no block with its page away is told as cold
lent-never : (b k ticket : ℕ) (l : Lender) (rest : Option EventFault) → (rest ≡ Some (refusal.Cold k) → ⊥) → (pageless_at b (Some (record { ticket = ticket; lender = l })) orElse rest) ≡ Some (refusal.Cold k) → ⊥
lent-never b k ticket lender.Reading rest later e = cc
lent-never b k ticket lender.Writeback rest later e = later e
lent-never b k ticket (lender.Direct tag op) rest later e = cc
lent-never b k ticket (lender.Part tag from to) rest later e = cc

away-never : (b k : ℕ) (o : Option Away) (rest : Option EventFault) → (rest ≡ Some (refusal.Cold k) → ⊥) → (pageless_at b o orElse rest) ≡ Some (refusal.Cold k) → ⊥
away-never b k None rest later e = later e
away-never b k (Some away) rest later e = lent-never b k away.ticket away.lender rest later e

never-cold : (b k : ℕ) (cells : List Cell) → first_that_stops away_with_page b cells ≡ Some (refusal.Cold k) → ⊥
never-cold b k [] e = cc
never-cold b k (c ∷ cells) e = away-never b k c.away (first_that_stops away_with_page (b + 1) cells) (λ f. never-cold (b + 1) k cells f) e

stale-never : (k sample now : ℕ) (t : Bool) → where_true t (refusal.Stale sample now) ≡ Some (refusal.Cold k) → ⊥
stale-never k sample now true e = cc
stale-never k sample now false e = cc

last-cold : (size from to b k n : ℕ) (one two three : Option EventFault) → (one ≡ Some (refusal.Cold k) → ⊥) → (two ≡ Some (refusal.Cold k) → ⊥) → (three ≡ Some (refusal.Cold k) → IsMetInPart size from to b n k)
    → unwrap_or (one orElse two orElse three) refusal.NoMemory ≡ refusal.Cold k → IsMetInPart size from to b n k
last-cold size from to b k n (Some f) two three first second third e = absurd (first (ap Some e))
last-cold size from to b k n None (Some f) three first second third e = absurd (second (ap Some e))
last-cold size from to b k n None None (Some f) first second third e = third (ap Some e)
last-cold size from to b k n None None None first second third e = absurd (cc)

-- a store that is refused for a cold block names one of those that it meets
cold-met : (r : RangeView) (seen : Sample) (from to k : ℕ) → unwrap_or (store_refusal r seen from to) refusal.NoMemory ≡ refusal.Cold k
    → IsMetInPart r.geometry.block_size from to (from / r.geometry.block_size) (length (met r from to)) k
cold-met r seen from to k e =
    let size = r.geometry.block_size in
    let b = from / size in
    last-cold size from to b k (length (met r from to)) (stale r seen) (first_that_stops away_with_page b (met r from to)) (first_that_stops (cold_in_part size from to) b (met r from to))
    (λ f. stale-never k seen.cookie r.cookie (not (seen.cookie == r.cookie)) f) (λ f. never-cold b k (met r from to) f) (λ f. cold-in size from to b k (met r from to) f) e

-- such a block is one of the file that the range covers in part
pub cold-in-file : (m : MountView) (file : FileId) (seen : Sample) (from to : ℕ) (p : PassView) (before : RangeView) (k : ℕ) → LieUnder m file seen from to p → before.geometry ≡ m.geometry → unwrap_or (store_refusal before seen from to) refusal.NoMemory ≡ refusal.Cold k → IsInPart m file from to k
cold-in-file m file seen from to p before k under sizes is =
    let met_in = cold-met before seen from to k is in
    let below = met_in.1 in
    let long : length (met before from to) ≤ blocks_met before.geometry.block_size from to = (let h = length-take (blocks_met before.geometry.block_size from to) (cells_from before (from / before.geometry.block_size)) in omega (arith, h)) in
    let here : k < from / before.geometry.block_size + blocks_met before.geometry.block_size from to = omega (arith, below, long) in
    let there : k < from / m.geometry.block_size + blocks_met m.geometry.block_size from to = subst (λ g. k < from / g.block_size + blocks_met g.block_size from to) sizes here in
    record {
      exists = met-under m file seen from to p under k there;
      low = subst (λ g. from / g.block_size ≤ k) sizes met_in.0;
      high = subst (λ n. k < from / m.geometry.block_size + n) (sym (ap (λ b. if b then blocks_met m.geometry.block_size from to else 0) (lt-ltb from to under.some))) there;
      part = subst (λ g. covers_in_part g.block_size from to k ≡ true) sizes met_in.2;
    }

module _ (m : MountView) (file : FileId) (cached : (file_at m file).mode ≡ Cached) where
  unfoldable nothing-of : (a b : LaneView) (p q : PassView) (bios : ℕ) (fault : Option Fault) (entries : List Entry) (acts : List Act) → Steps m file fills a b p q acts → own_entries acts ≡ entries → laid_in m.geometry.block_size entries ≡ [] → stamps_in m.geometry.block_size entries ≡ []
      → IfSome fault (IsCaused m entries) → bios ≡ min (total lendings entries) (2 ^ 64 - 1) → (bios ≡ 0 → AreSound (own_entries acts)) → LaysNothing m fills file a b p q bios fault
  nothing-of a b p q bios fault entries acts steps are laid stamps cause sent sound = record {
    acts = acts;
    steps = steps;
    laid = ap (laid_in m.geometry.block_size) are ∙ laid;
    stamps = ap (stamps_in m.geometry.block_size) are ∙ stamps;
    cause = subst (λ l. IfSome fault (IsCaused m l)) (sym are) cause;
    sent = sent ∙ ap (λ l. min (total lendings l) (2 ^ 64 - 1)) (sym are);
    sound = sound;
    dry = cached-dry m file acts cached;
  }

  warmed-so : (block : ℕ) (a b : LaneView) (p q : PassView) (acts : List Act) (fill : Fill) → Steps m file fills a b p q acts → LendsFew m file (λ b. true) block 1 (fill_fault fill) acts → FillCame p.caller block 1 (own_entries acts) fill → Warmed m file block a b p q (bios_of fill) (after_fill fill)
  unfolding nothing-of
  warmed-so block a b p q acts fill.Filled steps few (done, back, whole) = record { nothing = nothing-of a b p q 1 None _ acts steps back.entries_are refl refl tt (omega arith) (λ none. few.sound refl); few = few }
  warmed-so block a b p q acts (fill.Failed at done) steps few (here, back, failed) = (
    record {
      nothing = nothing-of a b p q 1 (Some (Eio done.lane done.before done.after)) _ acts steps back.entries_are refl refl (0, done, refl, record { failed = failed; lane_is = refl; before_is = refl; after_is = refl }) (omega arith) (λ none. absurd (omega (arith, none)));
      few = few;
    },
    tt,
  )
  warmed-so block a b p q acts fill.Again steps few (fault, is, again) = record { nothing = nothing-of a b p q 0 None _ acts steps is refl refl tt (omega arith) (λ none. few.sound refl); few = few }
  warmed-so block a b p q acts fill.NoMemory steps few (inl none) =
      (record { nothing = nothing-of a b p q 0 (Some NoMemory) [] acts steps none refl refl tt (omega arith) (λ no. subst AreSound (sym none) (All-nil (λ (e : Entry). IsSound e.event))); few = few }, tt)
  warmed-so block a b p q acts fill.NoMemory steps few (inr (fault, is, wanted)) =
      (record { nothing = nothing-of a b p q 0 (Some NoMemory) _ acts steps is refl refl tt (omega arith) (λ no. subst AreSound (sym is) (All-cons (λ (e : Entry). IsSound e.event) _ [] tt (All-nil (λ (e : Entry). IsSound e.event)))); few = few }, tt)

  pub warmed : (block : ℕ) (a b : LaneView) (p q : PassView) (fill : Fill) (bios : ℕ) (tried : Try) → bios ≡ bios_of fill → tried ≡ after_fill fill → Fills m file block 1 a b p q fill → Warmed m file block a b p q bios tried
  warmed block a b p q fill bios tried bios_are tried_is f =
      subst (λ n. Warmed m file block a b p q n tried) (sym bios_are) (subst (Warmed m file block a b p q (bios_of fill)) (sym tried_is) (warmed-so block a b p q f.acts fill f.steps f.few f.came))
