-- What is told of the turns in which blocks take sectors.
use Rattle.std.proofs.Common.{◌≡◌, ℕ, Bool, Some, None, Result, Ok, Err, IfOk, IfErr, OnOk, OnErr, List, [], ◌∷◌, ◌++◌, length, All, set, refl, sym, ◌∙◌, ap, subst, arith}
use Rattle.std.specs.Prelude.{unwrap_or}
use Rattle.iob_base.specs.DeviceBlock.{DeviceBlock}
use Rattle.space_pool.specs.Pool.{HasSize, PoolView}
use Rattle.space_pool.specs.Seats.{pool_cell}
use Rattle.range_core.specs.Attaches.{AttachMade, AttachRefused, Attaches, IsRefusedFor, PreallocateMade, PreallocateRefused, Preallocates, holes_in, pairs_taken, placed_run}
use Rattle.range_core.specs.ClaimsView.{ClaimsView}
use Rattle.range_core.specs.EntryCounts.{one_where}
use Rattle.range_core.specs.Placing.{awaits_sector, count_in, is_empty, lacks_sector}
use Rattle.range_core.specs.PoolTurns.{LeavesAlone, ReservesAt, TakesAt, place_of}
use Rattle.range_core.specs.RangeTruth.{RangeTruth}
use Rattle.range_core.specs.RangeView.{IsSound, LiesAt, RangeView, part_in}
use Rattle.range_core.specs.Refusals.{attach_refusal, preallocate_refusal, some_block, worn}
use Rattle.range_core.specs.Space.{ClaimsSpace, SpaceClaims}
use Rattle.range_core.specs.Stakes.{RangeStake}
use Rattle.range_core.specs.declared.cell.Cell.{Cell}
use Rattle.range_core.specs.declared.entry.Entry.{Entry}
use Rattle.range_core.specs.declared.entry.Event.TheVariants.{Attach, Preallocate}
use Rattle.range_core.specs.declared.entry.Outcome.TheVariants.{Took}
use Rattle.range_core.specs.declared.fault.EventFault.{EventFault}
use Rattle.range_core.specs.declared.fault.EventFault.TheVariants.{NoMemory}
use Rattle.range_core.specs.declared.range.attach.AttachRun.{AttachRun}
use Rattle.range_core.specs.declared.range.attach.PreallocateRun.{PreallocateRun}
use Rattle.range_core.proofs.AfterEntry.{quiet_truth}
use Rattle.range_core.proofs.PlaceSpace.{PicksSpaceless, awaits-spaceless, lacks-spaceless, unworn_for}
use Rattle.range_core.proofs.PlaceTruth.{IsTaking, place_truth}
use Rattle.range_core.proofs.PoolLemmas.{kept_for}
use Rattle.range_core.proofs.RefusedLemmas.{refused_is_quiet}
use Rattle.range_core.proofs.SeatTruth.{refused_entry, refused_truth}
use Rattle.range_core.proofs.FoundLemmas.{found_taken}
use Rattle.range_core.proofs.StakeTruth.{Works}

module _ (opening now next : RangeView) (history : List Entry) (stakes : List RangeStake) (number : ℕ) (claims : ClaimsView) (made : List Entry) where
  -- the truth holds with one entry more
  abbrev pub HoldsWith : Entry → Type 0
  HoldsWith e = RangeTruth opening next (history ++ e ∷ []) (set stakes number (Some claims, made ++ e ∷ []))

  -- an entry of which this is told, and with which the truth holds
  pub record Enters (Tells : Entry → Type 0) : Type 0 where
    pub entry : Entry
    pub told : Tells entry
    pub holds : HoldsWith entry

  -- the truth holds of a sound range whose picked blocks took sectors
  pub placed_turn : (picks : Cell → Bool) (holes : Cell → ℕ) (block n : ℕ) (sectors : List DeviceBlock) (space : SpaceClaims) (e : Entry) → RangeTruth opening now history stakes → Works stakes number claims made → LiesAt opening block n
      → PicksSpaceless picks holes → part_in next.seat ≡ part_in now.seat → length sectors ≡ count_in picks now block n → All (HasSize now.geometry.block_size) sectors → worn now (some_block picks now block n) ≡ None → IsSound next
      → next ≡ placed_run picks now block n sectors next.seat space → IsTaking opening.geometry.block_size now e (pairs_taken picks now block n sectors) → e.caller ≡ claims.caller → HoldsWith e
  placed_turn picks holes block n sectors space e t here lies spaceless pool many whole calm sound is taking by =
      let same : now.geometry.block_size ≡ opening.geometry.block_size = ap (λ g. g.block_size) t.same_run.geometry in
      let W : ℕ → Type 0 = λ m. All (HasSize m) sectors in
      let V : RangeView = placed_run picks now block n sectors next.seat space in
      let C : RangeView → Type 0 = λ r. ClaimsSpace r.geometry.block_size r.cells r.space in
      let D : ℕ → Type 0 = λ m. ClaimsSpace m V.cells space in
      let H : RangeView → Type 0 = λ r. RangeTruth opening r (history ++ e ∷ []) (set stakes number (Some claims, made ++ e ∷ [])) in
      subst H (sym is)
      (place_truth picks holes opening now next.seat space history stakes number claims made block n sectors e t here lies spaceless pool many (subst W same whole) (unworn_for picks now block n calm) (subst D same (subst C is sound.space)) taking by)

module _ {R : Type 0} (run : AttachRun R) (opening now next : RangeView) (history : List Entry) (stakes : List RangeStake) (number : ℕ) (claims : ClaimsView) (made : List Entry) where
  -- what is told of an answer, and the truth
  pub attach_turn : (answer : Result ℕ EventFault) → IfErr answer (λ e. e ≡ unwrap_or (attach_refusal now run.block run.blocks) NoMemory) → OnErr answer (next ≡ now) → OnOk answer (attach_refusal now run.block run.blocks ≡ None)
      → IfOk answer (Attaches (pool_cell run.space.now).opening now run.block run.blocks next) → IsSound next → RangeTruth opening now history stakes → Works stakes number claims made → LiesAt opening run.block run.blocks
      → Enters opening now next history stakes number claims made (λ entry. IfOk answer (AttachMade run now next claims entry) × IfErr answer (AttachRefused run now next claims entry))
  attach_turn (Ok taken) refused unchanged calm attached sound t here lies =
      let e : Entry = record { caller = claims.caller; event = Attach run.block run.blocks; outcome = Took (pairs_taken awaits_sector now run.block run.blocks attached.sectors) } in
      let pool = kept_for taken (TakesAt (pool_cell run.space.now).opening taken attached.sectors) (λ p q turn. turn.keeps) (place_of now) (place_of next) attached.pool in
      let taking : IsTaking opening.geometry.block_size now e (pairs_taken awaits_sector now run.block run.blocks attached.sectors) =
      record { content = λ b x. refl; state = λ b s. refl; failed = refl; lent = refl; changed = refl; stamps = refl; gives = λ r. tt; found = found_taken awaits_sector now run.block run.blocks attached.sectors (omega (arith, lies.low, t.same_run.first)) (attached.as_many ∙ attached.count) } in
      record {
        entry = e;
        told = (record { made = calm; attached = attached; entry_is = refl }, tt);
        holds = placed_turn opening now next history stakes number claims made awaits_sector (λ _. 0) run.block run.blocks attached.sectors _ e t here lies awaits-spaceless pool (attached.as_many ∙ attached.count) attached.whole calm sound attached.state taking refl;
      }
  attach_turn (Err fault) refused unchanged calm attached sound t here lies =
      let e : Entry = refused_entry claims (Attach run.block run.blocks) fault in
      let H : RangeView → Type 0 = λ r. RangeTruth opening r (history ++ e ∷ []) (set stakes number (Some claims, made ++ e ∷ [])) in
      record {
        entry = e;
        told = (tt, record { refused = refused; unchanged = unchanged; entry_is = refl });
        holds = subst H (sym unchanged) (quiet_truth opening now history e stakes number claims made t here (refused_is_quiet opening.geometry.block_size claims.caller (Attach run.block run.blocks) fault) tt refl);
      }

module _ {R : Type 0} (run : PreallocateRun R) (opening now next : RangeView) (history : List Entry) (stakes : List RangeStake) (number : ℕ) (claims : ClaimsView) (made : List Entry) where
  pub preallocate_turn : (answer : Result ℕ EventFault) → IfErr answer (IsRefusedFor (holes_in now run.block run.blocks) (preallocate_refusal now run.block run.blocks))
      → IfErr answer (λ e. LeavesAlone (λ none. ReservesAt (pool_cell run.space.now).opening (holes_in now run.block run.blocks) (Err none)) e now next) → OnOk answer (preallocate_refusal now run.block run.blocks ≡ None)
      → IfOk answer (Preallocates (pool_cell run.space.now).opening now run.block run.blocks next) → IsSound next → RangeTruth opening now history stakes → Works stakes number claims made → LiesAt opening run.block run.blocks
      → Enters opening now next history stakes number claims made (λ entry. IfOk answer (PreallocateMade run now next claims entry) × IfErr answer (PreallocateRefused run now next claims entry))
  preallocate_turn (Ok taken) refused left calm placed sound t here lies =
      let opened : PoolView = (pool_cell run.space.now).opening in
      let holes : ℕ = holes_in now run.block run.blocks in
      let e : Entry = record { caller = claims.caller; event = Preallocate run.block run.blocks; outcome = Took (pairs_taken lacks_sector now run.block run.blocks placed.sectors) } in
      let first = kept_for holes (ReservesAt opened holes (Ok tt)) (λ p q turn. turn.keeps) (place_of now) placed.promised placed.reserved in
      let then = kept_for taken (TakesAt opened taken placed.sectors) (λ p q turn. turn.keeps) placed.promised (place_of next) placed.took in
      let taking : IsTaking opening.geometry.block_size now e (pairs_taken lacks_sector now run.block run.blocks placed.sectors) =
      record { content = λ b x. refl; state = λ b s. refl; failed = refl; lent = refl; changed = refl; stamps = refl; gives = λ r. tt; found = found_taken lacks_sector now run.block run.blocks placed.sectors (omega (arith, lies.low, t.same_run.first)) (placed.as_many ∙ placed.count) } in
      record {
        entry = e;
        told = (record { made = calm; placed = placed; entry_is = refl }, tt);
        holds = placed_turn opening now next history stakes number claims made lacks_sector (λ c. one_where (is_empty c)) run.block run.blocks placed.sectors _ e t here lies lacks-spaceless (then ∙ first) (placed.as_many ∙ placed.count) placed.whole calm sound placed.state taking refl;
      }
  preallocate_turn (Err fault) refused left calm placed sound t here lies =
      record {
        entry = refused_entry claims (Preallocate run.block run.blocks) fault;
        told = (tt, record { refused = refused; left = left; entry_is = refl });
        holds = refused_truth opening now next history stakes number claims made (Preallocate run.block run.blocks) (λ none. ReservesAt (pool_cell run.space.now).opening (holes_in now run.block run.blocks) (Err none)) (λ none p q turn. turn.keeps) fault left t here;
      }
