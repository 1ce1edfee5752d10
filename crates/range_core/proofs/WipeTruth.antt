-- The range truth after blocks became holes.
use Rattle.std.proofs.Common.{◌≡◌, ℕ, ◌+◌, ◌-◌, Bool, true, false, not, nat_lt, if◌then◌else◌, Option, Some, None, Result, Ok, Err, IfOk, IfErr, OnOk, OnErr, List, [], ◌∷◌, ◌++◌, take, drop, set, refl, sym, ◌∙◌, ap, subst, arith}
use Rattle.std.specs.Prelude.{slice_get, unwrap_or, is_none}
use Rattle.std.proofs.lemmas.List.{length-replicate}
use Rattle.iob_base.specs.declared.stamp.Tag.{Tag}
use Rattle.io_model.specs.Contents.{Content, zeros}
use Rattle.io_model.specs.declared.file.Kind.TheVariants.{Hole}
use Rattle.space_pool.specs.Pool.{PoolView}
use Rattle.space_pool.specs.declared.entry.PoolEntry.{PoolEntry}
use Rattle.turn_cell.specs.Stakes.{total}
use Rattle.turn_cell.specs.Views.{SeatView}
use Rattle.range_core.specs.BlockStates.{becomes_hole, state_of}
use Rattle.range_core.specs.BlockTruth.{IsTrueAt}
use Rattle.range_core.specs.Cells.{HasPlace}
use Rattle.range_core.specs.ClaimsView.{ClaimsView}
use Rattle.range_core.specs.EntryCounts.{one_where}
use Rattle.range_core.specs.Kinds.{is_hole}
use Rattle.range_core.specs.OnRun.{on_each}
use Rattle.range_core.specs.Placing.{is_used}
use Rattle.range_core.specs.PoolTurns.{GivesAt, UnreservesAt, place_of}
use Rattle.range_core.specs.RangeTruth.{IsUncached, RangeTruth, pending}
use Rattle.range_core.specs.RangeView.{IsSound, LiesAt, RangeView, part_in}
use Rattle.range_core.specs.Refusals.{away, first_that_stops, run_of, some_block, wipe_refusal, worn}
use Rattle.range_core.specs.Space.{ClaimsSpace}
use Rattle.range_core.specs.Stakes.{RangeStake}
use Rattle.range_core.specs.Wipes.{RefusesWipe, Wipes, promised_in, sectors_in, used_in, wipe_outcome, wiped, wiped_run}
use Rattle.range_core.specs.declared.cell.Cell.{Cell}
use Rattle.range_core.specs.declared.entry.Entry.{Entry}
use Rattle.range_core.specs.declared.entry.Event.TheVariants.{Wipe}
use Rattle.range_core.specs.declared.entry.Outcome.TheVariants.{Counted}
use Rattle.range_core.specs.declared.fault.EventFault.{EventFault}
use Rattle.range_core.specs.declared.fault.EventFault.TheVariants.{NoMemory}
use Rattle.range_core.specs.declared.lending.Away.{Away}
use Rattle.range_core.proofs.AfterEntry.{quiet_tickets, quiet_truth}
use Rattle.range_core.proofs.AfterRun.{ChangesRun, CountsNext, changed_truth, in_run-true, keeps_claims}
use Rattle.range_core.proofs.CookieLemmas.{unrisen}
use Rattle.range_core.proofs.CountLemmas.{map-unpicked, total-run}
use Rattle.range_core.proofs.FirstTruth.{total-zero}
use Rattle.range_core.proofs.HomeLemmas.{home_true, unnamed}
use Rattle.range_core.proofs.KindLemmas.{is_kind-true}
use Rattle.range_core.proofs.OnRunLemmas.{All-on_each, length-on_each}
use Rattle.range_core.proofs.PlaceSpace.{unworn_for}
use Rattle.range_core.proofs.PlaceTruth.{headroom_next}
use Rattle.range_core.proofs.PoolLemmas.{kept_for}
use Rattle.range_core.proofs.RefusedLemmas.{refused_is_quiet}
use Rattle.range_core.proofs.SampleLemmas.{samples_next}
use Rattle.range_core.proofs.StopLemmas.{neither}
use Rattle.range_core.proofs.WipeLemmas.{all_home, home_at, wipes}
use Rattle.range_core.specs.Happened.{is_at_home}
use Rattle.range_core.proofs.FoundLemmas.{found_run}
use Rattle.range_core.proofs.StakeTruth.{Works}

-- a hole reads as zeros
wiped-true : (size b : ℕ) (c : Cell) (content : Content) (stakes : List RangeStake) → c.away ≡ None → IsTrueAt size b c content stakes → IsTrueAt size b (wiped c) (zeros size) stakes
wiped-true size b c content stakes home t =
    home_true size b (wiped c) (zeros size) stakes (record {
      home = home;
      whole = length-replicate size 0;
      place = let P : Option Away → Type 0 = λ a. HasPlace size Hole None a in subst P (sym home) refl;
      uptodate = tt;
      reads = record { clean_is_on_device = λ m d. absurd (cc); spaceless_is_zeros = λ m d. refl };
      dirty = λ d. absurd (cc);
      unclaimed = unnamed size b c content stakes home t.away_is_claimed;
    })

-- a hole that is wiped is a hole
wiped-hole : (c : Cell) → is_used c ≡ false → (wiped c).kind ≡ c.kind
wiped-hole c e = sym (is_kind-true c.kind Hole (is_true (is_hole c.kind) e))
  where
    is_true : (t : Bool) → not t ≡ false → t ≡ true
    is_true true e = refl
    is_true false e = absurd (cc)

module _ (opening now : RangeView) (seat : SeatView PoolEntry) (history : List Entry) (stakes : List RangeStake) (number : ℕ) (claims : ClaimsView) (made : List Entry) (by : Tag) (block n k : ℕ) where
  abbrev e : Entry
  e = record { caller = claims.caller; event = Wipe by block n; outcome = Counted k }

  abbrev next : RangeView
  next = wiped_run now by block n seat

  abbrev others : List RangeStake
  others = set stakes number (Some claims, made ++ e ∷ [])

  pub wipe_truth : RangeTruth opening now history stakes → Works stakes number claims made → LiesAt opening block n → part_in seat ≡ part_in now.seat → k ≡ used_in now block n → wipe_refusal now block n ≡ None
      → ClaimsSpace opening.geometry.block_size next.cells next.space → RangeTruth opening next (history ++ e ∷ []) others
  wipe_truth t here lies pool counted calm claimed =
      let size : ℕ = opening.geometry.block_size in
      let low : ℕ = block - now.first in
      let first : low ≡ block - opening.first = ap (λ m. block - m) t.same_run.first in
      let free = neither (first_that_stops away block (run_of now block n)) (worn now (some_block is_used now block n)) calm in
      let homes = all_home block (run_of now block n) free.0 in
      let run : ChangesRun opening now next history e stakes number claims claims made wipes block n = record {
        low = lies.low;
        cells = ap (λ m. on_each wipes 0 m n now.cells) first;
        outside = λ b out. record {
          content = λ x. ap (λ u. if u then zeros size else x) out;
          state = λ s. ap (λ u. if u then becomes_hole s else s) out;
          claims = keeps_claims size b stakes number claims claims made (made ++ e ∷ []) here refl;
        };
        inside = λ j was content l at h.
            let met = in_run-true block n (block + j) (omega arith) (omega arith) in
            let home = home_at low n j now.cells was l (ap (λ m. slice_get now.cells (m + j)) first ∙ at) homes in
            let X : Content → Type 0 = λ x. IsTrueAt size (block + j) (wiped was) x others in
            record {
              state = sym (ap (λ u. if u then becomes_hole (state_of was) else state_of was) met);
              holds = subst X (sym (ap (λ u. if u then zeros size else content) met)) (keeps_claims size (block + j) stakes number claims claims made (made ++ e ∷ []) here refl (wiped was) (zeros size) (wiped-true size (block + j) was content stakes home h));
            };
      } in
      let fewer = total-run wipes pending pending (λ _. 0) (λ j c. (let z : 0 + pending c ≡ pending c + 0 = omega arith in z)) 0 low n now.cells in
      let none : total (λ (c : Cell). 0) (take n (drop low now.cells)) ≡ 0 = total-zero _ _ (λ i d l. refl) in
      let counts : CountsNext size now next e = record {
        geometry = refl;
        mode = refl;
        first = refl;
        pool = pool;
        errors = let p = t.errors_counted in omega arith;
        tickets = quiet_tickets opening now history e stakes t refl;
        cookie = ap (λ m. now.cookie + one_where (nat_lt 0 m)) (sym counted);
        log = refl;
        headroom = headroom_next opening now next history stakes (used_in now block n) t refl (unworn_for is_used now block n free.1) (λ _. omega arith) (length-on_each wipes 0 low n now.cells);
        uncached = λ d. All-on_each wipes IsUncached (λ j c u. record { page = refl; clean = refl; reserved = refl; home = u.home }) 0 low n now.cells (t.dax_is_uncached d);
        space = claimed;
        found = found_run now block n (λ b s. is_at_home s) (let l = lies.low in let f = t.same_run.first in omega arith) (λ j c l at. ap is_none (home_at low n j now.cells c l at homes));
      } in
      changed_truth opening now next history e stakes number claims claims made wipes block n t here run counts
      (samples_next now next history e refl (omega arith) (λ still. map-unpicked wipes (λ (c : Cell). c.kind) is_used (λ j c u. wiped-hole c u) 0 low n now.cells (unrisen now.cookie _ still)) t.samples_give_extents tt)
      (record { caller = refl; spare = refl; main = refl }) refl

module _ (pool : PoolView) (opening now next : RangeView) (history : List Entry) (stakes : List RangeStake) (number : ℕ) (claims : ClaimsView) (made : List Entry) (by : Tag) (block n : ℕ) where
  abbrev entry : Result ℕ EventFault → Entry
  entry answer = record { caller = claims.caller; event = Wipe by block n; outcome = wipe_outcome answer }

  -- the truth holds whether the event came about or was refused
  pub wipe_turn : (answer : Result ℕ EventFault) → OnOk answer (wipe_refusal now block n ≡ None) → IfOk answer (Wipes pool now by block n next) → OnErr answer (next ≡ now) → IsSound next → RangeTruth opening now history stakes
      → Works stakes number claims made → LiesAt opening block n → RangeTruth opening next (history ++ entry answer ∷ []) (set stakes number (Some claims, made ++ entry answer ∷ []))
  wipe_turn (Ok changed) calm ok unchanged sound t here lies =
      let e : Entry = record { caller = claims.caller; event = Wipe by block n; outcome = Counted changed } in
      let V : RangeView = wiped_run now by block n next.seat in
      let given = kept_for _ (GivesAt pool (sectors_in now block n)) (λ p q turn. turn.keeps) (place_of now) ok.pool.given ok.pool.gave in
      let left = kept_for (promised_in now block n) (UnreservesAt pool (promised_in now block n)) (λ p q turn. turn.keeps) ok.pool.given (place_of next) ok.pool.unreserved in
      let same : now.geometry.block_size ≡ opening.geometry.block_size = ap (λ g. g.block_size) t.same_run.geometry in
      let C : RangeView → Type 0 = λ r. ClaimsSpace r.geometry.block_size r.cells r.space in
      let D : ℕ → Type 0 = λ m. ClaimsSpace m V.cells V.space in
      let H : RangeView → Type 0 = λ r. RangeTruth opening r (history ++ e ∷ []) (set stakes number (Some claims, made ++ e ∷ [])) in
      subst H (sym ok.state) (wipe_truth opening now next.seat history stakes number claims made by block n changed t here lies (left ∙ given) ok.count calm (subst D same (subst C ok.state sound.space)))
  wipe_turn (Err fault) calm ok unchanged sound t here lies =
      let e : Entry = entry (Err fault) in
      let H : RangeView → Type 0 = λ r. RangeTruth opening r (history ++ e ∷ []) (set stakes number (Some claims, made ++ e ∷ [])) in
      subst H (sym unchanged) (quiet_truth opening now history e stakes number claims made t here (refused_is_quiet opening.geometry.block_size claims.caller (Wipe by block n) fault) tt refl)

-- what is told of a refusal
pub told_refused : (before after : RangeView) (b n : ℕ) (answer : Result ℕ EventFault) → IfErr answer (λ e. e ≡ unwrap_or (wipe_refusal before b n) NoMemory) → OnErr answer (after ≡ before) → IfErr answer (RefusesWipe before b n after)
told_refused before after b n (Ok k) is same = tt
told_refused before after b n (Err fault) is same = record { refused = is; unchanged = same }
