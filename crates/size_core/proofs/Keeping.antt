-- What one seat's turn, cut or join leaves of the truth of a size.
use Rattle.std.proofs.Common.{◌≡◌, ◌≢◌, ℕ, ◌+◌, ◌<◌, ◌≤◌, ◌^◌, true, Some, None, List, [], ◌∷◌, ◌++◌, set, sym, ap, ◌∙◌, subst, arith, append_assoc}
use mathlib.Core.Option.{some}
use lib.ListN.{get_elem?}
use Rattle.turn_cell.specs.Stakes.{total}
use Rattle.turn_cell.specs.Laws.{Stands}
use Rattle.turn_cell.proofs.Sums.{total-set, total-at}
use Rattle.size_core.specs.ClaimsView.{ClaimsView, MayMerge, merged_claims, next_claims, rest_claims, same_claims}
use Rattle.size_core.specs.History.{stamps_of, stamps_in}
use Rattle.io_model.specs.Sizes.{replayed_size, sees_replayed}
use Rattle.size_core.specs.SizesView.{SizesView, CanUse}
use Rattle.size_core.specs.SizeTruth.{SizeStake, SizeTruth, rooms}
use Rattle.size_core.specs.declared.entry.SizeEntry.{SizeEntry}
use Rattle.io_model.specs.declared.file.SizeStamp.{SizeStamp}
use Rattle.size_core.proofs.Apart.{apart_more, apart_merged, apart_with_next, apart_with_same, merged-total, parted-total}
use Rattle.size_core.proofs.ReplayLemmas.{stamps_in-snoc, replayed_size-append, sees_replayed-append}

-- One turn of a seat leaves the size `next` and so many rooms, and its entry says so
pub record Steps (value next : SizesView) (claims : ClaimsView) (left : ℕ) (entry : SizeEntry) : Type 0 where
  pub end : next.end ≡ value.end
  pub within : next.size ≤ next.end
  pub stamps : next.stamps ≡ value.stamps ++ stamps_of entry.event
  pub size : next.size ≡ replayed_size value.size (stamps_of entry.event)
  pub finds : sees_replayed value.size (stamps_of entry.event) ≡ true
  pub rooms : next.rooms + claims.rooms ≡ value.rooms + left
  pub caller : entry.caller ≡ claims.caller

module _ {opening value : SizesView} {history : List SizeEntry} {stakes : List SizeStake} {number : ℕ} {claims : ClaimsView} {made : List SizeEntry} (stands : Stands SizeTruth opening value history stakes number claims made) where
  -- what a seat has room for is promised
  pub stands-promised : claims.rooms ≤ value.rooms
  stands-promised =
      let all : total rooms stakes ≡ value.rooms = stands.holds.rooms_are_promised in
      let mine : claims.rooms ≤ total rooms stakes = total-at rooms stakes number (Some claims, made) stands.here in omega arith

  pub stands-usable : 0 < claims.rooms → CanUse value claims
  stands-usable more = record { some = more; promised = stands-promised }

  pub keeps-turn : (next : SizesView) (left : ℕ) (entry : SizeEntry) → Steps value next claims left entry
      → SizeTruth opening next (history ++ entry ∷ []) (set stakes number (Some (record claims { rooms = left }), made ++ entry ∷ []))
  keeps-turn next left entry step =
      let t = stands.holds in
      let more : List SizeStamp = stamps_of entry.event in
      let entered : stamps_in (history ++ entry ∷ []) ≡ stamps_in history ++ more = stamps_in-snoc history entry in
      let sum : total rooms (set stakes number (Some (record claims { rooms = left }), made ++ entry ∷ [])) + claims.rooms ≡ total rooms stakes + left =
      total-set rooms stakes number (Some claims, made) (Some (record claims { rooms = left }), made ++ entry ∷ []) stands.here in
      let F : List SizeStamp → Type 0 = λ l. sees_replayed opening.size l ≡ true in
      let G : ℕ → Type 0 = λ n. sees_replayed n more ≡ true in
      record {
        same_end = step.end ∙ t.same_end;
        within = step.within;
        journal_is_history = step.stamps ∙ ap (λ l. l ++ more) t.journal_is_history ∙ append_assoc opening.stamps (stamps_in history) more ∙ sym (ap (λ l. opening.stamps ++ l) entered);
        size_is_replay = step.size ∙ ap (λ n. replayed_size n more) t.size_is_replay ∙ sym (replayed_size-append opening.size (stamps_in history) more) ∙ sym (ap (replayed_size opening.size) entered);
        looks_found_replays = subst F (sym entered) (sees_replayed-append opening.size (stamps_in history) more t.looks_found_replays (subst G t.size_is_replay step.finds));
        rooms_are_promised = let r = step.rooms in let p = t.rooms_are_promised in omega arith;
        callers_are_apart = λ caller h. apart_more caller history entry stakes number claims left made (made ++ entry ∷ []) stands.here step.caller (t.callers_are_apart caller h);
      }

  pub keeps-next : 0 < claims.spare → claims.spare < 2 ^ 32 → SizeTruth opening value history (set stakes number (Some (rest_claims claims), made) ++ (Some (next_claims claims), []) ∷ [])
  keeps-next left_over few =
      let t = stands.holds in
      let sum = parted-total stakes number claims made stands.here (rest_claims claims) (next_claims claims) rooms in
      record {
        same_end = t.same_end;
        within = t.within;
        journal_is_history = t.journal_is_history;
        size_is_replay = t.size_is_replay;
        looks_found_replays = t.looks_found_replays;
        rooms_are_promised = let p = t.rooms_are_promised in omega arith;
        callers_are_apart = λ caller h. apart_with_next stakes number claims made stands.here caller history left_over few h (t.callers_are_apart caller h);
      }

  pub keeps-same : SizeTruth opening value history (set stakes number (Some claims, made) ++ (Some (same_claims claims), []) ∷ [])
  keeps-same =
      let t = stands.holds in
      let sum = parted-total stakes number claims made stands.here claims (same_claims claims) rooms in
      record {
        same_end = t.same_end;
        within = t.within;
        journal_is_history = t.journal_is_history;
        size_is_replay = t.size_is_replay;
        looks_found_replays = t.looks_found_replays;
        rooms_are_promised = let p = t.rooms_are_promised in omega arith;
        callers_are_apart = λ caller h. apart_with_same stakes number claims made stands.here caller history h (t.callers_are_apart caller h);
      }

  pub keeps-merge : (other : ℕ) (theirs : ClaimsView) (given : List SizeEntry) → MayMerge claims theirs → other ≢ number → get_elem? stakes other ≡ some (Some theirs, given)
      → SizeTruth opening value history (set (set stakes number (Some (merged_claims claims theirs), made ++ given)) other (None, []))
  keeps-merge other theirs given may apart there =
      let t = stands.holds in
      let sum = merged-total stakes number other claims theirs made given stands.here apart there rooms in
      record {
        same_end = t.same_end;
        within = t.within;
        journal_is_history = t.journal_is_history;
        size_is_replay = t.size_is_replay;
        looks_found_replays = t.looks_found_replays;
        rooms_are_promised = let p = t.rooms_are_promised in omega arith;
        callers_are_apart = λ caller h. apart_merged stakes number other claims theirs made given stands.here apart there may caller history (t.callers_are_apart caller h);
      }
