-- Walks over blocks put one after another: what their entries come to, and that no block between is missed.
use Rattle.std.proofs.Common.{◌≡◌, ℕ, ◌+◌, ◌≤◌, ◌++◌, inl, inr, Bool, true, false, List, [], ◌∷◌, Some, None, Option, length, refl, sym, ap, ◌∙◌, subst, arith, append_assoc, length-append}
use Rattle.std.specs.Prelude.{IfSome, is_some}
use Rattle.std.proofs.lemmas.Bool.{cases_lt}
use Rattle.iob_base.specs.declared.answer.Fault.{Fault}
use Rattle.iob_base.specs.declared.stamp.FileId.{FileId}
use Rattle.fault_device.specs.LaneView.{LaneView}
use Rattle.fault_device.specs.declared.lane.Done.{Done}
use Rattle.turn_cell.proofs.Sums.{total-append}
use Rattle.range_core.specs.BlockStates.{BlockState, state_of, states_replayed}
use Rattle.range_core.specs.EntryCounts.{one_where}
use Rattle.range_core.specs.declared.entry.Entry.{Entry}
use Rattle.range_core.specs.declared.entry.Event.{Event}
use Rattle.range_core.specs.declared.entry.Event.TheVariants.{LendWriteback}
use Rattle.range_core.specs.declared.entry.Outcome.{Outcome}
use Rattle.range_core.specs.declared.entry.Outcome.TheVariants.{Lending, Refused}
use Rattle.mount_parts.specs.MountView.{MountView, stripe_at}
use Rattle.mini_fs.specs.Acts.{Act, Acted, made_in, own_entries}
use Rattle.mini_fs.specs.Acts.Act.{Turn}
use Rattle.mini_fs.specs.CallActs.{loans_in}
use Rattle.mini_fs.specs.PassView.{IsPassOf, PassView}
use Rattle.mini_fs.proofs.ActLemmas.{acted-then}
use Rattle.mini_fs.proofs.CallLemmas.{loans-append, own_entries-append}
use Rattle.call_parts.specs.Causes.{HasOne, IsCaused}
use Rattle.call_parts.specs.Steps.{dones_in}
use Rattle.call_parts.proofs.StepLemmas.{caused-right, dones-append, one-left, one-right, steps-none, steps-then}
use Rattle.writeback_ioend.specs.Walks.{Walks, WalksOn, asks_end, both_written, nothing_written}
use Rattle.writeback_ioend.specs.Writebacks.{AsksAscend, IsAway, IsMet, IsSettled, StopsWriteback, TookBack, WasFound, WritesBack, all_written, asked_from, asked_to, failed_of, first_failed, is_refused_loan, last_turns, or_else, refused_loans, turns_in, writes_back, written_by}
use Rattle.writeback_ioend.specs.declared.walk.Written.{Written}
use Rattle.writeback_ioend.proofs.AskLemmas.{asks-append}
use Rattle.writeback_ioend.proofs.SeenLemmas.{made_in-append, seen-after}

-- from a lower block on what an entry asks for ascends too, and ends no later
from-lower : (low at : ℕ) (ev : Event) → low ≤ at → at ≤ asked_from at ev → low ≤ asked_from low ev
from-lower low at (LendWriteback block most) le is = omega (arith, le, is)
from-lower low at _ le is = omega arith

to-lower : (waits : Bool) (low at : ℕ) (ev : Event) (out : Outcome) → low ≤ at → asked_to waits low ev out ≤ asked_to waits at ev out
to-lower waits low at (LendWriteback block most) (Lending ticket blocks) le = omega arith
to-lower waits low at (LendWriteback block most) (Refused fault) le = omega arith
to-lower waits low at (LendWriteback block most) _ le = omega arith
to-lower waits low at _ _ le = le

module _ (waits : Bool) where
  ascending-lower : (low at : ℕ) (entries : List Entry) → low ≤ at → AsksAscend waits at entries → AsksAscend waits low entries
  ascending-lower low at [] le is = tt
  ascending-lower low at (e ∷ entries) le is =
      (from-lower low at e.event le is.0, ascending-lower (asked_to waits low e.event e.outcome) (asked_to waits at e.event e.outcome) entries (to-lower waits low at e.event e.outcome le) is.1)

  ends-lower : (low at : ℕ) (entries : List Entry) → low ≤ at → asks_end waits low entries ≤ asks_end waits at entries
  ends-lower low at [] le = le
  ends-lower low at (e ∷ entries) le = ends-lower (asked_to waits low e.event e.outcome) (asked_to waits at e.event e.outcome) entries (to-lower waits low at e.event e.outcome le)

  -- what is asked for behind the end of others ascends with them
  pub ascending-append : (at mid : ℕ) (entries more : List Entry) → AsksAscend waits at entries → asks_end waits at entries ≤ mid → AsksAscend waits mid more → AsksAscend waits at (entries ++ more)
  ascending-append at mid [] more first end later = ascending-lower at mid more end later
  ascending-append at mid (e ∷ entries) more first end later = (first.0, ascending-append (asked_to waits at e.event e.outcome) mid entries more first.1 end later)

  pub ends-append : (at : ℕ) (entries more : List Entry) → asks_end waits at (entries ++ more) ≡ asks_end waits (asks_end waits at entries) more
  ends-append at [] more = refl
  ends-append at (e ∷ entries) more = ends-append (asked_to waits at e.event e.outcome) entries more

  pub ends-then : (at mid : ℕ) (entries more : List Entry) → asks_end waits at entries ≤ mid → asks_end waits at (entries ++ more) ≤ asks_end waits mid more
  ends-then at mid entries more end = subst (λ n. n ≤ asks_end waits mid more) (sym (ends-append at entries more)) (ends-lower (asks_end waits at entries) mid more end)

-- the first failed transfer of entries put one after another
or-assoc : (a b c : Option Done) → or_else a (or_else b c) ≡ or_else (or_else a b) c
or-assoc (Some done) b c = refl
or-assoc None b c = refl

pub first-append : (entries more : List Entry) → first_failed (entries ++ more) ≡ or_else (first_failed entries) (first_failed more)
first-append [] more = refl
first-append (e ∷ entries) more = ap (or_else (failed_of e.event e.outcome)) (first-append entries more) ∙ or-assoc (failed_of e.event e.outcome) (first_failed entries) (first_failed more)

pub written-append : (entries more : List Entry) → all_written (entries ++ more) ≡ all_written entries + all_written more
written-append entries more = total-append (λ (e : Entry). written_by e.event e.outcome) entries more

-- the turns of acts put one after another, and what of them was refused
pub turns-append : (acts more : List Act) → turns_in (acts ++ more) ≡ turns_in acts + turns_in more
turns-append acts more = ap length (own_entries-append acts more) ∙ length-append (own_entries acts) (own_entries more)

pub refused-append : (acts more : List Act) → refused_loans (own_entries (acts ++ more)) ≡ refused_loans (own_entries acts) + refused_loans (own_entries more)
refused-append acts more = ap refused_loans (own_entries-append acts more) ∙ total-append (λ (e : Entry). one_where (is_refused_loan e.event e.outcome)) (own_entries acts) (own_entries more)

-- what acts found, they find with others before or behind them
module _ (So : BlockState → Type 0) (m : MountView) (file : FileId) (b : ℕ) where
  pub found-left : (p : PassView) (acts more : List Act) → WasFound So m file b p acts → WasFound So m file b p (acts ++ more)
  found-left p acts more f = record {
    before = f.before;
    others = f.others;
    own = f.own;
    after = f.after ++ more;
    acts_are = ap (λ l. l ++ more) f.acts_are ∙ append_assoc f.before (Turn (stripe_at m file b) f.others f.own ∷ f.after) more;
    cell = f.cell;
    cell_is = f.cell_is;
    opening = f.opening;
    opening_is = f.opening_is;
    found = f.found;
  }

  pub found-right : (p q : PassView) (acts more : List Act) → IsPassOf m p → Acted acts p q → WasFound So m file b q more → WasFound So m file b p (acts ++ more)
  found-right p q acts more of acted f =
      let s = stripe_at m file b in
      record {
        before = acts ++ f.before;
        others = f.others;
        own = f.own;
        after = f.after;
        acts_are = ap (λ l. acts ++ l) f.acts_are ∙ sym (append_assoc acts f.before (Turn s f.others f.own ∷ f.after));
        cell = f.cell;
        cell_is = f.cell_is;
        opening = f.opening;
        opening_is = f.opening_is;
        found = subst (λ l. So (states_replayed f.cell.opening.geometry.block_size b (state_of f.opening) (l ++ f.others))) (seen-after m p q acts f.before s f.cell of acted f.cell_is) f.found;
      }

-- a block that acts met is met with others before or behind them
module _ (waits : Bool) (m : MountView) (file : FileId) (b : ℕ) where
  pub met-left : (p : PassView) (acts more : List Act) → IsMet waits m file b p acts → IsMet waits m file b p (acts ++ more)
  met-left p acts more (inl f) = inl (found-left IsSettled m file b p acts more f)
  met-left p acts more (inr (inl one)) = inr (inl (subst (HasOne (TookBack b)) (sym (made_in-append (stripe_at m file b) acts more)) (one-left (TookBack b) (made_in (stripe_at m file b) acts) (made_in (stripe_at m file b) more) one)))
  met-left p acts more (inr (inr f)) = inr (inr (f.0, found-left IsAway m file b p acts more f.1))

  pub met-right : (p q : PassView) (acts more : List Act) → IsPassOf m p → Acted acts p q → IsMet waits m file b q more → IsMet waits m file b p (acts ++ more)
  met-right p q acts more of acted (inl f) = inl (found-right IsSettled m file b p q acts more of acted f)
  met-right p q acts more of acted (inr (inl one)) = inr (inl (subst (HasOne (TookBack b)) (sym (made_in-append (stripe_at m file b) acts more)) (one-right (TookBack b) (made_in (stripe_at m file b) acts) (made_in (stripe_at m file b) more) one)))
  met-right p q acts more of acted (inr (inr f)) = inr (inr (f.0, found-right IsAway m file b p q acts more of acted f.1))

pub caused-later : (m : MountView) (entries more : List Entry) (fault : Option Fault) → IfSome fault (IsCaused m more) → IfSome fault (IsCaused m (entries ++ more))
caused-later m entries more None is = tt
caused-later m entries more (Some fault) is = caused-right m entries more fault is

-- where as many came back as were lent in two parts, so many did in both
pub returned-then : (acts more : List Act) → length (dones_in (own_entries acts)) ≡ loans_in acts → length (dones_in (own_entries more)) ≡ loans_in more → length (dones_in (own_entries (acts ++ more))) ≡ loans_in (acts ++ more)
returned-then acts more first later =
    let both : length (dones_in (own_entries (acts ++ more))) ≡ length (dones_in (own_entries acts) ++ dones_in (own_entries more)) = ap length (ap dones_in (own_entries-append acts more) ∙ dones-append (own_entries acts) (own_entries more)) in
    let parts = length-append (dones_in (own_entries acts)) (dones_in (own_entries more)) in
    let loans = loans-append acts more in
    omega (arith, both, parts, loans, first, later)

-- a walk that nothing stopped, and one behind it
module _ (m : MountView) (file : FileId) (waits : Bool) where
  unfoldable pub walks-then : (at mid next : ℕ) (x y z : LaneView) (p q r : PassView) (first later both : Written) → IsPassOf m p → Walks m file waits at mid x y p q first → Walks m file waits mid next y z q r later
      → both.blocks ≡ first.blocks + later.blocks → both.bios ≡ first.bios + later.bios → both.failed ≡ or_else first.failed later.failed → both.fault ≡ later.fault
      → Walks m file waits at next x z p r both
  walks-then at mid next x y z p q r first later both of one two blocks bios failed fault =
      let entries : own_entries (one.acts ++ two.acts) ≡ own_entries one.acts ++ own_entries two.acts = own_entries-append one.acts two.acts in
      let low = one.forward in
      let high = two.forward in
      let few = one.few in
      let few' = two.few in
      let some = one.few_bios in
      let some' = two.few_bios in
      let enough = one.enough_bios in
      let enough' = two.enough_bios in
      let end = ends-then waits at mid (own_entries one.acts) (own_entries two.acts) one.ends in
      let end' = two.ends in
      record {
        acts = one.acts ++ two.acts;
        steps = steps-then m file writes_back x y z p q r one.acts two.acts one.steps two.steps;
        begun = two.begun ∙ one.begun;
        forward = omega (arith, low, high);
        ascending = subst (AsksAscend waits at) (sym entries) (ascending-append waits at mid (own_entries one.acts) (own_entries two.acts) one.ascending one.ends two.ascending);
        ends = subst (λ l. asks_end waits at l ≤ next) (sym entries) (omega (arith, end, end'));
        blocks = blocks ∙ ap (λ n. n + later.blocks) one.blocks ∙ ap (λ n. all_written (own_entries one.acts) + n) two.blocks ∙ sym (ap all_written entries ∙ written-append (own_entries one.acts) (own_entries two.acts));
        few = omega (arith, blocks, few, few', low, high);
        bios = bios ∙ ap (λ n. n + later.bios) one.bios ∙ ap (λ n. loans_in one.acts + n) two.bios ∙ sym (loans-append one.acts two.acts);
        few_bios = omega (arith, bios, some, some', low, high);
        enough_bios = omega (arith, blocks, bios, enough, enough');
        returned = returned-then one.acts two.acts one.returned two.returned;
        failed = failed ∙ ap (λ o. or_else o later.failed) one.failed ∙ ap (or_else (first_failed (own_entries one.acts))) two.failed ∙ sym (ap first_failed entries ∙ first-append (own_entries one.acts) (own_entries two.acts));
        met = λ b from to. elim (cases_lt b mid) [
          | inl below ↦ met-left waits m file b p one.acts two.acts (one.met b from below)
          | inr above ↦ met-right waits m file b p q one.acts two.acts of one.steps.did.acted (two.met b above to)
        ];
        stops = subst (λ o. IfSome o StopsWriteback) (sym fault) two.stops;
        cause = subst (λ o. IfSome o (IsCaused m (own_entries (one.acts ++ two.acts)))) (sym fault) (subst (λ l. IfSome later.fault (IsCaused m l)) (sym entries) (caused-later m (own_entries one.acts) (own_entries two.acts) later.fault two.cause));
      }

  -- a walk that came to the end of its blocks, or was stopped, is the whole
  pub walked-all : (from to next : ℕ) (x y : LaneView) (p q : PassView) (written : Written) → IsPassOf m p → WalksOn m file waits to from next x y p q written → next ≤ to → ((written.fault ≡ None) → next ≡ to) → WritesBack m file waits from to x y p q written
  walked-all from to next x y p q written of on within' whole =
      let w = on.walks in
      let few = w.few in
      let few' = w.few_bios in
      let turns = on.turns in
      record {
        acts = w.acts;
        steps = w.steps;
        begun = w.begun;
        ascending = w.ascending;
        blocks = w.blocks;
        few = omega (arith, few, within');
        bios = w.bios;
        few_bios = omega (arith, few', within');
        enough_bios = w.enough_bios;
        returned = w.returned;
        sought = on.sought p [] of refl;
        turns = omega (arith, turns);
        failed = w.failed;
        met = λ none b low high. w.met b low (let e = whole none in omega (arith, high, e));
        stops = w.stops;
        cause = w.cause;
      }

-- no block is no walk
walks-none : (m : MountView) (file : FileId) (waits : Bool) (at : ℕ) (lane : LaneView) (p : PassView) → IsPassOf m p → Walks m file waits at at lane lane p p (nothing_written None)
walks-none m file waits at lane p of = record {
  acts = [];
  steps = steps-none m file writes_back lane p of;
  begun = refl;
  forward = omega arith;
  ascending = tt;
  ends = omega arith;
  blocks = refl;
  few = omega arith;
  bios = refl;
  few_bios = omega arith;
  enough_bios = omega arith;
  returned = refl;
  failed = refl;
  met = λ b low high. absurd (omega (arith, low, high));
  stops = tt;
  cause = tt;
}

pub walks-on-none : (m : MountView) (file : FileId) (waits : Bool) (to at : ℕ) (lane : LaneView) (p : PassView) (written : Written) → IsPassOf m p → written ≡ nothing_written None → WalksOn m file waits to at at lane lane p p written
unfolding walks-none
walks-on-none m file waits to at lane p written of is = subst (WalksOn m file waits to at at lane lane p p) (sym is) (record { walks = walks-none m file waits at lane p of; turns = omega arith; sought = λ start before begun acted. tt })

-- one more part of a walk, and the turns of both
module _ (m : MountView) (file : FileId) (waits : Bool) (to at mid next : ℕ) (x y z : LaneView) (p q r : PassView) (first later : Written) (of : IsPassOf m p) (clear : first.fault ≡ None) (one : WalksOn m file waits to at mid x y p q first) (two : WalksOn m file waits to mid next y z q r later) where
  pub walks-both : (both : Written) → both ≡ both_written first later → WalksOn m file waits to at next x z p r both
  unfolding walks-then
  walks-both both is =
      let count = turns-append one.walks.acts two.walks.acts in
      let count' = refused-append one.walks.acts two.walks.acts in
      let none : last_turns first.fault ≡ 0 = ap last_turns clear in
      let turns = one.turns in
      let turns' = two.turns in
      subst (WalksOn m file waits to at next x z p r) (sym is) (record {
        walks = walks-then m file waits at mid next x y z p q r first later (both_written first later) of one.walks two.walks refl refl refl refl;
        turns = omega (arith, count, count', none, turns, turns');
        sought = λ start before begun acted. asks-append m file start before one.walks.acts two.walks.acts (one.sought start before begun acted) (two.sought start (before ++ one.walks.acts) begun (acted-then before one.walks.acts start p q acted one.walks.steps.did.acted));
      })

-- whether something stopped a walk
pub none-is : (fault : Option Fault) → is_some fault ≡ false → fault ≡ None
none-is None is = refl
none-is (Some fault) is = absurd (cc)

pub some-not : (fault : Option Fault) → is_some fault ≡ true → fault ≡ None → ⊥
some-not None is none = cc
some-not (Some fault) is none = cc
