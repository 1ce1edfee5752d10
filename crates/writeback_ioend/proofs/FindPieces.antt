-- The turn that looks for work: the blocks before the one that it found are settled.
use Rattle.std.proofs.Common.{◌≡◌, ℕ, ◌+◌, ◌-◌, ◌<◌, ◌≤◌, inl, Bool, [], ◌∷◌, Some, None, Option, refl, sym, ap, ◌∙◌, subst, arith}
use Rattle.std.specs.Prelude.{◌/◌, ◌%◌, IfSome, slice_get}
use Rattle.iob_base.specs.declared.stamp.FileId.{FileId}
use Rattle.range_core.specs.FindDues.{FoundDue, IsBefore, IsDue}
use Rattle.range_core.specs.declared.entry.Event.TheVariants.{Sample}
use Rattle.range_core.specs.declared.entry.Entry.{Entry}
use Rattle.range_core.specs.declared.entry.Outcome.TheVariants.{Sampled}
use Rattle.range_core.specs.declared.range.find_due.Found.{Found}
use Rattle.mount_parts.specs.MountView.{IsLaidOut, MountView, file_at, stripe_at}
use Rattle.mount_parts.proofs.Places.{there}
use Rattle.mini_fs.specs.Acts.{Acts}
use Rattle.mini_fs.specs.Acts.Act.{Turn}
use Rattle.mini_fs.specs.DueTurns.{due_run}
use Rattle.mini_fs.specs.PageTurns.{entry_by}
use Rattle.mini_fs.specs.PassView.{PassView, claims_of}
use Rattle.mini_fs.specs.Turns.{TurnsAt}
use Rattle.mini_fs.proofs.ActLemmas.{turned-act}
use Rattle.mini_fs.proofs.Ready.{run-lies}
use Rattle.writeback_ioend.specs.Folios.{LooksOn, OneTurn}
use Rattle.writeback_ioend.specs.Writebacks.{IsDueState, IsSettled, WasFound}
use Rattle.writeback_ioend.proofs.FoundLemmas.{found-turn}
use Rattle.writeback_ioend.proofs.Moves.{moves-turn}

-- the place that a look came to
abbrev pub come_to : ℕ → Option ℕ → ℕ
come_to end None = end
come_to end (Some due) = due

module _ (m : MountView) (file : FileId) (waits : Bool) (at most : ℕ) (laid : IsLaidOut m) (some : 0 < most) (within : at + most ≤ (file_at m file).blocks) (folds : at % 64 + most ≤ 64) (p q : PassView) (found : Found)
    (t : TurnsAt (λ opening history before after entry. FoundDue opening (due_run at most) (due_run at most) before after (claims_of p) (claims_of p) found entry) m (stripe_at m file at) (claims_of p) (claims_of p) p q) where
  before-due : (due : Option ℕ) (b : ℕ) → b < come_to (at + most) due → IsBefore due b
  before-due None b less = tt
  before-due (Some due) b less = less

  -- a block before the one that was found is settled
  settled : (b : ℕ) → at ≤ b → b < at + most → IsBefore found.due b → WasFound IsSettled m file b p (Turn (stripe_at m file at) t.turned.others t.turned.entry ∷ [])
  settled b low less before =
      let value = t.turned.value in
      let holds = t.turned.stood.holds in
      let lies = run-lies m file laid at most some within folds t.cell t.stand.cell_is in
      let first = holds.same_run.first in
      let long = holds.same_run.blocks in
      let begins = lies.low in
      let ends = lies.high in
      let c = there value.cells (b - value.first) (omega (arith, low, less, first, long, begins, ends)) in
      let place : b - value.first ≡ at - value.first + (b - at) = omega (arith, low, first, begins) in
      let block : b ≡ at + (b - at) = omega (arith, low) in
      let calm = t.turned.done.calm (b - at) c.0 (omega (arith, low, less)) (subst (IsBefore found.due) block before) (ap (slice_get value.cells) (sym place) ∙ c.1) in
      let fold : at / 64 ≡ b / 64 = omega (arith, low, less, folds) in
      let home : stripe_at m file at ≡ stripe_at m file b = ap (λ k. (file_at m file).stripe + k) fold in
      found-turn IsSettled m file b (stripe_at m file at) (claims_of p) (claims_of p) p q t c.0 home (record { low = omega (arith, low, begins); some = omega arith; high = omega (arith, less, ends) }) c.1 (record { clean = calm.clean; home = calm.home })

  looked : (due : Option ℕ) → found.due ≡ due → at ≤ come_to (at + most) due → come_to (at + most) due ≤ at + most → OneTurn m file waits at (come_to (at + most) due) p q None
  looked due is forward high =
      let s = stripe_at m file at in
      let others = t.turned.others in
      let own : Entry = entry_by p.caller (Sample at most) (Sampled found.sample) in
      let own-is : t.turned.entry ≡ own = t.turned.done.entry_is in
      record {
        lends = record {
          acts = Turn s others own ∷ [];
          moves = moves-turn m file s others own p q (at, omega (arith, some, within), refl) (subst (λ e. Acts (Turn s others e) p q) own-is (turned-act t)) refl refl;
          out = λ k. refl;
          none_run = refl;
          loans = refl;
          none_back = refl;
          none_written = refl;
          none_failed = refl;
          forward = forward;
          ascending = (omega arith, tt);
          ends = forward;
          many = omega arith;
          few = omega arith;
          short = omega arith;
          lent = tt;
          met = λ b low less. inl (subst (λ e. WasFound IsSettled m file b p (Turn s others e ∷ [])) own-is (settled b low (omega (arith, less, high)) (subst (λ o. IsBefore o b) (sym is) (before-due due b less))));
          stops = tt;
          cause = tt;
        };
        turns = omega arith;
        sought = λ start before. ((λ block many e. absurd (cc e)), tt);
      }

  -- none is to be written
  pub found-none : found.due ≡ None → OneTurn m file waits at (at + most) p q None
  found-none is = looked None is (omega arith) (omega arith)

  -- the first that is to be written, or that is away, is one of the run
  pub found-low : (due : ℕ) → found.due ≡ Some due → at ≤ due
  found-low due is = (subst (λ o. IfSome o (IsDue t.turned.value at most)) is t.turned.done.due).low

  pub found-high : (due : ℕ) → found.due ≡ Some due → due < at + most
  found-high due is = (subst (λ o. IfSome o (IsDue t.turned.value at most)) is t.turned.done.due).high

  pub found-some : (due : ℕ) → found.due ≡ Some due → OneTurn m file waits at due p q None
  found-some due is = looked (Some due) is (found-low due is) (let h = found-high due is in omega (arith, h))

  pub found-due : (due : ℕ) (is : found.due ≡ Some due) → WasFound IsDueState m file due p (found-some due is).lends.acts
  unfolding found-some looked
  found-due due is =
      let d = subst (λ o. IfSome o (IsDue t.turned.value at most)) is t.turned.done.due in
      let lies = run-lies m file laid at most some within folds t.cell t.stand.cell_is in
      let low = d.low in
      let high = d.high in
      let begins = lies.low in
      let ends = lies.high in
      let fold : at / 64 ≡ due / 64 = omega (arith, low, high, folds) in
      let home : stripe_at m file at ≡ stripe_at m file due = ap (λ k. (file_at m file).stripe + k) fold in
      subst (λ e. WasFound IsDueState m file due p (Turn (stripe_at m file at) t.turned.others e ∷ [])) t.turned.done.entry_is
      (found-turn IsDueState m file due (stripe_at m file at) (claims_of p) (claims_of p) p q t d.cell home (record { low = omega (arith, low, begins); some = omega arith; high = omega (arith, high, ends) }) d.here d.is)

  pub found-look : (due end : ℕ) → found.due ≡ Some due → LooksOn m file waits at due end p q
  found-look due end is = record { one = found-some due is; due = λ less. found-due due is }
