-- Acts of a walk put one after another, and the acts that it is made of.
use Rattle.std.proofs.Common.{◌≡◌, ℕ, ◌++◌, List, [], ◌∷◌, refl, sym, ap, ◌∙◌, subst}
use Rattle.std.specs.Prelude.{All, IsTrue}
use Rattle.std.proofs.lemmas.Bool.{false≢true}
use Rattle.std.proofs.lemmas.List.Elements.{All-append, All-cons, All-nil, All-weaker}
use Rattle.iob_base.specs.declared.stamp.FileId.{FileId}
use Rattle.range_core.specs.declared.entry.Entry.{Entry}
use Rattle.range_core.specs.declared.entry.Event.{Event}
use Rattle.range_core.specs.declared.entry.Event.TheVariants as event
use Rattle.mount_parts.specs.MountView.{MountView}
use Rattle.mini_fs.specs.Acts.{Act, Acts, HasRun, own_entries}
use Rattle.mini_fs.specs.Acts.Act.{Turn, Open, Close, Run}
use Rattle.mini_fs.specs.CallActs.{IsActAt, IsStripeOf, lock_acts, size_acts}
use Rattle.mini_fs.specs.PassView.{PassView}
use Rattle.mini_fs.proofs.ActLemmas.{acted-then}
use Rattle.mini_fs.proofs.CallEnds.{acted-caller}
use Rattle.mini_fs.proofs.CallLemmas.{lock_acts-append, own_entries-append, size_acts-append}
use Rattle.call_parts.specs.Steps.{IsPlaced, IsQuiet, is_quiet}
use Rattle.call_parts.proofs.StepLemmas.{quiet-placed}
use Rattle.writeback_ioend.specs.Walks.{Moves}
use Rattle.writeback_ioend.specs.Writebacks.{writes_back}

abbrev IsOf : ℕ → Entry → Type 0
IsOf caller e = e.caller ≡ caller

abbrev IsWriteback : Entry → Type 0
IsWriteback e = IsTrue (writes_back e.event)

-- none of these events gives bytes or leaves stamps
pub writes-quiet : (e : Event) → IsTrue (writes_back e) → IsTrue (is_quiet e)
writes-quiet (event.Sample block most) is = refl
writes-quiet (event.Attach block blocks) is = refl
writes-quiet (event.LendWriteback block most) is = refl
writes-quiet (event.WrittenBack ticket block kind blocks done) is = refl
writes-quiet e is = absurd (false≢true is)

module _ (m : MountView) (file : FileId) where
  pub moves-none : (p : PassView) → Moves m file p p []
  moves-none p = record { acted = refl; at_file = All-nil (IsActAt m file); made = All-nil IsWriteback; callers = All-nil (IsOf p.caller); locks = refl; sizes = refl; last = refl; begun = refl }

  pub moves-then : (p q r : PassView) (acts more : List Act) → Moves m file p q acts → Moves m file q r more → Moves m file p r (acts ++ more)
  moves-then p q r acts more first later =
      let same : q.caller ≡ p.caller = acted-caller acts p q first.acted in
      let entries : own_entries (acts ++ more) ≡ own_entries acts ++ own_entries more = own_entries-append acts more in
      record {
        acted = acted-then acts more p q r first.acted later.acted;
        at_file = All-append (IsActAt m file) acts more first.at_file later.at_file;
        made = subst (All IsWriteback) (sym entries) (All-append IsWriteback (own_entries acts) (own_entries more) first.made later.made);
        callers = subst (All (IsOf p.caller)) (sym entries) (All-append (IsOf p.caller) (own_entries acts) (own_entries more) first.callers (subst (λ n. All (IsOf n) (own_entries more)) same later.callers));
        locks = lock_acts-append acts more ∙ ap (λ l. l ++ lock_acts more) first.locks ∙ later.locks;
        sizes = size_acts-append acts more ∙ ap (λ l. l ++ size_acts more) first.sizes ∙ later.sizes;
        last = later.last ∙ first.last;
        begun = later.begun ∙ first.begun;
      }

  -- one act
  pub moves-turn : (stripe : ℕ) (others : List Entry) (own : Entry) (p q : PassView) → IsStripeOf m file stripe → Acts (Turn stripe others own) p q → IsTrue (writes_back own.event) → own.caller ≡ p.caller → Moves m file p q (Turn stripe others own ∷ [])
  moves-turn stripe others own p q at did made caller = record {
    acted = (q, did, refl);
    at_file = All-cons (IsActAt m file) (Turn stripe others own) [] at (All-nil (IsActAt m file));
    made = All-cons IsWriteback own [] made (All-nil IsWriteback);
    callers = All-cons (IsOf p.caller) own [] caller (All-nil (IsOf p.caller));
    locks = refl;
    sizes = refl;
    last = ap (λ (v : PassView). v.last) did.pass_is;
    begun = ap (λ (v : PassView). v.begun) did.pass_is;
  }

  pub moves-open : (stripe : ℕ) (p q : PassView) → IsStripeOf m file stripe → Acts (Open stripe) p q → Moves m file p q (Open stripe ∷ [])
  moves-open stripe p q at did = record {
    acted = (q, did, refl);
    at_file = All-cons (IsActAt m file) (Open stripe) [] at (All-nil (IsActAt m file));
    made = All-nil IsWriteback;
    callers = All-nil (IsOf p.caller);
    locks = refl;
    sizes = refl;
    last = ap (λ (v : PassView). v.last) did.pass_is;
    begun = ap (λ (v : PassView). v.begun) did.pass_is;
  }

  pub moves-close : (stripe : ℕ) (p q : PassView) → IsStripeOf m file stripe → Acts (Close stripe) p q → Moves m file p q (Close stripe ∷ [])
  moves-close stripe p q at did = record {
    acted = (q, did, refl);
    at_file = All-cons (IsActAt m file) (Close stripe) [] at (All-nil (IsActAt m file));
    made = All-nil IsWriteback;
    callers = All-nil (IsOf p.caller);
    locks = refl;
    sizes = refl;
    last = ap (λ (v : PassView). v.last) did.pass_is;
    begun = ap (λ (v : PassView). v.begun) did.pass_is;
  }

  pub moves-run : (bios : ℕ) (p q : PassView) → HasRun bios p q → Moves m file p q (Run bios ∷ [])
  moves-run bios p q did = record {
    acted = (q, did, refl);
    at_file = All-cons (IsActAt m file) (Run bios) [] tt (All-nil (IsActAt m file));
    made = All-nil IsWriteback;
    callers = All-nil (IsOf p.caller);
    locks = refl;
    sizes = refl;
    last = ap (λ (v : PassView). v.last) did.pass_is;
    begun = ap (λ (v : PassView). v.begun) did.pass_is;
  }

  -- and none of its acts leaves a stamp at another stripe than its block's
  pub moves-placed : (p q : PassView) (acts : List Act) → Moves m file p q acts → All (IsPlaced m file) acts
  moves-placed p q acts moves = quiet-placed m file acts (All-weaker IsWriteback IsQuiet (λ e mine. writes-quiet e.event mine) (own_entries acts) moves.made)
