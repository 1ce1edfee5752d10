-- Which loans acts ask for, put one after another.
use Rattle.std.proofs.Common.{◌≡◌, ℕ, List, [], ◌∷◌, ◌++◌, sym, subst, append_assoc, append-nil}
use Rattle.std.specs.Prelude.{All}
use Rattle.std.proofs.lemmas.List.Elements.{All-head, All-tail}
use Rattle.iob_base.specs.declared.stamp.FileId.{FileId}
use Rattle.range_core.specs.declared.entry.Entry.{Entry}
use Rattle.range_core.specs.declared.entry.Event.TheVariants.{LendWriteback}
use Rattle.mount_parts.specs.MountView.{MountView}
use Rattle.mini_fs.specs.Acts.{Act, own_entries}
use Rattle.mini_fs.specs.Acts.Act.{Turn, SizeTurn, Busy, Open, Close, Take, Refused, Leave, Run, Note, Number}
use Rattle.mini_fs.specs.PassView.{PassView}
use Rattle.writeback_ioend.specs.Writebacks.{AsksDue}

-- an entry asks for no loan
abbrev pub AsksNone : Entry → Type 0
AsksNone e = (block most : ℕ) → e.event ≡ LendWriteback block most → ⊥

module _ (m : MountView) (file : FileId) (p : PassView) where
  pub asks-append : (before acts more : List Act) → AsksDue m file p before acts → AsksDue m file p (before ++ acts) more → AsksDue m file p before (acts ++ more)
  asks-append before [] more first later = subst (λ l. AsksDue m file p l more) (append-nil before) later
  asks-append before (a ∷ acts) more first later = (first.0, asks-append (before ++ a ∷ []) acts more first.1 (subst (λ l. AsksDue m file p l more) (sym (append_assoc before (a ∷ []) acts)) later))

  -- acts whose entries ask for none
  pub asks-none : (before acts : List Act) → All AsksNone (own_entries acts) → AsksDue m file p before acts
  asks-none before [] none = tt
  asks-none before (Turn stripe others own ∷ acts) none = ((λ block most e. absurd (All-head AsksNone own (own_entries acts) none block most e)), asks-none (before ++ Turn stripe others own ∷ []) acts (All-tail AsksNone own (own_entries acts) none))
  asks-none before (SizeTurn cell others own ∷ acts) none = (tt, asks-none (before ++ SizeTurn cell others own ∷ []) acts none)
  asks-none before (Busy stripe word ∷ acts) none = (tt, asks-none (before ++ Busy stripe word ∷ []) acts none)
  asks-none before (Open stripe ∷ acts) none = (tt, asks-none (before ++ Open stripe ∷ []) acts none)
  asks-none before (Close stripe ∷ acts) none = (tt, asks-none (before ++ Close stripe ∷ []) acts none)
  asks-none before (Take at c old new ∷ acts) none = (tt, asks-none (before ++ Take at c old new ∷ []) acts none)
  asks-none before (Refused at c old new ∷ acts) none = (tt, asks-none (before ++ Refused at c old new ∷ []) acts none)
  asks-none before (Leave at c old new ∷ acts) none = (tt, asks-none (before ++ Leave at c old new ∷ []) acts none)
  asks-none before (Run bios ∷ acts) none = (tt, asks-none (before ++ Run bios ∷ []) acts none)
  asks-none before (Note begun ∷ acts) none = (tt, asks-none (before ++ Note begun ∷ []) acts none)
  asks-none before (Number call ∷ acts) none = (tt, asks-none (before ++ Number call ∷ []) acts none)
