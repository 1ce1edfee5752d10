-- Acts of a call put one after another.
use Rattle.std.proofs.Common.{◌≡◌, ℕ, ◌+◌, ◌==◌, List, [], ◌∷◌, ◌++◌, Bool, refl, sym, subst, ap, ◌∙◌, arith, if◌then◌else◌}
use Rattle.std.specs.Prelude.{All, IsTrue}
use Rattle.std.proofs.lemmas.List.Elements.{All-append, All-nil}
use Rattle.iob_base.specs.declared.stamp.FileId.{FileId}
use Rattle.turn_cell.specs.Stakes.{total}
use Rattle.turn_cell.proofs.Sums.{total-append}
use Rattle.range_core.specs.EntryCounts.{lendings}
use Rattle.range_core.specs.declared.entry.Entry.{Entry}
use Rattle.range_core.specs.declared.entry.Event.{Event}
use Rattle.mount_parts.specs.MountView.{MountView}
use Rattle.mini_fs.specs.Acts.{Act, Acted, closed_in, made_in, opened_in, own_entries, seen_in}
use Rattle.mini_fs.specs.Acts.Act.{Turn, SizeTurn, Busy, Open, Close, Take, Refused, Leave, Run, Note, Number}
use Rattle.mini_fs.specs.CallActs.{CallActs, IsActAt, loans_in, lock_acts, size_acts}
use Rattle.mini_fs.specs.PassView.{PassView}
use Rattle.mini_fs.proofs.ActLemmas.{acted-then}

pub own_entries-append : (acts more : List Act) → own_entries (acts ++ more) ≡ own_entries acts ++ own_entries more
own_entries-append [] more = refl
own_entries-append (Turn stripe others own ∷ acts) more = ap (λ l. own ∷ l) (own_entries-append acts more)
own_entries-append (SizeTurn cell others own ∷ acts) more = own_entries-append acts more
own_entries-append (Busy stripe word ∷ acts) more = own_entries-append acts more
own_entries-append (Open stripe ∷ acts) more = own_entries-append acts more
own_entries-append (Close stripe ∷ acts) more = own_entries-append acts more
own_entries-append (Take file c before after ∷ acts) more = own_entries-append acts more
own_entries-append (Refused file c before after ∷ acts) more = own_entries-append acts more
own_entries-append (Leave file c before after ∷ acts) more = own_entries-append acts more
own_entries-append (Run bios ∷ acts) more = own_entries-append acts more
own_entries-append (Note begun ∷ acts) more = own_entries-append acts more
own_entries-append (Number call ∷ acts) more = own_entries-append acts more

pub lock_acts-append : (acts more : List Act) → lock_acts (acts ++ more) ≡ lock_acts acts ++ lock_acts more
lock_acts-append [] more = refl
lock_acts-append (Turn stripe others own ∷ acts) more = lock_acts-append acts more
lock_acts-append (SizeTurn cell others own ∷ acts) more = lock_acts-append acts more
lock_acts-append (Busy stripe word ∷ acts) more = lock_acts-append acts more
lock_acts-append (Open stripe ∷ acts) more = lock_acts-append acts more
lock_acts-append (Close stripe ∷ acts) more = lock_acts-append acts more
lock_acts-append (Take file c before after ∷ acts) more = ap (λ l. Take file c before after ∷ l) (lock_acts-append acts more)
lock_acts-append (Refused file c before after ∷ acts) more = ap (λ l. Refused file c before after ∷ l) (lock_acts-append acts more)
lock_acts-append (Leave file c before after ∷ acts) more = ap (λ l. Leave file c before after ∷ l) (lock_acts-append acts more)
lock_acts-append (Run bios ∷ acts) more = lock_acts-append acts more
lock_acts-append (Note begun ∷ acts) more = lock_acts-append acts more
lock_acts-append (Number call ∷ acts) more = lock_acts-append acts more

pub size_acts-append : (acts more : List Act) → size_acts (acts ++ more) ≡ size_acts acts ++ size_acts more
size_acts-append [] more = refl
size_acts-append (Turn stripe others own ∷ acts) more = size_acts-append acts more
size_acts-append (SizeTurn cell others own ∷ acts) more = ap (λ l. SizeTurn cell others own ∷ l) (size_acts-append acts more)
size_acts-append (Busy stripe word ∷ acts) more = size_acts-append acts more
size_acts-append (Open stripe ∷ acts) more = size_acts-append acts more
size_acts-append (Close stripe ∷ acts) more = size_acts-append acts more
size_acts-append (Take file c before after ∷ acts) more = size_acts-append acts more
size_acts-append (Refused file c before after ∷ acts) more = size_acts-append acts more
size_acts-append (Leave file c before after ∷ acts) more = size_acts-append acts more
size_acts-append (Run bios ∷ acts) more = size_acts-append acts more
size_acts-append (Note begun ∷ acts) more = size_acts-append acts more
size_acts-append (Number call ∷ acts) more = size_acts-append acts more

pub opened-append : (k : ℕ) (acts more : List Act) → opened_in k (acts ++ more) ≡ opened_in k acts + opened_in k more
opened-append k [] more = omega arith
opened-append k (Turn stripe others own ∷ acts) more = opened-append k acts more
opened-append k (SizeTurn cell others own ∷ acts) more = opened-append k acts more
opened-append k (Busy stripe word ∷ acts) more = opened-append k acts more
opened-append k (Open stripe ∷ acts) more = (let rest = opened-append k acts more in omega (arith, rest))
opened-append k (Close stripe ∷ acts) more = opened-append k acts more
opened-append k (Take file c before after ∷ acts) more = opened-append k acts more
opened-append k (Refused file c before after ∷ acts) more = opened-append k acts more
opened-append k (Leave file c before after ∷ acts) more = opened-append k acts more
opened-append k (Run bios ∷ acts) more = opened-append k acts more
opened-append k (Note begun ∷ acts) more = opened-append k acts more
opened-append k (Number call ∷ acts) more = opened-append k acts more

pub closed-append : (k : ℕ) (acts more : List Act) → closed_in k (acts ++ more) ≡ closed_in k acts + closed_in k more
closed-append k [] more = omega arith
closed-append k (Turn stripe others own ∷ acts) more = closed-append k acts more
closed-append k (SizeTurn cell others own ∷ acts) more = closed-append k acts more
closed-append k (Busy stripe word ∷ acts) more = closed-append k acts more
closed-append k (Open stripe ∷ acts) more = closed-append k acts more
closed-append k (Close stripe ∷ acts) more = (let rest = closed-append k acts more in omega (arith, rest))
closed-append k (Take file c before after ∷ acts) more = closed-append k acts more
closed-append k (Refused file c before after ∷ acts) more = closed-append k acts more
closed-append k (Leave file c before after ∷ acts) more = closed-append k acts more
closed-append k (Run bios ∷ acts) more = closed-append k acts more
closed-append k (Note begun ∷ acts) more = closed-append k acts more
closed-append k (Number call ∷ acts) more = closed-append k acts more

pub loans-append : (acts more : List Act) → loans_in (acts ++ more) ≡ loans_in acts + loans_in more
loans-append acts more = ap (total lendings) (own_entries-append acts more) ∙ total-append lendings (own_entries acts) (own_entries more)

pub call-none : (m : MountView) (file : FileId) (may : Event → Bool) (p : PassView) → CallActs m file may p p []
call-none m file may p = record { acted = refl; at_file = All-nil (IsActAt m file); made = All-nil (λ (e : Entry). IsTrue (may e.event)); closed = λ stripe. refl }

pub call-then : (m : MountView) (file : FileId) (may : Event → Bool) (p q r : PassView) (acts more : List Act) → CallActs m file may p q acts → CallActs m file may q r more → CallActs m file may p r (acts ++ more)
call-then m file may p q r acts more first later = record {
  acted = acted-then acts more p q r first.acted later.acted;
  at_file = All-append (IsActAt m file) acts more first.at_file later.at_file;
  made = subst (All (λ (e : Entry). IsTrue (may e.event))) (sym (own_entries-append acts more)) (All-append (λ (e : Entry). IsTrue (may e.event)) (own_entries acts) (own_entries more) first.made later.made);
  closed = λ stripe. opened-append stripe acts more ∙ (let a = first.closed stripe in let b = later.closed stripe in let e : opened_in stripe acts + opened_in stripe more ≡ closed_in stripe acts + closed_in stripe more = omega (arith, a, b) in e) ∙ sym (closed-append stripe acts more);
}
