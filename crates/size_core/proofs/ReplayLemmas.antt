-- One entry more in a history, and what it leaves of the size.
use Rattle.std.proofs.Common.{◌≡◌, ℕ, Bool, true, false, List, [], ◌∷◌, ◌++◌, refl, sym, ap, ◌∙◌, append_assoc, append-nil}
use Rattle.std.specs.Prelude.{◌&&◌}
use Rattle.size_core.specs.History.{stamps_of, stamps_in}
use Rattle.io_model.specs.Sizes.{size_after, replayed_size, found_is, sees_replayed}
use Rattle.size_core.specs.declared.entry.SizeEntry.{SizeEntry}
use Rattle.io_model.specs.declared.file.SizeStamp.{SizeStamp}

pub stamps_in-snoc : (es : List SizeEntry) (e : SizeEntry) → stamps_in (es ++ e ∷ []) ≡ stamps_in es ++ stamps_of e.event
stamps_in-snoc [] e = append-nil (stamps_of e.event)
stamps_in-snoc (x ∷ es) e = ap (λ l. stamps_of x.event ++ l) (stamps_in-snoc es e) ∙ sym (append_assoc (stamps_of x.event) (stamps_in es) (stamps_of e.event))

pub replayed_size-append : (size : ℕ) (xs ys : List SizeStamp) → replayed_size size (xs ++ ys) ≡ replayed_size (replayed_size size xs) ys
replayed_size-append size [] ys = refl
replayed_size-append size (x ∷ xs) ys = replayed_size-append (size_after size x.mark) xs ys

pub sees_replayed-append : (size : ℕ) (xs ys : List SizeStamp) → sees_replayed size xs ≡ true → sees_replayed (replayed_size size xs) ys ≡ true → sees_replayed size (xs ++ ys) ≡ true
sees_replayed-append size [] ys e f = f
sees_replayed-append size (x ∷ xs) ys e f = both (found_is size x.mark) (sees_replayed (size_after size x.mark) xs) e (λ g. sees_replayed-append (size_after size x.mark) xs ys g f)
  where
    both : (t u : Bool) {v : Bool} → (t && u) ≡ true → (u ≡ true → v ≡ true) → (t && v) ≡ true
    both true u e g = g e
    both false u e g = e
