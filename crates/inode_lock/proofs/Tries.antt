-- One more refused try.
use Rattle.std.proofs.Common.{◌≡◌, ℕ, List, [], ◌∷◌, ◌++◌, sym, ap, ◌∙◌, append_assoc, append-nil, None}
use Rattle.std.proofs.lemmas.List.Elements.{All-push}
use Rattle.inode_lock.specs.declared.word.Class.{Class}
use Rattle.inode_lock.specs.declared.steps.Step.{Step}
use Rattle.inode_lock.specs.View.{LockView, onward}
use Rattle.inode_lock.specs.Calls.{refused_steps, HasCause, IsRefused, tries_steps, HasTried}

pub tries_steps-push : (c : Class) (ts : List (ℕ × ℕ)) (t : ℕ × ℕ) → tries_steps c (ts ++ t ∷ []) ≡ tries_steps c ts ++ refused_steps c t.0 t.1
tries_steps-push c [] t = append-nil (refused_steps c t.0 t.1)
tries_steps-push c (x ∷ xs) t = ap (λ (l : List Step). refused_steps c x.0 x.1 ++ l) (tries_steps-push c xs t) ∙ sym (append_assoc (refused_steps c x.0 x.1) (tries_steps c xs) (refused_steps c t.0 t.1))

onward-onward : (v : LockView) (xs ys : List Step) → onward (onward v xs None) ys None ≡ onward v (xs ++ ys) None
onward-onward v xs ys = ap (λ (l : List Step). onward (record v { steps = [] }) l None) (append_assoc v.steps xs ys)

pub tried_again : (c : Class) (v m w : LockView) (read found : ℕ) → HasTried c v m → IsRefused c m read found w → HasTried c v w
tried_again c v m w read found before more =
    let tries : List (ℕ × ℕ) = before.0 in
    let last : ℕ × ℕ = (read, found) in
    let two : w ≡ onward (onward v (tries_steps c tries) None) (refused_steps c read found) None =
    more.1 ∙ ap (λ (u : LockView). onward u (refused_steps c read found) None) before.2 in
    let all : onward v (tries_steps c tries ++ refused_steps c read found) None ≡ onward v (tries_steps c (tries ++ last ∷ [])) None =
    ap (λ (l : List Step). onward v l None) (sym (tries_steps-push c tries last)) in (
      tries ++ last ∷ [],
      All-push (λ (t : ℕ × ℕ). HasCause c t.0 t.1) tries last before.1 more.0,
      two ∙ (onward-onward v (tries_steps c tries) (refused_steps c read found) ∙ all),
    )
