use Rattle.std.proofs.Common.{◌≡◌, ℕ, zero, suc, ◌+◌, ◌-◌, ◌<◌, ◌≤◌, Bool, true, false, ◌==◌, Some, None, if◌then◌else◌, List, [], ◌∷◌, ◌++◌, length, get_or, set, refl, sym, ◌∙◌, ap, arith, append-nil, append_assoc, add-zero}
use Rattle.std.proofs.lemmas.Bool.{eqb-true}
use Rattle.std.proofs.lemmas.Bool.Decides.{nat_tests}
use Rattle.std.proofs.lemmas.List.Elements.{filter_map-append}
use Rattle.std.specs.List.{cons_option}
use Rattle.iob_base.specs.declared.stamp.Stamp.{Stamp}
use Rattle.io_model.specs.declared.file.BlockEnd.{BlockEnd}
use Rattle.range_core.specs.Stamps.{journaled, stamp_added, stamp_at, stamps_at, stamps_from}

-- one more stamp of a run
pub stamps_from-more : (b n : ℕ) (st : Stamp) → stamps_from b (suc n) st ≡ stamps_from b n st ++ (b + n, st) ∷ []
stamps_from-more b zero st = ap (λ c. (c, st) ∷ []) (sym (add-zero b))
stamps_from-more b (suc n) st =
    ap (λ l. (b, st) ∷ l) (stamps_from-more (b + 1) n st ∙ ap (λ c. stamps_from (b + 1) n st ++ (c, st) ∷ []) (omega arith))

-- an end with this journal
abbrev pub with_journal : BlockEnd → List Stamp → BlockEnd
with_journal e stamps = record e { journal = stamps }

pub length-journaled : (b : ℕ) (log : List (ℕ × Stamp)) (ends : List BlockEnd) → length (journaled b log ends) ≡ length ends
length-journaled b log [] = refl
length-journaled b log (e ∷ ends) = ap suc (length-journaled (b + 1) log ends)

-- no stamps
pub journaled-nil : (b : ℕ) (ends : List BlockEnd) → journaled b [] ends ≡ ends
journaled-nil b [] = refl
journaled-nil b (e ∷ ends) = ap (λ l. with_journal e l ∷ journaled (b + 1) [] ends) (append-nil e.journal) ∙ ap (λ l. e ∷ l) (journaled-nil (b + 1) ends)

-- a place that was written
pub set-added : (ends : List BlockEnd) (at : ℕ) (d : BlockEnd) (st : Stamp) → at < length ends → set ends at (with_journal (get_or ends at d) ((get_or ends at d).journal ++ st ∷ [])) ≡ stamp_added at st ends
set-added [] at d st h = absurd (omega arith)
set-added (e ∷ ends) zero d st h = refl
set-added (e ∷ ends) (suc at) d st h = ap (λ l. e ∷ l) (set-added ends at d st (omega arith))

-- a stamp of this block, and of another
stamp_is : (t : Bool) (st : Stamp) → t ≡ true → (if t then Some st else None) ≡ Some st
stamp_is true st e = refl
stamp_is false st e = absurd (cc)

stamp_not : (t : Bool) (st : Stamp) → t ≡ false → (if t then Some st else None) ≡ None
stamp_not true st e = absurd (cc)
stamp_not false st e = refl

stamps_at-here : (c b : ℕ) (log : List (ℕ × Stamp)) (st : Stamp) → (b == c) ≡ true → stamps_at c (log ++ (b, st) ∷ []) ≡ stamps_at c log ++ st ∷ []
stamps_at-here c b log st t =
    filter_map-append (stamp_at c) log ((b, st) ∷ []) ∙ ap (λ o. stamps_at c log ++ cons_option o []) (stamp_is (b == c) st t)

stamps_at-other : (c b : ℕ) (log : List (ℕ × Stamp)) (st : Stamp) → (b == c) ≡ false → stamps_at c (log ++ (b, st) ∷ []) ≡ stamps_at c log
stamps_at-other c b log st t =
    filter_map-append (stamp_at c) log ((b, st) ∷ []) ∙ ap (λ o. stamps_at c log ++ cons_option o []) (stamp_not (b == c) st t) ∙ append-nil _

not_equal : (b c : ℕ) → b < c → (b == c) ≡ false
not_equal b c h = grind (arith, nat_tests)

later : (c b : ℕ) → c ≤ b → (b == c) ≡ false → c < b
later c b h t = grind (arith, nat_tests)

-- a stamp of an earlier block
journaled-past : (c b : ℕ) (log : List (ℕ × Stamp)) (st : Stamp) (ends : List BlockEnd) → b < c → journaled c (log ++ (b, st) ∷ []) ends ≡ journaled c log ends
journaled-past c b log st [] h = refl
journaled-past c b log st (e ∷ ends) h =
    ap (λ l. with_journal e (e.journal ++ l) ∷ journaled (c + 1) (log ++ (b, st) ∷ []) ends) (stamps_at-other c b log st (not_equal b c h))
    ∙ ap (λ l. with_journal e (e.journal ++ stamps_at c log) ∷ l) (journaled-past (c + 1) b log st ends (omega arith))

-- one stamp more in the log is one more at its block
pub journaled-more : (c b : ℕ) (log : List (ℕ × Stamp)) (st : Stamp) (ends : List BlockEnd) → c ≤ b → b < c + length ends → journaled c (log ++ (b, st) ∷ []) ends ≡ stamp_added (b - c) st (journaled c log ends)
journaled-more c b log st [] h k = absurd (omega arith)
journaled-more c b log st (e ∷ ends) h k =
    at c b log st e ends (b == c) refl h (λ l. journaled-more (c + 1) b log st ends (omega arith) (omega arith))
  where
    at : (c b : ℕ) (log : List (ℕ × Stamp)) (st : Stamp) (e : BlockEnd) (ends : List BlockEnd) (t : Bool) → (b == c) ≡ t → c ≤ b → (c < b → journaled (c + 1) (log ++ (b, st) ∷ []) ends ≡ stamp_added (b - (c + 1)) st (journaled (c + 1) log ends)) → journaled c (log ++ (b, st) ∷ []) (e ∷ ends) ≡ stamp_added (b - c) st (journaled c log (e ∷ ends))
    at c b log st e ends true t h more =
        let same : b ≡ c = eqb-true b c t in
        let none : b - c ≡ 0 = omega arith in
        ap (λ l. with_journal e (e.journal ++ l) ∷ journaled (c + 1) (log ++ (b, st) ∷ []) ends) (stamps_at-here c b log st t)
        ∙ ap (λ l. with_journal e (e.journal ++ (stamps_at c log ++ st ∷ [])) ∷ l) (journaled-past (c + 1) b log st ends (omega arith))
        ∙ ap (λ l. with_journal e l ∷ journaled (c + 1) log ends) (sym (append_assoc e.journal (stamps_at c log) (st ∷ [])))
        ∙ ap (λ n. stamp_added n st (with_journal e (e.journal ++ stamps_at c log) ∷ journaled (c + 1) log ends)) (sym none)
    at c b log st e ends false t h more =
        let after : c < b = later c b h t in
        let next : b - c ≡ suc (b - (c + 1)) = omega arith in
        ap (λ l. with_journal e (e.journal ++ l) ∷ journaled (c + 1) (log ++ (b, st) ∷ []) ends) (stamps_at-other c b log st t)
        ∙ ap (λ l. with_journal e (e.journal ++ stamps_at c log) ∷ l) (more after)
        ∙ ap (λ n. stamp_added n st (with_journal e (e.journal ++ stamps_at c log) ∷ journaled (c + 1) log ends)) (sym next)

-- the stamps of one log, and then those of another
pub journaled-append : (b : ℕ) (log more : List (ℕ × Stamp)) (ends : List BlockEnd) → journaled b (log ++ more) ends ≡ journaled b more (journaled b log ends)
journaled-append b log more [] = refl
journaled-append b log more (e ∷ ends) =
    ap (λ l. with_journal e (e.journal ++ l) ∷ journaled (b + 1) (log ++ more) ends) (filter_map-append (stamp_at b) log more)
    ∙ ap (λ l. with_journal e l ∷ journaled (b + 1) (log ++ more) ends) (sym (append_assoc e.journal (stamps_at b log) (stamps_at b more)))
    ∙ ap (λ l. with_journal e (e.journal ++ stamps_at b log ++ stamps_at b more) ∷ l) (journaled-append (b + 1) log more ends)
