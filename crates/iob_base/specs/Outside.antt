use Rattle.std.specs.Prelude.{◌≡◌, ℕ, zero, suc, Bool, true, false, ◌<◌, ◌≤◌, Option, Some, Result, Ok, Err, List, [], ◌++◌, length, take, drop, OnErr, IfSome, MatchResult}
use Rattle.iob_base.specs.Counts.{Rose}

-- a count of faults does not fall in a call, and an error comes only where it rose
pub record HasCause {T E : Type 0} (before : ℕ) (result : Result T E) (now : ℕ) : Type 0 where
  pub never_falls : before ≤ now
  pub rose : OnErr result (Rose before now)

-- a read that met these bytes left moved the first n of them into its buffer; none for a buffer that
-- is not empty means the end
pub record Reads (bytes old new : List ℕ) (left : Option (List ℕ)) (n : ℕ) : Type 0 where
  pub within : n ≤ length bytes
  pub moved : new ≡ take n bytes ++ drop n old
  pub rest : left ≡ Some (drop n bytes)
  pub ends : n ≡ 0 → 0 < length old → bytes ≡ []

-- where a source tells the bytes left, it goes on telling them: fewer by those that it moved, or the
-- same after an error
abbrev pub ReadsTold : {E : Type 0} → Option (List ℕ) → Result ℕ E → List ℕ → List ℕ → Option (List ℕ) → Type 0
ReadsTold before result old new now =
    IfSome before (λ bytes. MatchResult result (Reads bytes old new now) (λ _. now ≡ Some bytes))

-- a write that takes n bytes of a piece: some, where the piece is not empty
pub record IsPieceLength (n : ℕ) (piece : List ℕ) : Type 0 where
  pub within : n ≤ length piece
  pub moves : 0 < length piece → 0 < n

-- where a sink tells the bytes taken, it goes on telling them: more by the first n of the piece, or the
-- same after an error
abbrev pub TakesTold : {E : Type 0} → Option (List ℕ) → Result ℕ E → List ℕ → Option (List ℕ) → Type 0
TakesTold before result piece now =
    IfSome before (λ bytes. MatchResult result (λ n. now ≡ Some (bytes ++ take n piece)) (λ _. now ≡ Some bytes))

-- where a sink tells the bytes taken, it tells the same after the call
abbrev pub KeepsTold : Option (List ℕ) → Option (List ℕ) → Type 0
KeepsTold before now = IfSome before (λ bytes. now ≡ Some bytes)

-- whether a sink is finished after a write: no more where the write took a byte, and as before elsewhere
abbrev pub finished_after_write : {E : Type 0} → Result ℕ E → Bool → Bool
finished_after_write (Ok zero) before = before
finished_after_write (Ok (suc n)) before = false
finished_after_write (Err e) before = before

-- whether a sink is finished after a finish: where that did not fail, and as before elsewhere
abbrev pub finished_after_finish : {T E : Type 0} → Result T E → Bool → Bool
finished_after_finish (Ok x) before = true
finished_after_finish (Err e) before = before
