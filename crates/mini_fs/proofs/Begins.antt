-- What the turns of a begin come to, try after try.
use Rattle.std.proofs.Common.{◌≡◌, ℕ, inl, inr, Bool, true, false, List, [], ◌∷◌, ◌++◌, Some, None, Option, Ok, Err, refl, sym, ap, ◌∙◌, subst}
use Rattle.std.specs.Prelude.{IsSome, Result, if◌then◌else◌}
use Rattle.std.proofs.lemmas.List.Elements.{All-nil, All-push}
use Rattle.iob_base.specs.declared.stamp.FileId.{FileId}
use Rattle.io_model.specs.declared.file.Extent.{Extent}
use Rattle.io_model.specs.declared.file.Kind.{Kind}
use Rattle.io_model.specs.declared.file.Kind.TheVariants.{Hole, Delalloc, Unwritten, Mapped}
use Rattle.iomap_core.specs.declared.ops.BeginFault.{BeginFault}
use Rattle.iomap_core.specs.declared.ops.BeginFault.TheVariants.{NotOverwrite}
use Rattle.range_core.specs.Kinds.{has_space, is_hole, is_mapped}
use Rattle.range_core.specs.declared.fault.EventFault.{EventFault}
use Rattle.range_core.specs.declared.fault.EventFault.TheVariants.{Stale}
use Rattle.range_core.specs.declared.sample.Sample.{Sample}
use Rattle.mount_parts.specs.MountView.{MountView}
use Rattle.mini_fs.specs.MapTurns.{MadeTurns, MakesTurn, turns_of}
use Rattle.mini_fs.specs.MapTurns.MapTurn.{Look, Place, Promise, TakeBack}
use Rattle.mini_fs.specs.Mappings.{ArePlaced, AreStale, FoundHole, IsDirectWrite, IsLook, IsOverwrite, IsRoundOfDirect, IsTryOfWrite, IsWrite, LackedSpace, PlaceRound, TakesBack, answer_in, begin_fault, begun_of, has_round, place_turns, refusal_of, stale_turns}
use Rattle.mini_fs.specs.PassView.{PassView}
use Rattle.mini_fs.specs.declared.begun.Begun.{Begun}
use Rattle.mini_fs.proofs.MapSteps.{make-then, turns_of-more}

-- no turn was made yet
pub none-stale : (m : MountView) (file : FileId) (b most : ℕ) (p : PassView) → MadeTurns m file (AreStale b most) p p
none-stale m file b most p = record { turns = []; make = refl; are = record { tries = []; holes = All-nil FoundHole; turns_are = refl } }

pub none-placed : (m : MountView) (file : FileId) (b most : ℕ) (p : PassView) → MadeTurns m file (ArePlaced b most false) p p
none-placed m file b most p = record { turns = []; make = refl; are = record { rounds = []; lacked = All-nil LackedSpace; new_is = refl; turns_are = refl } }

-- one more try that was stale
pub more-stale : (m : MountView) (file : FileId) (b most : ℕ) (p q r : PassView) → MadeTurns m file (AreStale b most) p q → MadeTurns m file (IsTryOfWrite m file b most None) q r → MadeTurns m file (AreStale b most) p r
more-stale m file b most p q r before one =
    let t = one.are.0 in
    let hole = one.are.1 in
    let is = one.are.2 in
    record {
      turns = before.turns ++ one.turns;
      make = make-then m file before.turns one.turns p q r before.make one.make;
      are = record {
        tries = before.are.tries ++ t ∷ [];
        holes = All-push FoundHole before.are.tries t before.are.holes hole;
        turns_are = ap (λ l. l ++ one.turns) before.are.turns_are ∙ ap (λ l. turns_of (stale_turns b most) before.are.tries ++ l) is ∙ sym (turns_of-more (stale_turns b most) before.are.tries t);
      };
    }

-- the last try of a write
pub last-write : (m : MountView) (file : FileId) (b most : ℕ) (answer : Result Begun BeginFault) (p q r : PassView) → MadeTurns m file (AreStale b most) p q → MadeTurns m file (IsTryOfWrite m file b most (Some answer)) q r → MadeTurns m file (λ turns. IsWrite m file b most turns answer) p r
last-write m file b most answer p q r before one = record {
  turns = before.turns ++ one.turns;
  make = make-then m file before.turns one.turns p q r before.make one.make;
  are = record { before = before.turns; last = one.turns; turns_are = refl; stale = before.are; ends = one.are };
}

some-round : (rounds : List PlaceRound) (t : PlaceRound) → true ≡ has_round (rounds ++ t ∷ [])
some-round [] t = refl
some-round (r ∷ rounds) t = refl

-- one more round that gave sectors
pub more-placed : (m : MountView) (file : FileId) (b most : ℕ) (new : Bool) (p q r : PassView) → MadeTurns m file (ArePlaced b most new) p q → MadeTurns m file (IsRoundOfDirect m file b most new None) q r → MadeTurns m file (ArePlaced b most true) p r
more-placed m file b most new p q r before one =
    let t = one.are.0 in
    let lacked = one.are.1 in
    let is = one.are.2 in
    record {
      turns = before.turns ++ one.turns;
      make = make-then m file before.turns one.turns p q r before.make one.make;
      are = record {
        rounds = before.are.rounds ++ t ∷ [];
        lacked = All-push LackedSpace before.are.rounds t before.are.lacked lacked;
        new_is = some-round before.are.rounds t;
        turns_are = ap (λ l. l ++ one.turns) before.are.turns_are ∙ ap (λ l. turns_of (place_turns b most) before.are.rounds ++ l) is ∙ sym (turns_of-more (place_turns b most) before.are.rounds t);
      };
    }

-- the last round of a direct write
pub last-direct : (m : MountView) (file : FileId) (b most : ℕ) (new : Bool) (answer : Result Begun BeginFault) (p q r : PassView) → MadeTurns m file (ArePlaced b most new) p q → MadeTurns m file (IsRoundOfDirect m file b most new (Some answer)) q r → MadeTurns m file (λ turns. IsDirectWrite m file b most turns answer) p r
last-direct m file b most new answer p q r before one = record {
  turns = before.turns ++ one.turns;
  make = make-then m file before.turns one.turns p q r before.make one.make;
  are = record { before = before.turns; last = one.turns; new = new; turns_are = refl; placed = before.are; ends = one.are };
}

-- a kind that is a hole's
pub hole-is : (k : Kind) → is_hole k ≡ true → k ≡ Hole
hole-is Hole e = refl
hole-is Delalloc e = absurd (cc)
hole-is (Unwritten d) e = absurd (cc)
hole-is (Mapped d) e = absurd (cc)

module _ (m : MountView) (file : FileId) (b most : ℕ) (seen : Sample) (p q r : PassView) (look : MakesTurn m file (Look b most seen) p q) where
  -- one look
  pub made-look : (answer : Result Begun BeginFault) → answer ≡ Ok (begun_of m file false seen) → MadeTurns m file (λ turns. IsLook m file b most turns answer) p q
  made-look answer is = record { turns = Look b most seen ∷ []; make = (q, look, refl); are = record { sample = seen; turns_are = refl; answer_is = is } }

  pub made-overwrite : (answer : Result Begun BeginFault) → answer ≡ (if is_mapped seen.extent.kind then Ok (begun_of m file false seen) else Err (NotOverwrite b)) → MadeTurns m file (λ turns. IsOverwrite m file b most turns answer) p q
  made-overwrite answer is = record { turns = Look b most seen ∷ []; make = (q, look, refl); are = record { sample = seen; turns_are = refl; answer_is = is } }

  -- a try of a write that found no hole
  pub made-used : (begun : Begun) → is_hole seen.extent.kind ≡ false → begun ≡ begun_of m file false seen → MadeTurns m file (IsTryOfWrite m file b most (Some (Ok begun))) p q
  made-used begun used is = record { turns = Look b most seen ∷ []; make = (q, look, refl); are = inl (record { sample = seen; used = used; turns_are = refl; answer_is = ap Ok is }) }

  -- a try of a write to which space was promised
  pub made-promise : (promised : Sample) (begun : Begun) → seen.extent.kind ≡ Hole → MakesTurn m file (Promise seen seen.extent.length (Ok promised)) q r → begun ≡ begun_of m file true promised → MadeTurns m file (IsTryOfWrite m file b most (Some (Ok begun))) p r
  made-promise promised begun hole turn is = record {
    turns = Look b most seen ∷ Promise seen seen.extent.length (Ok promised) ∷ [];
    make = (q, look, (r, turn, refl));
    are = inr (record { sample = seen; promise = Ok promised; hole = hole; turns_are = refl; answer_is = ap Ok is });
  }

  -- a try of a write whose promise was refused
  pub made-refusal : (fault : EventFault) → seen.extent.kind ≡ Hole → MakesTurn m file (Promise seen seen.extent.length (Err fault)) q r → (begin_fault fault ≡ None → (now : ℕ) × (fault ≡ Stale seen.cookie now))
      → MadeTurns m file (IsTryOfWrite m file b most (refusal_of fault)) p r
  made-refusal fault hole turn stale = record {
    turns = Look b most seen ∷ Promise seen seen.extent.length (Err fault) ∷ [];
    make = (q, look, (r, turn, refl));
    are = at (begin_fault fault) refl;
  }
    where
      at : (o : Option BeginFault) → begin_fault fault ≡ o → IsTryOfWrite m file b most (answer_in o) (Look b most seen ∷ Promise seen seen.extent.length (Err fault) ∷ [])
      at None e = let s = stale e in (record { seen = seen; now = s.0 }, hole, ap (λ f. Look b most seen ∷ Promise seen seen.extent.length (Err f) ∷ []) s.1)
      at (Some refusal) e = inr (record { sample = seen; promise = Err fault; hole = hole; turns_are = refl; answer_is = (refusal, e, refl) })

  -- a round of a direct write that found space
  pub made-space : (new : Bool) (begun : Begun) → has_space seen.extent.kind ≡ true → begun ≡ begun_of m file new seen → MadeTurns m file (IsRoundOfDirect m file b most new (Some (Ok begun))) p q
  made-space new begun space is = record { turns = Look b most seen ∷ []; make = (q, look, refl); are = inl (record { sample = seen; space = space; turns_are = refl; answer_is = ap Ok is }) }

  -- a round that gave sectors
  pub made-place : (new : Bool) (taken : ℕ) → has_space seen.extent.kind ≡ false → seen.extent.block ≡ b → MakesTurn m file (Place seen.extent.block seen.extent.length (Ok taken)) q r → MadeTurns m file (IsRoundOfDirect m file b most new None) p r
  made-place new taken lacks starts turn = record {
    turns = Look b most seen ∷ Place b seen.extent.length (Ok taken) ∷ [];
    make = (q, look, (r, subst (λ k. MakesTurn m file (Place k seen.extent.length (Ok taken)) q r) starts turn, refl));
    are = (record { seen = seen; taken = taken }, lacks, refl);
  }

  -- a round that was refused
  pub made-none : (new : Bool) (fault : EventFault) → has_space seen.extent.kind ≡ false → seen.extent.block ≡ b → MakesTurn m file (Place seen.extent.block seen.extent.length (Err fault)) q r → IsSome (begin_fault fault) → MadeTurns m file (IsRoundOfDirect m file b most new (refusal_of fault)) p r
  made-none new fault lacks starts turn some = record {
    turns = Look b most seen ∷ Place b seen.extent.length (Err fault) ∷ [];
    make = (q, look, (r, subst (λ k. MakesTurn m file (Place k seen.extent.length (Err fault)) q r) starts turn, refl));
    are = at (begin_fault fault) refl some;
  }
    where
      at : (o : Option BeginFault) → begin_fault fault ≡ o → IsSome o → IsRoundOfDirect m file b most new (answer_in o) (Look b most seen ∷ Place b seen.extent.length (Err fault) ∷ [])
      at None e some = absurd (cc)
      at (Some refusal) e some = inr (record { sample = seen; fault = fault; refusal = refusal; lacks = lacks; turns_are = refl; refusal_is = e; answer_is = refl })

-- promises that may be left were taken back
pub made-back : (m : MountView) (file : FileId) (extent : Extent) (leaves : Bool) (count : ℕ) (p q : PassView) → leaves ≡ true → MakesTurn m file (TakeBack extent.block extent.length count) p q → MadeTurns m file (TakesBack leaves extent) p q
made-back m file extent leaves count p q e turn = subst (λ l. MadeTurns m file (TakesBack l extent) p q) (sym e) (record { turns = TakeBack extent.block extent.length count ∷ []; make = (q, turn, refl); are = (count, refl) })
