-- How the counts of a pass and of a lane grow.
use Rattle.std.proofs.Common.{◌≡◌, ℕ, ◌+◌, [], ◌∷◌, length, refl, sym, ap, ◌∙◌, arith, length-append}
use Rattle.fault_device.specs.LaneView.{LaneView}
use Rattle.fault_device.specs.Ran.{Ran, count_more}
use Rattle.fault_device.proofs.Runs.{ran_none, ran_more, count_more-append}
use Rattle.bio_pages.specs.declared.sent.Sent.{Sent}
use Rattle.bio_pages.specs.Queue.{PassView, Grew, RanPopped, with_pushed, with_popped, found_full}
use Rattle.bio_pages.specs.Running.{HasRun}

pub lane-none : (v : LaneView) → HasRun v v
lane-none v = (0, ran_none v)

pub lane-then : (a b c : LaneView) → HasRun a b → HasRun b c → HasRun a c
lane-then a b c x y = (x.0 + y.0, ran_more x.0 y.0 a b c x.1 y.1)

module _ {T : Type 0} where
  pub grew-none : (p : PassView T) → Grew 0 p p
  grew-none p = record { fulls = 0; pushes = 0; full = refl; pushed = omega arith; enough = omega arith }

  -- what is popped, or found empty, does not matter
  pub grew-as : (n : ℕ) (a b c : PassView T) → Grew n a b → c.full ≡ b.full → c.pushed ≡ b.pushed → Grew n a c
  grew-as n a b c x full pushed = record { fulls = x.fulls; pushes = x.pushes; full = full ∙ x.full; pushed = ap length pushed ∙ x.pushed; enough = x.enough }

  pub grew-then : (m n : ℕ) (a b c : PassView T) → Grew m a b → Grew n b c → Grew (m + n) a c
  grew-then m n a b c x y = record {
    fulls = x.fulls + y.fulls;
    pushes = x.pushes + y.pushes;
    full = y.full ∙ ap (count_more y.fulls) x.full ∙ sym (count_more-append x.fulls y.fulls a.full);
    pushed = (let p = x.pushed in let q = y.pushed in omega arith);
    enough = (let p = x.enough in let q = y.enough in omega arith);
  }

  pub grew-pushed : (p q : PassView T) (sent : Sent T) → q ≡ with_pushed p sent → Grew 1 p q
  grew-pushed p q sent is = record { fulls = 0; pushes = 1; full = ap (λ (x : PassView T). x.full) is; pushed = ap (λ (x : PassView T). length x.pushed) is ∙ length-append p.pushed (sent ∷ []); enough = omega arith }

  pub grew-full : (p q : PassView T) → q ≡ found_full p → Grew 1 p q
  grew-full p q is = record { fulls = 1; pushes = 0; full = ap (λ (x : PassView T). x.full) is; pushed = ap (λ (x : PassView T). length x.pushed) is ∙ (omega arith); enough = omega arith }

  pub popped-none : (p : PassView T) (v : LaneView) → RanPopped p p v v
  popped-none p v = record { popped = 0; passed = omega arith; ran = ran_none v }

  -- one more bio is popped and run
  pub popped-one : (p q r : PassView T) (u v w : LaneView) (sent : Sent T) → RanPopped p q u v → r ≡ with_popped q sent → Ran 1 v w → RanPopped p r u w
  popped-one p q r u v w sent x is ran = record {
    popped = x.popped + 1;
    passed = (let e = ap (λ (y : PassView T). length y.popped) is ∙ length-append q.popped (sent ∷ []) in let n = x.passed in omega arith);
    ran = ran_more x.popped 1 u v w x.ran ran;
  }
