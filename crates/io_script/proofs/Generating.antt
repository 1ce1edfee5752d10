-- The calls of a generated script, one after another.
use Rattle.std.proofs.Common.{◌≡◌, ℕ, suc, ◌+◌, ◌-◌, ◌<◌, [], ◌∷◌, refl, arith}
use Rattle.io_script.specs.Generated.{draws_from, generated_call, generated_calls, pages_in, state_after}

-- the call before the calls that follow it
pub generated_calls-next : (all n x page : ℕ) → n < all
    → generated_calls (all - n) n x page ≡ generated_call n page (draws_from x) ∷ generated_calls (all - (n + 1)) (n + 1) (state_after x) (page + pages_in (draws_from x))
unfolding generated_calls
generated_calls-next all n x page low = let e : all - n ≡ suc (all - (n + 1)) = omega arith in rw e refl

-- there are none after the last
pub generated_calls-none : (n x page : ℕ) → generated_calls 0 n x page ≡ []
unfolding generated_calls
generated_calls-none n x page = refl
