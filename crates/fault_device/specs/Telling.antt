use Rattle.std.specs.Prelude.{ℕ, ◌+◌, Bool, ◌&&◌, ◌==◌, nat_le, List, [], ◌∷◌, ◌++◌}
use Rattle.std.specs.List.{list_any}
use Rattle.iob_base.specs.Counts.{count_after}

-- what a fate tells: how many judgements it made, and the numbers of those that are to fail
pub record Telling : Type 0 where
  pub judged : ℕ
  pub armed : List ℕ

-- the last judgement that has a number
abbrev pub LAST_NUMBER : ℕ
LAST_NUMBER = 18446744073709551614

abbrev pub telling : ℕ → List ℕ → Telling
telling judged armed = record { judged = judged; armed = armed }

-- the next judgement has a number, and that number is armed
abbrev pub is_next_armed : Telling → Bool
is_next_armed t = nat_le (t.judged + 1) LAST_NUMBER && list_any (λ number. number == t.judged + 1) t.armed

-- after one more judgement
abbrev pub judged_once : Telling → Telling
judged_once t = record t { judged = count_after t.judged }

-- with one more number armed
abbrev pub armed_more : Telling → ℕ → Telling
armed_more t op = record t { armed = t.armed ++ op ∷ [] }
