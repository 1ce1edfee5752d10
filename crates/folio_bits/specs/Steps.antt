-- What a seat knows after each step, and what a step tells.
use Rattle.std.specs.Prelude.{◌≡◌, ℕ, ◌-◌, ◌≤◌, Some, None}
use Rattle.atomic_table.specs.Table.{Me, Step}
use Rattle.folio_bits.specs.declared.rule.Known.{Known}
use Rattle.folio_bits.specs.declared.rule.Spent.{Spent}

-- it has this amount
abbrev pub holder : ℕ → Known
holder amount = record { amount = amount; spent = None }

-- it has so much less
abbrev pub less : ℕ → Known → Known
less share v = record v { amount = v.amount - share }

abbrev pub spent_at : ℕ → ℕ → Spent
spent_at had found = record { had = had; found = found }

-- it has finished, at this word
abbrev pub finished : ℕ → Known → Known
finished found v = record { amount = 0; spent = Some (spent_at v.amount found) }

abbrev Mine : Type 0
Mine = Me (Unit {0}) Known

-- the amount was in the word that the step found
abbrev pub Finished : Step (Unit {0}) → Mine → ℕ → Mine → Type 0
Finished s before found after = (after.0 ≡ finished found before.0) × (before.0.amount ≤ found)
