-- What a step makes of claims.
use Rattle.space_pool.specs.Claims.{ClaimsView, claims_with, with_more, with_fewer, with_taken, with_given, with_part_gone, joined_claims}
use Rattle.space_pool.specs.declared.claims.Step.{Step}
use Rattle.space_pool.specs.declared.claims.Step.TheVariants as step

abbrev pub claims_of : Step → ClaimsView
claims_of (step.Starts held cap size) = claims_with held.now cap size
claims_of (step.Reserves c n) = with_more c.now.facts n
claims_of (step.Unreserves c n) = with_fewer c.now.facts n
claims_of (step.Takes c taken) = with_taken c.now.facts taken.now
claims_of (step.Gives c given) = with_given c.now.facts given.now
claims_of (step.Keeps c held cap) = with_part_gone c.now.facts held.now cap
claims_of (step.Splits c held cap) = claims_with held.now cap c.now.facts.size
claims_of (step.Joins c d) = joined_claims c.now.facts d.now.facts
