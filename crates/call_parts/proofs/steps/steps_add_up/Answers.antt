use Rattle.call_parts.proofs.StepLemmas.{caused-left, caused-right, quiet-bytes, quiet-stamps, steps-may, steps-none, steps-then}
use Rattle.call_parts.proofs.steps.steps_add_up.Goals as goal

pub returns-clause-none : goal.returns-clause-none
returns-clause-none c = steps-none

pub returns-clause-both : goal.returns-clause-both
returns-clause-both c = steps-then

pub returns-clause-wider : goal.returns-clause-wider
returns-clause-wider c = steps-may

pub returns-clause-first : goal.returns-clause-first
returns-clause-first c = caused-left

pub returns-clause-later : goal.returns-clause-later
returns-clause-later c = caused-right

pub returns-clause-stamps : goal.returns-clause-stamps
returns-clause-stamps c = quiet-stamps

pub returns-clause-bytes : goal.returns-clause-bytes
returns-clause-bytes c = quiet-bytes
