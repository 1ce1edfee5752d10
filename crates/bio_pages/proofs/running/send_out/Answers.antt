use Rattle.bio_pages.proofs.Growing.{lane-none, grew-pushed, grew-full}
use Rattle.bio_pages.proofs.running.send_out.Goals as goal

pub returns-in-Err-clause-pushed : goal.returns-in-Err-clause-pushed
returns-in-Err-clause-pushed g c = grew-full _ _ c.in-Err.ensures.1

pub returns-in_default-clause-pushed : goal.returns-in_default-clause-pushed
returns-in_default-clause-pushed g c = grew-pushed _ _ _ c.in_default.ensures

pub returns-in_default-clause-lane : goal.returns-in_default-clause-lane
returns-in_default-clause-lane g c = lane-none _

pub returns-in-Err-clause-lane : goal.returns-in-Err-clause-lane
returns-in-Err-clause-lane g c = (1, c.serve.ensures.ran)
