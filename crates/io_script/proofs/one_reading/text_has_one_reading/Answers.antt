use Rattle.io_script.proofs.Reading.Whole.{one_reading}
use Rattle.io_script.proofs.one_reading.text_has_one_reading.Goals as goal

pub returns : goal.returns
returns c = one_reading
