-- What the seats of a test claim.
use Rattle.std.specs.Prelude.{◌≡◌, List, [], length}
use Rattle.iob_base.specs.DeviceBlock.{DeviceBlock}
use Rattle.space_pool.specs.Claims.{ClaimsView}
use Rattle.space_pool.specs.Pool.{CanGive}

-- no number and no reservation
abbrev pub ClaimsNothing : ClaimsView → Type 0
ClaimsNothing c = (c.numbers ≡ []) × (c.reserved ≡ 0)

-- the held sectors may be given back, and nothing else is claimed or reserved
pub record Holds (held : List DeviceBlock) (c : ClaimsView) : Type 0 where
  pub can : CanGive held c
  pub count : length c.numbers ≡ length held
  pub reserved : c.reserved ≡ 0
