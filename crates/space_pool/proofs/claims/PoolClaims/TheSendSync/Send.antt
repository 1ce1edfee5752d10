-- Claims own nothing, so they may go to any thread.
use denote.Param.Send.{IsSend}
use Rattle.space_pool.specs.contracts.claims.PoolClaims.{the_row}

pub send : IsSend the_row
send = record { owned = λ d vs. ((λ vss. (tt, tt)), tt); leaving = λ k f vs. tt }
