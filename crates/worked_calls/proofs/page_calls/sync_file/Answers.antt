use Rattle.std.proofs.Common.{arith}
use Rattle.worked_calls.proofs.Standing.{may-call, stays-called}
use Rattle.worked_calls.proofs.Telling.{still-one}
use Rattle.worked_calls.proofs.page_calls.sync_file.Goals as goal

pub sync-answer-requires-clause-may : goal.sync-answer-requires-clause-may
sync-answer-requires-clause-may g c = may-call c.args.mount.now c.args.pass.now c.is_laid_out.ensures c.requires.ready c.next_number-call.result c.next_number-call.ensures

pub sync-answer-requires-clause-counted : goal.sync-answer-requires-clause-counted
sync-answer-requires-clause-counted g c = omega (arith, c.requires.counted)

pub returns-clause-stays : goal.returns-clause-stays
returns-clause-stays g c = stays-called c.args.mount.now c.args.pass.now c.is_laid_out.ensures c.requires.ready c.sync-answer.new.pass c.next_number-call.result c.sync-answer.ensures.synced.acts c.sync-answer.ensures.pass c.sync-answer.ensures.synced.out.did.acted

pub returns-clause-counted : goal.returns-clause-counted
returns-clause-counted g c =
    let synced = c.sync-answer.ensures.synced in
    still-one c.args.seen.now c.sync-answer.new.seen synced.stopped _ c.requires.counted synced.counts
