-- What the turns that a judge takes part in tell, where the judge stands for a lane.
use Rattle.std.proofs.Common.{◌≡◌, ℕ, List, subst}
use Rattle.std.specs.Prelude.{Result, Ok, Err, OnOk}
use Rattle.fault_device.specs.LaneView.{LaneView}
use Rattle.fault_device.specs.declared.lane.Done.{Done}
use Rattle.iob_base.specs.declared.part.Part.{Part}
use Rattle.iov_iter.specs.IovView.{IovView}
use Rattle.space_pool.specs.Pool.{PoolView}
use Rattle.space_pool.specs.Seats.{pool_cell}
use Rattle.turn_cell.specs.Views.{CellView}
use Rattle.range_core.proofs.JudgeLemmas.{stands}
use Rattle.range_core.specs.ClaimsView.{ClaimsView}
use Rattle.range_core.specs.DaxGets.{GotDax}
use Rattle.range_core.specs.DaxPuts.{PutDax, PutMade, put_bytes}
use Rattle.range_core.specs.DaxZeros.{ZeroedDax}
use Rattle.range_core.specs.DirectNowTurns.{NowAnswer, ReadsNow}
use Rattle.range_core.specs.Judges.{AsksLane}
use Rattle.range_core.specs.RangeView.{RangeView}
use Rattle.range_core.specs.declared.entry.Entry.{Entry}
use Rattle.range_core.specs.declared.fault.EventFault.{EventFault}
use Rattle.range_core.specs.declared.range.dax_get.DaxGetRun.{DaxGetRun}
use Rattle.range_core.specs.declared.range.dax_put.DaxPutRun.{DaxPutRun}
use Rattle.range_core.specs.declared.range.dax_zero.DaxZeroRun.{DaxZeroRun}
use Rattle.range_core.specs.declared.range.direct_now.DirectNowRun.{DirectNowRun}
use Rattle.mini_fs.specs.DirectTurns.{GotOn, PutAt, PutOn, ReadNowOn, ZeroedOn}

-- a judge that was asked nothing leaves the lane as it was, and what it was asked, the lane was
pub record StandsFor {F : Type 0} (step : F → ℕ → Done → F → Type 0) (first last : F) (was now : LaneView) : Type 0 where
  pub same : last ≡ first → now ≡ was
  pub so : (n : ℕ) (done : Done) → step first n done last → AsksLane was n done now

module _ {F : Type 0} (step : F → ℕ → Done → F → Type 0) where
  pub reads-now : (change later : DirectNowRun F) (opening : RangeView) (history : List Entry) (before after : RangeView) (claims left : ClaimsView) (answer : NowAnswer) (entry : Entry) (was now : LaneView) (pages : List Part)
      → StandsFor step change.judge later.judge was now → later.pages.now ≡ pages → ReadsNow step change opening history before claims later after left answer entry → ReadNowOn was now change.by change.block change.pages.now pages opening history before after claims.caller answer entry
  reads-now change later opening history before after claims left answer entry was now pages for is d =
      let a = d.answers in
      let r : ReadNowOn was now change.by change.block change.pages.now later.pages.now opening history before after claims.caller answer entry = record {
        answers = record { made = a.made; count = a.count; read = a.read; state = a.state; judged = stands for.same (for.so _) a.judged; passed = a.passed; refused = a.refused; unchanged = a.unchanged; unfilled = a.unfilled; shapes = a.shapes; sectors = a.sectors };
        contents = d.contents;
        entry_is = d.entry_is;
      } in
      subst (λ ps. ReadNowOn was now change.by change.block change.pages.now ps opening history before after claims.caller answer entry) is r

  pub gets : (change later : DaxGetRun F) (opening : RangeView) (history : List Entry) (before after : RangeView) (claims left : ClaimsView) (answer : Result (Unit {0}) EventFault) (entry : Entry) (was now : LaneView) (iov : IovView)
      → StandsFor step change.judge later.judge was now → later.iov.now ≡ iov → GotDax step change opening history before claims later after left answer entry → GotOn was now change.by change.seen change.from change.to change.iov.now iov opening history before after claims.caller answer entry
  gets change later opening history before after claims left answer entry was now iov for is d =
      let a = d.answers in
      let r : GotOn was now change.by change.seen change.from change.to change.iov.now later.iov.now opening history before after claims.caller answer entry = record {
        answers = record { made = a.made; state = a.state; bytes = a.bytes; judged = stands for.same (for.so _) a.judged; passed = a.passed; refused = a.refused; unchanged = a.unchanged; nothing = a.nothing };
        bytes = d.bytes;
        entry_is = d.entry_is;
      } in
      subst (λ v. GotOn was now change.by change.seen change.from change.to change.iov.now v opening history before after claims.caller answer entry) is r

  pub zeroes : (change later : DaxZeroRun F) (before after : RangeView) (claims left : ClaimsView) (answer : Result (Unit {0}) EventFault) (entry : Entry) (was now : LaneView)
      → StandsFor step change.judge later.judge was now → ZeroedDax step change before claims later after left answer entry → ZeroedOn was now change.by change.seen change.from change.to before after claims.caller answer entry
  zeroes change later before after claims left answer entry was now for d =
      let a = d.answers in
      record {
        answers = record { made = a.made; state = a.state; judged = stands for.same (for.so _) a.judged; passed = a.passed; refused = a.refused; unchanged = a.unchanged };
        entry_is = d.entry_is;
      }

  put-made : {R : Type 0} (change : DaxPutRun R F) (before after : RangeView) (claims : ClaimsView) (answer : Result (Unit {0}) EventFault) (entry : Entry) → OnOk answer (PutMade change before after claims entry)
      → OnOk answer (PutAt (pool_cell change.space.now).opening change.by change.seen change.from change.to (put_bytes change) before after claims.caller entry)
  put-made change before after claims (Ok done) entry m = record { puts = m.puts; entry_is = m.entry_is }
  put-made change before after claims (Err fault) entry m = tt

  pub puts : {R : Type 0} (change later : DaxPutRun R F) (before after : RangeView) (claims left : ClaimsView) (answer : Result (Unit {0}) EventFault) (entry : Entry) (was now : LaneView) (iov : IovView) (pool : CellView PoolView)
      → PutDax step change before claims later after left answer entry → StandsFor step change.judge later.judge was now → later.iov.now ≡ iov → pool_cell change.space.now ≡ pool → PutOn was now pool.opening change.by change.seen change.from change.to change.iov.now iov before after claims.caller answer entry
  puts change later before after claims left answer entry was now iov pool d for is same =
      let a = d.answers in
      let r : PutOn was now (pool_cell change.space.now).opening change.by change.seen change.from change.to change.iov.now later.iov.now before after claims.caller answer entry = record {
        answers = record { made = a.made; state = a.state; moved = a.moved; judged = stands for.same (for.so _) a.judged; passed = a.passed; refused = a.refused; unchanged = a.unchanged; nothing = a.nothing };
        ok = put-made change before after claims answer entry d.ok;
        err = d.err;
      } in
      let s : PutOn was now pool.opening change.by change.seen change.from change.to change.iov.now later.iov.now before after claims.caller answer entry =
      subst (λ (c : CellView PoolView). PutOn was now c.opening change.by change.seen change.from change.to change.iov.now later.iov.now before after claims.caller answer entry) same r in
      subst (λ v. PutOn was now pool.opening change.by change.seen change.from change.to change.iov.now v before after claims.caller answer entry) is s
