use Rattle.std.proofs.Common.{◌≡◌, ℕ, ◌+◌, ◌-◌, length, List, sym, ◌∙◌, ap, subst, arith, ◌++◌, ◌&&◌}
use Rattle.turn_cell.specs.Seats.{seat_claims, seat_view}
use Rattle.turn_cell.specs.Stakes.{total}
use Rattle.iob_base.specs.declared.sector.Page.{Page}
use Rattle.io_model.specs.declared.file.Kind.{Kind}
use Rattle.range_core.specs.BlockTruth.{is_gone}
use Rattle.range_core.specs.DirectBacks.{KeepsPages, after_direct_back, came_back, kind_held, marked_back, pages_held}
use Rattle.range_core.specs.EntryCounts.{is_write_back, one_where}
use Rattle.range_core.specs.EntryStamps.{direct_stamps}
use Rattle.range_core.specs.Kinds.{is_unwritten}
use Rattle.range_core.specs.Lends.{home_of}
use Rattle.range_core.specs.OnRun.{on_each, on_run}
use Rattle.range_core.specs.RangeView.{IsSound, RangeView, range_view}
use Rattle.range_core.specs.Returning.{ComesBack}
use Rattle.range_core.specs.declared.cell.Cell.{Cell}
use Rattle.range_core.specs.declared.lending.Lender.{Lender}
use Rattle.range_core.proofs.DirectBackLemmas.{IsBackRun, back_kind, back_rest, back_run, back_sound, pages_kept}
use Rattle.range_core.proofs.OnRunLemmas.{length-on_each, on_each-twice}
use Rattle.range_core.proofs.range.Range.direct_back.Goals as goal

pub returns-clause-kept : goal.returns-clause-kept
returns-clause-kept c =
    let K : List Page → Type 0 = λ l. KeepsPages c.args.op (pages_held c.args.claims.now.held) l in
    subst K (sym c.bring_home-pages.ensures.pages) (pages_kept c.args.claims.now c.requires.comes.comes.claim c.args.op c.args.back c.args.done c.requires.comes.comes.is_return)

ended : (c : goal.After-self-1) → c.end_run.new.cells.items ≡ on_each (came_back c.args.op c.args.done.failed c.args.back.parts) 0 (c.args.back.block - c.self.inside.first) (length c.args.back.parts) c.self.inside.cells.items
ended c =
    let n : ℕ = length c.args.back.parts in
    let low : ℕ = c.args.back.block - c.self.inside.first in
    let mark : Cell → Cell = marked_back c.args.op c.args.done.failed in
    let E : ℕ → List Cell → List Cell = λ m xs. on_run mark low m xs in
    c.end_run.ensures ∙ ap (λ m. E m c.bring_home-pages.new.cells.items) c.len-n.ensures.count ∙ ap (E n) c.bring_home-pages.ensures.cells
    ∙ on_each-twice (home_of c.args.back.parts) (λ _. mark) 0 low n c.self.inside.cells.items

pub stamp_back-requires-clause-room : goal.stamp_back-requires-clause-room
stamp_back-requires-clause-room c =
    let r = c.self.inside in
    let view : RangeView = range_view r.geometry r.mode r.first r.cells.items r.log.items r.cookie r.errors r.tickets (seat_view r.seat) (seat_claims r.seat).facts in
    let lender : Lender = c.requires.comes.lender in
    let C : RangeView → Type 0 = λ v. ComesBack v c.args.claims.now lender c.args.op c.args.back c.args.done in
    let comes : C view = subst C (sym c.self.view_is) c.requires.comes.comes in
    let run : IsBackRun view c.args.back c.args.done = back_run view c.args.claims.now lender c.args.op c.args.back c.args.done comes in
    let rest = back_rest view c.args.claims.now lender c.args.op c.args.back c.args.done comes c.args.done.failed in
    let room = c.self.invariant.1 in
    let some = run.some in
    omega arith

pub stamp_back-requires-clause-landed : goal.stamp_back-requires-clause-landed
stamp_back-requires-clause-landed c =
    let run = back_run c.args.self.now c.args.claims.now c.requires.comes.lender c.args.op c.args.back c.args.done c.requires.comes.comes in
    omega (arith, run.landed, c.len-n.ensures.count)

pub bring_home-pages-requires : goal.bring_home-pages-requires
bring_home-pages-requires c =
    let r = c.self.inside in
    let view : RangeView = range_view r.geometry r.mode r.first r.cells.items r.log.items r.cookie r.errors r.tickets (seat_view r.seat) (seat_claims r.seat).facts in
    let lender : Lender = c.requires.comes.lender in
    let C : RangeView → Type 0 = λ v. ComesBack v c.args.claims.now lender c.args.op c.args.back c.args.done in
    let comes : C view = subst C (sym c.self.view_is) c.requires.comes.comes in
    let run : IsBackRun view c.args.back c.args.done = back_run view c.args.claims.now lender c.args.op c.args.back c.args.done comes in
    omega (arith, run.low, run.high, c.self.inside.cells.ok.0)

pub end_run-requires : goal.end_run-requires
end_run-requires c =
    let r = c.self.inside in
    let view : RangeView = range_view r.geometry r.mode r.first r.cells.items r.log.items r.cookie r.errors r.tickets (seat_view r.seat) (seat_claims r.seat).facts in
    let lender : Lender = c.requires.comes.lender in
    let C : RangeView → Type 0 = λ v. ComesBack v c.args.claims.now lender c.args.op c.args.back c.args.done in
    let comes : C view = subst C (sym c.self.view_is) c.requires.comes.comes in
    let run : IsBackRun view c.args.back c.args.done = back_run view c.args.claims.now lender c.args.op c.args.back c.args.done comes in
    let n : ℕ = length c.args.back.parts in
    let many : length c.bring_home-pages.new.cells.items ≡ length r.cells.items =
    ap length c.bring_home-pages.ensures.cells ∙ length-on_each (home_of c.args.back.parts) 0 (c.args.back.block - r.first) n r.cells.items in
    omega (arith, run.low, run.high, c.len-n.ensures.count, c.bring_home-pages.new.cells.ok.0)

pub invariant_of-self : goal.invariant_of-self
invariant_of-self c =
    let r = c.self.inside in
    let view : RangeView = range_view r.geometry r.mode r.first r.cells.items r.log.items r.cookie r.errors r.tickets (seat_view r.seat) (seat_claims r.seat).facts in
    let lender : Lender = c.requires.comes.lender in
    let C : RangeView → Type 0 = λ v. ComesBack v c.args.claims.now lender c.args.op c.args.back c.args.done in
    let comes : C view = subst C (sym c.self.view_is) c.requires.comes.comes in
    let run : IsBackRun view c.args.back c.args.done = back_run view c.args.claims.now lender c.args.op c.args.back c.args.done comes in
    let n : ℕ = length c.args.back.parts in
    let now : List Cell = on_each (came_back c.args.op c.args.done.failed c.args.back.parts) 0 (c.args.back.block - r.first) n r.cells.items in
    let cells : c.end_run.new.cells.items ≡ now = ended c in
    let log : c.stamp_back.new.log.items ≡ r.log.items ++ direct_stamps c.args.by c.args.op c.args.back.block c.index.result.now.kind n c.args.done =
    c.stamp_back.ensures.items ∙ ap (λ m. r.log.items ++ direct_stamps c.args.by c.args.op c.args.back.block c.index.result.now.kind m c.args.done) c.len-n.ensures.count in
    let S : List Cell → Type 0 = λ cells. IsSound (range_view r.geometry r.mode r.first cells c.stamp_back.new.log.items (r.cookie + c.rise_of.result) r.errors r.tickets (seat_view r.seat) (seat_claims r.seat).facts) in
    let rest = back_rest view c.args.claims.now lender c.args.op c.args.back c.args.done comes c.args.done.failed in
    let gone : total is_gone c.end_run.new.cells.items ≡ total is_gone now = ap (total is_gone) cells in
    let room = c.self.invariant.1 in
    let some = run.some in (
      subst S (sym cells) (back_sound view c.args.claims.now lender c.args.op c.args.back c.args.done comes c.args.by c.index.result.now.kind _ _ c.self.invariant.0 log),
      omega (arith, c.stamp_back.ensures.few, c.stamp_back.ensures.kept),
    )

pub returns-clause-state : goal.returns-clause-state
returns-clause-state c =
    let r = c.self.inside in
    let view : RangeView = range_view r.geometry r.mode r.first r.cells.items r.log.items r.cookie r.errors r.tickets (seat_view r.seat) (seat_claims r.seat).facts in
    let lender : Lender = c.requires.comes.lender in
    let C : RangeView → Type 0 = λ v. ComesBack v c.args.claims.now lender c.args.op c.args.back c.args.done in
    let comes : C view = subst C (sym c.self.view_is) c.requires.comes.comes in
    let run : IsBackRun view c.args.back c.args.done = back_run view c.args.claims.now lender c.args.op c.args.back c.args.done comes in
    let n : ℕ = length c.args.back.parts in
    let was : Kind = kind_held c.args.claims.now.held in
    let kind : c.index.result.now.kind ≡ was = back_kind view c.args.claims.now lender c.args.op c.args.back c.args.done comes c.index.result.now c.index.ensures in
    let cells = ended c in
    let log = c.stamp_back.ensures.items ∙ ap (λ m. r.log.items ++ direct_stamps c.args.by c.args.op c.args.back.block c.index.result.now.kind m c.args.done) c.len-n.ensures.count
    ∙ ap (λ k. r.log.items ++ direct_stamps c.args.by c.args.op c.args.back.block k n c.args.done) kind in
    let cookie = ap (λ m. r.cookie + m) (c.rise_of.ensures.rise ∙ ap (λ k. one_where (is_unwritten k && is_write_back c.args.op c.args.done.failed)) kind) in
    let made : range_view r.geometry r.mode r.first c.end_run.new.cells.items c.stamp_back.new.log.items (r.cookie + c.rise_of.result) r.errors r.tickets (seat_view r.seat) (seat_claims r.seat).facts ≡ after_direct_back view c.args.by c.args.op was c.args.back c.args.done =
    λ i. range_view r.geometry r.mode r.first (cells i) (log i) (cookie i) r.errors r.tickets (seat_view r.seat) (seat_claims r.seat).facts in
    made ∙ ap (λ v. after_direct_back v c.args.by c.args.op was c.args.back c.args.done) c.self.view_is
