use Rattle.std.proofs.Common.{rules, ◌<◌, [], ◌∷◌, refl, sym, ◌∙◌, subst, Some}
use Rattle.std.specs.Option.{IsSome}
use Rattle.atomic_table.specs.Table.{Allows}
use Rattle.turn_cell.specs.Rule.{Ruled}
use Rattle.turn_cell.specs.Seats.{place_view}
use Rattle.turn_cell.specs.Steps.{Left}
use Rattle.turn_cell.proofs.Leaving.{leaves}
use Rattle.turn_cell.proofs.Gate.{tries}
use Rattle.turn_cell.proofs.Turning.{idle-refused, idle-left, slot-won, found-won, value-won, empty-won, view-won, turning-won, standing-won, turned-left}
use Rattle.turn_cell.proofs.cell.TurnCell.turn_at.Goals as goal

pub try_gate-word-requires-clause-step : goal.try_gate-word-requires-clause-step
try_gate-word-requires-clause-step g c =
    tries g.T.Chronicle.truth c.args.self.now.table.shared.key.value.value c.args.place.now.id c.args.place.now.me c.args.claims.now c.requires.idle

pub returns-then-word-ne-FREE-clause-idle : goal.returns-then-word-ne-FREE-clause-idle
returns-then-word-ne-FREE-clause-idle g c = idle-refused c.try_gate-word.result c.requires.idle (c.try_gate-word.ensures.step.refused c.if-word-ne-FREE.true)

pub returns-then-word-ne-FREE-clause-same : goal.returns-then-word-ne-FREE-clause-same
returns-then-word-ne-FREE-clause-same g c =
    let is = (c.try_gate-word.ensures.step.refused c.if-word-ne-FREE.true).me_is in
    (c.try_gate-word.ensures.cell.0, λ i. (is i).0.share)

pub returns-then-word-ne-FREE-clause-refused : goal.returns-then-word-ne-FREE-clause-refused
returns-then-word-ne-FREE-clause-refused g c =
    let found = c.try_gate-word.ensures.step.refused c.if-word-ne-FREE.true in
    let is = found.me_is in
    let cell = c.try_gate-word.ensures.cell.0 in (
      record {
        turn = found.turn;
        unseen = found.unseen;
        held = found.held;
        seat_is = λ i. record { cell = cell i; seen = (is i).0.seen; made = (is i).0.made; share = (is i).0.share; refused = (is i).0.refused };
      },
      refl,
      refl,
    )

pub exchange-requires : goal.exchange-requires
exchange-requires g c =
    let won = c.try_gate-word.ensures.step.won c.if-word-ne-FREE.false in
    (search rules, (Some won.value, slot-won won))

pub unwrap-value-requires : goal.unwrap-value-requires
unwrap-value-requires g c =
    let won = c.try_gate-word.ensures.step.won c.if-word-ne-FREE.false in
    subst IsSome (sym (found-won won c.exchange.ensures.2)) refl

pub apply-out-requires : goal.apply-out-requires
apply-out-requires g c =
    let won = c.try_gate-word.ensures.step.won c.if-word-ne-FREE.false in
    standing-won g.T.Chronicle.truth c.args.self.now.table.shared.key.value.value (g.C.Change.ready c.args.change.now) won (value-won won c.exchange.ensures.2 c.unwrap-value.ensures) c.requires.ready

pub leave-requires-clause-slot : goal.leave-requires-clause-slot
leave-requires-clause-slot g c = empty-won (c.try_gate-word.ensures.step.won c.if-word-ne-FREE.false) c.exchange.ensures.3

pub leave-requires-clause-step : goal.leave-requires-clause-step
leave-requires-clause-step g c =
    let won = c.try_gate-word.ensures.step.won c.if-word-ne-FREE.false in
    let truth = g.T.Chronicle.truth in
    let does = g.C.Change.does in
    let before = c.args.change.now in
    let claims = c.args.claims.now in
    let opening = c.args.self.now.table.shared.key.value.value in
    let id = c.exchange.new.seat.id in
    let view = c.exchange.new.seat.me.0 in
    let after = c.apply-out.new in
    let out = c.apply-out.result in
    let turn = turning-won {w = view} {y = c.unwrap-value.result} won (view-won {after = c.exchange.new.seat.me} won c.exchange.ensures.3) (value-won won c.exchange.ensures.2 c.unwrap-value.ensures) c.requires.idle.claims_are c.requires.idle.share in
    let b = c.of-began.ensures in
    let P : g.row.T.Denot × g.row.T-Claims.Denot × g.row.C.Denot → Type 0 = λ p.
    Allows (Ruled truth opening) 1 id (view, (0, Some after.value) ∷ []) 0 (λ _. 0)
    (λ _ me. Left truth (λ o h e. does p.2 o h p.0 p.1 after.self after.value after.claims out e) opening id p.1 p.0 after.claims after.value view me) in
    subst P (λ i. (sym b.0 i, sym b.1 i, sym b.2 i))
    (leaves truth opening (g.C.Change.ready before) (λ o h e. does before o h c.unwrap-value.result claims after.self after.value after.claims out e) id c.args.place.now.me.0.seen claims
    c.unwrap-value.result view after.claims after.value turn c.requires.ready c.apply-out.ensures)

pub returns-clause-idle : goal.returns-clause-idle
returns-clause-idle g c =
    let is = view-won (c.try_gate-word.ensures.step.won c.if-word-ne-FREE.false) c.exchange.ensures.3 in
    let left = c.leave.ensures.step.1 in
    idle-left c.exchange.new.seat.me.0 left.entry left.me_is ((λ i. (is i).told) ∙ c.requires.idle.told) (subst (λ n. 0 < n) (λ i. (sym is i).share) c.requires.idle.share)

pub returns-clause-same : goal.returns-clause-same
returns-clause-same g c =
    let is = view-won (c.try_gate-word.ensures.step.won c.if-word-ne-FREE.false) c.exchange.ensures.3 in
    let left = c.leave.ensures.step.1.me_is in
    (c.leave.ensures.cell.0 ∙ c.exchange.ensures.0 ∙ c.try_gate-word.ensures.cell.0, (λ i. (left i).0.share) ∙ (λ i. (is i).share))

pub returns-clause-turned : goal.returns-clause-turned
returns-clause-turned g c =
    let won = c.try_gate-word.ensures.step.won c.if-word-ne-FREE.false in
    let truth = g.T.Chronicle.truth in
    let does = g.C.Change.does in
    let opening = c.args.self.now.table.shared.key.value.value in
    let id = c.exchange.new.seat.id in
    let view = c.exchange.new.seat.me.0 in
    let after = c.apply-out.new in
    let out = c.apply-out.result in
    let b = c.of-began.ensures in
    let P : g.row.T.Denot × g.row.T-Claims.Denot × g.row.C.Denot → Type 0 = λ p.
    Left truth (λ o h e. does p.2 o h p.0 p.1 after.self after.value after.claims out e) opening id p.1 p.0 after.claims after.value view c.leave.new.place.me in
    let left : P (c.unwrap-value.result, c.args.claims.now, c.args.change.now) = subst P (λ i. (b.0 i, b.1 i, b.2 i)) c.leave.ensures.step.1 in
    turned-left truth opening (λ o h x y e. does c.args.change.now o h x c.args.claims.now after.self y after.claims out e) id c.args.claims.now after.claims c.unwrap-value.result after.value view c.leave.new.place.me
    (place_view c.args.place.now) (place_view c.leave.new.place) won (view-won won c.exchange.ensures.3) left refl refl refl refl

pub returns-clause-free : goal.returns-clause-free
returns-clause-free g c =
    let is = view-won (c.try_gate-word.ensures.step.won c.if-word-ne-FREE.false) c.exchange.ensures.3 in
    let left = c.leave.ensures.step.1.me_is in
    (λ i. (left i).0.refused) ∙ (λ i. (is i).refused)
