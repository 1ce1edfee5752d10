use Rattle.std.proofs.Common.{◌≡◌, ℕ, ◌+◌, ◌<◌, Some, None, List, length, get_or, set, arith, refl, sym, ap, ◌∙◌}
use Rattle.std.specs.Prelude.{slice_get}
use Rattle.std.proofs.lemmas.List.Edits.{map_over_more}
use Rattle.std.proofs.lemmas.Option.{slice_get-get_or}
use Rattle.iob_base.specs.DeviceBlock.{DeviceBlock}
use Rattle.iob_base.specs.Parting.{without_sector}
use Rattle.iob_base.specs.declared.part.Part.{Part}
use Rattle.iob_base.proofs.PartLemmas.{read_rest}
use Rattle.range_core.specs.Lends.{home_cell, home_of}
use Rattle.range_core.specs.declared.cell.Cell.{Cell}
use Rattle.range_core.proofs.LendLemmas.{home_at}
use Rattle.range_core.proofs.OnRunLemmas.{each_more, on_each-none}
use Rattle.range_core.proofs.lend.put_home.Goals as goal

pub loop-part-init : goal.loop-part-init
loop-part-init c = record {
  at = omega arith;
  cells = on_each-none (home_of c.args.parts.now) 0 c.args.low c.args.cells.now.items;
  many = refl;
  parts = refl;
}

pub loop-part-preserved : goal.loop-part-preserved
loop-part-preserved c =
    let low : ℕ = c.args.low in
    let i : ℕ = c.loop-part.part-index in
    let first : List Cell = c.args.cells.now.items in
    let now : List Cell = c.loop-part.cells.items in
    let parts : List Part = c.loop-part.parts in
    let initial : List Part = c.args.parts.now in
    let cell : Cell = c.index_mut.result.now in
    let part : Part = c.part-item.result in
    let inv = c.loop-part.invariant in
    let less : i < length initial = c.loop-part-test.true in
    let within : low + i < length first = omega (arith, c.args.cells.now.ok.0, c.requires) in
    let rest : part ≡ get_or initial i part = read_rest without_sector initial parts i part less inv.parts c.part-item.is in
    let there : slice_get initial i ≡ Some part = slice_get-get_or initial i part less ∙ ap Some (sym rest) in
    let sector : c.take_sector-sector.result ≡ part.sector = c.take_sector-sector.ensures.sector ∙ ap (λ (q : Part). q.sector) (sym c.part-item.is) in
    let home : c.put_sector.new.cell ≡ home_cell (Some part) cell = c.put_sector.ensures ∙ ap (λ (s : DeviceBlock). record cell { sector = Some s; away = None }) sector in
    record {
      at = omega (arith, inv.at);
      cells = ap (λ n. set now n c.put_sector.new.cell) inv.at
          ∙ each_more (home_of initial) low i first now cell c.put_sector.new.cell inv.cells (c.index_mut.ensures.value ∙ ap (λ n. get_or now n cell) inv.at) within (home_at initial i part cell c.put_sector.new.cell there home);
      many = inv.many;
      parts = ap (λ p. set parts i p) (c.take_sector-sector.ensures.rest ∙ ap without_sector (sym c.part-item.is))
          ∙ map_over_more without_sector initial parts i part less inv.parts c.part-item.is;
    }
