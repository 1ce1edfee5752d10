use Rattle.std.proofs.Common.{◌≡◌, List, length, map, All, arith, sym, ap, ◌∙◌, subst}
use Rattle.std.specs.List.{refill}
use Rattle.std.proofs.lemmas.List.{length-map}
use Rattle.iob_base.specs.Parting.{IsBare, pages_of, without_sector}
use Rattle.iob_base.specs.declared.part.Part.{Part}
use Rattle.iob_base.proofs.PartLemmas.{pages_of-without, without-bare}
use Rattle.range_core.specs.Lends.{home_of}
use Rattle.range_core.specs.OnRun.{on_each}
use Rattle.range_core.proofs.DirectNowLemmas.{refill-whole}
use Rattle.range_core.proofs.lend.bring_home.Goals as goal

pub put_home-requires : goal.put_home-requires
put_home-requires c = omega (arith, ap length c.as_mut_slice.ensures.value, c.requires)

pub returns-clause-cells : goal.returns-clause-cells
returns-clause-cells c =
    c.put_home.ensures.cells ∙ ap (λ (ps : List Part). on_each (home_of ps) 0 c.args.low (length ps) c.args.cells.now.items) c.as_mut_slice.ensures.value

-- the list that is left, once it is written back
left_is : (parts written old : List Part) → old ≡ parts → written ≡ map without_sector old → refill (length parts) parts written ≡ map without_sector parts
left_is parts written old same is =
    let emptied : written ≡ map without_sector parts = is ∙ ap (map without_sector) same in
    refill-whole parts written (ap length emptied ∙ length-map parts without_sector) ∙ emptied

pub returns-clause-pages : goal.returns-clause-pages
returns-clause-pages c = ap pages_of (left_is c.args.parts c.put_home.new.parts _ c.as_mut_slice.ensures.value c.put_home.ensures.parts) ∙ pages_of-without c.args.parts

pub returns-clause-bare : goal.returns-clause-bare
returns-clause-bare c =
    let B : List Part → Type 0 = All IsBare in
    subst B (sym (left_is c.args.parts c.put_home.new.parts _ c.as_mut_slice.ensures.value c.put_home.ensures.parts)) (without-bare c.args.parts)
