use Rattle.std.proofs.Common.{List, [], ◌∷◌, All, arith}
use Rattle.std.proofs.lemmas.List.Elements.{All-cons, All-nil, All-tail}
use Rattle.iob_base.specs.Parting.{pages_of}
use Rattle.iob_base.specs.declared.part.Part.{Part}
use Rattle.range_core.specs.BlockTruth.{IsWholePage}
use Rattle.worked_ranges.specs.SmallRanges.{IsWholeAndBare}

-- the pages of whole parts are whole
pub whole_pages : (parts : List Part) → All IsWholeAndBare parts → All (IsWholePage 16) (pages_of parts)
whole_pages [] h = All-nil (IsWholePage 16)
whole_pages (p ∷ ps) h = All-cons (IsWholePage 16) p.page (pages_of ps) (h 0 p (omega arith)).whole (whole_pages ps (All-tail IsWholeAndBare p ps h))
