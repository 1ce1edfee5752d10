use Rattle.std.specs.Prelude.{◌≡◌, ℕ, List, [], map}
use Rattle.iob_base.specs.DeviceBlock.{BLANK}
use Rattle.iob_base.specs.declared.part.Part.{Part}
use Rattle.iob_base.specs.declared.sector.Page.{Page}

-- a page that goes with no block of a device
abbrev pub bare_part : Page → Part
bare_part page = record { sector = BLANK; page = page }

-- so each of these pages, in order
abbrev pub bare_parts : List Page → List Part
bare_parts pages = map bare_part pages

-- a part has no block of a device
abbrev pub IsBare : Part → Type 0
IsBare p = p.sector ≡ BLANK

-- the pages of parts, in order
abbrev pub pages_of : List Part → List Page
pages_of parts = map (λ p. p.page) parts

-- a page without bytes
abbrev pub NO_PAGE : Page
NO_PAGE = record { number = 0; bytes = [] }

-- a part whose sector was taken out
abbrev pub without_sector : Part → Part
without_sector p = record p { sector = BLANK }

-- a part whose page was taken out
abbrev pub without_page : Part → Part
without_page p = record p { page = NO_PAGE }
