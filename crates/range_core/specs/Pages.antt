-- Pages of the cache.
use Rattle.std.specs.Prelude.{◌≡◌, ℕ, List, length}
use Rattle.iob_base.specs.declared.sector.Page.{Page}
use Rattle.io_model.specs.Contents.{zeros}

-- a page of the cache, which has no number of a caller's page, with these bytes, and one of zeros
abbrev pub cache_page : List ℕ → Page
cache_page bytes = record { number = 18446744073709551615; bytes = bytes }

abbrev pub zero_page : ℕ → Page
zero_page size = cache_page (zeros size)

-- a page of as many zeros as it had bytes
abbrev pub zeroed_page : Page → Page
zeroed_page p = record p { bytes = zeros (length p.bytes) }

-- a page is one of the cache, with a block's length
pub record IsCachePage (size : ℕ) (p : Page) : Type 0 where
  pub number : p.number ≡ 18446744073709551615
  pub whole : length p.bytes ≡ size
