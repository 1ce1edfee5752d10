-- Pages of the cache: one of zeros is one, and one whose bytes were made zero or copied is what it should be.
use Rattle.std.proofs.Common.{◌≡◌, ℕ, List, refl}
use Rattle.std.proofs.lemmas.List.{length-replicate}
use Rattle.iob_base.specs.declared.sector.Page.{Page}
use Rattle.io_model.specs.Contents.{zeros}
use Rattle.range_core.specs.Pages.{IsCachePage, cache_page, zero_page, zeroed_page}

pub zero_is_cache : (size : ℕ) → IsCachePage size (zero_page size)
zero_is_cache size = record { number = refl; whole = length-replicate size 0 }

pub cache_zeroed : (size : ℕ) (p : Page) → IsCachePage size p → zeroed_page p ≡ zero_page size
cache_zeroed size p h = λ i. record { number = h.number i; bytes = zeros (h.whole i) }

pub cache_copied : (size : ℕ) (p : Page) (bytes : List ℕ) → IsCachePage size p → record p { bytes = bytes } ≡ cache_page bytes
cache_copied size p bytes h = λ i. record { number = h.number i; bytes = bytes }
