-- Block lock (document 01, Control register).
use Rattle.std.specs.Prelude.{ℕ, ◌+◌, ◌*◌, ◌/◌, ◌%◌, Bool, true, false, ◌&&◌, List, [], ◌∷◌, get_or, leb, ltb}
use Rattle.ground.specs.Numbers.{page_size, from_code_one, from_code_two}
use Rattle.page.specs.Page.{page_of}
use Rattle.ground.specs.declared.kinds.Kind.{Kind}
use Rattle.lock.specs.declared.Extent.{Extent}
use Rattle.part.specs.declared.state.Place.{Place}

-- BP2 BP1 BP0 of a control byte: bit 0, then bits 4 and 3 (Control register).
abbrev pub block_code : ℕ → ℕ
block_code v = v % 2 * 4 + v / 8 % 4

-- The first n pages (Control register).
abbrev pub first_pages : ℕ → Extent
first_pages n = record { from = 0; to = n }

-- The pages from a place to the array's end, where upper blocks are locked at all; else none (Control register; request 2026-01).
abbrev pub upper_by : Bool → ℕ → ℕ → Extent
upper_by false first size = first_pages 0
upper_by true first size = record { from = first / page_size; to = size / page_size }

-- The same of a kind of part (Control register; request 2026-01).
abbrev pub upper_from : Kind → ℕ → Extent
upper_from k first = upper_by k.upper first k.size

-- What the codes 0 to 7 lock: 0 nothing, 1 and 2 upper blocks or nothing, 3 everything, 4 to 7 the first 1, 2, 4, 8 pages (Control register).
abbrev pub extent_table : Kind → List Extent
extent_table k =
    first_pages 0
    ∷ upper_from k from_code_one
    ∷ upper_from k from_code_two
    ∷ first_pages (k.size / page_size)
    ∷ first_pages 1
    ∷ first_pages 2
    ∷ first_pages 4
    ∷ first_pages 8
    ∷ []

-- The pages that a block code locks (Control register).
unfoldable pub extent_of : Kind → ℕ → Extent
extent_of k code = get_or (extent_table k) code (first_pages 0)

-- Whether a page lies within an extent (Control register).
abbrev pub in_extent : Extent → ℕ → Bool
in_extent x page = leb x.from page && ltb page x.to

-- Whether a place lies in a block that the control byte locks (Control register; Bytes on the wire, array data).
unfoldable pub locked_of : Kind → ℕ → Place → Bool
locked_of k stored p = in_extent (extent_of k (block_code stored)) (page_of p)
