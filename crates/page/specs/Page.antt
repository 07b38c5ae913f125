-- Places, the page load and the store (document 01, State and time; Bytes on the wire).
use Rattle.std.specs.Prelude.{ℕ, ◌+◌, ◌*◌, ◌/◌, ◌%◌, Bool, true, false, cond, List, [], ◌∷◌, ◌++◌, take, drop, get_or, set, replicate, ltb}
use Rattle.ground.specs.Numbers.{page_size}
use Rattle.ground.specs.Cases.{or_zero}
use Rattle.ground.specs.declared.kinds.Kind.{Kind}
use Rattle.part.specs.declared.state.BusAddress.{BusAddress}
use Rattle.part.specs.declared.state.Load.{Load}
use Rattle.part.specs.declared.state.Place.{Place}

-- The array place of a number (State and time, bus address and array place).
abbrev pub at : ℕ → Place
at n = record { 0 = n }

-- The array place of a bus address: as many of its low bits as places of that array have, 12 or 14 (Bytes on the wire, write; request 2026-01).
abbrev pub place_of : Kind → BusAddress → Place
place_of k a = at (a.0 % k.size)

-- The page that a place lies in (State and time, the page load).
abbrev pub page_of : Place → ℕ
page_of p = p.0 / page_size

-- Where a place stands within its page (State and time, the page load).
abbrev pub in_page : Place → ℕ
in_page p = p.0 % page_size

-- The number of the first place of a place's page (Bytes on the wire, stop).
abbrev pub first_of : Place → ℕ
first_of p = page_of p * page_size

-- The counter's step within its page, the last place going to the first (Bytes on the wire, array data).
abbrev pub next_in_page : Place → Place
next_in_page p = at (first_of p + (in_page p + 1) % page_size)

-- The counter's step at a read, the array's last place going to 0 (Bytes on the wire, read).
abbrev pub next_in_array : Kind → Place → Place
next_in_array k p = at (or_zero (ltb (p.0 + 1) k.size) (p.0 + 1))

-- The array byte at a place, 0 beyond the array (Bytes on the wire, read).
abbrev pub byte_at : List ℕ → Place → ℕ
byte_at array p = get_or array p.0 0

-- A load with nothing in it (State and time, the page load; Bytes on the wire, any start and any stop).
abbrev pub empty_load : Load
empty_load = record { bytes = replicate page_size 0; marks = replicate page_size false }

-- Whether any mark of a row is set (Bytes on the wire, stop).
abbrev pub any_marked : List Bool → Bool
any_marked [] = false
any_marked (true ∷ ms) = true
any_marked (false ∷ ms) = any_marked ms

-- Whether a loaded mark is set (Bytes on the wire, stop).
abbrev pub marked : Load → Bool
marked l = any_marked l.marks

-- A byte put in the load at a place of its page (Bytes on the wire, array data).
abbrev pub filled_of : Load → Place → ℕ → Load
filled_of l p v = record { bytes = set l.bytes (in_page p) v; marks = set l.marks (in_page p) true }

-- Marked bytes of a load over the bytes of a page: the loaded byte where the mark is set, else the byte that is there (Bytes on the wire, stop).
abbrev pub lay_of : List Bool → List ℕ → List ℕ → List ℕ
lay_of [] bs xs = xs
lay_of (m ∷ ms) [] xs = xs
lay_of (m ∷ ms) (b ∷ bs) [] = []
lay_of (m ∷ ms) (b ∷ bs) (x ∷ xs) = cond m b x ∷ lay_of ms bs xs

-- The array after the load went into the part that starts at the place's page (Bytes on the wire, stop).
unfoldable pub store_of : Place → Load → List ℕ → List ℕ
store_of p l array = take (first_of p) array ++ lay_of l.marks l.bytes (drop (first_of p) array)
