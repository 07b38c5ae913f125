-- What decoding and adding up promise, in named parts. The room is scratch: nothing is said of what it holds beside the bytes.
use Rattle.std.specs.Prelude.{ℕ, Bool, true, List, ◌≡◌, length, take}
use Rattle.hexfile.specs.Pairs.{paired, pairs_of, sums_to_zero}

-- Whether the text is pairs of digits, and if it is, their bytes at the start of the room (Image files).
pub record Decodes (text : List ℕ) (r : Bool) (room' : List ℕ) : Type 0 where
  pub said : r ≡ paired text
  pub bytes : r ≡ true → take (length (pairs_of text)) room' ≡ pairs_of text

-- Whether the first bytes of the room, which stay, sum to 0 modulo 256 (Image files, all bytes of a record).
pub record SumsUp (room : List ℕ) (count : ℕ) (r : Bool) (room' : List ℕ) : Type 0 where
  pub said : r ≡ sums_to_zero (take count room)
  pub bytes : take count room' ≡ take count room
