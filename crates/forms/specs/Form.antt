-- What a form of record gives: how a line is judged, where its data go, and what is written for a row and for the end. Reader, writer and
-- round trip take it as a parameter (document 01, Image files).
use Rattle.std.specs.Prelude.{ℕ, Bool, List}

-- Bytes in a row, and so in each record that the writer makes (Image files, the writer).
abbrev pub row_size : ℕ
row_size = 16

-- A form of record. Lines are meant without carriage return and line feed (Image files; Refusal numbers, 12 to 16).
pub record Form : Type 0 where
  -- whether a line is well formed, and whether its checksum is right (Refusal numbers, 12, 13)
  pub formed : List ℕ → Bool
  pub summed : List ℕ → Bool
  -- whether its type is taken; a type may be taken in the text's first line only (Refusal numbers, 14)
  pub typed : Bool → List ℕ → Bool
  -- the address from which its data go on, and these; none where it gives nothing (Image files, address, data)
  pub address : List ℕ → ℕ
  pub content : List ℕ → List ℕ
  -- whether it ends the image (Refusal numbers, 17, 18)
  pub last : List ℕ → Bool
  -- the line of a row at an address, and that of the end (Image files, the writer)
  pub row : ℕ → List ℕ → List ℕ
  pub end : List ℕ
  -- how many characters these lines have, their line feeds included (Refusal numbers, 19)
  pub row_length : ℕ
  pub end_length : ℕ
