-- Intel's hexadecimal object format: colon, count, address, type, data, checksum (document 01, Image files).
use Rattle.std.specs.Prelude.{ℕ, ◌+◌, ◌*◌, ◌/◌, ◌%◌, Bool, true, false, ◌&&◌, List, [], ◌∷◌, ◌++◌, eqb, length, get_or, take, drop}
use Rattle.ground.specs.Numbers.{byte_values}
use Rattle.hexfile.specs.Pairs.{paired, pairs_of, text_of, sums_to_zero, check_of}
use Rattle.forms.specs.Form.{Form, row_size}

-- The character that opens a record (Image files, colon).
abbrev pub colon : ℕ
colon = 0x3A

-- The type of a data record (Refusal numbers, 14).
abbrev pub data_type : ℕ
data_type = 0

-- The type of the end record (Refusal numbers, 14).
abbrev pub end_type : ℕ
end_type = 1

-- Characters of a record that gives so many bytes (Image files, 11 + 2 x count).
abbrev pub characters_in : ℕ → ℕ
characters_in count = 11 + 2 * count

-- A record's bytes: those of the pairs after the colon, checksum included (Image files, colon).
unfoldable pub bytes_in : List ℕ → List ℕ
bytes_in l = pairs_of (drop 1 l)

-- The first byte of a record is its count (Image files, count).
abbrev pub count_of : List ℕ → ℕ
count_of bs = get_or bs 0 0

-- The next two are its address, the higher first (Image files, 16-bit address).
abbrev pub record_address : List ℕ → ℕ
record_address bs = get_or bs 1 0 * byte_values + get_or bs 2 0

-- The fourth is its type (Image files, type).
abbrev pub type_of : List ℕ → ℕ
type_of bs = get_or bs 3 0

-- Then come so many bytes of data as the count says (Image files, data).
abbrev pub data_of : List ℕ → List ℕ
data_of bs = take (count_of bs) (drop 4 bs)

-- A line is well formed: a colon, then pairs of digits, and as many characters as its count says (Refusal numbers, 12).
unfoldable pub well_formed : List ℕ → Bool
well_formed l = eqb (get_or l 0 0) colon && (paired (drop 1 l) && eqb (length l) (characters_in (count_of (bytes_in l))))

-- Data, the end with neither count nor address, or a type that is not taken (Refusal numbers, 14).
abbrev pub type_by : Bool → Bool → Bool → Bool → Bool
type_by true end no_count no_address = true
type_by false true no_count no_address = no_count && no_address
type_by false false no_count no_address = false

-- Whether a record's type is taken (Refusal numbers, 14).
unfoldable pub typed : List ℕ → Bool
typed bs = type_by (eqb (type_of bs) data_type) (eqb (type_of bs) end_type) (eqb (count_of bs) 0) (eqb (record_address bs) 0)

-- The bytes of a record before its checksum: count, address, type, data (Image files).
abbrev pub fields_of : ℕ → ℕ → List ℕ → List ℕ
fields_of address type bs = length bs ∷ address / byte_values ∷ address % byte_values ∷ type ∷ bs

-- A record as a line: a colon, and the digits of its bytes and checksum (Image files).
unfoldable pub record_line : ℕ → ℕ → List ℕ → List ℕ
record_line address type bs = colon ∷ text_of (fields_of address type bs ++ (check_of (fields_of address type bs) ∷ []))

-- Intel's form of record (Image files; Refusal numbers, 12 to 16).
abbrev pub intel : Form
intel =
    record {
      formed = well_formed;
      summed = λ l. sums_to_zero (bytes_in l);
      typed = λ first l. typed (bytes_in l);
      address = λ l. record_address (bytes_in l);
      content = λ l. data_of (bytes_in l);
      last = λ l. eqb (type_of (bytes_in l)) end_type;
      row = λ address row. record_line address data_type row;
      end = record_line 0 end_type [];
      row_length = characters_in row_size + 1;
      end_length = characters_in 0 + 1;
    }
