-- Intel's form of record keeps the laws of the round trip. No axiom is used.
use Prim.Native.Nat.{ℕ}
use mathlib.Core.Bool.{Bool, true, false, true≢false}
use mathlib.Core.List.{List, []}
use mathlib.Core.Path.{◌≡◌, refl, ap, ◌∙◌}
use native.Mathlib.Omega.{arith}
use lib.Dec.{eqb}
use borrow.Author.Tests.{eqb-true}
use Rattle.ground.proofs.Tests.{and_split}
use Rattle.intel.specs.Intel.{data_type, end_type, bytes_in, count_of, record_address, type_of, data_of, type_by, typed, record_line, intel}
use Rattle.formats.specs.Measured.{intel-measured}
use Rattle.round_trip.specs.Sound.{Sound}
use Rattle.intel_trip.proofs.Records.{record-row, record-end}
use Rattle.intel_trip.proofs.RecordsBack.{line-back, data-bytes}

-- A type that is taken and is not that of the end is that of data.
data-by : (a b c d : Bool) → type_by a b c d ≡ true → b ≡ false → a ≡ true
data-by true b c d e f = refl
data-by false true c d e f = absurd (true≢false f)
data-by false false c d e f = absurd (true≢false (cc))

-- A type that is taken and is that of the end comes with neither count nor address.
end_by_lem : (a b c d : Bool) → type_by a b c d ≡ true → a ≡ false → (c ≡ true) × (d ≡ true)
end_by_lem true b c d e f = absurd (true≢false f)
end_by_lem false true c d e f = and_split c d e
end_by_lem false false c d e f = absurd (true≢false (cc))

module _ (bs : List ℕ) (t : typed bs ≡ true) where
  is-data : eqb (type_of bs) end_type ≡ false → type_of bs ≡ data_type
  unfolding typed
  is-data e =
      eqb-true (type_of bs) data_type
      (data-by (eqb (type_of bs) data_type) (eqb (type_of bs) end_type) (eqb (count_of bs) 0) (eqb (record_address bs) 0) t e)

  is-end : type_of bs ≡ end_type → (count_of bs ≡ 0) × (record_address bs ≡ 0)
  unfolding typed
  is-end e =
      let s = end_by_lem (eqb (type_of bs) data_type) (eqb (type_of bs) end_type) (eqb (count_of bs) 0) (eqb (record_address bs) 0) t (rw e) in
      (eqb-true (count_of bs) 0 s.0, eqb-true (record_address bs) 0 s.1)

-- The laws.
pub intel-sound : Sound intel
intel-sound =
    record {
      measured = intel-measured;
      long = omega arith;
      row = λ address row h n b.
          record-row address row (record { count = omega arith; address = h; type = omega arith; bytes = b });
      end = record-end;
      row_back = λ first l j e n.
          let y = is-data (bytes_in l) j.typed e in (
            line-back l j.formed j.summed
                ∙ ap (λ (t : ℕ). record_line (record_address (bytes_in l)) t (data_of (bytes_in l))) y,
            data-bytes l j.formed,
          );
      end_back = λ first l j e.
          let y = eqb-true (type_of (bytes_in l)) end_type e in
          let z = is-end (bytes_in l) j.typed y in
          let d : data_of (bytes_in l) ≡ [] = rw z.0 in
          line-back l j.formed j.summed ∙ rw (y, z.1, d);
    }
