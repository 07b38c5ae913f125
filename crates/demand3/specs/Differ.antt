-- Demand 3 (document 01, State and time, a byte being sent; Leaving no slack: stated of the sheet's rules). Two parts are in
-- one state, their arrays hold the same bytes but for one address, and both are given the same samples. Their answers are
-- the same until a read within these samples has fetched the byte at that address and sends a bit in which the two bytes
-- are unequal. At that sample the SDA level differs, the reset pin and the write bit do not. If no read comes that far, no
-- answer differs, and after the samples the parts differ at most in that array byte and, where it comes from that address,
-- in the byte being sent. Until a byte fetched from the address is being sent the parts are in one state. A write that covers
-- the address before a read fetches from it makes the parts the same from its sample on. The bit said to be out is the SDA level that the part gives, and a byte that no write covers stays. A byte
-- fetched before the samples belongs to the state, and is the same in both.
use Rattle.std.specs.Prelude.{ℕ, ◌+◌, ◌/◌, ◌%◌, ◌<◌, Bool, true, false, not, ◌&&◌, List, [], ◌∷◌, ◌≡◌, eqb, length, get_or, take}
use Rattle.std.specs.Bool.{beq}
use Rattle.ground.specs.Numbers.{page_size}
use Rattle.page.specs.Page.{page_of, at, in_page}
use Rattle.part.specs.declared.state.State.{State}
use Rattle.wire.specs.declared.Sign.TheVariants.{Quiet, Start, Stop, Bit, Byte, Ninth}
use Rattle.sample.specs.Sample.{opens_of, left_of, Seen, unseen, sees, seen_of}
use Rattle.sample.specs.Run.{Part, part_step, run_of, answers_of}
use Rattle.demand3.specs.Sending.{Sent, nothing, sends, sent_of, bit_from}

-- A sample of the row, counted from 0, or none of them (What goes in and what comes out).
pub data When : Type 0 where
  never : When
  sample : ℕ → When

-- The first sample at which a test holds: this one, or what the later ones say.
abbrev pub first_by : Bool → ℕ → When → When
first_by true i later = sample i
first_by false i later = later

-- Both parts send a byte fetched from the address, the same bit of it is out, and it is unequal (demand 3).
abbrev pub reaches : ℕ → Sent → Sent → Bool
reaches a nothing h = false
reaches a (sends b v m) nothing = false
reaches a (sends b v m) (sends c w n) =
    (eqb b a && eqb c a) && (eqb m n && not (beq (bit_from m v) (bit_from n w)))

-- The first sample after which a sending of a byte fetched from the address has reached an unequal bit (demand 3).
abbrev pub first_reach : ℕ → ℕ → List ℕ → List ℕ → Part → Part → Sent → Sent → When
first_reach a i [] ls p q g h = never
first_reach a i (e ∷ es) [] p q g h = never
first_reach a i (e ∷ es) (l ∷ ls) p q g h =
    first_by
    (reaches a (sent_of e l p g) (sent_of e l q h))
    i
    (first_reach a (i + 1) es ls (part_step e l p) (part_step e l q) (sent_of e l p g) (sent_of e l q h))

-- The first sample at which two answer rows differ (What goes in and what comes out).
abbrev pub first_diff : ℕ → List ℕ → List ℕ → When
first_diff i [] ys = never
first_diff i (x ∷ xs) [] = never
first_diff i (x ∷ xs) (y ∷ ys) = first_by (not (eqb x y)) i (first_diff (i + 1) xs ys)

-- What is being sent comes from the address (State and time, a byte being sent).
abbrev pub sends_from : ℕ → Sent → Bool
sends_from a nothing = false
sends_from a (sends b v n) = eqb b a

-- A sample fetches from the address (Bytes on the wire, read; demand 3).
abbrev pub fetches : ℕ → ℕ → ℕ → Part → Bool
fetches a e level p = sends_from a (sent_of e level p nothing)

-- Only at a stop that is seen, and there if the address lies in the page written and its mark is set in the load that the stop's bits
-- left: a write that was cut covers nothing (Bytes on the wire, stop; request 2026-02).
abbrev pub covers_by : Seen → ℕ → State → Bool
covers_by unseen a s = false
covers_by (sees Quiet) a s = false
covers_by (sees Start) a s = false
covers_by (sees (Stop n)) a s = eqb (page_of (at a)) (page_of s.device.counter) && get_or (left_of n s).load.marks (in_page (at a)) false
covers_by (sees Bit) a s = false
covers_by (sees (Byte v)) a s = false
covers_by (sees (Ninth b)) a s = false

-- A sample's write covers the address (Bytes on the wire, stop; demand 3).
unfoldable pub covers : ℕ → ℕ → ℕ → Part → Bool
covers a e level p = covers_by (seen_of level (opens_of e level p.state)) a p.state

-- A fetch from the address before any cover: never; a cover: this sample; else what the later ones say (demand 3).
abbrev pub first_cover_by : Bool → Bool → ℕ → When → When
first_cover_by true c i later = never
first_cover_by false true i later = sample i
first_cover_by false false i later = later

-- The first sample whose write covers the address, where none fetches from it before (demand 3).
abbrev pub first_cover : ℕ → ℕ → List ℕ → List ℕ → Part → When
first_cover a i [] ls p = never
first_cover a i (e ∷ es) [] p = never
first_cover a i (e ∷ es) (l ∷ ls) p =
    first_cover_by (fetches a e l p) (covers a e l p) i (first_cover a (i + 1) es ls (part_step e l p))

-- No sample fetches from the address (Bytes on the wire, read; demand 3).
abbrev pub fetches_none : ℕ → List ℕ → List ℕ → Part → Bool
fetches_none a [] ls p = true
fetches_none a (e ∷ es) [] p = true
fetches_none a (e ∷ es) (l ∷ ls) p = not (fetches a e l p) && fetches_none a es ls (part_step e l p)

-- No sample's write covers the address (Bytes on the wire, stop: all others stay).
abbrev pub covers_none : ℕ → List ℕ → List ℕ → Part → Bool
covers_none a [] ls p = true
covers_none a (e ∷ es) [] p = true
covers_none a (e ∷ es) (l ∷ ls) p = not (covers a e l p) && covers_none a es ls (part_step e l p)

-- Two arrays of one length that are equal but for one address (demand 3).
pub record EqualBut (a : ℕ) (xs ys : List ℕ) : Type 0 where
  pub lengths : length xs ≡ length ys
  pub others : (i : ℕ) → (i ≡ a → ⊥) → get_or xs i 0 ≡ get_or ys i 0

-- A page load of 64 bytes with 64 loaded marks (State and time, the page load).
pub record FullLoad (s : State) : Type 0 where
  pub bytes : length s.load.bytes ≡ page_size
  pub marks : length s.load.marks ≡ page_size

-- Two states that are the same in all but the byte being sent (State and time, a byte being sent).
pub record SameButOut (s t : State) : Type 0 where
  pub chip : s.chip ≡ t.chip
  pub timers : s.timers ≡ t.timers
  pub wire : s.wire ≡ t.wire
  pub load : s.load ≡ t.load
  pub counter : s.device.counter ≡ t.device.counter
  pub control : s.device.control ≡ t.device.control
  pub phase : s.device.talk.phase ≡ t.device.talk.phase
  pub high : s.device.talk.high ≡ t.device.talk.high
  pub own : s.device.talk.own ≡ t.device.talk.own

-- Nothing is being sent, or a byte fetched elsewhere (demand 3).
abbrev pub elsewhere : ℕ → Sent → Bool
elsewhere a g = not (sends_from a g)

-- What is being sent after the rows (State and time, a byte being sent).
abbrev pub sent_after : List ℕ → List ℕ → Part → Sent → Sent
sent_after [] ls p g = g
sent_after (e ∷ es) [] p g = g
sent_after (e ∷ es) (l ∷ ls) p g = sent_after es ls (part_step e l p) (sent_of e l p g)

-- Two answer rows that are equal before a sample, and differ at it in the SDA bit alone (What goes in and what comes out).
pub record SplitAt (k : ℕ) (xs ys : List ℕ) : Type 0 where
  pub before : (i : ℕ) → i < k → get_or xs i 0 ≡ get_or ys i 0
  pub others : get_or xs k 0 / 2 ≡ get_or ys k 0 / 2
  pub line : get_or xs k 0 % 2 ≡ get_or ys k 0 % 2 → ⊥

-- Two parts after rows in which no unequal bit was reached: answers alike, states alike but for a byte of the address being
-- sent (demand 3; State and time, a byte being sent).
pub record Alike (a : ℕ) (es ls : List ℕ) (p q : Part) : Type 0 where
  pub answers : answers_of es ls p ≡ answers_of es ls q
  pub states : SameButOut (run_of es ls p).state (run_of es ls q).state
  pub equal : elsewhere a (sent_after es ls p nothing) ≡ true → (run_of es ls p).state ≡ (run_of es ls q).state
  pub arrays : EqualBut a (run_of es ls p).array (run_of es ls q).array

-- Two parts after rows in which nothing was fetched from the address: in one state, answers alike, arrays equal but for the
-- address (demand 3).
pub record Unfetched (a : ℕ) (es ls : List ℕ) (p q : Part) : Type 0 where
  pub states : (run_of es ls p).state ≡ (run_of es ls q).state
  pub answers : answers_of es ls p ≡ answers_of es ls q
  pub arrays : EqualBut a (run_of es ls p).array (run_of es ls q).array

-- Two parts that a covering write made equal: after that sample and every later one, at the end, and in all answers (demand 3).
pub record Covered (k : ℕ) (es ls : List ℕ) (p q : Part) : Type 0 where
  pub later : (n : ℕ) → k < n → run_of (take n es) (take n ls) p ≡ run_of (take n es) (take n ls) q
  pub after : run_of es ls p ≡ run_of es ls q
  pub answers : answers_of es ls p ≡ answers_of es ls q

-- What demand 3 says of two parts in one state, arrays equal but for the address a, and the same rows. What it asks of them, and
-- of which it is said, stands in chip_claims/specs/Demand3 (demand 3; Leaving no slack).
pub record TwoParts (a : ℕ) (es ls : List ℕ) (p q : Part) : Type 0 where
  -- The answers first differ where an unequal bit is first reached, there in the SDA bit alone (demand 3).
  pub first : first_diff 0 (answers_of es ls p) (answers_of es ls q) ≡ first_reach a 0 es ls p q nothing nothing
  pub reached : (k : ℕ) → first_reach a 0 es ls p q nothing nothing ≡ sample k → SplitAt k (answers_of es ls p) (answers_of es ls q)
  -- Where none is reached, the parts are alike but for the address (demand 3).
  pub unreached : first_reach a 0 es ls p q nothing nothing ≡ never → Alike a es ls p q
  -- Until a byte fetched from the address is being sent, the parts are in one state and answer alike (demand 3).
  pub until : (n : ℕ) → fetches_none a (take n es) (take n ls) p ≡ true → Unfetched a (take n es) (take n ls) p q
  -- A write that covers the address before any fetch from it makes the parts equal (demand 3).
  pub covered : (k : ℕ) → first_cover a 0 es ls p ≡ sample k → Covered k es ls p q
  -- The bit that is out is what a part gives on SDA, whichever part it is (Bytes on the wire, read).
  pub out : (r : Part) (b v n : ℕ) → sent_after es ls r nothing ≡ sends b v n
      → (run_of es ls r).state.device.talk.own ≡ bit_from n v
  -- A byte that no write covers stays (Bytes on the wire, stop).
  pub uncovered : covers_none a es ls p ≡ true → get_or (run_of es ls p).array a 0 ≡ get_or p.array a 0
