-- The reader goes from line to line and stops at the first that is not a faultless line of data. Assumes nothing.
use Prim.Native.Nat.{ℕ, zero, suc, ◌+◌, ◌≤◌, ◌<◌}
use mathlib.Core.Bool.{Bool, true, false}
use mathlib.Core.List.{List}
use mathlib.Core.Logic.{◌⊎◌, inl, inr}
use mathlib.Core.Path.{◌≡◌, refl, ◌∙◌}
use native.Mathlib.Omega.{arith}
use lib.Dec.{eqb, leb}
use lib.ListN.{length, drop, replicate, drop_of_length-le}
use borrow.Author.Tests.{leb-true, leb-false}
use Rattle.lines.specs.Lines.{lines_of}
use Rattle.cells.specs.Cells.{not_given}
use Rattle.forms.specs.Reading.{Heard, gives, ends, faulty, says_of, given_of, Reading, bad, line_by, lines_read}
use Rattle.intel.specs.Intel.{intel}
use Rattle.exactly.specs.Lines.{StartsLine, LineAt, characters_of}
use Rattle.exactly.specs.Faults.{GivesData, AllGive}
use Rattle.exactly.proofs.Lines.{three_ways, one_end, none_within, end_of, line-here, characters-here, lines-here, starts-next}
use Rattle.exactly.proofs.Cells.{Filled, none_filled, filled_next}
use Rattle.exactly.proofs.Heard.{hear-data}

-- The reading of the lines from a place on.
abbrev pub read_from : List ℕ → ℕ → List ℕ → Reading
read_from text at cells = lines_read intel (length text) at cells (lines_of (drop at text))

-- One line of it.
read-line : (text : List ℕ) (at : ℕ) (cells : List ℕ) → at < length text
    → read_from text at cells
    ≡ line_by (says_of intel (eqb at 0) cells (characters_of text at (end_of text at))) at (end_of text at + 1) cells
    (lines_of (drop (end_of text at + 1) text))
    (read_from text (end_of text at + 1) (given_of intel cells (characters_of text at (end_of text at))))
read-line text at cells h = rw (lines-here text at h, characters-here text at h)

read_none : (text : List ℕ) (at : ℕ) (cells : List ℕ) → length text ≤ at → read_from text at cells ≡ bad 17 (length text)
read_none text at cells h = rw (drop_of_length-le text h)

-- Where the reader comes to.
pub data Walked (size : ℕ) (text : List ℕ) (r : Reading) : Type 0 where
  out : r ≡ bad 17 (length text) → AllGive size text (length text) → Walked size text r
  halt : (p e : ℕ) (cells : List ℕ) (h : Heard) (rest : Reading) → LineAt text p e → AllGive size text p → Filled size text p cells
      → says_of intel (eqb p 0) cells (characters_of text p e) ≡ h → (h ≡ gives → ⊥)
      → r ≡ line_by h p (e + 1) cells (lines_of (drop (e + 1) text)) rest → Walked size text r

-- One line of data more.
all-next : (size : ℕ) (text : List ℕ) (p e : ℕ) → LineAt text p e → GivesData size text p (characters_of text p e) → AllGive size text p
    → AllGive size text (e + 1)
all-next size text p e x g a q f y h = go (three_ways q p)
  where
    go : (q < p) ⊎ ((q ≡ p) ⊎ (p < q)) → GivesData size text q (characters_of text q f)
    go (inl k) = a q f y k
    go (inr (inl k)) =
        let z : LineAt text p f = rw k at y in
        let m : f ≡ e = one_end text p f e z x in
        rw (k, m) g
    go (inr (inr k)) = absurd (none_within text p e q f x y k (omega arith))

moved : (size : ℕ) (text : List ℕ) {r s : Reading} → r ≡ s → Walked size text s → Walked size text r
moved size text e (out f a) = out (e ∙ f) a
moved size text e (halt p t cells h rest x a f s n g) = halt p t cells h rest x a f s n (e ∙ g)

module _ (size : ℕ) (text : List ℕ) where
  -- What is left to walk.
  abbrev On : ℕ → Type 0
  On fuel = (at : ℕ) (cells : List ℕ) → length text ≤ at + fuel → (at < length text → StartsLine text at) → AllGive size text at
      → Filled size text at cells → Walked size text (read_from text at cells)

  run_out_lem : (at : ℕ) (cells : List ℕ) → length text ≤ at → AllGive size text at → Walked size text (read_from text at cells)
  run_out_lem at cells h a = out (read_none text at cells h) (λ q f x k. a q f x (omega arith))

  -- One line.
  one : (fuel at : ℕ) (cells : List ℕ) → On fuel → at < length text → length text ≤ at + suc fuel → StartsLine text at → AllGive size text at
      → Filled size text at cells → (h : Heard) → says_of intel (eqb at 0) cells (characters_of text at (end_of text at)) ≡ h
      → Walked size text (read_from text at cells)
  one fuel at cells go k m s a f gives e =
      let x = line-here text at k s in
      let g = (hear-data size text at cells (characters_of text at (end_of text at)) (eqb at 0) f).0 e in
      moved size text (read-line text at cells k ∙ rw e)
      (go (end_of text at + 1) (given_of intel cells (characters_of text at (end_of text at))) (omega arith)
      (starts-next text at (end_of text at) x)
      (all-next size text at (end_of text at) x g a)
      (filled_next size text at (end_of text at) cells x g.formed f))
  one fuel at cells go k m s a f ends e =
      halt at (end_of text at) cells ends (read_from text (end_of text at + 1) (given_of intel cells (characters_of text at (end_of text at)))) (line-here text at k s) a f e (λ z. let y : ◌≡◌ {A = ℕ} 0 1 = cc in omega arith) (read-line text at cells k ∙ rw e)
  one fuel at cells go k m s a f (faulty j) e =
      halt at (end_of text at) cells (faulty j) (read_from text (end_of text at + 1) (given_of intel cells (characters_of text at (end_of text at)))) (line-here text at k s) a f e (λ z. let y : ◌≡◌ {A = ℕ} 0 1 = cc in omega arith) (read-line text at cells k ∙ rw e)

  walk : (fuel : ℕ) → On fuel
  walk zero at cells h s a f = run_out_lem at cells (omega arith) a
  walk (suc fuel) at cells h s a f = go (leb (length text) at) refl (walk fuel)
    where
      go : (b : Bool) → leb (length text) at ≡ b → On fuel → Walked size text (read_from text at cells)
      go true e on = run_out_lem at cells (leb-true (length text) at e) a
      go false e on =
          let k = leb-false (length text) at e in
          one fuel at cells on k h (s k) a f (says_of intel (eqb at 0) cells (characters_of text at (end_of text at))) refl

  -- From the text's start on.
  pub walked : Walked size text (lines_read intel (length text) 0 (replicate size not_given) (lines_of text))
  walked =
      walk (length text) 0 (replicate size not_given) (omega arith) (λ h. inl refl) (λ q f x k. absurd (omega arith))
      (none_filled size text)
