-- Laws of reading line after line: what one line leaves of the text. Assumes nothing.
use Prim.Native.Nat.{ℕ, suc, ◌+◌, ◌-◌, ◌≤◌, ◌<◌}
use mathlib.Core.List.{List, [], ◌∷◌}
use mathlib.Core.Path.{◌≡◌, refl, ap, sym, ◌∙◌}
use native.Mathlib.Omega.{arith}
use lib.Dec.{eqb}
use lib.ListN.{length, take, drop, length-drop}
use lib.Seq.{drop-drop, take-take}
use Rattle.std.specs.Prelude.{Option, Some, None, Result, Ok, Err}
use Rattle.lines.specs.Lines.{line_at, no_line, lines_of, first_line, trimmed, step_meant, line_step_of}
use Rattle.lines.specs.declared.Line.{Line}
use Rattle.cells.specs.Cells.{settled_of}
use Rattle.lines.proofs.LineLaws.{first-take, lines_cons, lines_none, line-fits, trim-take, trim-length}
use Rattle.ground.specs.Verdict.{meant, number_of}
use Rattle.ground.specs.declared.Reason.{Reason}
use Rattle.ground.specs.declared.Refusal.{Refusal}
use Rattle.forms.specs.Form.{Form}
use Rattle.forms.specs.Reading.{Heard, says_meant, taken, bad, given_of, says_of, line_by, lines_read}
use Rattle.forms.specs.Parts.{HearsLine}
use Rattle.reader.specs.Parts.{ReadsLines}
use Rattle.forms.specs.declared.Says.{Says}
use Rattle.forms.specs.declared.Says.TheVariants.{Gives, Ends}

-- A line step that answers a line has lines before it, and the line's two ends are those of the first.
step-at : (ls : List (List ℕ)) (at t f : ℕ) → line_step_of at ls ≡ line_at t f
    → (ls ≡ [] → ⊥) × (t ≡ at + length (trimmed (first_line ls))) × (f ≡ at + length (first_line ls))
unfolding line_step_of
step-at [] at t f e = let z : ◌≡◌ {A = ℕ} 0 1 = cc in absurd (omega arith)
step-at (l ∷ ls) at t f e =
    let p : at + length (trimmed l) ≡ t = cc in
    let q : at + length l ≡ f = cc in
    (λ h. let z : ◌≡◌ {A = ℕ} 0 1 = cc in omega arith, omega arith, omega arith)

-- And one that answers the end has none.
step-none : (ls : List (List ℕ)) (at : ℕ) → line_step_of at ls ≡ no_line → ls ≡ []
unfolding line_step_of
step-none [] at e = refl
step-none (l ∷ ls) at e = let z : ◌≡◌ {A = ℕ} 0 1 = cc in absurd (omega arith)

-- A text with lines is not empty.
some-text : (xs : List ℕ) → (lines_of xs ≡ [] → ⊥) → 0 < length xs
some-text [] h = absurd (h refl)
some-text (x ∷ xs) h = omega arith

-- A line found in a text: where it starts and ends, its characters, and the lines after it.
pub record Found (text : List ℕ) (at t f : ℕ) : Type 0 where
  pub here : at < length text
  pub from : at ≤ t
  pub ends : t ≤ f
  pub fits : f ≤ length text
  pub line : take (t - at) (drop at text) ≡ trimmed (first_line (lines_of (drop at text)))
  pub lines : lines_of (drop at text) ≡ first_line (lines_of (drop at text)) ∷ lines_of (drop (f + 1) text)
  pub place : f ≡ at + length (first_line (lines_of (drop at text)))

pub found : (text : List ℕ) (at : ℕ) (line : Line) (r : Option Line) → step_meant r ≡ line_step_of at (lines_of (drop at text)) → r ≡ Some line
    → Found text at line.trimmed line.feed
found text at line r e g =
    let t : ℕ = line.trimmed in
    let f : ℕ = line.feed in
    let l : List ℕ = first_line (lines_of (drop at text)) in
    let s = step-at (lines_of (drop at text)) at t f (sym e ∙ ap step_meant g) in
    let n : length (drop at text) ≡ length text - at = length-drop at text in
    let p : t ≡ at + length (trimmed l) = s.1 in
    let q : f ≡ at + length l = s.2 in
    let h : 0 < length (drop at text) = some-text (drop at text) s.0 in
    let k : length (trimmed l) ≤ length l = trim-length l in
    let c : t - at ≡ length (trimmed l) = omega arith in
    let b : at + suc (length l) ≡ f + 1 = omega arith in
    let d : drop (suc (length l)) (drop at text) ≡ drop (f + 1) text =
    drop-drop (suc (length l)) at text ∙ ap (λ (i : ℕ). drop i text) b in
    let m : trimmed l ≡ take (length (trimmed l)) (drop at text) =
    trim-take l ∙ ap (λ (xs : List ℕ). take (length (trimmed l)) xs) (first-take (drop at text))
    ∙ take-take (length (trimmed l)) (length l) (drop at text) k in
    record {
      here = omega arith;
      from = omega arith;
      ends = omega arith;
      fits = omega (arith, line-fits text at (omega arith));
      line = rw c (sym m);
      lines = rw (← d) (lines_cons (drop at text) h);
      place = q;
    }

module _ (form : Form) where
  -- One line read: what it says decides, and the lines after it are read on from the next place.
  turn-line : (total at next : ℕ) (cells line l : List ℕ) (all ls : List (List ℕ)) (r : Heard)
      → all ≡ l ∷ ls → line ≡ trimmed l → next ≡ at + length l + 1 → r ≡ says_of form (eqb at 0) cells line
      → lines_read form total at cells all ≡ line_by r at next cells ls (lines_read form total next (given_of form cells line) ls)
  turn-line total at next cells line l all ls r e f g h = rw (h, f, g, e)

  -- Where no line is left there is no end record.
  pub turn-none : (text cells : List ℕ) (at : ℕ) (r : Option Line) → step_meant r ≡ line_step_of at (lines_of (drop at text)) → r ≡ None
      → lines_read form (length text) at cells (lines_of (drop at text)) ≡ bad 17 (length text)
  turn-none text cells at r e g = rw (step-none (lines_of (drop at text)) at (sym e ∙ ap step_meant g))

  -- The reply to a text, by what its lines give.
  pub lines-refused : (text cells cells' : List ℕ) (k : Refusal) → lines_read form (length text) 0 cells (lines_of text) ≡ bad (number_of k.reason) k.place
      → ReadsLines form text cells (Err k) cells'
  unfolding meant
  lines-refused text cells cells' k e = record { reply = rw e; kept = rw e }

  pub lines-accepted : (text cells cells' : List ℕ)
      → lines_read form (length text) 0 cells (lines_of text) ≡ taken (settled_of cells')
      → ReadsLines form text cells (Ok (length text)) cells'
  unfolding meant
  lines-accepted text cells cells' e = record { reply = rw e; kept = rw e }

-- A line that was found in a text and heard.
module _ (form : Form) (text cells cells' : List ℕ) (at t f : ℕ) (r : Result Says Reason) (w : Found text at t f)
    (h : HearsLine form (eqb at 0) (take (t - at) (drop at text)) cells r cells') where
  turn : lines_read form (length text) at cells (lines_of (drop at text))
      ≡ line_by (says_meant r) at (f + 1) cells (lines_of (drop (f + 1) text))
      (lines_read form (length text) (f + 1) (given_of form cells (take (t - at) (drop at text))) (lines_of (drop (f + 1) text)))
  turn =
      turn-line form (length text) at (f + 1) cells _ _ _ _ (says_meant r) w.lines w.line (ap (λ (n : ℕ). n + 1) w.place) h.said

  -- If it gives data, the lines after it are left.
  pub turn-gives : r ≡ Ok Gives
      → lines_read form (length text) at cells (lines_of (drop at text))
      ≡ lines_read form (length text) (f + 1) cells' (lines_of (drop (f + 1) text))
  turn-gives e = turn ∙ rw (h.kept, e)

  -- A faulty line is refused at its place.
  pub turn-refused : (start : List ℕ) (reply : Result ℕ Refusal)
      → lines_read form (length text) 0 start (lines_of text) ≡ lines_read form (length text) at cells (lines_of (drop at text))
      → (k : Reason) × (r ≡ Err k) × (reply ≡ Err record { reason = k; place = at }) → ReadsLines form text start reply cells'
  turn-refused start reply s (k, e, f) =
      rw f (lines-refused form text start cells' (record { reason = k; place = at }) (s ∙ turn ∙ rw e))

  -- Nothing may stand after the end record's line.
  pub turn-after : r ≡ Ok Ends → f + 1 < length text
      → lines_read form (length text) at cells (lines_of (drop at text)) ≡ bad 18 (f + 1)
  turn-after e n = turn ∙ rw (e, lines_cons (drop (f + 1) text) (simp length-drop (omega arith)))

  pub turn-ends : r ≡ Ok Ends → length text ≤ f + 1
      → lines_read form (length text) at cells (lines_of (drop at text)) ≡ taken (settled_of cells')
  turn-ends e n = turn ∙ rw (h.kept, e, lines_none (drop (f + 1) text) (simp length-drop (omega arith)))
