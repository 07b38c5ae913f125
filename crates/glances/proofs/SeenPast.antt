-- Laws of a token seen past a blank, for callers. Assumes nothing.
use Rattle.std.proofs.Common.{◌≡◌, ℕ, ◌+◌, ◌<◌, List, get_or, arith}
use Rattle.sections.specs.Sections.{Says, times, puts}
use Rattle.tokens.specs.declared.Past.{Past}
use Rattle.std.specs.Prelude.{Some}
use Rattle.glances.specs.declared.Seen.{Seen}
use Rattle.glances.specs.Parts.{Sees, SeesMarks, SeesTime, Skims}
use Rattle.glances.proofs.GlanceLaws.{sees-past}

module _ (dump : List ℕ) (at line : ℕ) (p : Past) (k : Skims dump at line p) where
  pub seen_value : (r : ℕ) → SeesMarks dump p.at r → (r ≡ 0 → ⊥) → Sees dump at line (p.at + 2) p.line (puts (get_or dump p.at 0) r)
  seen_value r m h = sees-past dump at line p _ _ _ k (m.seen (omega (arith, h)) p.line k.small)

  pub seen-time : (r : Seen) → SeesTime dump p.at (Some r) → Sees dump at line (p.at + r.length) p.line (times r.time)
  seen-time r m = sees-past dump at line p _ _ _ k (m p.line k.small)

-- It ends further on.
pub seen-further : (dump : List ℕ) (at line to on : ℕ) {s : Says} → Sees dump at line to on s → at < to
seen-further dump at line to on s =
    let w = s.word in
    let a = w.after in
    let b = w.some in
    omega arith
