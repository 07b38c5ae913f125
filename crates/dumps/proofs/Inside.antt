-- Laws of a token inside the definitions: it says what its section says, and the reading behind it. Assumes nothing.
use Prim.Native.Nat.{ℕ}
use mathlib.Core.Bool.{Bool, true, false, not, ◌&&◌, true≢false}
use mathlib.Core.List.{List, [], ◌∷◌}
use mathlib.Core.Path.{◌≡◌, refl, sym, subst, ◌∙◌}
use Rattle.sections.specs.declared.Keyword.{Keyword}
use Rattle.sections.specs.declared.Keyword.TheVariants.{Remark, Comment, Timescale, Scope, Upscope, EndDefinitions, Dumpvars, End, Other}
use Rattle.sections.specs.declared.Stage.{Stage}
use Rattle.sections.specs.declared.Stage.TheVariants.{Start, Scaled, Scoped, Closed, Body}
use Rattle.sections.specs.declared.Place.{Place}
use Rattle.sections.specs.declared.Place.TheVariants.{Between, Skipped, ScaleNumber, ScaleUnit, ScopeKind, ScopeName, VarKind, VarWidth, VarCode, VarName, Close, Values, Wrong}
use Rattle.tokens.specs.Tokens.{Token, same_word}
use Rattle.sections.specs.Spelling.{keyword_of, is_end, free, is_scope_kind, one_word, micro_word, one_micro_word, wire_word}
use Rattle.sections.specs.Sections.{Says, moves, codes, names, defines, times, puts, breaks, go_by, say_by, skip_by, number_by, opens, section_says, is_start, is_scaled, is_scoped, is_closed, is_body}
use Rattle.wires.specs.Wires.{Var}
use Rattle.dumps.specs.Reading.{Known, says_of, after_by, is_between}
use Rattle.dumps.specs.Defined.{defined_from, vars_of, body_at}
use Rattle.dumps.specs.Samples.{moments_from, samples_by, samples_from}
use Rattle.dumps.specs.Faults.{Heard, unheard, heard_by, unfinished, fault_by, is_wrong, end_by, end_fault, note, faults_from}
use Rattle.dumps.proofs.Taken.{faults-token, samples-token, defined-token}
use Rattle.dumps.proofs.Silent.{wrong_at}

-- Whether the definitions can stand at a place: not among dumped values, and not behind a malformed token.
abbrev pub inside : Place → Bool
inside Between = true
inside Skipped = true
inside ScaleNumber = true
inside ScaleUnit = true
inside ScopeKind = true
inside ScopeName = true
inside VarKind = true
inside VarWidth = true
inside VarCode = true
inside VarName = true
inside Close = true
inside Values = false
inside Wrong = false

-- A code waits for its name, and only there.
abbrev pub waiting : Place → List ℕ → List ℕ
waiting Between code = []
waiting Skipped code = []
waiting ScaleNumber code = []
waiting ScaleUnit code = []
waiting ScopeKind code = []
waiting ScopeName code = []
waiting VarKind code = []
waiting VarWidth code = []
waiting VarCode code = []
waiting VarName code = code
waiting Close code = []
waiting Values code = []
waiting Wrong code = []

-- A reading inside the definitions: no time line has come.
abbrev pub heading : Stage → Place → List ℕ → List Var → Known
heading stage place code vars = record { spot = record { stage = stage; place = place }; code = waiting place code; vars = vars; begun = false }

-- There a token says what its section says.
pub says-inside : (place : Place) (stage : Stage) (code : List ℕ) (vars : List Var) (w : List ℕ) → inside place ≡ true
    → is_body stage && is_between place ≡ false → says_of (heading stage place code vars) w ≡ section_says place stage w
unfolding says_of
says-inside Between Start code vars w p d = refl
says-inside Between Scaled code vars w p d = refl
says-inside Between Scoped code vars w p d = refl
says-inside Between Closed code vars w p d = refl
says-inside Between Body code vars w p d = absurd (true≢false d)
says-inside Skipped stage code vars w p d = refl
says-inside ScaleNumber stage code vars w p d = refl
says-inside ScaleUnit stage code vars w p d = refl
says-inside ScopeKind stage code vars w p d = refl
says-inside ScopeName stage code vars w p d = refl
says-inside VarKind stage code vars w p d = refl
says-inside VarWidth stage code vars w p d = refl
says-inside VarCode stage code vars w p d = refl
says-inside VarName stage code vars w p d = refl
says-inside Close stage code vars w p d = refl
says-inside Values stage code vars w p d = absurd (true≢false (sym p))
says-inside Wrong stage code vars w p d = absurd (true≢false (sym p))

-- What a token says fits the place where it stands: it leads on inside the definitions, a code waits where a name is said, and none where
-- the definitions end.
abbrev Fitting : Place → List ℕ → Says → Type 0
Fitting place code (moves spot) = (inside spot.place ≡ true) × (waiting spot.place code ≡ waiting place code)
Fitting place code codes = Unit {0}
Fitting place code names = waiting place code ≡ code
Fitting place code defines = waiting place code ≡ []
Fitting place code (times t) = ⊥
Fitting place code (puts c marks) = ⊥
Fitting place code breaks = Unit {0}

-- It does, if the test of a place leads to such a place, or says what fits.
module _ (place : Place) (code : List ℕ) (b : Bool) where
  go-fits : (st : Stage) (pl : Place) → inside pl ≡ true → waiting pl code ≡ waiting place code
      → Fitting place code (go_by b (record { stage = st; place = pl }))
  go-fits st pl p e = go-by b
    where
      go-by : (b : Bool) → Fitting place code (go_by b (record { stage = st; place = pl }))
      go-by true = (p, e)
      go-by false = tt

  say-fits : (s : Says) → Fitting place code s → Fitting place code (say_by b s)
  say-fits s f = say-by b
    where
      say-by : (b : Bool) → Fitting place code (say_by b s)
      say-by true = f
      say-by false = tt

skip-fits : (b : Bool) (stage : Stage) (code : List ℕ) → Fitting Skipped code (skip_by b stage)
skip-fits true stage code = (refl, refl)
skip-fits false stage code = (refl, refl)

number_fits : (a b : Bool) (stage : Stage) (code : List ℕ) → Fitting ScaleNumber code (number_by a b stage)
number_fits true b stage code = (refl, refl)
number_fits false true stage code = (refl, refl)
number_fits false false stage code = tt

opens-fit : (k : Keyword) (stage : Stage) (code : List ℕ) → is_body stage && true ≡ false → Fitting Between code (opens k stage)
opens-fit Remark stage code d = go-fits Between code (not (is_body stage)) stage Skipped refl refl
opens-fit Comment stage code d = (refl, refl)
opens-fit Timescale stage code d = go-fits Between code (is_start stage) Scaled ScaleNumber refl refl
opens-fit Scope stage code d = go-fits Between code (is_scaled stage) Scoped ScopeKind refl refl
opens-fit Keyword.Var stage code d = go-fits Between code (is_scoped stage) Scoped VarKind refl refl
opens-fit Upscope stage code d = go-fits Between code (is_scoped stage) Closed Close refl refl
opens-fit EndDefinitions stage code d = say-fits Between code (is_closed stage) defines refl
opens-fit Dumpvars Start code d = tt
opens-fit Dumpvars Scaled code d = tt
opens-fit Dumpvars Scoped code d = tt
opens-fit Dumpvars Closed code d = tt
opens-fit Dumpvars Body code d = absurd (true≢false d)
opens-fit End stage code d = tt
opens-fit Other stage code d = tt

section-fits : (place : Place) (stage : Stage) (code w : List ℕ) → inside place ≡ true → is_body stage && is_between place ≡ false
    → Fitting place code (section_says place stage w)
unfolding section_says
section-fits Between stage code w p d = opens-fit (keyword_of w) stage code d
section-fits Skipped stage code w p d = skip-fits (is_end w) stage code
section-fits ScaleNumber stage code w p d = number_fits (same_word w one_word) (same_word w one_micro_word) stage code
section-fits ScaleUnit stage code w p d = go-fits ScaleUnit code (same_word w micro_word) stage Close refl refl
section-fits ScopeKind stage code w p d = go-fits ScopeKind code (is_scope_kind w) stage ScopeName refl refl
section-fits ScopeName stage code w p d = go-fits ScopeName code (free w) stage Close refl refl
section-fits VarKind stage code w p d = go-fits VarKind code (same_word w wire_word) stage VarWidth refl refl
section-fits VarWidth stage code w p d = go-fits VarWidth code (same_word w one_word) stage VarCode refl refl
section-fits VarCode stage code w p d = say-fits VarCode code (free w) codes tt
section-fits VarName stage code w p d = say-fits VarName code (free w) names refl
section-fits Close stage code w p d = go-fits Close code (is_end w) stage Between refl refl
section-fits Values stage code w p d = absurd (true≢false (sym p))
section-fits Wrong stage code w p d = absurd (true≢false (sym p))

-- The reading behind a token, by what it says.
abbrev pub behind : Says → Stage → Place → List ℕ → List Var → List ℕ → Known
behind (moves spot) stage place code vars w = heading spot.stage spot.place code vars
behind codes stage place code vars w = heading stage VarName w vars
behind names stage place code vars w = heading stage Close code (record { code = code; name = w } ∷ vars)
behind defines stage place code vars w = heading Body Close code vars
behind (times t) stage place code vars w = heading stage place code vars
behind (puts c marks) stage place code vars w = heading stage place code vars
behind breaks stage place code vars w = wrong_at stage (waiting place code) vars false

after-fits : (s : Says) (stage : Stage) (place : Place) (code : List ℕ) (vars : List Var) (w : List ℕ) → Fitting place code s
    → after_by s (heading stage place code vars) w ≡ behind s stage place code vars w
unfolding after_by
after-fits (moves spot) stage place code vars w f = rw f.1
after-fits codes stage place code vars w f = refl
after-fits names stage place code vars w f = rw f
after-fits defines stage place code vars w f = rw f
after-fits (times t) stage place code vars w f = absurd f
after-fits (puts c marks) stage place code vars w f = absurd f
after-fits breaks stage place code vars w f = refl

-- A token inside the definitions, by what its section says.
module _ (stage : Stage) (place : Place) (code : List ℕ) (vars : List Var) (w : List ℕ) (p : inside place ≡ true)
    (d : is_body stage && is_between place ≡ false) {s : Says} (e : section_says place stage w ≡ s) where
  fits_said : Fitting place code s
  fits_said = subst (Fitting place code) e (section-fits place stage code w p d)

  pub says-said : says_of (heading stage place code vars) w ≡ s
  says-said = says-inside place stage code vars w p d ∙ e

  pub after-said : after_by s (heading stage place code vars) w ≡ behind s stage place code vars w
  after-said = after-fits s stage place code vars w fits_said

  pub faults-said : (line : ℕ) (ts : List Token) (last : ℕ)
      → faults_from (heading stage place code vars) unheard (record { line = line; word = w } ∷ ts) last
      ≡ note line (fault_by s (heading stage place code vars) unheard w)
      (faults_from (behind s stage place code vars w) (heard_by s unheard) ts last)
  faults-said line ts last =
      rw (← after-said) (faults-token (heading stage place code vars) unheard (record { line = line; word = w }) ts last says-said)

  pub samples-said : (ws : List (List ℕ))
      → samples_from (heading stage place code vars) (w ∷ ws)
      ≡ samples_by s (moments_from (behind s stage place code vars w) ws) (samples_from (behind s stage place code vars w) ws)
  samples-said ws = rw (← after-said) (samples-token (heading stage place code vars) w ws says-said)

  pub defined-said : (ws : List (List ℕ))
      → defined_from (heading stage place code vars) (w ∷ ws) ≡ defined_from (behind s stage place code vars w) ws
  defined-said ws = rw (← after-said) (defined-token (heading stage place code vars) w ws says-said d)

-- Where it leads on, it stays inside.
pub leads-inside : (stage : Stage) (place : Place) (w : List ℕ) → inside place ≡ true → is_body stage && is_between place ≡ false
    → {st : Stage} {pl : Place} → section_says place stage w ≡ moves (record { stage = st; place = pl }) → inside pl ≡ true
leads-inside stage place w p d e = (fits_said stage place [] [] w p d e).0

-- A dump that ends inside the definitions is malformed there.
ends_by : (place : Place) (b : Bool) → inside place ≡ true → end_by (is_wrong place) false b ≡ 20
ends_by Between b p = refl
ends_by Skipped b p = refl
ends_by ScaleNumber b p = refl
ends_by ScaleUnit b p = refl
ends_by ScopeKind b p = refl
ends_by ScopeName b p = refl
ends_by VarKind b p = refl
ends_by VarWidth b p = refl
ends_by VarCode b p = refl
ends_by VarName b p = refl
ends_by Close b p = refl
ends_by Values b p = absurd (true≢false (sym p))
ends_by Wrong b p = absurd (true≢false (sym p))

pub ends-inside : (stage : Stage) (place : Place) (code : List ℕ) (vars : List Var) (h : Heard) → inside place ≡ true
    → is_body stage && is_between place ≡ false → end_fault (heading stage place code vars) h ≡ 20
unfolding end_fault
ends-inside stage place code vars h p d = rw d (ends_by place (unfinished h.lines h.given) p)

-- Where the definitions are over, the reading is the one from which the rest is read.
over_by : (stage : Stage) (place : Place) (code : List ℕ) (vars : List Var) → is_body stage && is_between place ≡ true
    → heading stage place code vars ≡ heading Body Between code vars
over_by Start place code vars d = absurd (true≢false (sym d))
over_by Scaled place code vars d = absurd (true≢false (sym d))
over_by Scoped place code vars d = absurd (true≢false (sym d))
over_by Closed place code vars d = absurd (true≢false (sym d))
over_by Body Between code vars d = refl
over_by Body Skipped code vars d = absurd (true≢false (sym d))
over_by Body ScaleNumber code vars d = absurd (true≢false (sym d))
over_by Body ScaleUnit code vars d = absurd (true≢false (sym d))
over_by Body ScopeKind code vars d = absurd (true≢false (sym d))
over_by Body ScopeName code vars d = absurd (true≢false (sym d))
over_by Body VarKind code vars d = absurd (true≢false (sym d))
over_by Body VarWidth code vars d = absurd (true≢false (sym d))
over_by Body VarCode code vars d = absurd (true≢false (sym d))
over_by Body VarName code vars d = absurd (true≢false (sym d))
over_by Body Close code vars d = absurd (true≢false (sym d))
over_by Body Values code vars d = absurd (true≢false (sym d))
over_by Body Wrong code vars d = absurd (true≢false (sym d))

pub over-body : (dump : List ℕ) (stage : Stage) (place : Place) (code : List ℕ) (vars : List Var) → is_body stage && is_between place ≡ true
    → vars_of dump ≡ vars → heading stage place code vars ≡ body_at dump Between false
over-body dump stage place code vars d e = over_by stage place code vars d ∙ rw e
