-- `plain::awake::go_on` meets its contract: whatever stood before it stands after each sample.
use mathlib.Core.Bool.{true}
use mathlib.Core.Path.{◌≡◌, refl, sym, ◌∙◌}
use native.Mathlib.Nat.{le_of_lt}
use Rattle.page.specs.Page.{empty_load}
use Rattle.device.specs.Bytes.{kept_of}
use Rattle.clocks.proofs.Counting.{goes-less}
use Rattle.clocks.proofs.Seeing.{never}
use Rattle.clocks.proofs.Standing.{told-long}
use Rattle.clocks.proofs.Clocking.{comes-eighth, comes-ninth, comes-start, comes-stop}
use Rattle.clocks.proofs.Arms.{kept-filled, kept-left, eighth-turn, ninth-turn, start-turn, stop-turn}
use Rattle.plain.proofs.awake.go_on.Goals as goal
use Rattle.plain.proofs.awake.go_on.Goals.{then-fills, else-fills, then-not-empty, else-not-empty}

pub loop-i-init : goal.loop-i-init
loop-i-init c =
    let pre = c.requires in
    (pre.elapsed_len, pre.row_len, record { long = refl; stands = λ s row₀ first k l g. g }, λ e. never e)

pub loop-i-smaller-in-Plain : goal.loop-i-smaller-in-Plain
loop-i-smaller-in-Plain c = goes-less _ _ _ c.loop-i-test.true (c.pass-ran.ensures.moves (sym c.in-Plain.ensures) c.loop-i-test.true)

pub loop-i-preserved-in-Plain : goal.loop-i-preserved-in-Plain
loop-i-preserved-in-Plain c =
    let inv = c.loop-i.invariant in
    (inv.0, inv.1, record { long = c.pass-ran.ensures.long ∙ inv.2.long; stands = λ s row₀ first k l g. c.pass-ran.ensures.stands s _ row₀ first _ _ _ c.sends-sends.ensures (inv.2.stands s row₀ first k l g) }, inv.3)

pub fallen-now-requires : goal.fallen-now-requires
fallen-now-requires c =
    let k = comes-eighth _ _ _ c.in-Eighth.ensures refl in
    le_of_lt k.soon

pub loop-i-preserved-in-Eighth : goal.loop-i-preserved-in-Eighth
loop-i-preserved-in-Eighth c =
    let inv = c.loop-i.invariant in
    let k = comes-eighth _ _ _ c.in-Eighth.ensures refl in
    let h = c.fills.ensures in
    let f : (c.if-fills.load ≡ kept_of c.args.kind c.spoken-d.result c.push-v.result c.loop-i.load) × (c.if-fills.empty ≡ true → c.if-fills.load ≡ empty_load) =
    elim c.if-fills.branch [
      | then-fills w ↦ (w.load-is ∙ kept-filled _ _ _ _ _ h w.if-fills.true, λ e. never (sym w.empty-is ∙ e))
      | else-fills w ↦ (w.load-is ∙ kept-left _ _ _ _ _ h w.if-fills.false, λ e. w.load-is ∙ inv.3 (sym w.empty-is ∙ e))
    ] in
    (inv.0, inv.1, record { long = told-long c.tell-i.ensures ∙ inv.2.long; stands = λ s row₀ first j l g. eighth-turn (inv.2.stands s row₀ first j l g) c.loop-i-test.true c.args.kind c.args.select c.spoken-d.result _ _ _ _ _ _ k c.push-v.ensures j l c.spoken-d.ensures c.byte-device.ensures f.0 c.fallen-now.ensures c.tell-i.ensures }, f.1)

pub fallen-now-requires-in-Ninth : goal.fallen-now-requires-in-Ninth
fallen-now-requires-in-Ninth c =
    let k = comes-ninth _ _ _ c.in-Ninth.ensures refl in
    le_of_lt k.soon

pub loop-i-preserved-in-Ninth : goal.loop-i-preserved-in-Ninth
loop-i-preserved-in-Ninth c =
    let inv = c.loop-i.invariant in
    let k = comes-ninth _ _ _ c.in-Ninth.ensures refl in
    (inv.0, inv.1, record { long = told-long c.tell-i-in-Ninth.ensures ∙ inv.2.long; stands = λ s row₀ first j l g. ninth-turn (inv.2.stands s row₀ first j l g) c.loop-i-test.true c.args.kind c.spoken.result _ _ _ _ k j c.spoken.ensures c.ninth-device.ensures c.fallen-now-in-Ninth.ensures c.tell-i-in-Ninth.ensures }, inv.3)

pub overflow_sub-now : goal.overflow_sub-now
overflow_sub-now c =
    let k = comes-start _ _ _ c.in-Start.ensures refl in
    le_of_lt k.soon

pub loop-i-preserved-in-Start : goal.loop-i-preserved-in-Start
loop-i-preserved-in-Start c =
    let inv = c.loop-i.invariant in
    let k = comes-start _ _ _ c.in-Start.ensures refl in
    let e : c.if-not-empty.load ≡ empty_load =
    elim c.if-not-empty.branch [
      | then-not-empty w ↦ w.load-is ∙ w.empty-load.ensures
      | else-not-empty w ↦ w.load-is ∙ inv.3 w.if-not-empty.false
    ] in
    (inv.0, inv.1, record { long = told-long c.tell-i-in-Start.ensures ∙ inv.2.long; stands = λ s row₀ first j l g. start-turn (inv.2.stands s row₀ first j l g) c.loop-i-test.true _ _ _ _ _ _ _ k refl c.started-times.ensures c.start-device.ensures e c.cut-now.ensures c.tell-i-in-Start.ensures }, λ h. e)

pub overflow_sub-now-in-Stop : goal.overflow_sub-now-in-Stop
overflow_sub-now-in-Stop c =
    let k = comes-stop _ _ _ c.in-Stop.ensures refl in
    le_of_lt k.soon

pub loop-i-preserved : goal.loop-i-preserved
loop-i-preserved c =
    let inv = c.loop-i.invariant in
    let k = comes-stop _ _ _ c.in-Stop.ensures refl in
    (inv.0, inv.1, record { long = told-long c.tell-i-in-Stop.ensures ∙ inv.2.long; stands = λ s row₀ first j l g. stop-turn (inv.2.stands s row₀ first j l g) c.loop-i-test.true _ _ _ _ _ k c.end-device.ensures c.if-device.false (inv.3 c.if-not-empty-2.false) c.cut-now-in-Stop.ensures refl c.tell-i-in-Stop.ensures }, inv.3)
