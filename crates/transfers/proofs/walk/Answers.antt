-- `transfers::walk` meets its contract: what is left to list and to run from here gives what the whole gives, and a sample says at most
-- four entries, so that their count fits.
use mathlib.Core.Logic.{◌⊎◌, inl, inr}
use mathlib.Core.Path.{◌≡◌, sym, ◌∙◌, ap}
use native.Mathlib.Omega.{arith}
use lib.ListN.{length}
use Rattle.std.specs.Iterator.Adapters.{enumerate_source, enumerate_count, zip_first, zip_second}
use Rattle.std.specs.Slice.Iter.{iter_rest}
use Rattle.ground.specs.Verdict.{accepted, meant}
use Rattle.sample.specs.Run.{Part, part_step}
use Rattle.sample.proofs.Runs.{stepped}
use Rattle.transfers.specs.Transfers.{entries_of}
use Rattle.transfers.proofs.Listing.{row-turn, count_turn, list_done}
use Rattle.transfers.proofs.walk.Goals as goal

pub put_sample-count-requires : goal.put_sample-count-requires
put_sample-count-requires c =
    let at = c.loop-place in
    omega (arith, at.invariant.few, at.invariant.far, ap length c.in-Some.ensures.steps.0.1, c.requires, c.well_formed.1.0.1)

pub loop-place-preserved : goal.loop-place-preserved
loop-place-preserved c =
    let at = c.loop-place in
    let s = c.in-Some.ensures.steps in
    let before : Part = record { state = at.now; array = at.array } in
    let after : Part = record { state = c.step-next.result; array = c.step-next.new.array } in
    let time = c.in-Some.time.now in
    let level = c.in-Some.level.now in
    let e : after ≡ part_step time level before = stepped _ _ before _ _ c.step-next.ensures.state c.step-next.ensures.kept in
    let said = c.put_sample-count.ensures in
    record {
      far = omega (arith, at.invariant.far, ap length s.0.1, s.2);
      few = omega (arith, said.next, said.few, at.invariant.few, s.2);
      run = rw e (rw (s.0.0, s.0.1) at at.invariant.run);
      laid = rw (s.2, ← s.1)
          (row-turn time level _ _ at.entries _ c.in-Some.place at.count _ before after e said ∙ (rw (s.0.0, s.0.1, ← s.1) at at.invariant.laid));
      counted = rw (s.2, ← s.1)
          (count_turn time level _ _ at.entries _ c.in-Some.place at.count _ before after e said ∙ (rw (s.0.0, s.0.1, ← s.1) at at.invariant.counted));
    }

pub returns : goal.returns
unfolding meant
returns c =
    let at = c.loop-place in
    let now : Part = record { state = at.now; array = at.array } in
    let it = at.place-iterator in
    let es = iter_rest (zip_first (enumerate_source it)) in
    let ls = iter_rest (zip_second (enumerate_source it)) in
    let none : (length es ≡ 0) ⊎ (length ls ≡ 0) = elim c.in-None.ensures.steps.0 [ inl x ↦ inl x.1.0 | inr x ↦ inr x.1.0 ] in
    let done = list_done es ls (enumerate_count it) now none in
    let e = sym done.1 ∙ at.invariant.run in
    let n : at.count ≡ length (entries_of 0 c.args.elapsed.now c.args.levels.now (record { state = c.args.state; array = c.args.array.now })) =
    omega (arith, at.invariant.counted, ap length done.0)
    in
    record {
      reply = ap accepted n;
      state = ap (λ (p : Part). p.state) e;
      kept = ap (λ (p : Part). p.array) e;
      said = rw done.0 at at.invariant.laid;
    }
