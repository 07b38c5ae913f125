-- The library's digits are those of the definition, and copying them is laying them.
use Rattle.std.proofs.Common.{◌≡◌, ◌∙◌, ap, length, arith}
use Rattle.std.proofs.lemmas.List.Edits.{sets}
use Rattle.texts.specs.Numbers.{decimal_of}
use Rattle.texts.proofs.Decimal.{decimal-decimal_of, put-sets}
use Rattle.texts.proofs.numbers.put_decimal.Goals as goal

pub returns-clause-lays : goal.returns-clause-lays
returns-clause-lays c =
    let e : c.as_bytes-digits.result.now ≡ decimal_of c.args.value = c.as_bytes-digits.ensures.value ∙ c.format.ensures.text ∙ decimal-decimal_of c.args.value (omega arith) in
    let copied = c.copy_from_slice.ensures.after in
    record {
      laid = put-sets c.copy_from_slice.new.self c.args.out.now c.args.at _ (omega (arith, ap length copied)) (omega (arith, ap length copied)) ∙ ap (sets c.args.out.now c.args.at) (copied ∙ e);
      next = omega (arith, ap length e);
    }
