use Rattle.std.proofs.Common.{map}
use Rattle.mp_tree.specs.Values.{value_document}
use Rattle.mp_texts.specs.Private.Unread.{IsPatchesFault}
use Rattle.mp_texts.specs.Texts.{AreRead, given}
use Rattle.mp_pointer.proofs.Facts.{handed_on}
use Rattle.mp_texts.proofs.Unread.{given_at, next_read, unread_at}
use Rattle.mp_texts.proofs.reading.read_patch_values.Goals as goal

pub loop-number-preserved : goal.loop-number-preserved
loop-number-preserved c =
    next_read value_document c.args.patches.now c.loop-number.number _ c.loop-number-test.true c.loop-number.values.items c.push.new.self.items c.in_ok-read_patch_value.field-0 c.loop-number.invariant c.in_ok-push.ensures.items c.in_ok-read_patch_value.ensures

pub returns-in_err-read_patch_value : goal.returns-in_err-read_patch_value
returns-in_err-read_patch_value c =
    let texts = given c.args.patches.now in
    let k = c.loop-number.number in
    let exit = c.from_residual-in_err-read_patch_value in
    handed_on (λ values. AreRead texts (map value_document values.items)) (λ fault. IsPatchesFault fault texts) exit.result exit.ensures.1
    (unread_at texts k (map value_document c.loop-number.values.items) c.loop-number.invariant _ (given_at c.args.patches.now k _ c.loop-number-test.true) c.in_err-read_patch_value.field-0.0 c.in_err-read_patch_value.ensures)
