use Rattle.std.proofs.Common.{sym, ◌∙◌, subst}
use Rattle.std.proofs.lemmas.Iterator.{YieldsList-from_slice}
use Rattle.mp_tree.specs.View.{document}
use Rattle.mp_tree.proofs.Facts.{IsDocument-document}
use Rattle.mp_patch.specs.View.{operation_of, operations_of}
use Rattle.mp_patch.specs.Within.{IsApplyWithinFault}
use Rattle.mp_patch.specs.Work.{no_limit}
use Rattle.mp_patch.proofs.Runs.Growth.{AlwaysYields-map}
use Rattle.mp_patch.proofs.Runs.Within.{fault_unlimited, limits_change_nothing}
use Rattle.mp_patch.proofs.applying.apply_owned.Goals as goal

pub run-requires-clause-documents : goal.run-requires-clause-documents
run-requires-clause-documents c = IsDocument-document

pub without_limit-requires : goal.without_limit-requires
without_limit-requires c =
    let operations = operations_of c.args.patch.now in
    let gives = AlwaysYields-map operation_of (YieldsList-from_slice {s = c.iter.result} c.args.patch.now (c.iter.ensures.rest ∙ c.ops.ensures)) in
    fault_unlimited (document c.args.doc) operations c.in-Err.fault (c.in-Err.ensures.runs operations gives)

pub returns-in-Ok-clause-runs : goal.returns-in-Ok-clause-runs
returns-in-Ok-clause-runs c =
    let operations = operations_of c.args.patch.now in
    let gives = AlwaysYields-map operation_of (YieldsList-from_slice {s = c.iter.result} c.args.patch.now (c.iter.ensures.rest ∙ c.ops.ensures)) in
    (limits_change_nothing no_limit (document c.args.doc) operations).is_run (document c.in-Ok.result) (c.in-Ok.ensures.runs operations gives)

pub returns-in-Err-clause-runs : goal.returns-in-Err-clause-runs
returns-in-Err-clause-runs c =
    let d = document c.args.doc in
    let operations = operations_of c.args.patch.now in
    let gives = AlwaysYields-map operation_of (YieldsList-from_slice {s = c.iter.result} c.args.patch.now (c.iter.ensures.rest ∙ c.ops.ensures)) in
    (limits_change_nothing no_limit d operations).is_fault c.without_limit.result
    (subst (λ f. IsApplyWithinFault no_limit f d operations) (sym c.without_limit.ensures) (c.in-Err.ensures.runs operations gives))
