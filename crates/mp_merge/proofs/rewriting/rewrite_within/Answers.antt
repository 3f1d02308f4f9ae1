use Rattle.std.proofs.Common.{◌≡◌, ◌≢◌, ◌+◌, ℕ, length, sym, ap, ap₂, ◌∙◌, subst, arith}
use Rattle.std.proofs.lemmas.Bool.{iff_false}
use Rattle.std.proofs.lemmas.List.{length-map}
use Rattle.mp_patch.specs.View.{operation_of, operations_of}
use Rattle.mp_patch.specs.Work.{no_limit}
use Rattle.mp_merge.specs.Private.Edits.{admitted_of}
use Rattle.mp_merge.specs.Within.{IsTooLargeRewriting}
use Rattle.mp_merge.proofs.Rewritings.Within.{too_large, within_limit}
use Rattle.mp_merge.proofs.rewriting.rewrite_within.Goals as goal

pub returns-then-is_over-clause-within : goal.returns-then-is_over-clause-within
returns-then-is_over-clause-within g c =
    let f = g.T.Node.means in
    let d = f c.args.doc.now in
    let p = f c.args.patch.now in
    let found = c.in_ok-found.found in
    let walk = c.in_ok-found.ensures in
    let guards : length (operations_of found.guards) ≡ length c.ops.result.now = length-map found.guards operation_of ∙ sym (ap length c.ops.ensures) in
    let long : c.len.result ≡ length found.edits.items = omega (arith, c.len.ensures, found.edits.ok.0) in
    let edits : length (operations_of found.edits.items) ≡ c.len.result = length-map found.edits.items operation_of ∙ sym long in
    subst (λ (n : ℕ). (c.args.limit ≢ no_limit) × IsTooLargeRewriting c.args.limit n d p) (ap₂ (λ (m n : ℕ). m + n) guards edits)
    (too_large d p walk.0 (admitted_of found) (c.nodes_are_documents.ensures c.args.patch.now) walk.2 c.args.limit c.within.result c.within.ensures walk.1 (c.is_over.ensures.0 c.if-is_over.true))

pub returns-clause-rewriting : goal.returns-clause-rewriting
returns-clause-rewriting g c =
    let f = g.T.Node.means in
    let walk = c.in_ok-found.ensures in
    let both = within_limit (f c.args.doc.now) (f c.args.patch.now) walk.0 (admitted_of c.in_ok-found.found) (c.nodes_are_documents.ensures c.args.patch.now) walk.2 c.args.limit c.within.result c.within.ensures walk.1
    (operations_of c.in_ok-tests_then_edits.field-0) (iff_false c.is_over.ensures c.if-is_over.false) c.in_ok-tests_then_edits.ensures in
    both.0

pub returns-clause-runs : goal.returns-clause-runs
returns-clause-runs g c =
    let f = g.T.Node.means in
    let good = c.nodes_are_documents.ensures in
    λ shallow. c.rewriting_runs.ensures (f c.args.doc.now) (f c.args.patch.now) (operations_of c.in_ok-tests_then_edits.field-0) (good c.args.doc.now) (good c.args.patch.now) shallow (returns-clause-rewriting g c)

pub returns-clause-within : goal.returns-clause-within
returns-clause-within g c =
    let f = g.T.Node.means in
    let walk = c.in_ok-found.ensures in
    let both = within_limit (f c.args.doc.now) (f c.args.patch.now) walk.0 (admitted_of c.in_ok-found.found) (c.nodes_are_documents.ensures c.args.patch.now) walk.2 c.args.limit c.within.result c.within.ensures walk.1
    (operations_of c.in_ok-tests_then_edits.field-0) (iff_false c.is_over.ensures c.if-is_over.false) c.in_ok-tests_then_edits.ensures in
    both.1
