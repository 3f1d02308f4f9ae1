use Rattle.std.proofs.Common.{◌≤◌, inl, inr, max, Some, Bool, true, false, true≢false, IsFalse}
use Rattle.std.proofs.lemmas.Result.{IfOk-weaker, on_err_weaker}
use Rattle.mp_tree.specs.Document.{Document, IsDocument, depth}
use Rattle.mp_tree.specs.View.{document}
use Rattle.mp_tree.proofs.Facts.{IsDocument-document}
use Rattle.mp_merge.specs.Clash.{Compatible}
use Rattle.mp_merge.specs.Join.{JoinsInto}
use Rattle.mp_merge.specs.Private.Unions.{UnitesTo}
use Rattle.mp_merge.proofs.Joins.Reunited.{join_resumes}
use Rattle.mp_merge.proofs.Joins.Union.{depth_of_united, join_of_united}
use Rattle.mp_merge.proofs.joining.join_into.Goals as goal

joins : (united : Bool) (p before now : Document) → IsDocument p → IsDocument before → Compatible p before → UnitesTo united p (Some before) now → JoinsInto united before p now
joins true p before now good other free is = join_of_united p before now good other is
joins false p before now good other free is = absurd (is free)

no_deeper : (united : Bool) (p before now : Document) → Compatible p before → UnitesTo united p (Some before) now → depth now ≤ max (depth before) (depth p)
no_deeper true p before now free is = depth_of_united p before now is
no_deeper false p before now free is = absurd (is free)

never : {X : Type 0} (united : Bool) (p before now : Document) → Compatible p before → UnitesTo united p (Some before) now → IsFalse united → X
never true p before now free is off = absurd (true≢false off)
never false p before now free is off = absurd (is free)

pub returns : goal.returns
returns c =
    let p = document c.args.patch.now in
    let before = document c.args.joined.now in
    let now = document c.unite.new.joined in
    let good = IsDocument-document c.args.patch.now in
    let other = IsDocument-document c.args.joined.now in
    let free = c.compatible.ensures.0 c.if-not-compatible.false in
    record {
      joined = IfOk-weaker c.unite.result _ _ (λ united is. joins united p before now good other free is) c.unite.ensures.united;
      unchanged = IfOk-weaker c.unite.result _ _ (λ united is. never united p before now free is) c.unite.ensures.united;
      depth = IfOk-weaker c.unite.result _ _ (λ united is. no_deeper united p before now free is) c.unite.ensures.united;
      resumes = on_err_weaker c.unite.result (λ again. join_resumes p before now good other (IsDocument-document c.unite.new.joined) free again) c.unite.ensures.resumes;
      no_memory = λ takes_none. elim takes_none [ inl clash ↦ absurd (clash free) | inr adds ↦ c.unite.ensures.no_memory adds ];
    }
