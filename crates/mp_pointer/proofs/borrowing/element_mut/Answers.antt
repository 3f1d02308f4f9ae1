use Rattle.std.proofs.Common.{◌<◌, ◌^◌, length, refl, sym, ◌∙◌, subst, arith}
use Rattle.std.specs.Option.{OnSome, IsSome}
use Rattle.std.specs.Vec.{with_item}
use Rattle.mp_tree.specs.View.{document}
use Rattle.mp_tree.specs.declared.doc.Doc.TheVariants.{Items}
use Rattle.mp_pointer.specs.Borrowing.{PartBecomes}
use Rattle.mp_pointer.proofs.Parts.Borrowed.{one_token-is, part-at, element_borrowed, element_there, no_index_here}
use Rattle.mp_pointer.proofs.borrowing.element_mut.Goals as goal

pub returns-in_err-index : goal.returns-in_err-index
returns-in_err-index c =
    let docs = c.args.elements.now in
    let token = c.in_ok-token.token.now in
    let short : length docs.items < 2 ^ 64 = omega (arith, docs.small, docs.ok.0) in
    rw c.from_residual-in_err-index.ensures
    ((refl, (λ w. tt), refl), record { writes_back = tt; value = sym (part-at (document (Items docs)) c.args.pointer.now c.args.number token (sym c.in_ok-token.ensures) ∙ no_index_here token docs short c.in_err-index.ensures) })

pub returns : goal.returns
returns c =
    let t = c.args.pointer.now in
    let docs = c.args.elements.now in
    let token = c.in_ok-token.token.now in
    let i = c.in_ok-index.index in
    let is = one_token-is t c.args.number token (sym c.in_ok-token.ensures) in
    let within : IsSome c.get_mut.result → i < length docs.items = λ some. omega (arith, c.get_mut.ensures.variant.0 some, docs.ok.0) in
    let some : i < length docs.items → IsSome c.get_mut.result = λ less. c.get_mut.ensures.variant.1 (omega (arith, less, docs.ok.0)) in (
      (
        refl,
        (λ w. subst (λ s. OnSome c.get_mut.result (PartBecomes s (document w) (document (Items docs)) (document (Items (with_item docs i w))))) (sym is)
            (element_borrowed c.get_mut.result token i docs c.in_ok-index.ensures within c.get_mut.ensures.value w)),
        refl,
      ),
      record {
        writes_back = tt;
        value = element_there c.get_mut.result token i docs c.in_ok-index.ensures within some c.get_mut.ensures.value ∙ sym (part-at (document (Items docs)) t c.args.number token (sym c.in_ok-token.ensures));
      },
    )
