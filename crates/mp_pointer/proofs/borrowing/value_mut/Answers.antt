use Rattle.std.proofs.Common.{refl, sym, ap, ◌∙◌, subst}
use Rattle.std.specs.Option.{OnSome}
use Rattle.mp_tree.specs.View.{document}
use Rattle.mp_tree.specs.declared.doc.Doc.TheVariants.{Members}
use Rattle.mp_pointer.specs.Borrowing.{PartBecomes}
use Rattle.mp_pointer.proofs.Parts.Borrowed.{one_token-is, part-at, value_borrowed, value_there}
use Rattle.mp_pointer.proofs.borrowing.value_mut.Goals as goal

pub returns : goal.returns
returns c =
    let t = c.args.pointer.now in
    let token = c.in_ok-token.token.now in
    let old = c.args.entries.now in
    let is = one_token-is t c.args.number token (sym c.in_ok-token.ensures) in (
      (
        refl,
        (λ w. subst (λ s. OnSome c.get_mut.result (PartBecomes s (document w) (document (Members old)) (document (Members (c.get_mut.follows.lender w))))) (sym is)
            (value_borrowed c.get_mut.result token old (c.get_mut.follows.lender w) w c.get_mut.ensures.value ((c.get_mut.follows.holds w).3))),
        ap (λ n. document (Members n)) c.get_mut.follows.holds-at-none,
      ),
      record { writes_back = tt; value = value_there c.get_mut.result token old c.get_mut.ensures.value ∙ sym (part-at (document (Members old)) t c.args.number token (sym c.in_ok-token.ensures)) },
    )
