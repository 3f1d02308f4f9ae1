use Rattle.std.proofs.Common.{take, sym, ap, ◌∙◌}
use Rattle.std.specs.Option.{option_map_or}
use Rattle.mp_patch.specs.Work.{shifted_at, shifted_in}
use Rattle.mp_patch.proofs.Operations.Works.{shifted_at-last}
use Rattle.mp_patch.proofs.working.shifted_from.Goals as goal

pub returns-in-Some-part_in : goal.returns-in-Some-part_in
returns-in-Some-part_in g c =
    let d = g.T.Node.means c.args.doc.now in
    let token = c.in-Some.token.now in
    let s = take c.in-Some.last c.args.path.now in
    c.shifted_from_in.ensures ∙ sym (ap (λ p. shifted_at p d) c.in-Some.ensures ∙ shifted_at-last s token d ∙ ap (λ o. option_map_or (λ x. shifted_in token x) o 0) (sym c.in-Some-part_in.ensures))

pub returns-in-None : goal.returns-in-None
returns-in-None g c =
    let d = g.T.Node.means c.args.doc.now in
    let token = c.in-Some.token.now in
    let s = take c.in-Some.last c.args.path.now in
    sym (ap (λ p. shifted_at p d) c.in-Some.ensures ∙ shifted_at-last s token d ∙ ap (λ o. option_map_or (λ x. shifted_in token x) o 0) (sym c.in-None.ensures))
