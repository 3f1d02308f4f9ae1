use Rattle.std.proofs.Common.{◌≡◌, ◌++◌, ◌∙◌, ap, append_assoc, arith, codes, string_bytes}
use Rattle.std.proofs.lemmas.List.{take_all}
use Rattle.mp_texts.specs.Lines.{pointer_text}
use Rattle.mp_texts.proofs.Named.{behind, behind-push}
use Rattle.mp_texts.proofs.lines.push_pointers.Goals as goal

pub loop-place-preserved : goal.loop-place-preserved
loop-place-preserved c =
    let w = c.place-item.result in
    let start = string_bytes c.push_pointer.new.line in
    let comma = c.in_ok-push_str-2.ensures.bytes ∙ ap (λ t. t ++ codes ", ") c.loop-place.invariant in
    c.in_ok-push_pointer-2.ensures ∙ ap (λ t. t ++ pointer_text w) comma ∙ behind-push c.args.others.now c.loop-place.place-index w start c.loop-place-test.true c.place-item.is

pub returns : goal.returns
returns c =
    let others = c.args.others.now in
    let first = pointer_text c.args.first.now in
    let before = string_bytes c.args.line.now ++ codes " at " in
    let all = take_all c.loop-place.place-index others (omega (arith, c.loop-place-test.false)) in
    let begun : string_bytes c.push_pointer.new.line ≡ before ++ first = c.in_ok-push_pointer.ensures ∙ ap (λ t. t ++ first) c.in_ok-push_str.ensures.bytes in
    c.loop-place.invariant ∙ ap (λ ws. string_bytes c.push_pointer.new.line ++ behind ws) all ∙ ap (λ t. t ++ behind others) begun ∙ append_assoc before first (behind others)
