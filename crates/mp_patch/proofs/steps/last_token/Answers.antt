use Rattle.std.proofs.Common.{◌≡◌, ◌+◌, Some, length, rules, sym, ap, ◌∙◌}
use Rattle.std.specs.List.{slice_get}
use Rattle.std.specs.Option.{option_copied}
use Rattle.mp_patch.proofs.steps.last_token.Goals as goal
use Rattle.mp_pointer.proofs.Facts.{to_last}

pub returns : goal.returns
returns c =
    let path = c.args.path.now in
    let last = c.in_ok-last.last in
    let here : slice_get path last ≡ Some c.unwrap.result.now = sym c.token.ensures ∙ ap option_copied c.unwrap.ensures in
    let long : last + 1 ≡ length path = search rules in
    to_last path last c.unwrap.result.now long here
