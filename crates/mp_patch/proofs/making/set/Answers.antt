use Rattle.std.proofs.Common.{◌≡◌, string_bytes, ap, ◌∙◌}
use Rattle.mp_tree.specs.Document.{put}
use Rattle.mp_tree.specs.View.{document}
use Rattle.mp_tree.specs.Private.Entries.{members}
use Rattle.mp_tree.proofs.Facts.{members-inserted}
use Rattle.mp_patch.proofs.making.set.Goals as goal

pub returns : goal.returns
returns c =
    let old = c.args.entries.now in
    let name = string_bytes c.in_ok-from_str.field-0 in
    let same : name ≡ c.args.name.now = c.in_ok-from_str.ensures.ok in
    members-inserted name old c.insert.new.self c.args.value c.in_ok-insert.ensures.updates ∙ ap (λ k. put k (document c.args.value) (members old.entries)) same
