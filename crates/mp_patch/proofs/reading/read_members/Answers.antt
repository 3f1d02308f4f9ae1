use Rattle.std.proofs.Common.{◌≡◌, Some, inl, inr, ap, sym, ◌∙◌, codes, rules}
use Rattle.std.proofs.lemmas.Result.{err_from_is_err_and}
use Rattle.std.specs.Option.{option_copied}
use Rattle.mp_tree.specs.Document.{object}
use Rattle.mp_tree.specs.View.{members_by}
use Rattle.mp_patch.specs.Form.{text_at}
use Rattle.mp_patch.specs.Private.Names.{name_of}
use Rattle.mp_patch.proofs.Forms.Reading.{origin_fault, path_fault, text_fault}
use Rattle.mp_patch.proofs.reading.read_members.Goals as goal

pub returns-in_err-spelling : goal.returns-in_err-spelling
returns-in_err-spelling g c =
    let ms = members_by g.T.Node.means c.args.entries.entries in
    let named : c.in_ok-word.word.now ≡ name_of c.in_ok-name.name = rw c.in_ok-name.ensures.ok_part at c.op_named.ensures in
    let fault = path_fault c.in_ok-name.name ms (sym c.text_at.ensures ∙ ap option_copied c.in_ok-word.ensures.ok_part ∙ ap Some named) in
    search rules

pub returns-in_err-origin-in-Move : goal.returns-in_err-origin-in-Move
returns-in_err-origin-in-Move g c =
    let ms = members_by g.T.Node.means c.args.entries.entries in
    let name = c.in_ok-word.word.now in
    let path = c.in_ok-spelling.spelling.now in
    let op : text_at (codes "op") (object ms) ≡ Some name = sym c.text_at.ensures ∙ ap option_copied c.in_ok-word.ensures.ok_part in
    let at : text_at (codes "path") (object ms) ≡ Some path = sym c.text_at-2.ensures ∙ ap option_copied c.in_ok-spelling.ensures.ok_part in
    let named : name ≡ name_of c.in_ok-name.name = rw c.in_ok-name.ensures.ok_part at c.op_named.ensures in
    let p = err_from_is_err_and c.from_residual-in_err-origin-in-Move.result c.from_residual-in_err-origin-in-Move.ensures.1 in
    rw (p.1, p.2) (origin_fault c.in_err-origin-in-Move.field-0.0 name path ms op (inl (named ∙ ap name_of c.in-Move.is)) at c.in_err-origin-in-Move.ensures)

pub returns-in_err-origin-in-Copy : goal.returns-in_err-origin-in-Copy
returns-in_err-origin-in-Copy g c =
    let ms = members_by g.T.Node.means c.args.entries.entries in
    let name = c.in_ok-word.word.now in
    let path = c.in_ok-spelling.spelling.now in
    let op : text_at (codes "op") (object ms) ≡ Some name = sym c.text_at.ensures ∙ ap option_copied c.in_ok-word.ensures.ok_part in
    let at : text_at (codes "path") (object ms) ≡ Some path = sym c.text_at-2.ensures ∙ ap option_copied c.in_ok-spelling.ensures.ok_part in
    let named : name ≡ name_of c.in_ok-name.name = rw c.in_ok-name.ensures.ok_part at c.op_named.ensures in
    let p = err_from_is_err_and c.from_residual-in_err-origin-in-Copy.result c.from_residual-in_err-origin-in-Copy.ensures.1 in
    rw (p.1, p.2) (origin_fault c.in_err-origin-in-Copy.field-0.0 name path ms op (inr (named ∙ ap name_of c.in-Copy.is)) at c.in_err-origin-in-Copy.ensures)

pub returns-in_err-pointer_of-in-Test : goal.returns-in_err-pointer_of-in-Test
returns-in_err-pointer_of-in-Test g c =
    let ms = members_by g.T.Node.means c.args.entries.entries in
    let name = c.in_ok-word.word.now in
    let path = c.in_ok-spelling.spelling.now in
    let op : text_at (codes "op") (object ms) ≡ Some name = sym c.text_at.ensures ∙ ap option_copied c.in_ok-word.ensures.ok_part in
    let at : text_at (codes "path") (object ms) ≡ Some path = sym c.text_at-2.ensures ∙ ap option_copied c.in_ok-spelling.ensures.ok_part in
    let named : name ≡ name_of c.in_ok-name.name = rw c.in_ok-name.ensures.ok_part at c.op_named.ensures in
    let p = err_from_is_err_and c.from_residual-in_err-pointer_of-in-Test.result c.from_residual-in_err-pointer_of-in-Test.ensures.1 in
    rw (p.1, p.2) (text_fault c.in_err-pointer_of-in-Test.field-0.0 name path ms op (inr (inr (named ∙ ap name_of c.in-Test.is))) at c.in_err-pointer_of-in-Test.ensures)
