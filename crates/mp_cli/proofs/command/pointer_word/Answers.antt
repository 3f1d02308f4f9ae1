use Rattle.std.proofs.Common.{◌≡◌, ◌∙◌, ap, sym, false, true, is_some, Some}
use Rattle.std.proofs.lemmas.Result.{IfOk-weaker}
use Rattle.clap.proofs.CallerLemmas.{some_of_text}
use Rattle.mp_cli.proofs.CommandLine.{first_value-some, pointer_in-first_value}
use Rattle.mp_cli.proofs.command.pointer_word.Goals as goal

pub unreachable-requires-in_default-get_str : goal.unreachable-requires-in_default-get_str
unreachable-requires-in_default-get_str c =
    let has = first_value-some c.args.matches.now c.in-Some.found.now c.requires.get c.requires.pointer c.in-Some.ensures.rows in
    let some : is_some c.get_str.result ≡ true = some_of_text _ c.get_str.result _ c.get_str.ensures has in
    let none : false ≡ true = rw c.in_default-get_str.is at some in
    cc

pub returns : goal.returns
returns c =
    let word = c.in-Some-get_str.ensures ∙ pointer_in-first_value c.args.matches.now c.in-Some.found.now c.in-Some.ensures.rows in
    IfOk-weaker c.from_str.result _ _ (λ text copied. sym word ∙ ap Some (sym copied)) c.from_str.ensures.ok
