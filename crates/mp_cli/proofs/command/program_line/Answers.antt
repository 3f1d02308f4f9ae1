use Rattle.std.proofs.Common.{◌∙◌, ap, ap₂, codes}
use Rattle.std.proofs.lemmas.Result.{IfOk-weaker}
use Rattle.clap.specs.Simple.{new_shape}
use Rattle.clap.specs.Words.{with_subcommand}
use Rattle.mp_cli.proofs.CommandLine.{app_of-settings}
use Rattle.mp_cli.specs.CommandLine.{command_line}
use Rattle.mp_cli.proofs.command.program_line.Goals as goal

pub returns-clause-line : goal.returns-clause-line
unfolding command_line
returns-clause-line c =
    let top = app_of-settings c.new.result c.about.result c.after_help.result c.subcommand_required.result c.disable_help_subcommand.result _ _ c.new.ensures.app c.about.ensures c.after_help.ensures
    c.subcommand_required.ensures c.disable_help_subcommand.ensures in
    let get = c.in_ok-line.ensures.shape c.in_ok-get_line.ensures.no_globals ∙ ap₂ with_subcommand top c.in_ok-get_line.ensures.shape in
    let patch = c.in_ok-line-2.ensures.line ∙ ap (λ app. with_subcommand app (new_shape (codes "patch"))) get in
    let merge = c.in_ok-line-3.ensures.line ∙ ap (λ app. with_subcommand app (new_shape (codes "merge"))) patch in
    let join = c.in_ok-line-4.ensures.line ∙ ap (λ app. with_subcommand app (new_shape (codes "join"))) merge in
    let replay = c.in_ok-line-5.ensures.line ∙ ap (λ app. with_subcommand app (new_shape (codes "replay"))) join in
    IfOk-weaker c.with_plain-5.result _ _ (λ line is. is ∙ ap (λ app. with_subcommand app (new_shape (codes "rewrite"))) replay) c.with_plain-5.ensures.line
