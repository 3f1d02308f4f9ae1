-- The command line takes the arguments of each command.
use Rattle.std.proofs.Common.{[], ◌∷◌, refl}
use Rattle.clap.proofs.OnLiterals.{clap_on_literals}
use Rattle.clap.specs.Words.{Text}
use Rattle.mp_pointer.specs.Spelling.{Tokens, spell}
use Rattle.mp_cli.specs.CommandLine.{command_line}
use Rattle.mp_cli.specs.Laws.{TakesPointer, TakesEachCommand}

-- an argument that begins with a slash is no option, whatever follows
takes_slash : (rest : Text) → TakesPointer (47 ∷ rest)
unfolding command_line clap_on_literals
takes_slash rest = ((refl, refl), refl)

takes_empty : TakesPointer []
unfolding command_line clap_on_literals
takes_empty = ((refl, refl), refl)

takes_spellings : (t : Tokens) → TakesPointer (spell t)
takes_spellings [] = takes_empty
takes_spellings (n ∷ t) = takes_slash _

pub takes_each_command : TakesEachCommand
unfolding command_line clap_on_literals
takes_each_command = (takes_spellings, (refl, refl), (refl, refl), (refl, refl), (refl, refl), (refl, refl))
