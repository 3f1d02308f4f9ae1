-- The program's command line, in `clap`'s terms, and what its reading of the arguments gives.
use Rattle.std.specs.Prelude.{◌≡◌, ◌≢◌, ⊤, List, [], ◌∷◌, Option, Some, true, codes, fold, option_and_then, option_map}
use Rattle.std.specs.Prelude.{string_bytes}
use Rattle.clap.specs.Simple.{on_top, new_shape}
use Rattle.clap.specs.Words.{App, IsAmong, Kinds, Row, Rule, Shape, Text, fault_of, first_of, new_app, new_rule}
use Rattle.clap.specs.Words.{subcommand_of, with_subcommand}
use Rattle.clap.specs.declared.error.kind.ErrorKind.{ErrorKind}
use Rattle.clap.specs.declared.error.kind.ErrorKind.TheVariants.{DisplayHelp}
use Rattle.mp_cli.specs.declared.command.Command.{Command}
use Rattle.mp_cli.specs.declared.command.Command.TheVariants.{Get, Patch, Merge, Join, Replay, Rewrite}
use Rattle.mp_cli.specs.declared.command.CommandFault.{CommandFault}
use Rattle.mp_cli.specs.declared.command.CommandFault.TheVariants.{Help, Usage, OutOfMemory}

-- the word of `get`, which is required
abbrev pub pointer_rule : Rule
pointer_rule = record (new_rule (codes "POINTER")) { required = true }

abbrev pub get_shape : Shape
get_shape = record (new_shape (codes "get")) { rules = pointer_rule ∷ [] }

-- the subcommands, in the order of the help
abbrev pub subcommands : List Shape
subcommands = get_shape ∷ new_shape (codes "patch") ∷ new_shape (codes "merge") ∷ new_shape (codes "join")
    ∷ new_shape (codes "replay") ∷ new_shape (codes "rewrite") ∷ []

-- `mergejoin`, which requires a subcommand, and has none of the name `help`
unfoldable pub command_line : App
command_line = fold with_subcommand
    (on_top (λ top. record top { subcommand_required = true; disable_help_subcommand = true })
    (new_app (codes "mergejoin"))) subcommands

-- the word that asks for a command
abbrev pub word_of : Command → Text
word_of (Get pointer) = codes "get"
word_of Patch = codes "patch"
word_of Merge = codes "merge"
word_of Join = codes "join"
word_of Replay = codes "replay"
word_of Rewrite = codes "rewrite"

-- the subcommand that the arguments name, the program's name first, if they name one
abbrev pub asked_for : List Text → Option Text
asked_for words = option_map (λ entered. entered.0) (subcommand_of command_line words)

-- the argument for POINTER by the matches of a subcommand
abbrev pub pointer_in : Option (Text × List Row) → Option Text
pointer_in entered = option_and_then (λ e. first_of (codes "POINTER") e.1) entered

-- the argument for POINTER by the matches of the subcommand that the arguments name
abbrev pub pointer_given : List Text → Option Text
pointer_given words = pointer_in (subcommand_of command_line words)

-- `get` has the word that was given for POINTER
abbrev pub CarriesPointer : Command → Option Text → Type 0
CarriesPointer (Get pointer) given = given ≡ Some (string_bytes pointer)
CarriesPointer Patch given = ⊤
CarriesPointer Merge given = ⊤
CarriesPointer Join given = ⊤
CarriesPointer Replay given = ⊤
CarriesPointer Rewrite given = ⊤

-- the kinds of error that the line finds in the arguments: none if it takes them
abbrev pub faults_of : List Text → Kinds
faults_of words = fault_of command_line words

-- an error among these is no request for help
abbrev pub HasMistake : Kinds → Type 0
HasMistake faults = (kind : ErrorKind) × (kind ≢ DisplayHelp) × IsAmong kind faults

-- help was asked for
abbrev pub IsHelp : CommandFault → Type 0
IsHelp (Help text) = ⊤
IsHelp (Usage text) = ⊥
IsHelp OutOfMemory = ⊥

-- the arguments are wrong
abbrev pub IsUsage : CommandFault → Type 0
IsUsage (Help text) = ⊥
IsUsage (Usage text) = ⊤
IsUsage OutOfMemory = ⊥
