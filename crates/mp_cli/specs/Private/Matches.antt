-- What is known of the matches of a line that took its arguments. Only private clauses cite it.
use Rattle.std.specs.Prelude.{◌≡◌, ◌⊎◌, List, [], ◌∷◌, Option, None, Some, IfSome, true, codes, is_some, map}
use Rattle.clap.specs.Words.{Row, Text, first_of}
use Rattle.mp_cli.specs.CommandLine.{subcommands}

-- a name is one of these
abbrev pub IsOneOf : List Text → Text → Type 0
IsOneOf [] name = ⊥
IsOneOf (x ∷ xs) name = (name ≡ x) ⊎ IsOneOf xs name

-- a subcommand of the line was met
abbrev pub IsSubcommand : Option Text → Type 0
IsSubcommand None = ⊥
IsSubcommand (Some name) = IsOneOf (map (λ s. s.name) subcommands) name

-- if the subcommand is `get`, its argument was given
abbrev pub HasPointer : Option (Text × List Row) → Type 0
HasPointer entered =
    IfSome entered (λ e. e.0 ≡ codes "get" → is_some (first_of (codes "POINTER") e.1) ≡ true)
