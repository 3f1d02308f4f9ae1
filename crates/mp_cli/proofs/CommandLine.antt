-- What `clap`'s reading of the program's command line gives.
use Rattle.std.proofs.Common.{◌≡◌, ◌≢◌, ◌∙◌, ℕ, sym, ap, subst, refl, Bool, true, false, Option, None, Some, List, [], ◌∷◌, is_some, codes, option_map, inl, inr}
use Rattle.std.specs.Prelude.{find, map}
use Rattle.clap.proofs.CallerLemmas.{subcommand_required}
use Rattle.clap.proofs.OnLiterals.{clap_on_literals}
use Rattle.clap.proofs.WalkLemmas.{both, first_value-rows}
use Rattle.mp_cli.proofs.GetWord.{get-word}
use Rattle.std.specs.Borrow.{Bor}
use Rattle.std.specs.Prelude.{Box}
use Rattle.std.specs.Box.{box_value}
use Rattle.clap.specs.Simple.{Shape, app_of_fields, on_top, entered, rows_at, subcommand_rows, subcommand_rows_of}
use Rattle.clap.specs.declared.parser.matches.SubCommand.{SubCommand}
use Rattle.clap.specs.declared.error.Error.{Error}
use Rattle.clap.specs.declared.error.kind.ErrorKind.TheVariants.{DisplayHelp, OutOfMemory}
use Rattle.clap.specs.Words.{App, Row, Text, fault_of, first_of, first_value, found_of, rows_of, HasKind, HasMatchesOf, IsAmong, IsParsedFrom, Kinds, kind_of, app_of, built, is_simple, is_simple_and_free, new_app, subcommand_name_of, subcommand_of}
use Rattle.clap.specs.declared.builder.command.Command.{Command}
use Rattle.clap.specs.declared.builder.command.Command.TheViews.{out-Command}
use Rattle.clap.specs.declared.parser.matches.ArgMatches.{ArgMatches}
use Rattle.clap.specs.declared.parser.matches.ArgMatches.TheViews.{out-ArgMatches, out-SubCommand}
use Rattle.mp_cli.specs.CommandLine.{command_line, asked_for, pointer_in, subcommands, HasMistake}
use Rattle.mp_cli.specs.Private.Matches.{HasPointer, IsOneOf, IsSubcommand}

-- the line is of the kind whose matches and errors are functions of the arguments
pub command_line-simple : is_simple_and_free command_line ≡ true
unfolding clap_on_literals command_line
command_line-simple = refl

-- the names of the line's subcommands, once it is built
subcommand_words : map (λ (s : Shape). s.name) (built command_line).subs ≡ map (λ (s : Shape). s.name) subcommands
unfolding clap_on_literals command_line
subcommand_words = refl

-- a name that is found is one of the names
IfFound : List Text → Option Text → Type 0
IfFound names None = Unit {0}
IfFound names (Some name) = IsOneOf names name

IfFound-more : (x : Text) (xs : List Text) (name : Option Text) → IfFound xs name → IfFound (x ∷ xs) name
unfolding IfFound
IfFound-more x xs None h = tt
IfFound-more x xs (Some name) h = inr h

find-name : (test : Shape → Bool) (words : List Text) (shapes : List Shape)
    → IfFound (map (λ (s : Shape). s.name) shapes) (option_map (λ e. e.0) (option_map (λ s. rows_at s words) (find test shapes)))
unfolding IfFound
find-name test words [] = tt
find-name test words (s ∷ rest) = go (test s) refl (find-name test words rest)
  where
    name_found : List Shape → Option Text
    name_found shapes = option_map (λ e. e.0) (option_map (λ s. rows_at s words) (find test shapes))

    go : (b : Bool) → test s ≡ b → IfFound (map (λ (s : Shape). s.name) rest) (name_found rest) → IfFound (s.name ∷ map (λ (s : Shape). s.name) rest) (name_found (s ∷ rest))
    go true is later = rw is (inl refl)
    go false is later = rw is (IfFound-more s.name _ _ later)

entered-name : (a : App) (stop : Option (Text × List Text))
    → IfFound (map (λ (s : Shape). s.name) a.subs) (option_map (λ e. e.0) (entered a stop))
unfolding IfFound
entered-name a None = tt
entered-name a (Some p) = find-name _ p.1 a.subs

known : (name : Option Text) → is_some name ≡ true → IfFound (map (λ (s : Shape). s.name) subcommands) name → IsSubcommand name
unfolding IfFound
known None some found = cc
known (Some name) some found = found

-- a subcommand that the arguments name is one of the line's
asked_for-known : (words : List Text) → is_some (asked_for words) ≡ true → IsSubcommand (asked_for words)
asked_for-known words some = known (asked_for words) some (subst (λ names. IfFound names (asked_for words)) subcommand_words (entered-name (built command_line) _))

module _ {Z : Type 0} where
  first_name : (b : Option (Box SubCommand Z)) → option_map (λ b. (out-SubCommand (box_value b)).name.now) b ≡ option_map (λ e. e.0) (subcommand_rows b)
  first_name None = refl
  first_name (Some b) = refl

  some_name : (b : Option (Box SubCommand Z)) → is_some (option_map (λ b. (out-SubCommand (box_value b)).name.now) b) ≡ is_some b
  some_name None = refl
  some_name (Some b) = refl

-- the name of the subcommand that the parse met is the first part of its rows
name-rows : (m : ArgMatches) → subcommand_name_of m ≡ option_map (λ e. e.0) (subcommand_rows_of m)
name-rows m = first_name (out-ArgMatches m).subcommand

-- the matches that the line gives at the arguments name the subcommand that the arguments ask for
pub matches-asked_for : (line : Command) (m : ArgMatches) (words : List Text) → app_of line ≡ command_line → HasMatchesOf (app_of line) words m
    → subcommand_name_of m ≡ asked_for words
matches-asked_for line m words is matches =
    let simple : is_simple (app_of line) ≡ true = ap is_simple is ∙ (both _ _ command_line-simple).0 in
    name-rows m ∙ ap (option_map (λ e. e.0)) ((matches simple).1 ∙ ap (λ a. subcommand_of a words) is)

-- the parse met a subcommand of the line
pub matches-known : (line : Command) (m : ArgMatches) (words : List Text) → app_of line ≡ command_line → (out-Command line).has_globals ≡ false
    → (out-Command line).subcommand_required ≡ true → IsParsedFrom line m → HasMatchesOf (app_of line) words m → IsSubcommand (subcommand_name_of m)
matches-known line m words is globals required parsed matches =
    let same = matches-asked_for line m words is matches in
    let met : is_some (subcommand_name_of m) ≡ true = some_name (out-ArgMatches m).subcommand ∙ subcommand_required line m parsed globals required in
    subst IsSubcommand (sym same) (asked_for-known words (ap is_some (sym same) ∙ met))

-- and its rows are those that the arguments give
pub matches-rows : (line : Command) (m : ArgMatches) (words : List Text) → app_of line ≡ command_line → HasMatchesOf (app_of line) words m
    → subcommand_rows_of m ≡ subcommand_of command_line words
matches-rows line m words is matches =
    let simple : is_simple (app_of line) ≡ true = ap is_simple is ∙ (both _ _ command_line-simple).0 in
    (matches simple).1 ∙ ap (λ a. subcommand_of a words) is

-- where the line finds no error in the arguments, `get` has its argument
pub matches-pointer : (line : Command) (m : ArgMatches) (words : List Text) → app_of line ≡ command_line → HasMatchesOf (app_of line) words m
    → fault_of (app_of line) words ≡ [] → HasPointer (subcommand_rows_of m)
matches-pointer line m words is matches none =
    subst HasPointer (sym (matches-rows line m words is matches)) (get-word words (ap (λ a. fault_of a words) (sym is) ∙ none))

pointer_in-rows : (entered : Option (Text × List Row)) (rows : List Row) → option_map (λ e. e.1) entered ≡ Some rows → pointer_in entered ≡ first_of (codes "POINTER") rows
pointer_in-rows None rows is = cc
pointer_in-rows (Some e) rows is =
    let same : e.1 ≡ rows = cc in
    ap (first_of (codes "POINTER")) same

-- the argument for POINTER is the first value that the subcommand's matches have for it
pub pointer_in-first_value : (m found : ArgMatches) → option_map (λ e. e.1) (subcommand_rows_of m) ≡ Some (rows_of (found_of found))
    → first_value (found_of found) (codes "POINTER") ≡ pointer_in (subcommand_rows_of m)
pointer_in-first_value m found rows =
    first_value-rows (found_of found) (codes "POINTER") ∙ sym (pointer_in-rows (subcommand_rows_of m) (rows_of (found_of found)) rows)

some_pointer : (entered : Option (Text × List Row)) → option_map (λ e. e.0) entered ≡ Some (codes "get") → HasPointer entered → is_some (pointer_in entered) ≡ true
some_pointer None is has = cc
some_pointer (Some e) is has = has (let same : e.0 ≡ codes "get" = cc in same)

-- the matches of `get` have a value for POINTER
pub first_value-some : (m found : ArgMatches) → subcommand_name_of m ≡ Some (codes "get") → HasPointer (subcommand_rows_of m)
    → option_map (λ e. e.1) (subcommand_rows_of m) ≡ Some (rows_of (found_of found)) → is_some (first_value (found_of found) (codes "POINTER")) ≡ true
first_value-some m found name has rows =
    ap is_some (pointer_in-first_value m found rows) ∙ some_pointer (subcommand_rows_of m) (sym (name-rows m) ∙ name) has

-- help that is answered was asked for
pub HasKind-help : (error : Error) (found faults : Kinds) → kind_of error ≡ DisplayHelp → found ≡ faults → HasKind found error → IsAmong DisplayHelp faults
HasKind-help error found faults help is (inl memory) = cc
HasKind-help error found faults help is (inr among) = subst (IsAmong DisplayHelp) is (subst (λ kind. IsAmong kind found) help among)

-- another error is a mistake in the arguments
pub HasKind-mistake : (error : Error) (found faults : Kinds) → kind_of error ≢ OutOfMemory → kind_of error ≢ DisplayHelp → found ≡ faults → HasKind found error
    → HasMistake faults
HasKind-mistake error found faults memory_left no_help is (inl memory) = absurd (memory_left memory)
HasKind-mistake error found faults memory_left no_help is (inr among) = (kind_of error, no_help, subst (IsAmong (kind_of error)) is among)

-- the settings of the line's own command, one after another
pub app_of-settings : (made named ended required quiet : Command) (about after : Option (Bor (List ℕ))) → app_of made ≡ new_app (codes "mergejoin")
    → out-Command named ≡ record (out-Command made) { about = about }
    → out-Command ended ≡ record (out-Command named) { after_help = after }
    → out-Command required ≡ record (out-Command ended) { subcommand_required = true }
    → out-Command quiet ≡ record (out-Command required) { disable_help_subcommand = true }
    → app_of quiet ≡ on_top (λ top. record top { subcommand_required = true; disable_help_subcommand = true }) (new_app (codes "mergejoin"))
app_of-settings made named ended required quiet about after new said says requires hides =
    let settled : App → App = on_top (λ top. record top { subcommand_required = true; disable_help_subcommand = true }) in
    let named_is : app_of named ≡ app_of made = ap app_of_fields said in
    let ended_is : app_of ended ≡ app_of named = ap app_of_fields says in
    let required_is : app_of required ≡ on_top (λ top. record top { subcommand_required = true }) (app_of ended) = ap app_of_fields requires in
    let quiet_is : app_of quiet ≡ on_top (λ top. record top { disable_help_subcommand = true }) (app_of required) = ap app_of_fields hides in
    quiet_is ∙ ap (on_top (λ top. record top { disable_help_subcommand = true })) required_is ∙ ap settled (ended_is ∙ named_is ∙ new)
