-- If the line has no error to find in the arguments, the subcommand `get` has its argument.
use Rattle.std.proofs.Common.{ℕ, ◌≡◌, ◌∙◌, Bool, true, false, not, ◌||◌, Option, None, Some, List, [], ◌∷◌, is_some, codes, refl, sym, subst}
use Rattle.std.specs.Prelude.{find, IfSome, if◌then◌else◌}
use Rattle.std.specs.Str.{bytes_eq}
use Rattle.clap.proofs.OnLiterals.{clap_on_literals}
use Rattle.clap.specs.Faults.{check_fault, defaults_fault, entered_fault, level_fault, settle_fault, walk_fault}
use Rattle.clap.specs.Kinds.{or_else, check_kinds}
use Rattle.clap.specs.Simple.{Shape, argument_words, filled, filled_from, help_rule, entered, label_of, names_of, rows_at}
use Rattle.clap.specs.Takes.{is_given}
use Rattle.clap.specs.Walk.{Row, Rule, answers_to, arg_by_long, arg_by_short, first_of, finished, has_long, has_short, nothing_held, rows_after, settled, walk, walk_from}
use Rattle.clap.specs.Words.{App, Kinds, Text, built, fault_of, subcommand_of}
use Rattle.mp_cli.proofs.GivenWords.{IsQuiet, IfFlag, full-rows_after, first_of-given}
use Rattle.mp_cli.specs.CommandLine.{command_line, pointer_rule}
use Rattle.mp_cli.specs.Private.Matches.{HasPointer}

or_else-last : (first last : Kinds) → or_else first last ≡ [] → last ≡ []
or_else-last [] last none = none
or_else-last (k ∷ ks) last none = cc

or_else-first : (first last : Kinds) → or_else first last ≡ [] → first ≡ []
or_else-first [] last none = refl
or_else-first (k ∷ ks) last none = cc

-- the last check of a level, where the level has no error
level-check : (s : Shape) (words : List Text) → level_fault s [] nothing_held words false [] ≡ [] → check_fault s (rows_after s.rules [] words) false ≡ []
level-check s words none =
    let end = (walk s.rules [] nothing_held words).held in
    let settle = settle_fault s.rules s.args_override_self end in
    let defaults = defaults_fault (settled s.rules end).rows s.rules in
    let check = check_fault s (finished s.rules end) false in
    or_else-last defaults check (or_else-last settle (or_else defaults check) (or_else-last (walk_fault s [] (walk_from nothing_held) words) (or_else settle (or_else defaults check)) none))

-- each of the shapes passes
abbrev AllPass : (Shape → Type 0) → List Shape → Type 0
AllPass P [] = Unit {0}
AllPass P (s ∷ rest) = P s × AllPass P rest

record LeavesGood (P : Text × List Row → Type 0) (s : Shape) : Type 0 where
  leaves : (words : List Text) → level_fault s [] nothing_held words false [] ≡ [] → P (rows_at s words)

module _ (P : Text × List Row → Type 0) (test : Shape → Bool) (words : List Text) where
  found-good : (shapes : List Shape) → AllPass (LeavesGood P) shapes
      → Rattle.std.specs.Option.option_map_or (λ s. level_fault s [] nothing_held words false []) (find test shapes) [] ≡ []
      → IfSome (Rattle.std.specs.Prelude.option_map (λ s. rows_at s words) (find test shapes)) P
  found-good [] all none = tt
  found-good (s ∷ rest) all none = go (test s) none (found-good rest all.1)
    where
      go : (b : Bool) → Rattle.std.specs.Option.option_map_or (λ s. level_fault s [] nothing_held words false []) (if b then Some s else find test rest) [] ≡ []
          → (Rattle.std.specs.Option.option_map_or (λ s. level_fault s [] nothing_held words false []) (find test rest) [] ≡ []
          → IfSome (Rattle.std.specs.Prelude.option_map (λ s. rows_at s words) (find test rest)) P)
          → IfSome (Rattle.std.specs.Prelude.option_map (λ s. rows_at s words) (if b then Some s else find test rest)) P
      go true none later = all.0.leaves words none
      go false none later = later none

entered-good : (P : Text × List Row → Type 0) (a : App) → AllPass (LeavesGood P) a.subs → (stop : Option (Text × List Text)) → entered_fault a stop ≡ []
    → IfSome (entered a stop) P
entered-good P a all None none = tt
entered-good P a all (Some p) none = found-good P (λ s. answers_to p.0 (label_of s)) p.1 a.subs all none

-- where the line finds no error in the arguments, what holds of each subcommand's matches holds of those that the arguments give
subcommand-good : (P : Text × List Row → Type 0) (a : App) (words : List Text) → AllPass (LeavesGood P) (built a).subs → fault_of a words ≡ []
    → IfSome (subcommand_of a words) P
subcommand-good P a words all none =
    let top = (built a).top in
    let names = names_of (built a) in
    let rest = argument_words a words in
    let end = walk top.rules names nothing_held rest in
    let below = entered_fault (built a) end.stopped in
    let after = or_else-last (walk_fault top names (walk_from nothing_held) rest) _ none in
    entered-good P (built a) all end.stopped (or_else-first below _ after)

-- `get` has its argument
abbrev CarriesWord : Text × List Row → Type 0
CarriesWord e = e.0 ≡ codes "get" → is_some (first_of (codes "POINTER") e.1) ≡ true

-- the argument POINTER and the help flag, as a parse reads them
abbrev get_rules : List Rule
get_rules = filled_from 1 (pointer_rule ∷ help_rule ∷ [])

abbrev help_flag : Rule
help_flag = filled help_rule

help-quiet : IsQuiet help_flag
help-quiet = record { takes = refl; leaves = λ rows. refl }

if_flag : (b : Bool) → IfFlag (if b then Some help_flag else None)
if_flag true = help-quiet
if_flag false = tt

long_flags : (name : Text) → IfFlag (arg_by_long get_rules name)
long_flags name = if_flag (has_long help_flag name)

short_flags : (x : ℕ) → IfFlag (arg_by_short get_rules x)
short_flags x = if_flag (has_short help_flag x)

-- the word that is required was given
pointer-given : (rows : List Row) → check_kinds false false (not (is_given (codes "POINTER") rows) || false) ≡ [] → is_given (codes "POINTER") rows ≡ true
pointer-given rows none = go (is_given (codes "POINTER") rows) refl none
  where
    go : (b : Bool) → is_given (codes "POINTER") rows ≡ b → check_kinds false false (not b || false) ≡ [] → is_given (codes "POINTER") rows ≡ true
    go true is none = is
    go false is none = cc

get-good : (s : Shape) → s.rules ≡ get_rules
    → ((rows : List Row) → check_fault s rows false ≡ check_kinds false false (not (is_given (codes "POINTER") rows) || false)) → LeavesGood CarriesWord s
get-good s rules check = record {
  leaves = λ words none _.
      let rows = rows_after get_rules [] words in
      let passed : check_fault s rows false ≡ [] = subst (λ (c : List Rule). check_fault s (rows_after c [] words) false ≡ []) rules (level-check s words none) in
      let given = pointer-given rows (sym (check rows) ∙ passed) in
      subst (λ (c : List Rule). is_some (first_of (codes "POINTER") (rows_after c [] words)) ≡ true) (sym rules)
      (first_of-given (codes "POINTER") rows (full-rows_after get_rules long_flags short_flags [] words) given);
}

-- another subcommand than `get`
other-good : (s : Shape) → bytes_eq s.name (codes "get") ≡ false → LeavesGood CarriesWord s
other-good s other = record {
  leaves = λ words none is.
      let same : bytes_eq (codes "get") (codes "get") ≡ false = subst (λ (n : Text). bytes_eq n (codes "get") ≡ false) is other in
      cc;
}

subcommands-good : AllPass (LeavesGood CarriesWord) (built command_line).subs
unfolding clap_on_literals command_line
subcommands-good = (get-good _ refl (λ _. refl), (other-good _ refl, (other-good _ refl, (other-good _ refl, (other-good _ refl, (other-good _ refl, tt))))))

-- where the line finds no error in the arguments, `get` has its argument
pub get-word : (words : List Text) → fault_of command_line words ≡ [] → HasPointer (subcommand_of command_line words)
get-word words none = subcommand-good CarriesWord command_line words subcommands-good none
