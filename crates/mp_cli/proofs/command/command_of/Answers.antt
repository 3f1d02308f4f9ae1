use Rattle.std.proofs.Common.{◌∙◌, List, Option, ap, ap₂, map, string_bytes, subst, sym}
use Rattle.clap.specs.Words.{Row, Text, fault_of, is_simple_and_free, subcommand_of, takes}
use Rattle.mp_cli.proofs.CommandLine.{command_line-simple, matches-asked_for, matches-known, matches-pointer, matches-rows, HasKind-help, HasKind-mistake}
use Rattle.mp_cli.specs.CommandLine.{asked_for, command_line, pointer_in, CarriesPointer}
use Rattle.mp_cli.proofs.command.command_of.Goals as goal

pub command_from-requires-clause-known : goal.command_from-requires-clause-known
command_from-requires-clause-known c =
    let line = c.in_ok-line.ensures in
    let parse = c.in-Ok.ensures in
    matches-known _ _ _ line.line line.no_globals line.required parse.parsed parse.matches

pub command_from-requires-clause-pointer : goal.command_from-requires-clause-pointer
command_from-requires-clause-pointer c =
    let is = c.in_ok-line.ensures.line in
    matches-pointer _ _ _ is c.in-Ok.ensures.matches (c.in-Ok.ensures.kinds (ap is_simple_and_free is ∙ command_line-simple))

pub returns-in-Ok-clause-command : goal.returns-in-Ok-clause-command
returns-in-Ok-clause-command c =
    ap asked_for (ap (map string_bytes) (sym c.as_slice.ensures.value)) ∙ sym (matches-asked_for _ _ _ c.in_ok-line.ensures.line c.in-Ok.ensures.matches) ∙ c.in_ok-command_from-in-Ok.ensures.command

pub returns-in-Ok-clause-pointer : goal.returns-in-Ok-clause-pointer
returns-in-Ok-clause-pointer c =
    let command = c.in_ok-command_from-in-Ok in
    let rows = matches-rows _ _ _ c.in_ok-line.ensures.line c.in-Ok.ensures.matches in
    let given = rows ∙ ap (subcommand_of command_line) (ap (map string_bytes) c.as_slice.ensures.value) in
    subst (λ (entered : Option (Text × List Row)). CarriesPointer command.field-0 (pointer_in entered)) given command.ensures.pointer

pub returns-in-Ok-clause-faultless : goal.returns-in-Ok-clause-faultless
returns-in-Ok-clause-faultless c =
    let is = c.in_ok-line.ensures.line in
    sym (ap₂ fault_of is (ap (map string_bytes) c.as_slice.ensures.value)) ∙ c.in-Ok.ensures.kinds (ap is_simple_and_free is ∙ command_line-simple)

pub returns-clause-taken : goal.returns-clause-taken
returns-clause-taken c taken =
    c.refusal.ensures.out_of_memory (c.in-Err.ensures.passes (ap₂ takes c.in_ok-line.ensures.line (ap (map string_bytes) c.as_slice.ensures.value) ∙ taken))

pub returns-clause-help : goal.returns-clause-help
returns-clause-help c help =
    let is = c.in_ok-line.ensures.line in
    let kinds = c.in-Err.ensures.kinds (ap is_simple_and_free is ∙ command_line-simple) in
    let faults = ap₂ fault_of is (ap (map string_bytes) c.as_slice.ensures.value) in
    HasKind-help c.in-Err.error _ _ (c.refusal.ensures.help help) faults kinds

pub returns-clause-usage : goal.returns-clause-usage
returns-clause-usage c usage =
    let is = c.in_ok-line.ensures.line in
    let kinds = c.in-Err.ensures.kinds (ap is_simple_and_free is ∙ command_line-simple) in
    let faults = ap₂ fault_of is (ap (map string_bytes) c.as_slice.ensures.value) in
    let other = c.refusal.ensures.usage usage in
    HasKind-mistake c.in-Err.error _ _ other.0 other.1 faults kinds
