use Rattle.std.proofs.Common.{Some, pos, option_map, sym, ap, ◌∙◌}
use Rattle.std.specs.Option.{option_or}
use Rattle.serde_json.specs.Find.{as_i64}
use Rattle.serde_json.specs.View.{number_view}
use Rattle.mp_tree.proofs.converting.whole_of.Goals as goal

pub returns-in-Some : goal.returns-in-Some
returns-in-Some c = ap Some c.from_u64.ensures.number ∙ ap (λ o. option_or (option_map pos o) (as_i64 (number_view c.args.number.now))) (sym c.in-Some.is ∙ c.as_u64.ensures)
