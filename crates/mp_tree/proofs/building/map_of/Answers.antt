use Rattle.std.proofs.Common.{string_cmp, ◌∙◌}
use Rattle.std.proofs.lemmas.Iterator.Adapters.{YieldsList-from_vec, fact_from_collect}
use Rattle.std.proofs.lemmas.Result.{IfOk-weaker}
use Rattle.std.specs.BTreeMap.{IsFromIterResult}
use Rattle.mp_tree.proofs.Maps.Building.{byte_entries-from_iter}
use Rattle.mp_tree.proofs.building.map_of.Goals as goal

pub returns : goal.returns
returns g c =
    let pairs = c.args.pairs.items in
    let given = fact_from_collect (IsFromIterResult string_cmp) c.collect.result c.collect.ensures.ran (YieldsList-from_vec pairs c.into_iter.ensures.rest (c.into_iter.ensures.len ∙ c.args.pairs.ok.0)) in
    IfOk-weaker c.collect.result (IsFromIterResult string_cmp pairs) _ (λ m made. byte_entries-from_iter m pairs c.requires made) given
