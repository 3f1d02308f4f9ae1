use Rattle.std.proofs.Common.{true≢false, sym, ◌∙◌}
use Rattle.serde_json.specs.View.{view}
use Rattle.mp_tree.proofs.Readings.Values.{data_in-some, data_in-none}
use Rattle.mp_tree.proofs.reading.read_json.Goals as goal

pub returns-in-Ok-clause-ok : goal.returns-in-Ok-clause-ok
returns-in-Ok-clause-ok c = data_in-some c.args.bytes.now (view c.in-Ok.value) c.in-Ok.ensures.ok.0 c.in-Ok.ensures.ok.1

pub returns-else-is_memory-clause-not_json : goal.returns-else-is_memory-clause-not_json
returns-else-is_memory-clause-not_json c same = data_in-none c.args.bytes.now (c.in-Err.ensures.err (λ memory. true≢false (sym (c.is_memory.ensures.1 memory) ∙ c.if-is_memory.false)))
