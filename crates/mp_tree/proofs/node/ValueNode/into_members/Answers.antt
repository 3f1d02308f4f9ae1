use Rattle.std.proofs.Common.{sym, ◌∙◌}
use Rattle.mp_tree.proofs.Valued.Meaning.{value_of_map}
use Rattle.mp_tree.proofs.node.ValueNode.into_members.Goals as goal

pub returns-in-Object : goal.returns-in-Object
returns-in-Object c = record {
  object = λ ms is. let same = sym (value_of_map c.in-Object.entries c.in-Object.is) ∙ is in cc;
  other = λ never. absurd (never _ (value_of_map c.in-Object.entries c.in-Object.is));
}
