use Rattle.std.proofs.Common.{sym, ◌∙◌}
use Rattle.mp_tree.proofs.Documents.Meaning.{document_of_map}
use Rattle.mp_tree.proofs.node.DocNode.into_members.Goals as goal

pub returns-in-Members : goal.returns-in-Members
returns-in-Members c = record {
  object = λ ms is. let same = sym (document_of_map c.in-Members.entries c.in-Members.is) ∙ is in cc;
  other = λ never. absurd (never _ (document_of_map c.in-Members.entries c.in-Members.is));
}
