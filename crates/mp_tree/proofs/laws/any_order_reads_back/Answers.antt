use Rattle.mp_tree.proofs.Texts.ByName.{by_name-document, by_name-same}
use Rattle.mp_tree.proofs.Texts.RoundTrip.{read-any_order, read-any_utf8}
use Rattle.mp_tree.proofs.laws.any_order_reads_back.Goals as goal

pub returns : goal.returns
returns c = record { readable = read-any_order; utf8 = read-any_utf8; document = by_name-document; same = by_name-same }
