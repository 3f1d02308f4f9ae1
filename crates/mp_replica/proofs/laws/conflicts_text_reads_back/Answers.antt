use Rattle.mp_replica.proofs.PairsReadBack.{pairs_read_back, pairs_read_utf8, text_is_of_one_pairs}
use Rattle.mp_replica.proofs.laws.conflicts_text_reads_back.Goals as goal

pub returns-clause-readable : goal.returns-clause-readable
returns-clause-readable c = pairs_read_back c.any_order_reads_back.ensures.same c.any_order_reads_back.ensures.readable

pub returns-clause-utf8 : goal.returns-clause-utf8
returns-clause-utf8 c = pairs_read_utf8 c.any_order_reads_back.ensures.same c.any_order_reads_back.ensures.utf8

pub returns-clause-one : goal.returns-clause-one
returns-clause-one c = text_is_of_one_pairs c.any_order_reads_back.ensures.same c.any_order_reads_back.ensures.utf8 c.one_spelling.ensures
