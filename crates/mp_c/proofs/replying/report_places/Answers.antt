use Rattle.mp_c.proofs.Said.{said_or_none}
use Rattle.mp_c.proofs.replying.report_places.Goals as goal

pub returns : goal.returns
returns c = said_or_none c.args.limit c.args.places.now c.args.clash c.conflict_listing-said.result c.ok.result c.write_conflict.result c.args.out.now c.write_conflict.new.out c.ok.ensures.value c.conflict_listing-said.ensures c.write_conflict.ensures
