use Rattle.mp_texts.specs.Texts.{given}
use Rattle.mp_texts.specs.Calls.{replay_texts}
use Rattle.mp_c.proofs.Exports.{replied}
use Rattle.mp_c.proofs.lists.mergejoin_replay.Goals as goal

pub returns : goal.returns
returns c = replied c.args.limit (replay_texts c.args.start.now (given c.args.patches.now)) c.replay_texts-outcome.result c.report.result c.args.out.now c.report.new.out c.replay_texts-outcome.ensures c.report.ensures
