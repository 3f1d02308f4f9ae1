use Rattle.mp_texts.proofs.Replays as replays
use Rattle.mp_texts.proofs.laws.replays_agree.Goals as goal

pub returns-clause-one : goal.returns-clause-one
returns-clause-one c = replays.one_replay_text c.join_laws.ensures c.replay_laws.ensures

pub returns-clause-merge : goal.returns-clause-merge
returns-clause-merge c = replays.replay_is_merge c.join_laws.ensures c.replay_laws.ensures

pub returns-clause-patch : goal.returns-clause-patch
returns-clause-patch c = replays.replay_is_patch c.join_laws.ensures c.replay_laws.ensures
