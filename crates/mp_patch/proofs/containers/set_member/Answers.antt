use Rattle.std.proofs.Common.{refl}
use Rattle.mp_tree.proofs.Facts.{put-by}
use Rattle.mp_patch.proofs.containers.set_member.Goals as goal

pub returns-in-Some : goal.returns-in-Some
returns-in-Some g c = put-by g.T.Node.means c.requires.documents c.args.entries.now c.insert.new.self c.args.value refl refl refl c.in_ok-before.ensures.updates

pub returns-in_default : goal.returns-in_default
returns-in_default g c = put-by g.T.Node.means c.requires.documents c.args.entries.now c.insert.new.self c.args.value refl refl refl c.in_ok-before.ensures.updates
