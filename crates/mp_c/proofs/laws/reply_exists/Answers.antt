use Rattle.mp_c.proofs.SomeReply as replies
use Rattle.mp_c.proofs.laws.reply_exists.Goals as goal

pub returns : goal.returns
returns c = replies.each_has_report c.laws_of_texts.ensures
