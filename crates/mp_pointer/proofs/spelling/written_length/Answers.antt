use Rattle.std.proofs.Common.{rules}
use Rattle.json.specs.Print.{escape_byte}
use Rattle.mp_pointer.proofs.spelling.written_length.Goals as goal

pub returns-in-126 : goal.returns-in-126
unfolding escape_byte
returns-in-126 c = search rules

pub returns-in-47 : goal.returns-in-47
unfolding escape_byte
returns-in-47 c = search rules
