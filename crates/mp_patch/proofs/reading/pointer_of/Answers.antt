use Rattle.std.proofs.Common.{sym, ◌∙◌}
use Rattle.mp_patch.proofs.Forms.Reading.{no_pointer, no_slash_is_no_memory, bad_tilde_is_no_memory}
use Rattle.mp_patch.proofs.reading.pointer_of.Goals as goal

pub returns-in-Err-NoSlash : goal.returns-in-Err-NoSlash
returns-in-Err-NoSlash c = no_pointer c.args.spelling.now c.in-Err-NoSlash.field-0 (λ e. no_slash_is_no_memory (sym c.in-Err-NoSlash.field-0-is ∙ e)) c.in-Err-NoSlash.ensures.fault

pub returns-in-Err-BadTilde : goal.returns-in-Err-BadTilde
returns-in-Err-BadTilde c =
    no_pointer c.args.spelling.now c.in-Err-BadTilde.field-0 (λ e. bad_tilde_is_no_memory _ (sym c.in-Err-BadTilde.field-0-is ∙ e)) c.in-Err-BadTilde.ensures.fault
