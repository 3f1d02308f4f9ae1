use Rattle.std.proofs.Common.{◌≡◌, [], ◌∷◌, ◌++◌, Some, take, string_bytes, refl, sym, ap, ◌∙◌, append_assoc}
use Rattle.std.specs.List.{slice_get}
use Rattle.std.specs.Option.{option_copied}
use lib.Utf8.{encode}
use Rattle.mp_pointer.specs.Bytes.{slash}
use Rattle.mp_pointer.specs.Spelling.{escape, spell}
use Rattle.mp_pointer.proofs.Spellings.ReadBack.{spell-push}
use Rattle.mp_pointer.proofs.Tokens.Lists.{take_token}
use Rattle.mp_pointer.proofs.pointer.Pointer.escape_tokens.Goals as goal

pub loop-number-preserved : goal.loop-number-preserved
unfolding encode
loop-number-preserved c =
    let t = c.args.self.now in
    let i = c.loop-number.number in
    let token = c.unwrap.result.now in
    let here : slice_get t i ≡ Some token = sym c.token.ensures ∙ ap option_copied c.unwrap.ensures in
    let opened : string_bytes c.push.new.self ≡ string_bytes c.loop-number.text ++ slash ∷ [] = c.in_ok-push.ensures.bytes in
    c.in_ok-push_escaped.ensures ∙ ap (λ xs. xs ++ escape token) opened ∙ append_assoc (string_bytes c.loop-number.text) (slash ∷ []) (escape token)
    ∙ ap (λ xs. xs ++ slash ∷ escape token) c.loop-number.invariant ∙ sym (ap spell (take_token t i token here) ∙ spell-push (take i t) token (escape token) refl)
