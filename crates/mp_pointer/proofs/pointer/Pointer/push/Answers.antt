use Rattle.std.proofs.Common.{◌≡◌, [], ◌∷◌, ◌++◌, length, string_bytes, refl, sym, ap, ◌∙◌, subst, append_assoc, true≢false}
use Rattle.mp_pointer.specs.Bytes.{slash}
use Rattle.mp_pointer.specs.Private.Cuts.{EachPlain, cut}
use Rattle.mp_pointer.proofs.Spellings.Kept.{cut-push, AreCuts-push, EachPlain-push}
use Rattle.mp_pointer.proofs.pointer.Pointer.push.Goals as goal
use Rattle.mp_pointer.proofs.pointer.Pointer.push.Goals.{then-self, else-self}

pub invariant_of-self-2 : goal.invariant_of-self-2
invariant_of-self-2 c =
    let ends = c.self.inside.ends.items in
    let bytes = string_bytes c.self.inside.text in
    let token = c.args.token.now in
    let grown : string_bytes c.push_str-2.new.self ≡ bytes ++ slash ∷ token = c.in_ok-push_str-2.ensures.bytes ∙ ap (λ xs. xs ++ token) (c.in_ok-push_str.ensures.bytes ∙ ap (λ xs. xs ++ slash ∷ []) c.in_ok-reserve-2.ensures.bytes) ∙ append_assoc bytes (slash ∷ []) token in
    let listed : c.push.new.self.items ≡ ends ++ length (bytes ++ slash ∷ token) ∷ [] = rw (c.in_ok-push.ensures.items, c.as_str.ensures.value, grown, c.in_ok-reserve.ensures.items) refl in
    rw (listed, grown) record {
      cuts = AreCuts-push 0 ends bytes token c.utf8.token c.self.invariant.cuts;
      plain = λ plain. subst EachPlain (sym (cut-push 0 ends bytes token c.self.invariant.cuts)) (elim c.if-self.branch [
        | then-self w ↦ EachPlain-push (cut 0 ends bytes) token (c.self.invariant.plain w.if-self.true) (w.is_plain-self-inside.ensures (sym w.self-is ∙ plain))
        | else-self w ↦ absurd (true≢false (sym plain ∙ w.self-is ∙ w.if-self.false))
      ]);
    }

pub returns-clause-ok : goal.returns-clause-ok
returns-clause-ok c =
    let ends = c.self.inside.ends.items in
    let bytes = string_bytes c.self.inside.text in
    let token = c.args.token.now in
    let grown : string_bytes c.push_str-2.new.self ≡ bytes ++ slash ∷ token = c.in_ok-push_str-2.ensures.bytes ∙ ap (λ xs. xs ++ token) (c.in_ok-push_str.ensures.bytes ∙ ap (λ xs. xs ++ slash ∷ []) c.in_ok-reserve-2.ensures.bytes) ∙ append_assoc bytes (slash ∷ []) token in
    let listed : c.push.new.self.items ≡ ends ++ length (bytes ++ slash ∷ token) ∷ [] = rw (c.in_ok-push.ensures.items, c.as_str.ensures.value, grown, c.in_ok-reserve.ensures.items) refl in
    rw (listed, grown) (cut-push 0 ends bytes token c.self.invariant.cuts ∙ ap (λ t. t ++ token ∷ []) c.self.view_is)
