use Rattle.std.proofs.Common.{◌≡◌, ◌<◌, length, get_or, refl, sym, ap, ◌∙◌, arith, rules}
use Rattle.mp_pointer.specs.Bytes.{tilde}
use Rattle.mp_pointer.proofs.Spellings.Plain.{ends_in-slash, ends_in-other, ends_in-end, kept_plain, spelled_plain}
use Rattle.mp_pointer.proofs.Spellings.ReadBack.{Lacks}
use Rattle.mp_pointer.proofs.pointer.Pointer.without_tildes.Goals as goal
use Rattle.mp_pointer.proofs.pointer.Pointer.without_tildes.Goals.{then-byte-eq47+in_ok-push, else-byte-eq47}

pub loop-offset-init : goal.loop-offset-init
loop-offset-init c = (rw c.new-ends.ensures.items refl, λ k less. absurd (omega arith))

pub loop-offset-preserved : goal.loop-offset-preserved
loop-offset-preserved c =
    let l = c.loop-offset in
    let rest = c.args.rest.now in
    let same = c.as_bytes-byte-items.ensures.value in
    let less : l.offset < length rest = omega (arith, c.loop-offset-test.true, ap length same) in
    let here = ap (λ bytes. get_or bytes l.offset 0) same in (
      elim c.if-byte-eq47.branch [
        | then-byte-eq47+in_ok-push w ↦ rw (w.ends-is, w.in_ok-push.ensures.items) (ends_in-slash l.ends.items rest l.offset less (sym here ∙ w.if-byte-eq47.true) ∙ l.invariant.0)
        | else-byte-eq47 w ↦ rw w.ends-is (ends_in-other l.ends.items rest l.offset less (λ is. w.if-byte-eq47.false (here ∙ is)) ∙ l.invariant.0)
      ],
      search rules,
    )

pub invariant_of-result : goal.invariant_of-result
invariant_of-result c =
    let l = c.loop-offset in
    let rest = c.args.rest.now in
    let at_end : l.offset ≡ length rest = omega (arith, c.loop-offset-test.false, ap length c.as_bytes-byte-items.ensures.value) in
    let no_tilde : Lacks tilde rest = λ k less. l.invariant.1 k (omega arith) in
    rw (c.in_ok-push-2.ensures.items, c.in_ok-push_str-2.ensures.bytes, c.in_ok-push_str.ensures.bytes, c.in_ok-text.ensures.bytes, ends_in-end l.ends.items rest l.offset at_end ∙ l.invariant.0) (kept_plain rest c.utf8.rest no_tilde)

pub returns : goal.returns
returns c =
    let l = c.loop-offset in
    let rest = c.args.rest.now in
    let at_end : l.offset ≡ length rest = omega (arith, c.loop-offset-test.false, ap length c.as_bytes-byte-items.ensures.value) in
    let no_tilde : Lacks tilde rest = λ k less. l.invariant.1 k (omega arith) in
    rw (c.in_ok-push-2.ensures.items, c.in_ok-push_str-2.ensures.bytes, c.in_ok-push_str.ensures.bytes, c.in_ok-text.ensures.bytes, ends_in-end l.ends.items rest l.offset at_end ∙ l.invariant.0) (spelled_plain rest c.utf8.rest no_tilde)
