use Rattle.std.proofs.Common.{◌≡◌, ◌-◌, length, take, string_bytes, sym, ap, ◌∙◌, subst, arith}
use Rattle.mp_pointer.specs.Private.Cuts.{EachPlain, cut}
use Rattle.mp_pointer.proofs.Spellings.Kept.{length-cut, cut_is_boundary, cut-take, AreCuts-take, EachPlain-take}
use Rattle.mp_pointer.proofs.pointer.Pointer.pop.Goals as goal

pub truncate-requires : goal.truncate-requires
truncate-requires c = λ _.
    let boundary = cut_is_boundary 0 c.self.inside.ends.items (string_bytes c.self.inside.text) c.saturating_sub-count.result c.self.invariant.cuts (omega arith) in
    rw (c.end_of.ensures, c.as_slice.ensures.value) (boundary.0, λ _. boundary.1)

pub invariant_of-self : goal.invariant_of-self
invariant_of-self c =
    let ends = c.self.inside.ends.items in
    let bytes = string_bytes c.self.inside.text in
    let n = c.saturating_sub-count.result in
    rw (c.truncate-2.ensures.items, c.truncate.ensures.bytes, c.end_of.ensures, c.as_slice.ensures.value)
    record {
      cuts = AreCuts-take 0 ends bytes n c.self.invariant.cuts (omega arith);
      plain = λ plain. subst EachPlain (sym (cut-take 0 ends bytes n c.self.invariant.cuts (omega arith))) (EachPlain-take n (cut 0 ends bytes) (c.self.invariant.plain plain));
    }

pub returns : goal.returns
returns c =
    let t = c.args.self.now in
    let count : c.saturating_sub-count.result ≡ length t - 1 = omega (arith, ap length c.self.view_is, length-cut 0 c.self.inside.ends.items (string_bytes c.self.inside.text)) in
    rw (c.truncate-2.ensures.items, c.truncate.ensures.bytes, c.end_of.ensures, c.as_slice.ensures.value)
    (cut-take 0 c.self.inside.ends.items (string_bytes c.self.inside.text) c.saturating_sub-count.result c.self.invariant.cuts (omega arith) ∙ ap (take c.saturating_sub-count.result) c.self.view_is ∙ ap (λ n. take n t) count)
