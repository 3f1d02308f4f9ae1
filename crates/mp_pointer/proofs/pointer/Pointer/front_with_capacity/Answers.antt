use Rattle.std.proofs.Common.{◌≡◌, ◌≤◌, ◌-◌, ◌∷◌, length, take, get_or, string_bytes, refl, sym, ap, ◌∙◌, subst, arith}
use Rattle.std.proofs.lemmas.List.{length-take-le}
use Rattle.mp_pointer.specs.Private.Cuts.{EachPlain, cut}
use Rattle.mp_pointer.proofs.Spellings.Kept.{length-cut, cut_is_boundary, cut-take, AreCuts-take, EachPlain-take}
use Rattle.mp_pointer.proofs.pointer.Pointer.front_with_capacity.Goals as goal

pub end_of-end-requires : goal.end_of-end-requires
end_of-end-requires c = omega (arith, c.requires, ap length c.as_slice.ensures.value, length-cut 0 c.self.inside.ends.items (string_bytes c.self.inside.text), ap length c.self.view_is)

pub range-requires-clause-end_boundary : goal.range-requires-clause-end_boundary
range-requires-clause-end_boundary c =
    let ends = c.self.inside.ends.items in
    let bytes = string_bytes c.self.inside.text in
    let within : c.args.count ≤ length ends = omega (arith, c.requires, length-cut 0 ends bytes, ap length c.self.view_is) in
    rw (c.end_of-end.ensures, c.as_slice.ensures.value, c.as_str.ensures.value) (cut_is_boundary 0 ends bytes c.args.count c.self.invariant.cuts within)

pub slice_bounds-extend_from_slice-end : goal.slice_bounds-extend_from_slice-end
slice_bounds-extend_from_slice-end c =
    let ends = c.self.inside.ends.items in
    let within : c.args.count ≤ length ends = omega (arith, c.requires, length-cut 0 ends (string_bytes c.self.inside.text), ap length c.self.view_is) in
    rw c.as_slice-2.ensures.value (sym (length-take-le c.args.count ends within))

pub invariant_of-result : goal.invariant_of-result
invariant_of-result c =
    let ends = c.self.inside.ends.items in
    let bytes = string_bytes c.self.inside.text in
    let within : c.args.count ≤ length ends = omega (arith, c.requires, length-cut 0 ends bytes, ap length c.self.view_is) in
    let from_start : get_or (0 ∷ ends) c.args.count 0 - 0 ≡ get_or (0 ∷ ends) c.args.count 0 = omega arith in
    let copied : string_bytes c.push_str.new.self ≡ take (get_or (0 ∷ ends) c.args.count 0) bytes = rw (c.in_ok-push_str.ensures.bytes, c.in_ok-text.ensures.bytes, c.range.ensures.value, c.as_str.ensures.value, c.end_of-end.ensures, c.as_slice.ensures.value, from_start) refl in
    let listed : c.extend_from_slice.new.self.items ≡ take c.args.count ends = rw (c.in_ok-extend_from_slice.ensures.items, c.in_ok-ends.ensures.items, c.as_slice-2.ensures.value) refl in
    rw (listed, copied)
    record {
      cuts = AreCuts-take 0 ends bytes c.args.count c.self.invariant.cuts within;
      plain = λ plain. subst EachPlain (sym (cut-take 0 ends bytes c.args.count c.self.invariant.cuts within)) (EachPlain-take c.args.count (cut 0 ends bytes) (c.self.invariant.plain plain));
    }

pub returns : goal.returns
returns c =
    let ends = c.self.inside.ends.items in
    let bytes = string_bytes c.self.inside.text in
    let within : c.args.count ≤ length ends = omega (arith, c.requires, length-cut 0 ends bytes, ap length c.self.view_is) in
    let from_start : get_or (0 ∷ ends) c.args.count 0 - 0 ≡ get_or (0 ∷ ends) c.args.count 0 = omega arith in
    let copied : string_bytes c.push_str.new.self ≡ take (get_or (0 ∷ ends) c.args.count 0) bytes = rw (c.in_ok-push_str.ensures.bytes, c.in_ok-text.ensures.bytes, c.range.ensures.value, c.as_str.ensures.value, c.end_of-end.ensures, c.as_slice.ensures.value, from_start) refl in
    let listed : c.extend_from_slice.new.self.items ≡ take c.args.count ends = rw (c.in_ok-extend_from_slice.ensures.items, c.in_ok-ends.ensures.items, c.as_slice-2.ensures.value) refl in
    rw (listed, copied)
    (cut-take 0 ends bytes c.args.count c.self.invariant.cuts within ∙ ap (take c.args.count) c.self.view_is)
