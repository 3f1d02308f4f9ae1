use Rattle.std.proofs.Common.{◌≡◌, ◌⊎◌, inl, inr, length, sym, ap, ◌∙◌, rules}
use Rattle.std.specs.Iterator.Adapters.{zip_first, zip_second}
use Rattle.mp_patch.specs.View.{operations_of}
use Rattle.mp_patch.proofs.Operations.Alike.{first_alike, left_after, none_left}
use Rattle.mp_patch.proofs.patch.JsonPatch.same.Goals as goal

pub loop-op-init : goal.loop-op-init
loop-op-init c =
    let ops : (zip_first c.into_iter-op-iterator.result).rest.now ≡ c.args.self.now = search rules in
    let others : (zip_second c.into_iter-op-iterator.result).rest.now ≡ c.args.other.now = search rules in
    let long : length c.args.self.now ≡ length c.args.other.now = search rules in
    record {
      long = ap length ops ∙ long ∙ sym (ap length others);
      alike = (λ same. sym (ap operations_of ops) ∙ same ∙ ap operations_of others, λ same. ap operations_of ops ∙ same ∙ sym (ap operations_of others));
    }

pub returns-then-not-same : goal.returns-then-not-same
returns-then-not-same c =
    let l = c.loop-op in
    record {
      same = (
        λ never. absurd (cc),
        λ same. let found = c.same.ensures.same.1 (first_alike _ _ _ _ _ _ _ _ l.invariant c.in-Some.ensures.steps.0 c.in-Some.ensures.steps.1 same) in absurd (cc),
      );
    }

pub loop-op-preserved : goal.loop-op-preserved
loop-op-preserved c =
    let l = c.loop-op in
    left_after _ _ _ _ _ _ _ _ l.invariant c.in-Some.ensures.steps.0 c.in-Some.ensures.steps.1 (c.same.ensures.same.0 (search rules))

pub returns : goal.returns
returns c =
    let l = c.loop-op in
    let over : (length (zip_first l.op-iterator).rest.now ≡ 0) ⊎ (length (zip_second l.op-iterator).rest.now ≡ 0) = elim c.in-None.ensures.steps [ inl end ↦ inl end.1.0 | inr end ↦ inr end.1.0 ] in
    record { same = (λ yes. none_left _ _ _ _ l.invariant over, λ same. search rules) }
