use Rattle.std.proofs.Common.{◌≡◌, ◌≢◌, ◌<◌, [], ◌++◌, length, None, refl, sym, ap, ◌∙◌, subst, true≢false, arith}
use Rattle.std.proofs.lemmas.Bool.{eq-eqb, eqb-true}
use Rattle.std.proofs.lemmas.List.{nil_from_length}
use Rattle.std.specs.Vec.Iter.{into_iter_items}
use Rattle.mp_tree.specs.View.{document}
use Rattle.mp_merge.specs.Outcome.{IsOutcome}
use Rattle.mp_replica.specs.Held.{AreClashesWith}
use Rattle.library_example.specs.Received.{epoch_of, patches_of, replica_of}
use Rattle.library_example.proofs.Messages.{at_the_end, delivered, first_clash, follows_one_more, of_this_start, one_further}
use Rattle.library_example.proofs.receiving.shown_after.Goals as goal

pub loop-message-init : goal.loop-message-init
loop-message-init c = record {
  epoch = c.new-replica.ensures.epoch;
  received = record { passed = []; all = sym c.into_iter-message-iterator.ensures.into_iter_gives.0; holds = c.new-replica.ensures.follows };
  can_next = tt;
  is_finite = tt;
}

pub loop-message-preserved : goal.loop-message-preserved
loop-message-preserved c =
    let n = c.args.epoch in
    let start = document c.args.start in
    let l = c.loop-message in
    let m = c.in-Some.message in
    let so_far = l.invariant.received in
    let received = patches_of n so_far.passed in
    let places = c.in_ok-places.places in
    let here : epoch_of l.replica ≡ n = l.invariant.epoch in
    let none : places.items ≡ [] = nil_from_length places.items (sym places.ok.0 ∙ eqb-true _ 0 (sym c.is_empty.ensures ∙ c.if-not-is_empty.false)) in
    let said = c.in_ok-places.ensures in
    let was = c.receive-delivery.ensures in
    record {
      epoch = was.epoch ∙ here;
      received = one_further so_far c.in-Some.ensures.steps.0 (follows_one_more n start so_far.passed m (replica_of l.replica) (replica_of c.receive-delivery.new.self)
          (λ same. let this = same ∙ sym here in
          delivered c.receive-delivery.result start received (document m.patch) (replica_of l.replica) (replica_of c.receive-delivery.new.self) (was.follows this) (was.refused (said.pending this refl))
          (subst (AreClashesWith received (document m.patch)) none (said.places this start received so_far.holds)) so_far.holds)
          (λ late. ap replica_of (was.late (subst (λ k. m.epoch < k) (sym here) late)).1)
          (λ early. ap replica_of (was.early (subst (λ k. k < m.epoch) (sym here) early)).1)
          so_far.holds);
      can_next = tt;
      is_finite = tt;
    }

pub returns-then-not-is_empty-clause-refused : goal.returns-then-not-is_empty-clause-refused
returns-then-not-is_empty-clause-refused c =
    let n = c.args.epoch in
    let start = document c.args.start in
    let l = c.loop-message in
    let m = c.in-Some.message in
    let so_far = l.invariant.received in
    let places = c.in_ok-places.places in
    let some : places.items ≢ [] = λ none. true≢false (sym (c.is_empty.ensures ∙ eq-eqb _ _ (places.ok.0 ∙ ap length none)) ∙ c.if-not-is_empty.true) in
    let said = c.in_ok-places.ensures in
    let this = of_this_start m.epoch (epoch_of l.replica) places.items some (λ other. (said.other other).1) in
    first_clash n start c.args.messages.items so_far.passed _ m (replica_of l.replica) places.items (so_far.all ∙ ap (λ ms. so_far.passed ++ ms) c.in-Some.ensures.steps.0)
    (this ∙ l.invariant.epoch) so_far.holds some (said.places this start (patches_of n so_far.passed) so_far.holds)

pub returns-in-Some-document-clause-outcome : goal.returns-in-Some-document-clause-outcome
returns-in-Some-document-clause-outcome c =
    let l = c.loop-message in
    let it = l.message-iterator in
    let r = replica_of l.replica in
    let patches = patches_of c.args.epoch c.args.messages.items in
    let follows = at_the_end l.invariant.received (nil_from_length (into_iter_items it) (sym it.rest.ok.0 ∙ c.in-None.ensures.steps.0)) in
    let is = c.replica-2.ensures in
    let shown = c.in-Some-document.ensures in
    let outcome = c.shows_outcome.ensures.outcome (document c.args.start) patches r follows (subst (λ h. h.pending ≡ None) is shown.0) in
    subst (IsOutcome (document c.args.start) patches) (sym (c.in_ok-copy-in-Some-document.ensures.equal ∙ ap document shown.1 ∙ ap (λ h. document h.shown) is)) outcome.0
