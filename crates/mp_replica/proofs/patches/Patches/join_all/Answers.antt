use Rattle.std.proofs.Common.{◌∙◌, ap, sym}
use Rattle.mp_tree.specs.View.{document}
use Rattle.mp_replica.proofs.Taking.{none_taken, seen_between, takes_all_of_one, takes_none, their_join}
use Rattle.mp_replica.proofs.patches.Patches.join_all.Goals as goal

pub returns-in_default-clause-taken : goal.returns-in_default-clause-taken
returns-in_default-clause-taken c taken others has have =
    let places = ap (λ r. r.places) c.other.view_is ∙ c.requires.places.1 in
    let none = sym (ap (λ r. r.joined) c.other.view_is) ∙ sym c.take.ensures.taken ∙ c.in_default.is in (
      takes_none c.merge_laws.ensures taken others c.args.other.now c.args.self.now c.requires.places.1 c.requires.settled.1 none have has,
      none_taken c.merge_laws.ensures _ c.take.ensures.joined c.take.ensures.pending places,
      c.requires.places.0,
      c.requires.settled.0,
    )

pub returns : goal.returns
returns c =
    let laws = c.merge_laws.ensures in
    let places = ap (λ r. r.places) c.other.view_is ∙ c.requires.places.1 in
    let some = sym (ap (λ r. r.joined) c.other.view_is) ∙ sym c.take.ensures.taken ∙ c.in-Some.is in
    let p = document c.in-Some.patch in
    let joins = their_join laws c.args.other.now c.in-Some.patch c.requires.places.1 c.requires.settled.1 some in
    record {
      taken = λ taken others has have.
          takes_all_of_one laws c.add_one.result taken others c.add_one.new.self _ p c.add_one.ensures.received (joins others have) has.are_documents have.are_documents
          (none_taken laws _ c.take.ensures.joined c.take.ensures.pending places) (c.add_one.ensures.taken taken has);
      seen = λ taken others has have. seen_between laws taken others p c.add_one.new.self.places (joins others have) (c.add_one.ensures.seen taken has);
      conflict = c.add_one.ensures.conflict;
      received = c.add_one.ensures.received;
    }
