use Rattle.std.proofs.Common.{IfSome, List, ◌∙◌, ◌++◌, [], ap, subst, sym}
use Rattle.mp_tree.specs.Document.{Document}
use Rattle.mp_replica.specs.Held.{HoldsClashesBetween, held_places}
use Rattle.mp_replica.specs.Taking.{HasTaken, TakesAll}
use Rattle.mp_replica.specs.declared.patches.Added.TheVariants.{Conflict}
use Rattle.mp_replica.proofs.Growing.{some_mapped}
use Rattle.mp_replica.proofs.Taking.{conflict_takes_all, seen_turned, takes_all_turned, takes_conflict_over}
use Rattle.mp_replica.proofs.TextRuns.{takes_all_texts}
use Rattle.mp_replica.proofs.patches.Patches.combine.Goals as goal
use Rattle.mp_replica.proofs.patches.Patches.combine.Goals.{else-is_lighter, then-is_lighter}

pub returns-then-is_some-clause-taken : goal.returns-then-is_some-clause-taken
returns-then-is_some-clause-taken c taken others has have =
    let some = some_mapped held_places c.self.inside.places c.args.self.now.places c.if-is_some.ensures (ap (λ r. r.places) c.self.view_is) in
    (conflict_takes_all c.args.self.now c.args.other.now taken others some has have, rw c.new-then-is_some.view_is c.new.ensures.taken, some)

pub returns-then-is_some-clause-texts : goal.returns-then-is_some-clause-texts
returns-then-is_some-clause-texts c texts others has have =
    takes_all_texts Conflict texts others c.args.self.now c.args.other.now c.args.self.now _ has have (returns-then-is_some-clause-taken c has.documents have.documents has.taken have.taken)

pub returns-then-is_some-2-clause-taken : goal.returns-then-is_some-2-clause-taken
returns-then-is_some-2-clause-taken c taken others has have =
    let some = some_mapped held_places c.other.inside.places c.args.other.now.places c.if-is_some-2.ensures (ap (λ r. r.places) c.other.view_is) in
    let moved = c.replace-then-is_some-2.view_is ∙ c.replace.ensures.value in (
      subst (λ r. HasTaken r (taken ++ others)) (sym moved) (takes_conflict_over c.args.self.now c.args.other.now taken others some has have),
      subst (λ r. HasTaken r []) (sym c.replace.ensures.after) c.new-then-is_some-2.ensures.taken,
      λ none. some (sym (ap (λ r. r.places) moved) ∙ none),
    )

pub returns-then-is_some-2-clause-texts : goal.returns-then-is_some-2-clause-texts
returns-then-is_some-2-clause-texts c texts others has have =
    takes_all_texts Conflict texts others c.args.self.now c.args.other.now _ _ has have (returns-then-is_some-2-clause-taken c has.documents have.documents has.taken have.taken)

both : (c : goal.After-join_all) (taken others : List Document) → HasTaken c.args.self.now taken → HasTaken c.args.other.now others
    → TakesAll HasTaken c.join_all.result taken others c.join_all.new.self c.join_all.new.other × IfSome c.join_all.new.self.places (HoldsClashesBetween taken others)
both c taken others has have =
    let one = c.settle.ensures.taken taken has in
    let two = c.settle-2.ensures.taken others have in
    elim c.if-is_lighter.branch [
      | then-is_lighter w ↦
          let here = subst (λ r. HasTaken r others) (sym (w.self-is ∙ w.swap.ensures.x_after)) two in
          let there = subst (λ r. HasTaken r taken) (sym (w.other-is ∙ w.swap.ensures.y_after)) one in (
            takes_all_turned c.merge_laws.ensures c.join_all.result taken others c.join_all.new.self c.join_all.new.other c.join_all.ensures.received (c.join_all.ensures.taken others taken here there),
            seen_turned c.join_all.new.self.places taken others (c.join_all.ensures.seen others taken here there),
          )
      | else-is_lighter w ↦
          let here = subst (λ r. HasTaken r taken) (sym w.self-is) one in
          let there = subst (λ r. HasTaken r others) (sym w.other-is) two in
          (c.join_all.ensures.taken taken others here there, c.join_all.ensures.seen taken others here there)
    ]

pub returns-clause-taken : goal.returns-clause-taken
returns-clause-taken c taken others has have = (both c taken others has have).0

pub returns-clause-texts : goal.returns-clause-texts
returns-clause-texts c texts others has have =
    takes_all_texts c.join_all.result texts others c.args.self.now c.args.other.now c.join_all.new.self c.join_all.new.other has have (both c has.documents have.documents has.taken have.taken).0

pub returns-clause-seen : goal.returns-clause-seen
returns-clause-seen c free free_there taken others has have = (both c taken others has have).1
