use Rattle.std.proofs.Common.{◌≡◌, ◌++◌, ◌∷◌, [], None, IfSome, option_map, sym, ap, ◌∙◌, subst, true≢false}
use Rattle.mp_tree.specs.View.{document}
use Rattle.mp_tree.proofs.Facts.{IsDocument-document}
use Rattle.mp_merge.specs.Clash.{Compatible}
use Rattle.mp_replica.specs.PatchLog.{Shows, StoresAlso, stored_in}
use Rattle.mp_replica.specs.Private.Pairs.{Notes}
use Rattle.mp_replica.specs.Private.Steps.{SameJoins}
use Rattle.mp_replica.specs.Private.StoredPatches.{FitsAll, KnowsConflicts, join_in, pending_in}
use Rattle.mp_replica.proofs.Conflicting.{clashes_if_unfit, fits_none, knows_listed, knows_more, knows_noted, knows_still, settled_in, still_unclashed}
use Rattle.mp_replica.proofs.Identities.{stores_also}
use Rattle.mp_replica.proofs.Shown.{shows_more}
use Rattle.mp_replica.proofs.stored_patches.StoredPatches.insert.Goals as goal

pub invariant_of-self : goal.invariant_of-self
invariant_of-self c = knows_still c.self.invariant c.settle.ensures.stays

pub invariant_of-self-in_err-note_clashes : goal.invariant_of-self-in_err-note_clashes
invariant_of-self-in_err-note_clashes c = knows_noted c.note_clashes.ensures.kept c.note_clashes.ensures.ordered (knows_still c.self.invariant c.settle.ensures.stays)

pub invariant_of-self-in_err-insert : goal.invariant_of-self-in_err-insert
invariant_of-self-in_err-insert c =
    subst (λ es. KnowsConflicts es c.self.inside.conflicting.items c.note_clashes.new.pairs (join_in es c.settle.new.self)) (sym c.in_err-insert.ensures.err)
    (knows_noted c.note_clashes.ensures.kept c.note_clashes.ensures.ordered (knows_still c.self.invariant c.settle.ensures.stays))

pub invariant_of-self-then-branch : goal.invariant_of-self-then-branch
invariant_of-self-then-branch c =
    let es = c.self.inside.patches.entries in
    let fs = c.insert.new.self.entries in
    let d = c.args.patch in
    let held = c.settle.new.self in
    let now = c.settle-settled.new.self in
    let absent = subst (λ l. stored_in l c.args.identity ≡ None) (sym c.self.view_is) c.requires in
    let more = stores_also es fs c.args.identity d c.in_ok-insert.ensures.updates.2 c.in_ok-insert.ensures.updates.1 in
    let each = subst (λ l. FitsAll (stored_in es) l (document d)) c.as_slice-known.ensures.value (c.in_ok-note_clashes.ensures.fits.0 c.if-branch.true) in
    let stays = subst (λ o. SameJoins (option_map document held.joined) o (option_map document now.joined) (option_map document (pending_in fs now.unjoined))) more.here c.settle-settled.ensures.stays in
    let noted = subst (λ l. Notes c.args.identity (stored_in es) (document d) l c.note_clashes.new.pairs) c.as_slice-known.ensures.value c.in_ok-note_clashes.ensures.noted in
    knows_more c.merge_laws.ensures d (knows_still c.self.invariant c.settle.ensures.stays) absent more c.in_ok-insert.ensures.ordered (ap (pending_in es) (c.settle.ensures.settled.0 c.if-not-settle.false))
    c.note_clashes.ensures.kept c.note_clashes.ensures.ordered noted (c.fits.ensures.0 c.if-not-fits.false) each stays

pub returns-then-branch-clause-stored : goal.returns-then-branch-clause-stored
returns-then-branch-clause-stored c =
    subst (λ es. StoresAlso (stored_in es) c.args.identity (document c.args.patch) (stored_in c.insert.new.self.entries)) c.self.view_is
    (stores_also c.self.inside.patches.entries c.insert.new.self.entries c.args.identity c.args.patch c.in_ok-insert.ensures.updates.2 c.in_ok-insert.ensures.updates.1)

pub returns-then-branch-clause-shows : goal.returns-then-branch-clause-shows
returns-then-branch-clause-shows c start shown good good_shown shows =
    let es = c.self.inside.patches.entries in
    let fs = c.insert.new.self.entries in
    let d = c.args.patch in
    let absent = subst (λ l. stored_in l c.args.identity ≡ None) (sym c.self.view_is) c.requires in
    let more = stores_also es fs c.args.identity d c.in_ok-insert.ensures.updates.2 c.in_ok-insert.ensures.updates.1 in
    let each = subst (λ l. FitsAll (stored_in es) l (document d)) c.as_slice-known.ensures.value (c.in_ok-note_clashes.ensures.fits.0 c.if-branch.true) in
    let none = fits_none c.merge_laws.ensures d (knows_still c.self.invariant c.settle.ensures.stays) (ap (pending_in c.self.inside.patches.entries) (c.settle.ensures.settled.0 c.if-not-settle.false)) (c.fits.ensures.0 c.if-not-fits.false) each in
    shows_more c.merge_laws.ensures es fs c.args.identity (document d) absent more (IsDocument-document d) none start shown good good_shown (subst (λ l. Shows start (stored_in l) shown) (sym c.self.view_is) shows)

pub invariant_of-self-in_err-conflicting : goal.invariant_of-self-in_err-conflicting
invariant_of-self-in_err-conflicting c = knows_noted c.note_clashes.ensures.kept c.note_clashes.ensures.ordered (knows_still c.self.invariant c.settle.ensures.stays)

pub invariant_of-self-in_err-insert-2 : goal.invariant_of-self-in_err-insert-2
invariant_of-self-in_err-insert-2 c =
    subst (λ es. KnowsConflicts es c.self.inside.conflicting.items c.note_clashes.new.pairs (join_in es c.settle.new.self)) (sym c.in_err-insert-2.ensures.err)
    (knows_noted c.note_clashes.ensures.kept c.note_clashes.ensures.ordered (knows_still c.self.invariant c.settle.ensures.stays))

pub invariant_of-self-2 : goal.invariant_of-self-2
invariant_of-self-2 c =
    let es = c.self.inside.patches.entries in
    let d = c.args.patch in
    let known = c.self.inside.conflicting.items in
    let absent = subst (λ l. stored_in l c.args.identity ≡ None) (sym c.self.view_is) c.requires in
    let more = stores_also es c.insert-2.new.self.entries c.args.identity d c.in_ok-insert-2.ensures.updates.2 c.in_ok-insert-2.ensures.updates.1 in
    let some : ¬ FitsAll (stored_in es) known (document d) = λ each.
    true≢false (sym (c.in_ok-note_clashes.ensures.fits.1 (subst (λ l. FitsAll (stored_in es) l (document d)) (sym c.as_slice-known.ensures.value) each)) ∙ c.if-branch.false) in
    let noted = subst (λ l. Notes c.args.identity (stored_in es) (document d) l c.note_clashes.new.pairs) c.as_slice-known.ensures.value c.in_ok-note_clashes.ensures.noted in
    let settled = c.settle.ensures.settled.0 c.if-not-settle.false in
    let fs = c.insert-2.new.self.entries in
    subst (KnowsConflicts fs c.in_ok-conflicting.conflicting.items c.note_clashes.new.pairs) (settled_in es fs c.settle.new.self settled) (knows_listed c.merge_laws.ensures d (knows_still c.self.invariant c.settle.ensures.stays) absent more c.in_ok-insert-2.ensures.ordered (ap (pending_in es) settled)
    c.note_clashes.ensures.kept c.note_clashes.ensures.ordered noted (c.fits.ensures.0 c.if-not-fits.false) some (c.in_ok-conflicting.ensures ∙ ap (λ l. l ++ c.args.identity ∷ []) c.as_slice.ensures.value))

pub returns-clause-shows : goal.returns-clause-shows
returns-clause-shows c start shown good good_shown shows =
    let es = c.self.inside.patches.entries in
    let d = c.args.patch in
    let absent = subst (λ l. stored_in l c.args.identity ≡ None) (sym c.self.view_is) c.requires in
    let more = stores_also es c.insert-2.new.self.entries c.args.identity d c.in_ok-insert-2.ensures.updates.2 c.in_ok-insert-2.ensures.updates.1 in
    let some : ¬ FitsAll (stored_in es) c.self.inside.conflicting.items (document d) = λ each.
    true≢false (sym (c.in_ok-note_clashes.ensures.fits.1 (subst (λ l. FitsAll (stored_in es) l (document d)) (sym c.as_slice-known.ensures.value) each)) ∙ c.if-branch.false) in
    let before = subst (λ l. Shows start (stored_in l) shown) (sym c.self.view_is) shows in
    record {
      patches = before.patches;
      unclashed = still_unclashed c.merge_laws.ensures c.insert-2.new.self.entries c.args.identity d (knows_still c.self.invariant c.settle.ensures.stays) absent more (ap (pending_in c.self.inside.patches.entries) (c.settle.ensures.settled.0 c.if-not-settle.false))
          (c.fits.ensures.0 c.if-not-fits.false) some before.patches before.unclashed;
      outcome = before.outcome;
    }

pub returns-clause-stored : goal.returns-clause-stored
returns-clause-stored c =
    subst (λ es. StoresAlso (stored_in es) c.args.identity (document c.args.patch) (stored_in c.insert-2.new.self.entries)) c.self.view_is
    (stores_also c.self.inside.patches.entries c.insert-2.new.self.entries c.args.identity c.args.patch c.in_ok-insert-2.ensures.updates.2 c.in_ok-insert-2.ensures.updates.1)

pub invariant_of-self-then-not-fits : goal.invariant_of-self-then-not-fits
invariant_of-self-then-not-fits c = knows_still c.self.invariant c.settle.ensures.stays

pub insert_anew-requires-clause-clash : goal.insert_anew-requires-clause-clash
insert_anew-requires-clause-clash c =
    let unfit : ¬ IfSome (option_map document c.settle.new.self.joined) (Compatible (document c.args.patch)) = λ fits. true≢false (sym (c.fits.ensures.1 fits) ∙ c.if-not-fits.true) in
    clashes_if_unfit c.merge_laws.ensures c.args.patch (knows_still c.self.invariant c.settle.ensures.stays) (ap (pending_in c.self.inside.patches.entries) (c.settle.ensures.settled.0 c.if-not-settle.false)) unfit
