use Rattle.std.proofs.Common.{◌≡◌, None, Some, sym, subst}
use Rattle.mp_tree.specs.View.{document}
use Rattle.mp_merge.specs.Clash.{Compatible}
use Rattle.mp_replica.specs.PatchLog.{ClashesWithNone, StoresAlso, stored_in}
use Rattle.mp_replica.specs.Private.Pairs.{Notes}
use Rattle.mp_replica.specs.Private.StoredPatches.{AreConflictingWith, JoinsOthers, KnowsConflicts, join_in}
use Rattle.mp_replica.proofs.Conflicting.{knows_disputes, knows_noted, others_are_apart}
use Rattle.mp_replica.proofs.Identities.{stores_also}
use Rattle.mp_replica.proofs.stored_patches.StoredPatches.insert_anew.Goals as goal

pub join_of_others-requires : goal.join_of_others-requires
join_of_others-requires c =
    let es = c.self.inside.patches.entries in
    let p = document c.args.patch in
    let found = c.in_ok-conflicting.conflicting.items in
    let are = subst (λ l. AreConflictingWith (stored_in es) c.args.identity p l found) c.as_slice-known.ensures.value c.in_ok-conflicting.ensures in
    let apart = others_are_apart (stored_in es) c.args.identity p c.self.inside.conflicting.items found c.self.invariant.conflicting are in
    subst (λ l. (i j : _) (q r : _) → stored_in es i ≡ Some q → stored_in es j ≡ Some r → ¬ Rattle.std.specs.List.Contains l i → ¬ Rattle.std.specs.List.Contains l j → Compatible q r) (sym c.as_slice.ensures.value) apart

pub invariant_of-self : goal.invariant_of-self
invariant_of-self c = knows_noted c.note_clashes.ensures.kept c.note_clashes.ensures.ordered c.self.invariant

pub invariant_of-self-in_err-joined : goal.invariant_of-self-in_err-joined
invariant_of-self-in_err-joined c = knows_noted c.note_clashes.ensures.kept c.note_clashes.ensures.ordered c.self.invariant

pub invariant_of-self-in_err-insert : goal.invariant_of-self-in_err-insert
invariant_of-self-in_err-insert c =
    subst (λ es. KnowsConflicts es c.self.inside.conflicting.items c.note_clashes.new.pairs (join_in es c.self.inside.join)) (sym c.in_err-insert.ensures.err) (knows_noted c.note_clashes.ensures.kept c.note_clashes.ensures.ordered c.self.invariant)

pub invariant_of-self-2 : goal.invariant_of-self-2
invariant_of-self-2 c =
    let es = c.self.inside.patches.entries in
    let d = c.args.patch in
    let found = c.in_ok-conflicting.conflicting.items in
    let absent = subst (λ l. stored_in l c.args.identity ≡ None) (sym c.self.view_is) c.requires.absent in
    let more = stores_also es c.insert.new.self.entries c.args.identity d c.in_ok-insert.ensures.updates.2 c.in_ok-insert.ensures.updates.1 in
    let are = subst (λ l. AreConflictingWith (stored_in es) c.args.identity (document d) l found) c.as_slice-known.ensures.value c.in_ok-conflicting.ensures in
    let others = subst (λ l. JoinsOthers (stored_in es) l (record { joined = c.in_ok-joined.joined; pending = None })) c.as_slice.ensures.value c.in_ok-joined.ensures in
    let clash = subst (λ l. ¬ ClashesWithNone (stored_in l) (document d)) (sym c.self.view_is) c.requires.clash in
    let noted = subst (λ l. Notes c.args.identity (stored_in es) (document d) l c.note_clashes.new.pairs) c.as_slice-others.ensures.value c.in_ok-_fits.ensures.noted in
    knows_disputes c.merge_laws.ensures d c.self.invariant absent more c.in_ok-insert.ensures.ordered c.note_clashes.ensures.kept c.note_clashes.ensures.ordered clash are noted others

pub returns-clause-stored : goal.returns-clause-stored
returns-clause-stored c =
    subst (λ es. StoresAlso (stored_in es) c.args.identity (document c.args.patch) (stored_in c.insert.new.self.entries)) c.self.view_is
    (stores_also c.self.inside.patches.entries c.insert.new.self.entries c.args.identity c.args.patch c.in_ok-insert.ensures.updates.2 c.in_ok-insert.ensures.updates.1)
