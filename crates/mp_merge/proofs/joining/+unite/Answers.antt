use Rattle.std.proofs.Common.{true, false, Some, IfOk, IsOk, OnErr, string_bytes, refl, sym, ap, ◌∙◌, subst, rules, arith}
use Rattle.std.proofs.lemmas.Result.{IfOk-weaker, on_err_weaker, err_from_is_err_and}
use Rattle.mp_tree.specs.Document.{object, find}
use Rattle.mp_tree.specs.View.{members_by}
use Rattle.mp_tree.proofs.Facts.{IsMap-by, inserted-by, looked_up-by, put-by}
use Rattle.mp_merge.specs.Join.{AddsNothing}
use Rattle.mp_merge.specs.Private.Unions.{AddsNothingAt, Reunites, ReunitesAt, UnitesTo, UnitesAt}
use Rattle.mp_merge.proofs.Clashes.ByName.{compatible_all, compatible_first, no_map}
use Rattle.mp_merge.proofs.Joins.Reunited.{absent_adds, adds_nothing_next, reunites_set, unites_again, unites_on}
use Rattle.mp_merge.proofs.Joins.Union.{union_with-absent, clash_with_other, unites_plain}
use Rattle.mp_merge.proofs.Collections.Members.{next_change_by, no_changes_by, pass_change_by}
use Rattle.mp_merge.proofs.joining.+unite.Goals as goal

-- ---- two patches

pub unite-returns-in-Some-members_mut : goal.unite-returns-in-Some-members_mut
unite-returns-in-Some-members_mut g t c =
    let f = g.T.Node.means in
    let w = c.unite_members.new.entries in
    let patch = c.in-Some.ensures.value in
    let made = c.in-Some-members_mut.ensures.made in
    let before = ap f c.in-Some-members_mut.ensures.value ∙ made c.in-Some-members_mut.entries.now in
    let united : IfOk c.unite_members.result (λ united. UnitesTo united (f c.args.patch.now) (Some (f c.args.joined.now)) (f (g.T.Node.of_members w))) =
    IfOk-weaker c.unite_members.result _ _ (λ united is. rw (patch, before, made w) is) c.unite_members.ensures.united in
    let resumes : OnErr c.unite_members.result (Reunites (f c.args.patch.now) (Some (f c.args.joined.now)) (Some (f (g.T.Node.of_members w)))) =
    on_err_weaker c.unite_members.result (λ again. rw (patch, before, made w) again) c.unite_members.ensures.resumes in
    record {
      united = united;
      resumes = resumes;
      no_memory = λ adds. c.unite_members.ensures.no_memory (subst (λ d. AddsNothing d (object (members_by f c.in-Some.changes.now.entries))) before (subst (AddsNothing (f c.args.joined.now)) patch adds));
    }

pub unite-returns-in_default-clause-united : goal.unite-returns-in_default-clause-united
unite-returns-in_default-clause-united g t c =
    rw c.in-Some.ensures.value (clash_with_other (members_by g.T.Node.means c.in-Some.changes.now.entries) (g.T.Node.means c.args.joined.now) c.in_default.ensures.value)

pub unite-returns-in-None-clause-united : goal.unite-returns-in-None-clause-united
unite-returns-in-None-clause-united g t c = unites_plain c.equals.result (g.T.Node.means c.args.patch.now) (g.T.Node.means c.args.joined.now) (no_map (g.T.Node.means c.args.patch.now) c.in-None.ensures.value) c.equals.ensures

-- ---- one name

pub unite_entry-returns-in-Some : goal.unite_entry-returns-in-Some
unite_entry-returns-in-Some g t c =
    let f = g.T.Node.means in
    let good = c.requires.1.1.1 in
    let n = c.args.name.now in
    let p = f c.args.change.now in
    let old = c.args.entries.now in
    let w = c.unite.new.joined in
    let later = c.get_mut.follows.lender w in
    let stood = looked_up-by f good old.entries refl c.in-Some.ensures.value in
    let set = inserted-by f good n old later w ((c.get_mut.follows.holds w).3 (search rules)) in
    record {
      united = IfOk-weaker c.unite.result _ _ (λ united is. (f w, subst (λ o. UnitesTo united p o (f w)) (sym stood) is, set)) c.unite.ensures.united;
      resumes = on_err_weaker c.unite.result (λ again. reunites_set n p (f w) (members_by f old.entries) (members_by f later.entries) set (subst (λ o. Reunites p o (Some (f w))) (sym stood) again)) c.unite.ensures.resumes;
      no_memory = λ adds. c.unite.ensures.no_memory (subst (λ o. AddsNothingAt o p) stood adds);
    }

pub unite_entry-returns-in_err-value-in-None-clause-no_memory : goal.unite_entry-returns-in_err-value-in-None-clause-no_memory
unite_entry-returns-in_err-value-in-None-clause-no_memory g t c adds = absurd (absent_adds (looked_up-by g.T.Node.means c.requires.1.1.1 c.args.entries.now.entries refl c.in-None.ensures.value) adds)

pub unite_entry-returns-in_err-from_str-in-None-clause-no_memory : goal.unite_entry-returns-in_err-from_str-in-None-clause-no_memory
unite_entry-returns-in_err-from_str-in-None-clause-no_memory g t c adds = absurd (absent_adds (looked_up-by g.T.Node.means c.requires.1.1.1 c.args.entries.now.entries refl c.in-None.ensures.value) adds)

pub unite_entry-returns-in_err-insert-in-None-clause-no_memory : goal.unite_entry-returns-in_err-insert-in-None-clause-no_memory
unite_entry-returns-in_err-insert-in-None-clause-no_memory g t c adds = absurd (absent_adds (looked_up-by g.T.Node.means c.requires.1.1.1 c.args.entries.now.entries refl c.in-None.ensures.value) adds)

pub unite_entry-returns-in_ok-insert-in-None-clause-united : goal.unite_entry-returns-in_ok-insert-in-None-clause-united
unite_entry-returns-in_ok-insert-in-None-clause-united g t c =
    let f = g.T.Node.means in
    let good = c.requires.1.1.1 in
    let p = f c.args.change.now in
    let stood = looked_up-by f good c.args.entries.now.entries refl c.in-None.ensures.value in
    let set = put-by f good c.args.entries.now c.insert.new.self c.in_ok-value-in-None.value c.get_mut.follows.holds-at-none c.in_ok-from_str-in-None.ensures.ok c.in_ok-value-in-None.ensures.equal c.in_ok-insert-in-None.ensures.updates in
    (p, subst (λ o. UnitesTo true p o p) (sym stood) (tt, sym (union_with-absent p)), set)

-- ---- name by name

pub unite_members-unite_entry-requires : goal.unite_members-unite_entry-requires
unite_members-unite_entry-requires g t c κs within =
    let next = next_change_by g.T.Node.means c.requires.documents c.loop-name.invariant c.in-Some.ensures.steps in
    let no_deeper = next.holds.no_deeper in (omega (arith, c.decreases), (within, c.requires.documents))

pub unite_members-loop-name-preserved : goal.unite_members-loop-name-preserved
unite_members-loop-name-preserved g t c =
    let f = g.T.Node.means in
    let good = c.requires.documents in
    let n = string_bytes c.in-Some.name.now in
    let p = f c.in-Some.change.now in
    let js = members_by f c.loop-name.entries.entries in
    let now = members_by f c.unite_entry.new.entries.entries in
    let at : UnitesAt true n p js now = subst (λ k. UnitesAt true k p js now) c.as_str.ensures.value (subst (λ b. UnitesAt b c.as_str.result.now p js now) c.if-not-branch.false c.in_ok-unite_entry.ensures.united) in
    pass_change_by f good c.loop-name.invariant c.in-Some.ensures.steps (λ map on. unites_on (IsMap-by f good c.loop-name.entries.entries) (IsMap-by f good c.args.changes.now.entries) on (IsMap-by f good c.unite_entry.new.entries.entries) map at)

pub unite_members-returns-in_err-unite_entry : goal.unite_members-returns-in_err-unite_entry
unite_members-returns-in_err-unite_entry g t c =
    let f = g.T.Node.means in
    let good = c.requires.documents in
    let p = f c.in-Some.change.now in
    let js = members_by f c.loop-name.entries.entries in
    let now = c.unite_entry.new.entries.entries in
    let named = c.as_str.ensures.value in
    let on = (next_change_by f good c.loop-name.invariant c.in-Some.ensures.steps).holds in
    let map = IsMap-by f good c.loop-name.entries.entries in
    let all = IsMap-by f good c.args.changes.now.entries in
    let failed = err_from_is_err_and c.from_residual.result c.from_residual.ensures.1 in
    record {
      united = search rules;
      resumes = rw failed.1 (unites_again map all on (IsMap-by f good now) (subst (λ k. ReunitesAt k p js (members_by f now)) named c.in_err-unite_entry.ensures.resumes));
      no_memory = λ adds.
          let done = c.unite_entry.ensures.no_memory (subst (λ k. AddsNothingAt (find k js) p) (sym named) (adds_nothing_next map all on adds)) in
          absurd (let never = subst (λ r. IsOk r) c.in_err-unite_entry.was done in cc);
    }

pub unite_members-returns-then-not-branch-clause-united : goal.unite_members-returns-then-not-branch-clause-united
unite_members-returns-then-not-branch-clause-united g t c =
    let f = g.T.Node.means in
    let n = string_bytes c.in-Some.name.now in
    let p = f c.in-Some.change.now in
    let js = members_by f c.loop-name.entries.entries in
    let now = members_by f c.unite_entry.new.entries.entries in
    let at : UnitesAt false n p js now = subst (λ k. UnitesAt false k p js now) c.as_str.ensures.value (subst (λ b. UnitesAt b c.as_str.result.now p js now) c.if-not-branch.true c.in_ok-unite_entry.ensures.united) in
    let next = next_change_by f c.requires.documents c.loop-name.invariant c.in-Some.ensures.steps in
    λ free. at.1 (compatible_first next.holds.clashes free)

pub unite_members-returns-clause-united : goal.unite_members-returns-clause-united
unite_members-returns-clause-united g t c =
    let all = no_changes_by g.T.Node.means c.loop-name.invariant c.in-None.ensures.steps.0 in
    (compatible_all all.clashes, ap object (sym all.result))
