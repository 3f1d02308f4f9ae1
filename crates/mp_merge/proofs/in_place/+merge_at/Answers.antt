use Rattle.std.proofs.Common.{◌≡◌, Some, String, BTreeMap, Global, IsOk, refl, sym, ap, ◌∙◌, subst, rules}
use Rattle.std.proofs.lemmas.Bool.{iff_false}
use Rattle.std.proofs.lemmas.Result.{on_ok_weaker, on_err_weaker, err_from_is_err_and}
use Rattle.mp_tree.specs.Document.{Document, object, find, put}
use Rattle.mp_tree.specs.View.{document}
use Rattle.mp_tree.specs.Private.Entries.{members}
use Rattle.mp_tree.specs.declared.doc.Doc.{Doc, Members as Map}
use Rattle.mp_tree.proofs.Facts.{IsDocument-document, IsMap-members, members-inserted, members-removed, document-Members, document-Null, document_of_map, looked_up, members-put}
use Rattle.mp_merge.specs.Application.{set_or_remove, merge_patch, merge_patch_members, target_members}
use Rattle.mp_merge.specs.Private.Merging.{NeedsNoneAt, ResumesAt}
use Rattle.mp_merge.specs.Resumption.{NeedsNoMemory}
use Rattle.mp_merge.proofs.Application.ByName.{set_or_remove-other}
use Rattle.mp_merge.proofs.Application.Resumption.{absent_needs, merges_again, merges_into_null, merges_on, needs_in, needs_none_next, present_needs, set_resumes}
use Rattle.mp_merge.proofs.Collections.Members.{next_change_by, pass_change_by}
use Rattle.mp_merge.proofs.in_place.+merge_at.Goals as goal

-- ---- an object into a target

-- the target has become an object with these entries
made_entries : {d : Doc} (t : Document) (m : BTreeMap (String Global) Doc) → document d ≡ object (target_members (Some t)) → d ≡ Map m → members m.entries ≡ target_members (Some t)
made_entries t m made is = let same : object (members m.entries) ≡ object (target_members (Some t)) = sym (document_of_map m is) ∙ made in cc

pub merge_at-returns-in-Some : goal.merge_at-returns-in-Some
merge_at-returns-in-Some t c =
    let old = document c.args.target.now in
    let changes = members c.in-Members.changes.entries in
    let patch = document_of_map c.in-Members.changes c.in-Members.is in
    let made = made_entries old c.in-Some.entries.now c.make_object.ensures c.in-Some.ensures.value in
    let merged = ap (λ ts. merge_patch_members ts changes) made in
    record {
      merged = on_ok_weaker c.merge_members.result (λ is. document-Members c.merge_members.new.entries ∙ ap object (is ∙ merged) ∙ ap (merge_patch (Some old)) (sym patch)) c.merge_members.ensures.merged;
      resumes = on_err_weaker c.merge_members.result (λ is. rw (patch, document-Members c.merge_members.new.entries) (ap object (is ∙ merged))) c.merge_members.ensures.resumes;
      no_memory = λ needs. c.merge_members.ensures.no_memory (rw made (needs_in old changes (subst (NeedsNoMemory old) patch needs)));
    }

-- ---- one name

pub merge_entry-returns-then-is_null-clause-merged : goal.merge_entry-returns-then-is_null-clause-merged
merge_entry-returns-then-is_null-clause-merged t c =
    let n = c.args.name.now in
    let old = c.args.entries.now in
    let ts = members old.entries in
    members-removed n old c.remove.new.self c.remove.ensures.updates ∙ ap (λ p. set_or_remove n p (merge_patch (find n ts) p) ts) (sym (c.is_null.ensures.0 c.if-is_null.true))

pub merge_entry-returns-in-Some : goal.merge_entry-returns-in-Some
merge_entry-returns-in-Some t c =
    let n = c.args.name.now in
    let p = document c.args.change.now in
    let old = c.args.entries.now in
    let w = c.merge_at.new.target in
    let later = c.get_mut.follows.lender w in
    let other = iff_false c.is_null.ensures c.if-is_null.false in
    let stood = looked_up old.entries refl c.in-Some.ensures.value in
    let set = members-inserted n old later w ((c.get_mut.follows.holds w).3 (search rules)) in
    let whole = ap (λ o. merge_patch o p) (sym stood) in
    record {
      merged = on_ok_weaker c.merge_at.result (λ is. set ∙ ap (λ d. put n d (members old.entries)) (is ∙ whole) ∙ sym (set_or_remove-other n p _ _ other)) c.merge_at.ensures.merged;
      resumes = on_err_weaker c.merge_at.result (λ again. set_resumes n p (document w) (members old.entries) (members later.entries) set (again ∙ whole)) c.merge_at.ensures.resumes;
      no_memory = λ needs. c.merge_at.ensures.no_memory (present_needs other stood needs);
    }

pub merge_entry-returns-in_err-merge_at-in-None-clause-no_memory : goal.merge_entry-returns-in_err-merge_at-in-None-clause-no_memory
merge_entry-returns-in_err-merge_at-in-None-clause-no_memory t c needs = absurd (absent_needs (iff_false c.is_null.ensures c.if-is_null.false) (looked_up c.args.entries.now.entries refl c.in-None.ensures.value) needs)

pub merge_entry-returns-in_err-from_str-in-None-clause-no_memory : goal.merge_entry-returns-in_err-from_str-in-None-clause-no_memory
merge_entry-returns-in_err-from_str-in-None-clause-no_memory t c needs = absurd (absent_needs (iff_false c.is_null.ensures c.if-is_null.false) (looked_up c.args.entries.now.entries refl c.in-None.ensures.value) needs)

pub merge_entry-returns-in_err-insert-in-None-clause-no_memory : goal.merge_entry-returns-in_err-insert-in-None-clause-no_memory
merge_entry-returns-in_err-insert-in-None-clause-no_memory t c needs = absurd (absent_needs (iff_false c.is_null.ensures c.if-is_null.false) (looked_up c.args.entries.now.entries refl c.in-None.ensures.value) needs)

pub merge_entry-returns-in_ok-insert-in-None-clause-merged : goal.merge_entry-returns-in_ok-insert-in-None-clause-merged
merge_entry-returns-in_ok-insert-in-None-clause-merged t c =
    let p = document c.args.change.now in
    let stood = looked_up c.args.entries.now.entries refl c.in-None.ensures.value in
    let is = c.in_ok-merge_at-in-None.ensures.merged ∙ ap (λ v. merge_patch (Some v) p) document-Null ∙ merges_into_null p ∙ ap (λ o. merge_patch o p) (sym stood) in
    members-put c.args.entries.now c.insert.new.self c.merge_at-in-None.new.target c.get_mut.follows.holds-at-none c.in_ok-from_str-in-None.ensures.ok is c.in_ok-insert-in-None.ensures.updates ∙ sym (set_or_remove-other _ p _ _ (iff_false c.is_null.ensures c.if-is_null.false))

-- ---- name by name

pub merge_members-loop-name-preserved : goal.merge_members-loop-name-preserved
merge_members-loop-name-preserved t c =
    let l = c.loop-name in
    let p = document c.in-Some.change.now in
    let ts = members l.entries.entries in
    let made = c.in_ok-merge_entry.ensures.merged ∙ ap (λ k. set_or_remove k p (merge_patch (find k ts) p) ts) c.as_str.ensures.value in
    pass_change_by document IsDocument-document l.invariant c.in-Some.ensures.steps (λ map on. merges_on (IsMap-members l.entries.entries) (IsMap-members c.args.changes.now.entries) on (IsMap-members c.merge_entry.new.entries.entries) map made)

pub merge_members-returns-in_err-merge_entry : goal.merge_members-returns-in_err-merge_entry
merge_members-returns-in_err-merge_entry t c =
    let l = c.loop-name in
    let p = document c.in-Some.change.now in
    let ts = members l.entries.entries in
    let now = c.merge_entry.new.entries.entries in
    let named = c.as_str.ensures.value in
    let on = (next_change_by document IsDocument-document l.invariant c.in-Some.ensures.steps).holds in
    let map = IsMap-members l.entries.entries in
    let good = IsMap-members c.args.changes.now.entries in
    let failed = err_from_is_err_and c.from_residual.result c.from_residual.ensures.1 in
    record {
      merged = search rules;
      resumes = rw failed.1 (merges_again map good on (IsMap-members now) (subst (λ k. ResumesAt k p ts (members now)) named c.in_err-merge_entry.ensures.resumes));
      no_memory = λ needs.
          let done = c.merge_entry.ensures.no_memory (subst (λ k. NeedsNoneAt p (find k ts)) (sym named) (needs_none_next map good on needs)) in
          absurd (let never = subst (λ r. IsOk r) c.in_err-merge_entry.was done in cc);
    }
