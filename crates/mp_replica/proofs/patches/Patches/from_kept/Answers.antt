use Rattle.std.proofs.Common.{length, refl, sym}
use Rattle.mp_pointer.proofs.Facts.{handed_on}
use Rattle.std.proofs.lemmas.Bool.{eqb-true}
use Rattle.std.proofs.lemmas.List.{nil_from_length}
use Rattle.mp_replica.specs.Held.{held_places}
use Rattle.mp_replica.specs.Kept.{IsHeldBy, IsNoKept, mark}
use Rattle.mp_replica.proofs.Keeping.{held_conflict, held_nothing, kept_again, marked_text, no_kept}
use Rattle.mp_replica.proofs.patches.Patches.from_kept.Goals as goal

pub returns-then-is_empty-clause-taken : goal.returns-then-is_empty-clause-taken
returns-then-is_empty-clause-taken c before taken kept has =
    let text = c.args.kept.now in
    let empty = nil_from_length text (eqb-true (length text) 0 (sym c.if-is_empty.ensures)) in
    kept_again c.text_laws.ensures.one_spelling text before c.new.result taken kept (held_nothing text c.new.result empty c.new.ensures.joined c.new.ensures.pending c.new.ensures.places) has

pub returns-then-kept-eq33-clause-taken : goal.returns-then-kept-eq33-clause-taken
returns-then-kept-eq33-clause-taken c before taken kept has =
    let text = c.args.kept.now in
    let marked = marked_text text 0 mark c.if-is_empty.ensures c.if-kept-eq33.true in
    rw c.of.ensures (kept_again c.text_laws.ensures.one_spelling text before _ taken kept (held_conflict text _ (held_places c.in_ok-places.places) marked c.in_ok-places.ensures) has)

pub returns-clause-taken : goal.returns-clause-taken
returns-clause-taken c before taken kept has = rw c.of-2.ensures (kept_again c.text_laws.ensures.one_spelling c.args.kept.now before _ taken kept (refl, c.in_ok-joined.ensures) has)

pub returns-in_err-places-clause-held : goal.returns-in_err-places-clause-held
returns-in_err-places-clause-held c =
    let text = c.args.kept.now in
    let marked = marked_text text 0 mark c.if-is_empty.ensures c.if-kept-eq33.true in
    handed_on (λ patches. IsHeldBy text patches) (λ fault. IsNoKept fault text) c.from_residual.result c.from_residual.ensures.1 (no_kept c.in_err-places.field-0.0 text _ marked c.in_err-places.ensures)
