use Rattle.std.proofs.Common.{◌≡◌, ◌≢◌, List, Ok, ◌∙◌, ap, map, subst, sym, true≢false}
use Rattle.mp_tree.specs.Look.{Path}
use Rattle.mp_tree.specs.View.{document}
use Rattle.mp_tree.proofs.Facts.{document-Items}
use Rattle.mp_replica.specs.Kept.{AreKeptPlaces}
use Rattle.mp_texts.specs.Answers.{place_of}
use Rattle.mp_replica.proofs.Keeping.{unread_places, unread_unless_kept}
use Rattle.mp_replica.proofs.kept.array_of.Goals as goal

pub returns-in_default-2-clause-read : goal.returns-in_default-2-clause-read
returns-in_default-2-clause-read c =
    let docs = c.in-Items.spellings in
    let read = c.in_ok-spellings.ensures ∙ ap Ok (ap document c.in-Items.is ∙ document-Items docs) in
    let none : (places : List Path) → map document c.as_slice.result.now ≢ map place_of places = rw c.in_default-2.is at c.in_ok-places.ensures in
    unread_places c.args.more c.args.text.now docs.items read (subst (λ ds. (places : List Path) → map document ds ≢ map place_of places) c.as_slice.ensures.value none)

pub returns-then-not-are_kept-clause-read : goal.returns-then-not-are_kept-clause-read
returns-then-not-are_kept-clause-read c =
    let text = c.args.text.now in
    let docs = c.in-Items.spellings in
    let more = c.args.more in
    let places = c.in-Some.places.items in
    let read = c.in_ok-spellings.ensures ∙ ap Ok (ap document c.in-Items.is ∙ document-Items docs) in
    let are : map document c.as_slice.result.now ≡ map place_of places = rw c.in-Some.is at c.in_ok-places.ensures in
    let never : ¬ AreKeptPlaces (record { places = places; more = more }) = λ kept.
    true≢false (sym (c.are_kept.ensures.1 (subst (λ l. AreKeptPlaces (record { places = l; more = more })) (sym c.as_slice-2.ensures.value) kept)) ∙ c.if-not-are_kept.true) in
    unread_unless_kept c.text_laws.ensures.one_spelling more text docs.items places read (ap (map document) (sym c.as_slice.ensures.value) ∙ are) never
