use Rattle.std.proofs.Common.{◌≡◌, ◌≤◌, ◌∙◌, ap, arith, map, string_bytes, subst, sym}
use Rattle.std.proofs.lemmas.List.{take_all}
use Rattle.mp_tree.specs.Document.{Document, depth, depth_limit, list}
use Rattle.mp_tree.specs.Elements.{items_of}
use Rattle.mp_tree.specs.View.{document}
use Rattle.mp_tree.specs.declared.doc.Doc.TheVariants as doc
use Rattle.mp_tree.proofs.Facts.{document-Items}
use Rattle.mp_texts.specs.Answers.{IsTextOf, place_of, places_list}
use Rattle.mp_texts.proofs.Places.{places_depth}
use Rattle.mp_texts.proofs.Readings.{text_written}
use Rattle.mp_texts.proofs.writing.write_places.Goals as goal

pub returns : goal.returns
returns c =
    let spellings = c.loop-place.spellings in
    let places = c.args.places.now in
    let written = c.in_ok-write_doc in
    let all = take_all c.loop-place.place-index places (omega (arith, c.loop-place-test.false)) in
    let is : document (doc.Items spellings) ≡ places_list places = document-Items spellings ∙ ap (λ ds. list (items_of ds)) (c.loop-place.invariant ∙ ap (map place_of) all) in
    let within : depth (document (doc.Items spellings)) ≤ depth_limit = subst (λ (d : Document). depth d ≤ depth_limit) (sym is) (places_depth places) in
    subst (λ (d : Document). IsTextOf d (string_bytes written.field-0)) is (text_written (document (doc.Items spellings)) (string_bytes written.field-0) written.ensures.text written.ensures.reads_back within)
