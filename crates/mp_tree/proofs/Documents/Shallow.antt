-- What a loop builds is as shallow as its parts, unless one was marked as too deep.
use Rattle.std.proofs.Common.{◌≡◌, ◌≤◌, ℕ, List, [], ◌∷◌, ◌++◌, map, Bool, String, Global, string_bytes, sym, ap, ◌∙◌, subst, arith}
use Rattle.std.proofs.lemmas.List.{map-append}
use Rattle.std.specs.Map.{values_of}
use Rattle.mp_tree.specs.Document.{depth, items_depth, members_depth}
use Rattle.mp_tree.specs.View.{byte_entries, document, items, members_of}
use Rattle.mp_tree.specs.Private.Entries.{members}
use Rattle.mp_tree.specs.Private.Readings.{StaysShallow}
use Rattle.mp_tree.specs.declared.doc.Doc.{Doc}
use Rattle.mp_tree.proofs.Documents.Depths.{items_depth-append-by, members_depth-put}
use Rattle.mp_tree.proofs.Maps.Building.{seen-byte_entries}

pub one_more_item : {before here after : Bool} {levels : ℕ} (ds new : List Doc) (d : Doc) → StaysShallow before here (items_depth (items ds)) levels → new ≡ ds ++ d ∷ [] → StaysShallow here after (depth (document d)) levels
    → StaysShallow before after (items_depth (items new)) levels
one_more_item ds new d so_far pushed is none =
    let last = is none in
    let first = so_far last.0 in
    (first.0, omega (arith, first.1, last.1, ap (λ es. items_depth (items es)) pushed, items_depth-append-by document ds (d ∷ [])))

pub one_more_member : {before here after : Bool} {levels : ℕ} (es new : List (String Global × Doc)) (n : String Global) (d : Doc) → StaysShallow before here (items_depth (items (values_of es))) levels → new ≡ es ++ (n, d) ∷ []
    → StaysShallow here after (depth (document d)) levels → StaysShallow before after (items_depth (items (values_of new))) levels
one_more_member es new n d so_far pushed = one_more_item (values_of es) (values_of new) d so_far (ap values_of pushed ∙ map-append (λ e. e.1) es ((n, d) ∷ []))

pub members_within : (es : List (String Global × Doc)) → members_depth (members es) ≤ items_depth (items (values_of es))
members_within [] = omega arith
members_within (e ∷ es) = omega (arith, members_depth-put (string_bytes e.0) (document e.1) (members es), members_within es)

-- a map that has the pairs has their members
members-same : (es fs : List (String Global × Doc)) → byte_entries es ≡ byte_entries fs → members es ≡ members fs
members-same es fs same = ap members_of (seen-byte_entries document es ∙ ap (map (λ p. (p.0, document p.1))) same ∙ sym (seen-byte_entries document fs))

pub shallow_members : {before after : Bool} {levels : ℕ} (es : List (String Global × Doc)) → StaysShallow before after (items_depth (items (values_of es))) levels → StaysShallow before after (members_depth (members es)) levels
shallow_members es stays none =
    let held = stays none in
    (held.0, omega (arith, held.1, members_within es))

pub shallow_map : {before after : Bool} {levels : ℕ} (es fs : List (String Global × Doc)) → byte_entries es ≡ byte_entries fs → StaysShallow before after (items_depth (items (values_of fs))) levels
    → StaysShallow before after (members_depth (members es)) levels
shallow_map {before = before} {after = after} {levels = levels} es fs same stays = subst (λ ms. StaysShallow before after (members_depth ms) levels) (sym (members-same es fs same)) (shallow_members fs stays)
