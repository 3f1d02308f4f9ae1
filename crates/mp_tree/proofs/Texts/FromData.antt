-- From a value of `serde_json` to a document, part by part.
use Rattle.std.proofs.Common.{◌≡◌, ℕ, List, [], ◌∷◌, ◌++◌, map, Option, Some, None, option_map, option_and_then, String, Global, string_bytes, refl, sym, ap, ◌∙◌}
use Rattle.serde_json.specs.View.{view, items_view, members_view}
use Rattle.serde_json.specs.declared.value.Value.{Value}
use Rattle.mp_tree.specs.Document.{Document, Items, item, Members, put}
use Rattle.mp_tree.specs.View.{document, items}
use Rattle.mp_tree.specs.Private.Entries.{members}
use Rattle.mp_tree.specs.Text.{from_data, items_from_data, members_from_data}
use Rattle.mp_tree.specs.declared.doc.Doc.{Doc}
use Rattle.mp_tree.proofs.Maps.Building.{seen}
use Rattle.mp_tree.proofs.Passed.{Passed, Passed-next, Passed-push}

-- what a value is read as, and a document that was read
abbrev pub from_value : Value → Option Document
from_value v = from_data (view v)

abbrev pub read_as : Doc → Option Document
read_as d = Some (document d)

no_more : {A : Type 0} (o : Option A) → option_and_then {U = A} (λ _. None) o ≡ None
no_more None = refl
no_more (Some a) = refl

pub items_from_data-all : (vs : List Value) (ds : List Doc) → map read_as ds ≡ map from_value vs → items_from_data (items_view vs) ≡ Some (items ds)
items_from_data-all [] [] same = refl
items_from_data-all [] (d ∷ ds) same = absurd (cc)
items_from_data-all (v ∷ vs) [] same = absurd (cc)
items_from_data-all (v ∷ vs) (d ∷ ds) same =
    let first : from_value v ≡ read_as d = cc in
    let others : map read_as ds ≡ map from_value vs = cc in
    rw (first, items_from_data-all vs ds others)

pub none_after : (o : Option Document) (rest : Option Items) → rest ≡ None → option_and_then (λ e. option_map (item e) rest) o ≡ None
none_after None rest e = refl
none_after (Some d) rest e = rw e

pub items_from_data-none : (done : List Value) (v : Value) (left : List Value) → from_value v ≡ None → items_from_data (items_view (done ++ v ∷ left)) ≡ None
items_from_data-none [] v left none = rw none
items_from_data-none (w ∷ done) v left none = none_after (from_value w) _ (items_from_data-none done v left none)

pub members_from_data-all : (es : List (String Global × Value)) (fs : List (String Global × Doc)) → map (seen read_as) fs ≡ map (seen from_value) es → members_from_data (members_view es) ≡ Some (members fs)
members_from_data-all [] [] same = refl
members_from_data-all [] (f ∷ fs) same = absurd (cc)
members_from_data-all (e ∷ es) [] same = absurd (cc)
members_from_data-all (e ∷ es) (f ∷ fs) same =
    let first : seen from_value e ≡ seen read_as f = cc in
    let others : map (seen read_as) fs ≡ map (seen from_value) es = cc in
    let name : string_bytes e.0 ≡ string_bytes f.0 = ap (λ p. p.0) first in
    let value : from_value e.1 ≡ read_as f.1 = ap (λ p. p.1) first in
    rw (value, members_from_data-all es fs others, name)

pub none_below : (n : List ℕ) (o : Option Document) (rest : Option Members) → rest ≡ None → option_and_then (λ e. option_map (put n e) rest) o ≡ None
none_below n None rest e = refl
none_below n (Some d) rest e = rw e

members_from_data-none : (done : List (String Global × Value)) (e : String Global × Value) (left : List (String Global × Value)) → from_value e.1 ≡ None → members_from_data (members_view (done ++ e ∷ left)) ≡ None
members_from_data-none [] e left none = rw none
members_from_data-none (f ∷ done) e left none = none_below (string_bytes f.0) (from_value f.1) _ (members_from_data-none done e left none)

-- ---- the entries of a map that a loop reads

-- those that were passed were read as these
abbrev pub ReadMembers : List (String Global × Value) → List (String Global × Value) → List (String Global × Doc) → Type 0
ReadMembers es left fs = Passed es left (λ passed. map (seen read_as) fs ≡ map (seen from_value) passed)

pub read_one_more : {es left more : List (String Global × Value)} (fs new : List (String Global × Doc)) (n : String Global) (v : Value) (d : Doc)
    → ReadMembers es left fs → left ≡ (n, v) ∷ more → new ≡ fs ++ (n, d) ∷ [] → from_value v ≡ read_as d → ReadMembers es more new
read_one_more fs new n v d p next pushed is = Passed-push (seen read_as) (seen from_value) fs new (n, d) p next pushed (ap (λ o. (string_bytes n, o)) (sym is))

pub none_if_refused : (es left more : List (String Global × Value)) (fs : List (String Global × Doc)) (e : String Global × Value)
    → ReadMembers es left fs → left ≡ e ∷ more → from_value e.1 ≡ None → members_from_data (members_view es) ≡ None
none_if_refused es left more fs e p next none = ap (λ ps. members_from_data (members_view ps)) (Passed-next p next) ∙ members_from_data-none p.passed e more none
