-- The elements of a list: as many, at an index, one of them set, one list after another.
use Rattle.std.proofs.Common.{◌≡◌, ◌≤◌, ◌<◌, ◌++◌, ℕ, zero, suc, max, List, [], ◌∷◌, length, map, get_or, set, None, Some, option_map, refl, sym, ap, ap₂, ◌∙◌, arith}
use Rattle.std.proofs.lemmas.List.Elements.{All-head, All-tail, All-weaker}
use Rattle.std.specs.List.{All, slice_get}
use Rattle.mp_tree.specs.Document.{Document, Items, no_items, item, IsDocument, IsReadable, AreDocuments, items_depth}
use Rattle.mp_tree.specs.Elements.{append, count_of, list_of, nth}
use Rattle.mp_tree.specs.View.{items_by}

-- ---- as many, and as a list

pub count_of-items-by : {V : Type 0} (f : V → Document) (vs : List V) → count_of (items_by f vs) ≡ length vs
count_of-items-by f [] = refl
count_of-items-by f (v ∷ vs) = ap suc (count_of-items-by f vs)

pub list_of-by : {V : Type 0} (f : V → Document) (vs : List V) → list_of (items_by f vs) ≡ map f vs
list_of-by f [] = refl
list_of-by f (v ∷ vs) = ap (λ ds. f v ∷ ds) (list_of-by f vs)

-- ---- at an index

pub nth-items-by : {V : Type 0} (f : V → Document) (i : ℕ) (vs : List V) → nth i (items_by f vs) ≡ option_map f (slice_get vs i)
nth-items-by f i [] = refl
nth-items-by f zero (v ∷ vs) = refl
nth-items-by f (suc i) (v ∷ vs) = nth-items-by f i vs

pub nth-here-by : {V : Type 0} (f : V → Document) (vs : List V) (i : ℕ) (x : V) → i < length vs → x ≡ get_or vs i x → nth i (items_by f vs) ≡ Some (f x)
nth-here-by f [] i x less is = absurd (omega arith)
nth-here-by f (v ∷ vs) zero x less is = ap (λ z. Some (f z)) (sym is)
nth-here-by f (v ∷ vs) (suc i) x less is = nth-here-by f vs i x (omega arith) is

pub nth_past : (i : ℕ) (ds : Items) → count_of ds ≤ i → nth i ds ≡ None
nth_past i no_items past = refl
nth_past zero (item d ds) past = absurd (omega arith)
nth_past (suc i) (item d ds) past = nth_past i ds (omega arith)

-- ---- one of them is set

abbrev pub set_item : ℕ → Document → Items → Items
set_item i y no_items = no_items
set_item zero y (item d ds) = item y ds
set_item (suc i) y (item d ds) = item d (set_item i y ds)

pub count_of-set : (i : ℕ) (y : Document) (ds : Items) → count_of (set_item i y ds) ≡ count_of ds
count_of-set i y no_items = refl
count_of-set zero y (item d ds) = refl
count_of-set (suc i) y (item d ds) = ap suc (count_of-set i y ds)

pub nth-set : (i : ℕ) (x y : Document) (ds : Items) → nth i ds ≡ Some x → nth i (set_item i y ds) ≡ Some y
nth-set i x y no_items is = cc
nth-set zero x y (item d ds) is = refl
nth-set (suc i) x y (item d ds) is = nth-set i x y ds is

pub items-set-by : {V : Type 0} (f : V → Document) (vs : List V) (i : ℕ) (y : V) → items_by f (set vs i y) ≡ set_item i (f y) (items_by f vs)
items-set-by f [] i y = refl
items-set-by f (v ∷ vs) zero y = refl
items-set-by f (v ∷ vs) (suc i) y = ap (item (f v)) (items-set-by f vs i y)

-- ---- one list after another

pub items-append-by : {V : Type 0} (f : V → Document) (ds es : List V) → items_by f (ds ++ es) ≡ append (items_by f ds) (items_by f es)
items-append-by f [] es = refl
items-append-by f (d ∷ ds) es = ap (item (f d)) (items-append-by f ds es)

pub all_before : (ds : Items) → ds ≡ append ds no_items
all_before no_items = refl
all_before (item d ds) = ap (item d) (all_before ds)

pub append_nothing : (front other : Items) → append front no_items ≡ append other no_items → front ≡ other
append_nothing front other same = all_before front ∙ same ∙ sym (all_before other)

pub count_of-append : (front back : Items) → count_of front ≤ count_of (append front back)
count_of-append no_items back = omega arith
count_of-append (item d front) back = omega (arith, count_of-append front back)

pub nth_split : (i : ℕ) (ds : Items) (x : Document) → nth i ds ≡ Some x → (front : Items) × (back : Items) × (count_of front ≡ i) × (ds ≡ append front (item x back))
nth_split i no_items x is = cc
nth_split zero (item d ds) x is = let same : d ≡ x = cc in (no_items, ds, refl, ap (λ e. item e ds) same)
nth_split (suc i) (item d ds) x is = let rest = nth_split i ds x is in (item d rest.0, rest.1, ap suc rest.2, ap (item d) rest.3)

pub same_parts : (front back front' back' : Items) → count_of front ≡ count_of front' → append front back ≡ append front' back' → (front ≡ front') × (back ≡ back')
same_parts no_items back no_items back' long same = (refl, same)
same_parts no_items back (item d front') back' long same = absurd (omega arith)
same_parts (item d front) back no_items back' long same = absurd (omega arith)
same_parts (item d front) back (item d' front') back' long same =
    let first : d ≡ d' = head same in
    let later : append front back ≡ append front' back' = tail same in
    let rest = same_parts front back front' back' (omega arith) later in
    (ap₂ item first rest.0, rest.1)
  where
    head : item d (append front back) ≡ item d' (append front' back') → d ≡ d'
    head e = cc

    tail : item d (append front back) ≡ item d' (append front' back') → append front back ≡ append front' back'
    tail e = cc

pub depth-append : (front back : Items) → items_depth (append front back) ≡ max (items_depth front) (items_depth back)
depth-append no_items back = omega arith
depth-append (item d front) back = omega (arith, depth-append front back)

pub append-documents : (front back : Items) → AreDocuments front → AreDocuments back → AreDocuments (append front back)
append-documents no_items back f b = b
append-documents (item d front) back f b = (f.0, append-documents front back f.1 b)

pub documents-append : (front back : Items) → AreDocuments (append front back) → AreDocuments front × AreDocuments back
documents-append no_items back good = (tt, good)
documents-append (item d front) back good = let rest = documents-append front back good.1 in ((good.0, rest.0), rest.1)

-- ---- what can be read is documents

pub readable_documents : (ds : List Document) → All IsReadable ds → All IsDocument ds
readable_documents ds can = All-weaker IsReadable IsDocument (λ d is. is.is_document) ds can

pub readable_items : (ds : Items) → All IsReadable (list_of ds) → AreDocuments ds
readable_items no_items can = tt
readable_items (item d ds) can = ((All-head IsReadable d (list_of ds) can).is_document, readable_items ds (All-tail IsReadable d (list_of ds) can))
