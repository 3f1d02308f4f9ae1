-- The kinds at all lists of tokens determine a document.
use Rattle.std.proofs.Common.{◌≡◌, ℕ, suc, List, [], ◌∷◌, ◌++◌, Option, Some, option_and_then, refl, sym, ap, ap₂, ◌∙◌, subst, arith, false, true≢false}
use Rattle.mp_tree.specs.Document.{Document, null, flag, whole, string, list, object, Items, no_items, item, Members, no_members, member, find, is_name, IsBelow, IsDocument, AreDocuments, IsMap}
use Rattle.mp_tree.proofs.Facts.{find-below, cases_same, is_name-self}
use Rattle.mp_pointer.specs.Laws.{EqualsByPart}
use Rattle.mp_pointer.specs.Difference.{Kind, scalar, kind, kind_of, names_of}
use Rattle.mp_pointer.specs.Part.{numeral, part}
use Rattle.mp_tree.specs.Elements.{count_of, nth}
use Rattle.mp_pointer.specs.Spelling.{Tokens, BeginsWith}
use Rattle.mp_pointer.proofs.Tokens.Indices.{child-numeral}
use Rattle.mp_pointer.proofs.Parts.Along.{child-object, kind-append}

-- the kind at further tokens from what one token names
abbrev kind_from : Option Document → Tokens → Kind
kind_from o u = kind_of (option_and_then (λ d. part d u) o)

same_scalar : (v e : Document) → scalar v ≡ kind_of (Some e) → v ≡ e
same_scalar v null alike = cc
same_scalar v (flag b) alike = cc
same_scalar v (whole z) alike = cc
same_scalar v (string s) alike = cc
same_scalar v (list ds) alike = cc
same_scalar v (object ms) alike = cc

-- members but for the first
tail_alike : (n : List ℕ) (d e : Document) (ms es : Members) → IsBelow n ms → IsBelow n es → ((q : List ℕ) (u : Tokens) → kind_from (find q (member n d ms)) u ≡ kind_from (find q (member n e es)) u)
    → (q : List ℕ) (u : Tokens) → kind_from (find q ms) u ≡ kind_from (find q es) u
tail_alike n d e ms es below_ms below_es alike q u =
    cases_same q n
    (λ same. ap (λ m. kind_from (find m ms) u) same ∙ ap (λ o. kind_from o u) (find-below n ms below_ms ∙ sym (find-below n es below_es)) ∙ ap (λ m. kind_from (find m es) u) (sym same))
    (λ other.
    let left : find q (member n d ms) ≡ find q ms = rw other refl in
    let right : find q (member n e es) ≡ find q es = rw other refl in
    ap (λ o. kind_from o u) (sym left) ∙ alike q u ∙ ap (λ o. kind_from o u) right)

first_alike : (n : List ℕ) (d e : Document) (ms es : Members) → ((q : List ℕ) (u : Tokens) → kind_from (find q (member n d ms)) u ≡ kind_from (find q (member n e es)) u) → (u : Tokens) → kind d u ≡ kind e u
first_alike n d e ms es alike u =
    let left : find n (member n d ms) ≡ Some d = rw (is_name-self n) refl in
    let right : find n (member n e es) ≡ Some e = rw (is_name-self n) refl in
    ap (λ o. kind_from o u) (sym left) ∙ alike n u ∙ ap (λ o. kind_from o u) right

items_alike : (ds es : Items) → ((u : Tokens) → kind (list ds) u ≡ kind (list es) u) → (j : ℕ) (u : Tokens) → kind_from (nth j ds) u ≡ kind_from (nth j es) u
items_alike ds es alike j u = ap (λ o. kind_from o u) (sym (child-numeral (numeral j) j ds refl)) ∙ alike (numeral j ∷ u) ∙ ap (λ o. kind_from o u) (child-numeral (numeral j) j es refl)

members_alike : (ms es : Members) → ((u : Tokens) → kind (object ms) u ≡ kind (object es) u) → (q : List ℕ) (u : Tokens) → kind_from (find q ms) u ≡ kind_from (find q es) u
members_alike ms es alike q u = ap (λ o. kind_from o u) (sym (child-object q ms)) ∙ alike (q ∷ u) ∙ ap (λ o. kind_from o u) (child-object q es)

mutual
  pub same_documents : (d e : Document) → IsDocument d → IsDocument e → ((u : Tokens) → kind d u ≡ kind e u) → d ≡ e
  same_documents null e a b alike = same_scalar null e (alike [])
  same_documents (flag v) e a b alike = same_scalar (flag v) e (alike [])
  same_documents (whole z) e a b alike = same_scalar (whole z) e (alike [])
  same_documents (string s) e a b alike = same_scalar (string s) e (alike [])
  same_documents (list ds) null a b alike = let here = alike [] in cc
  same_documents (list ds) (flag v) a b alike = let here = alike [] in cc
  same_documents (list ds) (whole z) a b alike = let here = alike [] in cc
  same_documents (list ds) (string s) a b alike = let here = alike [] in cc
  same_documents (list ds) (object es) a b alike = let here = alike [] in cc
  same_documents (list ds) (list es) a b alike =
      let here = alike [] in
      let count : count_of ds ≡ count_of es = cc in
      ap list (same_items ds es a b count (items_alike ds es alike))
  same_documents (object ms) null a b alike = let here = alike [] in cc
  same_documents (object ms) (flag v) a b alike = let here = alike [] in cc
  same_documents (object ms) (whole z) a b alike = let here = alike [] in cc
  same_documents (object ms) (string s) a b alike = let here = alike [] in cc
  same_documents (object ms) (list es) a b alike = let here = alike [] in cc
  same_documents (object ms) (object es) a b alike =
      let here = alike [] in
      let same : names_of ms ≡ names_of es = cc in
      ap object (same_members ms es a b same (members_alike ms es alike))

  same_items : (ds es : Items) → AreDocuments ds → AreDocuments es → count_of ds ≡ count_of es → ((j : ℕ) (u : Tokens) → kind_from (nth j ds) u ≡ kind_from (nth j es) u) → ds ≡ es
  same_items no_items no_items a b count alike = refl
  same_items no_items (item e es) a b count alike = absurd (omega arith)
  same_items (item d ds) no_items a b count alike = absurd (omega arith)
  same_items (item d ds) (item e es) a b count alike = ap₂ item (same_documents d e a.0 b.0 (alike 0)) (same_items ds es a.1 b.1 (omega arith) (λ j. alike (suc j)))

  same_members : (ms es : Members) → IsMap ms → IsMap es → names_of ms ≡ names_of es → ((q : List ℕ) (u : Tokens) → kind_from (find q ms) u ≡ kind_from (find q es) u) → ms ≡ es
  same_members no_members no_members a b same alike = refl
  same_members no_members (member m e es) a b same alike = cc
  same_members (member n d ms) no_members a b same alike = cc
  same_members (member n d ms) (member m e es) a b same alike =
      let first : m ≡ n = cc in
      let later : names_of ms ≡ names_of es = cc in
      let below : IsBelow n es = subst (λ k. IsBelow k es) first b.1 in
      let both = subst (λ k. (q : List ℕ) (u : Tokens) → kind_from (find q (member n d ms)) u ≡ kind_from (find q (member k e es)) u) first alike in
      let here = same_documents d e a.0 b.0 (first_alike n d e ms es both) in
      let rest = same_members ms es a.2 b.2 later (tail_alike n d e ms es a.1 below both) in
      ap₂ (λ x xs. member n x xs) here rest ∙ ap (λ k. member k e es) (sym first)

-- ---- one place and the part there

pub cases_begins : {P : Type 0} (u t : Tokens) → (BeginsWith u t → P) → (¬ BeginsWith u t → P) → P
cases_begins u [] begun no_more = begun (u, refl)
cases_begins [] (n ∷ t) begun no_more = no_more (λ begins. nothing begins.0 begins.1)
  where
    nothing : (rest : Tokens) → [] ≡ (n ∷ t) ++ rest → ⊥
    nothing rest e = cc
cases_begins {P} (m ∷ u) (n ∷ t) begun no_more =
    cases_same m n
    (λ same. cases_begins u t (λ begins. begun (begins.0, ap₂ (λ a b. a ∷ b) same begins.1)) (λ apart. no_more (λ begins. apart (begins.0, tail begins.0 begins.1))))
    (λ other. no_more (λ begins. absurd (apart_names other (head begins.0 begins.1))))
  where
    tail : (rest : Tokens) → m ∷ u ≡ (n ∷ t) ++ rest → u ≡ t ++ rest
    tail rest e = cc

    head : (rest : Tokens) → m ∷ u ≡ (n ∷ t) ++ rest → m ≡ n
    head rest e = cc

    apart_names : is_name m n ≡ false → m ≡ n → ⊥
    apart_names other same = true≢false (sym (is_name-self n) ∙ ap (λ k. is_name k n) (sym same) ∙ other)

pub equals_by_part : EqualsByPart
equals_by_part t d e x good_d good_e only there here =
    same_documents d e good_d good_e
    (λ u. cases_begins u t
    (λ begins. ap (kind d) begins.1 ∙ kind-append d x t begins.0 there ∙ sym (kind-append e x t begins.0 here) ∙ ap (kind e) (sym begins.1))
    (only u))
