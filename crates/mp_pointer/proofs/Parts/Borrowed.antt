-- What a list and an object lend of one child, and what a token names in them.
use Rattle.std.proofs.Common.{false, true, ◌≡◌, ◌≢◌, ◌<◌, ◌≤◌, ◌+◌, ◌-◌, ◌^◌, ℕ, suc, List, [], ◌∷◌, length, get_or, take, drop, Option, None, Some, option_map, Vec, BTreeMap, String, Global, string_bytes, string_cmp, MutBor, refl, sym, ap, ap₂, ◌∙◌, subst, arith}
use Rattle.std.proofs.lemmas.List.{drop_more}
use Rattle.std.proofs.lemmas.Option.{slice_get-get_or, slice_get_within, get_or_from_slice_get}
use Rattle.std.specs.BTreeMap.{UpdatesBy, get_by_text}
use Rattle.std.specs.List.{slice_get}
use Rattle.std.specs.Option.{OnSome, IfSome, IsSome, option_copied_mut}
use Rattle.std.specs.Vec.{with_item}
use Rattle.mp_tree.specs.Document.{Document, null, flag, whole, string, list, object, Items, Members, name_cmp}
use Rattle.mp_tree.specs.View.{document}
use Rattle.mp_tree.specs.declared.doc.Doc
use Rattle.mp_tree.specs.declared.doc.Doc.{Doc}
use Rattle.mp_tree.proofs.Facts.{IsDocument-document, document-Items, document-Members}
use Rattle.mp_pointer.specs.Borrowing.{PartBecomes}
use Rattle.mp_pointer.specs.Private.Child.{IsList, one_token}
use Rattle.mp_pointer.specs.Part.{part, child, numeral}
use Rattle.mp_pointer.specs.Spelling.{Tokens}
use Rattle.mp_pointer.proofs.Parts.Along.{part-push}
use Rattle.mp_pointer.proofs.Parts.Children.{becomes_as, no_index_here-by, past_end-by, element_here-by, element_becomes-by, value_here-by, value_becomes-by}

-- ---- the part at one token

pub one_token-is : (t : Tokens) (number : ℕ) (token : List ℕ) → slice_get t number ≡ Some token → one_token t number ≡ token ∷ []
one_token-is t number token here =
    let first : drop number t ≡ token ∷ drop (number + 1) t = drop_more t number [] (slice_get_within t number token here) ∙ ap (λ x. x ∷ drop (number + 1) t) (get_or_from_slice_get t number token [] here) in
    let count : (number + 1) - number ≡ suc 0 = omega arith in
    ap₂ take count first

pub part-at : (d : Document) (t : Tokens) (number : ℕ) (token : List ℕ) → slice_get t number ≡ Some token → part d (one_token t number) ≡ child token d
part-at d t number token here = ap (part d) (one_token-is t number token here) ∙ part-push d [] token

-- ---- one element of a list

pub no_index_here : (token : List ℕ) (v : Vec Doc Global) → length v.items < 2 ^ 64 → ((i : ℕ) → token ≡ numeral i → 2 ^ 64 ≤ i) → child token (document (Doc.Items v)) ≡ None
no_index_here token v short large = ap (child token) (document-Items v) ∙ no_index_here-by document token v short large

pub past_end : (token : List ℕ) (i : ℕ) (v : Vec Doc Global) → token ≡ numeral i → length v.items ≤ i → child token (document (Doc.Items v)) ≡ None
past_end token i v names_it past = ap (child token) (document-Items v) ∙ past_end-by document token i v names_it past

-- what a list borrows
pub element_borrowed : (r : Option (MutBor Doc)) (token : List ℕ) (i : ℕ) (v : Vec Doc Global) → token ≡ numeral i → (IsSome r → i < length v.items) → IfSome r (λ x. x.now ≡ get_or v.items i x.now)
    → (w : Doc) → OnSome r (PartBecomes (token ∷ []) (document w) (document (Doc.Items v)) (document (Doc.Items (with_item v i w))))
element_borrowed None token i v names_it within value w = tt
element_borrowed (Some x) token i v names_it within value w =
    becomes_as (document-Items v) (document-Items (with_item v i w)) (element_becomes-by document token i v x.now w names_it (within refl) value)

pub element_there : (r : Option (MutBor Doc)) (token : List ℕ) (i : ℕ) (v : Vec Doc Global) → token ≡ numeral i → (IsSome r → i < length v.items) → (i < length v.items → IsSome r) → IfSome r (λ x. x.now ≡ get_or v.items i x.now)
    → option_map (λ (x : MutBor Doc). document x.now) r ≡ child token (document (Doc.Items v))
element_there None token i v names_it within some value =
    let not_within : i < length v.items → ⊥ = λ less. none (some less) in
    sym (past_end token i v names_it (omega (arith, not_within)))
  where
    none : false ≡ true → ⊥
    none e = cc
element_there (Some x) token i v names_it within some value = sym (ap (child token) (document-Items v) ∙ element_here-by document token i v x.now names_it (within refl) value)

-- ---- one value of an object

pub value_there : (r : Option (MutBor Doc)) (token : List ℕ) (m : BTreeMap (String Global) Doc) → option_copied_mut r ≡ get_by_text m token → option_map (λ (x : MutBor Doc). document x.now) r ≡ child token (document (Doc.Members m))
value_there r token m is = seen r ∙ sym (ap (child token) (document-Members m) ∙ value_here-by document IsDocument-document token m (option_copied_mut r) is)
  where
    seen : (r : Option (MutBor Doc)) → option_map (λ (x : MutBor Doc). document x.now) r ≡ option_map document (option_copied_mut r)
    seen None = refl
    seen (Some x) = refl

-- what a map borrows
pub value_borrowed : (r : Option (MutBor Doc)) (token : List ℕ) (m n : BTreeMap (String Global) Doc) (w : Doc) → option_copied_mut r ≡ get_by_text m token
    → (IsSome (get_by_text m token) → UpdatesBy string_cmp (λ l. name_cmp token (string_bytes l)) m n (Some w))
    → OnSome r (PartBecomes (token ∷ []) (document w) (document (Doc.Members m)) (document (Doc.Members n)))
value_borrowed None token m n w is updates = tt
value_borrowed (Some x) token m n w is updates = becomes_as (document-Members m) (document-Members n) (value_becomes-by document IsDocument-document token m n x.now w is updates)

-- ---- a token that names nothing

pub no_child : (token : List ℕ) (d : Document) → ((ds : Items) → d ≢ list ds) → ((ms : Members) → d ≢ object ms) → child token d ≡ None
unfolding child
no_child token null no_list no_object = refl
no_child token (flag b) no_list no_object = refl
no_child token (whole z) no_list no_object = refl
no_child token (string s) no_list no_object = refl
no_child token (list ds) no_list no_object = absurd (no_list ds refl)
no_child token (object ms) no_list no_object = absurd (no_object ms refl)

pub scalar_part : (d : Document) (t : Tokens) (number : ℕ) → number < length t → ¬ IsList d → ((ms : Members) → d ≢ object ms) → part d (one_token t number) ≡ None
scalar_part d t number less no_list no_object =
    part-at d t number (get_or t number []) (slice_get-get_or t number [] less) ∙ no_child (get_or t number []) d (λ ds is. no_list (subst IsList (sym is) tt)) no_object
