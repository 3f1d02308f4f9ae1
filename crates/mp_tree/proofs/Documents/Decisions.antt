-- Whether two names, two lists of names, and two documents are the same.
use Rattle.std.proofs.Common.{◌≡◌, ap, ap₂, sym, ◌∙◌, ℕ, List, [], ◌∷◌, true, refl, ◌⊎◌, inl, inr}
use Rattle.std.proofs.Math.Bool.{Bool-discrete}
use Rattle.std.proofs.Math.Decide.{map_dec}
use Rattle.std.proofs.Math.IntN.{ℤ_discrete}
use Rattle.mp_tree.specs.Document.{Document, null, flag, whole, string, list, object, Items, no_items, item, Members, no_members, member, is_name}
use Rattle.mp_tree.specs.Look.{Path}
use Rattle.mp_tree.proofs.Maps.Names.{cases_same, is_name-self}

pub decide_name : (n m : List ℕ) → Dec (n ≡ m)
decide_name n m = cases_same n m (λ same. yes same) (λ other. no (λ same. let here : is_name n m ≡ true = ap (is_name n) (sym same) ∙ is_name-self n in cc))

both : {A B : Type 0} → Dec A → Dec B → Dec (A × B)
both (yes a) (yes b) = yes (a, b)
both (yes a) (no never) = no (λ h. never h.1)
both (no never) d = no (λ h. never h.0)

pub either : {A B : Type 0} → Dec A → Dec B → Dec (A ⊎ B)
either (yes a) d = yes (inl a)
either (no never) (yes b) = yes (inr b)
either (no never) (no other) = no (λ h. elim h [ inl a ↦ never a | inr b ↦ other b ])

pub decide_path : (s t : Path) → Dec (s ≡ t)
decide_path [] [] = yes refl
decide_path [] (n ∷ t) = no (λ same. cc)
decide_path (n ∷ s) [] = no (λ same. cc)
decide_path (n ∷ s) (m ∷ t) = map_dec (λ h. ap₂ (λ x xs. x ∷ xs) h.0 h.1) (λ same. (cc, cc)) (both (decide_name n m) (decide_path s t))

same_member : {n m : List ℕ} {d e : Document} {ms es : Members} → (n ≡ m) × (d ≡ e) × (ms ≡ es) → member n d ms ≡ member m e es
same_member same = let name = same.0 in let value = same.1 in let rest = same.2 in cc

mutual
  pub decide_document : (d e : Document) → Dec (d ≡ e)
  decide_document null null = yes refl
  decide_document (flag b) (flag c) = map_dec (ap flag) (λ same. cc) (Bool-discrete b c)
  decide_document (whole z) (whole y) = map_dec (ap whole) (λ same. cc) (ℤ_discrete z y)
  decide_document (string s) (string t) = map_dec (ap string) (λ same. cc) (decide_name s t)
  decide_document (list ds) (list es) = map_dec (ap list) (λ same. cc) (decide_items ds es)
  decide_document (object ms) (object es) = map_dec (ap object) (λ same. cc) (decide_members ms es)
  decide_document other e = no (λ same. cc)

  decide_items : (ds es : Items) → Dec (ds ≡ es)
  decide_items no_items no_items = yes refl
  decide_items no_items (item e es) = no (λ same. cc)
  decide_items (item d ds) no_items = no (λ same. cc)
  decide_items (item d ds) (item e es) = map_dec (λ h. ap₂ item h.0 h.1) (λ same. (cc, cc)) (both (decide_document d e) (decide_items ds es))

  decide_members : (ms es : Members) → Dec (ms ≡ es)
  decide_members no_members no_members = yes refl
  decide_members no_members (member m e es) = no (λ same. cc)
  decide_members (member n d ms) no_members = no (λ same. cc)
  decide_members (member n d ms) (member m e es) =
      map_dec (λ h. same_member (h.0, h.1.0, h.1.1)) (λ same. (cc, (cc, cc))) (both (decide_name n m) (both (decide_document d e) (decide_members ms es)))
