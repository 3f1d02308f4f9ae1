-- Parts along a list of tokens, and documents that differ at one place alone.
use Rattle.std.proofs.Common.{◌≡◌, ℕ, List, [], ◌∷◌, ◌++◌, Option, None, Some, option_and_then, refl, sym, ap, ◌∙◌, ◌≢◌, ap₂, true≢false}
use Rattle.mp_tree.specs.Document.{is_name, Document, list, object, Items, Members, find}
use Rattle.mp_tree.proofs.Facts.{cases_same, is_name-self}
use Rattle.mp_pointer.specs.Difference.{DifferOnlyAt, kind, kind_of}
use Rattle.mp_pointer.specs.Part.{child, element_from, part}
use Rattle.mp_pointer.specs.Spelling.{Tokens, BeginsWith}

pub child-object : (token : List ℕ) (ms : Members) → child token (object ms) ≡ find token ms
unfolding child
child-object token ms = refl

pub child-list : (token : List ℕ) (ds : Items) → child token (list ds) ≡ element_from 0 token ds
unfolding child
child-list token ds = refl

pub part-append : (d : Document) (s t : Tokens) → part d (s ++ t) ≡ option_and_then (λ e. part e t) (part d s)
part-append d [] t = refl
part-append d (token ∷ s) t = through (child token d) (λ e. part-append e s t)
  where
    through : (o : Option Document) → ((e : Document) → part e (s ++ t) ≡ option_and_then (λ e. part e t) (part e s)) → option_and_then (λ e. part e (s ++ t)) o ≡ option_and_then (λ e. part e t) (option_and_then (λ e. part e s) o)
    through None later = refl
    through (Some e) later = later e

-- the part of all tokens but the last, and then the last
pub part-push : (d : Document) (s : Tokens) (token : List ℕ) → part d (s ++ token ∷ []) ≡ option_and_then (child token) (part d s)
part-push d s token = part-append d s (token ∷ []) ∙ last (part d s)
  where
    one : (o : Option Document) → option_and_then (λ e. part e []) o ≡ o
    one None = refl
    one (Some e) = refl

    last : (o : Option Document) → option_and_then (λ e. part e (token ∷ [])) o ≡ option_and_then (child token) o
    last None = refl
    last (Some e) = one (child token e)

-- the kind at further tokens is that in the part
pub kind-append : (d e : Document) (s t : Tokens) → part d s ≡ Some e → kind d (s ++ t) ≡ kind e t
kind-append d e s t is = ap kind_of (part-append d s t ∙ ap (option_and_then (λ e. part e t)) is)

-- ---- documents that differ at one place alone

pub DifferOnlyAt-sym : (t : Tokens) (d e : Document) → DifferOnlyAt t d e → DifferOnlyAt t e d
DifferOnlyAt-sym t d e only u apart = sym (only u apart)

pub DifferOnlyAt-trans : (t : Tokens) (d e f : Document) → DifferOnlyAt t d e → DifferOnlyAt t e f → DifferOnlyAt t d f
DifferOnlyAt-trans t d e f first second u apart = first u apart ∙ second u apart

-- any two documents differ at the empty list alone
pub DifferOnlyAt-root : (d e : Document) → DifferOnlyAt [] d e
DifferOnlyAt-root d e u apart = absurd (apart (u, refl))

-- if two documents of one kind have the same children but for that of one token, and those differ at t alone
pub DifferOnlyAt-child : (token : List ℕ) (t : Tokens) (d e x y : Document) → kind_of (Some d) ≡ kind_of (Some e) → ((m : List ℕ) → m ≢ token → child m d ≡ child m e) → child token d ≡ Some x → child token e ≡ Some y → DifferOnlyAt t x y
    → DifferOnlyAt (token ∷ t) d e
DifferOnlyAt-child token t d e x y alike others here there only [] apart = alike
DifferOnlyAt-child token t d e x y alike others here there only (m ∷ u) apart =
    cases_same m token
    (λ same.
    let apart_there : ¬ BeginsWith u t = λ begins. apart (begins.0, ap₂ (λ a b. a ∷ b) same begins.1) in
    ap (λ n. kind d (n ∷ u)) same ∙ ap (λ o. kind_of (option_and_then (λ f. part f u) o)) here ∙ only u apart_there ∙ ap (λ o. kind_of (option_and_then (λ f. part f u) o)) (sym there) ∙ ap (λ n. kind e (n ∷ u)) (sym same))
    (λ other. ap (λ o. kind_of (option_and_then (λ f. part f u) o)) (others m (λ same. true≢false (sym (is_name-self token) ∙ ap (λ n. is_name n token) (sym same) ∙ other))))
