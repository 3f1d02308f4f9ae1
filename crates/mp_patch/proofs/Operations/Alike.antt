-- Two lists of operations that are compared from the front.
use Rattle.std.proofs.Common.{◌≡◌, ◌⊎◌, ◌↔◌, inl, inr, List, [], ◌∷◌, length, sym, ap, ap₂, ◌∙◌, refl, arith}
use Rattle.mp_patch.specs.View.{operation_of, operations_of}
use Rattle.mp_patch.specs.declared.op.Op.{Op}
use Rattle.mp_tree.specs.declared.doc.Doc.{Doc}

-- what is left of both is as long, and is alike exactly if the whole is
pub record IsLeft (ops others left rest : List (Op Doc)) : Type 0 where
  pub long : length left ≡ length rest
  pub alike : (operations_of left ≡ operations_of rest) ↔ (operations_of ops ≡ operations_of others)

module _ (ops others left rest more less : List (Op Doc)) (op other : Op Doc) (is : IsLeft ops others left rest) (front : left ≡ op ∷ more) (other_front : rest ≡ other ∷ less) where
  one : operations_of left ≡ operation_of op ∷ operations_of more
  one = ap operations_of front

  two : operations_of rest ≡ operation_of other ∷ operations_of less
  two = ap operations_of other_front

  pub first_alike : operations_of ops ≡ operations_of others → operation_of op ≡ operation_of other
  first_alike same =
      let lists : operation_of op ∷ operations_of more ≡ operation_of other ∷ operations_of less = sym one ∙ is.alike.1 same ∙ two in
      cc

  pub left_after : operation_of op ≡ operation_of other → IsLeft ops others more less
  left_after here = record {
    long = omega (arith, is.long, ap length front, ap length other_front);
    alike = (
      λ same. is.alike.0 (one ∙ ap₂ (λ o os. o ∷ os) here same ∙ sym two),
      λ same.
          let lists : operation_of op ∷ operations_of more ≡ operation_of other ∷ operations_of less = sym one ∙ is.alike.1 same ∙ two in
          cc,
    );
  }

pub none_left : (ops others left rest : List (Op Doc)) → IsLeft ops others left rest → (length left ≡ 0) ⊎ (length rest ≡ 0) → operations_of ops ≡ operations_of others
none_left ops others [] [] is over = is.alike.0 refl
none_left ops others [] (o ∷ rest) is over = absurd (omega (arith, is.long))
none_left ops others (o ∷ left) [] is over = absurd (omega (arith, is.long))
none_left ops others (o ∷ left) (x ∷ rest) is (inl over) = absurd (omega (arith, over))
none_left ops others (o ∷ left) (x ∷ rest) is (inr over) = absurd (omega (arith, over))
