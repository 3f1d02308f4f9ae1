use Rattle.std.proofs.Common.{◌≡◌, ℕ, zero, suc, List, [], ◌∷◌, ◌<◌, length, slice_index_or, slice_set, refl, ap, ◌∙◌, sym, true, arith}
use Rattle.std.proofs.Common.{rules, Bool, String, Global}
use Rattle.std.specs.Map.Calls.{RetainsPairs}
use Rattle.mp_tree.specs.Private.Entries.{value_members}
use Rattle.std.specs.List.{FoldsTo}
use Rattle.serde_json.specs.declared.value.Value.{Value}
use Rattle.mp_tree.specs.Document.{item}
use Rattle.mp_tree.specs.Document.{object}
use Rattle.mp_tree.specs.Values.{value_document, value_items}
use Rattle.mp_tree.proofs.Valued.Meaning.{value-Object, value_of_map}
use Rattle.mp_tree.proofs.trimming.+trim.Goals as goal

-- an element in the place of one that means the same
items-set-same : (vs : List Value) (i : ℕ) (v w : Value) → i < length vs → value_document v ≡ value_document (slice_index_or vs i w) → value_items (slice_set vs i v) ≡ value_items vs
items-set-same [] i v w within is = refl
items-set-same (x ∷ vs) zero v w within is = ap (λ d. item d (value_items vs)) is
items-set-same (x ∷ vs) (suc i) v w within is = ap (item (value_document x)) (items-set-same vs i v w (omega arith) is)

folds_keep : {P A X : Type 0} (R : P → A → P → Type 0) (key : P → X) → ((f : P) (a : A) (g : P) → R f a g → key g ≡ key f) → (f : P) (xs : List A) (g : P) → FoldsTo R f xs g → key g ≡ key f
folds_keep R key keeps f [] g folds = ap key (sym folds)
folds_keep R key keeps f (x ∷ xs) g folds = folds_keep R key keeps folds.0 xs g folds.2 ∙ keeps f x folds.0 folds.1

members_retained : {F : Type 0} (T : F → String Global → Value → Bool → Value → F → Type 0) (f : F) → ((g : F) (k : String Global) (v : Value) (b : Bool) (w : Value) (h : F) → T g k v b w h → (b ≡ true) × (value_document w ≡ value_document v))
    → (es kept : List (String Global × Value)) → RetainsPairs T f es kept → value_members kept ≡ value_members es
members_retained T f same [] kept retains = ap value_members retains
members_retained T f same (e ∷ es) kept (b, w, g, rest, called, retains, is) =
    let here = same f e.0 e.1 b w g called in
    let all : kept ≡ (e.0, w) ∷ rest = rw is (rw here.0 refl) in
    rw (all, here.1, members_retained T g same es rest retains)

pub trim-returns-in-Some-value_members_mut : goal.trim-returns-in-Some-value_members_mut
trim-returns-in-Some-value_members_mut t c =
    value-Object c.trim_members.new.entries ∙ ap object c.trim_members.ensures ∙ sym (value_of_map c.in-Some-value_members_mut.entries.now c.in-Some-value_members_mut.ensures.value)

pub trim_items-loop-element-preserved : goal.trim_items-loop-element-preserved
trim_items-loop-element-preserved t c =
    items-set-same c.loop-element.element-items c.loop-element.element-index c.trim.new.value c.element-item.result (omega arith) c.trim.ensures ∙ c.loop-element.invariant

pub trim_members-retain-requires : goal.trim_members-retain-requires
trim_members-retain-requires t c = record {
  at = λ before after f' k v is folds p q kept value.
      let same : f'.0.now ≡ c.args.levels = folds_keep _ (λ f. f.0.now) (λ f a f'' s. search rules) _ before f' folds in
      omega arith;
}

pub trim_members-returns : goal.trim_members-returns
trim_members-returns t c = members_retained _ _ (λ f k v b w g s. search rules) _ _ c.retain.ensures.filtered
