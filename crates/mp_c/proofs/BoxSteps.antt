-- Steps of the walks of `BoxAt` and of the handles. Assumes `Logic`.
--     one                    the machine value of a struct of one field
--     pointer_out            a struct of one pointer by value, a `BoxAt` or a handle, is what it owns at its pointer
--     pointer_in             and the other way about
--     box_at_cases           it holds nothing, at null, or a box, at a pointer that may be compared with null
use Rattle.std.proofs.Common.{◌≡◌, ℕ, Option, Some, None, List, [], ◌∷◌, ◌++◌, refl, subst, Bool, true, false}
use lib.Dec.{T}
use mathlib.Core.Bool.{◌&&◌}
use seplogic.Ra.Ura.{Ura}
use mir.Raw.{raw as bare}
use mir.Syntax.{Dict, impl, tcons, tnil, dnil}
use mir.Val.{Val, vstruct, vcons, vnil, of_list}
use base.Fml.{Fml, fsep}
use base.Logic.{ent, guard, via, guard_i, fst∗, snd∗, never}
use types.Logic.{Logic, sem}
use types.Kit.{Item, Goal, Seq, Step, step, ‵, given, ◌$◌, drop, learn, use1, fsplit, fjoin, fpick, fpack, feq_l, feq_i}
use contract.Monad.{fact_use}
use denote.RattleType.{RattleType, Valss}
use denote.Builtin.{RawPtr}
use denote.Memory.{lone}
use denote.Param.{layout, arg}
use denote.Param.Laws.{Laws, arg_laws}
use denote.Exit
use denote.RawPtr.{Ptr, block_ptr, null_ptr, ptr_val, in_a_block, Testable}
use denote.Steps.{nothing}
use denote.Struct.Struct.{Shape, Struct, within}
use denote.Struct.Owning.{Owning}
use Rattle.std.specs.Ptr.{points_to}
use Rattle.std.specs.Box.Ownership.{box_owns}
use Rattle.std.specs.declared.alloc.Global.{Global}
use Rattle.std.specs.contracts.alloc.Global as heap
use Rattle.std.proofs.alloc.Global.TheLaws as heap_laws
use Rattle.std.proofs.GlobalToken.{dealloc_token-Testable}
use Rattle.mp_c.specs.Owned.{may_free, owned_at}

abbrev pub one : Val → Val
one v = vstruct (vcons v vnil)

pub and_tt : (x : Bool) → T x → T (x && true)
and_tt true s = tt
and_tt false s = absurd s

-- the glue of an allocator, which needs no drop
abbrev pub no_drop : Dict
no_drop = impl ("mp_c::Destruct++none::drop" ∷ []) (tcons (bare (layout heap.the_row)) tnil) dnil

-- the allocator, as a call passes it for a type parameter
abbrev pub allocator_row : RattleType
allocator_row = arg (bare (layout heap.the_row)) denote.Exit.no heap.the_row

abbrev pub allocator_laws : Laws allocator_row
allocator_laws = arg_laws (bare (layout heap.the_row)) denote.Exit.no heap.the_row heap_laws.the_row_laws refl

-- a struct of that name of one pointer
abbrev pub one_pointer : Owning → Shape
one_pointer S = record { name = S.name; args = S.args; types = S.types; fields = RawPtr ∷ [] }

module _ (S : Owning) {M : Type 1} {𝓤 : Ura M} {𝓛 : Logic 𝓤} {K : Type 0} {Γ : List (Item 𝓤)} {G : Goal 𝓤 𝓛.H} where
  pub pointer_out : K → (p : Ptr) (owned : Fml) (vs : List Val) → (vs ≡ one (ptr_val p) ∷ [] → Seq K 𝓛 (‵ owned ∷ Γ) G)
      → Seq K 𝓛 (‵ (fsep ((Struct (one_pointer S)).own_val (p, tt) vs) owned) ∷ Γ) G
  pointer_out t p owned vs k =
      fsplit t $ fpick t (λ vss. fsplit t $ feq_l t (λ ev. fsplit t $ feq_l t (λ ep. drop t $
      k (subst (λ (ps : List Val). vs ≡ vstruct (of_list (ps ++ [])) ∷ []) ep ev))))

  pub pointer_in : K → (p : Ptr) (owned : Fml)
      → Step K 𝓛 (‵ (fsep ((Struct (one_pointer S)).own_val (p, tt) (one (ptr_val p) ∷ [])) owned) ∷ Γ) G (‵ owned ∷ Γ) G
  pointer_in t p owned = step (λ s.
      nothing t $ feq_i t (List Val) (ptr_val p ∷ []) (ptr_val p ∷ []) refl $ fjoin t $
      feq_i t (List Val) (one (ptr_val p) ∷ []) (one (ptr_val p) ∷ []) refl $ fjoin t $
      fpack t (Valss (RawPtr ∷ [])) (within (one_pointer S) (p, tt) (one (ptr_val p) ∷ [])) (ptr_val p ∷ [], tt) $ fjoin t $ s)

module _ (R : RattleType) {M : Type 1} {𝓤 : Ura M} (𝓛 : Logic 𝓤) where
  tested : Global → (p : Ptr) (x : R.Denot) → ent 𝓤 (sem 𝓛 (box_owns may_free R p x)) (guard 𝓤 (Testable p) (sem 𝓛 (box_owns may_free R p x)))
  tested a p x = fact_use 𝓤 (Testable p) (via 𝓤 _ (snd∗ 𝓤 (sem 𝓛 (points_to R p x)) (sem 𝓛 (may_free (bare (lone R.mir)) p))) (dealloc_token-Testable 𝓛 a (bare (lone R.mir)) p))
      (guard_i 𝓤 (Testable p) (sem 𝓛 (box_owns may_free R p x)))

module _ (R : RattleType) {M : Type 1} {𝓤 : Ura M} {𝓛 : Logic 𝓤} {K : Type 0} {Γ : List (Item 𝓤)} {G : Goal 𝓤 𝓛.H} where
  pub box_at_cases : K → Global → (p : Ptr) (m : Option R.Denot)
      → (p ≡ null_ptr → m ≡ None → Seq K 𝓛 Γ G)
      → ((b o : ℕ) (x : R.Denot) → p ≡ block_ptr b o → m ≡ Some x → Testable (block_ptr b o) → Seq K 𝓛 (‵ (box_owns may_free R (block_ptr b o) x) ∷ Γ) G)
      → Seq K 𝓛 (‵ (owned_at R p m) ∷ Γ) G
  box_at_cases t a p None none_k some_k = feq_l t (λ e. none_k e refl)
  box_at_cases t a p (Some x) none_k some_k =
      in_a_block t p (λ q. box_owns may_free R q x) (fst∗ 𝓤 (never 𝓤) (sem 𝓛 (may_free (bare (lone R.mir)) null_ptr))) (λ b o e.
      use1 𝓛 (given (Testable (block_ptr b o)) (‵ (box_owns may_free R (block_ptr b o) x))) (tested R 𝓛 a (block_ptr b o) x) $ learn t (λ ok. some_k b o x e refl ok))
