-- The walk of `of` and of `into_box_at` of each handle, which make one struct of a pointer of another. Assumes `Logic`.
--     owner         the type of a struct of one pointer that owns memory
--     moving        such a struct is handed in by value, and another is returned
--     moved_at      the code: the pointer of the one is cast, and put into the other
--     moved         the struct that is returned has the same pointer, and owns what is owned at it
use Rattle.std.proofs.Common.{List, [], ◌∷◌, ◌++◌, refl, sym, subst}
use seplogic.Ra.Ura.{Ura}
use mir.Syntax.{Callee, Fn, Ty, aggregate, assign, copy, field, local, place, return, rv_opd, seq, ty_ptr, value_local}
use mir.Val.{Val}
use base.Logic.{SProp, ent, emp, id⊢}
use base.Fml.{fsep, ftrue}
use prog.Model.{Model}
use prog.Wp.{Closed, WpFn}
use types.Logic.{Logic, sem}
use types.Kit.{‵, raw, ◌⊛◌, ◌$◌, ◌∵◌, !, qed, by, move, keep, split, fsplit, fjoin, suffices, use0, use1}
use types.Run.{stop, fld, of_opd, no_more, and_then, returns, enter}
use types.ByLocal.{alloc_all, pass_all, free_all, look_at, get, get_in, sets}
use types.Part.{agg, sub, whole}
use contract.Running.{Running, tables}
use denote.Builtin.{RawPtr}
use denote.Exit.{hidden, under, yes}
use denote.Param.{layout}
use denote.RattleType.{RattleType, owns}
use denote.RawPtr.{Ptr, ptr_val}
use denote.Signature.{plain, types_at}
use denote.Steps.{nothing}
use denote.Struct.Owning.{Owning}
use denote.Struct.Struct.{Struct, exits_of}
use denote.Triple.Clauses.{AtExit, Clauses, Ended, at_exit, closing}
use denote.Triple.Spec.{Meets}
use denote.Triple.Walked.{Stays, stay_dropped, Goes-dropped, walk_of}
use Rattle.core.proofs.atomic.Steps.{Ptr-Good}
use Rattle.core.proofs.cell.Inside.{Good}
use Rattle.std.proofs.raw_atomic.Walks.{proved_at, leaves}
use Rattle.mp_c.proofs.BoxSteps.{one, one_pointer, and_tt, pointer_in, pointer_out}

abbrev pub owner : (S : Owning) → (S.D → Ptr) → RattleType
owner S at = record {
  Denot = S.D;
  mir = (Struct (one_pointer S)).mir;
  written = (Struct (one_pointer S)).written;
  reaches = (Struct (one_pointer S)).reaches;
  lives = (Struct (one_pointer S)).lives;
  own_val = λ d vs. fsep ((Struct (one_pointer S)).own_val (at d, tt) vs) (S.heap d);
  exit = λ k. hidden (under (λ d. (at d, tt)) (exits_of k (RawPtr ∷ [])));
  coded = S.coded;
  shr_at = S.shr_at;
}

abbrev pub moving : RattleType → RattleType → Ended
moving From To = record { signature = record { lifetimes = 0; outlives = []; params = plain (λ κs. From) ∷ []; result = plain (λ κs. To) }; kept = (yes, tt) }

abbrev pub moved_at : Ty → Ty → Fn
moved_at from to = record {
  lifetimes = 0;
  outlives = [];
  ty_params = [];
  givens = 0;
  params = 1;
  locals = local to value_local ∷ local from value_local ∷ local ty_ptr value_local ∷ local ty_ptr value_local ∷ [];
  body = seq (assign (place 2 []) (rv_opd (copy (place 1 (field 0 ∷ []))))) (seq (assign (place 3 []) (rv_opd (copy (place 2 []))))
      (seq (assign (place 0 []) (aggregate (copy (place 3 []) ∷ []))) return));
}

module _ (S T : Owning) (at : S.D → Ptr) (at' : T.D → Ptr) (same : S.D → T.D) {M : Type 1} {𝓤 : Ura M} (𝓛 : Logic 𝓤) (𝓜 : Model 𝓤 𝓛.H) (𝓡 : Running 𝓤 𝓛.H 𝓜) where
  abbrev From : RattleType
  From = owner S at

  abbrev To : RattleType
  To = owner T at'

  pub moved : (c : Clauses 𝓤 (moving From To)) (k : Callee) → Closed 𝓤 𝓛.H (tables 𝓤 𝓛.H 𝓜 𝓡 𝓡.env).C (tables 𝓤 𝓛.H 𝓜 𝓡 𝓡.env).Λ k (moved_at (layout From) (layout To))
      → ((d : S.D) (vs : List Val) → ent 𝓤 (sem 𝓛 (fsep ((Struct (one_pointer T)).own_val (at d, tt) vs) (S.heap d))) (sem 𝓛 (To.own_val (same d) vs)))
      → ((d : S.D) (g : (c tt (d, tt)).ghost) (x : AtExit (moving From To) tt) → ent 𝓤 (emp 𝓤) ((c tt (d, tt)).ensures g (same d) x))
      → Meets 𝓛 (moving From To).signature ((tables 𝓤 𝓛.H 𝓜 𝓡 𝓡.env).C k) (closing 𝓛 (moving From To) c)
  moved c k closed owned ensured =
      let H = 𝓛.H in let 𝓣 = tables 𝓤 H 𝓜 𝓡 𝓡.env in let En = moving From To in let fn = moved_at (layout From) (layout To) in let hs : Stays En.signature.params En.kept = (stay_dropped (plain (λ _. From)) yes, tt) in
      proved_at 𝓛 En hs c 𝓜 𝓡 (Goes-dropped 𝓛 0 (plain (λ _. From)) yes (λ κs x f. refl), tt) k fn closed (λ z are.
      let d = z.0.3.0 in let w : Val = one (ptr_val (at d)) in let Post : Val → SProp 𝓤 = (walk_of 𝓛 En hs c).post z in let Run : List Val → SProp 𝓤 = λ ws. WpFn 𝓤 H 𝓣.C 𝓣.Λ fn ws Post in
      qed 𝓛 ((‵ ftrue ⊛ ‵ (owns (types_at En.signature.params tt) z.0.3 z.0.4)) ∷ raw ((c z.0.0 z.0.3).requires z.1) ∷ []) ∵ split ! $ move ! (1 ∷ []) $ fsplit ! $ pointer_out S ! (at d) (S.heap d) z.0.4.0 (λ ws.
      -- [what is owned; nothing; the tokens, of which there are none; what is required]
      suffices ! (Run (w ∷ [])) (subst (λ (us : List Val). ent 𝓤 (Run (w ∷ [])) (Run us)) (sym (λ i. ws i ++ [])) (id⊢ 𝓤 (Run (w ∷ [])))) $
      let fine : Good (layout From) w = (and_tt _ (Ptr-Good (at d)).0, ((Ptr-Good (at d)).1, tt)) in
      enter ! 𝓣.C 𝓣.Λ fn (w ∷ []) Post $ alloc_all ! (λ l. pass_all ! refl (fine, tt) $
      sets ! (of_opd ! (get_in ! (fld ! refl (stop !)) (sub ! 0 refl (whole !)))) refl (Ptr-Good (at d)) $ sets ! (of_opd ! (get ! refl)) refl (Ptr-Good (at d)) $
      sets ! (agg ! (and_then ! (get ! refl) (no_more !))) refl fine $ pointer_in T ! (at d) (S.heap d) $ use1 𝓛 (‵ (To.own_val (same d) (w ∷ []))) (owned d (w ∷ [])) $
      use0 𝓛 (raw ((c z.0.0 z.0.3).ensures z.1 (same d) (at_exit En z.0.0 z.0.3 (tt, tt)))) (ensured d z.1 (at_exit En z.0.0 z.0.3 (tt, tt))) $ nothing ! $ nothing ! $ fjoin ! $
      returns ! (look_at ! 0 refl) $ free_all ! refl $ keep ! (4 ∷ 0 ∷ 2 ∷ 1 ∷ []) $ by ! (leaves 𝓛 En hs c z w (same d) (tt, tt) (tt, tt)))))
