-- By hand, since no proof is generated of what the owner of a borrow ends as if it has the result's type: `child_mut` borrows the child
-- that one token names, and the document follows it. Assumes `Logic`.
-- How it goes: the document is borrowed as `&` to `is_list` and comes back. In a list it is given up to `elements_of`, so it follows
-- its elements, and they follow the element that `element_mut` borrows (`FollowedBorrows.antt`'s `then_so`). Elsewhere `members_mut`
-- and `value_mut` do the same for a map, and for a scalar nothing was borrowed and the old value is said (`none_so`).
--     ends      from how the document follows what is returned, that, and the two tokens, the function may return
-- Of the body it needs: the order of its statements and calls, with the `switch` as the sixth (`s-6`) and what runs after it
-- (`t-7`), the calls after the `if` (`t-4`), and no more: each local is found by itself. What the five callees do is in their
-- contracts. After an edit of the body print the MIR again (`rt check --generated DIR --start child_mut`).
use Rattle.std.proofs.Common.{◌≡◌, List, [], ◌∷◌, ◌↔◌, refl, sym, ap, ◌∙◌, lit<, w64, Bool, MutBor}
use Rattle.std.proofs.raw_atomic.Walks.{proved}
use base.Fraction.{full_share}
use base.Logic.{emp, id⊢}
use base.Fml.{flft, ftrue, feq}
use mir.Syntax.{named, erased}
use mir.Val.{Val}
use contract.Monad.{fact, fact_i}
use contract.Running.{tables}
use prog.Wp.{Wp, after_seq, at_return}
use types.Kit.{‵, raw, ◌⊛◌, some, later, prop, at_ret, any_q, Sq, ◌$◌, ◌∵◌, !, qed, done, move, keep, drop, use0, use1, use2, use3, split, split3, join, fsplit3, fjoin, fjoin3, feq_i, feq_l, pick, await, rewrite, suffices, frame}
use types.Run.{enter, of_opd, lit, addr, stop, fld, no_more, and_then, first, branches, skips, exec, returns, returns_within, switches_on}
use types.ByLocal.{alloc_all, pass_all, free_all, look_at, get, get_in, get_tag, through, sets, sets_last, lands_as, lands_last, env}
use types.Match.{vrt, in_variant}
use types.Part.{whole, agg}
use types.Tokens.{lft_new, lft_end}
use denote.Builtin.{usize, bool, RefOf}
use denote.Exit.{yes, no}
use denote.Follow.{follows, follows_by, follows_if}
use denote.Laws.{shows}
use denote.Plain.{uint_Makes, uint_vals, uint_Tells, bool_Tells}
use denote.Ref.{MutRef, ShrRef, as_bor, mut_vals, mut_Tells, shr_vals, shr_Tells}
use denote.Signature.{plain}
use denote.Steps.{nothing, owned, heard, facts, only}
use denote.Triple.Call.{calls_at, calls_at_last}
use denote.Triple.Clauses.{lasts}
use denote.Triple.Spec.{triple_of}
use denote.Triple.Table.{framed}
use denote.Triple.Walked.{Stays, walk_of, says, stay_dropped, Goes-dropped, Goes-spent_ref, ends_at}
use Rattle.std.proofs.Common.{◌<◌, ◌≢◌, length, IsTrue, Option, Some, None, option_map, MatchOption, subst, inl, inr}
use Rattle.std.specs.Option.{OnSome, ghost_name_of}
use Rattle.std.specs.contracts.option.Option as option
use Rattle.std.proofs.option.Made.{none_of}
use Rattle.mp_tree.specs.Document.{object}
use Rattle.mp_pointer.specs.Part.{part}
use Rattle.mp_tree.specs.View.{document}
use Rattle.mp_tree.specs.declared.doc.Doc.{Doc}
use Rattle.mp_tree.specs.declared.doc.Doc.TheVariants.{Items, Members}
use Rattle.mp_tree.proofs.doc.Doc.TheLaws as doc_laws
use Rattle.mp_pointer.specs.contracts.pointer.Pointer as pointer
use Rattle.mp_pointer.specs.Borrowing.{BorrowsPart, BorrowsPartOf, PartBecomes}
use Rattle.mp_pointer.specs.Private.Child.{IsList, one_token}
use Rattle.mp_tree.specs.Rows.{doc_row, items_row, members_row}
use Rattle.mp_pointer.proofs.Parts.Borrowed.{scalar_part}
use Rattle.mp_pointer.proofs.Changes.FollowedBorrows.{arm_of, when_true, when_false, cases, spelled, spelled_typed, option_spelled, some_apart, none_apart, none_so, then_so, shares_again, shared_back, Kept}
use Rattle.mp_pointer.specs.contracts.borrowing.child_mut as f
use Rattle.mp_pointer.proofs.borrowing.child_mut.Statement.{statement}
use Rattle.mp_pointer.proofs.borrowing.child_mut.Code as code
use Rattle.mp_pointer.specs.contracts.borrowing.is_list as is_list
use Rattle.mp_pointer.proofs.borrowing.is_list.Met as is_list_met
use Rattle.mp_pointer.specs.contracts.borrowing.elements_of as items
use Rattle.mp_pointer.proofs.borrowing.elements_of.Met as items_met
use Rattle.mp_pointer.specs.contracts.borrowing.element_mut as element
use Rattle.mp_pointer.proofs.borrowing.element_mut.Met as element_met
use Rattle.mp_tree.specs.contracts.borrowing.members_mut as members
use Rattle.mp_tree.proofs.borrowing.members_mut.Met as members_met
use Rattle.mp_pointer.specs.contracts.borrowing.value_mut as value
use Rattle.mp_pointer.proofs.borrowing.value_mut.Met as value_met

abbrev stayed : Stays f.ended.signature.params f.ended.kept
stayed = (stay_dropped _ no, (stay_dropped _ yes, (stay_dropped _ yes, tt)))

pub child_mut_spec : {M : Type 1} → statement M
unfolding follows_by
child_mut_spec 𝓤 𝓛 𝓜 𝓡 wired =
    let c = f.clauses 𝓛 𝓜.mem 𝓡.returns in let W = walk_of 𝓛 f.ended stayed c in let 𝓣 = tables 𝓤 𝓛.H 𝓜 𝓡 𝓡.env in
    proved 𝓛 f.ended stayed c 𝓜 𝓡
    (Goes-spent_ref 𝓛 2 (0 ∷ []) tt (plain (λ _. doc_row)), (Goes-dropped 𝓛 2 (RefOf (1 ∷ []) tt (plain (λ _. pointer.the_row)) (λ _. tt)) yes (λ κs x w. refl), (Goes-dropped 𝓛 2 (plain (λ _. usize)) yes (λ κs x w. refl), tt)))
    f.Key.name code.function (code.unfolded 𝓤 𝓛.H 𝓜 𝓡 wired)
    (λ κs. (mut_vals, (shr_vals, (uint_vals w64, tt)))) (λ κs. (mut_Tells (named 0) κs.0 doc_row, (shr_Tells (named 1) κs.1.0 pointer.the_row, (uint_Tells w64, tt))))
    (λ κs qs bounds a _ are.
    let κ = κs.0 in let κ' = κs.1.0 in let q = qs.0 in let q' = qs.1.0 in let x = a.0 in let p = a.1.0 in let n = a.1.1.0 in
    let y : W.Ghost = ((κs, qs, bounds, a, (mut_vals x, (shr_vals p, (uint_vals w64 n, tt)))), tt) in
    let Own = (MutRef (named 0) κ doc_row).own_val x (mut_vals x) in
    let Path = (ShrRef (named 1) κ' pointer.the_row).own_val p (shr_vals p) in
    let t = one_token p.now n in
    let Opt = option.the_row (MutRef (named 0) κ doc_row) in
    let ends : (s : Option (MutBor Doc)) (v : Val) → option_map (λ (d : MutBor Doc). document d.now) s ≡ part (document x.now) t
    → Sq 𝓛 (‵ (BorrowsPart t x s) ∷ ‵ (Opt.own_val s (v ∷ [])) ∷ ‵ (flft κ q) ∷ ‵ (flft κ' q') ∷ []) (prop (W.post y v)) = λ s v there.
    suffices ! _ (ends_at 𝓛 f.ended stayed c y v s (tt, (tt, (tt, tt))) (tt, (tt, (tt, tt)))) $ move ! (1 ∷ []) $
    nothing ! $ nothing ! $ fjoin ! $ nothing ! $ fjoin ! $ nothing ! $ fjoin ! $ join ! $ nothing ! $ move ! (4 ∷ 0 ∷ []) $ join ! $ move ! (3 ∷ 0 ∷ []) $ join ! $ join ! $ frame ! $ says ! there $ done ! in
    qed 𝓛 (((‵ (flft κ q) ⊛ ‵ (flft κ' q') ⊛ ‵ ftrue) ⊛ ‵ Own ⊛ ‵ Path ⊛ ‵ (usize.own_val n (uint_vals w64 n)) ⊛ ‵ ftrue) ∷ raw (fact 𝓤 (n < length p.now)) ∷ []) ∵
    move ! (1 ∷ []) $ heard ! _ (λ less. split ! $ split3 ! $ move ! (3 ∷ []) $ split ! $ move ! (1 ∷ []) $ split3 ! $ keep ! (3 ∷ 4 ∷ 5 ∷ 0 ∷ []) $
    -- [doc; its token; the token of the pointer; the pointer]
    enter ! _ _ _ _ _ $ alloc_all ! (λ l. pass_all ! refl ((tt, tt), ((tt, tt), ((tt, record { fits = are.1.1.0.1 }), tt))) $
    sets ! (addr ! (through ! refl (stop !))) refl (tt, tt) $
    lft_new ! tt (λ α. move ! (1 ∷ 2 ∷ 0 ∷ []) $
    use3 𝓛 (later (‵ ((ShrRef (named 0) (α ∷ []) doc_row).own_val (as_bor x) (mut_vals x)) ⊛ ‵ (flft (α ∷ []) full_share) ⊛ ‵ (Kept 𝓛 doc_row (doc_laws.the_row_laws.shares 𝓛) doc_laws.the_within (named 0) κ q α x)))
    (shares_again 𝓛 doc_row (doc_laws.the_row_laws.shares 𝓛) doc_laws.the_within (named 0) κ q α x) $ await ! tt $ split3 ! $
    -- [the `&`; its token; what is kept; the token of the pointer; the pointer]
    let G₁ = triple_of 𝓛 is_list.signature (is_list.spec 𝓛 𝓜.mem 𝓡.returns) in
    let z₁ : G₁.Ghost = (((α ∷ [], tt), (full_share, tt), tt, (as_bor x, tt), (mut_vals x, tt)), tt) in
    nothing ! $ move ! (1 ∷ 0 ∷ []) $ join ! $ nothing ! $ move ! (2 ∷ 0 ∷ []) $ join ! $ join ! $ nothing ! $ move ! (1 ∷ 0 ∷ []) $ use2 𝓛 (raw (G₁.pre z₁)) (id⊢ 𝓤 _) $
    calls_at ! (framed 𝓤 𝓛.H 𝓜 𝓣) G₁ (is_list_met.met 𝓤 𝓛 𝓜 𝓡 (code.calls-mp_pointer::borrowing::is_list 𝓡.env wired)) z₁ (and_then ! (get ! refl) (no_more !)) (λ v₁.
    use1 𝓛 (later (some (λ (u : Bool). ((‵ (flft (α ∷ []) full_share) ⊛ ‵ ftrue) ⊛ ‵ (bool.own_val u (v₁ ∷ []))) ⊛ some (λ (ws : Unit {0} × Unit {0}). ‵ (lasts is_list.ended z₁.0.0 z₁.0.3 ws) ⊛ raw (fact 𝓤 (IsTrue u ↔ IsList (document x.now))))))) (id⊢ 𝓤 _) $
    await ! tt $ pick ! (λ u. split ! $ split ! $ split ! $ lft_end ! tt $ move ! (2 ∷ []) $ facts ! bool _ (shows 𝓛 bool) u (v₁ ∷ []) (λ is.
    lands_as ! (ap only (bool_Tells u (v₁ ∷ []) is)) refl (tt, tt) $ move ! (2 ∷ []) $ pick ! (λ ws. split ! $ drop ! $ heard ! _ (λ answer. move ! (1 ∷ []) $ drop ! $
    use2 𝓛 (later (‵ Own ⊛ ‵ (flft κ q))) (shared_back 𝓛 doc_row (doc_laws.the_row_laws.shares 𝓛) doc_laws.the_within (named 0) κ q α x) $ await ! tt $ split ! $
    -- [doc; its token; the token of the pointer; the pointer]
    first ! $ branches ! (get ! refl)
    (λ yes.
    sets ! (addr ! (through ! refl (stop !))) refl (tt, tt) $
    let G₂ = triple_of 𝓛 items.signature (items.spec 𝓛 𝓜.mem 𝓡.returns) in
    let z₂ : G₂.Ghost = (((κ, tt), (q, tt), tt, (x, tt), (mut_vals x, tt)), tt) in
    nothing ! $ move ! (1 ∷ 0 ∷ []) $ join ! $ nothing ! $ move ! (2 ∷ 0 ∷ []) $ join ! $ join ! $ use0 𝓛 (raw (fact 𝓤 (IsList (document x.now)))) (fact_i 𝓤 _ (emp 𝓤) (answer.0 (when_true u yes))) $ move ! (1 ∷ 0 ∷ []) $ use2 𝓛 (raw (G₂.pre z₂)) (id⊢ 𝓤 _) $
    calls_at ! (framed 𝓤 𝓛.H 𝓜 𝓣) G₂ (items_met.met 𝓤 𝓛 𝓜 𝓡 (code.calls-mp_pointer::borrowing::elements_of 𝓡.env wired)) z₂ (and_then ! (get ! refl) (no_more !)) (λ v₂.
    use1 𝓛 (later (some (λ (r : MutBor items_row.Denot). ((‵ (flft κ q) ⊛ ‵ ftrue) ⊛ ‵ ((MutRef (named 0) κ items_row).own_val r (v₂ ∷ []))) ⊛ some (λ (ws : Unit {0} × Unit {0}). ‵ (lasts items.ended z₂.0.0 z₂.0.3 ws) ⊛ ‵ (follows doc_row items_row x.ghost_name r.ghost_name Items) ⊛ raw (fact 𝓤 (x.now ≡ Items r.now)))))) (id⊢ 𝓤 _) $
    await ! tt $ pick ! (λ r. split ! $ split ! $ split ! $ move ! (2 ∷ []) $ fsplit3 ! $ feq_l ! (λ e₂. feq_i ! (List Val) (mut_vals r) (mut_vals r) refl $ fjoin3 ! $ lands_as ! (ap only e₂) refl (tt, tt) $
    move ! (3 ∷ []) $ pick ! (λ ws₂. split ! $ drop ! $ split ! $ move ! (1 ∷ []) $ heard ! _ (λ here.
    -- [how doc follows the elements; the elements; the token; nothing; the token of the pointer; the pointer]
    let G₃ = triple_of 𝓛 element.signature (element.spec 𝓛 𝓜.mem 𝓡.returns) in
    let z₃ : G₃.Ghost = (((κ, (κ', tt)), (q, (q', tt)), tt, (r, (p, (n, tt))), (mut_vals r, (shr_vals p, (uint_vals w64 n, tt)))), tt) in
    owned ! usize _ (uint_Makes 𝓛 w64) n (uint_vals w64 n) (refl, are.1.1.0.1) $ nothing ! $ move ! (1 ∷ 0 ∷ []) $ join ! $ move ! (6 ∷ 0 ∷ []) $ join ! $ move ! (2 ∷ 0 ∷ []) $ join ! $
    move ! (4 ∷ 3 ∷ []) $ join ! $ move ! (3 ∷ 0 ∷ []) $ join ! $ move ! (0 ∷ 1 ∷ []) $ join ! $ use0 𝓛 (raw (fact 𝓤 (n < length p.now))) (fact_i 𝓤 _ (emp 𝓤) less) $ move ! (1 ∷ 0 ∷ []) $ use2 𝓛 (raw (G₃.pre z₃)) (id⊢ 𝓤 _) $
    calls_at ! (framed 𝓤 𝓛.H 𝓜 𝓣) G₃ (element_met.met 𝓤 𝓛 𝓜 𝓡 (code.calls-mp_pointer::borrowing::element_mut 𝓡.env wired)) z₃ (and_then ! (get ! refl) (and_then ! (get ! refl) (and_then ! (get ! refl) (no_more !)))) (λ v₃.
    use1 𝓛 (later (some (λ (s : Option (MutBor Doc)). ((‵ (flft κ q) ⊛ ‵ (flft κ' q') ⊛ ‵ ftrue) ⊛ ‵ (Opt.own_val s (v₃ ∷ []))) ⊛ some (λ (ws : Unit {0} × (Unit {0} × (Unit {0} × Unit {0}))). ‵ (lasts element.ended z₃.0.0 z₃.0.3 ws) ⊛ ‵ (BorrowsPartOf items_row Items t r s) ⊛ raw (fact 𝓤 (option_map (λ (d : MutBor Doc). document d.now) s ≡ part (document (Items r.now)) t)))))) (id⊢ 𝓤 _) $
    await ! tt $ pick ! (λ s. split ! $ split ! $ split3 ! $ move ! (3 ∷ []) $ use1 𝓛 (‵ (feq Val v₃ (spelled s)) ⊛ ‵ (Opt.own_val s (v₃ ∷ []))) (option_spelled 𝓛 (named 0) κ doc_row s v₃) $ split ! $ feq_l ! (λ e₃.
    lands_as ! refl refl (spelled_typed (named 0) κ doc_row s v₃ e₃) $ move ! (4 ∷ []) $ pick ! (λ ws₃. split ! $ drop ! $ split ! $ move ! (1 ∷ []) $ heard ! _ (λ there.
    -- [how the elements follow the child; the child; the tokens; nothing; how doc follows the elements]
    move ! (5 ∷ 0 ∷ []) $ use2 𝓛 (‵ (BorrowsPart t x s)) (then_so 𝓛 doc_row items_row doc_row Items x.ghost_name r.ghost_name (ghost_name_of s) _ _ _ _
    (λ w m. subst (λ (d : Doc). OnSome s (PartBecomes t (document w) (document d) (document (Items m)))) (sym here)) (λ m e. e ∙ ap document (sym here))) $
    returns_within ! (W.post y) refl (look_at ! 0 refl) $ free_all ! refl $ keep ! (0 ∷ 1 ∷ 2 ∷ 3 ∷ []) $ ends s v₃ (there ∙ ap (λ d. part (document d) t) (sym here)))))))))))))
    (λ no.
    let En = env code.Mir.locals l in let Then = any_q (after_seq 𝓤 𝓛.H (Wp 𝓤 𝓛.H 𝓣.C 𝓣.Λ En code.Mir.t-7 (at_return 𝓤 𝓛.H En (W.post y))) (at_return 𝓤 𝓛.H En (W.post y))) in
    skips ! $ exec ! 𝓣.C 𝓣.Λ En code.Mir.t-4 (at_ret En (W.post y)) $
    sets ! (addr ! (through ! refl (stop !))) refl (tt, tt) $
    let G₄ = triple_of 𝓛 members.signature (members.spec 𝓛 𝓜.mem 𝓡.returns) in
    let z₄ : G₄.Ghost = (((κ, tt), (q, tt), tt, (x, tt), (mut_vals x, tt)), tt) in
    let Held = option.the_row (MutRef (named 0) κ members_row) in
    let Taken : Option (MutBor members_row.Denot) → Type 0 = λ o. MatchOption o ((ms : _) → document x.now ≢ object ms) (λ m. x.now ≡ Members m.now) in
    nothing ! $ move ! (1 ∷ 0 ∷ []) $ join ! $ nothing ! $ move ! (2 ∷ 0 ∷ []) $ join ! $ join ! $ nothing ! $ move ! (1 ∷ 0 ∷ []) $ use2 𝓛 (raw (G₄.pre z₄)) (id⊢ 𝓤 _) $
    calls_at ! (framed 𝓤 𝓛.H 𝓜 𝓣) G₄ (members_met.met 𝓤 𝓛 𝓜 𝓡 (code.calls-mp_tree::borrowing::members_mut 𝓡.env wired)) z₄ (and_then ! (get ! refl) (no_more !)) (λ v₄.
    use1 𝓛 (later (some (λ (o : Option (MutBor members_row.Denot)). ((‵ (flft κ q) ⊛ ‵ ftrue) ⊛ ‵ (Held.own_val o (v₄ ∷ []))) ⊛ some (λ (ws : Unit {0} × Unit {0}). ‵ (lasts members.ended z₄.0.0 z₄.0.3 ws) ⊛ ‵ (follows_if doc_row members_row x.ghost_name (ghost_name_of o) Members x.now) ⊛ raw (fact 𝓤 (Taken o)))))) (id⊢ 𝓤 _) $
    await ! tt $ pick ! (λ o. split ! $ split ! $ split ! $ move ! (3 ∷ []) $ pick ! (λ ws₄. split ! $ drop ! $ split ! $ move ! (1 ∷ []) $ heard ! _ (λ taken.
    -- [how doc follows the entries; the token; nothing; the entries; the token of the pointer; the pointer]
    elim (cases o) [
      | inl found ↦ let m = found.0 in
          let here : x.now ≡ Members m.now = subst Taken found.1 taken in
          rewrite ! 0 (λ (z : Option (MutBor members_row.Denot)). ‵ (follows_if doc_row members_row x.ghost_name (ghost_name_of z) Members x.now)) found.1 refl $
          rewrite ! 3 (λ (z : Option (MutBor members_row.Denot)). ‵ (Held.own_val z (v₄ ∷ []))) found.1 refl $ move ! (3 ∷ []) $
          use1 𝓛 (‵ (feq Val v₄ (spelled (Some m))) ⊛ ‵ ((MutRef (named 0) κ members_row).own_val m (mut_vals m))) (some_apart 𝓛 (named 0) κ members_row m v₄) $ split ! $ feq_l ! (λ e₄.
          lands_as ! e₄ refl (tt, (record { fits = lit< tt }, (tt, tt))) $
          first ! $ switches_on ! (get_tag ! (vrt ! refl (fld ! refl (stop !))) (whole !)) $ exec ! 𝓣.C 𝓣.Λ En (arm_of code.Mir.s-6 0) Then $
          sets ! (of_opd ! (get_in ! (vrt ! refl (fld ! refl (stop !))) (in_variant ! 1 0 refl refl (whole !)))) refl (tt, tt) $ sets ! (addr ! (through ! refl (stop !))) refl (tt, tt) $
          -- [the entries; how doc follows them; the token; nothing; the token of the pointer; the pointer]
          let G₅ = triple_of 𝓛 value.signature (value.spec 𝓛 𝓜.mem 𝓡.returns) in
          let z₅ : G₅.Ghost = (((κ, (κ', tt)), (q, (q', tt)), tt, (m, (p, (n, tt))), (mut_vals m, (shr_vals p, (uint_vals w64 n, tt)))), tt) in
          move ! (1 ∷ 0 ∷ []) $ owned ! usize _ (uint_Makes 𝓛 w64) n (uint_vals w64 n) (refl, are.1.1.0.1) $ nothing ! $ move ! (1 ∷ 0 ∷ []) $ join ! $ move ! (6 ∷ 0 ∷ []) $ join ! $ move ! (2 ∷ 0 ∷ []) $ join ! $
          move ! (4 ∷ 3 ∷ []) $ join ! $ move ! (3 ∷ 0 ∷ []) $ join ! $ move ! (0 ∷ 1 ∷ []) $ join ! $ use0 𝓛 (raw (fact 𝓤 (n < length p.now))) (fact_i 𝓤 _ (emp 𝓤) less) $ move ! (1 ∷ 0 ∷ []) $ use2 𝓛 (raw (G₅.pre z₅)) (id⊢ 𝓤 _) $
          calls_at_last ! (framed 𝓤 𝓛.H 𝓜 𝓣) G₅ (value_met.met 𝓤 𝓛 𝓜 𝓡 (code.calls-mp_pointer::borrowing::value_mut 𝓡.env wired)) z₅ (and_then ! (get ! refl) (and_then ! (get ! refl) (and_then ! (get ! refl) (no_more !)))) (λ v₅.
          use1 𝓛 (later (some (λ (s : Option (MutBor Doc)). ((‵ (flft κ q) ⊛ ‵ (flft κ' q') ⊛ ‵ ftrue) ⊛ ‵ (Opt.own_val s (v₅ ∷ []))) ⊛ some (λ (ws : Unit {0} × (Unit {0} × (Unit {0} × Unit {0}))). ‵ (lasts value.ended z₅.0.0 z₅.0.3 ws) ⊛ ‵ (BorrowsPartOf members_row Members t m s) ⊛ raw (fact 𝓤 (option_map (λ (d : MutBor Doc). document d.now) s ≡ part (document (Members m.now)) t)))))) (id⊢ 𝓤 _) $
          await ! tt $ pick ! (λ s. split ! $ split ! $ split3 ! $ move ! (3 ∷ []) $ use1 𝓛 (‵ (feq Val v₅ (spelled s)) ⊛ ‵ (Opt.own_val s (v₅ ∷ []))) (option_spelled 𝓛 (named 0) κ doc_row s v₅) $ split ! $ feq_l ! (λ e₅.
          lands_last ! refl (spelled_typed erased κ doc_row s v₅ e₅) $ exec ! 𝓣.C 𝓣.Λ En code.Mir.t-7 (at_ret En (W.post y)) $
          sets ! (of_opd ! (get ! refl)) refl (spelled_typed (named 0) κ doc_row s v₅ e₅) $ move ! (4 ∷ []) $ pick ! (λ ws₅. split ! $ drop ! $ split ! $ move ! (1 ∷ []) $ heard ! _ (λ there.
          -- [how the entries follow the child; the child; the tokens; nothing; how doc follows the entries]
          move ! (5 ∷ 0 ∷ []) $ use2 𝓛 (‵ (BorrowsPart t x s)) (then_so 𝓛 doc_row members_row doc_row Members x.ghost_name m.ghost_name (ghost_name_of s) _ _ _ _
          (λ w k. subst (λ (d : Doc). OnSome s (PartBecomes t (document w) (document d) (document (Members k)))) (sym here)) (λ k e. e ∙ ap document (sym here))) $
          returns ! (look_at ! 0 refl) $ free_all ! refl $ keep ! (0 ∷ 1 ∷ 2 ∷ 3 ∷ []) $ ends s v₅ (there ∙ ap (λ d. part (document d) t) (sym here))))))))
      | inr none ↦ let free = subst Taken none taken in
          rewrite ! 0 (λ (z : Option (MutBor members_row.Denot)). ‵ (follows_if doc_row members_row x.ghost_name (ghost_name_of z) Members x.now)) none refl $
          rewrite ! 3 (λ (z : Option (MutBor members_row.Denot)). ‵ (Held.own_val z (v₄ ∷ []))) none refl $ move ! (3 ∷ []) $
          use1 𝓛 (‵ (feq Val v₄ (spelled {X = members_row.Denot} None))) (none_apart 𝓛 (named 0) κ members_row v₄) $ feq_l ! (λ e₄.
          lands_as ! e₄ refl (tt, (record { fits = lit< tt }, tt)) $
          first ! $ switches_on ! (get_tag ! (vrt ! refl (fld ! refl (stop !))) (whole !)) $ exec ! 𝓣.C 𝓣.Λ En (arm_of code.Mir.s-6 1) Then $
          sets_last ! (agg ! (and_then ! (lit ! tt) (no_more !))) refl (tt, (record { fits = lit< tt }, tt)) $ exec ! 𝓣.C 𝓣.Λ En code.Mir.t-7 (at_ret En (W.post y)) $
          sets ! (of_opd ! (get ! refl)) refl (tt, (record { fits = lit< tt }, tt)) $
          -- [the old value of doc; the token; nothing; the token of the pointer; the pointer]
          use1 𝓛 (‵ (BorrowsPart t x None)) (none_so 𝓛 doc_row doc_row x.ghost_name _ _ x.now (λ w. tt) refl) $ use0 𝓛 (‵ (Opt.own_val None (spelled {X = Doc} None ∷ []))) (none_of 𝓛 (MutRef (named 0) κ doc_row)) $
          returns ! (look_at ! 0 refl) $ free_all ! refl $ keep ! (1 ∷ 0 ∷ 2 ∷ 4 ∷ []) $ ends None (spelled {X = Doc} None) (sym (scalar_part (document x.now) p.now n less (λ yes. when_false u no (answer.1 yes)) free)))
    ]))))))))))))))
