-- By hand, since no proof is generated of what the owner of a borrow ends as if it has the result's type, nor in a loop: `get_mut` walks
-- down by `child_mut`, and the document follows the target. Assumes `Logic`.
-- How it goes: at each turn the target is owned, and it is known where it stands and how the document follows it
-- (`Evaluation.antt`'s `Reached`). A child that is borrowed takes the target's place, and the document follows it by both steps
-- (`follows_then`). If none is borrowed, the target came back as it was, and so did the document (`nothing_changed`). After the
-- last token the target is what is returned (`so_made`).
--     ends      from how the document follows what is returned, that, and the two tokens, the function may return
--     Now       what is owned at the start of a turn.        Turned      what a turn has to leave
-- Of the body it needs: the order of its statements, the locals that hold a value through the loop (1 the document, 2 the
-- pointer, 3 the target, 4 the place, 6 the number of tokens), in a turn (`turn-1`) the test as its first two statements, the
-- `match` as its fifth and the step after it, and what runs after the loop (`t-5`). What `len` and `child_mut` do is in their
-- contracts. After an edit of the body print the MIR again (`rt check --generated DIR --start evaluating::get_mut`).
use Rattle.std.proofs.Common.{◌≡◌, ◌<◌, ◌+◌, ◌-◌, ◌^◌, ℕ, List, [], ◌∷◌, length, take, Option, Some, None, option_map, refl, sym, ap, ◌∙◌, subst, inl, inr, lit<, w64, arith, MutBor}
use Rattle.std.proofs.VecSteps.Shapes.{after, head}
use Rattle.std.proofs.option.Made.{Some-of, none_of}
use Rattle.std.proofs.raw_atomic.Walks.{proved}
use Rattle.std.specs.contracts.option.Option as option
use mathlib.Core.Option as maybe
use mathlib.Core.WellFounded.InvImage
use lib.Dec.{ltb→lt, nltb→le}
use lib.WfN.{lt-wf_rel}
use base.Fml.{flft, ftrue, feq}
use base.Logic.{SProp, emp, id⊢}
use mir.Syntax.{named}
use mir.Val.{Val, vint, vptr}
use contract.Monad.{fact, fact_i}
use contract.Running.{tables, tables_of}
use prog.Wp.{Wp, Out, after_seq, after_block, after_turn, at_return}
use types.Kit.{Item, ‵, raw, ◌⊛◌, some, later, prop, at_ret, any_q, Sq, ◌$◌, ◌∵◌, !, qed, done, move, keep, drop, use0, use1, use2, split, split3, join, fjoin, feq_l, pick, await, rewrite, suffices, frame}
use types.Run.{enter, of_opd, lit, bin, addr, stop, fld, no_more, and_then, first, blocks, branches, skips, jumps, exec, returns, returns_within, switches_on, loops, again, Below}
use types.ByLocal.{alloc_all, pass_all, free_all, look_at, get, get_in, get_tag, through, sets, sets_last, lands_as, env, holding, forget_but}
use types.Match.{vrt, in_variant}
use types.Part.{whole, agg}
use denote.Builtin.{usize, RefOf}
use denote.Exit.{yes, no}
use denote.Follow.{follows, follows_by, follows_then}
use denote.Laws.{shows}
use denote.Plain.{uint_Makes, uint_vals, uint_Tells}
use denote.Ref.{MutRef, ShrRef, mut_vals, mut_Tells, shr_vals, shr_Tells, shr_copy}
use denote.Signature.{plain}
use denote.Steps.{nothing, owned, heard, facts, only}
use denote.Triple.Call.{calls_at}
use denote.Triple.Clauses.{lasts}
use denote.Triple.Spec.{triple_of}
use denote.Triple.Table.{framed}
use denote.Triple.Walked.{Stays, walk_of, says, stay_dropped, Goes-dropped, Goes-spent_ref, ends_at}
use Rattle.mp_tree.specs.View.{document}
use Rattle.mp_tree.specs.declared.doc.Doc.{Doc}
use Rattle.mp_pointer.specs.Borrowing.{BorrowsPart, PartBecomes}
use Rattle.mp_pointer.specs.Private.Child.{one_token}
use Rattle.mp_pointer.specs.Part.{part}
use Rattle.mp_tree.specs.Rows.{doc_row}
use Rattle.mp_pointer.specs.contracts.pointer.Pointer as pointer
use Rattle.mp_pointer.proofs.pointer.Pointer.TheLaws as pointer_laws
use Rattle.mp_pointer.proofs.Changes.FollowedBorrows.{follows_self, arm_of, cases, spelled, place_of, some_apart, none_apart, so_opened, so_made, then_so}
use Rattle.mp_pointer.proofs.Changes.Written.{Reached, becomes_root, next_stood, next_made, nothing_further, nothing_changed, all_taken}
use Rattle.mp_pointer.specs.contracts.evaluating.get_mut as f
use Rattle.mp_pointer.proofs.evaluating.get_mut.Statement.{statement}
use Rattle.mp_pointer.proofs.evaluating.get_mut.Code as code
use Rattle.mp_pointer.specs.contracts.borrowing.child_mut as child
use Rattle.mp_pointer.proofs.borrowing.child_mut.Met as child_met
use Rattle.mp_pointer.specs.contracts.pointer.Pointer.len as len
use Rattle.mp_pointer.proofs.pointer.Pointer.len.Met as len_met

abbrev stayed : Stays f.ended.signature.params f.ended.kept
stayed = (stay_dropped _ no, (stay_dropped _ yes, tt))

pub get_mut_spec : {M : Type 1} → statement M
unfolding after_turn follows_by tables_of
get_mut_spec 𝓤 𝓛 𝓜 𝓡 wired =
    let c = f.clauses 𝓛 𝓜.mem 𝓡.returns in let W = walk_of 𝓛 f.ended stayed c in let 𝓣 = tables 𝓤 𝓛.H 𝓜 𝓡 𝓡.env in
    proved 𝓛 f.ended stayed c 𝓜 𝓡
    (Goes-spent_ref 𝓛 2 (0 ∷ []) tt (plain (λ _. doc_row)), (Goes-dropped 𝓛 2 (RefOf (1 ∷ []) tt (plain (λ _. pointer.the_row)) (λ _. tt)) yes (λ κs x w. refl), tt))
    f.Key.name code.function (code.unfolded 𝓤 𝓛.H 𝓜 𝓡 wired)
    (λ κs. (mut_vals, (shr_vals, tt))) (λ κs. (mut_Tells (named 0) κs.0 doc_row, (shr_Tells (named 1) κs.1.0 pointer.the_row, tt)))
    (λ κs qs bounds a _ are.
    let κ = κs.0 in let κ' = κs.1.0 in let q = qs.0 in let q' = qs.1.0 in let x = a.0 in let p = a.1.0 in let t = p.now in
    let y : W.Ghost = ((κs, qs, bounds, a, (mut_vals x, (shr_vals p, tt))), tt) in
    let Ref = λ (z : MutBor Doc). (MutRef (named 0) κ doc_row).own_val z (mut_vals z) in
    let Path = (ShrRef (named 1) κ' pointer.the_row).own_val p (shr_vals p) in
    let Opt = option.the_row (MutRef (named 0) κ doc_row) in
    let ends : (s : Option (MutBor Doc)) (v : Val) → option_map (λ (d : MutBor Doc). document d.now) s ≡ part (document x.now) t
    → Sq 𝓛 (‵ (BorrowsPart t x s) ∷ ‵ (Opt.own_val s (v ∷ [])) ∷ ‵ (flft κ q) ∷ ‵ (flft κ' q') ∷ []) (prop (W.post y v)) = λ s v there.
    suffices ! _ (ends_at 𝓛 f.ended stayed c y v s (tt, (tt, tt)) (tt, (tt, tt))) $ move ! (1 ∷ []) $
    nothing ! $ nothing ! $ fjoin ! $ nothing ! $ fjoin ! $ join ! $ nothing ! $ move ! (4 ∷ 0 ∷ []) $ join ! $ move ! (3 ∷ 0 ∷ []) $ join ! $ join ! $ frame ! $ says ! there $ done ! in
    qed 𝓛 (((‵ (flft κ q) ⊛ ‵ (flft κ' q') ⊛ ‵ ftrue) ⊛ ‵ (Ref x) ⊛ ‵ Path ⊛ ‵ ftrue) ∷ ‵ ftrue ∷ []) ∵
    split ! $ split3 ! $ move ! (3 ∷ []) $ split3 ! $ keep ! (0 ∷ 3 ∷ 4 ∷ 1 ∷ []) $
    -- [doc; its token; the token of the pointer; the pointer]
    enter ! _ _ _ _ _ $ alloc_all ! (λ l. pass_all ! refl ((tt, tt), ((tt, tt), tt)) $ let En = env code.Mir.locals l in
    sets ! (of_opd ! (get ! refl)) refl (tt, tt) $ sets ! (of_opd ! (lit ! tt)) refl (tt, record { fits = lit< tt }) $
    move ! (3 ∷ []) $ use1 𝓛 (‵ Path ⊛ ‵ Path) ((shr_copy 𝓛 (named 1) κ' pointer.the_row pointer_laws.the_row_laws.shr_laws).twice p (shr_vals p)) $ split ! $
    -- [the pointer; the pointer; doc; its token; the token of the pointer]
    let G₁ = triple_of 𝓛 len.signature (len.spec 𝓛 𝓜.mem 𝓡.returns) in
    let z₁ : G₁.Ghost = (((κ', tt), (q', tt), tt, (p, tt), (shr_vals p, tt)), tt) in
    nothing ! $ move ! (1 ∷ 0 ∷ []) $ join ! $ nothing ! $ move ! (5 ∷ 0 ∷ []) $ join ! $ join ! $ nothing ! $ move ! (1 ∷ 0 ∷ []) $ use2 𝓛 (raw (G₁.pre z₁)) (id⊢ 𝓤 _) $
    calls_at ! (framed 𝓤 𝓛.H 𝓜 𝓣) G₁ (len_met.met 𝓤 𝓛 𝓜 𝓡 (code.calls-mp_pointer::pointer::Pointer::len 𝓡.env wired)) z₁ (and_then ! (get ! refl) (no_more !)) (λ v₁.
    use1 𝓛 (later (some (λ (m : ℕ). ((‵ (flft κ' q') ⊛ ‵ ftrue) ⊛ ‵ (usize.own_val m (v₁ ∷ []))) ⊛ some (λ (ws : Unit {0} × Unit {0}). ‵ (lasts len.ended z₁.0.0 z₁.0.3 ws) ⊛ raw (fact 𝓤 (m ≡ length t)))))) (id⊢ 𝓤 _) $
    await ! tt $ pick ! (λ m. split ! $ split ! $ split ! $ move ! (2 ∷ []) $ facts ! usize _ (shows 𝓛 usize) m (v₁ ∷ []) (λ is.
    lands_as ! (ap only (uint_Tells w64 m (v₁ ∷ []) is)) refl (tt, record { fits = is.1 }) $ move ! (2 ∷ []) $ pick ! (λ ws₁. split ! $ drop ! $ heard ! _ (λ all.
    -- [the token of the pointer; nothing; the pointer; doc; its token]
    move ! (1 ∷ []) $ drop ! $ move ! (2 ∷ 3 ∷ 0 ∷ 1 ∷ []) $ use0 𝓛 (‵ (follows doc_row doc_row x.ghost_name x.ghost_name (λ w. w))) (follows_self 𝓛 doc_row x.ghost_name) $ move ! (1 ∷ 0 ∷ []) $
    let At = Reached t x.now m in
    let Nearer : At → At → Type 0 = λ s u. m - s.number < m - u.number in
    let Now : At → List (Item 𝓤) = λ s. ‵ (Ref s.target) ∷ ‵ (follows doc_row doc_row x.ghost_name s.target.ghost_name s.lender) ∷ ‵ (flft κ q) ∷ ‵ (flft κ' q') ∷ ‵ Path
    ∷ holding 𝓛 En ((1, place_of x) ∷ (2, vptr p.ref_ptr.0 p.ref_ptr.1) ∷ (3, place_of s.target) ∷ (4, vint w64 s.number) ∷ (6, vint w64 m) ∷ []) in
    let Turned : At → Out → SProp 𝓤 = λ s. after_turn 𝓤 𝓛.H (Below 𝓛 Nearer Now s) (after_block 𝓤 𝓛.H (after_seq 𝓤 𝓛.H (Wp 𝓤 𝓛.H 𝓣.C 𝓣.Λ En code.Mir.t-5 (at_return 𝓤 𝓛.H En (W.post y))) (at_return 𝓤 𝓛.H En (W.post y)))) in
    let start : At = record { number = 0; within = omega arith; target = x; lender = λ w. w; stood = refl; made = λ w. becomes_root (document w) (document x.now) } in
    first ! $ blocks ! $ loops ! (tables_of 𝓤 𝓛.H 𝓜 𝓣) Nearer (InvImage.wf (λ (s : At). m - s.number) lt-wf_rel.wf) Now (λ s.
    let i = s.number in
    sets ! (bin ! (get ! refl) (get ! refl) tt) refl (tt, tt) $ first ! $ branches ! (get ! refl)
    (λ less.
    let h : i < m = ltb→lt i m less in let inside : i < length t = subst (λ k. i < k) all h in let small : i + 1 < 2 ^ 64 = omega (arith, h, is.1) in let r = one_token t i in
    let Then = any_q (after_seq 𝓤 𝓛.H (Wp 𝓤 𝓛.H 𝓣.C 𝓣.Λ En (after 5 code.Mir.turn-1) (Turned s)) (Turned s)) in
    skips ! $ exec ! 𝓣.C 𝓣.Λ En (after 2 code.Mir.turn-1) (any_q (Turned s)) $ sets ! (addr ! (through ! refl (stop !))) refl (tt, tt) $
    move ! (4 ∷ []) $ use1 𝓛 (‵ Path ⊛ ‵ Path) ((shr_copy 𝓛 (named 1) κ' pointer.the_row pointer_laws.the_row_laws.shr_laws).twice p (shr_vals p)) $ split ! $
    -- [the pointer; the pointer; the target; how doc follows it; its token; the token of the pointer]
    let G₂ = triple_of 𝓛 child.signature (child.spec 𝓛 𝓜.mem 𝓡.returns) in
    let z₂ : G₂.Ghost = (((κ, (κ', tt)), (q, (q', tt)), tt, (s.target, (p, (i, tt))), (mut_vals s.target, (shr_vals p, (uint_vals w64 i, tt)))), tt) in
    owned ! usize _ (uint_Makes 𝓛 w64) i (uint_vals w64 i) (refl, omega (arith, small)) $ nothing ! $ move ! (1 ∷ 0 ∷ []) $ join ! $ move ! (1 ∷ 0 ∷ []) $ join ! $ move ! (2 ∷ 0 ∷ []) $ join ! $
    nothing ! $ move ! (5 ∷ 0 ∷ []) $ join ! $ move ! (4 ∷ 0 ∷ []) $ join ! $ join ! $ use0 𝓛 (raw (fact 𝓤 (i < length t))) (fact_i 𝓤 _ (emp 𝓤) inside) $ move ! (1 ∷ 0 ∷ []) $ use2 𝓛 (raw (G₂.pre z₂)) (id⊢ 𝓤 _) $
    calls_at ! (framed 𝓤 𝓛.H 𝓜 𝓣) G₂ (child_met.met 𝓤 𝓛 𝓜 𝓡 (code.calls-mp_pointer::borrowing::child_mut 𝓡.env wired)) z₂ (and_then ! (get ! refl) (and_then ! (get ! refl) (and_then ! (get ! refl) (no_more !)))) (λ v₂.
    use1 𝓛 (later (some (λ (o : Option (MutBor Doc)). ((‵ (flft κ q) ⊛ ‵ (flft κ' q') ⊛ ‵ ftrue) ⊛ ‵ (Opt.own_val o (v₂ ∷ []))) ⊛ some (λ (ws : Unit {0} × (Unit {0} × (Unit {0} × Unit {0}))). ‵ (lasts child.ended z₂.0.0 z₂.0.3 ws) ⊛ ‵ (BorrowsPart r s.target o) ⊛ raw (fact 𝓤 (option_map (λ (d : MutBor Doc). document d.now) o ≡ part (document s.target.now) r)))))) (id⊢ 𝓤 _) $
    await ! tt $ pick ! (λ o. split ! $ split ! $ split3 ! $ move ! (4 ∷ []) $ pick ! (λ ws₂. split ! $ drop ! $ split ! $ move ! (1 ∷ []) $ heard ! _ (λ there.
    -- [how the target follows its child; the tokens; nothing; the child; the pointer; how doc follows the target]
    elim (cases o) [
      | inl found ↦ let z = found.0 in
          let There = λ (o : Option (MutBor Doc)). option_map (λ (d : MutBor Doc). document d.now) o ≡ part (document s.target.now) r in
          rewrite ! 0 (λ (o : Option (MutBor Doc)). ‵ (BorrowsPart r s.target o)) found.1 refl $ rewrite ! 4 (λ (o : Option (MutBor Doc)). ‵ (Opt.own_val o (v₂ ∷ []))) found.1 refl $
          use1 𝓛 (some (λ (g : (G : Doc → Doc) × ((w : Doc) → PartBecomes r (document w) (document s.target.now) (document (G w)))). ‵ (follows doc_row doc_row s.target.ghost_name z.ghost_name g.0))) (so_opened 𝓛 doc_row doc_row s.target.ghost_name z.ghost_name _ _) $ pick ! (λ g.
          move ! (6 ∷ 0 ∷ []) $ use2 𝓛 (‵ (follows doc_row doc_row x.ghost_name z.ghost_name (λ w. s.lender (g.0 w)))) (follows_then 𝓛 doc_row doc_row doc_row s.lender g.0 x.ghost_name s.target.ghost_name z.ghost_name) $
          move ! (4 ∷ []) $ use1 𝓛 (‵ (feq Val v₂ (spelled (Some z))) ⊛ ‵ (Ref z)) (some_apart 𝓛 (named 0) κ doc_row z v₂) $ split ! $ feq_l ! (λ e.
          lands_as ! e refl (tt, (record { fits = lit< tt }, (tt, tt))) $ move ! (4 ∷ []) $ drop ! $
          -- [the child; how doc follows it; the tokens; the pointer]
          first ! $ switches_on ! (get_tag ! (vrt ! refl (fld ! refl (stop !))) (whole !)) $ exec ! 𝓣.C 𝓣.Λ En (arm_of (head (after 4 code.Mir.turn-1)) 0) Then $
          sets ! (of_opd ! (get_in ! (vrt ! refl (fld ! refl (stop !))) (in_variant ! 1 0 refl refl (whole !)))) refl (tt, tt) $ sets_last ! (addr ! (through ! refl (stop !))) refl (tt, tt) $
          exec ! 𝓣.C 𝓣.Λ En (after 5 code.Mir.turn-1) (any_q (Turned s)) $ sets_last ! (bin ! (get ! refl) (lit ! tt) (record { fits = small })) refl (tt, record { fits = small }) $
          let further : At = record {
            number = i + 1;
            within = omega (arith, h);
            target = z;
            lender = λ w. s.lender (g.0 w);
            stood = next_stood t i (document x.now) (document s.target.now) (Some (document z.now)) s.stood (subst There found.1 there);
            made = λ w. next_made t i (document w) (document (g.0 w)) (document x.now) (document s.target.now) (document (s.lender (g.0 w))) s.stood (s.made (g.0 w)) (g.1 w);
          } in
          forget_but ! En (1 ∷ 2 ∷ 3 ∷ 4 ∷ 6 ∷ []) refl $ again ! Nearer Now s further (omega (arith, h))))
      | inr none ↦ let There = λ (o : Option (MutBor Doc)). option_map (λ (d : MutBor Doc). document d.now) o ≡ part (document s.target.now) r in
          rewrite ! 0 (λ (o : Option (MutBor Doc)). ‵ (BorrowsPart r s.target o)) none refl $ rewrite ! 4 (λ (o : Option (MutBor Doc)). ‵ (Opt.own_val o (v₂ ∷ []))) none refl $
          move ! (6 ∷ 0 ∷ []) $ use2 𝓛 (‵ (BorrowsPart t x None)) (then_so 𝓛 doc_row doc_row doc_row s.lender x.ghost_name s.target.ghost_name maybe.none _ _ _ _
          (λ w d _. tt) (λ d same. nothing_changed (take i t) x.now (s.lender d) s.target.now d s.stood (s.made d) same)) $
          move ! (4 ∷ []) $ use1 𝓛 (‵ (feq Val v₂ (spelled {X = Doc} None))) (none_apart 𝓛 (named 0) κ doc_row v₂) $ feq_l ! (λ e.
          lands_as ! e refl (tt, (record { fits = lit< tt }, tt)) $
          -- [how doc follows nothing; the tokens; nothing; the pointer]
          first ! $ switches_on ! (get_tag ! (vrt ! refl (fld ! refl (stop !))) (whole !)) $ exec ! 𝓣.C 𝓣.Λ En (arm_of (head (after 4 code.Mir.turn-1)) 1) Then $
          sets ! (agg ! (and_then ! (lit ! tt) (no_more !))) refl (tt, (record { fits = lit< tt }, tt)) $ use0 𝓛 (‵ (Opt.own_val None (spelled {X = Doc} None ∷ []))) (none_of 𝓛 (MutRef (named 0) κ doc_row)) $
          returns_within ! (W.post y) refl (look_at ! 0 refl) $ free_all ! refl $ keep ! (1 ∷ 0 ∷ 2 ∷ 3 ∷ []) $
          ends None (spelled {X = Doc} None) (sym (nothing_further t (i + 1) (document x.now) (next_stood t i (document x.now) (document s.target.now) None s.stood (subst There none there)))))
    ])))))
    (λ over.
    let done_all : i ≡ length t = omega (arith, nltb→le i m over, s.within, all) in
    let is_all : take i t ≡ t = all_taken t i done_all in
    jumps ! $ exec ! 𝓣.C 𝓣.Λ En code.Mir.t-5 (at_ret En (W.post y)) $ sets ! (addr ! (through ! refl (stop !))) refl (tt, tt) $
    sets ! (agg ! (and_then ! (lit ! tt) (and_then ! (get ! refl) (no_more !)))) refl (tt, (record { fits = lit< tt }, (tt, tt))) $
    -- [the target; how doc follows it; the tokens; the pointer]
    use1 𝓛 (‵ (Opt.own_val (Some s.target) (spelled (Some s.target) ∷ []))) (Some-of 𝓛 (MutRef (named 0) κ doc_row) s.target (place_of s.target)) $ move ! (1 ∷ []) $
    use1 𝓛 (‵ (BorrowsPart t x (Some s.target))) (so_made 𝓛 doc_row doc_row x.ghost_name s.target.ghost_name _ _ s.lender x.now (λ w. subst (λ u. PartBecomes u (document w) (document x.now) (document (s.lender w))) is_all (s.made w)) refl) $
    returns ! (look_at ! 0 refl) $ free_all ! refl $ keep ! (0 ∷ 1 ∷ 2 ∷ 3 ∷ []) $ ends (Some s.target) (spelled (Some s.target)) (sym s.stood ∙ ap (part (document x.now)) is_all))) start)))))))
