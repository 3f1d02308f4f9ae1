-- What the proofs by hand of borrows that leave a function cite. Assumes `Logic`.
--     then_so       a whole follows a part, and the part follows a part of its own by a relation: so does the whole
--     follows_self, so_opened, so_made, none_so      a reference follows itself;  a relation is taken apart, and made;  nothing is borrowed
--     spelled, spelled_typed, cases, option_spelled      the machine's value of an `Option` of a `&mut`, its type, its two cases, and that it is the one that is owned
--     some_apart, none_apart      such an `Option` is taken apart
--     shares_again, shared_back   a `&κ mut T` is borrowed as `&` for a shorter time, and comes back as it was.        Kept      what is kept of it meanwhile
--     when_true, when_false       what a branch learns.        arm_of      an arm of a switch
use Rattle.std.proofs.Common.{◌≡◌, ℕ, zero, suc, List, [], ◌∷◌, ◌++◌, refl, sym, ap, subst, ◌∙◌, ◌⊎◌, inl, inr, Option, Bool, true, false, true≢false, lit<, MutBor}
use mathlib.Core.Bool.{not}
use mathlib.Core.Option as maybe
use seplogic.Ra.Ura.{Ura}
use lib.Dec.{T}
use mir.Syntax.{Lifetime, Ty, Body as Code, Arms, arm, default, no_default, switch, skip}
use mir.Val.{Val, vptr, of_list, has_ty, WT}
use base.Fraction.{full_share}
use base.Logic.{ent, sep, emp, ex, wand}
use base.Fml.{Lft, GName, Share, Fml, Incl, Incl-refl, fsep, fex, feq, flft, fdead, flent, fobor, fobs, fauth, fres}
use types.Logic.{Logic, sem}
use types.Kit.{‵, ◌⊛◌, later, ◌$◌, ◌∵◌, !, qed, move, keep, use0, use1, use2, split, fsplit, fsplit3, fjoin, fjoin3, fpick, fpack, feq_l, feq_i, assume, each, frame, await, updating, now, show, done, rewrite}
use types.Match.{live}
use types.Mut.{open_ref, close_ref}
use types.SemTy.{Body}
use types.Tokens.{lent_back}
use denote.Follow.{follows, follows_by, follows_if, follows_so, such_by, follows_then, followed}
use denote.RattleType.{RattleType}
use denote.Memory.{lone, mem, part_at}
use denote.Ref.{MutRef, ShrRef, as_bor}
use denote.Lend.{lends_shr}
use denote.Shares.{Shares}
use denote.Steps.{only}
use Rattle.std.proofs.Common.{None, Some}
use Rattle.std.specs.contracts.option.Option as option
use Rattle.std.proofs.option.Made.{Some-of, none_of}

module _ {M : Type 1} {𝓤 : Ura M} (𝓛 : Logic 𝓤) (R T U : RattleType) (F : T.Denot → R.Denot) (γ γ' : GName) where
  by_then : (m : maybe.Option GName) (G : U.Denot → T.Denot) (n : T.Denot)
      → ent 𝓤 (sep 𝓤 (sem 𝓛 (follows R T γ γ' F)) (sem 𝓛 (follows_if T U γ' m G n))) (sem 𝓛 (follows_if R U γ m (λ w. F (G w)) (F n)))
  unfolding follows_by
  by_then maybe.none G n = followed 𝓛 R T F γ γ' n
  by_then (maybe.some γ'') G n = follows_then 𝓛 R T U F G γ γ' γ''

  pub then_so : (m : maybe.Option GName) (Q : U.Denot → T.Denot → Type 0) (Q₀ : T.Denot → Type 0) (P : U.Denot → R.Denot → Type 0) (P₀ : R.Denot → Type 0)
      → ((w : U.Denot) (n : T.Denot) → Q w n → P w (F n)) → ((n : T.Denot) → Q₀ n → P₀ (F n))
      → ent 𝓤 (sep 𝓤 (sem 𝓛 (follows R T γ γ' F)) (sem 𝓛 (follows_so T U γ' m Q Q₀))) (sem 𝓛 (follows_so R U γ m P P₀))
  unfolding such_by
  then_so m Q Q₀ P P₀ goes goes₀ =
      qed 𝓛 (‵ (follows R T γ γ' F) ∷ ‵ (follows_so T U γ' m Q Q₀) ∷ []) ∵ move ! (1 ∷ []) $ fpick ! (λ s. move ! (1 ∷ 0 ∷ []) $
      use2 𝓛 (‵ (follows_if R U γ m (λ w. F (s.0.0 w)) (F s.0.1))) (by_then m s.0.0 s.0.1) $
      fpack ! ((t : (U.Denot → R.Denot) × R.Denot) × ((w : U.Denot) → P w (t.0 w)) × P₀ t.1) (λ t. follows_if R U γ m t.0.0 t.0.1)
      (((λ w. F (s.0.0 w)), F s.0.1), (λ w. goes w (s.0.0 w) (s.1 w)), goes₀ s.0.1 s.2) $ done !)

abbrev pub place_of : {X : Type 0} → MutBor X → Val
place_of x = vptr x.ref_ptr.0 x.ref_ptr.1

module _ {M : Type 1} {𝓤 : Ura M} (𝓛 : Logic 𝓤) (ℓ : Lifetime) (κ : Lft) (T : RattleType) where
  abbrev Ref : RattleType
  Ref = MutRef ℓ κ T

  pub some_apart : (x : MutBor T.Denot) (v : Val)
      → ent 𝓤 (sem 𝓛 ((option.the_row Ref).own_val (Some x) (v ∷ []))) (sep 𝓤 (sem 𝓛 (feq Val v (live 1 (of_list (place_of x ∷ []))))) (sem 𝓛 (Ref.own_val x (place_of x ∷ []))))
  some_apart x v =
      qed 𝓛 (‵ ((option.the_row Ref).own_val (Some x) (v ∷ [])) ∷ []) ∵ fpick ! (λ us. fsplit ! $ feq_l ! (λ e. fpick ! (λ vss. fsplit ! $ feq_l ! (λ f. fsplit ! $ fsplit3 ! $ feq_l ! (λ g.
      feq_i ! (List Val) (place_of x ∷ []) (place_of x ∷ []) refl $ fjoin3 ! $
      feq_i ! Val v (live 1 (of_list (place_of x ∷ []))) (ap only e ∙ ap (λ ws. live 1 (of_list ws)) f ∙ ap (λ ws. live 1 (of_list (ws ++ []))) g) $ keep ! (0 ∷ 1 ∷ []) $ done !)))))

  pub none_apart : (v : Val) → ent 𝓤 (sem 𝓛 ((option.the_row Ref).own_val None (v ∷ []))) (sem 𝓛 (feq Val v (live 0 (of_list []))))
  none_apart v =
      qed 𝓛 (‵ ((option.the_row Ref).own_val None (v ∷ [])) ∷ []) ∵ fpick ! (λ us. fsplit ! $ feq_l ! (λ e. fpick ! (λ vss. fsplit ! $ feq_l ! (λ f.
      feq_i ! Val v (live 0 (of_list [])) (ap only e ∙ ap (λ ws. live 0 (of_list ws)) f) $ keep ! (0 ∷ []) $ done !))))

module _ {M : Type 1} {𝓤 : Ura M} (𝓛 : Logic 𝓤) (R : RattleType) (shared : Shares 𝓛 R R.lives) (alive : (κ : Lft) → Incl κ R.lives) (ℓ : Lifetime) (κ : Lft) (q : Share) (α : ℕ) (x : MutBor R.Denot) where
  open 𝓛 use {H, A}

  abbrev b : ℕ
  b = x.ref_ptr.0

  abbrev o : ℕ
  o = x.ref_ptr.1

  -- what is kept of the reference meanwhile
  abbrev pub Kept : Fml
  Kept = fsep (flent (α ∷ []) (part_at R full_share x.now b o)) (fsep (fobor κ q (Body (mem R) b o x.ghost_name)) (fsep (fobs x.ghost_name (R.coded.code x.now)) (fauth x.ghost_name (R.coded.code x.now))))

  pub shares_again : ent 𝓤 (sep 𝓤 (sem 𝓛 ((MutRef ℓ κ R).own_val x (vptr b o ∷ []))) (sep 𝓤 (A.lft κ q) (A.lft (α ∷ []) full_share)))
      (H.⇛ (sep 𝓤 (sem 𝓛 ((ShrRef ℓ (α ∷ []) R).own_val (as_bor x) (vptr b o ∷ []))) (sep 𝓤 (A.lft (α ∷ []) full_share) (sem 𝓛 Kept))))
  shares_again =
      qed 𝓛 (‵ ((MutRef ℓ κ R).own_val x (vptr b o ∷ [])) ∷ ‵ (flft κ q) ∷ ‵ (flft (α ∷ []) full_share) ∷ []) ∵ updating ! $ fsplit3 ! $ feq_l ! (λ _. open_ref ! tt (mem R) $ move ! (0 ∷ 4 ∷ []) $
      use2 𝓛 (later ((‵ ((ShrRef ℓ (α ∷ []) R).own_val (as_bor x) (vptr b o ∷ [])) ⊛ ‵ (flent (α ∷ []) (part_at R full_share x.now b o))) ⊛ ‵ (flft (α ∷ []) full_share)))
      (lends_shr 𝓛 R ℓ (α ∷ []) full_share x.now b o R.lives (shared x.now) (((α ∷ []), full_share) ∷ []) (alive (α ∷ [])) (Incl-refl (α ∷ []))) $ await ! tt $ split ! $ split ! $
      -- [the reference; what is borrowed; the token of α; the open borrow; both parts of its name]
      now ! $ frame ! $ move ! (1 ∷ []) $ frame ! $ move ! (2 ∷ 3 ∷ []) $ fjoin ! $ move ! (2 ∷ 0 ∷ []) $ fjoin ! $ move ! (1 ∷ 0 ∷ []) $ fjoin ! $ done !)

  pub shared_back : ent 𝓤 (sep 𝓤 (A.dead (α ∷ [])) (sem 𝓛 Kept)) (H.⇛ (sep 𝓤 (sem 𝓛 ((MutRef ℓ κ R).own_val x (vptr b o ∷ []))) (A.lft κ q)))
  shared_back =
      qed 𝓛 (‵ (fdead (α ∷ [])) ∷ ‵ Kept ∷ []) ∵ updating ! $ move ! (1 ∷ []) $ fsplit ! $ move ! (2 ∷ 0 ∷ []) $ lent_back ! tt $ move ! (1 ∷ []) $ fsplit3 ! $ move ! (3 ∷ 0 ∷ 1 ∷ 2 ∷ []) $
      close_ref ! tt (mem R) x.now $ now ! $ feq_i ! (List Val) (vptr b o ∷ []) (vptr b o ∷ []) refl $ fjoin3 ! $ done !

-- a reference follows itself
pub follows_self : {M : Type 1} {𝓤 : Ura M} (𝓛 : Logic 𝓤) (R : RattleType) (γ : GName) → ent 𝓤 (emp 𝓤) (sem 𝓛 (follows R R γ γ (λ w. w)))
follows_self {𝓤 = 𝓤} 𝓛 R γ =
    let A = 𝓛.A in let From : R.Denot → R.Denot → Fml = λ z w. fsep (feq R.Denot z w) (fauth γ (R.coded.code w)) in
    let said = qed 𝓛 [] ∵ each ! (λ (w : R.Denot). wand 𝓤 (A.res γ (R.coded.code w)) (A.res γ (R.coded.code w))) (λ w. assume ! (‵ (fres γ (R.coded.code w))) $ done !) in
    let back = qed 𝓛 [] ∵ each ! (λ (z : R.Denot). wand 𝓤 (A.auth γ (R.coded.code z)) (sem 𝓛 (fex R.Denot (From z)))) (λ z. assume ! (‵ (fauth γ (R.coded.code z))) $
    feq_i ! R.Denot z z refl $ fjoin ! $ fpack ! R.Denot (From z) z $ done !) in
    record { apply = λ a p. (said.apply a p, back.apply a p) }

-- a part that is borrowed, and how the whole follows it
module _ {M : Type 1} {𝓤 : Ura M} (𝓛 : Logic 𝓤) (R U : RattleType) (γ γ' : GName) (P : U.Denot → R.Denot → Type 0) (P₀ : R.Denot → Type 0) where
  pub so_opened : ent 𝓤 (sem 𝓛 (follows_so R U γ (maybe.some γ') P P₀)) (ex 𝓤 (λ (f : (F : U.Denot → R.Denot) × ((w : U.Denot) → P w (F w))). sem 𝓛 (follows R U γ γ' f.0)))
  unfolding such_by follows_by
  so_opened =
      qed 𝓛 (‵ (follows_so R U γ (maybe.some γ') P P₀) ∷ []) ∵ fpick ! (λ s. show ! (λ (f : (F : U.Denot → R.Denot) × ((w : U.Denot) → P w (F w))). sem 𝓛 (follows R U γ γ' f.0)) (s.0.0, s.1) $ done !)

  pub so_made : (F : U.Denot → R.Denot) (n : R.Denot) → ((w : U.Denot) → P w (F w)) → P₀ n → ent 𝓤 (sem 𝓛 (follows R U γ γ' F)) (sem 𝓛 (follows_so R U γ (maybe.some γ') P P₀))
  unfolding such_by follows_by
  so_made F n holds none =
      qed 𝓛 (‵ (follows R U γ γ' F) ∷ []) ∵
      fpack ! ((t : (U.Denot → R.Denot) × R.Denot) × ((w : U.Denot) → P w (t.0 w)) × P₀ t.1) (λ t. follows_if R U γ (maybe.some γ') t.0.0 t.0.1) ((F, n), holds, none) $ done !

-- nothing is borrowed, and the whole's last value is said
pub none_so : {M : Type 1} {𝓤 : Ura M} (𝓛 : Logic 𝓤) (R U : RattleType) (γ : GName) (P : U.Denot → R.Denot → Type 0) (P₀ : R.Denot → Type 0) (n : R.Denot)
    → ((w : U.Denot) → P w n) → P₀ n → ent 𝓤 (sem 𝓛 (fres γ (R.coded.code n))) (sem 𝓛 (follows_so R U γ maybe.none P P₀))
unfolding such_by follows_by
none_so 𝓛 R U γ P P₀ n any none =
    qed 𝓛 (‵ (fres γ (R.coded.code n)) ∷ []) ∵
    fpack ! ((t : (U.Denot → R.Denot) × R.Denot) × ((w : U.Denot) → P w (t.0 w)) × P₀ t.1) (λ t. follows_if R U γ maybe.none t.0.0 t.0.1) (((λ w. n), n), any, none) $ done !

-- the machine's value of an `Option` of a reference
module _ {X : Type 0} where
  abbrev pub spelled : Option (MutBor X) → Val
  spelled (Some x) = live 1 (of_list (place_of x ∷ []))
  spelled None = live 0 (of_list [])

  pub cases : (r : Option (MutBor X)) → ((x : MutBor X) × (r ≡ Some x)) ⊎ (r ≡ None)
  cases (Some x) = inl (x, refl)
  cases None = inr refl

module _ (ℓ : Lifetime) (κ : Lft) (S : RattleType) where
  -- the type that a local of this type has in the code
  abbrev Held : Ty
  Held = lone (option.the_row (MutRef ℓ κ S)).mir

  typed : (r : Option (MutBor S.Denot)) → T (has_ty Held (spelled r)) × WT (spelled r)
  typed (Some x) = (tt, (record { fits = lit< tt }, (tt, tt)))
  typed None = (tt, (record { fits = lit< tt }, tt))

  pub spelled_typed : (r : Option (MutBor S.Denot)) (v : Val) → v ≡ spelled r → T (has_ty Held v) × WT v
  spelled_typed r v e = subst (λ u. T (has_ty Held u) × WT u) (sym e) (typed r)

-- and it is known which value that is
pub option_spelled : {M : Type 1} {𝓤 : Ura M} (𝓛 : Logic 𝓤) (ℓ : Lifetime) (κ : Lft) (S : RattleType) (r : Option (MutBor S.Denot)) (v : Val)
    → ent 𝓤 (sem 𝓛 ((option.the_row (MutRef ℓ κ S)).own_val r (v ∷ []))) (sep 𝓤 (sem 𝓛 (feq Val v (spelled r))) (sem 𝓛 ((option.the_row (MutRef ℓ κ S)).own_val r (v ∷ []))))
option_spelled 𝓛 ℓ κ S (Some x) v =
    let Opt = option.the_row (MutRef ℓ κ S) in
    qed 𝓛 (‵ (Opt.own_val (Some x) (v ∷ [])) ∷ []) ∵ use1 𝓛 (‵ (feq Val v (spelled (Some x))) ⊛ ‵ ((MutRef ℓ κ S).own_val x (place_of x ∷ []))) (some_apart 𝓛 ℓ κ S x v) $ split ! $ feq_l ! (λ e.
    use1 𝓛 (‵ (Opt.own_val (Some x) (spelled (Some x) ∷ []))) (Some-of 𝓛 (MutRef ℓ κ S) x (place_of x)) $ rewrite ! 0 (λ (u : Val). ‵ (Opt.own_val (Some x) (u ∷ []))) (sym e) refl $
    feq_i ! Val v (spelled (Some x)) e $ done !)
option_spelled {𝓤 = 𝓤} 𝓛 ℓ κ S None v =
    let Opt = option.the_row (MutRef ℓ κ S) in
    qed 𝓛 (‵ (Opt.own_val None (v ∷ [])) ∷ []) ∵ use1 𝓛 (‵ (feq Val v (spelled {X = S.Denot} None))) (none_apart 𝓛 ℓ κ S v) $ feq_l ! (λ e.
    use0 𝓛 (‵ (Opt.own_val None (spelled {X = S.Denot} None ∷ []))) (none_of 𝓛 (MutRef ℓ κ S)) $ rewrite ! 0 (λ (u : Val). ‵ (Opt.own_val None (u ∷ []))) (sym e) refl $
    feq_i ! Val v (spelled {X = S.Denot} None) e $ done !)

-- what a branch learns
pub when_true : (b : Bool) → T b → b ≡ true
when_true true t = refl
when_true false t = absurd t

pub when_false : (b : Bool) → T (not b) → b ≡ true → ⊥
when_false true t e = t
when_false false t e = true≢false (sym e)

-- an arm of a switch, the first as 0
abbrev arm_at : Arms → ℕ → Code
arm_at (arm ks b arms) zero = b
arm_at (arm ks b arms) (suc n) = arm_at arms n
arm_at (default b) n = b
arm_at no_default n = skip

abbrev pub arm_of : Code → ℕ → Code
arm_of (switch c arms) n = arm_at arms n
arm_of _ n = skip
