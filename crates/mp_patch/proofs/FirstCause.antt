-- The first of several causes that holds: there is at most one, and if none is the first, none holds.
use Rattle.std.proofs.Common.{◌≡◌, inl, inr, [], ◌∷◌, refl, sym, ◌∙◌}
use Rattle.std.specs.Prelude.{⊤}
use Rattle.mp_tree.specs.Document.{Document}
use Rattle.mp_patch.specs.First.{Causes, IsFirst}
use Rattle.mp_patch.specs.Operation.{Operation}
use Rattle.mp_patch.specs.Refusal.{causes}
use Rattle.mp_patch.specs.Run.{IsRefused}

abbrev pub NoneHolds : {C : Type 0} → Causes C → Type 0
NoneHolds [] = ⊤
NoneHolds ((c, Holds) ∷ later) = ¬ Holds × NoneHolds later

pub one_first : {C : Type 0} (list : Causes C) (a b : C) → IsFirst a list → IsFirst b list → a ≡ b
one_first [] a b one two = absurd one
one_first ((c, Holds) ∷ later) a b (inl one) (inl two) = one.0 ∙ sym two.0
one_first ((c, Holds) ∷ later) a b (inl one) (inr two) = absurd (two.0 one.1)
one_first ((c, Holds) ∷ later) a b (inr one) (inl two) = absurd (one.0 two.1)
one_first ((c, Holds) ∷ later) a b (inr one) (inr two) = one_first later a b one.1 two.1

pub none_first : {C : Type 0} (list : Causes C) (a : C) → NoneHolds list → ¬ IsFirst a list
none_first [] a none first = first
none_first ((c, Holds) ∷ later) a none (inl first) = none.0 first.1
none_first ((c, Holds) ∷ later) a none (inr first) = none_first later a none.1 first.1

none_holds : {C : Type 0} (list : Causes C) → ((a : C) → ¬ IsFirst a list) → NoneHolds list
none_holds [] never = tt
none_holds ((c, Holds) ∷ later) never =
    let no : ¬ Holds = λ h. never c (inl (refl, h)) in
    (no, none_holds later (λ a first. never a (inr (no, first))))

-- ---- of the causes of an operation

pub unrefused : (d : Document) (o : Operation) → NoneHolds (causes d o) → ¬ IsRefused d o
unrefused d o none (cause, refused) = none_first (causes d o) cause none refused

pub free_of : (d : Document) (o : Operation) → ¬ IsRefused d o → NoneHolds (causes d o)
free_of d o free = none_holds (causes d o) (λ cause refused. free (cause, refused))
