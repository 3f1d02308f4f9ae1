-- The order of names.
use Rattle.std.proofs.Common.{◌≡◌, ℕ, List, Ordering, Less, Equal, Greater, is_eq, Bool, true, false, refl, sym, ap, ◌∙◌}
use Rattle.std.proofs.lemmas.Cmp.{nat_list_cmp_total, tied_itself}
use Rattle.std.proofs.lemmas.Map.Text.{is_eq-slice_cmp}
use Rattle.std.proofs.lemmas.Slice.Eq.{bytes_eq-Decides}
use Rattle.std.specs.Ordering.{ordering_reverse}
use Rattle.mp_tree.specs.Document.{name_cmp, is_name}

pub name_cmp-self : (n : List ℕ) → name_cmp n n ≡ Equal
name_cmp-self n = tied_itself nat_list_cmp_total n

pub is_name-self : (n : List ℕ) → is_name n n ≡ true
is_name-self n = ap is_eq (name_cmp-self n)

pub same_name : (n m : List ℕ) → is_name n m ≡ true → n ≡ m
same_name n m e = (bytes_eq-Decides n m).0 (sym (is_eq-slice_cmp n m) ∙ e)

pub same_from_cmp : (n m : List ℕ) → name_cmp n m ≡ Equal → n ≡ m
same_from_cmp n m e = same_name n m (ap is_eq e)

pub is_name-less : (n m : List ℕ) → name_cmp n m ≡ Less → is_name n m ≡ false
is_name-less n m e = ap is_eq e

differ : (b : Bool) {P : Type 0} → (b ≡ true → P) → (P → ⊥) → b ≡ false
differ true f never = absurd (never (f refl))
differ false f never = refl

pub is_name-other : (n m : List ℕ) → (n ≡ m → ⊥) → is_name n m ≡ false
is_name-other n m other = differ (is_name n m) (same_name n m) other

pub below_is_above : (n m : List ℕ) → name_cmp n m ≡ Less → name_cmp m n ≡ Greater
below_is_above n m e = nat_list_cmp_total.antisymm m n ∙ ap ordering_reverse e

pub above_is_below : (n m : List ℕ) → name_cmp n m ≡ Greater → name_cmp m n ≡ Less
above_is_below n m e = nat_list_cmp_total.antisymm m n ∙ ap ordering_reverse e

pub below-trans : (n m k : List ℕ) → name_cmp n m ≡ Less → name_cmp m k ≡ Less → name_cmp n k ≡ Less
below-trans n m k = nat_list_cmp_total.trans n m k

-- for a split on a comparison, with its equation
pub cases_name : {P : Type 0} (n m : List ℕ) → (name_cmp n m ≡ Less → P) → (name_cmp n m ≡ Equal → P) → (name_cmp n m ≡ Greater → P) → P
cases_name {P} n m less equal greater = split (name_cmp n m) refl
  where
    split : (o : Ordering) → name_cmp n m ≡ o → P
    split Less e = less e
    split Equal e = equal e
    split Greater e = greater e

-- for a split on whether two names are the same
pub cases_same : {P : Type 0} (n m : List ℕ) → (n ≡ m → P) → (is_name n m ≡ false → P) → P
cases_same {P} n m same other = split (is_name n m) refl
  where
    split : (b : Bool) → is_name n m ≡ b → P
    split true e = same (same_name n m e)
    split false e = other e
