-- What there is and what there is not: a value of an `Option` is one, and what holds of one that is made of others.
use Rattle.std.proofs.Common.{◌≡◌, Bool, true, false, cond, Option, None, Some, IfSome, option_map, option_and_then, Bor, refl}
use Rattle.std.specs.Option.{option_copied}

-- ---- one value

pub some_same : {X : Type 0} (x y : X) → Some x ≡ Some y → x ≡ y
some_same x y same = cc

pub same_some : {X : Type 0} (o : Option X) (x y : X) → o ≡ Some x → o ≡ Some y → x ≡ y
same_some o x y here there = cc

pub some_none : {X P : Type 0} (o : Option X) (x : X) → o ≡ Some x → o ≡ None → P
some_none o x here none = cc

-- of a value that is lent, what is said of the value
pub lent_value : {X Y : Type 0} (f : X → Y) (r : Option (Bor X)) → option_map (λ (v : Bor X). f v.now) r ≡ option_map f (option_copied r)
lent_value f None = refl
lent_value f (Some v) = refl

-- ---- what holds if there is one

pub if_mapped : {X Y : Type 0} (f : X → Y) (P : X → Type 0) (Q : Y → Type 0) (o : Option X) → ((x : X) → P x → Q (f x)) → IfSome o P → IfSome (option_map f o) Q
if_mapped f P Q None keeps good = tt
if_mapped f P Q (Some x) keeps good = keeps x good

pub if_both : {X Y Z : Type 0} (f : X → Y → Z) (P : X → Type 0) (Q : Y → Type 0) (R : Z → Type 0) (o : Option X) (r : Option Y) → ((x : X) (y : Y) → P x → Q y → R (f x y)) → IfSome o P → IfSome r Q
    → IfSome (option_and_then (λ x. option_map (f x) r) o) R
if_both f P Q R None r keeps good other = tt
if_both f P Q R (Some x) r keeps good other = if_mapped (f x) Q R r (λ y fine. keeps x y good fine) other

pub if_either : {T : Type 0} (P : T → Type 0) (b : Bool) (x y : Option T) → (b ≡ true → IfSome x P) → (b ≡ false → IfSome y P) → IfSome (cond b x y) P
if_either P true x y first second = first refl
if_either P false x y first second = second refl

pub if_then : {S T : Type 0} (P : S → Type 0) (Q : T → Type 0) (o : Option S) (f : S → Option T) → IfSome o P → ((x : S) → P x → IfSome (f x) Q) → IfSome (option_and_then f o) Q
if_then P Q None f given more = tt
if_then P Q (Some x) f given more = more x given
