-- What number a value means: its own if it is within the number rule, and always one that is.
use Rattle.std.proofs.Common.{◌≡◌, ◌^◌, ◌-◌, ◌&&◌, ℤ, pos, negsuc, int_le, Bool, true, false, cond, Option, None, Some, is_some, option_map, MatchBool, refl, sym, ap, subst, arith}
use Rattle.std.proofs.lemmas.Int.{ints}
use Rattle.mp_tree.specs.Document.{IsWhole}
use Rattle.mp_tree.specs.Values.{number_or_zero}
use Rattle.mp_tree.specs.View.{number_of}
use Rattle.mp_tree.specs.declared.whole.Whole.{Whole}

pub number_or_zero-none : number_or_zero None ≡ pos 0
unfolding number_or_zero
number_or_zero-none = refl

pub number_or_zero-whole : (z : ℤ) → IsWhole z → number_or_zero (Some z) ≡ z
unfolding number_or_zero
number_or_zero-whole z is =
    let low : int_le (negsuc (2 ^ 63 - 1)) z ≡ true = grind (arith, ints, is.0) in
    let high : int_le z (pos (2 ^ 64 - 1)) ≡ true = grind (arith, ints, is.1) in
    rw (low, high) refl

pub number_or_zero-of : (n : Whole) → number_or_zero (Some (number_of n)) ≡ number_of n
number_or_zero-of n = number_or_zero-whole n.value (n.at_least, n.at_most)

within_or_zero : (low high : Bool) (z : ℤ) → int_le (negsuc (2 ^ 63 - 1)) z ≡ low → int_le z (pos (2 ^ 64 - 1)) ≡ high → IsWhole (cond (low && high) z (pos 0))
within_or_zero false high z low other = (grind (arith, ints), grind (arith, ints))
within_or_zero true other z low high = (grind (arith, ints), grind (arith, ints))

pub IsWhole-number_or_zero : (o : Option ℤ) → IsWhole (number_or_zero o)
unfolding number_or_zero
IsWhole-number_or_zero None = (grind (arith, ints), grind (arith, ints))
IsWhole-number_or_zero (Some z) = within_or_zero _ _ z refl refl

-- a number is whole exactly if one is found
pub whole_if_some : (found : Option Whole) (is : Bool) (o : Option ℤ) → is ≡ is_some found → option_map number_of found ≡ o → MatchBool is (o ≡ Some (number_or_zero o)) (o ≡ None)
whole_if_some found is o test same = subst (λ p. MatchBool p (o ≡ Some (number_or_zero o)) (o ≡ None)) (sym test) (subst (λ z. MatchBool (is_some found) (z ≡ Some (number_or_zero z)) (z ≡ None)) same (by found))
  where
    by : (w : Option Whole) → MatchBool (is_some w) (option_map number_of w ≡ Some (number_or_zero (option_map number_of w))) (option_map number_of w ≡ None)
    by None = refl
    by (Some n) = ap Some (sym (number_or_zero-of n))
