-- The bytes that a pointer's text gives a meaning (RFC 6901 section 3), and those of the digits that are distinguished.
use Rattle.std.specs.Prelude.{ℕ}

abbrev pub slash : ℕ
slash = 47

abbrev pub tilde : ℕ
tilde = 126

abbrev pub digit_zero : ℕ
digit_zero = 48

abbrev pub digit_one : ℕ
digit_one = 49
