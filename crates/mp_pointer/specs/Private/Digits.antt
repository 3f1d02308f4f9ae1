-- The last of the digits, which an index may have. Only private clauses cite it.
use Rattle.std.specs.Prelude.{ℕ}

abbrev pub digit_nine : ℕ
digit_nine = 57
