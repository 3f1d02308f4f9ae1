-- What one call of the device counts. Only private clauses cite it.
use Rattle.std.specs.Prelude.{◌≡◌, ℕ, ◌+◌, ◌<◌}
use Rattle.mp_cli.specs.declared.counted.Counted.{Counted}
use Rattle.mp_cli.specs.Counted.{bytes_of, calls_of, failures_of, moving_calls_of}

module _ {T : Type 0} where
  -- one more call was made: it did not fail, and gave or took `count` bytes
  pub record CountsBytes (old new : Counted T) (count : ℕ) : Type 0 where
    pub calls : calls_of new ≡ calls_of old + 1
    pub failures : failures_of new ≡ failures_of old
    pub moving : 0 < count → moving_calls_of new ≡ moving_calls_of old + 1
    pub unmoving : count ≡ 0 → moving_calls_of new ≡ moving_calls_of old
    pub bytes : bytes_of new ≡ bytes_of old + count

  -- one more call was made, and it failed
  pub record CountsFailure (old new : Counted T) : Type 0 where
    pub calls : calls_of new ≡ calls_of old + 1
    pub failures : failures_of new ≡ failures_of old + 1
    pub moving : moving_calls_of new ≡ moving_calls_of old
    pub bytes : bytes_of new ≡ bytes_of old
