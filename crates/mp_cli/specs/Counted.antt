-- What a counted reader or writer holds, and what a call of its device counts.
use Rattle.std.specs.Prelude.{ℕ, IsTrue}
use Rattle.mp_cli.specs.declared.counted.Counted.{Counted}

module _ {T : Type 0} where
  -- the reader or writer itself
  abbrev pub device_of : Counted T → T
  device_of c = c.device

  -- how many calls of the device were made
  abbrev pub calls_of : Counted T → ℕ
  calls_of c = c.calls

  -- how many of those calls failed
  abbrev pub failures_of : Counted T → ℕ
  failures_of c = c.failures

  -- how many of those calls gave or took at least one byte
  abbrev pub moving_calls_of : Counted T → ℕ
  moving_calls_of c = c.moving_calls

  -- how many bytes those calls gave or took
  abbrev pub bytes_of : Counted T → ℕ
  bytes_of c = c.bytes

  -- the last of those calls was a flush, and did not fail
  abbrev pub IsFlushed : Counted T → Type 0
  IsFlushed c = IsTrue c.flushed
