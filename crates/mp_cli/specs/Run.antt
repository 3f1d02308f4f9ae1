-- What a run reads, and what it writes.
use Rattle.std.specs.Prelude.{◌≡◌, ◌≢◌, ◌+◌, ◌≤◌, ◌++◌, ℕ, List, [], Option, length}
use Rattle.std.specs.Io.KnownBytes.{Appends, Consumes, IsAtEnd}
use Rattle.std.specs.List.{All, concat}
use Rattle.mp_cli.specs.declared.counted.Counted.{Counted}
use Rattle.mp_cli.specs.Lines.{Output, exit_result}
use Rattle.mp_cli.specs.Counted.{device_of, calls_of, failures_of, moving_calls_of, bytes_of, IsFlushed}

-- The most bytes that an input has. A run makes one read more at most, which finds the end.
abbrev pub input_limit : ℕ
input_limit = 1_048_576

-- The calls moved these bytes in pieces, none of them empty: one piece for each call that moved a byte. There was at
-- most one call more, which moved none: a read that finds the end, a flush, or a call that fails.
pub record MovesInPieces {T : Type 0} (old new : Counted T) (bytes : List ℕ) : Type 0 where
  pub pieces : List (List ℕ)
  pub some : All (λ piece. piece ≢ []) pieces
  pub whole : bytes ≡ concat pieces
  pub moving : moving_calls_of new ≡ moving_calls_of old + length pieces
  pub calls : calls_of new ≤ calls_of old + length pieces + 1
  pub counted : bytes_of new ≡ bytes_of old + length bytes

-- The reads gave these bytes. `remaining` says which bytes a reader has left, if it says so.
pub record ReadsBytes {R : Type 0} (remaining : R → Option (List ℕ)) (old new : Counted R)
    (bytes : List ℕ) : Type 0 where
  pub consumed : Consumes (remaining (device_of old)) (remaining (device_of new)) bytes
  pub moved : MovesInPieces old new bytes

-- The reads gave these bytes and then the end, none failed, and the bytes are within the limit. So
-- if the reader says which bytes it has, they are these.
pub record ReadsWhole {R : Type 0} (remaining : R → Option (List ℕ)) (old new : Counted R)
    (bytes : List ℕ) : Type 0 where
  pub given : ReadsBytes remaining old new bytes
  pub ended : IsAtEnd (remaining (device_of new))
  pub failures : failures_of new ≡ failures_of old
  pub short : length bytes ≤ input_limit

-- The writes took this text. `contents` says which bytes a writer holds, if it says so.
pub record Writes {W : Type 0} (contents : W → Option (List ℕ)) (old new : Counted W) (text : List ℕ) : Type 0 where
  pub appended : Appends (contents (device_of old)) (contents (device_of new)) text
  pub moved : MovesInPieces old new text

-- The whole text was written and then flushed, and no call failed.
pub record WritesWhole {W : Type 0} (contents : W → Option (List ℕ)) (old new : Counted W)
    (text : List ℕ) : Type 0 where
  pub written : Writes contents old new text
  pub flushed : IsFlushed new
  pub failures : failures_of new ≡ failures_of old

-- Some first part of the text was written, and then one call failed.
pub record WritesPart {W : Type 0} (contents : W → Option (List ℕ)) (old new : Counted W) (text : List ℕ) : Type 0 where
  pub front : List ℕ
  pub back : List ℕ
  pub is : text ≡ front ++ back
  pub written : Writes contents old new front
  pub failures : failures_of new ≡ failures_of old + 1

-- `Result` was done to `out` if the status is that of a result, and else `Refusal` to `err`, and the other was
-- not touched.
pub record ToOneWriter {W E : Type 0} (Result : Counted W → Counted W → List ℕ → Type 0)
    (Refusal : Counted E → Counted E → List ℕ → Type 0) (answer : Output) (out new_out : Counted W)
    (err new_err : Counted E) : Type 0 where
  pub result : answer.status ≡ exit_result → Result out new_out answer.text × (new_err ≡ err)
  pub refusal : answer.status ≢ exit_result → Refusal err new_err answer.text × (new_out ≡ out)

-- The answer's text went whole to `out` if its status is 0, and else to `err`.
abbrev pub Delivers : {W E : Type 0} → (W → Option (List ℕ)) → (E → Option (List ℕ)) → Output → Counted W → Counted W
    → Counted E → Counted E → Type 0
Delivers out_contents err_contents = ToOneWriter (WritesWhole out_contents) (WritesWhole err_contents)

-- Its writing was broken off.
abbrev pub BreaksOff : {W E : Type 0} → (W → Option (List ℕ)) → (E → Option (List ℕ)) → Output → Counted W → Counted W
    → Counted E → Counted E → Type 0
BreaksOff out_contents err_contents = ToOneWriter (WritesPart out_contents) (WritesPart err_contents)
