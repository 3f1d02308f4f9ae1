-- What the two loops of a run keep.
use Rattle.std.proofs.Common.{◌≡◌, ◌≢◌, ◌+◌, ◌<◌, ◌≤◌, ◌++◌, ℕ, List, [], ◌∷◌, Option, None, Some, length, take, drop, ap, refl, sym, ◌∙◌, subst, arith, append-nil}
use Rattle.std.proofs.KnownBytes.{Appends-kept, Appends-trans, Consumes-kept, Consumes-nil, Consumes-trans}
use Rattle.std.proofs.Math.Seq.{take-add}
use Rattle.std.proofs.lemmas.List.{drop-drop, length-append, length-drop, length-take-le, take-append-drop}
use Rattle.std.proofs.lemmas.List.Elements.{All-head, All-push, All-tail}
use Rattle.std.proofs.lemmas.List.Folds.{concat-append}
use Rattle.std.specs.Io.KnownBytes.{Appends, Consumes, Keeps}
use Rattle.std.specs.List.{All, concat}
use Rattle.mp_cli.specs.declared.counted.Counted.{Counted}
use Rattle.mp_cli.specs.Counted.{device_of, calls_of, failures_of, moving_calls_of, bytes_of}
use Rattle.mp_cli.specs.Private.Counts.{CountsBytes, CountsFailure}
use Rattle.mp_cli.specs.Run.{input_limit, MovesInPieces, ReadsBytes, WritesPart}

-- ---- the pieces in which bytes were moved

abbrev pub IsNotEmpty : List ℕ → Type 0
IsNotEmpty piece = piece ≢ []

-- each call so far moved one of the pieces that these bytes are made of
pub record MovedSoFar {T : Type 0} (now : Counted T) (bytes : List ℕ) : Type 0 where
  pub pieces : List (List ℕ)
  pub some : All IsNotEmpty pieces
  pub whole : bytes ≡ concat pieces
  pub number : length pieces ≡ calls_of now
  pub moving : moving_calls_of now ≡ calls_of now
  pub failures : failures_of now ≡ 0
  pub counted : bytes_of now ≡ length bytes

pub MovedSoFar-none : {T : Type 0} (now : Counted T) → calls_of now ≡ 0 → MovedSoFar now []
MovedSoFar-none now fresh = record {
  pieces = [];
  some = λ k d below. absurd (omega arith);
  whole = refl;
  number = sym fresh;
  moving = omega (arith, now.moving_within_calls, fresh);
  failures = omega (arith, now.failures_within_calls, fresh);
  counted = now.no_bytes_before_calls fresh;
}

pub MovedSoFar-more : {T : Type 0} (mid new : Counted T) (count : ℕ) (bytes more : List ℕ)
    → MovedSoFar mid bytes → CountsBytes mid new count → count ≡ length more → 0 < count → MovedSoFar new (bytes ++ more)
MovedSoFar-more mid new count bytes more before counts is some = record {
  pieces = before.pieces ++ more ∷ [];
  some = All-push IsNotEmpty before.pieces more before.some (λ none. absurd (omega (arith, is, some, ap length none)));
  whole = ap (λ xs. xs ++ more) before.whole ∙ ap (λ xs. concat before.pieces ++ xs) (sym (append-nil more))
      ∙ sym (concat-append before.pieces (more ∷ []));
  number = omega (arith, length-append before.pieces (more ∷ []), before.number, counts.calls);
  moving = omega (arith, before.moving, counts.moving some, counts.calls);
  failures = counts.failures ∙ before.failures;
  counted = omega (arith, length-append bytes more, before.counted, counts.bytes);
}

-- at most one call more was made, which moved nothing
pub MovesInPieces-last : {T : Type 0} (old mid new : Counted T) (bytes : List ℕ) → calls_of old ≡ 0 → MovedSoFar mid bytes
    → calls_of new ≤ calls_of mid + 1 → moving_calls_of new ≡ moving_calls_of mid → bytes_of new ≡ bytes_of mid → MovesInPieces old new bytes
MovesInPieces-last old mid new bytes fresh before calls moving counted = record {
  pieces = before.pieces;
  some = before.some;
  whole = before.whole;
  moving = omega (arith, moving, before.moving, before.number, old.moving_within_calls, fresh);
  calls = omega (arith, calls, before.number, fresh);
  counted = omega (arith, counted, before.counted, old.no_bytes_before_calls fresh);
}

pieces_within : (pieces : List (List ℕ)) → All IsNotEmpty pieces → length pieces ≤ length (concat pieces)
pieces_within [] some = omega arith
pieces_within ([] ∷ pieces) some = absurd (All-head IsNotEmpty [] pieces some refl)
pieces_within ((b ∷ bs) ∷ pieces) some =
    let rest = pieces_within pieces (All-tail IsNotEmpty (b ∷ bs) pieces some) in
    omega (arith, rest, length-append (b ∷ bs) (concat pieces))

-- so there were no more calls than bytes
pub calls_within : {T : Type 0} (now : Counted T) (bytes : List ℕ) → MovedSoFar now bytes → calls_of now ≤ length bytes
calls_within now bytes before = omega (arith, pieces_within before.pieces before.some, before.number, ap length before.whole)

-- ---- reading

-- after `reads` reads, each of which gave a byte, these bytes were read
pub record ReadSoFar {R : Type 0} (remaining : R → Option (List ℕ)) (old new : Counted R) (reads : ℕ) (bytes : List ℕ) : Type 0 where
  pub consumed : Consumes (remaining (device_of old)) (remaining (device_of new)) bytes
  pub moved : MovedSoFar new bytes
  pub calls : calls_of new ≡ reads
  pub failures : failures_of new ≡ 0
  pub counted : bytes_of new ≡ length bytes
  pub each_gave : reads ≤ length bytes
  pub short : length bytes ≤ input_limit

pub ReadSoFar-none : {R : Type 0} (remaining : R → Option (List ℕ)) (old : Counted R) → calls_of old ≡ 0 → ReadSoFar remaining old old 0 []
ReadSoFar-none remaining old fresh =
    let moved = MovedSoFar-none old fresh in
    record {
      consumed = Consumes-nil (remaining (device_of old));
      moved = moved;
      calls = fresh;
      failures = moved.failures;
      counted = moved.counted;
      each_gave = omega arith;
      short = omega arith;
    }

-- one more read, which gave some
pub ReadSoFar-more : {R : Type 0} (remaining : R → Option (List ℕ)) (old mid new : Counted R) (reads count : ℕ) (bytes more : List ℕ)
    → ReadSoFar remaining old mid reads bytes → CountsBytes mid new count → count ≡ length more → 0 < count
    → Consumes (remaining (device_of mid)) (remaining (device_of new)) more → length (bytes ++ more) ≤ input_limit
    → ReadSoFar remaining old new (reads + 1) (bytes ++ more)
ReadSoFar-more remaining old mid new reads count bytes more before counts is some consumes short =
    let moved = MovedSoFar-more mid new count bytes more before.moved counts is some in
    record {
      consumed = Consumes-trans _ _ _ _ _ before.consumed consumes;
      moved = moved;
      calls = omega (arith, counts.calls, before.calls);
      failures = moved.failures;
      counted = moved.counted;
      each_gave = omega (arith, calls_within new (bytes ++ more) moved, counts.calls, before.calls);
      short = short;
    }

-- the bytes of one more read, which may be the last, follow those so far
pub ReadsBytes-more : {R : Type 0} (remaining : R → Option (List ℕ)) (old mid new : Counted R) (reads count : ℕ) (bytes more : List ℕ)
    → calls_of old ≡ 0 → ReadSoFar remaining old mid reads bytes → CountsBytes mid new count → count ≡ length more → 0 < count
    → Consumes (remaining (device_of mid)) (remaining (device_of new)) more → ReadsBytes remaining old new (bytes ++ more)
ReadsBytes-more remaining old mid new reads count bytes more fresh before counts is some consumes =
    let moved = MovedSoFar-more mid new count bytes more before.moved counts is some in
    record {
      consumed = Consumes-trans _ _ _ _ _ before.consumed consumes;
      moved = MovesInPieces-last old new new (bytes ++ more) fresh moved (omega arith) refl refl;
    }

-- the read that found the end
pub ReadsBytes-end : {R : Type 0} (remaining : R → Option (List ℕ)) (old mid new : Counted R) (reads count : ℕ) (bytes none : List ℕ)
    → calls_of old ≡ 0 → ReadSoFar remaining old mid reads bytes → CountsBytes mid new count → count ≡ 0 → none ≡ []
    → Consumes (remaining (device_of mid)) (remaining (device_of new)) none → ReadsBytes remaining old new bytes
ReadsBytes-end remaining old mid new reads count bytes none fresh before counts ended empty consumes = record {
  consumed = subst (Consumes _ _) (ap (λ xs. bytes ++ xs) empty ∙ append-nil bytes) (Consumes-trans _ _ _ _ _ before.consumed consumes);
  moved = MovesInPieces-last old mid new bytes fresh before.moved (omega (arith, counts.calls)) (counts.unmoving ended) (omega (arith, counts.bytes, ended));
}

-- the read that failed
pub ReadsBytes-failed : {R : Type 0} (remaining : R → Option (List ℕ)) (old mid new : Counted R) (reads : ℕ) (bytes : List ℕ)
    → calls_of old ≡ 0 → ReadSoFar remaining old mid reads bytes → CountsFailure mid new → Keeps (remaining (device_of mid)) (remaining (device_of new))
    → ReadsBytes remaining old new bytes
ReadsBytes-failed remaining old mid new reads bytes fresh before counts kept = record {
  consumed = Consumes-kept _ _ _ _ before.consumed kept;
  moved = MovesInPieces-last old mid new bytes fresh before.moved (omega (arith, counts.calls)) counts.moving counts.bytes;
}

-- ---- writing

-- the front of the text was written, and the rest is left
pub record WrittenSoFar {W : Type 0} (contents : W → Option (List ℕ)) (old new : Counted W) (text rest : List ℕ) : Type 0 where
  pub appended : Appends (contents (device_of old)) (contents (device_of new)) (take (bytes_of new) text)
  pub left : rest ≡ drop (bytes_of new) text
  pub within : bytes_of new ≤ length text
  pub moved : MovedSoFar new (take (bytes_of new) text)
  pub calls : calls_of new ≤ bytes_of new
  pub failures : failures_of new ≡ 0

-- one more write took some bytes of what was left
pub WrittenSoFar-write : {W : Type 0} (contents : W → Option (List ℕ)) (old mid new : Counted W) (text rest left : List ℕ) (count : ℕ)
    → WrittenSoFar contents old mid text rest → CountsBytes mid new count → 0 < count → count ≤ length rest
    → Appends (contents (device_of mid)) (contents (device_of new)) (take count rest) → left ≡ drop count rest
    → WrittenSoFar contents old new text left
WrittenSoFar-write contents old mid new text rest left count before counts some bound appends is =
    let front : take (bytes_of new) text ≡ take (bytes_of mid) text ++ take count rest =
    ap (λ n. take n text) counts.bytes ∙ take-add (bytes_of mid) count text ∙ ap (λ l. take (bytes_of mid) text ++ take count l) (sym before.left) in
    let rest_length : length rest ≡ length (drop (bytes_of mid) text) = ap length before.left in
    let taken : count ≡ length (take count rest) = sym (length-take-le count rest bound) in
    let moved : MovedSoFar new (take (bytes_of new) text) =
    subst (MovedSoFar new) (sym front) (MovedSoFar-more mid new count _ _ before.moved counts taken some) in
    record {
      appended = rw front (Appends-trans _ _ _ _ _ before.appended appends);
      left = is ∙ ap (drop count) before.left ∙ drop-drop count (bytes_of mid) text ∙ ap (λ n. drop n text) (sym counts.bytes);
      within = omega (arith, length-drop (bytes_of mid) text);
      moved = moved;
      calls = omega (arith, calls_within new _ moved, moved.counted);
      failures = counts.failures ∙ before.failures;
    }

-- ---- a call that failed

-- a write that took none leaves what the writer holds as it was
pub Keeps-none : (b c : Option (List ℕ)) (bs : List ℕ) (count : ℕ) → count ≡ 0 → Appends b c (take count bs) → Keeps b c
Keeps-none None c bs count none grew = tt
Keeps-none (Some ys) None bs count none grew = absurd grew
Keeps-none (Some ys) (Some zs) bs count none grew = grew ∙ ap (λ n. ys ++ take n bs) none ∙ append-nil ys

pub WritesPart-failed : {W : Type 0} (contents : W → Option (List ℕ)) (old mid new : Counted W) (text rest : List ℕ)
    → calls_of old ≡ 0 → WrittenSoFar contents old mid text rest → Keeps (contents (device_of mid)) (contents (device_of new)) → CountsFailure mid new
    → WritesPart contents old new text
WritesPart-failed contents old mid new text rest fresh before kept counts =
    let unfailed : failures_of old ≡ 0 = omega (arith, old.failures_within_calls) in
    record {
      front = take (bytes_of mid) text;
      back = drop (bytes_of mid) text;
      is = sym (take-append-drop (bytes_of mid) text);
      written = record {
        appended = Appends-kept _ _ _ _ before.appended kept;
        moved = MovesInPieces-last old mid new _ fresh before.moved (omega (arith, counts.calls)) counts.moving counts.bytes;
      };
      failures = omega (arith, counts.failures, before.failures, unfailed);
    }
