-- What `clap`'s walk over the arguments of a subcommand leaves: each row has a value, if no flag of
-- the subcommand makes a row.
use Rattle.std.proofs.Common.{◌≡◌, ◌<◌, ◌++◌, ◌&&◌, ℕ, zero, suc, arith, refl, Bool, true, false, Option, None, Some, List, [], ◌∷◌, length, length-append, is_some, drop}
use Rattle.std.specs.Prelude.{fold, find, encode_utf8, slice_get, option_and_then, if◌then◌else◌}
use Rattle.std.specs.Option.{option_map_or}
use Rattle.std.specs.Str.{bytes_eq, chars}
use Rattle.clap.specs.Lexer.{short_of, long_of}
use Rattle.clap.specs.Facts.{explicit_source}
use Rattle.clap.specs.Takes.{is_given}
use Rattle.clap.specs.Walk.{Text, Rule, Row, Held, Names, Outcome, Waiting, Step, Walk, at_row, without, more_values, with_values, used_as, used, used_by_id, settled_rows, settled, reacted, started, pushed, positional_held, option_met, flag_met, long_met, attached_value, short_met, bundle_step, bundle_met, bundle, plain_word, option_word, after_flag, long_or_other, short_or_plain, subcommand_or_other, subcommand_met, word_met, to_positional, after_step, walked_from, walked, walk, nothing_held, with_default, default_rows, rows_after, first_of, has_row, takes_values, takes_several, is_pending, arg_by_id, arg_by_long, arg_by_short, arg_by_index, reading_by, action_of}
use Rattle.clap.specs.Walk.{done, waits, plain, refused, idle, option, positional, next, trailing, subcommand, value}
use Rattle.clap.specs.declared.builder.action.ArgAction.{ArgAction}
use Rattle.clap.specs.declared.builder.action.ArgAction.TheVariants.{Set, Append, SetTrue, SetFalse, Count}
use Rattle.clap.specs.declared.builder.value_parser.Reading.{Reading}
use Rattle.clap.specs.declared.parser.matches.ValueSource.{ValueSource}
use Rattle.clap.specs.declared.parser.matches.ValueSource.TheVariants.{DefaultValue, CommandLine}

-- each row has a value
abbrev IsFull : List Row → Type 0
IsFull [] = Unit {0}
IsFull (r ∷ rs) = (0 < length r.values) × IsFull rs

full-append : (xs ys : List Row) → IsFull xs → IsFull ys → IsFull (xs ++ ys)
full-append [] ys f g = g
full-append (x ∷ xs) ys f g = (f.0, full-append xs ys f.1 g)

full-at_row : (id : Text) (change : Row → List Row) (missing rows : List Row) → ((r : Row) → 0 < length r.values → IsFull (change r)) → IsFull missing → IsFull rows
    → IsFull (at_row id change missing rows)
full-at_row id change missing [] changed ends full = ends
full-at_row id change missing (r ∷ rs) changed ends full = go (bytes_eq r.id id) (full-at_row id change missing rs changed ends full.1)
  where
    go : (b : Bool) → IsFull (at_row id change missing rs) → IsFull (if b then change r ++ rs else r ∷ at_row id change missing rs)
    go true later = full-append (change r) rs (changed r full.0) full.1
    go false later = (full.0, later)

full-without : (id : Text) (rows : List Row) → IsFull rows → IsFull (without id rows)
full-without id rows full = full-at_row id (λ _. []) [] rows (λ _ _. tt) tt full

full-with_values : (id : Text) (how : Reading) (s : ValueSource) (v : Text) (vs : List Text) (rows : List Row) → IsFull rows
    → IsFull (with_values id how s (v ∷ vs) rows)
full-with_values id how s v vs rows full =
    full-at_row id (more_values s (v ∷ vs)) _ rows
    (λ r has. (let longer : 0 < length (r.values ++ v ∷ vs) = omega (arith, length-append r.values (v ∷ vs)) in longer, tt))
    (let one : 0 < length (v ∷ vs) = omega arith in one, tt) full

full-used_as : (x : ArgAction) (id : Text) (how : Reading) (v : Text) (vs : List Text) (rows : List Row) → IsFull rows → IsFull (used_as x id how (v ∷ vs) rows)
full-used_as Set id how v vs rows full = full-with_values id how CommandLine v vs (without id rows) (full-without id rows full)
full-used_as SetTrue id how v vs rows full = full-with_values id how CommandLine v vs (without id rows) (full-without id rows full)
full-used_as SetFalse id how v vs rows full = full-with_values id how CommandLine v vs (without id rows) (full-without id rows full)
full-used_as Append id how v vs rows full = full-with_values id how CommandLine v vs rows full
full-used_as Count id how v vs rows full = full-with_values id how CommandLine v vs (without id rows) (full-without id rows full)
full-used_as _ id how v vs rows full = full

-- what is pending has a value
abbrev HasValue : Option (Text × List Text) → Type 0
HasValue None = Unit {0}
HasValue (Some p) = 0 < length p.1

abbrev IsGood : Held → Type 0
IsGood h = IsFull h.rows × HasValue h.pending

-- a flag that takes no value and leaves the rows alone
pub record IsQuiet (a : Rule) : Type 0 where
  pub takes : takes_values a ≡ false
  pub leaves : (rows : List Row) → used a [] rows ≡ rows

abbrev pub IfFlag : Option Rule → Type 0
IfFlag None = Unit {0}
IfFlag (Some a) = IsQuiet a

full-used_by_id : (o : Option Rule) (values : List Text) (rows : List Row) → 0 < length values → IsFull rows → IsFull (used_by_id o values rows)
full-used_by_id None values rows has full = full
full-used_by_id (Some a) [] rows has full = absurd (omega arith)
full-used_by_id (Some a) (v ∷ vs) rows has full = full-used_as (action_of a) a.id (reading_by a) v vs rows full

good-pushed : (id word : Text) (h : Held) → IsFull h.rows → IsGood (pushed id word h)
good-pushed id word h full = (full, (let more : 0 < length ((started id h.pending).1 ++ word ∷ []) = omega (arith, length-append (started id h.pending).1 (word ∷ [])) in more))

find-full : (test : Row → Bool) (rows : List Row) → IsFull rows → (r : Row) → find test rows ≡ Some r → 0 < length r.values
find-full test [] full r is = cc
find-full test (x ∷ xs) full r is = go (test x) refl is (find-full test xs full.1 r)
  where
    go : (b : Bool) → test x ≡ b → (if b then Some x else find test xs) ≡ Some r → (find test xs ≡ Some r → 0 < length r.values) → 0 < length r.values
    go true t found later =
        let same : x ≡ r = cc in
        rw (← same) full.0
    go false t found later = later found

some_first : (xs : List Text) → 0 < length xs → is_some (slice_get xs 0) ≡ true
some_first [] has = absurd (omega arith)
some_first (x ∷ xs) has = refl

-- an argument that was given has a first value
pub first_of-given : (id : Text) (rows : List Row) → IsFull rows → is_given id rows ≡ true → is_some (first_of id rows) ≡ true
first_of-given id rows full given = go (find (λ r. bytes_eq r.id id) rows) refl given
  where
    go : (o : Option Row) → find (λ r. bytes_eq r.id id) rows ≡ o → option_map_or (λ r. explicit_source r.source) o false ≡ true
        → is_some (option_and_then (λ r. slice_get r.values 0) o) ≡ true
    go None is has = cc
    go (Some r) is has = some_first r.values (find-full _ rows full r is)

module _ (c : List Rule) (long_flags : (name : Text) → IfFlag (arg_by_long c name)) (short_flags : (x : ℕ) → IfFlag (arg_by_short c x)) where
  full-settled_rows : (p : Option (Text × List Text)) (rows : List Row) → HasValue p → IsFull rows → IsFull (settled_rows c p rows)
  full-settled_rows None rows has full = full
  full-settled_rows (Some p) rows has full = full-used_by_id (arg_by_id c p.0) p.1 rows has full

  good-settled : (h : Held) → IsGood h → IsGood (settled c h)
  good-settled h good = (full-settled_rows h.pending h.rows good.1 good.0, tt)

  good-reacted : (a : Rule) (h : Held) → IsQuiet a → IsGood h → IsGood (reacted c a [] h)
  good-reacted a h quiet good = (rw quiet.leaves (good-settled h good).0, tt)

  good-flag_met : (a : Rule) (v : Option Text) (h : Held) → IsQuiet a → IsGood h → IsGood (flag_met c a v h).0
  good-flag_met a None h quiet good = good-reacted a h quiet good
  good-flag_met a (Some v) h quiet good = good

  good-long_met : (o : Option Rule) (v : Option Text) (h : Held) → IfFlag o → IsGood h → IsGood (long_met c o v h).0
  good-long_met None v h quiet good = good
  good-long_met (Some a) v h quiet good = go (takes_values a) quiet.takes
    where
      go : (b : Bool) → b ≡ false → IsGood (if b then option_met c a v h else flag_met c a v h).0
      go true is = cc
      go false is = good-flag_met a v h quiet good

  abbrev Keeps : (Held → Held × Outcome) → Type 0
  Keeps act = (h : Held) → IsGood h → IsGood (act h).0

  good-short_met : (o : Option Rule) (rest : Text) (h : Held) (act : Held → Held × Outcome) → IfFlag o → Keeps act → IsGood h → IsGood (short_met c o rest h act).0
  good-short_met None rest h act quiet keeps good = good
  good-short_met (Some a) rest h act quiet keeps good = go (takes_values a) quiet.takes
    where
      go : (b : Bool) → b ≡ false → IsGood (if b then option_met c a (attached_value rest) h else act (reacted c a [] h)).0
      go true is = cc
      go false is = keeps (reacted c a [] h) (good-reacted a h quiet good)

  good-bundle_step : (o : Option ℕ) (flags : Text) (skip : ℕ) (so_far : Outcome) (h : Held) (act : Text → ℕ → Outcome → Held → Held × Outcome)
      → ((t : Text) (n : ℕ) (s : Outcome) → Keeps (act t n s)) → IsGood h → IsGood (bundle_step c o flags skip so_far h act).0
  good-bundle_step None flags skip so_far h act keeps good = good
  good-bundle_step (Some x) flags zero so_far h act keeps good =
      let rest = drop (length (encode_utf8 x)) flags in
      good-short_met (arg_by_short c x) rest h (act rest 0 done) (short_flags x) (keeps rest 0 done) good
  good-bundle_step (Some x) flags (suc skip) so_far h act keeps good = keeps (drop (length (encode_utf8 x)) flags) skip so_far h good

  good-bundle_met : (k : ℕ) (flags : Text) (skip : ℕ) (so_far : Outcome) → Keeps (bundle_met c k flags skip so_far)
  unfolding bundle_met
  good-bundle_met zero flags skip so_far h good = good
  good-bundle_met (suc k) flags skip so_far h good =
      good-bundle_step (slice_get (chars flags) 0) flags skip so_far h (bundle_met c k) (λ t n s. good-bundle_met k t n s) good

  good-option_word : (o : Option Rule) (id word : Text) (h : Held) → IsGood h → IsGood (option_word o id word h).0
  good-option_word None id word h good = good
  good-option_word (Some a) id word h good = good-pushed id word h good.0

  good-plain_word : (w : Waiting) (word : Text) (h : Held) → IsGood h → IsGood (plain_word c w word h).0
  good-plain_word idle word h good = good
  good-plain_word (option id) word h good = good-option_word (arg_by_id c id) id word h good
  good-plain_word positional word h good = good

  good-after_flag : (w : Waiting) (word : Text) (h : Held) (o : Outcome) → IsGood h → IsGood (after_flag c w word h o).0
  good-after_flag w word h done good = good
  good-after_flag w word h (waits id) good = good
  good-after_flag w word h plain good = good-plain_word w word h good
  good-after_flag w word h refused good = good-plain_word w word h good

  good-short_or_plain : (w : Waiting) (word : Text) (o : Option Text) (h : Held) → IsGood h → IsGood (short_or_plain c w word o h).0
  good-short_or_plain w word None h good = good-plain_word w word h good
  good-short_or_plain w word (Some flags) h good =
      good-after_flag w word (bundle c flags h).0 (bundle c flags h).1 (good-bundle_met (length flags) flags h.skip plain (record h { skip = 0 }) good)

  good-long_or_other : (w : Waiting) (word : Text) (o : Option (Text × Option Text)) (h : Held) → IsGood h → IsGood (long_or_other c w word o h).0
  good-long_or_other w word None h good = good-short_or_plain w word (short_of word) h good
  good-long_or_other w word (Some p) h good =
      let met = long_met c (arg_by_long c p.0) p.1 h in
      good-after_flag w word met.0 met.1 (good-long_met (arg_by_long c p.0) p.1 h (long_flags p.0) good)

  good-subcommand_or_other : (o : Option Text) (w : Waiting) (position : ℕ) (word : Text) (h : Held) → IsGood h → IsGood (subcommand_or_other c o w position word h).0
  good-subcommand_or_other (Some name) w position word h good = good
  good-subcommand_or_other None w position word h good = go (bytes_eq word (45 ∷ 45 ∷ []))
    where
      go : (b : Bool) → IsGood (if b then (h, trailing position) else long_or_other c w word (long_of word) h).0
      go true = good
      go false = good-long_or_other w word (long_of word) h good

  good-word_met : (names : Names) (is_trailing : Bool) (w : Waiting) (position : ℕ) (word : Text) (h : Held) → IsGood h
      → IsGood (word_met c names is_trailing w position word h).0
  good-word_met names true w position word h good = good
  good-word_met names false w position word h good = good-subcommand_or_other (subcommand_met names w word) w position word h good

  good-positional_held : (a : Rule) (word : Text) (h : Held) → IsGood h → IsGood (positional_held c a word h)
  good-positional_held a word h good = go (is_pending a h.pending && takes_several a)
    where
      go : (b : Bool) → IsGood (pushed a.id word (if b then h else settled c h))
      go true = good-pushed a.id word h good.0
      go false = good-pushed a.id word (settled c h) (good-settled h good).0

  good-to_positional : (o : Option Rule) (word : Text) (w : Walk) (h : Held) → IsGood h → IsGood (to_positional c o word w h).held
  good-to_positional None word w h good = good
  good-to_positional (Some a) word w h good = good-positional_held a word h good

  good-after_step : (word : Text) (w : Walk) (h : Held) (s : Step) → IsGood h → IsGood (after_step c word w h s).held
  good-after_step word w h (next waiting) good = good
  good-after_step word w h (trailing position) good = good
  good-after_step word w h (subcommand name) good = good
  good-after_step word w h value good = good-to_positional (arg_by_index c w.position) word w h good

  good-walked : (names : Names) (w : Walk) (word : Text) → IsGood w.held → IsGood (walked c names w word).held
  unfolding walked
  good-walked names w word good = go w.stopped
    where
      go : (o : Option (Text × List Text)) → IsGood (walked_from c names o w word).held
      go (Some p) = good
      go None = let met = word_met c names w.is_trailing w.waiting w.position word w.held in
          good-after_step word w met.0 met.1 (good-word_met names w.is_trailing w.waiting w.position word w.held good)

  good-walk : (names : Names) (w : Walk) (words : List Text) → IsGood w.held → IsGood (fold (walked c names) w words).held
  good-walk names w [] good = good
  good-walk names w (x ∷ xs) good = good-walk names (walked c names w x) xs (good-walked names w x good)

  full-default_rows : (a : Rule) (values : List Text) (rows : List Row) → IsFull rows → IsFull (default_rows a.id (reading_by a) values rows)
  full-default_rows a [] rows full = full
  full-default_rows a (v ∷ vs) rows full = full-with_values a.id (reading_by a) DefaultValue v vs rows full

  full-with_default : (rows : List Row) (a : Rule) → IsFull rows → IsFull (with_default rows a)
  full-with_default rows a full = go (has_row a.id rows)
    where
      go : (b : Bool) → IsFull (if b then rows else default_rows a.id (reading_by a) a.defaults rows)
      go true = full
      go false = full-default_rows a a.defaults rows full

  full-defaults : (rules : List Rule) (rows : List Row) → IsFull rows → IsFull (fold with_default rows rules)
  full-defaults [] rows full = full
  full-defaults (a ∷ rest) rows full = full-defaults rest (with_default rows a) (full-with_default rows a full)

  -- each row of the matches has a value
  pub full-rows_after : (names : Names) (words : List Text) → IsFull (rows_after c names words)
  full-rows_after names words =
      let held = (walk c names nothing_held words).held in
      full-defaults c (settled c held).rows (good-settled held (good-walk names _ words (tt, tt))).0
