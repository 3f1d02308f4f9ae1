-- What operations that can be written lead to can be read: each keeps what holds of each number, text and name.
use Rattle.std.proofs.Common.{◌≡◌, ◌⊎◌, ℕ, ℤ, suc, Bool, true, false, cond, List, [], ◌∷◌, ◌++◌, Option, None, Some, IfSome, option_and_then, IsUtf8, inl, inr, refl, sym, ap, ◌∙◌, subst}
use Rattle.std.proofs.lemmas.List.Elements.{All-contains, All-cons, All-head, All-nil, All-tail, Contains-append_right}
use Rattle.std.specs.List.{All, Contains}
use Rattle.std.specs.Prelude.{⊤}
use Rattle.std.specs.Str.{bytes_eq}
use Rattle.mp_tree.specs.Document.{Document, null, flag, whole, string, list, object, Items, no_items, item, Members, no_members, member, find, IsDocument, AreDocuments, IsMap, IsWhole, Throughout, ThroughoutItems, ThroughoutMembers}
use Rattle.mp_tree.specs.Elements.{append, nth}
use Rattle.mp_tree.proofs.Facts.{Contains-head, Throughout-find, Throughout-put, Throughout-without, cases_same, decide_name, find-below, is_name-self}
use Rattle.mp_pointer.specs.Difference.{DifferOnlyAt, Kind, absent, scalar, names, array_of, kind, kind_of, names_of}
use Rattle.mp_pointer.specs.Part.{child, element_from, numeral, part}
use Rattle.mp_pointer.specs.Spelling.{BeginsWith, Tokens}
use Rattle.mp_pointer.proofs.Facts.{child-numeral, child-object}
use Rattle.mp_patch.specs.Laws.{RunsAreReadable}
use Rattle.mp_patch.specs.Operation.{Operation, add, remove, replace, move, copy, test, AddsTo, to_map, to_list, RemovesFrom, from_map, from_list, ChangesContainer, HasDocument, HaveDocuments, Step}
use Rattle.mp_patch.specs.Run.{Runs}
use Rattle.mp_patch.specs.Writable.{IsWritable}
use Rattle.mp_patch.proofs.Operations.Documents.{Removes-document}
use Rattle.mp_patch.proofs.Runs.Laws.{Step-document, stays_shallow}

-- ---- lists of tokens that begin with another, and parts at further tokens

begins_or_not : (u t : Tokens) → BeginsWith u t ⊎ (BeginsWith u t → ⊥)
begins_or_not u [] = inl (u, refl)
begins_or_not [] (n ∷ t) = inr (λ (rest, is). cc)
begins_or_not (m ∷ u) (n ∷ t) = by (decide_name m n) (begins_or_not u t)
  where
    by : Dec (m ≡ n) → BeginsWith u t ⊎ (BeginsWith u t → ⊥) → BeginsWith (m ∷ u) (n ∷ t) ⊎ (BeginsWith (m ∷ u) (n ∷ t) → ⊥)
    by (yes same) (inl (rest, is)) = inl (rest, cc)
    by (yes same) (inr apart) = inr (λ (rest, is). let shorter : u ≡ t ++ rest = cc in apart (rest, shorter))
    by (no other) rests = inr (λ (rest, is). let same : m ≡ n = cc in other same)

same_some : (d e : Document) → Some d ≡ Some e → d ≡ e
same_some d e is = cc

further : (d e : Document) (s t : Tokens) → part d s ≡ Some e → part d (s ++ t) ≡ part e t
further d e [] t is = ap (λ (x : Document). part x t) (same_some d e is)
further d e (token ∷ s) t is = through (child token d) is (λ c. further c e s t)
  where
    through : (o : Option Document) → option_and_then (λ c. part c s) o ≡ Some e → ((c : Document) → part c s ≡ Some e → part c (s ++ t) ≡ part e t) → option_and_then (λ c. part c (s ++ t)) o ≡ part e t
    through None is later = cc
    through (Some c) is later = later c is

-- ---- what holds throughout a document holds of the kind of each part, and the other way round

module _ (N : ℤ → Type 0) (S : List ℕ → Type 0) where
  abbrev AreNames : List (List ℕ) → Type 0
  AreNames [] = ⊤
  AreNames (n ∷ ns) = S n × AreNames ns

  abbrev IsGood : Kind → Type 0
  IsGood absent = ⊤
  IsGood (scalar v) = Throughout N S v
  IsGood (names ns) = AreNames ns
  IsGood (array_of n) = ⊤

  abbrev good_from : Option Document → Tokens → Type 0
  good_from o u = IsGood (kind_of (option_and_then (λ d. part d u) o))

  names_good : (ms : Members) → ThroughoutMembers N S ms → AreNames (names_of ms)
  names_good no_members all = tt
  names_good (member n d ms) all = (all.0, names_good ms all.2)

  here_good : (x : Document) → Throughout N S x → IsGood (kind_of (Some x))
  here_good null all = tt
  here_good (flag b) all = tt
  here_good (whole z) all = all
  here_good (string s) all = all
  here_good (list ds) all = tt
  here_good (object ms) all = names_good ms all

  element_good : (i : ℕ) (token : List ℕ) (ds : Items) → ThroughoutItems N S ds → IfSome (element_from i token ds) (Throughout N S)
  element_good i token no_items all = tt
  element_good i token (item d ds) all = picked (bytes_eq token (numeral i)) (element_good (suc i) token ds all.1)
    where
      picked : (b : Bool) → IfSome (element_from (suc i) token ds) (Throughout N S) → IfSome (cond b (Some d) (element_from (suc i) token ds)) (Throughout N S)
      picked true rest = all.0
      picked false rest = rest

  child_good : (token : List ℕ) (d : Document) → Throughout N S d → IfSome (child token d) (Throughout N S)
  unfolding child
  child_good token null all = tt
  child_good token (flag b) all = tt
  child_good token (whole z) all = tt
  child_good token (string s) all = tt
  child_good token (list ds) all = element_good 0 token ds all
  child_good token (object ms) all = Throughout-find N S token ms all

  part_if : (t : Tokens) (d : Document) → Throughout N S d → IfSome (part d t) (Throughout N S)
  part_if [] d all = all
  part_if (token ∷ t) d all = through (child token d) (child_good token d all) (λ e. part_if t e)
    where
      through : (o : Option Document) → IfSome o (Throughout N S) → ((e : Document) → Throughout N S e → IfSome (part e t) (Throughout N S)) → IfSome (option_and_then (λ e. part e t) o) (Throughout N S)
      through None here later = tt
      through (Some e) here later = later e here

  part_good : (t : Tokens) (d x : Document) → Throughout N S d → part d t ≡ Some x → Throughout N S x
  part_good t d x all is = subst (λ (o : Option Document). IfSome o (Throughout N S)) is (part_if t d all)

  kinds_good : (d : Document) → Throughout N S d → (u : Tokens) → IsGood (kind d u)
  kinds_good d all u = at (part d u) refl
    where
      at : (o : Option Document) → part d u ≡ o → IsGood (kind_of o)
      at None is = tt
      at (Some x) is = here_good x (part_good u d x all is)

  mutual
    from_kinds : (d : Document) → IsDocument d → ((u : Tokens) → IsGood (kind d u)) → Throughout N S d
    from_kinds null good all = tt
    from_kinds (flag b) good all = tt
    from_kinds (whole z) good all = all []
    from_kinds (string s) good all = all []
    from_kinds (list ds) good all = items_from_kinds ds good (λ j u. subst (λ (o : Option Document). good_from o u) (child-numeral (numeral j) j ds refl) (all (numeral j ∷ u)))
    from_kinds (object ms) good all = members_from_kinds ms good (all []) (λ q u. subst (λ (o : Option Document). good_from o u) (child-object q ms) (all (q ∷ u)))

    items_from_kinds : (ds : Items) → AreDocuments ds → ((j : ℕ) (u : Tokens) → good_from (nth j ds) u) → ThroughoutItems N S ds
    items_from_kinds no_items good all = tt
    items_from_kinds (item d ds) good all = (from_kinds d good.0 (all 0), items_from_kinds ds good.1 (λ j. all (suc j)))

    members_from_kinds : (ms : Members) → IsMap ms → AreNames (names_of ms) → ((q : List ℕ) (u : Tokens) → good_from (find q ms) u) → ThroughoutMembers N S ms
    members_from_kinds no_members good here all = tt
    members_from_kinds (member m d ms) good here all =
        let first : find m (member m d ms) ≡ Some d = rw (is_name-self m) refl in (
          here.0,
          from_kinds d good.0 (λ u. subst (λ (o : Option Document). good_from o u) first (all m u)),
          members_from_kinds ms good.2 here.1
              (λ q u. cases_same q m
              (λ same. subst (λ (o : Option Document). good_from o u) (sym (ap (λ k. find k ms) same ∙ find-below m ms good.1)) tt)
              (λ other. let later : find q (member m d ms) ≡ find q ms = rw other refl in subst (λ (o : Option Document). good_from o u) later (all q u))),
        )

  -- a document that differs from another at s alone
  changed_good : (s : Tokens) (d e y : Document) → IsDocument e → Throughout N S d → DifferOnlyAt s d e → part e s ≡ Some y → Throughout N S y → Throughout N S e
  changed_good s d e y good all only stands new =
      from_kinds e good
      (λ u. elim (begins_or_not u s) [
        | inl begins ↦ subst IsGood (sym (ap (kind e) begins.1 ∙ ap kind_of (further e y s begins.0 stands))) (kinds_good y new begins.0)
        | inr apart ↦ subst IsGood (only u apart) (kinds_good d all u)
      ])

  -- ---- the change in a container

  joined_good : (front back : Items) → ThroughoutItems N S front → ThroughoutItems N S back → ThroughoutItems N S (append front back)
  joined_good no_items back one other = other
  joined_good (item d front) back one other = (one.0, joined_good front back one.1 other)

  cut_good : (front back : Items) → ThroughoutItems N S (append front back) → ThroughoutItems N S front × ThroughoutItems N S back
  cut_good no_items back all = (tt, all)
  cut_good (item d front) back all = let cut = cut_good front back all.1 in ((all.0, cut.0), cut.1)

  added_good : (v : Document) (token : List ℕ) (x y : Document) → Throughout N S v → S token → AddsTo v token x y → Throughout N S x → Throughout N S y
  added_good v token x y value name (to_map ms was is) all = subst (Throughout N S) (sym is) (Throughout-put N S token v ms name value (subst (Throughout N S) was all))
  added_good v token x y value name (to_list front back at was is) all =
      let cut = cut_good front back (subst (Throughout N S) was all) in
      subst (Throughout N S) (sym is) (joined_good front (item v back) cut.0 (value, cut.1))

  removed_good : (token : List ℕ) (x y : Document) → S token → RemovesFrom token x y → Throughout N S x → Throughout N S y
  removed_good token x y name (from_map ms v found was is) all = subst (Throughout N S) (sym is) (Throughout-without N S token ms (subst (Throughout N S) was all))
  removed_good token x y name (from_list front back v at was is) all =
      let cut = cut_good front (item v back) (subst (Throughout N S) was all) in
      subst (Throughout N S) (sym is) (joined_good front back cut.0 cut.1.1)

  container_good : (Change : List ℕ → Document → Document → Type 0) → ((token : List ℕ) (x y : Document) → S token → Change token x y → Throughout N S x → Throughout N S y)
      → (t : Tokens) (d e : Document) → IsDocument e → All S t → Throughout N S d → ChangesContainer Change t d e → Throughout N S e
  container_good Change keeps t d e good tokens all change =
      let last = All-contains S t change.last tokens (subst (λ (ts : Tokens). Contains ts change.last) (sym change.is) (Contains-append_right change.container (change.last ∷ []) change.last (Contains-head change.last []))) in
      changed_good change.container d e change.after good all change.only change.stands
      (keeps change.last change.before change.after last change.changed (part_good change.container d change.before all change.stood))

  -- ---- operations

  abbrev Keeps : Operation → Type 0
  Keeps (add t v) = All S t × Throughout N S v
  Keeps (remove t) = All S t
  Keeps (replace t v) = Throughout N S v
  Keeps (move f t) = All S f × All S t
  Keeps (copy f t) = All S t
  Keeps (test t v) = ⊤

  added_at : (t : Tokens) (x d e : Document) → IsDocument e → All S t → Throughout N S x → Throughout N S d → Step d (add t x) e → Throughout N S e
  added_at t x d e fine tokens value all (inl (root, is)) = subst (Throughout N S) (sym is) value
  added_at t x d e fine tokens value all (inr change) = container_good (AddsTo x) (λ token y z. added_good x token y z value) t d e fine tokens all change

  step_good : (d : Document) (o : Operation) (e : Document) → IsDocument d → IsDocument e → Keeps o → Throughout N S d → Step d o e → Throughout N S e
  step_good d (add t v) e good fine (tokens, value) all step = added_at t v d e fine tokens value all step
  step_good d (remove t) e good fine tokens all change = container_good RemovesFrom removed_good t d e fine tokens all change
  step_good d (replace t v) e good fine value all step = changed_good t d e v fine all step.2 step.1 value
  step_good d (move f t) e good fine tokens all (x, is, inl (same, stays)) = subst (Throughout N S) (sym stays) all
  step_good d (move f t) e good fine tokens all (x, is, inr (apart, left, removes, adds)) =
      let between = container_good RemovesFrom removed_good f d left (Removes-document f d left good removes) tokens.0 all removes in
      added_at t x left e fine tokens.1 (part_good f d x all is) between adds
  step_good d (copy f t) e good fine tokens all (x, is, step) = added_at t x d e fine tokens (part_good f d x all is) all step
  step_good d (test t v) e good fine tokens all step = subst (Throughout N S) (sym step.1) all

  -- where it holds of what can be written
  module _ (keeps : (o : Operation) → IsWritable o → Keeps o) where
    run_good : (d : Document) (operations : List Operation) (e : Document) → IsDocument d → HaveDocuments operations → All IsWritable operations → Throughout N S d → Runs d operations e → Throughout N S e
    run_good d [] e good values can all runs = subst (Throughout N S) (sym runs) all
    run_good d (o ∷ operations) e good values can all (free, m, step, rest) =
        let fine = Step-document d o m good values.0 step in
        run_good m operations e fine values.1 (All-tail IsWritable o operations can) (step_good d o m good fine (keeps o (All-head IsWritable o operations can)) all step) rest

-- ---- what can be written

any_tokens : (t : Tokens) → All (λ s. ⊤) t
any_tokens [] = All-nil (λ s. ⊤)
any_tokens (token ∷ t) = All-cons (λ s. ⊤) token t tt (any_tokens t)

keeps_texts : (o : Operation) → IsWritable o → Keeps (λ z. ⊤) IsUtf8 o
keeps_texts (add t v) is = (is.0, is.1.has_texts)
keeps_texts (remove t) is = is
keeps_texts (replace t v) is = is.1.has_texts
keeps_texts (move f t) is = is
keeps_texts (copy f t) is = is.1
keeps_texts (test t v) is = tt

keeps_numbers : (o : Operation) → IsWritable o → Keeps IsWhole (λ s. ⊤) o
keeps_numbers (add t v) is = (any_tokens t, is.1.in_range)
keeps_numbers (remove t) is = any_tokens t
keeps_numbers (replace t v) is = is.1.in_range
keeps_numbers (move f t) is = (any_tokens f, any_tokens t)
keeps_numbers (copy f t) is = any_tokens t
keeps_numbers (test t v) is = tt

value_document : (o : Operation) → IsWritable o → HasDocument o
value_document (add t v) is = is.1.is_document
value_document (remove t) is = tt
value_document (replace t v) is = is.1.is_document
value_document (move f t) is = tt
value_document (copy f t) is = tt
value_document (test t v) is = is.1.is_document

value_documents : (operations : List Operation) → All IsWritable operations → HaveDocuments operations
value_documents [] can = tt
value_documents (o ∷ operations) can = (value_document o (All-head IsWritable o operations can), value_documents operations (All-tail IsWritable o operations can))

pub runs_are_readable : RunsAreReadable
runs_are_readable d e operations good can runs =
    let values = value_documents operations can in
    let shallow = stays_shallow d e operations good.is_document values runs good.within in
    record {
      is_document = run_document d operations e good.is_document values runs;
      has_texts = run_good (λ z. ⊤) IsUtf8 keeps_texts d operations e good.is_document values can good.has_texts runs;
      in_range = run_good IsWhole (λ s. ⊤) keeps_numbers d operations e good.is_document values can good.in_range runs;
      within = shallow;
    }
  where
    run_document : (d : Document) (operations : List Operation) (e : Document) → IsDocument d → HaveDocuments operations → Runs d operations e → IsDocument e
    run_document d [] e good values runs = subst IsDocument (sym runs) good
    run_document d (o ∷ operations) e good values (free, m, step, rest) = run_document m operations e (Step-document d o m good values.0 step) values.1 rest
