-- Collections of patches that say the same at each path: they have the same joins, and are compatible together.
use Rattle.std.proofs.Common.{◌≡◌, ◌≢◌, ◌⊎◌, inl, inr, List, [], ◌∷◌, ◌++◌, refl, sym, ◌∙◌, subst}
use Rattle.std.proofs.lemmas.List.Elements.{Contains-append_cases, Contains-append_left, Contains-append_right}
use Rattle.std.specs.List.{Contains}
use Rattle.mp_tree.specs.Document.{Document}
use Rattle.mp_tree.specs.Look.{Path, Look, nothing, look}
use Rattle.mp_tree.proofs.Facts.{Contains-head, Contains-one, Speaks, nothing_or, speaks_or_silent}
use Rattle.mp_merge.specs.Join.{IsJoin}
use Rattle.mp_merge.specs.Lists.{HaveSameMembers, PairwiseCompatible}

-- a member has this look there
pub record Says (es : List Document) (w : Path) (l : Look) : Type 0 where
  pub member : Document
  pub at : Contains es member
  pub has : look member w ≡ l

-- what a member of the one says, a member of the other says
abbrev pub Covers : List Document → List Document → Type 0
Covers ds es = (p : Document) → Contains ds p → (w : Path) → look p w ≢ nothing → Says es w (look p w)

pub record SaySame (ds es : List Document) : Type 0 where
  pub there : Covers ds es
  pub back : Covers es ds

-- ---- it is an equivalence, and is kept by joining lists

pub turned : {ds es : List Document} → SaySame ds es → SaySame es ds
turned same = record { there = same.back; back = same.there }

covers-trans : (ds es fs : List Document) → Covers ds es → Covers es fs → Covers ds fs
covers-trans ds es fs one other p at w has =
    let found = one p at w has in
    let next = other found.member found.at w (subst (λ (l : Look). l ≢ nothing) (sym found.has) has) in
    record { member = next.member; at = next.at; has = next.has ∙ found.has }

pub SaySame-trans : {ds es fs : List Document} → SaySame ds es → SaySame es fs → SaySame ds fs
SaySame-trans {ds = ds} {es = es} {fs = fs} one other = record {
  there = covers-trans ds es fs one.there other.there;
  back = covers-trans fs es ds other.back one.back;
}

pub SaySame-members : {ds es : List Document} → HaveSameMembers ds es → SaySame ds es
SaySame-members same = record {
  there = λ p at w has. record { member = p; at = (same p).0 at; has = refl };
  back = λ p at w has. record { member = p; at = (same p).1 at; has = refl };
}

covers-append : (ds es fs gs : List Document) → Covers ds es → Covers fs gs → Covers (ds ++ fs) (es ++ gs)
covers-append ds es fs gs one other p at w has = by (Contains-append_cases ds fs p at)
  where
    by : Contains ds p ⊎ Contains fs p → Says (es ++ gs) w (look p w)
    by (inl first) = let found = one p first w has in record { member = found.member; at = Contains-append_left es gs found.member found.at; has = found.has }
    by (inr later) = let found = other p later w has in record { member = found.member; at = Contains-append_right es gs found.member found.at; has = found.has }

pub SaySame-append : (ds es fs gs : List Document) → SaySame ds es → SaySame fs gs → SaySame (ds ++ fs) (es ++ gs)
SaySame-append ds es fs gs one other = record {
  there = covers-append ds es fs gs one.there other.there;
  back = covers-append es ds gs fs one.back other.back;
}

-- ---- joins

pub same_join : (ds es : List Document) (j : Document) → SaySame ds es → IsJoin ds j → IsJoin es j
same_join ds es j same joined = record {
  said = λ q at w has.
      let found = same.back q at w has in
      joined.said found.member found.at w (subst (λ (l : Look). l ≢ nothing) (sym found.has) has) ∙ found.has;
  silent = λ w none. joined.silent w (λ p at. elim (nothing_or (look p w)) [
    | inl is ↦ is
    | inr some ↦ let found = same.there p at w some in absurd (some (sym found.has ∙ none found.member found.at))
  ]);
}

-- a join says what those say that were joined
pub join_says : (ds : List Document) (j : Document) → IsJoin ds j → SaySame (j ∷ []) ds
join_says ds j joined = record {
  there = λ p at w has. said p (Contains-one j p at) w has (speaks_or_silent ds w);
  back = λ p at w has. record { member = j; at = Contains-head j []; has = joined.said p at w has };
}
  where
    said : (p : Document) → j ≡ p → (w : Path) → look p w ≢ nothing → Speaks ds w ⊎ ((q : Document) → Contains ds q → look q w ≡ nothing) → Says ds w (look p w)
    said p same w has (inl found) = record { member = found.0; at = found.1; has = sym (joined.said found.0 found.1 w found.2) ∙ subst (λ (x : Document). look j w ≡ look x w) same refl }
    said p same w has (inr none) = absurd (has (subst (λ (x : Document). look x w ≡ nothing) same (joined.silent w none)))

-- ---- compatibility

pub same_compatible : (ds es : List Document) → SaySame ds es → PairwiseCompatible ds → PairwiseCompatible es
same_compatible ds es same free p q one two w clash =
    let first = same.back p one w clash.first in
    let second = same.back q two w clash.second in
    free first.member second.member first.at second.at w (record {
      first = subst (λ (l : Look). l ≢ nothing) (sym first.has) clash.first;
      second = subst (λ (l : Look). l ≢ nothing) (sym second.has) clash.second;
      differ = λ equal. clash.differ (sym first.has ∙ equal ∙ second.has);
    })
