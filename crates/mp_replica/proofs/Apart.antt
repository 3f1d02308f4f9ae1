-- Where patches clash, no place is within another.
use Rattle.std.proofs.Common.{◌≡◌, ◌≢◌, ℕ, List, [], ◌∷◌, ◌++◌, Option, None, Some, refl, sym, ◌∙◌, subst}
use Rattle.mp_tree.specs.Document.{Document, null, flag, whole, string, list, object}
use Rattle.mp_tree.specs.Look.{Path, Look, nothing, an_object, plain, at_name, look, look_of}
use Rattle.mp_merge.specs.Clash.{Clash, Compatible}
use Rattle.mp_merge.specs.Lists.{PairwiseCompatible}
use Rattle.mp_replica.specs.Held.{AreClashesWith, NoneIsPrefix}
use Rattle.mp_replica.proofs.Growing.{itself}

-- above what is there, there is an object
object_above : (o : Option Document) (w v : Path) (n : List ℕ) → look_of o (w ++ n ∷ v) ≢ nothing → look_of o w ≡ an_object
object_above None w v n some = absurd (some refl)
object_above (Some null) [] v n some = absurd (some refl)
object_above (Some (flag b)) [] v n some = absurd (some refl)
object_above (Some (whole z)) [] v n some = absurd (some refl)
object_above (Some (string s)) [] v n some = absurd (some refl)
object_above (Some (list ds)) [] v n some = absurd (some refl)
object_above (Some (object ms)) [] v n some = refl
object_above (Some d) (m ∷ w) v n some = object_above (at_name m d) w v n some

-- where one patch has an object, a compatible one that has something there has one too
object_too : (p q : Document) (w : Path) → ¬ Clash p q w → look p w ≢ nothing → look q w ≡ an_object → look p w ≡ an_object
object_too p q w agree some there = by (look p w) refl
  where
    by : (l : Look) → look p w ≡ l → l ≡ an_object
    by nothing is = absurd (some is)
    by an_object is = refl
    by (plain d) is = absurd (agree (record {
      first = some;
      second = λ none. let never : nothing ≡ an_object = sym none ∙ there in cc;
      differ = λ same. let never : plain d ≡ an_object = sym is ∙ same ∙ there in cc;
    }))

-- two patches clash, and two others that are compatible with them do not clash below that
never_below : (p q s t : Document) (w v : Path) (n : List ℕ) → Compatible p s → Compatible q t → Clash p q w → ¬ Clash s t (w ++ n ∷ v)
never_below p q s t w v n first second clash below =
    let here : look p w ≡ an_object = object_too p s w (first w) clash.first (object_above (Some s) w v n below.first) in
    let there : look q w ≡ an_object = object_too q t w (second w) clash.second (object_above (Some t) w v n below.second) in
    clash.differ (here ∙ sym there)

-- no place at which a patch clashes with some that are compatible is within another
pub none_within : (ds : List Document) (p : Document) (places : List Path) → PairwiseCompatible ds → AreClashesWith ds p places → NoneIsPrefix places
none_within ds p places free clashes w u at_w at_u (n, v, is) =
    let above = (clashes.all w).0 at_w in
    let below = (clashes.all u).0 at_u in
    never_below p above.0 p below.0 w v n (itself p) (free above.0 below.0 above.1 below.1) above.2 (subst (Clash p below.0) is below.2)
