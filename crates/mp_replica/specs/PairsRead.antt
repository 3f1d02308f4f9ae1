-- What the text of pairs that conflict is read as: laws. Each is a clause of a function of the module `laws` that runs nothing.
use Rattle.std.specs.Prelude.{◌≡◌, ◌<◌, ◌^◌, List, map, codes, Ok, IsUtf8}
use Rattle.std.specs.List.{All}
use Rattle.mp_tree.specs.Document.{Document, list, object, member, no_members}
use Rattle.mp_tree.specs.Elements.{items_of}
use Rattle.mp_tree.specs.Text.{document_in}
use Rattle.mp_pointer.specs.Spelling.{spell}
use Rattle.mp_texts.specs.Answers.{places_list}
use Rattle.mp_replica.specs.LogTexts.{identity_document, pairs_text}
use Rattle.mp_replica.specs.PatchLog.{Pair}
use Rattle.mp_replica.specs.declared.message.Identity.{Identity}

-- the object that a pair is read as, with its names in their order
abbrev pub pair_document : Pair → Document
pair_document pair = object (member (codes "first") (identity_document pair.first)
    (member (codes "places") (places_list pair.places)
    (member (codes "second") (identity_document pair.second) no_members)))

-- the array of the pairs
abbrev pub pairs_document : List Pair → Document
pairs_document pairs = list (items_of (map pair_document pairs))

-- the sender and the number are within 64 bits, as each `u64` is
pub record HasNumbersOf64Bits (i : Identity) : Type 0 where
  pub sender : i.sender < 2 ^ 64
  pub number : i.number < 2 ^ 64

-- so are those of both identities
pub record HasIdentitiesOf64Bits (pair : Pair) : Type 0 where
  pub first : HasNumbersOf64Bits pair.first
  pub second : HasNumbersOf64Bits pair.second

-- and the spelling of each place is UTF-8, as that of each `Pointer` is
pub record IsReadablePair (pair : Pair) : Type 0 where
  pub identities : HasIdentitiesOf64Bits pair
  pub places : All (λ place. IsUtf8 (spell place)) pair.places

-- the text of pairs is read as the array of them
abbrev pub PairsReadBack : Type 0
PairsReadBack = (pairs : List Pair) → All IsReadablePair pairs → document_in (pairs_text pairs) ≡ Ok (pairs_document pairs)

-- of the places it is enough that what is written is UTF-8, as each `String` is
abbrev pub PairsReadUtf8Back : Type 0
PairsReadUtf8Back = (pairs : List Pair) → All HasIdentitiesOf64Bits pairs → IsUtf8 (pairs_text pairs)
    → document_in (pairs_text pairs) ≡ Ok (pairs_document pairs)

-- and it is the text of these pairs alone
abbrev pub TextIsOfOnePairs : Type 0
TextIsOfOnePairs = (pairs others : List Pair) → All HasIdentitiesOf64Bits pairs → All HasIdentitiesOf64Bits others
    → IsUtf8 (pairs_text pairs) → pairs_text pairs ≡ pairs_text others → pairs ≡ others
