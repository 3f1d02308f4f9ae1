-- What is at a path: the way in which a merge patch (RFC 7396) sees a document. An array is seen whole.
use Rattle.std.specs.Prelude.{ℕ, List, [], ◌∷◌, Option, None, Some}
use Rattle.mp_tree.specs.Document.{Document, object, find}

-- a list of names
abbrev pub Path : Type 0
Path = List (List ℕ)

-- what is at a path: nothing, an object, or a value that is not an object
pub data Look : Type 0 where
  nothing : Look
  an_object : Look
  plain : Document → Look

-- the look at the empty path: the document itself, if it is not an object
abbrev pub look_here : Document → Look
look_here (object ms) = an_object
look_here d = plain d

-- d[n], if d is an object that has n
abbrev pub at_name : List ℕ → Document → Option Document
at_name n (object ms) = find n ms
at_name n d = None

-- the look of a document that may be absent
abbrev pub look_of : Option Document → Path → Look
look_of None w = nothing
look_of (Some d) [] = look_here d
look_of (Some d) (n ∷ w) = look_of (at_name n d) w

-- what is in d at the path w
abbrev pub look : Document → Path → Look
look d w = look_of (Some d) w
