-- A list written over from its start on.
use Rattle.std.specs.Prelude.{List, [], ◌∷◌}

-- What is made of the first entries, each with one of another list; those behind stand as they stood
abbrev pub over : {A B : Type 0} → (A → B → B) → List A → List B → List B
over make [] bs = bs
over make (a ∷ rest) [] = []
over make (a ∷ rest) (b ∷ bs) = make a b ∷ over make rest bs
