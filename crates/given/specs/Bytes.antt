-- What is read of a reader.
use Rattle.std.specs.Prelude.{◌≡◌, ℕ, List, take, drop, ⊤, Option, None, Some}

-- A reader whose bytes are known gave the first of them, as many as there was room for, and has the others left
abbrev pub Gave : Option (List ℕ) → Option (List ℕ) → ℕ → List ℕ → Type 0
Gave None after room text = ⊤
Gave (Some bytes) after room text = (text ≡ take room bytes) × (after ≡ Some (drop room bytes))
