-- A column of a fixed size, as the code holds the codes of S rows.
use Rattle.std.specs.Prelude.{ℕ, List, ◌++◌, take, replicate}

-- A column of so many places: what it holds, and behind it what stands for none
abbrev pub padded : {H : Type 0} → ℕ → H → List H → List H
padded most none hs = take most (hs ++ replicate most none)
