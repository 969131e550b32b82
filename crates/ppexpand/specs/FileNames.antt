-- The presumed names of files (6.10.4).
use Rattle.std.specs.Prelude.{ℕ, List, [], ◌∷◌, ◌++◌}
use Rattle.ppmacro.specs.Substitution.{escaped_literal}

-- a name as a string literal
abbrev pub literal : List ℕ → List ℕ
literal name = 34 ∷ (escaped_literal name ++ 34 ∷ [])
