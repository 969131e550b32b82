-- Predicates of two theorems about a file: the tokens among its lexemes, and the next branch lines by its tree of groups (6.10).
use Rattle.std.specs.Prelude.{ℕ, ◌+◌, List, [], ◌∷◌, ◌++◌, Bool, map, length, Option, None, Some}
use Rattle.pptext.specs.declared.characters.Char.{Char}
use Rattle.pptext.specs.declared.tokens.Token.{Token}
use Rattle.pptext.specs.Lexemes.{Lexeme, LexemeKind, Spelled}
use Rattle.pptext.specs.Lines.{token_of, leaves_space}
use Rattle.pptext.specs.Tree.{GroupParts, Done, TextLines, Control, Section, Branches, End, Branch, part_lines, branch_lines}

-- the token of a lexeme, if it is one
abbrev pub token_in : Bool → List Char → LexemeKind → List Token
token_in space chars (Spelled k) = token_of k space chars ∷ []
token_in space chars s = []

-- the tokens of the lexemes. `space` says whether white space or the beginning of a line precedes them.
abbrev pub tokens_in : Bool → List Lexeme → List Token
tokens_in space [] = []
tokens_in space (p ∷ ps) = token_in space p.chars p.kind ++ tokens_in (leaves_space p.kind) ps

-- For each line of the parts, of which the first has index k: the index of the line that follows its group, which is its if-section's next branch
-- line or `#endif`. None for a line that begins no group.
abbrev mutual
  pub part_branches : ℕ → GroupParts → List (Option ℕ)
  part_branches k Done = []
  part_branches k (TextLines rs ps) = map (λ r. None) rs ++ part_branches (k + length rs) ps
  part_branches k (Control r ps) = None ∷ part_branches (k + 1) ps
  part_branches k (Section r ps bs qs) =
      let next = k + 1 + length (part_lines ps) in
      Some next ∷ part_branches (k + 1) ps ++ later_branches next bs ++ part_branches (next + length (branch_lines bs)) qs

  -- the next branch lines of the branches of an if-section
  pub later_branches : ℕ → Branches → List (Option ℕ)
  later_branches k (End r) = None ∷ []
  later_branches k (Branch r ps bs) =
      let next = k + 1 + length (part_lines ps) in
      Some next ∷ part_branches (k + 1) ps ++ later_branches next bs
