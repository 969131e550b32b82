-- The fault of lines that have no tree (6.10), by trees alone.
use Rattle.std.specs.Prelude.{◌≡◌, List, [], ◌∷◌, ◌++◌}
use Rattle.pptext.specs.declared.tokens.Fault.{Fault}
use Rattle.pptext.specs.Lines.{LogicalLine}
use Rattle.pptext.specs.Tree.{GroupParts, Branches, Done, Section, Tree, Closes, role, fault_at}

abbrev pub HasTree : List LogicalLine → Type 0
HasTree lines = (parts : GroupParts) × Tree lines parts

-- some list of lines that begins with these has a tree
abbrev pub BeginsTree : List LogicalLine → Type 0
BeginsTree prefix = (rest : List LogicalLine) × HasTree (prefix ++ rest)

-- This line opens the innermost if-section that is open after the lines: with one `#endif` more, the lines from it on are one if-section.
pub record Innermost (lines : List LogicalLine) (opening : LogicalLine) : Type 0 where
  pub prefix : List LogicalLine
  pub rest : List LogicalLine
  pub whole : lines ≡ prefix ++ opening ∷ rest
  pub end : LogicalLine
  pub closes : role end ≡ Closes
  pub parts : GroupParts
  pub branches : Branches
  pub section : Tree (opening ∷ rest ++ end ∷ []) (Section opening parts branches Done)

-- This line is the first with which the lines so far begin no list that has a tree.
pub record FirstWrong (lines prefix : List LogicalLine) (line : LogicalLine) : Type 0 where
  pub rest : List LogicalLine
  pub whole : lines ≡ prefix ++ line ∷ rest
  pub begins : BeginsTree prefix
  pub wrong : ¬ BeginsTree (prefix ++ line ∷ [])

-- the fault of lines that have no tree
pub data IsGroupFault (lines : List LogicalLine) : Fault → Type 0 where
  -- no if-section is open before the line
  no_section : {prefix : List LogicalLine} {line : LogicalLine} → FirstWrong lines prefix line → HasTree prefix → IsGroupFault lines (fault_at 3 line)
  -- an if-section is open there: its `#else` has occurred
  after_else : {prefix : List LogicalLine} {line : LogicalLine} → FirstWrong lines prefix line → (¬ HasTree prefix) → IsGroupFault lines (fault_at 4 line)
  -- the lines begin a list that has a tree, and have none
  open_section : {opening : LogicalLine} → BeginsTree lines → (¬ HasTree lines) → Innermost lines opening → IsGroupFault lines (fault_at 5 opening)
