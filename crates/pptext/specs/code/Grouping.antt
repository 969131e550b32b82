-- Predicates on the grouping of a file's lines: spans without branches, their links, the open if-sections by their lines' indices, and an include
-- guard found without the tree. Only the contracts of private functions cite this.
use Rattle.std.specs.Prelude.{◌≡◌, ℕ, ◌+◌, ◌⊎◌, List, [], ◌∷◌, map, length, drop, Bool, Option, None, Some, Result, Ok, Err}
use Rattle.std.specs.List.{AllByRecursion}
use Rattle.pptext.specs.declared.tokens.Fault.{Fault}
use Rattle.pptext.specs.declared.tokens.Token.{Token}
use Rattle.pptext.specs.declared.sources.Line.{Line}
use Rattle.pptext.specs.Lines.{LogicalLine, AreDirected}
use Rattle.pptext.specs.Tree.{Role, Opens, Elses, Closes, role, role_by, branch_after, group_fault}
use Rattle.pptext.specs.Sources.{lines_from, line_tokens, spans}
use Rattle.pptext.specs.Guard.{IsBlankLine, guard_name}

-- the span of a line, whose tokens begin at this index, without its next branch line
abbrev pub line_span : ℕ → LogicalLine → Line
line_span start r =
    record { start = start; end = start + length r.tokens; number = r.number; directive = r.directive; next_branch = None }

-- the spans of the lines, whose tokens begin at this index, without next branch lines
abbrev pub line_spans : ℕ → List LogicalLine → List Line
line_spans start [] = []
line_spans start (r ∷ rs) = line_span start r ∷ line_spans (start + length r.tokens) rs

-- the spans, without next branch lines, are those of the lines into which they divide the tokens
abbrev pub AreLineSpans : List Token → List Line → Type 0
AreLineSpans ts ls = (line_tokens (lines_from ts ls) ≡ ts) × (line_spans 0 (lines_from ts ls) ≡ ls) × AreDirected (lines_from ts ls)

abbrev pub line_role : Line → Role
line_role l = role_by l.directive

-- the next branch line of a line with index k, in an if-section, before lines of these roles
abbrev pub branch_of : ℕ → Role → List Role → Option ℕ
branch_of k Opens rest = branch_after 0 (k + 1) rest
branch_of k (Elses final) rest = branch_after 0 (k + 1) rest
branch_of k s rest = None

-- the lines from index k on, each with its next branch line
abbrev pub linked : ℕ → List Line → List Line
linked k [] = []
linked k (l ∷ ls) = record l { next_branch = branch_of k (line_role l) (map line_role ls) } ∷ linked (k + 1) ls

abbrev pub first : List ℕ → Option ℕ
first [] = None
first (k ∷ ks) = Some k

-- The step back over a line: its next branch line, and those of the if-sections that are open before it, the innermost first.
abbrev pub step_back : ℕ → Role → List ℕ → Option ℕ × List ℕ
step_back k Opens open_branches = (first open_branches, drop 1 open_branches)
step_back k (Elses final) open_branches = (first open_branches, k ∷ drop 1 open_branches)
step_back k Closes open_branches = (None, k ∷ open_branches)
step_back k s open_branches = (None, open_branches)

-- the spans are those of the lines into which they divide the tokens
abbrev pub AreLines : List Token → List Line → Type 0
AreLines ts ls = (line_tokens (lines_from ts ls) ≡ ts) × (spans 0 0 (lines_from ts ls) ≡ ls) × AreDirected (lines_from ts ls)

-- the fault of a line, or the if-sections that are open after it
abbrev pub LineTakes : Option ℕ × List (ℕ × Bool) → Option ℕ → List (ℕ × Bool) → Type 0
LineTakes step None after = step ≡ (None, after)
LineTakes step (Some n) after = step.0 ≡ Some n

-- the role of a line that opens, branches or closes an if-section
abbrev pub IsBranching : Role → Type 0
IsBranching Opens = Unit {0}
IsBranching (Elses final) = Unit {0}
IsBranching Closes = Unit {0}
IsBranching s = ⊥

-- Of the lines after an opening line, from index k on: the if-section's next branch line closes it, and no token follows.
pub record ClosedAtOnce (k : ℕ) (lines : List LogicalLine) : Type 0 where
  pub skipped : ℕ
  pub last : LogicalLine
  pub rest : List LogicalLine
  pub next : branch_after 0 k (map role lines) ≡ Some (k + skipped)
  pub after_skipped : drop skipped lines ≡ last ∷ rest
  pub closes : role last ≡ Closes
  pub blank : AllByRecursion IsBlankLine rest

-- An include guard found without the tree, in the lines from index k on: the first line with tokens opens an if-section and names X, and the
-- if-section is closed at once.
abbrev pub FlatGuard : ℕ → List LogicalLine → List ℕ → Type 0
FlatGuard k [] x = ⊥
FlatGuard k (r ∷ rs) x =
    (IsBlankLine r × FlatGuard (k + 1) rs x) ⊎ ((role r ≡ Opens) × (guard_name r.tokens ≡ Some x) × ClosedAtOnce (k + 1) rs)

-- the result of grouping these lines: the same lines, or the first fault of their groups
abbrev pub GroupsInto : List LogicalLine → Result (List LogicalLine) Fault → Type 0
GroupsInto lines (Ok s) = (s ≡ lines) × (group_fault [] lines ≡ None)
GroupsInto lines (Err f) = group_fault [] lines ≡ Some f
