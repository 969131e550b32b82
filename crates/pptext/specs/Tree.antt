-- The groups of a file by the grammar of 6.10. They depend only on the classes of its directives.
use Rattle.std.specs.Prelude.{◌≡◌, ◌≢◌, ℕ, zero, suc, ◌+◌, List, [], ◌∷◌, ◌++◌, Bool, true, false, Option, None, Some}
use Rattle.std.specs.List.{AllByRecursion}
use Rattle.pptext.specs.declared.tokens.Place.{Place}
use Rattle.pptext.specs.declared.tokens.Token.{Token}
use Rattle.pptext.specs.declared.tokens.Fault.{Fault}
use Rattle.pptext.specs.declared.sources.Directive.{Directive}
use Rattle.pptext.specs.declared.directives.Class.{Class}
use Rattle.pptext.specs.declared.directives.Class.TheVariants as class
use Rattle.pptext.specs.Classes.{class_of}
use Rattle.pptext.specs.Clean.{place}
use Rattle.pptext.specs.Lines.{LogicalLine}
use Rattle.pptext.specs.Tokens.{fault}

-- What a line does to the groups. `Elses true` is `#else`, `Elses false` a branch with a condition.
pub data Role : Type 0 where
  TextLine : Role
  ControlLine : Role
  Opens : Role
  Elses : Bool → Role
  Closes : Role

-- the role of a line with a directive of this class
abbrev pub role_in : Class → Role
role_in (class.Opens q) = Opens
role_in (class.Elifs q) = Elses false
role_in class.Else = Elses true
role_in class.Endif = Closes
role_in c = ControlLine

abbrev pub role_of_directive : Directive → Role
role_of_directive d = role_in (class_of d)

abbrev pub role_by : Option Directive → Role
role_by None = TextLine
role_by (Some d) = role_of_directive d

abbrev pub role : LogicalLine → Role
role r = role_by r.directive

-- A group: text lines, control lines and if-sections. An if-section has its opening line, its first group, and its branches.
mutual
  pub data GroupParts : Type 0 where
    Done : GroupParts
    TextLines : List LogicalLine → GroupParts → GroupParts
    Control : LogicalLine → GroupParts → GroupParts
    Section : LogicalLine → GroupParts → Branches → GroupParts → GroupParts

  -- the lines of the branches with their groups, and the line of `#endif`
  pub data Branches : Type 0 where
    End : LogicalLine → Branches
    Branch : LogicalLine → GroupParts → Branches → Branches

-- the lines of the parts, end to end
abbrev mutual
  pub part_lines : GroupParts → List LogicalLine
  part_lines Done = []
  part_lines (TextLines rs ps) = rs ++ part_lines ps
  part_lines (Control r ps) = r ∷ part_lines ps
  part_lines (Section r ps bs qs) = r ∷ part_lines ps ++ branch_lines bs ++ part_lines qs

  pub branch_lines : Branches → List LogicalLine
  branch_lines (End r) = r ∷ []
  branch_lines (Branch r ps bs) = r ∷ part_lines ps ++ branch_lines bs

abbrev pub BeginsTextLines : GroupParts → Type 0
BeginsTextLines (TextLines rs ps) = Unit {0}
BeginsTextLines ps = ⊥

-- Each line has the role that its position requires, consecutive text lines form one part, and only `#endif` follows the group of `#else`.
abbrev mutual
  pub AreGroupParts : GroupParts → Type 0
  AreGroupParts Done = Unit {0}
  AreGroupParts (TextLines rs ps) = (rs ≢ []) × AllByRecursion (λ r. role r ≡ TextLine) rs × (¬ BeginsTextLines ps) × AreGroupParts ps
  AreGroupParts (Control r ps) = (role r ≡ ControlLine) × AreGroupParts ps
  AreGroupParts (Section r ps bs qs) = (role r ≡ Opens) × AreGroupParts ps × AreBranches false bs × AreGroupParts qs

  pub AreBranches : Bool → Branches → Type 0
  AreBranches has_else (End r) = role r ≡ Closes
  AreBranches has_else (Branch r ps bs) = (has_else ≡ false) × (final : Bool) × (role r ≡ Elses final) × AreGroupParts ps × AreBranches final bs

-- the tree of a file
pub record Tree (lines : List LogicalLine) (parts : GroupParts) : Type 0 where
  pub whole : part_lines parts ≡ lines
  pub each : AreGroupParts parts

-- an open if-section: the line that opened it, and whether its `#else` has occurred
abbrev pub Open : Type 0
Open = LogicalLine × Bool

abbrev pub name_of : List Token → List ℕ
name_of (a ∷ b ∷ ts) = b.text
name_of ts = []

abbrev pub hash_place : List Token → Place
hash_place [] = place 0 0 0
hash_place (t ∷ ts) = t.at

abbrev pub fault_at : ℕ → LogicalLine → Fault
fault_at number r = fault number (hash_place r.tokens) (name_of r.tokens)

-- what a line does to the open if-sections, or its fault: 3 outside an if-section, 4 after `#else`
abbrev pub after_line : {L : Type 0} → Role → L → List (L × Bool) → Option ℕ × List (L × Bool)
after_line Opens r os = (None, (r, false) ∷ os)
after_line (Elses final) r [] = (Some 3, [])
after_line (Elses final) r ((o, true) ∷ os) = (Some 4, [])
after_line (Elses final) r ((o, false) ∷ os) = (None, (o, final) ∷ os)
after_line Closes r [] = (Some 3, [])
after_line Closes r (o ∷ os) = (None, os)
after_line s r os = (None, os)

-- the fault of a file that ends with these if-sections open
abbrev pub fault_at_end : List Open → Option Fault
fault_at_end [] = None
fault_at_end (o ∷ os) = Some (fault_at 5 o.0)

-- the fault of this number at a line, or otherwise the fault of the later lines
abbrev pub fault_or : LogicalLine → Option ℕ → Option Fault → Option Fault
fault_or r (Some n) later = Some (fault_at n r)
fault_or r None later = later

-- The first fault of the lines from the top, after these open if-sections. It is 5 if an if-section is open at the end.
abbrev pub group_fault : List Open → List LogicalLine → Option Fault
group_fault os [] = fault_at_end os
group_fault os (r ∷ rs) = fault_or r (after_line (role r) r os).0 (group_fault (after_line (role r) r os).1 rs)

-- The index, counted from k, of the line that ends the current group of the enclosing if-section: its next branch line or its `#endif`. `depth`
-- inner if-sections are open.
abbrev pub branch_after : ℕ → ℕ → List Role → Option ℕ
branch_after depth k [] = None
branch_after depth k (Opens ∷ rs) = branch_after (suc depth) (k + 1) rs
branch_after zero k (Closes ∷ rs) = Some k
branch_after (suc depth) k (Closes ∷ rs) = branch_after depth (k + 1) rs
branch_after zero k (Elses final ∷ rs) = Some k
branch_after (suc depth) k (Elses final ∷ rs) = branch_after (suc depth) (k + 1) rs
branch_after depth k (s ∷ rs) = branch_after depth (k + 1) rs
