-- Trees of groups: a file has at most one, and it has one exactly if it has no fault.
use Rattle.std.proofs.Common.{◌≡◌, ◌↔◌, Bool, true, false, List, [], ◌∷◌, ◌++◌, refl, sym, ap, ◌∙◌, append_assoc, None}
use Rattle.std.specs.List.{AllByRecursion}
use Rattle.std.proofs.lemmas.List.{append-nil}
use Rattle.pptext.specs.Lines.{LogicalLine}
use Rattle.pptext.specs.Tree.{Role, TextLine, ControlLine, Opens, Elses, Closes, GroupParts, Done, TextLines, Control, Section, Branches, End, Branch, part_lines}
use Rattle.pptext.specs.Tree.{branch_lines, BeginsTextLines, AreGroupParts, AreBranches, Tree, role, Open, after_line, fault_or, group_fault}

-- Lines that have a tree have no fault.

pub one_line : (os : List Open) (r : LogicalLine) (rs : List LogicalLine) (s : Role) → role r ≡ s → group_fault os (r ∷ rs) ≡ fault_or r (after_line s r os).0 (group_fault (after_line s r os).1 rs)
one_line os r rs s e = ap (λ (z : Role). fault_or r (after_line z r os).0 (group_fault (after_line z r os).1 rs)) e

text_lines : (os : List Open) (rs rest : List LogicalLine) → AllByRecursion (λ r. role r ≡ TextLine) rs → group_fault os (rs ++ rest) ≡ group_fault os rest
text_lines os [] rest all = refl
text_lines os (r ∷ rs) rest all = one_line os r (rs ++ rest) TextLine all.0 ∙ text_lines os rs rest all.1

pub section_lines : (r : LogicalLine) (ps qs : GroupParts) (bs : Branches) (rest : List LogicalLine) → part_lines (Section r ps bs qs) ++ rest ≡ r ∷ part_lines ps ++ (branch_lines bs ++ (part_lines qs ++ rest))
section_lines r ps qs bs rest = simp append_assoc

pub branch_line : (r : LogicalLine) (ps : GroupParts) (bs : Branches) (rest : List LogicalLine) → branch_lines (Branch r ps bs) ++ rest ≡ r ∷ part_lines ps ++ (branch_lines bs ++ rest)
branch_line r ps bs rest = ap (λ (z : List LogicalLine). r ∷ z) (append_assoc (part_lines ps) (branch_lines bs) rest)

mutual
  pub parts_pass : (ps : GroupParts) (os : List Open) (rest : List LogicalLine) → AreGroupParts ps → group_fault os (part_lines ps ++ rest) ≡ group_fault os rest
  parts_pass Done os rest are = refl
  parts_pass (TextLines rs ps) os rest are =
      ap (group_fault os) (append_assoc rs (part_lines ps) rest) ∙ text_lines os rs (part_lines ps ++ rest) are.1 ∙ parts_pass ps os rest are.3
  parts_pass (Control r ps) os rest are = one_line os r (part_lines ps ++ rest) ControlLine are.0 ∙ parts_pass ps os rest are.1
  parts_pass (Section r ps bs qs) os rest are =
      ap (group_fault os) (section_lines r ps qs bs rest)
      ∙ one_line os r (part_lines ps ++ (branch_lines bs ++ (part_lines qs ++ rest))) Opens are.0
      ∙ parts_pass ps ((r, false) ∷ os) (branch_lines bs ++ (part_lines qs ++ rest)) are.1
      ∙ branches_pass bs r false os (part_lines qs ++ rest) are.2
      ∙ parts_pass qs os rest are.3

  branches_pass : (bs : Branches) (o : LogicalLine) (has_else : Bool) (os : List Open) (rest : List LogicalLine) → AreBranches has_else bs → group_fault ((o, has_else) ∷ os) (branch_lines bs ++ rest) ≡ group_fault os rest
  branches_pass (End r) o has_else os rest are = one_line ((o, has_else) ∷ os) r rest Closes are
  branches_pass (Branch r ps bs) o has_else os rest (first, final, is, parts, more) =
      ap (group_fault ((o, has_else) ∷ os)) (branch_line r ps bs rest)
      ∙ ap (λ (z : Bool). group_fault ((o, z) ∷ os) (r ∷ part_lines ps ++ (branch_lines bs ++ rest))) first
      ∙ one_line ((o, false) ∷ os) r (part_lines ps ++ (branch_lines bs ++ rest)) (Elses final) is
      ∙ parts_pass ps ((o, final) ∷ os) (branch_lines bs ++ rest) parts
      ∙ branches_pass bs o final os rest more

pub no_fault : (lines : List LogicalLine) (parts : GroupParts) → Tree lines parts → group_fault [] lines ≡ None
no_fault lines parts tree =
    ap (group_fault []) (sym tree.whole ∙ sym (append-nil (part_lines parts))) ∙ parts_pass parts [] [] tree.each

-- Lines without fault have a tree: they are parts, and then branches and parts of each open if-section.

record LeadingLexeme (Rest : List LogicalLine → Type 0) (lines : List LogicalLine) : Type 0 where
  parts : GroupParts
  rest : List LogicalLine
  are : AreGroupParts parts
  whole : part_lines parts ++ rest ≡ lines
  behind : Rest rest

abbrev Behind : List Open → List LogicalLine → Type 0
Behind [] rest = rest ≡ []
Behind (o ∷ os) rest = (bs : Branches) × (more : List LogicalLine) × AreBranches o.1 bs × (branch_lines bs ++ more ≡ rest) × LeadingLexeme (Behind os) more

pub with_text : (r : LogicalLine) (ps : GroupParts) → role r ≡ TextLine → AreGroupParts ps → (qs : GroupParts) × AreGroupParts qs × (part_lines qs ≡ r ∷ part_lines ps)
with_text r Done is are = (TextLines (r ∷ []) Done, ((λ (e : r ∷ [] ≡ []). cc), (is, tt), (λ (e : ⊥). e), tt), refl)
with_text r (TextLines rs ps) is are = (TextLines (r ∷ rs) ps, ((λ (e : r ∷ rs ≡ []). cc), (is, are.1), are.2, are.3), refl)
with_text r (Control q ps) is are = (TextLines (r ∷ []) (Control q ps), ((λ (e : r ∷ [] ≡ []). cc), (is, tt), (λ (e : ⊥). e), are), refl)
with_text r (Section q ps bs qs) is are = (TextLines (r ∷ []) (Section q ps bs qs), ((λ (e : r ∷ [] ≡ []). cc), (is, tt), (λ (e : ⊥). e), are), refl)

-- A line extends the leading parts of the later lines.
front_at : (r : LogicalLine) (rs : List LogicalLine) (os : List Open) (s : Role)
    → role r ≡ s
    → ((before : List Open) → group_fault before rs ≡ None → LeadingLexeme (Behind before) rs)
    → fault_or r (after_line s r os).0 (group_fault (after_line s r os).1 rs) ≡ None
    → LeadingLexeme (Behind os) (r ∷ rs)
front_at r rs os TextLine is later e =
    let f = later os e in
    let w = with_text r f.parts is f.are in
    record { parts = w.0; rest = f.rest; are = w.1; whole = ap (λ (z : List LogicalLine). z ++ f.rest) w.2 ∙ ap (λ (z : List LogicalLine). r ∷ z) f.whole; behind = f.behind }
front_at r rs os ControlLine is later e =
    let f = later os e in
    record { parts = Control r f.parts; rest = f.rest; are = (is, f.are); whole = ap (λ (z : List LogicalLine). r ∷ z) f.whole; behind = f.behind }
front_at r rs os Opens is later e =
    let f = later ((r, false) ∷ os) e in
    let b = f.behind in
    let g = b.4 in
    record {
      parts = Section r f.parts b.0 g.parts;
      rest = g.rest;
      are = (is, f.are, b.2, g.are);
      whole = section_lines r f.parts g.parts b.0 g.rest
          ∙ ap (λ (z : List LogicalLine). r ∷ part_lines f.parts ++ z) (ap (λ (z : List LogicalLine). branch_lines b.0 ++ z) g.whole ∙ b.3)
          ∙ ap (λ (z : List LogicalLine). r ∷ z) f.whole;
      behind = g.behind;
    }
front_at r rs [] (Elses final) is later e = absurd (cc)
front_at r rs ((o, true) ∷ os) (Elses final) is later e = absurd (cc)
front_at r rs ((o, false) ∷ os) (Elses final) is later e =
    let f = later ((o, final) ∷ os) e in
    let b = f.behind in
    record {
      parts = Done;
      rest = r ∷ rs;
      are = tt;
      whole = refl;
      behind = (Branch r f.parts b.0, b.1, (refl, final, is, f.are, b.2), branch_line r f.parts b.0 b.1 ∙ ap (λ (z : List LogicalLine). r ∷ part_lines f.parts ++ z) b.3 ∙ ap (λ (z : List LogicalLine). r ∷ z) f.whole, b.4);
    }
front_at r rs [] Closes is later e = absurd (cc)
front_at r rs (o ∷ os) Closes is later e =
    let f = later os e in
    record { parts = Done; rest = r ∷ rs; are = tt; whole = refl; behind = (End r, rs, is, refl, f) }

prefix : (rs : List LogicalLine) (os : List Open) → group_fault os rs ≡ None → LeadingLexeme (Behind os) rs
prefix [] [] e = record { parts = Done; rest = []; are = tt; whole = refl; behind = refl }
prefix [] (o ∷ os) e = absurd (cc)
prefix (r ∷ rs) os e = front_at r rs os (role r) refl (prefix rs) (sym (one_line os r rs (role r) refl) ∙ e)

pub a_tree : (lines : List LogicalLine) → group_fault [] lines ≡ None → (parts : GroupParts) × Tree lines parts
a_tree lines e =
    let f = prefix lines [] e in
    (f.parts, record { whole = sym (append-nil (part_lines f.parts)) ∙ ap (λ (z : List LogicalLine). part_lines f.parts ++ z) (sym f.behind) ∙ f.whole; each = f.are })

pub tree_exactly : (lines : List LogicalLine) → (group_fault [] lines ≡ None) ↔ ((parts : GroupParts) × Tree lines parts)
tree_exactly lines = (a_tree lines, λ t. no_fault lines t.0 t.1)

-- Reading the lines from the last to the first restores their tree: the leading parts, and then the branches
-- and the following parts of each if-section that is open there.

abbrev Reading : Type 0
Reading = GroupParts × List (Branches × GroupParts)

abbrev text_before : LogicalLine → GroupParts → GroupParts
text_before r (TextLines rs ps) = TextLines (r ∷ rs) ps
text_before r ps = TextLines (r ∷ []) ps

abbrev line_before : Role → LogicalLine → Reading → Reading
line_before TextLine r (ps, bs) = (text_before r ps, bs)
line_before ControlLine r (ps, bs) = (Control r ps, bs)
line_before Opens r (ps, []) = (Done, [])
line_before Opens r (ps, (b, qs) ∷ bs) = (Section r ps b qs, bs)
line_before (Elses final) r (ps, []) = (Done, [])
line_before (Elses final) r (ps, (b, qs) ∷ bs) = (Done, (Branch r ps b, qs) ∷ bs)
line_before Closes r (ps, bs) = (Done, (End r, ps) ∷ bs)

abbrev read : List LogicalLine → Reading
read [] = (Done, [])
read (r ∷ rs) = line_before (role r) r (read rs)

read_line : (r : LogicalLine) (rs : List LogicalLine) (s : Role) (behind : Reading) → role r ≡ s → read rs ≡ behind → read (r ∷ rs) ≡ line_before s r behind
read_line r rs s behind is e = ap (λ (z : Role). line_before z r (read rs)) is ∙ ap (line_before s r) e

text_first : (r : LogicalLine) (ps : GroupParts) → (¬ BeginsTextLines ps) → text_before r ps ≡ TextLines (r ∷ []) ps
text_first r Done alone = refl
text_first r (TextLines rs ps) alone = absurd (alone tt)
text_first r (Control q ps) alone = refl
text_first r (Section q ps bs qs) alone = refl

read_run : (r : LogicalLine) (rs rest : List LogicalLine) (ps : GroupParts) (bs : List (Branches × GroupParts))
    → role r ≡ TextLine
    → AllByRecursion (λ r. role r ≡ TextLine) rs
    → (¬ BeginsTextLines ps)
    → read rest ≡ (ps, bs)
    → read (r ∷ rs ++ rest) ≡ (TextLines (r ∷ rs) ps, bs)
read_run r [] rest ps bs is all alone e = read_line r rest TextLine (ps, bs) is e ∙ ap (λ (z : GroupParts). (z, bs)) (text_first r ps alone)
read_run r (q ∷ rs) rest ps bs is all alone e =
    read_line r (q ∷ rs ++ rest) TextLine (TextLines (q ∷ rs) ps, bs) is (read_run q rs rest ps bs all.0 all.1 alone e)

mutual
  read_parts : (ps : GroupParts) (rest : List LogicalLine) (bs : List (Branches × GroupParts)) → AreGroupParts ps → read rest ≡ (Done, bs) → read (part_lines ps ++ rest) ≡ (ps, bs)
  read_parts Done rest bs are e = e
  read_parts (TextLines [] ps) rest bs are e = absurd (are.0 refl)
  read_parts (TextLines (r ∷ rs) ps) rest bs are e =
      ap read (append_assoc (r ∷ rs) (part_lines ps) rest) ∙ read_run r rs (part_lines ps ++ rest) ps bs are.1.0 are.1.1 are.2 (read_parts ps rest bs are.3 e)
  read_parts (Control r ps) rest bs are e = read_line r (part_lines ps ++ rest) ControlLine (ps, bs) are.0 (read_parts ps rest bs are.1 e)
  read_parts (Section r ps b qs) rest bs are e =
      ap read (section_lines r ps qs b rest)
      ∙ read_line r (part_lines ps ++ (branch_lines b ++ (part_lines qs ++ rest))) Opens (ps, (b, qs) ∷ bs) are.0
      (read_parts ps (branch_lines b ++ (part_lines qs ++ rest)) ((b, qs) ∷ bs) are.1
      (read_branches b false (part_lines qs ++ rest) qs bs are.2 (read_parts qs rest bs are.3 e)))

  read_branches : (b : Branches) (has_else : Bool) (rest : List LogicalLine) (qs : GroupParts) (bs : List (Branches × GroupParts)) → AreBranches has_else b → read rest ≡ (qs, bs) → read (branch_lines b ++ rest) ≡ (Done, (b, qs) ∷ bs)
  read_branches (End r) has_else rest qs bs are e = read_line r rest Closes (qs, bs) are e
  read_branches (Branch r ps b) has_else rest qs bs (first, final, is, parts, more) e =
      ap read (branch_line r ps b rest)
      ∙ read_line r (part_lines ps ++ (branch_lines b ++ rest)) (Elses final) (ps, (b, qs) ∷ bs) is
      (read_parts ps (branch_lines b ++ rest) ((b, qs) ∷ bs) parts (read_branches b final rest qs bs more e))

read_tree : (lines : List LogicalLine) (parts : GroupParts) → Tree lines parts → read lines ≡ (parts, [])
read_tree lines parts tree =
    ap read (sym tree.whole ∙ sym (append-nil (part_lines parts))) ∙ read_parts parts [] [] tree.each refl

pub at_most_one : (lines : List LogicalLine) (a b : GroupParts) → Tree lines a → Tree lines b → a ≡ b
at_most_one lines a b x y = ap (λ (z : Reading). z.0) (sym (read_tree lines a x) ∙ read_tree lines b y)
