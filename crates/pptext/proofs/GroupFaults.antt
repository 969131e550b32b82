-- The fault of lines that have no tree, in terms of trees alone.
use Rattle.std.proofs.Common.{◌≡◌, ◌≢◌, ◌↔◌, ℕ, Bool, true, false, List, [], ◌∷◌, ◌++◌, refl, sym, ap, ◌∙◌, subst, inl, inr, ◌⊎◌, append_assoc, None, Some}
use Rattle.std.specs.Prelude.{Option}
use Rattle.std.proofs.lemmas.List.{append-nil}
use Rattle.pptext.specs.declared.tokens.Fault.{Fault}
use Rattle.pptext.specs.declared.sources.Directive.TheVariants.{Endif}
use Rattle.pptext.specs.Lines.{LogicalLine}
use Rattle.pptext.specs.Tree.{Role, TextLine, ControlLine, Opens, Elses, Closes, GroupParts, Done, Control, Section, Branches, End, Branch, part_lines}
use Rattle.pptext.specs.Tree.{branch_lines, AreGroupParts, AreBranches, role, Open, after_line, fault_at, fault_or, group_fault}
use Rattle.pptext.specs.GroupFaults.{HasTree, BeginsTree, Innermost, FirstWrong, IsGroupFault, no_section, after_else, open_section}
use Rattle.pptext.proofs.Trees.{a_tree, no_fault, parts_pass, one_line, with_text, section_lines}

-- ---- a walk over the lines

-- No line has a fault; the if-sections that are open before the lines and after them.
data Walk : List Open → List LogicalLine → List Open → Type 0 where
  stay : {os : List Open} → Walk os [] os
  over : {os next last : List Open} {r : LogicalLine} {rs : List LogicalLine} → after_line (role r) r os ≡ (None, next) → Walk next rs last → Walk os (r ∷ rs) last

walk_fault : {os last : List Open} {prefix : List LogicalLine} (rest : List LogicalLine) → Walk os prefix last → group_fault os (prefix ++ rest) ≡ group_fault last rest
walk_fault rest stay = refl
walk_fault rest (over {os = os} {r = r} {rs = rs} e w) = ap (λ (z : Option ℕ × List Open). fault_or r z.0 (group_fault z.1 (rs ++ rest))) e ∙ walk_fault rest w

walk_more : {os last next : List Open} {prefix : List LogicalLine} (r : LogicalLine) → Walk os prefix last → after_line (role r) r last ≡ (None, next) → Walk os (prefix ++ r ∷ []) next
walk_more r stay e = over e stay
walk_more r (over f w) e = over f (walk_more r w e)

-- the first line with a fault, and the number of the fault
record Stopped (os : List Open) (lines : List LogicalLine) : Type 0 where
  prefix : List LogicalLine
  line : LogicalLine
  rest : List LogicalLine
  last : List Open
  number : ℕ
  whole : lines ≡ prefix ++ line ∷ rest
  walk : Walk os prefix last
  fault : (after_line (role line) line last).0 ≡ Some number

outcome : (os : List Open) (lines : List LogicalLine) → ((last : List Open) × Walk os lines last) ⊎ Stopped os lines
outcome os [] = inl (os, stay)
outcome os (r ∷ rs) = cases (after_line (role r) r os) refl (λ next. outcome next rs)
  where
    further : (next : List Open) → after_line (role r) r os ≡ (None, next) → ((last : List Open) × Walk next rs last) ⊎ Stopped next rs → ((last : List Open) × Walk os (r ∷ rs) last) ⊎ Stopped os (r ∷ rs)
    further next e (inl (last, w)) = inl (last, over e w)
    further next e (inr s) = inr (record {
      prefix = r ∷ s.prefix;
      line = s.line;
      rest = s.rest;
      last = s.last;
      number = s.number;
      whole = ap (λ (z : List LogicalLine). r ∷ z) s.whole;
      walk = over e s.walk;
      fault = s.fault;
    })

    cases : (step : Option ℕ × List Open) → after_line (role r) r os ≡ step → ((next : List Open) → ((last : List Open) × Walk next rs last) ⊎ Stopped next rs) → ((last : List Open) × Walk os (r ∷ rs) last) ⊎ Stopped os (r ∷ rs)
    cases (None, next) e later = further next e (later next)
    cases (Some n, next) e later = inr (record { prefix = []; line = r; rest = rs; last = os; number = n; whole = refl; walk = stay; fault = ap (λ (z : Option ℕ × List Open). z.0) e })

-- ---- walks and trees

end_line : LogicalLine
end_line = record { tokens = []; number = 0; directive = Some Endif }

-- an `#endif` for each open if-section
endings : List Open → List LogicalLine
endings [] = []
endings (o ∷ os) = end_line ∷ endings os

all_closed : (os : List Open) → group_fault os (endings os) ≡ None
unfolding endings end_line
all_closed [] = refl
all_closed (o ∷ os) = all_closed os

walk_begins : {last : List Open} {prefix : List LogicalLine} → Walk [] prefix last → BeginsTree prefix
walk_begins {last} {prefix} w = (endings last, a_tree (prefix ++ endings last) (walk_fault (endings last) w ∙ all_closed last))

-- Lines that end in a line with a fault begin no list that has a tree.
stopped_wrong : (last : List Open) (prefix : List LogicalLine) (r : LogicalLine) (n : ℕ) → Walk [] prefix last → (after_line (role r) r last).0 ≡ Some n → ¬ BeginsTree (prefix ++ r ∷ [])
stopped_wrong last prefix r n w e (rest, (parts, tree)) =
    let none : group_fault [] (prefix ++ (r ∷ rest)) ≡ None = ap (group_fault []) (sym (append_assoc prefix (r ∷ []) rest)) ∙ no_fault _ parts tree in
    let later = group_fault (after_line (role r) r last).1 rest in
    let some : group_fault [] (prefix ++ (r ∷ rest)) ≡ Some (fault_at n r) = walk_fault (r ∷ rest) w ∙ ap (λ (z : Option ℕ). fault_or r z later) e in
    cc

-- No line has a fault if the lines begin a list that has a tree.
begins_walk : (prefix : List LogicalLine) → BeginsTree prefix → (last : List Open) × Walk [] prefix last
begins_walk prefix begins = cases (outcome [] prefix) begins
  where
    cases : ((last : List Open) × Walk [] prefix last) ⊎ Stopped [] prefix → BeginsTree prefix → (last : List Open) × Walk [] prefix last
    cases (inl w) b = w
    cases (inr s) (rest, tree) =
        let split : prefix ++ rest ≡ (s.prefix ++ s.line ∷ []) ++ (s.rest ++ rest) = ap (λ (z : List LogicalLine). z ++ rest) s.whole ∙ simp append_assoc in
        absurd (stopped_wrong s.last s.prefix s.line s.number s.walk s.fault (s.rest ++ rest, subst HasTree split tree))

-- If no line has a fault, the lines have a tree exactly if no if-section is open after them.
tree_closed : (last : List Open) (lines : List LogicalLine) → Walk [] lines last → HasTree lines → last ≡ []
tree_closed [] lines w tree = refl
tree_closed (o ∷ os) lines w (parts, tree) =
    let none : group_fault [] (lines ++ []) ≡ None = ap (group_fault []) (append-nil lines) ∙ no_fault lines parts tree in
    let some = walk_fault [] w in
    cc

closed_tree : {lines : List LogicalLine} → Walk [] lines [] → HasTree lines
closed_tree {lines} w = a_tree lines (ap (group_fault []) (sym (append-nil lines)) ∙ walk_fault [] w)

-- ---- faults 3 and 4

-- The number is 3 if no if-section is open, and 4 if one is.
which_number : (s : Role) (r : LogicalLine) (os : List Open) (n : ℕ) → (after_line s r os).0 ≡ Some n → ((os ≡ []) × (n ≡ 3)) ⊎ ((os ≢ []) × (n ≡ 4))
which_number Opens r os n e = cc
which_number TextLine r os n e = cc
which_number ControlLine r os n e = cc
which_number (Elses final) r [] n e = inl (refl, cc)
which_number (Elses final) r ((o, true) ∷ os) n e = inr ((λ (f : (o, true) ∷ os ≡ []). cc), cc)
which_number (Elses final) r ((o, false) ∷ os) n e = cc
which_number Closes r [] n e = inl (refl, cc)
which_number Closes r (o ∷ os) n e = cc

stopped_fault : (lines : List LogicalLine) (s : Stopped [] lines) → group_fault [] lines ≡ Some (fault_at s.number s.line)
stopped_fault lines s =
    ap (group_fault []) s.whole
    ∙ walk_fault (s.line ∷ s.rest) s.walk
    ∙ ap (λ (z : Option ℕ). fault_or s.line z (group_fault (after_line (role s.line) s.line s.last).1 s.rest)) s.fault

wrong_there : (lines : List LogicalLine) (s : Stopped [] lines) → FirstWrong lines s.prefix s.line
wrong_there lines s = record { rest = s.rest; whole = s.whole; begins = walk_begins s.walk; wrong = stopped_wrong s.last s.prefix s.line s.number s.walk s.fault }

stopped_is : (lines : List LogicalLine) (s : Stopped [] lines) → IsGroupFault lines (fault_at s.number s.line)
stopped_is lines s = cases (which_number (role s.line) s.line s.last s.number s.fault)
  where
    cases : ((s.last ≡ []) × (s.number ≡ 3)) ⊎ ((s.last ≢ []) × (s.number ≡ 4)) → IsGroupFault lines (fault_at s.number s.line)
    cases (inl (none, three)) =
        subst (λ n. IsGroupFault lines (fault_at n s.line)) (sym three) (no_section (wrong_there lines s) (closed_tree (subst (λ (z : List Open). Walk [] s.prefix z) none s.walk)))
    cases (inr (some, four)) =
        subst (λ n. IsGroupFault lines (fault_at n s.line)) (sym four) (after_else (wrong_there lines s) (λ tree. some (tree_closed s.last s.prefix s.walk tree)))

-- ---- fault 5

-- lines inside an open if-section; the flag is true if its `#else` has occurred
data Within : Bool → List LogicalLine → Type 0 where
  none : {b : Bool} → Within b []
  text : {b : Bool} (r : LogicalLine) {rs : List LogicalLine} → role r ≡ TextLine → Within b rs → Within b (r ∷ rs)
  control : {b : Bool} (r : LogicalLine) {rs : List LogicalLine} → role r ≡ ControlLine → Within b rs → Within b (r ∷ rs)
  branch : (final : Bool) (r : LogicalLine) {rs : List LogicalLine} → role r ≡ Elses final → Within final rs → Within false (r ∷ rs)
  section : {b : Bool} (r e : LogicalLine) {inner rs : List LogicalLine} → role r ≡ Opens → Within false inner → role e ≡ Closes → Within b rs → Within b (r ∷ inner ++ (e ∷ rs))

-- With an `#endif`, the lines are a group and branches.
record Ended (b : Bool) (rest : List LogicalLine) (e : LogicalLine) : Type 0 where
  parts : GroupParts
  branches : Branches
  are : AreGroupParts parts
  are_branches : AreBranches b branches
  whole : part_lines parts ++ branch_lines branches ≡ rest ++ e ∷ []

ended : (b : Bool) (rest : List LogicalLine) → Within b rest → (e : LogicalLine) → role e ≡ Closes → Ended b rest e
ended b _ none e closes = record { parts = Done; branches = End e; are = tt; are_branches = closes; whole = refl }
ended b _ (text r {rs = rs} is w) e closes =
    let d = ended b rs w e closes in
    let t = with_text r d.parts is d.are in
    record {
      parts = t.0;
      branches = d.branches;
      are = t.1;
      are_branches = d.are_branches;
      whole = ap (λ (z : List LogicalLine). z ++ branch_lines d.branches) t.2 ∙ ap (λ (z : List LogicalLine). r ∷ z) d.whole;
    }
ended b _ (control r {rs = rs} is w) e closes =
    let d = ended b rs w e closes in
    record { parts = Control r d.parts; branches = d.branches; are = (is, d.are); are_branches = d.are_branches; whole = ap (λ (z : List LogicalLine). r ∷ z) d.whole }
ended _ _ (branch final r {rs = rs} is w) e closes =
    let d = ended final rs w e closes in
    record { parts = Done; branches = Branch r d.parts d.branches; are = tt; are_branches = (refl, final, is, d.are, d.are_branches); whole = ap (λ (z : List LogicalLine). r ∷ z) d.whole }
ended b _ (section r last {inner = inner} {rs = rs} is w ends later) e closes =
    let i = ended false inner w last ends in
    let d = ended b rs later e closes in
    record {
      parts = Section r i.parts i.branches d.parts;
      branches = d.branches;
      are = (is, i.are, i.are_branches, d.are);
      are_branches = d.are_branches;
      whole = section_lines r i.parts d.parts i.branches (branch_lines d.branches)
          ∙ ap (λ (z : List LogicalLine). r ∷ part_lines i.parts ++ (branch_lines i.branches ++ z)) d.whole
          ∙ ap (λ (z : List LogicalLine). r ∷ z) (sym (append_assoc (part_lines i.parts) (branch_lines i.branches) (rs ++ e ∷ [])) ∙ ap (λ (z : List LogicalLine). z ++ (rs ++ e ∷ [])) i.whole)
          ∙ simp append_assoc;
    }

-- After these open if-sections, the lines end inside the if-section that this line opened.
data Lands : List Open → List LogicalLine → LogicalLine → Type 0 where
  here : {o : LogicalLine} {b : Bool} {os : List Open} {rs : List LogicalLine} → Within b rs → Lands ((o, b) ∷ os) rs o
  past : {x o : LogicalLine} {c : Bool} {os : List Open} (e : LogicalLine) {inner rs : List LogicalLine} → Within c inner → role e ≡ Closes → Lands os rs o → Lands ((x, c) ∷ os) (inner ++ (e ∷ rs)) o

-- The line is among the lines and opens an if-section that is still open after them.
record Opening (lines : List LogicalLine) (o : LogicalLine) : Type 0 where
  prefix : List LogicalLine
  rest : List LogicalLine
  whole : lines ≡ prefix ++ o ∷ rest
  opens : role o ≡ Opens
  within : Within false rest

lands_somewhere : (os : List Open) (rs : List LogicalLine) (o : LogicalLine) → Lands os rs o → os ≢ []
lands_somewhere _ _ _ (here w) = λ e. cc
lands_somewhere _ _ _ (past e w is l) = λ e. cc

lands_text : {os : List Open} {rs : List LogicalLine} {o : LogicalLine} (r : LogicalLine) → role r ≡ TextLine → Lands os rs o → Lands os (r ∷ rs) o
lands_text r is (here w) = here (text r is w)
lands_text r is (past e w ends l) = past e (text r is w) ends l

lands_control : {os : List Open} {rs : List LogicalLine} {o : LogicalLine} (r : LogicalLine) → role r ≡ ControlLine → Lands os rs o → Lands os (r ∷ rs) o
lands_control r is (here w) = here (control r is w)
lands_control r is (past e w ends l) = past e (control r is w) ends l

lands_branch : (x : LogicalLine) (final : Bool) (os : List Open) (rs : List LogicalLine) (o r : LogicalLine) → role r ≡ Elses final → Lands ((x, final) ∷ os) rs o → Lands ((x, false) ∷ os) (r ∷ rs) o
lands_branch x final os _ _ r is (here w) = here (branch final r is w)
lands_branch x final os _ _ r is (past e w ends l) = past e (branch final r is w) ends l

lands_section : (os : List Open) (rs inner : List LogicalLine) (o r e : LogicalLine) → role r ≡ Opens → Within false inner → role e ≡ Closes → Lands os rs o → Lands os (r ∷ inner ++ (e ∷ rs)) o
lands_section _ _ inner _ r e is w ends (here later) = here (section r e is w ends later)
lands_section _ _ inner o r e is w ends (past {x = x} {c = c} {os = os} e2 {inner = inner2} {rs = rs2} w2 ends2 l) =
    subst (λ (z : List LogicalLine). Lands ((x, c) ∷ os) (r ∷ z) o) (append_assoc inner (e ∷ inner2) (e2 ∷ rs2)) (past e2 (section r e is w ends w2) ends2 l)

lands_opening : (os : List Open) (rs : List LogicalLine) (o r : LogicalLine) → role r ≡ Opens → Lands ((r, false) ∷ os) rs o → Lands os (r ∷ rs) o ⊎ Opening (r ∷ rs) o
lands_opening os rs _ r is (here w) = inr (record { prefix = []; rest = rs; whole = refl; opens = is; within = w })
lands_opening os _ o r is (past e {inner = inner} {rs = rs} w ends l) = inl (lands_section os rs inner o r e is w ends l)

lands_over : (s : Role) (os next : List Open) (rs : List LogicalLine) (o r : LogicalLine) → role r ≡ s → after_line s r os ≡ (None, next) → Lands next rs o → Lands os (r ∷ rs) o ⊎ Opening (r ∷ rs) o
lands_over TextLine os next rs o r is e l = let same : next ≡ os = sym (ap (λ (z : Option ℕ × List Open). z.1) e) in inl (lands_text r is (subst (λ (z : List Open). Lands z rs o) same l))
lands_over ControlLine os next rs o r is e l = let same : next ≡ os = sym (ap (λ (z : Option ℕ × List Open). z.1) e) in inl (lands_control r is (subst (λ (z : List Open). Lands z rs o) same l))
lands_over Opens os next rs o r is e l = let same : next ≡ (r, false) ∷ os = sym (ap (λ (z : Option ℕ × List Open). z.1) e) in lands_opening os rs o r is (subst (λ (z : List Open). Lands z rs o) same l)
lands_over (Elses final) [] next rs o r is e l = let f = ap (λ (z : Option ℕ × List Open). z.0) e in cc
lands_over (Elses final) ((x, true) ∷ os) next rs o r is e l = let f = ap (λ (z : Option ℕ × List Open). z.0) e in cc
lands_over (Elses final) ((x, false) ∷ os) next rs o r is e l =
    let same : next ≡ (x, final) ∷ os = sym (ap (λ (z : Option ℕ × List Open). z.1) e) in inl (lands_branch x final os rs o r is (subst (λ (z : List Open). Lands z rs o) same l))
lands_over Closes [] next rs o r is e l = let f = ap (λ (z : Option ℕ × List Open). z.0) e in cc
lands_over Closes ((x, c) ∷ os) next rs o r is e l = let same : next ≡ os = sym (ap (λ (z : Option ℕ × List Open). z.1) e) in inl (past r none is (subst (λ (z : List Open). Lands z rs o) same l))

-- The innermost open if-section after the lines was open before them, or a line among them opened it.
landed : (os last : List Open) (o : Open) (lines : List LogicalLine) → Walk os lines (o ∷ last) → Lands os lines o.0 ⊎ Opening lines o.0
landed _ last o _ stay = inl (here none)
landed os last o _ (over {next = next} {r = r} {rs = rs} e w) = cases (landed next last o rs w)
  where
    cases : Lands next rs o.0 ⊎ Opening rs o.0 → Lands os (r ∷ rs) o.0 ⊎ Opening (r ∷ rs) o.0
    cases (inl l) = lands_over (role r) os next rs o.0 r refl e l
    cases (inr i) = inr (record { prefix = r ∷ i.prefix; rest = i.rest; whole = ap (λ (z : List LogicalLine). r ∷ z) i.whole; opens = i.opens; within = i.within })

opening_innermost : (lines : List LogicalLine) (o : LogicalLine) → Opening lines o → Innermost lines o
unfolding end_line
opening_innermost lines o i =
    let d = ended false i.rest i.within end_line refl in
    record {
      prefix = i.prefix;
      rest = i.rest;
      whole = i.whole;
      end = end_line;
      closes = refl;
      parts = d.parts;
      branches = d.branches;
      section = record { whole = ap (λ (z : List LogicalLine). o ∷ z) (append-nil (part_lines d.parts ++ branch_lines d.branches) ∙ d.whole); each = (i.opens, d.are, d.are_branches, tt) };
    }

walk_innermost : (lines : List LogicalLine) (o : Open) (last : List Open) → Walk [] lines (o ∷ last) → Innermost lines o.0
walk_innermost lines o last w = cases (landed [] last o lines w)
  where
    cases : Lands [] lines o.0 ⊎ Opening lines o.0 → Innermost lines o.0
    cases (inl l) = absurd (lands_somewhere [] lines o.0 l refl)
    cases (inr i) = opening_innermost lines o.0 i

walk_open : (lines : List LogicalLine) (last : List Open) → Walk [] lines last → (fault : Fault) → group_fault [] lines ≡ Some fault → IsGroupFault lines fault
walk_open lines [] w fault e =
    let none : group_fault [] (lines ++ []) ≡ None = walk_fault [] w in
    let same = ap (group_fault []) (append-nil lines) in
    cc
walk_open lines (o ∷ last) w fault e =
    let five : group_fault [] lines ≡ Some (fault_at 5 o.0) = ap (group_fault []) (sym (append-nil lines)) ∙ walk_fault [] w in
    let same : fault_at 5 o.0 ≡ fault = cc in
    subst (IsGroupFault lines) same
    (open_section (walk_begins w) (λ tree. let none = tree_closed (o ∷ last) lines w tree in cc) (walk_innermost lines o last w))

fault_is : (lines : List LogicalLine) (fault : Fault) → group_fault [] lines ≡ Some fault → IsGroupFault lines fault
fault_is lines fault e = cases (outcome [] lines)
  where
    cases : ((last : List Open) × Walk [] lines last) ⊎ Stopped [] lines → IsGroupFault lines fault
    cases (inl (last, w)) = walk_open lines last w fault e
    cases (inr s) =
        let there = stopped_fault lines s in
        let same : fault_at s.number s.line ≡ fault = cc in
        subst (IsGroupFault lines) same (stopped_is lines s)

-- ---- lines in each case of `IsGroupFault` have that fault

-- the branches without their `#endif`
record Unended (bs : Branches) (last : Bool) : Type 0 where
  lines : List LogicalLine
  end : LogicalLine
  whole : branch_lines bs ≡ lines ++ end ∷ []
  final : Bool
  passes : (o : LogicalLine) (os : List Open) (rest : List LogicalLine) → group_fault ((o, last) ∷ os) (lines ++ rest) ≡ group_fault ((o, final) ∷ os) rest

unended : (bs : Branches) (last : Bool) → AreBranches last bs → Unended bs last
unended (End r) last is = record { lines = []; end = r; whole = refl; final = last; passes = λ o os rest. refl }
unended (Branch r ps bs) last (first, final, is, parts, more) =
    let u = unended bs final more in
    record {
      lines = r ∷ part_lines ps ++ u.lines;
      end = u.end;
      whole = ap (λ (z : List LogicalLine). r ∷ part_lines ps ++ z) u.whole ∙ ap (λ (z : List LogicalLine). r ∷ z) (sym (append_assoc (part_lines ps) u.lines (u.end ∷ [])));
      final = u.final;
      passes = λ o os rest.
          ap (λ (z : List LogicalLine). group_fault ((o, last) ∷ os) (r ∷ z)) (append_assoc (part_lines ps) u.lines rest)
          ∙ ap (λ (z : Bool). group_fault ((o, z) ∷ os) (r ∷ part_lines ps ++ (u.lines ++ rest))) first
          ∙ one_line ((o, false) ∷ os) r (part_lines ps ++ (u.lines ++ rest)) (Elses final) is
          ∙ parts_pass ps ((o, final) ∷ os) (u.lines ++ rest) parts
          ∙ u.passes o os rest;
    }

same_front : (a b : List LogicalLine) (x y : LogicalLine) → a ++ x ∷ [] ≡ b ++ y ∷ [] → a ≡ b
same_front [] [] x y e = refl
same_front [] (c ∷ []) x y e = cc
same_front [] (c ∷ d ∷ b) x y e = cc
same_front (c ∷ []) [] x y e = cc
same_front (c ∷ d ∷ a) [] x y e = cc
same_front (c ∷ a) (d ∷ b) x y e =
    let head : c ≡ d = cc in
    let tail : a ++ x ∷ [] ≡ b ++ y ∷ [] = cc in
    ap (λ (z : LogicalLine). z ∷ a) head ∙ ap (λ (z : List LogicalLine). d ∷ z) (same_front a b x y tail)

innermost_fault : (lines : List LogicalLine) (o : LogicalLine) → BeginsTree lines → Innermost lines o → group_fault [] lines ≡ Some (fault_at 5 o)
innermost_fault lines o (more, tree) i = of_walk (begins_walk i.prefix (o ∷ i.rest ++ more, subst HasTree split tree))
  where
    split : lines ++ more ≡ i.prefix ++ (o ∷ i.rest ++ more)
    split = ap (λ (z : List LogicalLine). z ++ more) i.whole ∙ append_assoc i.prefix (o ∷ i.rest) more

    of_walk : (last : List Open) × Walk [] i.prefix last → group_fault [] lines ≡ Some (fault_at 5 o)
    of_walk (last, w) =
        let u = unended i.branches false i.section.each.2 in
        let whole : part_lines i.parts ++ branch_lines i.branches ++ [] ≡ i.rest ++ i.end ∷ [] = let all = i.section.whole in cc in
        let joined : (part_lines i.parts ++ u.lines) ++ u.end ∷ [] ≡ i.rest ++ i.end ∷ [] =
        append_assoc (part_lines i.parts) u.lines (u.end ∷ []) ∙ ap (λ (z : List LogicalLine). part_lines i.parts ++ z) (sym u.whole) ∙ sym (append-nil (part_lines i.parts ++ branch_lines i.branches)) ∙ whole in
        let rest : part_lines i.parts ++ (u.lines ++ []) ≡ i.rest =
        ap (λ (z : List LogicalLine). part_lines i.parts ++ z) (append-nil u.lines) ∙ same_front (part_lines i.parts ++ u.lines) i.rest u.end i.end joined in
        ap (group_fault []) i.whole
        ∙ walk_fault (o ∷ i.rest) w
        ∙ one_line last o i.rest Opens i.section.each.0
        ∙ ap (group_fault ((o, false) ∷ last)) (sym rest)
        ∙ parts_pass i.parts ((o, false) ∷ last) (u.lines ++ []) i.section.each.1
        ∙ u.passes o last []

wrong_fault : (lines prefix : List LogicalLine) (line : LogicalLine) (n : ℕ)
    → (b : FirstWrong lines prefix line)
    → ((last : List Open) → Walk [] prefix last → (m : ℕ) → ((last ≡ []) × (m ≡ 3)) ⊎ ((last ≢ []) × (m ≡ 4)) → m ≡ n)
    → group_fault [] lines ≡ Some (fault_at n line)
wrong_fault lines prefix line n b number = of_walk (begins_walk prefix b.begins)
  where
    of_walk : (last : List Open) × Walk [] prefix last → group_fault [] lines ≡ Some (fault_at n line)
    of_walk (last, w) = cases (after_line (role line) line last) refl
      where
        cases : (step : Option ℕ × List Open) → after_line (role line) line last ≡ step → group_fault [] lines ≡ Some (fault_at n line)
        cases (None, next) e = absurd (b.wrong (walk_begins (walk_more line w e)))
        cases (Some m, next) e =
            let fault : (after_line (role line) line last).0 ≡ Some m = ap (λ (z : Option ℕ × List Open). z.0) e in
            let s : Stopped [] lines = record { prefix = prefix; line = line; rest = b.rest; last = last; number = m; whole = b.whole; walk = w; fault = fault } in
            stopped_fault lines s ∙ ap (λ z. Some (fault_at z line)) (number last w m (which_number (role line) line last m fault))

has_fault : (lines : List LogicalLine) (fault : Fault) → IsGroupFault lines fault → group_fault [] lines ≡ Some fault
has_fault lines _ (no_section {prefix = prefix} {line = line} b tree) = wrong_fault lines prefix line 3 b number
  where
    number : (last : List Open) → Walk [] prefix last → (m : ℕ) → ((last ≡ []) × (m ≡ 3)) ⊎ ((last ≢ []) × (m ≡ 4)) → m ≡ 3
    number last w m (inl h) = h.1
    number last w m (inr h) = absurd (h.0 (tree_closed last prefix w tree))
has_fault lines _ (after_else {prefix = prefix} {line = line} b no_tree) = wrong_fault lines prefix line 4 b number
  where
    number : (last : List Open) → Walk [] prefix last → (m : ℕ) → ((last ≡ []) × (m ≡ 3)) ⊎ ((last ≢ []) × (m ≡ 4)) → m ≡ 4
    number last w m (inl h) = absurd (no_tree (closed_tree (subst (λ (z : List Open). Walk [] prefix z) h.0 w)))
    number last w m (inr h) = h.1
has_fault lines _ (open_section {opening = opening} begins no_tree i) = innermost_fault lines opening begins i

pub which_group_fault : (lines : List LogicalLine) (fault : Fault) → (group_fault [] lines ≡ Some fault) ↔ IsGroupFault lines fault
which_group_fault lines fault = (fault_is lines fault, has_fault lines fault)
