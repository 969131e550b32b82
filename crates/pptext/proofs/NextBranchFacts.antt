-- The next branch line of each line: by the tree, for a walk over lines, and computed from the last line to the first.
use Rattle.std.proofs.Common.{◌≡◌, ℕ, ◌+◌, ◌<◌, Bool, List, ◌∷◌, ◌++◌, map, length, ap, ◌∙◌, arith, None, Some, false, [], refl, sym, append_assoc, zero, suc, ◌≤◌, take, drop, get_or, set, subst}
use Rattle.std.proofs.lemmas.List.{length-map, append-nil, length-append, at_drop_more, take_more, set_at, get_or_at, length-take-le, take_all, drop_all}
use Rattle.std.specs.Prelude.{Option}
use Rattle.std.specs.List.{AllByRecursion}
use Rattle.pptext.specs.Lines.{LogicalLine, AreDirected}
use Rattle.pptext.specs.Tree.{Role, TextLine, ControlLine, Opens, Elses, Closes, GroupParts, Branches, End, Branch, part_lines, branch_lines, AreGroupParts, AreBranches, role, branch_after, Done, TextLines, Control, Section, Tree}
use Rattle.pptext.specs.Sources.{next_branch, spans, line_tokens, lines_from}
use Rattle.pptext.proofs.Guards.{behind_parts, branch_within}
use Rattle.pptext.specs.declared.sources.Line.{Line}
use Rattle.pptext.specs.Laws.{part_branches, later_branches}
use Rattle.pptext.proofs.Trees.{section_lines, branch_line}
use Rattle.pptext.specs.declared.tokens.Token.{Token}
use Rattle.pptext.specs.code.Grouping.{line_spans, AreLineSpans, AreLines, line_role, branch_of, linked, first, step_back}
use Rattle.pptext.proofs.Spans.{line_from}

-- ---- facts about next branch lines, for a walk over the lines of a file

next_role_within : (s : Role) (k : ℕ) (lines : List LogicalLine) (n : ℕ) → next_branch k s lines ≡ Some n → (k < n) × (n < k + 1 + length lines)
next_role_within Opens k lines n e = let h = branch_within 0 (k + 1) (map role lines) n e in (omega (arith, h.0), omega (arith, h.1, length-map lines role))
next_role_within (Elses final) k lines n e = let h = branch_within 0 (k + 1) (map role lines) n e in (omega (arith, h.0), omega (arith, h.1, length-map lines role))
next_role_within Closes k lines n e = absurd (cc)
next_role_within TextLine k lines n e = absurd (cc)
next_role_within ControlLine k lines n e = absurd (cc)

-- The next branch line is a later line of the file.
pub next_within : (r : LogicalLine) (k : ℕ) (lines : List LogicalLine) (n : ℕ) → next_branch k (role r) lines ≡ Some n → (k < n) × (n < k + 1 + length lines)
next_within r k lines n e = next_role_within (role r) k lines n e

-- The next branch line of an opening line, of a branch and of `#endif`.

pub next_of_opening : (r : LogicalLine) → role r ≡ Opens → (k : ℕ) (lines : List LogicalLine) → next_branch k (role r) lines ≡ branch_after 0 (k + 1) (map role lines)
next_of_opening r is k lines = ap (λ (z : Role). next_branch k z lines) is

pub next_of_branch : (r : LogicalLine) (final : Bool) → role r ≡ Elses final → (k : ℕ) (lines : List LogicalLine) → next_branch k (role r) lines ≡ branch_after 0 (k + 1) (map role lines)
next_of_branch r final is k lines = ap (λ (z : Role). next_branch k z lines) is

pub next_of_end : (r : LogicalLine) → role r ≡ Closes → (k : ℕ) (lines : List LogicalLine) → next_branch k (role r) lines ≡ None
next_of_end r is k lines = ap (λ (z : Role). next_branch k z lines) is

first_branch : (bs : Branches) (last : Bool) (k : ℕ) (rest : List LogicalLine) → AreBranches last bs → branch_after 0 k (map role (branch_lines bs ++ rest)) ≡ Some k
first_branch (End r) last k rest is = ap (λ (z : Role). branch_after 0 k (z ∷ map role rest)) is
first_branch (Branch r ps bs) last k rest (before, final, is, parts, more) = ap (λ (z : Role). branch_after 0 k (z ∷ map role (part_lines ps ++ branch_lines bs ++ rest))) is

-- The next branch line is the first line after the group's parts.
pub next_behind : (ps : GroupParts) (bs : Branches) (last : Bool) (k : ℕ) (rest : List LogicalLine)
    → AreGroupParts ps
    → AreBranches last bs
    → branch_after 0 k (map role (part_lines ps ++ (branch_lines bs ++ rest))) ≡ Some (k + length (part_lines ps))
next_behind ps bs last k rest parts are = behind_parts ps 0 k (branch_lines bs ++ rest) parts ∙ first_branch bs last (k + length (part_lines ps)) rest are

-- ---- the next branch line of each line is the one that the tree determines

-- the next branch lines of the lines, the first of which has index k
abbrev links : ℕ → List LogicalLine → List (Option ℕ)
links k [] = []
links k (r ∷ rs) = next_branch k (role r) rs ∷ links (k + 1) rs

span_links : (k start : ℕ) (rs : List LogicalLine) → map (λ (l : Line). l.next_branch) (spans k start rs) ≡ links k rs
span_links k start [] = refl
span_links k start (r ∷ rs) = ap (λ (z : List (Option ℕ)). next_branch k (role r) rs ∷ z) (span_links (k + 1) (start + length r.tokens) rs)

text_links : (rs : List LogicalLine) (k : ℕ) (rest : List LogicalLine) → AllByRecursion (λ r. role r ≡ TextLine) rs → links k (rs ++ rest) ≡ map (λ r. None) rs ++ links (k + length rs) rest
text_links [] k rest all = ap (λ z. links z rest) (omega arith)
text_links (r ∷ rs) k rest all =
    ap (λ (z : Role). next_branch k z (rs ++ rest) ∷ links (k + 1) (rs ++ rest)) all.0
    ∙ ap (λ (z : List (Option ℕ)). None ∷ z) (text_links rs (k + 1) rest all.1 ∙ ap (λ z. map (λ r. None) rs ++ links z rest) (omega arith))

mutual
  parts_links : (ps : GroupParts) (k : ℕ) (rest : List LogicalLine) → AreGroupParts ps → links k (part_lines ps ++ rest) ≡ part_branches k ps ++ links (k + length (part_lines ps)) rest
  parts_links Done k rest are = ap (λ z. links z rest) (omega arith)
  parts_links (TextLines rs ps) k rest are =
      ap (links k) (append_assoc rs (part_lines ps) rest)
      ∙ text_links rs k (part_lines ps ++ rest) are.1
      ∙ ap (λ (z : List (Option ℕ)). map (λ r. None) rs ++ z) (parts_links ps (k + length rs) rest are.3 ∙ ap (λ z. part_branches (k + length rs) ps ++ links z rest) (omega (arith, length-append rs (part_lines ps))))
      ∙ sym (append_assoc (map (λ r. None) rs) (part_branches (k + length rs) ps) (links (k + length (rs ++ part_lines ps)) rest))
  parts_links (Control r ps) k rest are =
      ap (λ (z : Role). next_branch k z (part_lines ps ++ rest) ∷ links (k + 1) (part_lines ps ++ rest)) are.0
      ∙ ap (λ (z : List (Option ℕ)). None ∷ z) (parts_links ps (k + 1) rest are.1 ∙ ap (λ z. part_branches (k + 1) ps ++ links z rest) (omega arith))
  parts_links (Section r ps bs qs) k rest are =
      let next = k + 1 + length (part_lines ps) in
      let last = next + length (branch_lines bs) in
      let behind = branch_lines bs ++ (part_lines qs ++ rest) in
      let end : last + length (part_lines qs) ≡ k + length (part_lines (Section r ps bs qs)) =
      omega (arith, length-append (part_lines ps ++ branch_lines bs) (part_lines qs), length-append (part_lines ps) (branch_lines bs)) in
      ap (links k) (section_lines r ps qs bs rest)
      ∙ ap (λ (z : Option ℕ). z ∷ links (k + 1) (part_lines ps ++ behind)) (next_of_opening r are.0 k (part_lines ps ++ behind) ∙ next_behind ps bs false (k + 1) (part_lines qs ++ rest) are.1 are.2)
      ∙ ap (λ (z : List (Option ℕ)). Some next ∷ z)
      (parts_links ps (k + 1) behind are.1
      ∙ ap (λ (z : List (Option ℕ)). part_branches (k + 1) ps ++ z)
      (branches_links bs false next (part_lines qs ++ rest) are.2
      ∙ ap (λ (z : List (Option ℕ)). later_branches next bs ++ z) (parts_links qs last rest are.3 ∙ ap (λ z. part_branches last qs ++ links z rest) end)))
      ∙ simp append_assoc

  branches_links : (bs : Branches) (before : Bool) (k : ℕ) (rest : List LogicalLine) → AreBranches before bs → links k (branch_lines bs ++ rest) ≡ later_branches k bs ++ links (k + length (branch_lines bs)) rest
  branches_links (End r) before k rest is = ap (λ (z : Option ℕ). z ∷ links (k + 1) rest) (next_of_end r is k rest)
  branches_links (Branch r ps bs) before k rest (first, final, is, parts, more) =
      let next = k + 1 + length (part_lines ps) in
      let behind = branch_lines bs ++ rest in
      let end : next + length (branch_lines bs) ≡ k + length (branch_lines (Branch r ps bs)) = omega (arith, length-append (part_lines ps) (branch_lines bs)) in
      ap (links k) (branch_line r ps bs rest)
      ∙ ap (λ (z : Option ℕ). z ∷ links (k + 1) (part_lines ps ++ behind)) (next_of_branch r final is k (part_lines ps ++ behind) ∙ next_behind ps bs final (k + 1) rest parts more)
      ∙ ap (λ (z : List (Option ℕ)). Some next ∷ z)
      (parts_links ps (k + 1) behind parts
      ∙ ap (λ (z : List (Option ℕ)). part_branches (k + 1) ps ++ z) (branches_links bs final next rest more ∙ ap (λ z. later_branches next bs ++ links z rest) end))
      ∙ simp append_assoc

pub next_branches : (lines : List LogicalLine) (parts : GroupParts) → Tree lines parts → map (λ (l : Line). l.next_branch) (spans 0 0 lines) ≡ part_branches 0 parts
next_branches lines parts tree =
    span_links 0 0 lines
    ∙ ap (links 0) (sym tree.whole ∙ sym (append-nil (part_lines parts)))
    ∙ parts_links parts 0 [] tree.each
    ∙ append-nil (part_branches 0 parts)

-- ---- the next branch line of each line, computed from the last line to the first

-- the next branch line of each if-section that is open before these lines, the innermost first
abbrev pub branches : ℕ → List Role → List ℕ
branches k [] = []
branches k (s ∷ ss) = (step_back k s (branches (k + 1) ss)).1

drop_one_more : (j : ℕ) (ks : List ℕ) → drop j (drop 1 ks) ≡ drop (suc j) ks
drop_one_more j [] = drop_all j [] (omega arith)
drop_one_more j (k ∷ ks) = refl

branch_is : (j k : ℕ) (ss : List Role) → branch_after j k ss ≡ first (drop j (branches k ss))
branch_is j k [] = ap first (sym (drop_all j [] (omega arith)))
branch_is j k (Opens ∷ ss) = branch_is (suc j) (k + 1) ss ∙ ap first (sym (drop_one_more j (branches (k + 1) ss)))
branch_is zero k (Closes ∷ ss) = refl
branch_is (suc j) k (Closes ∷ ss) = branch_is j (k + 1) ss
branch_is zero k (Elses final ∷ ss) = refl
branch_is (suc j) k (Elses final ∷ ss) = branch_is (suc j) (k + 1) ss ∙ ap first (sym (drop_one_more j (branches (k + 1) ss)))
branch_is j k (TextLine ∷ ss) = branch_is j (k + 1) ss
branch_is j k (ControlLine ∷ ss) = branch_is j (k + 1) ss

pub step_is : (k : ℕ) (s : Role) (ss : List Role) → (step_back k s (branches (k + 1) ss)).0 ≡ branch_of k s ss
step_is k Opens ss = sym (branch_is 0 (k + 1) ss)
step_is k (Elses final) ss = sym (branch_is 0 (k + 1) ss)
step_is k Closes ss = refl
step_is k TextLine ss = refl
step_is k ControlLine ss = refl

-- From index `at` on, the next branch lines are filled in; `behind` holds those of the open if-sections.
pub record LinkedFrom (ls : List Line) (at : ℕ) (now : List Line) (behind : List ℕ) : Type 0 where
  pub lines : now ≡ take at ls ++ linked at (drop at ls)
  pub stack : behind ≡ branches at (map line_role (drop at ls))

pub linked_start : (ls : List Line) (at : ℕ) → length ls ≤ at → LinkedFrom ls at ls []
linked_start ls at l =
    let none : drop at ls ≡ [] = drop_all at ls l in
    record {
      lines = sym (append-nil ls) ∙ ap (λ (z : List Line). z ++ []) (sym (take_all at ls l)) ∙ ap (λ (z : List Line). take at ls ++ linked at z) (sym none);
      stack = ap (λ (z : List Line). branches at (map line_role z)) (sym none);
    }

-- One step back: the line at `at` is not linked yet, and linking it preserves `LinkedFrom`.
pub line_there : (ls now : List Line) (behind : List ℕ) (at : ℕ) (d : Line) → at < length ls → LinkedFrom ls (at + 1) now behind → now ≡ take at ls ++ get_or ls at d ∷ linked (at + 1) (drop (at + 1) ls)
line_there ls now behind at d l sofar =
    sofar.lines ∙ ap (λ (z : List Line). z ++ linked (at + 1) (drop (at + 1) ls)) (take_more ls at d l) ∙ append_assoc (take at ls) (get_or ls at d ∷ []) (linked (at + 1) (drop (at + 1) ls))

pub same_line : (ls now : List Line) (behind : List ℕ) (at : ℕ) (d : Line) → at < length ls → LinkedFrom ls (at + 1) now behind → get_or now at d ≡ get_or ls at d
same_line ls now behind at d l sofar =
    ap (λ (z : List Line). get_or z at d) (line_there ls now behind at d l sofar) ∙ get_or_at (take at ls) (get_or ls at d) (linked (at + 1) (drop (at + 1) ls)) d at (length-take-le at ls (omega arith))

pub linked_step : (ls now : List Line) (behind after : List ℕ) (at : ℕ) (d : Line) (next : Option ℕ)
    → at < length ls
    → LinkedFrom ls (at + 1) now behind
    → (next, after) ≡ step_back at (line_role (get_or now at d)) behind
    → LinkedFrom ls at (set now at (record (get_or now at d) { next_branch = next })) after
linked_step ls now behind after at d next l sofar e =
    let x = get_or ls at d in
    let rest = drop (at + 1) ls in
    let roles = map line_role rest in
    let same = same_line ls now behind at d l sofar in
    let more : drop at ls ≡ x ∷ rest = at_drop_more (λ (z : List Line). z) ls at d l in
    let step : (next, after) ≡ step_back at (line_role x) (branches (at + 1) roles) = e ∙ ap (λ (z : Line). step_back at (line_role z) behind) same ∙ ap (λ (z : List ℕ). step_back at (line_role x) z) sofar.stack in
    let branch : next ≡ branch_of at (line_role x) roles = ap (λ (z : Option ℕ × List ℕ). z.0) step ∙ step_is at (line_role x) roles in
    record {
      lines = ap (λ (z : Line). set now at (record z { next_branch = next })) same
          ∙ ap (λ (z : List Line). set z at (record x { next_branch = next })) (line_there ls now behind at d l sofar)
          ∙ set_at (take at ls) x (linked (at + 1) rest) (record x { next_branch = next }) at (length-take-le at ls (omega arith))
          ∙ ap (λ (z : Option ℕ). take at ls ++ record x { next_branch = z } ∷ linked (at + 1) rest) branch
          ∙ ap (λ (z : List Line). take at ls ++ linked at z) (sym more);
      stack = ap (λ (z : Option ℕ × List ℕ). z.1) step ∙ ap (λ (z : List Line). branches at (map line_role z)) (sym more);
    }

pub linked_all : (ls now : List Line) (behind : List ℕ) (at : ℕ) → at ≤ 0 → LinkedFrom ls at now behind → now ≡ linked 0 ls
linked_all ls now behind at l sofar =
    let none : at ≡ 0 = omega arith in
    sofar.lines ∙ ap (λ (z : ℕ). take z ls ++ linked z (drop z ls)) none

-- `spans` is `line_spans` with the next branch lines filled in.

branch_next : (k : ℕ) (s : Role) (rs : List LogicalLine) → branch_of k s (map role rs) ≡ next_branch k s rs
branch_next k Opens rs = refl
branch_next k (Elses final) rs = refl
branch_next k Closes rs = refl
branch_next k TextLine rs = refl
branch_next k ControlLine rs = refl

draft_roles : (start : ℕ) (rs : List LogicalLine) → map line_role (line_spans start rs) ≡ map role rs
draft_roles start [] = refl
draft_roles start (r ∷ rs) = ap (λ (z : List Role). role r ∷ z) (draft_roles (start + length r.tokens) rs)

pub linked_drafts : (k start : ℕ) (rs : List LogicalLine) → linked k (line_spans start rs) ≡ spans k start rs
linked_drafts k start [] = refl
linked_drafts k start (r ∷ rs) =
    let stop = start + length r.tokens in
    let next : branch_of k (role r) (map line_role (line_spans stop rs)) ≡ next_branch k (role r) rs = ap (branch_of k (role r)) (draft_roles stop rs) ∙ branch_next k (role r) rs in
    ap (λ (z : Option ℕ). record { start = start; end = stop; number = r.number; directive = r.directive; next_branch = z } ∷ linked (k + 1) (line_spans stop rs))
    next
    ∙ ap (λ (z : List Line). record { start = start; end = stop; number = r.number; directive = r.directive; next_branch = next_branch k (role r) rs } ∷ z)
    (linked_drafts (k + 1) stop rs)

-- Filling in next branch lines changes no logical line.
lines_of_linked : (ts : List Token) (k : ℕ) (ls : List Line) → lines_from ts (linked k ls) ≡ lines_from ts ls
lines_of_linked ts k [] = refl
lines_of_linked ts k (l ∷ ls) = ap (λ (z : List LogicalLine). line_from ts l ∷ z) (lines_of_linked ts (k + 1) ls)

pub linked_are : (ts : List Token) (ls now : List Line) → AreLineSpans ts ls → now ≡ linked 0 ls → (lines_from ts now ≡ lines_from ts ls) × AreLines ts now
linked_are ts ls now are is =
    let same : lines_from ts now ≡ lines_from ts ls = ap (lines_from ts) is ∙ lines_of_linked ts 0 ls in
    let spans_are : spans 0 0 (lines_from ts ls) ≡ now = sym (linked_drafts 0 0 (lines_from ts ls)) ∙ ap (linked 0) are.1 ∙ sym is in
    (same, (ap line_tokens same ∙ are.0, ap (spans 0 0) same ∙ spans_are, subst AreDirected (sym same) are.2))

pub linked_length : (k : ℕ) (ls : List Line) → length (linked k ls) ≡ length ls
linked_length k [] = refl
linked_length k (l ∷ ls) = ap suc (linked_length (k + 1) ls)
