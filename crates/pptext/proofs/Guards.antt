-- The guard of a file without the tree, and in terms of the spans of its lines.
use Rattle.std.proofs.Common.{◌≡◌, ℕ, suc, ◌+◌, Bool, false, List, [], ◌∷◌, ◌++◌, map, length, refl, sym, ap, ◌∙◌, subst, append_assoc, None, Some, inl, inr, arith, ◌↔◌, zero, ◌-◌, ◌<◌, ◌≤◌, take}
use Rattle.std.proofs.Common.{drop, get_or, Option, IfNone, IfSome, MatchOption}
use Rattle.std.specs.List.{AllByRecursion}
use Rattle.std.proofs.lemmas.List.{drop_at, length-append, drop_all, drop_more, drop-drop, length-map, length-drop, length-take-le, nil_from_length, get_or-take, get_or-drop}
use Rattle.pptext.specs.declared.tokens.Token.{Token}
use Rattle.pptext.specs.declared.sources.Profile.{Profile}
use Rattle.pptext.specs.Lines.{LogicalLine, directive_of, IsDirected, AreDirected}
use Rattle.pptext.specs.Tree.{Role, TextLine, ControlLine, Opens, Elses, Closes, GroupParts, Done, TextLines, Control, Section, Branches, End, Branch, part_lines, branch_lines, AreGroupParts}
use Rattle.pptext.specs.Tree.{AreBranches, role, role_by, branch_after, group_fault}
use Rattle.pptext.specs.Guard.{IsBlankLine, AreBlank, guard_name, GuardedParts, GuardedBy}
use Rattle.pptext.specs.code.Grouping.{ClosedAtOnce, FlatGuard, AreLines, line_role}
use Rattle.pptext.proofs.Trees.{section_lines, branch_line, a_tree, at_most_one}
use Rattle.pptext.specs.declared.sources.Line.{Line}
use Rattle.pptext.specs.Sources.{next_branch, line_tokens, lines_from}
use Rattle.pptext.proofs.Spans.{line_at, line_from, same_lines}
use Rattle.pptext.proofs.Faults.{blank_line}

-- ---- the guard of a file with a tree, expressed without the tree

-- The search for the next branch line skips group-parts.

one_role : (depth k : ℕ) (r : LogicalLine) (rs : List LogicalLine) (s : Role) → role r ≡ s → branch_after depth k (map role (r ∷ rs)) ≡ branch_after depth k (s ∷ map role rs)
one_role depth k r rs s e = ap (λ (z : Role). branch_after depth k (z ∷ map role rs)) e

text_roles : (rs : List LogicalLine) (depth k : ℕ) (rest : List LogicalLine) → AllByRecursion (λ r. role r ≡ TextLine) rs → branch_after depth k (map role (rs ++ rest)) ≡ branch_after depth (k + length rs) (map role rest)
text_roles [] depth k rest all = ap (λ (z : ℕ). branch_after depth z (map role rest)) (omega arith)
text_roles (r ∷ rs) depth k rest all =
    one_role depth k r (rs ++ rest) TextLine all.0 ∙ text_roles rs depth (k + 1) rest all.1 ∙ ap (λ (z : ℕ). branch_after depth z (map role rest)) (omega arith)

mutual
  pub behind_parts : (ps : GroupParts) (depth k : ℕ) (rest : List LogicalLine) → AreGroupParts ps → branch_after depth k (map role (part_lines ps ++ rest)) ≡ branch_after depth (k + length (part_lines ps)) (map role rest)
  behind_parts Done depth k rest are = ap (λ (z : ℕ). branch_after depth z (map role rest)) (omega arith)
  behind_parts (TextLines rs ps) depth k rest are =
      ap (λ (z : List LogicalLine). branch_after depth k (map role z)) (append_assoc rs (part_lines ps) rest)
      ∙ text_roles rs depth k (part_lines ps ++ rest) are.1
      ∙ behind_parts ps depth (k + length rs) rest are.3
      ∙ ap (λ (z : ℕ). branch_after depth z (map role rest)) (omega (arith, length-append rs (part_lines ps)))
  behind_parts (Control r ps) depth k rest are =
      one_role depth k r (part_lines ps ++ rest) ControlLine are.0 ∙ behind_parts ps depth (k + 1) rest are.1 ∙ ap (λ (z : ℕ). branch_after depth z (map role rest)) (omega arith)
  behind_parts (Section r ps bs qs) depth k rest are =
      ap (λ (z : List LogicalLine). branch_after depth k (map role z)) (section_lines r ps qs bs rest)
      ∙ one_role depth k r (part_lines ps ++ (branch_lines bs ++ (part_lines qs ++ rest))) Opens are.0
      ∙ behind_parts ps (suc depth) (k + 1) (branch_lines bs ++ (part_lines qs ++ rest)) are.1
      ∙ behind_branches bs false depth (k + 1 + length (part_lines ps)) (part_lines qs ++ rest) are.2
      ∙ behind_parts qs depth (k + 1 + length (part_lines ps) + length (branch_lines bs)) rest are.3
      ∙ ap (λ (z : ℕ). branch_after depth z (map role rest))
      (omega (arith, length-append (part_lines ps ++ branch_lines bs) (part_lines qs), length-append (part_lines ps) (branch_lines bs)))

  pub behind_branches : (bs : Branches) (last : Bool) (depth k : ℕ) (rest : List LogicalLine)
      → AreBranches last bs
      → branch_after (suc depth) k (map role (branch_lines bs ++ rest)) ≡ branch_after depth (k + length (branch_lines bs)) (map role rest)
  behind_branches (End r) last depth k rest are = one_role (suc depth) k r rest Closes are
  behind_branches (Branch r ps bs) last depth k rest (first, final, is, parts, more) =
      ap (λ (z : List LogicalLine). branch_after (suc depth) k (map role z)) (branch_line r ps bs rest)
      ∙ one_role (suc depth) k r (part_lines ps ++ (branch_lines bs ++ rest)) (Elses final) is
      ∙ behind_parts ps (suc depth) (k + 1) (branch_lines bs ++ rest) parts
      ∙ behind_branches bs final depth (k + 1 + length (part_lines ps)) rest more
      ∙ ap (λ (z : ℕ). branch_after depth z (map role rest)) (omega (arith, length-append (part_lines ps) (branch_lines bs)))

-- lines without tokens

-- if the line has no tokens, it is a text line
abbrev pub IsTextIfBlank : LogicalLine → Type 0
IsTextIfBlank r = IsBlankLine r → role r ≡ TextLine

pub blank_role : (profile : Profile) (r : LogicalLine) → IsDirected profile r → IsTextIfBlank r
blank_role profile r directed blank = ap role_by directed ∙ ap (λ (z : List Token). role_by (directive_of profile z)) blank

text_if_blank : (rs : List LogicalLine) → AreDirected rs → AllByRecursion IsTextIfBlank rs
text_if_blank [] are = tt
text_if_blank (r ∷ rs) (profile, all) = (blank_role profile r all.0, text_if_blank rs (profile, all.1))

blank_lines : (ps : GroupParts) → AreBlank ps → AllByRecursion IsBlankLine (part_lines ps)
blank_lines Done blank = tt
blank_lines (TextLines rs ps) blank = both rs (part_lines ps) blank.0 (blank_lines ps blank.1)
  where
    both : (rs qs : List LogicalLine) → AllByRecursion IsBlankLine rs → AllByRecursion IsBlankLine qs → AllByRecursion IsBlankLine (rs ++ qs)
    both [] qs a b = b
    both (r ∷ rs) qs a b = (a.0, both rs qs a.1 b)
blank_lines (Control r ps) blank = absurd blank
blank_lines (Section r ps bs qs) blank = absurd blank

parted : (P : LogicalLine → Type 0) (rs qs : List LogicalLine) → AllByRecursion P (rs ++ qs) → AllByRecursion P rs × AllByRecursion P qs
parted P [] qs all = (tt, all)
parted P (r ∷ rs) qs all = let b = parted P rs qs all.1 in ((all.0, b.0), b.1)

blank_parts : (ps : GroupParts) → AreGroupParts ps → AllByRecursion IsTextIfBlank (part_lines ps) → AllByRecursion IsBlankLine (part_lines ps) → AreBlank ps
blank_parts Done are texts all = tt
blank_parts (TextLines rs ps) are texts all =
    let b = parted IsBlankLine rs (part_lines ps) all in
    (b.0, blank_parts ps are.3 (parted IsTextIfBlank rs (part_lines ps) texts).1 b.1)
blank_parts (Control r ps) are texts all = let text = texts.0 all.0 in let control = are.0 in absurd (cc)
blank_parts (Section r ps bs qs) are texts all = let text = texts.0 all.0 in let opens = are.0 in absurd (cc)

-- from the tree to the flat form

blank_front : (rs rest : List LogicalLine) (k : ℕ) (x : List ℕ) → AllByRecursion IsBlankLine rs → ((j : ℕ) → FlatGuard j rest x) → FlatGuard k (rs ++ rest) x
blank_front [] rest k x all later = later k
blank_front (r ∷ rs) rest k x all later = inl (all.0, blank_front rs rest (k + 1) x all.1 later)

closed_section : (ps qs : GroupParts) (e : LogicalLine) (k : ℕ) → AreGroupParts ps → role e ≡ Closes → AreBlank qs → ClosedAtOnce k (part_lines ps ++ (e ∷ part_lines qs))
closed_section ps qs e k are closes blank = record {
  skipped = length (part_lines ps);
  last = e;
  rest = part_lines qs;
  next = behind_parts ps 0 k (e ∷ part_lines qs) are ∙ one_role 0 (k + length (part_lines ps)) e (part_lines qs) Closes closes;
  after_skipped = drop_at (part_lines ps) (e ∷ part_lines qs) (length (part_lines ps)) refl;
  closes = closes;
  blank = blank_lines qs blank;
}

guarded_flat : (ps : GroupParts) (x : List ℕ) (k : ℕ) → AreGroupParts ps → GuardedParts ps x → FlatGuard k (part_lines ps) x
guarded_flat Done x k are g = absurd g
guarded_flat (TextLines rs ps) x k are g = blank_front rs (part_lines ps) k x g.0 (λ j. guarded_flat ps x j are.3 g.1)
guarded_flat (Control r ps) x k are g = absurd g
guarded_flat (Section r ps (End e) qs) x k are g =
    inr (are.0, g.0, subst (ClosedAtOnce (k + 1)) (sym (append_assoc (part_lines ps) (e ∷ []) (part_lines qs))) (closed_section ps qs e (k + 1) are.1 are.2 g.1))
guarded_flat (Section r ps (Branch e ps' bs) qs) x k are g = absurd g

-- from the flat form to the tree

text_front : (rs rest : List LogicalLine) (k : ℕ) (x : List ℕ) → AllByRecursion (λ r. role r ≡ TextLine) rs → FlatGuard k (rs ++ rest) x → AllByRecursion IsBlankLine rs × ((j : ℕ) × FlatGuard j rest x)
text_front [] rest k x all flat = (tt, (k, flat))
text_front (r ∷ rs) rest k x all (inl here) = let later = text_front rs rest (k + 1) x all.1 here.1 in ((here.0, later.0), later.1)
text_front (r ∷ rs) rest k x all (inr here) = let opens = here.0 in let text = all.0 in absurd (cc)

-- If an if-section is closed at once, the first line after its parts closes it, and no token follows.
closed_first : (ps : GroupParts) (h : LogicalLine) (rest : List LogicalLine) (k : ℕ)
    → AreGroupParts ps
    → ((j : ℕ) → branch_after 0 j (map role (h ∷ rest)) ≡ Some j)
    → ClosedAtOnce k (part_lines ps ++ (h ∷ rest))
    → (role h ≡ Closes) × AllByRecursion IsBlankLine rest
closed_first ps h rest k are here closed =
    let n = length (part_lines ps) in
    let next : Some (k + n) ≡ Some (k + closed.skipped) = sym (behind_parts ps 0 k (h ∷ rest) are ∙ here (k + n)) ∙ closed.next in
    let same : k + n ≡ k + closed.skipped = cc in
    let skipped : n ≡ closed.skipped = omega arith in
    let cons : h ∷ rest ≡ closed.last ∷ closed.rest = sym (drop_at (part_lines ps) (h ∷ rest) closed.skipped skipped) ∙ closed.after_skipped in
    let head : h ≡ closed.last = cc in
    let tail : closed.rest ≡ rest = cc in
    (ap role head ∙ closed.closes, subst (AllByRecursion IsBlankLine) tail closed.blank)

flat_section : (r : LogicalLine) (ps qs : GroupParts) (bs : Branches) (x : List ℕ) (k : ℕ)
    → AreGroupParts (Section r ps bs qs)
    → AllByRecursion IsTextIfBlank (part_lines (Section r ps bs qs))
    → guard_name r.tokens ≡ Some x
    → ClosedAtOnce k (part_lines ps ++ branch_lines bs ++ part_lines qs)
    → GuardedParts (Section r ps bs qs) x
flat_section r ps qs (End e) x k are texts name closed =
    let first = closed_first ps e (part_lines qs) k are.1 (λ j. one_role 0 j e (part_lines qs) Closes are.2) (subst (ClosedAtOnce k) (append_assoc (part_lines ps) (e ∷ []) (part_lines qs)) closed) in
    (name, blank_parts qs are.3 (parted IsTextIfBlank (part_lines ps ++ (e ∷ [])) (part_lines qs) texts.1).1 first.1)
flat_section r ps qs (Branch e ps' bs) x k (opens, parts, (before, final, is, inner, more), others) texts name closed =
    let rest = part_lines ps' ++ branch_lines bs ++ part_lines qs in
    let first = closed_first ps e rest k parts (λ j. one_role 0 j e rest (Elses final) is) (subst (ClosedAtOnce k) (append_assoc (part_lines ps) (branch_lines (Branch e ps' bs)) (part_lines qs)) closed) in
    let closes : role e ≡ Closes = first.0 in
    absurd (cc)

flat_guarded : (ps : GroupParts) (x : List ℕ) (k : ℕ) → AreGroupParts ps → AllByRecursion IsTextIfBlank (part_lines ps) → FlatGuard k (part_lines ps) x → GuardedParts ps x
flat_guarded Done x k are texts flat = absurd flat
flat_guarded (TextLines rs ps) x k are texts flat =
    let f = text_front rs (part_lines ps) k x are.1 flat in
    (f.0, flat_guarded ps x f.1.0 are.3 (parted IsTextIfBlank rs (part_lines ps) texts).1 f.1.1)
flat_guarded (Control r ps) x k are texts (inl here) = let text = texts.0 here.0 in let control = are.0 in absurd (cc)
flat_guarded (Control r ps) x k are texts (inr here) = let opens = here.0 in let control = are.0 in absurd (cc)
flat_guarded (Section r ps bs qs) x k are texts (inl here) = let text = texts.0 here.0 in let opens = are.0 in absurd (cc)
flat_guarded (Section r ps bs qs) x k are texts (inr here) = flat_section r ps qs bs x (k + 1) are texts here.1 here.2

-- In a file without fault, the flat guard is the guard.
pub guarded_by_flat : (lines : List LogicalLine) (x : List ℕ) → AreDirected lines → group_fault [] lines ≡ None → FlatGuard 0 lines x → GuardedBy lines x
guarded_by_flat lines x directed e flat =
    let t = a_tree lines e in
    (t.0, t.1, flat_guarded t.0 x 0 t.1.each (subst (AllByRecursion IsTextIfBlank) (sym t.1.whole) (text_if_blank lines directed)) (subst (λ (z : List LogicalLine). FlatGuard 0 z x) (sym t.1.whole) flat))

pub flat_by_guarded : (lines : List LogicalLine) (x : List ℕ) → GuardedBy lines x → FlatGuard 0 lines x
flat_by_guarded lines x (parts, tree, guarded) =
    subst (λ (z : List LogicalLine). FlatGuard 0 z x) tree.whole (guarded_flat parts x 0 tree.each guarded)

-- A file has at most one guard.

one_name : (ps : GroupParts) (x y : List ℕ) → GuardedParts ps x → GuardedParts ps y → x ≡ y
one_name Done x y g h = absurd g
one_name (TextLines rs ps) x y g h = one_name ps x y g.1 h.1
one_name (Control r ps) x y g h = absurd g
one_name (Section r ps (End e) qs) x y g h = let same : Some x ≡ Some y = sym g.0 ∙ h.0 in cc
one_name (Section r ps (Branch e ps' bs) qs) x y g h = absurd g

pub one_guard : (lines : List LogicalLine) (x y : List ℕ) → GuardedBy lines x → GuardedBy lines y → x ≡ y
one_guard lines x y (a, first, g) (b, second, h) = one_name b x y (subst (λ (z : GroupParts). GuardedParts z x) (at_most_one lines a b first second) g) h

-- ---- the flat form of the guard, in terms of the lines' spans and next branch lines

-- a next branch line is a later line
pub branch_within : (depth k : ℕ) (ss : List Role) (j : ℕ) → branch_after depth k ss ≡ Some j → (k ≤ j) × (j < k + length ss)
branch_within depth k [] j e = absurd (cc)
branch_within depth k (Opens ∷ ss) j e = let w = branch_within (suc depth) (k + 1) ss j e in (omega (arith, w.0), omega (arith, w.1))
branch_within zero k (Closes ∷ ss) j e = let same : k ≡ j = cc in (omega arith, omega arith)
branch_within (suc depth) k (Closes ∷ ss) j e = let w = branch_within depth (k + 1) ss j e in (omega (arith, w.0), omega (arith, w.1))
branch_within zero k (Elses final ∷ ss) j e = let same : k ≡ j = cc in (omega arith, omega arith)
branch_within (suc depth) k (Elses final ∷ ss) j e = let w = branch_within (suc depth) (k + 1) ss j e in (omega (arith, w.0), omega (arith, w.1))
branch_within depth k (TextLine ∷ ss) j e = let w = branch_within depth (k + 1) ss j e in (omega (arith, w.0), omega (arith, w.1))
branch_within depth k (ControlLine ∷ ss) j e = let w = branch_within depth (k + 1) ss j e in (omega (arith, w.0), omega (arith, w.1))

no_tokens : (rs : List LogicalLine) → AllByRecursion IsBlankLine rs → length (line_tokens rs) ≡ 0
no_tokens [] all = refl
no_tokens (r ∷ rs) all = omega (arith, length-append r.tokens (line_tokens rs), ap length all.0, no_tokens rs all.1)

blank_if_none : (rs : List LogicalLine) → length (line_tokens rs) ≡ 0 → AllByRecursion IsBlankLine rs
blank_if_none [] e = tt
blank_if_none (r ∷ rs) e =
    let l = length-append r.tokens (line_tokens rs) in
    (nil_from_length r.tokens (omega arith), blank_if_none rs (omega arith))

-- The token with index i of a span has index `start + i` in the file.
pub part_index : (ts : List Token) (start end i : ℕ) (t : Token)
    → start ≤ end
    → end ≤ length ts
    → i < length (take (end - start) (drop start ts))
    → (start + i < length ts) × (get_or (take (end - start) (drop start ts)) i t ≡ get_or ts (start + i) t)
part_index ts start end i t l m n =
    let w : i < end - start = omega (arith, length-take-le (end - start) (drop start ts) (omega (arith, length-drop start ts))) in
    (omega arith, get_or-take (end - start) (drop start ts) i t w ∙ get_or-drop start ts i t)

pub if_none : {X : Type 0} (r : Option X) (P Q : Type 0) → (P → Q) → IfNone r P → IfNone r Q
if_none None P Q f p = f p
if_none (Some x) P Q f p = tt

pub if_some : {X : Type 0} (r : Option X) (P Q : X → Type 0) → ((x : X) → P x → Q x) → IfSome r P → IfSome r Q
if_some None P Q f p = tt
if_some (Some x) P Q f p = f x p

module _ (ts : List Token) (ls : List Line) (lines : AreLines ts ls) where
  role_is : (at : ℕ) (d : Line) → at < length ls → role (line_from ts (get_or ls at d)) ≡ line_role (get_or ls at d)
  role_is at d l = refl

  rest_at : (at : ℕ) (d : Line) → at < length ls → drop at (lines_from ts ls) ≡ line_from ts (get_or ls at d) ∷ drop (at + 1) (lines_from ts ls)
  rest_at at d l =
      drop_more (lines_from ts ls) at blank_line (omega (arith, length-map ls (line_from ts))) ∙ ap (λ (z : LogicalLine). z ∷ drop (at + 1) (lines_from ts ls)) ((line_at ts ls at d lines l).line blank_line)

  next_is : (at : ℕ) (d : Line) → at < length ls → line_role (get_or ls at d) ≡ Opens → (get_or ls at d).next_branch ≡ branch_after 0 (at + 1) (map role (drop (at + 1) (lines_from ts ls)))
  next_is at d l opens =
      let n : suc at ≡ at + 1 = omega arith in
      (line_at ts ls at d lines l).next ∙ ap (λ (z : Role). next_branch at z (drop (suc at) (lines_from ts ls))) (role_is at d l ∙ opens) ∙ ap (λ (z : ℕ). branch_after 0 (at + 1) (map role (drop z (lines_from ts ls)))) n

  pub branch_in : (at last : ℕ) (d : Line) → at < length ls → line_role (get_or ls at d) ≡ Opens → (get_or ls at d).next_branch ≡ Some last → (at + 1 ≤ last) × (last < length ls)
  branch_in at last d l opens e =
      let rs = lines_from ts ls in
      let w = branch_within 0 (at + 1) (map role (drop (at + 1) rs)) last (sym (next_is at d l opens) ∙ e) in
      (omega (arith, w.0), omega (arith, w.1, length-map (drop (at + 1) rs) role, length-drop (at + 1) rs, length-map ls (line_from ts)))

  pub never_closed : (at : ℕ) (d : Line) → at < length ls → line_role (get_or ls at d) ≡ Opens → (get_or ls at d).next_branch ≡ None → ClosedAtOnce (at + 1) (drop (at + 1) (lines_from ts ls)) → ⊥
  never_closed at d l opens e closed =
      let next = closed.next in
      let same = next_is at d l opens in
      cc

  pub closed_if : (at last : ℕ) (d f : Line)
      → at < length ls
      → line_role (get_or ls at d) ≡ Opens
      → (get_or ls at d).next_branch ≡ Some last
      → line_role (get_or ls last f) ≡ Closes
      → (get_or ls last f).end ≡ length ts
      → ClosedAtOnce (at + 1) (drop (at + 1) (lines_from ts ls))
  closed_if at last d f l opens e closes end =
      let rs = lines_from ts ls in
      let w = branch_in at last d l opens e in
      let n : at + 1 + (last - (at + 1)) ≡ last = omega (arith, w.0) in
      let s : suc last ≡ last + 1 = omega arith in
      let behind : (get_or ls last f).end + length (line_tokens (drop (last + 1) rs)) ≡ length ts = ap (λ (z : ℕ). (get_or ls last f).end + length (line_tokens (drop z rs))) (sym s) ∙ (line_at ts ls last f lines w.1).behind in
      record {
        skipped = last - (at + 1);
        last = line_from ts (get_or ls last f);
        rest = drop (last + 1) rs;
        next = sym (next_is at d l opens) ∙ e ∙ ap Some (sym n);
        after_skipped = drop-drop (last - (at + 1)) (at + 1) rs ∙ ap (λ (z : ℕ). drop z rs) n ∙ rest_at last f w.1;
        closes = role_is last f w.1 ∙ closes;
        blank = blank_if_none (drop (last + 1) rs) (omega arith);
      }

  pub closed_only_if : (at last : ℕ) (d f : Line)
      → at < length ls
      → line_role (get_or ls at d) ≡ Opens
      → (get_or ls at d).next_branch ≡ Some last
      → ClosedAtOnce (at + 1) (drop (at + 1) (lines_from ts ls))
      → (line_role (get_or ls last f) ≡ Closes) × ((get_or ls last f).end ≡ length ts)
  closed_only_if at last d f l opens e closed =
      let rs = lines_from ts ls in
      let w = branch_in at last d l opens e in
      let next : Some (at + 1 + closed.skipped) ≡ Some last = sym closed.next ∙ sym (next_is at d l opens) ∙ e in
      let n : at + 1 + closed.skipped ≡ last = cc in
      let s : suc last ≡ last + 1 = omega arith in
      let cons : closed.last ∷ closed.rest ≡ line_from ts (get_or ls last f) ∷ drop (last + 1) rs = sym closed.after_skipped ∙ drop-drop closed.skipped (at + 1) rs ∙ ap (λ (z : ℕ). drop z rs) n ∙ rest_at last f w.1 in
      let head : line_from ts (get_or ls last f) ≡ closed.last = cc in
      let tail : closed.rest ≡ drop (last + 1) rs = cc in
      let none : length (line_tokens (drop (last + 1) rs)) ≡ 0 = ap (λ (z : List LogicalLine). length (line_tokens z)) (sym tail) ∙ no_tokens closed.rest closed.blank in
      let behind : (get_or ls last f).end + length (line_tokens (drop (last + 1) rs)) ≡ length ts = ap (λ (z : ℕ). (get_or ls last f).end + length (line_tokens (drop z rs))) (sym s) ∙ (line_at ts ls last f lines w.1).behind in
      (sym (role_is last f w.1) ∙ ap role head ∙ closed.closes, omega arith)

  -- The flat guard at a line with tokens.
  pub flat_here : (at : ℕ) (d : Line) (x : List ℕ)
      → at < length ls
      → line_role (get_or ls at d) ≡ Opens
      → guard_name (line_from ts (get_or ls at d)).tokens ≡ Some x
      → ClosedAtOnce (at + 1) (drop (at + 1) (lines_from ts ls))
      → FlatGuard at (drop at (lines_from ts ls)) x
  flat_here at d x l opens name closed =
      subst (λ (z : List LogicalLine). FlatGuard at z x) (sym (rest_at at d l)) (inr (role_is at d l ∙ opens, name, closed))

  pub only_here : (at : ℕ) (d : Line) (x : List ℕ)
      → at < length ls
      → (get_or ls at d).start < (get_or ls at d).end
      → FlatGuard at (drop at (lines_from ts ls)) x
      → (line_role (get_or ls at d) ≡ Opens)
      × (guard_name (line_from ts (get_or ls at d)).tokens ≡ Some x)
      × ClosedAtOnce (at + 1) (drop (at + 1) (lines_from ts ls))
  only_here at d x l some flat = cases (subst (λ (z : List LogicalLine). FlatGuard at z x) (rest_at at d l) flat)
    where
      r : LogicalLine
      r = line_from ts (get_or ls at d)

      cases : FlatGuard at (line_from ts (get_or ls at d) ∷ drop (at + 1) (lines_from ts ls)) x
          → (line_role (get_or ls at d) ≡ Opens)
          × (guard_name (line_from ts (get_or ls at d)).tokens ≡ Some x)
          × ClosedAtOnce (at + 1) (drop (at + 1) (lines_from ts ls))
      cases (inl here) = absurd (omega (arith, ap length here.0, (line_at ts ls at d lines l).tokens, some))
      cases (inr here) = (sym (role_is at d l) ∙ here.0, here.1, here.2)

  -- Skipping a line without tokens does not change the flat guard.
  pub flat_past : (at : ℕ) (d : Line) (x : List ℕ) → at < length ls → (get_or ls at d).end ≤ (get_or ls at d).start → FlatGuard at (drop at (lines_from ts ls)) x ↔ FlatGuard (at + 1) (drop (at + 1) (lines_from ts ls)) x
  flat_past at d x l none =
      (λ flat. cases (subst (λ (z : List LogicalLine). FlatGuard at z x) (rest_at at d l) flat), λ later. subst (λ (z : List LogicalLine). FlatGuard at z x) (sym (rest_at at d l)) (inl (blank, later)))
    where
      blank : IsBlankLine (line_from ts (get_or ls at d))
      blank = nil_from_length (line_from ts (get_or ls at d)).tokens (omega (arith, (line_at ts ls at d lines l).tokens, none))

      cases : FlatGuard at (line_from ts (get_or ls at d) ∷ drop (at + 1) (lines_from ts ls)) x → FlatGuard (at + 1) (drop (at + 1) (lines_from ts ls)) x
      cases (inl here) = here.1
      cases (inr here) = let opens = here.0 in let a = (line_at ts ls at d lines l).directed in let text = blank_role a.0 (line_from ts (get_or ls at d)) a.1 blank in absurd (cc)

  pub flat_never : (at : ℕ) (x : List ℕ) → length ls ≤ at → FlatGuard at (drop at (lines_from ts ls)) x → ⊥
  flat_never at x l flat = subst (λ (z : List LogicalLine). FlatGuard at z x) (drop_all at (lines_from ts ls) (omega (arith, length-map ls (line_from ts)))) flat

-- In a file without fault, the token that was found names the guard; if none was found, there is no guard.
pub guard_found : (ts ts' : List Token) (ls ls' : List Line) (r : Option ℕ)
    → ts' ≡ ts
    → ls' ≡ ls
    → AreDirected (lines_from ts ls)
    → group_fault [] (lines_from ts ls) ≡ None
    → IfNone r ((x : List ℕ) → ¬ FlatGuard 0 (lines_from ts' ls') x)
    → IfSome r (λ i. (i < length ts') × ((d : Token) → FlatGuard 0 (lines_from ts' ls') (get_or ts' i d).text))
    → MatchOption r ((x : List ℕ) → GuardedBy (lines_from ts ls) x → ⊥)
    (λ i. (i < length ts) × ((d : Token) → GuardedBy (lines_from ts ls) (get_or ts i d).text))
guard_found ts ts' ls ls' None st sl directed e none some =
    let same : lines_from ts ls ≡ lines_from ts' ls' = sym (same_lines ts ts' ls ls' st sl) in
    λ x g. none x (subst (λ (z : List LogicalLine). FlatGuard 0 z x) same (flat_by_guarded (lines_from ts ls) x g))
guard_found ts ts' ls ls' (Some i) st sl directed e none some =
    let same : lines_from ts' ls' ≡ lines_from ts ls = same_lines ts ts' ls ls' st sl in (
      subst (λ (z : List Token). i < length z) st some.0,
      λ d. guarded_by_flat (lines_from ts ls) (get_or ts i d).text directed e
          (subst (λ (z : List Token). FlatGuard 0 (lines_from ts ls) (get_or z i d).text) st
          (subst (λ (z : List LogicalLine). FlatGuard 0 z (get_or ts' i d).text) same (some.1 d))),
    )
