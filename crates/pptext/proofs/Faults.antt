-- The first fault of a file's groups, found with the indices of the lines that opened the if-sections.
use Rattle.std.proofs.Common.{◌≡◌, ℕ, suc, ◌+◌, ◌-◌, ◌<◌, ◌≤◌, Bool, true, false, List, [], ◌∷◌, map, length, take, drop, get_or}
use Rattle.std.proofs.Common.{refl, sym, ap, ◌∙◌, subst, arith, Option, None, Some, if◌then◌else◌, ◌||◌, codes}
use Rattle.std.specs.Str.{bytes_eq}
use Rattle.std.specs.List.{AllByRecursion}
use Rattle.std.proofs.lemmas.List.{at_drop_more, at_drop_all, length-map, get_or_default, drop_more}
use Rattle.pptext.specs.declared.tokens.Token.{Token}
use Rattle.pptext.specs.declared.tokens.Fault.{Fault}
use Rattle.pptext.specs.declared.sources.Line.{Line}
use Rattle.pptext.specs.declared.sources.Directive.{Directive}
use Rattle.pptext.specs.declared.sources.Directive.TheVariants.{Null}
use Rattle.pptext.specs.declared.tokens.Kind.TheVariants.{Ident}
use Rattle.pptext.specs.declared.sources.Profile.{Profile}
use Rattle.pptext.specs.Clean.{place}
use Rattle.pptext.specs.Lines.{LogicalLine, directive_of}
use Rattle.pptext.specs.Tree.{Role, TextLine, ControlLine, Opens, Elses, Closes, role, role_by, Open, after_line, fault_at, fault_at_end, fault_or, group_fault, hash_place, name_of}
use Rattle.pptext.specs.Sources.{lines_from}
use Rattle.pptext.specs.code.Grouping.{AreLines, line_role, IsBranching}
use Rattle.pptext.proofs.Spans.{line_at, line_from}

pub no_token : Token
no_token = record { kind = Ident; text = []; space = false; at = place 0 0 0; used = place 0 0 0 }

pub blank_line : LogicalLine
blank_line = record { tokens = []; number = 0; directive = None }

unmatched : (b : Bool) → IsBranching (role_by (if b then Some Null else None)) → ⊥
unmatched true h = h
unmatched false h = h

-- A line that opens, branches or closes an if-section has at least two tokens.
pub two_tokens : (profile : Profile) (ts : List Token) → IsBranching (role_by (directive_of profile ts)) → 2 ≤ length ts
two_tokens profile [] h = absurd h
two_tokens profile (a ∷ []) h = absurd (unmatched (bytes_eq a.text (codes "#") || bytes_eq a.text (codes "%:")) h)
two_tokens profile (a ∷ b ∷ ts) h = omega arith

-- the open if-sections with their opening lines instead of indices
abbrev pub open_lines : List LogicalLine → List (ℕ × Bool) → List Open
open_lines rs os = map (λ o. (get_or rs o.0 blank_line, o.1)) os

opened_lines : (rs : List LogicalLine) (s : Role) (at : ℕ) (os : List (ℕ × Bool)) → after_line s (get_or rs at blank_line) (open_lines rs os) ≡ ((after_line s at os).0, open_lines rs (after_line s at os).1)
opened_lines rs Opens at os = refl
opened_lines rs (Elses final) at [] = refl
opened_lines rs (Elses final) at ((o, true) ∷ os) = refl
opened_lines rs (Elses final) at ((o, false) ∷ os) = refl
opened_lines rs Closes at [] = refl
opened_lines rs Closes at (o ∷ os) = refl
opened_lines rs TextLine at os = refl
opened_lines rs ControlLine at os = refl

opened_all : (Q : ℕ → Type 0) (s : Role) (at : ℕ) (os : List (ℕ × Bool)) → AllByRecursion (λ o. Q o.0) os → (s ≡ Opens → Q at) → AllByRecursion (λ o. Q o.0) (after_line s at os).1
opened_all Q Opens at os all here = (here refl, all)
opened_all Q (Elses final) at [] all here = tt
opened_all Q (Elses final) at ((o, true) ∷ os) all here = tt
opened_all Q (Elses final) at ((o, false) ∷ os) all here = (all.0, all.1)
opened_all Q Closes at [] all here = tt
opened_all Q Closes at (o ∷ os) all here = all.1
opened_all Q TextLine at os all here = all
opened_all Q ControlLine at os all here = all

faulty_branches : (s : Role) (at n : ℕ) (os : List (ℕ × Bool)) → (after_line s at os).0 ≡ Some n → IsBranching s
faulty_branches Opens at n os e = tt
faulty_branches (Elses final) at n os e = tt
faulty_branches Closes at n os e = tt
faulty_branches TextLine at n os e = absurd (cc)
faulty_branches ControlLine at n os e = absurd (cc)

-- the line at this index opens an if-section
pub record OpensAt (ls : List Line) (at : ℕ) : Type 0 where
  pub within : at < length ls
  pub opens : (d : Line) → line_role (get_or ls at d) ≡ Opens

-- the state before the line at this index, with these if-sections open
pub record FaultsSoFar (ts : List Token) (ls : List Line) (at : ℕ) (os : List (ℕ × Bool)) : Type 0 where
  pub same : group_fault (open_lines (lines_from ts ls) os) (drop at (lines_from ts ls)) ≡ group_fault [] (lines_from ts ls)
  pub opens : AllByRecursion (λ o. OpensAt ls o.0) os

pub faults_start : (ts : List Token) (ls : List Line) → FaultsSoFar ts ls 0 []
faults_start ts ls = record { same = refl; opens = tt }

module _ (ts : List Token) (ls : List Line) (lines : AreLines ts ls) where
  role_at : (at : ℕ) (d : Line) → at < length ls → role (get_or (lines_from ts ls) at blank_line) ≡ line_role (get_or ls at d)
  role_at at d l =
      let x = line_at ts ls at d lines l in
      ap role (x.line blank_line)

  -- The effect of the line at this index on the fault.
  step_at : (at : ℕ) (os : List (ℕ × Bool)) (d : Line)
      → at < length ls
      → FaultsSoFar ts ls at os
      → fault_or (get_or (lines_from ts ls) at blank_line) (after_line (line_role (get_or ls at d)) at os).0
      (group_fault (open_lines (lines_from ts ls) (after_line (line_role (get_or ls at d)) at os).1) (drop (at + 1) (lines_from ts ls)))
      ≡ group_fault [] (lines_from ts ls)
  step_at at os d l sofar =
      let rs = lines_from ts ls in
      let r = get_or rs at blank_line in
      let m : at < length rs = omega (arith, length-map ls (line_from ts)) in
      let step : after_line (role r) r (open_lines rs os)
      ≡ ((after_line (line_role (get_or ls at d)) at os).0, open_lines rs (after_line (line_role (get_or ls at d)) at os).1) =
      ap (λ (z : Role). after_line z r (open_lines rs os)) (role_at at d l) ∙ opened_lines rs (line_role (get_or ls at d)) at os in
      sym (ap (λ (z : Option ℕ × List Open). fault_or r z.0 (group_fault z.1 (drop (at + 1) rs))) step) ∙ sym (at_drop_more (group_fault (open_lines rs os)) rs at blank_line m) ∙ sofar.same

  pub faults_step : (at : ℕ) (os after : List (ℕ × Bool)) (d : Line) → at < length ls → FaultsSoFar ts ls at os → after_line (line_role (get_or ls at d)) at os ≡ (None, after) → FaultsSoFar ts ls (at + 1) after
  faults_step at os after d l sofar e =
      let rs = lines_from ts ls in
      let r = get_or rs at blank_line in
      let here : line_role (get_or ls at d) ≡ Opens → OpensAt ls at = λ (o : line_role (get_or ls at d) ≡ Opens). record { within = l; opens = λ (f : Line). ap line_role (get_or_default ls at f d l) ∙ o } in
      record {
        same = sym (ap (λ (z : Option ℕ × List (ℕ × Bool)). fault_or r z.0 (group_fault (open_lines rs z.1) (drop (at + 1) rs))) e) ∙ step_at at os d l sofar;
        opens = subst (λ (z : Option ℕ × List (ℕ × Bool)). AllByRecursion (λ o. OpensAt ls o.0) z.1) e (opened_all (OpensAt ls) (line_role (get_or ls at d)) at os sofar.opens here);
      }

  pub fault_here : (at n : ℕ) (os : List (ℕ × Bool)) (d : Line)
      → at < length ls
      → FaultsSoFar ts ls at os
      → (after_line (line_role (get_or ls at d)) at os).0 ≡ Some n
      → Some (fault_at n (get_or (lines_from ts ls) at blank_line)) ≡ group_fault [] (lines_from ts ls)
  fault_here at n os d l sofar e =
      let rs = lines_from ts ls in
      sym (ap (λ (z : Option ℕ). fault_or (get_or rs at blank_line) z (group_fault (open_lines rs (after_line (line_role (get_or ls at d)) at os).1) (drop (at + 1) rs))) e) ∙ step_at at os d l sofar

  pub branching_here : (at n : ℕ) (os : List (ℕ × Bool)) (d f : Line) → at < length ls → (after_line (line_role (get_or ls at d)) at os).0 ≡ Some n → IsBranching (line_role (get_or ls at f))
  branching_here at n os d f l e =
      subst (λ (z : Line). IsBranching (line_role z)) (get_or_default ls at d f l) (faulty_branches (line_role (get_or ls at d)) at n os e)

  -- The fault at the end of the lines.
  pub fault_at_last : (at : ℕ) (os : List (ℕ × Bool)) → length ls ≤ at → FaultsSoFar ts ls at os → fault_at_end (open_lines (lines_from ts ls) os) ≡ group_fault [] (lines_from ts ls)
  fault_at_last at os l sofar =
      let rs = lines_from ts ls in
      sym (at_drop_all (group_fault (open_lines rs os)) rs at (omega (arith, length-map ls (line_from ts)))) ∙ sofar.same

  pub opens_branching : (at : ℕ) → OpensAt ls at → (d : Line) → IsBranching (line_role (get_or ls at d))
  opens_branching at opens d = subst IsBranching (sym (opens.opens d)) tt

  -- The first two tokens of a line that opens, branches or closes an if-section are among the tokens.
  pub named_within : (at : ℕ) (d : Line) → at < length ls → IsBranching (line_role (get_or ls at d)) → (get_or ls at d).start + 1 < length ts
  named_within at d l b =
      let x = get_or ls at d in
      let a = line_at ts ls at d lines l in
      let two : 2 ≤ length (line_from ts x).tokens = two_tokens a.directed.0 (line_from ts x).tokens (subst (λ (z : Option Directive). IsBranching (role_by z)) a.directed.1 b) in
      omega (arith, a.begins, a.behind, a.tokens, two)

  pub fault_is : (at number : ℕ) (d : Line) (e : Token) (r : LogicalLine)
      → at < length ls
      → IsBranching (line_role (get_or ls at d))
      → record { number = number; at = (get_or ts (get_or ls at d).start e).at; text = (get_or ts ((get_or ls at d).start + 1) e).text }
      ≡ fault_at number (get_or (lines_from ts ls) at r)
  fault_is at number d e r l branching =
      let x = get_or ls at d in
      let start = x.start in
      let more = x.end - start - 2 in
      let n = line_at ts ls at d lines l in
      let two : 2 ≤ length (line_from ts x).tokens = two_tokens n.directed.0 (line_from ts x).tokens (subst (λ (z : Option Directive). IsBranching (role_by z)) n.directed.1 branching) in
      let within : start + 1 < length ts = named_within at d l branching in
      let count : x.end - start ≡ suc (suc more) = omega (arith, n.tokens, two) in
      let rest : drop start ts ≡ get_or ts start e ∷ get_or ts (start + 1) e ∷ drop (start + 1 + 1) ts = drop_more ts start e (omega arith) ∙ ap (λ (z : List Token). get_or ts start e ∷ z) (drop_more ts (start + 1) e within) in
      let tokens : (line_from ts x).tokens ≡ get_or ts start e ∷ get_or ts (start + 1) e ∷ take more (drop (start + 1 + 1) ts) = ap (λ (z : ℕ). take z (drop start ts)) count ∙ ap (take (suc (suc more))) rest in
      sym (ap (fault_at number) (n.line r) ∙ ap (λ (z : List Token). record { number = number; at = hash_place z; text = name_of z }) tokens)

  pub fault_last : (at : ℕ) (o : ℕ × Bool) (os : List (ℕ × Bool)) (f : Fault)
      → length ls ≤ at
      → FaultsSoFar ts ls at (o ∷ os)
      → f ≡ fault_at 5 (get_or (lines_from ts ls) o.0 blank_line)
      → Some f ≡ group_fault [] (lines_from ts ls)
  fault_last at o os f l sofar e = ap Some e ∙ fault_at_last at (o ∷ os) l sofar
