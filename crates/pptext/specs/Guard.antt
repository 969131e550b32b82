-- Include guards: a file that is one guarded if-section.
use Rattle.std.specs.Prelude.{◌≡◌, ℕ, List, [], ◌∷◌, Bool, ◌&&◌, if◌then◌else◌, Option, None, Some, codes}
use Rattle.std.specs.List.{AllByRecursion}
use Rattle.std.specs.Str.{bytes_eq}
use Rattle.pptext.specs.declared.tokens.Token.{Token}
use Rattle.pptext.specs.Lines.{LogicalLine}
use Rattle.pptext.specs.Tokens.{is_identifier_kind}
use Rattle.pptext.specs.Tree.{GroupParts, Done, TextLines, Section, End, Tree}

-- a line without tokens
abbrev pub IsBlankLine : LogicalLine → Type 0
IsBlankLine r = r.tokens ≡ []

abbrev pub AreBlank : GroupParts → Type 0
AreBlank Done = Unit {0}
AreBlank (TextLines rs ps) = AllByRecursion IsBlankLine rs × AreBlank ps
AreBlank ps = ⊥

abbrev pub named : Token → List ℕ → Bool
named t text = bytes_eq t.text text

abbrev pub ident_if : Bool → Token → Option (List ℕ)
ident_if b t = if b && is_identifier_kind t.kind then Some t.text else None

-- `if ! defined`
abbrev pub is_not_defined : Token → Token → Token → Bool
is_not_defined d n f = named d (codes "if") && (named n (codes "!") && named f (codes "defined"))

abbrev pub are_parentheses : Token → Token → Bool
are_parentheses l r = named l (codes "(") && named r (codes ")")

-- the X of `#ifndef X`, `#if ! defined X` and `#if ! defined ( X )`
abbrev pub guard_name : List Token → Option (List ℕ)
guard_name (s ∷ d ∷ x ∷ []) = ident_if (named d (codes "ifndef")) x
guard_name (s ∷ d ∷ n ∷ f ∷ x ∷ []) = ident_if (is_not_defined d n f) x
guard_name (s ∷ d ∷ n ∷ f ∷ l ∷ x ∷ r ∷ []) = ident_if (is_not_defined d n f && are_parentheses l r) x
guard_name ts = None

-- one if-section without other branches, and no token outside it
abbrev pub GuardedParts : GroupParts → List ℕ → Type 0
GuardedParts (TextLines rs ps) x = AllByRecursion IsBlankLine rs × GuardedParts ps x
GuardedParts (Section r ps (End e) qs) x = (guard_name r.tokens ≡ Some x) × AreBlank qs
GuardedParts ps x = ⊥

-- the whole file is one if-section with this guard
abbrev pub GuardedBy : List LogicalLine → List ℕ → Type 0
GuardedBy lines x = (parts : GroupParts) × Tree lines parts × GuardedParts parts x
