-- A `#define` line of a file and what was read of it.
use Rattle.std.proofs.Common.{◌≡◌, ◌∙◌, ◌<◌, ℕ, zero, suc, List, [], ◌∷◌, ◌++◌, length, drop, get_or, refl, sym, subst, arith, Option, Some, None, IfSome, Box}
use Rattle.std.specs.Global.{Global}
use Rattle.pptext.specs.Lines.{LogicalLine}
use Rattle.pptext.specs.IndexedLines.{line_at}
use Rattle.pptext.specs.Tree.{hash_place}
use Rattle.ppmacro.specs.declared.define_lines.ReadDefinition.{ReadDefinition}
use Rattle.ppmacro.specs.DefineLines.{DefineLine, IsDefineLine}
use Rattle.ppmacro.specs.code.PreparedDefinitions.{IsReadFrom, AreReadFrom}

-- A line is one `#define` line at most.
pub same-line : (line : LogicalLine) (r : ReadDefinition) (d e : DefineLine) → IsDefineLine line d → IsDefineLine line e → IsReadFrom r d.at d.tokens → IsReadFrom r e.at e.tokens
same-line line r d e p q is = subst (λ at. IsReadFrom r at e.tokens) (p.at ∙ sym q.at) (subst (λ ts. IsReadFrom r d.at ts) (p.tokens ∙ sym q.tokens) is)

-- A line of which something was read is a `#define` line, and that was read from its location and its tokens after `define`.
pub found-line : (lines : List LogicalLine) (reads : List (Option (Box ReadDefinition Global))) (index : ℕ) (read : Box ReadDefinition Global) (found : DefineLine)
    → AreReadFrom lines reads
    → index < length lines
    → get_or reads index None ≡ Some read
    → found.at ≡ hash_place (line_at lines index).tokens
    → found.tokens ≡ drop 2 (line_at lines index).tokens
    → IsDefineLine (line_at lines index) found × IsReadFrom read.value found.at found.tokens
found-line lines reads index read found are within is at tokens =
    let line = line_at lines index in
    let kept = subst (λ o. IfSome o (λ r. (d : DefineLine) × IsDefineLine line d × IsReadFrom r.value d.at d.tokens)) is (are.1 index within) in
    let same : IsDefineLine line found = record { directive = kept.1.directive; at = at; tokens = tokens; matched = kept.1.matched } in
    (same, same-line line read.value kept.0 found kept.1 same kept.2)

-- What holds of each element of a list and of one more, holds of each element of the longer list.
pub each-more : {A : Type 0} (P : ℕ → A → Type 0) (d : A) (xs : List A) (x : A)
    → ((i : ℕ) → i < length xs → P i (get_or xs i d))
    → P (length xs) x
    → (i : ℕ) → i < suc (length xs) → P i (get_or (xs ++ x ∷ []) i d)
each-more P d [] x each last zero less = last
each-more P d [] x each last (suc i) less = absurd (omega (arith, less))
each-more P d (y ∷ ys) x each last zero less = each zero (omega arith)
each-more P d (y ∷ ys) x each last (suc i) less = each-more (λ j. P (suc j)) d ys x (λ j l. each (suc j) (omega (arith, l))) last i (omega (arith, less))

-- An element within a list doesn't depend on the default.
pub any-default : {A : Type 0} (xs : List A) (i : ℕ) (d e : A) → i < length xs → get_or xs i d ≡ get_or xs i e
any-default [] i d e less = absurd (omega (arith, less))
any-default (x ∷ xs) zero d e less = refl
any-default (x ∷ xs) (suc i) d e less = any-default xs i d e (omega (arith, less))
