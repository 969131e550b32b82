-- The lexemes that the lexer's results represent.
use Rattle.std.proofs.Common.{◌≡◌, ℕ, List, Option, None, Some, subst, sym, ap, ◌∙◌}
use Rattle.pptext.specs.declared.sources.Profile.{Profile}
use Rattle.pptext.specs.declared.tokens.Kind.{Kind}
use Rattle.pptext.specs.declared.lexer.LeadingLexeme as code
use Rattle.pptext.specs.declared.lexer.LeadingLexeme.TheVariants as variant
use Rattle.pptext.specs.Lexemes.{LexemeKind, NewLine, Blank, Comment, Spelled}
use Rattle.pptext.specs.code.FoundLexemes.{FindsLexeme}

abbrev pub front_meant : code.LeadingLexeme → Option (LexemeKind × ℕ)
front_meant variant.NewLine = Some (NewLine, 1)
front_meant (variant.Blank n) = Some (Blank, n)
front_meant (variant.Comment n) = Some (Comment, n)
front_meant variant.Unclosed = None
front_meant (variant.Token k n) = Some (Spelled k, n)

pub found_here : (profile : Profile) (line : List (List ℕ)) (text : List ℕ) (prefix here : code.LeadingLexeme) (found : Option (LexemeKind × ℕ))
    → front_meant prefix ≡ found
    → prefix ≡ here
    → FindsLexeme profile line text found
    → FindsLexeme profile line text (front_meant here)
found_here profile line text prefix here found means is finds = subst (FindsLexeme profile line text) (sym means ∙ ap front_meant is) finds

abbrev sort_of : Option (LexemeKind × ℕ) → LexemeKind
sort_of None = NewLine
sort_of (Some p) = p.0

abbrev length_of : Option (LexemeKind × ℕ) → ℕ
length_of None = 0
length_of (Some p) = p.1

-- Only the code's `Token` represents a token.
pub token_meant : (prefix : code.LeadingLexeme) (k : Kind) (n : ℕ) → front_meant prefix ≡ Some (Spelled k, n) → prefix ≡ variant.Token k n
token_meant variant.NewLine k n e = let sorts : NewLine ≡ Spelled k = ap sort_of e in absurd (cc)
token_meant (variant.Blank m) k n e = let sorts : Blank ≡ Spelled k = ap sort_of e in absurd (cc)
token_meant (variant.Comment m) k n e = let sorts : Comment ≡ Spelled k = ap sort_of e in absurd (cc)
token_meant variant.Unclosed k n e = let sorts : NewLine ≡ Spelled k = ap sort_of e in absurd (cc)
token_meant (variant.Token l m) k n e =
    let sorts : Spelled l ≡ Spelled k = ap sort_of e in
    let kinds : l ≡ k = cc in
    ap (λ z. variant.Token z m) kinds ∙ ap (λ z. variant.Token k z) (ap length_of e)
