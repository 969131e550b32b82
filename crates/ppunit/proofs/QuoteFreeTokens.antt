-- Tokens without unmatched quotes.
use Rattle.std.proofs.Common.{◌≡◌, ℕ, Bool, true, false, ◌&&◌, ◌||◌, List, [], ◌∷◌, Some, None, refl, ap, ◌∙◌, codes, if◌then◌else◌}
use Rattle.std.proofs.Math.Bool.{and-false}
use Rattle.std.specs.Str.{bytes_eq}
use Rattle.std.specs.List.{AllByRecursion}
use Rattle.std.proofs.lemmas.Bool.{false≢true}
use Rattle.std.proofs.lemmas.Slice.Eq.{bytes_eq-Decides}
use Rattle.pptext.specs.declared.tokens.Token.{Token}
use Rattle.pptext.specs.declared.tokens.Kind.{Kind}
use Rattle.pptext.specs.declared.tokens.Kind.TheVariants.{Ident, Number, CharConst, Str, Punct, Header, Other}
use Rattle.pptext.specs.declared.sources.Directive.{Directive}
use Rattle.pptext.specs.declared.sources.Directive.TheVariants.{If}
use Rattle.pptext.specs.Tree.{role_by, role_of_directive}
use Rattle.pptext.specs.Guard.{named}
use Rattle.pptext.specs.Tokens.{fault, is_identifier_kind, is_other_kind, is_unmatched_quote}
use Rattle.ppunit.specs.Quotes.{unmatched_quote}

-- ---- tokens without quotes

abbrev pub is_quote : List ℕ → Bool
is_quote text = bytes_eq text (codes "'") || bytes_eq text (34 ∷ [])

text_unquoted : (t : Token) (text : List ℕ) → t.text ≡ text → is_quote text ≡ false → is_unmatched_quote t ≡ false
text_unquoted t text e f = ap (λ (z : List ℕ). is_other_kind t.kind && is_quote z) e ∙ ap (λ (b : Bool). is_other_kind t.kind && b) f ∙ and-false (is_other_kind t.kind)

pub is_ident_kind : (k : Kind) → is_identifier_kind k ≡ true → k ≡ Ident
is_ident_kind Ident e = refl
is_ident_kind Number e = absurd (false≢true e)
is_ident_kind CharConst e = absurd (false≢true e)
is_ident_kind Str e = absurd (false≢true e)
is_ident_kind Punct e = absurd (false≢true e)
is_ident_kind Header e = absurd (false≢true e)
is_ident_kind Other e = absurd (false≢true e)

pub ident_unquoted : (t : Token) → t.kind ≡ Ident → is_unmatched_quote t ≡ false
ident_unquoted t e = ap (λ (k : Kind). is_other_kind k && is_quote t.text) e

-- a token with this spelling
pub named_is : (t : Token) (text : List ℕ) → named t text ≡ true → t.text ≡ text
named_is t text e = (bytes_eq-Decides t.text text).0 e

-- ---- the opening line

abbrev pub is_hash : List ℕ → Bool
is_hash text = bytes_eq text (codes "#") || bytes_eq text (codes "%:")

pub hash_unquoted : (t : Token) → is_hash t.text ≡ true → is_unmatched_quote t ≡ false
hash_unquoted t e = cases (bytes_eq t.text (codes "#")) refl e
  where
    cases : (b : Bool) → bytes_eq t.text (codes "#") ≡ b → (b || bytes_eq t.text (codes "%:")) ≡ true → is_unmatched_quote t ≡ false
    cases true is h = text_unquoted t (codes "#") (named_is t (codes "#") is) refl
    cases false is h = text_unquoted t (codes "%:") (named_is t (codes "%:") h) refl

-- A line that opens an if-section begins with `#`.
pub opens_by : (b : Bool) (d : Directive) → role_by (if b then Some d else None) ≡ role_of_directive If → b ≡ true
opens_by true d e = refl
opens_by false d e = absurd (cc)

abbrev pub AreUnquoted : List Token → Type 0
AreUnquoted ts = AllByRecursion (λ t. is_unmatched_quote t ≡ false) ts

pub no_quote : (ts : List Token) → AreUnquoted ts → unmatched_quote ts ≡ None
no_quote [] all = refl
no_quote (t ∷ ts) all = ap (λ (b : Bool). if b then Some (fault 7 t.at t.text) else unmatched_quote ts) all.0 ∙ no_quote ts all.1

pub named_unquoted : (t : Token) (text : List ℕ) → named t text ≡ true → is_quote text ≡ false → is_unmatched_quote t ≡ false
named_unquoted t text e f = text_unquoted t text (named_is t text e) f
