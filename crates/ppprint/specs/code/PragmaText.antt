-- The tokens of a pragma as the definitions have them.
use Rattle.std.specs.Prelude.{◌≡◌, ℕ, ◌<◌, ◌≤◌, Bool, true, false, List, ◌∷◌, length, take, drop, if◌then◌else◌, Option, None, option_map}
use Rattle.pptext.specs.declared.tokens.Kind.{Kind}
use Rattle.ppprint.specs.Operators.{pragma_token_of, tokens_after}
use Rattle.ppprint.specs.Shown.{PragmaToken}
use Rattle.ppprint.specs.declared.pragma_tokens.Front.{Front}
use Rattle.ppprint.specs.declared.pragma_tokens.Front.TheVariants as front
use Rattle.ppprint.specs.declared.pragma_tokens.PragmaTokens.{PragmaTokens}
use Rattle.ppprint.specs.declared.pragma_tokens.TextPragmaToken.{TextPragmaToken}

abbrev pub printed_pragma_token : TextPragmaToken → PragmaToken
printed_pragma_token t = record { kind = t.kind; text = t.text.now; space = t.space }

-- the tokens that are left, or None if the text isn't that of a pragma
abbrev pub tokens_left : PragmaTokens → Option (List PragmaToken)
tokens_left p = if p.is_broken then None else tokens_after 0 p.space p.rest.now

-- the number of characters that are left
abbrev pub length_left : PragmaTokens → ℕ
length_left p = length p.rest.now

abbrev pub with_pragma_token : TextPragmaToken → Option (List PragmaToken) → Option (List PragmaToken)
with_pragma_token t ts = option_map (λ us. printed_pragma_token t ∷ us) ts

-- this token is the first one, or the text isn't that of a pragma
abbrev pub with_first : Kind → ℕ → Bool → List ℕ → Option (List PragmaToken)
with_first k n space text = option_map (λ ts. pragma_token_of k space (take n text) ∷ ts) (tokens_after 0 false (drop n text))

-- what begins a text, and so the tokens of the text, by those of the rest of it
abbrev pub HasFront : List ℕ → Front → Type 0
HasFront text (front.Blank n) = (0 < n) × (n ≤ length text) × ((space : Bool) → tokens_after 0 space text ≡ tokens_after 0 true (drop n text))
HasFront text (front.Token k n) = (0 < n) × (n ≤ length text) × ((space : Bool) → tokens_after 0 space text ≡ with_first k n space text)
HasFront text front.Break = (space : Bool) → tokens_after 0 space text ≡ None
