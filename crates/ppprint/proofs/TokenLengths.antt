-- The number of characters of a token with its spaces.
use Rattle.std.proofs.Common.{◌≡◌, ℕ, ◌+◌, Bool, ◌&&◌, [], ◌∷◌, length, Some, refl, sym, ap, ◌∙◌, arith, length-append, zero, suc}
use Rattle.std.specs.Prelude.{min, is_none}
use Rattle.pptext.specs.declared.tokens.Token.{Token}
use Rattle.ppprint.specs.Text.{Line, token_text, spaces, spaces_before, space_after, line_after, written, is_hash_text}

length_spaces : (n : ℕ) → length (spaces n) ≡ n
length_spaces zero = refl
length_spaces (suc n) = ap suc (length_spaces n)

pub token_length : (l : Line) (t : Token) → length (token_text l t) ≡ spaces_before l t + length t.text + space_after t.text
token_length l t =
    let before = length_spaces (spaces_before l t) in
    let after = length_spaces (space_after t.text) in
    simp length-append (omega arith)

pub line_after_is : (l : Line) (t : Token) (columns : ℕ) (is_closed : Bool)
    → columns ≡ min (l.columns + spaces_before l t + length t.text + space_after t.text) 4294967295
    → is_closed ≡ (is_none l.last && is_hash_text t.text)
    → line_after l t ≡ record { number = l.number; system = l.system; columns = columns; last = Some (written t); is_closed = is_closed }
line_after_is l t columns is_closed e f =
    let total : l.columns + length (token_text l t) ≡ l.columns + spaces_before l t + length t.text + space_after t.text = let h = token_length l t in omega arith in
    let counted_is : min (l.columns + length (token_text l t)) 4294967295 ≡ columns = ap (λ n. min n 4294967295) total ∙ sym e in
    rw (f, ← counted_is) refl
