-- Predicates on tokens and faults.
use Rattle.std.specs.Prelude.{ℕ, Bool, true, false, ◌&&◌, ◌||◌, List, [], ◌∷◌, codes}
use Rattle.std.specs.Str.{bytes_eq}
use Rattle.pptext.specs.declared.tokens.Place.{Place}
use Rattle.pptext.specs.declared.tokens.Token.{Token}
use Rattle.pptext.specs.declared.tokens.Fault.{Fault}
use Rattle.pptext.specs.declared.tokens.Kind.{Kind}
use Rattle.pptext.specs.declared.tokens.Kind.TheVariants.{Ident, Punct, Other}

abbrev pub is_identifier_kind : Kind → Bool
is_identifier_kind Ident = true
is_identifier_kind _ = false

abbrev pub is_punctuator_kind : Kind → Bool
is_punctuator_kind Punct = true
is_punctuator_kind _ = false

abbrev pub is_other_kind : Kind → Bool
is_other_kind Other = true
is_other_kind _ = false

abbrev pub is_identifier : Token → Bool
is_identifier t = is_identifier_kind t.kind

-- an identifier with this spelling
abbrev pub is_identifier_named : List ℕ → Token → Bool
is_identifier_named text t = is_identifier t && bytes_eq t.text text

-- a punctuator with this spelling
abbrev pub is_punct : List ℕ → Token → Bool
is_punct text t = is_punctuator_kind t.kind && bytes_eq t.text text

-- an unmatched quote: one that begins no literal (6.4, paragraph 3)
abbrev pub is_unmatched_quote : Token → Bool
is_unmatched_quote t = is_other_kind t.kind && (bytes_eq t.text (codes "'") || bytes_eq t.text (34 ∷ []))

-- the fault with this number, location and text
abbrev pub fault : ℕ → Place → List ℕ → Fault
fault number at text = record { number = number; at = at; text = text }
