-- Which two tokens are kept apart, so that the text between them can't be read as another token or as a comment.
use Rattle.std.specs.Prelude.{ℕ, ◌==◌, ◌||◌, Bool, true, false, List, [], ◌∷◌, ◌++◌, length, take, codes}
use Rattle.std.specs.List.{list_any}
use Rattle.std.specs.Str.{bytes_eq}
use Rattle.pptext.specs.declared.tokens.Kind.{Kind}
use Rattle.pptext.specs.declared.tokens.Kind.TheVariants.{Ident, Number, CharConst, Str, Punct, Header, Other}
use Rattle.pptext.specs.Spellings.{punctuators}

-- a token as it is written
pub record Written : Type 0 where
  pub kind : Kind
  pub text : List ℕ

-- what two punctuators must not begin together: a punctuator (6.4.6), a comment (6.4.9) or a trigraph (5.2.1.1)
abbrev pub joints : List (List ℕ)
joints = codes "//" ∷ codes "/*" ∷ codes "??" ∷ punctuators

-- whether a joint begins with this text
unfoldable pub is_joint_start : List ℕ → Bool
is_joint_start text = list_any (λ joint. bytes_eq (take (length text) joint) text) joints

-- whether a text and the first character of another begin a joint
abbrev pub begins_joint : List ℕ → List ℕ → Bool
begins_joint a [] = false
begins_joint a (c ∷ cs) = is_joint_start (a ++ c ∷ [])

-- the first character continues a number after any digit: a period or a sign (6.4.8)
abbrev pub continues_number : List ℕ → Bool
continues_number [] = false
continues_number (c ∷ cs) = c == 46 || (c == 43 || c == 45)

-- The first of the two kinds, then the second. The words, which are identifiers, numbers and literals, are kept apart from one another.
abbrev pub must_part : Kind → Kind → List ℕ → List ℕ → Bool
must_part Other k a b = true
must_part j Other a b = true
must_part Punct Punct a b = begins_joint a b
must_part Punct Number a b = bytes_eq a (codes ".")
must_part Punct k a b = false
must_part Number Punct a b = continues_number b
must_part j Punct a b = false
must_part j k a b = true

-- whether white space must be written between two tokens
abbrev pub are_apart : Written → Written → Bool
are_apart a b = must_part a.kind b.kind a.text b.text
