-- The operators among items whose first tokens are held: what is known once another token follows them, or none.
use Rattle.std.proofs.Common.{◌≡◌, ℕ, zero, suc, ◌+◌, ◌≤◌, Bool, true, false, ◌&&◌, List, [], ◌∷◌, ◌++◌, length, map, codes, refl, ap, ◌∙◌, arith, Option, Some, None, if◌then◌else◌}
use Rattle.std.specs.Option.{option_map}
use Rattle.std.specs.Str.{bytes_eq}
use Rattle.std.proofs.lemmas.Bool.{false≢true, and_parts}
use Rattle.pptext.specs.declared.tokens.Kind.{Kind}
use Rattle.pptext.specs.declared.tokens.Kind.TheVariants.{Ident, Number, CharConst, Str, Punct, Header, Other}
use Rattle.pptext.specs.declared.tokens.Token.{Token}
use Rattle.pptext.specs.Tokens.{is_identifier_kind, is_punctuator_kind}
use Rattle.ppprint.specs.Operators.{destringized, is_string_kind, operator_at, pragma_of, tokens_after, with_operators}
use Rattle.ppprint.specs.Shown.{Location, PragmaToken, Shown, ShowsToken, ShowsPragma, ShowsMark}
use Rattle.ppprint.specs.code.Held.{is_part, are_parts}

and_false : (a : Bool) → (a && false) ≡ false
and_false true = refl
and_false false = refl

-- ---- tokens that are parts of an operator

-- one more part
pub parts_more : (n : ℕ) (ts : List Token) (t : Token) → are_parts n ts ≡ true → is_part (n + length ts) t ≡ true → are_parts n (ts ++ t ∷ []) ≡ true
parts_more n [] t e f = let same : n ≡ n + 0 = omega arith in ap (λ x. x && true) (ap (λ m. is_part m t) same ∙ f)
parts_more n (u ∷ ts) t e f =
    let parts = and_parts (is_part n u) (are_parts (suc n) ts) e in
    let same : suc n + length ts ≡ n + suc (length ts) = omega arith in
    ap (λ x. x && are_parts (suc n) (ts ++ t ∷ [])) parts.0 ∙ parts_more (suc n) ts t parts.1 (ap (λ m. is_part m t) same ∙ f)

punctuator_names_nothing : (k : Kind) → is_punctuator_kind k ≡ true → is_identifier_kind k ≡ false
punctuator_names_nothing Ident e = absurd (false≢true e)
punctuator_names_nothing Number e = refl
punctuator_names_nothing CharConst e = refl
punctuator_names_nothing Str e = refl
punctuator_names_nothing Punct e = refl
punctuator_names_nothing Header e = refl
punctuator_names_nothing Other e = refl

string_names_nothing : (k : Kind) → is_string_kind k ≡ true → is_identifier_kind k ≡ false
string_names_nothing Ident e = absurd (false≢true e)
string_names_nothing Number e = refl
string_names_nothing CharConst e = refl
string_names_nothing Str e = refl
string_names_nothing Punct e = refl
string_names_nothing Header e = refl
string_names_nothing Other e = refl

-- no token of an operator but the first is a name that begins one
later_part : (n : ℕ) (t : Token) → is_part (suc n) t ≡ true → is_part 0 t ≡ false
later_part zero t e = ap (λ x. x && bytes_eq t.text (codes "_Pragma")) (punctuator_names_nothing t.kind (and_parts _ _ e).0)
later_part (suc zero) t e = ap (λ x. x && bytes_eq t.text (codes "_Pragma")) (string_names_nothing t.kind (and_parts _ _ e).0)
later_part (suc (suc zero)) t e = ap (λ x. x && bytes_eq t.text (codes "_Pragma")) (punctuator_names_nothing t.kind (and_parts _ _ e).0)
later_part (suc (suc (suc n))) t e = absurd (false≢true e)

-- ---- tokens that are not the next part

first_differs : (l : Location) (a : Token) (items : List Shown) → is_part 0 a ≡ false → operator_at (ShowsToken l a ∷ items) ≡ None
first_differs l a [] e = refl
first_differs l a (ShowsPragma m b ∷ items) e = refl
first_differs l a (ShowsMark m b ∷ items) e = refl
first_differs l a (ShowsToken m b ∷ []) e = refl
first_differs l a (ShowsToken m b ∷ ShowsPragma n c ∷ items) e = refl
first_differs l a (ShowsToken m b ∷ ShowsMark n c ∷ items) e = refl
first_differs l a (ShowsToken m b ∷ ShowsToken n c ∷ []) e = refl
first_differs l a (ShowsToken m b ∷ ShowsToken n c ∷ ShowsPragma o d ∷ items) e = refl
first_differs l a (ShowsToken m b ∷ ShowsToken n c ∷ ShowsMark o d ∷ items) e = refl
first_differs l a (ShowsToken m b ∷ ShowsToken n c ∷ ShowsToken o d ∷ items) e =
    ap (λ (x : Bool). option_map (ShowsPragma l) (if ((x && is_part 1 b) && is_part 2 c) && is_part 3 d then tokens_after 0 true (destringized c.text) else None)) e

second_differs : (l m : Location) (a b : Token) (items : List Shown) → is_part 1 b ≡ false → operator_at (ShowsToken l a ∷ ShowsToken m b ∷ items) ≡ None
second_differs l m a b [] e = refl
second_differs l m a b (ShowsPragma n c ∷ items) e = refl
second_differs l m a b (ShowsMark n c ∷ items) e = refl
second_differs l m a b (ShowsToken n c ∷ []) e = refl
second_differs l m a b (ShowsToken n c ∷ ShowsPragma o d ∷ items) e = refl
second_differs l m a b (ShowsToken n c ∷ ShowsMark o d ∷ items) e = refl
second_differs l m a b (ShowsToken n c ∷ ShowsToken o d ∷ items) e =
    ap (λ (x : Bool). option_map (ShowsPragma l) (if (x && is_part 2 c) && is_part 3 d then tokens_after 0 true (destringized c.text) else None)) (ap (λ x. is_part 0 a && x) e ∙ and_false (is_part 0 a))

third_differs : (l m n : Location) (a b c : Token) (items : List Shown) → is_part 2 c ≡ false → operator_at (ShowsToken l a ∷ ShowsToken m b ∷ ShowsToken n c ∷ items) ≡ None
third_differs l m n a b c [] e = refl
third_differs l m n a b c (ShowsPragma o d ∷ items) e = refl
third_differs l m n a b c (ShowsMark o d ∷ items) e = refl
third_differs l m n a b c (ShowsToken o d ∷ items) e =
    let both = is_part 0 a && is_part 1 b in
    ap (λ (x : Bool). option_map (ShowsPragma l) (if x && is_part 3 d then tokens_after 0 true (destringized c.text) else None)) (ap (λ x. both && x) e ∙ and_false both)

fourth_differs : (l m n o : Location) (a b c d : Token) (items : List Shown) → is_part 3 d ≡ false
    → operator_at (ShowsToken l a ∷ ShowsToken m b ∷ ShowsToken n c ∷ ShowsToken o d ∷ items) ≡ None
fourth_differs l m n o a b c d items e =
    let three = (is_part 0 a && is_part 1 b) && is_part 2 c in
    ap (λ (x : Bool). option_map (ShowsPragma l) (if x then tokens_after 0 true (destringized c.text) else None)) (ap (λ x. three && x) e ∙ and_false three)

-- the first item belongs to no operator
kept : (i : Shown) (items : List Shown) → operator_at (i ∷ items) ≡ None → with_operators 0 (i ∷ items) ≡ i ∷ with_operators 0 items
kept i items e = ap (λ (o : Option Shown). elim o [ Some pragma ↦ pragma ∷ with_operators 3 items | None ↦ i ∷ with_operators 0 items ]) e

pub token_passes : (l : Location) (t : Token) (items : List Shown) → is_part 0 t ≡ false → with_operators 0 (ShowsToken l t ∷ items) ≡ ShowsToken l t ∷ with_operators 0 items
token_passes l t items e = kept (ShowsToken l t) items (first_differs l t items e)

-- ---- items whose first tokens are held

abbrev pub shows : (Token → Location) → List Token → List Shown
shows at ts = map (λ t. ShowsToken (at t) t) ts

-- a token that is not the next part
pub broken : (at : Token → Location) (ts : List Token) (t : Token) (items : List Shown) → length ts ≤ 3 → are_parts 0 ts ≡ true → is_part (length ts) t ≡ false
    → with_operators 0 (shows at ts ++ ShowsToken (at t) t ∷ items) ≡ shows at ts ++ with_operators 0 (ShowsToken (at t) t ∷ items)
broken at [] t items few e f = refl
broken at (a ∷ []) t items few e f = kept (ShowsToken (at a) a) (ShowsToken (at t) t ∷ items) (second_differs (at a) (at t) a t items f)
broken at (a ∷ b ∷ []) t items few e f =
    let parts = and_parts (is_part 0 a) (is_part 1 b && true) e in
    let second : is_part 1 b ≡ true = (and_parts (is_part 1 b) true parts.1).0 in
    kept (ShowsToken (at a) a) (ShowsToken (at b) b ∷ ShowsToken (at t) t ∷ items) (third_differs (at a) (at b) (at t) a b t items f)
    ∙ ap (λ z. ShowsToken (at a) a ∷ z) (token_passes (at b) b (ShowsToken (at t) t ∷ items) (later_part 0 b second))
broken at (a ∷ b ∷ c ∷ []) t items few e f =
    let parts = and_parts (is_part 0 a) (is_part 1 b && (is_part 2 c && true)) e in
    let others = and_parts (is_part 1 b) (is_part 2 c && true) parts.1 in
    let third : is_part 2 c ≡ true = (and_parts (is_part 2 c) true others.1).0 in
    kept (ShowsToken (at a) a) (ShowsToken (at b) b ∷ ShowsToken (at c) c ∷ ShowsToken (at t) t ∷ items) (fourth_differs (at a) (at b) (at c) (at t) a b c t items f)
    ∙ ap (λ z. ShowsToken (at a) a ∷ z)
    (token_passes (at b) b (ShowsToken (at c) c ∷ ShowsToken (at t) t ∷ items) (later_part 0 b others.0)
    ∙ ap (λ z. ShowsToken (at b) b ∷ z) (token_passes (at c) c (ShowsToken (at t) t ∷ items) (later_part 1 c third)))
broken at (a ∷ b ∷ c ∷ d ∷ ts) t items few e f = absurd (omega arith)

-- a pragma after the tokens
pub before_pragma : (at : Token → Location) (ts : List Token) (l : Location) (us : List PragmaToken) (items : List Shown) → length ts ≤ 3
    → with_operators 0 (shows at ts ++ ShowsPragma l us ∷ items) ≡ shows at ts ++ ShowsPragma l us ∷ with_operators 0 items
before_pragma at [] l us items few = refl
before_pragma at (a ∷ []) l us items few = refl
before_pragma at (a ∷ b ∷ []) l us items few = refl
before_pragma at (a ∷ b ∷ c ∷ []) l us items few = refl
before_pragma at (a ∷ b ∷ c ∷ d ∷ ts) l us items few = absurd (omega arith)

-- no item after them
pub at_end : (at : Token → Location) (ts : List Token) → length ts ≤ 3 → with_operators 0 (shows at ts) ≡ shows at ts
at_end at [] few = refl
at_end at (a ∷ []) few = refl
at_end at (a ∷ b ∷ []) few = refl
at_end at (a ∷ b ∷ c ∷ []) few = refl
at_end at (a ∷ b ∷ c ∷ d ∷ ts) few = absurd (omega arith)

-- ---- the four tokens of an operator

module _ (at : Token → Location) (a b c d : Token) (items : List Shown) (e : are_parts 0 (a ∷ b ∷ c ∷ d ∷ []) ≡ true) where
  parts : (is_part 0 a ≡ true) × (is_part 1 b ≡ true) × (is_part 2 c ≡ true) × (is_part 3 d ≡ true)
  parts =
      let first = and_parts (is_part 0 a) (is_part 1 b && (is_part 2 c && (is_part 3 d && true))) e in
      let second = and_parts (is_part 1 b) (is_part 2 c && (is_part 3 d && true)) first.1 in
      let third = and_parts (is_part 2 c) (is_part 3 d && true) second.1 in
      (first.0, second.0, third.0, (and_parts (is_part 3 d) true third.1).0)

  pragma_is : pragma_of a b c d ≡ tokens_after 0 true (destringized c.text)
  pragma_is =
      let whole : (((is_part 0 a && is_part 1 b) && is_part 2 c) && is_part 3 d) ≡ true = rw (parts.0, parts.1, parts.2, parts.3) refl in
      ap (λ (x : Bool). if x then tokens_after 0 true (destringized c.text) else None) whole

  operator_is : (r : Option (List PragmaToken)) → tokens_after 0 true (destringized c.text) ≡ r → operator_at (shows at (a ∷ b ∷ c ∷ d ∷ []) ++ items) ≡ option_map (ShowsPragma (at a)) r
  operator_is r f = ap (option_map (ShowsPragma (at a))) (pragma_is ∙ f)

  -- the operator is replaced by its pragma
  pub operator_makes : (us : List PragmaToken) → tokens_after 0 true (destringized c.text) ≡ Some us
      → with_operators 0 (shows at (a ∷ b ∷ c ∷ d ∷ []) ++ items) ≡ ShowsPragma (at a) us ∷ with_operators 0 items
  operator_makes us f =
      let others = shows at (b ∷ c ∷ d ∷ []) ++ items in
      ap (λ (o : Option Shown). elim o [ Some pragma ↦ pragma ∷ with_operators 3 others | None ↦ ShowsToken (at a) a ∷ with_operators 0 others ]) (operator_is (Some us) f)

  -- or is left as it is, if its literal isn't the text of a pragma
  pub operator_stays : tokens_after 0 true (destringized c.text) ≡ None → with_operators 0 (shows at (a ∷ b ∷ c ∷ d ∷ []) ++ items) ≡ shows at (a ∷ b ∷ c ∷ d ∷ []) ++ with_operators 0 items
  operator_stays f =
      kept (ShowsToken (at a) a) (shows at (b ∷ c ∷ d ∷ []) ++ items) (operator_is None f)
      ∙ ap (λ z. ShowsToken (at a) a ∷ z)
      (token_passes (at b) b (shows at (c ∷ d ∷ []) ++ items) (later_part 0 b parts.1)
      ∙ ap (λ z. ShowsToken (at b) b ∷ z)
      (token_passes (at c) c (shows at (d ∷ []) ++ items) (later_part 1 c parts.2)
      ∙ ap (λ z. ShowsToken (at c) c ∷ z) (token_passes (at d) d items (later_part 2 d parts.3))))
