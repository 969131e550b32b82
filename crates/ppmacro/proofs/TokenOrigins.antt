-- The origin, the hide set and the leading-space flag of each token of a replacement.
use Rattle.std.proofs.Common.{◌+◌, length-append, ◌≡◌, ℕ, zero, suc, ◌<◌, ◌-◌, Bool, true, false, not, ◌&&◌, ◌||◌, List, [], ◌∷◌, ◌++◌, map, take, length, Option, Some, None, Result, Ok, Err}
use Rattle.std.proofs.Common.{if◌then◌else◌, ◌⊎◌, inl, inr, ◌≤◌, refl, sym, ap, ◌∙◌, subst, unwrap_or, slice_get, append-nil, append_assoc, arith}
use Rattle.std.proofs.lemmas.Bool.{cases_lt}
use Rattle.std.specs.List.{AllByRecursion, Contains}
use Rattle.pptext.specs.declared.tokens.Place.{Place}
use Rattle.pptext.specs.declared.tokens.Token.{Token}
use Rattle.pptext.specs.declared.tokens.Kind.{Kind}
use Rattle.pptext.specs.declared.tokens.Fault.{Fault}
use Rattle.pptext.specs.Tokens.{fault}
use Rattle.ppmacro.specs.Names.{HideSet}
use Rattle.ppmacro.specs.Hiding.{Hiding}
use Rattle.ppmacro.specs.Lexing.{kind_of}
use Rattle.ppmacro.specs.Substitution.{Arguments, Replacement, argument_at, stringized, is_string_literal, string_text, string_token, pasted, pasted_as, after_ok, join, join_all}
use Rattle.ppmacro.specs.Substitution.{operand_tokens, operands_tokens, is_joined, before_variadic, variadic_of, variadic_after_comma, with_variadic_tokens, chain_tokens, space_first, chains_tokens}
use Rattle.ppmacro.specs.Substitution.{hsadd, chains_replacement}
use Rattle.ppmacro.specs.Origins.{OperandTokens, listed, expanded, given, variadic, literal, AreNeighbors, IsPaste, IsLastToken, own_last, paste_last, ComesFrom, own, paste}
use Rattle.ppmacro.specs.Origins.{own_space, LeavesPending, at_start, after_tokens, after_none, IsReplacementToken}
use Rattle.ppmacro.specs.declared.macros.Chain.{Chain}
use Rattle.ppmacro.specs.declared.macros.Operand.{Operand}
use Rattle.ppmacro.specs.declared.macros.Operand.TheVariants.{Tok, Param, Str, VariadicAfterComma}

-- ---- lists and results

here : {X : Type 0} (x : X) (xs : List X) → Contains (x ∷ xs) x
here x xs = (0, omega arith, refl)

there : {X : Type 0} (x y : X) (xs : List X) → Contains xs y → Contains (x ∷ xs) y
there x y xs h = (suc h.0, omega (arith, h.1), h.2)

all-map : {X : Type 0} (P Q : X → Type 0) → ((x : X) → P x → Q x) → (xs : List X) → AllByRecursion P xs → AllByRecursion Q xs
all-map P Q f [] h = tt
all-map P Q f (x ∷ xs) h = (f x h.0, all-map P Q f xs h.1)

all-append : {X : Type 0} (P : X → Type 0) (xs ys : List X) → AllByRecursion P xs → AllByRecursion P ys → AllByRecursion P (xs ++ ys)
all-append P [] ys h k = k
all-append P (x ∷ xs) ys h k = (h.0, all-append P xs ys h.1 k)

all-take : {X : Type 0} (P : X → Type 0) (n : ℕ) (xs : List X) → AllByRecursion P xs → AllByRecursion P (take n xs)
all-take P zero xs h = tt
all-take P (suc n) [] h = tt
all-take P (suc n) (x ∷ xs) h = (h.0, all-take P n xs h.1)

each-contained : {X : Type 0} (xs : List X) → AllByRecursion (Contains xs) xs
each-contained [] = tt
each-contained (x ∷ xs) = (here x xs, all-map (Contains xs) (Contains (x ∷ xs)) (λ y h. there x y xs h) xs (each-contained xs))

each-of : {X : Type 0} (P : X → Type 0) (xs : List X) → ((x : X) → Contains xs x → P x) → AllByRecursion P xs
each-of P xs f = all-map (Contains xs) P f xs (each-contained xs)

ok-same : {A E : Type 0} (x y : A) → ◌≡◌ {A = Result A E} (Ok x) (Ok y) → x ≡ y
ok-same x y e = cc e

no-ok : {A E : Type 0} (f : E) (y : A) → ◌≡◌ {A = Result A E} (Err f) (Ok y) → ⊥
no-ok f y e = cc e

after : {A B E : Type 0} (r : Result A E) (f : A → Result B E) (b : B) → after_ok r f ≡ Ok b → (a : A) × (r ≡ Ok a) × (f a ≡ Ok b)
after (Ok a) f b e = (a, refl, e)
after (Err x) f b e = absurd (no-ok x b e)

-- P holds for each element and its index. The first element has the index n.
abbrev pub Indexed : {X : Type 0} → (ℕ → X → Type 0) → ℕ → List X → Type 0
Indexed P n [] = Unit {0}
Indexed P n (x ∷ xs) = P n x × Indexed P (suc n) xs

-- ---- the tokens of a chain

-- A join of lists that have tokens has tokens.
join_some : (l : Hiding) (ls : List Hiding) (r : Hiding) (rs ts : List Hiding) (used : Place) → join (l ∷ ls) (r ∷ rs) used ≡ Ok ts → (x : Hiding) × (xs : List Hiding) × (ts ≡ x ∷ xs)
join_some l [] r rs ts used e =
    let made = after (pasted l r used) (λ t. Ok (t ∷ rs)) ts e in
    (made.0, rs, sym (ok-same (made.0 ∷ rs) ts made.2))
join_some l (m ∷ ls) r rs ts used e =
    let made = after (join (m ∷ ls) (r ∷ rs) used) (λ us. Ok (l ∷ us)) ts e in
    (l, made.0, sym (ok-same (l ∷ made.0) ts made.2))

module _ (args : Arguments) (used : Place) (operands : List Operand) where
  abbrev Comes : Hiding → Type 0
  Comes = ComesFrom args used operands

  abbrev Gives : ℕ → List Hiding → Type 0
  Gives = OperandTokens args used operands

  -- The last token comes from an operand before n, and those between have no tokens.
  record EndsBefore (n : ℕ) (t : Hiding) : Type 0 where
    at : ℕ
    last : IsLastToken args used operands at t
    earlier : at < n
    placemarkers : (k : ℕ) → at < k → k < n → Gives k []

  abbrev LastEndsBefore : ℕ → List Hiding → Type 0
  LastEndsBefore n [] = Unit {0}
  LastEndsBefore n (t ∷ []) = EndsBefore n t
  LastEndsBefore n (t ∷ (u ∷ ts)) = LastEndsBefore n (u ∷ ts)

  own_each : (n : ℕ) (ts : List Hiding) → Gives n ts → AllByRecursion Comes ts
  own_each n ts g = each-of Comes ts (λ t h. own g h)

  -- The last token of an operand ends before the next operand.
  own_ends : (n : ℕ) (prefix ts : List Hiding) → Gives n (prefix ++ ts) → LastEndsBefore (suc n) ts
  own_ends n prefix [] g = tt
  own_ends n prefix (t ∷ []) g = record { at = n; last = own_last prefix g; earlier = omega arith; placemarkers = λ k l m. absurd (omega (arith, l, m)) }
  own_ends n prefix (t ∷ (u ∷ ts)) g = own_ends n (prefix ++ t ∷ []) (u ∷ ts) (subst (Gives n) (sym (append_assoc prefix (t ∷ []) (u ∷ ts))) g)

  -- An operand without tokens leaves the last token.
  same_ends : (n : ℕ) (ts : List Hiding) → Gives n [] → LastEndsBefore n ts → LastEndsBefore (suc n) ts
  same_ends n [] g e = tt
  same_ends n (t ∷ []) g e = record { at = e.at; last = e.last; earlier = omega (arith, e.earlier); placemarkers = λ k l m. by_index k l m (cases_lt k n) }
    where
      by_index : (k : ℕ) → e.at < k → k < suc n → (k < n) ⊎ (n ≤ k) → Gives k []
      by_index k l m (inl less) = e.placemarkers k l less
      by_index k l m (inr no_less) = let is : n ≡ k = omega (arith, m, no_less) in subst (λ k. Gives k []) is g
  same_ends n (t ∷ (u ∷ ts)) g e = same_ends n (u ∷ ts) g e

  paste_of : (l r t : Hiding) → pasted l r used ≡ Ok t → IsPaste used l r t
  paste_of l r t e = by_kind (kind_of (l.token.text ++ r.token.text)) refl e
    where
      by_kind : (o : Option Kind) → kind_of (l.token.text ++ r.token.text) ≡ o → pasted_as o l r used ≡ Ok t → IsPaste used l r t
      by_kind None s e = absurd (no-ok _ t e)
      by_kind (Some kind) s e = let is = sym (ok-same _ t e) in record { kind = kind; is_token = s; token = ap (λ h. h.token) is; hide = ap (λ h. h.hide) is }

  neighbors : (n : ℕ) (t : Hiding) (e : EndsBefore n t) → n < length (before_variadic operands) → AreNeighbors args used operands e.at n
  neighbors n t e l = record { in_order = e.earlier; joined = l; placemarkers = e.placemarkers }

  pasted_ends : (n : ℕ) (l r t : Hiding) (rs : List Hiding) → EndsBefore n l → n < length (before_variadic operands) → Gives n (r ∷ rs) → IsPaste used l r t → LastEndsBefore (suc n) (t ∷ rs)
  pasted_ends n l r t [] e less g p = record { at = n; last = paste_last e.last (neighbors n l e less) g p; earlier = omega arith; placemarkers = λ k l m. absurd (omega (arith, l, m)) }
  pasted_ends n l r t (u ∷ us) e less g p = own_ends n (r ∷ []) (u ∷ us) g

  -- The tokens so far, with those of operand n joined to them.
  join_each : (n : ℕ) (left right ts : List Hiding)
      → n < length (before_variadic operands)
      → AllByRecursion Comes left
      → LastEndsBefore n left
      → Gives n right
      → join left right used ≡ Ok ts
      → AllByRecursion Comes ts × LastEndsBefore (suc n) ts
  join_each n [] right ts less all ends g e = subst (λ ts. AllByRecursion Comes ts × LastEndsBefore (suc n) ts) (ok-same right ts e) (own_each n right g, own_ends n [] right g)
  join_each n (l ∷ ls) [] ts less all ends g e = subst (λ ts. AllByRecursion Comes ts × LastEndsBefore (suc n) ts) (ok-same (l ∷ ls) ts e) (all, same_ends n (l ∷ ls) g ends)
  join_each n (l ∷ []) (r ∷ rs) ts less all ends g e =
      let made = after (pasted l r used) (λ t. Ok (t ∷ rs)) ts e in
      let is = paste_of l r made.0 made.1 in
      subst (λ ts. AllByRecursion Comes ts × LastEndsBefore (suc n) ts) (ok-same (made.0 ∷ rs) ts made.2) (
        (paste ends.last (neighbors n l ends less) g is, (own_each n (r ∷ rs) g).1),
        pasted_ends n l r made.0 rs ends less g is,
      )
  join_each n (l ∷ (m ∷ ls)) (r ∷ rs) ts less all ends g e =
      let made = after (join (m ∷ ls) (r ∷ rs) used) (λ us. Ok (l ∷ us)) ts e in
      let rest = join_each n (m ∷ ls) (r ∷ rs) made.0 less all.1 ends g made.1 in
      let some = join_some m ls r rs made.0 used made.1 in
      let last : LastEndsBefore (suc n) (l ∷ made.0) = subst (λ us. LastEndsBefore (suc n) (l ∷ us)) (sym some.2) (subst (LastEndsBefore (suc n)) some.2 rest.1) in
      subst (λ ts. AllByRecursion Comes ts × LastEndsBefore (suc n) ts) (ok-same (l ∷ made.0) ts made.2) ((all.0, rest.0), last)

  -- The tokens of an operand that `##` may join.
  abbrev GivesJoined : ℕ → List Hiding → Type 0
  GivesJoined n ts = Gives n ts × (n < length (before_variadic operands))

  join_all_each : (n : ℕ) (left : List Hiding) (lists : List (List Hiding)) (ts : List Hiding)
      → AllByRecursion Comes left
      → LastEndsBefore n left
      → Indexed GivesJoined n lists
      → join_all left lists used ≡ Ok ts
      → AllByRecursion Comes ts
  join_all_each n left [] ts all ends g e = subst (AllByRecursion Comes) (ok-same left ts e) all
  join_all_each n left (right ∷ more) ts all ends g e =
      let made = after (join left right used) (λ us. join_all us more used) ts e in
      let next = join_each n left right made.0 g.0.1 all ends g.0.0 made.1 in
      join_all_each (suc n) made.0 more ts next.0 next.1 g.1 made.2

  literal_tokens : (n i : ℕ) (at : Place) (t : Hiding)
      → slice_get operands n ≡ Some (Str i at)
      → stringized (map (λ t. t.token) (argument_at args.given i)) at used ≡ Ok t
      → Gives n (t ∷ [])
  literal_tokens n i at t h e =
      let argument : List Token = map (λ t. t.token) (argument_at args.given i) in
      elim (is_string_literal (kind_of (string_text argument))) as (λ b. (if b then Ok (string_token (string_text argument) at used) else Err (fault 20 used (string_text argument))) ≡ Ok t → Gives n (t ∷ [])) [
        | true ↦ λ e. subst (λ t. Gives n (t ∷ [])) (ok-same _ t e) (literal h)
        | false ↦ λ e. absurd (no-ok _ t e)
      ] e

  operand_tokens_are : (next_to_paste : Bool) → is_joined operands ≡ next_to_paste → (n : ℕ) (o : Operand) → slice_get operands n ≡ Some o → (ts : List Hiding) → operand_tokens next_to_paste args used o ≡ Ok ts → Gives n ts
  operand_tokens_are next_to_paste joined n (Tok t) h ts e = subst (Gives n) (ok-same _ ts e) (listed h)
  operand_tokens_are true joined n (Param i) h ts e = subst (Gives n) (ok-same _ ts e) (given joined h)
  operand_tokens_are false joined n (Param i) h ts e = subst (Gives n) (ok-same _ ts e) (expanded joined h)
  operand_tokens_are next_to_paste joined n (VariadicAfterComma i) h ts e = subst (Gives n) (ok-same _ ts e) (variadic h)
  operand_tokens_are next_to_paste joined n (Str i at) h ts e =
      let made = after (stringized (map (λ t. t.token) (argument_at args.given i)) at used) (λ t. Ok (t ∷ [])) ts e in
      subst (Gives n) (ok-same _ ts made.2) (literal_tokens n i at made.0 h made.1)

  -- These are the operands from index n on.
  abbrev AreFrom : ℕ → List Operand → Type 0
  AreFrom = Indexed (λ n o. (slice_get operands n ≡ Some o) × (n < length (before_variadic operands)))

  operands_each : (n : ℕ) (os : List Operand) → AreFrom n os → (lists : List (List Hiding)) → operands_tokens (is_joined operands) args used os ≡ Ok lists → Indexed GivesJoined n lists
  operands_each n [] from lists e = subst (Indexed GivesJoined n) (ok-same [] lists e) tt
  operands_each n (o ∷ os) from lists e =
      let one = after (operand_tokens (is_joined operands) args used o) (λ ts. after_ok (operands_tokens (is_joined operands) args used os) (λ more. Ok (ts ∷ more))) lists e in
      let others = after (operands_tokens (is_joined operands) args used os) (λ more. Ok (one.0 ∷ more)) lists one.2 in
      subst (Indexed GivesJoined n) (ok-same (one.0 ∷ others.0) lists others.2) (
        (operand_tokens_are (is_joined operands) refl n o from.0.0 one.0 one.1, from.0.1),
        operands_each (suc n) os from.1 others.0 others.1,
      )

  rest_each : (n i : ℕ) → slice_get operands n ≡ Some (VariadicAfterComma i) → (o : Option (List Hiding)) → slice_get args.given i ≡ o → (ts : List Hiding) → AllByRecursion Comes ts → AllByRecursion Comes (variadic_after_comma o ts)
  rest_each n i h None e ts all = all-take Comes (length ts - 1) ts all
  rest_each n i h (Some argument) e ts all =
      let is : argument_at args.given i ≡ argument = ap (λ o. unwrap_or o []) e in
      all-append Comes ts argument all (subst (AllByRecursion Comes) is (own_each n (argument_at args.given i) (variadic h)))

  with_rest_each : (o : Option ℕ) → ((i : ℕ) → o ≡ Some i → (n : ℕ) × (slice_get operands n ≡ Some (VariadicAfterComma i))) → (ts : List Hiding) → AllByRecursion Comes ts → AllByRecursion Comes (with_variadic_tokens args.given o ts)
  with_rest_each None has ts all = all
  with_rest_each (Some i) has ts all = rest_each (has i refl).0 i (has i refl).1 (slice_get args.given i) refl ts all

-- The operands before a variable argument after a comma have the same indices.
abbrev IsAt : {X : Type 0} → List X → ℕ → X → Type 0
IsAt xs n x = slice_get xs n ≡ Some x

next_at : {X : Type 0} (y : X) (xs ys : List X) → ((n : ℕ) (x : X) → IsAt xs n x → IsAt ys n x) → (n : ℕ) (x : X) → IsAt (y ∷ xs) n x → IsAt (y ∷ ys) n x
next_at y xs ys f zero x h = h
next_at y xs ys f (suc n) x h = f n x h

before_rest_at : (os : List Operand) (n : ℕ) (o : Operand) → IsAt (before_variadic os) n o → IsAt os n o
before_rest_at [] n o h = h
before_rest_at (VariadicAfterComma i ∷ []) n o h = absurd (cc h)
before_rest_at (Tok t ∷ os) n o h = next_at (Tok t) (before_variadic os) os (before_rest_at os) n o h
before_rest_at (Param i ∷ os) n o h = next_at (Param i) (before_variadic os) os (before_rest_at os) n o h
before_rest_at (Str i at ∷ os) n o h = next_at (Str i at) (before_variadic os) os (before_rest_at os) n o h
before_rest_at (VariadicAfterComma i ∷ (p ∷ os)) n o h = next_at (VariadicAfterComma i) (before_variadic (p ∷ os)) (p ∷ os) (before_rest_at (p ∷ os)) n o h

rest_at : (os : List Operand) (i : ℕ) → variadic_of os ≡ Some i → (n : ℕ) × IsAt os n (VariadicAfterComma i)
rest_at [] i e = absurd (cc)
rest_at (VariadicAfterComma j ∷ []) i e = let is : j ≡ i = cc in (0, ap (λ k. Some (VariadicAfterComma k)) is)
rest_at (Tok t ∷ os) i e = let h = rest_at os i e in (suc h.0, h.1)
rest_at (Param j ∷ os) i e = let h = rest_at os i e in (suc h.0, h.1)
rest_at (Str j at ∷ os) i e = let h = rest_at os i e in (suc h.0, h.1)
rest_at (VariadicAfterComma j ∷ (p ∷ os)) i e = let h = rest_at (p ∷ os) i e in (suc h.0, h.1)

-- The elements after a prefix have the indices from its length on.
indexed_from : {X : Type 0} (all prefix xs : List X) (n : ℕ) → n ≡ length prefix → all ≡ prefix ++ xs → Indexed (λ n x. IsAt all n x × (n < length all)) n xs
indexed_from all prefix [] n at e = tt
indexed_from {X} all prefix (x ∷ xs) n at e = (
  (subst (λ n. IsAt all n x) (sym at) (subst (λ ys. IsAt ys (length prefix) x) (sym e) (at_length prefix)), omega (arith, at, ap length e, length-append prefix (x ∷ xs))),
  indexed_from all (prefix ++ x ∷ []) xs (suc n) (omega (arith, at, length-append prefix (x ∷ []))) (e ∙ sym (append_assoc prefix (x ∷ []) xs)),
)
  where
    at_length : (prefix : List X) → IsAt (prefix ++ x ∷ xs) (length prefix) x
    at_length [] = refl
    at_length (y ∷ ys) = at_length ys

all-indexed : {X : Type 0} (P Q : ℕ → X → Type 0) → ((n : ℕ) (x : X) → P n x → Q n x) → (n : ℕ) (xs : List X) → Indexed P n xs → Indexed Q n xs
all-indexed P Q f n [] h = tt
all-indexed P Q f n (x ∷ xs) h = (f n x h.0, all-indexed P Q f (suc n) xs h.1)

pub chain_each : (args : Arguments) (used : Place) (c : Chain) (ts : List Hiding) → chain_tokens args used c ≡ Ok ts → AllByRecursion (ComesFrom args used c.operands) ts
chain_each args used c ts e =
    let front = before_variadic c.operands in
    let rest : List Hiding → Result (List Hiding) Fault = λ us. Ok (with_variadic_tokens args.given (variadic_of c.operands) us) in
    let lists = after (operands_tokens (is_joined c.operands) args used front) (λ lists. after_ok (join_all [] lists used) rest) ts e in
    let joined = after (join_all [] lists.0 used) rest ts lists.2 in
    let from : AreFrom args used c.operands 0 front =
    all-indexed (λ n o. IsAt front n o × (n < length front)) (λ n o. IsAt c.operands n o × (n < length front)) (λ n o h. (before_rest_at c.operands n o h.0, h.1)) 0 front (indexed_from front [] front 0 refl refl) in
    let all = join_all_each args used c.operands 0 [] lists.0 joined.0 tt tt (operands_each args used c.operands 0 front from lists.0 lists.1) joined.1 in
    subst (AllByRecursion (ComesFrom args used c.operands)) (ok-same _ ts joined.2) (with_rest_each args used c.operands (variadic_of c.operands) (rest_at c.operands) joined.0 all)

-- ---- leading-space flags, and added names

abbrev is_nil : {X : Type 0} → List X → Bool
is_nil [] = true
is_nil (x ∷ xs) = false

not_nil : {X : Type 0} (xs : List X) (x : X) → false ≡ is_nil (xs ++ x ∷ [])
not_nil [] x = refl
not_nil (y ∷ ys) x = refl

-- The leading-space flag of the first chain doesn't count. Another chain has its own.
mark_is : (first : Bool) (earlier : List Chain) (c : Chain) → first ≡ is_nil earlier → (not first && c.space) ≡ own_space earlier c
mark_is first [] c e = rw e refl
mark_is first (b ∷ bs) c e = rw e refl

numbered-append : {X : Type 0} (P : ℕ → X → Type 0) (n : ℕ) (xs ys : List X) → Indexed P n xs → Indexed P (n + length xs) ys → Indexed P n (xs ++ ys)
numbered-append P n [] ys h k = subst (λ m. Indexed P m ys) (omega arith) k
numbered-append P n (x ∷ xs) ys h k = (h.0, numbered-append P (suc n) xs ys h.1 (subst (λ m. Indexed P m ys) (omega arith) k))

numbered-at : {X : Type 0} (P : ℕ → X → Type 0) (n : ℕ) (prefix : List X) (x : X) (following : List X) → Indexed P n (prefix ++ x ∷ following) → P (n + length prefix) x
numbered-at P n [] x following h = subst (λ m. P m x) (omega arith) h.0
numbered-at P n (y ∷ prefix) x following h = subst (λ m. P m x) (omega arith) (numbered-at P (suc n) prefix x following h.1)

module _ (args : Arguments) (added : HideSet) (used : Place) (space : Bool) where
  abbrev Replacing : List Chain → ℕ → Hiding → Type 0
  Replacing cs n t = IsReplacementToken cs args added used space n (hsadd added used t)

  -- Each token of a chain after the first token is a replacement token.
  later_each : (earlier : List Chain) (c : Chain) (following : List Chain) (count : ℕ) (pending : Bool)
      → LeavesPending args used space earlier count pending
      → (t : Hiding) (ts us : List Hiding)
      → chain_tokens args used c ≡ Ok ((t ∷ ts) ++ us)
      → (n : ℕ)
      → n ≡ count + length (t ∷ ts)
      → Indexed (Replacing (earlier ++ c ∷ following)) n us
  later_each earlier c following count pending w t ts [] e n at = tt
  later_each earlier c following count pending w t ts (u ∷ us) e n at = (
    record {
      earlier = earlier;
      chain = c;
      following = following;
      laid_out = refl;
      prefix = t ∷ ts;
      own = u;
      more = us;
      chain_tokens_are = e;
      count = count;
      pending = pending;
      is_pending = w;
      located = at;
      token = refl;
      hide = refl;
    },
    later_each earlier c following count pending w t (ts ++ u ∷ []) us (e ∙ ap (λ xs. Ok (t ∷ xs)) (sym (append_assoc ts (u ∷ []) us))) (suc n) (omega (arith, at, length-append ts (u ∷ []))),
  )

  -- Each token of a chain is a replacement token, and `LeavesPending` holds after the chain.
  chain_replacing : (earlier : List Chain) (c : Chain) (following : List Chain) (count : ℕ) (pending flag : Bool)
      → LeavesPending args used space earlier count pending
      → flag ≡ (pending || own_space earlier c)
      → (ts : List Hiding)
      → chain_tokens args used c ≡ Ok ts
      → Indexed (Replacing (earlier ++ c ∷ following)) count (space_first flag ts).tokens
      × LeavesPending args used space (earlier ++ c ∷ []) (count + length (space_first flag ts).tokens) (space_first flag ts).pending
  chain_replacing earlier c following count pending flag w m [] e =
      let none : count ≡ count + 0 = omega arith in
      (tt, subst (λ n. LeavesPending args used space (earlier ++ c ∷ []) n flag) none (subst (LeavesPending args used space (earlier ++ c ∷ []) count) (sym m) (after_none earlier c w e)))
  chain_replacing earlier c following count pending flag w m (t ∷ ts) e = (
    (
      record {
        earlier = earlier;
        chain = c;
        following = following;
        laid_out = refl;
        prefix = [];
        own = t;
        more = ts;
        chain_tokens_are = e;
        count = count;
        pending = pending;
        is_pending = w;
        located = omega arith;
        token = ap (λ b. record t.token { used = used; space = b }) m;
        hide = refl;
      },
      later_each earlier c following count pending w t [] ts e (suc count) (omega arith),
    ),
    after_tokens earlier c w e,
  )

  abbrev Walked : List Chain → ℕ → Replacement → Type 0
  Walked cs count m = Indexed (Replacing cs) count m.tokens × LeavesPending args used space cs (count + length m.tokens) m.pending

  walk : (earlier : List Chain) (count : ℕ) (pending first : Bool) (cs : List Chain) (m : Replacement)
      → first ≡ is_nil earlier
      → LeavesPending args used space earlier count pending
      → chains_tokens args used pending first cs ≡ Ok m
      → Walked (earlier ++ cs) count m
  walk earlier count pending first [] m f w e =
      let is : record { tokens = []; pending = pending } ≡ m = ok-same _ m e in
      let none : count ≡ count + 0 = omega arith in
      subst (Walked (earlier ++ []) count) is (tt, subst (λ n. LeavesPending args used space (earlier ++ []) n pending) none (subst (λ cs. LeavesPending args used space cs count pending) (sym (append-nil earlier)) w))
  walk earlier count pending first (c ∷ cs) m f w e =
      let one = after (chain_tokens args used c) (λ ts.
      let at : Replacement = space_first (pending || (not first && c.space)) ts in
      after_ok (chains_tokens args used at.pending false cs) (λ more. Ok (record { tokens = at.tokens ++ more.tokens; pending = more.pending }))) m e in
      let at : Replacement = space_first (pending || (not first && c.space)) one.0 in
      let others = after (chains_tokens args used at.pending false cs) (λ more. Ok (record { tokens = at.tokens ++ more.tokens; pending = more.pending })) m one.2 in
      let is : record { tokens = at.tokens ++ others.0.tokens; pending = others.0.pending } ≡ m = ok-same _ m others.2 in
      let own = chain_replacing earlier c cs count pending (pending || (not first && c.space)) w (ap (λ b. pending || b) (mark_is first earlier c f)) one.0 one.1 in
      let more = walk (earlier ++ c ∷ []) (count + length at.tokens) at.pending false cs others.0 (not_nil earlier c) own.1 others.1 in
      let all : Walked (earlier ++ c ∷ cs) (count + length at.tokens) others.0 = subst (λ xs. Walked xs (count + length at.tokens) others.0) (append_assoc earlier (c ∷ []) cs) more in
      let total : count + length at.tokens + length others.0.tokens ≡ count + length (at.tokens ++ others.0.tokens) = omega (arith, length-append at.tokens others.0.tokens) in
      subst (Walked (earlier ++ c ∷ cs) count) is (
        numbered-append (Replacing (earlier ++ c ∷ cs)) count at.tokens others.0.tokens own.0 all.0,
        subst (λ n. LeavesPending args used space (earlier ++ c ∷ cs) n others.0.pending) total all.1,
      )

  all-hsadd : (cs : List Chain) (n : ℕ) (ts : List Hiding) → Indexed (Replacing cs) n ts → Indexed (IsReplacementToken cs args added used space) n (map (hsadd added used) ts)
  all-hsadd cs n [] h = tt
  all-hsadd cs n (t ∷ ts) h = (h.0, all-hsadd cs (suc n) ts h.1)

  length-hsadd : (ts : List Hiding) → length ts ≡ length (map (hsadd added used) ts)
  length-hsadd [] = refl
  length-hsadd (t ∷ ts) = ap suc (length-hsadd ts)

  replaced_all : (cs : List Chain) (m : Replacement)
      → chains_replacement cs args added used space ≡ Ok m
      → Indexed (IsReplacementToken cs args added used space) 0 m.tokens × LeavesPending args used space cs (length m.tokens) m.pending
  replaced_all cs m e =
      let made = after (chains_tokens args used space true cs) (λ n. Ok (record n { tokens = map (hsadd added used) n.tokens })) m e in
      let is : record made.0 { tokens = map (hsadd added used) made.0.tokens } ≡ m = ok-same _ m made.2 in
      let all = walk [] 0 space true cs made.0 refl at_start made.1 in
      let total : 0 + length made.0.tokens ≡ length (map (hsadd added used) made.0.tokens) = omega (arith, length-hsadd made.0.tokens) in
      subst (λ n. Indexed (IsReplacementToken cs args added used space) 0 n.tokens × LeavesPending args used space cs (length n.tokens) n.pending) is
      (all-hsadd cs 0 made.0.tokens all.0, subst (λ n. LeavesPending args used space cs n made.0.pending) total all.1)

  pub replaced_each : (cs : List Chain) (m : Replacement)
      → chains_replacement cs args added used space ≡ Ok m
      → (prefix : List Hiding) (t : Hiding) (following : List Hiding)
      → m.tokens ≡ prefix ++ t ∷ following
      → IsReplacementToken cs args added used space (length prefix) t
  replaced_each cs m e prefix t following is =
      let same : 0 + length prefix ≡ length prefix = omega arith in
      subst (λ n. IsReplacementToken cs args added used space n t) same
      (numbered-at (IsReplacementToken cs args added used space) 0 prefix t following (subst (Indexed (IsReplacementToken cs args added used space) 0) is (replaced_all cs m e).0))

  pub waits_behind : (cs : List Chain) (m : Replacement) → chains_replacement cs args added used space ≡ Ok m → LeavesPending args used space cs (length m.tokens) m.pending
  waits_behind cs m e = (replaced_all cs m e).1
