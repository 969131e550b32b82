-- A replacement list with valid `#` and `##` splits into chains in exactly one way: `chains_of`.
use Rattle.std.proofs.Common.{◌≡◌, ℕ, zero, suc, ◌<◌, Bool, true, false, not, ◌&&◌, ◌||◌, List, [], ◌∷◌, ◌++◌, map, length, Option, Some, None}
use Rattle.std.proofs.Common.{is_some, codes, if◌then◌else◌, refl, sym, ap, ◌∙◌, subst, true≢false, arith, append_assoc}
use Rattle.std.proofs.lemmas.Bool.{and_parts, and_right, or_parts, not-true}
use Rattle.pptext.specs.declared.tokens.Token.{Token}
use Rattle.pptext.specs.Tokens.{is_identifier, is_punct}
use Rattle.ppmacro.specs.HashOperators.{is_hash, is_paste}
use Rattle.ppmacro.specs.Chains.{ChainPart, OperandPart, PastePart, parameter_named, parameter_of, is_function_like, is_operator_hash, parts_after, begins_joined, join_first, group_parts, lenient_parameter, with_variadic, chains_of}
use Rattle.ppmacro.specs.Define.{is_empty, misplaces_paste, begins_with_parameter, misplaces_hash}
use Rattle.ppmacro.specs.Laws.{IsOperand, token, parameter, stringized, AreJoined, last, pasted, AreChains, none, chain, has_valid_operators}
use Rattle.ppmacro.specs.declared.macros.MacroKind.{MacroKind}
use Rattle.ppmacro.specs.declared.macros.Macro.{Macro}
use Rattle.ppmacro.specs.declared.macros.Chain.{Chain}
use Rattle.ppmacro.specs.declared.macros.Operand.{Operand}
use Rattle.ppmacro.specs.declared.macros.Operand.TheVariants.{Tok, Param, Str}
use Rattle.ppmacro.proofs.ChainLemmas.{group_parts-alone}
use Rattle.ppmacro.proofs.ParameterListSyntax.{no_punct, other_punct}

-- ---- parameters, `#` and `##` are different tokens

identifier_by : (b : Bool) (o : Option ℕ) (i : ℕ) → (if b then o else None) ≡ Some i → b ≡ true
identifier_by true o i e = refl
identifier_by false o i e = absurd (cc)

parameter_identifier : (kind : MacroKind) (t : Token) (i : ℕ) → parameter_of kind t ≡ Some i → is_identifier t ≡ true
parameter_identifier kind t i e = identifier_by (is_identifier t) (parameter_named kind t.text) i e

pub parameter_no_paste : (kind : MacroKind) (t : Token) (i : ℕ) → parameter_of kind t ≡ Some i → is_paste t ≡ false
parameter_no_paste kind t i e =
    let is : is_identifier t ≡ true = parameter_identifier kind t i e in
    rw (no_punct (codes "##") t is, no_punct (codes "%:%:") t is) refl

pub parameter_no_hash : (kind : MacroKind) (t : Token) (i : ℕ) → parameter_of kind t ≡ Some i → is_operator_hash kind t ≡ false
parameter_no_hash kind t i e =
    let is : is_identifier t ≡ true = parameter_identifier kind t i e in
    let no_hash : is_hash t ≡ false = rw (no_punct (codes "#") t is, no_punct (codes "%:") t is) refl in
    and_right (is_function_like kind) (is_hash t) no_hash

pub hash_no_paste : (kind : MacroKind) (t : Token) → is_operator_hash kind t ≡ true → is_paste t ≡ false
hash_no_paste kind t e = by_spelling (is_punct (codes "#") t) refl (and_parts (is_function_like kind) (is_hash t) e).1
  where
    by_spelling : (b : Bool) → is_punct (codes "#") t ≡ b → (b || is_punct (codes "%:") t) ≡ true → is_paste t ≡ false
    by_spelling true s h = rw (other_punct (codes "#") (codes "##") t refl s, other_punct (codes "#") (codes "%:%:") t refl s) refl
    by_spelling false s h = rw (other_punct (codes "%:") (codes "##") t refl h, other_punct (codes "%:") (codes "%:%:") t refl h) refl

-- ---- every split of a list into chains equals `chains_of`

at_token : (kind : MacroKind) (t : Token) (rest : List Token)
    → is_paste t ≡ false
    → is_operator_hash kind t ≡ false
    → parameter_of kind t ≡ None
    → parts_after kind None (t ∷ rest) ≡ OperandPart t.space (Tok t) ∷ parts_after kind None rest
at_token kind t rest p h e = rw (parts_after, p, h, e) refl

at_parameter : (kind : MacroKind) (t : Token) (i : ℕ) (rest : List Token)
    → is_paste t ≡ false
    → is_operator_hash kind t ≡ false
    → parameter_of kind t ≡ Some i
    → parts_after kind None (t ∷ rest) ≡ OperandPart t.space (Param i) ∷ parts_after kind None rest
at_parameter kind t i rest p h e = rw (parts_after, p, h, e) refl

at_hash : (kind : MacroKind) (hash t : Token) (i : ℕ) (rest : List Token)
    → is_paste hash ≡ false
    → is_operator_hash kind hash ≡ true
    → parameter_of kind t ≡ Some i
    → parts_after kind None (hash ∷ (t ∷ rest)) ≡ OperandPart hash.space (Str i hash.at) ∷ parts_after kind None rest
at_hash kind hash t i rest p h e = rw (parts_after, p, h, e) refl

at_paste : (kind : MacroKind) (p : Token) (ts : List Token) → is_paste p ≡ true → parts_after kind None (p ∷ ts) ≡ PastePart ∷ parts_after kind None ts
at_paste kind p ts e = rw (parts_after, e) refl

module _ (kind : MacroKind) where
  abbrev items : List Token → List ChainPart
  items ts = parts_after kind None ts

  operand_items : {space : Bool} {ts : List Token} {o : Operand} → IsOperand kind space ts o → (rest : List Token) → items (ts ++ rest) ≡ OperandPart space o ∷ items rest
  operand_items (token {t = t} p h e) rest = at_token kind t rest p h e
  operand_items (parameter {t = t} {i = i} e) rest = at_parameter kind t i rest (parameter_no_paste kind t i e) (parameter_no_hash kind t i e) e
  operand_items (stringized {hash = hash} {t = t} {i = i} h e) rest = at_hash kind hash t i rest (hash_no_paste kind hash h) h e

  paste_items : (p : Token) (ts : List Token) → is_paste p ≡ true → items (p ∷ ts) ≡ PastePart ∷ items ts
  paste_items p ts e = at_paste kind p ts e

  unjoined : {space : Bool} {ts : List Token} {os : List Operand} → AreJoined kind space ts os → (rest : List Token) → begins_joined (items (ts ++ rest)) ≡ false
  unjoined (last o) rest = ap begins_joined (operand_items o rest)
  unjoined (pasted ts p more other o e j) rest = ap (λ xs. begins_joined (items xs)) (append_assoc ts (p ∷ more) rest) ∙ ap begins_joined (operand_items o (p ∷ (more ++ rest)))

  unjoined_all : {ts : List Token} {cs : List Chain} → AreChains kind ts cs → begins_joined (items ts) ≡ false
  unjoined_all none = refl
  unjoined_all (chain ts rest j more) = unjoined j rest

  joined_grouped : {space : Bool} {ts : List Token} {os : List Operand}
      → AreJoined kind space ts os
      → (rest : List Token) (cs : List Chain)
      → begins_joined (items rest) ≡ false
      → group_parts (items rest) ≡ cs
      → group_parts (items (ts ++ rest)) ≡ record { space = space; operands = os } ∷ cs
  joined_grouped (last {space = space} {o = o} is) rest cs b e = ap group_parts (operand_items is rest) ∙ group_parts-alone space o (items rest) b ∙ ap (λ ds. record { space = space; operands = o ∷ [] } ∷ ds) e
  joined_grouped (pasted {space = space} {o = o} ts p more other is s j) rest cs b e =
      ap (λ xs. group_parts (items xs)) (append_assoc ts (p ∷ more) rest)
      ∙ ap group_parts (operand_items is (p ∷ (more ++ rest)))
      ∙ ap (λ ys. group_parts (OperandPart space o ∷ ys)) (paste_items p (more ++ rest) s)
      ∙ ap (join_first space o) (joined_grouped j rest cs b e)

  -- The chain after `with_variadic`: its last operand may become a `VariadicAfterComma`.
  abbrev ended : Chain → Chain
  ended = with_variadic (lenient_parameter kind)

  pub laid : {ts : List Token} {cs : List Chain} → AreChains kind ts cs → map ended (group_parts (items ts)) ≡ cs
  laid none = refl
  laid (chain {space = space} {os = os} ts rest j more) =
      ap (map ended) (joined_grouped j rest (group_parts (items rest)) (unjoined_all more) refl)
      ∙ ap (λ ds. ended (record { space = space; operands = os }) ∷ ds) (laid more)

  -- ---- a list with valid operators splits into chains

  abbrev HashesStand : List Token → Type 0
  HashesStand ts = (is_function_like kind && misplaces_hash kind ts) ≡ false

  hashes_behind : (f a m : Bool) → (f && (a || m)) ≡ false → (f && m) ≡ false
  hashes_behind true a m e = (or_parts a m e).1
  hashes_behind false a m e = refl

  hash_named : (f h b m : Bool) → (f && h) ≡ true → (f && ((h && not b) || m)) ≡ false → b ≡ true
  hash_named true true true m h e = refl
  hash_named true true false m h e = absurd (true≢false e)
  hash_named true false b m h e = absurd (true≢false (sym h))
  hash_named false g b m h e = absurd (true≢false (sym h))

  record First (ts : List Token) : Type 0 where
    space : Bool
    operand : Operand
    front : List Token
    rest : List Token
    is : IsOperand kind space front operand
    laid_out : ts ≡ front ++ rest
    less : length rest < length ts
    pastes : misplaces_paste false rest ≡ false
    hashes : HashesStand rest

  after_hash : (t : Token) (ts : List Token) → is_operator_hash kind t ≡ true → begins_with_parameter kind ts ≡ true → misplaces_paste false ts ≡ false → HashesStand ts → First (t ∷ ts)
  after_hash t [] h b p s = absurd (true≢false (sym b))
  after_hash t (u ∷ us) h b p s = elim (parameter_of kind u) as (λ o. parameter_of kind u ≡ o → is_some o ≡ true → First (t ∷ (u ∷ us))) [
    | Some i ↦ λ e _.
        let next : misplaces_paste false (u ∷ us) ≡ misplaces_paste false us = rw (parameter_no_paste kind u i e) refl in
        record {
          space = t.space;
          operand = _;
          front = t ∷ (u ∷ []);
          rest = us;
          is = stringized h e;
          laid_out = refl;
          less = omega arith;
          pastes = sym next ∙ p;
          hashes = hashes_behind (is_function_like kind) (is_hash u && not (begins_with_parameter kind us)) (misplaces_hash kind us) s;
        }
    | None ↦ λ _ b. absurd (true≢false (sym b))
  ] refl b

  first_by : (t : Token) (ts : List Token) → is_paste t ≡ false → misplaces_paste false ts ≡ false → HashesStand (t ∷ ts) → First (t ∷ ts)
  first_by t ts p m s = elim (is_operator_hash kind t) as (λ b. is_operator_hash kind t ≡ b → First (t ∷ ts)) [
    | true ↦ λ h. after_hash t ts h (hash_named (is_function_like kind) (is_hash t) (begins_with_parameter kind ts) (misplaces_hash kind ts) h s) m following
    | false ↦ λ h. elim (parameter_of kind t) as (λ o. parameter_of kind t ≡ o → First (t ∷ ts)) [
      | Some i ↦ λ e. record { space = t.space; operand = _; front = t ∷ []; rest = ts; is = parameter e; laid_out = refl; less = omega arith; pastes = m; hashes = following }
      | None ↦ λ e. record { space = t.space; operand = _; front = t ∷ []; rest = ts; is = token p h e; laid_out = refl; less = omega arith; pastes = m; hashes = following }
    ] refl
  ] refl
    where
      following : HashesStand ts
      following = hashes_behind (is_function_like kind) (is_hash t && not (begins_with_parameter kind ts)) (misplaces_hash kind ts) s

  first : (t : Token) (ts : List Token) → misplaces_paste true (t ∷ ts) ≡ false → HashesStand (t ∷ ts) → First (t ∷ ts)
  first t ts m s = elim (is_paste t) as (λ b. is_paste t ≡ b → (if b then (true || (is_empty ts || misplaces_paste true ts)) else misplaces_paste false ts) ≡ false → First (t ∷ ts)) [
    | true ↦ λ _ m. absurd (true≢false m)
    | false ↦ λ p m. first_by t ts p m s
  ] refl m

  abbrev Laid : List Token → Type 0
  Laid ts = (cs : List Chain) × AreChains kind ts cs

  abbrev Lays : ℕ → Type 0
  Lays n = (ts : List Token) → length ts < n → misplaces_paste true ts ≡ false → HashesStand ts → Laid ts

  -- An operand and `##` before chains extend the first chain.
  paste_before : {space : Bool} {o : Operand} (front : List Token) (p : Token)
      → IsOperand kind space front o
      → is_paste p ≡ true
      → {ts : List Token} {cs : List Chain}
      → AreChains kind ts cs
      → is_empty ts ≡ false
      → Laid (front ++ p ∷ ts)
  paste_before front p is e none filled = absurd (true≢false filled)
  paste_before {space = space} {o = o} front p is e (chain {space = other} {os = os} {cs = cs} ts rest j more) filled = (
    ended (record { space = space; operands = o ∷ os }) ∷ cs,
    subst (λ xs. AreChains kind xs (ended (record { space = space; operands = o ∷ os }) ∷ cs)) (append_assoc front (p ∷ ts) rest)
        (chain (front ++ p ∷ ts) rest (pasted front p ts other is e j) more),
  )

  operand_before : {space : Bool} {o : Operand} (front rest : List Token) → IsOperand kind space front o → Laid rest → Laid (front ++ rest)
  operand_before {space = space} {o = o} front rest is m = (ended (record { space = space; operands = o ∷ [] }) ∷ m.0, chain front rest (last is) m.1)

  lay_behind : {space : Bool} {o : Operand} (front rest : List Token) → IsOperand kind space front o → Lays (suc (length rest)) → misplaces_paste false rest ≡ false → HashesStand rest → Laid (front ++ rest)
  lay_behind front [] is on m s = operand_before front [] is ([], none)
  lay_behind front (p ∷ more) is on m s = elim (is_paste p) as (λ b. is_paste p ≡ b → (if b then (false || (is_empty more || misplaces_paste true more)) else misplaces_paste false more) ≡ false → Laid (front ++ p ∷ more)) [
    | true ↦ λ e m.
        let parts : (is_empty more ≡ false) × (misplaces_paste true more ≡ false) = or_parts (is_empty more) (misplaces_paste true more) m in
        let l : Laid more = on more (omega arith) parts.1 (hashes_behind (is_function_like kind) (is_hash p && not (begins_with_parameter kind more)) (misplaces_hash kind more) s) in
        paste_before front p is e l.1 parts.0
    | false ↦ λ e m.
        let stands : misplaces_paste true (p ∷ more) ≡ false = rw e m in
        operand_before front (p ∷ more) is (on (p ∷ more) (omega arith) stands s)
  ] refl m

  lay : (n : ℕ) → Lays n
  lay zero ts short m s = absurd (omega arith)
  lay (suc n) [] short m s = ([], none)
  lay (suc n) (t ∷ ts) short m s =
      let f : First (t ∷ ts) = first t ts m s in
      let less : length f.rest < length (t ∷ ts) = f.less in
      subst Laid (sym f.laid_out) (lay_behind f.front f.rest f.is (λ us short' m' s'. lay n us (omega arith) m' s') f.pastes f.hashes)

pub lays_out : (d : Macro) → has_valid_operators d ≡ true → AreChains d.kind d.body (chains_of d)
lays_out d e =
    let parts = and_parts (not (misplaces_paste true d.body)) (not (is_function_like d.kind && misplaces_hash d.kind d.body)) e in
    let l : Laid d.kind d.body = lay d.kind (suc (length d.body)) d.body (omega arith) (not-true _ parts.0) (not-true _ parts.1) in
    subst (AreChains d.kind d.body) (sym (laid d.kind l.1)) l.1

pub only_chains : (d : Macro) (cs : List Chain) → AreChains d.kind d.body cs → chains_of d ≡ cs
only_chains d cs l = laid d.kind l
