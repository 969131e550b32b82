-- A replacement list that splits into chains has valid operators.
use Rattle.std.proofs.Common.{◌≡◌, Bool, true, false, not, ◌&&◌, ◌||◌, List, ◌∷◌, ◌++◌, is_some, codes, refl, ap, ◌∙◌, subst, true≢false, append_assoc}
use Rattle.std.proofs.Common.{◌↔◌, sym}
use Rattle.pptext.specs.declared.tokens.Token.{Token}
use Rattle.pptext.specs.Tokens.{is_punct}
use Rattle.ppmacro.specs.HashOperators.{is_hash, is_paste}
use Rattle.ppmacro.specs.Chains.{parameter_of, is_function_like, is_operator_hash, chains_of}
use Rattle.ppmacro.specs.Define.{is_empty, misplaces_paste, begins_with_parameter, misplaces_hash}
use Rattle.ppmacro.specs.Laws.{IsOperand, token, parameter, stringized, AreJoined, last, pasted, AreChains, none, chain, has_valid_operators}
use Rattle.ppmacro.specs.declared.macros.MacroKind.{MacroKind}
use Rattle.ppmacro.specs.declared.macros.Macro.{Macro}
use Rattle.ppmacro.specs.declared.macros.Chain.{Chain}
use Rattle.ppmacro.specs.declared.macros.Operand.{Operand}
use Rattle.ppmacro.proofs.ParameterListSyntax.{other_punct}
use Rattle.ppmacro.proofs.ChainSplits.{parameter_no_paste, parameter_no_hash, hash_no_paste, lays_out}

paste_no_hash : (t : Token) → is_paste t ≡ true → is_hash t ≡ false
paste_no_hash t e = by_spelling (is_punct (codes "##") t) refl e
  where
    by_spelling : (b : Bool) → is_punct (codes "##") t ≡ b → (b || is_punct (codes "%:%:") t) ≡ true → is_hash t ≡ false
    by_spelling true s h = rw (other_punct (codes "##") (codes "#") t refl s, other_punct (codes "##") (codes "%:") t refl s) refl
    by_spelling false s h = rw (other_punct (codes "%:%:") (codes "#") t refl h, other_punct (codes "%:%:") (codes "%:") t refl h) refl

-- ---- `##`

after_no_paste : (b : Bool) (t : Token) (rest : List Token) → is_paste t ≡ false → misplaces_paste b (t ∷ rest) ≡ misplaces_paste false rest
after_no_paste b t rest e = rw e refl

after_paste : (p : Token) (rest : List Token) → is_paste p ≡ true → is_empty rest ≡ false → misplaces_paste false (p ∷ rest) ≡ misplaces_paste true rest
after_paste p rest e filled = rw (e, filled) refl

-- ---- `#`

no_hash : (f h b m : Bool) → (f && h) ≡ false → (f && m) ≡ false → (f && ((h && b) || m)) ≡ false
no_hash false h b m e g = refl
no_hash true true b m e g = absurd (true≢false e)
no_hash true false b m e g = g

before_parameter : (f h m : Bool) → (f && m) ≡ false → (f && ((h && not true) || m)) ≡ false
before_parameter false h m g = refl
before_parameter true true m g = g
before_parameter true false m g = g

module _ (kind : MacroKind) where
  operand_pastes : {space : Bool} {ts : List Token} {o : Operand} → IsOperand kind space ts o → (b : Bool) (rest : List Token) → misplaces_paste b (ts ++ rest) ≡ misplaces_paste false rest
  operand_pastes (token {t = t} p h e) b rest = after_no_paste b t rest p
  operand_pastes (parameter {t = t} {i = i} e) b rest = after_no_paste b t rest (parameter_no_paste kind t i e)
  operand_pastes (stringized {hash = hash} {t = t} {i = i} h e) b rest =
      after_no_paste b hash (t ∷ rest) (hash_no_paste kind hash h) ∙ after_no_paste false t rest (parameter_no_paste kind t i e)

  operand_filled : {space : Bool} {ts : List Token} {o : Operand} → IsOperand kind space ts o → (rest : List Token) → is_empty (ts ++ rest) ≡ false
  operand_filled (token p h e) rest = refl
  operand_filled (parameter e) rest = refl
  operand_filled (stringized h e) rest = refl

  joined_filled : {space : Bool} {ts : List Token} {os : List Operand} → AreJoined kind space ts os → (rest : List Token) → is_empty (ts ++ rest) ≡ false
  joined_filled (last o) rest = operand_filled o rest
  joined_filled (pasted ts p more other o e j) rest = ap is_empty (append_assoc ts (p ∷ more) rest) ∙ operand_filled o (p ∷ (more ++ rest))

  joined_pastes : {space : Bool} {ts : List Token} {os : List Operand} → AreJoined kind space ts os → (b : Bool) (rest : List Token) → misplaces_paste b (ts ++ rest) ≡ misplaces_paste false rest
  joined_pastes (last o) b rest = operand_pastes o b rest
  joined_pastes (pasted ts p more other o e j) b rest =
      ap (misplaces_paste b) (append_assoc ts (p ∷ more) rest)
      ∙ operand_pastes o b (p ∷ (more ++ rest))
      ∙ after_paste p (more ++ rest) e (joined_filled j rest)
      ∙ joined_pastes j true rest

  chains_paste : {ts : List Token} {cs : List Chain} → AreChains kind ts cs → (b : Bool) → misplaces_paste b ts ≡ false
  chains_paste none b = refl
  chains_paste (chain ts rest j more) b = joined_pastes j b rest ∙ chains_paste more false

  abbrev HashesStand : List Token → Type 0
  HashesStand ts = (is_function_like kind && misplaces_hash kind ts) ≡ false

  free_before : (t : Token) (rest : List Token) → is_operator_hash kind t ≡ false → HashesStand rest → HashesStand (t ∷ rest)
  free_before t rest e h = no_hash (is_function_like kind) (is_hash t) (not (begins_with_parameter kind rest)) (misplaces_hash kind rest) e h

  hash_before : (hash t : Token) (rest : List Token) → is_some (parameter_of kind t) ≡ true → HashesStand (t ∷ rest) → HashesStand (hash ∷ (t ∷ rest))
  hash_before hash t rest e h =
      subst (λ b. (is_function_like kind && ((is_hash hash && not b) || misplaces_hash kind (t ∷ rest))) ≡ false) (sym e)
      (before_parameter (is_function_like kind) (is_hash hash) (misplaces_hash kind (t ∷ rest)) h)

  operand_hashes : {space : Bool} {ts : List Token} {o : Operand} → IsOperand kind space ts o → (rest : List Token) → HashesStand rest → HashesStand (ts ++ rest)
  operand_hashes (token {t = t} p h e) rest s = free_before t rest h s
  operand_hashes (parameter {t = t} {i = i} e) rest s = free_before t rest (parameter_no_hash kind t i e) s
  operand_hashes (stringized {hash = hash} {t = t} {i = i} h e) rest s = hash_before hash t rest (ap is_some e) (free_before t rest (parameter_no_hash kind t i e) s)

  paste_free : (p : Token) → is_paste p ≡ true → is_operator_hash kind p ≡ false
  paste_free p e = by_shape (is_function_like kind) (is_hash p) (paste_no_hash p e)
    where
      by_shape : (f h : Bool) → h ≡ false → (f && h) ≡ false
      by_shape true h e = e
      by_shape false h e = refl

  joined_hashes : {space : Bool} {ts : List Token} {os : List Operand} → AreJoined kind space ts os → (rest : List Token) → HashesStand rest → HashesStand (ts ++ rest)
  joined_hashes (last o) rest s = operand_hashes o rest s
  joined_hashes (pasted ts p more other o e j) rest s =
      subst HashesStand (sym (append_assoc ts (p ∷ more) rest)) (operand_hashes o (p ∷ (more ++ rest)) (free_before p (more ++ rest) (paste_free p e) (joined_hashes j rest s)))

  nothing_stands : (f : Bool) → (f && false) ≡ false
  nothing_stands true = refl
  nothing_stands false = refl

  chains_hash : {ts : List Token} {cs : List Chain} → AreChains kind ts cs → HashesStand ts
  chains_hash none = nothing_stands (is_function_like kind)
  chains_hash (chain ts rest j more) = joined_hashes j rest (chains_hash more)

pub in_place : (d : Macro) (cs : List Chain) → AreChains d.kind d.body cs → has_valid_operators d ≡ true
in_place d cs l = ap (λ b. not b && not (is_function_like d.kind && misplaces_hash d.kind d.body)) (chains_paste d.kind l true) ∙ ap not (chains_hash d.kind l)

pub exactly : (d : Macro) → (has_valid_operators d ≡ true) ↔ ((cs : List Chain) × AreChains d.kind d.body cs)
exactly d = (λ e. (chains_of d, lays_out d e), λ l. in_place d l.0 l.1)
