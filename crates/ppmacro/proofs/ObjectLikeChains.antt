-- Chains of one token, as in an object-like macro without `##`.
use Rattle.std.proofs.Common.{◌≡◌, Bool, true, false, List, [], ◌∷◌, map, refl, ap, ◌∙◌, Option, Some, None, Ok, if◌then◌else◌, ℕ}
use Rattle.std.specs.List.{list_any}
use Rattle.std.proofs.lemmas.Bool.{false≢true, or_parts}
use Rattle.std.proofs.lemmas.List.{map-id}
use Rattle.pptext.specs.declared.tokens.Token.{Token}
use Rattle.pptext.specs.declared.tokens.Place.{Place}
use Rattle.pptext.specs.Tokens.{is_identifier}
use Rattle.ppmacro.specs.Names.{HideSet}
use Rattle.ppmacro.specs.HashOperators.{is_paste}
use Rattle.ppmacro.specs.declared.macros.MacroKind.{MacroKind}
use Rattle.ppmacro.specs.declared.macros.MacroKind.TheVariants.{Predefined, ObjectLike, FunctionLike, Counter}
use Rattle.ppmacro.specs.declared.macros.Operand.TheVariants.{Tok}
use Rattle.ppmacro.specs.Chains.{ChainPart, HashSign, OperandPart, parts_at, parts_after, plain_part, stringized_part, parameter_of, is_function_like, is_operator_hash, begins_joined, group_parts, hash_sign, with_variadic, chains_of}
use Rattle.ppmacro.specs.declared.macros.PredefinedMacro.{PredefinedMacro}
use Rattle.ppmacro.specs.PasteFree.{is_object_like, lone_chain}
use Rattle.ppmacro.specs.Substitution.{Arguments, unhidden, with_space, hsadd, chains_tokens, chains_replacement}
use Rattle.ppmacro.proofs.ChainLemmas.{group_parts-alone}

-- ---- the chains

-- In an object-like macro, no token names a parameter.
unnamed : (t : Token) → parameter_of ObjectLike t ≡ None
unnamed t = elim (is_identifier t) as (λ b. if◌then◌else◌ {A = Option ℕ} b None None ≡ None) [ true ↦ refl | false ↦ refl ]

-- The parts after a token that is taken for a `#`. An object-like macro never uses them.
abbrev after_hash : Token → List Token → List ChainPart
after_hash t ts = parts_after ObjectLike (Some (hash_sign t)) ts

one_item : (t : Token) (ts : List Token) → is_paste t ≡ false → parts_after ObjectLike None (t ∷ ts) ≡ OperandPart t.space (Tok t) ∷ parts_after ObjectLike None ts
one_item t ts h =
    (λ i. parts_at (h i) false (plain_part (parameter_of ObjectLike t) t) (parts_after ObjectLike None ts) (after_hash t ts))
    ∙ (λ i. plain_part (unnamed t i) t ∷ parts_after ObjectLike None ts)

unjoined : (ts : List Token) → list_any is_paste ts ≡ false → begins_joined (parts_after ObjectLike None ts) ≡ false
unjoined [] a = refl
unjoined (t ∷ ts) a = ap begins_joined (one_item t ts (or_parts (is_paste t) (list_any is_paste ts) a).0)

all_alone : (ts : List Token) → list_any is_paste ts ≡ false → group_parts (parts_after ObjectLike None ts) ≡ map lone_chain ts
all_alone [] a = refl
all_alone (t ∷ ts) a =
    let none = or_parts (is_paste t) (list_any is_paste ts) a in
    ap group_parts (one_item t ts none.0)
    ∙ group_parts-alone t.space (Tok t) (parts_after ObjectLike None ts) (unjoined ts none.1)
    ∙ ap (λ cs. lone_chain t ∷ cs) (all_alone ts none.1)

pub lone_chains : (ts : List Token) → list_any is_paste ts ≡ false → map (with_variadic None) (group_parts (parts_after ObjectLike None ts)) ≡ map lone_chain ts
lone_chains ts a = map-id (group_parts (parts_after ObjectLike None ts)) ∙ all_alone ts a

-- A predefined macro has no parameters, either.
same_parts : (p : PredefinedMacro) (hash : Option HashSign) (ts : List Token) → parts_after (Predefined p) hash ts ≡ parts_after ObjectLike hash ts
same_parts p hash [] = refl
same_parts p (Some hash) (t ∷ ts) = ap (λ is. stringized_part (parameter_of ObjectLike t) hash t ∷ is) (same_parts p None ts)
same_parts p None (t ∷ ts) =
    λ i. parts_at (is_paste t) (is_operator_hash ObjectLike t) (plain_part (parameter_of ObjectLike t) t) (same_parts p None ts i) (same_parts p (Some (hash_sign t)) ts i)

counter_parts : (hash : Option HashSign) (ts : List Token) → parts_after Counter hash ts ≡ parts_after ObjectLike hash ts
counter_parts hash [] = refl
counter_parts (Some hash) (t ∷ ts) = ap (λ is. stringized_part (parameter_of ObjectLike t) hash t ∷ is) (counter_parts None ts)
counter_parts None (t ∷ ts) =
    λ i. parts_at (is_paste t) (is_operator_hash ObjectLike t) (plain_part (parameter_of ObjectLike t) t) (counter_parts None ts i) (counter_parts (Some (hash_sign t)) ts i)

pub chains-alone : (kind : MacroKind) (ts : List Token) → is_function_like kind ≡ false → list_any is_paste ts ≡ false
    → chains_of (record { kind = kind; body = ts }) ≡ map lone_chain ts
chains-alone ObjectLike ts n a = lone_chains ts a
chains-alone (Predefined p) ts n a = ap (λ is. map (with_variadic None) (group_parts is)) (same_parts p None ts) ∙ lone_chains ts a
chains-alone Counter ts n a = ap (λ is. map (with_variadic None) (group_parts is)) (counter_parts None ts) ∙ lone_chains ts a
chains-alone (FunctionLike parameters variadic) ts n a = absurd (cc n)

-- ---- the tokens of the chains

others : (args : Arguments) (used : Place) (ts : List Token) → chains_tokens args used false false (map lone_chain ts) ≡ Ok (record { tokens = map unhidden ts; pending = false })
others args used [] = refl
others args used (t ∷ ts) = rw (others args used ts) refl

marked_first : (args : Arguments) (used : Place) (space : Bool) (t : Token) (ts : List Token)
    → chains_tokens args used space true (map lone_chain (t ∷ ts)) ≡ Ok (record { tokens = with_space space (unhidden t) ∷ map unhidden ts; pending = false })
marked_first args used true t ts = rw (others args used ts) refl
marked_first args used false t ts = rw (others args used ts) refl

gained_each : (added : HideSet) (used : Place) (ts : List Token) → map (hsadd added used) (map unhidden ts) ≡ map (λ t. hsadd added used (unhidden t)) ts
gained_each added used [] = refl
gained_each added used (t ∷ ts) = ap (λ hs. hsadd added used (unhidden t) ∷ hs) (gained_each added used ts)

pub lone_substituted : (args : Arguments) (added : HideSet) (used : Place) (space : Bool) (t : Token) (ts : List Token)
    → chains_replacement (map lone_chain (t ∷ ts)) args added used space
    ≡ Ok (record { tokens = hsadd added used (with_space space (unhidden t)) ∷ map (λ t. hsadd added used (unhidden t)) ts; pending = false })
lone_substituted args added used space t ts =
    rw (marked_first args used space t ts) (λ i. Ok (record { tokens = hsadd added used (with_space space (unhidden t)) ∷ gained_each added used ts i; pending = false }))

-- ---- the macro kind

pub object_like : (s : MacroKind) → is_object_like s ≡ true → s ≡ ObjectLike
object_like ObjectLike e = refl
object_like (Predefined predefined) e = absurd (false≢true e)
object_like Counter e = absurd (false≢true e)
object_like (FunctionLike parameters variadic) e = absurd (false≢true e)
