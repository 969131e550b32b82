-- Lists of entries by the parameters that their tokens name.
use Rattle.std.proofs.Common.{◌≡◌, not, ℕ, zero, suc, ◌<◌, Bool, true, false, List, [], ◌∷◌, map, length, get_or, slice_get, unwrap_or, refl, ap, Option, Some, None, arith}
use Rattle.pptext.specs.declared.tokens.Token.{Token}
use Rattle.ppmacro.specs.declared.macros.MacroKind.{MacroKind}
use Rattle.ppmacro.specs.declared.macros.MacroKind.TheVariants.{Predefined, ObjectLike, FunctionLike, Counter}
use Rattle.ppmacro.specs.PasteFree.{is_object_like, lone_chain}
use Rattle.ppmacro.specs.declared.patterns.Entry.{Entry}
use Rattle.ppmacro.specs.Chains.{is_function_like, parameter_names, parameter_of}
use Rattle.ppmacro.specs.Entries.{entry_at, entry_of, entries_at, entry_chain}
use Rattle.ppmacro.specs.PreExpansion.{lone_parameter, lone_parameters}
use Rattle.ppmacro.specs.declared.kept_chains.KeptChain.{KeptChain}
use Rattle.ppmacro.specs.code.KeptChains.{chains_at, lone_parameter_at}

-- Each token is an entry.
pub count-entries : (us : List (Option ℕ)) (ts : List Token) → length (entries_at us ts) ≡ length ts
count-entries [] [] = refl
count-entries [] (t ∷ ts) = ap suc (count-entries [] ts)
count-entries (u ∷ us) [] = refl
count-entries (u ∷ us) (t ∷ ts) = ap suc (count-entries us ts)

pub entry-at : (us : List (Option ℕ)) (ts : List Token) (i : ℕ) (t : Token) (e : Entry) → i < length ts
    → entry_at (unwrap_or (slice_get us i) None) (get_or ts i t) ≡ get_or (entries_at us ts) i e
entry-at us [] i t e below = absurd (omega (arith, below))
entry-at [] (v ∷ vs) zero t e below = refl
entry-at [] (v ∷ vs) (suc i) t e below = entry-at [] vs i t e (omega (arith, below))
entry-at (w ∷ ws) (v ∷ vs) zero t e below = refl
entry-at (w ∷ ws) (v ∷ vs) (suc i) t e below = entry-at ws vs i t e (omega (arith, below))

pub entries-of : (kind : MacroKind) (ts : List Token) → entries_at (map (parameter_of kind) ts) ts ≡ map (entry_of kind) ts
entries-of kind [] = refl
entries-of kind (t ∷ ts) = ap (λ es. entry_of kind t ∷ es) (entries-of kind ts)

-- If no token names a parameter, each is a chain of its own.
pub entries-alone : (ts : List Token) → map entry_chain (entries_at [] ts) ≡ map lone_chain ts
entries-alone [] = refl
entries-alone (t ∷ ts) = ap (λ cs. lone_chain t ∷ cs) (entries-alone ts)

-- The chain of an entry is the parameter that its token names, alone.
entry-alone : (u : Option ℕ) (t : Token) → u ≡ lone_parameter (entry_chain (entry_at u t)).operands
entry-alone None t = refl
entry-alone (Some j) t = refl

pub uses-alone : (kind : MacroKind) (ts : List Token) → map (parameter_of kind) ts ≡ lone_parameters (map entry_chain (map (entry_of kind) ts))
uses-alone kind [] = refl
uses-alone kind (t ∷ ts) = λ j. entry-alone (parameter_of kind t) t j ∷ uses-alone kind ts j

pub chains-alone : (body : List Token) (cs : List KeptChain) → map (lone_parameter_at body) cs ≡ lone_parameters (chains_at body cs)
chains-alone body [] = refl
chains-alone body (c ∷ cs) = ap (λ us. lone_parameter_at body c ∷ us) (chains-alone body cs)

pub not-object : (kind : MacroKind) → is_function_like kind ≡ true → is_object_like kind ≡ false
not-object (Predefined b) is = refl
not-object Counter is = refl
not-object ObjectLike is = absurd (cc is)
not-object (FunctionLike names variadic) is = refl

pub no-names : (kind : MacroKind) → is_function_like kind ≡ false → length (parameter_names kind) ≡ 0
no-names (Predefined b) is = refl
no-names Counter is = refl
no-names ObjectLike is = refl
no-names (FunctionLike names variadic) is = absurd (cc is)

pub not-true : (b : Bool) → not b ≡ true → b ≡ false
not-true true is = absurd (cc is)
not-true false is = refl
